use native.Mathlib.Omega.{arith}
use Rattle.writing_texts.proofs.Told.{short_writes, full_writes, and_demand}
use lib.Seq.{length-take-le}
use mathlib.Core.Path.{sym}
use Rattle.writing_texts.proofs.write.Goals as goal

pub returns-then-expanded-lt-LONGEST : goal.returns-then-expanded-lt-LONGEST
returns-then-expanded-lt-LONGEST c = record { writes = short_writes (λ f. let h = f.bytes in omega arith) c.refusal.ensures; demand_3 = (and_demand {o = c.args.out.now} (short_writes (λ f. let h = f.bytes in omega arith) c.refusal.ensures)).1 }

pub returns-then-origins-lt-LONGEST : goal.returns-then-origins-lt-LONGEST
returns-then-origins-lt-LONGEST c = record { writes = short_writes (λ f. let h = f.origins in omega arith) c.refusal-then-origins-lt-LONGEST.ensures; demand_3 = (and_demand {o = c.args.out.now} (short_writes (λ f. let h = f.origins in omega arith) c.refusal-then-origins-lt-LONGEST.ensures)).1 }

pub returns-then-definitions-lt-LENT : goal.returns-then-definitions-lt-LENT
returns-then-definitions-lt-LENT c = record { writes = short_writes (λ f. let h = f.tables.definitions in omega arith) c.refusal-then-definitions-lt-LENT.ensures; demand_3 = (and_demand {o = c.args.out.now} (short_writes (λ f. let h = f.tables.definitions in omega arith) c.refusal-then-definitions-lt-LENT.ensures)).1 }

pub returns-then-enumerators-lt-LENT : goal.returns-then-enumerators-lt-LENT
returns-then-enumerators-lt-LENT c = record { writes = short_writes (λ f. let h = f.tables.enumerators in omega arith) c.refusal-then-enumerators-lt-LENT.ensures; demand_3 = (and_demand {o = c.args.out.now} (short_writes (λ f. let h = f.tables.enumerators in omega arith) c.refusal-then-enumerators-lt-LENT.ensures)).1 }

pub returns-then-objects-lt-LENT : goal.returns-then-objects-lt-LENT
returns-then-objects-lt-LENT c = record { writes = short_writes (λ f. let h = f.tables.objects in omega arith) c.refusal-then-objects-lt-LENT.ensures; demand_3 = (and_demand {o = c.args.out.now} (short_writes (λ f. let h = f.tables.objects in omega arith) c.refusal-then-objects-lt-LENT.ensures)).1 }

pub returns-then-values-lt-LENT : goal.returns-then-values-lt-LENT
returns-then-values-lt-LENT c = record { writes = short_writes (λ f. let h = f.tables.values in omega arith) c.refusal-then-values-lt-LENT.ensures; demand_3 = (and_demand {o = c.args.out.now} (short_writes (λ f. let h = f.tables.values in omega arith) c.refusal-then-values-lt-LENT.ensures)).1 }

pub slice_bounds-fill-end-2 : goal.slice_bounds-fill-end-2
slice_bounds-fill-end-2 c = sym (length-take-le 6656 c.args.definitions.now (omega arith))

pub slice_bounds-fill-end-4 : goal.slice_bounds-fill-end-4
slice_bounds-fill-end-4 c = sym (length-take-le 3072 c.args.enumerators.now (omega arith))

pub slice_bounds-fill-end-6 : goal.slice_bounds-fill-end-6
slice_bounds-fill-end-6 c = sym (length-take-le 2048 c.args.objects.now (omega arith))

pub slice_bounds-fill-end-8 : goal.slice_bounds-fill-end-8
slice_bounds-fill-end-8 c = sym (length-take-le 18432 c.args.values.now (omega arith))

pub fill-requires : goal.fill-requires
fill-requires c = (omega arith, (omega arith, record { definitions = length-take-le 6656 c.args.definitions.now (omega arith); enumerators = length-take-le 3072 c.args.enumerators.now (omega arith); objects = length-take-le 2048 c.args.objects.now (omega arith); values = length-take-le 18432 c.args.values.now (omega arith) }))

pub returns : goal.returns
returns c = record { writes = full_writes (record { bytes = omega arith; origins = omega arith; tables = record { definitions = omega arith; enumerators = omega arith; objects = omega arith; values = omega arith } }) c.fill.ensures; demand_3 = (and_demand {o = c.args.out.now} (full_writes (record { bytes = omega arith; origins = omega arith; tables = record { definitions = omega arith; enumerators = omega arith; objects = omega arith; values = omega arith } }) c.fill.ensures)).1 }
