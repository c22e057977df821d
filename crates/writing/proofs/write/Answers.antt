use Rattle.writing.proofs.Calling.{refused_writes, definitions_long, enumerators_long, objects_long, values_long, definitions_front, enumerators_front, objects_front, values_front, lent_length, accepted_writes}
use Rattle.writing.proofs.ByRules.{and_rules}
use borrow.Author.Rules.{rules}
use Rattle.writing.proofs.write.Goals as goal

pub slice_bounds-put_out-end : goal.slice_bounds-put_out-end
slice_bounds-put_out-end c = definitions_long c.read_spanned-w.ensures.reads c.in-Accepted.is

pub slice_bounds-put_out-end-in-Accepted : goal.slice_bounds-put_out-end-in-Accepted
slice_bounds-put_out-end-in-Accepted c = definitions_front c.read_spanned-w.ensures.reads c.in-Accepted.is

pub slice_bounds-put_out-end-in-Accepted-2 : goal.slice_bounds-put_out-end-in-Accepted-2
slice_bounds-put_out-end-in-Accepted-2 c = enumerators_long c.read_spanned-w.ensures.reads c.in-Accepted.is

pub slice_bounds-put_out-end-in-Accepted-3 : goal.slice_bounds-put_out-end-in-Accepted-3
slice_bounds-put_out-end-in-Accepted-3 c = enumerators_front c.read_spanned-w.ensures.reads c.in-Accepted.is

pub slice_bounds-put_out-end-in-Accepted-4 : goal.slice_bounds-put_out-end-in-Accepted-4
slice_bounds-put_out-end-in-Accepted-4 c = objects_long c.read_spanned-w.ensures.reads c.in-Accepted.is

pub slice_bounds-put_out-end-in-Accepted-5 : goal.slice_bounds-put_out-end-in-Accepted-5
slice_bounds-put_out-end-in-Accepted-5 c = objects_front c.read_spanned-w.ensures.reads c.in-Accepted.is

pub slice_bounds-put_out-end-in-Accepted-6 : goal.slice_bounds-put_out-end-in-Accepted-6
slice_bounds-put_out-end-in-Accepted-6 c = values_long c.read_spanned-w.ensures.reads c.in-Accepted.is

pub slice_bounds-put_out-end-in-Accepted-7 : goal.slice_bounds-put_out-end-in-Accepted-7
slice_bounds-put_out-end-in-Accepted-7 c = values_front c.read_spanned-w.ensures.reads c.in-Accepted.is

pub returns-in-Refused : goal.returns-in-Refused
returns-in-Refused c = record { writes = (and_rules {l = c.args.out.now} (refused_writes c.read_spanned-w.ensures.reads _ _ c.in-Refused.is _)).0; rules = (and_rules {l = c.args.out.now} (refused_writes c.read_spanned-w.ensures.reads _ _ c.in-Refused.is _)).1.0; demand_3 = (and_rules {l = c.args.out.now} (refused_writes c.read_spanned-w.ensures.reads _ _ c.in-Refused.is _)).1.1 }

pub shape_of-definitions-in-Accepted : goal.shape_of-definitions-in-Accepted
shape_of-definitions-in-Accepted c = lent_length 6656 c.args.definitions.now c.read_spanned-w.new.definitions c.put_out.new.d c.put_out.auto.d c.read_spanned-w.auto.definitions

pub shape_of-enumerators-in-Accepted : goal.shape_of-enumerators-in-Accepted
shape_of-enumerators-in-Accepted c = lent_length 3072 c.args.enumerators.now c.read_spanned-w.new.enumerators c.put_out.new.e c.put_out.auto.e c.read_spanned-w.auto.enumerators

pub shape_of-objects-in-Accepted : goal.shape_of-objects-in-Accepted
shape_of-objects-in-Accepted c = lent_length 2048 c.args.objects.now c.read_spanned-w.new.objects c.put_out.new.o c.put_out.auto.o c.read_spanned-w.auto.objects

pub shape_of-values-in-Accepted : goal.shape_of-values-in-Accepted
shape_of-values-in-Accepted c = lent_length 18432 c.args.values.now c.read_spanned-w.new.values c.put_out.new.v c.put_out.auto.v c.read_spanned-w.auto.values

pub returns-in-Accepted : goal.returns-in-Accepted
returns-in-Accepted c = record { writes = (and_rules (accepted_writes c.read_spanned-w.ensures.reads c.in-Accepted.is _ _ _ _ _ _ _ c.put_out.ensures)).0; rules = (and_rules (accepted_writes c.read_spanned-w.ensures.reads c.in-Accepted.is _ _ _ _ _ _ _ c.put_out.ensures)).1.0; demand_3 = (and_rules (accepted_writes c.read_spanned-w.ensures.reads c.in-Accepted.is _ _ _ _ _ _ _ c.put_out.ensures)).1.1 }
