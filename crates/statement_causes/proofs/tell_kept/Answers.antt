use mathlib.Core.Path.{refl}
use Rattle.statement_causes.proofs.Telling.{tells_kept, kept_few_definitions, kept_few_enumerators, kept_few_objects}
use Rattle.statement_causes.proofs.tell_kept.Goals as goal

pub returns-then-z-gt-MOST : goal.returns-then-z-gt-MOST
returns-then-z-gt-MOST c = kept_few_definitions _ _ _ refl refl refl c.if-z-gt-MOST.true

pub returns-then-z-gt-MOST-2 : goal.returns-then-z-gt-MOST-2
returns-then-z-gt-MOST-2 c = kept_few_enumerators _ _ _ refl refl refl c.if-z-gt-MOST-2.true

pub returns-then-z-gt-MOST-3 : goal.returns-then-z-gt-MOST-3
returns-then-z-gt-MOST-3 c = kept_few_objects _ _ _ refl refl refl c.if-z-gt-MOST-3.true

pub returns : goal.returns
returns c = tells_kept _ _ _ refl refl refl c.tell_rows.ensures
