-- Texts with lists of masks, by computation. Assumes nothing.
use mathlib.Core.Path.{◌≡◌, refl}
use mathlib.Core.List.{[], ◌∷◌}
use Rattle.token.specs.Words.{bytes_of}
use Rattle.meaning.proofs.Everything.{everything}
use Rattle.masks.specs.Bits.{has, some_below, single, common}
use Rattle.masks.specs.Masks.{meets, beside, keeps, breaking, before_plan, taken, lowest, plan_from, plan}
use Rattle.masks.specs.Events.{is_uint64, is_mask, has_mask, plannable, events, mask_by, mask_in, masks_in, masks_of, leads, refers, rows_of, tasks_in, tasks_of}
use Rattle.masks.specs.Results.{named_first, check_file, check_answered, check_parsed, check, left, made, plan_file, answered, plan_answered, plan_parsed, plan_text}
use Rattle.std.specs.Prelude.{Ok}
use Rattle.rows.specs.Refusing.{refusing}
use Rattle.masks.specs.declared.Checked.TheVariants as c
use Rattle.masks.specs.declared.Planned.TheVariants as p

unfoldable all : Unit {0}
unfolding everything has some_below single common meets beside keeps breaking before_plan taken lowest plan_from plan is_uint64 is_mask has_mask plannable events mask_by mask_in masks_in masks_of leads refers rows_of tasks_in tasks_of named_first check_file check_answered check_parsed check left made plan_file answered plan_answered plan_parsed plan_text
all = tt

-- The second event keeps not its given mask: it is named by its number among the events.
kept_not : check (bytes_of "OIL_VERSION=\"2.5\";IMPLEMENTATION m{EVENT{UINT64 MASK=7;};};CPU c{OS o;APPMODE a;EVENT e;EVENT f;};") (7 ∷ 6 ∷ []) ≡ Ok (c.Breaks 1)
unfolding all
kept_not = refl

-- Another event's listed mask is itself wrong: the AUTO event before it is named.
judged_by_listed : check (bytes_of "OIL_VERSION=\"2.5\";IMPLEMENTATION m{EVENT{UINT64 WITH_AUTO MASK=AUTO;};TASK{EVENT_TYPE E[];};};CPU c{OS o;APPMODE a;EVENT e;EVENT f{MASK=4;};TASK t{E=e;E=f;};};") (1 ∷ 1 ∷ []) ≡ Ok (c.Breaks 0)
unfolding all
judged_by_listed = refl

not_plannable : plan_text (bytes_of "OIL_VERSION=\"2.5\";IMPLEMENTATION m{};CPU c{OS o;APPMODE a;};") [] ≡ record { result = Ok p.NotPlannable; list = [] }
unfolding all
not_plannable = refl

-- Three events, the first and the last AUTO, the middle given as 1; one task has all three, nested too. The last entry stays.
plans : plan_text (bytes_of "OIL_VERSION=\"2.5\";IMPLEMENTATION m{EVENT{UINT64 WITH_AUTO MASK=AUTO;};TASK{BOOLEAN[TRUE{EVENT_TYPE E[];},FALSE]B=FALSE;EVENT_TYPE G;};};CPU c{OS o;APPMODE a;EVENT e;EVENT f{MASK=1;};TASK t{G=e;B=TRUE{E=f;E=g;};};EVENT g;};") (9 ∷ 9 ∷ 9 ∷ 9 ∷ []) ≡ record { result = Ok (p.Made 3); list = 2 ∷ 1 ∷ 4 ∷ 9 ∷ [] }
unfolding all
plans = refl

-- All 64 bits are taken for the second event.
all_taken : plan_text (bytes_of "OIL_VERSION=\"2.5\";IMPLEMENTATION m{EVENT{UINT64 WITH_AUTO MASK=18446744073709551615;};TASK{EVENT_TYPE E[];};};CPU c{OS o;APPMODE a;EVENT e;EVENT f{MASK=AUTO;};TASK t{E=f;E=e;};};") (3 ∷ 3 ∷ []) ≡ record { result = Ok (p.Full 1); list = 3 ∷ 3 ∷ [] }
unfolding all
all_taken = refl

too_short : plan_text (bytes_of "OIL_VERSION=\"2.5\";IMPLEMENTATION m{EVENT{UINT64 MASK=7;};};CPU c{OS o;APPMODE a;EVENT e;EVENT f;};") (3 ∷ []) ≡ record { result = Ok p.WrongLength; list = 3 ∷ [] }
unfolding all
too_short = refl

refuses : check (bytes_of "OIL_VERSION=\"2.5\";IMPLEMENTATION m{};CPU c{};") [] ≡ refusing 17 41
unfolding all
refuses = refl

-- An AUTO mask of two bits.
two_bits : check (bytes_of "OIL_VERSION=\"2.5\";IMPLEMENTATION m{EVENT{UINT64 WITH_AUTO MASK=AUTO;};TASK{EVENT_TYPE E[];};ISR{EVENT_TYPE E[];};};CPU c{OS o;APPMODE a;EVENT e;EVENT f;TASK t{E=e;};};") (1 ∷ 3 ∷ []) ≡ Ok (c.Breaks 1)
unfolding all
two_bits = refl

-- Events of no same task may share a bit; an ISR makes no task's events.
no_same_task : check (bytes_of "OIL_VERSION=\"2.5\";IMPLEMENTATION m{EVENT{UINT64 WITH_AUTO MASK=AUTO;};TASK{EVENT_TYPE E[];};ISR{EVENT_TYPE E[];};};CPU c{OS o;APPMODE a;EVENT e;EVENT f;TASK t{E=e;};TASK u{E=f;};ISR i{E=e;E=f;};};") (1 ∷ 1 ∷ []) ≡ Ok c.Accepted
unfolding all
no_same_task = refl

-- "one mask for each event".
one_each : check (bytes_of "OIL_VERSION=\"2.5\";IMPLEMENTATION m{EVENT{UINT64 WITH_AUTO MASK=AUTO;};TASK{EVENT_TYPE E[];};ISR{EVENT_TYPE E[];};};CPU c{OS o;APPMODE a;EVENT e;EVENT f;};") (1 ∷ []) ≡ Ok c.WrongLength
unfolding all
one_each = refl

-- The MASK under an enumerator named EVENT is not that of "EVENT itself".
event_itself : check (bytes_of "OIL_VERSION=\"2.5\";IMPLEMENTATION m{EVENT{ENUM[EVENT{UINT64 MASK=1;}]K=EVENT;};};CPU c{OS o;APPMODE a;};") [] ≡ Ok c.NotPlannable
unfolding all
event_itself = refl
