-- The answer to lent texts is the reading of the expanded text, with its refusal 3 renumbered. Assumes nothing.
use mathlib.Core.Path.{◌≡◌, refl, sym, ◌∙◌, ap}
use mathlib.Core.Bool.{Bool, true, false}
use mathlib.Core.List.{List, [], ◌∷◌}
use mathlib.Core.Logic.{◌⊎◌, ⊎_elim}
use Rattle.token.specs.Lexing.{lex_from}
use mathlib.Core.Option.{Option, none, some}
use Prim.Native.Nat.{ℕ, ◌<◌}
use native.Mathlib.Omega.{arith}
use lib.Dec.{ltb, eqb}
use borrow.Author.Tests.{ne_eqb, eqb-true}
use Rattle.token.specs.Find.{pick}
use Rattle.meaning.specs.Syntax.{File}
use Rattle.meaning.specs.Words.{choose}
use Rattle.meaning.specs.Faults.{Fault, first}
use Rattle.meaning.specs.Defining.{definition_faults}
use Rattle.meaning.specs.Applying.{object_faults}
use Rattle.meaning.specs.Judging.{statement_stage}
use Rattle.meaning.specs.Resolving.{all_values, how_many_in_all, too_many}
use Rattle.meaning.specs.Answers.{Answer, accepted, refused, unless, answer}
use Rattle.meaning.specs.Reading.{Parsed, parsed, not_parsed, parse, answer_of_parsed, reading}
use Rattle.meaning.proofs.Numbered.{Numbered, no_fault, a_fault, NumberedOne, of_definitions, of_objects, of_stage, of_first}
use Rattle.sources.specs.Expanding.{expanded, expansion_of}
use Rattle.sources_reading.specs.Answering.{text, numbered, parse_if, sources_parse, sources_answer, renumbered}
use Rattle.sources_reading.proofs.Answered.{within, to_wholly, lexed, is_given}
use Rattle.sources_reading.proofs.Alone.{numbered_none}

-- no refusal behind the grammar stage is 3
abbrev Later : Answer → Type 0
Later (accepted t) = Unit {0}
Later (refused n p) = 5 < n

later_unless : (o : Option Fault) (next : Unit {0} → Answer) → NumberedOne o → Later (next tt) → Later (unless o next)
unfolding unless
later_unless none next h k = k
later_unless (some f) next h k = h

of_many : (n : ℕ) → Numbered (too_many n)
unfolding too_many choose
of_many n = by_choice (ltb 2048 n)
  where
    by_choice : (b : Bool) → Numbered (choose b (λ _. record { place = 0; number = 19 } ∷ []) (λ _. []))
    by_choice true = a_fault {f = record { place = 0; number = 19 }} (omega arith) no_fault
    by_choice false = no_fault

later : (f : File) → Later (answer f)
unfolding answer
later f =
    later_unless (first (definition_faults f)) _ (of_first _ (of_definitions f))
    (later_unless (first (object_faults f)) _ (of_first _ (of_objects f))
    (later_unless (first (statement_stage f)) _ (of_first _ (of_stage f))
    (later_unless (first (too_many (how_many_in_all (all_values f f.objects)))) _ (of_first _ (of_many (how_many_in_all (all_values f f.objects)))) tt)))

unchanged : (n : ℕ) (a : Answer) → Later a → renumbered n a ≡ a
unfolding renumbered
unchanged n (accepted t) h = refl
unchanged n (refused m p) h = ap (λ (b : Bool). refused (pick b n m) p) (ne_eqb m 3 (λ e. omega arith))

by_parse : (n : ℕ) (x : Parsed) → answer_of_parsed (numbered n x) ≡ renumbered n (answer_of_parsed x)
unfolding answer_of_parsed numbered renumbered
by_parse n (parsed f) = sym (unchanged n (answer f) (later f))
by_parse n (not_parsed m p) = refl

-- where the texts are not refused by 30
pub is_renumbered : (b l : List ℕ) → ((expansion_of b l).number ≡ 30 → ⊥) → sources_answer b l ≡ renumbered (expanded b l).number (reading (text b l))
unfolding reading
is_renumbered b l n = is_given b l n ∙ by_parse (expanded b l).number (parse (text b l))

renumbered_three : (a : Answer) → renumbered 3 a ≡ a
unfolding renumbered
renumbered_three (accepted t) = refl
renumbered_three (refused m p) = by (eqb m 3) refl
  where
    by : (t : Bool) → eqb m 3 ≡ t → refused (pick t 3 m) p ≡ refused m p
    by true e = ap (λ (n : ℕ). refused n p) (sym (eqb-true m 3 e))
    by false e = refl

-- where nothing lent gives 27 to 30, it is the reading of the expanded text
pub plain_answer : (b l : List ℕ) → ((expansion_of b l).number ≡ 30 → ⊥) → ((expanded b l).number ≡ 0) ⊎ ((expanded b l).number ≡ 3) →
    sources_answer b l ≡ reading (text b l)
unfolding reading
plain_answer b l n h =
    let w = within b l n in
    ⊎_elim
    (λ z.
    is_given b l n ∙ ap (λ (m : ℕ). answer_of_parsed (numbered m (parse (text b l)))) z
    ∙ ap answer_of_parsed (numbered_none (text b l) w.short (to_wholly (expanded b l).number (expanded b l).place (lex_from (text b l) 0) (lexed b l w.told) z)))
    (λ z. is_renumbered b l n ∙ ap (λ (m : ℕ). renumbered m (reading (text b l))) z ∙ renumbered_three (reading (text b l))) h

-- and 3 may stand for the number of its fault
pub plain_number : (b l : List ℕ) → ((expansion_of b l).number ≡ 30 → ⊥) → ((expanded b l).number ≡ 0) ⊎ ((expanded b l).number ≡ 3) →
    renumbered 3 (reading (text b l)) ≡ renumbered (expanded b l).number (reading (text b l))
plain_number b l n h = renumbered_three (reading (text b l)) ∙ sym (plain_answer b l n h) ∙ is_renumbered b l n
