-- From the equations of `write` to the rules themselves, and demand 3. Assumes nothing.
use mathlib.Core.Path.{◌≡◌, refl, sym, ◌∙◌, ap, ap₂, subst}
use mathlib.Core.List.{List}
use mathlib.Core.Bool.{Bool, true, false, false≢true}
use mathlib.Core.Option.{some}
use Prim.Native.Nat.{ℕ}
use native.Mathlib.Omega.{arith}
use lib.ListN.{length}
use lib.Dec.{ltb}
use borrow.Author.Tests.{ltb-true, ltb-false}
use Rattle.token.specs.Find.{pick}
use Rattle.meaning.specs.Words.{choose}
use Rattle.meaning.specs.Answers.{Answer as Meant, Tables, accepted, refused}
use Rattle.meaning.specs.Reading.{reading, normal_text}
use Rattle.meaning.specs.Calls.{enough, too_short, output_asked, call}
use Rattle.meaning.specs.Cells.{rooms_after}
use Rattle.meaning.specs.Rules.{TheAnswer, FullRoom, Untouched, InRooms}
use Rattle.meaning.proofs.Whole.{answers, the_answer, the_normal_text}
use Rattle.reading.specs.Results.{reading_of, rooms_of, table_after}
use Rattle.reading.specs.Demand.{Demand-3}
use Rattle.reading.specs.declared.Answer.TheVariants.{Accepted, Refused}
use Rattle.reading.proofs.ByRules.{full_enough, enough_full}
use Rattle.reading.proofs.Demand.{reading_demand_3}
use Rattle.writing.specs.Results.{written_of, output_after, asked, Writes}
use Rattle.writing.specs.Rules.{WritesByRules, short_tables, refuses, longer, writes}
use Rattle.writing.specs.declared.Written.{Written}

-- Where grammar passes, it passes with refusal 20 too.
still_passes : (s : List ℕ) → Demand-3 s Accepted → Demand-3 s (Refused 20 0)
still_passes s q = record {
  passes_exactly = λ w. ((λ _. (q.passes_exactly w).0 tt), (λ _. omega arith));
  one_derivation = q.one_derivation;
  refusal = λ w k. absurd (k (omega arith));
}

module _ {s d e o v l d' e' o' v' l' : List ℕ} {r : Written} (k : Writes s d e o v l d' e' o' v' l' r) where
  abbrev room : Bool
  room = enough (rooms_of d e o v)

  -- The answer of the call, by the rooms and the reading.
  asked_short : room ≡ false → asked s d e o v l ≡ refused 1 0
  unfolding asked call choose
  asked_short q = ap (λ b. choose b (λ _. output_asked (some (length l)) (normal_text s) (reading s)) (λ _. refused 1 0)) q

  asked_as : room ≡ true → (a : Meant) → reading s ≡ a → asked s d e o v l ≡ output_asked (some (length l)) (normal_text s) a
  unfolding asked call choose
  asked_as q a p =
      ap (λ b. choose b (λ _. output_asked (some (length l)) (normal_text s) (reading s)) (λ _. refused 1 0)) q
      ∙ ap (output_asked (some (length l)) (normal_text s)) p

  -- The tables, the result and the output, where that answer is a.
  module _ (a : Meant) (z : asked s d e o v l ≡ a) where
    in_rooms : room ≡ true → InRooms (rooms_after a) d e o v d' e' o' v'
    unfolding table_after
    in_rooms q = record {
      definitions = k.definitions ∙ ap₂ (λ (b : Bool) (y : Meant). table_after b (rooms_after y).definitions 6656 d) q z;
      enumerators = k.enumerators ∙ ap₂ (λ (b : Bool) (y : Meant). table_after b (rooms_after y).enumerators 3072 e) q z;
      objects = k.objects ∙ ap₂ (λ (b : Bool) (y : Meant). table_after b (rooms_after y).objects 2048 o) q z;
      values = k.values ∙ ap₂ (λ (b : Bool) (y : Meant). table_after b (rooms_after y).values 18432 v) q z;
    }

    untouched : room ≡ false → Untouched d e o v d' e' o' v'
    unfolding table_after
    untouched q = record {
      definitions = k.definitions ∙ ap₂ (λ (b : Bool) (y : Meant). table_after b (rooms_after y).definitions 6656 d) q z;
      enumerators = k.enumerators ∙ ap₂ (λ (b : Bool) (y : Meant). table_after b (rooms_after y).enumerators 3072 e) q z;
      objects = k.objects ∙ ap₂ (λ (b : Bool) (y : Meant). table_after b (rooms_after y).objects 2048 o) q z;
      values = k.values ∙ ap₂ (λ (b : Bool) (y : Meant). table_after b (rooms_after y).values 18432 v) q z;
    }

    result_is : r ≡ written_of (normal_text s) a
    result_is = k.result ∙ ap (written_of (normal_text s)) z

    output_is : l' ≡ output_after (normal_text s) l a
    output_is = k.output ∙ ap (output_after (normal_text s) l) z

  -- An accepted text, whose normal text fits or not.
  by_length : room ≡ true → (t : Tables) → reading s ≡ accepted t → (b : Bool) → ltb (length l) (length (normal_text s)) ≡ b
      → WritesByRules s d e o v l d' e' o' v' l' r × Demand-3 s r.answer
  unfolding output_asked too_short written_of output_after reading_of
  by_length q t p true h =
      let z : asked s d e o v l ≡ refused 20 0 = asked_as q (accepted t) p ∙ ap (λ b. pick b (refused 20 0) (accepted t)) h in
      let i = subst (λ a. TheAnswer s a) p (the_answer s) in
      let g = result_is (refused 20 0) z in (
        longer (enough_full q) t i (normal_text s) (the_normal_text t (answers s) p) (ltb-true (length l) (length (normal_text s)) h)
            g (in_rooms (refused 20 0) z q) (output_is (refused 20 0) z),
        subst (λ a. Demand-3 s a) (sym (ap (λ (x : Written). x.answer) g)) (still_passes s (subst (λ a. Demand-3 s (reading_of a).answer) p (reading_demand_3 s))),
      )
  by_length q t p false h =
      let z : asked s d e o v l ≡ accepted t = asked_as q (accepted t) p ∙ ap (λ b. pick b (refused 20 0) (accepted t)) h in
      let i = subst (λ a. TheAnswer s a) p (the_answer s) in
      let g = result_is (accepted t) z in (
        writes (enough_full q) t i (normal_text s) (the_normal_text t (answers s) p) (ltb-false (length l) (length (normal_text s)) h)
            g (in_rooms (accepted t) z q) (output_is (accepted t) z),
        subst (λ a. Demand-3 s a) (sym (ap (λ (x : Written). x.answer) g)) (subst (λ a. Demand-3 s (reading_of a).answer) p (reading_demand_3 s)),
      )

  by_reading : room ≡ true → (a : Meant) → reading s ≡ a → WritesByRules s d e o v l d' e' o' v' l' r × Demand-3 s r.answer
  unfolding output_asked written_of output_after reading_of
  by_reading q (accepted t) p = by_length q t p (ltb (length l) (length (normal_text s))) refl
  by_reading q (refused n m) p =
      let z : asked s d e o v l ≡ refused n m = asked_as q (refused n m) p in
      let g = result_is (refused n m) z in (
        refuses (enough_full q) n m (subst (λ a. TheAnswer s a) p (the_answer s)) g (in_rooms (refused n m) z q) (output_is (refused n m) z),
        subst (λ a. Demand-3 s a) (sym (ap (λ (x : Written). x.answer) g)) (subst (λ a. Demand-3 s (reading_of a).answer) p (reading_demand_3 s)),
      )

  -- What `Writes` says is what the rules say.
  pub writes_by_rules : WritesByRules s d e o v l d' e' o' v' l' r
  unfolding written_of output_after
  writes_by_rules = go room refl
    where
      go : (b : Bool) → room ≡ b → WritesByRules s d e o v l d' e' o' v' l' r
      go true q = (by_reading q (reading s) refl).0
      go false q =
          let z = asked_short q in
          short_tables (λ f. false≢true (sym q ∙ full_enough f)) (result_is (refused 1 0) z) (untouched (refused 1 0) z q) (output_is (refused 1 0) z)

  -- Demand 3, for tables of full room.
  pub full_demand_3 : FullRoom d e o v → Demand-3 s r.answer
  full_demand_3 f = (by_reading (full_enough f) (reading s) refl).1

-- The clauses of `write`: from the first, the others.
pub and_rules : {s d e o v l d' e' o' v' l' : List ℕ} {r : Written} → Writes s d e o v l d' e' o' v' l' r
    → Writes s d e o v l d' e' o' v' l' r × (WritesByRules s d e o v l d' e' o' v' l' r × (FullRoom d e o v → Demand-3 s r.answer))
and_rules k = (k, (writes_by_rules k, full_demand_3 k))
