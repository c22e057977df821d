-- From what the library gives for the text to what is told. Assumes nothing.
use mathlib.Core.Path.{◌≡◌, refl, sym, ◌∙◌, ap, ap₂}
use mathlib.Core.List.{List}
use mathlib.Core.Bool.{Bool}
use Prim.Native.Nat.{ℕ, ◌≤◌, min}
use native.Mathlib.Omega.{arith}
use lib.ListN.{length, get_or, replicate, length-replicate}
use lib.Dec.{eqb}
use borrow.Author.Tests.{le-ltb}
use Rattle.token.specs.Find.{pick}
use Rattle.meaning.specs.Rules.{FullRoom}
use Rattle.reading.specs.declared.Answer.TheVariants.{Accepted, Refused}
use Rattle.writing.specs.Rules.{WritesByRules}
use Rattle.writing.specs.Rules as written
use Rattle.writing.specs.declared.Written.{Written}
use Rattle.placing.specs.Placed.{place_in, is_at_start}
use Rattle.attribute_values.specs.Answered.{Valued}
use Rattle.std.specs.Prelude.{Option, Some, None, Ok, Err}
use Rattle.rows.specs.declared.Fault.{Fault}
use Rattle.exporting.specs.Rules.{refusal, done}
use Rattle.exporting.specs.Telling.{place_told, refusal_told, value_told, NormalWith}
use Rattle.exporting.specs.Telling as telling
use Rattle.exporting.specs.declared.Told.{Told}

-- Refusals -----------------------------------------------------------------------------------------------------------------------------------

pub refused_told : (long n m p a b c : ℕ) (g : List ℕ) → a ≡ pick (eqb m 3) n m → c ≡ min p long → b ≡ pick (is_at_start a) p (place_in g 0 c p)
    → record { number = a; place = b; length = 0 } ≡ refusal_told long n m p
unfolding refusal_told refusal place_told place_in
refused_told long n m p a b c g e h f =
    let z : 0 ≤ p = omega arith in
    ap₂ (λ (x y : ℕ). record { number = x; place = y; length = 0 }) e
    (f ∙ ap (λ (x : Bool). pick (is_at_start a) p (pick x (get_or g p 0) c)) (le-ltb p 0 z) ∙ ap₂ (λ (x y : ℕ). pick (is_at_start x) p y) e h)

-- Values -------------------------------------------------------------------------------------------------------------------------------------

module _ (long n : ℕ) (a : Valued) where
  pub value_refused : (f : Fault) → a ≡ Err f → (r : Told) → r ≡ refusal_told long n f.number f.place → r ≡ value_told long n a
  unfolding value_told
  value_refused f e r h = h ∙ sym (ap (value_told long n) e)

  pub value_lost : {o : Option ℕ} → a ≡ Ok o → o ≡ None → record { number = 255; place = 0; length = 0 } ≡ value_told long n a
  unfolding value_told refusal
  value_lost e i = sym (ap (value_told long n) (e ∙ ap Ok i))

  pub value_copied : {o : Option ℕ} {k : ℕ} → a ≡ Ok o → o ≡ Some k → record { number = 0; place = 0; length = k } ≡ value_told long n a
  unfolding value_told done
  value_copied e i = sym (ap (value_told long n) (e ∙ ap Ok i))

-- Normal text ----------------------------------------------------------------------------------------------------------------------------------

own_rooms : FullRoom (replicate 6656 0) (replicate 3072 0) (replicate 2048 0) (replicate 18432 0)
own_rooms =
    let a : length {A = ℕ} (replicate 6656 0) ≡ 6656 = length-replicate {A = ℕ} 6656 0 in
    let b : length {A = ℕ} (replicate 3072 0) ≡ 3072 = length-replicate {A = ℕ} 3072 0 in
    let c : length {A = ℕ} (replicate 2048 0) ≡ 2048 = length-replicate {A = ℕ} 2048 0 in
    let d : length {A = ℕ} (replicate 18432 0) ≡ 18432 = length-replicate {A = ℕ} 18432 0 in
    record { definitions = omega (arith, a); enumerators = omega (arith, b); objects = omega (arith, c); values = omega (arith, d) }

no_refusal : (n p : ℕ) → Accepted ≡ Refused n p → ⊥
no_refusal n p q = let z : ◌≡◌ {A = ℕ} 0 1 = cc in omega (arith, z)

module _ (n : ℕ) (s d e o v l d' e' o' v' l' : List ℕ) (w : Written) (rooms : FullRoom d e o v) where
  refused_as : (m p m' p' : ℕ) → Refused m' p' ≡ Refused m p → (r : Told) → r ≡ refusal_told (length s) n m p → r ≡ refusal_told (length s) n m' p'
  refused_as m p m' p' q r h = let a : m ≡ m' = cc in let b : p ≡ p' = cc in h ∙ ap₂ (refusal_told (length s) n) a b

  by_refusal : WritesByRules s d e o v l d' e' o' v' l' w → (m p : ℕ) → w.answer ≡ Refused m p → (r : Told) → r ≡ refusal_told (length s) n m p → NormalWith n s l l' r
  unfolding refusal_told refusal place_told is_at_start
  by_refusal (written.short_tables not q u i) m p h r z = absurd (not rooms)
  by_refusal (written.refuses f k j t q u i) m p h r z = telling.refuses k j t (refused_as m p k j (sym (ap (λ (x : Written). x.answer) q) ∙ h) r z) i
  by_refusal (written.longer f t a y b c q u i) m p h r z = telling.longer t a y b c (refused_as m p 20 0 (sym (ap (λ (x : Written). x.answer) q) ∙ h) r z) i
  by_refusal (written.writes f t a y b c q u i) m p h r z = absurd (no_refusal m p (sym (ap (λ (x : Written). x.answer) q) ∙ h))

  by_acceptance : WritesByRules s d e o v l d' e' o' v' l' w → w.answer ≡ Accepted → (r : Told) → r ≡ done w.length → NormalWith n s l l' r
  by_acceptance (written.short_tables not q u i) h r z = absurd (not rooms)
  by_acceptance (written.refuses f k j t q u i) h r z = absurd (no_refusal k j (sym h ∙ ap (λ (x : Written). x.answer) q))
  by_acceptance (written.longer f t a y b c q u i) h r z = absurd (no_refusal 20 0 (sym h ∙ ap (λ (x : Written). x.answer) q))
  by_acceptance (written.writes f t a y b c q u i) h r z = telling.writes t a y b c (z ∙ ap (λ (x : Written). done x.length) q) i

module _ {n : ℕ} {s l d' e' o' v' l' : List ℕ} {w : Written} (h : WritesByRules s (replicate 6656 0) (replicate 3072 0) (replicate 2048 0) (replicate 18432 0) l d' e' o' v' l' w) where
  pub normal_refused : (m p : ℕ) → w.answer ≡ Refused m p → (r : Told) → r ≡ refusal_told (length s) n m p → NormalWith n s l l' r
  normal_refused m p q r z = by_refusal n s _ _ _ _ l d' e' o' v' l' w own_rooms h m p q r z

  pub normal_written : w.answer ≡ Accepted → NormalWith n s l l' (record { number = 0; place = 0; length = w.length })
  unfolding done
  normal_written q = by_acceptance n s _ _ _ _ l d' e' o' v' l' w own_rooms h q _ refl
