-- A text without a `#`, lent alone, is answered as document 01's reader answers it. Assumes nothing.
use mathlib.Core.Path.{◌≡◌, refl, sym, ◌∙◌, ap}
use mathlib.Core.Bool.{Bool, true, false, not}
use mathlib.Core.List.{List}
use mathlib.Core.Logic.{◌⊎◌, inl, inr, ⊎_elim}
use Prim.Native.Nat.{ℕ, ◌-◌, ◌≤◌}
use native.Mathlib.Omega.{arith}
use lib.ListN.{length}
use Rattle.token.specs.Find.{both}
use Rattle.meaning.specs.Reading.{reading}
use Rattle.sources.specs.Texts.{told_well}
use Rattle.sources.specs.Expanding.{Piece, up_from, origin, stopped, main_text, expanded, expansion_of}
use Rattle.sources.specs.Plain.{holds, is_plain}
use Rattle.sources.proofs.Plains.{plain_piece, plain_answer}
use Rattle.sources_reading.specs.Answering.{text, alone, sources_answer, ReadAsBefore, PlainRead}
use Rattle.sources_reading.proofs.Alone.{told_alone, main_alone, whole_alone}
use Rattle.sources_reading.proofs.Renumbered.{plain_answer as answered}

is_plain_lem : (s : List ℕ) → length s ≤ 65535 → holds 35 s ≡ false → is_plain s (alone s) ≡ true
unfolding is_plain
is_plain_lem s h e =
    ap (λ (t : Bool). both t (not (holds 35 (main_text s (alone s))))) (told_alone s h)
    ∙ ap (λ (x : List ℕ). not (holds 35 x)) (main_alone s)
    ∙ ap not e

pub plain_read : PlainRead
unfolding stopped origin
plain_read s h e =
    let w = plain_piece s (alone s) (is_plain_lem s h e) in
    let m = main_alone s in
    let z : length s - 0 ≡ length s = omega arith in
    let is : expanded s (alone s) ≡ stopped 0 s 0 w.number w.place = w.is ∙ ap (λ (x : List ℕ). stopped 0 x 0 w.number w.place) m in
    let bytes : text s (alone s) ≡ s = ap (λ (x : Piece). x.bytes) is ∙ whole_alone s in
    let number : (expanded s (alone s)).number ≡ w.number = ap (λ (x : Piece). x.number) is in
    let own = (plain_answer s (alone s) w).0 in
    let which = w.which in
    record {
      bytes = bytes;
      origins = ap (λ (x : Piece). x.origins) is ∙ ap (up_from 0) z;
      answer = answered s (alone s)
          (λ k. ⊎_elim (λ i. absurd (let j : ◌≡◌ {A = ℕ} 30 0 = sym k ∙ own ∙ i in omega arith)) (λ i. absurd (let j : ◌≡◌ {A = ℕ} 30 3 = sym k ∙ own ∙ i in omega arith)) which)
          (⊎_elim (λ i. inl (number ∙ i)) (λ i. inr (number ∙ i)) which)
          ∙ ap reading bytes;
    }
