-- What is noted of kinds, word by word, is what the specs say. Assumes nothing.
use mathlib.Core.Path.{◌≡◌, refl, sym, ◌∙◌, ap}
use mathlib.Core.List.{List, [], ◌∷◌, ◌++◌, append_assoc, append-nil}
use Prim.Native.Nat.{ℕ}
use Rattle.std.specs.Prelude.{Option}
use lib.ListN.{get_or, set}
use Rattle.filling.proofs.Filling.{Effects}
use Rattle.implementation.specs.Places.{Noted, placed, again_after, note, note_all}

-- One word more.
pub noted : (k p : ℕ) {mark : ℕ} (x : Noted) {marks places : List ℕ} {again : Option ℕ} → mark ≡ get_or x.marks k 0 → places ≡ placed x.places mark k p
    → again ≡ again_after mark x.again p → marks ≡ set x.marks k 1
    → record { marks = marks; places = places; again = again } ≡ note_all x ((k, p) ∷ [])
unfolding note note_all
noted k p x e a b d =
    let a' = a ∙ ap (λ (m : ℕ). placed x.places m k p) e in
    let b' = b ∙ ap (λ (m : ℕ). again_after m x.again p) e in
    λ i. record { marks = d i; places = a' i; again = b' i }

note_append : (x : Noted) (hs is : List (ℕ × ℕ)) → note_all x (hs ++ is) ≡ note_all (note_all x hs) is
unfolding note_all
note_append x [] is = refl
note_append x (h ∷ hs) is = note_append (note x h.0 h.1) hs is

pub noting : Effects (List (ℕ × ℕ)) Noted ◌++◌ [] (λ x w y. y ≡ note_all x w)
unfolding note_all
noting =
    record {
      assoc = append_assoc;
      front = λ a. refl;
      back = append-nil;
      does_none = λ x. refl;
      does_then = λ x y z a b d e. e ∙ ap (λ (c : Noted). note_all c b) d ∙ sym (note_append x a b);
    }
