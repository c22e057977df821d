-- The laws of searches over the cells of rows. Assumes nothing.
use Prim.Native.Nat.{ℕ, ◌+◌, ◌*◌, ◌<◌, ◌≤◌, min}
use mathlib.Core.Path.{◌≡◌, sym, ◌∙◌, ap, ap₂}
use mathlib.Core.Bool.{Bool, true, false}
use mathlib.Core.List.{List}
use lib.ListN.{length, get_or}
use borrow.Author.Tests.{eq-eqb, ne_eqb}
use Rattle.token.specs.Find.{both}
use Rattle.token.specs.Words.{same}
use Rattle.token.specs.Tokens.{part_of}
use Rattle.rows.specs.Search.{has_key, is_named, find_row, find_named}
use Rattle.std.specs.Prelude.{Some, None}
use Rattle.rows.proofs.Searches.{find_stop, find_more, find_end}
use Rattle.rows.proofs.Starts.{cell_column}
use Rattle.causes.specs.Firsts.{name_at, like_row, first_like}

-- A row's key and name.
module _ (s t : List ℕ) (w i c k m p n : ℕ) where
  pub named_other : (x : ℕ) → x ≡ get_or t (i * w + c) 0 → (x ≡ k → ⊥) → false ≡ is_named s t (i * w) c k m (m + 1) p n
  unfolding is_named has_key
  named_other x e h =
      sym (ap (λ (b : Bool). both b (same (part_of s (get_or t (i * w + m) 0) (get_or t (i * w + (m + 1)) 0)) (part_of s p n))) (ne_eqb (get_or t (i * w + c) 0) k (λ z. h (e ∙ z))))

  pub named_same : (x m2 y z : ℕ) (b : Bool) → x ≡ get_or t (i * w + c) 0 → x ≡ k → m2 ≡ min (length t) (m + 1) → y ≡ get_or t (i * w + m) 0 → z ≡ get_or t (i * w + m2) 0
      → b ≡ same (part_of s y z) (part_of s p n) → b ≡ is_named s t (i * w) c k m (m + 1) p n
  unfolding is_named has_key
  named_same x m2 y z b e h g u v q =
      let v' : z ≡ get_or t (i * w + (m + 1)) 0 = v ∙ ap (λ (j : ℕ). get_or t (i * w + j) 0) g ∙ cell_column t (i * w) (m + 1) in
      q ∙ ap₂ (λ (a d : ℕ). same (part_of s a d) (part_of s p n)) u v'
      ∙ sym (ap (λ (o : Bool). both o (same (part_of s (get_or t (i * w + m) 0) (get_or t (i * w + (m + 1)) 0)) (part_of s p n))) (eq-eqb (get_or t (i * w + c) 0) k (sym e ∙ h)))

-- The first such row.
module _ (s t : List ℕ) (w n c k m p l i : ℕ) where
  pub find_here : i < n → is_named s t (i * w) c k m (m + 1) p l ≡ true → find_named s t w n c k m p l i ≡ Some i
  unfolding find_named
  find_here h e = find_stop (λ j. is_named s t (j * w) c k m (m + 1) p l) n i h e

  pub find_on : i < n → is_named s t (i * w) c k m (m + 1) p l ≡ false → find_named s t w n c k m p l i ≡ find_named s t w n c k m p l (i + 1)
  unfolding find_named
  find_on h e = find_more (λ j. is_named s t (j * w) c k m (m + 1) p l) n i h e

  pub find_none : n ≤ i → find_named s t w n c k m p l i ≡ None
  unfolding find_named
  find_none h = find_end (λ j. is_named s t (j * w) c k m (m + 1) p l) n i h

-- The first row like the one whose name stands at p.
module _ (s t : List ℕ) (w n c m p : ℕ) where
  pub like_none : find_row t w n m p 0 ≡ None → 0 ≡ first_like s t w n c m p
  unfolding first_like like_row
  like_none e = sym (ap (like_row s t w c m p) e)

  module _ (j k m2 l : ℕ) (e : find_row t w n m p 0 ≡ Some j) (ek : k ≡ get_or t (j * w + c) 0) (em : m2 ≡ min (length t) (m + 1)) (el : l ≡ get_or t (j * w + m2) 0) where
    like_row_lem : name_at t w m (find_named s t w j c k m p l 0) ≡ first_like s t w n c m p
    unfolding first_like like_row
    like_row_lem =
        let el' : l ≡ get_or t (j * w + (m + 1)) 0 = el ∙ ap (λ (i : ℕ). get_or t (j * w + i) 0) em ∙ cell_column t (j * w) (m + 1) in
        ap₂ (λ (a b : ℕ). name_at t w m (find_named s t w j c a m p b 0)) ek el' ∙ sym (ap (like_row s t w c m p) e)

    pub like_first : find_named s t w j c k m p l 0 ≡ None → 0 ≡ first_like s t w n c m p
    unfolding name_at
    like_first z = sym (ap (name_at t w m) z) ∙ like_row_lem

    pub like_found : (i x : ℕ) → find_named s t w j c k m p l 0 ≡ Some i → x ≡ get_or t (i * w + m) 0 → x ≡ first_like s t w n c m p
    unfolding name_at
    like_found i x z g = g ∙ sym (ap (name_at t w m) z) ∙ like_row_lem
