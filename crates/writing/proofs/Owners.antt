-- The laws of the test whether a row has an owner. Assumes nothing.
use mathlib.Core.Path.{◌≡◌, sym, ◌∙◌, ap}
use mathlib.Core.List.{List}
use mathlib.Core.Bool.{true, false}
use Prim.Native.Nat.{ℕ, ◌≤◌, ◌<◌}
use lib.Dec.{eqb, ltb}
use borrow.Author.Tests.{ltb-true, lt-ltb, le-ltb, eq-eqb, ne_eqb}
use Rattle.rows.specs.Table.{cell_of}
use Rattle.token.specs.Find.{both}
use Rattle.token.proofs.Bytes.{both_false, both_true}
use Rattle.writing.specs.Lines.{owned}

module _ (v : List ℕ) (n k sort row : ℕ) where
  pub owned_past : n ≤ k → false ≡ owned v n k sort row
  unfolding owned
  owned_past h = rw (le-ltb k n h)

  pub owned_other : (a : ℕ) → a ≡ cell_of v 9 k 1 → (a ≡ sort → ⊥) → false ≡ owned v n k sort row
  unfolding owned
  owned_other a e h = let f : eqb (cell_of v 9 k 1) sort ≡ false = ne_eqb (cell_of v 9 k 1) sort (λ q. h (e ∙ q)) in rw f (sym (both_false (ltb k n)))

  pub owned_row : (a b : ℕ) → k < n → a ≡ cell_of v 9 k 1 → a ≡ sort → b ≡ cell_of v 9 k 2 → eqb b row ≡ owned v n k sort row
  unfolding owned
  owned_row a b h e q f =
      let g : eqb (cell_of v 9 k 1) sort ≡ true = eq-eqb (cell_of v 9 k 1) sort (sym e ∙ q) in
      rw (lt-ltb k n h, g) (ap (λ (c : ℕ). eqb c row) f)

  pub owned_inside : owned v n k sort row ≡ true → k < n
  unfolding owned
  owned_inside e = ltb-true k n (both_true (ltb k n) (both (eqb (cell_of v 9 k 1) sort) (eqb (cell_of v 9 k 2) row)) e)
