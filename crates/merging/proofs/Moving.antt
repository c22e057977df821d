-- Rows of statements moved: the cases of the small functions, the turns of the loop, and that a moved block is the block's rows at its new place.
-- Assumes nothing.
use mathlib.Core.Path.{◌≡◌, refl, sym, ◌∙◌, ap, ap₂, subst}
use mathlib.Core.List.{List, [], ◌∷◌, ◌++◌, append_assoc}
use Prim.Native.Nat.{ℕ, zero, suc, ◌+◌, ◌*◌, ◌-◌, ◌≤◌, ◌<◌}
use native.Mathlib.Omega.{arith}
use native.Mathlib.Numerals.{add-one}
use lib.ListN.{length, get_or, length-append}
use lib.Seq.{sets}
use lib.Dec.{ltb}
use borrow.Author.Tests.{lt-ltb, le-ltb}
use Rattle.rows.proofs.Stores.{sets_append}
use Rattle.meaning.specs.Syntax.{Statement, Statements, done, state, statements_in}
use Rattle.layout.specs.Kept.{code_of, place_or, statement_cells, statement_rows, join}
use Rattle.layout.proofs.Lengths.{join_append, length_statements}
use Rattle.blocks.specs.Blocks.{Holds}
use Rattle.blocks.proofs.Holding.{cell_held}
use Rattle.merging.specs.Moves.{shift_of, moved_row, moved_rows, Moved}

-- The cases of `shifted` -----------------------------------------------------------------------------------------------------------------------

pub shift_low : (a from to : ℕ) → a < from → 0 ≡ shift_of a from to
unfolding shift_of
shift_low a from to h = rw (lt-ltb a from h)

pub shift_far : (a from to : ℕ) → from ≤ a → 65536 < a - from → 0 ≡ shift_of a from to
unfolding shift_of
shift_far a from to h g = rw (le-ltb a from h, lt-ltb 65536 (a - from) g)

pub shift_high : (a from to : ℕ) → from ≤ a → a - from ≤ 65536 → 65536 < to → 0 ≡ shift_of a from to
unfolding shift_of
shift_high a from to h g i = rw (le-ltb a from h, le-ltb 65536 (a - from) g, lt-ltb 65536 to i)

pub shift_is : (a from to : ℕ) → from ≤ a → a - from ≤ 65536 → to ≤ 65536 → (a - from) + to ≡ shift_of a from to
unfolding shift_of
shift_is a from to h g i = rw (le-ltb a from h, le-ltb 65536 (a - from) g, le-ltb 65536 to i)

-- A row ----------------------------------------------------------------------------------------------------------------------------------------

pub moved_is : (st out out' : List ℕ) (k from to row n0 n1 n2 n3 n4 n5 n6 a : ℕ) → n0 ≡ get_or st (k * 7 + 0) 0 → n1 ≡ get_or st (k * 7 + 1) 0 → n2 ≡ get_or st (k * 7 + 2) 0
    → n3 ≡ get_or st (k * 7 + 3) 0 → n4 ≡ get_or st (k * 7 + 4) 0 → n5 ≡ get_or st (k * 7 + 5) 0 → n6 ≡ get_or st (k * 7 + 6) 0 → a ≡ shift_of n6 from to
    → out' ≡ sets out (row * 7) (n0 ∷ n1 ∷ n2 ∷ n3 ∷ n4 ∷ n5 ∷ a ∷ []) → out' ≡ sets out (row * 7) (moved_row st k from to)
unfolding moved_row
moved_is st out out' k from to row n0 n1 n2 n3 n4 n5 n6 a e0 e1 e2 e3 e4 e5 e6 ea e =
    e ∙ ap (sets out (row * 7))
    (ap₂ ◌∷◌ e0 (ap₂ ◌∷◌ e1 (ap₂ ◌∷◌ e2 (ap₂ ◌∷◌ e3 (ap₂ ◌∷◌ e4 (ap₂ ◌∷◌ e5 (ap (λ (n : ℕ). n ∷ []) (ea ∙ ap (λ (n : ℕ). shift_of n from to) e6))))))))

row_seven : (st : List ℕ) (k from to : ℕ) → length (moved_row st k from to) ≡ 7
unfolding moved_row
row_seven st k from to = refl

-- Rows one after the other ---------------------------------------------------------------------------------------------------------------------

pub move_more : (st out out' t : List ℕ) (from to end k row : ℕ) → k < end → out' ≡ sets out (row * 7) (moved_row st k from to)
    → sets out (row * 7) (moved_rows st from to (end - k) k) ≡ t → sets out' ((row + 1) * 7) (moved_rows st from to (end - (k + 1)) (k + 1)) ≡ t
unfolding moved_rows
move_more st out out' t from to end k row h e g =
    let m : end - k ≡ suc (end - (k + 1)) = omega (arith, h) in
    let w = row_seven st k from to in
    let i : row * 7 + length (moved_row st k from to) ≡ (row + 1) * 7 = omega (arith, w) in
    let s : suc k ≡ k + 1 = omega arith in
    let rest = moved_rows st from to (end - (k + 1)) (k + 1) in
    ap (λ (l : List ℕ). sets l ((row + 1) * 7) rest) e
    ∙ ap (λ (n : ℕ). sets (sets out (row * 7) (moved_row st k from to)) n rest) (sym i)
    ∙ sym (sets_append out (row * 7) (moved_row st k from to) rest)
    ∙ ap (λ (n : ℕ). sets out (row * 7) (moved_row st k from to ++ moved_rows st from to (end - (k + 1)) n)) (sym s)
    ∙ sym (ap (λ (n : ℕ). sets out (row * 7) (moved_rows st from to n k)) m)
    ∙ g

pub move_end : (st out t : List ℕ) (from to end k row : ℕ) → end ≤ k → sets out (row * 7) (moved_rows st from to (end - k) k) ≡ t → out ≡ t
unfolding moved_rows
move_end st out t from to end k row h g =
    let m : end - k ≡ 0 = omega (arith, h) in
    sym (ap (λ (n : ℕ). sets out (row * 7) (moved_rows st from to n k)) m) ∙ g

-- A block --------------------------------------------------------------------------------------------------------------------------------------

moved_split : (st : List ℕ) (from to n m k : ℕ) → moved_rows st from to (n + m) k ≡ moved_rows st from to n k ++ moved_rows st from to m (k + n)
unfolding moved_rows
moved_split st from to zero m k =
    let a : 0 + m ≡ m = omega arith in
    let b : k ≡ k + 0 = omega arith in
    ap (λ (i : ℕ). moved_rows st from to i k) a ∙ ap (moved_rows st from to m) b
moved_split st from to (suc n) m k =
    let a : suc n + m ≡ suc (n + m) = omega arith in
    let b : suc k + n ≡ k + suc n = omega arith in
    ap (λ (i : ℕ). moved_rows st from to i k) a
    ∙ ap (λ (l : List ℕ). moved_row st k from to ++ l) (moved_split st from to n m (suc k) ∙ ap (λ (i : ℕ). moved_rows st from to n (suc k) ++ moved_rows st from to m i) b)
    ∙ sym (append_assoc (moved_row st k from to) (moved_rows st from to n (suc k)) (moved_rows st from to m (k + suc n)))

module _ (st : List ℕ) (rows : List (List ℕ)) (H : Holds 2049 7 st rows) (from to : ℕ) (low : to ≤ 2049) where
  -- The row of a statement.
  moved_one : (front rest : List (List ℕ)) (x : Statement) (k n : ℕ) → rows ≡ front ++ (statement_cells x (suc k + n) ∷ rest) → length front ≡ k → from ≤ k
      → suc k + n ≤ 2049 → moved_row st k from to ≡ statement_cells x (suc (to + (k - from)) + n)
  unfolding moved_row statement_cells
  moved_one front rest x k n w p h g =
      let cell : (c : ℕ) → c < 7 → get_or st (k * 7 + c) 0 ≡ get_or (statement_cells x (suc k + n)) c 0 =
      λ c i. ap (λ (j : ℕ). get_or st (j * 7 + c) 0) (sym p) ∙ cell_held front rest (statement_cells x (suc k + n)) c H w i in
      let z : (suc k + n) - from + to ≡ suc (to + (k - from)) + n = omega (arith, h) in
      ap₂ ◌∷◌ (cell 0 (omega arith)) (ap₂ ◌∷◌ (cell 1 (omega arith)) (ap₂ ◌∷◌ (cell 2 (omega arith)) (ap₂ ◌∷◌ (cell 3 (omega arith))
      (ap₂ ◌∷◌ (cell 4 (omega arith)) (ap₂ ◌∷◌ (cell 5 (omega arith))
      (ap₂ ◌∷◌ (ap (λ (a : ℕ). shift_of a from to) (cell 6 (omega arith)) ∙ sym (shift_is (suc k + n) from to (omega (arith, h)) (omega (arith, g)) (omega (arith, low))) ∙ z) refl))))))

  pub moved_block : (ss : Statements) (front rest : List (List ℕ)) (k : ℕ) → rows ≡ front ++ (statement_rows ss k ++ rest) → length front ≡ k → from ≤ k
      → k + statements_in ss ≤ 2049 → moved_rows st from to (statements_in ss) k ≡ join (statement_rows ss (to + (k - from)))
  unfolding statement_rows statements_in join moved_rows
  moved_block done front rest k w p h g = refl
  moved_block (state x inside more) front rest k w p h g =
      let n = statements_in inside in
      let r = statement_cells x (suc k + n) in
      let A = statement_rows inside (suc k) in
      let B = statement_rows more (suc k + n) in
      let w₁ : rows ≡ (front ++ (r ∷ [])) ++ (A ++ (B ++ rest)) =
      w ∙ ap (λ (l : List (List ℕ)). front ++ (r ∷ l)) (append_assoc A B rest) ∙ sym (append_assoc front (r ∷ []) (A ++ (B ++ rest))) in
      let w₂ : rows ≡ ((front ++ (r ∷ [])) ++ A) ++ (B ++ rest) = w₁ ∙ sym (append_assoc (front ++ (r ∷ [])) A (B ++ rest)) in
      let l₁ = length-append front (r ∷ []) in
      let l₂ = length-append (front ++ (r ∷ [])) A in
      let l₃ = length_statements inside (suc k) in
      let K = to + (k - from) in
      let e₁ : to + (suc k - from) ≡ suc K = omega (arith, h) in
      let e₂ : to + ((suc k + n) - from) ≡ suc K + n = omega (arith, h) in
      ap₂ ◌++◌ (moved_one front ((A ++ B) ++ rest) x k n w p h (omega arith))
      (moved_split st from to n (statements_in more) (suc k)
      ∙ ap₂ ◌++◌
      (moved_block inside (front ++ (r ∷ [])) (B ++ rest) (suc k) w₁ (omega arith) (omega arith) (omega arith) ∙ ap (λ (j : ℕ). join (statement_rows inside j)) e₁)
      (moved_block more ((front ++ (r ∷ [])) ++ A) rest (suc k + n) w₂ (omega arith) (omega arith) (omega arith) ∙ ap (λ (j : ℕ). join (statement_rows more j)) e₂)
      ∙ sym (join_append (statement_rows inside (suc K)) (statement_rows more (suc K + n))))
