-- A lookup in a table finds what a search of the list does whose rows it has. Assumes nothing.
use mathlib.Core.Path.{◌≡◌, refl, sym, ◌∙◌, ap, ap₂}
use mathlib.Core.List.{List, [], ◌∷◌, ◌++◌, append_assoc}
use mathlib.Core.Bool.{Bool, true, false, false≢true}
use mathlib.Core.Option.{Option, none, some}
use Prim.Native.Nat.{ℕ, suc, ◌+◌, ◌*◌, ◌≤◌, ◌<◌}
use native.Mathlib.Omega.{arith}
use native.Mathlib.Numerals.{add-one}
use lib.ListN.{length, get_or, length-append}
use lib.Dec.{eqb}
use borrow.Author.Tests.{ne_eqb}
use Rattle.token.specs.Find.{pick, both, either}
use Rattle.token.specs.Words.{same}
use Rattle.token.specs.Tokens.{part_of}
use Rattle.token.proofs.Bytes.{neither_first, neither_second, eqb_sym}
use Rattle.std.specs.Prelude.{Some, None}
use Rattle.rows.proofs.Walks.{first, any_of}
use Rattle.rows.specs.Search.{find_from, has_key, is_named, find_named}
use Rattle.rows.proofs.Searches.{find_stop, find_more, find_end, first_is}
use Rattle.meaning.specs.Syntax.{Object, File}
use Rattle.meaning.specs.Kinds.{kind_number}
use Rattle.layout.specs.Kept.{Entry, Choice, spec_entries, spec_choices, kept_definitions, kept_enumerators, kept, kept_objects, definition_cells, choice_cells, object_cells, object_rows}
use Rattle.scopes.specs.Situations.{Nth, NoneOf}
use Rattle.scopes.proofs.Rooms.{definition_cell, choice_cell, row_cell_lem}

-- Which of two names is asked for does not matter.
pub same_sym : (a b : List ℕ) → same a b ≡ same b a
unfolding same
same_sym [] [] = refl
same_sym [] (y ∷ b) = refl
same_sym (x ∷ a) [] = refl
same_sym (x ∷ a) (y ∷ b) = ap₂ both (eqb_sym x y) (same_sym a b)

some_is : {A : Type 0} (x y : A) → some x ≡ some y → x ≡ y
some_is x y e = cc

-- A loop over n rows, of which row i + length a has the test of x.
module _ {R : Type 0} (p : R → Bool) (t : ℕ → Bool) where
  pub seek : (i : ℕ) (xs : List R) → ((a : List R) (x : R) (b : List R) → xs ≡ a ++ (x ∷ b) → t (i + length a) ≡ p x)
      → find_from t (i + length xs) i ≡ first p Some None i xs
  unfolding first
  seek i [] h = find_end t (i + 0) i (omega arith)
  seek i (x ∷ xs) h =
      by (p x) (let e : i ≡ i + 0 = omega arith in ap t e ∙ h [] x xs refl)
      (let n : i + suc (length xs) ≡ suc i + length xs = omega arith in
      ap (λ (k : ℕ). find_from t k (suc i)) n
      ∙ seek (suc i) xs (λ a y b e. let k : suc i + length a ≡ i + suc (length a) = omega arith in ap t k ∙ h (x ∷ a) y b (ap (λ (l : List R). x ∷ l) e)))
    where
      by : (b : Bool) → t i ≡ b → find_from t (i + suc (length xs)) (suc i) ≡ first p Some None (suc i) xs
          → find_from t (i + suc (length xs)) i ≡ pick b (Some i) (first p Some None (suc i) xs)
      by true e rest = find_stop t (i + suc (length xs)) i (omega arith) e
      by false e rest = find_more t (i + suc (length xs)) i (omega arith) e ∙ ap (find_from t (i + suc (length xs))) (add-one i) ∙ rest

  -- Rows from the first on.
  pub seek_all : (xs : List R) → ((a : List R) (x : R) (b : List R) → xs ≡ a ++ (x ∷ b) → t (length a) ≡ p x) → find_from t (length xs) 0 ≡ first p Some None 0 xs
  seek_all xs h =
      let e : length xs ≡ 0 + length xs = omega arith in
      ap (λ (k : ℕ). find_from t k 0) e ∙ seek 0 xs (λ a x b g. let z : 0 + length a ≡ length a = omega arith in ap t z ∙ h a x b g)

  pub none_first : (i : ℕ) (ys : List R) → any_of p ys ≡ false → first p Some None i ys ≡ None
  unfolding first any_of
  none_first i [] e = refl
  none_first i (y ∷ ys) e = by (p y) e (none_first (suc i) ys)
    where
      by : (b : Bool) → either b (any_of p ys) ≡ false → (any_of p ys ≡ false → first p Some None (suc i) ys ≡ None) → pick b (Some i) (first p Some None (suc i) ys) ≡ None
      by true e h = absurd (false≢true (sym e))
      by false e h = h e

  -- Where none of those behind passes, they may be left out.
  pub first_front : (i : ℕ) (xs ys : List R) → any_of p ys ≡ false → first p Some None i (xs ++ ys) ≡ first p Some None i xs
  unfolding first
  first_front i [] ys e = none_first i ys e
  first_front i (x ∷ xs) ys e = ap (pick (p x) (Some i)) (first_front (suc i) xs ys e)

-- The first that passes.
module _ {R : Type 0} (p : R → Bool) where
  unfoldable pub first_one : List R → Option R
  first_one [] = none
  first_one (x ∷ xs) = let r = first_one xs in pick (p x) (some x) r

  pub none_one : (xs : List R) → any_of p xs ≡ false → first_one xs ≡ none
  unfolding first_one any_of
  none_one [] e = refl
  none_one (x ∷ xs) e = ap (λ b. pick b (some x) (first_one xs)) (neither_first (p x) (any_of p xs) e) ∙ none_one xs (neither_second (p x) (any_of p xs) e)

  pub one_append : (xs ys : List R) → any_of p xs ≡ false → first_one (xs ++ ys) ≡ first_one ys
  unfolding first_one any_of
  one_append [] ys e = refl
  one_append (x ∷ xs) ys e = ap (λ b. pick b (some x) (first_one (xs ++ ys))) (neither_first (p x) (any_of p xs) e) ∙ one_append xs ys (neither_second (p x) (any_of p xs) e)

  pub found_below : (t : ℕ → Bool) (xs : List R) (j : ℕ) → first p Some None 0 xs ≡ Some j → j < length xs
  found_below t xs j e =
      let f = first_is p 0 xs j e in
      let z = f.place in
      let a : length xs ≡ length (f.front ++ (f.row ∷ f.rest)) = ap length f.whole in
      let b = length-append f.front (f.row ∷ f.rest) in
      omega arith

  -- It is the one with the number that a search finds.
  pub found_one : (xs : List R) (j : ℕ) (x : R) → first p Some None 0 xs ≡ Some j → first_one xs ≡ some x → Nth xs j x
  unfolding first_one
  found_one xs j x e h =
      let f = first_is p 0 xs j e in
      let a : first_one xs ≡ some f.row =
      ap first_one f.whole ∙ one_append f.front (f.row ∷ f.rest) f.fails ∙ ap (λ b. pick b (some f.row) (first_one f.rest)) f.holds in
      let q : f.row ≡ x = some_is f.row x (sym a ∙ h) in
      let z = f.place in
      record { front = f.front; rest = f.rest; whole = f.whole ∙ ap (λ y. f.front ++ (y ∷ f.rest)) q; place = omega arith }

-- The tests of the three tables.
unfoldable pub is_row : List ℕ → (key at len : ℕ) → Entry → Bool
is_row s key at len x = both (eqb x.under.place key) (same (part_of s x.definition.name.place x.definition.name.length) (part_of s at len))

unfoldable pub is_choice : List ℕ → (key at len : ℕ) → Choice → Bool
is_choice s key at len x = both (eqb x.list key) (same (part_of s x.word.place x.word.length) (part_of s at len))

unfoldable pub is_object : List ℕ → (key at len : ℕ) → Object → Bool
is_object s key at len x = both (eqb (kind_number x.kind) key) (same (part_of s x.name.place x.name.length) (part_of s at len))

named_cells : (s l : List ℕ) (a c k m m2 p n x y z : ℕ) → get_or l (a + c) 0 ≡ x → get_or l (a + m) 0 ≡ y → get_or l (a + m2) 0 ≡ z
    → is_named s l a c k m m2 p n ≡ both (eqb x k) (same (part_of s y z) (part_of s p n))
unfolding is_named has_key
named_cells s l a c k m m2 p n x y z e f g = rw (e, f, g)

-- Of a front part of the rows.
pub nth_front : {A : Type 0} {l f : List A} (r : List A) → l ≡ f ++ r → (a : List A) (x : A) (b : List A) → f ≡ a ++ (x ∷ b) → Nth l (length a) x
nth_front r e a x b h = record { front = a; rest = b ++ r; whole = e ∙ ap (λ t. t ++ r) h ∙ append_assoc a (x ∷ b) r; place = refl }

pub below_front : {A : Type 0} (f a : List A) (x : A) (b : List A) → f ≡ a ++ (x ∷ b) → length a < length f
below_front f a x b h =
    let e : length f ≡ length (a ++ (x ∷ b)) = ap length h in
    let g = length-append a (x ∷ b) in
    omega arith

pub find_in_definitions : (f : File) (s d : List ℕ) (front rest : List Entry) (n key at len : ℕ) → d ≡ kept_definitions f → spec_entries f.specs ≡ front ++ rest
    → n ≡ length front → n ≤ 513 → find_named s d 19 n 0 key 2 at len 0 ≡ first (is_row s key at len) Some None 0 front
unfolding find_named is_row definition_cells
find_in_definitions f s d front rest n key at len e w k h =
    ap (λ (m : ℕ). find_from (λ j. is_named s d (j * 19) 0 key 2 3 at len) m 0) k
    ∙ seek_all (is_row s key at len) (λ j. is_named s d (j * 19) 0 key 2 3 at len) front (λ a x b g.
    let q = nth_front rest w a x b g in
    let l = below_front front a x b g in
    named_cells s d (length a * 19) 0 key 2 3 at len x.under.place x.definition.name.place x.definition.name.length
    (definition_cell f d (length a) 0 x e q (omega arith) (omega arith))
    (definition_cell f d (length a) 2 x e q (omega arith) (omega arith))
    (definition_cell f d (length a) 3 x e q (omega arith) (omega arith)))

pub find_in_enumerators : (f : File) (s e : List ℕ) (front rest : List Choice) (n key at len : ℕ) → e ≡ kept_enumerators f → spec_choices f.specs ≡ front ++ rest
    → n ≡ length front → n ≤ 1025 → find_named s e 3 n 0 key 1 at len 0 ≡ first (is_choice s key at len) Some None 0 front
unfolding find_named is_choice choice_cells
find_in_enumerators f s e front rest n key at len t w k h =
    ap (λ (m : ℕ). find_from (λ j. is_named s e (j * 3) 0 key 1 2 at len) m 0) k
    ∙ seek_all (is_choice s key at len) (λ j. is_named s e (j * 3) 0 key 1 2 at len) front (λ a x b g.
    let q = nth_front rest w a x b g in
    let l = below_front front a x b g in
    named_cells s e (length a * 3) 0 key 1 2 at len x.list x.word.place x.word.length
    (choice_cell f e (length a) 0 x t q (omega arith) (omega arith))
    (choice_cell f e (length a) 1 x t q (omega arith) (omega arith))
    (choice_cell f e (length a) 2 x t q (omega arith) (omega arith)))

-- Among objects, or their parts, of which the table has room for so many.
pub find_in_rows : (room : ℕ) (os : List Object) (s o : List ℕ) (front rest : List Object) (n key at len : ℕ) → o ≡ kept (room * 10) (object_rows os 0)
    → os ≡ front ++ rest → n ≡ length front → n ≤ room → find_named s o 10 n 0 key 3 at len 0 ≡ first (is_object s key at len) Some None 0 front
unfolding find_named is_object object_cells
find_in_rows room os s o front rest n key at len e w k h =
    ap (λ (m : ℕ). find_from (λ j. is_named s o (j * 10) 0 key 3 4 at len) m 0) k
    ∙ seek_all (is_object s key at len) (λ j. is_named s o (j * 10) 0 key 3 4 at len) front (λ a x b g.
    let q = nth_front rest w a x b g in
    let l = below_front front a x b g in
    named_cells s o (length a * 10) 0 key 3 4 at len (kind_number x.kind) x.name.place x.name.length
    (row_cell_lem room os o (length a) 0 x e q (omega arith) (omega arith))
    (row_cell_lem room os o (length a) 3 x e q (omega arith) (omega arith))
    (row_cell_lem room os o (length a) 4 x e q (omega arith) (omega arith)))

pub find_in_objects : (f : File) (s o : List ℕ) (front rest : List Object) (n key at len : ℕ) → o ≡ kept_objects f → f.objects ≡ front ++ rest
    → n ≡ length front → n ≤ 257 → find_named s o 10 n 0 key 3 at len 0 ≡ first (is_object s key at len) Some None 0 front
unfolding kept_objects
find_in_objects f s o front rest n key at len e w k h = find_in_rows 257 f.objects s o front rest n key at len e w k h

-- None of the list's key passes the test.
pub none_chosen : (s : List ℕ) (key at len : ℕ) (xs : List Choice) → NoneOf key xs → any_of (is_choice s key at len) xs ≡ false
unfolding any_of is_choice
none_chosen s key at len [] h = refl
none_chosen s key at len (x ∷ xs) h = rw (ne_eqb x.list key h.0) (none_chosen s key at len xs h.1)
