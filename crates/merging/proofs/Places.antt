-- The first part of a row's object, by the parts themselves. Assumes nothing.
use mathlib.Core.Path.{◌≡◌, refl, sym, ◌∙◌, ap, ap₂, subst}
use mathlib.Core.List.{List, [], ◌∷◌, ◌++◌}
use mathlib.Core.Bool.{Bool, true, false, false≢true}
use Prim.Native.Nat.{ℕ, suc, ◌+◌, ◌*◌, ◌≤◌, ◌<◌}
use native.Mathlib.Omega.{arith}
use lib.ListN.{length, get_or, length-append}
use Rattle.token.specs.Find.{pick, both, either}
use Rattle.token.specs.Words.{same}
use Rattle.token.proofs.Bytes.{eqb_sym}
use Rattle.rows.proofs.Walks.{first}
use Rattle.rows.specs.Search.{find_named, is_found}
use Rattle.rows.specs.Found.{Found}
use Rattle.std.specs.Prelude.{Some, None}
use Rattle.rows.proofs.Searches.{first_is}
use Rattle.meaning.specs.Syntax.{Object, File}
use Rattle.meaning.specs.Words.{alike}
use Rattle.meaning.specs.Kinds.{kind_number, same_kind}
use Rattle.meaning.specs.Merging.{same_object, used}
use Rattle.meaning.proofs.Merges.{same_alike, same_itself, same_swap, used_more, used_none, used_alike}
use Rattle.meaning.proofs.Sites.{statement_words, object_words}
use Rattle.layout.specs.Kept.{kept_parts, object_cells}
use Rattle.scopes.specs.Situations.{Situation, Nth}
use Rattle.scopes.proofs.Rooms.{row_cell_lem}
use Rattle.scopes.proofs.Finding.{is_object, find_in_rows}
use Rattle.scopes.proofs.Goodness.{Good, Goods, good_back, part_good}
use Rattle.scopes.proofs.Descents.{whole}
use Rattle.merging.specs.Parts.{row_or, first_row}
use Rattle.merging.specs.Promises.{Parted, FirstAt}

-- Searches -------------------------------------------------------------------------------------------------------------------------------------

-- What is found is a part of the same kind and name.
found_used : (x : Object) (i : ℕ) (l : List Object) → is_found (first (same_object x) Some None i l) ≡ used x l
unfolding first
found_used x i [] = sym (used_none x)
found_used x i (y ∷ l) = go (same_object x y) (found_used x (suc i) l) ∙ sym (used_more x y l)
  where
    go : (b : Bool) → is_found (first (same_object x) Some None (suc i) l) ≡ used x l → is_found (pick b (Some i) (first (same_object x) Some None (suc i) l)) ≡ either b (used x l)
    go true e = refl
    go false e = e

not_found : (f : Found) → is_found f ≡ false → f ≡ None
not_found (Some i) e = absurd (false≢true (sym e))
not_found None e = refl

-- The first that passes, behind a front of which none does.
first_at : (p : Object → Bool) (i : ℕ) (front : List Object) (y : Object) (mid : List Object) → is_found (first p Some None i front) ≡ false → p y ≡ true
    → first p Some None i (front ++ (y ∷ mid)) ≡ Some (i + length front)
unfolding first
first_at p i [] y mid e t = let z : i ≡ i + 0 = omega arith in rw t (ap Some z)
first_at p i (w ∷ front) y mid e t = go (p w) e (λ h. first_at p (suc i) front y mid h t)
  where
    go : (b : Bool) → is_found (pick b (Some i) (first p Some None (suc i) front)) ≡ false
        → (is_found (first p Some None (suc i) front) ≡ false → first p Some None (suc i) (front ++ (y ∷ mid)) ≡ Some (suc i + length front))
        → pick b (Some i) (first p Some None (suc i) (front ++ (y ∷ mid))) ≡ Some (i + suc (length front))
    go true h f = absurd (false≢true (sym h))
    go false h f = let z : suc i + length front ≡ i + suc (length front) = omega arith in f h ∙ ap Some z

-- The same place of one list.
same_place : (a : List Object) (x : Object) (b c : List Object) (y : Object) (d : List Object) → a ++ (x ∷ b) ≡ c ++ (y ∷ d) → length a ≡ length c → x ≡ y
same_place [] x b [] y d e n = cc
same_place [] x b (w ∷ c) y d e n = absurd (omega arith)
same_place (v ∷ a) x b [] y d e n = absurd (omega arith)
same_place (v ∷ a) x b (w ∷ c) y d e n = let t : a ++ (x ∷ b) ≡ c ++ (y ∷ d) = cc in same_place a x b c y d t (omega arith)

-- Where the row of y's place is found, y passes.
at_first : (p : Object → Bool) (front : List Object) (y : Object) (mid : List Object) → first p Some None 0 (front ++ (y ∷ mid)) ≡ Some (length front) → p y ≡ true
at_first p front y mid e =
    let r = first_is p 0 (front ++ (y ∷ mid)) (length front) e in
    let n : length front ≡ length r.front = let z = r.place in omega arith in
    ap p (same_place front y mid r.front r.row r.rest r.whole n) ∙ r.holds

-- A row that is found lies inside.
found_inside : (p : Object → Bool) (l : List Object) (i : ℕ) → first p Some None 0 l ≡ Some i → i < length l
found_inside p l i e =
    let r = first_is p 0 l i e in
    let n = length-append r.front (r.row ∷ r.rest) in
    let w : length l ≡ length (r.front ++ (r.row ∷ r.rest)) = ap (λ (k : List Object). length k) r.whole in
    let z = r.place in
    omega arith

-- The tests of the rows ------------------------------------------------------------------------------------------------------------------------

-- The parts' names are what the text has at their places.
module _ (s : List ℕ) (x : Object) (g : Good s x.name) where
  object_test : (y : Object) → Good s y.name → is_object s (kind_number x.kind) x.name.place x.name.length y ≡ same_object x y
  unfolding is_object same_object same_kind alike
  object_test y h =
      ap₂ both (eqb_sym (kind_number y.kind) (kind_number x.kind)) (ap₂ same (sym h.read.bytes) (sym g.read.bytes))

  object_tests : (i : ℕ) (l rest : List Object) → Goods s (object_words (l ++ rest))
      → first (is_object s (kind_number x.kind) x.name.place x.name.length) Some None i l ≡ first (same_object x) Some None i l
  unfolding first object_words
  object_tests i [] rest h = refl
  object_tests i (y ∷ l) rest h =
      ap₂ (λ (b : Bool) (f : Found). pick b (Some i) f) (object_test y h.1.0)
      (object_tests (suc i) l rest (good_back s (statement_words y.statements) (object_words (l ++ rest)) h.1.1))

pub good_name : (s : List ℕ) (p : List Object) (x : Object) (rest : List Object) → Goods s (object_words (p ++ (x ∷ rest))) → Good s x.name
unfolding object_words
good_name s [] x rest g = g.1.0
good_name s (y ∷ p) x rest g = good_name s p x rest (good_back s (statement_words y.statements) (object_words (p ++ (x ∷ rest))) g.1.1)

-- The first row of a part, by the parts before it.
pub row_is : (s p : List ℕ) (f : File) (j : ℕ) (before : List Object) (z : Object) (rest : List Object) → Situation s f → p ≡ kept_parts f → f.parts ≡ before ++ (z ∷ rest)
    → length before ≡ j → j < 513 → first_row 0 s p j ≡ row_or j (first (same_object z) Some None 0 before)
unfolding first_row kept_parts object_cells
row_is s p f j before z rest k e w l h =
    let q : Nth f.parts j z = record { front = before; rest = rest; whole = w; place = l } in
    let g : Goods s (object_words (before ++ (z ∷ rest))) = subst (λ (os : List Object). Goods s (object_words os)) w (part_good s f (whole k).good) in
    let c₀ : get_or p (j * 10 + 0) 0 ≡ kind_number z.kind = row_cell_lem 513 f.parts p j 0 z e q h (omega arith) in
    let c₃ : get_or p (j * 10 + 3) 0 ≡ z.name.place = row_cell_lem 513 f.parts p j 3 z e q h (omega arith) in
    let c₄ : get_or p (j * 10 + 4) 0 ≡ z.name.length = row_cell_lem 513 f.parts p j 4 z e q h (omega arith) in
    ap (row_or j)
    (ap (λ (n : ℕ). find_named s p 10 j 0 n 3 (get_or p (j * 10 + 3) 0) (get_or p (j * 10 + 4) 0) 0) c₀
    ∙ ap₂ (λ (a b : ℕ). find_named s p 10 j 0 (kind_number z.kind) 3 a b 0) c₃ c₄
    ∙ find_in_rows 513 f.parts s p before (z ∷ rest) j (kind_number z.kind) z.name.place z.name.length e w (sym l) (omega arith)
    ∙ object_tests s z (good_name s before z rest g) 0 before (z ∷ rest) g)

-- Whether a part is the first of its object -------------------------------------------------------------------------------------------------------

new_row : (z : Object) (before : List Object) (j : ℕ) → used z before ≡ false → row_or j (first (same_object z) Some None 0 before) ≡ j
unfolding row_or
new_row z before j u = ap (row_or j) (not_found (first (same_object z) Some None 0 before) (found_used z 0 before ∙ u))

old_row : (z : Object) (before : List Object) (j : ℕ) → length before ≡ j → used z before ≡ true → row_or j (first (same_object z) Some None 0 before) ≡ j → ⊥
unfolding row_or
old_row z before j l u e = go (first (same_object z) Some None 0 before) (found_used z 0 before ∙ u) (λ i h. found_inside (same_object z) before i h) e
  where
    go : (f : Found) → is_found f ≡ true → ((i : ℕ) → f ≡ Some i → i < length before) → row_or j f ≡ j → ⊥
    go (Some i) t h q = let n = h i refl in omega arith
    go None t h q = false≢true t

-- By the cell of a part's row.
module _ (j c : ℕ) (before : List Object) (z : Object) (e : c ≡ row_or j (first (same_object z) Some None 0 before)) where
  pub new_by : length before ≡ j → c ≡ j → used z before ≡ false
  new_by l h = go (used z before) (λ u. old_row z before j l u (sym e ∙ h))
    where
      go : (b : Bool) → (b ≡ true → ⊥) → b ≡ false
      go true h = absurd (h refl)
      go false h = refl

  pub old_by : (c ≡ j → ⊥) → used z before ≡ true
  old_by h = go (used z before) (λ u. h (e ∙ new_row z before j u))
    where
      go : (b : Bool) → (b ≡ false → ⊥) → b ≡ true
      go true h = refl
      go false h = absurd (h refl)

module _ {s p st x : List ℕ} {n : ℕ} {f : File} (P : Parted s p st x n f) where
  -- The cell of a part's row.
  cell_is : (j : ℕ) (before : List Object) (z : Object) (rest : List Object) → f.parts ≡ before ++ (z ∷ rest) → length before ≡ j
      → get_or x j 0 ≡ row_or j (first (same_object z) Some None 0 before)
  cell_is j before z rest w l =
      let m = P.parts in
      let c = P.parts_fit in
      let a : length f.parts ≡ length (before ++ (z ∷ rest)) = ap (λ (k : List Object). length k) w in
      let b = length-append before (z ∷ rest) in
      P.firsts j (omega arith) ∙ row_is s p f j before z rest P.situation P.in_parts w l (omega arith)

  pub is_new : (j : ℕ) (before : List Object) (z : Object) (rest : List Object) → f.parts ≡ before ++ (z ∷ rest) → length before ≡ j → get_or x j 0 ≡ j → used z before ≡ false
  is_new j before z rest w l e = new_by j (get_or x j 0) before z (cell_is j before z rest w l) l e

  pub is_old : (j : ℕ) (before : List Object) (z : Object) (rest : List Object) → f.parts ≡ before ++ (z ∷ rest) → length before ≡ j → (get_or x j 0 ≡ j → ⊥) → used z before ≡ true
  is_old j before z rest w l e = old_by j (get_or x j 0) before z (cell_is j before z rest w l) e

-- Whether a part belongs to the object whose first part is y ---------------------------------------------------------------------------------------

data Behind (a : List Object) (z : Object) (front : List Object) (y : Object) : Type 0 where
  itself : a ≡ front → z ≡ y → Behind a z front y
  later : (mid : List Object) → a ≡ front ++ (y ∷ mid) → Behind a z front y

behind_more : {a : List Object} {z : Object} {front : List Object} {y : Object} (v : Object) → Behind a z front y → Behind (v ∷ a) z (v ∷ front) y
behind_more v (itself e g) = itself (ap (λ (l : List Object). v ∷ l) e) g
behind_more v (later mid e) = later mid (ap (λ (l : List Object). v ∷ l) e)

behind : (a : List Object) (z : Object) (b front : List Object) (y : Object) (rest : List Object) → a ++ (z ∷ b) ≡ front ++ (y ∷ rest) → length front ≤ length a → Behind a z front y
behind [] z b [] y rest e n = let t : z ≡ y = cc in itself refl t
behind [] z b (w ∷ front) y rest e n = absurd (omega arith)
behind (v ∷ a) z b [] y rest e n = let t : v ≡ y = cc in later a (ap (λ (w : Object). w ∷ a) t)
behind (v ∷ a) z b (w ∷ front) y rest e n =
    let t : a ++ (z ∷ b) ≡ front ++ (y ∷ rest) = cc in
    let u : v ≡ w = cc in
    subst (λ (o : Object). Behind (v ∷ a) z (o ∷ front) y) u (behind_more v (behind a z b front y rest t (omega arith)))

module _ {s p st x : List ℕ} {n : ℕ} {f : File} (P : Parted s p st x n f) {i : ℕ} {y : Object} (q : FirstAt f i y) {j : ℕ} {z : Object} (r : Nth f.parts j z) (h : i ≤ j) where
  place_of : Behind r.front z q.front y
  place_of =
      let a = q.place in
      let b = r.place in
      behind r.front z r.rest q.front y q.rest (sym r.whole ∙ q.whole) (omega arith)

  by_cell : get_or x j 0 ≡ row_or j (first (same_object z) Some None 0 r.front)
  by_cell = cell_is P j r.front z r.rest r.whole r.place

  found_here : (mid : List Object) → r.front ≡ q.front ++ (y ∷ mid) → same_object y z ≡ true → get_or x j 0 ≡ i
  unfolding row_or
  found_here mid e t =
      let u : is_found (first (same_object z) Some None 0 q.front) ≡ false = found_used z 0 q.front ∙ sym (used_alike y z q.front (same_alike y z t)) ∙ q.new in
      let v = first_at (same_object z) 0 q.front y mid u (same_swap z y ∙ t) in
      let w : 0 + length q.front ≡ i = let a = q.place in omega arith in
      by_cell ∙ ap (λ (l : List Object). row_or j (first (same_object z) Some None 0 l)) e ∙ ap (row_or j) v ∙ w

  of_itself : r.front ≡ q.front → z ≡ y → get_or x j 0 ≡ i
  of_itself e g =
      let a = q.place in
      let b = r.place in
      let c : length r.front ≡ length q.front = ap (λ (l : List Object). length l) e in
      let d : j ≡ i = omega arith in
      by_cell ∙ new_row z r.front j (ap (λ (o : Object). used o r.front) g ∙ ap (used y) e ∙ q.new) ∙ d

  pub no_part : (get_or x j 0 ≡ i → ⊥) → same_object y z ≡ false
  no_part e = go (same_object y z) place_of refl
    where
      go : (b : Bool) → Behind r.front z q.front y → same_object y z ≡ b → b ≡ false
      go true (itself a g) t = absurd (e (of_itself a g))
      go true (later mid a) t = absurd (e (found_here mid a t))
      go false k t = refl

  pub a_part : get_or x j 0 ≡ i → same_object y z ≡ true
  unfolding row_or
  a_part e = go place_of
    where
      seen : (mid : List Object) → r.front ≡ q.front ++ (y ∷ mid) → (g : Found) → first (same_object z) Some None 0 r.front ≡ g → row_or j g ≡ i → same_object z y ≡ true
      seen mid a (Some k) t u =
          let b = q.place in
          let c : k ≡ length q.front = omega arith in
          at_first (same_object z) q.front y mid (ap (first (same_object z) Some None 0) (sym a) ∙ t ∙ ap Some c)
      seen mid a None t u =
          let b = q.place in
          let c = r.place in
          let d = length-append q.front (y ∷ mid) in
          let g : length r.front ≡ length (q.front ++ (y ∷ mid)) = ap (λ (l : List Object). length l) a in
          absurd (omega arith)

      go : Behind r.front z q.front y → same_object y z ≡ true
      go (itself a g) = ap (same_object y) g ∙ same_itself y
      go (later mid a) = same_swap y z ∙ seen mid a (first (same_object z) Some None 0 r.front) refl (sym by_cell ∙ e)
