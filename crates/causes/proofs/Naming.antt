-- Where a name stands first: what the rows of the parts tell is what the parts tell. Assumes nothing.
use mathlib.Core.Path.{◌≡◌, refl, sym, ◌∙◌, ap, ap₂, subst}
use mathlib.Core.List.{List, [], ◌∷◌, ◌++◌, append_assoc, append-nil}
use mathlib.Core.Bool.{Bool, true, false}
use mathlib.Core.Option.{none, some}
use Prim.Native.Nat.{ℕ, suc, ◌+◌, ◌*◌, ◌≤◌, ◌<◌, min}
use native.Mathlib.Omega.{arith}
use lib.ListN.{length, get_or, take, drop, length-append, length-take, take-append-drop}
use lib.Dec.{eqb}
use borrow.Author.Tests.{eq-eqb, eqb-true}
use Rattle.token.specs.Find.{pick, both}
use Rattle.token.specs.Words.{same}
use Rattle.token.specs.Tokens.{part_of}
use Rattle.token.proofs.Bytes.{neither_first, neither_second}
use Rattle.rows.specs.Found.{Found}
use Rattle.std.specs.Prelude.{Some, None}
use Rattle.rows.proofs.Walks.{first, any_of}
use Rattle.rows.specs.Search.{find_row, find_named, find_from, is_named, has_key}
use Rattle.rows.proofs.Searches.{first_is, first_nothing}
use Rattle.rows.proofs.Starts.{cell_past}
use Rattle.meaning.specs.Syntax.{Word, Object, File}
use Rattle.meaning.specs.Words.{alike}
use Rattle.meaning.proofs.Sites.{statement_words, object_words}
use Rattle.layout.specs.Kept.{kept_parts, object_cells}
use Rattle.scopes.specs.Situations.{Situation, Nth}
use Rattle.scopes.proofs.Rooms.{row_cell_lem}
use Rattle.scopes.proofs.Finding.{seek_all, nth_front, below_front}
use Rattle.scopes.proofs.Goodness.{Good, Goods, good_back, part_good}
use Rattle.scopes.proofs.Descents.{whole}
use Rattle.merging.proofs.Places.{good_name}
use Rattle.causes.specs.Firsts.{name_at, like_row, first_like}
use Rattle.causes.specs.Causes.{first_named, name_place, stands_at, named_first}

-- By the parts -----------------------------------------------------------------------------------------------------------------------------

unfoldable same_name : Word → Object → Bool
same_name t y = alike y.name t

named_none : (t : Word) (l : List Object) → any_of (same_name t) l ≡ false → first_named t l ≡ none
unfolding first_named any_of same_name
named_none t [] e = refl
named_none t (y ∷ l) e =
    ap (λ (b : Bool). pick b (some y) (first_named t l)) (neither_first (alike y.name t) (any_of (same_name t) l) e)
    ∙ named_none t l (neither_second (alike y.name t) (any_of (same_name t) l) e)

named_at : (t : Word) (a : List Object) (y : Object) (b : List Object) → any_of (same_name t) a ≡ false → same_name t y ≡ true → first_named t (a ++ (y ∷ b)) ≡ some y
unfolding first_named any_of same_name
named_at t [] y b n h = ap (λ (c : Bool). pick c (some y) (first_named t b)) h
named_at t (z ∷ a) y b n h =
    ap (λ (c : Bool). pick c (some z) (first_named t (a ++ (y ∷ b)))) (neither_first (alike z.name t) (any_of (same_name t) a) n)
    ∙ named_at t a y b (neither_second (alike z.name t) (any_of (same_name t) a) n) h

first_none : (p : ℕ) (b l : List Object) → any_of (stands_at p) l ≡ false → named_first p b l ≡ 0
unfolding named_first any_of
first_none p b [] e = refl
first_none p b (x ∷ l) e =
    ap (λ (c : Bool). pick c (name_place (first_named x.name b)) (named_first p (b ++ (x ∷ [])) l)) (neither_first (stands_at p x) (any_of (stands_at p) l) e)
    ∙ first_none p (b ++ (x ∷ [])) l (neither_second (stands_at p x) (any_of (stands_at p) l) e)

first_at : (p : ℕ) (b a : List Object) (x : Object) (c : List Object) → any_of (stands_at p) a ≡ false → stands_at p x ≡ true
    → named_first p b (a ++ (x ∷ c)) ≡ name_place (first_named x.name (b ++ a))
unfolding named_first any_of
first_at p b [] x c n h =
    ap (λ (t : Bool). pick t (name_place (first_named x.name b)) (named_first p (b ++ (x ∷ [])) c)) h
    ∙ ap (λ (l : List Object). name_place (first_named x.name l)) (sym (append-nil b))
first_at p b (z ∷ a) x c n h =
    ap (λ (t : Bool). pick t (name_place (first_named z.name b)) (named_first p (b ++ (z ∷ [])) (a ++ (x ∷ c)))) (neither_first (stands_at p z) (any_of (stands_at p) a) n)
    ∙ first_at p (b ++ (z ∷ [])) a x c (neither_second (stands_at p z) (any_of (stands_at p) a) n) h
    ∙ ap (λ (l : List Object). name_place (first_named x.name l)) (append_assoc b (z ∷ []) a)

-- By the rows ------------------------------------------------------------------------------------------------------------------------------

unfoldable is_name : List ℕ → (at len : ℕ) → Object → Bool
is_name s at len y = same (part_of s y.name.place y.name.length) (part_of s at len)

past_cells : (s l : List ℕ) (a c k m m2 p n y z : ℕ) → length l ≤ c → k ≡ 0 → get_or l (a + m) 0 ≡ y → get_or l (a + m2) 0 ≡ z
    → is_named s l a c k m m2 p n ≡ same (part_of s y z) (part_of s p n)
unfolding is_named has_key
past_cells s l a c k m m2 p n y z h e f g =
    ap₂ both (ap₂ eqb (cell_past l (a + c) (omega arith)) e ∙ eq-eqb 0 0 refl) (ap₂ (λ (u v : ℕ). same (part_of s u v) (part_of s p n)) f g)

module _ (s p : List ℕ) (f : File) (K : Situation s f) (e : p ≡ kept_parts f) (z : length p ≤ 5130) where
  name_in : (j : ℕ) (x : Object) → Nth f.parts j x → j < 513 → (get_or p (j * 10 + 3) 0 ≡ x.name.place) × (get_or p (j * 10 + 4) 0 ≡ x.name.length)
  unfolding kept_parts object_cells
  name_in j x q h = (row_cell_lem 513 f.parts p j 3 x e q h (omega arith), row_cell_lem 513 f.parts p j 4 x e q h (omega arith))

  row_at : (front rest : List Object) (n place : ℕ) → f.parts ≡ front ++ rest → n ≡ length front → n ≤ 513
      → find_row p 10 n 3 place 0 ≡ first (stands_at place) Some None 0 front
  unfolding find_row has_key stands_at
  row_at front rest n place w k h =
      ap (λ (m : ℕ). find_from (λ j. has_key p (j * 10) 3 place) m 0) k
      ∙ seek_all (stands_at place) (λ j. has_key p (j * 10) 3 place) front (λ a x b g.
      let l = below_front front a x b g in
      ap (λ (i : ℕ). eqb i place) (name_in (length a) x (nth_front rest w a x b g) (omega arith)).0)

  find_by_name : (front rest : List Object) (n key at len : ℕ) → key ≡ 0 → f.parts ≡ front ++ rest → n ≡ length front → n ≤ 513
      → find_named s p 10 n 5130 key 3 at len 0 ≡ first (is_name s at len) Some None 0 front
  unfolding find_named is_name
  find_by_name front rest n key at len e₀ w k h =
      ap (λ (m : ℕ). find_from (λ j. is_named s p (j * 10) 5130 key 3 4 at len) m 0) k
      ∙ seek_all (is_name s at len) (λ j. is_named s p (j * 10) 5130 key 3 4 at len) front (λ a x b g.
      let l = below_front front a x b g in
      let c = name_in (length a) x (nth_front rest w a x b g) (omega arith) in
      past_cells s p (length a * 10) 5130 key 3 4 at len x.name.place x.name.length z e₀ c.0 c.1)

  name_tests : (t : Word) → Good s t → (i : ℕ) (l rest : List Object) → Goods s (object_words (l ++ rest))
      → first (is_name s t.place t.length) Some None i l ≡ first (same_name t) Some None i l
  unfolding first object_words is_name same_name alike
  name_tests t g i [] rest h = refl
  name_tests t g i (y ∷ l) rest h =
      ap₂ (λ (b : Bool) (u : Found). pick b (Some i) u) (ap₂ same (sym h.1.0.read.bytes) (sym g.read.bytes))
      (name_tests t g (suc i) l rest (good_back s (statement_words y.statements) (object_words (l ++ rest)) h.1.1))

  module _ (front : List Object) (x : Object) (rest : List Object) (w : f.parts ≡ front ++ (x ∷ rest)) (h : length front < 513) where
    found : find_named s p 10 (length front) 5130 (get_or p (length front * 10 + 5130) 0) 3 x.name.place (get_or p (length front * 10 + 4) 0) 0
        ≡ first (same_name x.name) Some None 0 front
    found =
        let j = length front in
        let g : Goods s (object_words (front ++ (x ∷ rest))) = subst (λ (os : List Object). Goods s (object_words os)) w (part_good s f (whole K).good) in
        ap (λ (n : ℕ). find_named s p 10 j 5130 (get_or p (j * 10 + 5130) 0) 3 x.name.place n 0) (name_in j x (record { front = front; rest = rest; whole = w; place = refl }) h).1
        ∙ find_by_name front (x ∷ rest) j (get_or p (j * 10 + 5130) 0) x.name.place x.name.length (cell_past p (j * 10 + 5130) (omega arith)) w refl (omega arith)
        ∙ name_tests x.name (good_name s front x rest g) 0 front (x ∷ rest) g

    by_search : (u : Found) → first (same_name x.name) Some None 0 front ≡ u → name_at p 10 3 u ≡ name_place (first_named x.name front)
    unfolding name_at name_place
    by_search (Some i) q =
        let o = first_is (same_name x.name) 0 front i q in
        let pl = o.place in
        let a : length front ≡ length (o.front ++ (o.row ∷ o.rest)) = ap (λ (v : List Object). length v) o.whole in
        let b = length-append o.front (o.row ∷ o.rest) in
        let n : Nth f.parts i o.row = record {
          front = o.front;
          rest = o.rest ++ (x ∷ rest);
          whole = w ∙ ap (λ (v : List Object). v ++ (x ∷ rest)) o.whole ∙ append_assoc o.front (o.row ∷ o.rest) (x ∷ rest);
          place = omega (arith, pl);
        } in
        (name_in i o.row n (omega (arith, pl, a, b))).0
        ∙ sym (ap name_place (ap (first_named x.name) o.whole ∙ named_at x.name o.front o.row o.rest o.fails o.holds))
    by_search None q = sym (ap name_place (named_none x.name front (first_nothing (same_name x.name) 0 front q)))

    like_name : name_at p 10 3 (find_named s p 10 (length front) 5130 (get_or p (length front * 10 + 5130) 0) 3 x.name.place (get_or p (length front * 10 + 4) 0) 0)
        ≡ name_place (first_named x.name front)
    like_name = ap (name_at p 10 3) found ∙ by_search (first (same_name x.name) Some None 0 front) refl

  module _ (n place : ℕ) (m : n ≡ min (length f.parts) 513) where
    by_row : (u : Found) → first (stands_at place) Some None 0 (take 513 f.parts) ≡ u → like_row s p 10 5130 3 place u ≡ named_first place [] (take 513 f.parts)
    unfolding like_row stands_at
    by_row (Some j) q =
        let o = first_is (stands_at place) 0 (take 513 f.parts) j q in
        let pl = o.place in
        let a : length (take 513 f.parts) ≡ length (o.front ++ (o.row ∷ o.rest)) = ap (λ (v : List Object). length v) o.whole in
        let b = length-append o.front (o.row ∷ o.rest) in
        let t = length-take 513 f.parts in
        let i : j ≡ length o.front = omega (arith, pl) in
        let v : place ≡ o.row.name.place = sym (eqb-true o.row.name.place place o.holds) in
        let w : f.parts ≡ o.front ++ (o.row ∷ (o.rest ++ drop 513 f.parts)) =
        sym (take-append-drop 513 f.parts) ∙ ap (λ (y : List Object). y ++ drop 513 f.parts) o.whole ∙ append_assoc o.front (o.row ∷ o.rest) (drop 513 f.parts) in
        ap₂ (λ (k l : ℕ). name_at p 10 3 (find_named s p 10 k 5130 (get_or p (k * 10 + 5130) 0) 3 l (get_or p (k * 10 + 4) 0) 0)) i v
        ∙ like_name o.front o.row (o.rest ++ drop 513 f.parts) w (omega (arith, a, b, t))
        ∙ sym (ap (named_first place []) o.whole ∙ first_at place [] o.front o.row o.rest o.fails o.holds)
    by_row None q = sym (first_none place [] (take 513 f.parts) (first_nothing (stands_at place) 0 (take 513 f.parts) q))

    -- What the code finds is the place of the first part with the name of the part at the place.
    pub cause_is : first_like s p 10 n 5130 3 place ≡ named_first place [] (take 513 f.parts)
    unfolding first_like
    cause_is =
        let t = length-take 513 f.parts in
        ap (like_row s p 10 5130 3 place) (row_at (take 513 f.parts) (drop 513 f.parts) n place (sym (take-append-drop 513 f.parts)) (omega (arith, m, t)) (omega (arith, m)))
        ∙ by_row (first (stands_at place) Some None 0 (take 513 f.parts)) refl
