-- Where an attribute is defined first in its scope: what the rows of the definitions tell is what the definitions tell. Assumes nothing.
use mathlib.Core.Path.{◌≡◌, refl, sym, ◌∙◌, ap, ap₂, subst}
use mathlib.Core.List.{List, [], ◌∷◌, ◌++◌, append_assoc, append-nil}
use mathlib.Core.Bool.{Bool, true, false, false≢true}
use Prim.Native.Nat.{ℕ, ◌+◌, ◌*◌, ◌≤◌, ◌<◌, min}
use native.Mathlib.Omega.{arith}
use lib.ListN.{length, get_or, take, drop, length-append, length-take, take-append-drop}
use lib.Dec.{eqb}
use borrow.Author.Tests.{eqb-true}
use Rattle.token.specs.Find.{pick, both}
use Rattle.token.specs.Words.{same}
use Rattle.token.proofs.Bytes.{neither_first, neither_second}
use Rattle.rows.specs.Found.{Found}
use Rattle.std.specs.Prelude.{Some, None}
use Rattle.rows.proofs.Walks.{first, any_of}
use Rattle.rows.specs.Search.{find_row, find_named, find_from, has_key}
use Rattle.rows.proofs.Searches.{first_is, first_nothing}
use Rattle.meaning.specs.Syntax.{File}
use Rattle.meaning.specs.Words.{alike}
use Rattle.layout.specs.Kept.{Entry, spec_entries, kept_definitions, definition_cells}
use Rattle.scopes.specs.Situations.{Situation, Nth}
use Rattle.scopes.proofs.Goodness.{Good}
use Rattle.scopes.proofs.Rooms.{definition_cell}
use Rattle.scopes.proofs.Finding.{is_row, find_in_definitions, seek_all, nth_front, below_front}
use Rattle.scopes.proofs.Descents.{In, here, there, nth_in, entry_facts}
use Rattle.defining_checks.specs.Listing.{keep_if, under_of}
use Rattle.causes.specs.Firsts.{name_at, like_row, first_like}
use Rattle.causes.specs.Causes.{first_defined, defined_at, defined_first}

-- By the definitions -----------------------------------------------------------------------------------------------------------------------

first_none : (p : ℕ) (b l : List Entry) → any_of (defined_at p) l ≡ false → defined_first p b l ≡ 0
unfolding defined_first any_of
first_none p b [] e = refl
first_none p b (x ∷ l) e =
    ap (λ (c : Bool). pick c (first_defined x.definition.name (under_of x.under.place b)) (defined_first p (b ++ (x ∷ [])) l)) (neither_first (defined_at p x) (any_of (defined_at p) l) e)
    ∙ first_none p (b ++ (x ∷ [])) l (neither_second (defined_at p x) (any_of (defined_at p) l) e)

first_at : (p : ℕ) (b a : List Entry) (x : Entry) (c : List Entry) → any_of (defined_at p) a ≡ false → defined_at p x ≡ true
    → defined_first p b (a ++ (x ∷ c)) ≡ first_defined x.definition.name (under_of x.under.place (b ++ a))
unfolding defined_first any_of
first_at p b [] x c n h =
    ap (λ (t : Bool). pick t (first_defined x.definition.name (under_of x.under.place b)) (defined_first p (b ++ (x ∷ [])) c)) h
    ∙ ap (λ (l : List Entry). first_defined x.definition.name (under_of x.under.place l)) (sym (append-nil b))
first_at p b (z ∷ a) x c n h =
    ap (λ (t : Bool). pick t (first_defined z.definition.name (under_of z.under.place b)) (defined_first p (b ++ (z ∷ [])) (a ++ (x ∷ c)))) (neither_first (defined_at p z) (any_of (defined_at p) a) n)
    ∙ first_at p (b ++ (z ∷ [])) a x c (neither_second (defined_at p z) (any_of (defined_at p) a) n) h
    ∙ ap (λ (l : List Entry). first_defined x.definition.name (under_of x.under.place l)) (append_assoc b (z ∷ []) a)

-- A row's test by the names themselves.
module _ (s : List ℕ) (x : Entry) (g : Good s x.definition.name) where
  abbrev test : Entry → Bool
  test = is_row s x.under.place x.definition.name.place x.definition.name.length

  test_is : (y : Entry) → Good s y.definition.name → test y ≡ both (eqb y.under.place x.under.place) (alike y.definition.name x.definition.name)
  unfolding is_row alike
  test_is y h = ap (both (eqb y.under.place x.under.place)) (ap₂ same (sym h.read.bytes) (sym g.read.bytes))

  -- A definition that passes is the first,
  kept : (y : Entry) (l : List Entry) (a b : Bool) → both a b ≡ true → eqb y.under.place x.under.place ≡ a → alike y.definition.name x.definition.name ≡ b
      → first_defined x.definition.name (under_of x.under.place (y ∷ l)) ≡ y.definition.name.place
  unfolding first_defined under_of keep_if
  kept y l true true e u v =
      ap (λ (c : Bool). first_defined x.definition.name (keep_if c y.definition ++ under_of x.under.place l)) u
      ∙ ap (λ (c : Bool). pick c y.definition.name.place (first_defined x.definition.name (under_of x.under.place l))) v
  kept y l true false e u v = absurd (false≢true e)
  kept y l false b e u v = absurd (false≢true e)

  -- one that does not is passed over.
  passed : (y : Entry) (l : List Entry) (a b : Bool) → both a b ≡ false → eqb y.under.place x.under.place ≡ a → alike y.definition.name x.definition.name ≡ b
      → first_defined x.definition.name (under_of x.under.place (y ∷ l)) ≡ first_defined x.definition.name (under_of x.under.place l)
  unfolding first_defined under_of keep_if
  passed y l true true e u v = absurd (false≢true (sym e))
  passed y l true false e u v =
      ap (λ (c : Bool). first_defined x.definition.name (keep_if c y.definition ++ under_of x.under.place l)) u
      ∙ ap (λ (c : Bool). pick c y.definition.name.place (first_defined x.definition.name (under_of x.under.place l))) v
  passed y l false b e u v = ap (λ (c : Bool). first_defined x.definition.name (keep_if c y.definition ++ under_of x.under.place l)) u

  none_defined : first_defined x.definition.name (under_of x.under.place []) ≡ 0
  unfolding first_defined under_of
  none_defined = refl

  lacks : (l : List Entry) → ((y : Entry) → In y l → Good s y.definition.name) → any_of test l ≡ false → first_defined x.definition.name (under_of x.under.place l) ≡ 0
  unfolding any_of
  lacks [] h e = none_defined
  lacks (y ∷ l) h e =
      passed y l (eqb y.under.place x.under.place) (alike y.definition.name x.definition.name) (sym (test_is y (h y (here refl))) ∙ neither_first (test y) (any_of test l) e) refl refl
      ∙ lacks l (λ z m. h z (there m)) (neither_second (test y) (any_of test l) e)

  finds : (a : List Entry) (y : Entry) (b : List Entry) → ((z : Entry) → In z (a ++ (y ∷ b)) → Good s z.definition.name) → any_of test a ≡ false → test y ≡ true
      → first_defined x.definition.name (under_of x.under.place (a ++ (y ∷ b))) ≡ y.definition.name.place
  unfolding any_of
  finds [] y b h n e = kept y b (eqb y.under.place x.under.place) (alike y.definition.name x.definition.name) (sym (test_is y (h y (here refl))) ∙ e) refl refl
  finds (z ∷ a) y b h n e =
      passed z (a ++ (y ∷ b)) (eqb z.under.place x.under.place) (alike z.definition.name x.definition.name) (sym (test_is z (h z (here refl))) ∙ neither_first (test z) (any_of test a) n) refl refl
      ∙ finds a y b (λ w m. h w (there m)) (neither_second (test z) (any_of test a) n) e

-- By the rows ------------------------------------------------------------------------------------------------------------------------------

in_front : (x : Entry) (a b : List Entry) → In x a → In x (a ++ b)
in_front x (y ∷ a) b (here e) = here e
in_front x (y ∷ a) b (there m) = there (in_front x a b m)
in_front x [] b x'' = elim x'' [ ]

module _ (s d : List ℕ) (f : File) (K : Situation s f) (e : d ≡ kept_definitions f) where
  cells_in : (j : ℕ) (x : Entry) → Nth (spec_entries f.specs) j x → j < 513
      → (get_or d (j * 19 + 0) 0 ≡ x.under.place) × (get_or d (j * 19 + 2) 0 ≡ x.definition.name.place) × (get_or d (j * 19 + 3) 0 ≡ x.definition.name.length)
  unfolding definition_cells
  cells_in j x q h = (definition_cell f d j 0 x e q h (omega arith), definition_cell f d j 2 x e q h (omega arith), definition_cell f d j 3 x e q h (omega arith))

  row_at : (front rest : List Entry) (n place : ℕ) → spec_entries f.specs ≡ front ++ rest → n ≡ length front → n ≤ 513
      → find_row d 19 n 2 place 0 ≡ first (defined_at place) Some None 0 front
  unfolding find_row has_key defined_at
  row_at front rest n place w k h =
      ap (λ (m : ℕ). find_from (λ j. has_key d (j * 19) 2 place) m 0) k
      ∙ seek_all (defined_at place) (λ j. has_key d (j * 19) 2 place) front (λ a x b g.
      let l = below_front front a x b g in
      ap (λ (i : ℕ). eqb i place) (cells_in (length a) x (nth_front rest w a x b g) (omega arith)).1)

  module _ (front : List Entry) (x : Entry) (rest : List Entry) (w : spec_entries f.specs ≡ front ++ (x ∷ rest)) (h : length front < 513) where
    own : Nth (spec_entries f.specs) (length front) x
    own = record { front = front; rest = rest; whole = w; place = refl }

    good : Good s x.definition.name
    good = (entry_facts K (nth_in own)).facts.name

    goods : (y : Entry) → In y front → Good s y.definition.name
    goods y m = (entry_facts K (subst (In y) (sym w) (in_front y front (x ∷ rest) m))).facts.name

    found : find_named s d 19 (length front) 0 (get_or d (length front * 19 + 0) 0) 2 x.definition.name.place (get_or d (length front * 19 + 3) 0) 0
        ≡ first (test s x good) Some None 0 front
    found =
        let j = length front in
        let c = cells_in j x own h in
        ap₂ (λ (k n : ℕ). find_named s d 19 j 0 k 2 x.definition.name.place n 0) c.0 c.2
        ∙ find_in_definitions f s d front (x ∷ rest) j x.under.place x.definition.name.place x.definition.name.length e w refl (omega arith)

    by_search : (u : Found) → first (test s x good) Some None 0 front ≡ u → name_at d 19 2 u ≡ first_defined x.definition.name (under_of x.under.place front)
    unfolding name_at
    by_search (Some i) q =
        let o = first_is (test s x good) 0 front i q in
        let pl = o.place in
        let a : length front ≡ length (o.front ++ (o.row ∷ o.rest)) = ap (λ (v : List Entry). length v) o.whole in
        let b = length-append o.front (o.row ∷ o.rest) in
        let n : Nth (spec_entries f.specs) i o.row = record {
          front = o.front;
          rest = o.rest ++ (x ∷ rest);
          whole = w ∙ ap (λ (v : List Entry). v ++ (x ∷ rest)) o.whole ∙ append_assoc o.front (o.row ∷ o.rest) (x ∷ rest);
          place = omega (arith, pl);
        } in
        (cells_in i o.row n (omega (arith, pl, a, b))).1
        ∙ sym (ap (λ (l : List Entry). first_defined x.definition.name (under_of x.under.place l)) o.whole
        ∙ finds s x good o.front o.row o.rest (λ y m. goods y (subst (In y) (sym o.whole) m)) o.fails o.holds)
    by_search None q = sym (lacks s x good front goods (first_nothing (test s x good) 0 front q))

    like_name : name_at d 19 2 (find_named s d 19 (length front) 0 (get_or d (length front * 19 + 0) 0) 2 x.definition.name.place (get_or d (length front * 19 + 3) 0) 0)
        ≡ first_defined x.definition.name (under_of x.under.place front)
    like_name = ap (name_at d 19 2) found ∙ by_search (first (test s x good) Some None 0 front) refl

  module _ (n place : ℕ) (m : n ≡ min (length (spec_entries f.specs)) 513) where
    by_row : (u : Found) → first (defined_at place) Some None 0 (take 513 (spec_entries f.specs)) ≡ u
        → like_row s d 19 0 2 place u ≡ defined_first place [] (take 513 (spec_entries f.specs))
    unfolding like_row defined_at
    by_row (Some j) q =
        let o = first_is (defined_at place) 0 (take 513 (spec_entries f.specs)) j q in
        let pl = o.place in
        let a : length (take 513 (spec_entries f.specs)) ≡ length (o.front ++ (o.row ∷ o.rest)) = ap (λ (v : List Entry). length v) o.whole in
        let b = length-append o.front (o.row ∷ o.rest) in
        let t = length-take 513 (spec_entries f.specs) in
        let i : j ≡ length o.front = omega (arith, pl) in
        let v : place ≡ o.row.definition.name.place = sym (eqb-true o.row.definition.name.place place o.holds) in
        let w : spec_entries f.specs ≡ o.front ++ (o.row ∷ (o.rest ++ drop 513 (spec_entries f.specs))) =
        sym (take-append-drop 513 (spec_entries f.specs)) ∙ ap (λ (y : List Entry). y ++ drop 513 (spec_entries f.specs)) o.whole
        ∙ append_assoc o.front (o.row ∷ o.rest) (drop 513 (spec_entries f.specs)) in
        ap₂ (λ (k l : ℕ). name_at d 19 2 (find_named s d 19 k 0 (get_or d (k * 19 + 0) 0) 2 l (get_or d (k * 19 + 3) 0) 0)) i v
        ∙ like_name o.front o.row (o.rest ++ drop 513 (spec_entries f.specs)) w (omega (arith, a, b, t))
        ∙ sym (ap (defined_first place []) o.whole ∙ first_at place [] o.front o.row o.rest o.fails o.holds)
    by_row None q = sym (first_none place [] (take 513 (spec_entries f.specs)) (first_nothing (defined_at place) 0 (take 513 (spec_entries f.specs)) q))

    -- What the code finds is the place of the first definition of the scope with the name of the one at the place.
    pub cause_is : first_like s d 19 n 0 2 place ≡ defined_first place [] (take 513 (spec_entries f.specs))
    unfolding first_like
    cause_is =
        let t = length-take 513 (spec_entries f.specs) in
        ap (like_row s d 19 0 2 place)
        (row_at (take 513 (spec_entries f.specs)) (drop 513 (spec_entries f.specs)) n place (sym (take-append-drop 513 (spec_entries f.specs))) (omega (arith, m, t)) (omega (arith, m)))
        ∙ by_row (first (defined_at place) Some None 0 (take 513 (spec_entries f.specs))) refl
