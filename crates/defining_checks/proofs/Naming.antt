-- 8 and 9 at a name, by the rows before it: what the functions over names cite. Assumes nothing.
use mathlib.Core.Path.{◌≡◌, refl, sym, ◌∙◌, ap, ap₂, subst}
use mathlib.Core.List.{List, [], ◌∷◌, ◌++◌, append_assoc}
use mathlib.Core.Bool.{Bool, true, false, not, false≢true}
use Prim.Native.Nat.{ℕ, ◌+◌, ◌*◌, ◌≤◌, ◌<◌}
use native.Mathlib.Omega.{arith}
use lib.ListN.{length, get_or, length-append}
use lib.Dec.{eqb}
use borrow.Author.Tests.{eq-eqb, ne_eqb}
use Rattle.std.specs.Prelude.{None}
use Rattle.token.specs.Find.{pick, both, either}
use Rattle.token.specs.Words.{same}
use Rattle.token.specs.Tokens.{part_of}
use Rattle.rows.specs.Found.{Found}
use Rattle.std.specs.Prelude.{Some, None}
use Rattle.rows.proofs.Walks.{first, any_of}
use Rattle.rows.specs.Search.{find_named, find_from, is_named, has_key, is_found}
use Rattle.rows.specs.Order.{MaybeFault, fault_if}
use Rattle.rows.proofs.Searches.{found_first, first_found, nothing_none, none_nothing, first_any, first_is, first_nothing}
use Rattle.meaning.specs.Syntax.{Definition, File}
use Rattle.meaning.specs.Words.{alike}
use Rattle.meaning.specs.Defining.{defined_in, differs}
use Rattle.layout.specs.Kept.{Entry, spec_entries, kept_definitions, definition_cells}
use Rattle.scopes.specs.Situations.{Situation, Nth}
use Rattle.scopes.proofs.Goodness.{Good}
use Rattle.scopes.proofs.Rooms.{definition_cell}
use Rattle.scopes.proofs.Finding.{is_row, find_in_definitions, seek_all, nth_front, below_front}
use Rattle.scopes.proofs.Descents.{In, here, there, nth_in, entry_facts}
use Rattle.defining_checks.specs.Listing.{keep_if, under_of, others_of, others_for}
use Rattle.defining_checks.specs.Promises.{first_again, TypeFault}
use Rattle.token.proofs.Bytes.{neither_first, neither_second}

-- 8 at the name of row j: an earlier row under the same word has it.
abbrev pub AgainFault : (s d : List ℕ) → ℕ → MaybeFault → Type 0
AgainFault s d j r =
    (f : File) (x : Entry) → Situation s f → d ≡ kept_definitions f → (q : Nth (spec_entries f.specs) j x) → j < 513
    → r ≡ fault_if (defined_in x.definition.name (under_of x.under.place q.front)) 8 x.definition.name.place

-- A fault by what is found.
-- The rows before row j are rows of the text.
in_front : (x : Entry) (a b : List Entry) → In x a → In x (a ++ b)
in_front x (y ∷ a) b (here e) = here e
in_front x (y ∷ a) b (there m) = there (in_front x a b m)
in_front x [] b x'' = elim x'' [ ]

names_before : {s : List ℕ} {f : File} {j : ℕ} {x : Entry} → Situation s f → (q : Nth (spec_entries f.specs) j x) → (y : Entry) → In y q.front → Good s y.definition.name
names_before {x = x} st q y m = (entry_facts st (subst (In y) (sym q.whole) (in_front y q.front (x ∷ q.rest) m))).facts.name

-- 8 ------------------------------------------------------------------------------------------------------------------------------------------

again_any : (s : List ℕ) (x : Entry) → Good s x.definition.name → (E : List Entry) → ((y : Entry) → In y E → Good s y.definition.name)
    → any_of (is_row s x.under.place x.definition.name.place x.definition.name.length) E ≡ defined_in x.definition.name (under_of x.under.place E)
unfolding any_of is_row defined_in under_of keep_if alike
again_any s x g [] h = refl
again_any s x g (y ∷ E) h =
    ap₂ either (ap (both (eqb y.under.place x.under.place)) (ap₂ same (sym (h y (here refl)).read.bytes) (sym g.read.bytes))) (again_any s x g E (λ z m. h z (there m)))
    ∙ by (eqb y.under.place x.under.place)
  where
    by : (b : Bool) → either (both b (same y.definition.name.bytes x.definition.name.bytes)) (defined_in x.definition.name (under_of x.under.place E))
        ≡ defined_in x.definition.name (keep_if b y.definition ++ under_of x.under.place E)
    by true = refl
    by false = refl

pub again_is : (s d : List ℕ) (j u at len : ℕ) (z : Found) (r : MaybeFault) → u ≡ get_or d (j * 19 + 0) 0 → at ≡ get_or d (j * 19 + 2) 0 → len ≡ get_or d (j * 19 + 3) 0
    → z ≡ find_named s d 19 j 0 u 2 at len 0 → r ≡ fault_if (is_found z) 8 at → AgainFault s d j r
unfolding definition_cells
again_is s d j u at len z r e₀ e₂ e₃ k h f x st hd q l =
    let c₀ : u ≡ x.under.place = e₀ ∙ definition_cell f d j 0 x hd q l (omega arith) in
    let c₂ : at ≡ x.definition.name.place = e₂ ∙ definition_cell f d j 2 x hd q l (omega arith) in
    let c₃ : len ≡ x.definition.name.length = e₃ ∙ definition_cell f d j 3 x hd q l (omega arith) in
    let p = is_row s x.under.place x.definition.name.place x.definition.name.length in
    let v : is_found z ≡ defined_in x.definition.name (under_of x.under.place q.front) =
    ap is_found (k ∙ ap (λ y. find_named s d 19 j 0 y 2 at len 0) c₀ ∙ ap₂ (λ a b. find_named s d 19 j 0 x.under.place 2 a b 0) c₂ c₃
    ∙ find_in_definitions f s d q.front (x ∷ q.rest) j x.under.place x.definition.name.place x.definition.name.length hd q.whole (sym q.place) (omega arith))
    ∙ first_any p 0 q.front
    ∙ again_any s x (entry_facts st (nth_in q)).facts.name q.front (names_before st q) in
    h ∙ ap₂ (λ (b : Bool) (n : ℕ). fault_if b 8 n) v c₂

-- The search, from the cells of row j.
pub again_found : (s d : List ℕ) (j u at len : ℕ) (z : Found) → u ≡ get_or d (j * 19 + 0) 0 → at ≡ get_or d (j * 19 + 2) 0 → len ≡ get_or d (j * 19 + 3) 0
    → z ≡ find_named s d 19 j 0 u 2 at len 0 → z ≡ first_again s d j
unfolding first_again
again_found s d j u at len z e₀ e₂ e₃ k =
    k ∙ ap (λ y. find_named s d 19 j 0 y 2 at len 0) e₀ ∙ ap₂ (λ a b. find_named s d 19 j 0 (get_or d (j * 19 + 0) 0) 2 a b 0) e₂ e₃

-- 9 ------------------------------------------------------------------------------------------------------------------------------------------

-- Row i is under a value of the list with the key outer, other than the one at under, and has the name at a place.
unfoldable is_other : (s d : List ℕ) → (outer under at len i : ℕ) → Bool
is_other s d outer under at len i =
    both (both (eqb (get_or d (i * 19 + 13) 0) outer) (not (eqb (get_or d (i * 19 + 0) 0) under)))
    (same (part_of s (get_or d (i * 19 + 2) 0) (get_or d (i * 19 + 3) 0)) (part_of s at len))

-- The first such row from i on, below n.
unfoldable first_other : (s d : List ℕ) → (outer under at len n i : ℕ) → Found
first_other s d outer under at len n i = find_from (λ k. is_other s d outer under at len k) n i

-- Tests that agree below n find the same.
find_agree : (t u : ℕ → Bool) (n : ℕ) → ((k : ℕ) → k < n → t k ≡ u k) → find_from t n 0 ≡ find_from u n 0
find_agree t u n h = by (find_from t n 0) refl
  where
    by : (r : Found) → find_from t n 0 ≡ r → find_from t n 0 ≡ find_from u n 0
    by (Some j) e =
        let i = found_first t n 0 j e in
        let g = i.high in
        e ∙ sym (first_found u n 0 j (record { low = i.low; high = g; holds = sym (h j g) ∙ i.holds; fails = λ k a b. sym (h k (omega (arith, g))) ∙ i.fails k a b }))
    by None e = e ∙ sym (none_nothing u n 0 (λ k a b. sym (h k b) ∙ nothing_none t n 0 e k a b))

new_other : (a b c : Bool) → both b c ≡ false → both a c ≡ both (both a (not b)) c
new_other true true c e = e
new_other false true c e = refl
new_other true false c e = refl
new_other false false c e = refl

-- Where no row before row j under the same word has its name, the first row of the list that has it is under another value.
other_is : (s d : List ℕ) (j o u at len : ℕ) → find_named s d 19 j 0 u 2 at len 0 ≡ None → find_named s d 19 j 13 o 2 at len 0 ≡ first_other s d o u at len j 0
unfolding find_named is_named has_key first_other is_other
other_is s d j o u at len e =
    find_agree (λ i. is_named s d (i * 19) 13 o 2 3 at len) (λ i. is_other s d o u at len i) j (λ k h.
    new_other (eqb (get_or d (k * 19 + 13) 0) o) (eqb (get_or d (k * 19 + 0) 0) u) (same (part_of s (get_or d (k * 19 + 2) 0) (get_or d (k * 19 + 3) 0)) (part_of s at len))
    (nothing_none (λ i. is_named s d (i * 19) 0 u 2 3 at len) j 0 e k (omega arith) h))

-- The test of a row itself.
unfoldable is_other_row : List ℕ → (o p at len : ℕ) → Entry → Bool
is_other_row s o p at len y = both (both (eqb y.outer o) (not (eqb y.under.place p))) (same (part_of s y.definition.name.place y.definition.name.length) (part_of s at len))

other_cells : (s d : List ℕ) (o p at len i a b c n : ℕ) → get_or d (i * 19 + 13) 0 ≡ a → get_or d (i * 19 + 0) 0 ≡ b → get_or d (i * 19 + 2) 0 ≡ c → get_or d (i * 19 + 3) 0 ≡ n
    → is_other s d o p at len i ≡ both (both (eqb a o) (not (eqb b p))) (same (part_of s c n) (part_of s at len))
unfolding is_other
other_cells s d o p at len i a b c n e f g h = rw (e, f, g, h)

find_others : (f : File) (s d : List ℕ) (front rest : List Entry) (n o p at len : ℕ) → d ≡ kept_definitions f → spec_entries f.specs ≡ front ++ rest
    → n ≡ length front → n ≤ 513 → first_other s d o p at len n 0 ≡ first (is_other_row s o p at len) Some None 0 front
unfolding first_other is_other_row definition_cells
find_others f s d front rest n o p at len e w k h =
    ap (λ (m : ℕ). find_from (λ j. is_other s d o p at len j) m 0) k
    ∙ seek_all (is_other_row s o p at len) (λ j. is_other s d o p at len j) front (λ a x b g.
    let q = nth_front rest w a x b g in
    let l = below_front front a x b g in
    other_cells s d o p at len (length a) x.outer x.under.place x.definition.name.place x.definition.name.length
    (definition_cell f d (length a) 13 x e q (omega arith) (omega arith)) (definition_cell f d (length a) 0 x e q (omega arith) (omega arith))
    (definition_cell f d (length a) 2 x e q (omega arith) (omega arith)) (definition_cell f d (length a) 3 x e q (omega arith) (omega arith)))

module _ (s : List ℕ) (o p : ℕ) (d : Definition) (g : Good s d.name) where
  abbrev P : Entry → Bool
  P = is_other_row s o p d.name.place d.name.length

  other_alike : (y : Entry) → Good s y.definition.name → P y ≡ both (both (eqb y.outer o) (not (eqb y.under.place p))) (alike y.definition.name d.name)
  unfolding is_other_row alike
  other_alike y h = ap (both (both (eqb y.outer o) (not (eqb y.under.place p)))) (ap₂ same (sym h.read.bytes) (sym g.read.bytes))

  -- A row that fails the test changes nothing.
  differs_skip : (y : Entry) (l : List Definition) (c : Bool) → both c (alike y.definition.name d.name) ≡ false → differs d (keep_if c y.definition ++ l) ≡ differs d l
  unfolding differs keep_if
  differs_skip y l true e = ap (λ b. pick b (not (alike y.definition.word d.word)) (differs d l)) e
  differs_skip y l false e = refl

  differs_here : (y : Entry) (l : List Definition) (c : Bool) → both c (alike y.definition.name d.name) ≡ true
      → differs d (keep_if c y.definition ++ l) ≡ not (alike y.definition.word d.word)
  unfolding differs keep_if
  differs_here y l true e = ap (λ b. pick b (not (alike y.definition.word d.word)) (differs d l)) e
  differs_here y l false e = absurd (false≢true e)

  differs_none : (E : List Entry) → ((y : Entry) → In y E → Good s y.definition.name) → any_of P E ≡ false → differs d (others_of o p E) ≡ false
  unfolding any_of differs others_of
  differs_none [] h e = refl
  differs_none (y ∷ E) h e =
      differs_skip y (others_of o p E) (both (eqb y.outer o) (not (eqb y.under.place p))) (sym (other_alike y (h y (here refl))) ∙ neither_first (P y) (any_of P E) e)
      ∙ differs_none E (λ z m. h z (there m)) (neither_second (P y) (any_of P E) e)

  differs_first : (a : List Entry) (y : Entry) (b : List Entry) → ((z : Entry) → In z (a ++ (y ∷ b)) → Good s z.definition.name) → any_of P a ≡ false → P y ≡ true
      → differs d (others_of o p (a ++ (y ∷ b))) ≡ not (alike y.definition.word d.word)
  unfolding any_of others_of
  differs_first [] y b h e t =
      differs_here y (others_of o p b) (both (eqb y.outer o) (not (eqb y.under.place p))) (sym (other_alike y (h y (here refl))) ∙ t)
  differs_first (z ∷ a) y b h e t =
      differs_skip z (others_of o p (a ++ (y ∷ b))) (both (eqb z.outer o) (not (eqb z.under.place p))) (sym (other_alike z (h z (here refl))) ∙ neither_first (P z) (any_of P a) e)
      ∙ differs_first a y b (λ v m. h v (there m)) (neither_second (P z) (any_of P a) e) t

none_if : (b : Bool) (p : ℕ) → b ≡ false → None ≡ fault_if b 9 p
unfolding fault_if
none_if b p e = sym (ap (λ c. fault_if c 9 p) e)

others_zero : (o p : ℕ) (l : List Entry) → o ≡ 0 → others_for o p l ≡ []
unfolding others_for
others_zero o p l e = ap (λ b. pick b [] (others_of o p l)) (eq-eqb o 0 e)

others_some : (o p : ℕ) (l : List Entry) → (o ≡ 0 → ⊥) → others_for o p l ≡ others_of o p l
unfolding others_for
others_some o p l n = ap (λ b. pick b [] (others_of o p l)) (ne_eqb o 0 n)

differs_nothing : (d : Definition) → differs d [] ≡ false
unfolding differs
differs_nothing d = refl

module _ (s d : List ℕ) (j o : ℕ) (e₁₃ : o ≡ get_or d (j * 19 + 13) 0) where
  pub type_zero : o ≡ 0 → TypeFault s d j None
  unfolding definition_cells
  type_zero n f x st hd q l =
      let c : o ≡ x.outer = e₁₃ ∙ definition_cell f d j 13 x hd q l (omega arith) in
      none_if _ x.definition.name.place (ap (differs x.definition) (others_zero x.outer x.under.place q.front (sym c ∙ n)) ∙ differs_nothing x.definition)

  module _ (n : o ≡ 0 → ⊥) (at len : ℕ) (e₂ : at ≡ get_or d (j * 19 + 2) 0) (e₃ : len ≡ get_or d (j * 19 + 3) 0)
      (z : Found) (k : z ≡ find_named s d 19 j 13 o 2 at len 0) (new : first_again s d j ≡ None) where
    other_first : z ≡ first_other s d o (get_or d (j * 19 + 0) 0) at len j 0
    unfolding first_again
    other_first = k ∙ other_is s d j o (get_or d (j * 19 + 0) 0) at len (ap₂ (λ a b. find_named s d 19 j 0 (get_or d (j * 19 + 0) 0) 2 a b 0) e₂ e₃ ∙ new)

    search_is : (f : File) (x : Entry) → d ≡ kept_definitions f → (q : Nth (spec_entries f.specs) j x) → j < 513
        → z ≡ first (is_other_row s x.outer x.under.place x.definition.name.place x.definition.name.length) Some None 0 q.front
    unfolding definition_cells
    search_is f x hd q l =
        let c : o ≡ x.outer = e₁₃ ∙ definition_cell f d j 13 x hd q l (omega arith) in
        let c₀ : get_or d (j * 19 + 0) 0 ≡ x.under.place = definition_cell f d j 0 x hd q l (omega arith) in
        let c₂ : at ≡ x.definition.name.place = e₂ ∙ definition_cell f d j 2 x hd q l (omega arith) in
        let c₃ : len ≡ x.definition.name.length = e₃ ∙ definition_cell f d j 3 x hd q l (omega arith) in
        other_first ∙ ap₂ (λ (a b : ℕ). first_other s d a b at len j 0) c c₀ ∙ ap₂ (λ (a b : ℕ). first_other s d x.outer x.under.place a b j 0) c₂ c₃
        ∙ find_others f s d q.front (x ∷ q.rest) j x.outer x.under.place x.definition.name.place x.definition.name.length hd q.whole (sym q.place) (omega arith)

    outer_some : (f : File) (x : Entry) → d ≡ kept_definitions f → Nth (spec_entries f.specs) j x → j < 513 → x.outer ≡ 0 → ⊥
    unfolding definition_cells
    outer_some f x hd q l i = let c : o ≡ x.outer = e₁₃ ∙ definition_cell f d j 13 x hd q l (omega arith) in n (c ∙ i)

    pub type_none : z ≡ None → TypeFault s d j None
    type_none h f x st hd q l =
        let g = (entry_facts st (nth_in q)).facts.name in
        let P = is_other_row s x.outer x.under.place x.definition.name.place x.definition.name.length in
        let a : any_of P q.front ≡ false = first_nothing P 0 q.front (sym (search_is f x hd q l) ∙ h) in
        none_if _ x.definition.name.place (ap (differs x.definition) (others_some x.outer x.under.place q.front (outer_some f x hd q l))
        ∙ differs_none s x.outer x.under.place x.definition g q.front (names_before st q) a)

    pub type_some : (i : ℕ) → z ≡ Some i → (w wn v vn : ℕ) (b : Bool) (r : MaybeFault) → w ≡ get_or d (j * 19 + 4) 0 → wn ≡ get_or d (j * 19 + 5) 0 → v ≡ get_or d (i * 19 + 4) 0 → vn ≡ get_or d (i * 19 + 5) 0
        → b ≡ same (part_of s v vn) (part_of s w wn) → r ≡ fault_if (not b) 9 at → TypeFault s d j r
    unfolding definition_cells alike
    type_some i h w wn v vn b r e₄ e₅ i₄ i₅ eb er f x st hd q l =
        let F = (entry_facts st (nth_in q)).facts in
        let P = is_other_row s x.outer x.under.place x.definition.name.place x.definition.name.length in
        let m = first_is P 0 q.front i (sym (search_is f x hd q l) ∙ h) in
        let y = m.row in
        let mp = m.place in
        let lq : length q.front ≡ length (m.front ++ (y ∷ m.rest)) = ap length m.whole in
        let la = length-append m.front (y ∷ m.rest) in
        let qp = q.place in
        let t : Nth (spec_entries f.specs) i y = record {
          front = m.front;
          rest = m.rest ++ (x ∷ q.rest);
          whole = q.whole ∙ ap (λ c. c ++ (x ∷ q.rest)) m.whole ∙ append_assoc m.front (y ∷ m.rest) (x ∷ q.rest);
          place = omega (arith, mp);
        } in
        let li : i < 513 = omega (arith, mp, lq, la, qp, l) in
        let c₂ : at ≡ x.definition.name.place = e₂ ∙ definition_cell f d j 2 x hd q l (omega arith) in
        let d₄ : w ≡ x.definition.word.place = e₄ ∙ definition_cell f d j 4 x hd q l (omega arith) in
        let d₅ : wn ≡ x.definition.word.length = e₅ ∙ definition_cell f d j 5 x hd q l (omega arith) in
        let y₄ : v ≡ y.definition.word.place = i₄ ∙ definition_cell f d i 4 y hd t li (omega arith) in
        let y₅ : vn ≡ y.definition.word.length = i₅ ∙ definition_cell f d i 5 y hd t li (omega arith) in
        let G = (entry_facts st (nth_in t)).facts in
        let a : b ≡ alike y.definition.word x.definition.word =
        eb ∙ ap₂ same (ap₂ (part_of s) y₄ y₅ ∙ sym G.typed.bytes) (ap₂ (part_of s) d₄ d₅ ∙ sym F.typed.bytes) in
        let good : (z : Entry) → In z (m.front ++ (y ∷ m.rest)) → Good s z.definition.name = λ z k. names_before st q z (subst (In z) (sym m.whole) k) in
        let c : differs x.definition (others_for x.outer x.under.place q.front) ≡ not (alike y.definition.word x.definition.word) =
        ap (differs x.definition) (others_some x.outer x.under.place q.front (outer_some f x hd q l) ∙ ap (others_of x.outer x.under.place) m.whole)
        ∙ differs_first s x.outer x.under.place x.definition F.name m.front y m.rest good m.fails m.holds in
        er ∙ ap₂ (λ (b : Bool) (n : ℕ). fault_if b 9 n) (ap not a ∙ sym c) c₂
