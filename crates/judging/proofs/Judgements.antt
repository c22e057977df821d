-- The laws of judging: the faults of a statement, of a block, of all objects, by the rows. Assumes nothing.
use mathlib.Core.Path.{◌≡◌, refl, sym, ◌∙◌, ap, ap₂, subst}
use mathlib.Core.List.{List, [], ◌∷◌, ◌++◌, append_assoc, append-nil}
use mathlib.Core.Bool.{Bool, true, false, not, false≢true}
use mathlib.Core.Option.{Option, none, some}
use Prim.Native.Nat.{ℕ, zero, suc, ◌+◌, ◌*◌, ◌-◌, ◌≤◌, ◌<◌}
use native.Mathlib.Omega.{arith}
use native.Mathlib.Decide.{ℕ_discrete}
use lib.ListN.{length, length-append, get_or}
use lib.Dec.{eqb, leb}
use borrow.Author.Tests.{eq-eqb, ne_eqb, le-leb}
use Rattle.std.specs.Prelude.{Some, None, is_some}
use Rattle.meaning.proofs.Rooms.{no_first}
use Rattle.meaning.proofs.Numbered.{of_reference, of_brace, of_type, of_judged, of_judge, of_object, of_objects_judged}
use Rattle.meaning.proofs.Entries.{then_assoc}
use Rattle.meaning.specs.Merging.{then}
use Rattle.rows.proofs.Orders.{none_is}
use Rattle.token.specs.Find.{pick, both, bit, is_there}
use Rattle.token.specs.Tokens.{part_of}
use Rattle.grammar.specs.Grammar.{Class, Kind}
use Rattle.rows.specs.Found.{Found}
use Rattle.std.specs.Prelude.{Some, None}
use Rattle.rows.specs.Search.{is_found, row_of}
use Rattle.rows.specs.Order.{MaybeFault, fault_if, sooner as sooner-of}
use Rattle.meaning.specs.Syntax.{Word, AttributeType, integer, string, boolean, enum, float, reference, Definitions, Values, Defined, Statement, Statements, done, state, Object, File, statements_in}
use Rattle.meaning.specs.Words.{among}
use Rattle.meaning.specs.Kinds.{kind_number}
use Rattle.meaning.specs.Faults.{first, faults_if, Fault as Refusal}
use Rattle.meaning.specs.Scopes.{sort_of, names, find_definition, find_object, fits, under, of_kind}
use Rattle.meaning.specs.Judging.{lacks, reference_faults, brace_faults, faults_as, own_faults, and_inside, judged, judge, judge_object, judge_objects, statement_stage}
use Rattle.layout.specs.Kept.{class_number, code_of, place_or, statement_cells, statement_count, kind_place}
use Rattle.blocks.specs.Blocks.{BraceIn, no_brace, a_brace, BlockAt, row_after, IsBefore}
use Rattle.scopes.specs.Situations.{HasDefinition, Stands, ScopeAt, no_scope, scope}
use Rattle.scopes.specs.Given.{Given, Places}
use Rattle.scopes.specs.Promises.{fault_of, row_found, object_found, FindsDefinition, FindsWord, FindsObject, TakesUnder}
use Rattle.scopes.proofs.Forms.{Formed, an_integer, a_string, a_boolean, an_enum, a_float, a_reference}
use Rattle.scopes.proofs.Sorts.{sort_coded, tells, name_coded}
use Rattle.scopes.proofs.Descents.{found_definition, scope_under, scope_of_kind}
use Rattle.judging.specs.Promises.{name_code, ReferenceFault, StatedAs, OwnFault, Marked, Lacks, LackFault, Scoped, Judges, JudgesOne, JudgesBlock, JudgesObject, JudgesObjects}
use Rattle.scopes.specs.declared.Sizes.{Sizes}
use Rattle.lookups.proofs.Standings.{file_stands}
use Rattle.lookups.proofs.Attributes.{read_at, AttributeRow, stands_below, reached, known, formed, kept_object}
use Rattle.sorting.specs.Sorted.{Tells}
use Rattle.lookups.specs.Owners.{Owners}
use Rattle.judging.proofs.Lacking.{unowned}
use Rattle.scopes.proofs.Firsts.{real, real_if, fault_append, fault_at, none_there}
use Rattle.blocks.proofs.Ranges.{first_cell, first_name, first_value, first_brace, first_after, inside_at, in_then, then_done, back_at}
use Rattle.layout.proofs.Codes.{kind_low, integer_low}

-- Names ------------------------------------------------------------------------------------------------------------------------------------

-- The cases of a code.
module _ (c : ℕ) where
  pub code_number : c ≡ 43 → name_code c ≡ false
  unfolding name_code
  code_number h = ap (λ b. pick b false (pick (eqb c 44) false (pick (eqb c 0) true (pick (eqb c 54) false (leb 5 c))))) (eq-eqb c 43 h)

  code_not_number : (c ≡ 43 → ⊥) → name_code c ≡ pick (eqb c 44) false (pick (eqb c 0) true (pick (eqb c 54) false (leb 5 c)))
  unfolding name_code
  code_not_number h = ap (λ b. pick b false (pick (eqb c 44) false (pick (eqb c 0) true (pick (eqb c 54) false (leb 5 c))))) (ne_eqb c 43 h)

  pub code_string : (c ≡ 43 → ⊥) → c ≡ 44 → name_code c ≡ false
  code_string h i = code_not_number h ∙ ap (λ b. pick b false (pick (eqb c 0) true (pick (eqb c 54) false (leb 5 c)))) (eq-eqb c 44 i)

  code_not_string : (c ≡ 43 → ⊥) → (c ≡ 44 → ⊥) → name_code c ≡ pick (eqb c 0) true (pick (eqb c 54) false (leb 5 c))
  code_not_string h i = code_not_number h ∙ ap (λ b. pick b false (pick (eqb c 0) true (pick (eqb c 54) false (leb 5 c)))) (ne_eqb c 44 i)

  pub code_ordinary : (c ≡ 43 → ⊥) → (c ≡ 44 → ⊥) → c ≡ 0 → name_code c ≡ true
  code_ordinary h i k = code_not_string h i ∙ ap (λ b. pick b true (pick (eqb c 54) false (leb 5 c))) (eq-eqb c 0 k)

  code_not_ordinary : (c ≡ 43 → ⊥) → (c ≡ 44 → ⊥) → (c ≡ 0 → ⊥) → name_code c ≡ pick (eqb c 54) false (leb 5 c)
  code_not_ordinary h i k = code_not_string h i ∙ ap (λ b. pick b true (pick (eqb c 54) false (leb 5 c))) (ne_eqb c 0 k)

  pub code_float : (c ≡ 43 → ⊥) → (c ≡ 44 → ⊥) → (c ≡ 0 → ⊥) → c ≡ 54 → name_code c ≡ false
  code_float h i k l = code_not_ordinary h i k ∙ ap (λ b. pick b false (leb 5 c)) (eq-eqb c 54 l)

  pub code_other : (c ≡ 43 → ⊥) → (c ≡ 44 → ⊥) → (c ≡ 0 → ⊥) → (c ≡ 54 → ⊥) → name_code c ≡ leb 5 c
  code_other h i k l = code_not_ordinary h i k ∙ ap (λ b. pick b false (leb 5 c)) (ne_eqb c 54 l)

from_five : (n : ℕ) → (n ≡ 0 → ⊥) → (n ≡ 1 → ⊥) → (n ≡ 2 → ⊥) → (n ≡ 3 → ⊥) → (n ≡ 4 → ⊥) → 5 ≤ n
from_five zero a b c d e = absurd (a refl)
from_five (suc zero) a b c d e = absurd (b refl)
from_five (suc (suc zero)) a b c d e = absurd (c refl)
from_five (suc (suc (suc zero))) a b c d e = absurd (d refl)
from_five (suc (suc (suc (suc zero)))) a b c d e = absurd (e refl)
from_five (suc (suc (suc (suc (suc n))))) a b c d e = omega arith

module _ (os : List Object) (k : Kind) (t : Word) where
  -- The faults of a reference's value, by whether it is a name.
  abbrev Coded : ℕ → Type 0
  Coded n = reference_faults os k (sort_coded n) t ≡ pick (name_code n) (faults_if (not (is_there (find_object k os t))) t 18) (faults_if true t 15)

  reference_coded : (n : ℕ) → Coded n
  unfolding reference_faults sort_coded name_code
  reference_coded n = by (ℕ_discrete n 43) (ℕ_discrete n 44) (ℕ_discrete n 0) (ℕ_discrete n 1) (ℕ_discrete n 2) (ℕ_discrete n 3) (ℕ_discrete n 4) (ℕ_discrete n 54)
    where
      by : Dec (n ≡ 43) → Dec (n ≡ 44) → Dec (n ≡ 0) → Dec (n ≡ 1) → Dec (n ≡ 2) → Dec (n ≡ 3) → Dec (n ≡ 4) → Dec (n ≡ 54) → Coded n
      by (yes e) _ _ _ _ _ _ _ = subst Coded (sym e) refl
      by (no _) (yes e) _ _ _ _ _ _ = subst Coded (sym e) refl
      by (no _) (no _) (yes e) _ _ _ _ _ = subst Coded (sym e) refl
      by (no _) (no _) (no _) (yes e) _ _ _ _ = subst Coded (sym e) refl
      by (no _) (no _) (no _) (no _) (yes e) _ _ _ = subst Coded (sym e) refl
      by (no _) (no _) (no _) (no _) (no _) (yes e) _ _ = subst Coded (sym e) refl
      by (no _) (no _) (no _) (no _) (no _) (no _) (yes e) _ = subst Coded (sym e) refl
      by (no _) (no _) (no _) (no _) (no _) (no _) (no _) (yes e) = subst Coded (sym e) refl
      by (no a) (no b) (no c) (no d) (no e) (no f) (no g) (no h) =
          ap (λ q. reference_faults os k q t) (name_coded n a b d e f g h)
          ∙ ap (λ q. pick q (faults_if (not (is_there (find_object k os t))) t 18) (faults_if true t 15)) (sym (code_other n a b c h ∙ le-leb 5 n (from_five n c d e f g)))

  reference_by : (c : Class) → reference_faults os k (sort_of c) t ≡ pick (name_code (class_number c)) (faults_if (not (is_there (find_object k os t))) t 18) (faults_if true t 15)
  reference_by c = ap (λ q. reference_faults os k q t) (tells c).sort ∙ reference_coded (class_number c)

found_there : (o : Option Object) → is_found (object_found o) ≡ is_there o
unfolding object_found is_there
found_there none = refl
found_there (some x) = refl

-- A reference's value: no name; no object; an object.
module _ (s o : List ℕ) (n kind at len code : ℕ) where
  pub reference_no_name : name_code code ≡ false → ReferenceFault s o n kind at len code (Some (record { number = 15; place = at }))
  unfolding code_of fault_if
  reference_no_name h f k t p q l m i b pl e =
      fault_at true t 15 at pl
      ∙ ap (λ l. fault_of (first l)) (sym (reference_by f.objects k t t.class ∙ ap (λ b. pick b (faults_if (not (is_there (find_object k f.objects t))) t 18) (faults_if true t 15)) (ap name_code e ∙ h)))

  pub reference_name : (r : Found) → name_code code ≡ true → FindsObject s o n kind at len r → ReferenceFault s o n kind at len code (fault_if (not (is_found r)) 18 at)
  unfolding code_of
  reference_name r h g f k t p q l m i b pl e =
      let there : is_found r ≡ is_there (find_object k f.objects t) = ap is_found (g f k t p q l m i b) ∙ found_there (find_object k f.objects t) in
      ap (λ b. fault_if (not b) 18 at) there
      ∙ fault_at (not (is_there (find_object k f.objects t))) t 18 at pl
      ∙ ap (λ l. fault_of (first l)) (sym (reference_by f.objects k t t.class ∙ ap (λ b. pick b (faults_if (not (is_there (find_object k f.objects t))) t 18) (faults_if true t 15)) (ap name_code e ∙ h)))

  pub reference_nothing : name_code code ≡ true → FindsObject s o n kind at len None → ReferenceFault s o n kind at len code (Some (record { number = 18; place = at }))
  unfolding fault_if
  reference_nothing h g = reference_name None h g

  pub reference_object : (i : ℕ) → name_code code ≡ true → FindsObject s o n kind at len (Some i) → ReferenceFault s o n kind at len code None
  unfolding fault_if
  reference_object i h g = reference_name (Some i) h g

-- A statement's cells ----------------------------------------------------------------------------------------------------------------------

one_zero : 0 ≡ bit true → ⊥
unfolding bit
one_zero h = omega arith

brace_fault : {s : List ℕ} (o : Option Word) (p : ℕ) → p ≡ place_or o → BraceIn s o → fault_if (not (eqb p 0)) 15 p ≡ fault_of (first (brace_faults o))
unfolding place_or brace_faults fault_of fault_if first
brace_fault none p e no_brace = ap (λ q. fault_if (not (eqb q 0)) 15 q) e
brace_fault (some t) p e (a_brace w) =
    let l = w.later in
    ap (λ b. fault_if (not b) 15 p) (ne_eqb p 0 (λ h. omega arith)) ∙ fault_at true t 15 p (sym e)

module _ {s d e o st : List ℕ} {z : Sizes} {k j : ℕ} {f : File} {x : Statement} {y : Defined} (a : StatedAs s d e o st z k j f x y) where
  value_place : get_or st (k * 7 + 2) 0 ≡ x.value.place
  unfolding statement_cells
  value_place = first_cell a.block 2 (omega arith)

  value_size : get_or st (k * 7 + 3) 0 ≡ x.value.length
  unfolding statement_cells
  value_size = first_cell a.block 3 (omega arith)

  value_code : get_or st (k * 7 + 4) 0 ≡ code_of x.value
  unfolding statement_cells
  value_code = first_cell a.block 4 (omega arith)

  brace_place : get_or st (k * 7 + 5) 0 ≡ place_or x.brace
  unfolding statement_cells
  brace_place = first_cell a.block 5 (omega arith)

  name_place : get_or st (k * 7 + 0) 0 ≡ x.name.place
  unfolding statement_cells
  name_place = first_cell a.block 0 (omega arith)

  name_size : get_or st (k * 7 + 1) 0 ≡ x.name.length
  unfolding statement_cells
  name_size = first_cell a.block 1 (omega arith)

  row : AttributeRow s d f a.attribute.under j y
  row = known a.given.tables a.attribute

  type_formed : Formed s y.definition y.values
  type_formed = formed a.given.tables a.attribute

  -- The scope of the word that the value is, of the values of its attribute.
  pub value_scope : (at len u : ℕ) → at ≡ get_or st (k * 7 + 2) 0 → len ≡ get_or st (k * 7 + 3) 0 → FindsWord s d e z.enumerators j at len u → ScopeAt f u (under y.values x.value)
  value_scope at len u pa pl w =
      let T = a.given.tables in
      let is = w f y x.value T.situation T.in_definitions T.in_enumerators row.row_of row.low (reached T y.values)
      (read_at (first_value a.block) (pa ∙ value_place) (pl ∙ value_size)).bytes in
      subst (λ q. ScopeAt f q (under y.values x.value)) (sym is) (scope_under x.value T.situation row.row_of)

  -- No type's word has a code below 22.
  pub value_none : (c : ℕ) → c ≡ get_or d (j * 19 + 12) 0 → c < 22 → ⊥
  value_none c e h = go (e ∙ row.type_code) type_formed
    where
      go : c ≡ code_of y.definition.word → {vs : Values} → Formed s y.definition vs → ⊥
      go q (an_integer i t w b) = let l = integer_low i in omega arith
      go q (a_string t w b) = omega arith
      go q (a_float t w b) = omega arith
      go q (a_boolean t w b v) = omega arith
      go q (an_enum t w b v) = omega arith
      go q (a_reference r t w b) = omega arith

  -- From 22 up to 34 it is a reference.
  pub value_reference : (c at len code brace : ℕ) (g : MaybeFault) → c ≡ get_or d (j * 19 + 12) 0 → 22 ≤ c → c < 35
      → at ≡ get_or st (k * 7 + 2) 0 → len ≡ get_or st (k * 7 + 3) 0 → code ≡ get_or st (k * 7 + 4) 0 → brace ≡ get_or st (k * 7 + 5) 0
      → ReferenceFault s o z.objects (c - 22) at len code g
      → sooner-of g (fault_if (not (eqb brace 0)) 15 brace) ≡ fault_of (first (faults_as y.definition.type f.objects x y))
  unfolding faults_as bit
  value_reference c at len code brace g e l h pa pl pc pb r = go (e ∙ row.type_code) type_formed
    where
      unfolded : (q : Kind) → y.definition.type ≡ reference q
          → fault_of (first (reference_faults f.objects q (sort_of x.value.class) x.value ++ brace_faults x.brace)) ≡ fault_of (first (faults_as y.definition.type f.objects x y))
      unfolded q t = sym (ap (λ u. fault_of (first (faults_as u f.objects x y))) t)

      go : c ≡ code_of y.definition.word → {vs : Values} → Formed s y.definition vs
          → sooner-of g (fault_if (not (eqb brace 0)) 15 brace) ≡ fault_of (first (faults_as y.definition.type f.objects x y))
      go m (an_integer i t w b) = let l = integer_low i in absurd (omega arith)
      go m (a_string t w b) = absurd (omega arith)
      go m (a_float t w b) = absurd (omega arith)
      go m (a_boolean t w b v) = absurd (omega arith)
      go m (an_enum t w b v) = absurd (omega arith)
      go m (a_reference q t w b) =
          let n : c - 22 ≡ kind_number q = omega arith in
          let room_of = a.given.tables.objects_fit in
          let v = first_value a.block in
          let g-is : g ≡ fault_of (first (reference_faults f.objects q (sort_of x.value.class) x.value)) =
          r f q x.value a.given.tables.situation a.given.tables.in_objects a.given.tables.objects (omega arith) n (v.bytes ∙ sym (ap₂ (part_of s) (pa ∙ value_place) (pl ∙ value_size)))
          (sym (pa ∙ value_place)) (sym (pc ∙ value_code)) in
          ap₂ sooner-of g-is (brace_fault x.brace brace (pb ∙ brace_place) (first_brace a.block))
          ∙ sym (fault_append (reference_faults f.objects q (sort_of x.value.class) x.value) (brace_faults x.brace)
          (real (of_reference f.objects q (sort_of x.value.class) x.value)) (real (of_brace x.brace)))
          ∙ unfolded q t

  -- From 35 on it is not.
  pub value_other : (c at code u : ℕ) (b : Bool) → c ≡ get_or d (j * 19 + 12) 0 → 35 ≤ c
      → at ≡ get_or st (k * 7 + 2) 0 → code ≡ get_or st (k * 7 + 4) 0 → FindsWord s d e z.enumerators j (get_or st (k * 7 + 2) 0) (get_or st (k * 7 + 3) 0) u
      → TakesUnder s d j at code u b → fault_if (not b) 15 at ≡ fault_of (first (faults_as y.definition.type f.objects x y))
  unfolding faults_as bit
  value_other c at code u b q h pa pc w r =
      let v = first_value a.block in
      let len = get_or st (k * 7 + 3) 0 in
      let same_place = pa ∙ value_place in
      let T = a.given.tables in
      let taken : b ≡ fits y.definition y.values x.value =
      r e z.enumerators len (subst (λ p. FindsWord s d e z.enumerators j p len u) (sym pa) w) f y x.value T.situation T.in_definitions T.in_enumerators
      row.row_of row.low (reached T y.values) (read_at v same_place value_size) (sym (pc ∙ value_code)) in
      ap (λ t. fault_if (not t) 15 at) taken
      ∙ fault_at (not (fits y.definition y.values x.value)) x.value 15 at (sym same_place)
      ∙ go (q ∙ row.type_code) type_formed
    where
      no_reference : (u : AttributeType) → y.definition.type ≡ u
          → faults_as u f.objects x y ≡ faults_if (not (fits y.definition y.values x.value)) x.value 15
          → fault_of (first (faults_if (not (fits y.definition y.values x.value)) x.value 15)) ≡ fault_of (first (faults_as y.definition.type f.objects x y))
      no_reference u t q = ap (λ l. fault_of (first l)) (sym q ∙ sym (ap (λ w. faults_as w f.objects x y) t))

      go : c ≡ code_of y.definition.word → {vs : Values} → Formed s y.definition vs
          → fault_of (first (faults_if (not (fits y.definition y.values x.value)) x.value 15)) ≡ fault_of (first (faults_as y.definition.type f.objects x y))
      go m (an_integer i t w b) = no_reference (integer i) t refl
      go m (a_string t w b) = no_reference string t refl
      go m (a_float t w b) = no_reference float t refl
      go m (a_boolean t w b v) = no_reference boolean t refl
      go m (an_enum t w b v) = no_reference enum t refl
      go m (a_reference q t w b) = let l = kind_low q in absurd (omega arith)

  -- A list may be stated again.
  pub again_list : (c : ℕ) (before : Statements) → c ≡ get_or d (j * 19 + 6) 0 → (c ≡ 0 → ⊥) → false ≡ both (not y.definition.list) (among x.name (names before))
  unfolding faults_as bit
  again_list c before e h = go y.definition.list (e ∙ row.list_mark)
    where
      go : (b : Bool) → c ≡ bit b → false ≡ both (not b) (among x.name (names before))
      go true q = refl
      go false q = absurd (h q)

  -- A single attribute may not.
  pub again_single : (c m n : ℕ) (r : Bool) (before : Statements) → c ≡ get_or d (j * 19 + 6) 0 → c ≡ 0
      → BlockAt s st m n (then before (state x a.inside a.rest)) → k ≡ m + statements_in before → IsBefore s st m k n r → r ≡ both (not y.definition.list) (among x.name (names before))
  unfolding faults_as bit
  again_single c m n r before e h b q g =
      g before x a.inside a.rest b q ∙ go y.definition.list (sym h ∙ e ∙ row.list_mark)
    where
      go : (t : Bool) → 0 ≡ bit t → among x.name (names before) ≡ both (not t) (among x.name (names before))
      go true q = absurd (one_zero q)
      go false q = refl

  -- 14, and then those of the value.
  pub own_by : (name : ℕ) (r : Bool) (g : MaybeFault) (before : Statements) → name ≡ get_or st (k * 7 + 0) 0 → r ≡ both (not y.definition.list) (among x.name (names before))
      → g ≡ fault_of (first (faults_as y.definition.type f.objects x y)) → sooner-of (fault_if r 14 name) g ≡ fault_of (first (own_faults f.objects x y (names before)))
  unfolding own_faults
  own_by name r g before n e q =
      let t = both (not y.definition.list) (among x.name (names before)) in
      ap₂ sooner-of (ap (λ b. fault_if b 14 name) e ∙ fault_at t x.name 14 name (sym (n ∙ name_place))) q
      ∙ sym (fault_append (faults_if t x.name 14) (faults_as y.definition.type f.objects x y) (real_if t x.name 14 (omega arith)) (real (of_type y.definition.type f.objects x y)))

-- 16 ---------------------------------------------------------------------------------------------------------------------------------------

module _ (s d st ms : List ℕ) (z : Sizes) (key m n owner : ℕ) where
  -- The place 0 is no word's.
  pub lack_none : key ≡ 0 → LackFault s d st ms z key m n owner None
  unfolding lacks faults_if first fault_of
  lack_none h e o f ds ss w c b p = go c.scope h
    where
      go : {k : ℕ} {us : Definitions} → ScopeAt f k us → k ≡ 0 → None ≡ fault_of (first (faults_if (lacks us (names ss)) w 16))
      go no_scope q = refl
      go (scope g t) q = let l = (file_stands c.given.tables.situation t).0.later in absurd (omega arith)

  pub lack_some : (r : Bool) → (key ≡ 0 → ⊥) → Lacks s d st ms z.definitions key m n r → LackFault s d st ms z key m n owner (fault_if r 16 owner)
  lack_some r h l e o f ds ss w c b p = ap (λ t. fault_if t 16 owner) (go c.scope h l b) ∙ fault_at (lacks ds (names ss)) w 16 owner p
    where
      go : {k : ℕ} {us : Definitions} → ScopeAt f k us → (k ≡ 0 → ⊥) → Lacks s d st ms z.definitions k m n r → BlockAt s st m n ss → r ≡ lacks us (names ss)
      go no_scope q g t = absurd (q refl)
      go (scope {u} {ds = us} i t) q g t' =
          g f u us ss
          (record {
            enumerator_table = e;
            object_table = o;
            sizes = z;
            given = c.given;
            most = omega arith;
            marked = c.marked;
            stands = t;
            place = i;
            block = t';
          })
          (stands_below c.given.tables t)

  -- Nothing that must be stated stands under the word.
  pub lack_unowned : (u : List ℕ) → (key ≡ 0 → ⊥) → Owners d ms u → Tells u key false → LackFault s d st ms z key m n owner None
  unfolding fault_if
  lack_unowned u h w t = lack_some false h (unowned s d st ms u z.definitions key m n w t)

-- One statement ----------------------------------------------------------------------------------------------------------------------------

pub row_nothing : (o : Option Defined) → None ≡ row_found o → o ≡ none
unfolding row_found
row_nothing none h = refl
row_nothing (some y) h = absurd (false≢true (ap is_found h))

pub record FoundAs (o : Option Defined) (j : ℕ) : Type 0 where
  pub defined : Defined
  pub is : o ≡ some defined
  pub row : defined.definition.row ≡ j

pub row_found_as : (o : Option Defined) (j : ℕ) → Some j ≡ row_found o → FoundAs o j
unfolding row_found row_of
row_found_as none j h = absurd (false≢true (sym (ap is_found h)))
row_found_as (some y) j h = record { defined = y; is = refl; row = sym (ap row_of h) }

-- The word that a found definition stands under.
pub record Standing-under (f : File) (ds : Definitions) : Type 0 where
  pub word_of : Word
  pub stands : Stands f.specs word_of ds

pub stands_of : {f : File} {key : ℕ} {ds : Definitions} {y : Defined} → ScopeAt f key ds → HasDefinition ds y → Standing-under f ds
stands_of (scope {u} g t) h = record { word_of = u; stands = t }
stands_of {f = f} {y = y} no_scope h = elim h [ ]

inside_fault : (l : List Refusal) (x : Statement) (us : Definitions) (ns : List Word) (k : Definitions → List Refusal) → is_some (fault_of (first l)) ≡ true → and_inside l x us ns k ≡ l
unfolding and_inside first fault_of
inside_fault [] x us ns k h = absurd (false≢true h)
inside_fault (f ∷ fs) x us ns k h = refl

-- The block from the statement on.
pub own_at : {s st : List ℕ} {m k v : ℕ} (before : Statements) {x : Statement} {inside rest : Statements} → BlockAt s st m v (then before (state x inside rest)) → k ≡ m + statements_in before
    → BlockAt s st k v (state x inside rest)
own_at {s} {st} {m} {k} {v} before {x} {inside} {rest} b q = subst (λ u. BlockAt s st u v (state x inside rest)) (sym q) (back_at before (state x inside rest) b)

-- The definition of the statement's name.
pub looked_up : {s d e o st : List ℕ} {z : Sizes} {key k name size after : ℕ} {f : File} {ds : Definitions} {x : Statement} {inside rest : Statements} (r : Found)
    → name ≡ get_or st (k * 7 + 0) 0 → size ≡ get_or st (k * 7 + 1) 0 → Given s d e o st z f → ScopeAt f key ds → BlockAt s st k after (state x inside rest)
    → FindsDefinition s d z.definitions key name size r → r ≡ row_found (find_definition ds x.name)
unfolding statement_cells
looked_up {s} {f = f} {ds = ds} {x = x} r pn ps c w b g =
    let l = c.tables.definitions_fit in
    g f ds x.name c.tables.situation c.tables.in_definitions c.tables.definitions (omega arith) w
    ((first_name b).bytes ∙ sym (ap₂ (part_of s) (pn ∙ first_cell b 0 (omega arith)) (ps ∙ first_cell b 1 (omega arith))))

unfoldable pub stated_as : {s d e o st : List ℕ} {z : Sizes} {key k after : ℕ} {f : File} {ds : Definitions} {x : Statement} {inside rest : Statements} (j : ℕ) (y : Defined)
    → Given s d e o st z f → ScopeAt f key ds → BlockAt s st k after (state x inside rest) → find_definition ds x.name ≡ some y → y.definition.row ≡ j → StatedAs s d e o st z k j f x y
stated_as {after = after} {ds = ds} {x = x} {inside = inside} {rest = rest} j y c w b h r =
    let t = found_definition ds x.name h in
    let u = stands_of w t in
    record { given = c; inside = inside; rest = rest; after = after; block = b; attribute = record { under = u.word_of; scope = ds; stands = u.stands; has = t; row = r } }

module _ (s d e o st ms : List ℕ) (z : Sizes) (key m k n v name size : ℕ) (pn : name ≡ get_or st (k * 7 + 0) 0) (ps : size ≡ get_or st (k * 7 + 1) 0) where
  pub one_undefined : FindsDefinition s d z.definitions key name size None → JudgesOne s d e o st ms z key m k n v (Some (record { number = 13; place = name }))
  unfolding judged fault_if statement_cells
  one_undefined g f ds before x inside rest c b p q =
      let a = own_at before b p in
      let h = row_nothing (find_definition ds x.name) (looked_up None pn ps c.given c.scope a g) in
      fault_at true x.name 13 name (sym (pn ∙ first_cell a 0 (omega arith)))
      ∙ ap (λ t. fault_of (first (judged t f.objects x (names before) (names inside) (λ us. judge inside f.objects us [])))) (sym h)

  pub one_fault : (j : ℕ) (g : MaybeFault) → FindsDefinition s d z.definitions key name size (Some j) → OwnFault s d e o st z m k v j g → is_some g ≡ true → JudgesOne s d e o st ms z key m k n v g
  unfolding judged stated_as
  one_fault j g p w h f ds before x inside rest c b t q =
      let a = own_at before b t in
      let y = row_found_as (find_definition ds x.name) j (looked_up (Some j) pn ps c.given c.scope a p) in
      let i = w f x y.defined before (stated_as j y.defined c.given c.scope a y.is y.row) b t in
      i
      ∙ ap (λ l. fault_of (first l)) (sym (inside_fault (own_faults f.objects x y.defined (names before)) x (under y.defined.values x.value) (names inside) (λ us. judge inside f.objects us [])
      (ap is_some (sym i) ∙ h)))
      ∙ ap (λ t. fault_of (first (judged t f.objects x (names before) (names inside) (λ us. judge inside f.objects us [])))) (sym y.is)

  pub one_inside : (j at len key' : ℕ) (g r : MaybeFault) → FindsDefinition s d z.definitions key name size (Some j) → OwnFault s d e o st z m k v j g → is_some g ≡ false
      → at ≡ get_or st (k * 7 + 2) 0 → len ≡ get_or st (k * 7 + 3) 0 → FindsWord s d e z.enumerators j at len key' → JudgesBlock s d e o st ms z key' (k + 1) n at r
      → JudgesOne s d e o st ms z key m k n v r
  unfolding judged and_inside statement_cells stated_as
  one_inside j at len key' g r p w h pa pl u l f ds before x inside rest c b i₀ q =
      let a = own_at before b i₀ in
      let y = row_found_as (find_definition ds x.name) j (looked_up (Some j) pn ps c.given c.scope a p) in
      let t = y.defined in
      let sa = stated_as j t c.given c.scope a y.is y.row in
      let i = w f x t before sa b i₀ in
      let L = own_faults f.objects x t (names before) in
      let none_own = no_first L (none_there (first L) (sym i ∙ none_is g h)) in
      let pa' = pa ∙ first_cell a 2 (omega arith) in
      let sc = value_scope sa at len key' pa pl u in
      let k₁ : suc k ≡ k + 1 = omega arith in
      let bi : BlockAt s st (k + 1) n inside = subst (λ u. BlockAt s st u n inside) k₁ (subst (λ u. BlockAt s st (suc k) u inside) (sym q) (inside_at a)) in
      l f (under t.values x.value) inside x.value (record { given = c.given; marked = c.marked; scope = sc }) bi (sym pa')
      ∙ ap (λ w. fault_of (first (and_inside w x (under t.values x.value) (names inside) (λ us. judge inside f.objects us [])))) (sym none_own)
      ∙ ap (λ t. fault_of (first (judged t f.objects x (names before) (names inside) (λ us. judge inside f.objects us [])))) (sym y.is)

-- The value word, by the cells of the statement's row.
pub under_at : (s d e st : List ℕ) (m j k at len u : ℕ) → at ≡ get_or st (k * 7 + 2) 0 → len ≡ get_or st (k * 7 + 3) 0 → FindsWord s d e m j at len u
    → FindsWord s d e m j (get_or st (k * 7 + 2) 0) (get_or st (k * 7 + 3) 0) u
under_at s d e st m j k at len u pa pl w =
    subst (λ p. FindsWord s d e m j p (get_or st (k * 7 + 3) 0) u) pa (subst (λ l. FindsWord s d e m j at l u) pl w)

-- A block ----------------------------------------------------------------------------------------------------------------------------------

pub block_by : (s d e o st ms : List ℕ) (z : Sizes) (key m n owner : ℕ) (a b r : MaybeFault) → r ≡ sooner-of a b → LackFault s d st ms z key m n owner a → Judges s d e o st ms z key m n b
    → JudgesBlock s d e o st ms z key m n owner r
block_by s d e o st ms z key m n owner a b r i g h f ds ss w c t p =
    i
    ∙ ap₂ sooner-of (g e o f ds ss w c t p) (h f ds ss c t)
    ∙ sym (fault_append (faults_if (lacks ds (names ss)) w 16) (judge ss f.objects ds []) (real_if (lacks ds (names ss)) w 16 (omega arith)) (real (of_judge ss f.objects ds [])))

-- An empty one.
pub block_empty : (s d e o st ms : List ℕ) (z : Sizes) (key m n owner : ℕ) (r : MaybeFault) → n ≤ m → LackFault s d st ms z key m n owner r → JudgesBlock s d e o st ms z key m n owner r
unfolding statements_in judge
block_empty s d e o st ms z key m n owner r l g f ds done w c t p = g e o f ds done w c t p ∙ ap (λ v. fault_of (first v)) (sym (append-nil (faults_if (lacks ds (names done)) w 16)))
block_empty s d e o st ms z key m n owner r l g f ds (state x inside rest) w c t p = let q = t.after in absurd (omega arith)

-- The loop over a block's own statements: those in front are judged.
pub record Gone (m k : ℕ) (f : File) (ds : Definitions) (ss : Statements) (best : MaybeFault) : Type 0 where
  pub front : Statements
  pub rest : Statements
  pub whole : ss ≡ then front rest
  pub row : k ≡ m + statements_in front
  pub found : best ≡ fault_of (first (judge front f.objects ds []))

abbrev pub Judging : (s d e o st ms : List ℕ) → Sizes → (key m n k : ℕ) → MaybeFault → Type 0
Judging s d e o st ms z key m n k best =
    (f : File) (ds : Definitions) (ss : Statements) → Scoped s d e o st ms z key f ds → BlockAt s st m n ss → Gone m k f ds ss best

judge_then : (a b : Statements) (os : List Object) (ds : Definitions) (ns : List Word) → judge (then a b) os ds ns ≡ judge a os ds ns ++ judge b os ds (ns ++ names a)
unfolding then judge names
judge_then done b os ds ns = ap (judge b os ds) (sym (append-nil ns))
judge_then (state x inside rest) b os ds ns =
    let l = judged (find_definition ds x.name) os x ns (names inside) (λ us. judge inside os us []) in
    ap (λ r. l ++ r) (judge_then rest b os ds (ns ++ (x.name ∷ [])))
    ∙ ap (λ r. l ++ (judge rest os ds (ns ++ (x.name ∷ [])) ++ judge b os ds r)) (append_assoc ns (x.name ∷ []) (names rest))
    ∙ sym (append_assoc l (judge rest os ds (ns ++ (x.name ∷ []))) (judge b os ds (ns ++ (x.name ∷ names rest))))

module _ (s d e o st ms : List ℕ) (z : Sizes) (key m n : ℕ) where
  pub judging_start : Judging s d e o st ms z key m n m None
  unfolding then statements_in judge first fault_of
  judging_start f ds ss c b = record { front = done; rest = ss; whole = refl; row = omega arith; found = refl }

  pub judging_more : (k : ℕ) (best g : MaybeFault) → k < n → JudgesOne s d e o st ms z key m k (row_after st k n) n g → Judging s d e o st ms z key m n k best
      → Judging s d e o st ms z key m n (row_after st k n) (sooner-of best g)
  unfolding then statements_in judge
  judging_more k best g h w i f ds ss c b = go (i f ds ss c b).front (i f ds ss c b).rest (i f ds ss c b).whole (i f ds ss c b).row (i f ds ss c b).found
    where
      go : (front rest : Statements) → ss ≡ then front rest → k ≡ m + statements_in front → best ≡ fault_of (first (judge front f.objects ds []))
          → Gone m (row_after st k n) f ds ss (sooner-of best g)
      go front done p q t =
          let l = b.after in
          let l' = ap statements_in p in
          let l'' = in_then front done in
          absurd (omega arith)
      go front (state x inside rest) p q t =
          let b' : BlockAt s st m n (then front (state x inside rest)) = subst (BlockAt s st m n) p b in
          let bb : BlockAt s st k n (state x inside rest) = subst (λ u. BlockAt s st u n (state x inside rest)) (sym q) (back_at front (state x inside rest) b') in
          let a = first_after bb in
          let v = w f ds front x inside rest c b' q a in
          let j = judged (find_definition ds x.name) f.objects x (names front) (names inside) (λ us. judge inside f.objects us []) in
          let one : judge (state x inside done) f.objects ds (names front) ≡ j = append-nil j in
          let l = in_then front (state x inside done) in
          record {
            front = then front (state x inside done);
            rest = rest;
            whole = p ∙ sym (then_assoc front (state x inside done) rest);
            row = omega arith;
            found = ap₂ sooner-of t v
                ∙ sym (fault_append (judge front f.objects ds []) j (real (of_judge front f.objects ds []))
                (real (of_judged (find_definition ds x.name) f.objects x (names front) (names inside) (λ us. judge inside f.objects us []) (λ us. of_judge inside f.objects us []))))
                ∙ ap (λ r. fault_of (first (judge front f.objects ds [] ++ r))) (sym one)
                ∙ ap (λ r. fault_of (first r)) (sym (judge_then front (state x inside done) f.objects ds []));
          }

  pub judging_step : (k next : ℕ) (best g r : MaybeFault) → next ≡ row_after st k n → r ≡ sooner-of best g → k < n → JudgesOne s d e o st ms z key m k next n g
      → Judging s d e o st ms z key m n k best → Judging s d e o st ms z key m n next r
  judging_step k next best g r p q h w i =
      subst (λ b. Judging s d e o st ms z key m n next b) (sym q)
      (subst (λ a. Judging s d e o st ms z key m n a (sooner-of best g)) (sym p)
      (judging_more k best g h (subst (λ a. JudgesOne s d e o st ms z key m k a n g) p w) i))

  pub judging_end : (k : ℕ) (best : MaybeFault) → n ≤ k → Judging s d e o st ms z key m n k best → Judges s d e o st ms z key m n best
  unfolding statements_in
  judging_end k best h i f ds ss c b = go (i f ds ss c b).front (i f ds ss c b).rest (i f ds ss c b).whole (i f ds ss c b).row (i f ds ss c b).found
    where
      go : (front rest : Statements) → ss ≡ then front rest → k ≡ m + statements_in front → best ≡ fault_of (first (judge front f.objects ds []))
          → best ≡ fault_of (first (judge ss f.objects ds []))
      go front done p q t = t ∙ ap (λ r. fault_of (first (judge r f.objects ds []))) (sym (p ∙ then_done front))
      go front (state x inside rest) p q t =
          let l = b.after in
          let l' = ap statements_in p in
          let l'' = in_then front (state x inside rest) in
          absurd (omega arith)

-- All objects ------------------------------------------------------------------------------------------------------------------------------

pub object_by : (s d e o st ms : List ℕ) (z : Sizes) (ps : List ℕ) (i kind key owner m n : ℕ) (r : MaybeFault)
    → kind ≡ get_or o (i * 10 + 0) 0 → key ≡ get_or ps kind 0 → owner ≡ get_or o (i * 10 + 3) 0 → m ≡ get_or o (i * 10 + 8) 0 → n ≡ get_or o (i * 10 + 9) 0
    → JudgesBlock s d e o st ms z key m n owner r → JudgesObject s d e o st ms z ps i r
unfolding judge_object
object_by s d e o st ms z ps i kind key owner m n r pk py po pm pn g f front x rest c mk pl w q =
    let R = kept_object front x rest c w q in
    let kind_is : kind ≡ kind_number x.kind = pk ∙ R.kind in
    let key_is : key ≡ kind_place (kind_number x.kind) f.specs = py ∙ ap (λ a. get_or ps a 0) kind_is ∙ pl.place x.kind in
    let m-is : m ≡ statement_count front = pm ∙ R.from in
    let n_is : n ≡ statement_count front + statements_in x.statements = pn ∙ R.till in
    g f (of_kind x.kind f.specs) x.statements x.name
    (record { given = c; marked = mk; scope = subst (λ a. ScopeAt f a (of_kind x.kind f.specs)) (sym key_is) (scope_of_kind f x.kind) })
    (subst (λ a. BlockAt s st a n x.statements) (sym m-is) (subst (λ a. BlockAt s st (statement_count front) a x.statements) (sym n_is) R.block))
    (sym (po ∙ R.name))

objects_append : (f : File) (a : List Object) (x : Object) → judge_objects f (a ++ (x ∷ [])) ≡ judge_objects f a ++ judge_object f x (of_kind x.kind f.specs)
unfolding judge_objects
objects_append f [] x = append-nil (judge_object f x (of_kind x.kind f.specs))
objects_append f (y ∷ a) x =
    let l = judge_object f y (of_kind y.kind f.specs) in
    ap (λ r. l ++ r) (objects_append f a x) ∙ sym (append_assoc l (judge_objects f a) (judge_object f x (of_kind x.kind f.specs)))

-- The loop over the objects: those in front are judged.
pub record GoneObjects (i : ℕ) (f : File) (best : MaybeFault) : Type 0 where
  pub front : List Object
  pub rest : List Object
  pub whole : f.objects ≡ front ++ rest
  pub row : length front ≡ i
  pub found : best ≡ fault_of (first (judge_objects f front))

abbrev pub JudgingObjects : (s d e o st ms : List ℕ) → Sizes → (ps : List ℕ) → ℕ → MaybeFault → Type 0
JudgingObjects s d e o st ms z ps i best = (f : File) → Given s d e o st z f → Marked f ms z.definitions → Places f ps → GoneObjects i f best

module _ (s d e o st ms : List ℕ) (z : Sizes) (ps : List ℕ) where
  pub objects_start : JudgingObjects s d e o st ms z ps 0 None
  unfolding judge_objects first fault_of
  objects_start f c mk pl = record { front = []; rest = f.objects; whole = refl; row = refl; found = refl }

  pub objects_more : (i : ℕ) (best g : MaybeFault) → i < z.objects → JudgesObject s d e o st ms z ps i g → JudgingObjects s d e o st ms z ps i best
      → JudgingObjects s d e o st ms z ps (i + 1) (sooner-of best g)
  objects_more i best g h w v f c mk pl = go (v f c mk pl).front (v f c mk pl).rest (v f c mk pl).whole (v f c mk pl).row (v f c mk pl).found
    where
      go : (front rest : List Object) → f.objects ≡ front ++ rest → length front ≡ i → best ≡ fault_of (first (judge_objects f front)) → GoneObjects (i + 1) f (sooner-of best g)
      go front [] p q t =
          let l = c.tables.objects in
          let l' = ap (λ (a : List Object). length a) (p ∙ append-nil front) in
          absurd (omega arith)
      go front (x ∷ rest) p q t =
          let j = judge_object f x (of_kind x.kind f.specs) in
          let l = length-append front (x ∷ []) in
          record {
            front = front ++ (x ∷ []);
            rest = rest;
            whole = p ∙ sym (append_assoc front (x ∷ []) rest);
            row = omega arith;
            found = ap₂ sooner-of t (w f front x rest c mk pl p q)
                ∙ sym (fault_append (judge_objects f front) j (real (of_objects_judged f front)) (real (of_object f x (of_kind x.kind f.specs))))
                ∙ ap (λ r. fault_of (first r)) (sym (objects_append f front x));
          }

  pub objects_step : (i : ℕ) (best g r : MaybeFault) → r ≡ sooner-of best g → i < z.objects → JudgesObject s d e o st ms z ps i g → JudgingObjects s d e o st ms z ps i best
      → JudgingObjects s d e o st ms z ps (i + 1) r
  objects_step i best g r q h w v = subst (λ b. JudgingObjects s d e o st ms z ps (i + 1) b) (sym q) (objects_more i best g h w v)

  pub objects_end : (i : ℕ) (best : MaybeFault) → z.objects ≤ i → JudgingObjects s d e o st ms z ps i best → JudgesObjects s d e o st ms z ps best
  unfolding statement_stage
  objects_end i best h v f c mk pl = go (v f c mk pl).front (v f c mk pl).rest (v f c mk pl).whole (v f c mk pl).row (v f c mk pl).found
    where
      go : (front rest : List Object) → f.objects ≡ front ++ rest → length front ≡ i → best ≡ fault_of (first (judge_objects f front)) → best ≡ fault_of (first (judge_objects f f.objects))
      go front [] p q t = t ∙ ap (λ r. fault_of (first (judge_objects f r))) (sym (p ∙ append-nil front))
      go front (x ∷ rest) p q t =
          let l = c.tables.objects in
          let l' = ap (λ (a : List Object). length a) p in
          let l'' = length-append front (x ∷ rest) in
          absurd (omega arith)
