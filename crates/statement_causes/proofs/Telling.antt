-- What is told of a place: the attribute, the first statement, the owner; and from the rows to the text. Assumes nothing.
use mathlib.Core.Path.{◌≡◌, refl, sym, ◌∙◌, ap, ap₂, subst}
use mathlib.Core.List.{List, [], ◌∷◌, ◌++◌}
use mathlib.Core.Bool.{Bool, true, false, false≢true}
use mathlib.Core.Option.{Option, none, some}
use Prim.Native.Nat.{ℕ, suc, ◌+◌, ◌*◌, ◌≤◌, ◌<◌}
use native.Mathlib.Omega.{arith}
use lib.ListN.{length, get_or, replicate}
use lib.Dec.{eqb, ltb}
use borrow.Author.Tests.{ltb-false}
use Rattle.token.specs.Find.{pick}
use Rattle.token.specs.Tokens.{part_of}
use Rattle.token.specs.Lexing.{lex_from}
use Rattle.token.proofs.Bytes.{neither_first, neither_second}
use Rattle.grammar.specs.Grammar.{file, ◌▸◌, ∎, Derivation}
use Rattle.grammar.specs.Terminals.{tokens, tokens_in}
use Rattle.grammar.specs.Stage.{passes, Answers as StageAnswers}
use Rattle.grammar.specs.Factored.{paper}
use Rattle.grammar.specs.Machine.{run}
use Rattle.grammar.specs.Readers.{stream_of}
use Rattle.grammar.specs.Answered.{Answer as GrammarAnswer}
use Rattle.std.specs.Prelude.{Ok, Err}
use Rattle.grammar.specs.declared.Refusal.TheVariants.{NoToken, NotAdmitted, TooDeep}
use Rattle.rows.specs.Found.{Found}
use Rattle.std.specs.Prelude.{Some, None}
use Rattle.rows.specs.Search.{find_row, find_from, has_key}
use Rattle.std.specs.Prelude.{Some, None}
use Rattle.rows.specs.declared.Fault.{Fault}
use Rattle.rows.proofs.Walks.{first as first_row, any_of}
use Rattle.rows.proofs.Searches.{first_is, first_nothing as no_row}
use Rattle.meaning.specs.Merging.{then}
use Rattle.meaning.specs.Syntax.{Word, Defined, Statements, done, state, Object, File, statements_in}
use Rattle.meaning.specs.Words.{alike, choose}
use Rattle.meaning.specs.Faults.{first}
use Rattle.meaning.specs.Scopes.{find_definition}
use Rattle.meaning.specs.Defining.{definition_faults}
use Rattle.meaning.specs.Applying.{object_faults}
use Rattle.meaning.specs.Actions.{syntax}
use Rattle.meaning.specs.Tree.{tree}
use Rattle.meaning.specs.Reading.{Parsed, parsed, not_parsed, after_grammar, parse}
use Rattle.meaning.proofs.Found.{run_answers, parse_derived}
use Rattle.layout.specs.Kept.{Entry, definition_cells, statement_cells}
use Rattle.blocks.specs.Blocks.{BlockAt, first_stated, FindsStated}
use Rattle.blocks.proofs.Ranges.{first_cell, first_name, rest_at, back_at}
use Rattle.scopes.specs.Given.{Given, Attribute as AttributeAt}
use Rattle.scopes.specs.Promises.{FindsDefinition}
use Rattle.scopes.specs.declared.Sizes.{Sizes}
use Rattle.scopes.proofs.Rooms.{definition_cell}
use Rattle.scopes.proofs.Finding.{seek_all}
use Rattle.lookups.specs.Names.{Names}
use Rattle.lookups.proofs.Attributes.{known, kept_object}
use Rattle.judging.proofs.Judgements.{row_nothing, row_found_as, looked_up, stated_as}
use Rattle.reading.specs.Decisions.{Merged, Decides, stage_fault, or_else}
use Rattle.reading.specs.declared.Decision.{Decision}
use Rattle.reading.proofs.Settling.{given, places}
use Rattle.reading.proofs.Derived.{Derived}
use Rattle.statement_causes.specs.Sites.{Site, site_at, attribute_of, first_place, first_of}
use Rattle.statement_causes.specs.Tellings.{Defines, AttributeIs, no_attribute, an_attribute, ScopeIs, no_site, a_site, object_at, owner_by, owner_at, MissingAt, an_owner, ToldOf, Tells}
use Rattle.statement_causes.specs.Promises.{Looked, SpotAt, SpotIs, no_spot, a_spot, SeeksAll, RowTold, TellsAttribute, TellsFirst, MissesObject, MissesInside, MissesAt, TellsRows, TellsKept}
use Rattle.statement_causes.specs.declared.Spot.{Spot}
use Rattle.statement_causes.specs.declared.Attribute.{Attribute}
use Rattle.statement_causes.specs.declared.Told.{Told}

-- The attribute -------------------------------------------------------------------------------------------------------------------------------

defines : {s d e o st : List ℕ} {z : Sizes} {f : File} {j : ℕ} {x : Defined} {r : Attribute} → Given s d e o st z f → AttributeAt f j x → RowTold d j r → Defines x r
unfolding definition_cells
defines {d = d} {f = f} {j} {x} c a t =
    let R = known c.tables a in
    let E : Entry = record { under = R.row_of.under; outer = R.row_of.outer; definition = x.definition; values = x.values } in
    let cell : (k : ℕ) → k < 19 → get_or d (j * 19 + k) 0 ≡ get_or (definition_cells E) k 0 = λ k m. definition_cell f d j k E c.tables.in_definitions R.row_of.nth R.low m in
    record {
      found = t.found;
      name_place = t.name_place ∙ cell 2 (omega arith);
      name_length = t.name_length ∙ cell 3 (omega arith);
      type_place = t.type_place ∙ cell 4 (omega arith);
      type_length = t.type_length ∙ cell 5 (omega arith);
      type_code = t.type_code ∙ cell 12 (omega arith);
      range_place = t.range_place ∙ cell 8 (omega arith);
      range_length = t.range_length ∙ cell 9 (omega arith);
      auto = t.auto ∙ cell 7 (omega arith);
    }

-- The block from the statement of a spot on.
own_block : {s st : List ℕ} {f : File} {t : Spot} {q : Site} → SpotAt s st f t q → BlockAt s st t.row t.end (state q.statement q.inside q.rest)
own_block {s} {st} {t = t} {q} y =
    let ss = state q.statement q.inside q.rest in
    subst (λ u. BlockAt s st u t.end ss) (sym y.row) (back_at q.before ss y.block)

module _ (s d e st : List ℕ) (z : Sizes) (t : Spot) (r : Attribute) where
  pub attribute_none : t.found ≡ false → r.found ≡ false → TellsAttribute s d e st z t r
  unfolding attribute_of
  attribute_none h l o f none c (no_spot y) = no_attribute l
  attribute_none h l o f (some q) c (a_spot y) = absurd (false≢true (sym h ∙ y.found))

  module _ (h : t.found ≡ true) (name size : ℕ) (pn : name ≡ get_or st (t.row * 7 + 0) 0) (ps : size ≡ get_or st (t.row * 7 + 1) 0) where
    pub attribute_undefined : FindsDefinition s d z.definitions t.key name size None → r.found ≡ false → TellsAttribute s d e st z t r
    unfolding attribute_of
    attribute_undefined g l o f none c (no_spot y) = no_attribute l
    attribute_undefined g l o f (some q) c (a_spot y) =
        let i = row_nothing (find_definition q.scope q.statement.name) (looked_up None pn ps c y.scope (own_block y) g) in
        subst (AttributeIs r) (sym i) (no_attribute l)

    pub attribute_defined : (j : ℕ) → FindsDefinition s d z.definitions t.key name size (Some j) → RowTold d j r → TellsAttribute s d e st z t r
    unfolding attribute_of stated_as
    attribute_defined j g l o f none c (no_spot y) = absurd (false≢true (sym y ∙ h))
    attribute_defined j g l o f (some q) c (a_spot y) =
        let i = row_found_as (find_definition q.scope q.statement.name) j (looked_up (Some j) pn ps c y.scope (own_block y) g) in
        let a = stated_as j i.defined c y.scope (own_block y) i.is i.row in
        subst (AttributeIs r) (sym i.is) (an_attribute (defines c a.attribute l))

-- The first statement -------------------------------------------------------------------------------------------------------------------------

unfoldable place_of : List ℕ → Found → ℕ
place_of st (Some k) = get_or st (k * 7 + 0) 0
place_of st None = 0

place_by : {s st : List ℕ} (ss : Statements) (m e : ℕ) (t : Word) → BlockAt s st m e ss → place_of st (first_stated ss m t) ≡ first_place t ss
unfolding place_of first_stated first_place statement_cells
place_by done m e t b = refl
place_by {s} {st} (state x inside rest) m e t b = by (alike t x.name) (place_by rest (suc m + statements_in inside) e t (rest_at b))
  where
    by : (c : Bool) → place_of st (first_stated rest (suc m + statements_in inside) t) ≡ first_place t rest
        → place_of st (pick c (Some m) (first_stated rest (suc m + statements_in inside) t)) ≡ pick c x.name.place (first_place t rest)
    by true e = first_cell b 0 (omega arith)
    by false e = e

module _ (s st : List ℕ) (t : Spot) where
  pub first_none : t.found ≡ false → TellsFirst s st t 0
  unfolding first_of
  first_none h f none (no_spot y) = refl
  first_none h f (some q) (a_spot y) = absurd (false≢true (sym h ∙ y.found))

  module _ (h : t.found ≡ true) (name size : ℕ) (pn : name ≡ get_or st (t.row * 7 + 0) 0) (ps : size ≡ get_or st (t.row * 7 + 1) 0) (r : Found)
      (g : FindsStated s st t.from t.end name size r) where
    first_by : (f : File) (q : Site) → SpotAt s st f t q → place_of st r ≡ first_of (some q)
    unfolding first_of statement_cells
    first_by f q y =
        let ss = then q.before (state q.statement q.inside q.rest) in
        let b = own_block y in
        let n : q.statement.name.bytes ≡ part_of s name size =
        (first_name b).bytes ∙ sym (ap₂ (part_of s) (pn ∙ first_cell b 0 (omega arith)) (ps ∙ first_cell b 1 (omega arith))) in
        ap (place_of st) (g ss q.statement.name y.block n) ∙ place_by ss t.from t.end q.statement.name y.block

    pub first_nothing : r ≡ None → TellsFirst s st t 0
    unfolding place_of
    first_nothing i f none (no_spot y) = absurd (false≢true (sym y ∙ h))
    first_nothing i f (some q) (a_spot y) = sym (ap (place_of st) i) ∙ first_by f q y

    pub first_found : (k p : ℕ) → r ≡ Some k → p ≡ get_or st (k * 7 + 0) 0 → TellsFirst s st t p
    unfolding place_of
    first_found k p i l f none (no_spot y) = absurd (false≢true (sym y ∙ h))
    first_found k p i l f (some q) (a_spot y) = l ∙ sym (ap (place_of st) i) ∙ first_by f q y

-- The owner -----------------------------------------------------------------------------------------------------------------------------------

unfoldable named_at : ℕ → Object → Bool
named_at p x = eqb x.name.place p

object_none : (p : ℕ) (l : List Object) → any_of (named_at p) l ≡ false → object_at p l ≡ none
unfolding any_of object_at named_at
object_none p [] e = refl
object_none p (x ∷ l) e =
    ap (λ (c : Bool). pick c (some x) (object_at p l)) (neither_first (named_at p x) (any_of (named_at p) l) e) ∙ object_none p l (neither_second (named_at p x) (any_of (named_at p) l) e)

object_hit : (p : ℕ) (a : List Object) (x : Object) (b : List Object) → any_of (named_at p) a ≡ false → named_at p x ≡ true → object_at p (a ++ (x ∷ b)) ≡ some x
unfolding any_of object_at named_at
object_hit p [] x b n h = ap (λ (c : Bool). pick c (some x) (object_at p b)) h
object_hit p (y ∷ a) x b n h =
    ap (λ (c : Bool). pick c (some y) (object_at p (a ++ (x ∷ b)))) (neither_first (named_at p y) (any_of (named_at p) a) n)
    ∙ object_hit p a x b (neither_second (named_at p y) (any_of (named_at p) a) n) h

row_at : {s d e o st : List ℕ} {z : Sizes} {f : File} (p : ℕ) → Given s d e o st z f → find_row o 10 z.objects 3 p 0 ≡ first_row (named_at p) Some None 0 f.objects
unfolding find_row has_key named_at
row_at {o = o} {f = f} p c =
    ap (λ (m : ℕ). find_from (λ j. has_key o (j * 10) 3 p) m 0) c.tables.objects
    ∙ seek_all (named_at p) (λ j. has_key o (j * 10) 3 p) f.objects (λ a x b g. ap (λ (i : ℕ). eqb i p) (kept_object a x b c g refl).name)

module _ (s d e o st : List ℕ) (z : Sizes) (ps : List ℕ) (t : Spot) (p r : ℕ) where
  pub owner_object : (i : ℕ) → find_row o 10 z.objects 3 p 0 ≡ Some i → MissesObject s d e o st z ps i r → MissesAt s d e o st z ps t p r
  unfolding owner_at owner_by
  owner_object i g w f c pl q =
      let y = first_is (named_at p) 0 f.objects i (sym (row_at p c) ∙ g) in
      let pl₁ = y.place in
      let h = ap (object_at p) y.whole ∙ object_hit p y.front y.row y.rest y.fails y.holds in
      let l : length y.front ≡ i = omega (arith, pl₁) in
      subst (λ x. MissingAt r (owner_by f x (site_at f p))) (sym h) (an_owner (w f y.front y.row y.rest c pl y.whole l))

  pub owner_value : find_row o 10 z.objects 3 p 0 ≡ None → MissesInside s d e st z t r → MissesAt s d e o st z ps t p r
  unfolding owner_at owner_by
  owner_value g w f c pl q =
      let h = object_none p f.objects (no_row (named_at p) 0 f.objects (sym (row_at p c) ∙ g)) in
      subst (λ x. MissingAt r (owner_by f x (site_at f p))) (sym h) (w o f (site_at f p) c q)

-- The whole -----------------------------------------------------------------------------------------------------------------------------------

scope_is : {s st : List ℕ} {f : File} {t : Spot} {q : Option Site} → SpotIs s st f t q → ScopeIs f t.key q
scope_is (no_spot y) = no_site
scope_is (a_spot y) = a_site y.scope

pub tells_rows : (s d e o st : List ℕ) (z : Sizes) (ps : List ℕ) (p : ℕ) (t : Spot) (a : Attribute) (i m : ℕ) → SeeksAll s d e o st z ps p t → TellsAttribute s d e st z t a
    → TellsFirst s st t i → MissesAt s d e o st z ps t p m → TellsRows s d e o st z ps p (record { scope = t.key; attribute = a; first = i; missing = m })
unfolding site_at
tells_rows s d e o st z ps p t a i m g h k l f c pl =
    let q : SpotIs s st f t (site_at f p) = g f c pl in
    record { scope = scope_is q; attribute = h o f (site_at f p) c q; first_one = k f (site_at f p) q; missing = l f c pl q }

pub looked : {s d e o st : List ℕ} {z : Sizes} {x : List ℕ} → Names s d e o st z x → z.definitions ≤ 512 → z.enumerators ≤ 1024 → z.objects ≤ 256 → Looked s d e z x
looked n a b c = let m = n.named (record { definitions = a; enumerators = b; objects = c }) in record { definitions = m.definitions; enumerators = m.enumerators }

module _ {s : List ℕ} {y : Merged} {w : Decision} (z : Sizes) (p : ℕ) (r : Told) (a : z.definitions ≡ w.walked.definitions) (b : z.enumerators ≡ w.walked.enumerators)
    (c : z.objects ≡ w.objects) where
  pub tells_kept : TellsRows s y.definitions y.enumerators y.objects y.statements z w.walked.places p r → TellsKept s y w p r
  tells_kept h t = h t.file (given t.kept t.no_definition_fault t.no_object_fault z a b c) (places t.kept)

  pub kept_few_definitions : 512 < z.definitions → TellsKept s y w p r
  kept_few_definitions h t = let l = (given t.kept t.no_definition_fault t.no_object_fault z a b c).tables.definitions_fit in absurd (omega (arith, h, l))

  pub kept_few_enumerators : 1024 < z.enumerators → TellsKept s y w p r
  kept_few_enumerators h t = let l = (given t.kept t.no_definition_fault t.no_object_fault z a b c).tables.enumerators_fit in absurd (omega (arith, h, l))

  pub kept_few_objects : 256 < z.objects → TellsKept s y w p r
  kept_few_objects h t = let l = (given t.kept t.no_definition_fault t.no_object_fault z a b c).tables.objects_fit in absurd (omega (arith, h, l))

-- What is parsed is derived.
not_parsed_here : {A : Type 0} {n p : ℕ} {f : File} → ◌≡◌ {A = Parsed} (not_parsed n p) (parsed f) → A
not_parsed_here e = absurd (let z : ◌≡◌ {A = Bool} false true = cc in false≢true z)

same_file : {a b : File} → ◌≡◌ {A = Parsed} (parsed a) (parsed b) → a ≡ b
same_file i = cc

module _ (s : List ℕ) (f : File) (e : parse s ≡ parsed f) where
  abbrev after : GrammarAnswer → Parsed
  after a = after_grammar s a (λ _. tree (tokens_in (lex_from s 0)))

  by_stage : length s ≤ 65535 → (a : GrammarAnswer) → StageAnswers s a → after a ≡ parsed f → Derived s
  unfolding after_grammar
  by_stage h (Ok _) (passes v q d) i = record { covered = record { short = h; divides = v; shallow = q }; derivation = d }
  by_stage h (Err (NoToken p)) t i = not_parsed_here i
  by_stage h (Err (NotAdmitted p)) t i = not_parsed_here i
  by_stage h (Err (TooDeep p)) t i = not_parsed_here i

  by_length : (b : Bool) → ltb 65535 (length s) ≡ b → choose b (λ _. not_parsed 2 0) (λ _. after (run 0 (paper file ▸ ∎) (stream_of (lex_from s 0)))) ≡ parsed f → Derived s
  unfolding choose
  by_length true h i = not_parsed_here i
  by_length false h i = by_stage (ltb-false 65535 (length s) h) _ (run_answers s) i

  parsed_derived : Derived s
  unfolding parse
  parsed_derived = by_length (ltb 65535 (length s)) refl e

  own_syntax : (d : Derivation (tokens s)) → f ≡ syntax s d.tree
  own_syntax d = same_file (sym e ∙ parse_derived s parsed_derived.covered d)

  no_stage_fault : first (definition_faults f) ≡ none → first (object_faults f) ≡ none → stage_fault f ≡ none
  unfolding stage_fault or_else
  no_stage_fault h k = ap₂ or_else h k

pub tells_long : (s : List ℕ) (p : ℕ) (r : Told) → 65535 < length s → Tells s p r
tells_long s p r h l f e a b = absurd (omega (arith, h, l))

module _ {s : List ℕ} {y : Merged} {w : Decision} (p : ℕ) (r : Told) (h : Decides s (replicate 9747 0) (replicate 3075 0) (replicate 2570 0) (replicate 14343 0) y w) where
  pub tells_refused : (x : Fault) → w.fault ≡ Some x → Tells s p r
  tells_refused x i l f e a b =
      let d = h.decided l refl refl refl refl in
      let t = parsed_derived s f e in
      absurd (d.stopped x i t.covered t.derivation (ap stage_fault (sym (own_syntax s f e t.derivation)) ∙ no_stage_fault s f e a b))

  pub tells_passed : w.fault ≡ None → TellsKept s y w p r → Tells s p r
  tells_passed i k l f e a b =
      let t = (h.decided l refl refl refl refl).passes i in
      let g : f ≡ t.file = own_syntax s f e t.kept.situation.derivation ∙ sym t.kept.situation.syntax_of in
      subst (λ (q : File). ToldOf q p r) (sym g) (k t)
