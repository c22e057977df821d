-- What a channel shows by its definitions and statements alone, without looking at any other object. Assumes nothing.
use mathlib.Core.Path.{◌≡◌, refl, sym, ◌∙◌, ap}
use mathlib.Core.List.{List, [], ◌∷◌}
use mathlib.Core.Bool.{Bool, true, false}
use mathlib.Core.Option.{Option, none, some}
use Prim.Native.Nat.{ℕ}
use Rattle.meaning.specs.Syntax.{Word, AttributeType, integer, string, boolean, enum, reference, float, Definition, Definitions, no_more, define, Values, no_value, value, Statement, Statements, done, state, Object}
use Rattle.meaning.specs.Words.{choose, alike, among}
use Rattle.meaning.specs.Scopes.{Sort, a_name, sort_of, names, a_number as number-sort, a_string as string-sort, a_truth as truth-sort, an_auto as auto-sort, a_no_default as none-sort, a_float as float-sort}
use Rattle.meaning.specs.Judging.{taken}
use Rattle.meaning.specs.Resolving.{Value, number, truth, auto, enumerator, object, Taken, Resolved, end, resolved, named, valued, take_value, entries, default_entry, resolve, resolve_under, string as string-value, float as float_value}
use Rattle.meaning.proofs.Unplaced.{unplaced_word, unplaced_definition, unplaced_taken, unplaced_resolved}
use Rattle.channels.specs.Channels.{Key, Shown, a_number, a_truth, an_auto, a_string, a_float, an_enumerator, a_reference, Item, View, nothing, item}

-- Statements without their numbers ---------------------------------------------------------------------------------------------------------

unfoldable pub unnumbered_statement : Statement → Statement
unnumbered_statement x = record { number = 0; name = x.name; value = x.value; brace = x.brace }

unfoldable pub unnumbered : Statements → Statements
unnumbered done = done
unnumbered (state x inside rest) = state (unnumbered_statement x) (unnumbered inside) (unnumbered rest)

pub names_unnumbered : (ss : Statements) → names (unnumbered ss) ≡ names ss
unfolding names unnumbered unnumbered_statement
names_unnumbered done = refl
names_unnumbered (state x inside rest) = ap (x.name ∷◌) (names_unnumbered rest)

-- What is shown ----------------------------------------------------------------------------------------------------------------------------

-- What a name leads to: for a reference, the object of its kind with that name.
unfoldable pub target : AttributeType → List ℕ → Option Key
target (integer i) n = none
target string n = none
target boolean n = none
target enum n = none
target float n = none
target (reference k) n = some (record { kind = k; name = n })

unfoldable pub ideal_value : AttributeType → Value → Word → Shown
ideal_value y (number n) t = a_number n
ideal_value y (truth b) t = a_truth b
ideal_value y auto t = an_auto
ideal_value y string-value t = a_string t.bytes
ideal_value y float_value t = a_float t.bytes
ideal_value y (enumerator e) t = an_enumerator e t.bytes
ideal_value y (object i) t = a_reference (target y t.bytes)

unfoldable pub ideal_item : Taken → Item
ideal_item t = record {
  definition = t.definition.row;
  attribute = t.definition.name.bytes;
  value = ideal_value t.definition.type t.value t.word;
  stated = t.stated;
}

unfoldable pub ideal : Resolved → View
ideal end = nothing
ideal (resolved t us rest) = item (ideal_item t) (ideal us) (ideal rest)

-- Other objects do not count, nor do statements' numbers --------------------------------------------------------------------------------------

named_ideal : (y : AttributeType) (os : List Object) (vs : Values) (t : Word) → ideal_value y (named y os vs t) t ≡ ideal_value y (named y [] vs t) t
unfolding named ideal_value
named_ideal (integer i) os vs t = refl
named_ideal string os vs t = refl
named_ideal boolean os vs t = refl
named_ideal enum os vs t = refl
named_ideal float os vs t = refl
named_ideal (reference k) os vs t = refl

valued_ideal : (o : Sort) (os : List Object) (d : Definition) (vs : Values) (t : Word)
    → ideal_value d.type (valued o os d vs t) t ≡ ideal_value d.type (valued o [] d vs t) t
unfolding valued
valued_ideal number-sort os d vs t = refl
valued_ideal string-sort os d vs t = refl
valued_ideal truth-sort os d vs t = refl
valued_ideal auto-sort os d vs t = refl
valued_ideal none-sort os d vs t = refl
valued_ideal float-sort os d vs t = refl
valued_ideal a_name os d vs t = named_ideal d.type os vs t

item_ideal : (b : Bool) (os : List Object) (d : Definition) (vs : Values) (t : Word) → ideal_item (take_value b os d vs t) ≡ ideal_item (take_value b [] d vs t)
unfolding ideal_item take_value
item_ideal b os d vs t =
    ap (λ v. record { definition = d.row; attribute = d.name.bytes; value = v; stated = b }) (valued_ideal (sort_of t.class) os d vs t)

pub item_same : {x y : Item} {a b c d : View} → x ≡ y → a ≡ b → c ≡ d → item x a c ≡ item y b d
item_same p q r = λ j. item (p j) (q j) (r j)

-- A function of what is under a value, and the same without other objects and statements' numbers.
abbrev Inner : (Word → Statements → Resolved) → (Word → Statements → Resolved) → Type 0
Inner f g = (t : Word) (us : Statements) → ideal (f t us) ≡ ideal (g t (unnumbered us))

entries_ideal : (ss : Statements) (os : List Object) (d : Definition) (vs : Values) (f g : Word → Statements → Resolved) → Inner f g → (r q : Resolved) → ideal r ≡ ideal q
    → ideal (entries ss os d vs f r) ≡ ideal (entries (unnumbered ss) [] d vs g q)
unfolding entries unnumbered unnumbered_statement choose ideal
entries_ideal done os d vs f g h r q e = e
entries_ideal (state x inside more) os d vs f g h r q e = go (alike x.name d.name) (entries_ideal more os d vs f g h r q e)
  where
    go : (b : Bool) → ideal (entries more os d vs f r) ≡ ideal (entries (unnumbered more) [] d vs g q)
        → ideal (choose b (λ _. resolved (take_value true os d vs x.value) (f x.value inside) (entries more os d vs f r)) (λ _. entries more os d vs f r))
        ≡ ideal (choose b (λ _. resolved (take_value true [] d vs x.value) (g x.value (unnumbered inside)) (entries (unnumbered more) [] d vs g q)) (λ _. entries (unnumbered more) [] d vs g q))
    go true i = item_same (item_ideal true os d vs x.value) (h x.value inside) i
    go false i = i

default_ideal : (o : Option Word) (os : List Object) (d : Definition) (vs : Values) (f g : Word → Statements → Resolved) → Inner f g → (r q : Resolved) → ideal r ≡ ideal q
    → ideal (default_entry o os d vs f r) ≡ ideal (default_entry o [] d vs g q)
unfolding default_entry ideal unnumbered
default_ideal none os d vs f g h r q e = e
default_ideal (some t) os d vs f g h r q e = item_same (item_ideal false os d vs t) (h t done) e

choose_ideal : (b : Bool) (x y x' y' : Resolved) → ideal x ≡ ideal x' → ideal y ≡ ideal y' → ideal (choose b (λ _. x) (λ _. y)) ≡ ideal (choose b (λ _. x') (λ _. y'))
unfolding choose
choose_ideal true x y x' y' p q = p
choose_ideal false x y x' y' p q = q

mutual
  unfolding resolve ideal

  -- What the definitions ds and the statements ss show.
  pub resolve_ideal : (ds : Definitions) (os : List Object) (ss : Statements) → ideal (resolve ds os ss) ≡ ideal (resolve ds [] (unnumbered ss))
  resolve_ideal no_more os ss = refl
  resolve_ideal (define d vs ds) os ss =
      let f : Word → Statements → Resolved = λ t us. resolve_under vs os t us in
      let g : Word → Statements → Resolved = λ t us. resolve_under vs [] t us in
      let r = resolve ds os ss in
      let q = resolve ds [] (unnumbered ss) in
      let e = resolve_ideal ds os ss in
      choose_ideal (among d.name (names ss)) _ _ _ _
      (entries_ideal ss os d vs f g (λ t us. under_ideal vs os t us) r q e)
      (default_ideal (taken d.default) os d vs f g (λ t us. under_ideal vs os t us) r q e)
      ∙ ap (λ ns. ideal (choose (among d.name ns) (λ _. entries (unnumbered ss) [] d vs g q) (λ _. default_entry (taken d.default) [] d vs g q))) (sym (names_unnumbered ss))

  under_ideal : (vs : Values) (os : List Object) (t : Word) (ss : Statements) → ideal (resolve_under vs os t ss) ≡ ideal (resolve_under vs [] t (unnumbered ss))
  under_ideal no_value os t ss = refl
  under_ideal (value w e us vs) os t ss = choose_ideal (alike w t) _ _ _ _ (resolve_ideal us os ss) (under_ideal vs os t ss)

-- Nor do places -------------------------------------------------------------------------------------------------------------------------------

value_placed : (y : AttributeType) (v : Value) (t : Word) → ideal_value y v (unplaced_word t) ≡ ideal_value y v t
unfolding ideal_value unplaced_word
value_placed y (number n) t = refl
value_placed y (truth b) t = refl
value_placed y auto t = refl
value_placed y string-value t = refl
value_placed y float_value t = refl
value_placed y (enumerator e) t = refl
value_placed y (object i) t = refl

pub ideal_unplaced : (r : Resolved) → ideal (unplaced_resolved r) ≡ ideal r
unfolding ideal unplaced_resolved unplaced_taken ideal_item unplaced_definition unplaced_word
ideal_unplaced end = refl
ideal_unplaced (resolved t us rest) =
    item_same
    (ap (λ v. record { definition = t.definition.row; attribute = t.definition.name.bytes; value = v; stated = t.stated }) (value_placed t.definition.type t.value t.word))
    (ideal_unplaced us) (ideal_unplaced rest)
