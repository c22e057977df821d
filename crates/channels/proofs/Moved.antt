-- Channels do not look at places: a text whose tokens have the words of another derivation has its channels. Assumes nothing.
use mathlib.Core.Path.{◌≡◌, refl, sym, ◌∙◌, ap, ap₂}
use mathlib.Core.List.{List, [], ◌∷◌}
use mathlib.Core.Bool.{Bool, true, false, false≢true}
use mathlib.Core.Option.{Option, none, some}
use Prim.Native.Nat.{ℕ, zero, suc}
use Rattle.grammar.specs.Grammar.{Kind, ◌▸◌, ∎, ◌⟶◌, Trees, file, Derivation, tokens as Leaves-of}
use Rattle.grammar.specs.Terminals.{tokens}
use Rattle.grammar.specs.Demand.{Covered}
use Rattle.meaning.specs.Syntax.{Word, Object, File}
use Rattle.meaning.specs.Actions.{syntax}
use Rattle.meaning.specs.Scopes.{of_kind, find_object}
use Rattle.meaning.specs.Resolving.{Value, number, truth, auto, string, float, enumerator, object, Taken, Resolved, end, resolved, resolve, object_values}
use Rattle.meaning.specs.Places.{each}
use Rattle.meaning.specs.Answers.{Tables, Answer, accepted, answer}
use Rattle.meaning.specs.Reading.{reading}
use Rattle.meaning.proofs.Found.{parse_derived, reading_derived}
use Rattle.meaning.proofs.Unplaced.{if_there as if_unplaced, unplaced_word, unplaced_definition, unplaced_statements, unplaced_object, unplaced, unplaced_taken, unplaced_resolved, kind_unplaced, object_unplaced, resolve_unplaced}
use Rattle.meaning.proofs.UnplacedFaults.{SameAnswer, both_accept, both_refuse, answer_unplaced}
use Rattle.reads_back.proofs.Restated.{plain_word}
use Rattle.reads_back.proofs.SameTables.{accepts_unplaced}
use Rattle.reads_back.proofs.Unplacing.{bare_M, bare_parts}
use Rattle.reads_back.proofs.WordTrees.{lifted, planted}
use Rattle.channels.specs.Channels.{if_there, key_of, key_at, a_reference, shown, item_of, view, called, channel}
use Rattle.channels.proofs.Computed.{channel_in, channel_of}
use Rattle.channels.proofs.Ideals.{item_same}

-- Without places -----------------------------------------------------------------------------------------------------------------------------

key_unplaced : (i : ℕ) (os : List Object) → key_at i (each unplaced_object os) ≡ key_at i os
unfolding key_at each unplaced_object key_of unplaced_word
key_unplaced i [] = refl
key_unplaced zero (x ∷ xs) = refl
key_unplaced (suc i) (x ∷ xs) = key_unplaced i xs

shown_unplaced : (os : List Object) (v : Value) (t : Word) → shown (each unplaced_object os) v (unplaced_word t) ≡ shown os v t
unfolding shown unplaced_word
shown_unplaced os (number n) t = refl
shown_unplaced os (truth b) t = refl
shown_unplaced os auto t = refl
shown_unplaced os string t = refl
shown_unplaced os float t = refl
shown_unplaced os (enumerator e) t = refl
shown_unplaced os (object i) t = ap a_reference (key_unplaced i os)

item_unplaced : (os : List Object) (t : Taken) → item_of (each unplaced_object os) (unplaced_taken t) ≡ item_of os t
unfolding item_of unplaced_taken unplaced_definition unplaced_word
item_unplaced os t = ap (λ v. record { definition = t.definition.row; attribute = t.definition.name.bytes; value = v; stated = t.stated }) (shown_unplaced os t.value t.word)

view_unplaced : (os : List Object) (r : Resolved) → view (each unplaced_object os) (unplaced_resolved r) ≡ view os r
unfolding view unplaced_resolved
view_unplaced os end = refl
view_unplaced os (resolved t us rest) = item_same (item_unplaced os t) (view_unplaced os us) (view_unplaced os rest)

values_unplaced : (f : File) (x : Object) → object_values (unplaced f) (unplaced_object x) ≡ unplaced_resolved (object_values f x)
unfolding object_values unplaced unplaced_object
values_unplaced f x =
    ap (λ ds. resolve ds (each unplaced_object f.objects) (unplaced_statements x.statements)) (kind_unplaced x.kind f.specs)
    ∙ resolve_unplaced (of_kind x.kind f.specs) f.objects x.statements

-- The objects without places.
pub objects_unplaced : (f : File) → (unplaced f).objects ≡ each unplaced_object f.objects
unfolding unplaced
objects_unplaced f = refl

-- What is there, by one function and then another.
pub there_twice : {A B C : Type 0} (g : A → B) (h : B → C) (k : A → C) → ((a : A) → h (g a) ≡ k a) → (o : Option A) → if_there h (if_there g o) ≡ if_there k o
unfolding if_there
there_twice g h k e none = refl
there_twice g h k e (some a) = ap some (e a)

pub there_unplaced : {A B C : Type 0} (g : A → B) (h : B → C) (k : A → C) → ((a : A) → h (g a) ≡ k a) → (o : Option A) → if_there h (if_unplaced g o) ≡ if_there k o
unfolding if_there if_unplaced
there_unplaced g h k e none = refl
there_unplaced g h k e (some a) = ap some (e a)

-- A name has no place.
pub called_unplaced : (n : List ℕ) → unplaced_word (called n) ≡ called n
unfolding unplaced_word called
called_unplaced n = refl

-- The channels of the syntax without its places.
pub channel_unplaced : (f : File) (k : Kind) (n : List ℕ) → channel (unplaced f) k n ≡ channel f k n
unfolding channel
channel_unplaced f k n =
    ap₂ (λ os t. if_there (λ x. view os (object_values (unplaced f) x)) (find_object k os t)) (objects_unplaced f) (sym (called_unplaced n))
    ∙ ap (if_there (λ x. view (each unplaced_object f.objects) (object_values (unplaced f) x))) (object_unplaced k f.objects (called n))
    ∙ there_unplaced unplaced_object (λ x. view (each unplaced_object f.objects) (object_values (unplaced f) x)) (λ x. view f.objects (object_values f x))
    (λ x. ap (view (each unplaced_object f.objects)) (values_unplaced f x) ∙ view_unplaced f.objects (object_values f x)) (find_object k f.objects (called n))

-- The channels of a text -----------------------------------------------------------------------------------------------------------------------

pub channel_derived : (s : List ℕ) → Covered s → (d : Derivation (tokens s)) → (k : Kind) (n : List ℕ) → channel_of s k n ≡ channel (syntax s d.tree) k n
unfolding channel_of channel_in
channel_derived s w d k n = ap (λ p. channel_in p k n) (parse_derived s w d)

-- A derivation of the tokens of u with the syntax that the tree t has over s, but places.
pub record Transplanted (s u : List ℕ) (t : Trees ◌⟶◌ (file ▸ ∎)) : Type 0 where
  pub derivation : Derivation (tokens u)
  pub syntax_is : unplaced (syntax u derivation.tree) ≡ unplaced (syntax s t)

pub transplanted : (s u : List ℕ) (t : Trees ◌⟶◌ (file ▸ ∎)) → each (plain_word u) (tokens u) ≡ each (plain_word s) (Leaves-of t) → Transplanted s u t
unfolding syntax bare_parts bare_M
transplanted s u t e =
    let p = planted (lifted s t) u (tokens u) e in
    record { derivation = record { tree = p.tree; leaves = p.leaves }; syntax_is = ap (λ m. m.0) p.meaning_is }

-- Where one is accepted, so is the other.
record Accepts (a : Answer) : Type 0 where
  placed : Tables
  accepted_as : a ≡ accepted placed

placed_accepts : {a b : Answer} (t : Tables) → SameAnswer a b → b ≡ accepted t → Accepts a
placed_accepts t (both_accept u) e = record { placed = u; accepted_as = refl }
placed_accepts t (both_refuse n p m q) e = absurd (let z : ◌≡◌ {A = Bool} false true = cc in false≢true z)

-- The text u with the words of the tree t, whose syntax over s is accepted, is accepted, with the channels of that syntax.
pub record Carried (s u : List ℕ) (t : Trees ◌⟶◌ (file ▸ ∎)) : Type 0 where
  pub tables : Tables
  pub accepts : reading u ≡ accepted tables
  pub channels : (k : Kind) (n : List ℕ) → channel_of u k n ≡ channel (syntax s t) k n

pub carried : (s u : List ℕ) (t : Trees ◌⟶◌ (file ▸ ∎)) (x : Tables) → Covered u → each (plain_word u) (tokens u) ≡ each (plain_word s) (Leaves-of t)
    → answer (syntax s t) ≡ accepted x → Carried s u t
carried s u t x w e a =
    let p = transplanted s u t e in
    let f = syntax u p.derivation.tree in
    let b = ap answer p.syntax_is ∙ accepts_unplaced x (answer_unplaced (syntax s t)) a in
    let c = placed_accepts _ (answer_unplaced f) b in
    record {
      tables = c.placed;
      accepts = reading_derived u w p.derivation ∙ c.accepted_as;
      channels = λ k n. channel_derived u w p.derivation k n ∙ sym (channel_unplaced f k n) ∙ ap (λ g. channel g k n) p.syntax_is ∙ channel_unplaced (syntax s t) k n;
    }
