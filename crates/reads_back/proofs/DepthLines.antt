-- Normal text is no deeper than the text's definitions, so never more than sixteen of its braces are open. Assumes nothing.
use mathlib.Core.Path.{◌≡◌, refl, sym, ◌∙◌, subst}
use mathlib.Core.List.{List, [], ◌∷◌, ◌++◌}
use mathlib.Core.Bool.{Bool, true, false}
use mathlib.Core.Option.{Option, none, some}
use Prim.Native.Nat.{ℕ, suc, ◌≤◌}
use native.Mathlib.Omega.{arith}
use Rattle.token.specs.Find.{pick}
use Rattle.grammar.specs.Grammar.{Kind, Terminal, matches, name, number, string, float, kind, the, AUTO, TRUE, FALSE, given_code, Derivation, file, ◌▸◌, ∎, ◌⟶◌, Trees, nil, node, file_is, tokens as leaf-tokens}
use Rattle.grammar.specs.Stage.{Shallow}
use Rattle.grammar.specs.Terminals.{tokens}
use Rattle.grammar.proofs.Braces.{terminal_code, agree, opening as is_opening, closing as is_closing}
use Rattle.meaning.specs.Syntax.{Word, Definition, Definitions, no_more, define, Values, no_value, value, Statements, done, state, Spec, Object, File}
use Rattle.meaning.specs.Words.{alike, among, choose}
use Rattle.meaning.specs.Actions.{syntax}
use Rattle.meaning.specs.Kinds.{same_kind}
use Rattle.meaning.specs.Scopes.{of_kind, names}
use Rattle.meaning.specs.Judging.{taken}
use Rattle.meaning.specs.Resolving.{take_value, Resolved, end, resolved, entries, default_entry, resolve, resolve_under, object_values, all_values}
use Rattle.meaning.specs.Places.{each}
use Rattle.meaning.proofs.Unplaced.{unplaced_word}
use Rattle.reads_back.proofs.Restated.{given, equal_sign, stop, version_words, closed_words, line_words, object_words, application_words, restated_word, plain_word, Stateable, as_number, as_string, as_float, as_auto, as_name, as_true, as_false, Named, SaidLines, SaidObjects, Said, ShallowWords}
use Rattle.reads_back.proofs.SameWords.{by_choose}
use Rattle.reads_back.proofs.Planting.{implementation_leaves}
use Rattle.reads_back.proofs.DepthWords.{Low, low_shift, low_front, low_back, tokens_low, Level, Flat, level_none, level_append, level_word, level_braces, level_shallow}
use Rattle.reads_back.proofs.DepthTrees.{plain_leaves, plain_leaves_are, trees_balanced, Room, room_none, room_more, RoomUnder, under_more, RoomSpecs, specs_room}

-- Room for resolved values ------------------------------------------------------------------------------------------------------------------

-- With k braces open around resolved values, at most sixteen are open around each.
abbrev RoomLines : ℕ → Resolved → Type 0
RoomLines k end = Unit {0}
RoomLines k (resolved t us rest) = (k ≤ 16) × RoomLines (suc k) us × RoomLines k rest

module _ (os : List Object) where
  entries_room : (ss : Statements) (d : Definition) (vs : Values) (inner : Word → Statements → Resolved) (rest : Resolved) (k : ℕ) → k ≤ 16
      → ((t : Word) (us : Statements) → RoomLines (suc k) (inner t us)) → RoomLines k rest → RoomLines k (entries ss os d vs inner rest)
  unfolding entries choose
  entries_room done d vs inner rest k h i r = r
  entries_room (state x inside more) d vs inner rest k h i r =
      go (alike x.name d.name) (entries more os d vs inner rest) (entries_room more d vs inner rest k h i r)
    where
      go : (b : Bool) (l : Resolved) → RoomLines k l → RoomLines k (choose b (λ _. resolved (take_value true os d vs x.value) (inner x.value inside) l) (λ _. l))
      go true l m = (h, i x.value inside, m)
      go false l m = m

  default_room : (o : Option Word) (d : Definition) (vs : Values) (inner : Word → Statements → Resolved) (rest : Resolved) (k : ℕ) → k ≤ 16
      → ((t : Word) (us : Statements) → RoomLines (suc k) (inner t us)) → RoomLines k rest → RoomLines k (default_entry o os d vs inner rest)
  unfolding default_entry
  default_room none d vs inner rest k h i r = r
  default_room (some t) d vs inner rest k h i r = (h, i t done, r)

  mutual
    unfolding resolve

    resolve_room : (ds : Definitions) (ss : Statements) (k : ℕ) → Room k ds → RoomLines k (resolve ds os ss)
    resolve_room no_more ss k r = tt
    resolve_room (define d vs ds) ss k (room_more h u r) =
        let m = resolve_room ds ss k r in
        let i : (t : Word) (us : Statements) → RoomLines (suc k) (resolve_under vs os t us) = λ t us. under_room vs t us k u in
        by_choose (RoomLines k) (among d.name (names ss)) _ _ (λ _. entries_room ss d vs _ _ k h i m) (λ _. default_room (taken d.default) d vs _ _ k h i m)

    under_room : (vs : Values) (t : Word) (ss : Statements) (k : ℕ) → RoomUnder k vs → RoomLines (suc k) (resolve_under vs os t ss)
    under_room no_value t ss k r = tt
    under_room (value w e us vs) t ss k (under_more p q) = by_choose (RoomLines (suc k)) (alike w t) _ _ (λ _. resolve_room us ss (suc k) p) (λ _. under_room vs t ss k q)

kind_room : (k : Kind) (xs : List Spec) (n : ℕ) → RoomSpecs n xs → Room n (of_kind k xs)
unfolding of_kind
kind_room k [] n w = room_none
kind_room k (x ∷ xs) n w = go (same_kind k x.kind) (kind_room k xs n w.1)
  where
    go : (b : Bool) → Room n (of_kind k xs) → Room n (pick b x.definitions (of_kind k xs))
    go true r = w.0
    go false r = r

-- Words that are no braces ------------------------------------------------------------------------------------------------------------------

flat_by : (a : Terminal) (w : Word) → is_opening a ≡ false → is_closing a ≡ false → matches a w.class ≡ true → Flat w
flat_by a w o c m = record { no_open = (agree a w.class m).0 ∙ o; no_close = (agree a w.class m).1 ∙ c }

name_flat : (w : Word) → Named w → Flat (unplaced_word w)
unfolding terminal_code unplaced_word
name_flat w n = flat_by name (unplaced_word w) refl refl n.class_is

value_flat : (w : Word) (r : Resolved) → Stateable w.class r → Flat w
unfolding terminal_code given_code
value_flat w r (as_number m) = flat_by number w refl refl m
value_flat w r (as_string m) = flat_by string w refl refl m
value_flat w r (as_float m) = flat_by float w refl refl m
value_flat w r (as_auto m) = flat_by (the AUTO) w refl refl m
value_flat w r (as_name m) = flat_by name w refl refl m
value_flat w r (as_true m) = flat_by (the TRUE) w refl refl m
value_flat w r (as_false m) = flat_by (the FALSE) w refl refl m

equal_flat : Flat equal_sign
unfolding given matches
equal_flat = record { no_open = refl; no_close = refl }

stop_flat : Flat stop
unfolding given matches
stop_flat = record { no_open = refl; no_close = refl }

stop_level : (k : ℕ) → k ≤ 16 → Level k (stop ∷ [])
stop_level k h = level_word stop [] stop_flat (level_none h)

-- The lines ---------------------------------------------------------------------------------------------------------------------------------

closed_level : (us : Resolved) (ws : List Word) (k : ℕ) → k ≤ 16 → (suc k ≤ 16 → Level (suc k) ws) → RoomLines (suc k) us → Level k (closed_words us ws)
unfolding closed_words
closed_level end ws k h l r = stop_level k h
closed_level (resolved t us rest) ws k h l r = level_braces ws (stop ∷ []) (l r.0) (stop_level k h)

lines_level : (r : Resolved) (k : ℕ) → k ≤ 16 → SaidLines r → RoomLines k r → Level k (line_words r)
unfolding line_words
lines_level end k h p q = level_none h
lines_level (resolved t us rest) k h p q =
    let c = closed_level us (line_words us) k h (λ i. lines_level us (suc k) i p.1 q.1) q.1 in
    level_word _ _ (name_flat t.definition.name p.0.name)
    (level_word _ _ equal_flat
    (level_word _ _ (value_flat (restated_word t.value t.word) us p.0.form)
    (level_append (closed_words us (line_words us)) (line_words rest) c (lines_level rest k h p.2 q.2))))

objects_level : (f : File) (xs : List Object) (i : ℕ) → RoomSpecs 2 f.specs → SaidObjects xs (all_values f xs) i → Level 1 (object_words xs (all_values f xs))
unfolding object_words all_values object_values terminal_code unplaced_word
objects_level f [] i r p = level_none (omega arith)
objects_level f (x ∷ xs) i r p =
    let k = kind_room x.kind f.specs 2 r in
    let l = lines_level (object_values f x) 2 (omega arith) p.0.lines (resolve_room f.objects (of_kind x.kind f.specs) x.statements 2 k) in
    level_word _ _ (flat_by kind (unplaced_word x.word) refl refl p.0.word_class)
    (level_word _ _ (name_flat x.name p.0.name)
    (level_braces (line_words (object_values f x)) _ l (level_word stop _ stop_flat (objects_level f xs (suc i) r p.1))))

application_level : (f : File) → RoomSpecs 2 f.specs → Said f → Level 0 (application_words f (all_values f f.objects))
unfolding application_words given matches
application_level f r p =
    level_word _ _ (record { no_open = refl; no_close = refl })
    (level_word _ _ (name_flat f.cpu p.cpu)
    (level_braces (object_words f.objects (all_values f f.objects)) (stop ∷ []) (objects_level f f.objects 0 r p.objects) (stop_level 0 (omega arith))))

version_level : Level 0 version_words
unfolding given matches
version_level =
    level_word _ _ (record { no_open = refl; no_close = refl })
    (level_word _ _ equal_flat (level_word _ _ (record { no_open = refl; no_close = refl }) (stop_level 0 (omega arith))))

-- The whole ---------------------------------------------------------------------------------------------------------------------------------

implementation_level : (s : List ℕ) (t : Trees ◌⟶◌ (file ▸ ∎)) → Low 0 0 (plain_leaves s t) → Level 0 (each (plain_word s) (implementation_leaves t))
unfolding implementation_leaves plain_leaves
implementation_level s (node file_is (node p v (node q i (node r a nil))) nil) h =
    let x = plain_leaves s v in
    let y = plain_leaves s i in
    let z = plain_leaves s a ++ [] in
    let e = trees_balanced s p v in
    let k : Low 0 0 (y ++ z) = low_back x (y ++ z) 0 0 0 0 (omega arith) (low_front (x ++ (y ++ z)) [] 0 0 h) in
    let l : Level 0 y = record { balanced = trees_balanced s q i; low = λ b c e. low_shift y 0 0 b c (omega arith) (low_front y z 0 0 k) } in
    subst (λ m. Level 0 m) (plain_leaves_are s i) l

-- The words of a text's normal text never have more than sixteen braces open, where those of the text have not.
pub normal_shallow : (s : List ℕ) (d : Derivation (tokens s)) → Shallow (tokens s) → Said (syntax s d.tree)
    → ShallowWords (version_words ++ (each (plain_word s) (implementation_leaves d.tree) ++ application_words (syntax s d.tree) (all_values (syntax s d.tree) (syntax s d.tree).objects)))
normal_shallow s d h p =
    let f = syntax s d.tree in
    let l : Low 0 0 (plain_leaves s d.tree) = subst (λ m. Low 0 0 m) (sym (plain_leaves_are s d.tree)) (tokens_low s (leaf-tokens d.tree) (subst (λ m. Shallow m) (sym d.leaves) h)) in
    let a = application_level f (specs_room s d.tree l) p in
    let im = each (plain_word s) (implementation_leaves d.tree) in
    let w = application_words f (all_values f f.objects) in
    level_shallow _ (level_append version_words (im ++ w) version_level (level_append im w (implementation_level s d.tree l) a))
