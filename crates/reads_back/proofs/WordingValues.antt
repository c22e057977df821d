-- What a text's resolved values say: each is a word that the grammar has as a value, and stands alone. Assumes nothing.
use mathlib.Core.Path.{◌≡◌, refl, sym, ◌∙◌, ap, subst}
use mathlib.Core.List.{List, [], ◌∷◌}
use mathlib.Core.Bool.{Bool, true, false, false≢true}
use mathlib.Core.Option.{Option, none, some}
use Prim.Native.Nat.{ℕ, suc}
use Rattle.token.specs.Find.{pick}
use Rattle.grammar.specs.Grammar.{Kind, Derivation, numeral, matches}
use Rattle.grammar.specs.Terminals.{tokens}
use Rattle.meaning.specs.Syntax.{Word, Definition, Definitions, no_more, define, Values, no_value, value, Statements, done, state, Spec, Object, File}
use Rattle.meaning.specs.Words.{alike, among, choose}
use Rattle.meaning.specs.Actions.{syntax}
use Rattle.meaning.specs.Kinds.{same_kind}
use Rattle.meaning.specs.Scopes.{sort_of, of_kind, names}
use Rattle.meaning.specs.Judging.{taken}
use Rattle.meaning.specs.Resolving.{number, valued, take_value, Resolved, end, resolved, entries, default_entry, resolve, resolve_under, object_values, all_values}
use Rattle.meaning.specs.Places.{each}
use Rattle.meaning.proofs.Unplaced.{unplaced_word}
use Rattle.meaning.proofs.Numbering.{Counts, object_numbers, numbered}
use Rattle.meaning.proofs.Standing.{counts_head, counts_tail}
use Rattle.reads_back.proofs.Restated.{restated_word, plain_word, Alone, AllAlone, Named, Stateable, as_number, as_string, as_float, as_auto, as_name, as_true, as_false, SaidTaken, SaidLines, SaidObjects, Said}
use Rattle.reads_back.proofs.SameWords.{by_choose, alike_bytes}
use Rattle.reads_back.proofs.RestatingValues.{valued_kept}
use Rattle.reads_back.proofs.WordingClasses.{alone_class, in_list, is_number, ValueForm, number_form, string_form, float_form, auto_form, name_form, true_form, false_form, number_class, number_apart, string_apart, float_apart, auto_apart, name_within, true_within, false_within}
use Rattle.reads_back.proofs.WordingSyntax.{WordedValue, WordedOption, Worded, worded_none, worded_more, WordedList, list_more, WordedSpecs, WordedStatements, worded_done, worded_state, WordedObjects, worded}

-- A number that stands alone still does so in decimal.
abbrev pub DecimalAlone : Type 0
DecimalAlone = (w : Word) → Alone w → w.class ≡ numeral → Alone (restated_word (number w.number) w)

-- One value ---------------------------------------------------------------------------------------------------------------------------------

-- Under what is in no list there is nothing.
under_end : (vs : Values) → WordedList vs → (os : List Object) (t : Word) (ss : Statements) → Alone (unplaced_word t) → in_list t.class ≡ false
    → resolve_under vs os t ss ≡ end
unfolding resolve alike choose unplaced_word
under_end no_value p os t ss a h = refl
under_end (value w e us vs) (list_more b c p q) os t ss a h =
    let r = under_end vs q os t ss a h in
    go (alike w t) refl r
  where
    go : (x : Bool) → alike w t ≡ x → resolve_under vs os t ss ≡ end → choose x (λ _. resolve us os ss) (λ _. resolve_under vs os t ss) ≡ end
    go true k r = absurd (false≢true (sym h ∙ ap in_list (sym (alone_class (unplaced_word w) (unplaced_word t) b a (alike_bytes w t k))) ∙ c))
    go false k r = r

module _ (decimal_alone : DecimalAlone) (os : List Object) where
  module _ (b : Bool) (d : Definition) (vs : Values) (t : Word) (us : Resolved) where
    -- A number, and any other value.
    number_said : Named d.name → Alone (unplaced_word t) → t.class ≡ numeral → us ≡ end → SaidTaken (take_value b os d vs t) us
    unfolding take_value valued restated_word sort_of unplaced_word matches
    number_said n a c e =
        let k : valued (sort_of t.class) os d vs t ≡ number t.number = ap (λ x. valued (sort_of x) os d vs t) c in
        record {
          name = n;
          alone = subst (λ v. Alone (restated_word v t)) (sym k) (decimal_alone (unplaced_word t) a c);
          form = subst (λ v. Stateable (restated_word v t).class us) (sym k) (subst (λ r. Stateable numeral r) (sym e) (as_number refl));
        }

    plain_said : Named d.name → Alone (unplaced_word t) → is_number (sort_of t.class) ≡ false → Stateable t.class us
        → SaidTaken (take_value b os d vs t) us
    unfolding take_value unplaced_word
    plain_said n a h f =
        let k = valued_kept (sort_of t.class) os d vs t h in
        record { name = n; alone = subst Alone (sym k) a; form = subst (λ w. Stateable w.class us) (sym k) f }

    value_said : Named d.name → Alone (unplaced_word t) → ValueForm t.class → (in_list t.class ≡ false → us ≡ end)
        → SaidTaken (take_value b os d vs t) us
    value_said n a (number_form m) h = number_said n a (number_class t.class m) (h (number_apart t.class m))
    value_said n a (string_form m) h =
        let k = string_apart t.class m in
        plain_said n a k.1 (subst (λ r. Stateable t.class r) (sym (h k.0)) (as_string m))
    value_said n a (float_form m) h =
        let k = float_apart t.class m in
        plain_said n a k.1 (subst (λ r. Stateable t.class r) (sym (h k.0)) (as_float m))
    value_said n a (auto_form m) h =
        let k = auto_apart t.class m in
        plain_said n a k.1 (subst (λ r. Stateable t.class r) (sym (h k.0)) (as_auto m))
    value_said n a (name_form m) h = plain_said n a (name_within t.class m).1 (as_name m)
    value_said n a (true_form m) h = plain_said n a (true_within t.class m).1 (as_true m)
    value_said n a (false_form m) h = plain_said n a (false_within t.class m).1 (as_false m)

  -- Scopes ------------------------------------------------------------------------------------------------------------------------------------

  -- What is under a value says what it should, whatever the value.
  abbrev Inner : Definition → Values → (Word → Statements → Resolved) → Type 0
  Inner d vs inner = (b : Bool) (t : Word) (us : Statements) → WordedValue t → WordedStatements us → SaidTaken (take_value b os d vs t) (inner t us) × SaidLines (inner t us)

  entries_said : (ss : Statements) (d : Definition) (vs : Values) (inner : Word → Statements → Resolved) (rest : Resolved)
      → WordedStatements ss → Inner d vs inner → SaidLines rest → SaidLines (entries ss os d vs inner rest)
  unfolding entries choose
  entries_said done d vs inner rest w k r = r
  entries_said (state x inside more) d vs inner rest (worded_state v i m) k r =
      go (alike x.name d.name) (entries more os d vs inner rest) (entries_said more d vs inner rest m k r)
    where
      go : (b : Bool) (l : Resolved) → SaidLines l
          → SaidLines (choose b (λ _. resolved (take_value true os d vs x.value) (inner x.value inside) l) (λ _. l))
      go true l h = let y = k true x.value inside v i in (y.0, y.1, h)
      go false l h = h

  default_said : (o : Option Word) (d : Definition) (vs : Values) (inner : Word → Statements → Resolved) (rest : Resolved)
      → WordedOption o → Inner d vs inner → SaidLines rest → SaidLines (default_entry o os d vs inner rest)
  unfolding default_entry
  default_said none d vs inner rest w k r = r
  default_said (some t) d vs inner rest w k r = let y = k false t done w worded_done in (y.0, y.1, r)

  mutual
    unfolding resolve

    resolve_said : (ds : Definitions) (ss : Statements) → Worded ds → WordedStatements ss → SaidLines (resolve ds os ss)
    resolve_said no_more ss w v = tt
    resolve_said (define d vs ds) ss (worded_more n o l w) v =
        let r = resolve_said ds ss w v in
        let i : Inner d vs (λ t us. resolve_under vs os t us) =
        λ b t us x y. (value_said b d vs t (resolve_under vs os t us) n x.alone x.form (λ h. under_end vs l os t us x.alone h), under_said vs t us l y) in
        by_choose SaidLines (among d.name (names ss)) _ _ (λ _. entries_said ss d vs _ _ v i r) (λ _. default_said (taken d.default) d vs _ _ o i r)

    under_said : (vs : Values) (t : Word) (ss : Statements) → WordedList vs → WordedStatements ss → SaidLines (resolve_under vs os t ss)
    under_said no_value t ss w v = tt
    under_said (value u e us vs) t ss (list_more a c p q) v = by_choose SaidLines (alike u t) _ _ (λ _. resolve_said us ss p v) (λ _. under_said vs t ss q v)

-- Objects -----------------------------------------------------------------------------------------------------------------------------------

kind_worded : (k : Kind) (xs : List Spec) → WordedSpecs xs → Worded (of_kind k xs)
unfolding of_kind
kind_worded k [] w = worded_none
kind_worded k (x ∷ xs) w = go (same_kind k x.kind) (kind_worded k xs w.1)
  where
    go : (b : Bool) → Worded (of_kind k xs) → Worded (pick b x.definitions (of_kind k xs))
    go true r = w.0.definitions
    go false r = r

objects_said : (decimal_alone : DecimalAlone) (f : File) (xs : List Object) (i : ℕ) → WordedSpecs f.specs → WordedObjects xs
    → Counts i (object_numbers xs) → SaidObjects xs (all_values f xs) i
unfolding all_values object_values object_numbers
objects_said decimal_alone f [] i p w c = tt
objects_said decimal_alone f (x ∷ xs) i p w c = (
  record {
    row_is = counts_head c;
    word_alone = w.0.word_alone;
    word_class = w.0.word_class;
    kind_is = w.0.kind_is;
    name = w.0.name;
    lines = resolve_said decimal_alone f.objects (of_kind x.kind f.specs) x.statements (kind_worded x.kind f.specs p) w.0.statements;
  },
  objects_said decimal_alone f xs (suc i) p w.1 (counts_tail c),
)

-- The words that the normal text of a text writes stand alone, and are what the grammar has in their places.
pub said : (s : List ℕ) (d : Derivation (tokens s)) → AllAlone (each (plain_word s) (tokens s)) → DecimalAlone → Said (syntax s d.tree)
said s d a decimal_alone =
    let f = syntax s d.tree in
    let w = worded s d.tree (subst (λ l. AllAlone (each (plain_word s) l)) (sym d.leaves) a) in
    record { cpu = w.cpu; objects = objects_said decimal_alone f f.objects 0 w.specs w.objects (numbered s d.tree).1.0 }
