-- The public call: from what was read to the answer. Assumes nothing.
use mathlib.Core.Path.{◌≡◌, refl, sym, ◌∙◌, ap, subst}
use mathlib.Core.List.{List}
use mathlib.Core.Bool.{Bool, true, false, false≢true}
use mathlib.Core.Option.{Option, none, some}
use Rattle.std.specs.Prelude.{Option as Maybe}
use Prim.Native.Nat.{ℕ, ◌≤◌}
use native.Mathlib.Omega.{arith}
use lib.ListN.{length, get_or, replicate, length-replicate}
use lib.Dec.{eqb}
use borrow.Author.Tests.{eqb-true, eqb-false}
use Rattle.grammar.specs.Stage.{number_of}
use Rattle.grammar.specs.Readers.{answer_of}
use Rattle.meaning.specs.Syntax.{File}
use Rattle.meaning.specs.Kinds.{kind_number}
use Rattle.meaning.specs.Faults.{first}
use Rattle.meaning.specs.Defining.{definition_faults}
use Rattle.meaning.specs.Applying.{object_faults}
use Rattle.meaning.specs.Answers.{Answer, Tables, accepted, refused, answer}
use Rattle.meaning.specs.Reading.{Parsed, parsed, not_parsed, parse, answer_of_parsed, reading}
use Rattle.meaning.specs.Rules.{FullRoom, TheAnswer}
use Rattle.meaning.proofs.Found.{parse_derived}
use Rattle.meaning.proofs.Whole.{the_answer, one_answer}
use Rattle.layout.proofs.Codes.{kind_low}
use Rattle.scopes.specs.Given.{Places}
use Rattle.walk.specs.Whole.{Rooms, Whole}
use Rattle.walk.specs.declared.Walked.{Walked}
use Rattle.reading.specs.Rules.{ReadsByRules, short_tables, by_rules}
use Rattle.reading.specs.Results.{reading_of}
use Rattle.reading.specs.Decisions.{grammar_fault, KeptParts}
use Rattle.reading.specs.declared.Answer.{Answer as Given}
use Rattle.reading.specs.declared.Answer.TheVariants.{Accepted, Refused}
use Rattle.reading.specs.declared.Reading.{Reading}
use Rattle.reading.proofs.Arriving.{Arrived, arrived, refused_early, reading_is}
use Rattle.reading.specs.Decisions.{blank}
use Rattle.walk.proofs.Placing.{each_place}
use Rattle.reading.proofs.Settling.{Fitting, fitting}
use Rattle.standard.specs.Asking.{Finding, findings, foremost}
use Rattle.standard.specs.Section.{section, standard}
use Rattle.standard.specs.Rows.{rows_written, words_written}
use Rattle.standard.specs.Heads.{NamesAt}
use Rattle.standard.specs.Findings.{Knows, RowsAre, as_told, TellsForemost}
use Rattle.standard.specs.Checking.{told, checked_as, checked_by, checked_against, checked, verdict_of, AnswersText, ChecksAccepted}
use Rattle.standard.specs.Answered.{Checked, MaybeWrong, wrong}
use Rattle.rows.specs.Refusing.{refusing}
use Rattle.rows.specs.Order.{MaybeFault}
use Rattle.std.specs.Prelude.{Some, None, Ok}
use Rattle.standard.specs.declared.Known.{Known}
use Rattle.standard.specs.declared.Told.{Told}
use Rattle.standard.proofs.Sound.{rows_are}
use Rattle.reading.proofs.Derived.{derived}
use Rattle.standard.proofs.ByRules.{checked_is}
use Rattle.standard.proofs.Ranged.{unless_none}

-- The text's own answer ------------------------------------------------------------------------------------------------------------------------

full_room : FullRoom (replicate 6656 0) (replicate 3072 0) (replicate 2048 0) (replicate 18432 0)
full_room =
    let a : length (replicate {A = ℕ} 6656 0) ≡ 6656 = length-replicate {A = ℕ} 6656 0 in
    let b : length (replicate {A = ℕ} 3072 0) ≡ 3072 = length-replicate {A = ℕ} 3072 0 in
    let e : length (replicate {A = ℕ} 2048 0) ≡ 2048 = length-replicate {A = ℕ} 2048 0 in
    let g : length (replicate {A = ℕ} 18432 0) ≡ 18432 = length-replicate {A = ℕ} 18432 0 in
    record { definitions = omega (arith, a); enumerators = omega (arith, b); objects = omega (arith, e); values = omega (arith, g) }

by_answer : {s d e o v d' e' o' v' : List ℕ} {r : Reading} → ReadsByRules s d e o v d' e' o' v' r → FullRoom d e o v → AnswersText s r.answer
by_answer (short_tables h q u) k = absurd (h k)
by_answer (by_rules k a t q m) k' = ap (λ (x : Reading). x.answer) (q ∙ ap reading_of (sym (one_answer t.given)))

pub answers_text : {s d' e' o' v' : List ℕ} {r : Reading} → ReadsByRules s (replicate 6656 0) (replicate 3072 0) (replicate 2048 0) (replicate 18432 0) d' e' o' v' r → AnswersText s r.answer
answers_text h = by_answer h full_room

-- A refused text.
refused_by : (x : Parsed) (n q : ℕ) → answer_of_parsed x ≡ refused n q → refusing n q ≡ checked_by standard x
unfolding checked_by checked_as answer_of_parsed
refused_by (parsed f) n q e = sym (ap (checked_as standard f) e)
refused_by (not_parsed m k) n q e = let y : m ≡ n = cc in let z : k ≡ q = cc in cc

refusal_is : (a : Answer) (n q : ℕ) → (reading_of a).answer ≡ Refused n q → a ≡ refused n q
unfolding reading_of
refusal_is (accepted t) n q e = absurd (let z : ◌≡◌ {A = ℕ} 0 1 = cc in omega (arith, z))
refusal_is (refused m k) n q e = let y : m ≡ n = cc in let z : k ≡ q = cc in cc

pub check_refused : (s : List ℕ) (r : Given) (n q : ℕ) → AnswersText s r → r ≡ Refused n q → refusing n q ≡ checked s
unfolding checked checked_against reading
check_refused s r n q h e = refused_by (parse s) n q (refusal_is (reading s) n q (sym h ∙ e))

data Accepts (a : Answer) : Type 0 where
  accepts : (t : Tables) → a ≡ accepted t → Accepts a

accepted_is : (a : Answer) → (reading_of a).answer ≡ Accepted → Accepts a
unfolding reading_of
accepted_is (accepted t) e = accepts t refl
accepted_is (refused m k) e = absurd (let z : ◌≡◌ {A = ℕ} 0 1 = cc in omega (arith, z))

pub check_accepts : (s : List ℕ) (r : Given) (v : MaybeWrong) → AnswersText s r → r ≡ Accepted → ChecksAccepted s v → Ok v ≡ checked s
check_accepts s r v h e k = by (accepted_is (reading s) (sym h ∙ e))
  where
    by : Accepts (reading s) → Ok v ≡ checked s
    by (accepts t q) = k t q

-- What is told -----------------------------------------------------------------------------------------------------------------------------------

verdict_told : (o : Option Finding) → Ok (verdict_of (as_told o)) ≡ told o
unfolding as_told told verdict_of
verdict_told none = refl
verdict_told (some x) = refl

-- An accepted text -------------------------------------------------------------------------------------------------------------------------------

fits : (s : List ℕ) (y : Rooms) (w : Walked) (a : Arrived s y w) (t : Tables) → answer a.file ≡ accepted t → Fitting a.file
unfolding answer
fits s y w a t e =
    let d = unless_none (first (definition_faults a.file)) _ t e in
    let o = unless_none (first (object_faults a.file)) _ t d.1 in
    fitting s a.file a.kept.situation d.0 o.0

passes : (s : List ℕ) (y : Rooms) (w : Walked) → Whole s blank y w → length s ≤ 65535 → (t : Tables) → reading s ≡ accepted t → grammar_fault (answer_of w.look) ≡ None
passes s y w h l t e = by (grammar_fault (answer_of w.look)) refl
  where
    by : (o : MaybeFault) → grammar_fault (answer_of w.look) ≡ o → grammar_fault (answer_of w.look) ≡ None
    by None q = q
    by (Some x) q =
        let g = refused_early s blank y w h l x q in
        absurd (let v = sym g ∙ e in let z : ◌≡◌ {A = Bool} false true = cc in false≢true z)

places_of : {f : File} {s : List ℕ} {y : Rooms} {w : Walked} → KeptParts s y w f → Places f w.places
places_of {f} h = record {
  place = λ k.
      let b = kind_low k in
      ap (λ (l : List ℕ). get_or l (kind_number k) 0) h.places ∙ sym (each_place f.specs (kind_number k) (omega (arith, b)));
}

rows_in : {g rs ws : List ℕ} → g ≡ section → rs ≡ rows_written → ws ≡ words_written → RowsAre g rs ws
rows_in {g} {rs} {ws} e h k =
    subst (λ (x : List ℕ). RowsAre x rs ws) (sym e)
    (subst (λ (x : List ℕ). RowsAre section x ws) (sym h) (subst (λ (x : List ℕ). RowsAre section rows_written x) (sym k) rows_are))

pub check_walked : (s : List ℕ) (y : Rooms) (w : Walked) (n : ℕ) (g rs ws : List ℕ) (v : Maybe Told) (r : MaybeWrong) → Whole s blank y w → NamesAt s w.implementation_at n
    → g ≡ section → rs ≡ rows_written → ws ≡ words_written
    → TellsForemost g rs ws s y.definitions y.enumerators (record { definitions = w.definitions; enumerators = w.enumerators; name = n; places = w.places }) v
    → r ≡ verdict_of v → ChecksAccepted s r
unfolding findings
check_walked s y w n g rs ws v r h m e₁ e₂ e₃ k q t e =
    let l = (derived t (subst (TheAnswer s) e (the_answer s)).given refl).covered.short in
    let A = arrived s y w h l (passes s y w h l t e) in
    let f = A.file in
    let K = A.kept in
    let a : answer f ≡ accepted t = sym (reading_is s f K.situation A.covered) ∙ e in
    let F = fits s y w A t a in
    let p : parse s ≡ parsed f = parse_derived s A.covered K.situation.derivation ∙ ap parsed (sym K.situation.syntax_of) in
    let N = m f K.situation (sym K.implementation.0) in
    let F₁ = F.definitions in
    let F₂ = F.enumerators in
    let k₁ = K.definitions in
    let k₂ = K.enumerators in
    let x : Known = record { definitions = w.definitions; enumerators = w.enumerators; name = n; places = w.places } in
    let kn : Knows s y.definitions y.enumerators x f = record {
      situation = K.situation;
      in_definitions = K.in_definitions;
      in_enumerators = K.in_enumerators;
      definitions = k₁;
      enumerators = k₂;
      definitions_fit = omega (arith, F₁, k₁);
      enumerators_fit = omega (arith, F₂, k₂);
      name = N.0;
      named = N.1;
      places = places_of K;
    } in
    ap Ok (q ∙ ap verdict_of (k f kn (rows_in e₁ e₂ e₃))) ∙ verdict_told (foremost (findings standard f)) ∙ sym (checked_is s f t p a)
