-- From what computes to the rules themselves. Assumes nothing.
use mathlib.Core.Path.{◌≡◌, refl, sym, ◌∙◌, ap, subst}
use mathlib.Core.List.{List, ◌++◌}
use mathlib.Core.Bool.{Bool, true, false, false≢true}
use mathlib.Core.Option.{Option, none, some}
use Prim.Native.Nat.{ℕ, ◌≤◌, ◌<◌}
use lib.ListN.{length, drop}
use lib.Dec.{ltb}
use borrow.Author.Tests.{ltb-true, ltb-false, lt-ltb}
use Rattle.token.specs.Find.{either}
use Rattle.token.specs.Lexing.{lex_from}
use Rattle.grammar.specs.Grammar.{file, ◌▸◌, ∎, Derivation}
use Rattle.grammar.specs.Terminals.{tokens, tokens_in}
use Rattle.grammar.specs.Stage.{passes, Answers as StageAnswers}
use Rattle.grammar.specs.Factored.{paper}
use Rattle.grammar.specs.Machine.{run}
use Rattle.grammar.specs.Readers.{stream_of}
use Rattle.grammar.specs.Answered.{Answer as GrammarAnswer}
use Rattle.std.specs.Prelude.{Ok, Err}
use Rattle.grammar.specs.declared.Refusal.TheVariants.{NoToken, NotAdmitted, TooDeep}
use Rattle.meaning.specs.Syntax.{File}
use Rattle.meaning.specs.Words.{choose}
use Rattle.meaning.specs.Faults.{Fault, first}
use Rattle.meaning.specs.Defining.{definition_faults}
use Rattle.meaning.specs.Applying.{object_faults}
use Rattle.meaning.specs.Actions.{syntax}
use Rattle.meaning.specs.Tree.{tree}
use Rattle.meaning.specs.Judging.{statement_stage}
use Rattle.meaning.specs.Resolving.{all_values, how_many_in_all, too_many}
use Rattle.meaning.specs.Answers.{Answer, Tables, accepted, refused, tables, unless, answer}
use Rattle.meaning.specs.Reading.{Parsed, parsed, not_parsed, after_grammar, parse, answer_of_parsed, reading}
use Rattle.meaning.specs.Rules.{TheAnswer}
use Rattle.meaning.proofs.Found.{run_answers, parse_derived}
use Rattle.meaning.proofs.Whole.{the_answer}
use Rattle.reading.proofs.Derived.{Derived, the_refusal}
use Rattle.dropping.specs.Drops.{Drop, all_drops}
use Rattle.mending.specs.Pieces.{dropped, mended, lines}
use Rattle.mending.specs.Results.{Outcome, left, written, by_answer, mend_by, or_refused, mend_parsed, mend_text, MendsText}
use Rattle.mending.specs.Rules.{Passes, text_short, lines_short, Mending, not_mended, too_short, done, MendsByRules, refuses, mends}
use Rattle.mending.specs.Answered.{Answer as Mended, not_mended_at, done_at}

-- What is parsed is derived --------------------------------------------------------------------------------------------------------------------

pub not_parsed_here : {A : Type 0} {n p : ℕ} {f : File} → ◌≡◌ {A = Parsed} (not_parsed n p) (parsed f) → A
not_parsed_here e = absurd (let z : ◌≡◌ {A = Bool} false true = cc in false≢true z)

module _ (s : List ℕ) (f : File) (e : parse s ≡ parsed f) where
  abbrev after : GrammarAnswer → Parsed
  after a = after_grammar s a (λ _. tree (tokens_in (lex_from s 0)))

  by_stage : length s ≤ 65535 → (a : GrammarAnswer) → StageAnswers s a → after a ≡ parsed f → Derived s
  unfolding after_grammar
  by_stage h (Ok _) (passes v q d) i = record { covered = record { short = h; divides = v; shallow = q }; derivation = d }
  by_stage h (Err (NoToken p)) t i = not_parsed_here i
  by_stage h (Err (NotAdmitted p)) t i = not_parsed_here i
  by_stage h (Err (TooDeep p)) t i = not_parsed_here i

  by_length : (b : Bool) → ltb 65535 (length s) ≡ b → choose b (λ _. not_parsed 2 0) (λ _. after (run 0 (paper file ▸ ∎) (stream_of (lex_from s 0)))) ≡ parsed f → Derived s
  unfolding choose
  by_length true h i = not_parsed_here i
  by_length false h i = by_stage (ltb-false 65535 (length s) h) _ (run_answers s) i

  pub parsed_derived : Derived s
  unfolding parse
  parsed_derived = by_length (ltb 65535 (length s)) refl e

  same_file : {a b : File} → ◌≡◌ {A = Parsed} (parsed a) (parsed b) → a ≡ b
  same_file i = cc

  pub own_syntax : (d : Derivation (tokens s)) → f ≡ syntax s d.tree
  own_syntax d = same_file (sym e ∙ parse_derived s parsed_derived.covered d)

-- A text of more than 65,535 bytes.
pub parse_long : (s : List ℕ) → 65535 < length s → parse s ≡ not_parsed 2 0
unfolding parse choose
parse_long s h =
    ap (λ b. choose b (λ _. not_parsed 2 0) (λ _. after_grammar s (run 0 (paper file ▸ ∎) (stream_of (lex_from s 0))) (λ _. tree (tokens_in (lex_from s 0))))) (lt-ltb 65535 (length s) h)

-- The stages from that of 13 on.
unfoldable rest : File → Answer
rest f =
    unless (first (statement_stage f)) (λ _. let rs = all_values f f.objects in unless (first (too_many (how_many_in_all rs))) (λ _. accepted (tables f rs)))

-- Rules ----------------------------------------------------------------------------------------------------------------------------------------

module _ (s g : List ℕ) (ds : List Drop) (l k : List ℕ) where
  abbrev Comes : Outcome → Type 0
  Comes o = Mending s g ds l k o.text o.lines o.result

  by_room : (t : Tables) → TheAnswer (mended s ds) (accepted t) → (a b : Bool) → ltb (length l) (length (mended s ds)) ≡ a → ltb (length k) (length (lines g (dropped s ds))) ≡ b
      → Comes (choose (either a b) (λ _. left (not_mended_at 20 0) l k)
      (λ _. record {
        result = done_at (length (mended s ds)) (length (lines g (dropped s ds)));
        text = mended s ds ++ drop (length (mended s ds)) l;
        lines = lines g (dropped s ds) ++ drop (length (lines g (dropped s ds))) k;
      }))
  unfolding choose left
  by_room t h true b i j = too_short t h (text_short (ltb-true (length l) (length (mended s ds)) i)) refl refl
  by_room t h false true i j = too_short t h (lines_short (ltb-true (length k) (length (lines g (dropped s ds))) j)) refl refl
  by_room t h false false i j = done t h (ltb-false (length l) (length (mended s ds)) i) (ltb-false (length k) (length (lines g (dropped s ds))) j) refl refl

  by_answers : (a : Answer) → TheAnswer (mended s ds) a → Comes (by_answer a s g ds l k)
  unfolding by_answer written left
  by_answers (accepted t) h = by_room t h (ltb (length l) (length (mended s ds))) (ltb (length k) (length (lines g (dropped s ds)))) refl refl
  by_answers (refused n p) h = not_mended n p h refl refl

  mending : Comes (mend_by s g ds l k)
  unfolding mend_by
  mending = by_answers (reading (mended s ds)) (the_answer (mended s ds))

module _ (s g l k : List ℕ) where
  abbrev ByRules : Outcome → Type 0
  ByRules o = MendsByRules s g l k o.text o.lines o.result

  not_passing : (n p : ℕ) → parse s ≡ not_parsed n p → Passes s → ⊥
  not_passing n p e h = not_parsed_here (sym e ∙ parse_derived s h.covered h.derivation)

  module _ (f : File) (e : parse s ≡ parsed f) where
    reading_is : (a : Answer) → answer f ≡ a → reading s ≡ a
    unfolding reading answer_of_parsed
    reading_is a h = ap answer_of_parsed e ∙ h

    faulty : {x : Fault} (o : File → Option Fault) → o f ≡ some x → ((h : Passes s) → o (syntax s h.derivation.tree) ≡ none) → Passes s → ⊥
    faulty o i j h =
        let z : ◌≡◌ {A = Option Fault} (some _) none = sym i ∙ ap o (own_syntax s f e h.derivation) ∙ j h in
        let y : ◌≡◌ {A = Bool} false true = cc in
        false≢true y

    by_objects : first (definition_faults f) ≡ none → (o : Option Fault) → first (object_faults f) ≡ o
        → ByRules (or_refused o l k (λ _. mend_by s g (all_drops f) l k))
    unfolding or_refused left answer unless rest
    by_objects i none j =
        let d = parsed_derived s f e in
        let u = own_syntax s f e d.derivation in
        mends
        (record {
          covered = d.covered;
          derivation = d.derivation;
          no_definition_fault = ap (λ (x : File). first (definition_faults x)) (sym u) ∙ i;
          no_object_fault = ap (λ (x : File). first (object_faults x)) (sym u) ∙ j;
        })
        (λ v. subst (λ (x : File). Mending s g (all_drops x) l k (mend_by s g (all_drops f) l k).text (mend_by s g (all_drops f) l k).lines (mend_by s g (all_drops f) l k).result)
        (own_syntax s f e v) (mending s g (all_drops f) l k))
    by_objects i (some x) j =
        refuses (faulty (λ y. first (object_faults y)) j (λ h. h.no_object_fault)) x.number x.place
        (the_refusal s x.number x.place (reading_is (refused x.number x.place)
        (ap (λ (y : Option Fault). unless y (λ _. unless (first (object_faults f)) (λ _. rest f))) i ∙ ap (λ (y : Option Fault). unless y (λ _. rest f)) j)))
        refl refl refl

    by_definitions : (o : Option Fault) → first (definition_faults f) ≡ o
        → ByRules (or_refused o l k (λ _. or_refused (first (object_faults f)) l k (λ _. mend_by s g (all_drops f) l k)))
    unfolding or_refused left answer unless rest
    by_definitions none i = by_objects i (first (object_faults f)) refl
    by_definitions (some x) i =
        refuses (faulty (λ y. first (definition_faults y)) i (λ h. h.no_definition_fault)) x.number x.place
        (the_refusal s x.number x.place (reading_is (refused x.number x.place)
        (ap (λ (y : Option Fault). unless y (λ _. unless (first (object_faults f)) (λ _. rest f))) i)))
        refl refl refl

  by_parse : (x : Parsed) → parse s ≡ x → ByRules (mend_parsed x s g l k)
  unfolding mend_parsed left reading answer_of_parsed
  by_parse (not_parsed n p) e = refuses (not_passing n p e) n p (the_refusal s n p (ap answer_of_parsed e)) refl refl refl
  by_parse (parsed f) e = by_definitions f e (first (definition_faults f)) refl

  pub text_by_rules : ByRules (mend_text s g l k)
  unfolding mend_text
  text_by_rules = by_parse (parse s) refl

-- The clauses of `mend`: from the first, the second.
pub mends_rules : {s g l k l' k' : List ℕ} {r : Mended} → MendsText s g l k l' k' r → MendsText s g l k l' k' r × MendsByRules s g l k l' k' r
mends_rules {s} {g} {l} {k} {l'} {k'} {r} h = (
  h,
  subst (λ (x : Mended). MendsByRules s g l k l' k' x) (sym h.result)
      (subst (λ (x : List ℕ). MendsByRules s g l k x k' (mend_text s g l k).result) (sym h.text)
      (subst (λ (x : List ℕ). MendsByRules s g l k (mend_text s g l k).text x (mend_text s g l k).result) (sym h.lines) (text_by_rules s g l k))),
)
