-- From the walk of a text to its syntax, and what the stages up to 18 come to. Assumes nothing.
use mathlib.Core.Path.{◌≡◌, refl, sym, ◌∙◌, ap, ap₂}
use mathlib.Core.List.{List}
use mathlib.Core.Bool.{Bool, true, false, false≢true, true≢false}
use mathlib.Core.Option.{Option, none, some}
use Prim.Native.Nat.{ℕ, ◌≤◌}
use native.Mathlib.Omega.{arith}
use lib.ListN.{length}
use lib.Dec.{ltb, eqb}
use borrow.Author.Tests.{le-ltb, eqb-true}
use Rattle.std.specs.Prelude.{Some, None, is_some}
use Rattle.token.specs.Lexing.{lex_from}
use Rattle.token.proofs.Find.{by_test}
use Rattle.token.proofs.Promises.{lex_ends}
use Rattle.grammar.specs.Grammar.{file, tokens as tokens-of, Derivation}
use Rattle.grammar.specs.Terminals.{tokens}
use Rattle.grammar.specs.Machine.{ended, prepend}
use Rattle.grammar.specs.Stage.{number_of, place_of, Divides, Shallow, Answers as StageAnswers, passes, no_token, not_admitted, ends_early, too_deep}
use Rattle.grammar.specs.Demand.{Covered}
use Rattle.grammar.specs.Readers.{look_at, answer_of, refusal_of, rest, rest_by, lex_at}
use Rattle.grammar.specs.declared.Look.{Look}
use Rattle.grammar.specs.Answered.{Answer as GrammarAnswer}
use Rattle.std.specs.Prelude.{Ok, Err}
use Rattle.grammar.specs.declared.Refusal.TheVariants.{NoToken, NotAdmitted, TooDeep}
use Rattle.grammar.proofs.Meeting.{rest_look}
use Rattle.grammar.proofs.Answering.{ended_is, stage_answers}
use Rattle.grammar.proofs.Decided.{decided as one-stage}
use Rattle.rows.specs.declared.Fault.{Fault}
use Rattle.rows.specs.Order.{MaybeFault}
use Rattle.meaning.specs.Syntax.{File}
use Rattle.meaning.specs.Actions.{syntax}
use Rattle.meaning.specs.Faults.{first, Fault as Refusal}
use Rattle.meaning.specs.Defining.{definition_faults}
use Rattle.meaning.specs.Applying.{object_faults}
use Rattle.meaning.specs.Answers.{Answer as Meant, refused, unless, answer}
use Rattle.meaning.specs.Reading.{Parsed, parsed, parse, not_grammar, meant, reading}
use Rattle.meaning.proofs.Found.{parse_derived}
use Rattle.meaning.proofs.Whole.{one_answer}
use Rattle.layout.specs.Kept.{kept, kept_definitions, kept_enumerators, kept_parts, kept_part_statements}
use Rattle.scopes.specs.Situations.{Situation}
use Rattle.scopes.specs.Promises.{fault_of}
use Rattle.scopes.proofs.Firsts.{none_there}
use Rattle.walk.specs.Whole.{Rooms, Few, Whole}
use Rattle.walk.specs.declared.Walked.{Walked}
use Rattle.reading.specs.Decisions.{grammar_fault, Merged, KeptParts, or_else, stage_fault, Decided, blank, Staged}
use Rattle.reading.specs.declared.Decision.{Decision}

-- The grammar stage ------------------------------------------------------------------------------------------------------------------------

-- A fault has the number and the place of what the stage answers.
record Faulted (a : GrammarAnswer) (x : Fault) : Type 0 where
  number : number_of a ≡ x.number
  place : place_of a ≡ x.place
  fails : a ≡ Ok tt → ⊥

faulted : (a : GrammarAnswer) (x : Fault) → grammar_fault a ≡ Some x → Faulted a x
unfolding grammar_fault number_of place_of
faulted (Ok _) x e = absurd (let z : ◌≡◌ {A = ℕ} 0 1 = cc in omega arith)
faulted (Err (NoToken p)) x e = let z : record { number = 3; place = p } ≡ x = cc in record { number = ap (λ (y : Fault). y.number) z; place = ap (λ (y : Fault). y.place) z; fails = λ q. let w : ◌≡◌ {A = ℕ} 0 1 = cc in omega arith }
faulted (Err (NotAdmitted p)) x e = let z : record { number = 4; place = p } ≡ x = cc in record { number = ap (λ (y : Fault). y.number) z; place = ap (λ (y : Fault). y.place) z; fails = λ q. let w : ◌≡◌ {A = ℕ} 0 1 = cc in omega arith }
faulted (Err (TooDeep p)) x e = let z : record { number = 5; place = p } ≡ x = cc in record { number = ap (λ (y : Fault). y.number) z; place = ap (λ (y : Fault). y.place) z; fails = λ q. let w : ◌≡◌ {A = ℕ} 0 1 = cc in omega arith }

no_grammar_fault : (a : GrammarAnswer) → grammar_fault a ≡ None → a ≡ Ok tt
unfolding grammar_fault
no_grammar_fault (Ok _) e = refl
no_grammar_fault (Err (NoToken p)) e = absurd (let z : ◌≡◌ {A = ℕ} 0 1 = cc in omega arith)
no_grammar_fault (Err (NotAdmitted p)) e = absurd (let z : ◌≡◌ {A = ℕ} 0 1 = cc in omega arith)
no_grammar_fault (Err (TooDeep p)) e = absurd (let z : ◌≡◌ {A = ℕ} 0 1 = cc in omega arith)

passed_is : {s : List ℕ} {a : GrammarAnswer} → StageAnswers s a → a ≡ Ok tt → Divides s × Shallow (tokens s)
passed_is (passes d h t) e = (d, h)
passed_is (no_token p h i b) e = absurd (let z : ◌≡◌ {A = ℕ} 0 1 = cc in omega arith)
passed_is (not_admitted l t r q h b n) e = absurd (let z : ◌≡◌ {A = ℕ} 0 1 = cc in omega arith)
passed_is (ends_early d h b n) e = absurd (let z : ◌≡◌ {A = ℕ} 0 1 = cc in omega arith)
passed_is (too_deep l t r q h b m o) e = absurd (let z : ◌≡◌ {A = ℕ} 0 1 = cc in omega arith)

refusal_not : (n p : ℕ) → refusal_of n p ≡ Ok tt → ⊥
unfolding refusal_of
refusal_not n p =
    by_test (λ (v : GrammarAnswer). v ≡ Ok tt → ⊥) (eqb n 59) (Err (NoToken p)) _
    (λ t e. let z : ◌≡◌ {A = ℕ} 0 1 = cc in omega arith)
    (λ _.
    by_test (λ (v : GrammarAnswer). v ≡ Ok tt → ⊥) (eqb n 60) (Err (NotAdmitted p)) (Err (TooDeep p))
    (λ t e. let z : ◌≡◌ {A = ℕ} 0 1 = cc in omega arith)
    (λ t e. let z : ◌≡◌ {A = ℕ} 0 1 = cc in omega arith))

passes_code : (a : Look) → answer_of a ≡ Ok tt → a.code ≡ 56
unfolding answer_of
passes_code a =
    by_test (λ (v : GrammarAnswer). v ≡ Ok tt → a.code ≡ 56) (eqb a.code 56) (Ok tt) _
    (λ t e. eqb-true a.code 56 t)
    (λ _.
    by_test (λ (v : GrammarAnswer). v ≡ Ok tt → a.code ≡ 56) (ltb a.code 56) (Err (NotAdmitted a.at)) (refusal_of a.code a.at)
    (λ t e. absurd (let z : ◌≡◌ {A = ℕ} 0 1 = cc in omega arith))
    (λ t e. absurd (refusal_not a.code a.at e)))

module _ (s : List ℕ) (x y : Rooms) (w : Walked) (h : Whole s x y w) where
  grammar_answers : StageAnswers s (answer_of w.look)
  grammar_answers = stage_answers s (look_at s 0 0) w.look (answer_of w.look) refl h.meets refl

  -- What the grammar stage refuses, the reading refuses.
  pub refused_early : length s ≤ 65535 → (x : Fault) → grammar_fault (answer_of w.look) ≡ Some x → reading s ≡ refused x.number x.place
  refused_early l x e =
      let a = answer_of w.look in
      let f = faulted a x e in
      one_answer (not_grammar a l f.fails grammar_answers) ∙ ap₂ refused f.number f.place

  -- Then it does not pass that stage.
  pub stopped_early : (x : Fault) → grammar_fault (answer_of w.look) ≡ Some x → Covered s → Derivation (tokens s) → ⊥
  stopped_early x e c d = (faulted (answer_of w.look) x e).fails (one-stage grammar_answers (passes c.divides c.shallow d))

-- The text has the syntax f, and its rows are kept.
pub record Arrived (s : List ℕ) (y : Rooms) (w : Walked) : Type 0 where
  pub file : File
  pub kept : KeptParts s y w file
  pub covered : Covered s

pub arrived : (s : List ℕ) (y : Rooms) (w : Walked) → Whole s blank y w → length s ≤ 65535 → grammar_fault (answer_of w.look) ≡ None → Arrived s y w
unfolding rest rest_by lex_at tokens syntax Few kept_definitions kept_enumerators kept_parts kept_part_statements kept
arrived s y w h l z =
    let e = no_grammar_fault (answer_of w.look) z in
    let c = passes_code w.look e in
    let g = passed_is (grammar_answers s blank y w h) e in
    let i : w.look.code ≤ 56 = omega arith in
    let t = h.told i in
    let p = (h.meets.took i).0 in
    let q : lex_at s 0 ≡ prepend (tokens-of t.trees) (rest s w.look) = sym (rest_look s 0 0 p) ∙ t.split in
    let r : rest s w.look ≡ ended w.look.at = ap (λ (b : Bool). rest_by b s w.look) (le-ltb w.look.code 56 (omega arith)) in
    let v = ended_is (length s) (lex_from s 0) (tokens-of t.trees) w.look.at (lex_ends s 0) (q ∙ ap (prepend (tokens-of t.trees)) r) in
    let k = t.holds.0 in
    let m = t.holds.1 l in
    let m₀ = m.0 in
    let m₁ = m.1 in
    let m₂ = m.2 in
    let m₃ = m.3 in
    let k₀ = k.definitions in
    let k₁ = k.enumerators in
    let k₂ = k.parts in
    let k₃ = k.statements in
    record {
      file = syntax s t.trees;
      kept = record {
        situation = record { derivation = record { tree = t.trees; leaves = sym v.1 }; syntax_of = refl };
        in_definitions = k.definition_rows m₀;
        in_enumerators = k.enumerator_rows m₁;
        in_parts = k.part_table m₂ m₃;
        in_statements = k.statement_table m₃;
        definitions = omega arith;
        enumerators = omega arith;
        parts = omega arith;
        statements = omega arith;
        version = k.version;
        implementation = k.implementation;
        cpu = k.cpu;
        places = k.places;
        again = k.again;
        counted = k.counted m₂;
      };
      covered = record { short = l; divides = g.0; shallow = g.1 };
    }

-- The reading of such a text is the answer of its syntax.
pub reading_is : (s : List ℕ) (f : File) → Situation s f → Covered s → reading s ≡ answer f
reading_is s f t c = one_answer (meant c t.derivation) ∙ ap answer (sym t.syntax_of)

-- Any two derivations of it have the same syntax.
same_file : {f g : File} → ◌≡◌ {A = Parsed} (parsed f) (parsed g) → f ≡ g
same_file e = cc

same_syntax : (s : List ℕ) → Covered s → (d e : Derivation (tokens s)) → syntax s d.tree ≡ syntax s e.tree
same_syntax s c d e = same_file (sym (parse_derived s c d) ∙ parse_derived s c e)

-- The stages of 6 to 12 and of 17 ----------------------------------------------------------------------------------------------------------------------

module _ (b : Option Refusal) where
  -- A stage with a fault answers,
  pub answers_first : (a : Option Refusal) (r : MaybeFault) → r ≡ fault_of a → is_some r ≡ true → r ≡ fault_of (or_else a b)
  unfolding fault_of or_else
  answers_first none r e n = absurd (true≢false (sym n ∙ ap is_some e))
  answers_first (some x) r e n = e

  -- and one without hands on to the next.
  pub answers_next : (a : Option Refusal) → fault_of a ≡ None → fault_of b ≡ fault_of (or_else a b)
  unfolding fault_of or_else
  answers_next none e = refl
  answers_next (some x) e = absurd (true≢false (ap is_some e))

all_none : (a b : Option Refusal) → fault_of (or_else a b) ≡ None → (a ≡ none) × (b ≡ none)
unfolding or_else
all_none none b e = (refl, none_there b e)
all_none (some x) b e = absurd (let q = none_there (some x) e in let z : ◌≡◌ {A = ℕ} 0 1 = cc in omega arith)

-- A stage with a fault refuses.
pub stage_refuses : (a : Option Refusal) (k : Unit {0} → Meant) (x : Fault) → fault_of a ≡ Some x → unless a k ≡ refused x.number x.place
unfolding fault_of unless
stage_refuses none k x e = absurd (false≢true (ap is_some e))
stage_refuses (some y) k x e = let z : record { number = y.number; place = y.place } ≡ x = cc in ap (λ (q : Fault). refused q.number q.place) z

stages_refuse : (a b : Option Refusal) (k : Unit {0} → Meant) (x : Fault) → fault_of (or_else a b) ≡ Some x → unless a (λ _. unless b k) ≡ refused x.number x.place
unfolding or_else unless
stages_refuse none b k x e = stage_refuses b k x e
stages_refuse (some y) b k x e = stage_refuses (some y) (λ _. unless b k) x e

-- Where there is no fault there is none as a struct.
no_fault_of : (a : Option Refusal) (x : Fault) → a ≡ none → fault_of a ≡ Some x → ⊥
unfolding fault_of
no_fault_of none x h e = false≢true (ap is_some e)
no_fault_of (some y) x h e = absurd (let z : ◌≡◌ {A = ℕ} 0 1 = cc in omega arith)

-- What the fault of these stages decides.
pub decided : (s : List ℕ) (y : Rooms) (y' : Merged) (w : Walked) (d : Decision) (t : Arrived s y w) → Staged s y' t.file d → Decided s y' d
unfolding stage_fault answer
decided s y y' w d t g =
    let f = t.file in
    let e = g.fault in
    record {
      refused_by = λ x n.
          reading_is s f t.kept.situation t.covered
          ∙ stages_refuse (first (definition_faults f)) (first (object_faults f)) _ x (sym e ∙ n);
      stopped = λ x n c v h.
          let i : syntax s v.tree ≡ f = same_syntax s c v t.kept.situation.derivation ∙ sym t.kept.situation.syntax_of in
          no_fault_of (stage_fault f) x (ap stage_fault (sym i) ∙ h) (sym e ∙ n);
      passes = λ n.
          let z = all_none (first (definition_faults f)) (first (object_faults f)) (sym e ∙ n) in
          record {
            file = f;
            kept = g.kept n;
            covered = t.covered;
            no_definition_fault = z.0;
            no_object_fault = z.1;
          };
    }
