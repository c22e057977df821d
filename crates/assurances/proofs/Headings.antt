-- Q-7 of the calls themselves. Assumes nothing.
use mathlib.Core.Path.{◌≡◌, sym, ◌∙◌, ap, ap₂, subst}
use mathlib.Core.List.{List}
use Prim.Native.Nat.{ℕ, ◌≤◌, ◌<◌}
use native.Mathlib.Omega.{arith}
use lib.ListN.{length}
use Rattle.grammar.specs.Stage.{number_of, place_of, Answers as StageAnswers}
use Rattle.grammar.specs.Answered.{Answer as StageAnswer}
use Rattle.std.specs.Prelude.{Ok}
use Rattle.meaning.specs.Answers.{Answer as Meant}
use Rattle.meaning.specs.Reading.{Answers, too_long, not_grammar, meant, reading}
use Rattle.meaning.specs.Rules.{FullRoom}
use Rattle.meaning.proofs.Whole.{one_answer, the_answer}
use Rattle.reading.specs.Results.{reading_of}
use Rattle.reading.specs.Rules.{ReadsByRules, short_tables, by_rules}
use Rattle.reading.specs.Demand.{PassesGrammar}
use Rattle.reading.specs.declared.Answer.TheVariants.{Refused as ReadRefused}
use Rattle.reading.specs.declared.Reading.{Reading}
use Rattle.reading.proofs.Demand.{reading_demand_3}
use Rattle.heading.specs.declared.VersionAndName.{VersionAndName}
use Rattle.heading.specs.Headings.{brace_in}
use Rattle.rows.specs.Refusing.{refusing}
use Rattle.heading.proofs.Promises.{q_7}
use Rattle.assurances.specs.Headings.{HeadingBesideRead}

-- What `read` hands back is the rules' answer.
by_the_rules : {s d e o v d' e' o' v' : List ℕ} {r : Reading} → FullRoom d e o v → ReadsByRules s d e o v d' e' o' v' r
    → r.answer ≡ (reading_of (reading s)).answer
by_the_rules f (short_tables g q u) = absurd (g f)
by_the_rules f (by_rules g x y q u) = ap (λ (z : Reading). z.answer) (q ∙ ap reading_of (sym (one_answer y.given)))

-- A refusal 3, 4 or 5 of the rules is the grammar stage's.
record OfStage (s : List ℕ) (n p : ℕ) : Type 0 where
  answer : StageAnswer
  answers : StageAnswers s answer
  short : length s ≤ 65535
  refuses : answer ≡ Ok tt → ⊥
  number : number_of answer ≡ n
  place : place_of answer ≡ p

of_stage : {s : List ℕ} {a : Meant} → Answers s a → (n p : ℕ) → (reading_of a).answer ≡ ReadRefused n p → 3 ≤ n → n ≤ 5 → OfStage s n p
unfolding reading_of
of_stage (too_long h) n p e l k = absurd (let z : 2 ≡ n = cc in omega arith)
of_stage (not_grammar a h m t) n p e l k = record { answer = a; answers = t; short = h; refuses = m; number = cc; place = cc }
of_stage {s} (meant w d) n p e l k =
    let g = one_answer (meant w d) in
    let h : PassesGrammar (reading_of (reading s)).answer = ((reading_demand_3 s).passes_exactly w).1 d in
    let z : PassesGrammar (ReadRefused n p) = subst PassesGrammar (ap (λ (x : Meant). (reading_of x).answer) g ∙ e) h in
    absurd (omega arith)

pub heading_beside_read : HeadingBesideRead
unfolding reading_of
heading_beside_read s h k b f =
    let q = q_7 s h k in
    let i = by_the_rules f b.contract in
    let w = the_answer s in
    record {
      refused_as_read = λ n p e. i ∙ ap (λ (x : Meant). (reading_of x).answer) ((q.as_read n p e).no_other (reading s) w.given);
      that_same = λ n p e l m g.
          let o = of_stage w.given n p (sym i ∙ e) l m in
          q.that_same o.short o.answer o.answers o.refuses (λ t. subst (λ (x : ℕ). x ≤ (brace_in t.tree).place) (sym o.place) (g t))
          ∙ ap₂ (refusing {A = VersionAndName}) o.number o.place;
      otherwise = λ t l. q.otherwise l t;
      behind = λ t n p e l m.
          let o = of_stage w.given n p (sym i ∙ e) l m in
          subst (λ (x : ℕ). (brace_in t.tree).place < x) o.place (q.later t o.answer o.answers o.refuses);
    }
