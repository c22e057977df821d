-- What is told of a text that is refused: its rows are those of its syntax. Assumes nothing.
use mathlib.Core.Path.{◌≡◌, refl, sym, ◌∙◌, ap}
use mathlib.Core.List.{List, []}
use mathlib.Core.Bool.{false≢true}
use Prim.Native.Nat.{ℕ, ◌≤◌, min}
use native.Mathlib.Omega.{arith}
use lib.ListN.{length, take, replicate, length-replicate}
use Rattle.std.specs.Prelude.{Some, None, is_some}
use Rattle.rows.specs.declared.Fault.{Fault}
use Rattle.rows.specs.Order.{MaybeFault}
use Rattle.grammar.specs.Readers.{answer_of}
use Rattle.grammar.specs.Answered.{Answer as GrammarAnswer}
use Rattle.std.specs.Prelude.{Ok, Err}
use Rattle.grammar.specs.declared.Refusal.TheVariants.{NoToken, NotAdmitted, TooDeep}
use Rattle.meaning.specs.Syntax.{File}
use Rattle.meaning.specs.Answers.{Answer, refused}
use Rattle.meaning.specs.Reading.{Parsed, parsed, parse, reading}
use Rattle.meaning.proofs.Found.{parse_derived}
use Rattle.walk.specs.Whole.{Rooms, Whole}
use Rattle.walk.specs.declared.Walked.{Walked}
use Rattle.reading.specs.Decisions.{grammar_fault, blank}
use Rattle.reading.proofs.Arriving.{Arrived, refused_early, arrived}
use Rattle.causes.specs.Firsts.{first_like}
use Rattle.layout.specs.Kept.{spec_entries}
use Rattle.causes.specs.Causes.{named_first, TellsNamed, defined_first, TellsDefined}
use Rattle.causes.proofs.Naming.{cause_is}
use Rattle.causes.proofs.Defining.{cause_is as definition_is}

low_number : (a : GrammarAnswer) (x : Fault) → grammar_fault a ≡ Some x → x.number ≤ 5
unfolding grammar_fault
low_number (Ok _) x e = absurd (false≢true (ap is_some e))
low_number (Err (NoToken p)) x e = let z : record { number = 3; place = p } ≡ x = cc in let k = ap (λ (y : Fault). y.number) z in omega (arith, k)
low_number (Err (NotAdmitted p)) x e = let z : record { number = 4; place = p } ≡ x = cc in let k = ap (λ (y : Fault). y.number) z in omega (arith, k)
low_number (Err (TooDeep p)) x e = let z : record { number = 5; place = p } ≡ x = cc in let k = ap (λ (y : Fault). y.number) z in omega (arith, k)

same_number : (n p m q : ℕ) → ◌≡◌ {A = Answer} (refused n p) (refused m q) → n ≡ m
same_number n p m q e = cc

same_file : (f g : File) → ◌≡◌ {A = Parsed} (parsed f) (parsed g) → f ≡ g
same_file f g e = cc

module _ (s : List ℕ) (y : Rooms) (w : Walked) (h : Whole s blank y w) (l : length s ≤ 65535) where
  -- A text that is refused with more than 5 passes the grammar stage,
  passed : (n p : ℕ) → 6 ≤ n → reading s ≡ refused n p → grammar_fault (answer_of w.look) ≡ None
  passed n p k e = by (grammar_fault (answer_of w.look)) refl
    where
      by : (o : MaybeFault) → grammar_fault (answer_of w.look) ≡ o → grammar_fault (answer_of w.look) ≡ None
      by None q = q
      by (Some x) q =
          let g = refused_early s blank y w h l x q in
          let m = same_number _ _ _ _ (sym g ∙ e) in
          absurd (let low = low_number (answer_of w.look) x q in omega (arith, low, m, k))

  -- and its syntax is that of the rows.
  file_is : (a : Arrived s y w) (f : File) → parse s ≡ parsed f → f ≡ a.file
  file_is a f e =
      let k = a.kept.situation in
      same_file f a.file (sym e ∙ parse_derived s a.covered k.derivation ∙ ap parsed (sym k.syntax_of))

pub tells_named : (s : List ℕ) (y : Rooms) (w : Walked) → Whole s blank y w → (n p r : ℕ) → n ≡ min w.parts 513 → r ≡ first_like s y.parts 10 n 5130 3 p → TellsNamed s p r
tells_named s y w h n p r m e l q f k =
    let a = arrived s y w h l (passed s y w h l 24 p (omega arith) q) in
    let b = a.kept.parts in
    let c : length y.parts ≡ length (replicate {A = ℕ} 5130 0) = h.sizes.parts in
    let d = length-replicate {A = ℕ} 5130 0 in
    e
    ∙ cause_is s y.parts a.file a.kept.situation a.kept.in_parts (omega (arith, c, d)) n p (m ∙ ap (λ (i : ℕ). min i 513) b)
    ∙ ap (λ (g : File). named_first p [] (take 513 g.parts)) (sym (file_is s y w h l a f k))

pub tells_defined : (s : List ℕ) (y : Rooms) (w : Walked) → Whole s blank y w → (n p r : ℕ) → n ≡ min w.definitions 513 → r ≡ first_like s y.definitions 19 n 0 2 p
    → TellsDefined s p r
tells_defined s y w h n p r m e l q f k =
    let a = arrived s y w h l (passed s y w h l 8 p (omega arith) q) in
    let b = a.kept.definitions in
    e
    ∙ definition_is s y.definitions a.file a.kept.situation a.kept.in_definitions n p (m ∙ ap (λ (i : ℕ). min i 513) b)
    ∙ ap (λ (g : File). defined_first p [] (take 513 (spec_entries g.specs))) (sym (file_is s y w h l a f k))
