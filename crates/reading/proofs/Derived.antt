-- An accepted text, its file and its derivations. Assumes nothing.
use mathlib.Core.Path.{◌≡◌, refl, sym, ◌∙◌, ap, subst}
use mathlib.Core.List.{List}
use mathlib.Core.Bool.{Bool, true, false, false≢true}
use Prim.Native.Nat.{ℕ}
use Rattle.grammar.specs.Grammar.{Derivation}
use Rattle.grammar.specs.Terminals.{tokens}
use Rattle.grammar.specs.Demand.{Covered}
use Rattle.meaning.specs.Syntax.{File}
use Rattle.meaning.specs.Actions.{syntax}
use Rattle.meaning.specs.Answers.{Answer, Tables, accepted, refused, answer}
use Rattle.meaning.specs.Reading.{Parsed, parsed, not_parsed, parse, answer_of_parsed, reading, Answers, too_long, not_grammar, meant}
use Rattle.meaning.specs.Rules.{TheAnswer}
use Rattle.meaning.proofs.Found.{parse_derived}
use Rattle.meaning.proofs.Whole.{the_answer}

-- An accepted text has a derivation.
pub record Derived (s : List ℕ) : Type 0 where
  pub covered : Covered s
  pub derivation : Derivation (tokens s)

pub derived : {s : List ℕ} {a : Answer} (t : Tables) → Answers s a → a ≡ accepted t → Derived s
derived t (too_long h) e = absurd (let z : ◌≡◌ {A = Bool} false true = cc in false≢true z)
derived t (not_grammar a h n k) e = absurd (let z : ◌≡◌ {A = Bool} false true = cc in false≢true z)
derived t (meant w d) e = record { covered = w; derivation = d }

same_file : {f g : File} → ◌≡◌ {A = Parsed} (parsed f) (parsed g) → f ≡ g
same_file e = cc

module _ (s : List ℕ) where
  pub the_refusal : (n q : ℕ) → reading s ≡ refused n q → TheAnswer s (refused n q)
  the_refusal n q e = subst (TheAnswer s) e (the_answer s)

  module _ (f : File) (e : parse s ≡ parsed f) (t : Tables) (h : answer f ≡ accepted t) where
    reads : reading s ≡ accepted t
    unfolding reading answer_of_parsed
    reads = ap answer_of_parsed e ∙ h

    pub the_accepted : TheAnswer s (accepted t)
    the_accepted = subst (TheAnswer s) reads (the_answer s)

    pub derivation_of : Derived s
    derivation_of = derived t the_accepted.given refl

    pub own_file : (d : Derivation (tokens s)) → f ≡ syntax s d.tree
    own_file d = same_file (sym e ∙ parse_derived s derivation_of.covered d)
