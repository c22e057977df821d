-- From the equation of the call to the rules themselves. Assumes nothing.
use mathlib.Core.Path.{◌≡◌, refl, sym, ◌∙◌, ap, subst}
use mathlib.Core.List.{List, ◌++◌}
use mathlib.Core.Bool.{Bool, true, false}
use mathlib.Core.Option.{Option, none, some}
use Prim.Native.Nat.{ℕ}
use lib.ListN.{length, drop}
use lib.Dec.{ltb}
use borrow.Author.Tests.{ltb-true, ltb-false}
use Rattle.meaning.specs.Syntax.{File}
use Rattle.meaning.specs.Words.{choose}
use Rattle.meaning.specs.Resolving.{Taken}
use Rattle.meaning.specs.Answers.{Answer, accepted, refused, answer}
use Rattle.meaning.specs.Reading.{Parsed, parsed, not_parsed, parse, answer_of_parsed, reading}
use Rattle.reading.proofs.Derived.{the_refusal, the_accepted, derivation_of, own_file}
use Rattle.attribute_values.specs.Values.{value_of}
use Rattle.attribute_values.specs.Results.{Outcome, untouched, text_of, copied, told, value_answered, value_parsed, value_text, ValuesText}
use Rattle.attribute_values.specs.Rules.{Answered, not_found, too_short, copies, ValuesByRules, refuses, answers}
use Rattle.attribute_values.specs.Answered.{Valued, of_length}
use Rattle.rows.specs.Refusing.{refusing}

module _ (kind name path l : List ℕ) where
  module _ (f : File) where
    -- A value: it fits, or not.
    by_room : (t : Taken) → value_of f kind name path ≡ some t → (b : Bool) → ltb (length l) (length (text_of t)) ≡ b
        → let o = choose b (λ _. untouched (refusing 20 0) l) (λ _. record { result = of_length (length (text_of t)); output = text_of t ++ drop (length (text_of t)) l }) in
        Answered f kind name path l o.output o.result
    unfolding choose untouched
    by_room t e true q = too_short t e (ltb-true (length l) (length (text_of t)) q) refl
    by_room t e false q = copies t e (ltb-false (length l) (length (text_of t)) q) refl

    by_value : (x : Option Taken) → value_of f kind name path ≡ x → Answered f kind name path l (told x l).output (told x l).result
    unfolding told copied untouched
    by_value none e = not_found e refl
    by_value (some t) e = by_room t e (ltb (length l) (length (text_of t))) refl

  module _ (s : List ℕ) where
    abbrev ByRules : Outcome → Type 0
    ByRules o = ValuesByRules s kind name path l o.output o.result

    by_answer : (f : File) → parse s ≡ parsed f → (a : Answer) → answer f ≡ a → ByRules (value_answered a f kind name path l)
    unfolding value_answered untouched reading answer_of_parsed
    by_answer f e (refused n p) h = refuses n p (the_refusal s n p (ap answer_of_parsed e ∙ h)) refl refl
    by_answer f e (accepted t) h =
        let o = told (value_of f kind name path) l in
        answers t (the_accepted s f e t h) (derivation_of s f e t h).derivation
        (λ d. subst (λ (g : File). Answered g kind name path l o.output o.result) (own_file s f e t h d) (by_value f (value_of f kind name path) refl))

    by_parse : (x : Parsed) → parse s ≡ x → ByRules (value_parsed x kind name path l)
    unfolding value_parsed untouched reading answer_of_parsed
    by_parse (parsed f) e = by_answer f e (answer f) refl
    by_parse (not_parsed n p) e = refuses n p (the_refusal s n p (ap answer_of_parsed e)) refl refl

    by_rules : ByRules (value_text s kind name path l)
    unfolding value_text
    by_rules = by_parse (parse s) refl

-- The clauses of `value`: from the first, the second.
pub values_rules : {s kind name path l l' : List ℕ} {r : Valued} → ValuesText s kind name path l l' r → ValuesText s kind name path l l' r × ValuesByRules s kind name path l l' r
values_rules {s} {kind} {name} {path} {l} {l'} {r} k =
    let o = value_text s kind name path l in
    (k, subst (ValuesByRules s kind name path l l') (sym k.result) (subst (λ (x : List ℕ). ValuesByRules s kind name path l x o.result) (sym k.output) (by_rules kind name path l s)))
