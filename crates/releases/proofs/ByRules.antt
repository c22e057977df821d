-- From the equations of `compare` to the rules themselves. Assumes nothing.
use mathlib.Core.Path.{◌≡◌, refl, ◌∙◌, ap, subst}
use mathlib.Core.List.{List}
use Prim.Native.Nat.{ℕ}
use Rattle.meaning.specs.Syntax.{File}
use Rattle.meaning.specs.Actions.{syntax}
use Rattle.meaning.specs.Answers.{Answer as Meant, Tables, accepted, refused, answer}
use Rattle.meaning.specs.Reading.{Parsed, parsed, not_parsed, parse, answer_of_parsed, reading}
use Rattle.meaning.specs.Rules.{TheAnswer}
use Rattle.reading.proofs.Derived.{the_refusal, the_accepted, derivation_of, own_file}
use Rattle.comparing.specs.Differences.{Release, release, no_release, released, release_of, compare_releases, compare_texts, differences}
use Rattle.comparing.specs.declared.Difference.{Difference}
use Rattle.comparing.specs.declared.Compared.{Compared as Result}
use Rattle.releases.specs.Promises.{list_after, answer_for}
use Rattle.releases.specs.Rules.{Tells, ComparesByRules, first_refused, second_refused, both_accepted}

-- What is known of a text, by the release that it is.
data Known (s : List ℕ) : Release → Type 0 where
  is_accepted : (f : File) (a : Tables) → parse s ≡ parsed f → answer f ≡ accepted a → Known s (release f)
  is_refused : (n p : ℕ) → TheAnswer s (refused n p) → Known s (no_release n p)

module _ (s : List ℕ) where
  known_answer : (f : File) → parse s ≡ parsed f → (a : Meant) → answer f ≡ a → Known s (released f a)
  unfolding released reading answer_of_parsed
  known_answer f e (accepted t) h = is_accepted f t e h
  known_answer f e (refused n p) h = is_refused n p (the_refusal s n p (ap answer_of_parsed e ∙ h))

  known_parse : (x : Parsed) → parse s ≡ x → Known s (release_of x)
  unfolding release_of reading answer_of_parsed
  known_parse (parsed f) e = known_answer f e (answer f) refl
  known_parse (not_parsed n p) e = is_refused n p (the_refusal s n p (ap answer_of_parsed e))

  known : Known s (release_of (parse s))
  known = known_parse (parse s) refl

module _ (s t : List ℕ) (l l' : List Difference) (r : Result) where
  by_releases : (x y : Release) → Known s x → Known t y → l' ≡ list_after (compare_releases x y) l → r ≡ answer_for (compare_releases x y) → ComparesByRules s t l l' r
  unfolding compare_releases list_after answer_for
  by_releases x y (is_refused n p h) (is_refused m q k) i j = first_refused n p h (record { list = i; result = j })
  by_releases x y (is_refused n p h) (is_accepted g b d k) i j = first_refused n p h (record { list = i; result = j })
  by_releases x y (is_accepted f a e h) (is_refused n p k) i j = second_refused a (the_accepted s f e a h) n p k (record { list = i; result = j })
  by_releases x y (is_accepted f a e h) (is_accepted g b d k) i j =
      both_accepted a b (the_accepted s f e a h) (the_accepted t g d b k) (derivation_of s f e a h).derivation (derivation_of t g d b k).derivation
      (λ v w. subst (λ (z : File). Tells (differences z (syntax t w.tree)) l l' r) (own_file s f e a h v)
      (subst (λ (z : File). Tells (differences f z) l l' r) (own_file t g d b k w) (record { list = i; result = j })))

  pub by_rules : l' ≡ list_after (compare_texts s t) l → r ≡ answer_for (compare_texts s t) → ComparesByRules s t l l' r
  unfolding compare_texts
  by_rules = by_releases (release_of (parse s)) (release_of (parse t)) (known s) (known t)
