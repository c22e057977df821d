-- What the functions of `lookahead` cite. Assumes nothing.
use mathlib.Core.Path.{◌≡◌, refl}
use Prim.Native.Nat.{◌≤◌, ◌<◌}
use native.Mathlib.Omega.{arith}
use borrow.Author.Tests.{lt-ltb, le-ltb, eq-eqb, ne_eqb}
use Rattle.grammar.specs.Readers.{refusal_of, answer_of}
use Rattle.std.specs.Prelude.{Ok, Err}
use Rattle.grammar.specs.declared.Refusal.TheVariants.{NoToken, NotAdmitted, TooDeep}
use Rattle.grammar.specs.declared.Look.{Look}

module _ (a : Look) where
  pub answer_passes : a.code ≡ 56 → Ok tt ≡ answer_of a
  unfolding answer_of
  answer_passes h = rw (eq-eqb a.code 56 h) refl

  pub answer_token : (a.code ≡ 56 → ⊥) → a.code < 56 → Err (NotAdmitted a.at) ≡ answer_of a
  unfolding answer_of
  answer_token h l = rw (ne_eqb a.code 56 h, lt-ltb a.code 56 l) refl

  pub answer_no_token : 56 ≤ a.code → a.code ≡ 59 → Err (NoToken a.at) ≡ answer_of a
  unfolding answer_of refusal_of
  answer_no_token l e = rw (ne_eqb a.code 56 (λ h. omega arith), le-ltb a.code 56 l, eq-eqb a.code 59 e) refl

  pub answer_not_admitted : 56 ≤ a.code → a.code ≡ 60 → Err (NotAdmitted a.at) ≡ answer_of a
  unfolding answer_of refusal_of
  answer_not_admitted l e = rw (ne_eqb a.code 56 (λ h. omega arith), le-ltb a.code 56 l, ne_eqb a.code 59 (λ h. omega arith), eq-eqb a.code 60 e) refl

  pub answer_too_deep : (a.code ≡ 56 → ⊥) → 56 ≤ a.code → (a.code ≡ 59 → ⊥) → (a.code ≡ 60 → ⊥) → Err (TooDeep a.at) ≡ answer_of a
  unfolding answer_of refusal_of
  answer_too_deep h l i j = rw (ne_eqb a.code 56 h, le-ltb a.code 56 l, ne_eqb a.code 59 i, ne_eqb a.code 60 j) refl
