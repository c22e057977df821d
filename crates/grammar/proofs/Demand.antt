-- DEMAND 3: it holds of whatever is answered to a text as specs/Stage says. Assumes nothing.
use mathlib.Core.Path.{◌≡◌, refl, ◌∙◌, subst}
use mathlib.Core.List.{List, [], ◌∷◌, ◌++◌}
use mathlib.Core.Logic.{◌↔◌}
use Prim.Native.Nat.{ℕ}
use native.Mathlib.Omega.{arith}
use Rattle.token.specs.Lexing.{lex_from}
use Rattle.grammar.specs.Grammar.{Token, Derivation, Begins}
use Rattle.grammar.specs.Terminals.{tokens}
use Rattle.grammar.specs.Stage.{number_of, place_of, Shallow, Answers, passes, no_token, not_admitted, ends_early, too_deep}
use Rattle.grammar.specs.Demand.{Covered, Place, at_token, at_end, Demand-3}
use Rattle.grammar.specs.Answered.{Answer}
use Rattle.std.specs.Prelude.{Ok}
use Rattle.grammar.proofs.Viable.{one_derivation}
use Rattle.grammar.proofs.Fronts.{one_more, begins_front, shallow_front, derived_begins, not_shallow, stops_not}

-- Where tokens begin no derivable list, no list that they begin is derived.
not_derived : (s : List ℕ) (l : List Token) (t : Token) (r : List Token) → tokens s ≡ l ++ (t ∷ r) → (Begins (l ++ (t ∷ [])) → ⊥) → Derivation (tokens s) → ⊥
not_derived s l t r e n d = n (begins_front (l ++ (t ∷ [])) r (subst Begins (e ∙ one_more l t r) (derived_begins d)))

passing : (s : List ℕ) {r : Answer} → Covered s → Answers s r → (r ≡ Ok tt) ↔ Derivation (tokens s)
passing s w (passes v h d) = ((λ _. d), (λ _. refl))
passing s w (no_token p v h b) = absurd (stops_not (lex_from s 0) p v w.divides)
passing s w (not_admitted l t r e h b n) = ((λ q. absurd (let z : ◌≡◌ {A = ℕ} 0 1 = cc in omega arith)), (λ d. absurd (not_derived s l t r e n d)))
passing s w (ends_early v h b n) = ((λ q. absurd (let z : ◌≡◌ {A = ℕ} 0 1 = cc in omega arith)), (λ d. absurd (n d)))
passing s w (too_deep l t r e h b m o) =
    absurd (not_shallow l t m o (shallow_front (l ++ (t ∷ [])) r (subst Shallow (e ∙ one_more l t r) w.shallow)))

refusing : (s : List ℕ) {r : Answer} → Covered s → Answers s r → (r ≡ Ok tt → ⊥) → (number_of r ≡ 4) × Place s (place_of r)
unfolding number_of place_of
refusing s w (passes v h d) n = absurd (n refl)
refusing s w (no_token p v h b) n = absurd (stops_not (lex_from s 0) p v w.divides)
refusing s w (not_admitted l t r e h b n) q = (refl, at_token t (record { before = l; after = r; whole = e; viable = b; not_viable = n }))
refusing s w (ends_early v h b n) q = (refl, at_end b)
refusing s w (too_deep l t r e h b m o) n =
    absurd (not_shallow l t m o (shallow_front (l ++ (t ∷ [])) r (subst Shallow (e ∙ one_more l t r) w.shallow)))

-- DEMAND 3
pub demand_3 : (s : List ℕ) (r : Answer) → Answers s r → Demand-3 s r
demand_3 s r a =
    record {
      passes_exactly = λ w. passing s w a;
      one_derivation = one_derivation (tokens s);
      refusal = λ w. refusing s w a;
    }
