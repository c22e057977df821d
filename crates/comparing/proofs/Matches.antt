-- The partners of two objects' values, from the values themselves. Assumes nothing.
use mathlib.Core.Path.{◌≡◌, sym, ◌∙◌, subst}
use mathlib.Core.List.{List, [], ◌∷◌, ◌++◌}
use Prim.Native.Nat.{ℕ, ◌+◌, ◌<◌}
use native.Mathlib.Omega.{arith}
use lib.ListN.{length, get_or, length-append}
use Rattle.meaning.specs.Syntax.{Object}
use Rattle.meaning.specs.Resolving.{Resolved}
use Rattle.comparing.specs.Contents.{Step, placed}
use Rattle.comparing.specs.Differences.{of_pair}
use Rattle.comparing.specs.Partners.{partner_of, partners}
use Rattle.comparing.proofs.Steps.{owner_numbers, steps_of, path_at, first_part, second_part}
use Rattle.comparing.proofs.Partnered.{partner}
use Rattle.comparing.proofs.Rooting.{Coded, numbers, owners_length, placed_length}
use Rattle.comparing.proofs.Paired.{Matched, pair_by_partners}

pub partners_length : (os ss before os2 ss2 : List ℕ) → length ss2 ≡ length os2 → length (partners os ss before os2 ss2) ≡ length before + length os2
unfolding partners
partners_length os ss before [] [] l = let e : (n : ℕ) → n ≡ n + 0 = λ n. omega arith in e (length before)
partners_length os ss before [] (t ∷ ss2) l = absurd (let z = l in omega (arith, z))
partners_length os ss before (o ∷ os2) [] l = absurd (let z = l in omega (arith, z))
partners_length os ss before (o ∷ os2) (t ∷ ss2) l =
    let q = partner_of os ss before o t in
    let e : length ss2 ≡ length os2 = omega (arith, l) in
    let n : length (before ++ (q ∷ [])) ≡ length before + 1 = length-append before (q ∷ []) in
    let r : length (partners os ss (before ++ (q ∷ [])) os2 ss2) ≡ length (before ++ (q ∷ [])) + length os2 = partners_length os ss (before ++ (q ∷ [])) os2 ss2 e in
    omega (arith, n, r)

-- The partners that the code finds by owners and step numbers.
abbrev pub found_partners : Resolved → Resolved → List ℕ → List ℕ → List ℕ
found_partners r r2 ss ss2 = partners (owner_numbers r 0 0) ss [] (owner_numbers r2 0 0) ss2

pub matched_values : (d : Step) (r r2 : Resolved) (m m2 : ℕ) (ss ss2 : List ℕ) → Coded d r r2 ss ss2 → Matched (placed r m []) (placed r2 m2 []) (found_partners r r2 ss ss2)
matched_values d r r2 m m2 ss ss2 c =
    let n = numbers d r r2 m m2 ss ss2 c in
    let p = partner (owner_numbers r 0 0) ss (owner_numbers r2 0 0) ss2 (path_at (placed r m [])) (path_at (placed r2 m2 [])) (λ j. get_or (steps_of r []) j d) (λ j. get_or (steps_of r2 []) j d) n in
    let one = owners_length r 0 0 ∙ sym (placed_length r m []) in
    let two = owners_length r2 0 0 ∙ sym (placed_length r2 m2 []) in
    record {
      long = partners_length (owner_numbers r 0 0) ss [] (owner_numbers r2 0 0) ss2 n.long2 ∙ (let z : (k : ℕ) → 0 + k ≡ k = λ k. omega arith in z (length (owner_numbers r2 0 0))) ∙ two;
      inside = λ k i h e. subst (λ (l : ℕ). i < l) one ((p k (subst (λ (l : ℕ). k < l) (sym two) h)).inside i e);
      same = λ k i h e. (p k (subst (λ (l : ℕ). k < l) (sym two) h)).same i e;
      only = λ k i h g s. (p k (subst (λ (l : ℕ). k < l) (sym two) h)).only i (subst (λ (l : ℕ). i < l) (sym one) g) s;
    }

-- THE THEOREM: what the numbers give is what Q-8 asks of a pair, for any numbering of the steps by which equal numbers are equal steps.
pub pair_by_numbers : (d : Step) (x y : Object) (r r2 : Resolved) (m m2 : ℕ) (ss ss2 : List ℕ) → Coded d r r2 ss ss2
    → of_pair (record { object = x; values = placed r m [] }) (record { object = y; values = placed r2 m2 [] })
    ≡ first_part (record { object = x; values = placed r m [] }) (record { object = y; values = placed r2 m2 [] }) (found_partners r r2 ss ss2) 0 (placed r m [])
    ++ second_part (record { object = x; values = placed r m [] }) (record { object = y; values = placed r2 m2 [] }) (found_partners r r2 ss ss2) (placed r2 m2 [])
pair_by_numbers d x y r r2 m m2 ss ss2 c =
    pair_by_partners (record { object = x; values = placed r m [] }) (record { object = y; values = placed r2 m2 [] }) (found_partners r r2 ss ss2) (matched_values d r r2 m m2 ss ss2 c)
