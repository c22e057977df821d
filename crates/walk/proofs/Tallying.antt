-- The parts of each kind, counted one by one. Assumes nothing.
use mathlib.Core.Path.{◌≡◌, refl, ◌∙◌, ap}
use mathlib.Core.List.{List, [], ◌∷◌}
use mathlib.Core.Bool.{Bool, true, false}
use Prim.Native.Nat.{ℕ, zero, suc, ◌+◌, ◌≤◌, ◌<◌}
use native.Mathlib.Omega.{arith}
use lib.Dec.{eqb}
use lib.ListN.{length, get_or, replicate}
use lib.Seq.{ext_get_or}
use Rattle.token.specs.Find.{pick, bit}
use Rattle.token.proofs.Bytes.{eqb_sym}
use Rattle.grammar.specs.Grammar.{Kind, OS, APPMODE, TASK, ISR, COUNTER, ALARM, RESOURCE, EVENT, COM, MESSAGE, NETWORKMESSAGE, IPDU, NM}
use Rattle.meaning.specs.Syntax.{Object}
use Rattle.meaning.specs.Kinds.{kind_number, same_kind}
use Rattle.meaning.specs.Applying.{how_many, counts_of, counts}
use Rattle.rows.specs.Tally.{one_more, count_on}
use Rattle.rows.proofs.Tallies.{counts_of_lem, how_many_lem, length_one_more, counts_of as cells_of}
use Rattle.object_parts.specs.Rows.{numbers}

alike : (k : Kind) (os : List Object) → how_many_lem (kind_number k) (numbers os) ≡ how_many k os
unfolding how_many_lem numbers how_many same_kind bit
alike k [] = refl
alike k (x ∷ xs) =
    ap (λ (b : Bool). pick b (how_many_lem (kind_number k) (numbers xs) + 1) (how_many_lem (kind_number k) (numbers xs))) (eqb_sym (kind_number x.kind) (kind_number k))
    ∙ go (alike k xs) (eqb (kind_number k) (kind_number x.kind))
  where
    go : how_many_lem (kind_number k) (numbers xs) ≡ how_many k xs → (b : Bool) → pick b (how_many_lem (kind_number k) (numbers xs) + 1) (how_many_lem (kind_number k) (numbers xs)) ≡ bit b + how_many k xs
    go e true = omega (arith, e)
    go e false = omega (arith, e)

cell : (os : List Object) (i : ℕ) → i < 13 → how_many_lem i (numbers os) ≡ get_or (counts os) i 0
unfolding counts counts_of kind_number
cell os zero h = alike OS os
cell os (suc zero) h = alike APPMODE os
cell os (suc (suc zero)) h = alike TASK os
cell os (suc (suc (suc zero))) h = alike ISR os
cell os (suc (suc (suc (suc zero)))) h = alike COUNTER os
cell os (suc (suc (suc (suc (suc zero))))) h = alike ALARM os
cell os (suc (suc (suc (suc (suc (suc zero)))))) h = alike RESOURCE os
cell os (suc (suc (suc (suc (suc (suc (suc zero))))))) h = alike EVENT os
cell os (suc (suc (suc (suc (suc (suc (suc (suc zero)))))))) h = alike COM os
cell os (suc (suc (suc (suc (suc (suc (suc (suc (suc zero))))))))) h = alike MESSAGE os
cell os (suc (suc (suc (suc (suc (suc (suc (suc (suc (suc zero)))))))))) h = alike NETWORKMESSAGE os
cell os (suc (suc (suc (suc (suc (suc (suc (suc (suc (suc (suc zero))))))))))) h = alike IPDU os
cell os (suc (suc (suc (suc (suc (suc (suc (suc (suc (suc (suc (suc zero)))))))))))) h = alike NM os
cell os (suc (suc (suc (suc (suc (suc (suc (suc (suc (suc (suc (suc (suc i))))))))))))) h = absurd (omega arith)

length_count : (cs ks : List ℕ) → length (count_on cs ks) ≡ length cs
unfolding count_on
length_count cs [] = refl
length_count cs (k ∷ ks) = length_count (one_more cs k) ks ∙ length_one_more cs k

length_numbers : (os : List Object) → length (numbers os) ≡ length os
unfolding numbers
length_numbers [] = refl
length_numbers (x ∷ xs) = let e = length_numbers xs in omega (arith, e)

pub tallied : (os : List Object) → length os ≤ 65536 → count_on (replicate 13 0) (numbers os) ≡ counts os
unfolding counts_of_lem counts counts_of
tallied os h =
    ext_get_or 0 (count_on (replicate 13 0) (numbers os)) (counts os) (length_count (replicate 13 0) (numbers os))
    (λ i l.
    let n = length_count (replicate 13 0) (numbers os) in
    let k : i < 13 = omega (arith, l, n) in
    cells_of (numbers os) i k (omega (arith, h, length_numbers os)) ∙ cell os i k)
