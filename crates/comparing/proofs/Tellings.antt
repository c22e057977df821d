-- Differences as they are gathered. Assumes nothing.
use mathlib.Core.Path.{◌≡◌, sym, ◌∙◌, ap}
use mathlib.Core.List.{List, [], ◌∷◌, ◌++◌}
use Prim.Native.Nat.{ℕ, suc, ◌+◌, ◌<◌, ◌≤◌, min}
use native.Mathlib.Omega.{arith}
use lib.ListN.{length, take, set, length-append}
use lib.Seq.{take_all, take-suc-set, take-append-le}
use Rattle.comparing.specs.Lists.{overwrite}
use Rattle.comparing.specs.declared.Difference.{Difference}
use Rattle.comparing.specs.declared.Found.{Found}
use Rattle.comparing.specs.Gathered.{cap, Told}

one_longer : (ds : List Difference) (d : Difference) → length (ds ++ (d ∷ [])) ≡ length ds + 1
one_longer ds d = length-append ds (d ∷ [])

-- A record that still has its place.
pub told_first : (ds : List Difference) (d : Difference) (f : Found) → length f.records ≡ 64 → f.total < 64 → Told ds f → Told (ds ++ (d ∷ [])) (record { total = f.total + 1; records = set f.records f.total d; compared = f.compared })
told_first ds d f l h t =
    let n = one_longer ds d in
    let e = t.total in
    let here : f.total ≡ length ds = omega (arith, e, h) in
    let many : min 64 (length (ds ++ (d ∷ []))) ≡ suc f.total = omega (arith, n, here, h) in
    let few : min 64 (length ds) ≡ f.total = omega (arith, here, h) in
    let inside : f.total < length f.records = omega (arith, l, h) in
    let short : length ds ≤ 64 = omega (arith, here, h) in
    let short-next : length (ds ++ (d ∷ [])) ≤ 64 = omega (arith, n, here, h) in
    record {
      total = omega (arith, n, e, h);
      records = ap (λ (k : ℕ). take k (set f.records f.total d)) many ∙ take-suc-set f.records f.total d inside
          ∙ ap (λ (m : List Difference). m ++ (d ∷ [])) (ap (λ (k : ℕ). take k f.records) (sym few) ∙ t.records ∙ take_all 64 ds short) ∙ sym (take_all 64 (ds ++ (d ∷ [])) short-next);
    }

-- One that has none any more.
pub told_later : (ds : List Difference) (d : Difference) (f : Found) (n : ℕ) → 64 ≤ f.total → n ≡ min cap (f.total + 1) → Told ds f → Told (ds ++ (d ∷ [])) (record { total = n; records = f.records; compared = f.compared })
told_later ds d f n h q t =
    let m = one_longer ds d in
    let e = t.total in
    let many : 64 ≤ length ds = omega (arith, e, h) in
    let same : min 64 (length (ds ++ (d ∷ []))) ≡ min 64 (length ds) = omega (arith, m, many) in
    record {
      total = omega (arith, m, e, q);
      records = ap (λ (k : ℕ). take k f.records) same ∙ t.records ∙ sym (take-append-le 64 ds (d ∷ []) many);
    }

-- What a list of any length gets of them: the differences, as many as it holds, at most 64.
pub told_list : (ds : List Difference) (f : Found) (l : List Difference) → Told ds f → overwrite (take (min f.total 64) f.records) l ≡ overwrite (take 64 ds) l
told_list ds f l t =
    let e = t.total in
    let same : min f.total 64 ≡ min 64 (length ds) = omega (arith, e) in
    ap (λ (m : List Difference). overwrite m l) (ap (λ (k : ℕ). take k f.records) same ∙ t.records)
