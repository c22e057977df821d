-- The positions that the rows give are those of the steps. Assumes nothing.
use mathlib.Core.Path.{◌≡◌, refl, sym, ◌∙◌, ap, ap₂}
use mathlib.Core.List.{List, [], ◌∷◌, ◌++◌}
use mathlib.Core.Bool.{Bool, true, false}
use Prim.Native.Nat.{ℕ, zero, suc, ◌+◌, ◌<◌, ◌≤◌}
use native.Mathlib.Omega.{arith}
use lib.Dec.{eqb}
use lib.ListN.{length, length-append}
use borrow.Author.Tests.{eq-eqb, ne_eqb}
use Rattle.token.specs.Find.{pick, both, bit}
use Rattle.token.specs.Words.{same}
use Rattle.token.proofs.Codes.{same_self, same_equal}
use Rattle.meaning.specs.Syntax.{Word}
use Rattle.meaning.specs.Words.{alike}
use Rattle.meaning.specs.Resolving.{Resolved, end, resolved, how_many_values}
use Rattle.comparing.specs.Contents.{Step, how_often, step_to}
use Rattle.comparing.specs.Partners.{last_position, positions}
use Rattle.comparing.proofs.Steps.{owner_numbers, steps_of, name_numbers, positions_in, AllNames, names_more, Numbering}
use Rattle.comparing.proofs.Alikes.{same_truth}
use Rattle.comparing.proofs.Paths.{often_same}
use Rattle.comparing.proofs.Rooting.{owners_length, steps_length}

-- Lists of one length.
zero_not_suc : (n : ℕ) → 0 ≡ suc n → ⊥
zero_not_suc n e = omega arith

suc_same : (m n : ℕ) → suc m ≡ suc n → m ≡ n
suc_same m n e = omega arith

eqb_zero_suc : (n : ℕ) → eqb (suc n) 0 ≡ false
eqb_zero_suc n = ne_eqb (suc n) 0 (λ e. zero_not_suc n (sym e))

-- The last of two parts, where the second has an entry or none.
pick_last : (b : Bool) (r p : ℕ) → pick (eqb (pick b (suc p) r) 0) 0 (pick b (suc p) r) ≡ pick b (suc p) r
pick_last true r p = ap (λ (c : Bool). pick c 0 (suc p)) (eqb_zero_suc p)
pick_last false zero p = refl
pick_last false (suc r) p = ap (λ (c : Bool). pick c 0 (suc r)) (eqb_zero_suc r)

-- One row more behind.
pub last_snoc : (os ns ps : List ℕ) (x y p o a : ℕ) → length ns ≡ length os → length ps ≡ length os
    → last_position (os ++ (x ∷ [])) (ns ++ (y ∷ [])) (ps ++ (p ∷ [])) o a ≡ pick (both (eqb x o) (eqb y a)) (suc p) (last_position os ns ps o a)
unfolding last_position
last_snoc [] [] [] x y p o a l m = refl
last_snoc [] (n ∷ ns) ps x y p o a l m = absurd (zero_not_suc (length ns) (sym l))
last_snoc [] [] (q ∷ ps) x y p o a l m = absurd (zero_not_suc (length ps) (sym m))
last_snoc (z ∷ os) [] ps x y p o a l m = absurd (zero_not_suc (length os) l)
last_snoc (z ∷ os) (n ∷ ns) [] x y p o a l m = absurd (zero_not_suc (length os) m)
last_snoc (z ∷ os) (n ∷ ns) (q ∷ ps) x y p o a l m =
    ap (λ (r : ℕ). pick (eqb r 0) (pick (both (eqb z o) (eqb n a)) (suc q) 0) r) (last_snoc os ns ps x y p o a (suc_same (length ns) (length os) l) (suc_same (length ps) (length os) m))
    ∙ joined (both (eqb x o) (eqb y a)) (last_position os ns ps o a)
  where
    joined : (b : Bool) (r : ℕ) → pick (eqb (pick b (suc p) r) 0) (pick (both (eqb z o) (eqb n a)) (suc q) 0) (pick b (suc p) r)
        ≡ pick b (suc p) (pick (eqb r 0) (pick (both (eqb z o) (eqb n a)) (suc q) 0) r)
    joined true r = ap (λ (c : Bool). pick c (pick (both (eqb z o) (eqb n a)) (suc q) 0) (suc p)) (eqb_zero_suc p)
    joined false r = refl

-- Rows of other owners behind change nothing.
pub data Others (o : ℕ) : List ℕ → Type 0 where
  no_others : Others o []
  more_others : {x : ℕ} {xs : List ℕ} → (x ≡ o → ⊥) → Others o xs → Others o (x ∷ xs)

others_none : (xs ys qs : List ℕ) (o a : ℕ) → Others o xs → last_position xs ys qs o a ≡ 0
unfolding last_position
others_none [] ys qs o a w = refl
others_none (x ∷ xs) [] qs o a w = refl
others_none (x ∷ xs) (y ∷ ys) [] o a w = refl
others_none (x ∷ xs) (y ∷ ys) (q ∷ qs) o a (more_others f w) =
    ap (λ (r : ℕ). pick (eqb r 0) (pick (both (eqb x o) (eqb y a)) (suc q) 0) r) (others_none xs ys qs o a w)
    ∙ ap (λ (c : Bool). pick (both c (eqb y a)) (suc q) 0) (ne_eqb x o f)

pub last_others : (os ns ps xs ys qs : List ℕ) (o a : ℕ) → length ns ≡ length os → length ps ≡ length os → Others o xs
    → last_position (os ++ xs) (ns ++ ys) (ps ++ qs) o a ≡ last_position os ns ps o a
unfolding last_position
last_others [] [] [] xs ys qs o a l m w = others_none xs ys qs o a w
last_others [] (n ∷ ns) ps xs ys qs o a l m w = absurd (zero_not_suc (length ns) (sym l))
last_others [] [] (q ∷ ps) xs ys qs o a l m w = absurd (zero_not_suc (length ps) (sym m))
last_others (z ∷ os) [] ps xs ys qs o a l m w = absurd (zero_not_suc (length os) l)
last_others (z ∷ os) (n ∷ ns) [] xs ys qs o a l m w = absurd (zero_not_suc (length os) m)
last_others (z ∷ os) (n ∷ ns) (p ∷ ps) xs ys qs o a l m w =
    ap (λ (r : ℕ). pick (eqb r 0) (pick (both (eqb z o) (eqb n a)) (suc p) 0) r)
    (last_others os ns ps xs ys qs o a (suc_same (length ns) (length os) l) (suc_same (length ps) (length os) m) w)

-- Owners ---------------------------------------------------------------------------------------------------------------------------------------------

others_append : (o : ℕ) (xs ys : List ℕ) → Others o xs → Others o ys → Others o (xs ++ ys)
others_append o [] ys w z = z
others_append o (x ∷ xs) ys (more_others f w) z = more_others f (others_append o xs ys w z)

-- Below row k no row is owned from there on.
others_low : (r : Resolved) (k p o : ℕ) → (p ≡ o → ⊥) → o ≤ k → Others o (owner_numbers r k p)
unfolding owner_numbers
others_low end k p o f h = no_others
others_low (resolved t us rest) k p o f h =
    more_others f (others_append o (owner_numbers us (suc k) (suc k)) (owner_numbers rest (suc k + how_many_values us) p)
    (others_low us (suc k) (suc k) o (λ e. omega (arith, e, h)) (omega (arith, h)))
    (others_low rest (suc k + how_many_values us) p o f (omega (arith, h))))

not_same : (p o : ℕ) → p < o → p ≡ o → ⊥
not_same p o f e = omega arith

-- No row behind them owns these.
others_high : (r : Resolved) (k p o : ℕ) → p < o → k + how_many_values r < o → Others o (owner_numbers r k p)
unfolding owner_numbers how_many_values
others_high end k p o f h = no_others
others_high (resolved t us rest) k p o f h =
    more_others (not_same p o f) (others_append o (owner_numbers us (suc k) (suc k)) (owner_numbers rest (suc k + how_many_values us) p)
    (others_high us (suc k) (suc k) o (omega (arith, h)) (omega (arith, h)))
    (others_high rest (suc k + how_many_values us) p o f (omega (arith, h))))

names_length : (c : Word → ℕ) (r : Resolved) → length (name_numbers c r) ≡ how_many_values r
unfolding name_numbers how_many_values
names_length c end = refl
names_length c (resolved t us rest) = ap suc (length-append (name_numbers c us) (name_numbers c rest) ∙ ap₂ ◌+◌ (names_length c us) (names_length c rest))

-- Positions ------------------------------------------------------------------------------------------------------------------------------------------

snoc_append : (xs : List ℕ) (x : ℕ) (ys : List ℕ) → (xs ++ (x ∷ [])) ++ ys ≡ xs ++ (x ∷ ys)
snoc_append [] x ys = refl
snoc_append (z ∷ xs) x ys = ap (λ (l : List ℕ). z ∷ l) (snoc_append xs x ys)

append_none : (xs : List ℕ) → xs ++ [] ≡ xs
append_none [] = refl
append_none (x ∷ xs) = ap (λ (l : List ℕ). x ∷ l) (append_none xs)

append_assoc : (a b c : List ℕ) → (a ++ b) ++ c ≡ a ++ (b ++ c)
append_assoc [] b c = refl
append_assoc (x ∷ a) b c = ap (λ (l : List ℕ). x ∷ l) (append_assoc a b c)

positions_append : (os ns ps xs ys xs2 ys2 : List ℕ) → length ys ≡ length xs → positions os ns ps (xs ++ xs2) (ys ++ ys2) ≡ positions (os ++ xs) (ns ++ ys) (positions os ns ps xs ys) xs2 ys2
unfolding positions
positions_append os ns ps [] [] xs2 ys2 l = ap₂ (λ (a b : List ℕ). positions a b ps xs2 ys2) (sym (append_none os)) (sym (append_none ns))
positions_append os ns ps [] (y ∷ ys) xs2 ys2 l = absurd (zero_not_suc (length ys) (sym l))
positions_append os ns ps (x ∷ xs) [] xs2 ys2 l = absurd (zero_not_suc (length xs) l)
positions_append os ns ps (x ∷ xs) (y ∷ ys) xs2 ys2 l =
    let q = last_position os ns ps x y in
    positions_append (os ++ (x ∷ [])) (ns ++ (y ∷ [])) (ps ++ (q ∷ [])) xs ys xs2 ys2 (suc_same (length ys) (length xs) l)
    ∙ ap₂ (λ (a b : List ℕ). positions a b (positions (os ++ (x ∷ [])) (ns ++ (y ∷ [])) (ps ++ (q ∷ [])) xs ys) xs2 ys2) (snoc_append os x xs) (snoc_append ns y ys)

positions_in_append : (ss ts : List Step) → positions_in (ss ++ ts) ≡ positions_in ss ++ positions_in ts
unfolding positions_in
positions_in_append [] ts = refl
positions_in_append (s ∷ ss) ts = ap (λ (l : List ℕ). s.position ∷ l) (positions_in_append ss ts)

positions_in_length : (ss : List Step) → length (positions_in ss) ≡ length ss
unfolding positions_in
positions_in_length [] = refl
positions_in_length (s ∷ ss) = ap suc (positions_in_length ss)

alike_flip : (a b : Word) → alike a b ≡ alike b a
unfolding alike
alike_flip a b = same_truth (same a.bytes b.bytes) (same b.bytes a.bytes)
    (λ e. ap (same b.bytes) (same_equal a.bytes b.bytes e) ∙ same_self b.bytes)
    (λ e. ap (same a.bytes) (same_equal b.bytes a.bytes e) ∙ same_self a.bytes)

alike_bytes : (a b : Word) → alike a b ≡ true → a.bytes ≡ b.bytes
unfolding alike
alike_bytes a b e = same_equal a.bytes b.bytes e

-- The rows before row k, whose next sibling under the owner o has the names b before it.
pub record Stands (N : Word → Type 0) (c : Word → ℕ) (k o : ℕ) (b : List Word) (os ns ps : List ℕ) : Type 0 where
  pub names : length ns ≡ length os
  pub places : length ps ≡ length os
  pub count : length os ≡ k
  pub low : (m : ℕ) → k < m → Others m os
  pub self : o ≤ k
  pub often : (a : Word) → N a → last_position os ns ps o (c a) ≡ how_often a b

one_more : (l : List ℕ) (x : ℕ) → length (l ++ (x ∷ [])) ≡ suc (length l)
one_more l x = let e = length-append l (x ∷ []) in omega (arith, e)

often_next : (c : Word → ℕ) (n a : Word) → eqb (c n) (c a) ≡ alike n a → (b : List Word) (o q r : ℕ) → q ≡ how_often n b → r ≡ how_often a b
    → pick (both (eqb o o) (eqb (c n) (c a))) (suc q) r ≡ how_often a (n ∷ b)
unfolding how_often bit
often_next c n a k b o q r e f = ap (λ (d : Bool). pick (both d (eqb (c n) (c a))) (suc q) r) (eq-eqb o o refl) ∙ ap (λ (d : Bool). pick d (suc q) r) (k ∙ alike_flip n a) ∙ by_test (alike a n) refl
  where
    by_test : (d : Bool) → alike a n ≡ d → pick d (suc q) r ≡ bit d + how_often a b
    by_test true w = let z : q ≡ how_often a b = e ∙ often_same n a b (sym (alike_bytes a n w)) in omega (arith, z)
    by_test false w = omega (arith, f)

not_back : (o k : ℕ) → o ≤ k → suc k ≡ o → ⊥
not_back o k h e = omega arith

-- THE THEOREM: the positions that are reckoned row by row are those of the steps.
pub positions_are : (N : Word → Type 0) (c : Word → ℕ) → Numbering N c → (r : Resolved) → AllNames N r → (k o : ℕ) (b : List Word) (os ns ps : List ℕ) → Stands N c k o b os ns ps
    → positions os ns ps (owner_numbers r k o) (name_numbers c r) ≡ ps ++ positions_in (steps_of r b)
unfolding owner_numbers name_numbers steps_of positions positions_in how_often step_to
positions_are N c e end w k o b os ns ps s = sym (append_none ps)
positions_are N c e (resolved t us rest) (names_more i j w) k o b os ns ps s =
    let n = t.definition.name in
    let h = how_many_values us in
    let q = last_position os ns ps o (c n) in
    let os1 = os ++ (o ∷ []) in
    let ns1 = ns ++ (c n ∷ []) in
    let ps1 = ps ++ (q ∷ []) in
    let xs = owner_numbers us (suc k) (suc k) in
    let ys = name_numbers c us in
    let zs = positions_in (steps_of us []) in
    let low = s.self in
    let l1 : length os1 ≡ suc k = one_more os o ∙ ap suc s.count in
    let ln1 : length ns1 ≡ length os1 = one_more ns (c n) ∙ ap suc s.names ∙ sym (one_more os o) in
    let lp1 : length ps1 ≡ length os1 = one_more ps q ∙ ap suc s.places ∙ sym (one_more os o) in
    let lx = owners_length us (suc k) (suc k) in
    let ly = names_length c us in
    let lz : length zs ≡ h = positions_in_length (steps_of us []) ∙ steps_length us [] in
    let under : Stands N c (suc k) (suc k) [] os1 ns1 ps1 = record {
      names = ln1;
      places = lp1;
      count = l1;
      low = λ m g. others_append m os (o ∷ []) (s.low m (omega (arith, g))) (more_others (not_same o m (omega (arith, g, low))) no_others);
      self = omega arith;
      often = λ a g. others_none os1 ns1 ps1 (suc k) (c a) (others_append (suc k) os (o ∷ []) (s.low (suc k) (omega arith)) (more_others (not_same o (suc k) (omega (arith, low))) no_others));
    } in
    let inner : positions os1 ns1 ps1 xs ys ≡ ps1 ++ zs = positions_are N c e us j (suc k) (suc k) [] os1 ns1 ps1 under in
    let behind : Stands N c (suc k + h) o (n ∷ b) (os1 ++ xs) (ns1 ++ ys) (ps1 ++ zs) = record {
      names = length-append ns1 ys ∙ ap₂ ◌+◌ ln1 (ly ∙ sym lx) ∙ sym (length-append os1 xs);
      places = length-append ps1 zs ∙ ap₂ ◌+◌ lp1 (lz ∙ sym lx) ∙ sym (length-append os1 xs);
      count = length-append os1 xs ∙ ap₂ ◌+◌ l1 lx;
      low = λ m g. others_append m os1 xs (others_append m os (o ∷ []) (s.low m (omega (arith, g))) (more_others (not_same o m (omega (arith, g, low))) no_others)) (others_high us (suc k) (suc k) m (omega (arith, g)) g);
      self = omega (arith, low);
      often = λ a g. last_others os1 ns1 ps1 xs ys zs o (c a) ln1 lp1 (others_low us (suc k) (suc k) o (not_back o k low) (omega (arith, low)))
          ∙ last_snoc os ns ps o (c n) q o (c a) s.names s.places ∙ often_next c n a (e n a i g) b o q (last_position os ns ps o (c a)) (s.often n i) (s.often a g);
    } in
    positions_append os1 ns1 ps1 xs ys (owner_numbers rest (suc k + h) o) (name_numbers c rest) (ly ∙ sym lx)
    ∙ ap (λ (z : List ℕ). positions (os1 ++ xs) (ns1 ++ ys) z (owner_numbers rest (suc k + h) o) (name_numbers c rest)) inner
    ∙ positions_are N c e rest w (suc k + h) o (n ∷ b) (os1 ++ xs) (ns1 ++ ys) (ps1 ++ zs) behind
    ∙ append_assoc ps1 zs (positions_in (steps_of rest (n ∷ b)))
    ∙ snoc_append ps q (zs ++ positions_in (steps_of rest (n ∷ b)))
    ∙ ap₂ (λ (z : ℕ) (l : List ℕ). ps ++ (z ∷ l)) (s.often n i) (sym (positions_in_append (steps_of us []) (steps_of rest (n ∷ b))))

-- The positions of an object's values.
pub object_positions : (N : Word → Type 0) (c : Word → ℕ) → Numbering N c → (r : Resolved) → AllNames N r
    → positions [] [] [] (owner_numbers r 0 0) (name_numbers c r) ≡ positions_in (steps_of r [])
unfolding last_position how_often
object_positions N c e r w =
    positions_are N c e r w 0 0 [] [] [] [] (record { names = refl; places = refl; count = refl; low = λ m g. no_others; self = omega arith; often = λ a g. refl })
