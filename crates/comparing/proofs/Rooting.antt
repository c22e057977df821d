-- The numbers of an object's resolved values: the owners of the rows, and that each path is its owner's with one step more. Assumes nothing.
use mathlib.Core.Path.{◌≡◌, refl, sym, ◌∙◌, ap, ap₂, subst}
use mathlib.Core.List.{List, [], ◌∷◌, ◌++◌}
use mathlib.Core.Bool.{true, false, false≢true}
use mathlib.Core.Option.{none}
use mathlib.Core.Logic.{◌⊎◌, inl, inr, ⊎_elim}
use Prim.Native.Nat.{ℕ, zero, suc, ◌+◌, ◌-◌, ◌<◌, ◌≤◌}
use native.Mathlib.Omega.{arith}
use native.Mathlib.Nat.{not-suc-le-zero, le_of_suc-le-suc}
use lib.ListN.{length, get_or, length-append}
use lib.Seq.{get_or-append-add}
use lib.Dec.{eqb}
use Rattle.meaning.specs.Syntax.{Word}
use Rattle.meaning.specs.Places.{each}
use Rattle.meaning.specs.Resolving.{Taken, Resolved, end, resolved, how_many_values}
use Rattle.comparing.specs.Lists.{the_first}
use Rattle.comparing.specs.Contents.{Step, Path, same_step, same_path, Placed, step_to, below, placed}
use Rattle.comparing.specs.Partners.{partners}
use Rattle.comparing.proofs.Steps.{owner_numbers, steps_of, path_at}
use Rattle.comparing.proofs.Matching.{Apart, none_first}
use Rattle.comparing.proofs.Alikes.{path_flip}
use Rattle.comparing.proofs.Partnered.{Rooted, of_the_object, of_row, Numbers, partner}
use Rattle.comparing.proofs.Paths.{paths_apart}

-- Paths and steps p and st of the rows from k on are those of these values, which stand under the path q; `before` are the names before.
pub data Agrees (p : ℕ → Path) (st : ℕ → Step) : Resolved → ℕ → Path → List Word → Type 0 where
  agree_end : {k : ℕ} {q : Path} {b : List Word} → Agrees p st end k q b
  agree : {t : Taken} {us rest : Resolved} {k : ℕ} {q : Path} {b : List Word} → p k ≡ q ++ (st k ∷ []) → Agrees p st us (suc k) (p k) []
      → Agrees p st rest (suc k + how_many_values us) q (t.definition.name ∷ b) → Agrees p st (resolved t us rest) k q b

-- The owner of the number o, before row k, has the path q.
pub data OwnerAt (p : ℕ → Path) (k : ℕ) : ℕ → Path → Type 0 where
  the_object : OwnerAt p k 0 []
  the_row : (j : ℕ) → j < k → OwnerAt p k (suc j) (p j)

owner_later : {p : ℕ → Path} {k o : ℕ} {q : Path} (m : ℕ) → OwnerAt p k o q → OwnerAt p (suc k + m) o q
owner_later m the_object = the_object
owner_later {k} m (the_row j l) = the_row j (omega arith)

rooted_by : (p : ℕ → Path) (st : ℕ → Step) (k o : ℕ) (q : Path) → OwnerAt p k o q → p k ≡ q ++ (st k ∷ []) → Rooted p st k o
rooted_by p st k o q the_object e = of_the_object e
rooted_by p st k o q (the_row j l) e = of_row j l e

-- Lists ----------------------------------------------------------------------------------------------------------------------------------------

pub below_or : (i h : ℕ) → (i < h) ⊎ (h ≤ i)
below_or i zero = inr (omega arith)
below_or zero (suc h) = inl (omega arith)
below_or (suc i) (suc h) = ⊎_elim (λ l. inl (up i h l)) (λ l. inr (up≤ h i l)) (below_or i h)
  where
    up : (i h : ℕ) → i < h → suc i < suc h
    up i h l = omega arith

    up≤ : (h i : ℕ) → h ≤ i → suc h ≤ suc i
    up≤ h i l = omega arith

pub get_d_left : {A : Type 0} (xs ys : List A) (i : ℕ) (d : A) → i < length xs → get_or (xs ++ ys) i d ≡ get_or xs i d
get_d_left [] ys i d h = absurd (not-suc-le-zero h)
get_d_left (x ∷ xs) ys zero d h = refl
get_d_left (x ∷ xs) ys (suc i) d h = get_d_left xs ys i d (le_of_suc-le-suc h)

get_d_right : {A : Type 0} (xs ys : List A) (h i : ℕ) (d : A) → length xs ≡ h → h ≤ i → get_or (xs ++ ys) i d ≡ get_or ys (i - h) d
get_d_right xs ys h i d e l =
    let q : length xs + (i - h) ≡ i = omega (arith, e, l) in
    ap (λ (n : ℕ). get_or (xs ++ ys) n d) (sym q) ∙ get_or-append-add xs ys (i - h) d

pub owners_length : (r : Resolved) (k o : ℕ) → length (owner_numbers r k o) ≡ how_many_values r
unfolding owner_numbers how_many_values
owners_length end k o = refl
owners_length (resolved t us rest) k o =
    ap suc (length-append (owner_numbers us (suc k) (suc k)) (owner_numbers rest (suc k + how_many_values us) o)
    ∙ ap₂ ◌+◌ (owners_length us (suc k) (suc k)) (owners_length rest (suc k + how_many_values us) o))

-- Each row has its owner -------------------------------------------------------------------------------------------------------------------------

pub rooted_all : (p : ℕ → Path) (st : ℕ → Step) (r : Resolved) (k o : ℕ) (q : Path) (b : List Word) → Agrees p st r k q b → OwnerAt p k o q
    → (i : ℕ) → i < how_many_values r → Rooted p st (k + i) (get_or (owner_numbers r k o) i 0)
unfolding owner_numbers how_many_values
rooted_all p st end k o q b a w i h = absurd (not-suc-le-zero h)
rooted_all p st (resolved t us rest) k o q b (agree e x y) w zero h =
    let z : k ≡ k + 0 = omega arith in
    subst (λ (m : ℕ). Rooted p st m o) z (rooted_by p st k o q w e)
rooted_all p st (resolved t us rest) k o q b (agree e x y) w (suc i) h = by_place (below_or i (how_many_values us))
    (λ l. rooted_all p st us (suc k) (suc k) (p k) [] x (the_row k (omega arith)) i l)
    (λ j l. rooted_all p st rest (suc k + how_many_values us) o q (t.definition.name ∷ b) y (owner_later (how_many_values us) w) j l)
  where
    by_place : (i < how_many_values us) ⊎ (how_many_values us ≤ i) → (i < how_many_values us → Rooted p st (suc k + i) (get_or (owner_numbers us (suc k) (suc k)) i 0))
        → ((j : ℕ) → j < how_many_values rest → Rooted p st ((suc k + how_many_values us) + j) (get_or (owner_numbers rest (suc k + how_many_values us) o) j 0))
        → Rooted p st (k + suc i) (get_or (owner_numbers us (suc k) (suc k) ++ owner_numbers rest (suc k + how_many_values us) o) i 0)
    by_place (inl l) f g =
        let z : suc k + i ≡ k + suc i = omega arith in
        let inside : i < length (owner_numbers us (suc k) (suc k)) = let m = owners_length us (suc k) (suc k) in omega (arith, m, l) in
        subst (λ (m : ℕ). Rooted p st m (get_or (owner_numbers us (suc k) (suc k) ++ owner_numbers rest (suc k + how_many_values us) o) i 0)) z
        (subst (λ (m : ℕ). Rooted p st (suc k + i) m) (sym (get_d_left (owner_numbers us (suc k) (suc k)) (owner_numbers rest (suc k + how_many_values us) o) i 0 inside)) (f l))
    by_place (inr l) f g =
        let j = i - how_many_values us in
        let z : (suc k + how_many_values us) + j ≡ k + suc i = omega (arith, l) in
        let inside : j < how_many_values rest = let c = h in omega (arith, c, l) in
        subst (λ (m : ℕ). Rooted p st m (get_or (owner_numbers us (suc k) (suc k) ++ owner_numbers rest (suc k + how_many_values us) o) i 0)) z
        (subst (λ (m : ℕ). Rooted p st ((suc k + how_many_values us) + j) m)
        (sym (get_d_right (owner_numbers us (suc k) (suc k)) (owner_numbers rest (suc k + how_many_values us) o) (how_many_values us) i 0 (owners_length us (suc k) (suc k)) l)) (g j inside))

-- The paths of the values ------------------------------------------------------------------------------------------------------------------------

each_length : (s : Step) (vs : List Placed) → length (each (below s) vs) ≡ length vs
unfolding each
each_length s [] = refl
each_length s (v ∷ vs) = ap suc (each_length s vs)

pub placed_length : (r : Resolved) (m : ℕ) (b : List Word) → length (placed r m b) ≡ how_many_values r
unfolding placed how_many_values
placed_length end m b = refl
placed_length (resolved t us rest) m b =
    ap suc (length-append (each (below (step_to t b)) (placed us (suc m) [])) (placed rest (suc m + how_many_values us) (t.definition.name ∷ b))
    ∙ ap₂ ◌+◌ (each_length (step_to t b) (placed us (suc m) []) ∙ placed_length us (suc m) []) (placed_length rest (suc m + how_many_values us) (t.definition.name ∷ b)))

pub steps_length : (r : Resolved) (b : List Word) → length (steps_of r b) ≡ how_many_values r
unfolding steps_of how_many_values
steps_length end b = refl
steps_length (resolved t us rest) b =
    ap suc (length-append (steps_of us []) (steps_of rest (t.definition.name ∷ b)) ∙ ap₂ ◌+◌ (steps_length us []) (steps_length rest (t.definition.name ∷ b)))

path_below : (s : Step) (vs ws : List Placed) (i : ℕ) → i < length vs → path_at (each (below s) vs ++ ws) i ≡ s ∷ path_at vs i
unfolding path_at each below
path_below s [] ws i h = absurd (not-suc-le-zero h)
path_below s (v ∷ vs) ws zero h = refl
path_below s (v ∷ vs) ws (suc i) h = path_below s vs ws i (le_of_suc-le-suc h)

path_behind : (s : Step) (vs ws : List Placed) (n i : ℕ) → length vs ≡ n → path_at (each (below s) vs ++ ws) (n + i) ≡ path_at ws i
unfolding path_at each
path_behind s [] ws n i e = let z : n + i ≡ i = omega (arith, e) in ap (path_at ws) z
path_behind s (v ∷ vs) ws zero i e = absurd (let z = e in omega (arith, z))
path_behind s (v ∷ vs) ws (suc n) i e =
    let z : suc n + i ≡ suc (n + i) = omega arith in
    let l : length vs ≡ n = omega (arith, e) in
    ap (path_at (each (below s) (v ∷ vs) ++ ws)) z ∙ path_behind s vs ws n i l

append_assoc : (a b c : Path) → (a ++ b) ++ c ≡ a ++ (b ++ c)
append_assoc [] b c = refl
append_assoc (x ∷ a) b c = ap (λ (l : Path). x ∷ l) (append_assoc a b c)

-- Paths and steps that are those of the values at each row agree with them.
pub agrees : (p : ℕ → Path) (st : ℕ → Step) (d : Step) (r : Resolved) (k m : ℕ) (q : Path) (b : List Word) → ((i : ℕ) → i < how_many_values r → p (k + i) ≡ q ++ path_at (placed r m b) i)
    → ((i : ℕ) → i < how_many_values r → st (k + i) ≡ get_or (steps_of r b) i d) → Agrees p st r k q b
unfolding placed how_many_values steps_of path_at
agrees p st d end k m q b f g = agree_end
agrees p st d (resolved t us rest) k m q b f g =
    let s = step_to t b in
    let h = how_many_values us in
    let inner = placed us (suc m) [] in
    let behind = placed rest (suc m + h) (t.definition.name ∷ b) in
    let zeroth : k + 0 ≡ k = omega arith in
    let here : p k ≡ q ++ (s ∷ []) = ap p (sym zeroth) ∙ f 0 (omega arith) in
    let step : st k ≡ s = ap st (sym zeroth) ∙ g 0 (omega arith) in
    agree (here ∙ ap (λ (x : Step). q ++ (x ∷ [])) (sym step))
    (agrees p st d us (suc k) (suc m) (p k) []
    (λ i l.
    let z : suc k + i ≡ k + suc i = omega arith in
    let e = placed_length us (suc m) [] in
    ap p z ∙ f (suc i) (omega (arith, l)) ∙ ap (λ (x : Path). q ++ x) (path_below s inner behind i (omega (arith, e, l))) ∙ sym (append_assoc q (s ∷ []) (path_at inner i))
    ∙ ap (λ (x : Path). x ++ path_at inner i) (sym here))
    (λ i l.
    let z : suc k + i ≡ k + suc i = omega arith in
    let e = steps_length us [] in
    ap st z ∙ g (suc i) (omega (arith, l)) ∙ get_d_left (steps_of us []) (steps_of rest (t.definition.name ∷ b)) i d (omega (arith, e, l))))
    (agrees p st d rest (suc k + h) (suc m + h) q (t.definition.name ∷ b)
    (λ i l.
    let z : (suc k + h) + i ≡ k + suc (h + i) = omega arith in
    ap p z ∙ f (suc (h + i)) (omega (arith, l)) ∙ ap (λ (x : Path). q ++ x) (path_behind s inner behind h i (placed_length us (suc m) [])))
    (λ i l.
    let z : (suc k + h) + i ≡ k + suc (h + i) = omega arith in
    let back : (h + i) - h ≡ i = omega arith in
    ap st z ∙ g (suc (h + i)) (omega (arith, l))
    ∙ get_d_right (steps_of us []) (steps_of rest (t.definition.name ∷ b)) h (h + i) d (steps_length us []) (omega arith) ∙ ap (λ (x : ℕ). get_or (steps_of rest (t.definition.name ∷ b)) x d) back))

-- No path stands twice ---------------------------------------------------------------------------------------------------------------------------

found_at : (q : Path) (vs : List Placed) (i : ℕ) → i < length vs → the_first (λ w. same_path q w.path) vs ≡ none → same_path q (path_at vs i) ≡ false
unfolding the_first path_at
found_at q [] i h e = absurd (not-suc-le-zero h)
found_at q (v ∷ vs) zero h e = (none_first (same_path q v.path) v (the_first (λ w. same_path q w.path) vs) e).0
found_at q (v ∷ vs) (suc i) h e = found_at q vs i (le_of_suc-le-suc h) (none_first (same_path q v.path) v (the_first (λ w. same_path q w.path) vs) e).1

pub apart_at : (vs : List Placed) → Apart (λ v w. same_path v.path w.path) vs → (i j : ℕ) → i < length vs → j < length vs → same_path (path_at vs i) (path_at vs j) ≡ true → i ≡ j
unfolding path_at
apart_at [] a i j h g s = absurd (not-suc-le-zero h)
apart_at (v ∷ vs) a zero zero h g s = refl
apart_at (v ∷ vs) a zero (suc j) h g s = absurd (false≢true (sym (found_at v.path vs j (le_of_suc-le-suc g) a.0) ∙ s))
apart_at (v ∷ vs) a (suc i) zero h g s = absurd (false≢true (sym (found_at v.path vs i (le_of_suc-le-suc h) a.0) ∙ path_flip v.path (path_at vs i) ∙ s))
apart_at (v ∷ vs) a (suc i) (suc j) h g s = ap suc (apart_at vs a.1 i j (le_of_suc-le-suc h) (le_of_suc-le-suc g) s)

-- Numbers of two objects' values -------------------------------------------------------------------------------------------------------------------

-- The steps of the rows are numbered so that equal numbers are equal steps.
pub record Coded (d : Step) (r r2 : Resolved) (ss ss2 : List ℕ) : Type 0 where
  pub long : length ss ≡ how_many_values r
  pub long2 : length ss2 ≡ how_many_values r2
  pub codes : (i k : ℕ) → i < how_many_values r → k < how_many_values r2 → eqb (get_or ss i 0) (get_or ss2 k 0) ≡ same_step (get_or (steps_of r []) i d) (get_or (steps_of r2 []) k d)

rooted_placed : (d : Step) (r : Resolved) (m i : ℕ) → i < length (owner_numbers r 0 0) → Rooted (path_at (placed r m [])) (λ j. get_or (steps_of r []) j d) i (get_or (owner_numbers r 0 0) i 0)
rooted_placed d r m i h =
    let p : ℕ → Path = path_at (placed r m []) in
    let st : ℕ → Step = λ j. get_or (steps_of r []) j d in
    let z : (j : ℕ) → 0 + j ≡ j = λ j. omega arith in
    let l : i < how_many_values r = subst (λ (n : ℕ). i < n) (owners_length r 0 0) h in
    subst (λ (n : ℕ). Rooted p st n (get_or (owner_numbers r 0 0) i 0)) (z i)
    (rooted_all p st r 0 0 [] [] (agrees p st d r 0 m [] [] (λ j g. ap p (z j)) (λ j g. ap st (z j))) the_object i l)

pub numbers : (d : Step) (r r2 : Resolved) (m m2 : ℕ) (ss ss2 : List ℕ) → Coded d r r2 ss ss2
    → Numbers (owner_numbers r 0 0) ss (owner_numbers r2 0 0) ss2 (path_at (placed r m [])) (path_at (placed r2 m2 [])) (λ j. get_or (steps_of r []) j d) (λ j. get_or (steps_of r2 []) j d)
numbers d r r2 m m2 ss ss2 c = record {
  long = c.long ∙ sym (owners_length r 0 0);
  long2 = c.long2 ∙ sym (owners_length r2 0 0);
  rooted = rooted_placed d r m;
  rooted2 = rooted_placed d r2 m2;
  codes = λ i k h g. c.codes i k (subst (λ (n : ℕ). i < n) (owners_length r 0 0) h) (subst (λ (n : ℕ). k < n) (owners_length r2 0 0) g);
  apart = λ i j h g s. apart_at (placed r m []) (paths_apart r m []) i j (inside i h) (inside j g) s;
}
  where
    inside : (i : ℕ) → i < length (owner_numbers r 0 0) → i < length (placed r m [])
    inside i h = subst (λ (n : ℕ). i < n) (owners_length r 0 0 ∙ sym (placed_length r m [])) h

-- THE THEOREM for two objects: row k of the second has the partner i exactly if row i of the first has its path.
pub partner_same : (d : Step) (r r2 : Resolved) (m m2 : ℕ) (ss ss2 : List ℕ) → Coded d r r2 ss ss2 → (k : ℕ) → k < how_many_values r2 → (i : ℕ)
    → get_or (partners (owner_numbers r 0 0) ss [] (owner_numbers r2 0 0) ss2) k 0 ≡ suc i → same_path (path_at (placed r m []) i) (path_at (placed r2 m2 []) k) ≡ true
partner_same d r r2 m m2 ss ss2 c k h i e =
    (partner (owner_numbers r 0 0) ss (owner_numbers r2 0 0) ss2 (path_at (placed r m [])) (path_at (placed r2 m2 [])) (λ j. get_or (steps_of r []) j d) (λ j. get_or (steps_of r2 []) j d)
    (numbers d r r2 m m2 ss ss2 c) k (subst (λ (n : ℕ). k < n) (sym (owners_length r2 0 0)) h)).same i e

pub partner_only : (d : Step) (r r2 : Resolved) (m m2 : ℕ) (ss ss2 : List ℕ) → Coded d r r2 ss ss2 → (k : ℕ) → k < how_many_values r2 → (i : ℕ) → i < how_many_values r
    → same_path (path_at (placed r m []) i) (path_at (placed r2 m2 []) k) ≡ true → get_or (partners (owner_numbers r 0 0) ss [] (owner_numbers r2 0 0) ss2) k 0 ≡ suc i
partner_only d r r2 m m2 ss ss2 c k h i g s =
    (partner (owner_numbers r 0 0) ss (owner_numbers r2 0 0) ss2 (path_at (placed r m [])) (path_at (placed r2 m2 [])) (λ j. get_or (steps_of r []) j d) (λ j. get_or (steps_of r2 []) j d)
    (numbers d r r2 m m2 ss ss2 c) k (subst (λ (n : ℕ). k < n) (sym (owners_length r2 0 0)) h)).only i (subst (λ (n : ℕ). i < n) (sym (owners_length r 0 0)) g) s
