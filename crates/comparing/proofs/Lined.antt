-- The columns of an object's rows and the records of a pair, as the code makes them. Assumes nothing.
use mathlib.Core.Path.{◌≡◌, sym, ◌∙◌, ap, ap₂, subst}
use mathlib.Core.List.{List, []}
use mathlib.Core.Bool.{Bool, true, false}
use Prim.Native.Nat.{ℕ, suc, ◌+◌, ◌-◌, ◌*◌, ◌<◌, ◌≤◌, min}
use lib.Dec.{eqb}
use Rattle.token.specs.Find.{pick}
use Rattle.rows.specs.Table.{cell_of}
use Rattle.comparing.specs.Ordering.{Bounded, Orderable}
use native.Mathlib.Omega.{arith}
use lib.ListN.{length, get_or}
use Rattle.comparing.specs.Partners.{positions, partners}
use Rattle.comparing.specs.declared.Difference.{Difference}
use Rattle.comparing.specs.declared.Found.{Found}
use Rattle.comparing.specs.Gathered.{ToldAlso, first_records, second_records, pair_partners, pair_records}
use Rattle.comparing.specs.Columns.{Holds, owner_cell, owner_from, name_from, step_cell, step_of_row, cells_of, owners_of, name_cell, names_of, places_of, steps_of_rows, back_cell, backs_of, Backs, Columned, Roomy, Coupled, Partnering}
use Rattle.comparing.proofs.Pairing.{also_then}
use Rattle.comparing.proofs.Rowed.{cells_are, cells_at, cells_length}

nought : (j : ℕ) → j ≡ 0 + j
nought j = omega arith

owners_held : (v : List ℕ) (r n : ℕ) (os : List ℕ) → Holds (owner_from v r) (length os) os → length os ≡ n → os ≡ owners_of v r n
unfolding owners_of owner_from
owners_held v r n os a l = cells_are (owner_cell v r) r os (λ j g. a.cell j g) ∙ ap (cells_of (owner_cell v r) r) l

names_held : (v h : List ℕ) (r n : ℕ) (ns : List ℕ) → Holds (name_from v h r) (length ns) ns → length ns ≡ n → ns ≡ names_of v h r n
unfolding names_of name_from
names_held v h r n ns a l = cells_are (name_cell v h) r ns (λ j g. a.cell j g) ∙ ap (cells_of (name_cell v h) r) l

pub columned : (d v h : List ℕ) (r n : ℕ) (os ns ps ss : List ℕ) → Holds (owner_from v r) (length os) os → Holds (name_from v h r) (length ns) ns → ps ≡ positions [] [] [] os ns
    → Holds (step_of_row d v ns ps r) (length ss) ss → length os ≡ n → length ns ≡ n → length ss ≡ n → Columned d v h r n os ss
unfolding places_of steps_of_rows
columned d v h r n os ns ps ss a b e f l m k =
    let o : os ≡ owners_of v r n = owners_held v r n os a l in
    let w : ns ≡ names_of v h r n = names_held v h r n ns b m in
    let p : ps ≡ places_of v h r n = e ∙ ap₂ (λ (y u : List ℕ). positions [] [] [] y u) o w in
    record {
      owners = o;
      steps = cells_are (step_of_row d v ns ps r) 0 ss (λ j g. f.cell j g ∙ ap (step_of_row d v ns ps r) (nought j)) ∙ ap (cells_of (step_of_row d v ns ps r) 0) k
          ∙ (λ i. cells_of (step_of_row d v (w i) (p i) r) 0 n);
    }

backs_are : (ps : List ℕ) (r n : ℕ) (back : List ℕ) → Backs ps r 0 back → length back ≡ n → back ≡ backs_of ps r n
unfolding backs_of back_cell
backs_are ps r n back w l = cells_are (back_cell ps r) 0 back (λ j g. w.cell j g ∙ ap (back_cell ps r) (nought j)) ∙ ap (cells_of (back_cell ps r) 0) l

pub gathered : (s d v s2 d2 v2 ps back : List ℕ) (r m n r2 x y : ℕ) (f g q : Found) → Backs ps r2 0 back → length back ≡ n → m ≡ n → ToldAlso f (first_records s d v s2 d2 v2 back x y m r 0) g
    → ToldAlso g (second_records x y ps r2) q → ToldAlso f (pair_records s d v s2 d2 v2 ps r n r2 x y) q
unfolding pair_records
gathered s d v s2 d2 v2 ps back r m n r2 x y f g q w l e a b =
    let p : back ≡ backs_of ps r2 n = backs_are ps r2 n back w l in
    also_then f g q (first_records s d v s2 d2 v2 (backs_of ps r2 n) x y n r 0) (second_records x y ps r2)
    (subst (λ (z : List Difference). ToldAlso f z g) (λ i. first_records s d v s2 d2 v2 (p i) x y (e i) r 0) a) b

pub coupled : (s d v s2 d2 v2 ps qs : List ℕ) (r n r2 x y : ℕ) (f q : Found) → ps ≡ qs → ToldAlso f (pair_records s d v s2 d2 v2 ps r n r2 x y) q → ToldAlso f (pair_records s d v s2 d2 v2 qs r n r2 x y) q
coupled s d v s2 d2 v2 ps qs r n r2 x y f q e = subst (λ (z : List ℕ). ToldAlso f (pair_records s d v s2 d2 v2 z r n r2 x y) q) e

pub paired : (s d v h s2 d2 v2 h2 os ss os2 ss2 : List ℕ) (r n m r2 n2 x y : ℕ) (f q : Found) → Columned d v h r n os ss → Columned d2 v2 h2 r2 n2 os2 ss2 → m ≡ n
    → ToldAlso f (pair_records s d v s2 d2 v2 (partners os ss [] os2 ss2) r m r2 x y) q → ToldAlso f (pair_records s d v s2 d2 v2 (pair_partners d v h r n d2 v2 h2 r2 n2) r n r2 x y) q
unfolding pair_partners
paired s d v h s2 d2 v2 h2 os ss os2 ss2 r n m r2 n2 x y f q a b e t =
    let o = a.owners in
    let p = a.steps in
    let o2 = b.owners in
    let p2 = b.steps in
    subst (λ (z : List Difference). ToldAlso f z q) (λ i. pair_records s d v s2 d2 v2 (partners (o i) (p i) [] (o2 i) (p2 i)) r (e i) r2 x y) t

-- Bounds ------------------------------------------------------------------------------------------------------------------------------------

owner_most : (v : List ℕ) (r i : ℕ) → owner_cell v r i < 131072
unfolding owner_cell
owner_most v r i = by (eqb (cell_of v 9 i 1) 0) (min (cell_of v 9 i 2) 65536 - r) (omega arith)
  where
    by : (b : Bool) (m : ℕ) → m ≤ 65536 → pick b 0 (suc m) < 131072
    by true m h = omega arith
    by false m h = omega (arith, h)

name_most : (v h : List ℕ) (i : ℕ) → name_cell v h i < 8589934592
unfolding name_cell
name_most v h i = omega arith

step_most : (d v names places : List ℕ) (r i : ℕ) → step_of_row d v names places r i < 8589934592
unfolding step_of_row step_cell
step_most d v names places r i = by (min (get_or names i 0) 1048576) (min (cell_of d 13 (cell_of v 9 (r + i) 0) 6) 1) (min (get_or places i 0) 65536) (omega arith) (omega arith) (omega arith)
  where
    by : (a b c : ℕ) → a ≤ 1048576 → b ≤ 1 → c ≤ 65536 → (a * 2 + b) * 2048 + c < 8589934592
    by a b c h g k = omega (arith, h, g, k)

pub bounded_names : (v h : List ℕ) (r : ℕ) (os ns : List ℕ) → Holds (owner_from v r) (length os) os → Holds (name_from v h r) (length ns) ns → length ns ≡ length os → length os ≤ 2048 → Bounded os ns
unfolding owner_from name_from
bounded_names v h r os ns a b e f =
    record {
      long = e;
      few = f;
      first = λ i l. subst (λ (m : ℕ). m < 131072) (sym (a.cell i l)) (owner_most v r (r + i));
      second = λ i l. subst (λ (m : ℕ). m < 8589934592) (sym (b.cell i (omega (arith, e, l)))) (name_most v h (r + i));
    }

pub bounded_steps : (d v h : List ℕ) (r n : ℕ) (os ss : List ℕ) → Columned d v h r n os ss → n ≤ 2048 → Bounded os ss
unfolding owners_of steps_of_rows
bounded_steps d v h r n os ss c f =
    let o = ap length c.owners ∙ cells_length (owner_cell v r) r n in
    let s = ap length c.steps ∙ cells_length (step_of_row d v (names_of v h r n) (places_of v h r n) r) 0 n in
    record {
      long = s ∙ sym o;
      few = omega (arith, o, f);
      first = λ i l.
          subst (λ (m : ℕ). m < 131072) (sym (ap (λ (k : List ℕ). get_or k i 0) c.owners ∙ cells_at (owner_cell v r) r n i (omega (arith, o, l)))) (owner_most v r (r + i));
      second = λ i l.
          subst (λ (m : ℕ). m < 8589934592)
          (sym (ap (λ (k : List ℕ). get_or k i 0) c.steps ∙ cells_at (step_of_row d v (names_of v h r n) (places_of v h r n) r) 0 n i (omega (arith, o, l))))
          (step_most d v (names_of v h r n) (places_of v h r n) r (0 + i));
    }

-- Room for the columns -----------------------------------------------------------------------------------------------------------------------

pub roomy_of : (r : ℕ) (a e b c : List ℕ) → Coupled r a e → length a ≡ length b → length a ≡ length c → Roomy r a b c e
roomy_of r a e b c h p q = record { few = h.few; owners = h.owners; names = sym p; places = sym q; steps = h.steps }

pub orderable_of : (n : ℕ) (x room : List ℕ) → n ≡ length x → n ≤ 2 * length room + 1 → Orderable n x room
orderable_of n x room e h = record { cells = sym e; beside = h }

pub orderable_kept : (n m : ℕ) (x room : List ℕ) → Orderable n x room → m ≡ n → Orderable m x room
orderable_kept n m x room h e = subst (λ (k : ℕ). Orderable k x room) (sym e) h

pub coupling : (r r2 : ℕ) (a e a2 e2 ps back : List ℕ) → Coupled r a e → Coupled r2 a2 e2 → Bounded a e → length a2 ≡ length ps → length a ≡ length back → Partnering r r2 a e a2 e2 ps back
coupling r r2 a e a2 e2 ps back h k b p q =
    let f = h.few in
    let o = h.owners in
    let f2 = k.few in
    let o2 = k.owners in
    record { steps = h.steps; steps2 = k.steps; bounded = b; partners = sym p; first = omega (arith, f, o, q); second = omega (arith, f2, o2, p) }

pub coupled_kept : (r : ℕ) (a e b c : List ℕ) → Coupled r a e → length b ≡ length a → length c ≡ length e → Coupled r b c
coupled_kept r a e b c h p q = let o = h.owners in let l = h.steps in record { few = h.few; owners = omega (arith, o, p); steps = omega (arith, l, p, q) }

pub coupled_room : (r n : ℕ) (a e : List ℕ) → r ≤ 2048 → n ≤ 2048 → n ≡ length a → n ≡ length e → Coupled r a e
coupled_room r n a e h k p q = record { few = h; owners = omega (arith, k, p); steps = omega (arith, p, q) }

pub coupled_long : (s d v s2 d2 v2 ps : List ℕ) (r m n r2 x y : ℕ) (f q : Found) → m ≡ n → ToldAlso f (pair_records s d v s2 d2 v2 ps r n r2 x y) q → ToldAlso f (pair_records s d v s2 d2 v2 ps r m r2 x y) q
coupled_long s d v s2 d2 v2 ps r m n r2 x y f q e = subst (λ (k : ℕ). ToldAlso f (pair_records s d v s2 d2 v2 ps r k r2 x y) q) (sym e)

pub paired_long : (s d v h s2 d2 v2 h2 : List ℕ) (r m n r2 m2 n2 x y : ℕ) (f q : Found) → m ≡ n → m2 ≡ n2
    → ToldAlso f (pair_records s d v s2 d2 v2 (pair_partners d v h r n d2 v2 h2 r2 n2) r n r2 x y) q → ToldAlso f (pair_records s d v s2 d2 v2 (pair_partners d v h r m d2 v2 h2 r2 m2) r m r2 x y) q
paired_long s d v h s2 d2 v2 h2 r m n r2 m2 n2 x y f q e e2 t =
    subst (λ (z : List Difference). ToldAlso f z q) (λ i. pair_records s d v s2 d2 v2 (pair_partners d v h r (sym e i) d2 v2 h2 r2 (sym e2 i)) r (sym e i) r2 x y) t
