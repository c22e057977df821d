-- The cases of the functions, and the turns of their loops. Assumes nothing.
use mathlib.Core.Path.{◌≡◌, refl, sym, ◌∙◌, ap, ap₂, subst}
use mathlib.Core.List.{List, [], ◌∷◌, ◌++◌, append_assoc, append-nil}
use mathlib.Core.Bool.{Bool, true, false}
use Prim.Native.Nat.{ℕ, suc, ◌+◌, ◌*◌, ◌-◌, ◌≤◌, ◌<◌}
use native.Mathlib.Omega.{arith}
use lib.ListN.{length, get_or, replicate, length-append}
use lib.Seq.{sets}
use Rattle.token.specs.Find.{pick, bit}
use Rattle.rows.specs.Search.{find_named}
use Rattle.rows.specs.Found.{Found}
use Rattle.std.specs.Prelude.{Some, None}
use Rattle.meaning.specs.Syntax.{Statements, done, Object, File, statements_in}
use Rattle.meaning.specs.Merging.{then, same_object, used, further, continued, merged, merge_from, merge}
use Rattle.meaning.proofs.Merges.{statements_then}
use Rattle.layout.specs.Kept.{statement_count, object_rows, all_statement_rows, join}
use Rattle.scopes.specs.Situations.{Nth}
use Rattle.scopes.proofs.Descents.{whole}
use Rattle.merging.specs.Parts.{row_or, first_row, first_rows}
use Rattle.merging.specs.Moves.{Moves}
use Rattle.merging.specs.Promises.{Parted, FirstAt, Gathered, share, GathersOne, Gathers, Put, begun, MergesOne, Merges, AllPut}
use Rattle.merging.proofs.Places.{is_new, is_old, no_part, a_part}
use Rattle.merging.proofs.Laying.{gathered_none, gathered_then, continued_append, continued_one, continued_itself, further_append, further_one, count_append, head_cells, moved_part, put_none, put_then, put_one, begun_none, begun_one, merge_step, merge_count}

-- First rows -----------------------------------------------------------------------------------------------------------------------------------

module _ (col : ℕ) (s p : List ℕ) (j : ℕ) {k a n : ℕ} {f : Found} (e₁ : k ≡ get_or p (j * 10 + col) 0) (e₂ : a ≡ get_or p (j * 10 + 3) 0) (e₃ : n ≡ get_or p (j * 10 + 4) 0) where
  named : f ≡ find_named s p 10 j col k 3 a n 0 → f ≡ find_named s p 10 j col (get_or p (j * 10 + col) 0) 3 (get_or p (j * 10 + 3) 0) (get_or p (j * 10 + 4) 0) 0
  named h =
      h ∙ ap (λ (x : ℕ). find_named s p 10 j col x 3 a n 0) e₁ ∙ ap₂ (λ (x y : ℕ). find_named s p 10 j col (get_or p (j * 10 + col) 0) 3 x y 0) e₂ e₃

  pub first_found : {i : ℕ} → f ≡ Some i → f ≡ find_named s p 10 j col k 3 a n 0 → i ≡ first_row col s p j
  unfolding first_row row_or
  first_found g h = ap (row_or j) (sym g ∙ named h)

  pub first_nothing : f ≡ None → f ≡ find_named s p 10 j col k 3 a n 0 → j ≡ first_row col s p j
  unfolding first_row row_or
  first_nothing g h = ap (row_or j) (sym g ∙ named h)

pub each_start : (col : ℕ) (s p out : List ℕ) (n : ℕ) → sets out 0 (first_rows col s p (n - 0) 0) ≡ sets out 0 (first_rows col s p n 0)
each_start col s p out n = let e : n - 0 ≡ n = omega arith in ap (λ (m : ℕ). sets out 0 (first_rows col s p m 0)) e

pub each_more : (col : ℕ) (s p out out' t : List ℕ) (n j i : ℕ) → j < n → out' ≡ sets out j (i ∷ []) → i ≡ first_row col s p j → sets out j (first_rows col s p (n - j) j) ≡ t
    → sets out' (j + 1) (first_rows col s p (n - (j + 1)) (j + 1)) ≡ t
unfolding first_rows
each_more col s p out out' t n j i h e g k =
    let m : n - j ≡ suc (n - (j + 1)) = omega (arith, h) in
    let z : j + 1 ≡ suc j = omega arith in
    ap₂ (λ (l : List ℕ) (q : ℕ). sets l q (first_rows col s p (n - (j + 1)) q)) (e ∙ ap (λ (q : ℕ). sets out j (q ∷ [])) g) z
    ∙ sym (ap (λ (q : ℕ). sets out j (first_rows col s p q j)) m) ∙ k

pub each_end : (col : ℕ) (s p out t : List ℕ) (n j : ℕ) → n ≤ j → sets out j (first_rows col s p (n - j) j) ≡ t → out ≡ t
unfolding first_rows
each_end col s p out t n j h k =
    let m : n - j ≡ 0 = omega (arith, h) in
    sym (ap (λ (q : ℕ). sets out j (first_rows col s p q j)) m) ∙ k

-- Lists ----------------------------------------------------------------------------------------------------------------------------------------

record HasNext (l : List Object) : Type 0 where
  element : Object
  rest : List Object
  is : l ≡ element ∷ rest

has_next : (l : List Object) → 0 < length l → HasNext l
has_next [] h = absurd (omega arith)
has_next (x ∷ l) h = record { element = x; rest = l; is = refl }

no_more : (l : List Object) → length l ≡ 0 → l ≡ []
no_more [] h = refl
no_more (x ∷ l) h = absurd (omega arith)

-- What one row gives ----------------------------------------------------------------------------------------------------------------------------

share_none : (y z : Object) → same_object y z ≡ false → share y z ≡ done
unfolding share
share_none y z e = ap (λ (b : Bool). pick b z.statements done) e

share_all : (y z : Object) → same_object y z ≡ true → share y z ≡ z.statements
unfolding share
share_all y z e = ap (λ (b : Bool). pick b z.statements done) e

pub gather_none : (p st x l : List ℕ) (i j m c : ℕ) → (get_or x j 0 ≡ i → ⊥) → GathersOne p st x i j l m c l m c
unfolding bit
gather_none p st x l i j m c h s n f y z P q r g k =
    let e = no_part P q r g h in
    subst (λ (b : Bool). Gathered (share y z) (bit b) l m c l m c) (sym e) (subst (λ (ss : Statements). Gathered ss 0 l m c l m c) (sym (share_none y z e)) (gathered_none l m c))

pub gather_some : (p st x l l' : List ℕ) (i j m m' c from end : ℕ) → get_or x j 0 ≡ i → from ≡ get_or p (j * 10 + 8) 0 → end ≡ get_or p (j * 10 + 9) 0 → Moves st from end l m l' m'
    → GathersOne p st x i j l m c l' m' (c + 1)
unfolding bit
gather_some p st x l l' i j m m' c from end h e₁ e₂ M s n f y z P q r g k =
    let e = a_part P q r g h in
    let w : statements_in (share y z) ≡ statements_in z.statements = ap statements_in (share_all y z e) in
    subst (λ (b : Bool). Gathered (share y z) (bit b) l m c l' m' (c + 1)) (sym e)
    (subst (λ (ss : Statements). Gathered ss 1 l m c l' m' (c + 1)) (sym (share_all y z e)) (moved_part P r from end l l' m m' c e₁ e₂ (omega arith) M))

-- What all rows give ----------------------------------------------------------------------------------------------------------------------------

-- The first d of the parts xs have been looked at for the object whose first part is y.
pub record SoFar (y : Object) (xs : List Object) (d : ℕ) (l : List ℕ) (m : ℕ) (l' : List ℕ) (m' c' : ℕ) : Type 0 where
  pub seen : List Object
  pub left : List Object
  pub whole : xs ≡ seen ++ left
  pub many : length seen ≡ d
  pub got : Gathered (continued y seen) (further y seen) l m 0 l' m' c'

abbrev pub Gathering : (p st x : List ℕ) → (i n j : ℕ) → List ℕ → ℕ → List ℕ → (m' c' : ℕ) → Type 0
Gathering p st x i n j l m l' m' c' =
    (s : List ℕ) (f : File) (y : Object) (q : FirstAt f i y) → Parted s p st x n f → m + statements_in (continued y (y ∷ q.rest)) ≤ 2049 → j ≤ n
    → SoFar y (y ∷ q.rest) (j - i) l m l' m' c'

pub gathering_start : (p st x l : List ℕ) (i n m : ℕ) → Gathering p st x i n i l m l m 0
unfolding continued further
gathering_start p st x l i n m s f y q P h g = record { seen = []; left = y ∷ q.rest; whole = refl; many = omega arith; got = gathered_none l m 0 }

next_part : {y : Object} {xs : List Object} {d : ℕ} {l l' : List ℕ} {m m' c' : ℕ} (k : SoFar y xs d l m l' m' c') → d < length xs → HasNext k.left
next_part {xs = xs} k h =
    let a : length xs ≡ length (k.seen ++ k.left) = ap (λ (v : List Object). length v) k.whole in
    let b = length-append k.seen k.left in
    let e = k.many in
    has_next k.left (omega arith)

pub gathering_more : (p st x l l₁ l₂ : List ℕ) (i n j m m₁ m₂ c₁ c₂ : ℕ) → i ≤ j → j < n → GathersOne p st x i j l₁ m₁ c₁ l₂ m₂ c₂ → Gathering p st x i n j l m l₁ m₁ c₁
    → Gathering p st x i n (j + 1) l m l₂ m₂ c₂
gathering_more p st x l l₁ l₂ i n j m m₁ m₂ c₁ c₂ h g one K s f y q P room _ =
    let k = K s f y q P room (omega arith) in
    let t = P.parts in
    let u : length f.parts ≡ length (q.front ++ (y ∷ q.rest)) = ap (λ (v : List Object). length v) q.whole in
    let v = length-append q.front (y ∷ q.rest) in
    let w = q.place in
    let e = k.many in
    let nx = next_part k (omega arith) in
    let z = nx.element in
    let b = nx.rest in
    let xs : y ∷ q.rest ≡ k.seen ++ (z ∷ b) = k.whole ∙ ap (λ (v : List Object). k.seen ++ v) nx.is in
    let pl = length-append q.front k.seen in
    let r : Nth f.parts j z = record { front = q.front ++ k.seen; rest = b; whole = q.whole ∙ ap (λ (v : List Object). q.front ++ v) xs ∙ sym (append_assoc q.front k.seen (z ∷ b)); place = omega arith } in
    let a₁ : statements_in (continued y (y ∷ q.rest)) ≡ statements_in (continued y k.seen) + (statements_in (share y z) + statements_in (continued y b)) =
    ap (λ (v : List Object). statements_in (continued y v)) xs ∙ ap statements_in (continued_append y k.seen (z ∷ b)) ∙ statements_then (continued y k.seen) (continued y (z ∷ b))
    ∙ ap (statements_in (continued y k.seen) +◌) (ap statements_in (continued_append y (z ∷ []) b) ∙ statements_then (continued y (z ∷ [])) (continued y b) ∙ ap (λ (ss : Statements). statements_in ss + statements_in (continued y b)) (continued_one y z)) in
    let a₂ = k.got.row in
    let o = one s n f y z P q r h (omega arith) in
    let j₁ = gathered_then k.got o in
    let e₁ : continued y (k.seen ++ (z ∷ [])) ≡ then (continued y k.seen) (share y z) = continued_append y k.seen (z ∷ []) ∙ ap (then (continued y k.seen)) (continued_one y z) in
    let e₂ : further y (k.seen ++ (z ∷ [])) ≡ further y k.seen + bit (same_object y z) = further_append y k.seen (z ∷ []) ∙ ap (further y k.seen +◌) (further_one y z) in
    let ln = length-append k.seen (z ∷ []) in
    record {
      seen = k.seen ++ (z ∷ []);
      left = b;
      whole = xs ∙ sym (append_assoc k.seen (z ∷ []) b);
      many = omega arith;
      got = subst (λ (ss : Statements). Gathered ss (further y (k.seen ++ (z ∷ []))) l m 0 l₂ m₂ c₂) (sym e₁)
          (subst (λ (d : ℕ). Gathered (then (continued y k.seen) (share y z)) d l m 0 l₂ m₂ c₂) (sym e₂) j₁);
    }

pub gathering_end : (p st x l l' : List ℕ) (i n j m m' c' : ℕ) → i ≤ j → n ≤ j → j - i ≤ n - i → Gathering p st x i n j l m l' m' c' → Gathers p st x i n l m l' m' c'
gathering_end p st x l l' i n j m m' c' h g d K s f y q P room =
    let t = P.parts in
    let u : length f.parts ≡ length (q.front ++ (y ∷ q.rest)) = ap (λ (v : List Object). length v) q.whole in
    let v = length-append q.front (y ∷ q.rest) in
    let w = q.place in
    let k = K s f y q P room (omega arith) in
    let e = k.many in
    let a : length (y ∷ q.rest) ≡ length (k.seen ++ k.left) = ap (λ (v : List Object). length v) k.whole in
    let b = length-append k.seen k.left in
    let xs : k.seen ≡ y ∷ q.rest = sym (append-nil k.seen) ∙ ap (λ (v : List Object). k.seen ++ v) (sym (no_more k.left (omega arith))) ∙ sym k.whole in
    subst (λ (v : List Object). Gathered (continued y v) (further y v) l m 0 l' m' c') xs k.got

-- Objects ----------------------------------------------------------------------------------------------------------------------------------------

pub merge_none : (p st x o t : List ℕ) (i n k m : ℕ) → (get_or x i 0 ≡ i → ⊥) → MergesOne p st x i n o t k m o t k m
merge_none p st x o t i n k m h s f before z rest P w l g =
    subst (λ (os : List Object). Put os o t k m o t k m) (sym (begun_none before z rest k (is_old P i before z rest w l h))) (put_none o t k m)

pub merge_some : (p st x o o' t t' : List ℕ) (i n k m m' c a₀ a₁ a₂ a₃ a₄ a₅ a₆ : ℕ) → get_or x i 0 ≡ i → Gathers p st x i n t m t' m' c → a₀ ≡ get_or p (i * 10 + 0) 0
    → a₁ ≡ get_or p (i * 10 + 1) 0 → a₂ ≡ get_or p (i * 10 + 2) 0 → a₃ ≡ get_or p (i * 10 + 3) 0 → a₄ ≡ get_or p (i * 10 + 4) 0 → a₅ ≡ get_or p (i * 10 + 5) 0 → a₆ ≡ get_or p (i * 10 + 6) 0
    → o' ≡ sets o (k * 10) (a₀ ∷ a₁ ∷ a₂ ∷ a₃ ∷ a₄ ∷ a₅ ∷ a₆ ∷ c ∷ m ∷ m' ∷ []) → MergesOne p st x i n o t k m o' t' (k + 1) m'
unfolding statement_count merged
merge_some p st x o o' t t' i n k m m' c a₀ a₁ a₂ a₃ a₄ a₅ a₆ h G e₀ e₁ e₂ e₃ e₄ e₅ e₆ e s f before z rest P w l g =
    let u = is_new P i before z rest w l h in
    let q : FirstAt f i z = record { front = before; rest = rest; whole = w; place = l; new = u } in
    let r : Nth f.parts i z = record { front = before; rest = rest; whole = w; place = l } in
    let cs = head_cells P r in
    let b = begun_one before z rest k u in
    let d : statement_count (begun before z rest k) ≡ statements_in (then z.statements (continued z rest)) + 0 = ap statement_count b in
    let d₂ : statements_in (continued z (z ∷ rest)) ≡ statements_in (then z.statements (continued z rest)) = ap statements_in (continued_itself z rest) in
    subst (λ (os : List Object). Put os o t k m o' t' (k + 1) m') (sym b)
    (put_one z rest o o' t t' k m m' c a₀ a₁ a₂ a₃ a₄ a₅ a₆ (e₀ ∙ cs.0) (e₁ ∙ cs.1) (e₂ ∙ cs.2) (e₃ ∙ cs.3) (e₄ ∙ cs.4) (e₅ ∙ cs.5) (e₆ ∙ cs.6)
    (G s f z q P (omega arith)) e)

-- The objects that the first i parts begin have been put.
pub record Upto (f : File) (i : ℕ) (o t o' t' : List ℕ) (k m : ℕ) : Type 0 where
  pub before : List Object
  pub left : List Object
  pub so_far : List Object
  pub whole : f.parts ≡ before ++ left
  pub place : length before ≡ i
  pub merged_so : so_far ++ merge_from before left k ≡ merge f.parts
  pub put : Put so_far o t 0 0 o' t' k m

abbrev pub Merging : (p st x : List ℕ) → (n i : ℕ) → (o t o' t' : List ℕ) → (k m : ℕ) → Type 0
Merging p st x n i o t o' t' k m = (s : List ℕ) (f : File) → Parted s p st x n f → i ≤ n → Upto f i o t o' t' k m

pub merging_start : (p st x o t : List ℕ) (n : ℕ) → Merging p st x n 0 o t o t 0 0
unfolding merge
merging_start p st x o t n s f P h = record { before = []; left = f.parts; so_far = []; whole = refl; place = refl; merged_so = refl; put = put_none o t 0 0 }

pub merging_more : (p st x o t o₁ t₁ o₂ t₂ : List ℕ) (n i k m k₂ m₂ : ℕ) → i < n → MergesOne p st x i n o₁ t₁ k m o₂ t₂ k₂ m₂ → Merging p st x n i o t o₁ t₁ k m
    → Merging p st x n (i + 1) o t o₂ t₂ k₂ m₂
merging_more p st x o t o₁ t₁ o₂ t₂ n i k m k₂ m₂ h one K s f P _ =
    let u = K s f P (omega arith) in
    let a : length f.parts ≡ length (u.before ++ u.left) = ap (λ (v : List Object). length v) u.whole in
    let b = length-append u.before u.left in
    let c = u.place in
    let d = P.parts in
    let nx = has_next u.left (omega arith) in
    let z = nx.element in
    let rest = nx.rest in
    let w : f.parts ≡ u.before ++ (z ∷ rest) = u.whole ∙ ap (λ (v : List Object). u.before ++ v) nx.is in
    let os = begun u.before z rest k in
    let tail = merge_from (u.before ++ (z ∷ [])) rest (k + length os) in
    let e : u.so_far ++ (os ++ tail) ≡ merge f.parts = ap (λ (v : List Object). u.so_far ++ v) (sym (merge_step u.before z rest k)) ∙ ap (λ (v : List Object). u.so_far ++ merge_from u.before v k) (sym nx.is) ∙ u.merged_so in
    let e₁ : statement_count (u.so_far ++ (os ++ tail)) ≡ statement_count (merge f.parts) = ap statement_count e in
    let e₂ = merge_count f.parts in
    let e₃ = count_append u.so_far (os ++ tail) in
    let e₄ = count_append os tail in
    let e₅ = u.put.row in
    let e₆ = P.statements_fit in
    let y = one s f u.before z rest P w c (omega arith) in
    let e₇ = y.count in
    let l = length-append u.before (z ∷ []) in
    record {
      before = u.before ++ (z ∷ []);
      left = rest;
      so_far = u.so_far ++ os;
      whole = w ∙ sym (append_assoc u.before (z ∷ []) rest);
      place = omega arith;
      merged_so = append_assoc u.so_far os (merge_from (u.before ++ (z ∷ [])) rest k₂) ∙ ap (λ (j : ℕ). u.so_far ++ (os ++ merge_from (u.before ++ (z ∷ [])) rest j)) e₇ ∙ e;
      put = put_then u.put y;
    }

pub merging_end : (p st x o t o' t' : List ℕ) (n i k m : ℕ) → n ≤ i → i ≤ n → Merging p st x n i o t o' t' k m → Merges p st x n o t o' t' k
unfolding merge_from
merging_end p st x o t o' t' n i k m h g K s f P =
    let u = K s f P (omega arith) in
    let a : length f.parts ≡ length (u.before ++ u.left) = ap (λ (v : List Object). length v) u.whole in
    let b = length-append u.before u.left in
    let c = u.place in
    let d = P.parts in
    let z = no_more u.left (omega arith) in
    let e : u.so_far ≡ f.objects =
    sym (append-nil u.so_far) ∙ sym (ap (λ (v : List Object). u.so_far ++ merge_from u.before v k) z) ∙ u.merged_so ∙ sym (whole P.situation).merged in
    let p = subst (λ (os : List Object). Put os o t 0 0 o' t' k m) e u.put in
    record { objects = p.objects; statements = p.statements; count = p.count ∙ (let i : 0 + length f.objects ≡ length f.objects = omega arith in i) }
