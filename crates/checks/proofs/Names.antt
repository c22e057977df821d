-- 24: where no part before is at fault, the kind of the first part with a part's name tells whether the name is used elsewhere. Assumes nothing.
use mathlib.Core.Path.{◌≡◌, refl, sym, ◌∙◌, ap, ap₂, subst}
use mathlib.Core.List.{List, [], ◌∷◌, ◌++◌, append_assoc, append-nil}
use mathlib.Core.Bool.{Bool, true, false, not, false≢true}
use Prim.Native.Nat.{ℕ, suc, ◌+◌, ◌*◌, ◌≤◌, ◌<◌}
use native.Mathlib.Omega.{arith}
use lib.ListN.{length, get_or, length-append}
use lib.Dec.{eqb}
use borrow.Author.Tests.{eq-eqb, ne_eqb, eqb-true}
use Rattle.std.specs.Prelude.{Some, None}
use Rattle.token.specs.Find.{pick, both, either}
use Rattle.token.specs.Words.{same}
use Rattle.token.specs.Tokens.{part_of}
use Rattle.token.proofs.Bytes.{both_true, both_second, eqb_sym}
use Rattle.token.proofs.Codes.{same_self, same_equal}
use Rattle.rows.specs.Found.{Found}
use Rattle.std.specs.Prelude.{Some, None}
use Rattle.rows.proofs.Walks.{first, any_of}
use Rattle.rows.specs.Search.{find_named, find_from, is_named, has_key}
use Rattle.rows.proofs.Searches.{first_is}
use Rattle.rows.proofs.Starts.{cell_past}
use Rattle.meaning.specs.Syntax.{Object, File}
use Rattle.meaning.specs.Words.{alike}
use Rattle.meaning.specs.Kinds.{kind_number, same_kind}
use Rattle.meaning.specs.Faults.{faults_if}
use Rattle.meaning.specs.Applying.{elsewhere, each_name}
use Rattle.meaning.proofs.Merges.{elsewhere_append}
use Rattle.meaning.proofs.Rooms.{nothing_front, nothing_back, not_faulty}
use Rattle.meaning.proofs.Sites.{statement_words, object_words}
use Rattle.layout.specs.Kept.{kept_parts, object_cells}
use Rattle.scopes.specs.Situations.{Situation, Nth}
use Rattle.scopes.proofs.Rooms.{row_cell_lem}
use Rattle.scopes.proofs.Finding.{seek_all, nth_front, below_front}
use Rattle.scopes.proofs.Goodness.{Good, Goods, good_back, part_good}
use Rattle.scopes.proofs.Descents.{whole}
use Rattle.merging.specs.Parts.{row_or, first_row}
use Rattle.merging.proofs.Places.{good_name}
use Rattle.checks.specs.Promises.{Titled, Unclashed, Clashes, clash, no_clash}

-- Names used elsewhere ---------------------------------------------------------------------------------------------------------------------------

-- Whether y has x's name and another kind.
unfoldable other : Object → Object → Bool
other x y = both (not (same_kind x.kind y.kind)) (alike y.name x.name)

-- Whether y has x's name.
unfoldable same_name : Object → Object → Bool
same_name x y = alike y.name x.name

elsewhere_at : (x w : Object) (a c : List Object) → other x w ≡ true → elsewhere x (a ++ (w ∷ c)) ≡ true
unfolding elsewhere other
elsewhere_at x w a c e = elsewhere_append x a (w ∷ c) ∙ go (elsewhere x a)
  where
    go : (b : Bool) → either b (either (other x w) (elsewhere x c)) ≡ true
    go true = refl
    go false = ap (λ (t : Bool). either t (elsewhere x c)) e

pub each_name_append : (before xs ys : List Object) → each_name before (xs ++ ys) ≡ each_name before xs ++ each_name (before ++ xs) ys
unfolding each_name
each_name_append before [] ys = ap (λ (l : List Object). each_name l ys) (sym (append-nil before))
each_name_append before (x ∷ xs) ys =
    let A = faults_if (elsewhere x before) x.name 24 in
    let B = each_name (before ++ (x ∷ [])) xs in
    ap (A ++◌) (each_name_append (before ++ (x ∷ [])) xs ys ∙ ap (λ (l : List Object). B ++ each_name l ys) (append_assoc before (x ∷ []) xs))
    ∙ sym (append_assoc A B (each_name (before ++ (x ∷ xs)) ys))

-- Where v has z's name and another kind, and w has z's name and kind, v has w's name and another kind.
crossed : (w z v : Object) → same_name z w ≡ true → kind_number z.kind ≡ kind_number w.kind → other z v ≡ true → other v w ≡ true
unfolding other same_name alike same_kind
crossed w z v h k t =
    let n = both_true (not (eqb (kind_number z.kind) (kind_number v.kind))) (same v.name.bytes z.name.bytes) t in
    let m = both_second (not (eqb (kind_number z.kind) (kind_number v.kind))) (same v.name.bytes z.name.bytes) t in
    let p = same_equal w.name.bytes z.name.bytes h in
    let q = same_equal v.name.bytes z.name.bytes m in
    ap₂ both (ap (λ (i : ℕ). not (eqb (kind_number v.kind) i)) (sym k) ∙ ap not (eqb_sym (kind_number v.kind) (kind_number z.kind)) ∙ n)
    (ap₂ same p q ∙ same_self z.name.bytes)

rest_only : (t r : Bool) → (t ≡ true → ⊥) → r ≡ false → either t r ≡ false
rest_only true r f e = absurd (f refl)
rest_only false r f e = e

clear_more : (w z v : Object) (a c b : List Object) → same_name z w ≡ true → kind_number z.kind ≡ kind_number w.kind → elsewhere v (a ++ (w ∷ c)) ≡ false
    → elsewhere z b ≡ false → either (other z v) (elsewhere z b) ≡ false
clear_more w z v a c b h k n r = rest_only (other z v) (elsewhere z b) (λ t. false≢true (sym n ∙ elsewhere_at v w a c (crossed w z v h k t))) r

-- Behind a part w of z's name and kind, where none is at fault, no other kind has the name.
clear_rest : (w z : Object) (a c b : List Object) → same_name z w ≡ true → kind_number z.kind ≡ kind_number w.kind → each_name (a ++ (w ∷ c)) b ≡ [] → elsewhere z b ≡ false
unfolding each_name elsewhere other
clear_rest w z a c [] h k e = refl
clear_rest w z a c (v ∷ b) h k e =
    let A = faults_if (elsewhere v (a ++ (w ∷ c))) v.name 24 in
    let B = each_name ((a ++ (w ∷ c)) ++ (v ∷ [])) b in
    clear_more w z v a c b h k (not_faulty (elsewhere v (a ++ (w ∷ c))) v.name 24 (nothing_front A B e))
    (clear_rest w z a (c ++ (v ∷ [])) b h k (subst (λ (l : List Object). each_name l b ≡ []) (append_assoc a (w ∷ c) (v ∷ [])) (nothing_back A B e)))

-- Where none has the name, none of another kind has it.
nothing_same : (z : Object) (a : List Object) → any_of (same_name z) a ≡ false → elsewhere z a ≡ false
unfolding elsewhere any_of same_name
nothing_same z [] e = refl
nothing_same z (y ∷ a) e = go (not (same_kind z.kind y.kind)) (alike y.name z.name) e (λ h. nothing_same z a h)
  where
    go : (k t : Bool) → either t (any_of (same_name z) a) ≡ false → (any_of (same_name z) a ≡ false → elsewhere z a ≡ false) → either (both k t) (elsewhere z a) ≡ false
    go k true h f = absurd (false≢true (sym h))
    go true false h f = f h
    go false false h f = f h

is_at : Found → Bool
is_at (Some i) = true
is_at None = false

none_any : (p : Object → Bool) (i : ℕ) (l : List Object) → first p Some None i l ≡ None → any_of p l ≡ false
unfolding first any_of is_at
none_any p i [] e = refl
none_any p i (y ∷ l) e = go (p y) e (λ h. none_any p (suc i) l h)
  where
    go : (t : Bool) → pick t (Some i) (first p Some None (suc i) l) ≡ None → (first p Some None (suc i) l ≡ None → any_of p l ≡ false) → either t (any_of p l) ≡ false
    go true h f = absurd (false≢true (sym (ap is_at h)))
    go false h f = f h

behind_it : (a : List Object) (w : Object) (b : List Object) → each_name [] (a ++ (w ∷ b)) ≡ [] → faults_if (elsewhere w a) w.name 24 ++ each_name (a ++ (w ∷ [])) b ≡ []
unfolding each_name
behind_it a w b e = nothing_back (each_name [] a) (each_name a (w ∷ b)) (sym (each_name_append [] a (w ∷ b)) ∙ e)

one_more : (z w : Object) (b : List Object) → other z w ≡ false → elsewhere z b ≡ false → elsewhere z (w ∷ b) ≡ false
unfolding elsewhere other
one_more z w b h r = ap₂ either h r

same_other : (z w : Object) → eqb (kind_number z.kind) (kind_number w.kind) ≡ true → other z w ≡ false
unfolding other same_kind
same_other z w q = ap (λ (t : Bool). both (not t) (alike w.name z.name)) q

other_kind : (z w : Object) → eqb (kind_number z.kind) (kind_number w.kind) ≡ false → same_name z w ≡ true → other z w ≡ true
unfolding other same_kind same_name
other_kind z w q h = ap₂ (λ (t u : Bool). both (not t) u) q h

-- By the first part of the name.
by_first : (z : Object) (front a : List Object) (w : Object) (b : List Object) → each_name [] front ≡ [] → front ≡ a ++ (w ∷ b) → same_name z w ≡ true → any_of (same_name z) a ≡ false
    → elsewhere z front ≡ not (eqb (kind_number z.kind) (kind_number w.kind))
by_first z front a w b c e h n = go (eqb (kind_number z.kind) (kind_number w.kind)) refl
  where
    rest : each_name (a ++ (w ∷ [])) b ≡ []
    rest = nothing_back (faults_if (elsewhere w a) w.name 24) (each_name (a ++ (w ∷ [])) b) (behind_it a w b (subst (λ (l : List Object). each_name [] l ≡ []) e c))

    go : (t : Bool) → eqb (kind_number z.kind) (kind_number w.kind) ≡ t → elsewhere z front ≡ not t
    go true q =
        ap (elsewhere z) e ∙ elsewhere_append z a (w ∷ b)
        ∙ ap₂ either (nothing_same z a n) (one_more z w b (same_other z w q) (clear_rest w z a [] b h (eqb-true (kind_number z.kind) (kind_number w.kind) q) rest))
    go false q = ap (elsewhere z) e ∙ elsewhere_at z w a b (other_kind z w q h)

-- The rows -----------------------------------------------------------------------------------------------------------------------------------------

unfoldable is_name : List ℕ → (at len : ℕ) → Object → Bool
is_name s at len y = same (part_of s y.name.place y.name.length) (part_of s at len)

past_cells : (s l : List ℕ) (a k m m2 p n y z : ℕ) → k ≡ 0 → get_or l (a + m) 0 ≡ y → get_or l (a + m2) 0 ≡ z
    → is_named s l a (length l) k m m2 p n ≡ same (part_of s y z) (part_of s p n)
unfolding is_named has_key
past_cells s l a k m m2 p n y z e f g =
    ap₂ both (ap₂ eqb (cell_past l (a + length l) (omega arith)) e ∙ eq-eqb 0 0 refl) (ap₂ (λ (u v : ℕ). same (part_of s u v) (part_of s p n)) f g)

module _ (s p : List ℕ) (f : File) (K : Situation s f) (e : p ≡ kept_parts f) where
  find_by_name : (front rest : List Object) (n key at len : ℕ) → key ≡ 0 → f.parts ≡ front ++ rest → n ≡ length front → n ≤ 513
      → find_named s p 10 n (length p) key 3 at len 0 ≡ first (is_name s at len) Some None 0 front
  unfolding find_named is_name object_cells kept_parts
  find_by_name front rest n key at len e₀ w k h =
      ap (λ (m : ℕ). find_from (λ j. is_named s p (j * 10) (length p) key 3 4 at len) m 0) k
      ∙ seek_all (is_name s at len) (λ j. is_named s p (j * 10) (length p) key 3 4 at len) front (λ a x b g.
      let q = nth_front rest w a x b g in
      let l = below_front front a x b g in
      past_cells s p (length a * 10) key 3 4 at len x.name.place x.name.length e₀
      (row_cell_lem 513 f.parts p (length a) 3 x e q (omega arith) (omega arith))
      (row_cell_lem 513 f.parts p (length a) 4 x e q (omega arith) (omega arith)))

  name_tests : (x : Object) → Good s x.name → (i : ℕ) (l rest : List Object) → Goods s (object_words (l ++ rest))
      → first (is_name s x.name.place x.name.length) Some None i l ≡ first (same_name x) Some None i l
  unfolding first object_words is_name same_name alike
  name_tests x g i [] rest h = refl
  name_tests x g i (y ∷ l) rest h =
      ap₂ (λ (b : Bool) (f : Found). pick b (Some i) f) (ap₂ same (sym h.1.0.read.bytes) (sym g.read.bytes))
      (name_tests x g (suc i) l rest (good_back s (statement_words y.statements) (object_words (l ++ rest)) h.1.1))

  name_row : (j : ℕ) (front : List Object) (z : Object) (rest : List Object) → f.parts ≡ front ++ (z ∷ rest) → length front ≡ j → j < 513
      → first_row (length p) s p j ≡ row_or j (first (same_name z) Some None 0 front)
  unfolding first_row kept_parts object_cells
  name_row j front z rest w l h =
      let q : Nth f.parts j z = record { front = front; rest = rest; whole = w; place = l } in
      let g : Goods s (object_words (front ++ (z ∷ rest))) = subst (λ (os : List Object). Goods s (object_words os)) w (part_good s f (whole K).good) in
      let c₃ : get_or p (j * 10 + 3) 0 ≡ z.name.place = row_cell_lem 513 f.parts p j 3 z e q h (omega arith) in
      let c₄ : get_or p (j * 10 + 4) 0 ≡ z.name.length = row_cell_lem 513 f.parts p j 4 z e q h (omega arith) in
      ap (row_or j)
      (ap₂ (λ (a b : ℕ). find_named s p 10 j (length p) (get_or p (j * 10 + length p) 0) 3 a b 0) c₃ c₄
      ∙ find_by_name front (z ∷ rest) j (get_or p (j * 10 + length p) 0) z.name.place z.name.length (cell_past p (j * 10 + length p) (omega arith)) w (sym l) (omega arith)
      ∙ name_tests z (good_name s front z rest g) 0 front (z ∷ rest) g)

  kind_in : (j : ℕ) (z : Object) → Nth f.parts j z → j < 513 → get_or p (j * 10 + 0) 0 ≡ kind_number z.kind
  unfolding kept_parts object_cells
  kind_in j z q h = row_cell_lem 513 f.parts p j 0 z e q h (omega arith)

  -- The kinds of a part and of the first part with its name.
  kinds_tell : (j i : ℕ) (front : List Object) (z : Object) (rest : List Object) → f.parts ≡ front ++ (z ∷ rest) → length front ≡ j → j < 513 → each_name [] front ≡ []
      → i ≡ first_row (length p) s p j → elsewhere z front ≡ not (eqb (get_or p (j * 10 + 0) 0) (get_or p (i * 10 + 0) 0))
  unfolding row_or kept_parts object_cells
  kinds_tell j i front z rest w l h c r = go (first (same_name z) Some None 0 front) refl (r ∙ name_row j front z rest w l h)
    where
      own : get_or p (j * 10 + 0) 0 ≡ kind_number z.kind
      own = kind_in j z (record { front = front; rest = rest; whole = w; place = l }) h

      go : (u : Found) → first (same_name z) Some None 0 front ≡ u → i ≡ row_or j u → elsewhere z front ≡ not (eqb (get_or p (j * 10 + 0) 0) (get_or p (i * 10 + 0) 0))
      go (Some k) q m =
          let o = first_is (same_name z) 0 front k q in
          let pl = o.place in
          let a : length front ≡ length (o.front ++ (o.row ∷ o.rest)) = ap (λ (v : List Object). length v) o.whole in
          let b = length-append o.front (o.row ∷ o.rest) in
          let n : Nth f.parts i o.row = record { front = o.front; rest = o.rest ++ (z ∷ rest); whole = w ∙ ap (λ (v : List Object). v ++ (z ∷ rest)) o.whole ∙ append_assoc o.front (o.row ∷ o.rest) (z ∷ rest); place = omega (arith, pl, m) } in
          by_first z front o.front o.row o.rest c o.whole o.holds o.fails
          ∙ sym (ap₂ (λ (x y : ℕ). not (eqb x y)) own (kind_in i o.row n (omega (arith, pl, m, a, b, l))))
      go None q m =
          nothing_same z front (none_any (same_name z) 0 front q)
          ∙ sym (ap (λ (v : ℕ). not (eqb (get_or p (j * 10 + 0) 0) (get_or p (v * 10 + 0) 0))) m ∙ ap not (eq-eqb (get_or p (j * 10 + 0) 0) (get_or p (j * 10 + 0) 0) refl))

-- The turns of the loop ----------------------------------------------------------------------------------------------------------------------------

pub clear_start : (f : File) → Unclashed f 0
unfolding each_name
clear_start f = record { front = []; rest = f.parts; whole = refl; place = refl; clear = refl }

record Then (front rest : List Object) : Type 0 where
  part : Object
  more : List Object
  is : rest ≡ part ∷ more

then_some : (front rest : List Object) → 0 < length rest → Then front rest
then_some front [] h = absurd (omega arith)
then_some front (z ∷ rest) h = record { part = z; more = rest; is = refl }

module _ {s p y : List ℕ} {n : ℕ} {f : File} (N : Titled s p y n f) {j : ℕ} (h : j < n) (U : Unclashed f j) where
  next : Then U.front U.rest
  next =
      let a : length f.parts ≡ length (U.front ++ U.rest) = ap (λ (v : List Object). length v) U.whole in
      let b = length-append U.front U.rest in
      let c = U.place in
      let d = N.inside in
      then_some U.front U.rest (omega arith)

  parts_are : f.parts ≡ U.front ++ (next.part ∷ next.more)
  parts_are = U.whole ∙ ap (λ (v : List Object). U.front ++ v) next.is

  tells_it : (i : ℕ) → i ≡ get_or y j 0 → elsewhere next.part U.front ≡ not (eqb (get_or p (j * 10 + 0) 0) (get_or p (i * 10 + 0) 0))
  tells_it i e =
      let a = N.few in
      kinds_tell s p f N.situation N.in_parts j i U.front next.part next.more parts_are U.place (omega arith) U.clear (e ∙ N.firsts j h)

  pub name_clash : (i k b place : ℕ) → i ≡ get_or y j 0 → k ≡ get_or p (j * 10 + 0) 0 → b ≡ get_or p (i * 10 + 0) 0 → (k ≡ b → ⊥) → place ≡ get_or p (j * 10 + 3) 0
      → Clashes f n (Some (record { number = 24; place = place }))
  unfolding kept_parts object_cells
  name_clash i k b place e₁ e₂ e₃ g e₄ =
      let a = N.few in
      let q : Nth f.parts j next.part = record { front = U.front; rest = next.more; whole = parts_are; place = U.place } in
      clash U.front next.part next.more parts_are U.clear
      (tells_it i e₁ ∙ ap not (ap₂ eqb (sym e₂) (sym e₃) ∙ ne_eqb k b g))
      (ap (λ (v : ℕ). Some (record { number = 24; place = v })) (e₄ ∙ row_cell_lem 513 f.parts p j 3 next.part N.in_parts q (omega arith) (omega arith)))

  pub name_clear : (i k b : ℕ) → i ≡ get_or y j 0 → k ≡ get_or p (j * 10 + 0) 0 → b ≡ get_or p (i * 10 + 0) 0 → k ≡ b → Unclashed f (j + 1)
  unfolding each_name faults_if
  name_clear i k b e₁ e₂ e₃ g =
      let z = next.part in
      let t : elsewhere z U.front ≡ false = tells_it i e₁ ∙ ap not (ap₂ eqb (sym e₂) (sym e₃) ∙ eq-eqb k b g) in
      let c = U.place in
      let l = length-append U.front (z ∷ []) in
      record {
        front = U.front ++ (z ∷ []);
        rest = next.more;
        whole = parts_are ∙ sym (append_assoc U.front (z ∷ []) next.more);
        place = omega arith;
        clear = each_name_append [] U.front (z ∷ []) ∙ ap₂ ◌++◌ U.clear (ap (λ (b : Bool). faults_if b z.name 24 ++ []) t);
      }

pub clear_end : {f : File} {j n : ℕ} → j ≤ n → n ≤ j → Unclashed f j → Clashes f n None
clear_end {f} {j} {n} h g U = let e : j ≡ n = omega arith in no_clash (subst (Unclashed f) e U) refl
