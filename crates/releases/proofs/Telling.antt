-- The records of two texts, object by object. Assumes nothing.
use mathlib.Core.Path.{◌≡◌, refl, sym, ◌∙◌, ap, ap₂, subst}
use mathlib.Core.List.{List, [], ◌∷◌, ◌++◌, append_assoc, append-nil}
use mathlib.Core.Bool.{Bool, true, false}
use mathlib.Core.Option.{Option, none, some}
use Prim.Native.Nat.{ℕ, zero, suc, ◌+◌, ◌-◌, ◌<◌, ◌≤◌, min}
use native.Mathlib.Omega.{arith}
use lib.ListN.{length, get_or, length-append}
use Rattle.token.specs.Find.{pick, is_there}
use Rattle.rows.specs.Search.{find_from}
use Rattle.rows.specs.Found.{Found as Row}
use Rattle.std.specs.Prelude.{Some, None}
use Rattle.indexes.specs.Indexing.{Indexed, Makes, has_word, FindsWord}
use Rattle.meaning.specs.Syntax.{File}
use Rattle.meaning.specs.Words.{choose}
use Rattle.meaning.specs.Kinds.{kind_number}
use Rattle.meaning.specs.Resolving.{how_many_values}
use Rattle.scopes.specs.Situations.{Nth}
use Rattle.comparing.specs.Lists.{the_first, each_of}
use Rattle.comparing.specs.Contents.{Content, contents, same_object}
use Rattle.comparing.specs.Differences.{Difference, object_in_second, of_pair, matched, of_first_object, of_second_object, of_contents, differences, records_of, record_of}
use Rattle.comparing.specs.Objecting.{FindsObject}
use Rattle.comparing.specs.Naming.{Index}
use Rattle.comparing.specs.Columns.{Holds, name_of}
use Rattle.comparing.specs.Gathered.{Told, ToldMore, ToldAlso, pair_partners, pair_records}
use Rattle.comparing.specs.Standing.{ObjectIs, ObjectsAt, some_objects}
use Rattle.comparing.specs.declared.Difference.{Difference as Record}
use Rattle.comparing.specs.declared.Found.{Found}
use Rattle.comparing.proofs.Alikes.{keyed_flip, object_keyed}
use Rattle.comparing.proofs.Hits.{Hit, no_hit, a_hit, object_hit}
use Rattle.comparing.proofs.Recorded.{records_append}
use Rattle.comparing.proofs.Pairing.{also_none, also_then}
use Rattle.comparing.proofs.Closings.{pair_asked}
use Rattle.releases.specs.Starts.{start_at, one_more, first_row, many_rows}
use Rattle.releases.specs.Settings.{Located, AllLocated, more_located, Scene, Setting}
use Rattle.releases.specs.Promises.{pair_at, ObjectTold, FirstTold, ObjectAdded, SecondTold, BothTold, Fitting, Prepares, NamedTold, PreparedTold, DifferencesTold}

-- Places in lists --------------------------------------------------------------------------------------------------------------------------

-- x is one of a list.
pub data One (x : Content) : List Content → Type 0 where
  this_one : {xs : List Content} → One x (x ∷ xs)
  later_one : {y : Content} {xs : List Content} → One x xs → One x (y ∷ xs)

pub found_one : (t : Content → Bool) (xs : List Content) (x : Content) → the_first t xs ≡ some x → One x xs
unfolding the_first
found_one t [] x e = absurd (let z : ◌≡◌ {A = ℕ} 0 1 = cc in omega arith)
found_one t (y ∷ xs) x e = by (t y) (λ q. found_one t xs x q) e
  where
    by : (b : Bool) → (the_first t xs ≡ some x → One x xs) → pick b (some y) (the_first t xs) ≡ some x → One x (y ∷ xs)
    by true h q = let z : y ≡ x = cc in subst (λ (w : Content). One w (y ∷ xs)) z this_one
    by false h q = later_one (h q)

one_append : (x : Content) (a b : List Content) → One x b → One x (a ++ b)
one_append x [] b h = h
one_append x (y ∷ a) b h = later_one (one_append x a b h)

nth_one : {l : List Content} {i : ℕ} {x : Content} → Nth l i x → One x l
nth_one {l} {i} {x} n = subst (One x) (sym n.whole) (one_append x n.front (x ∷ n.rest) this_one)

pub one_located : {s d o v : List ℕ} {n many : ℕ} {x : Content} {xs : List Content} → One x xs → AllLocated s d o v n many xs → Located s d o v n many x
one_located this_one (more_located a b) = a
one_located (later_one h) (more_located a b) = one_located h b

objects_append : (s o : List ℕ) (k : ℕ) (a : List Content) (x : Content) (b : List Content) → ObjectsAt s o k (a ++ (x ∷ b)) → ObjectIs s o (k + length a) x
objects_append s o k [] x b (some_objects h t) = let e : k ≡ k + 0 = omega arith in subst (λ (i : ℕ). ObjectIs s o i x) e h
objects_append s o k (y ∷ a) x b (some_objects h t) =
    let e : (k + 1) + length a ≡ k + suc (length a) = omega arith in subst (λ (i : ℕ). ObjectIs s o i x) e (objects_append s o (k + 1) a x b t)

objects_nth : {s o : List ℕ} {xs : List Content} {i : ℕ} {x : Content} → ObjectsAt s o 0 xs → Nth xs i x → ObjectIs s o i x
objects_nth {s} {o} {xs} {i} {x} h n =
    let p = n.place in
    let e : 0 + length n.front ≡ i = omega (arith, p) in
    subst (λ (j : ℕ). ObjectIs s o j x) e (objects_append s o 0 n.front x n.rest (subst (ObjectsAt s o 0) n.whole h))

one_row : {s o : List ℕ} {x : Content} {k : ℕ} {xs : List Content} → One x xs → ObjectsAt s o k xs → x.object.row < k + length xs
one_row this_one (some_objects h t) = let e = h.row in omega (arith, e)
one_row {s = s} {o = o} {x = x} {k = k} (later_one {y = y} {xs = xs} a) (some_objects h t) = let r = one_row {k = k + 1} a t in omega (arith, r)

nth_low : {xs : List Content} {i : ℕ} {x : Content} → Nth xs i x → i < length xs
nth_low {xs} {i} {x} n =
    let a = n.place in
    let b = ap length n.whole in
    let c = length-append n.front (x ∷ n.rest) in
    omega (arith, a, b, c)

-- What was found ---------------------------------------------------------------------------------------------------------------------------

record HitAt (c : Option Content) (j : ℕ) : Type 0 where
  content : Content
  is : c ≡ some content
  row : content.object.row ≡ j

hit_none : {c : Option Content} {r : Row} → Hit c r → r ≡ None → c ≡ none
hit_none no_hit e = refl
hit_none (a_hit y) e = absurd (let z : ◌≡◌ {A = ℕ} 0 1 = cc in omega arith)

hit_some : {c : Option Content} {r : Row} → Hit c r → (j : ℕ) → r ≡ Some j → HitAt c j
hit_some no_hit j e = absurd (let z : ◌≡◌ {A = ℕ} 0 1 = cc in omega arith)
hit_some (a_hit y) j e = record { content = y; is = refl; row = cc }

hits : (s o s2 o2 y2 : List ℕ) (i m2 : ℕ) (x : Content) (ys : List Content) (r : Row) → ObjectIs s o i x → ObjectsAt s2 o2 0 ys → m2 ≡ length ys → m2 ≤ 256 → Indexed s2 o2 8 (length y2) 0 3 y2
    → length y2 ≡ m2 → FindsObject s o i s2 o2 y2 r → Hit (the_first (same_object x) ys) r
unfolding FindsObject FindsWord
hits s o s2 o2 y2 i m2 x ys r own at count few index long finds =
    let e : r ≡ find_from (has_word s2 o2 8 0 (kind_number x.object.kind) 3 x.object.name.bytes) m2 0 =
    finds (length y2) index (omega (arith, long, few))
    ∙ ap₂ (λ (k : ℕ) (l : List ℕ). find_from (has_word s2 o2 8 0 k 3 l) (length y2) 0) own.kind own.name
    ∙ ap (λ (n : ℕ). find_from (has_word s2 o2 8 0 (kind_number x.object.kind) 3 x.object.name.bytes) n 0) long in
    subst (Hit (the_first (same_object x) ys)) (sym e) (object_hit s2 o2 x m2 0 ys (omega (arith, count)) at)

-- The same test from the other side.
first_flip : (y : Content) (xs : List Content) → the_first (same_object y) xs ≡ the_first (λ x. same_object x y) xs
unfolding the_first
first_flip y [] = refl
first_flip y (x ∷ xs) = ap₂ (λ (b : Bool) (r : Option Content). pick b (some x) r) (keyed_flip object_keyed y x) (first_flip y xs)

-- A pair -----------------------------------------------------------------------------------------------------------------------------------

module _ (st v : List ℕ) (n i k c : ℕ) (h : Holds (start_at v n) (length st) st) (inside : suc i < length st) (low : i < 256) (a : start_at v n i ≡ k) (b : start_at v n (suc i) ≡ k + c)
    (few : k + c ≤ 2048) where
  one_is : one_more i ≡ suc i
  unfolding one_more
  one_is = let z : min 65536 (i + 1) ≡ suc i = omega (arith, low) in z

  least : (p : ℕ) → p ≤ 2048 → min p 2048 ≡ p
  least p q = omega arith

  row_is : first_row st i ≡ k
  unfolding first_row
  row_is = ap (λ (p : ℕ). min p 2048) (h.cell i (omega (arith, inside)) ∙ a) ∙ least k (omega (arith, few))

  next_is : first_row st (one_more i) ≡ k + c
  unfolding first_row
  next_is = ap (λ (j : ℕ). min (get_or st j 0) 2048) one_is ∙ ap (λ (p : ℕ). min p 2048) (h.cell (suc i) inside ∙ b) ∙ least (k + c) few

  many_is : many_rows st i ≡ c
  unfolding many_rows
  many_is = ap₂ (λ (p q : ℕ). p - q) next_is row_is ∙ less
    where
      less : (k + c) - k ≡ c
      less = omega arith

module _ {s d o v h y st s2 d2 o2 v2 h2 y2 st2 : List ℕ} {m m2 : ℕ} {f g : File} (S : Setting s d o v h y st s2 d2 o2 v2 h2 y2 st2 m m2 f g) where
  pub pair_told : (x w : Content) (i j : ℕ) → x.object.row ≡ i → w.object.row ≡ j → Located s d o v S.n (length S.x) x → Located s2 d2 o2 v2 S.n2 (length S.x2) w → i < m → j < m2
      → pair_at s d v h st s2 d2 v2 h2 st2 i j ≡ records_of (of_pair x w)
  unfolding pair_at
  pair_told x w i j e e2 a b in1 in2 =
      let r = a.rows in
      let r2 = b.rows in
      let q = a.few in
      let q2 = b.few in
      let l = S.started in
      let l2 = S.started2 in
      let low : i < 256 = subst (λ (z : ℕ). z < 256) e a.low in
      let low2 : j < 256 = subst (λ (z : ℕ). z < 256) e2 b.low in
      let s1 : start_at v S.n i ≡ a.from = ap (start_at v S.n) (sym e) ∙ a.starts in
      let t1 : start_at v S.n (suc i) ≡ a.from + how_many_values r = ap (λ (z : ℕ). start_at v S.n (suc z)) (sym e) ∙ a.ends in
      let s3 : start_at v2 S.n2 j ≡ b.from = ap (start_at v2 S.n2) (sym e2) ∙ b.starts in
      let t3 : start_at v2 S.n2 (suc j) ≡ b.from + how_many_values r2 = ap (λ (z : ℕ). start_at v2 S.n2 (suc z)) (sym e2) ∙ b.ends in
      let i1 : suc i < length st = omega (arith, l, in1) in
      let i2 : suc j < length st2 = omega (arith, l2, in2) in
      let R = row_is st v S.n i a.from (how_many_values r) S.made.starts i1 low s1 t1 a.few in
      let M = many_is st v S.n i a.from (how_many_values r) S.made.starts i1 low s1 t1 a.few in
      let R2 = row_is st2 v2 S.n2 j b.from (how_many_values r2) S.made2.starts i2 low2 s3 t3 b.few in
      let M2 = many_is st2 v2 S.n2 j b.from (how_many_values r2) S.made2.starts i2 low2 s3 t3 b.few in
      let O : one_more i ≡ suc x.object.row = one_is st v S.n i a.from (how_many_values r) S.made.starts i1 low s1 t1 a.few ∙ ap suc (sym e) in
      let O2 : one_more j ≡ suc w.object.row = one_is st2 v2 S.n2 j b.from (how_many_values r2) S.made2.starts i2 low2 s3 t3 b.few ∙ ap suc (sym e2) in
      (λ t. pair_records s d v s2 d2 v2 (pair_partners d v h (R t) (M t) d2 v2 h2 (R2 t) (M2 t)) (R t) (M t) (R2 t) (O t) (O2 t))
      ∙ pair_asked s d S.x s2 d2 S.x2 v v2 h h2 x.object w.object r r2 a.from b.from x.object.row w.object.row
      (record { name = x.object.name; list = false; position = 0 }) S.first.bytes S.second.bytes S.first.short S.second.short S.made.definitions S.made2.definitions S.first.cells S.second.cells
      S.names S.names2 a.tree b.tree (omega (arith, q)) (omega (arith, q2))
      ∙ (λ t. records_of (of_pair (record { object = x.object; values = sym a.values t }) (record { object = w.object; values = sym b.values t })))

  -- Object i of the first text.
  module _ (x : Content) (i : ℕ) (N : Nth (contents f) i x) where
    own : ObjectIs s o i x
    own = objects_nth S.first.objects N

    inside : i < m
    inside = let a = nth_low N in let b = S.first.count in omega (arith, a, b)

    hit : (r : Row) → FindsObject s o i s2 o2 y2 r → Hit (the_first (same_object x) (contents g)) r
    hit r t = hits s o s2 o2 y2 i m2 x (contents g) r own S.second.objects S.second.count S.second.few S.made2.objects S.indexed2 t

    pub object_paired : (r : Row) (j : ℕ) (found q : Found) → FindsObject s o i s2 o2 y2 r → r ≡ Some j → ToldAlso found (pair_at s d v h st s2 d2 v2 h2 st2 i j) q
        → ToldAlso found (records_of (of_first_object (contents g) x)) q
    unfolding of_first_object matched
    object_paired r j found q t e told =
        let H = hit_some (hit r t) j e in
        let w = H.content in
        let one = found_one (same_object x) (contents g) w H.is in
        let L = one_located one S.second.located in
        let K = one_located (nth_one N) S.first.located in
        let long = S.second.count in
        let below = one_row one S.second.objects in
        let here = H.row in
        let low : j < m2 = omega (arith, below, here, long) in
        subst (λ (l : List Record). ToldAlso found l q)
        (pair_told x w i j own.row H.row K L inside low ∙ ap (λ (c : Option Content). records_of (matched x c)) (sym H.is)) told

    pub object_alone : (r : Row) (n : ℕ) (found q : Found) → FindsObject s o i s2 o2 y2 r → r ≡ None → n ≡ one_more i
        → ToldMore found (record { first_object = n; second_object = 0; first_value = 0; second_value = 0 }) q → ToldAlso found (records_of (of_first_object (contents g) x)) q
    unfolding of_first_object matched records_of record_of one_more
    object_alone r n found q t e k told ds p =
        let a = inside in
        let b = S.first.few in
        let c = own.row in
        let z : n ≡ suc x.object.row = let u : min 65536 (i + 1) ≡ suc x.object.row = omega (arith, a, b, c) in k ∙ u in
        subst (λ (l : List Record). Told (ds ++ l) q)
        (ap (λ (u : ℕ). record { first_object = u; second_object = 0; first_value = 0; second_value = 0 } ∷ []) z
        ∙ ap (λ (c : Option Content). records_of (matched x c)) (sym (hit_none (hit r t) e))) (told ds p)

  -- Object j of the second text.
  module _ (x : Content) (j : ℕ) (N : Nth (contents g) j x) where
    own2 : ObjectIs s2 o2 j x
    own2 = objects_nth S.second.objects N

    inside2 : j < m2
    inside2 = let a = nth_low N in let b = S.second.count in omega (arith, a, b)

    hit2 : (r : Row) → FindsObject s2 o2 j s o y r → Hit (the_first (λ w. same_object w x) (contents f)) r
    hit2 r t =
        subst (λ (c : Option Content). Hit c r) (first_flip x (contents f))
        (hits s2 o2 s o y j m x (contents f) r own2 S.first.objects S.first.count S.first.few S.made.objects S.indexed t)

    pub added_not : (r : Row) (k : ℕ) (found : Found) → FindsObject s2 o2 j s o y r → r ≡ Some k → ToldAlso found (records_of (of_second_object (contents f) x)) found
    unfolding of_second_object records_of is_there choose
    added_not r k found t e ds p =
        let H = hit_some (hit2 r t) k e in
        subst (λ (l : List Record). Told (ds ++ l) found)
        (ap (λ (c : Option Content). records_of (choose (is_there c) (λ _. []) (λ _. object_in_second x.object ∷ []))) (sym H.is)) (also_none found ds p)

    pub added_alone : (r : Row) (n : ℕ) (found q : Found) → FindsObject s2 o2 j s o y r → r ≡ None → n ≡ one_more j
        → ToldMore found (record { first_object = 0; second_object = n; first_value = 0; second_value = 0 }) q → ToldAlso found (records_of (of_second_object (contents f) x)) q
    unfolding of_second_object records_of record_of is_there choose one_more
    added_alone r n found q t e k told ds p =
        let a = inside2 in
        let b = S.second.few in
        let c = own2.row in
        let z : n ≡ suc x.object.row = let u : min 65536 (j + 1) ≡ suc x.object.row = omega (arith, a, b, c) in k ∙ u in
        subst (λ (l : List Record). Told (ds ++ l) q)
        (ap (λ (u : ℕ). record { first_object = 0; second_object = u; first_value = 0; second_value = 0 } ∷ []) z
        ∙ ap (λ (c : Option Content). records_of (choose (is_there c) (λ _. []) (λ _. object_in_second x.object ∷ []))) (sym (hit_none (hit2 r t) e))) (told ds p)

-- All objects ------------------------------------------------------------------------------------------------------------------------------

each_append : (F : Content → List Difference) (a b : List Content) → each_of F (a ++ b) ≡ each_of F a ++ each_of F b
unfolding each_of
each_append F [] b = refl
each_append F (x ∷ a) b = ap (λ (l : List Difference). F x ++ l) (each_append F a b) ∙ sym (append_assoc (F x) (each_of F a) (each_of F b))

record Snoc (l : List Content) (i : ℕ) : Type 0 where
  front : List Content
  last : Content
  is : l ≡ front ++ (last ∷ [])
  long : length front ≡ i

snoc : (l : List Content) (i : ℕ) → length l ≡ suc i → Snoc l i
snoc [] i e = absurd (omega (arith, e))
snoc (x ∷ []) i e = record { front = []; last = x; is = refl; long = omega (arith, e) }
snoc (x ∷ z ∷ l) zero e = absurd (omega (arith, e))
snoc (x ∷ z ∷ l) (suc i) e =
    let r = snoc (z ∷ l) i (omega (arith, e)) in
    let k = r.long in
    record { front = x ∷ r.front; last = r.last; is = ap (λ (u : List Content). x ∷ u) r.is; long = omega (arith, k) }

-- The records of the first i contents of cs, by F, were told.
abbrev pub ToldSo : (F : Content → List Difference) (cs : List Content) (i : ℕ) (found all : Found) → Type 0
ToldSo F cs i found all = (front rest : List Content) → cs ≡ front ++ rest → length front ≡ i → ToldAlso found (records_of (each_of F front)) all

module _ (F : Content → List Difference) (cs : List Content) (found : Found) where
  pub so_none : ToldSo F cs 0 found found
  unfolding each_of records_of
  so_none [] rest e l = also_none found
  so_none (x ∷ front) rest e l = absurd (omega (arith, l))

  pub so_next : (i : ℕ) (all next : Found) → ToldSo F cs i found all → ((x : Content) → Nth cs i x → ToldAlso all (records_of (F x)) next) → ToldSo F cs (i + 1) found next
  unfolding each_of
  so_next i all next h k front rest e l =
      let r = snoc front i (omega (arith, l)) in
      let whole : cs ≡ r.front ++ (r.last ∷ rest) = e ∙ ap (λ (u : List Content). u ++ rest) r.is ∙ append_assoc r.front (r.last ∷ []) rest in
      let told = also_then found all next (records_of (each_of F r.front)) (records_of (F r.last)) (h r.front (r.last ∷ rest) whole r.long)
      (k r.last (record { front = r.front; rest = rest; whole = whole; place = r.long })) in
      subst (λ (u : List Record). ToldAlso found u next)
      (sym (ap (λ (u : List Content). records_of (each_of F u)) r.is ∙ ap records_of (each_append F r.front (r.last ∷ []) ∙ ap (λ (u : List Difference). each_of F r.front ++ u) (append-nil (F r.last)))
      ∙ records_append (each_of F r.front) (F r.last))) told

  pub so_all : (i : ℕ) (all : Found) → ToldSo F cs i found all → i ≡ length cs → ToldAlso found (records_of (each_of F cs)) all
  so_all i all h e = h cs [] (sym (append-nil cs)) (sym e)

-- Both.
pub both_told : (s d o v h y st s2 d2 o2 v2 h2 y2 st2 : List ℕ) (m m2 : ℕ) (found all q : Found) → FirstTold s d o v h st s2 d2 o2 v2 h2 y2 st2 m found all → SecondTold s o y s2 o2 m2 all q
    → BothTold s d o v h y st s2 d2 o2 v2 h2 y2 st2 m m2 found q
unfolding differences of_contents
both_told s d o v h y st s2 d2 o2 v2 h2 y2 st2 m m2 found all q a b f g S =
    subst (λ (l : List Record). ToldAlso found l q)
    (sym (records_append (each_of (of_first_object (contents g)) (contents f)) (each_of (of_second_object (contents f)) (contents g))))
    (also_then found all q (records_of (each_of (of_first_object (contents g)) (contents f))) (records_of (each_of (of_second_object (contents f)) (contents g)))
    (a y m2 f g S) (b d v h st d2 v2 h2 y2 st2 m f g S))

-- The loops --------------------------------------------------------------------------------------------------------------------------------

-- The first i objects of the first text were told.
pub record FirstGoing (s d o v h st s2 d2 o2 v2 h2 y2 st2 : List ℕ) (m : ℕ) (found all : Found) (i : ℕ) : Type 0 where
  pub inside : i ≤ m
  pub told : (y : List ℕ) (m2 : ℕ) (f g : File) → Setting s d o v h y st s2 d2 o2 v2 h2 y2 st2 m m2 f g → ToldSo (of_first_object (contents g)) (contents f) i found all

module _ (s d o v h st s2 d2 o2 v2 h2 y2 st2 : List ℕ) (m : ℕ) (found : Found) where
  pub first_start : FirstGoing s d o v h st s2 d2 o2 v2 h2 y2 st2 m found found 0
  first_start = record { inside = omega arith; told = λ y m2 f g S. so_none (of_first_object (contents g)) (contents f) found }

  pub first_next : (all next : Found) (i : ℕ) → FirstGoing s d o v h st s2 d2 o2 v2 h2 y2 st2 m found all i → i < m → ObjectTold s d o v h st s2 d2 o2 v2 h2 y2 st2 i all next
      → FirstGoing s d o v h st s2 d2 o2 v2 h2 y2 st2 m found next (i + 1)
  first_next all next i G l t = record {
    inside = omega (arith, l);
    told = λ y m2 f g S. so_next (of_first_object (contents g)) (contents f) found i all next (G.told y m2 f g S) (λ x n. t y m m2 f g S x n);
  }

  pub first_end : (all : Found) (i : ℕ) → FirstGoing s d o v h st s2 d2 o2 v2 h2 y2 st2 m found all i → m ≤ i → FirstTold s d o v h st s2 d2 o2 v2 h2 y2 st2 m found all
  first_end all i G l y m2 f g S =
      let a = G.inside in
      let c = S.first.count in
      so_all (of_first_object (contents g)) (contents f) found i all (G.told y m2 f g S) (omega (arith, a, l, c))

-- The first j objects of the second text were told.
pub record SecondGoing (s o y s2 o2 : List ℕ) (m2 : ℕ) (found all : Found) (j : ℕ) : Type 0 where
  pub inside : j ≤ m2
  pub told : (d v h st d2 v2 h2 y2 st2 : List ℕ) (m : ℕ) (f g : File) → Setting s d o v h y st s2 d2 o2 v2 h2 y2 st2 m m2 f g
      → ToldSo (of_second_object (contents f)) (contents g) j found all

module _ (s o y s2 o2 : List ℕ) (m2 : ℕ) (found : Found) where
  pub second_start : SecondGoing s o y s2 o2 m2 found found 0
  second_start = record { inside = omega arith; told = λ d v h st d2 v2 h2 y2 st2 m f g S. so_none (of_second_object (contents f)) (contents g) found }

  pub second_next : (all next : Found) (j : ℕ) → SecondGoing s o y s2 o2 m2 found all j → j < m2 → ObjectAdded s o y s2 o2 j all next → SecondGoing s o y s2 o2 m2 found next (j + 1)
  second_next all next j G l t = record {
    inside = omega (arith, l);
    told = λ d v h st d2 v2 h2 y2 st2 m f g S.
        so_next (of_second_object (contents f)) (contents g) found j all next (G.told d v h st d2 v2 h2 y2 st2 m f g S) (λ x n. t d v h st d2 v2 h2 y2 st2 m m2 f g S x n);
  }

  pub second_end : (all : Found) (j : ℕ) → SecondGoing s o y s2 o2 m2 found all j → m2 ≤ j → SecondTold s o y s2 o2 m2 found all
  second_end all j G l d v h st d2 v2 h2 y2 st2 m f g S =
      let a = G.inside in
      let c = S.second.count in
      so_all (of_second_object (contents f)) (contents g) found j all (G.told d v h st d2 v2 h2 y2 st2 m f g S) (omega (arith, a, l, c))

-- One object, by the cases of what was found.
pub object_at : (s d o v h st s2 d2 o2 v2 h2 y2 st2 : List ℕ) (i j : ℕ) (r : Row) (found q : Found) → FindsObject s o i s2 o2 y2 r → r ≡ Some j
    → ToldAlso found (pair_at s d v h st s2 d2 v2 h2 st2 i j) q → ObjectTold s d o v h st s2 d2 o2 v2 h2 y2 st2 i found q
object_at s d o v h st s2 d2 o2 v2 h2 y2 st2 i j r found q t e told y m m2 f g S x n = object_paired S x i n r j found q t e told

pub object_not : (s d o v h st s2 d2 o2 v2 h2 y2 st2 : List ℕ) (i k : ℕ) (r : Row) (found q : Found) → FindsObject s o i s2 o2 y2 r → r ≡ None → k ≡ one_more i
    → ToldMore found (record { first_object = k; second_object = 0; first_value = 0; second_value = 0 }) q → ObjectTold s d o v h st s2 d2 o2 v2 h2 y2 st2 i found q
object_not s d o v h st s2 d2 o2 v2 h2 y2 st2 i k r found q t e z told y m m2 f g S x n = object_alone S x i n r k found q t e z told

pub added_at : (s o y s2 o2 : List ℕ) (j k : ℕ) (r : Row) (found : Found) → FindsObject s2 o2 j s o y r → r ≡ Some k → ObjectAdded s o y s2 o2 j found found
added_at s o y s2 o2 j k r found t e d v h st d2 v2 h2 y2 st2 m m2 f g S x n = added_not S x j n r k found t e

pub added_new : (s o y s2 o2 : List ℕ) (j k : ℕ) (r : Row) (found q : Found) → FindsObject s2 o2 j s o y r → r ≡ None → k ≡ one_more j
    → ToldMore found (record { first_object = 0; second_object = k; first_value = 0; second_value = 0 }) q → ObjectAdded s o y s2 o2 j found q
added_new s o y s2 o2 j k r found q t e z told d v h st d2 v2 h2 y2 st2 m m2 f g S x n = added_alone S x j n r k found q t e z told

-- A pair by its rows.
pub pair_at_rows : (s d v h st s2 d2 v2 h2 st2 : List ℕ) (i j r n r2 n2 x y : ℕ) (found q : Found) → r ≡ first_row st i → n ≡ many_rows st i → r2 ≡ first_row st2 j → n2 ≡ many_rows st2 j
    → x ≡ one_more i → y ≡ one_more j → ToldAlso found (pair_records s d v s2 d2 v2 (pair_partners d v h r n d2 v2 h2 r2 n2) r n r2 x y) q
    → ToldAlso found (pair_at s d v h st s2 d2 v2 h2 st2 i j) q
unfolding pair_at
pair_at_rows s d v h st s2 d2 v2 h2 st2 i j r n r2 n2 x y found q a b a2 b2 e e2 =
    subst (λ (l : List Record). ToldAlso found l q) (λ t. pair_records s d v s2 d2 v2 (pair_partners d v h (a t) (b t) d2 v2 h2 (a2 t) (b2 t)) (a t) (b t) (a2 t) (e t) (e2 t))

pub few_rows : (st : List ℕ) (i n : ℕ) → n ≡ many_rows st i → n ≤ 2048
unfolding many_rows first_row
few_rows st i n e = let z : n ≡ min (get_or st (one_more i) 0) 2048 - min (get_or st i 0) 2048 = e in omega (arith, z)

pub low_row : (st : List ℕ) (i n : ℕ) → n ≡ first_row st i → n ≤ 2048
unfolding first_row
low_row st i n e = let z : n ≡ min (get_or st i 0) 2048 = e in omega (arith, z)

-- What is made -----------------------------------------------------------------------------------------------------------------------------

pub made : (s d o v : List ℕ) (n lx ly room room2 : ℕ) (x y st : List ℕ) → room ≡ 256 → room2 ≡ 256 → Makes s d 13 lx 0 2 room x → length x ≡ lx → Makes s o 8 ly 0 3 room2 y → length y ≡ ly
    → Holds (start_at v n) (length st) st → Prepares s d o v n lx ly x y st
unfolding Makes
made s d o v n lx ly room room2 x y st e e2 a l b k h few low =
    record {
      definitions = record { index = subst (λ (z : ℕ). Indexed s d 13 z 0 2 x) (sym l) (a (omega (arith, e, few))); few = omega (arith, l, few) };
      objects = subst (λ (z : ℕ). Indexed s o 8 z 0 3 y) (sym k) (b (omega (arith, e2, low)));
      starts = h;
    }

pub fitting : (n n2 m m2 : ℕ) (x x2 y y2 : List ℕ) → n ≡ length x → n2 ≡ length x2 → m ≡ length y → m2 ≡ length y2 → n ≤ 512 → n2 ≤ 512 → m ≤ 256 → m2 ≤ 256 → Fitting x x2 y y2
fitting n n2 m m2 x x2 y y2 a b c d e f g h = record { definitions = (omega (arith, a, e), omega (arith, b, f)); objects = (omega (arith, c, g), omega (arith, d, h)) }

pub named : (s d o v x y st s2 d2 o2 v2 x2 y2 st2 h h2 : List ℕ) (m m2 : ℕ) (start q : Found) → Told [] start → Holds (name_of s d x s2 d2 x2 s d) (length h) h → Holds (name_of s d x s2 d2 x2 s2 d2) (length h2) h2
    → length h ≡ length x → length h2 ≡ length x2 → BothTold s d o v h y st s2 d2 o2 v2 h2 y2 st2 m m2 start q → NamedTold s d o v x y st m s2 d2 o2 v2 x2 y2 st2 m2 q
named s d o v x y st s2 d2 o2 v2 x2 y2 st2 h h2 m m2 start q t a b l l2 told n n2 f g S T M M2 i i2 z z2 =
    told f g
    (record {
      n = n;
      n2 = n2;
      x = x;
      x2 = x2;
      first = S;
      second = T;
      made = M;
      made2 = M2;
      names = subst (λ (k : ℕ). Holds (name_of s d x s2 d2 x2 s d) k h) l a;
      names2 = subst (λ (k : ℕ). Holds (name_of s d x s2 d2 x2 s2 d2) k h2) l2 b;
      indexed = i;
      indexed2 = i2;
      started = z;
      started2 = z2;
    }) [] t

pub prepared : (s d o v s2 d2 o2 v2 x y st x2 y2 st2 : List ℕ) (m n lx ly ls m2 n2 lx2 ly2 ls2 : ℕ) (q : Found) → Prepares s d o v n lx ly x y st → Prepares s2 d2 o2 v2 n2 lx2 ly2 x2 y2 st2
    → length x ≡ lx → length y ≡ ly → length st ≡ ls → length x2 ≡ lx2 → length y2 ≡ ly2 → length st2 ≡ ls2 → (lx ≤ 512) × (lx2 ≤ 512) → (ly ≤ 256) × (ly2 ≤ 256)
    → NamedTold s d o v x y st m s2 d2 o2 v2 x2 y2 st2 m2 q → PreparedTold s d o v m n lx ly ls s2 d2 o2 v2 m2 n2 lx2 ly2 ls2 q
prepared s d o v s2 d2 o2 v2 x y st x2 y2 st2 m n lx ly ls m2 n2 lx2 ly2 ls2 q p p2 a b c a2 b2 c2 w u told f g S T e e2 z z2 =
    told n n2 f g (subst (λ (k : ℕ). Scene s d o v k m n f) (sym a) S) (subst (λ (k : ℕ). Scene s2 d2 o2 v2 k m2 n2 g) (sym a2) T) (p w.0 u.0) (p2 w.1 u.1)
    (b ∙ e) (b2 ∙ e2) (c ∙ z) (c2 ∙ z2)

pub prepared_indexes : (s d o v s2 d2 o2 v2 x y st x2 y2 st2 : List ℕ) (n lx ly n2 lx2 ly2 : ℕ) → Prepares s d o v n lx ly x y st → Prepares s2 d2 o2 v2 n2 lx2 ly2 x2 y2 st2
    → (lx ≤ 512) × (lx2 ≤ 512) → (ly ≤ 256) × (ly2 ≤ 256) → Index s d x × Index s2 d2 x2
prepared_indexes s d o v s2 d2 o2 v2 x y st x2 y2 st2 n lx ly n2 lx2 ly2 p p2 w u = ((p w.0 u.0).definitions, (p2 w.1 u.1).definitions)

-- The room that is lent is as long as the tables have rows.
pub roomed : (s d o v s2 d2 o2 v2 : List ℕ) (many m n many2 m2 n2 a b c a2 b2 c2 la lb lc la2 lb2 lc2 : ℕ) (q : Found) → a ≡ min many 512 → b ≡ min m 256 → c ≡ b + 1 → a2 ≡ min many2 512 → b2 ≡ min m2 256
    → c2 ≡ b2 + 1 → a ≡ la → b ≡ lb → c ≡ lc → a2 ≡ la2 → b2 ≡ lb2 → c2 ≡ lc2 → PreparedTold s d o v m n la lb lc s2 d2 o2 v2 m2 n2 la2 lb2 lc2 q
    → DifferencesTold s d o v s2 d2 o2 v2 many m n many2 m2 n2 q
roomed s d o v s2 d2 o2 v2 many m n many2 m2 n2 a b c a2 b2 c2 la lb lc la2 lb2 lc2 q ea eb ec ea2 eb2 ec2 xa xb xc xa2 xb2 xc2 told f g S T =
    let p = S.few_definitions in
    let r = S.few in
    let p2 = T.few_definitions in
    let r2 = T.few in
    let z : many ≡ la = omega (arith, ea, xa, p) in
    let z2 : many2 ≡ la2 = omega (arith, ea2, xa2, p2) in
    told f g (subst (λ (k : ℕ). Scene s d o v k m n f) z S) (subst (λ (k : ℕ). Scene s2 d2 o2 v2 k m2 n2 g) z2 T) (omega (arith, eb, xb, r)) (omega (arith, eb2, xb2, r2))
    (omega (arith, eb, ec, xc, r)) (omega (arith, eb2, ec2, xc2, r2))
