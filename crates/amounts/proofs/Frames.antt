-- A row that is put, and a list that is put behind the others, change no other row and no other list. Assumes nothing.
use mathlib.Core.Path.{◌≡◌, sym, ◌∙◌, ap, subst}
use mathlib.Core.List.{List, ◌++◌}
use mathlib.Core.Bool.{Bool}
use Prim.Native.Nat.{ℕ, ◌+◌, ◌-◌, ◌*◌, ◌≤◌, ◌<◌}
use native.Mathlib.Omega.{arith}
use native.Mathlib.Decide.{ℕ_discrete, dec_lt}
use lib.ListN.{length, get_or, take, drop, replicate, length-append, length-drop, take-append-drop, length-replicate, get_or-replicate}
use lib.Seq.{sets, length-sets, length-take-le, take-append-le, drop-append-le}
use Rattle.rows.specs.Table.{part}
use Rattle.rows.proofs.Tables.{cell_of_lem}
use Rattle.rows.proofs.Stores.{part_sets_same, part_sets_before, part_sets_after}
use Rattle.meaning.specs.Syntax.{Bounds}
use Rattle.scopes.specs.Ranges.{RangeAt, FloatsAt}
use Rattle.amounts.specs.Keys.{signed_code, Listing}
use Rattle.amounts.specs.Known.{Told, ToldFloats, Noted, Known}

-- What stands before a place is not changed by what comes behind it.
part_front : (t q : List ℕ) (u a n : ℕ) → u ≤ length t → a + n ≤ u → part (take u t ++ q) a n ≡ part t a n
part_front t q u a n h k = front q ∙ sym (front (drop u t)) ∙ ap (λ l. part l a n) (take-append-drop u t)
  where
    wide : length (take u t) ≡ u
    wide = length-take-le u t h

    long : n ≤ length (drop a (take u t))
    long = let e = length-drop a (take u t) in omega (arith, e, wide, k)

    front : (l : List ℕ) → part (take u t ++ l) a n ≡ take n (drop a (take u t))
    front l = ap (take n) (drop-append-le a (take u t) l (omega (arith, wide, k))) ∙ take-append-le n (drop a (take u t)) l long

-- A row that is right stays right where its list does.
told_kept : (g : Bool) (b : Bounds) (r t t' : List ℕ) (u u' : ℕ) → Told g b r t u → u ≤ u' → ((a n : ℕ) → 3072 ≤ a → a + n ≤ u → part t' a n ≡ part t a n) → Told g b r t' u'
told_kept g b r t t' u u' k h f =
    record {
      two = k.two;
      within = λ e. let w = k.within e in (w.0, w.1, omega (arith, w, h));
      list = λ e.
          let w = k.within e in
          subst (Listing g b) (sym (f (get_or r 1 0) (get_or r 2 0 - get_or r 1 0) w.0 (omega (arith, w)))) (k.list e);
    }

-- A list is put behind the others.
pub noted_behind : (s d t q : List ℕ) (u : ℕ) → Noted s d t u → Noted s d (take u t ++ q) u
noted_behind s d t q u k =
    let i = k.inside in
    let o = k.room in
    let w = length-take-le u t i in
    let z = length-append (take u t) q in
    record {
      room = o;
      inside = omega (arith, w, z);
      told = λ j h b x.
          subst (λ r. Told (signed_code (get_or d (j * 19 + 12) 0)) b r (take u t ++ q) u) (sym (part_front t q u (512 + j * 5) 5 i (omega (arith, h, o))))
          (told_kept _ b _ t (take u t ++ q) u u (k.told j h b x) (omega arith) (λ a n e f. part_front t q u a n i f));
      floats = λ j h b x. subst (ToldFloats b) (sym (part_front t q u (512 + j * 5) 5 i (omega (arith, h, o)))) (k.floats j h b x);
    }

-- A row is put.
module _ (s d t : List ℕ) (u u' j : ℕ) (c : List ℕ) (k : Noted s d t u) (h : j < 512) (w : length c ≡ 5) (m : u ≤ u') (i : u' ≤ length t) where
  kept : (a n : ℕ) → 3072 ≤ a → a + n ≤ u → part (sets t (512 + j * 5) c) a n ≡ part t a n
  kept a n e f = part_sets_after t (512 + j * 5) c a n (omega (arith, e, w, h))

  others : (v : ℕ) → (v ≡ j → ⊥) → v < 512 → part (sets t (512 + j * 5) c) (512 + v * 5) 5 ≡ part t (512 + v * 5) 5
  others v n l = by (dec_lt v j)
    where
      by : Dec (v < j) → part (sets t (512 + j * 5) c) (512 + v * 5) 5 ≡ part t (512 + v * 5) 5
      by (yes o) = part_sets_before t (512 + j * 5) c (512 + v * 5) 5 (omega (arith, o))
      by (no o) = part_sets_after t (512 + j * 5) c (512 + v * 5) 5 (omega (arith, o, n, w))

  own : part (sets t (512 + j * 5) c) (512 + j * 5) 5 ≡ c
  own =
      let o = k.room in
      ap (part (sets t (512 + j * 5) c) (512 + j * 5)) (sym w) ∙ part_sets_same t (512 + j * 5) c (omega (arith, h, w, m, i, o))

  pub noted_put : ((b : Bounds) → RangeAt s (get_or d (j * 19 + 8) 0) b → Told (signed_code (get_or d (j * 19 + 12) 0)) b c (sets t (512 + j * 5) c) u')
      → ((b : Bounds) → FloatsAt s (get_or d (j * 19 + 8) 0) b → ToldFloats b c) → Noted s d (sets t (512 + j * 5) c) u'
  noted_put f g =
      let o = k.room in
      let z = length-sets t (512 + j * 5) c in
      record {
        room = omega (arith, o, m);
        inside = omega (arith, i, z);
        told = λ v l b x. by v l b x (ℕ_discrete v j);
        floats = λ v l b x. floats-by v l b x (ℕ_discrete v j);
      }
    where
      by : (v : ℕ) → v < 512 → (b : Bounds) → RangeAt s (get_or d (v * 19 + 8) 0) b → Dec (v ≡ j)
          → Told (signed_code (get_or d (v * 19 + 12) 0)) b (part (sets t (512 + j * 5) c) (512 + v * 5) 5) (sets t (512 + j * 5) c) u'
      by v l b x (yes e) =
          subst (λ y. RangeAt s (get_or d (y * 19 + 8) 0) b → Told (signed_code (get_or d (y * 19 + 12) 0)) b (part (sets t (512 + j * 5) c) (512 + y * 5) 5) (sets t (512 + j * 5) c) u')
          (sym e) (λ g. subst (λ r. Told (signed_code (get_or d (j * 19 + 12) 0)) b r (sets t (512 + j * 5) c) u') (sym own) (f b g)) x
      by v l b x (no n) =
          subst (λ r. Told (signed_code (get_or d (v * 19 + 12) 0)) b r (sets t (512 + j * 5) c) u') (sym (others v n l))
          (told_kept _ b _ t (sets t (512 + j * 5) c) u u' (k.told v l b x) m kept)

      floats-by : (v : ℕ) → v < 512 → (b : Bounds) → FloatsAt s (get_or d (v * 19 + 8) 0) b → Dec (v ≡ j) → ToldFloats b (part (sets t (512 + j * 5) c) (512 + v * 5) 5)
      floats-by v l b x (yes e) =
          subst (λ y. FloatsAt s (get_or d (y * 19 + 8) 0) b → ToldFloats b (part (sets t (512 + j * 5) c) (512 + y * 5) 5)) (sym e)
          (λ z. subst (ToldFloats b) (sym own) (g b z)) x
      floats-by v l b x (no n) = subst (ToldFloats b) (sym (others v n l)) (k.floats v l b x)

-- A table of zeros says nothing.
pub noted_blank : (s d : List ℕ) (n : ℕ) → 3072 ≤ n → Noted s d (replicate n 0) 3072
noted_blank s d n h =
    let z = length-replicate {A = ℕ} n 0 in
    record {
      room = omega arith;
      inside = omega (arith, z, h);
      told = λ j l b x.
          let e = blank j l in
          record {
            two = λ o. absurd (omega (arith, e, o));
            within = λ o. absurd (omega (arith, e, o));
            list = λ o. absurd (omega (arith, e, o));
          };
      floats = λ j l b x o. let e = blank j l in absurd (omega (arith, e, o));
    }
  where
    blank : (j : ℕ) → j < 512 → get_or (part (replicate n 0) (512 + j * 5) 5) 0 0 ≡ 0
    blank j l = cell_of_lem (replicate n 0) (512 + j * 5) 5 0 (omega arith) ∙ get_or-replicate n (512 + j * 5 + 0) 0 0 (omega (arith, l, h))

-- The first 512 cells are the caller's.
pub known_marked : (s d t vs : List ℕ) → length vs ≤ 512 → Known s d t → Known s d (sets t 0 vs)
known_marked s d t vs h k =
    let n = k.noted in
    let o = n.room in
    let i = n.inside in
    let z = length-sets t 0 vs in
    record {
      used = k.used;
      noted = record {
        room = o;
        inside = omega (arith, i, z);
        told = λ j l b x.
            subst (λ r. Told (signed_code (get_or d (j * 19 + 12) 0)) b r (sets t 0 vs) k.used) (sym (part_sets_after t 0 vs (512 + j * 5) 5 (omega (arith, h))))
            (told_kept _ b _ t (sets t 0 vs) k.used k.used (n.told j l b x) (omega arith) (λ a m e f. part_sets_after t 0 vs a m (omega (arith, h, e))));
        floats = λ j l b x. subst (ToldFloats b) (sym (part_sets_after t 0 vs (512 + j * 5) 5 (omega (arith, h)))) (n.floats j l b x);
      };
    }
