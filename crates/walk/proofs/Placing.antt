-- The places of the kinds' words, noted one by one. Assumes nothing.
use mathlib.Core.Path.{◌≡◌, refl, sym, ◌∙◌, ap}
use mathlib.Core.List.{List, [], ◌∷◌, ◌++◌}
use mathlib.Core.Bool.{Bool, true, false, not}
use Prim.Native.Nat.{ℕ, zero, suc, ◌<◌}
use native.Mathlib.Omega.{arith}
use lib.Dec.{eqb}
use lib.ListN.{length, get_or, set, replicate, length-set}
use lib.Seq.{ext_get_or, get_or-set_same, get_or-set_other}
use borrow.Author.Tests.{eqb-true, eqb-false, eq-eqb, ne_eqb}
use Rattle.rows.proofs.Tallies.{blank}
use Rattle.token.specs.Find.{pick, either}
use Rattle.token.proofs.Bytes.{either_false, either_assoc, either_true}
use Rattle.meaning.specs.Syntax.{Spec}
use Rattle.meaning.specs.Kinds.{kind_number, same_kind}
use Rattle.meaning.specs.Defining.{specified}
use Rattle.layout.specs.Kept.{kind_place, again_place}
use Rattle.layout.proofs.Codes.{kind_low}
use Rattle.implementation.specs.Places.{Noted, placed, again_after, note, note_all, heads}
use Rattle.walk.specs.Whole.{kind_places}
use Rattle.std.specs.Prelude.{Option, Some, None}
use Rattle.std.specs.Option.{option_or, unwrap_or}

placed_other : (l : List ℕ) (m j p k : ℕ) → (k ≡ j → ⊥) → get_or (placed l m j p) k 0 ≡ get_or l k 0
placed_other l m j p k h = go (eqb m 0)
  where
    go : (b : Bool) → get_or (pick b (set l j p) l) k 0 ≡ get_or l k 0
    go true = get_or-set_other l j k p 0 h
    go false = refl

placed_length : (l : List ℕ) (m j p : ℕ) → length (placed l m j p) ≡ length l
placed_length l m j p = go (eqb m 0)
  where
    go : (b : Bool) → length (pick b (set l j p) l) ≡ length l
    go true = length-set l j p
    go false = refl

-- Thirteen cells each.
abbrev Sized : Noted → Type 0
Sized x = (length x.marks ≡ 13) × (length x.places ≡ 13)

sized : (x : Noted) (j p : ℕ) → Sized x → Sized (note x j p)
unfolding note
sized x j p z = (length-set x.marks j 1 ∙ z.0, placed_length x.places (get_or x.marks j 0) j p ∙ z.1)

size_all : (hs : List (ℕ × ℕ)) (x : Noted) → Sized x → length (note_all x hs).places ≡ 13
unfolding note_all
size_all [] x z = z.1
size_all (h ∷ hs) x z = size_all hs (note x h.0 h.1) (sized x h.0 h.1 z)

-- A kind that has come keeps its place.
kept_place : (k : ℕ) → k < 13 → (xs : List Spec) (x : Noted) → Sized x → (get_or x.marks k 0 ≡ 0 → ⊥) → get_or (note_all x (heads xs)).places k 0 ≡ get_or x.places k 0
unfolding note_all heads note
kept_place k l [] x z h = refl
kept_place k l (s ∷ xs) x z h = go (kept_place k l xs (note x (kind_number s.kind) s.word.place) (sized x (kind_number s.kind) s.word.place z)) (eqb k (kind_number s.kind)) refl
  where
    go : ((get_or (set x.marks (kind_number s.kind) 1) k 0 ≡ 0 → ⊥)
        → get_or (note_all (note x (kind_number s.kind) s.word.place) (heads xs)).places k 0 ≡ get_or (placed x.places (get_or x.marks (kind_number s.kind) 0) (kind_number s.kind) s.word.place) k 0)
        → (b : Bool) → eqb k (kind_number s.kind) ≡ b → get_or (note_all (note x (kind_number s.kind) s.word.place) (heads xs)).places k 0 ≡ get_or x.places k 0
    go ih true e =
        let i = eqb-true k (kind_number s.kind) e in
        let m : get_or (set x.marks (kind_number s.kind) 1) k 0 ≡ 1 =
        ap (λ (n : ℕ). get_or (set x.marks n 1) k 0) (sym i) ∙ get_or-set_same x.marks k 1 0 (omega (arith, l, z.0)) in
        ih (λ q. absurd (omega (arith, m, q)))
        ∙ ap (λ (b : Bool). get_or (pick b (set x.places (kind_number s.kind) s.word.place) x.places) k 0)
        (ne_eqb (get_or x.marks (kind_number s.kind) 0) 0 (λ q. h (ap (λ (n : ℕ). get_or x.marks n 0) i ∙ q)))
    go ih false e =
        let i = eqb-false k (kind_number s.kind) e in
        ih (λ q. h (sym (get_or-set_other x.marks (kind_number s.kind) k 1 0 i) ∙ q))
        ∙ placed_other x.places (get_or x.marks (kind_number s.kind) 0) (kind_number s.kind) s.word.place k i

place_of : (k : ℕ) → k < 13 → (xs : List Spec) (x : Noted) → Sized x → get_or x.marks k 0 ≡ 0 → get_or x.places k 0 ≡ 0
    → get_or (note_all x (heads xs)).places k 0 ≡ kind_place k xs
unfolding note_all heads note kind_place
place_of k l [] x z h g = g
place_of k l (s ∷ xs) x z h g = go (place_of k l xs (note x (kind_number s.kind) s.word.place) (sized x (kind_number s.kind) s.word.place z)) (eqb k (kind_number s.kind)) refl
  where
    go : (get_or (set x.marks (kind_number s.kind) 1) k 0 ≡ 0
        → get_or (placed x.places (get_or x.marks (kind_number s.kind) 0) (kind_number s.kind) s.word.place) k 0 ≡ 0
        → get_or (note_all (note x (kind_number s.kind) s.word.place) (heads xs)).places k 0 ≡ kind_place k xs)
        → (b : Bool) → eqb k (kind_number s.kind) ≡ b
        → get_or (note_all (note x (kind_number s.kind) s.word.place) (heads xs)).places k 0 ≡ pick b s.word.place (kind_place k xs)
    go ih true e =
        let i = eqb-true k (kind_number s.kind) e in
        let m : get_or (set x.marks (kind_number s.kind) 1) k 0 ≡ 1 =
        ap (λ (n : ℕ). get_or (set x.marks n 1) k 0) (sym i) ∙ get_or-set_same x.marks k 1 0 (omega (arith, l, z.0)) in
        kept_place k l xs (note x (kind_number s.kind) s.word.place) (sized x (kind_number s.kind) s.word.place z) (λ q. absurd (omega (arith, m, q)))
        ∙ ap (λ (b : Bool). get_or (pick b (set x.places (kind_number s.kind) s.word.place) x.places) k 0)
        (eq-eqb (get_or x.marks (kind_number s.kind) 0) 0 (ap (λ (n : ℕ). get_or x.marks n 0) (sym i) ∙ h))
        ∙ ap (λ (n : ℕ). get_or (set x.places n s.word.place) k 0) (sym i)
        ∙ get_or-set_same x.places k s.word.place 0 (omega (arith, l, z.1))
    go ih false e =
        let i = eqb-false k (kind_number s.kind) e in
        ih
        (get_or-set_other x.marks (kind_number s.kind) k 1 0 i ∙ h)
        (placed_other x.places (get_or x.marks (kind_number s.kind) 0) (kind_number s.kind) s.word.place k i ∙ g)

abbrev pub none_noted : Noted
none_noted = record { marks = replicate 13 0; places = replicate 13 0; again = None }

pub each_place : (xs : List Spec) (i : ℕ) → i < 13 → kind_place i xs ≡ get_or (kind_places xs) i 0
each_place xs zero h = refl
each_place xs (suc zero) h = refl
each_place xs (suc (suc zero)) h = refl
each_place xs (suc (suc (suc zero))) h = refl
each_place xs (suc (suc (suc (suc zero)))) h = refl
each_place xs (suc (suc (suc (suc (suc zero))))) h = refl
each_place xs (suc (suc (suc (suc (suc (suc zero)))))) h = refl
each_place xs (suc (suc (suc (suc (suc (suc (suc zero))))))) h = refl
each_place xs (suc (suc (suc (suc (suc (suc (suc (suc zero)))))))) h = refl
each_place xs (suc (suc (suc (suc (suc (suc (suc (suc (suc zero))))))))) h = refl
each_place xs (suc (suc (suc (suc (suc (suc (suc (suc (suc (suc zero)))))))))) h = refl
each_place xs (suc (suc (suc (suc (suc (suc (suc (suc (suc (suc (suc zero))))))))))) h = refl
each_place xs (suc (suc (suc (suc (suc (suc (suc (suc (suc (suc (suc (suc zero)))))))))))) h = refl
each_place xs (suc (suc (suc (suc (suc (suc (suc (suc (suc (suc (suc (suc (suc i))))))))))))) h = absurd (omega arith)

pub all_places : (xs : List Spec) → (note_all none_noted (heads xs)).places ≡ kind_places xs
all_places xs =
    ext_get_or 0 (note_all none_noted (heads xs)).places (kind_places xs) (size_all (heads xs) none_noted (refl, refl))
    (λ i l.
    let n = size_all (heads xs) none_noted (refl, refl) in
    let k : i < 13 = omega (arith, l, n) in
    place_of i k xs none_noted (refl, refl) (blank 13 i) (blank 13 i) ∙ each_place xs i k)

-- The first that comes again ---------------------------------------------------------------------------------------------------------------

-- Once one is found it stays.
again_stays : (xs : List Spec) (x : Noted) (p : ℕ) → x.again ≡ Some p → (note_all x (heads xs)).again ≡ Some p
unfolding note_all heads note
again_stays [] x p h = h
again_stays (s ∷ xs) x p h =
    again_stays xs (note x (kind_number s.kind) s.word.place) p
    (ap (λ (a : Option ℕ). pick (eqb (get_or x.marks (kind_number s.kind) 0) 0) a (option_or a (Some s.word.place))) h
    ∙ same (eqb (get_or x.marks (kind_number s.kind) 0) 0))
  where
    same : (b : Bool) → ◌≡◌ {A = Option ℕ} (pick b (Some p) (Some p)) (Some p)
    same true = refl
    same false = refl

specified_snoc : (t s : Spec) (xs : List Spec) → specified t (xs ++ (s ∷ [])) ≡ either (specified t xs) (same_kind t.kind s.kind)
unfolding specified
specified_snoc t s [] = either_false (same_kind t.kind s.kind)
specified_snoc t s (y ∷ ys) =
    ap (either (same_kind t.kind y.kind)) (specified_snoc t s ys)
    ∙ either_assoc (same_kind t.kind y.kind) (specified t ys) (same_kind t.kind s.kind)

-- The marks are those of the specs before.
abbrev Marked : Noted → List Spec → Type 0
Marked x before = (t : Spec) → specified t before ≡ not (eqb (get_or x.marks (kind_number t.kind) 0) 0)

marked_on : (s : Spec) (before : List Spec) (x : Noted) → Sized x → Marked x before → Marked (note x (kind_number s.kind) s.word.place) (before ++ (s ∷ []))
unfolding note same_kind
marked_on s before x z m t = specified_snoc t s before ∙ go (eqb (kind_number t.kind) (kind_number s.kind)) refl
  where
    go : (b : Bool) → eqb (kind_number t.kind) (kind_number s.kind) ≡ b
        → either (specified t before) (eqb (kind_number t.kind) (kind_number s.kind))
        ≡ not (eqb (get_or (set x.marks (kind_number s.kind) 1) (kind_number t.kind) 0) 0)
    go true e =
        let i = eqb-true (kind_number t.kind) (kind_number s.kind) e in
        let l = kind_low t.kind in
        ap (either (specified t before)) e ∙ either_true (specified t before)
        ∙ sym (ap (λ (n : ℕ). not (eqb n 0)) (ap (λ (n : ℕ). get_or (set x.marks n 1) (kind_number t.kind) 0) (sym i) ∙ get_or-set_same x.marks (kind_number t.kind) 1 0 (omega (arith, l, z.0))))
    go false e =
        let i = eqb-false (kind_number t.kind) (kind_number s.kind) e in
        ap (either (specified t before)) e ∙ either_false (specified t before) ∙ m t
        ∙ sym (ap (λ (n : ℕ). not (eqb n 0)) (get_or-set_other x.marks (kind_number s.kind) (kind_number t.kind) 1 0 i))

again_of : (xs before : List Spec) (x : Noted) → Sized x → Marked x before → x.again ≡ None → unwrap_or (note_all x (heads xs)).again 0 ≡ again_place before xs
unfolding note_all heads note again_place
again_of [] before x z m g = ap (λ (a : Option ℕ). unwrap_or a 0) g
again_of (s ∷ xs) before x z m g =
    go (again_of xs (before ++ (s ∷ [])) (note x (kind_number s.kind) s.word.place) (sized x (kind_number s.kind) s.word.place z) (marked_on s before x z m)) (eqb (get_or x.marks (kind_number s.kind) 0) 0) refl
  where
    go : (again_after (get_or x.marks (kind_number s.kind) 0) x.again s.word.place ≡ None
        → unwrap_or (note_all (note x (kind_number s.kind) s.word.place) (heads xs)).again 0 ≡ again_place (before ++ (s ∷ [])) xs)
        → (b : Bool) → eqb (get_or x.marks (kind_number s.kind) 0) 0 ≡ b
        → unwrap_or (note_all (note x (kind_number s.kind) s.word.place) (heads xs)).again 0 ≡ pick (specified s before) s.word.place (again_place (before ++ (s ∷ [])) xs)
    go ih true e =
        ih (ap (λ (b : Bool). pick b x.again (option_or x.again (Some s.word.place))) e ∙ g)
        ∙ sym (ap (λ (b : Bool). pick b s.word.place (again_place (before ++ (s ∷ [])) xs)) (m s ∙ ap not e))
    go ih false e =
        ap (λ (a : Option ℕ). unwrap_or a 0)
        (again_stays xs (note x (kind_number s.kind) s.word.place) s.word.place
        (ap (λ (b : Bool). pick b x.again (option_or x.again (Some s.word.place))) e ∙ ap (λ (a : Option ℕ). option_or a (Some s.word.place)) g))
        ∙ sym (ap (λ (b : Bool). pick b s.word.place (again_place (before ++ (s ∷ [])) xs)) (m s ∙ ap not e))

pub first_again : (xs : List Spec) → unwrap_or (note_all none_noted (heads xs)).again 0 ≡ again_place [] xs
unfolding specified
first_again xs = again_of xs [] none_noted (refl, refl) (λ t. sym (ap (λ (n : ℕ). not (eqb n 0)) (blank 13 (kind_number t.kind)))) refl
