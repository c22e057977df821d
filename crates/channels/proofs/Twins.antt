-- Objects that are the same but for their row, their places and their statements' numbers, and lists of such objects in which two neighbours may
-- have changed places. Assumes nothing.
use mathlib.Core.Path.{◌≡◌, refl, sym, ◌∙◌, ap, ap₂}
use mathlib.Core.List.{List, [], ◌∷◌, ◌++◌}
use mathlib.Core.Bool.{Bool, true, false, not}
use mathlib.Core.Option.{Option, none, some}
use Prim.Native.Nat.{ℕ, ◌+◌, ◌≤◌}
use native.Mathlib.Omega.{arith}
use borrow.Author.Tests.{leb-false, lt-leb}
use Rattle.grammar.specs.Grammar.{Kind}
use Rattle.token.specs.Find.{pick, both, either, bit, is_there}
use Rattle.token.specs.Words.{same}
use Rattle.token.proofs.Bytes.{neither_first, neither_second}
use Rattle.meaning.specs.Syntax.{Word, Object}
use Rattle.meaning.specs.Words.{alike}
use Rattle.meaning.specs.Kinds.{same_kind, most}
use Rattle.meaning.specs.Scopes.{find_object}
use Rattle.meaning.specs.Applying.{how_many, full, elsewhere}
use Rattle.meaning.proofs.Merges.{elsewhere_append}
use Rattle.reads_back.proofs.SameWords.{alike_bytes, bytes_alike}
use Rattle.channels.proofs.Ideals.{unnumbered}
use Rattle.channels.proofs.Views.{kind_equal, kind_same}

-- The same kind, name and statements.
pub record Twin (x y : Object) : Type 0 where
  pub kind : x.kind ≡ y.kind
  pub name : x.name.bytes ≡ y.name.bytes
  pub statements : unnumbered x.statements ≡ unnumbered y.statements

pub data Twins : List Object → List Object → Type 0 where
  no_twins : Twins [] []
  more_twins : {x y : Object} {xs ys : List Object} → Twin x y → Twins xs ys → Twins (x ∷ xs) (y ∷ ys)

-- Two neighbours have changed places.
pub data Swapped : List Object → List Object → Type 0 where
  swapped : {x y x' y' : Object} {xs ys : List Object} → Twin x x' → Twin y y' → Twins xs ys → Swapped (x ∷ y ∷ xs) (y' ∷ x' ∷ ys)
  behind : {x y : Object} {xs ys : List Object} → Twin x y → Swapped xs ys → Swapped (x ∷ xs) (y ∷ ys)

-- The test by which an object is found.
abbrev pub is_it : Kind → Word → Object → Bool
is_it k t x = both (same_kind k x.kind) (alike x.name t)

pub twin_is_it : {x y : Object} (k : Kind) (t : Word) → Twin x y → is_it k t x ≡ is_it k t y
unfolding alike
twin_is_it {x} {y} k t h = ap₂ (λ j n. both (same_kind k j) (same n t.bytes)) h.kind h.name

-- Lists that are counted and found alike -----------------------------------------------------------------------------------------------------

pub record Agree (a b : List Object) : Type 0 where
  pub many : (k : Kind) → how_many k a ≡ how_many k b
  pub there : (k : Kind) (t : Word) → is_there (find_object k a t) ≡ is_there (find_object k b t)

pub agree_none : Agree [] []
agree_none = record { many = λ k. refl; there = λ k t. refl }

pub there_first : (k : Kind) (t : Word) (x : Object) (xs : List Object) → is_there (find_object k (x ∷ xs) t) ≡ either (is_it k t x) (is_there (find_object k xs t))
unfolding find_object is_there
there_first k t x xs = go (is_it k t x)
  where
    go : (b : Bool) → is_there (pick b (some x) (find_object k xs t)) ≡ either b (is_there (find_object k xs t))
    go true = refl
    go false = refl

pub many_behind : (k : Kind) (l : List Object) (x : Object) → how_many k (l ++ (x ∷ [])) ≡ how_many k l + bit (same_kind k x.kind)
unfolding how_many
many_behind k [] x = omega arith
many_behind k (y ∷ l) x = let e = many_behind k l x in omega arith

either_assoc : (a b c : Bool) → either a (either b c) ≡ either (either a b) c
either_assoc true b c = refl
either_assoc false b c = refl

either_turn : (a b c : Bool) → either (either a b) c ≡ either (either a c) b
either_turn true b c = refl
either_turn false true true = refl
either_turn false true false = refl
either_turn false false true = refl
either_turn false false false = refl

either_none : (a : Bool) → either a false ≡ a
either_none true = refl
either_none false = refl

pub there_behind : (k : Kind) (t : Word) (l : List Object) (x : Object) → is_there (find_object k (l ++ (x ∷ [])) t) ≡ either (is_there (find_object k l t)) (is_it k t x)
unfolding find_object is_there
there_behind k t [] x = there_first k t x [] ∙ either_none (is_it k t x)
there_behind k t (y ∷ l) x =
    there_first k t y (l ++ (x ∷ [])) ∙ ap (either (is_it k t y)) (there_behind k t l x) ∙ either_assoc (is_it k t y) (is_there (find_object k l t)) (is_it k t x)
    ∙ ap (λ b. either b (is_it k t x)) (sym (there_first k t y l))

pub agree_behind : {a b : List Object} {x y : Object} → Agree a b → Twin x y → Agree (a ++ (x ∷ [])) (b ++ (y ∷ []))
agree_behind {a} {b} {x} {y} e h = record {
  many = λ k. many_behind k a x ∙ ap₂ (λ n j. n + bit (same_kind k j)) (e.many k) h.kind ∙ sym (many_behind k b y);
  there = λ k t. there_behind k t a x ∙ ap₂ either (e.there k t) (twin_is_it k t h) ∙ sym (there_behind k t b y);
}

-- Two more, in either order.
pub agree_swapped : {a b : List Object} {x y x' y' : Object} → Agree a b → Twin x x' → Twin y y'
    → Agree ((a ++ (x ∷ [])) ++ (y ∷ [])) ((b ++ (y' ∷ [])) ++ (x' ∷ []))
agree_swapped {a} {b} {x} {y} {x'} {y'} e h i = record {
  many = λ k.
      let p = many_behind k (a ++ (x ∷ [])) y in
      let q = many_behind k a x in
      let r = many_behind k (b ++ (y' ∷ [])) x' in
      let s = many_behind k b y' in
      let u = e.many k in
      let v : bit (same_kind k x.kind) ≡ bit (same_kind k x'.kind) = ap (λ j. bit (same_kind k j)) h.kind in
      let w : bit (same_kind k y.kind) ≡ bit (same_kind k y'.kind) = ap (λ j. bit (same_kind k j)) i.kind in
      omega arith;
  there = λ k t.
      there_behind k t (a ++ (x ∷ [])) y ∙ ap (λ c. either c (is_it k t y)) (there_behind k t a x) ∙ either_turn (is_there (find_object k a t)) (is_it k t x) (is_it k t y)
      ∙ ap₂ either (ap₂ either (e.there k t) (twin_is_it k t i)) (twin_is_it k t h)
      ∙ sym (there_behind k t (b ++ (y' ∷ [])) x' ∙ ap (λ c. either c (is_it k t x')) (there_behind k t b y'));
}

-- Whole lists.
there_more : {x y : Object} (xs ys : List Object) (k : Kind) (t : Word) → Twin x y → is_there (find_object k xs t) ≡ is_there (find_object k ys t)
    → is_there (find_object k (x ∷ xs) t) ≡ is_there (find_object k (y ∷ ys) t)
there_more {x} {y} xs ys k t h e = there_first k t x xs ∙ ap₂ either (twin_is_it k t h) e ∙ sym (there_first k t y ys)

pub twins_agree : {xs ys : List Object} → Twins xs ys → Agree xs ys
unfolding how_many
twins_agree no_twins = agree_none
twins_agree (more_twins h p) =
    let r = twins_agree p in
    record { many = λ k. ap₂ (λ j n. bit (same_kind k j) + n) h.kind (r.many k); there = λ k t. there_more _ _ k t h (r.there k t) }

either_second : (a b c : Bool) → either a (either b c) ≡ either b (either a c)
either_second true true c = refl
either_second true false c = refl
either_second false true c = refl
either_second false false c = refl

pub swapped_agree : {xs ys : List Object} → Swapped xs ys → Agree xs ys
unfolding how_many
swapped_agree (swapped {x} {y} {x'} {y'} {xs} {ys} h i p) =
    let r = twins_agree p in
    record {
      many = λ k.
          let u = r.many k in
          let v : bit (same_kind k x.kind) ≡ bit (same_kind k x'.kind) = ap (λ j. bit (same_kind k j)) h.kind in
          let w : bit (same_kind k y.kind) ≡ bit (same_kind k y'.kind) = ap (λ j. bit (same_kind k j)) i.kind in
          omega arith;
      there = λ k t.
          there_first k t x (y ∷ xs) ∙ ap (either (is_it k t x)) (there_first k t y xs) ∙ either_second (is_it k t x) (is_it k t y) (is_there (find_object k xs t))
          ∙ ap₂ either (twin_is_it k t i) (ap₂ either (twin_is_it k t h) (r.there k t))
          ∙ sym (there_first k t y' (x' ∷ ys) ∙ ap (either (is_it k t y')) (there_first k t x' ys));
    }
swapped_agree (behind h p) =
    let r = swapped_agree p in
    record { many = λ k. ap₂ (λ j n. bit (same_kind k j) + n) h.kind (r.many k); there = λ k t. there_more _ _ k t h (r.there k t) }

-- 17 -----------------------------------------------------------------------------------------------------------------------------------------

-- No object is one too many of its kind; before them stand `before`.
pub data Few : List Object → List Object → Type 0 where
  few_none : {before : List Object} → Few before []
  few_more : {before : List Object} {x : Object} {xs : List Object} → full (most x.kind) (how_many x.kind before) ≡ false → Few (before ++ (x ∷ [])) xs → Few before (x ∷ xs)

-- Fewer are not too many either.
fewer : (o : Option ℕ) (n m : ℕ) → m ≤ n → full o n ≡ false → full o m ≡ false
unfolding full
fewer none n m h e = refl
fewer (some i) n m h e = let l = leb-false i n e in lt-leb i m (omega arith)

-- The test of 17, for an object and for its twin.
full_twin : {a b : List Object} {x y : Object} → Agree a b → Twin x y → full (most y.kind) (how_many y.kind b) ≡ full (most x.kind) (how_many x.kind a)
full_twin {a} {b} {x} {y} e h = sym (ap (λ k. full (most k) (how_many k a)) h.kind ∙ ap (full (most y.kind)) (e.many y.kind))

pub twins_few : {before before' xs ys : List Object} → Agree before before' → Twins xs ys → Few before xs → Few before' ys
twins_few e no_twins few_none = few_none
twins_few e (more_twins h p) (few_more a c) = few_more (full_twin e h ∙ a) (twins_few (agree_behind e h) p c)

module _ (before : List Object) (x y : Object) (a : full (most x.kind) (how_many x.kind before) ≡ false)
    (c : full (most y.kind) (how_many y.kind (before ++ (x ∷ []))) ≡ false) where
  first_full : full (most y.kind) (how_many y.kind before) ≡ false
  first_full = let e = many_behind y.kind before x in fewer (most y.kind) (how_many y.kind (before ++ (x ∷ []))) (how_many y.kind before) (omega arith) c

  second_full : full (most x.kind) (how_many x.kind (before ++ (y ∷ []))) ≡ false
  unfolding bit
  second_full = ap (full (most x.kind)) (many_behind x.kind before y) ∙ go (same_kind x.kind y.kind) refl
    where
      go : (z : Bool) → same_kind x.kind y.kind ≡ z → full (most x.kind) (how_many x.kind before + bit z) ≡ false
      go true q =
          let k = kind_equal x.kind y.kind q in
          let m = many_behind y.kind before x in
          let r : bit (same_kind y.kind x.kind) ≡ 1 = ap bit (kind_same y.kind x.kind (sym k)) in
          let n : how_many y.kind (before ++ (x ∷ [])) ≡ how_many y.kind before + 1 = m ∙ ap (how_many y.kind before +◌) r in
          ap (λ j. full (most j) (how_many j before + 1)) k ∙ ap (full (most y.kind)) (sym n) ∙ c
      go false q = let n : how_many x.kind before + 0 ≡ how_many x.kind before = omega arith in ap (full (most x.kind)) n ∙ a

-- So they are where two neighbours have changed places.
pub swapped_few : {before before' xs ys : List Object} → Agree before before' → Swapped xs ys → Few before xs → Few before' ys
swapped_few {before} e (swapped {x} {y} h i p) (few_more a (few_more c r)) =
    few_more (full_twin e i ∙ first_full before x y a c) (few_more (full_twin (agree_behind e i) h ∙ second_full before x y a c) (twins_few (agree_swapped e h i) p r))
swapped_few e (behind h p) (few_more a c) = few_more (full_twin e h ∙ a) (swapped_few (agree_behind e h) p c)

-- One kind and name --------------------------------------------------------------------------------------------------------------------------

pub is_it_both : (k : Kind) (t : Word) (x : Object) → k ≡ x.kind → x.name.bytes ≡ t.bytes → is_it k t x ≡ true
is_it_both k t x e q = ap₂ both (kind_same k x.kind e) (bytes_alike x.name t q)

pub is_it_bytes : (k j : Kind) (t u : Word) (x : Object) → k ≡ j → t.bytes ≡ u.bytes → is_it k t x ≡ is_it j u x
unfolding alike
is_it_bytes k j t u x e q = ap₂ (λ i n. both (same_kind i x.kind) (same x.name.bytes n)) e q

pub there_bytes : (k j : Kind) (t u : Word) (l : List Object) → k ≡ j → t.bytes ≡ u.bytes → is_there (find_object k l t) ≡ is_there (find_object j l u)
unfolding find_object is_there
there_bytes k j t u [] e q = refl
there_bytes k j t u (x ∷ l) e q =
    there_first k t x l ∙ ap₂ either (is_it_bytes k j t u x e q) (there_bytes k j t u l e q) ∙ sym (there_first j u x l)

-- 24 -----------------------------------------------------------------------------------------------------------------------------------------

-- No part has the name of a part of another kind before it; before them stand `before`.
pub data Named : List Object → List Object → Type 0 where
  named_none : {before : List Object} → Named before []
  named_more : {before : List Object} {x : Object} {xs : List Object} → elsewhere x before ≡ false → Named (before ++ (x ∷ [])) xs → Named before (x ∷ xs)

-- The same names are used in both, by the same kinds.
pub record SameUse (a b : List Object) : Type 0 where
  pub used : (x : Object) → elsewhere x a ≡ elsewhere x b

pub use_twin : {x y : Object} (l : List Object) → Twin x y → elsewhere x l ≡ elsewhere y l
unfolding elsewhere alike
use_twin [] h = refl
use_twin (z ∷ l) h = ap₂ either (ap₂ (λ k n. both (not (same_kind k z.kind)) (same z.name.bytes n)) h.kind h.name) (use_twin l h)

used_twin : {y z : Object} (x : Object) → Twin y z → elsewhere x (y ∷ []) ≡ elsewhere x (z ∷ [])
unfolding elsewhere alike
used_twin x h = ap₂ (λ k n. either (both (not (same_kind x.kind k)) (same n x.name.bytes)) false) h.kind h.name

-- Which of two comes first makes no difference.
turn_by : (a b : Bool) → (a ≡ true → b ≡ true) → (b ≡ true → a ≡ true) → a ≡ b
turn_by true b f g = sym (f refl)
turn_by false true f g = g refl
turn_by false false f g = refl

use_turned : (x y : Object) → elsewhere x (y ∷ []) ≡ elsewhere y (x ∷ [])
unfolding elsewhere
use_turned x y =
    ap₂ (λ k n. either (both (not k) n) false)
    (turn_by (same_kind x.kind y.kind) (same_kind y.kind x.kind) (λ e. kind_same y.kind x.kind (sym (kind_equal x.kind y.kind e)))
    (λ e. kind_same x.kind y.kind (sym (kind_equal y.kind x.kind e))))
    (turn_by (alike y.name x.name) (alike x.name y.name) (λ e. bytes_alike x.name y.name (sym (alike_bytes y.name x.name e)))
    (λ e. bytes_alike y.name x.name (sym (alike_bytes x.name y.name e))))

pub use_behind : {a b : List Object} {y z : Object} → SameUse a b → Twin y z → SameUse (a ++ (y ∷ [])) (b ++ (z ∷ []))
use_behind {a} {b} {y} {z} e h = record { used = λ x. elsewhere_append x a (y ∷ []) ∙ ap₂ either (e.used x) (used_twin x h) ∙ sym (elsewhere_append x b (z ∷ [])) }

use_swapped : {a b : List Object} {x y x' y' : Object} → SameUse a b → Twin x x' → Twin y y' → SameUse ((a ++ (x ∷ [])) ++ (y ∷ [])) ((b ++ (y' ∷ [])) ++ (x' ∷ []))
use_swapped {a} {b} {x} {y} {x'} {y'} e h i = record {
  used = λ z.
      elsewhere_append z (a ++ (x ∷ [])) (y ∷ []) ∙ ap (λ c. either c (elsewhere z (y ∷ []))) (elsewhere_append z a (x ∷ []))
      ∙ either_turn (elsewhere z a) (elsewhere z (x ∷ [])) (elsewhere z (y ∷ []))
      ∙ ap₂ either (ap₂ either (e.used z) (used_twin z i)) (used_twin z h)
      ∙ sym (elsewhere_append z (b ++ (y' ∷ [])) (x' ∷ []) ∙ ap (λ c. either c (elsewhere z (x' ∷ []))) (elsewhere_append z b (y' ∷ [])));
}

pub twins_named : {before before' xs ys : List Object} → SameUse before before' → Twins xs ys → Named before xs → Named before' ys
twins_named e no_twins named_none = named_none
twins_named {before} {before'} e (more_twins {x} {y} h p) (named_more a c) =
    named_more (sym (e.used y) ∙ sym (use_twin before h) ∙ a) (twins_named (use_behind e h) p c)

-- So it is where two neighbours have changed places.
pub now_named : {before before' xs ys : List Object} {x y x' y' : Object} → SameUse before before' → Twin x x' → Twin y y' → Twins xs ys → Named before (x ∷ y ∷ xs)
    → Named before' (y' ∷ x' ∷ ys)
now_named {before} {before'} {xs} {ys} {x} {y} {x'} {y'} e h i p (named_more a (named_more c r)) =
    let q = sym (elsewhere_append y before (x ∷ [])) ∙ c in
    named_more (sym (e.used y') ∙ sym (use_twin before i) ∙ neither_first (elsewhere y before) (elsewhere y (x ∷ [])) q)
    (named_more (sym ((use_behind e i).used x') ∙ sym (use_twin (before ++ (y ∷ [])) h) ∙ elsewhere_append x before (y ∷ [])
    ∙ ap₂ either a (use_turned x y ∙ neither_second (elsewhere y before) (elsewhere y (x ∷ [])) q))
    (twins_named (use_swapped e h i) p r))
