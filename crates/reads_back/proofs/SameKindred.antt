-- Objects of the same kinds, names and rows, whatever their statements. Assumes nothing.
use mathlib.Core.Path.{◌≡◌, refl, ◌∙◌, ap₂}
use mathlib.Core.List.{List, [], ◌∷◌, ◌++◌}
use mathlib.Core.Bool.{Bool, true, false}
use mathlib.Core.Option.{Option, some}
use Prim.Native.Nat.{◌+◌}
use Rattle.grammar.specs.Grammar.{Kind}
use Rattle.token.specs.Find.{pick, both, bit, is_there}
use Rattle.token.specs.Words.{same}
use Rattle.meaning.specs.Syntax.{Word, absent, Object}
use Rattle.meaning.specs.Words.{alike}
use Rattle.meaning.specs.Kinds.{same_kind}
use Rattle.meaning.specs.Scopes.{find_object}
use Rattle.meaning.specs.Applying.{object_rows, how_many, counts_of}
use Rattle.meaning.specs.Resolving.{row_or}
use Rattle.meaning.specs.Places.{each}
use Rattle.reads_back.specs.ReadsBack.{bare_object_row}
use Rattle.reads_back.proofs.RestatingValues.{SameObjects}

-- The same row, kind and name.
pub record Kindred (x y : Object) : Type 0 where
  pub row : x.row ≡ y.row
  pub kind : x.kind ≡ y.kind
  pub name : x.name.bytes ≡ y.name.bytes

-- So it is for each object of two lists.
pub data AllKindred : List Object → List Object → Type 0 where
  no_kindred : AllKindred [] []
  more_kindred : {x y : Object} {xs ys : List Object} → Kindred x y → AllKindred xs ys → AllKindred (x ∷ xs) (y ∷ ys)

-- One more at the end of each.
pub kindred_behind : {xs ys : List Object} (x y : Object) → AllKindred xs ys → Kindred x y → AllKindred (xs ++ (x ∷ [])) (ys ++ (y ∷ []))
kindred_behind x y no_kindred h = more_kindred h no_kindred
kindred_behind x y (more_kindred i p) h = more_kindred i (kindred_behind x y p h)

-- They are counted and found alike.
pub kindred_many : {xs ys : List Object} (k : Kind) → AllKindred xs ys → how_many k xs ≡ how_many k ys
unfolding how_many
kindred_many k no_kindred = refl
kindred_many k (more_kindred h p) = ap₂ (λ z n. bit (same_kind k z) + n) h.kind (kindred_many k p)

-- They have the same counts.
pub kindred_counts : {xs ys : List Object} (ks : List Kind) → AllKindred xs ys → counts_of ks xs ≡ counts_of ks ys
unfolding counts_of
kindred_counts [] p = refl
kindred_counts (k ∷ ks) p = ap₂ ◌∷◌ (kindred_many k p) (kindred_counts ks p)

-- A function of what is found.
kindred_find : {A : Type 0} (g : Option Object → A) {xs ys : List Object} (k : Kind) (t : Word) → ((x y : Object) → Kindred x y → g (some x) ≡ g (some y)) → AllKindred xs ys
    → g (find_object k xs t) ≡ g (find_object k ys t)
unfolding find_object alike
kindred_find g k t c no_kindred = refl
kindred_find g k t c (more_kindred {x} {y} {xs} {ys} h p) =
    ap₂ (λ z b. g (pick (both (same_kind k z) (same b t.bytes)) (some x) (find_object k xs t))) h.kind h.name
    ∙ go (both (same_kind k y.kind) (same y.name.bytes t.bytes)) (kindred_find g k t c p)
  where
    go : (b : Bool) → g (find_object k xs t) ≡ g (find_object k ys t) → g (pick b (some x) (find_object k xs t)) ≡ g (pick b (some y) (find_object k ys t))
    go true e = c x y h
    go false e = e

-- A name is found in both or in neither.
pub kindred_there : {xs ys : List Object} (k : Kind) (t : Word) → AllKindred xs ys → is_there (find_object k xs t) ≡ is_there (find_object k ys t)
unfolding is_there
kindred_there k t p = kindred_find is_there k t (λ x y h. refl) p

-- A name has the same row in both.
pub kindred_objects : {xs ys : List Object} → AllKindred xs ys → SameObjects ys xs
unfolding row_or
kindred_objects p = record { row = λ k t. kindred_find row_or k t (λ x y h. h.row) p; there = λ k t. kindred_there k t p }

-- Their rows, without places.
pub kindred_rows : {xs ys : List Object} → AllKindred xs ys → each bare_object_row (object_rows xs) ≡ each bare_object_row (object_rows ys)
unfolding object_rows each bare_object_row
kindred_rows no_kindred = refl
kindred_rows (more_kindred h p) = ap₂ (λ k l. record { kind = k; word = absent; name = absent; block = absent; parts = 1 } ∷ l) h.kind (kindred_rows p)
