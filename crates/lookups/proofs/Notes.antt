-- The laws of noted ranks, and of names that are compared by them first.
-- Assumes nothing.
use Prim.Native.Nat.{ℕ, ◌+◌, ◌*◌, ◌<◌, min, ◌≤◌}
use mathlib.Core.Path.{◌≡◌, sym, ap, ap₂, subst, ◌∙◌}
use mathlib.Core.List.{List}
use native.Mathlib.Omega.{arith}
use native.Mathlib.Decide.{ℕ_discrete}
use lib.ListN.{length, get_or, set}
use lib.Seq.{get_or-set_same, get_or-set_other}
use Rattle.rows.specs.Search.{row_name}
use Rattle.token.specs.Tokens.{part_of}
use Rattle.rows.proofs.Starts.{cell_start, cell_column}
use Rattle.indexes.specs.Indexing.{Ranks, name_rank, Indexed}
use Rattle.lookups.specs.Ranks.{NotesRanks}

-- each of the first n cells of h is the number of the name of the row of its place
pub record RankedTo (f : List ℕ → ℕ) (s t : List ℕ) (w m n : ℕ) (h : List ℕ) : Type 0 where
  pub cell : (i : ℕ) → i < n → get_or h i 0 ≡ f (row_name s t w m i)

-- the first n cells of h are ranks of names among those of the definitions d, if x is the index of the definitions
unfoldable pub NotesRanksTo : List ℕ → List ℕ → List ℕ → List ℕ → (w m n : ℕ) → List ℕ → Type 0
NotesRanksTo s d x t w m n h = (k : ℕ) → Indexed s d 19 k 0 2 x → k ≤ 65536 → RankedTo (name_rank s d 19 0 2 x) s t w m n h

-- the cells of a row's name, by a place where the row begins that is no larger than the end
module _ (t : List ℕ) (w m i a m2 p n : ℕ) (d : m2 ≡ min (length t) (m + 1)) (e : a ≡ min (length t) (i * w)) where
  pub row_place : p ≡ get_or t (a + m) 0 → p ≡ get_or t (i * w + m) 0
  row_place f = f ∙ ap (λ (k : ℕ). get_or t (k + m) 0) e ∙ cell_start t (i * w) m

  pub row_size : n ≡ get_or t (a + m2) 0 → n ≡ get_or t (i * w + (m + 1)) 0
  row_size g =
      g ∙ ap₂ (λ (k j : ℕ). get_or t (k + j) 0) e d ∙ cell_start t (i * w) (min (length t) (m + 1)) ∙ cell_column t (i * w) (m + 1)

module _ (s d x t : List ℕ) (w m : ℕ) where
  -- no rank is noted
  pub noted_none : (h : List ℕ) → NotesRanksTo s d x t w m 0 h
  unfolding NotesRanksTo
  noted_none h k g l = record { cell = λ i b. absurd (omega arith) }

  -- one more
  pub noted_more : (j : ℕ) (h : List ℕ) (m2 y p n v : ℕ) → NotesRanksTo s d x t w m j h → j < length h → m2 ≡ min (length t) (m + 1)
      → y ≡ min (length t) (j * w) → p ≡ get_or t (y + m) 0 → n ≡ get_or t (y + m2) 0 → Ranks s d 19 0 2 x (part_of s p n) v
      → NotesRanksTo s d x t w m (j + 1) (set h j v)
  unfolding NotesRanksTo Ranks row_name
  noted_more j h m2 y p n v f g c e a b r k z q = record { cell = λ i l. by i l (ℕ_discrete i j) }
    where
      number : List ℕ → ℕ
      number = name_rank s d 19 0 2 x

      by : (i : ℕ) → i < j + 1 → Dec (i ≡ j) → get_or (set h j v) i 0 ≡ number (part_of s (get_or t (i * w + m) 0) (get_or t (i * w + (m + 1)) 0))
      by i l (yes o) =
          subst (λ (u : ℕ). get_or (set h j v) u 0 ≡ number (part_of s (get_or t (u * w + m) 0) (get_or t (u * w + (m + 1)) 0))) (sym o)
          (get_or-set_same h j v 0 g ∙ r k z q ∙ ap₂ (λ (i l : ℕ). number (part_of s i l)) (row_place t w m j y m2 p n c e a) (row_size t w m j y m2 p n c e b))
      by i l (no o) = get_or-set_other h j i v 0 o ∙ (f k z q).cell i (omega arith)

  -- all
  pub noted_all : (j : ℕ) (h : List ℕ) → NotesRanksTo s d x t w m j h → j ≡ length h → NotesRanks s d x t w m h
  unfolding NotesRanksTo NotesRanks
  noted_all j h f e k g l = record { cell = λ i b. (f k g l).cell i (omega arith) }
