-- What is found through an index is what the meaning has. Assumes nothing.
use Prim.Native.Nat.{ℕ, ◌+◌, ◌*◌}
use mathlib.Core.Path.{◌≡◌}
use mathlib.Core.List.{List}
use lib.ListN.{get_or}
use Rattle.rows.specs.Found.{Found}
use Rattle.std.specs.Prelude.{Some, None}
use Rattle.indexes.specs.Indexing.{Finds}
use Rattle.scopes.specs.Promises.{FindsTruth}
use Rattle.scopes.proofs.Answering.{finds_in_scope, finds_in_objects}
use Rattle.scopes.proofs.Taking.{finds_enumerator, word_truth, word_nothing, word_none, word_some}
use Rattle.lookups.specs.Answers.{DefinitionIndexed, ObjectIndexed, EnumeratorIndexed, WordIndexed}

-- a definition
pub definition_indexed : (s d x : List ℕ) (key at len : ℕ) (r : Found) → Finds s d 19 0 key 2 at len x r → DefinitionIndexed s d x key at len r
unfolding Finds DefinitionIndexed
definition_indexed s d x key at len r f n i b = finds_in_scope s d n key at len r (f n i b)

-- an object
pub object_indexed : (s o x : List ℕ) (kind at len : ℕ) (r : Found) → Finds s o 10 0 kind 3 at len x r → ObjectIndexed s o x kind at len r
unfolding Finds ObjectIndexed
object_indexed s o x kind at len r f n i b = finds_in_objects s o n kind at len r (f n i b)

module _ (s d e x : List ℕ) (j at len : ℕ) where
  -- an enumerator
  pub enumerator_indexed : (key : ℕ) (r : Found) → key ≡ get_or d (j * 19 + 14) 0 → Finds s e 3 0 key 1 at len x r → EnumeratorIndexed s d e x j at len r
  unfolding Finds EnumeratorIndexed
  enumerator_indexed key r h f n i b = finds_enumerator s d e n j at len key r h (f n i b)

  module _ (c : ℕ) (h : c ≡ get_or d (j * 19 + 12) 0) where
    -- a word of a BOOLEAN
    pub truth_indexed : (r : ℕ) → c ≡ 40 → FindsTruth s d j at len r → WordIndexed s d e x j at len r
    unfolding WordIndexed
    truth_indexed r k g n i b = word_truth s d e n j at len c h r k g

    -- of an attribute without a list
    pub nothing_indexed : (c ≡ 40 → ⊥) → (c ≡ 41 → ⊥) → WordIndexed s d e x j at len 0
    unfolding WordIndexed
    nothing_indexed k k2 n i b = word_nothing s d e n j at len c h k k2

    module _ (k : c ≡ 41) (z : Found) (g : EnumeratorIndexed s d e x j at len z) where
      -- of an ENUM: none
      pub none-indexed : z ≡ None → WordIndexed s d e x j at len 0
      unfolding EnumeratorIndexed WordIndexed
      none-indexed y n i b = word_none s d e n j at len c h k z (g n i b) y

      -- and one
      pub word-indexed : (v r : ℕ) → z ≡ Some v → r ≡ get_or e (v * 3 + 1) 0 → WordIndexed s d e x j at len r
      unfolding EnumeratorIndexed WordIndexed
      word-indexed v r y w n i b = word_some s d e n j at len c h k z (g n i b) v r y w
