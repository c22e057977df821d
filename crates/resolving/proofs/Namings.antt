-- The enumerators that words are, those of defaults looked up once. Assumes nothing.
use mathlib.Core.Path.{◌≡◌, sym, ◌∙◌, ap, subst}
use mathlib.Core.List.{List}
use Prim.Native.Nat.{ℕ, suc, ◌+◌, ◌-◌, ◌*◌, ◌≤◌, ◌<◌}
use native.Mathlib.Omega.{arith}
use native.Mathlib.Decide.{ℕ_discrete, dec_le}
use lib.ListN.{length, get_or, set}
use lib.Seq.{get_or-set_same, get_or-set_other}
use Rattle.rows.specs.Found.{Found}
use Rattle.std.specs.Prelude.{Some, None}
use Rattle.rows.proofs.Starts.{cell_past}
use Rattle.scopes.specs.Promises.{FindsEnumerator, FindsObject, FindsWord}
use Rattle.scopes.proofs.Taking.{word_none, word_some}
use Rattle.indexes.specs.Indexing.{Indexed}
use Rattle.lookups.specs.Answers.{EnumeratorIndexed, ObjectIndexed, WordIndexed}
use Rattle.scopes.specs.declared.Sizes.{Sizes}
use Rattle.resolving.specs.Noted.{WordNoted, WordsNoted, Indexes, NotesWord, NotesTo, EnumeratorNoted, WordFound}

module _ {s d e x : List ℕ} {j : ℕ} where
  -- Nothing is noted.
  pub notes_none : NotesWord s d e x j 0
  notes_none = record { noted = λ n h l. record { told = λ i q. absurd (omega arith) } }

  -- The row that was found.
  pub notes_found : (at len : ℕ) (r : Found) (i : ℕ) → at ≡ get_or d (j * 19 + 10) 0 → len ≡ get_or d (j * 19 + 11) 0 → EnumeratorIndexed s d e x j at len r → r ≡ Some i
      → NotesWord s d e x j (i + 1)
  unfolding EnumeratorIndexed
  notes_found at len r i a b f p = record {
    noted = λ n h l. record {
      told = λ k q.
          let m : i ≡ k = omega arith in
          let g : FindsEnumerator s d e n j at len (Some k) = subst (λ y. FindsEnumerator s d e n j at len y) (p ∙ ap Some m) (f n h l) in
          subst (λ y. FindsEnumerator s d e n j y (get_or d (j * 19 + 11) 0) (Some k)) a (subst (λ y. FindsEnumerator s d e n j at y (Some k)) b g);
    };
  }

module _ {s d e x : List ℕ} where
  pub notes_start : {t : List ℕ} → NotesTo s d e x 0 t
  notes_start = record { cell = λ j h. absurd (omega arith) }

  pub notes_more : {t : List ℕ} {i c : ℕ} → NotesTo s d e x i t → i < length t → NotesWord s d e x i c → NotesTo s d e x (i + 1) (set t i c)
  notes_more {t} {i} {c} p h q = record { cell = λ j l. by j l (ℕ_discrete j i) }
    where
      by : (j : ℕ) → j < i + 1 → Dec (j ≡ i) → NotesWord s d e x j (get_or (set t i c) j 0)
      by j l (yes m) = subst (λ k. NotesWord s d e x k (get_or (set t i c) k 0)) (sym m) (subst (NotesWord s d e x i) (sym (get_or-set_same t i c 0 h)) q)
      by j l (no m) = subst (NotesWord s d e x j) (sym (get_or-set_other t i j c 0 m)) (p.cell j (omega arith))

  pub notes_all : {t : List ℕ} {i : ℕ} → NotesTo s d e x i t → i ≡ length t → NotesTo s d e x (length t) t
  notes_all {t} p q = subst (λ k. NotesTo s d e x k t) q p

  -- All defaults are noted.
  pub words_noted : (n : ℕ) (t : List ℕ) → Indexed s e 3 n 0 1 x → n ≤ 65536 → NotesTo s d e x (length t) t → WordsNoted s d e n t
  words_noted n t h l p = record { cell = λ j. by j (dec_le (length t) j) }
    where
      by : (j : ℕ) → Dec (length t ≤ j) → WordNoted s d e n j (get_or t j 0)
      by j (yes m) = record { told = λ i q. let z : get_or t j 0 ≡ 0 = cell_past t j m in absurd (omega arith) }
      by j (no m) = (p.cell j (omega arith)).noted n h l

back : {c : ℕ} → (c ≡ 0 → ⊥) → c ≡ suc (c - 1)
back h = omega arith

module _ {s d e x words : List ℕ} {j : ℕ} where
  -- The enumerator is looked up, or was noted.
  pub enumerator_looked : {at len : ℕ} {r : Found} → EnumeratorIndexed s d e x j at len r → EnumeratorNoted s d e x words j at len r
  unfolding EnumeratorIndexed
  enumerator_looked f = record { finds = λ n h l k. f n h l }

  pub enumerator_noted : {at len c c₁ c₂ : ℕ} → c ≡ get_or words j 0 → (c ≡ 0 → ⊥) → c₁ ≡ get_or d (j * 19 + 10) 0 → c₁ ≡ at → c₂ ≡ get_or d (j * 19 + 11) 0 → c₂ ≡ len
      → EnumeratorNoted s d e x words j at len (Some (c - 1))
  enumerator_noted {at} {len} {c} p nz a₁ b₁ a₂ b₂ = record {
    finds = λ n h l k.
        let g = (k.cell j).told (c - 1) (sym p ∙ back nz) in
        subst (λ y. FindsEnumerator s d e n j y len (Some (c - 1))) (sym a₁ ∙ b₁) (subst (λ y. FindsEnumerator s d e n j (get_or d (j * 19 + 10) 0) y (Some (c - 1))) (sym a₂ ∙ b₂) g);
  }

  module _ {at len : ℕ} where
    pub word_looked : {r : ℕ} → WordIndexed s d e x j at len r → WordFound s d e x words j at len r
    unfolding WordIndexed
    word_looked f = record { finds = λ n h l k. f n h l }

    module _ {c : ℕ} {q : Found} (a : c ≡ get_or d (j * 19 + 12) 0) (b : c ≡ 41) (f : EnumeratorNoted s d e x words j at len q) where
      pub word_nothing : q ≡ None → WordFound s d e x words j at len 0
      word_nothing p = record { finds = λ n h l k. word_none s d e n j at len c a b q (f.finds n h l k) p }

      pub word_found : {i r : ℕ} → q ≡ Some i → r ≡ get_or e (i * 3 + 1) 0 → WordFound s d e x words j at len r
      word_found {i} {r} p w = record { finds = λ n h l k. word_some s d e n j at len c a b q (f.finds n h l k) i r p w }

-- What is found where the names are indexed.
module _ {s d e o : List ℕ} {z : Sizes} {words xe xo : List ℕ} (h : Indexes s d e o z words xe xo) where
  pub enumerator_is : {j at len : ℕ} {r : Found} → EnumeratorNoted s d e xe words j at len r → FindsEnumerator s d e z.enumerators j at len r
  enumerator_is f = f.finds z.enumerators h.enumerators (let l = h.enumerators_fit in omega arith) h.defaults

  pub word_is : {j at len r : ℕ} → WordFound s d e xe words j at len r → FindsWord s d e z.enumerators j at len r
  word_is f = f.finds z.enumerators h.enumerators (let l = h.enumerators_fit in omega arith) h.defaults

  pub object_is : (kind at len : ℕ) (r : Found) → ObjectIndexed s o xo kind at len r → FindsObject s o z.objects kind at len r
  unfolding ObjectIndexed
  object_is kind at len r f = f z.objects h.objects (let l = h.objects_fit in omega arith)
