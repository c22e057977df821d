-- The table of defaults. Assumes nothing.
use mathlib.Core.Path.{◌≡◌, refl, sym, ◌∙◌, ap, subst}
use mathlib.Core.List.{List, [], ◌∷◌}
use Prim.Native.Nat.{ℕ, ◌+◌, ◌*◌, ◌<◌}
use native.Mathlib.Omega.{arith}
use native.Mathlib.Decide.{ℕ_discrete, dec_lt}
use lib.ListN.{length, get_or, replicate, length-replicate, get_or-replicate}
use lib.Seq.{sets, length-sets}
use Rattle.token.specs.Find.{bit}
use Rattle.token.specs.Tokens.{step_at}
use Rattle.rows.specs.Table.{part}
use Rattle.rows.proofs.Tables.{cell_of_lem}
use Rattle.rows.proofs.Stores.{part_sets_same, part_sets_before, part_sets_after}
use Rattle.meaning.specs.Syntax.{Num}
use Rattle.meaning.specs.Actions.{num_of_step}
use Rattle.scopes.specs.declared.Num.{Num as Number-of}
use Rattle.scopes.specs.Items.{num}
use Rattle.amounts.specs.Known.{InCells, KnownDefaults}
use Rattle.amounts.specs.Promises.{NotesDefault, NotesDefaults}

-- A number that was read, in cells.
pub in_cells : (n : Number-of) (m : Num) (c : ℕ) → num n ≡ m → c ≡ bit n.negative → InCells m c n.amount
in_cells n m c e h = record { negative = h ∙ ap (λ (x : Num). bit x.negative) e; amount = ap (λ (x : Num). x.amount) e }

-- A row is put.
module _ (s d t : List ℕ) (j : ℕ) (h : j < 512) (n : Number-of) (p : ℕ) (e : p ≡ get_or d (j * 19 + 10) 0) (m : num n ≡ num_of_step (step_at s p)) (c : ℕ) (g : c ≡ bit n.negative) where
  pub default_put : (t' : List ℕ) → t' ≡ sets t (j * 3) (1 ∷ c ∷ n.amount ∷ []) → NotesDefault s d t t'
  default_put t' q =
      let z = length-sets t (j * 3) (1 ∷ c ∷ n.amount ∷ []) in
      record {
        size = ap length q ∙ z;
        keeps = λ k. subst (KnownDefaults s d) (sym q) (record { room = z ∙ k.room; told = λ i l. by k i l (ℕ_discrete i j) });
      }
    where
      others : (i : ℕ) → (i ≡ j → ⊥) → part (sets t (j * 3) (1 ∷ c ∷ n.amount ∷ [])) (i * 3) 3 ≡ part t (i * 3) 3
      others i f = with-less (dec_lt i j)
        where
          with-less : Dec (i < j) → part (sets t (j * 3) (1 ∷ c ∷ n.amount ∷ [])) (i * 3) 3 ≡ part t (i * 3) 3
          with-less (yes o) = part_sets_before t (j * 3) (1 ∷ c ∷ n.amount ∷ []) (i * 3) 3 (omega (arith, o))
          with-less (no o) = part_sets_after t (j * 3) (1 ∷ c ∷ n.amount ∷ []) (i * 3) 3 (omega (arith, o, f))

      by : KnownDefaults s d t → (i : ℕ) → i < 512 → Dec (i ≡ j) → get_or (part (sets t (j * 3) (1 ∷ c ∷ n.amount ∷ [])) (i * 3) 3) 0 0 ≡ 1
          → InCells (num_of_step (step_at s (get_or d (i * 19 + 10) 0))) (get_or (part (sets t (j * 3) (1 ∷ c ∷ n.amount ∷ [])) (i * 3) 3) 1 0) (get_or (part (sets t (j * 3) (1 ∷ c ∷ n.amount ∷ [])) (i * 3) 3) 2 0)
      by k i l (yes f) x =
          let r = k.room in
          let o = part_sets_same t (j * 3) (1 ∷ c ∷ n.amount ∷ []) (omega (arith, r, h)) in
          let own = in_cells n (num_of_step (step_at s (get_or d (j * 19 + 10) 0))) c (m ∙ ap (λ a. num_of_step (step_at s a)) e) g in
          subst (λ a. InCells (num_of_step (step_at s (get_or d (a * 19 + 10) 0))) (get_or (part (sets t (j * 3) (1 ∷ c ∷ n.amount ∷ [])) (a * 3) 3) 1 0) (get_or (part (sets t (j * 3) (1 ∷ c ∷ n.amount ∷ [])) (a * 3) 3) 2 0))
          (sym f) (subst (λ l. InCells (num_of_step (step_at s (get_or d (j * 19 + 10) 0))) (get_or l 1 0) (get_or l 2 0)) (sym o) own)
      by k i l (no f) x =
          subst (λ r. get_or r 0 0 ≡ 1 → InCells (num_of_step (step_at s (get_or d (i * 19 + 10) 0))) (get_or r 1 0) (get_or r 2 0)) (sym (others i f)) (k.told i l) x

-- The rows noted so far.
pub record Rows (s d t₀ t : List ℕ) : Type 0 where
  pub size : length t ≡ length t₀
  pub known : NotesDefaults s d t₀ t

pub rows_start : (s d t : List ℕ) → Rows s d t t
rows_start s d t = record { size = refl; known = λ e. subst (KnownDefaults s d) (sym e) blank }
  where
    blank : KnownDefaults s d (replicate 1536 0)
    blank =
        record {
          room = length-replicate {A = ℕ} 1536 0;
          told = λ j l x.
              let z : get_or (part (replicate 1536 0) (j * 3) 3) 0 0 ≡ 0 = cell_of_lem (replicate 1536 0) (j * 3) 3 0 (omega arith) ∙ get_or-replicate 1536 (j * 3 + 0) 0 0 (omega (arith, l)) in
              absurd (omega (arith, x, z));
        }

pub rows_more : (s d t₀ t t' : List ℕ) → Rows s d t₀ t → NotesDefault s d t t' → Rows s d t₀ t'
rows_more s d t₀ t t' k m = record { size = m.size ∙ k.size; known = λ e. m.keeps (k.known e) }

-- What the table says.
pub remembered : (s d t : List ℕ) → KnownDefaults s d t → (j : ℕ) → j < 512 → (at p : ℕ) → p ≡ get_or d (j * 19 + 10) 0 → at ≡ p → (x a b : ℕ)
    → x ≡ get_or t (j * 3 + 0) 0 → x ≡ 1 → a ≡ get_or t (j * 3 + 1) 0 → b ≡ get_or t (j * 3 + 2) 0 → InCells (num_of_step (step_at s at)) a b
remembered s d t k j l at p e h x a b x-is y a-is b-is =
    let o = k.told j l (cell_of_lem t (j * 3) 3 0 (omega arith) ∙ sym x-is ∙ y) in
    record {
      negative = a-is ∙ sym (cell_of_lem t (j * 3) 3 1 (omega arith)) ∙ o.negative ∙ ap (λ i. bit (num_of_step (step_at s i)).negative) (sym (h ∙ e));
      amount = b-is ∙ sym (cell_of_lem t (j * 3) 3 2 (omega arith)) ∙ o.amount ∙ ap (λ i. (num_of_step (step_at s i)).amount) (sym (h ∙ e));
    }
