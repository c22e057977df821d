-- Of which rows none stands under a word, or is of a list, by the places of words. Assumes nothing.
use mathlib.Core.Path.{◌≡◌, refl, sym, ◌∙◌, ap, ap₂}
use mathlib.Core.List.{List, [], ◌∷◌, ◌++◌, append_assoc, append-nil}
use mathlib.Core.Bool.{true, not}
use Prim.Native.Nat.{ℕ, suc, ◌<◌}
use native.Mathlib.Omega.{arith}
use lib.Dec.{eqb}
use borrow.Author.Tests.{eq-eqb, ne_eqb}
use Rattle.token.specs.Find.{pick, both}
use Rattle.meaning.specs.Syntax.{Word, Definition, Definitions, no_more, define, Values, no_value, value}
use Rattle.meaning.specs.Scopes.{heads}
use Rattle.meaning.proofs.Standing.{Run}
use Rattle.meaning.proofs.Sites.{definition_words, value_words}
use Rattle.layout.specs.Kept.{Entry, Choice, list_key, entries, entries_under}
use Rattle.scopes.specs.Situations.{NoneOf}
use Rattle.defining_checks.specs.Listing.{keep_if, under_of, others_of, others_for, word_if, list_of}
use Rattle.token.proofs.Bytes.{both_false}
use Rattle.meaning.proofs.Runs.{run_le, cut, Out, cuts}

-- No row is under the word at x, or under a value of the list with the key x.
abbrev pub Clear : ℕ → List Entry → Type 0
Clear x [] = Unit {0}
Clear x (y ∷ ys) = ((y.under.place ≡ x → ⊥) × (y.outer ≡ x → ⊥)) × Clear x ys

pub clear_append : (a : List Entry) (x : ℕ) (b : List Entry) → Clear x a → Clear x b → Clear x (a ++ b)
clear_append [] x b f g = g
clear_append (y ∷ a) x b f g = (f.0, clear_append a x b f.1 g)

-- The key of a list is the place of its first word.
by_key : (vs : Values) (lo hi x : ℕ) → Run lo (value_words vs) hi → Out x lo hi
    → ((list_key vs ≡ x → ⊥) → Clear x (entries_under vs (list_key vs))) → Clear x (entries_under vs (list_key vs))
unfolding list_key entries_under value_words
by_key no_value lo hi x r o f = tt
by_key (value w e us vs) lo hi x r o f = let a = r.0 in let c = run_le (definition_words us ++ value_words vs) r.1 in f (o w.place a (omega arith))

mutual
  unfolding entries definition_words

  pub clear_in : (ds : Definitions) (u : Word) (o lo hi x : ℕ) → Run lo (definition_words ds) hi → (u.place ≡ x → ⊥) → (o ≡ x → ⊥) → Out x lo hi → Clear x (entries ds u o)
  clear_in no_more u o lo hi x r h i out = tt
  clear_in (define d vs ds) u o lo hi x r h i out =
      let k = cuts d vs ds lo hi r in
      let k₁ = k.low in
      let k₂ = k.next in
      let l = run_le (definition_words ds) k.rest in
      let m = run_le (value_words vs) k.values in
      clear_append (entries_under vs (list_key vs)) x (record { under = u; outer = o; definition = d; values = vs } ∷ entries ds u o)
      (by_key vs k.a k.b x k.values (λ y p q. out y (omega arith) (omega arith))
      (λ n. clear_under vs (list_key vs) k.a k.b x k.values n (λ y p q. out y (omega arith) (omega arith))))
      ((h, i), clear_in ds u o k.c hi x k.rest h i (λ y p q. out y (omega arith) q))

  pub clear_under : (vs : Values) (key lo hi x : ℕ) → Run lo (value_words vs) hi → (key ≡ x → ⊥) → Out x lo hi → Clear x (entries_under vs key)
  clear_under no_value key lo hi x r h out = tt
  clear_under (value w e us vs) key lo hi x r h out =
      let i = r.0 in
      let k = cut (definition_words us) (value_words vs) (suc w.place) hi r.1 in
      let l = run_le (definition_words us) k.front in
      let m = run_le (value_words vs) k.back in
      clear_append (entries us w key) x (entries_under vs key)
      (clear_in us w key (suc w.place) k.mid x k.front (out w.place i (omega arith)) h (λ y p q. out y (omega arith) (omega arith)))
      (clear_under vs key k.mid hi x k.back h (λ y p q. out y (omega arith) q))

-- The rows under the values of a list.
pub clear_list : (vs : Values) (lo hi x : ℕ) → Run lo (value_words vs) hi → Out x lo hi → Clear x (entries_under vs (list_key vs))
clear_list vs lo hi x r out = by_key vs lo hi x r out (λ n. clear_under vs (list_key vs) lo hi x r n out)

-- What such rows have ------------------------------------------------------------------------------------------------------------------------

pub under_clear : (p : ℕ) (l : List Entry) → Clear p l → under_of p l ≡ []
unfolding under_of keep_if
under_clear p [] h = refl
under_clear p (y ∷ l) h = ap (λ b. keep_if b y.definition ++ under_of p l) (ne_eqb y.under.place p h.0.0) ∙ under_clear p l h.1

pub others_clear : (o p : ℕ) (l : List Entry) → Clear o l → others_of o p l ≡ []
unfolding others_of keep_if
others_clear o p [] h = refl
others_clear o p (y ∷ l) h =
    ap (λ b. keep_if (both b (not (eqb y.under.place p))) y.definition ++ others_of o p l) (ne_eqb y.outer o h.0.1) ∙ others_clear o p l h.1

pub list_none : (k : ℕ) (l : List Choice) → NoneOf k l → list_of k l ≡ []
unfolding list_of word_if
list_none k [] h = refl
list_none k (c ∷ l) h = ap (λ b. word_if b c.word ++ list_of k l) (ne_eqb c.list k h.0) ∙ list_none k l h.1

pub under_append : (p : ℕ) (a b : List Entry) → under_of p (a ++ b) ≡ under_of p a ++ under_of p b
unfolding under_of
under_append p [] b = refl
under_append p (y ∷ a) b =
    let k = keep_if (eqb y.under.place p) y.definition in
    ap (λ l. k ++ l) (under_append p a b) ∙ sym (append_assoc k (under_of p a) (under_of p b))

pub others_append : (o p : ℕ) (a b : List Entry) → others_of o p (a ++ b) ≡ others_of o p a ++ others_of o p b
unfolding others_of
others_append o p [] b = refl
others_append o p (y ∷ a) b =
    let k = keep_if (both (eqb y.outer o) (not (eqb y.under.place p))) y.definition in
    ap (λ l. k ++ l) (others_append o p a b) ∙ sym (append_assoc k (others_of o p a) (others_of o p b))

pub list_append : (k : ℕ) (a b : List Choice) → list_of k (a ++ b) ≡ list_of k a ++ list_of k b
unfolding list_of
list_append k [] b = refl
list_append k (y ∷ a) b =
    let w = word_if (eqb y.list k) y.word in
    ap (λ l. w ++ l) (list_append k a b) ∙ sym (append_assoc w (list_of k a) (list_of k b))

-- Rows behind that change nothing.
pub under_more : (p : ℕ) (a b : List Entry) {l : List Definition} → under_of p a ≡ l → Clear p b → under_of p (a ++ b) ≡ l
under_more p a b {l} e h = under_append p a b ∙ ap₂ ◌++◌ e (under_clear p b h) ∙ append-nil l

pub others_more : (o p : ℕ) (a b : List Entry) {l : List Definition} → others_of o p a ≡ l → others_of o p b ≡ [] → others_of o p (a ++ b) ≡ l
others_more o p a b {l} e h = others_append o p a b ∙ ap₂ ◌++◌ e h ∙ append-nil l

pub others_for_more : (o p : ℕ) (a b : List Entry) {l : List Definition} → others_for o p a ≡ l → others_of o p b ≡ [] → others_for o p (a ++ b) ≡ l
unfolding others_for
others_for_more o p a b e h = ap (pick (eqb o 0) []) (others_more o p a b refl h) ∙ e

-- The row itself is under its word, and not under another value.
pub under_own : (x : Entry) → under_of x.under.place (x ∷ []) ≡ x.definition ∷ []
unfolding under_of keep_if
under_own x = ap (λ b. keep_if b x.definition ++ []) (eq-eqb x.under.place x.under.place refl)

pub others_own : (o : ℕ) (x : Entry) → others_of o x.under.place (x ∷ []) ≡ []
unfolding others_of keep_if
others_own o x =
    ap (λ b. keep_if (both (eqb x.outer o) (not b)) x.definition ++ []) (eq-eqb x.under.place x.under.place refl)
    ∙ ap (λ b. keep_if b x.definition ++ []) (both_false (eqb x.outer o))

-- The rows under one value of a list, for another value: those of its own scope.
pub own_heads : (ds : Definitions) (w : Word) (key p lo hi : ℕ) → Run lo (definition_words ds) hi → key < lo → (w.place ≡ p → ⊥) → others_of key p (entries ds w key) ≡ heads ds
unfolding entries others_of heads keep_if
own_heads no_more w key p lo hi r h n = refl
own_heads (define d vs ds) w key p lo hi r h n =
    let k = cuts d vs ds lo hi r in
    let k₁ = k.low in
    let k₂ = k.next in
    let m = run_le (value_words vs) k.values in
    let x : Entry = record { under = w; outer = key; definition = d; values = vs } in
    let t : both (eqb key key) (not (eqb w.place p)) ≡ true = ap₂ (λ a b. both a (not b)) (eq-eqb key key refl) (ne_eqb w.place p n) in
    others_append key p (entries_under vs (list_key vs)) (x ∷ entries ds w key)
    ∙ ap₂ ◌++◌ (others_clear key p (entries_under vs (list_key vs)) (clear_list vs k.a k.b key k.values (λ y a b e. omega arith)))
    (ap (λ b. keep_if b d ++ others_of key p (entries ds w key)) t ∙ ap (λ l. d ∷ l) (own_heads ds w key p k.c hi k.rest (omega arith) n))
