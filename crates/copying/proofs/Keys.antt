-- The keys of lists: no two lists of a text have the same, and the key is no entry's that has no list. Assumes nothing.
use mathlib.Core.Path.{◌≡◌, refl, ◌∙◌, ap}
use mathlib.Core.List.{List, [], ◌∷◌, ◌++◌}
use mathlib.Core.Bool.{Bool, false}
use Prim.Native.Nat.{ℕ, suc, ◌+◌, ◌*◌, ◌≤◌, ◌<◌}
use native.Mathlib.Omega.{arith}
use lib.ListN.{length, length-append}
use lib.Dec.{eqb}
use borrow.Author.Tests.{eq-eqb, ne_eqb}
use Rattle.token.specs.Find.{pick}
use Rattle.std.specs.Prelude.{Some, None}
use Rattle.rows.proofs.Walks.{first, any_of, first_append}
use Rattle.rows.specs.Search.{find_from, has_key, find_row, row_of}
use Rattle.meaning.specs.Syntax.{Word, Definitions, no_more, define, Values, no_value, value, File}
use Rattle.meaning.proofs.Standing.{Run}
use Rattle.meaning.proofs.Sites.{definition_words, value_words}
use Rattle.layout.specs.Kept.{Entry, list_key, entries, entries_under, spec_entries, definition_cells, kept_definitions}
use Rattle.scopes.proofs.Rooms.{definition_cell}
use Rattle.meaning.proofs.Runs.{run_le, cut, Out, cuts}
use Rattle.scopes.proofs.Finding.{seek_all}
use Rattle.copying.specs.Copies.{attribute_of}

-- The list of none of some definitions has the key k.
abbrev pub NoKey : ℕ → List Entry → Type 0
NoKey k [] = Unit {0}
NoKey k (x ∷ xs) = (list_key x.values ≡ k → ⊥) × NoKey k xs

pub no_key_append : (a : List Entry) (k : ℕ) (b : List Entry) → NoKey k a → NoKey k b → NoKey k (a ++ b)
no_key_append [] k b f g = g
no_key_append (x ∷ a) k b f g = (f.0, no_key_append a k b f.1 g)

-- The key of a list is the place of its first word, and 0 is no word's.
pub key_out : (vs : Values) (lo hi x : ℕ) → Run lo (value_words vs) hi → 0 < x → Out x lo hi → list_key vs ≡ x → ⊥
unfolding list_key value_words
key_out no_value lo hi x r h o e = omega arith
key_out (value w n us vs) lo hi x r h o e = let a = run_le (definition_words us ++ value_words vs) r.1 in o w.place r.0 (omega arith) e

mutual
  unfolding entries definition_words

  pub no_key_in : (ds : Definitions) (u : Word) (p lo hi x : ℕ) → Run lo (definition_words ds) hi → 0 < x → Out x lo hi → NoKey x (entries ds u p)
  no_key_in no_more u p lo hi x r h o = tt
  no_key_in (define d vs ds) u p lo hi x r h o =
      let k = cuts d vs ds lo hi r in
      let i = k.low in
      let j = k.next in
      let l = run_le (definition_words ds) k.rest in
      let m = run_le (value_words vs) k.values in
      no_key_append (entries_under vs (list_key vs)) x (record { under = u; outer = p; definition = d; values = vs } ∷ entries ds u p)
      (no_key_under vs (list_key vs) k.a k.b x k.values h (λ y a b. o y (omega arith) (omega arith))) (
        key_out vs k.a k.b x k.values h (λ y a b. o y (omega arith) (omega arith)),
        no_key_in ds u p k.c hi x k.rest h (λ y a b. o y (omega arith) b),
      )

  pub no_key_under : (vs : Values) (p lo hi x : ℕ) → Run lo (value_words vs) hi → 0 < x → Out x lo hi → NoKey x (entries_under vs p)
  no_key_under no_value p lo hi x r h o = tt
  no_key_under (value w n us vs) p lo hi x r h o =
      let i = r.0 in
      let k = cut (definition_words us) (value_words vs) (suc w.place) hi r.1 in
      let l = run_le (definition_words us) k.front in
      let m = run_le (value_words vs) k.back in
      no_key_append (entries us w p) x (entries_under vs p)
      (no_key_in us w p (suc w.place) k.mid x k.front h (λ y a b. o y (omega arith) (omega arith)))
      (no_key_under vs p k.mid hi x k.back h (λ y a b. o y (omega arith) b))

-- As many entries as definitions.
-- The search -------------------------------------------------------------------------------------------------------------------------------

has_list : ℕ → Entry → Bool
has_list k x = eqb (list_key x.values) k

none_has : (k : ℕ) (xs : List Entry) → NoKey k xs → any_of (has_list k) xs ≡ false
unfolding any_of has_list
none_has k [] h = refl
none_has k (x ∷ xs) h = rw (ne_eqb (list_key x.values) k h.0) (none_has k xs h.1)

-- Cell 14 of a kept row is the key of its list.
key_cell : (f : File) (d : List ℕ) (k : ℕ) → d ≡ kept_definitions f → (a : List Entry) (x : Entry) (b : List Entry)
    → spec_entries f.specs ≡ a ++ (x ∷ b) → length a < 513 → has_key d (length a * 19) 14 k ≡ has_list k x
unfolding has_key has_list definition_cells
key_cell f d k e a x b w h =
    ap (λ (v : ℕ). eqb v k) (definition_cell f d (length a) 14 x e (record { front = a; rest = b; whole = w; place = refl }) h (omega arith))

-- A search by key over the kept rows is one over the definitions.
find_key : (f : File) (d : List ℕ) (n k : ℕ) → d ≡ kept_definitions f → n ≡ length (spec_entries f.specs) → n ≤ 513
    → find_row d 19 n 14 k 0 ≡ first (has_list k) Some None 0 (spec_entries f.specs)
unfolding find_row
find_key f d n k e m h =
    ap (λ (q : ℕ). find_from (λ j. has_key d (j * 19) 14 k) q 0) m
    ∙ seek_all (has_list k) (λ j. has_key d (j * 19) 14 k) (spec_entries f.specs) (λ a x b w.
    let p : length (spec_entries f.specs) ≡ length (a ++ (x ∷ b)) = ap length w in
    let q = length-append a (x ∷ b) in
    key_cell f d k e a x b w (omega arith))

-- The first definition with a list's key is found by it.
pub attribute_found : (f : File) (d : List ℕ) (n : ℕ) → d ≡ kept_definitions f → n ≡ length (spec_entries f.specs) → n ≤ 513
    → (a : List Entry) (x : Entry) (b : List Entry) → spec_entries f.specs ≡ a ++ (x ∷ b) → NoKey (list_key x.values) a
    → attribute_of d n (list_key x.values) ≡ length a
unfolding attribute_of row_of first has_list
attribute_found f d n e m h a x b w g =
    let k = list_key x.values in
    let z : 0 + length a ≡ length a = omega arith in
    ap row_of
    (find_key f d n k e m h
    ∙ ap (first (has_list k) Some None 0) w
    ∙ first_append (has_list k) Some None 0 a (x ∷ b) (none_has k a g)
    ∙ ap (λ (t : Bool). pick t (Some (0 + length a)) (first (has_list k) Some None (suc (0 + length a)) b)) (eq-eqb k k refl))
    ∙ z
