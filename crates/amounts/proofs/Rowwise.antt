-- The row of a range: two bounds, a list, or two floats. Assumes nothing.
use mathlib.Core.Path.{◌≡◌, refl, sym, ◌∙◌, ap, ap₂, subst}
use mathlib.Core.List.{List, [], ◌∷◌, ◌++◌, append-nil}
use mathlib.Core.Bool.{Bool, true, false}
use Prim.Native.Nat.{ℕ, ◌+◌, ◌-◌, ◌*◌, ◌/◌, ◌≤◌, ◌<◌}
use native.Mathlib.Omega.{arith}
use lib.ListN.{length, get_or, take, drop, length-append, length-drop, drop_of_length-le, replicate}
use lib.Seq.{sets, length-sets, length-take-le, take_at, drop_at, length_front}
use Rattle.token.specs.Find.{both, either, bit}
use Rattle.token.specs.Tokens.{step_at}
use Rattle.rows.specs.Table.{part}
use Rattle.rows.proofs.Stores.{part_sets_after}
use Rattle.sorting.specs.Sorted.{among_cells, Rising, Sorted}
use Rattle.meaning.specs.Syntax.{Num, Word, Bounds}
use Rattle.meaning.specs.Actions.{float_of_step}
use Rattle.meaning.specs.Words.{num_at_most, equal, among_numbers, in_bounds, in_float_bounds}
use Rattle.scopes.specs.declared.Item.{Item}
use Rattle.scopes.specs.Items.{num, item_at}
use Rattle.scopes.specs.Ranges.{Listed, RangeAt, range_none, range_two, range_list, FloatsAt}
use Rattle.scopes.proofs.Ranging.{in_two, below_two}
use Rattle.scopes.proofs.Floating.{floats_in, floats_below}
use Rattle.amounts.specs.Keys.{signed_code, key, Listing}
use Rattle.amounts.specs.Known.{num_in, float_in, Noted}
use Rattle.amounts.specs.Promises.{Keyed, KeyedRising, NotesRow, NotesFloats, Notes}
use Rattle.amounts.proofs.Frames.{noted_behind, noted_put, noted_blank}

-- Sorted cells -------------------------------------------------------------------------------------------------------------------------------

module _ (s : List ℕ) (g : Bool) (m : Num) (from : ℕ) (l l' : List ℕ) (n : ℕ) (k : Keyed s g m from l l' n) where
  pub no_room : KeyedRising s g m from l l' 0
  no_room = record { keyed = record { size = k.size; inside = omega arith; tells = λ z. absurd (z refl) }; rising = λ z. absurd (z refl) }

  pub in_rise : (room : ℕ) (q : List ℕ) → n / 2 ≤ room → Sorted (take n l') room q → KeyedRising s g m from l (q ++ drop n l') n
  in_rise room q h o =
      let a = k.size in
      let b = k.inside in
      let w = length-take-le n l' (omega arith) in
      let z = o.size in
      let e : length q ≡ n = omega arith in
      let t = take_at q (drop n l') n e in
      record {
        keyed = record {
          size = length_front l' q n o.size ∙ k.size;
          inside = b;
          tells = λ y ws u x p. ap (among_cells (key x)) t ∙ o.cells (key x) ∙ k.tells y ws u x p;
        };
        rising = λ y. subst Rising (sym t) (o.rising (omega arith));
      }

-- What is lent behind a place -----------------------------------------------------------------------------------------------------------------

tail_size : (t : List ℕ) (u : ℕ) → length (take (length t - u) (drop u t)) ≡ length t - u
tail_size t u = length-take-le (length t - u) (drop u t) (let e = length-drop u t in omega (arith, e))

tail_put : (t q : List ℕ) (u : ℕ) → take u t ++ (q ++ drop (length t - u) (drop u t)) ≡ take u t ++ q
tail_put t q u =
    let e = length-drop u t in
    let h : length (drop u t) ≤ length t - u = omega (arith, e) in
    ap (λ l. take u t ++ l) (ap (λ l. q ++ l) (drop_of_length-le (drop u t) h) ∙ append-nil q)

-- Two bounds --------------------------------------------------------------------------------------------------------------------------------

pub put_two : (t t' : List ℕ) (p x m y n : ℕ) (a b : Bool) → t' ≡ sets t p (1 ∷ x ∷ m ∷ y ∷ n ∷ []) → x ≡ bit a → y ≡ bit b → t' ≡ sets t p (1 ∷ bit a ∷ m ∷ bit b ∷ n ∷ [])
put_two t t' p x m y n a b e h k = e ∙ ap₂ (λ u v. sets t p (1 ∷ u ∷ m ∷ v ∷ n ∷ [])) h k

num_of_cells : (b : Bool) (x : ℕ) → num_in (bit b) x ≡ record { negative = b; amount = x }
unfolding num_in bit
num_of_cells true x = refl
num_of_cells false x = refl

-- The list that a range holds.
record Words (s : List ℕ) (m : Num) (from : ℕ) (b : Bounds) : Type 0 where
  words : List Word
  listed : Listed s from words
  tells : (n : Num) → either (equal n m) (among_numbers n words) ≡ in_bounds n b

module _ (s d : List ℕ) (j p : ℕ) (h : p ≡ get_or d (j * 19 + 8) 0) where
  range_here : (b : Bounds) → RangeAt s (get_or d (j * 19 + 8) 0) b → RangeAt s p b
  range_here b x = subst (λ i. RangeAt s i b) (sym h) x

  module _ (f : p ≡ 0 → ⊥) (o a z : Item) (e : o ≡ item_at s p) (v : a ≡ item_at s o.next) (w : z ≡ item_at s a.next) where
    between : (y : Item) (n : Num) (b : Bounds) → z.sign ≡ 46 → y ≡ item_at s z.next → RangeAt s p b → both (num_at_most (num a.number) n) (num_at_most n (num y.number)) ≡ in_bounds n b
    between y n b i u x = by (num_at_most (num a.number) n) refl
      where
        by : (c : Bool) → num_at_most (num a.number) n ≡ c → both c (num_at_most n (num y.number)) ≡ in_bounds n b
        by true q = in_two s p f o a z e v w n y true (num_at_most n (num y.number)) i u (sym q) refl refl b x
        by false q = below_two s p f o a z e v w n y false i u (sym q) refl b x

    words_of : (b : Bounds) → (z.sign ≡ 46 → ⊥) → RangeAt s p b → Words s (num a.number) a.next b
    unfolding in_bounds among_numbers
    words_of b t (range_none i) = absurd (f i)
    words_of b t (range_two {q = q} {r} n x m c u) =
        let i : a ≡ item_at s q = v ∙ ap (item_at s) (ap (λ (i : Item). i.next) e ∙ x.next) in
        let k : z ≡ item_at s r = w ∙ ap (item_at s) (ap (λ (i : Item). i.next) i ∙ m.next) in
        absurd (t (ap (λ (i : Item). i.sign) k ∙ c.sign))
    words_of b t (range_list {q = q} {r} {ws = ws} n x m c l) =
        let i : a ≡ item_at s q = v ∙ ap (item_at s) (ap (λ (i : Item). i.next) e ∙ x.next) in
        let k : a.next ≡ r = ap (λ (i : Item). i.next) i ∙ m.next in
        let u = ap (λ (i : Item). num i.number) i ∙ m.number in
        record {
          words = ws;
          listed = subst (λ c. Listed s c ws) (sym k) l;
          tells = λ y. ap (λ c. either (equal y c) (among_numbers y ws)) u;
        }

    module _ (t : List ℕ) (used : ℕ) (l : j < 512) where
      pub row-two : (y : Item) → z.sign ≡ 46 → y ≡ item_at s z.next → (t' : List ℕ)
          → t' ≡ sets t (512 + j * 5) (1 ∷ bit a.number.negative ∷ a.number.amount ∷ bit y.number.negative ∷ y.number.amount ∷ []) → NotesRow s d t used t' used
      row-two y i u t' q =
          let cs : List ℕ = 1 ∷ bit a.number.negative ∷ a.number.amount ∷ bit y.number.negative ∷ y.number.amount ∷ [] in
          record {
            size = ap length q ∙ length-sets t (512 + j * 5) cs;
            keeps = λ k. subst (λ c. Noted s d c used) (sym q) (noted_put s d t used used j cs k l refl (omega arith) k.inside (λ b x.
                record {
                  two = λ g n.
                      ap₂ (λ c r. both (num_at_most c n) (num_at_most n r)) (num_of_cells a.number.negative a.number.amount) (num_of_cells y.number.negative y.number.amount)
                      ∙ between y n b i u (range_here b x);
                  within = λ g. absurd (omega (arith, g));
                  list = λ g. absurd (omega (arith, g));
                }) (λ b x g. absurd (omega (arith, g))));
          }

      module _ (g : Bool) (c : ℕ) (gc : g ≡ signed_code c) (cd : c ≡ get_or d (j * 19 + 12) 0) (i : z.sign ≡ 46 → ⊥) (q : List ℕ) (n : ℕ) (k : KeyedRising s g (num a.number) a.next (take (length t - used) (drop used t)) q n) (le : used ≤ length t) where
        size-behind : length (take used t ++ q) ≡ length t
        size-behind =
            let x = length-append (take used t) q in
            let y = length-take-le used t le in
            let r = k.keyed.size in
            let u = tail_size t used in
            omega (arith, x, y, r, u, le)

        pub end_inside : used + n ≤ length t
        end_inside = let r = k.keyed.inside in let u = tail_size t used in omega (arith, r, u, le)

        pub row_none : NotesRow s d t used (take used t ++ (q ++ drop (length t - used) (drop used t))) used
        row_none =
            let y = tail_put t q used in
            record { size = ap length y ∙ size-behind; keeps = λ m. subst (λ r. Noted s d r used) (sym y) (noted_behind s d t q used m) }

        listing : (b : Bounds) → (n ≡ 0 → ⊥) → RangeAt s p b → Listing (signed_code (get_or d (j * 19 + 12) 0)) b (take n q)
        listing b y x =
            let w = words_of b i x in
            subst (λ r. Listing r b (take n q)) (gc ∙ ap signed_code cd)
            (record { rising = k.rising y; tells = λ v h. k.keyed.tells y w.words w.listed v h ∙ w.tells v })

        pub row_list : (n ≡ 0 → ⊥) → (end : ℕ) → end ≡ used + n → (t' : List ℕ) → t' ≡ sets (take used t ++ (q ++ drop (length t - used) (drop used t))) (512 + j * 5) (2 ∷ used ∷ end ∷ 0 ∷ 0 ∷ []) → NotesRow s d t used t' end
        row_list y end r t' x' =
            let cs : List ℕ = 2 ∷ used ∷ end ∷ 0 ∷ 0 ∷ [] in
            let x : t' ≡ sets (take used t ++ q) (512 + j * 5) cs = x' ∙ ap (λ c. sets c (512 + j * 5) cs) (tail_put t q used) in
            let le' : end ≤ length (take used t ++ q) = omega (arith, size-behind, end_inside, r) in
            record {
              size = ap length x ∙ length-sets (take used t ++ q) (512 + j * 5) cs ∙ size-behind;
              keeps = λ m.
                  let o = m.room in
                  subst (λ c. Noted s d c end) (sym x) (noted_put s d (take used t ++ q) used end j cs (noted_behind s d t q used m) l refl (omega (arith, r)) le' (λ b f'.
                  let cells : part (sets (take used t ++ q) (512 + j * 5) cs) used (end - used) ≡ take n q =
                  let a : end - used ≡ n = omega (arith, r) in
                  part_sets_after (take used t ++ q) (512 + j * 5) cs used (end - used) (omega (arith, l, o))
                  ∙ ap (take (end - used)) (drop_at (take used t) q used (length-take-le used t le))
                  ∙ ap (λ i. take i q) a
                  in
                  record {
                    two = λ e. absurd (omega (arith, e));
                    within = λ e. (o, omega (arith, r), omega arith);
                    list = λ e. subst (Listing (signed_code (get_or d (j * 19 + 12) 0)) b) (sym cells) (listing b y (range_here b f'));
                  }) (λ b f' e. absurd (omega (arith, e))));
            }

-- Two floats --------------------------------------------------------------------------------------------------------------------------------

module _ (s d : List ℕ) (j p : ℕ) (h : p ≡ get_or d (j * 19 + 8) 0) (f : p ≡ 0 → ⊥) (o a z : Item) (e : o ≡ item_at s p) (v : a ≡ item_at s o.next)
    (w : z ≡ item_at s a.next) (x y : Num) (u : x ≡ float_of_step (step_at s o.next)) (r : y ≡ float_of_step (step_at s z.next)) where
  floats_between : (n : Num) (b : Bounds) → FloatsAt s p b → both (num_at_most x n) (num_at_most n y) ≡ in_float_bounds n b
  floats_between n b k = by (num_at_most x n) refl
    where
      by : (c : Bool) → num_at_most x n ≡ c → both c (num_at_most n y) ≡ in_float_bounds n b
      by true q = floats_in s p f o a z e v w x y u r n true (num_at_most n y) (sym q) refl refl b k
      by false q = floats_below s p f o a z e v w x y u r n false (sym q) refl b k

  pub row_floats : (t : List ℕ) → j < 512 → (m c m' c' : ℕ) → float_in m c ≡ x → float_in m' c' ≡ y → (t' : List ℕ)
      → t' ≡ sets t (512 + j * 5) (3 ∷ m ∷ c ∷ m' ∷ c' ∷ []) → NotesFloats s d t t'
  row_floats t l m c m' c' i i' t' q used =
      let cs : List ℕ = 3 ∷ m ∷ c ∷ m' ∷ c' ∷ [] in
      record {
        size = ap length q ∙ length-sets t (512 + j * 5) cs;
        keeps = λ k. subst (λ c. Noted s d c used) (sym q) (noted_put s d t used used j cs k l refl (omega arith) k.inside
            (λ b g. record { two = λ n. absurd (omega (arith, n)); within = λ n. absurd (omega (arith, n)); list = λ n. absurd (omega (arith, n)) })
            (λ b g k n.
            ap₂ (λ c r. both (num_at_most c n) (num_at_most n r)) i i'
            ∙ floats_between n b (subst (λ i. FloatsAt s i b) (sym h) g)));
      }

-- Rows ----------------------------------------------------------------------------------------------------------------------------------------

pub row_same : (s d t : List ℕ) (used : ℕ) → NotesRow s d t used t used
row_same s d t used = record { size = refl; keeps = λ k. k }

-- The rows noted so far.
pub record Rows (s d t₀ t : List ℕ) (used : ℕ) : Type 0 where
  pub size : length t ≡ length t₀
  pub noted : (n : ℕ) → 3072 ≤ n → t₀ ≡ replicate n 0 → Noted s d t used

pub rows_start : (s d t : List ℕ) → Rows s d t t 3072
rows_start s d t = record { size = refl; noted = λ n h e. subst (λ l. Noted s d l 3072) (sym e) (noted_blank s d n h) }

pub rows_more : (s d t₀ t : List ℕ) (used : ℕ) (t' : List ℕ) (r : ℕ) → Rows s d t₀ t used → NotesRow s d t used t' r → Rows s d t₀ t' r
rows_more s d t₀ t used t' r k m = record { size = m.size ∙ k.size; noted = λ n h e. m.keeps (k.noted n h e) }

pub rows_end : (s d t₀ t : List ℕ) (used : ℕ) → Rows s d t₀ t used → Notes s d t₀ t
rows_end s d t₀ t used k n h e = record { used = used; noted = k.noted n h e }
