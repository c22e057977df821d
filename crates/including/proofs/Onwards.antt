-- What is set aside on a line, with bytes before the line. First one byte more, where bytes and lengths compute. Assumes nothing.
use Prim.Native.Nat.{ℕ, zero, suc, ◌+◌, ◌-◌}
use mathlib.Core.Path.{◌≡◌, refl, sym, ◌∙◌, ap, fun_ext}
use mathlib.Core.List.{List, [], ◌∷◌, ◌++◌}
use mathlib.Core.Bool.{Bool, true, false}
use native.Mathlib.Nat.{suc-add, zero-add, suc-sub-suc}
use lib.ListN.{length}
use lib.Dec.{ltb, eqb, leb-suc-suc, eqb-suc-suc}
use Rattle.token.specs.Find.{pick, both, byte, first_of, find}
use Rattle.token.specs.Bytes.{find_byte, pair_at, find_close}
use Rattle.sources.specs.Lines.{is_aside, aside_at, on_aside, aside_n, aside}

-- ---- searches

pick_up : (b : Bool) (p q r : ℕ) → r ≡ suc q → pick b (suc p) r ≡ suc (pick b p q)
pick_up true p q r e = refl
pick_up false p q r e = e

first_up : (t : ℕ → Bool) (n p : ℕ) → first_of t n (suc p) ≡ suc (first_of (λ i. t (suc i)) n p)
unfolding first_of
first_up t zero p = refl
first_up t (suc n) p = pick_up (t (suc p)) p (first_of (λ i. t (suc i)) n (suc p)) (first_of t n (suc (suc p))) (first_up t n (suc p))

find_up : (t : ℕ → Bool) (e p : ℕ) → find t (suc e) (suc p) ≡ suc (find (λ i. t (suc i)) e p)
unfolding find
find_up t e p = ap (λ (n : ℕ). first_of t n (suc p)) (suc-sub-suc e p) ∙ first_up t (e - p) p

module _ (x : ℕ) (b : List ℕ) where
  pub byte_up : (c p : ℕ) → find_byte c (x ∷ b) (suc p) ≡ suc (find_byte c b p)
  unfolding find_byte
  byte_up c p = find_up (λ i. eqb (byte (x ∷ b) i) c) (length b) p

  pair_up : (p c d : ℕ) → pair_at (x ∷ b) (suc p) c d ≡ pair_at b p c d
  unfolding pair_at
  pair_up p c d =
      ap (λ (n : ℕ). both (ltb n (suc (length b))) (both (eqb (byte b p) c) (eqb (byte (x ∷ b) n) d))) (suc-add p 1)
      ∙ ap (λ (t : Bool). both t (both (eqb (byte b p) c) (eqb (byte b (p + 1)) d))) (leb-suc-suc (suc (p + 1)) (length b))

  pub close_up : (p : ℕ) → find_close (x ∷ b) (suc p) ≡ suc (find_close b p)
  unfolding find_close
  close_up p =
      find_up (λ i. pair_at (x ∷ b) i 42 47) (length b) p
      ∙ ap (λ (t : ℕ → Bool). suc (find t (length b) p)) (fun_ext (λ i. pair_up i 42 47))

-- ---- what is set aside

three_up : (a b c : Bool) (p n q i : ℕ) → pick a (suc p) (pick b (suc n) (pick c (suc q) (suc i))) ≡ suc (pick a p (pick b n (pick c q i)))
three_up true b c p n q i = refl
three_up false true c p n q i = refl
three_up false false true p n q i = refl
three_up false false false p n q i = refl

at_up : (x : ℕ) (b : List ℕ) (i : ℕ) → aside_at (x ∷ b) (suc i) ≡ suc (aside_at b i)
unfolding aside_at
at_up x b i =
    let c : find_close (x ∷ b) (suc i + 2) ≡ suc (find_close b (i + 2)) = ap (find_close (x ∷ b)) (suc-add i 2) ∙ close_up x b (i + 2) in
    rw (pair_up x b i 47 47, pair_up x b i 47 42, c, leb-suc-suc (suc (find_close b (i + 2))) (length b), suc-add i 1, suc-add (find_close b (i + 2)) 2)
    (three_up (is_aside (byte b i)) (pair_at b i 47 47) (both (pair_at b i 47 42) (ltb (find_close b (i + 2)) (length b))) (i + 1) (length b) (find_close b (i + 2) + 2) i)

on_up : (t : Bool) (i j : ℕ) (k h : ℕ → ℕ) → k (suc j) ≡ suc (h j) → on_aside t (suc i) (suc j) k ≡ suc (on_aside t i j h)
on_up true i j k h e = refl
on_up false i j k h e = e

n_up : (n x : ℕ) (b : List ℕ) (i : ℕ) → aside_n n (x ∷ b) (suc i) ≡ suc (aside_n n b i)
unfolding aside_n
n_up zero x b i = refl
n_up (suc n) x b i =
    rw (at_up x b i, eqb-suc-suc (aside_at b i) i)
    (on_up (eqb (aside_at b i) i) i (aside_at b i) (λ j. aside_n n (x ∷ b) j) (λ j. aside_n n b j) (n_up n x b (aside_at b i)))

aside_up : (x : ℕ) (b : List ℕ) (i : ℕ) → aside (x ∷ b) (suc i) ≡ suc (aside b i)
unfolding aside
aside_up x b i = ap (λ (n : ℕ). aside_n n (x ∷ b) (suc i)) (suc-sub-suc (length b) i) ∙ n_up (length b - i) x b i

pub aside_on : (a b : List ℕ) (i : ℕ) → aside (a ++ b) (length a + i) ≡ length a + aside b i
aside_on [] b i = ap (aside b) (zero-add i) ∙ sym (zero-add (aside b i))
aside_on (x ∷ a) b i =
    ap (aside (x ∷ (a ++ b))) (suc-add (length a) i) ∙ aside_up x (a ++ b) (length a + i) ∙ ap suc (aside_on a b i) ∙ sym (suc-add (length a) (aside b i))

pub byte_on : (c : ℕ) (a b : List ℕ) (i : ℕ) → find_byte c (a ++ b) (length a + i) ≡ length a + find_byte c b i
byte_on c [] b i = ap (find_byte c b) (zero-add i) ∙ sym (zero-add (find_byte c b i))
byte_on c (x ∷ a) b i =
    ap (find_byte c (x ∷ (a ++ b))) (suc-add (length a) i) ∙ byte_up x (a ++ b) c (length a + i) ∙ ap suc (byte_on c a b i)
    ∙ sym (suc-add (length a) (find_byte c b i))
