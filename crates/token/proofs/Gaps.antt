-- The laws of blanks and comments.
-- Assumes nothing.
use Prim.Native.Nat.{ℕ, zero, suc, ◌+◌, ◌-◌, ◌≤◌, ◌<◌}
use mathlib.Core.Path.{◌≡◌, refl, sym, ◌∙◌, ap, subst}
use mathlib.Core.List.{List}
use mathlib.Core.Bool.{Bool, true, false}
use native.Mathlib.Omega.{arith}
use native.Mathlib.Decide.{dec_lt}
use lib.ListN.{length}
use lib.Dec.{ltb, eqb}
use borrow.Author.Tests.{lt-ltb, le-ltb, ltb-true}
use Rattle.token.specs.Find.{byte, find}
use Rattle.token.specs.declared.scan.Class.{Class}
use Rattle.token.specs.declared.scan.Class.TheVariants.{Letter as letter, Digit as digit, Blank as blank, Sign as plus_minus, Quote as quote, Punctuator as punctuator, Dot as dot, Slash as slash, Other as other}
use Rattle.token.specs.Bytes.{class_of, find_byte, pair_at, find_close}
use Rattle.token.specs.Gaps.{comment_at, gap_of, gap_at, after_gap, skip_n, skip}
use Rattle.std.specs.Prelude.{Option, Some, None, Result, Ok, Err}
use Rattle.token.proofs.Find.{by_test, find_low, find_high, find_holds}
use Rattle.token.proofs.Bytes.{pair_inside, class_past}

module _ (s : List ℕ) (p : ℕ) where
  pub comment_line : pair_at s p 47 47 ≡ true → comment_at s p ≡ Ok (Some (find_byte 10 s (p + 2)))
  unfolding comment_at
  comment_line e = rw e

  pub comment_block : pair_at s p 47 47 ≡ false → pair_at s p 47 42 ≡ true → find_close s (p + 2) < length s →
      comment_at s p ≡ Ok (Some (find_close s (p + 2) + 2))
  unfolding comment_at
  comment_block e f h = rw (e, f, lt-ltb (find_close s (p + 2)) (length s) h)

  pub comment_open : pair_at s p 47 47 ≡ false → pair_at s p 47 42 ≡ true → length s ≤ find_close s (p + 2) → comment_at s p ≡ Err p
  unfolding comment_at
  comment_open e f h = rw (e, f, le-ltb (find_close s (p + 2)) (length s) h)

  pub comment_none : pair_at s p 47 47 ≡ false → pair_at s p 47 42 ≡ false → comment_at s p ≡ Ok None
  unfolding comment_at
  comment_none e f = rw (e, f)

module _ (s : List ℕ) (p : ℕ) where
  pub gap_past : length s ≤ p → gap_at s p ≡ Ok None
  unfolding gap_at gap_of
  gap_past h = rw (class_past s p h)

-- ---- a gap goes on, and stays in the text

abbrev pub GapOk : ℕ → ℕ → Result (Option ℕ) ℕ → Type 0
GapOk p n (Ok None) = Unit {0}
GapOk p n (Ok (Some q)) = (p < q) × (q ≤ n)
GapOk p n (Err q) = (p ≡ q) × (p < n)

comment_ok : (s : List ℕ) (p : ℕ) → GapOk p (length s) (comment_at s p)
unfolding comment_at find_byte find_close
comment_ok s p =
    let n = length s in
    let close : ℕ → Bool = λ i. pair_at s i 42 47 in
    by_test (GapOk p n) (pair_at s p 47 47) _ _
    (λ e.
    let h : p + 1 < n = pair_inside s p 47 47 e in
    (omega (arith, find_low (λ i. eqb (byte s i) 10) n (p + 2)), find_high (λ i. eqb (byte s i) 10) n (p + 2) (omega arith)))
    (λ _.
    by_test (GapOk p n) (pair_at s p 47 42) _ (Ok None)
    (λ e.
    let h : p + 1 < n = pair_inside s p 47 42 e in
    by_test (GapOk p n) (ltb (find close n (p + 2)) n) _ _
    (λ l.
    let f : find close n (p + 2) < n = ltb-true _ _ l in
    let g : find close n (p + 2) + 1 < n = pair_inside s (find close n (p + 2)) 42 47 (find_holds close n (p + 2) (omega arith) f) in
    (omega (arith, find_low close n (p + 2)), omega arith))
    (λ _. (refl, omega arith)))
    (λ _. tt))

in_text : (c : Class) (s : List ℕ) (p : ℕ) → p < length s → GapOk p (length s) (gap_of c s p)
unfolding gap_of
in_text letter s p h = tt
in_text digit s p h = tt
in_text blank s p h = (omega arith, omega arith)
in_text plus_minus s p h = tt
in_text quote s p h = tt
in_text punctuator s p h = tt
in_text dot s p h = tt
in_text slash s p h = comment_ok s p
in_text other s p h = tt

here_or_past : (s : List ℕ) (p : ℕ) → Dec (p < length s) → GapOk p (length s) (gap_at s p)
unfolding gap_at
here_or_past s p (yes h) = in_text (class_of (byte s p)) s p h
here_or_past s p (no h) = subst (GapOk p (length s)) (sym (gap_past s p (omega arith))) tt

pub gap_ok : (s : List ℕ) (p : ℕ) → GapOk p (length s) (gap_at s p)
gap_ok s p = here_or_past s p (dec_lt p (length s))

pub past_ok : (s : List ℕ) (p q : ℕ) → gap_at s p ≡ Ok (Some q) → (p < q) × (q ≤ length s)
past_ok s p q e = subst (GapOk p (length s)) e (gap_ok s p)

-- ---- any two numbers of steps that are enough skip alike

after_same : (p : ℕ) (f h : ℕ → Result ℕ ℕ) (g : Result (Option ℕ) ℕ) → ((q : ℕ) → g ≡ Ok (Some q) → f q ≡ h q) → after_gap g p f ≡ after_gap g p h
after_same p f h (Ok None) e = refl
after_same p f h (Ok (Some q)) e = e q refl
after_same p f h (Err q) e = refl

none_after : (s : List ℕ) (p n : ℕ) → length s ≤ p → Ok p ≡ skip_n n s p
unfolding skip_n
none_after s p zero h = refl
none_after s p (suc n) h = rw (gap_past s p h)

enough : (n m : ℕ) (s : List ℕ) (p : ℕ) → length s ≤ p + n → length s ≤ p + m → skip_n n s p ≡ skip_n m s p
unfolding skip_n
enough zero m s p h k = none_after s p m (omega arith)
enough (suc n) zero s p h k = sym (none_after s p (suc n) (omega arith))
enough (suc n) (suc m) s p h k =
    after_same p (skip_n n s) (skip_n m s) (gap_at s p)
    (λ q e. let b = past_ok s p q e in enough n m s q (omega arith) (omega arith))

-- skipping, one blank or comment at a time
pub skip_law : (s : List ℕ) (p : ℕ) → skip s p ≡ after_gap (gap_at s p) p (skip s)
unfolding skip skip_n
skip_law s p =
    enough (length s - p) (suc (length s)) s p (omega arith) (omega arith)
    ∙ after_same p (skip_n (length s) s) (skip s) (gap_at s p) (λ q e. enough (length s) (length s - q) s q (omega arith) (omega arith))

module _ (s : List ℕ) (p : ℕ) where
  pub skip_past : (q : ℕ) → gap_at s p ≡ Ok (Some q) → skip s p ≡ skip s q
  skip_past q e = skip_law s p ∙ ap (λ (g : Result (Option ℕ) ℕ). after_gap g p (skip s)) e

  pub skip_error : (q : ℕ) → gap_at s p ≡ Err q → skip s p ≡ Err q
  skip_error q e = skip_law s p ∙ ap (λ (g : Result (Option ℕ) ℕ). after_gap g p (skip s)) e

  pub skip_here : gap_at s p ≡ Ok None → skip s p ≡ Ok p
  skip_here e = skip_law s p ∙ ap (λ (g : Result (Option ℕ) ℕ). after_gap g p (skip s)) e

pub skip_open : (s : List ℕ) (p : ℕ) → gap_at s p ≡ Err p → skip s p ≡ Err p
skip_open s p = skip_error s p p
