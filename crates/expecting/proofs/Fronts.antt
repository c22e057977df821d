-- The text before a place, a line feed, and another text: the tokens before the place stay, and those of the other text follow. Assumes nothing.
use Prim.Native.Nat.{ℕ, ◌+◌, ◌≤◌, ◌<◌}
use mathlib.Core.Path.{◌≡◌, refl, sym, ◌∙◌, ap, ap₂, subst}
use mathlib.Core.List.{List, [], ◌∷◌, ◌++◌, append_assoc}
use mathlib.Core.Bool.{Bool, true, false, not, false≢true}
use mathlib.Core.Logic.{⊎_elim}
use native.Mathlib.Omega.{arith}
use native.Mathlib.Nat.{eq-or-lt_of_le}
use lib.ListN.{length, take, drop, length-append, get_or-append, take-append-drop}
use lib.Seq.{length-take-le, get_or-take, get_or_at, take-append-le, take-take}
use lib.Dec.{eqb, ltb}
use borrow.Author.Tests.{lt-ltb}
use Rattle.token.specs.Find.{byte, find, both}
use Rattle.token.specs.Bytes.{class_of, is_word_byte, find_byte, pair_at, find_close}
use Rattle.token.specs.declared.scan.Class.{Class}
use Rattle.token.specs.declared.scan.Class.TheVariants.{Letter as letter, Digit as digit, Blank as blank, Sign as plus_minus, Quote as quote, Punctuator as punctuator, Dot as dot, Slash as slash, Other as other}
use Rattle.token.proofs.Bytes.{class_code}
use Rattle.token.specs.Lexing.{lex_from, after_step}
use Rattle.token.specs.declared.Sort.{Sort}
use Rattle.token.specs.declared.Sort.TheVariants.{Word, Number, String, Punctuator, Float}
use Rattle.token.specs.declared.Token.{Token as Lexeme}
use Rattle.token.specs.declared.Step.{Step}
use Rattle.token.proofs.Find.{find_low, find_before, find_holds}
use Rattle.token.proofs.Bytes.{pair_inside, byte_low, word_byte}
use Rattle.token.proofs.Decimals.{dotted_other}
use Rattle.token.proofs.Sequences.{after_all}
use Rattle.token.proofs.Steps.{lex_law}
use Rattle.locality.proofs.Skipping.{Gap, a_blank, a_line, a_block, parting, Skips, here, on, skips_step, skips_low}
use Rattle.locality.proofs.Shift.{moved_all, lex_rest}
use Rattle.locality.proofs.Front.{ends, first_rest, find_is}
use Rattle.locality.proofs.Pieces.{Run, run_lex, run_other, LastEnds}

-- ---- where a blank or a comment stands, a token ends

part_word : (c : Class) → parting c ≡ true → ltb (class_code c) 2 ≡ false
unfolding parting
part_word letter e = absurd (false≢true e)
part_word digit e = absurd (false≢true e)
part_word blank e = refl
part_word plus_minus e = refl
part_word quote e = refl
part_word punctuator e = refl
part_word dot e = refl
part_word slash e = refl
part_word other e = refl

not_word : (x : ℕ) → parting (class_of x) ≡ true → is_word_byte x ≡ false
not_word x e = word_byte x ∙ part_word (class_of x) e

not_dot : (x : ℕ) → parting (class_of x) ≡ true → x ≡ 46 → ⊥
unfolding parting class_of
not_dot x e h = false≢true (sym (ap (λ (n : ℕ). parting (class_of n)) h) ∙ e)

any_ends : (k : Sort) (b : List ℕ) → parting (class_of (byte b 0)) ≡ true → ends k b ≡ true
unfolding ends
any_ends (Word c) b e = ap not (not_word (byte b 0) e)
any_ends (Number n m) b e = ap₂ (λ (x y : Bool). both (not x) (not y)) (not_word (byte b 0) e) (dotted_other b 0 (not_dot (byte b 0) e))
any_ends (Float n m k) b e = ap not (not_word (byte b 0) e)
any_ends String b e = refl
any_ends (Punctuator m) b e = refl

last_ends : (b : List ℕ) (ls : List Lexeme) → parting (class_of (byte b 0)) ≡ true → LastEnds b ls
last_ends b [] e = tt
last_ends b (t ∷ []) e = any_ends t.sort b e
last_ends b (t ∷ u ∷ ts) e = last_ends b (u ∷ ts) e

begins_gap : (s : List ℕ) (p q : ℕ) → Gap s p q → parting (class_of (byte s p)) ≡ true
unfolding parting
begins_gap s p q (a_blank c n) = ap parting c
begins_gap s p q (a_line c t n) = ap parting c
begins_gap s p q (a_block c f t l n) = ap parting c

-- ---- the text u: s before p, a line feed, and b

module _ (s b : List ℕ) (p : ℕ) (h : p ≤ length s) where
  abbrev u : List ℕ
  u = take p s ++ (10 ∷ b)

  front_long : length (take p s) ≡ p
  front_long = length-take-le p s h

  long : p < length u
  long = let k = front_long in let n = length-append (take p s) (10 ∷ b) in omega arith

  kept : (i : ℕ) → i < p → byte u i ≡ byte s i
  kept i l = let k = front_long in get_or-append (take p s) (10 ∷ b) 0 i (omega arith) ∙ get_or-take p s i 0 l

  feed : byte u p ≡ 10
  feed = get_or_at (take p s) 10 b 0 p front_long

  pair_kept : (r x y : ℕ) → r + 1 < p → pair_at u r x y ≡ pair_at s r x y
  unfolding pair_at
  pair_kept r x y l =
      let n = long in
      rw (lt-ltb (r + 1) (length s) (omega arith), lt-ltb (r + 1) (length u) (omega arith), kept r (omega arith), kept (r + 1) l)

  -- a comment to the end of the line ends at the same place: at its line feed, or at p where the new one stands
  line_kept : (r : ℕ) → pair_at s r 47 47 ≡ true → find_byte 10 s (r + 2) ≤ p → find_byte 10 u (r + 2) ≡ find_byte 10 s (r + 2)
  unfolding find_byte
  line_kept r t k =
      let i = pair_inside s r 47 47 t in
      let n = long in
      let f : ℕ → Bool = λ i. eqb (byte s i) 10 in
      let q = find f (length s) (r + 2) in
      let low = find_low f (length s) (r + 2) in
      find_is (λ i. eqb (byte u i) 10) (length u) (r + 2) q low (omega arith)
      (λ i l m. ap (λ (x : ℕ). eqb x 10) (kept i (omega arith)) ∙ find_before f (length s) (r + 2) i l m)
      (λ _.
      ⊎_elim (λ (e : q ≡ p). ap (λ (i : ℕ). eqb (byte u i) 10) e ∙ ap (λ (x : ℕ). eqb x 10) feed)
      (λ l. ap (λ (x : ℕ). eqb x 10) (kept q l) ∙ find_holds f (length s) (r + 2) (omega arith) (omega arith))
      (eq-or-lt_of_le k))

  close_kept : (r : ℕ) → r + 2 ≤ length s → find_close s (r + 2) < length s → find_close s (r + 2) + 2 ≤ p → find_close u (r + 2) ≡ find_close s (r + 2)
  unfolding find_close
  close_kept r i l k =
      let n = long in
      let t : ℕ → Bool = λ i. pair_at s i 42 47 in
      let c = find t (length s) (r + 2) in
      let low = find_low t (length s) (r + 2) in
      find_is (λ i. pair_at u i 42 47) (length u) (r + 2) c low (omega arith)
      (λ i a m. pair_kept i 42 47 (omega arith) ∙ find_before t (length s) (r + 2) i a m)
      (λ _. pair_kept c 42 47 (omega arith) ∙ find_holds t (length s) (r + 2) i l)

  close_low : (r : ℕ) → r ≤ find_close s r
  unfolding find_close
  close_low r = find_low (λ i. pair_at s i 42 47) (length s) r

  gap_kept : (r q : ℕ) → q ≤ p → Gap s r q → Gap u r q
  gap_kept r q k (a_blank c n) = a_blank (ap class_of (kept r (omega arith)) ∙ c) n
  gap_kept r q k (a_line c t n) =
      let low = byte_low s (r + 2) 10 in
      a_line (ap class_of (kept r (omega arith)) ∙ c) (pair_kept r 47 47 (omega arith) ∙ t) (n ∙ sym (line_kept r t (omega arith)))
  gap_kept r q k (a_block c f t l n) =
      let low = close_low (r + 2) in
      let i = pair_inside s r 47 42 t in
      let m = long in
      let w : find_close u (r + 2) ≡ find_close s (r + 2) = close_kept r (omega arith) l (omega arith) in
      a_block (ap class_of (kept r (omega arith)) ∙ c) (pair_kept r 47 47 (omega arith) ∙ f) (pair_kept r 47 42 (omega arith) ∙ t) (omega arith) (omega arith)

  -- what is skipped up to p is skipped in u, and the line feed too
  skips_kept : (e : ℕ) → Skips s p e → Skips u (p + 1) e
  unfolding class_of
  skips_kept e (here _ i) =
      on e (p + 1) (a_blank (ap (λ (n : ℕ). class_of (byte u n)) i ∙ ap class_of feed) (let j : p + 1 ≡ e + 1 = omega arith in j)) (here (p + 1) refl)
  skips_kept e (on _ q g k) = let l = skips_low s p q k in on e q (gap_kept e q l g) (skips_kept q k)

  parts : (e : ℕ) → Skips s p e → parting (class_of (byte u e)) ≡ true
  unfolding parting class_of
  parts e (here _ i) = ap (λ (n : ℕ). parting (class_of (byte u n))) i ∙ ap (λ (x : ℕ). parting (class_of x)) feed
  parts e (on _ q g k) = let l = skips_low s p q k in begins_gap u e q (gap_kept e q l g)

  -- THE LAW: tokens found up to e, and what is skipped from there up to p.
  pub front_lex : (e : ℕ) (ls : List Lexeme) → Run s e 0 ls → Skips s p e → lex_from u 0 ≡ after_all ls (moved_all (p + 1) (lex_from b 0))
  front_lex e ls r k =
      let l = skips_low s p e k in
      let f = front_long in
      let a = take e s in
      let n : length a ≡ e = length-take-le e s (omega arith) in
      let v : a ++ drop e u ≡ u = ap (◌++ drop e u) (sym (take-take e p s l) ∙ sym (take-append-le e (take p s) (10 ∷ b) (omega arith))) ∙ take-append-drop e u in
      let r₁ : Run (a ++ drop e s) (length a) 0 ls =
      subst (λ (t : List ℕ). Run t (length a) 0 ls) (sym (take-append-drop e s)) (subst (λ (i : ℕ). Run s i 0 ls) (sym n) r) in
      let r₂ : Run (a ++ drop e u) (length a) 0 ls =
      run_other a (drop e u) (drop e s) 0 ls r₁ (last_ends (drop e u) ls (ap (λ (x : ℕ). parting (class_of x)) (first_rest u e) ∙ parts e k)) in
      let r₃ : Run u e 0 ls = subst (λ (i : ℕ). Run u i 0 ls) n (subst (λ (t : List ℕ). Run t (length a) 0 ls) v r₂) in
      run_lex u e 0 ls r₃
      ∙ ap (after_all ls)
      (lex_law u e ∙ ap (λ (x : Step). after_step x (lex_from u)) (skips_step u (p + 1) e (skips_kept e k)) ∙ sym (lex_law u (p + 1)) ∙ rest)
    where
      rest : lex_from u (p + 1) ≡ moved_all (p + 1) (lex_from b 0)
      rest =
          let c = take p s ++ (10 ∷ []) in
          let i : length c ≡ p + 1 = length-append (take p s) (10 ∷ []) ∙ ap (◌+ 1) front_long in
          let j : c ++ b ≡ u = append_assoc (take p s) (10 ∷ []) b in
          ap₂ (λ (t : List ℕ) (m : ℕ). lex_from t m) (sym j) (sym i) ∙ lex_rest c b ∙ ap (λ (m : ℕ). moved_all m (lex_from b 0)) i
