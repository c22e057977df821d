-- What is set aside on a line is blanks and comments, and as many of them as there are. Assumes nothing.
use Prim.Native.Nat.{ℕ, zero, suc, ◌+◌, ◌≤◌, ◌<◌}
use mathlib.Core.Path.{◌≡◌, refl, sym, ◌∙◌, ap, ap₂, subst}
use mathlib.Core.List.{List, [], ◌∷◌, ◌++◌, append_assoc, append-nil}
use mathlib.Core.Bool.{Bool, true, false, false≢true}
use mathlib.Core.Logic.{◌⊎◌, inl, inr}
use native.Mathlib.Nat.{add-zero, zero-add}
use native.Mathlib.Omega.{arith}
use lib.ListN.{length, get_or, drop, length-append}
use lib.Seq.{drop-cons}
use lib.Dec.{ltb, eqb}
use borrow.Author.Tests.{eq-eqb, eqb-true}
use Rattle.token.specs.Find.{both, either, byte}
use Rattle.token.specs.Bytes.{pair_at, find_close}
use Rattle.token.proofs.Find.{find_here, find_next}
use Rattle.token.proofs.Bytes.{both_true, both_second, not_true, pair_second, pair_other, pair_inside}
use Rattle.sources.specs.Lines.{is_aside, aside_at, aside}
use Rattle.sources.proofs.Singles.{split}
use Rattle.sources.proofs.Asides.{aside_blank, aside_line, aside_comment, aside_open, aside_none, aside_past, aside_stay, aside_next}
use Rattle.including.specs.IncludeLines.{Blank, space, tab, carriage_return, NoClose, Aside, nothing, blank, comment, AsideEnd, no_more, line_comment}
use Rattle.including.proofs.Onwards.{close_up, aside_on}

two_more : (n : ℕ) → suc (suc n) ≡ 2 + n
two_more n = omega arith

-- ---- two bytes

pair_says : (s : List ℕ) (p a b : ℕ) → pair_at s p a b ≡ true → (byte s p ≡ a) × (byte s (p + 1) ≡ b)
unfolding pair_at
pair_says s p a b e =
    let f = both_second (ltb (p + 1) (length s)) (both (eqb (byte s p) a) (eqb (byte s (p + 1)) b)) e in (
      eqb-true (byte s p) a (both_true (eqb (byte s p) a) (eqb (byte s (p + 1)) b) f),
      eqb-true (byte s (p + 1)) b (both_second (eqb (byte s p) a) (eqb (byte s (p + 1)) b) f),
    )

-- two bytes at the front
pair_front : (a b : ℕ) (l : List ℕ) → pair_at (a ∷ b ∷ l) 0 a b ≡ true
pair_front a b l = pair_second (a ∷ b ∷ l) 0 a b (omega arith) refl ∙ same_byte b
  where
    same_byte : (b : ℕ) → eqb b b ≡ true
    same_byte b = eq-eqb b b refl

pair_split : (s : List ℕ) (a b : ℕ) → pair_at s 0 a b ≡ true → s ≡ a ∷ b ∷ drop 2 s
pair_split s a b e =
    let h = pair_inside s 0 a b e in
    let k = pair_says s 0 a b e in
    drop-cons s 0 0 (omega arith) ∙ ap₂ ◌∷◌ k.0 (drop-cons s 1 0 (omega arith) ∙ ap (λ (x : ℕ). x ∷ drop 2 s) k.1)

-- ---- the next `*/`

-- no bytes are none with more behind
no_close : NoClose []
no_close x y e = let n = ap length e in let m = length-append x (42 ∷ 47 ∷ y) in absurd (omega arith)

close_find : (c r : List ℕ) → NoClose c → find_close (c ++ (42 ∷ 47 ∷ r)) 0 ≡ length c
unfolding find_close
close_find [] r f = find_here (λ i. pair_at (42 ∷ 47 ∷ r) i 42 47) (length (42 ∷ 47 ∷ r)) 0 (omega arith) (pair_front 42 47 r)
close_find (b ∷ c) r f =
    let m : List ℕ = c ++ (42 ∷ 47 ∷ r) in
    find_next (λ i. pair_at (b ∷ m) i 42 47) (length (b ∷ m)) 0 (omega arith) (not_true (pair_at (b ∷ m) 0 42 47) (λ e. here c f (pair_says (b ∷ m) 0 42 47 e)))
    ∙ close_up b m 0
    ∙ ap suc (close_find c r (λ x y e. f (b ∷ x) y (ap (λ (z : List ℕ). b ∷ z) e)))
  where
    here : (c : List ℕ) → NoClose (b ∷ c) → (b ≡ 42) × (byte (c ++ (42 ∷ 47 ∷ r)) 0 ≡ 47) → ⊥
    here [] f k = let z : ◌≡◌ {A = ℕ} 42 47 = k.1 in absurd (omega arith)
    here (d ∷ c) f k = f [] c (ap₂ (λ (x y : ℕ). x ∷ y ∷ c) k.0 k.1)

record CloseSplit (l : List ℕ) : Type 0 where
  front : List ℕ
  back : List ℕ
  whole : l ≡ front ++ (42 ∷ 47 ∷ back)
  size : length front ≡ find_close l 0
  free : NoClose front

module _ (b : ℕ) (l : List ℕ) where
  free_on : (f r : List ℕ) → l ≡ f ++ (42 ∷ 47 ∷ r) → pair_at (b ∷ l) 0 42 47 ≡ false → NoClose f → NoClose (b ∷ f)
  free_on f r w e k [] y q =
      let u : b ≡ 42 = ap (λ (z : List ℕ). get_or z 0 0) q in
      let v : f ≡ 47 ∷ y = ap (drop 1) q in
      let z : b ∷ l ≡ 42 ∷ 47 ∷ (y ++ (42 ∷ 47 ∷ r)) = ap₂ ◌∷◌ u (w ∙ ap (λ (x : List ℕ). x ++ (42 ∷ 47 ∷ r)) v) in
      false≢true (sym e ∙ ap (λ (x : List ℕ). pair_at x 0 42 47) z ∙ pair_front 42 47 (y ++ (42 ∷ 47 ∷ r)))
  free_on f r w e k (z ∷ x) y q = k x y (ap (drop 1) q)

  split_on : find_close (b ∷ l) 0 < length (b ∷ l) → (find_close l 0 < length l → CloseSplit l) → (t : Bool) → pair_at (b ∷ l) 0 42 47 ≡ t → CloseSplit (b ∷ l)
  unfolding find_close
  split_on h f true e =
      record {
        front = [];
        back = drop 2 (b ∷ l);
        whole = pair_split (b ∷ l) 42 47 e;
        size = sym (find_here (λ i. pair_at (b ∷ l) i 42 47) (length (b ∷ l)) 0 (omega arith) e);
        free = no_close;
      }
  split_on h f false e =
      let n : find_close (b ∷ l) 0 ≡ suc (find_close l 0) = find_next (λ i. pair_at (b ∷ l) i 42 47) (length (b ∷ l)) 0 (omega arith) e ∙ close_up b l 0 in
      let k = f (omega arith) in
      record {
        front = b ∷ k.front;
        back = k.back;
        whole = ap (λ (x : List ℕ). b ∷ x) k.whole;
        size = ap suc k.size ∙ sym n;
        free = free_on k.front k.back k.whole e k.free;
      }

close_split : (l : List ℕ) → find_close l 0 < length l → CloseSplit l
close_split [] h = absurd (omega arith)
close_split (b ∷ l) h = split_on b l h (close_split l) (pair_at (b ∷ l) 0 42 47) refl

-- ---- blanks

is_blank : {b : ℕ} → Blank b → is_aside b ≡ true
unfolding is_aside
is_blank space = refl
is_blank tab = refl
is_blank carriage_return = refl

blank_of : (b : ℕ) → is_aside b ≡ true → Blank b
unfolding is_aside
blank_of b = by (eqb b 32) refl (eqb b 9) refl (eqb b 13) refl
  where
    by : (t : Bool) → eqb b 32 ≡ t → (u : Bool) → eqb b 9 ≡ u → (v : Bool) → eqb b 13 ≡ v → either t (either u v) ≡ true → Blank b
    by true e u f v g h = subst Blank (sym (eqb-true b 32 e)) space
    by false e true f v g h = subst Blank (sym (eqb-true b 9 f)) tab
    by false e false f true g h = subst Blank (sym (eqb-true b 13 g)) carriage_return
    by false e false f false g h = absurd (false≢true h)

-- ---- what is set aside is passed

front_next : (a r : List ℕ) → (length a ≡ 0 → ⊥) → aside_at (a ++ r) 0 ≡ length a → aside (a ++ r) 0 ≡ length a + aside r 0
front_next a r h e = aside_next (a ++ r) 0 (λ z. h (sym e ∙ z)) ∙ ap (aside (a ++ r)) (e ∙ sym (add-zero (length a))) ∙ aside_on a r 0

blank_next : (b : ℕ) (r : List ℕ) → is_aside b ≡ true → aside (b ∷ r) 0 ≡ 1 + aside r 0
blank_next b r e = front_next (b ∷ []) r (λ z. absurd (omega arith)) (sym (aside_blank (b ∷ r) 0 e))

slash_no_aside : is_aside 47 ≡ false
unfolding is_aside
slash_no_aside = refl

comment_next : (c r : List ℕ) → NoClose c → aside (47 ∷ 42 ∷ (c ++ (42 ∷ 47 ∷ r))) 0 ≡ (2 + (length c + 2)) + aside r 0
comment_next c r f =
    let m : List ℕ = c ++ (42 ∷ 47 ∷ r) in
    let a : List ℕ = 47 ∷ 42 ∷ (c ++ (42 ∷ 47 ∷ [])) in
    let l : List ℕ = 47 ∷ 42 ∷ m in
    let w : a ++ r ≡ l = ap (λ (x : List ℕ). 47 ∷ 42 ∷ x) (append_assoc c (42 ∷ 47 ∷ []) r) in
    let n : find_close l 2 ≡ 2 + length c = close_up 47 (42 ∷ m) 1 ∙ ap suc (close_up 42 m 0) ∙ two_more (find_close m 0) ∙ ap (λ (x : ℕ). 2 + x) (close_find c r f) in
    let s : length a ≡ 2 + (length c + 2) = two_more (length (c ++ (42 ∷ 47 ∷ []))) ∙ ap (λ (x : ℕ). 2 + x) (length-append c (42 ∷ 47 ∷ [])) in
    let z = length-append c (42 ∷ 47 ∷ r) in
    let p : aside_at l 0 ≡ find_close l 2 + 2 =
    sym (aside_comment l 0 slash_no_aside (pair_second l 0 47 47 (omega arith) refl) (pair_front 47 42 m) (omega arith)) in
    let q : aside_at (a ++ r) 0 ≡ length a = ap (λ (x : List ℕ). aside_at x 0) w ∙ p ∙ (let y : find_close l 2 + 2 ≡ length a = omega arith in y) in
    ap (λ (x : List ℕ). aside x 0) (sym w) ∙ front_next a r (λ y. absurd (omega arith)) q ∙ ap (λ (x : ℕ). x + aside r 0) s

pub passes : {x : List ℕ} → Aside x → (r : List ℕ) → aside (x ++ r) 0 ≡ length x + aside r 0
passes nothing r = sym (zero-add (aside r 0))
passes (blank {b} {l} k a) r =
    let e = passes a r in
    let f = blank_next b (l ++ r) (is_blank k) in
    omega arith
passes (comment {c} {l} k a) r =
    let e = passes a r in
    let f = comment_next c (l ++ r) k in
    let g = length-append c (42 ∷ 47 ∷ l) in
    let h : aside (47 ∷ 42 ∷ ((c ++ (42 ∷ 47 ∷ l)) ++ r)) 0 ≡ aside (47 ∷ 42 ∷ (c ++ (42 ∷ 47 ∷ (l ++ r)))) 0 =
    ap (λ (x : List ℕ). aside (47 ∷ 42 ∷ x) 0) (append_assoc c (42 ∷ 47 ∷ l) r) in
    omega arith

-- a byte at which nothing is set aside
pub stays_at : (b : ℕ) (r : List ℕ) → is_aside b ≡ false → (b ≡ 47 → ⊥) → aside (b ∷ r) 0 ≡ 0
stays_at b r e n = aside_stay (b ∷ r) 0 (sym (aside_none (b ∷ r) 0 e (pair_other (b ∷ r) 0 47 47 n) (pair_other (b ∷ r) 0 47 42 n)))

-- a comment `//` goes to the end
line_next : (c : List ℕ) → aside (47 ∷ 47 ∷ c) 0 ≡ length (47 ∷ 47 ∷ c)
line_next c =
    let l : List ℕ = 47 ∷ 47 ∷ c in
    let e : aside_at l 0 ≡ length l = sym (aside_line l 0 slash_no_aside (pair_front 47 47 c)) in
    aside_next l 0 (λ z. absurd (omega arith)) ∙ ap (aside l) e ∙ aside_stay l (length l) (sym (aside_past l (length l) (omega arith)))

none_next : aside [] 0 ≡ 0
none_next = aside_stay [] 0 (sym (aside_past [] 0 (omega arith)))

pub passes_end : {x : List ℕ} → AsideEnd x → aside x 0 ≡ length x
passes_end (no_more {l} a) =
    ap (λ (y : List ℕ). aside y 0) (sym (append-nil {A = ℕ} l)) ∙ passes a [] ∙ ap (λ (n : ℕ). length l + n) none_next ∙ add-zero (length l)
passes_end (line_comment {l} a c) = passes a (47 ∷ 47 ∷ c) ∙ ap (λ (n : ℕ). length l + n) (line_next c) ∙ sym (length-append l (47 ∷ 47 ∷ c))

-- ---- what is passed is set aside

ends_blank : {b : ℕ} {f : List ℕ} → Blank b → AsideEnd f → AsideEnd (b ∷ f)
ends_blank k (no_more a) = no_more (blank k a)
ends_blank k (line_comment a c) = line_comment (blank k a) c

ends_comment : {c f : List ℕ} → NoClose c → AsideEnd f → AsideEnd (47 ∷ 42 ∷ (c ++ (42 ∷ 47 ∷ f)))
ends_comment k (no_more a) = no_more (comment k a)
ends_comment {c} k (line_comment {l} a d) =
    subst AsideEnd (ap (λ (x : List ℕ). 47 ∷ 42 ∷ x) (append_assoc c (42 ∷ 47 ∷ l) (47 ∷ 47 ∷ d))) (line_comment (comment k a) d)

-- the first j bytes of a line are set aside; those of a comment `//` are the last ones
pub record Passed (l : List ℕ) (j : ℕ) : Type 0 where
  pub front : List ℕ
  pub back : List ℕ
  pub whole : l ≡ front ++ back
  pub size : length front ≡ j
  pub set : Aside front ⊎ (AsideEnd front × (back ≡ []))

none_passed : (l : List ℕ) (j : ℕ) → j ≡ 0 → Passed l j
none_passed l j e = record { front = []; back = l; whole = refl; size = sym e; set = inl nothing }

blank_passed : (b : ℕ) (l : List ℕ) → is_aside b ≡ true → Passed l (aside l 0) → Passed (b ∷ l) (aside (b ∷ l) 0)
blank_passed b l e p =
    let n = blank_next b l e in
    let s = p.size in
    record { front = b ∷ p.front; back = p.back; whole = ap (λ (x : List ℕ). b ∷ x) p.whole; size = omega arith; set = by p.set }
  where
    by : {f r : List ℕ} → Aside f ⊎ (AsideEnd f × (r ≡ [])) → Aside (b ∷ f) ⊎ (AsideEnd (b ∷ f) × (r ≡ []))
    by (inl a) = inl (blank (blank_of b e) a)
    by (inr a) = inr (ends_blank (blank_of b e) a.0, a.1)

comment_passed : (m : List ℕ) (k : CloseSplit m) → Passed k.back (aside k.back 0) → Passed (47 ∷ 42 ∷ m) (aside (47 ∷ 42 ∷ m) 0)
comment_passed m k p =
    let c = k.front in
    let n : aside (47 ∷ 42 ∷ m) 0 ≡ (2 + (length c + 2)) + aside k.back 0 =
    ap (λ (x : List ℕ). aside (47 ∷ 42 ∷ x) 0) k.whole ∙ comment_next c k.back k.free in
    let s = p.size in
    let z = length-append c (42 ∷ 47 ∷ p.front) in
    record {
      front = 47 ∷ 42 ∷ (c ++ (42 ∷ 47 ∷ p.front));
      back = p.back;
      whole = ap (λ (x : List ℕ). 47 ∷ 42 ∷ x)
          (k.whole ∙ ap (λ (x : List ℕ). c ++ (42 ∷ 47 ∷ x)) p.whole ∙ sym (append_assoc c (42 ∷ 47 ∷ p.front) p.back));
      size = omega arith;
      set = by p.set;
    }
  where
    by : {f r : List ℕ} → Aside f ⊎ (AsideEnd f × (r ≡ [])) →
        Aside (47 ∷ 42 ∷ (k.front ++ (42 ∷ 47 ∷ f))) ⊎ (AsideEnd (47 ∷ 42 ∷ (k.front ++ (42 ∷ 47 ∷ f))) × (r ≡ []))
    by (inl a) = inl (comment k.free a)
    by (inr a) = inr (ends_comment k.free a.0, a.1)

line_passed : (c : List ℕ) → Passed (47 ∷ 47 ∷ c) (aside (47 ∷ 47 ∷ c) 0)
line_passed c =
    record {
      front = 47 ∷ 47 ∷ c;
      back = [];
      whole = sym (append-nil {A = ℕ} (47 ∷ 47 ∷ c));
      size = sym (line_next c);
      set = inr (line_comment nothing c, refl);
    }

again : {l m : List ℕ} → l ≡ m → Passed m (aside m 0) → Passed l (aside l 0)
again e p = subst (λ (x : List ℕ). Passed x (aside x 0)) (sym e) p

module _ (b : ℕ) (l : List ℕ) (f : (m : List ℕ) → length m < length (b ∷ l) → Passed m (aside m 0)) where
  by_close : is_aside b ≡ false → pair_at (b ∷ l) 0 47 47 ≡ false → pair_at (b ∷ l) 0 47 42 ≡ true → Passed (b ∷ l) (aside (b ∷ l) 0)
  by_close e n g =
      let w = pair_split (b ∷ l) 47 42 g in
      let m : List ℕ = drop 2 (b ∷ l) in
      let c : find_close (b ∷ l) 2 ≡ 2 + find_close m 0 =
      ap (λ (x : List ℕ). find_close x 2) w ∙ close_up 47 (42 ∷ m) 1 ∙ ap suc (close_up 42 m 0) ∙ two_more (find_close m 0) in
      let z : length (b ∷ l) ≡ 2 + length m = ap length w ∙ two_more (length m) in
      split (find_close (b ∷ l) 2) (length (b ∷ l))
      (λ u.
      let k = close_split m (omega arith) in
      let y = ap length k.whole in
      let x = length-append k.front (42 ∷ 47 ∷ k.back) in
      again w (comment_passed m k (f k.back (omega arith))))
      (λ u. none_passed (b ∷ l) (aside (b ∷ l) 0) (aside_stay (b ∷ l) 0 (sym (aside_open (b ∷ l) 0 e n g u))))

  by_block : (t : Bool) → is_aside b ≡ false → pair_at (b ∷ l) 0 47 47 ≡ false → pair_at (b ∷ l) 0 47 42 ≡ t → Passed (b ∷ l) (aside (b ∷ l) 0)
  by_block true e n g = by_close e n g
  by_block false e n g = none_passed (b ∷ l) (aside (b ∷ l) 0) (aside_stay (b ∷ l) 0 (sym (aside_none (b ∷ l) 0 e n g)))

  by_line : (t : Bool) → is_aside b ≡ false → pair_at (b ∷ l) 0 47 47 ≡ t → Passed (b ∷ l) (aside (b ∷ l) 0)
  by_line true e n = again (pair_split (b ∷ l) 47 47 n) (line_passed (drop 2 (b ∷ l)))
  by_line false e n = by_block (pair_at (b ∷ l) 0 47 42) e n refl

  by_blank : (t : Bool) → is_aside b ≡ t → Passed (b ∷ l) (aside (b ∷ l) 0)
  by_blank true e = blank_passed b l e (f l (omega arith))
  by_blank false e = by_line (pair_at (b ∷ l) 0 47 47) e refl

by_shorter : (l : List ℕ) → ((m : List ℕ) → length m < length l → Passed m (aside m 0)) → Passed l (aside l 0)
by_shorter [] f = none_passed [] (aside [] 0) none_next
by_shorter (b ∷ l) f = by_blank b l f (is_aside b) refl

passed_n : (n : ℕ) (l : List ℕ) → length l ≤ n → Passed l (aside l 0)
passed_n zero l h = by_shorter l (λ m k. absurd (omega arith))
passed_n (suc n) l h = by_shorter l (λ m k. passed_n n m (omega arith))

pub passed : (l : List ℕ) → Passed l (aside l 0)
passed l = passed_n (length l) l (omega arith)

-- a line that is passed to its end
pub passed_end : (l : List ℕ) → aside l 0 ≡ length l → AsideEnd l
passed_end l e = by (passed l)
  where
    by : Passed l (aside l 0) → AsideEnd l
    by p =
        let s = p.size in
        let w = p.whole in
        let n = ap length w in
        let m = length-append p.front p.back in
        let z : p.back ≡ [] = empty p.back (omega arith) in
        let y : l ≡ p.front = w ∙ ap (λ (x : List ℕ). p.front ++ x) z ∙ append-nil {A = ℕ} p.front in
        subst AsideEnd (sym y) (ends p.set)
      where
        empty : (x : List ℕ) → length x ≡ 0 → x ≡ []
        empty [] h = refl
        empty (b ∷ x) h = absurd (omega arith)

        ends : {f r : List ℕ} → Aside f ⊎ (AsideEnd f × (r ≡ [])) → AsideEnd f
        ends (inl a) = no_more a
        ends (inr a) = a.0
