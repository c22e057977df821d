-- What stands before an include line, with any text behind it. Assumes nothing.
use Prim.Native.Nat.{ℕ, zero, suc, ◌+◌, ◌-◌, ◌≤◌, ◌<◌}
use mathlib.Core.List.{List, [], ◌∷◌, ◌++◌}
use mathlib.Core.Bool.{true, false≢true}
use mathlib.Core.Path.{◌≡◌, refl, sym, ◌∙◌, ap, subst}
use native.Mathlib.Omega.{arith}
use lib.ListN.{length, take, drop, length-append, length-take, length-drop, take-append-drop}
use lib.Seq.{drop-append-le, length-take-le, get_or-take}
use lib.Dec.{ltb, eqb}
use borrow.Author.Tests.{eqb-true, eq-eqb}
use Rattle.token.specs.Find.{both, byte}
use Rattle.token.specs.Bytes.{find_byte, pair_at}
use Rattle.token.specs.Tokens.{bytes_between, step_at}
use Rattle.token.specs.Lexing.{lex_from}
use Rattle.token.specs.declared.Step.{Step}
use Rattle.token.specs.declared.Step.TheVariants.{Found, Refused, End}
use Rattle.token.proofs.Find.{by_test, find_before}
use Rattle.token.proofs.Bytes.{both_second, pair_inside}
use Rattle.token.proofs.Steps.{found_fits}
use Rattle.sources.specs.Lines.{line_start, is_end, whole_to, stop_at}
use Rattle.sources.specs.declared.Line.{Line}
use Rattle.sources.specs.declared.Stop.TheVariants.{At, Line as AtLine}
use Rattle.sources.proofs.Singles.{split}
use Rattle.sources_laws.specs.Lexings.{EndsAs}
use Rattle.sources_laws.proofs.Feeds.{feed_last, end_skips}
use Rattle.sources_laws.proofs.Longer.{Parted, skips_longer}
use Rattle.sources_laws.proofs.Ends.{Run, run_low, run_ends, skips_lex, ends_drop, ends_rest, run_longer, run_shorter}
use Rattle.sources_laws.proofs.Outcomes.{Outcome, at_end, at_bad, outcome, LineSays, HashSays, hash_says}

-- a line begins at the text's start, or after an LF
pub line_feed : (s : List ℕ) (q : ℕ) → 0 < line_start s q → byte s (line_start s q - 1) ≡ 10
unfolding line_start
line_feed s zero = λ h. absurd (omega arith)
line_feed s (suc p) =
    let e : suc p - 1 ≡ p = omega arith in
    by_test (λ (r : ℕ). 0 < r → byte s (r - 1) ≡ 10) (eqb (byte s p) 10) (suc p) (line_start s p)
    (λ t _. ap (byte s) e ∙ eqb-true (byte s p) 10 t) (λ _. line_feed s p)

pub drop_take : (p n : ℕ) (s : List ℕ) → drop p (take n s) ≡ take (n - p) (drop p s)
drop_take zero n s = let e : n - 0 ≡ n = omega arith in ap (λ (k : ℕ). take k s) (sym e)
drop_take (suc p) zero [] = let e : 0 - suc p ≡ 0 = omega arith in ap (λ (k : ℕ). take {A = ℕ} k []) (sym e)
drop_take (suc p) (suc n) [] = none (suc n - suc p)
  where
    none : (k : ℕ) → [] ≡ take {A = ℕ} k []
    none zero = refl
    none (suc k) = refl
drop_take (suc p) zero (x ∷ s) = let e : 0 - suc p ≡ 0 = omega arith in ap (λ (k : ℕ). take k (drop p s)) (sym e)
drop_take (suc p) (suc n) (x ∷ s) = let e : n - p ≡ suc n - suc p = omega arith in drop_take p n s ∙ ap (λ (k : ℕ). take k (drop p s)) e

is_end_lem : (x : Step) → is_end x ≡ true → (n : ℕ) × (x ≡ End n)
is_end_lem (Found t c) e = absurd (false≢true e)
is_end_lem (Refused q) e = absurd (false≢true e)
is_end_lem (End n) e = (n, refl)

pair_second_byte : (s : List ℕ) (p a b : ℕ) → pair_at s p a b ≡ true → byte s (p + 1) ≡ b
unfolding pair_at
pair_second_byte s p a b e =
    eqb-true (byte s (p + 1)) b
    (both_second (eqb (byte s p) a) (eqb (byte s (p + 1)) b)
    (both_second (ltb (p + 1) (length s)) (both (eqb (byte s p) a) (eqb (byte s (p + 1)) b)) e))

-- in a text whose last byte is an LF each comment `//` ends before its end
pub parted : (u b : List ℕ) → (0 < length u → byte u (length u - 1) ≡ 10) → Parted u b
unfolding find_byte
parted u b f r t e =
    let i = pair_inside u r 47 47 t in
    let g = f (omega arith) in
    split (r + 2) (length u)
    (λ l.
    let w = find_before (λ i. eqb (byte u i) 10) (length u) (r + 2) (length u - 1) (omega arith) (omega arith) in
    absurd (false≢true (sym w ∙ eq-eqb (byte u (length u - 1)) 10 g)))
    (λ l.
    let z : r + 1 ≡ length u - 1 = omega arith in
    let y : byte u (length u - 1) ≡ 47 = subst (λ (k : ℕ). byte u k ≡ 47) z (pair_second_byte u r 47 47 t) in
    absurd (omega arith))

module _ (s b : List ℕ) (p m last : ℕ) (inside : m ≤ length s) (after : last ≤ m) (feed : 0 < m → byte s (m - 1) ≡ 10)
    (r : Run s last p) (whole : whole_to (take m s) last ≡ true) where
  size : length (take m s) ≡ m
  size = length-take-le m s inside

  last_byte : 0 < length (take m s) → byte (take m s) (length (take m s) - 1) ≡ 10
  last_byte h =
      let n = size in
      subst (λ (k : ℕ). byte (take m s) (k - 1) ≡ 10) (sym n) (get_or-take m s (m - 1) 0 (omega arith) ∙ feed (omega arith))

  runs : Run (take m s ++ b) last p
  runs =
      let n = size in
      run_longer (take m s) b last p (feed_last (take m s) b last_byte)
      (run_shorter (take m s) (drop m s) last p (omega arith) (subst (λ (x : List ℕ). Run x last p) (sym (take-append-drop m s)) r))

  unfolded : is_end (step_at (take m s) last) ≡ true
  unfolding whole_to
  unfolded = whole

  on_to : lex_from (take m s ++ b) last ≡ lex_from (take m s ++ b) (length (take m s))
  on_to =
      let n = size in
      let k = is_end_lem (step_at (take m s) last) unfolded in
      skips_lex (take m s ++ b) (length (take m s)) last
      (skips_longer (take m s) b (parted (take m s) b last_byte) (length (take m s)) last (end_skips (take m s) last k.0 (omega arith) k.1))

  pub front : (n j : ℕ) → EndsAs n j (lex_from b 0) → EndsAs n (length (bytes_between s p m) + j) (lex_from (bytes_between s p m ++ b) 0)
  front n j e =
      let z = size in
      let l = run_low s last p r in
      let a = length-append (take m s) b in
      let d = drop_take p m s in
      let y = length-take (m - p) (drop p s) in
      let x = length-drop p s in
      let w : p + (length (bytes_between s p m) + j) ≡ length (take m s) + j = omega arith in
      subst (λ (x : List ℕ). EndsAs n (length (bytes_between s p m) + j) (lex_from x 0)) (drop-append-le p (take m s) b (omega arith) ∙ ap (λ (x : List ℕ). x ++ b) d)
      (ends_drop (take m s ++ b) p n (length (bytes_between s p m) + j) (omega arith)
      (run_ends (take m s ++ b) n (p + (length (bytes_between s p m) + j)) last p runs
      (subst (EndsAs n (p + (length (bytes_between s p m) + j))) (sym on_to)
      (subst (λ (i : ℕ). EndsAs n i (lex_from (take m s ++ b) (length (take m s)))) (sym w) (ends_rest (take m s) b n j e)))))

-- what stands before an include line
pub line_front : (s : List ℕ) (p : ℕ) (i : Line) → i.start ≤ length s → stop_at s p ≡ AtLine i → (b : List ℕ) (n j : ℕ) → EndsAs n j (lex_from b 0) →
    EndsAs n (length (bytes_between s p i.start) + j) (lex_from (bytes_between s p i.start ++ b) 0)
line_front s p i h e b n j k = by (outcome s p)
  where
    by : Outcome s p (stop_at s p) → EndsAs n (length (bytes_between s p i.start) + j) (lex_from (bytes_between s p i.start ++ b) 0)
    by (at_end last m r f g) = absurd (let w : AtLine i ≡ At 0 (length s) = sym e ∙ g in let z : ◌≡◌ {A = ℕ} 0 1 = cc in omega arith)
    by (at_bad last q r f g) =
        let u : LineSays s last q i = subst (HashSays s last q) (sym g ∙ e) (hash_says s last q) in
        let m : i.start ≡ line_start s q = u.start in
        subst (λ (x : ℕ). EndsAs n (length (bytes_between s p x) + j) (lex_from (bytes_between s p x ++ b) 0)) (sym m)
        (front s b p (line_start s q) last (omega arith) u.after (line_feed s q) r u.whole n j k)
