-- What stands between two tokens, blanks and comments, as a text of its own: whatever goes on after it begins where it ends. Assumes nothing.
use Prim.Native.Nat.{ℕ, ◌+◌, ◌≤◌, ◌<◌}
use mathlib.Core.Path.{◌≡◌, refl, sym, ◌∙◌, ap, subst}
use mathlib.Core.List.{List, [], ◌∷◌, ◌++◌, append_assoc, append-nil}
use mathlib.Core.Bool.{Bool, true, false}
use mathlib.Core.Logic.{⊎_elim}
use native.Mathlib.Omega.{arith}
use native.Mathlib.Nat.{eq-or-lt_of_le, add-zero}
use lib.ListN.{length, length-append, get_or-append, take, drop, take-append-drop, length-drop}
use lib.Seq.{length-take-le}
use lib.Dec.{eqb}
use borrow.Author.Tests.{eqb-true}
use Rattle.token.specs.Find.{byte, find}
use Rattle.token.specs.Bytes.{class_of, find_byte, find_close}
use Rattle.token.specs.declared.scan.Class.TheVariants.{Blank as blank}
use Rattle.token.specs.Tokens.{token_at, step_at}
use Rattle.token.specs.Lexing.{Lexed, more, ended, refused, Divides, lex_from, after_step}
use Rattle.token.proofs.Sequences.{tokens_of, after_all}
use Rattle.token.specs.declared.Cursor.{Cursor}
use Rattle.token.specs.declared.Token.{Token}
use Rattle.token.specs.declared.Step.{Step}
use Rattle.token.specs.declared.Step.TheVariants.{Found, Refused, End}
use Rattle.token.proofs.Find.{find_holds}
use Rattle.token.proofs.Bytes.{pair_inside}
use Rattle.token.proofs.Steps.{TokenOk, token_ok, found_fits, lex_law}
use Rattle.locality.proofs.Skipping.{Gap, a_blank, a_line, a_block, parting, Bare, plain, lone, unended, Skips, here, on, skips_step, skips_low, stop}
use Rattle.locality.proofs.Shift.{moved, moved_step, moved_all, step_shift, lex_rest}
use Rattle.locality.proofs.Front.{Same, close_low, pair_front, class_front, close_front, gap_front, by_bare}
use Rattle.locality.proofs.Pieces.{may_start, Piece, piece_append, Run, last_end, run_last, LastEnds, piece_run, first, leading}

module _ (g z b : List ℕ) where
  -- the texts have the bytes of g in common
  common : Same (g ++ z) (g ++ b) 0 (length g)
  common i _ h = get_or-append g b 0 i h ∙ sym (get_or-append g z 0 i h)

  high_first : length g ≤ length (g ++ z)
  high_first = let l = length-append g z in omega arith

  high_second : length g ≤ length (g ++ b)
  high_second = let l = length-append g b in omega arith

  -- a blank or a comment that ends inside g, or where g ends and no blank follows
  gap_other : (r q : ℕ) → q ≤ length g → length g < length (g ++ z) → (class_of (byte (g ++ z) (length g)) ≡ blank → ⊥) → Gap (g ++ z) r q → Gap (g ++ b) r q
  unfolding find_byte class_of
  gap_other r q k l n (a_blank c e) = a_blank (class_front (g ++ z) (g ++ b) 0 (length g) high_first high_second common r (omega arith) (omega arith) ∙ c) e
  gap_other r q k l n (a_line c t e) =
      ⊎_elim
      (λ same.
      absurd
      (let i = pair_inside (g ++ z) r 47 47 t in
      let feed : ℕ → Bool = λ i. eqb (byte (g ++ z) i) 10 in
      let f : find feed (length (g ++ z)) (r + 2) ≡ length g = sym e ∙ same in
      let h = find_holds feed (length (g ++ z)) (r + 2) (omega arith) (omega arith) in
      let v : byte (g ++ z) (length g) ≡ 10 = eqb-true (byte (g ++ z) (length g)) 10 (ap feed (sym f) ∙ h) in
      n (ap class_of v)))
      (λ less. gap_front (g ++ z) (g ++ b) 0 (length g) high_first high_second common r q (omega arith) less (a_line c t e))
      (eq-or-lt_of_le k)
  gap_other r q k l n (a_block c f t h e) =
      let s = g ++ z in
      let u = g ++ b in
      let i = pair_inside s r 47 42 t in
      let at_least : r + 2 ≤ find_close s (r + 2) = close_low s (r + 2) in
      let w : find_close u (r + 2) ≡ find_close s (r + 2) = close_front s u 0 (length g) high_first high_second common r (omega arith) (omega arith) h (omega arith) in
      let o = high_second in
      a_block (class_front s u 0 (length g) high_first high_second common r (omega arith) (omega arith) ∙ c)
      (pair_front s u 0 (length g) high_first high_second common r 47 47 (omega arith) (omega arith) ∙ f)
      (pair_front s u 0 (length g) high_first high_second common r 47 42 (omega arith) (omega arith) ∙ t) (omega arith) (omega arith)

  skips_other : (m p : ℕ) → m ≡ length g → length g < length (g ++ z) → (class_of (byte (g ++ z) (length g)) ≡ blank → ⊥) → Skips (g ++ z) m p → Skips (g ++ b) m p
  skips_other m p e l n (here _ i) = here p i
  skips_other m p e l n (on _ q h k) =
      let o = skips_low (g ++ z) m q k in
      on p q (gap_other p q (omega arith) l n h) (skips_other m q e l n k)

-- where a token begins there is no blank
no_blank : (s : List ℕ) (m : ℕ) → Bare s m → class_of (byte s m) ≡ blank → ⊥
unfolding parting
no_blank s m (plain f) e = let z : ◌≡◌ {A = Bool} false true = sym f ∙ ap parting e in let y : ◌≡◌ {A = ℕ} 0 1 = cc in omega arith
no_blank s m (lone f g h) e = let z = sym f ∙ e in let y : ◌≡◌ {A = ℕ} 0 1 = cc in omega arith
no_blank s m (unended f g h k) e = let z = sym f ∙ e in let y : ◌≡◌ {A = ℕ} 0 1 = cc in omega arith

-- blanks and comments up to where a token begins
pub piece_gap : (g z : List ℕ) (t : Token) (c : Cursor) → step_at (g ++ z) 0 ≡ Found t c → t.at ≡ length g → Piece false g []
unfolding after_all
piece_gap g z t c e i =
    let s = g ++ z in
    let w = stop s 0 in
    let m = w.place in
    let r : token_at s m ≡ Found t c = by_bare s m t c w.bare (sym (skips_step s m 0 w.skipped) ∙ e) in
    let o : TokenOk s m (Found t c) = subst (TokenOk s m) r (token_ok s m) in
    let p = o.0 in
    let p₁ = o.1 in
    let p₂ = o.2 in
    let p₃ = o.3 in
    let q : m ≡ length g = omega arith in
    let less : length g < length s = omega arith in
    let n : class_of (byte s (length g)) ≡ blank → ⊥ = λ v. no_blank s m w.bare (ap (λ (j : ℕ). class_of (byte s j)) q ∙ v) in
    record {
      joined = λ b _.
          let u = g ++ b in
          lex_law u 0 ∙ ap (λ (x : Step). after_step x (lex_from u)) (skips_step u m 0 (skips_other g z b m 0 q less n w.skipped))
          ∙ sym (lex_law u m) ∙ ap (lex_from u) q ∙ lex_rest g b;
      inside = tt;
    }

-- the step that was moved
record Unmoved (d : ℕ) (r : Step) (t : Token) : Type 0 where
  token : Token
  next : Cursor
  found_it : r ≡ Found token next
  at_is : d + token.at ≡ t.at

unmove : (d : ℕ) (r : Step) (t : Token) (c : Cursor) → moved_step d r ≡ Found t c → Unmoved d r t
unfolding moved_step moved
unmove d (Found u k) t c e =
    let v : record { sort = u.sort; at = d + u.at; len = u.len } ≡ t = cc in
    record { token = u; next = k; found_it = refl; at_is = ap (λ (x : Token). x.at) v }
unmove d (Refused q) t c e = absurd (let x : ◌≡◌ {A = ℕ} 0 1 = cc in omega arith)
unmove d (End q) t c e = absurd (let x : ◌≡◌ {A = ℕ} 0 1 = cc in omega arith)

-- what stands between the last of some tokens and the next one
pub piece_between : (a m z : List ℕ) (ts us : List Token) (t : Token) → tokens_of (lex_from (a ++ (m ++ z)) 0) ≡ ts ++ (t ∷ us) → last_end 0 ts ≡ length a
    → t.at ≡ length a + length m → Piece false m []
piece_between a m z ts us t k l i =
    let s = a ++ (m ++ z) in
    let r = leading s 0 ts (t ∷ us) k in
    let e : r.end ≡ length a = sym (run_last s r.end 0 ts r.run) ∙ l in
    let f = first s r.end t us r.rest in
    let step : moved_step (length a) (step_at (m ++ z) 0) ≡ Found t f.next =
    sym (step_shift a (m ++ z) 0) ∙ ap (step_at s) (add-zero (length a) ∙ sym e) ∙ f.step in
    let v = unmove (length a) (step_at (m ++ z) 0) t f.next step in
    let y = v.at_is in
    piece_gap m z v.token v.next v.found_it (omega arith)

-- all tokens before the one that begins where a text ends
pub piece_until : (a z : List ℕ) (ts us : List Token) (t : Token) → tokens_of (lex_from (a ++ z) 0) ≡ ts ++ (t ∷ us) → t.at ≡ length a
    → ((b : List ℕ) → LastEnds b ts) → Piece false a ts
unfolding may_start
piece_until a z ts us t k i h =
    let s = a ++ z in
    let r = leading s 0 ts (t ∷ us) k in
    let e = r.end in
    let f = first s e t us r.rest in
    let o = found_fits s e t f.next f.step in
    let low : e ≤ length a = let x = o.after in omega arith in
    let front = take e a in
    let g = drop e a in
    let long : length front ≡ e = length-take-le e a low in
    let whole : front ++ g ≡ a = take-append-drop e a in
    let text : s ≡ front ++ (g ++ z) = ap (λ (x : List ℕ). x ++ z) (sym whole) ∙ append_assoc front g z in
    let run : Run (front ++ (g ++ z)) (length front) 0 ts = subst (λ (x : List ℕ). Run x (length front) 0 ts) text (subst (λ (n : ℕ). Run s n 0 ts) (sym long) r.run) in
    let n = length-drop e a in
    let behind : Piece false g [] =
    piece_between front g z ts us t (ap (λ (x : List ℕ). tokens_of (lex_from x 0)) (sym text) ∙ k) (run_last s e 0 ts r.run ∙ sym long) (omega arith) in
    let both = piece_append {f = false} refl (piece_run false front (g ++ z) ts run (λ b _. h b)) behind in
    subst (λ (x : List ℕ). Piece false x ts) whole (subst (Piece false (front ++ g)) (append-nil ts) both)

-- a list divides wholly if it does with tokens in front,
pub after_divides : (ts : List Token) (l : Lexed) → Divides (after_all ts l) → Divides l
unfolding after_all
after_divides [] l d = d
after_divides (t ∷ ts) l d = after_divides ts l d

-- or if it does where it is moved
pub moved_divides : (d : ℕ) (l : Lexed) → Divides (moved_all d l) → Divides l
unfolding moved_all
moved_divides d (more t l) h = moved_divides d l h
moved_divides d (ended n) h = h
moved_divides d (refused p) h = h
