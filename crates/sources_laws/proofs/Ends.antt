-- How the tokens of a text end, in parts of it and with another text in front. Assumes nothing.
use Prim.Native.Nat.{ℕ, ◌+◌, ◌≤◌}
use mathlib.Core.List.{List, ◌++◌}
use mathlib.Core.Bool.{true}
use mathlib.Core.Path.{◌≡◌, sym, ◌∙◌, ap, subst}
use native.Mathlib.Omega.{arith}
use lib.ListN.{length, drop}
use Rattle.token.specs.Tokens.{step_at}
use Rattle.token.specs.Lexing.{Lexed, more, ended, refused, after_step, lex_from}
use Rattle.token.specs.declared.Cursor.{Cursor}
use Rattle.token.specs.declared.Token.{Token}
use Rattle.token.specs.declared.Step.{Step}
use Rattle.token.specs.declared.Step.TheVariants.{Found}
use Rattle.token.proofs.Steps.{found_fits, lex_law, lex_found}
use Rattle.locality.proofs.Shift.{moved_all, lex_rest}
use Rattle.locality.proofs.Join.{lex_drop, step_longer, step_shorter}
use Rattle.locality.proofs.Front.{ends}
use Rattle.locality.proofs.Skipping.{Skips, skips_step}
use Rattle.sources_laws.specs.Lexings.{EndsAs}

-- ---- moved

pub ends_moved : (d n q : ℕ) (l : Lexed) → EndsAs n q l → EndsAs n (d + q) (moved_all d l)
unfolding moved_all
ends_moved d n q (more t l) e = ends_moved d n q l e
ends_moved d n q (ended m) e = e
ends_moved d n q (refused p) e = (e.0, ap (λ (i : ℕ). d + i) e.1)

pub ends_unmoved : (d n q : ℕ) (l : Lexed) → EndsAs n (d + q) (moved_all d l) → EndsAs n q l
unfolding moved_all
ends_unmoved d n q (more t l) e = ends_unmoved d n q l e
ends_unmoved d n q (ended m) e = e
ends_unmoved d n q (refused p) e = (e.0, let k = e.1 in omega arith)

-- ---- by steps

-- a list of tokens found one after the other from p on, up to q
pub data Run (s : List ℕ) (q : ℕ) : ℕ → Type 0 where
  stay : (p : ℕ) → p ≡ q → Run s q p
  go : (p : ℕ) (t : Token) (c : Cursor) → step_at s p ≡ Found t c → Run s q c.at → Run s q p

pub run_low : (s : List ℕ) (q p : ℕ) → Run s q p → p ≤ q
run_low s q p (stay _ e) = omega arith
run_low s q p (go _ t c e r) = let o = found_fits s p t c e in let l = run_low s q c.at r in omega arith

pub run_high : (s : List ℕ) (q p : ℕ) → p ≤ length s → Run s q p → q ≤ length s
run_high s q p h (stay _ e) = omega arith
run_high s q p h (go _ t c e r) = run_high s q c.at (found_fits s p t c e).inside r

pub run_ends : (s : List ℕ) (n i q p : ℕ) → Run s q p → EndsAs n i (lex_from s q) → EndsAs n i (lex_from s p)
run_ends s n i q p (stay _ e) k = subst (λ (j : ℕ). EndsAs n i (lex_from s j)) (sym e) k
run_ends s n i q p (go _ t c e r) k = subst (EndsAs n i) (sym (lex_found s p t c e)) (run_ends s n i q c.at r k)

-- past blanks and comments
pub skips_lex : (s : List ℕ) (m p : ℕ) → Skips s m p → lex_from s p ≡ lex_from s m
skips_lex s m p k = lex_law s p ∙ ap (λ (r : Step). after_step r (lex_from s)) (skips_step s m p k) ∙ sym (lex_law s m)

-- the text from p on by itself
pub ends_drop : (s : List ℕ) (p n q : ℕ) → p ≤ length s → EndsAs n (p + q) (lex_from s p) → EndsAs n q (lex_from (drop p s) 0)
ends_drop s p n q h e = ends_unmoved p n q (lex_from (drop p s) 0) (subst (EndsAs n (p + q)) (lex_drop s p h) e)

-- what ends a text ends it with another in front
pub ends_rest : (a b : List ℕ) (n q : ℕ) → EndsAs n q (lex_from b 0) → EndsAs n (length a + q) (lex_from (a ++ b) (length a))
ends_rest a b n q e = subst (EndsAs n (length a + q)) (sym (lex_rest a b)) (ends_moved (length a) n q (lex_from b 0) e)

-- tokens of a in a and b
pub run_longer : (a b : List ℕ) (q p : ℕ) → ((t : Token) (c : Cursor) (r : ℕ) → step_at a r ≡ Found t c → ends t.sort (drop c.at (a ++ b)) ≡ true) →
    Run a q p → Run (a ++ b) q p
run_longer a b q p f (stay _ e) = stay p e
run_longer a b q p f (go _ t c e r) = go p t c (step_longer a b p t c e (f t c p e)) (run_longer a b q c.at f r)

-- tokens of a and b in a
pub run_shorter : (a b : List ℕ) (q p : ℕ) → q ≤ length a → Run (a ++ b) q p → Run a q p
run_shorter a b q p h (stay _ e) = stay p e
run_shorter a b q p h (go _ t c e r) =
    let l = run_low (a ++ b) q c.at r in
    go p t c (step_shorter a b p t c e (omega arith)) (run_shorter a b q c.at h r)
