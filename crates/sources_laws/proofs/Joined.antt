-- "No token or comment crosses a text's end": the tokens of an expanded text are those of what stands before the include line, then those of the
-- included text, expanded, then those of what follows. Assumes nothing.
use Prim.Native.Nat.{ℕ, ◌-◌, ◌≤◌, ◌<◌}
use mathlib.Core.List.{List, [], ◌∷◌, ◌++◌}
use mathlib.Core.Bool.{true}
use mathlib.Core.Path.{◌≡◌, refl, sym, ◌∙◌, ap, subst}
use native.Mathlib.Omega.{arith}
use lib.ListN.{length, drop}
use Rattle.token.specs.Find.{byte}
use Rattle.token.specs.Bytes.{class_of}
use Rattle.token.specs.Tokens.{step_at}
use Rattle.token.specs.Lexing.{more, Divides, lex_from}
use Rattle.token.proofs.Sequences.{tokens_of, after_all}
use Rattle.token.specs.declared.Cursor.{Cursor}
use Rattle.token.specs.declared.Token.{Token}
use Rattle.token.specs.declared.Step.{Step}
use Rattle.token.specs.declared.Step.TheVariants.{Found, Refused, End}
use Rattle.token.proofs.Steps.{found_fits, lex_found, lex_bad, lex_end}
use Rattle.locality.proofs.Onward.{onward}
use Rattle.locality.proofs.Shift.{moved_all, lex_rest}
use Rattle.locality.proofs.Join.{step_longer}
use Rattle.locality.proofs.Front.{ends}
use Rattle.locality.proofs.Pieces.{Run, stay, go, run_high, piece_blank, may_follow}
use Rattle.sources_laws.proofs.Feeds.{feed_next, feed_last, end_skips}
use Rattle.sources_laws.proofs.Longer.{Parted, skips_longer}
use Rattle.sources_laws.proofs.Ends.{skips_lex}
use Rattle.sources_laws.proofs.Outcomes.{feeds}
use Rattle.sources_laws.proofs.Fronts.{parted}

-- ---- a text that divides wholly into tokens

pub record WholeRun (a : List ℕ) (p : ℕ) : Type 0 where
  pub last : ℕ
  pub found : List Token
  pub place : ℕ
  pub run : Run a last p found
  pub end : step_at a last ≡ End place
  pub tokens : tokens_of (lex_from a p) ≡ found

by_step : (a : List ℕ) (p : ℕ) → ((q : ℕ) → p < q → q ≤ length a → Divides (lex_from a q) → WholeRun a q) → (r : Step) → step_at a p ≡ r → Divides (lex_from a p) → WholeRun a p
unfolding tokens_of
by_step a p f (Found t c) e d =
    let o = found_fits a p t c e in
    let l = o.long in
    let w = f c.at (omega arith) o.inside (subst Divides (lex_found a p t c e) d) in
    record {
      last = w.last;
      found = t ∷ w.found;
      place = w.place;
      run = go p t c w.found e w.run;
      end = w.end;
      tokens = ap tokens_of (lex_found a p t c e) ∙ ap (λ (x : List Token). t ∷ x) w.tokens;
    }
by_step a p f (Refused q) e d = absurd (subst Divides (lex_bad a p q e) d)
by_step a p f (End n) e d = record { last = p; found = []; place = n; run = stay p refl; end = e; tokens = ap tokens_of (lex_end a p n e) }

whole_run : (a : List ℕ) (p : ℕ) → Divides (lex_from a p) → WholeRun a p
whole_run a = onward (length a) (λ (p : ℕ). Divides (lex_from a p) → WholeRun a p) (λ p f. by_step a p f (step_at a p) refl)

run_lex : (s : List ℕ) (q p : ℕ) (ts : List Token) → Run s q p ts → lex_from s p ≡ after_all ts (lex_from s q)
unfolding after_all
run_lex s q p ts (stay _ e) = ap (lex_from s) e
run_lex s q p ts (go _ t c us e r) = lex_found s p t c e ∙ ap (more t) (run_lex s q c.at us r)

run_longer : (a b : List ℕ) (q p : ℕ) (ts : List Token) → ((t : Token) (c : Cursor) (r : ℕ) → step_at a r ≡ Found t c → ends t.sort (drop c.at (a ++ b)) ≡ true) →
    Run a q p ts → Run (a ++ b) q p ts
run_longer a b q p ts f (stay _ e) = stay p e
run_longer a b q p ts f (go _ t c us e r) = go p t c us (step_longer a b p t c e (f t c p e)) (run_longer a b q c.at us f r)

joined : (a b : List ℕ) → Divides (lex_from a 0) → Parted a b → ((t : Token) (c : Cursor) (r : ℕ) → step_at a r ≡ Found t c → ends t.sort (drop c.at (a ++ b)) ≡ true) →
    lex_from (a ++ b) 0 ≡ after_all (tokens_of (lex_from a 0)) (moved_all (length a) (lex_from b 0))
joined a b d f g =
    let w = whole_run a 0 d in
    let h = run_high a w.last 0 w.found w.run (omega arith) in
    run_lex (a ++ b) w.last 0 w.found (run_longer a b w.last 0 w.found g w.run)
    ∙ ap (after_all w.found) (skips_lex (a ++ b) (length a) w.last (skips_longer a b f (length a) w.last (end_skips a w.last w.place h w.end)) ∙ lex_rest a b)
    ∙ ap (λ (ts : List Token). after_all ts (moved_all (length a) (lex_from b 0))) (sym w.tokens)

-- a text, an LF, and another text
pub text_joined : (a b : List ℕ) → Divides (lex_from a 0) → lex_from (a ++ (10 ∷ b)) 0 ≡ after_all (tokens_of (lex_from a 0)) (moved_all (length a) (lex_from (10 ∷ b) 0))
text_joined a b d = joined a (10 ∷ b) d (feeds a b) (feed_next a b)

-- a text that is empty or ends with an LF, and another text
pub lines_joined : (a b : List ℕ) → Divides (lex_from a 0) → (0 < length a → byte a (length a - 1) ≡ 10) →
    lex_from (a ++ b) 0 ≡ after_all (tokens_of (lex_from a 0)) (moved_all (length a) (lex_from b 0))
lines_joined a b d f =
    joined a b d (parted a b f) (feed_last a b f)

-- an LF and another text
pub feed_joined : (b : List ℕ) → lex_from (10 ∷ b) 0 ≡ moved_all 1 (lex_from b 0)
unfolding after_all may_follow class_of
feed_joined b = (piece_blank 10 refl).joined b refl
