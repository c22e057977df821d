-- A comma is an item by itself, wherever its byte stands. Assumes nothing.
use mathlib.Core.Path.{◌≡◌, refl, sym, ◌∙◌, ap}
use mathlib.Core.List.{List}
use mathlib.Core.Bool.{false}
use Prim.Native.Nat.{ℕ, ◌+◌, ◌<◌}
use lib.ListN.{length}
use borrow.Author.Tests.{lt-ltb}
use Rattle.token.specs.Find.{byte}
use Rattle.token.specs.Bytes.{class_of}
use Rattle.token.specs.declared.scan.Class.{Class}
use Rattle.token.specs.declared.scan.Class.TheVariants.{Punctuator as punctuator}
use Rattle.token.specs.Gaps.{gap_at, gap_of}
use Rattle.token.specs.Tokens.{found, token_of, token_at, step_at}
use Rattle.token.specs.declared.Sort.TheVariants.{Punctuator}
use Rattle.scopes.specs.Items.{item_of, item_of_step, item_at}
use Rattle.token.proofs.Gaps.{skip_here}
use Rattle.token.proofs.Lexemes.{step_token}

class_comma : class_of 44 ≡ punctuator
unfolding class_of
class_comma = refl

pub comma_item : (s : List ℕ) (p : ℕ) → p < length s → byte s p ≡ 44
    → record { number = record { negative = false; amount = 0 }; sign = 44; at = p; next = p + 1 } ≡ item_at s p
unfolding item_at item_of_step item_of token_at token_of found gap_at gap_of
comma_item s p h e =
    let c : class_of (byte s p) ≡ punctuator = ap class_of e ∙ class_comma in
    let t : step_at s p ≡ token_at s p = step_token s p p (skip_here s p (ap (λ (k : Class). gap_of k s p) c)) in
    let u : token_at s p ≡ token_of punctuator s p = rw (lt-ltb p (length s) h, c) in
    let v : token_of punctuator s p ≡ found (Punctuator 44) p (p + 1) = ap (λ (b : ℕ). found (Punctuator b) p (p + 1)) e in
    sym (ap item_of_step (t ∙ u ∙ v))
