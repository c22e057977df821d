-- The code of a word is that of the look at it. Assumes nothing.
use mathlib.Core.Path.{◌≡◌, sym, ◌∙◌, ap}
use mathlib.Core.List.{List}
use mathlib.Core.Bool.{Bool, true}
use Rattle.meaning.specs.Cells.{integer_code}
use Rattle.token.specs.Find.{pick}
use Rattle.grammar.specs.Grammar.{Class, matches, kind}
use Prim.Native.Nat.{ℕ, ◌-◌, ◌<◌}
use lib.Dec.{eqb}
use borrow.Author.Tests.{eqb-true}
use Rattle.token.proofs.Tables.{below}
use Rattle.token.proofs.Bytes.{T_true}
use Rattle.grammar.specs.Readers.{class_at, seen}
use Rattle.grammar.specs.declared.Look.{Look}
use Rattle.meaning.specs.Syntax.{Word}
use Rattle.meaning.specs.Kinds.{kind_number}
use Rattle.meaning.specs.Actions.{word_of, kind_of}
use Rattle.layout.specs.Kept.{class_number, given_number, sign_number, code_of}
use Rattle.filling.specs.Fills.{Seen}

pub class_back : (n : ℕ) → n < 56 → class_number (class_at n) ≡ n
unfolding class_number integer_code given_number sign_number kind_number class_at
class_back n h =
    eqb-true (class_number (class_at n)) n
    (T_true {b = eqb (class_number (class_at n)) n} (below (λ m. eqb (class_number (class_at m)) m) 56 tt n h))

module _ {s : List ℕ} {a : Look} {w : Word} (q : Seen s a w) where
  pub seen_code : code_of w ≡ a.code
  unfolding code_of word_of seen
  seen_code = ap (λ (x : Word). class_number x.class) q.word ∙ class_back a.code q.low

  pub seen_place : w.place ≡ a.at
  unfolding word_of seen
  seen_place = ap (λ (x : Word). x.place) q.word

  pub seen_length : w.length ≡ a.next - a.at
  unfolding word_of seen
  seen_length = ap (λ (x : Word). x.length) q.word

-- Kinds ----------------------------------------------------------------------------------------------------------------------------------

kind_code : (n : ℕ) → n < 56 → matches kind (class_at n) ≡ true → kind_number (kind_of (class_at n)) ≡ n - 9
unfolding matches class_at kind_of kind_number
kind_code n h e =
    let t = T_true {b = pick (matches kind (class_at n)) (eqb (kind_number (kind_of (class_at n))) (n - 9)) true}
    (below (λ m. pick (matches kind (class_at m)) (eqb (kind_number (kind_of (class_at m))) (m - 9)) true) 56 tt n h) in
    eqb-true (kind_number (kind_of (class_at n))) (n - 9) (sym (ap (λ (b : Bool). pick b (eqb (kind_number (kind_of (class_at n))) (n - 9)) true) e) ∙ t)

pub kind_seen : {s : List ℕ} {a : Look} {w : Word} → Seen s a w → matches kind w.class ≡ true → kind_number (kind_of w.class) ≡ a.code - 9
unfolding word_of seen
kind_seen {a} q e =
    let c = ap (λ (x : Word). x.class) q.word in
    ap (λ (x : Class). kind_number (kind_of x)) c ∙ kind_code a.code q.low (sym (ap (matches kind) c) ∙ e)
