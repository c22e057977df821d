-- What is made before the statements are judged. Assumes nothing.
use Prim.Native.Nat.{ℕ, ◌≤◌}
use native.Mathlib.Omega.{arith}
use mathlib.Core.Path.{◌≡◌, sym, ◌∙◌, ap, subst}
use mathlib.Core.List.{List}
use lib.ListN.{length, replicate, length-replicate}
use lib.Seq.{sets}
use Rattle.amounts.specs.Known.{Known}
use Rattle.lookups.specs.Names.{FewRows, Names, owner_words}
use Rattle.lookups.specs.Owners.{Owners}
use Rattle.lookups.proofs.Naming.{names_kept, words_put}
use Rattle.judging.specs.Names.{Ready, MarksReady, Blank, SameRoom, StaysBlank}
use Rattle.judging.specs.Promises.{JudgesObjects, JudgesAll, Marks}
use Rattle.judging.proofs.Lacking.{table_known, table_marked, table_owners}
use Rattle.amounts.specs.Promises.{Notes}
use Rattle.rows.specs.Order.{MaybeFault}
use Rattle.scopes.specs.declared.Sizes.{Sizes}

-- The words under which something must be stated are put behind the names.
pub marks_ready : (s d e o st : List ℕ) (z : Sizes) (x y u ms : List ℕ) → FewRows z → length u ≡ 512 → length ms ≡ 512 → y ≡ sets x 4353 u → Names s d e o st z x → Owners d ms u
    → MarksReady s d e o st z y ms
marks_ready s d e o st z x y u ms f l m q n w = record {
  few = f.definitions;
  size = m;
  named = (names_kept s d e o st z x y u l q n).named f;
  owners = subst (λ (v : List ℕ). Owners d ms v) (sym (words_put x y u l n.room q)) w;
}

-- The ranges are noted, and the marks put before them.
module _ (s d e o st : List ℕ) (z : Sizes) (x ms k₀ k k₁ : List ℕ) (r : MarksReady s d e o st z x ms) (b : Blank k₀) (n : Notes s d k₀ k) (q : k₁ ≡ sets k 0 ms) where
  known : Known s d k
  known = n (length k₀) b.room b.blank

  pub ready_by : Ready s d e o st z x k₁
  ready_by = record { known = table_known s d k ms known r.size k₁ q; named = r.named; owners = table_owners s d k ms known r.size k₁ q (owner_words x) r.owners }

  pub judges_marked : (ps : List ℕ) (a : MaybeFault) → JudgesObjects s d e o st k₁ z ps a → JudgesObjects s d e o st ms z ps a
  judges_marked ps a j f g m p = j f g (table_marked s d k ms known r.size k₁ q f z.definitions r.few m) p

pub blank_of : (n : ℕ) → 3072 ≤ n → Blank (replicate n 0)
blank_of n h = let l = length-replicate {A = ℕ} n 0 in record { room = omega (arith, l, h); blank = ap (λ (i : ℕ). replicate i 0) (sym l) }

-- Room that is cleared is blank, as it was.
pub cleared_blank : (x y z : List ℕ) → SameRoom x y → z ≡ replicate (length y) 0 → z ≡ replicate (length x) 0
cleared_blank x y z l e = e ∙ ap (λ (i : ℕ). replicate i 0) l.size

pub blank_again : (x y : List ℕ) → y ≡ replicate (length x) 0 → StaysBlank x y
blank_again x y e n b = e ∙ ap (λ (i : ℕ). replicate i 0) (ap length b ∙ length-replicate {A = ℕ} n 0)

-- All objects are judged by the marks.
pub judged_all : (s d e o st : List ℕ) (z : Sizes) (ps ms : List ℕ) (a : MaybeFault) → Marks s d e st z ms → JudgesObjects s d e o st ms z ps a → JudgesAll s d e o st z ps a
judged_all s d e o st z ps ms a m j f g p = j f g (m o f g) p
