-- From the equations of the public calls to the rules themselves. Assumes nothing.
use mathlib.Core.Path.{◌≡◌, refl, sym, ◌∙◌, ap}
use mathlib.Core.List.{List}
use mathlib.Core.Bool.{Bool, true, false, false≢true}
use Prim.Native.Nat.{ℕ, ◌/◌, ◌≤◌}
use native.Mathlib.Omega.{arith}
use native.Mathlib.Nat.{le-div_iff_mul-le}
use lib.ListN.{length}
use lib.Dec.{leb}
use borrow.Author.Tests.{le-leb, leb-true}
use Rattle.token.specs.Find.{both}
use Rattle.token.proofs.Bytes.{both_true, both_second}
use Rattle.meaning.specs.Reading.{reading}
use Rattle.meaning.specs.Calls.{enough}
use Rattle.meaning.specs.Cells.{rooms_after}
use Rattle.meaning.specs.Rules.{FullRoom}
use Rattle.meaning.proofs.Whole.{the_answer}
use Rattle.reading.specs.Results.{reading_of, rooms_of, table_after, Reads, ReadsSpanned}
use Rattle.reading.specs.Rules.{ReadsByRules, short_tables, by_rules}
use Rattle.reading.specs.Demand.{Demand-3}
use Rattle.reading.specs.declared.Reading.{Reading}
use Rattle.reading.specs.declared.Spanned.{Spanned}
use Rattle.reading.proofs.Lending.{call_enough, call_short}
use Rattle.reading.proofs.Demand.{demand_3}

module _ {d e o v : List ℕ} where
  -- Full room is room enough,
  pub full_enough : FullRoom d e o v → enough (rooms_of d e o v) ≡ true
  unfolding enough rooms_of
  full_enough f =
      let a : 512 ≤ length d / 13 = (le-div_iff_mul-le {k = 13} {x = 512} {y = length d} (omega arith)).1 f.definitions in
      let b : 1024 ≤ length e / 3 = (le-div_iff_mul-le {k = 3} {x = 1024} {y = length e} (omega arith)).1 f.enumerators in
      let c : 256 ≤ length o / 8 = (le-div_iff_mul-le {k = 8} {x = 256} {y = length o} (omega arith)).1 f.objects in
      let g : 2048 ≤ length v / 9 = (le-div_iff_mul-le {k = 9} {x = 2048} {y = length v} (omega arith)).1 f.values in
      rw (le-leb 512 (length d / 13) a, le-leb 1024 (length e / 3) b, le-leb 256 (length o / 8) c, le-leb 2048 (length v / 9) g)

  -- and the other way round.
  pub enough_full : enough (rooms_of d e o v) ≡ true → FullRoom d e o v
  unfolding enough rooms_of
  enough_full h =
      let x₁ = leb 512 (length d / 13) in
      let x₂ = leb 1024 (length e / 3) in
      let x₃ = leb 256 (length o / 8) in
      let x₄ = leb 2048 (length v / 9) in
      let h₂ = both_second x₁ (both x₂ (both x₃ x₄)) h in
      let h₃ = both_second x₂ (both x₃ x₄) h₂ in
      record {
        definitions = (le-div_iff_mul-le {k = 13} {x = 512} {y = length d} (omega arith)).0 (leb-true 512 (length d / 13) (both_true x₁ (both x₂ (both x₃ x₄)) h));
        enumerators = (le-div_iff_mul-le {k = 3} {x = 1024} {y = length e} (omega arith)).0 (leb-true 1024 (length e / 3) (both_true x₂ (both x₃ x₄) h₂));
        objects = (le-div_iff_mul-le {k = 8} {x = 256} {y = length o} (omega arith)).0 (leb-true 256 (length o / 8) (both_true x₃ x₄ h₃));
        values = (le-div_iff_mul-le {k = 9} {x = 2048} {y = length v} (omega arith)).0 (leb-true 2048 (length v / 9) (both_second x₃ x₄ h₃));
      }

  module _ {s d' e' o' v' : List ℕ} {r : Reading} (k : Reads s d e o v d' e' o' v' r) where
    -- What `Reads` says is what the rules say.
    pub reads_by_rules : ReadsByRules s d e o v d' e' o' v' r
    unfolding table_after
    reads_by_rules = go (enough (rooms_of d e o v)) refl
      where
        go : (b : Bool) → enough (rooms_of d e o v) ≡ b → ReadsByRules s d e o v d' e' o' v' r
        go true q =
            by_rules (enough_full q) (reading s) (the_answer s) (k.result ∙ ap reading_of (call_enough s d e o v q)) (record {
              definitions = k.definitions ∙ ap (λ (b : Bool). table_after b (rooms_after (reading s)).definitions 6656 d) q;
              enumerators = k.enumerators ∙ ap (λ (b : Bool). table_after b (rooms_after (reading s)).enumerators 3072 e) q;
              objects = k.objects ∙ ap (λ (b : Bool). table_after b (rooms_after (reading s)).objects 2048 o) q;
              values = k.values ∙ ap (λ (b : Bool). table_after b (rooms_after (reading s)).values 18432 v) q;
            })
        go false q =
            short_tables (λ f. false≢true (sym q ∙ full_enough f)) (k.result ∙ ap reading_of (call_short s d e o v q)) (record {
              definitions = k.definitions ∙ ap (λ (b : Bool). table_after b (rooms_after (reading s)).definitions 6656 d) q;
              enumerators = k.enumerators ∙ ap (λ (b : Bool). table_after b (rooms_after (reading s)).enumerators 3072 e) q;
              objects = k.objects ∙ ap (λ (b : Bool). table_after b (rooms_after (reading s)).objects 2048 o) q;
              values = k.values ∙ ap (λ (b : Bool). table_after b (rooms_after (reading s)).values 18432 v) q;
            })

    -- Demand 3, for tables of full room.
    pub full_demand_3 : FullRoom d e o v → Demand-3 s r.answer
    full_demand_3 f = demand_3 (full_enough f) k

-- The clauses of `read_spanned`: from the first, the others.
pub and_rules : {s d e o v d' e' o' v' : List ℕ} {r : Spanned} → ReadsSpanned s d e o v d' e' o' v' r
    → ReadsSpanned s d e o v d' e' o' v' r × (ReadsByRules s d e o v d' e' o' v' r.reading × (FullRoom d e o v → Demand-3 s r.reading.answer))
and_rules k = (k, (reads_by_rules k.reads, full_demand_3 k.reads))
