-- The statements' faults, resolved values, refusal 19 and the lent rows of a text without a fault up to 12 and 17. Assumes nothing.
use mathlib.Core.Path.{◌≡◌, refl, sym, ◌∙◌, ap}
use mathlib.Core.List.{List}
use mathlib.Core.Bool.{true, false}
use Prim.Native.Nat.{ℕ, ◌≤◌, ◌<◌}
use native.Mathlib.Omega.{arith}
use lib.ListN.{length, replicate, length-replicate}
use lib.Seq.{length-sets}
use Rattle.std.specs.Prelude.{Some, None}
use Rattle.meaning.specs.Answers.{refused}
use Rattle.meaning.specs.Resolving.{all_values, all_value_rows}
use Rattle.meaning.specs.Cells.{cells, value_cells}
use Rattle.resolving.specs.Written.{WroteAll}
use Rattle.resolving.specs.Promises.{ResolvesAll}
use Rattle.scopes.specs.declared.Sizes.{Sizes}
use Rattle.copying.specs.Promises.{CopiesDefinitions, CopiesEnumerators, CopiesObjects}
use Rattle.copying.proofs.Rooms.{cleared_zeros}
use Rattle.reading.specs.Results.{reading_of}
use Rattle.reading.specs.Decisions.{Merged, Passed, Decides, RoomSizes, BlankRooms, Settles, Concludes, Filled}
use Rattle.reading.specs.declared.Decision.{Decision}
use Rattle.rows.specs.declared.Fault.{Fault}
use Rattle.rows.specs.Order.{MaybeFault}
use Rattle.meaning.specs.Faults.{first}
use Rattle.meaning.specs.Judging.{statement_stage}
use Rattle.scopes.specs.Promises.{fault_of}
use Rattle.judging.specs.Promises.{JudgesAll}
use Rattle.judging.specs.Names.{StaysBlank}
use Rattle.meaning.proofs.Found.{reading_long}
use Rattle.reading.specs.declared.Answer.TheVariants.{Accepted}
use Rattle.reading.specs.declared.Reading.{Reading}
use Rattle.reading.proofs.Settling.{fitting, given, places, refused_fills, statement_refused, no_statement_fault, too_many_values, accepted_fills}

pub wrote : (s : List ℕ) (y : Merged) (w : Decision) (z : Sizes) (p : Passed s y w) → z.definitions ≡ w.walked.definitions → z.enumerators ≡ w.walked.enumerators → z.objects ≡ w.objects
    → (v v' : List ℕ) (n : ℕ) → ResolvesAll s y.definitions y.enumerators y.objects y.statements v z w.walked.places v' n → v ≡ replicate 18432 0
    → WroteAll v (all_values p.file p.file.objects) v' n
wrote s y w z p a b c v v' n r e =
    r p.file (given p.kept p.no_definition_fault p.no_object_fault z a b c) (places p.kept) (ap length e ∙ length-replicate {A = ℕ} 18432 0)

module _ (s : List ℕ) (y : Merged) (w : Decision) (z : Sizes) (a : z.definitions ≡ w.walked.definitions) (b : z.enumerators ≡ w.walked.enumerators)
    (c : z.objects ≡ w.objects) (d e o v v₁ : List ℕ) (n : ℕ)
    (x : ResolvesAll s y.definitions y.enumerators y.objects y.statements v z w.walked.places v₁ n) where
  pub settles_too_many : (v₂ : List ℕ) (r : Reading) → 2048 < n → v₂ ≡ replicate (length v₁) 0 → r ≡ reading_of (refused 19 0) → Settles s y w d e o v d e o v₂ r
  settles_too_many v₂ r h q t p m₀ k =
      let u = wrote s y w z p a b c v v₁ n x k.values in
      let m = u.count in
      let l : length v₁ ≡ 18432 = ap length u.table ∙ length-sets v 0 (cells value_cells (all_value_rows (all_values p.file p.file.objects) 0 0)) ∙ ap length k.values ∙ length-replicate {A = ℕ} 18432 0 in
      refused_fills s 19 0 d e o v₂ r (too_many_values s y w p m₀ (omega arith)) t k.definitions k.enumerators k.objects (q ∙ ap (λ (i : ℕ). replicate i 0) l)

  pub settles_accepted : (d₂ e₂ o₂ : List ℕ) → n ≤ 2048 → CopiesDefinitions y.definitions w.walked.definitions d d₂
      → CopiesEnumerators y.definitions w.walked.definitions y.enumerators w.walked.enumerators e e₂ → CopiesObjects y.objects w.objects o o₂
      → Settles s y w d e o v d₂ e₂ o₂ v₁ (record { answer = Accepted; definitions = w.walked.definitions; enumerators = w.walked.enumerators; objects = w.objects; values = n; counts = w.counts })
  settles_accepted d₂ e₂ o₂ h i j l p m₀ k =
      let u = wrote s y w z p a b c v v₁ n x k.values in
      let g = p.kept in
      let t = fitting s p.file g.situation p.no_definition_fault p.no_object_fault in
      let t₀ = t.definitions in
      let t₁ = t.enumerators in
      let t₂ = t.objects in
      let g₀ = g.definitions in
      let g₁ = g.enumerators in
      let g₂ = g.objects in
      accepted_fills s y w p m₀ n d₂ e₂ o₂ v₁ v u.count h k.values u.table
      (i.1 s p.file g.situation g.in_definitions g.definitions (omega arith) (k.definitions ∙ cleared_zeros 6656))
      (j.1 s p.file g.situation g.in_definitions g.definitions (omega arith) g.in_enumerators g.enumerators (omega arith) (k.enumerators ∙ cleared_zeros 3072))
      (l.1 s p.file g.situation g.in_objects g.objects (omega arith) (k.objects ∙ cleared_zeros 2048))

-- The statements are judged ------------------------------------------------------------------------------------------------------------------

module _ (s : List ℕ) (y : Merged) (w : Decision) (z : Sizes) (a : z.definitions ≡ w.walked.definitions) (b : z.enumerators ≡ w.walked.enumerators)
    (c : z.objects ≡ w.objects) (g : MaybeFault) (j : JudgesAll s y.definitions y.enumerators y.objects y.statements z w.walked.places g) (d e o v : List ℕ) where
  judged : (p : Passed s y w) → g ≡ fault_of (first (statement_stage p.file))
  judged p = j p.file (given p.kept p.no_definition_fault p.no_object_fault z a b c) (places p.kept)

  -- v is lent to them, and is v₁ then.
  module _ (v₁ : List ℕ) (l : StaysBlank v v₁) where
    blank_still : BlankRooms d e o v → BlankRooms d e o v₁
    blank_still k = record { definitions = k.definitions; enumerators = k.enumerators; objects = k.objects; values = l 18432 k.values }

    pub concludes_refused : (r : Reading) (x : Fault) → g ≡ Some x → r ≡ reading_of (refused x.number x.place) → Concludes s y w d e o v d e o v₁ r
    concludes_refused r x i q p k =
        refused_fills s x.number x.place d e o v₁ r (statement_refused s y w p x (sym (judged p) ∙ i)) q k.definitions k.enumerators k.objects (l 18432 k.values)

    pub concludes_settled : (d' e' o' v' : List ℕ) (r : Reading) → g ≡ None → Settles s y w d e o v₁ d' e' o' v' r → Concludes s y w d e o v d' e' o' v' r
    concludes_settled d' e' o' v' r i h p k = h p (no_statement_fault s y w p (sym (judged p) ∙ i)) (blank_still k)

-- Rooms that were cleared first --------------------------------------------------------------------------------------------------------------

module _ (s d₀ e₀ o₀ v₀ d e o v : List ℕ) (z : RoomSizes d₀ e₀ o₀ v₀) (a : d ≡ replicate (length d₀) 0) (b : e ≡ replicate (length e₀) 0)
    (c : o ≡ replicate (length o₀) 0) (g : v ≡ replicate (length v₀) 0) where
  blanks : BlankRooms d e o v
  blanks =
      record {
        definitions = a ∙ ap (λ (i : ℕ). replicate i 0) z.definitions;
        enumerators = b ∙ ap (λ (i : ℕ). replicate i 0) z.enumerators;
        objects = c ∙ ap (λ (i : ℕ). replicate i 0) z.objects;
        values = g ∙ ap (λ (i : ℕ). replicate i 0) z.values;
      }

  pub fill_long : (r : Reading) → 65535 < length s → r ≡ reading_of (refused 2 0) → Filled s d e o v r
  fill_long r h q = refused_fills s 2 0 d e o v r (reading_long s h) q blanks.definitions blanks.enumerators blanks.objects blanks.values

  module _ (h : length s ≤ 65535) (y : Merged) (x : Decision) (t : Decides s (replicate 9747 0) (replicate 3075 0) (replicate 2570 0) (replicate 14343 0) y x) where
    pub fill_refused : (r : Reading) (g : Fault) → x.fault ≡ Some g → r ≡ reading_of (refused g.number g.place) → Filled s d e o v r
    fill_refused r g i q =
        refused_fills s g.number g.place d e o v r ((t.decided h refl refl refl refl).refused_by g i) q blanks.definitions blanks.enumerators
        blanks.objects blanks.values

    pub fill_settled : (d' e' o' v' : List ℕ) (r : Reading) → x.fault ≡ None → Concludes s y x d e o v d' e' o' v' r → Filled s d' e' o' v' r
    fill_settled d' e' o' v' r i k = k ((t.decided h refl refl refl refl).passes i) blanks
