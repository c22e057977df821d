-- The answers of the functions. Assumes nothing.
use Prim.Native.Nat.{ℕ, ◌≤◌}
use mathlib.Core.List.{List, ◌++◌}
use mathlib.Core.Path.{◌≡◌, refl, sym, ◌∙◌, ap, ap₂, subst}
use native.Mathlib.Omega.{arith}
use lib.ListN.{length, get_or, take, drop, replicate}
use lib.Dec.{eqb}
use Rattle.token.specs.Find.{pick}
use Rattle.meaning.specs.Answers.{Tables, Answer, accepted, refused}
use Rattle.meaning.specs.Cells.{RoomCells, rooms_after}
use Rattle.meaning.specs.Rules.{InRooms}
use Rattle.reading.specs.Results.{reading_of}
use Rattle.reading.specs.Demand.{Demand-3}
use Rattle.reading.specs.declared.Answer.{Answer as AnswerTold}
use Rattle.reading.specs.declared.Answer.TheVariants.{Accepted, Refused}
use Rattle.writing.specs.Rules.{WritesByRules, short_tables as short, refuses as rules-refuse, longer as rules-longer, writes as rules-write}
use Rattle.writing.specs.declared.Written.{Written}
use Rattle.sources.specs.Expanding.{expanded}
use Rattle.sources.specs.Promises.{ExpandsToRead}
use Rattle.sources.specs.declared.Expansion.{Expansion}
use Rattle.sources_reading.specs.Answering.{renumbered}
use Rattle.placing.specs.Placed.{place_in, placed_tables, is_at_start, placed_answer}
use Rattle.placing.specs.Columns.{PlacesTables}
use Rattle.lent_texts.specs.Answered.{place_of, TheAnswer}
use Rattle.reading_texts.specs.Reads.{FullRooms, Plain, placed_told, DemandTexts}
use Rattle.reading_texts.specs.Filling.{RoomSizes, Hold}
use Rattle.reading_texts.proofs.Told.{full_room, nothing_past, rows_fit, thirty_answer, thirty_rooms, text_is, texts_answer, texts_placed, answer_demand}
use Rattle.writing_texts.specs.Writes.{Written-by, refuses, longer, writes, WritesExpanded, FillsOutput, WritesTexts, short_tables, by_rules}

held : {c : RoomCells} {d e v w d' e' v' w' : List ℕ} → RoomSizes d e v w → InRooms c d e v w d' e' v' w' → Hold c d' e' v' w'
held {c} {d} {e} {v} {w} z i =
    record {
      definitions = i.definitions ∙ nothing_past 6656 _ d z.definitions;
      enumerators = i.enumerators ∙ nothing_past 3072 _ e z.enumerators;
      objects = i.objects ∙ nothing_past 2048 _ v z.objects;
      values = i.values ∙ nothing_past 18432 _ w z.values;
    }

no_numbers : {A : Type 0} → ◌≡◌ {A = ℕ} 0 1 → A
no_numbers e = absurd (omega arith)

module _ (s g : List ℕ) (m n : ℕ) where
  -- where the text is refused, or its normal text is too long
  pub refused_writes : {d e v w o d' e' v' w' o' : List ℕ} {r x : Written} (k p n' p' : ℕ) → RoomSizes d e v w → WritesByRules s d e v w o d' e' v' w' o' r →
      r.answer ≡ Refused k p → n' ≡ pick (eqb k 3) n k → p' ≡ pick (is_at_start n') p (place_in g (length s) m p) →
      x ≡ record { answer = Refused n' p'; length = 0 } → WritesExpanded s g m n o d' e' v' w' o' x
  unfolding renumbered placed_answer rooms_after is_at_start
  refused_writes k p n' p' z (short f _ _ _) e i j y = absurd (f (full_room z))
  refused_writes k p n' p' z (rules-refuse f k₁ p₁ t q h u) e i j y =
      let c : Refused k₁ p₁ ≡ Refused k p = sym (ap (λ (x : Written). x.answer) q) ∙ e in
      let a : k ≡ k₁ = cc in
      let b : p ≡ p₁ = cc in
      let a' : n' ≡ pick (eqb k₁ 3) n k₁ = i ∙ ap (λ (y : ℕ). pick (eqb y 3) n y) a in
      let b' : p' ≡ pick (is_at_start (pick (eqb k₁ 3) n k₁)) p₁ (place_in g (length s) m p₁) =
      j ∙ ap (λ (y : ℕ). pick (is_at_start y) p (place_in g (length s) m p)) a' ∙ ap (λ (y : ℕ). pick (is_at_start (pick (eqb k₁ 3) n k₁)) y (place_in g (length s) m y)) b in
      let h' = held z h in
      record {
        answer = refused k₁ p₁;
        rules = t;
        outcome = refuses (pick (eqb k₁ 3) n k₁) (pick (is_at_start (pick (eqb k₁ 3) n k₁)) p₁ (place_in g (length s) m p₁)) refl
            (y ∙ ap₂ (λ (y y' : ℕ). record { answer = Refused y y'; length = 0 }) a' b')
            (record { definitions = h'.definitions; enumerators = h'.enumerators; objects = h'.objects; values = h'.values }) u;
      }
  refused_writes k p n' p' z (rules-longer f t a w b c q h u) e i j y =
      let d : Refused 20 0 ≡ Refused k p = sym (ap (λ (x : Written). x.answer) q) ∙ e in
      let k' : k ≡ 20 = cc in
      let p'' : p ≡ 0 = cc in
      let a' : n' ≡ 20 = i ∙ ap (λ (y : ℕ). pick (eqb y 3) n y) k' in
      let b' : p' ≡ 0 = j ∙ ap (λ (y : ℕ). pick (is_at_start y) p (place_in g (length s) m p)) a' ∙ p'' in
      record {
        answer = accepted t;
        rules = a;
        outcome = longer (placed_tables (place_in g (length s) m) t) refl w b c (y ∙ ap₂ (λ (y y' : ℕ). record { answer = Refused y y'; length = 0 }) a' b') (held z h) u;
      }
  refused_writes k p n' p' z (rules-write f t a w b c q h u) e i j y =
      no_numbers (let d : Accepted ≡ Refused k p = sym (ap (λ (x : Written). x.answer) q) ∙ e in cc)

  -- where it is written
  pub accepted_writes : {d e v w o d₁ e₁ v₁ w₁ d' e' v' w' o' : List ℕ} {r : Written} → RoomSizes d e v w → WritesByRules s d e v w o d₁ e₁ v₁ w₁ o' r →
      r.answer ≡ Accepted → PlacesTables (place_in g (length s) m) d₁ e₁ v₁ w₁ d' e' v' w' → WritesExpanded s g m n o d' e' v' w' o' r
  unfolding renumbered placed_answer rooms_after placed_tables
  accepted_writes z (short f _ _ _) e y = absurd (f (full_room z))
  accepted_writes z (rules-refuse f k p t q h u) e y =
      no_numbers (let d : Accepted ≡ Refused k p = sym e ∙ ap (λ (x : Written). x.answer) q in cc)
  accepted_writes z (rules-longer f t a w b c q h u) e y =
      no_numbers (let d : Accepted ≡ Refused 20 0 = sym e ∙ ap (λ (x : Written). x.answer) q in cc)
  accepted_writes z (rules-write f t a w b c q h u) e y =
      let fit = rows_fit t a.given refl in
      let h' = held z h in
      record {
        answer = accepted t;
        rules = a;
        outcome = writes (placed_tables (place_in g (length s) m) t) refl w b c q (record {
          definitions = y.definitions t fit h'.definitions;
          enumerators = y.enumerators t fit h'.enumerators;
          objects = y.objects t fit h'.objects;
          values = y.values t fit h'.values;
        }) u;
      }

-- ---- lent texts

module _ (b l x g x' g' : List ℕ) (e : Expansion) (u : ExpandsToRead b l x g x' g' e) where
  pub thirty_writes : (d e₁ v w o d' e' v' w' : List ℕ) (r : Written) → e.number ≡ 30 → RoomSizes d e₁ v w → d' ≡ replicate (length d) 0 → e' ≡ replicate (length e₁) 0 →
      v' ≡ replicate (length v) 0 → w' ≡ replicate (length w) 0 → r ≡ record { answer = Refused 30 0; length = 0 } → FillsOutput b l x g o x' g' d' e' v' w' o r
  thirty_writes d e₁ v w o d' e' v' w' r n z p q i j y =
      record {
        answer = refused 30 0;
        rules = thirty_answer b l x g x' g' e u n;
        outcome = refuses 30 0 refl y (thirty_rooms z p q i j) refl;
        bytes = u.bytes;
        origins = u.origins;
      }

  module _ (hx : 65535 ≤ length x) (hg : 65535 ≤ length g) (not : e.number ≡ 30 → ⊥) where
    pub write_fills : {o d' e' v' w' o' : List ℕ} {r : Written} (n : ℕ) → n ≡ e.number → WritesExpanded (take e.length x') g' (get_or l 1 0) n o d' e' v' w' o' r →
        FillsOutput b l x g o x' g' d' e' v' w' o' r
    write_fills {o} {d'} {e'} {v'} {w'} {o'} {r} n i y =
        let a = y.answer in
        let z = texts_placed b l x g x' g' e u hx hg not n a i y.rules in
        record {
          answer = placed_answer (place_of b l) (renumbered (expanded b l).number a);
          rules = texts_answer b l x g x' g' e u hx hg not a y.rules;
          outcome = subst (λ (s : List ℕ). Written-by s (placed_answer (place_of b l) (renumbered (expanded b l).number a)) o d' e' v' w' o' r) (text_is b l x g x' g' e u hx hg not)
              (subst (λ (c : Answer). Written-by (take e.length x') c o d' e' v' w' o' r) z y.outcome);
          bytes = u.bytes;
          origins = u.origins;
        }

-- ---- demand 3

-- where grammar passes, it passes with refusal 20 too
still_passes : (s : List ℕ) → Demand-3 s Accepted → Demand-3 s (Refused 20 0)
still_passes s q = record {
  passes_exactly = λ w. ((λ _. (q.passes_exactly w).0 tt), (λ _. omega arith));
  one_derivation = q.one_derivation;
  refusal = λ w k. absurd (k (omega arith));
}

-- an answer that is placed as an accepted one is accepted
placed_accepted : (f : ℕ → ℕ) (x : AnswerTold) → Accepted ≡ placed_told f x → x ≡ Accepted
unfolding placed_told
placed_accepted f Accepted e = refl
placed_accepted f (Refused n p) e = no_numbers (let d : Accepted ≡ Refused n (pick (is_at_start n) p (f p)) = e in cc)

twenty_placed : (f : ℕ → ℕ) → Refused 20 0 ≡ placed_told f (Refused 20 0)
unfolding placed_told is_at_start
twenty_placed f = refl

module _ (b l : List ℕ) (z : Plain b l) where
  -- 20 comes of an accepted text
  twenty_demand : (a : Answer) (t : Tables) (r : AnswerTold) → TheAnswer b l a → a ≡ accepted t → r ≡ Refused 20 0 → DemandTexts b l r
  unfolding reading_of
  twenty_demand a t r u e q =
      let d = answer_demand b l z a (reading_of a).answer u refl in
      let h : d.in_expanded ≡ Accepted =
      placed_accepted (place_of b l) d.in_expanded (sym (ap (λ (y : Answer). (reading_of y).answer) e) ∙ d.placed) in
      record {
        in_expanded = Refused 20 0;
        demand = still_passes (expanded b l).bytes (subst (Demand-3 (expanded b l).bytes) h d.demand);
        placed = q ∙ twenty_placed (place_of b l);
      }

  outcome_demand : (a : Answer) (o d' e' v' w' o' : List ℕ) (r : Written) → TheAnswer b l a → Written-by (expanded b l).bytes a o d' e' v' w' o' r →
      DemandTexts b l r.answer
  unfolding reading_of
  outcome_demand a o d' e' v' w' o' r u (refuses n p e q h k) =
      answer_demand b l z a r.answer u (ap (λ (y : Written). y.answer) q ∙ sym (ap (λ (y : Answer). (reading_of y).answer) e))
  outcome_demand a o d' e' v' w' o' r u (longer t e w n s q h k) = twenty_demand a t r.answer u e (ap (λ (y : Written). y.answer) q)
  outcome_demand a o d' e' v' w' o' r u (writes t e w n s q h k) =
      answer_demand b l z a r.answer u (ap (λ (y : Written). y.answer) q ∙ sym (ap (λ (y : Answer). (reading_of y).answer) e))

demand_texts : {b l x g d e v w o x' g' d' e' v' w' o' : List ℕ} {r : Written} → WritesTexts b l x g d e v w o x' g' d' e' v' w' o' r → FullRooms x g d e v w → Plain b l →
    DemandTexts b l r.answer
demand_texts (short_tables n _ _ _ _ _) f z = absurd (n f)
demand_texts {b} {l} {o = o} {o' = o'} {r = r} (by_rules _ d₁ e₁ v₁ w₁ u _ _ _ _) f z =
    outcome_demand b l z u.answer o d₁ e₁ v₁ w₁ o' r u.rules u.outcome

pub and_demand : {b l x g d e v w o x' g' d' e' v' w' o' : List ℕ} {r : Written} → WritesTexts b l x g d e v w o x' g' d' e' v' w' o' r →
    WritesTexts b l x g d e v w o x' g' d' e' v' w' o' r × (FullRooms x g d e v w → Plain b l → DemandTexts b l r.answer)
and_demand u = (u, demand_texts u)

-- ---- the public call

pub short_writes : {b l x g d e v w o : List ℕ} {r : Written} → (FullRooms x g d e v w → ⊥) → r ≡ record { answer = Refused 1 0; length = 0 } →
    WritesTexts b l x g d e v w o x g d e v w o r
short_writes n q = short_tables n q refl refl (record { definitions = refl; enumerators = refl; objects = refl; values = refl }) refl

pub full_writes : {b l x g d e v w o x' g' d' e' v' w' o' : List ℕ} {r : Written} → FullRooms x g d e v w → FillsOutput b l x g o x' g' d' e' v' w' o' r →
    WritesTexts b l x g d e v w o x' g' (d' ++ drop 6656 d) (e' ++ drop 3072 e) (v' ++ drop 2048 v) (w' ++ drop 18432 w) o' r
full_writes {d' = d'} {e' = e'} {v' = v'} {w' = w'} f u = by_rules f d' e' v' w' u refl refl refl refl
