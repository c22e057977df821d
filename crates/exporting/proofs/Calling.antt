-- The calls: from the text to the text that is lent alone. Assumes nothing.
use mathlib.Core.Path.{◌≡◌, refl, sym, ◌∙◌, ap, subst}
use mathlib.Core.List.{List}
use Prim.Native.Nat.{ℕ, min}
use lib.ListN.{length}
use lib.Dec.{eqb}
use Rattle.token.specs.Find.{pick}
use Rattle.meaning.specs.Syntax.{File}
use Rattle.meaning.specs.Answers.{Tables, accepted, refused}
use Rattle.meaning.specs.Rules.{TheAnswer as TheTextsAnswer}
use Rattle.sources.specs.Expanding.{expanded, expansion_of}
use Rattle.sources_reading.specs.Answering.{Answers, too_long, alone, renumbered}
use Rattle.sources_reading.proofs.Answered.{one_answer}
use Rattle.placing.specs.Placed.{is_at_start, placed_tables, placed_answer}
use Rattle.lent_texts.specs.Answered.{place_of, TheAnswer}
use Rattle.attribute_values.specs.Rules.{Answered, not_found, too_short, copies, ValuesByRules}
use Rattle.attribute_values.specs.Rules as values
use Rattle.attribute_values.specs.Answered.{Valued}
use Rattle.exporting.specs.Rules.{refusal, value, NormalByRules, ValueByRules}
use Rattle.exporting.specs.Rules as rules
use Rattle.exporting.specs.Telling.{place_told, refusal_told, value_told, NormalWith}
use Rattle.exporting.specs.Telling as telling
use Rattle.exporting.specs.declared.Told.{Told}
use Rattle.exporting.proofs.Alone.{number_is, place_is, alone_answer}

module _ (s : List ℕ) (k : ℕ) (e : k ≡ (expansion_of s (alone s)).number) where
  -- 30.
  thirty : k ≡ 30 → TheAnswer s (alone s) (refused 30 0)
  unfolding placed_answer is_at_start
  thirty h =
      let a : Answers s (alone s) (refused 30 0) = too_long (sym e ∙ h) in
      record { in_expanded = refused 30 0; given = a; no_other = λ y j. sym (one_answer j) ∙ one_answer a; placed = refl }

  pub normal_thirty : {l : List ℕ} → k ≡ 30 → NormalByRules s l l (record { number = 30; place = 0; length = 0 })
  unfolding refusal
  normal_thirty h = rules.NormalByRules.refuses 30 0 (thirty h) refl refl

  pub value_thirty : {kind name path l : List ℕ} → k ≡ 30 → ValueByRules s kind name path l l (record { number = 30; place = 0; length = 0 })
  unfolding refusal
  value_thirty h = rules.ValueByRules.refuses 30 0 (thirty h) refl refl

  module _ (n : k ≡ 30 → ⊥) where
    no_thirty : (expansion_of s (alone s)).number ≡ 30 → ⊥
    no_thirty z = n (e ∙ z)

    number : (expanded s (alone s)).number ≡ k
    number = sym (e ∙ number_is s no_thirty)

    pub refused_alone : (m p : ℕ) → TheTextsAnswer s (refused m p) → TheAnswer s (alone s) (refused (pick (eqb m 3) k m) (place_told (length s) (pick (eqb m 3) k m) p))
    unfolding placed_answer renumbered place_told
    refused_alone m p t =
        subst (λ (x : ℕ). TheAnswer s (alone s) (refused (pick (eqb m 3) x m) (pick (is_at_start (pick (eqb m 3) x m)) p (min p (length s))))) number
        (subst (λ (x : ℕ). TheAnswer s (alone s) (refused (pick (eqb m 3) (expanded s (alone s)).number m) (pick (is_at_start (pick (eqb m 3) (expanded s (alone s)).number m)) p x)))
        (place_is s no_thirty p) (alone_answer s no_thirty (refused m p) t))

    accepted_alone : (t : Tables) → TheTextsAnswer s (accepted t) → TheAnswer s (alone s) (accepted (placed_tables (place_of s (alone s)) t))
    unfolding placed_answer renumbered
    accepted_alone t h = alone_answer s no_thirty (accepted t) h

    pub normal_rules : {l l' : List ℕ} {r : Told} → NormalWith k s l l' r → NormalByRules s l l' r
    unfolding refusal_told
    normal_rules (telling.NormalWith.refuses m p t q i) = rules.NormalByRules.refuses _ _ (refused_alone m p t) q i
    normal_rules (telling.NormalWith.longer t a w h b q i) = rules.NormalByRules.longer _ (accepted_alone t a) w h b q i
    normal_rules (telling.NormalWith.writes t a w h b q i) = rules.NormalByRules.writes _ (accepted_alone t a) w h b q i

    -- An answer for an accepted text is told as it is.
    told_as : {f : File} {kind name path l l' : List ℕ} {v : Valued} → Answered f kind name path l l' v → value_told (length s) k v ≡ value v
    unfolding value_told value refusal_told refusal place_told is_at_start
    told_as (not_found a b) = refl
    told_as (too_short t a b c) = refl
    told_as (copies t a b c) = refl

    pub value_rules : {kind name path l l' : List ℕ} {v : Valued} → ValuesByRules s kind name path l l' v → {r : Told} → r ≡ value_told (length s) k v → ValueByRules s kind name path l l' r
    unfolding value_told refusal_told
    value_rules {v = v} (values.ValuesByRules.refuses m p t q i) z = rules.ValueByRules.refuses _ _ (refused_alone m p t) (z ∙ ap (value_told (length s) k) q) i
    value_rules {v = v} (values.ValuesByRules.answers t a d f) z = rules.ValueByRules.answers _ (accepted_alone t a) d v f (z ∙ told_as (f d))
