-- 22 or 23 at a default: what the function over defaults cites. Assumes nothing.
use mathlib.Core.Path.{◌≡◌, refl, sym, ◌∙◌, ap, ap₂, subst}
use mathlib.Core.List.{List, []}
use mathlib.Core.Bool.{Bool, true, false, not}
use mathlib.Core.Option.{Option, none, some}
use Prim.Native.Nat.{ℕ, ◌+◌, ◌*◌, ◌<◌}
use native.Mathlib.Omega.{arith}
use lib.ListN.{length, get_or}
use lib.Dec.{eqb, leb}
use borrow.Author.Tests.{ne_eqb}
use Rattle.std.specs.Prelude.{Some, None}
use Rattle.scopes.proofs.Sorts.{sort_coded, tells, other_coded}
use Rattle.token.specs.Find.{pick, both}
use Rattle.rows.specs.Order.{MaybeFault, fault_if}
use Rattle.grammar.specs.Grammar.{Class}
use Rattle.meaning.specs.Syntax.{Word, File, span_or, span_of, absent}
use Rattle.meaning.specs.Faults.{Fault as Refusal, faults_if, sooner, first}
use Rattle.meaning.specs.Defining.{default_wrong, default_number, default_faults}
use Rattle.meaning.specs.Scopes.{a_number, a_string, a_truth, an_auto, a_no_default, a_name, a_float, sort_of, fits}
use Rattle.meaning.proofs.Sites.{option_words}
use Rattle.layout.specs.Kept.{Entry, spec_entries, kept_definitions, definition_cells, default_code, code_of, class_number}
use Rattle.scopes.specs.Situations.{Nth, RowOf, ReadAt}
use Rattle.scopes.specs.Promises.{fault_of, Takes, TakesUnder}
use Rattle.scopes.proofs.Goodness.{Goods}
use Rattle.scopes.proofs.Rooms.{definition_cell, default_cell}
use Rattle.scopes.proofs.Descents.{nth_in, entry_facts, spec_run}
use Rattle.lookups.specs.Answers.{WordIndexed}
use Rattle.defining_checks.specs.Listing.{judged, judged_faults}
use Rattle.defining_checks.specs.Promises.{DefaultFault}
use Rattle.defining_checks.proofs.Rising.{ascend_specs}
use Rattle.defining_checks.proofs.Reaching.{reached}

-- NO_DEFAULT is the word with the code 4.
wrong_other : (c : Class) (b : Bool) → (class_number c ≡ 4 → ⊥) → default_wrong (sort_of c) b ≡ not b
unfolding default_wrong
wrong_other c b h = ap (λ q. default_wrong q b) (tells c).sort ∙ other_coded (λ q. default_wrong q b ≡ not b) refl refl refl refl refl refl (class_number c) h

wrong_none : (c : Class) (b : Bool) → class_number c ≡ 4 → default_wrong (sort_of c) b ≡ false
unfolding sort_coded default_wrong
wrong_none c b h = ap (λ q. default_wrong q b) ((tells c).sort ∙ ap sort_coded h)

-- AUTO is the word with the code 3.
number_auto : (c : Class) → class_number c ≡ 3 → 23 ≡ default_number (sort_of c)
unfolding sort_coded default_number
number_auto c h = sym (ap default_number ((tells c).sort ∙ ap sort_coded h))

number_coded : (n : ℕ) → (n ≡ 3 → ⊥) → 22 ≡ default_number (sort_coded n)
unfolding sort_coded default_number
number_coded n h =
    subst (λ t. 22 ≡ default_number (pick (eqb n 43) a_number (pick (eqb n 44) a_string (pick (eqb n 1) a_truth (pick (eqb n 2) a_truth (pick t an_auto (pick (eqb n 4) a_no_default (pick (eqb n 54) a_float a_name))))))))
    (sym (ne_eqb n 3 h)) (by (eqb n 43) (eqb n 44) (eqb n 1) (eqb n 2) (eqb n 4) (eqb n 54))
  where
    by : (p q r s t u : Bool) → 22 ≡ default_number (pick p a_number (pick q a_string (pick r a_truth (pick s a_truth (pick t a_no_default (pick u a_float a_name))))))
    by true q r s t u = refl
    by false true r s t u = refl
    by false false true s t u = refl
    by false false false true t u = refl
    by false false false false true u = refl
    by false false false false false true = refl
    by false false false false false false = refl

number_other : (c : Class) → (class_number c ≡ 3 → ⊥) → 22 ≡ default_number (sort_of c)
number_other c h = number_coded (class_number c) h ∙ sym (ap default_number (tells c).sort)

-- No fault where there is none, or where the default is not judged.
pick_none : (b : Bool) → None ≡ fault_of (first (pick b [] []))
unfolding fault_of first
pick_none true = refl
pick_none false = refl

pick_late : (b : Bool) (l : List Refusal) → b ≡ false → None ≡ fault_of (first (pick b l []))
unfolding fault_of first
pick_late b l e = sym (ap (λ c. fault_of (first (pick c l []))) e)

pick_wrong : (b c : Bool) (t : Word) (n : ℕ) → c ≡ false → None ≡ fault_of (first (pick b (faults_if c t n) []))
unfolding faults_if
pick_wrong b c t n e = pick_none b ∙ sym (ap (λ a. fault_of (first (pick b (faults_if a t n) []))) e)

pick_is : (b c : Bool) (t : Word) (n p : ℕ) → b ≡ true → p ≡ t.place → fault_if c n p ≡ fault_of (first (pick b (faults_if c t n) []))
unfolding fault_if fault_of first sooner faults_if
pick_is b true t n p e h = ap (λ (i : ℕ). Some (record { number = n; place = i })) h ∙ sym (ap (λ a. fault_of (first (pick a (faults_if true t n) []))) e)
pick_is b false t n p e h = sym (ap (λ a. fault_of (first (pick a (faults_if false t n) []))) e)

module _ (s d e xe : List ℕ) (full : Bool) (limit j at : ℕ) (e₀ : at ≡ get_or d (j * 19 + 10) 0) where
  place_at : (f : File) (x : Entry) → d ≡ kept_definitions f → Nth (spec_entries f.specs) j x → j < 513 → at ≡ (span_or x.definition.default).place
  unfolding definition_cells
  place_at f x hd q l = e₀ ∙ definition_cell f d j 10 x hd q l (omega arith)

  pub default_none : at ≡ 0 → DefaultFault s d e xe full limit j None
  unfolding judged_faults span_or absent span_of default_faults option_words
  default_none h f m x st hd he hx room q l = by x.definition.default (sym h ∙ place_at f x hd q l) (entry_facts st (nth_in q)).facts.default
    where
      by : (o : Option Word) → 0 ≡ (span_or o).place → Goods s (option_words o)
          → None ≡ fault_of (first (pick (judged full limit o) (default_faults x.definition x.values o) []))
      by none p g = pick_none (judged full limit none)
      by (some t) p g = let a = g.0.later in absurd (omega (arith, a, p))

  pub default_late : (b : Bool) → b ≡ both full (leb limit at) → b ≡ true → DefaultFault s d e xe full limit j None
  unfolding judged_faults judged
  default_late b k h f m x st hd he hx room q l =
      pick_late (judged full limit x.definition.default) (default_faults x.definition x.values x.definition.default)
      (ap (λ (n : ℕ). not (both full (leb limit n))) (sym (place_at f x hd q l)) ∙ ap not (sym k ∙ h))

  module _ (n : at ≡ 0 → ⊥) (b : Bool) (k : b ≡ both full (leb limit at)) (h : b ≡ false) (len code : ℕ) (e₁ : len ≡ get_or d (j * 19 + 11) 0) (e₂ : code ≡ get_or d (j * 19 + 18) 0) where
    pub default_unset : code ≡ 4 → DefaultFault s d e xe full limit j None
    unfolding judged_faults default_faults default_code code_of
    default_unset i f m x st hd he hx room q l = by x.definition.default (sym i ∙ e₂ ∙ default_cell f d j x hd q l)
      where
        by : (o : Option Word) → 4 ≡ default_code o
            → None ≡ fault_of (first (pick (judged full limit o) (default_faults x.definition x.values o) []))
        by none p = pick_none (judged full limit none)
        by (some t) p = pick_wrong (judged full limit (some t)) (default_wrong (sort_of t.class) (fits x.definition x.values t)) t (default_number (sort_of t.class)) (wrong_none t.class (fits x.definition x.values t) (sym p))

    default_judged : (nr : ℕ) → ((a : Class) → code ≡ class_number a → nr ≡ default_number (sort_of a))
        → (u : ℕ) (c : Bool) (r : MaybeFault) → (code ≡ 4 → ⊥) → WordIndexed s d e xe j at len u → TakesUnder s d j at code u c → r ≡ fault_if (not c) nr at
        → DefaultFault s d e xe full limit j r
    unfolding WordIndexed judged_faults judged definition_cells span_or absent span_of default_faults default_code code_of option_words
    default_judged nr nk u c r i v w z f m x st hd he hx room q l =
        z ∙ by x.definition.default refl (place_at f x hd q l) (e₁ ∙ definition_cell f d j 11 x hd q l (omega arith)) (e₂ ∙ default_cell f d j x hd q l) (entry_facts st (nth_in q)).facts.default
      where
        taken : Takes s d e m j at len code c
        taken = w e m len (v m hx (let a = room.many in omega (arith, a)))

        by : (o : Option Word) → x.definition.default ≡ o → at ≡ (span_or o).place → len ≡ (span_or o).length → code ≡ default_code o → Goods s (option_words o)
            → fault_if (not c) nr at ≡ fault_of (first (pick (judged full limit o) (default_faults x.definition x.values o) []))
        by none y p u w g = absurd (n p)
        by (some t) y p u w g =
            let a = spec_run st in
            let ok : judged full limit (some t) ≡ true = ap (λ (n : ℕ). not (both full (leb limit n))) (sym p) ∙ ap not (sym k ∙ h) in
            let rch = reached f m full limit 1 a.hi j x t a.run (omega arith) (ascend_specs f.specs 1 a.hi a.run) room q y ok in
            let row : RowOf f j (record { definition = x.definition; values = x.values }) = record { under = x.under; outer = x.outer; nth = q } in
            let rd : ReadAt s t at len = subst (λ i. ReadAt s t i len) (sym p) (subst (λ i. ReadAt s t t.place i) (sym u) g.0.read) in
            let wr : not c ≡ default_wrong (sort_of t.class) (fits x.definition x.values t) =
            ap not (taken f (record { definition = x.definition; values = x.values }) t st hd he row l rch rd (sym w))
            ∙ sym (wrong_other t.class (fits x.definition x.values t) (λ b. i (w ∙ b))) in
            ap₂ (λ b k. fault_if b k at) wr (nk t.class w)
            ∙ pick_is (judged full limit (some t)) (default_wrong (sort_of t.class) (fits x.definition x.values t)) t (default_number (sort_of t.class)) at ok p

    pub default_auto : (u : ℕ) (c : Bool) (r : MaybeFault) → (code ≡ 4 → ⊥) → code ≡ 3 → WordIndexed s d e xe j at len u → TakesUnder s d j at code u c → r ≡ fault_if (not c) 23 at
        → DefaultFault s d e xe full limit j r
    default_auto u c r i a = default_judged 23 (λ k p. number_auto k (sym p ∙ a)) u c r i

    pub default_other : (u : ℕ) (c : Bool) (r : MaybeFault) → (code ≡ 4 → ⊥) → (code ≡ 3 → ⊥) → WordIndexed s d e xe j at len u → TakesUnder s d j at code u c → r ≡ fault_if (not c) 22 at
        → DefaultFault s d e xe full limit j r
    default_other u c r i a = default_judged 22 (λ k p. number_other k (λ q. a (p ∙ q))) u c r i
