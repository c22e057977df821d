-- What the cells of a row tell of its default. Assumes nothing.
use mathlib.Core.Path.{◌≡◌, refl, sym, ◌∙◌, ap, ap₂}
use mathlib.Core.List.{List}
use mathlib.Core.Bool.{Bool, true, false}
use mathlib.Core.Option.{Option, none, some}
use Prim.Native.Nat.{ℕ, ◌+◌, ◌*◌, ◌<◌}
use native.Mathlib.Omega.{arith}
use lib.ListN.{get_or}
use Rattle.token.specs.Find.{bit, is_there}
use Rattle.meaning.specs.Syntax.{Word, span_or, span_of, absent, Defined, File}
use Rattle.meaning.specs.Judging.{taken}
use Rattle.meaning.proofs.Sites.{option_words}
use Rattle.layout.specs.Kept.{Entry, kept_definitions, definition_cells, default_code}
use Rattle.scopes.specs.Situations.{Situation, RowOf}
use Rattle.scopes.proofs.Goodness.{Goods}
use Rattle.scopes.proofs.Rooms.{definition_cell, default_cell}
use Rattle.scopes.proofs.Descents.{nth_in, entry_facts}
use Rattle.scopes.proofs.Sorts.{taken_none, taken_some}
use Rattle.standard.specs.Asking.{only_where, has_default}
use Rattle.standard.specs.Findings.{DefaultDiffers}

-- By the place p of the default and its code c.
record Default (x : Defined) (p c : ℕ) : Type 0 where
  not_there : p ≡ 0 → has_default x.definition ≡ false
  no_default : c ≡ 4 → has_default x.definition ≡ false
  there : (p ≡ 0 → ⊥) → (c ≡ 4 → ⊥) → has_default x.definition ≡ true

empty : is_there (taken none) ≡ false
unfolding taken is_there
empty = refl

default_is : (s : List ℕ) (x : Defined) (p c : ℕ) → Goods s (option_words x.definition.default) → p ≡ (span_or x.definition.default).place → c ≡ default_code x.definition.default
    → Default x p c
unfolding has_default span_or span_of absent option_words default_code is_there
default_is s x p c g e h = by x.definition.default refl g e h
  where
    by : (o : Option Word) → x.definition.default ≡ o → Goods s (option_words o) → p ≡ (span_or o).place → c ≡ default_code o → Default x p c
    by none q g e h = record {
      not_there = λ z. ap (λ (o : Option Word). is_there (taken o)) q ∙ empty;
      no_default = λ z. ap (λ (o : Option Word). is_there (taken o)) q ∙ empty;
      there = λ z y. absurd (z e);
    }
    by (some t) q g e h = record {
      not_there = λ z. let l = g.0.later in absurd (omega (arith, l, e, z));
      no_default = λ z. ap (λ (o : Option Word). is_there (taken o)) q ∙ ap is_there (taken_none t (sym h ∙ z));
      there = λ z y. ap (λ (o : Option Word). is_there (taken o)) q ∙ ap is_there (taken_some t (λ k. y (h ∙ k)));
    }

module _ (d : List ℕ) (j has p : ℕ) (e : p ≡ get_or d (j * 19 + 10) 0) where
  row_default : (s : List ℕ) (f : File) (x : Defined) (c : ℕ) → Situation s f → d ≡ kept_definitions f → RowOf f j x → j < 513 → c ≡ get_or d (j * 19 + 18) 0 → Default x p c
  unfolding definition_cells
  row_default s f x c k h r l q =
      let E : Entry = record { under = r.under; outer = r.outer; definition = x.definition; values = x.values } in
      default_is s x p c (entry_facts k (nth_in r.nth)).facts.default (e ∙ definition_cell f d j 10 E h r.nth l (omega arith)) (q ∙ default_cell f d j E h r.nth l)

  only_not : (a b : Bool) → b ≡ false → only_where a b ≡ false
  unfolding only_where
  only_not true b h = ap (only_where true) h
  only_not false b h = ap (only_where false) h

  pub default_none : p ≡ 0 → DefaultDiffers d j has false
  default_none z s f x w k h r l q =
      sym (only_not (has_default w.definition) (has_default x.definition) ((row_default s f x (get_or d (j * 19 + 18) 0) k h r l refl).not_there z))

  module _ (c : ℕ) (g : c ≡ get_or d (j * 19 + 18) 0) where
    pub default_not : c ≡ 4 → DefaultDiffers d j has false
    default_not z s f x w k h r l q = sym (only_not (has_default w.definition) (has_default x.definition) ((row_default s f x c k h r l g).no_default z))

    module _ (z : p ≡ 0 → ⊥) (y : c ≡ 4 → ⊥) where
      bits-one : (a : Bool) → bit a ≡ 1 → a ≡ true
      unfolding bit
      bits-one true e = refl
      bits-one false e = absurd (omega arith)

      bits-other : (a : Bool) → (bit a ≡ 1 → ⊥) → a ≡ false
      unfolding bit
      bits-other true e = absurd (e refl)
      bits-other false e = refl

      pub default-too : has ≡ 1 → DefaultDiffers d j has false
      unfolding only_where
      default-too v s f x w k h r l q = sym (ap₂ only_where (bits-one (has_default w.definition) (sym q ∙ v)) ((row_default s f x c k h r l g).there z y))

      pub default-new : (has ≡ 1 → ⊥) → DefaultDiffers d j has true
      unfolding only_where
      default-new v s f x w k h r l q = sym (ap₂ only_where (bits-other (has_default w.definition) (λ o. v (q ∙ o))) ((row_default s f x c k h r l g).there z y))
