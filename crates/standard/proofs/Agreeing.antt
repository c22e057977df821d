-- Not to differ is to agree in each point that document 02 names. Assumes nothing.
use mathlib.Core.Path.{◌≡◌, refl, sym, ◌∙◌, ap}
use mathlib.Core.Bool.{Bool, true, false, not, false≢true}
use mathlib.Core.Logic.{◌↔◌}
use lib.Dec.{eqb}
use borrow.Author.Tests.{eq-eqb, eqb-true}
use Rattle.token.specs.Find.{both, either}
use Rattle.meaning.specs.Syntax.{Defined}
use Rattle.meaning.specs.Cells.{type_code}
use Rattle.standard.specs.Asking.{only_where, has_default, wider, same_truth, differs}
use Rattle.standard.specs.Conforming.{Agrees}
use Rattle.standard.proofs.Truths.{is_true}
use Rattle.standard.proofs.Types.{same_type}
use Rattle.grammar.specs.Grammar.{Integer}
use Rattle.meaning.specs.Syntax.{AttributeType, integer, string, boolean, enum, float, reference, Bounds, Values}
use Rattle.standard.specs.Conforming.{NoWider, numbers, words, its_list, strings, floats, references}
use Rattle.standard.specs.Asking.{has_list, within, words_in}
use Rattle.standard.proofs.Numbers.{Faultless, ListedProper, within_exactly}
use Rattle.standard.proofs.Choosing.{words_exactly}

left_false : (a b : Bool) → either a b ≡ false → a ≡ false
left_false true b h = h
left_false false b h = refl

right_false : (a b : Bool) → either a b ≡ false → b ≡ false
right_false true b h = absurd (false≢true (sym h))
right_false false b h = h

neither : {a b : Bool} → a ≡ false → b ≡ false → either a b ≡ false
neither {a} {b} e f = ap (λ c. either c b) e ∙ f

false_not : (a : Bool) → a ≡ true → not a ≡ false
false_not true h = refl
false_not false h = absurd (false≢true h)

same_is : (a b : Bool) → same_truth a b ≡ true → a ≡ b
unfolding same_truth
same_is true true h = refl
same_is true false h = absurd (false≢true h)
same_is false true h = absurd (false≢true h)
same_is false false h = refl

is_same : (a b : Bool) → a ≡ b → same_truth a b ≡ true
unfolding same_truth
is_same true b h = sym h
is_same false b h = ap not (sym h)

only_is : (a b : Bool) → only_where a b ≡ false → b ≡ true → a ≡ true
unfolding only_where
only_is a true h e = is_true a h
only_is a false h e = absurd (false≢true e)

is_only : (a b : Bool) → (b ≡ true → a ≡ true) → only_where a b ≡ false
unfolding only_where
is_only a true h = false_not a (h refl)
is_only a false h = refl

-- What the test of bounds asks of the two ranges.
abbrev pub Fair : Defined → Defined → Type 0
Fair w d = (i : Integer) → w.definition.type ≡ integer i → d.definition.type ≡ integer i → ListedProper w.definition.bounds × Faultless i d.definition.bounds

not_wider : (t : AttributeType) (b : Bounds) (ws : Values) (c : Bounds) (vs : Values) → ((i : Integer) → t ≡ integer i → ListedProper b × Faultless i c) → wider t b ws c vs ≡ false → NoWider b ws c vs t
unfolding wider
not_wider (integer i) b ws c vs f h = let k = f i refl in numbers ((within_exactly i b c k.0 k.1).0 (is_true (within i b c) h))
not_wider string b ws c vs f h = strings
not_wider boolean b ws c vs f h = its_list (only_is' (has_list ws) (has_list vs) h)
  where
    only_is' : (a e : Bool) → both a (not e) ≡ false → a ≡ true → e ≡ true
    only_is' true true h k = refl
    only_is' true false h k = sym h
    only_is' false e h k = absurd (false≢true k)
not_wider enum b ws c vs f h = words ((words_exactly ws vs).0 (is_true (words_in ws vs) h))
not_wider float b ws c vs f h = floats
not_wider (reference k) b ws c vs f h = references

wider_not : (t : AttributeType) (b : Bounds) (ws : Values) (c : Bounds) (vs : Values) → ((i : Integer) → t ≡ integer i → ListedProper b × Faultless i c) → NoWider b ws c vs t → wider t b ws c vs ≡ false
unfolding wider
wider_not _ b ws c vs f (numbers {i} h) = let k = f i refl in false_not (within i b c) ((within_exactly i b c k.0 k.1).1 h)
wider_not _ b ws c vs f (words h) = false_not (words_in ws vs) ((words_exactly ws vs).1 h)
wider_not _ b ws c vs f (its_list h) = is_list (has_list ws) (has_list vs) h
  where
    is_list : (a e : Bool) → (a ≡ true → e ≡ true) → both a (not e) ≡ false
    is_list true e h = false_not e (h refl)
    is_list false e h = refl
wider_not _ b ws c vs f strings = refl
wider_not _ b ws c vs f floats = refl
wider_not _ b ws c vs f references = refl

pub agrees : (w d : Defined) → Fair w d → (differs w d ≡ false) ↔ Agrees w d
unfolding differs
agrees w d f = (forth, back)
  where
    forth : either (not (eqb (type_code w.definition.type) (type_code d.definition.type))) (either (not (same_truth w.definition.list d.definition.list)) (either (only_where w.definition.auto d.definition.auto) (either (only_where (has_default w.definition) (has_default d.definition)) (wider w.definition.type w.definition.bounds w.values d.definition.bounds d.values)))) ≡ false → Agrees w d
    forth h = parts (not (eqb (type_code w.definition.type) (type_code d.definition.type))) (not (same_truth w.definition.list d.definition.list)) (only_where w.definition.auto d.definition.auto) (only_where (has_default w.definition) (has_default d.definition)) refl refl refl refl h
      where
        parts : (p q r s : Bool) → not (eqb (type_code w.definition.type) (type_code d.definition.type)) ≡ p → not (same_truth w.definition.list d.definition.list) ≡ q
            → only_where w.definition.auto d.definition.auto ≡ r → only_where (has_default w.definition) (has_default d.definition) ≡ s
            → either p (either q (either r (either s (wider w.definition.type w.definition.bounds w.values d.definition.bounds d.values)))) ≡ false → Agrees w d
        parts p q r s e₁ e₂ e₃ e₄ h =
            let h₁ = right_false p _ h in
            let h₂ = right_false q _ h₁ in
            let h₃ = right_false r _ h₂ in
            let t : w.definition.type ≡ d.definition.type = same_type _ _ (eqb-true _ _ (is_true _ (e₁ ∙ left_false p _ h))) in
            record {
              type = t;
              list = same_is _ _ (is_true _ (e₂ ∙ left_false q _ h₁));
              auto = only_is _ _ (e₃ ∙ left_false r _ h₂);
              default = only_is _ _ (e₄ ∙ left_false s _ h₃);
              values = not_wider w.definition.type w.definition.bounds w.values d.definition.bounds d.values (λ i y. f i y (sym t ∙ y)) (right_false s _ h₃);
            }

    back : Agrees w d → either (not (eqb (type_code w.definition.type) (type_code d.definition.type))) (either (not (same_truth w.definition.list d.definition.list)) (either (only_where w.definition.auto d.definition.auto) (either (only_where (has_default w.definition) (has_default d.definition)) (wider w.definition.type w.definition.bounds w.values d.definition.bounds d.values)))) ≡ false
    back g =
        neither (false_not _ (eq-eqb _ _ (ap type_code g.type)))
        (neither (false_not _ (is_same _ _ g.list))
        (neither (is_only _ _ g.auto)
        (neither (is_only _ _ g.default)
        (wider_not w.definition.type w.definition.bounds w.values d.definition.bounds d.values (λ i y. f i y (sym g.type ∙ y)) g.values))))
