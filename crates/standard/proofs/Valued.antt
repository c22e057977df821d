-- What a lookup of a value word by bytes finds is what the list has. Assumes nothing.
use mathlib.Core.Path.{◌≡◌, refl, sym, ◌∙◌, ap}
use mathlib.Core.List.{List}
use mathlib.Core.Bool.{Bool, true, false}
use mathlib.Core.Option.{Option, none, some}
use Prim.Native.Nat.{ℕ, ◌+◌, ◌*◌}
use lib.ListN.{get_or}
use lib.Dec.{eqb}
use borrow.Author.Tests.{ne_eqb, eqb-true, eqb-false}
use Rattle.grammar.proofs.Uniqueness.{none≢some}
use Rattle.token.specs.Find.{pick}
use Rattle.token.specs.Words.{same}
use Rattle.token.specs.Tokens.{part_of}
use Rattle.token.proofs.Codes.{same_equal}
use Rattle.rows.specs.Found.{Found}
use Rattle.std.specs.Prelude.{Some, None}
use Rattle.rows.specs.Search.{find_from, find_named, is_named, has_key}
use Rattle.rows.proofs.Searches.{found_first}
use Rattle.meaning.specs.Syntax.{Word, Values, no_value, value}
use Rattle.meaning.specs.Words.{alike}
use Rattle.meaning.specs.Scopes.{Under, find_value}
use Rattle.scopes.specs.Promises.{place_found, FindsWord, FindsTruth, FindsEnumerator}
use Rattle.scopes.proofs.Descents.{nth_in, entry_facts, found_value, value_word}
use Rattle.scopes.proofs.Taking.{truth_one, truth_two, truth_none, finds_enumerator, word_truth, word_nothing, word_none, word_some}
use Rattle.standard.specs.Naming.{is_named_under, is_choice, find_choice, truth_named, FindsValue}
use Rattle.standard.proofs.Truths.{both_right}

unfoldable pub choice_word : List ℕ → Found → ℕ
choice_word e (Some i) = get_or e (i * 3 + 1) 0
choice_word e None = 0

-- the place of the value word of the attribute of row j that has the bytes b; 0 for none
unfoldable pub word_named : List ℕ → List ℕ → List ℕ → (m j : ℕ) → List ℕ → ℕ
word_named s d e m j b =
    pick (eqb (get_or d (j * 19 + 12) 0) 40) (truth_named s d j b)
    (pick (eqb (get_or d (j * 19 + 12) 0) 41) (choice_word e (find_choice s e m (get_or d (j * 19 + 14) 0) b 0)) 0)

-- The bytes of a part of the text ---------------------------------------------------------------------------------------------------------------

pub truth_finds : (s d : List ℕ) (j at len : ℕ) → FindsTruth s d j at len (truth_named s d j (part_of s at len))
unfolding truth_named
truth_finds s d j at len = by (same (part_of s a b) (part_of s at len)) (same (part_of s a₂ b₂) (part_of s at len)) refl refl
  where
    a : ℕ
    a = get_or d (j * 19 + 14) 0

    b : ℕ
    b = get_or d (j * 19 + 15) 0

    a₂ : ℕ
    a₂ = get_or d (j * 19 + 16) 0

    b₂ : ℕ
    b₂ = get_or d (j * 19 + 17) 0

    by : (p q : Bool) → p ≡ same (part_of s (get_or d (j * 19 + 14) 0) (get_or d (j * 19 + 15) 0)) (part_of s at len) → q ≡ same (part_of s (get_or d (j * 19 + 16) 0) (get_or d (j * 19 + 17) 0)) (part_of s at len)
        → FindsTruth s d j at len (pick p (get_or d (j * 19 + 14) 0) (pick q (get_or d (j * 19 + 16) 0) 0))
    by true q e g = truth_one s d j at len _ _ refl refl true e refl
    by false true e g = truth_two s d j at len _ _ refl refl _ _ refl refl false true e refl g refl
    by false false e g = truth_none s d j at len _ _ refl refl _ _ refl refl false false e refl g refl

pub choice_finds : (s d e : List ℕ) (m j at len : ℕ) → FindsEnumerator s d e m j at len (find_choice s e m (get_or d (j * 19 + 14) 0) (part_of s at len) 0)
unfolding find_choice is_choice find_named is_named
choice_finds s d e m j at len = finds_enumerator s d e m j at len (get_or d (j * 19 + 14) 0) _ refl refl

choice_word_finds : (s d e : List ℕ) (m j at len : ℕ) → get_or d (j * 19 + 12) 0 ≡ 41 → (z : Found) → FindsEnumerator s d e m j at len z → FindsWord s d e m j at len (choice_word e z)
unfolding choice_word
choice_word_finds s d e m j at len k (Some i) g = word_some s d e m j at len (get_or d (j * 19 + 12) 0) refl k (Some i) g i _ refl refl
choice_word_finds s d e m j at len k None g = word_none s d e m j at len (get_or d (j * 19 + 12) 0) refl k None g refl

pub word_finds : (s d e : List ℕ) (m j at len : ℕ) → FindsWord s d e m j at len (word_named s d e m j (part_of s at len))
unfolding word_named
word_finds s d e m j at len = by (eqb (get_or d (j * 19 + 12) 0) 40) (eqb (get_or d (j * 19 + 12) 0) 41) refl refl
  where
    by : (p q : Bool) → eqb (get_or d (j * 19 + 12) 0) 40 ≡ p → eqb (get_or d (j * 19 + 12) 0) 41 ≡ q
        → FindsWord s d e m j at len (pick p (truth_named s d j (part_of s at len)) (pick q (choice_word e (find_choice s e m (get_or d (j * 19 + 14) 0) (part_of s at len) 0)) 0))
    by true q h g = word_truth s d e m j at len (get_or d (j * 19 + 12) 0) refl _ (eqb-true _ 40 h) (truth_finds s d j at len)
    by false true h g = choice_word_finds s d e m j at len (eqb-true _ 41 g) _ (choice_finds s d e m j at len)
    by false false h g = word_nothing s d e m j at len (get_or d (j * 19 + 12) 0) refl (eqb-false _ 40 h) (eqb-false _ 41 g)

-- Any bytes ------------------------------------------------------------------------------------------------------------------------------------

-- The bytes b stand somewhere in the text, or the number n is 0.
pub data Somewhere (s b : List ℕ) (n : ℕ) : Type 0 where
  part_at : (at len : ℕ) → b ≡ part_of s at len → Somewhere s b n
  nowhere : n ≡ 0 → Somewhere s b n

truth_somewhere : (s d : List ℕ) (j : ℕ) (b : List ℕ) → Somewhere s b (truth_named s d j b)
unfolding truth_named
truth_somewhere s d j b =
    by (same (part_of s (get_or d (j * 19 + 14) 0) (get_or d (j * 19 + 15) 0)) b) (same (part_of s (get_or d (j * 19 + 16) 0) (get_or d (j * 19 + 17) 0)) b) refl refl
  where
    by : (p q : Bool) → same (part_of s (get_or d (j * 19 + 14) 0) (get_or d (j * 19 + 15) 0)) b ≡ p → same (part_of s (get_or d (j * 19 + 16) 0) (get_or d (j * 19 + 17) 0)) b ≡ q
        → Somewhere s b (pick p (get_or d (j * 19 + 14) 0) (pick q (get_or d (j * 19 + 16) 0) 0))
    by true q h g = part_at _ _ (sym (same_equal _ _ h))
    by false true h g = part_at _ _ (sym (same_equal _ _ g))
    by false false h g = nowhere refl

choice_part : (s e : List ℕ) (key i : ℕ) (b : List ℕ) {n : ℕ} → is_choice s e key i b ≡ true → Somewhere s b n
unfolding is_choice
choice_part s e key i b h =
    let p = get_or e (i * 3 + 1) 0 in
    let n = get_or e (i * 3 + 2) 0 in
    part_at p n (sym (same_equal (part_of s p n) b (both_right (has_key e (i * 3) 0 key) (same (part_of s p n) b) h)))

choice_somewhere : (s e : List ℕ) (m key : ℕ) (b : List ℕ) → Somewhere s b (choice_word e (find_choice s e m key b 0))
unfolding find_choice choice_word
choice_somewhere s e m key b = by (find_from (λ j. is_choice s e key j b) m 0) refl
  where
    by : (z : Found) → find_from (λ j. is_choice s e key j b) m 0 ≡ z → Somewhere s b (choice_word e z)
    by (Some i) h = choice_part s e key i b (found_first (λ j. is_choice s e key j b) m 0 i h).holds
    by None h = nowhere refl

word_somewhere : (s d e : List ℕ) (m j : ℕ) (b : List ℕ) → Somewhere s b (word_named s d e m j b)
unfolding word_named
word_somewhere s d e m j b = by (eqb (get_or d (j * 19 + 12) 0) 40) (eqb (get_or d (j * 19 + 12) 0) 41)
  where
    by : (p q : Bool) → Somewhere s b (pick p (truth_named s d j b) (pick q (choice_word e (find_choice s e m (get_or d (j * 19 + 14) 0) b 0)) 0))
    by true q = truth_somewhere s d j b
    by false true = choice_somewhere s e m (get_or d (j * 19 + 14) 0) b
    by false false = nowhere refl

-- A value that is found has the bytes asked for.
pub value_bytes : (vs : Values) (t : Word) {v : Under} → find_value vs t ≡ some v → v.word.bytes ≡ t.bytes
unfolding find_value alike
value_bytes no_value t e = absurd (none≢some e)
value_bytes (value w n us vs) t {v} e = by (same w.bytes t.bytes) refl e (value_bytes vs t)
  where
    by : (b : Bool) → same w.bytes t.bytes ≡ b → pick b (some (record { word = w; number = n; definitions = us })) (find_value vs t) ≡ some v
        → (find_value vs t ≡ some v → v.word.bytes ≡ t.bytes) → v.word.bytes ≡ t.bytes
    by true g h ih = let y : Under = record { word = w; number = n; definitions = us } in let q : y ≡ v = cc in sym (ap (λ (z : Under). z.word.bytes) q) ∙ same_equal _ _ g
    by false g h ih = ih h

-- Of the value word with any bytes.
pub finds_value : (s d e : List ℕ) (m j : ℕ) (b : List ℕ) (r : ℕ) → r ≡ word_named s d e m j b → FindsValue s d e m j b r
unfolding place_found
finds_value s d e m j b r z f x t st hd he row l rch q = by (find_value x.values t) refl
  where
    at_part : (at len : ℕ) → b ≡ part_of s at len → r ≡ place_found (find_value x.values t)
    at_part at len g = z ∙ ap (word_named s d e m j) g ∙ word_finds s d e m j at len f x t st hd he row l rch (q ∙ g)

    not_there : Somewhere s b (word_named s d e m j b) → find_value x.values t ≡ none → r ≡ place_found (find_value x.values t)
    not_there (part_at at len g) h = at_part at len g
    not_there (nowhere g) h = z ∙ g ∙ sym (ap place_found h)

    by : (o : Option Under) → find_value x.values t ≡ o → r ≡ place_found (find_value x.values t)
    by none h = not_there (word_somewhere s d e m j b) h
    by (some v) h =
        let g = value_word (found_value x.values t h) (entry_facts st (nth_in row.nth)).facts.values.good in
        at_part v.word.place v.word.length (sym q ∙ sym (value_bytes x.values t h) ∙ g.read.bytes)

-- The tests of the code ----------------------------------------------------------------------------------------------------------------------

pub of_choices : (s e : List ℕ) (n key : ℕ) (b : List ℕ)
    → find_from (λ i. is_named_under s e (record { width = 3; under = 0; name = 1; length = 2 }) key i b) n 0 ≡ find_choice s e n key b 0
unfolding is_named_under is_choice find_choice
of_choices s e n key b = refl

-- The answers of truth_named, by the parts p and q of the two words.
pub true_named : (s d : List ℕ) (j : ℕ) (b : List ℕ) (a n : ℕ) → a ≡ get_or d (j * 19 + 14) 0 → n ≡ get_or d (j * 19 + 15) 0 → same (part_of s a n) b ≡ true → a ≡ truth_named s d j b
unfolding truth_named
true_named s d j b a n e g h = rw (sym e, sym g, h)

pub false_named : (s d : List ℕ) (j : ℕ) (b : List ℕ) (a n a₂ n₂ : ℕ) → a ≡ get_or d (j * 19 + 14) 0 → n ≡ get_or d (j * 19 + 15) 0 → a₂ ≡ get_or d (j * 19 + 16) 0 → n₂ ≡ get_or d (j * 19 + 17) 0
    → same (part_of s a n) b ≡ false → (r : Bool) → same (part_of s a₂ n₂) b ≡ r → pick r a₂ 0 ≡ truth_named s d j b
unfolding truth_named
false_named s d j b a n a₂ n₂ e g e₂ g₂ h r k = rw (sym e, sym g, sym e₂, sym g₂, h, k)

-- And of find_value, by the code c.
pub of_boolean : (s d e : List ℕ) (m j : ℕ) (b : List ℕ) (c : ℕ) → c ≡ get_or d (j * 19 + 12) 0 → c ≡ 40 → truth_named s d j b ≡ word_named s d e m j b
unfolding word_named
of_boolean s d e m j b c h k = rw (sym h, k)

pub of_other : (s d e : List ℕ) (m j : ℕ) (b : List ℕ) (c : ℕ) → c ≡ get_or d (j * 19 + 12) 0 → (c ≡ 40 → ⊥) → (c ≡ 41 → ⊥) → 0 ≡ word_named s d e m j b
unfolding word_named
of_other s d e m j b c h k l = rw (sym h, ne_eqb c 40 k, ne_eqb c 41 l)

pub of_enum : (s d e : List ℕ) (m j : ℕ) (b : List ℕ) (c key : ℕ) → c ≡ get_or d (j * 19 + 12) 0 → c ≡ 41 → key ≡ get_or d (j * 19 + 14) 0 → (z : Found) → z ≡ find_choice s e m key b 0
    → choice_word e z ≡ word_named s d e m j b
unfolding word_named
of_enum s d e m j b c key h k g z q = rw (sym h, k, q, g)

pub word_at : (e : List ℕ) (z : Found) (i r : ℕ) → z ≡ Some i → r ≡ get_or e (i * 3 + 1) 0 → r ≡ choice_word e z
unfolding choice_word
word_at e z i r g h = h ∙ sym (ap (choice_word e) g)

pub no_word : (e : List ℕ) (z : Found) → z ≡ None → 0 ≡ choice_word e z
unfolding choice_word
no_word e z g = sym (ap (choice_word e) g)

pub part_same : (b : List ℕ) {l m : List ℕ} {r : Bool} → l ≡ m → r ≡ same l b → same m b ≡ r
part_same b e h = ap (λ k. same k b) (sym e) ∙ sym h
