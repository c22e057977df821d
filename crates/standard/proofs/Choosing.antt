-- The words of an ENUM are among those of a list exactly where no row is extra. Assumes nothing.
use mathlib.Core.Path.{◌≡◌, refl, sym, ◌∙◌, ap, ap₂}
use mathlib.Core.List.{List}
use mathlib.Core.Bool.{Bool, true, false, not, false≢true}
use mathlib.Core.Logic.{◌↔◌}
use mathlib.Core.Option.{Option, none, some}
use Prim.Native.Nat.{ℕ, ◌+◌, ◌*◌, ◌≤◌, ◌<◌}
use native.Mathlib.Omega.{arith}
use lib.ListN.{get_or}
use borrow.Author.Tests.{ne_eqb, eq-eqb}
use Rattle.token.specs.Find.{pick, both, is_there}
use Rattle.token.specs.Words.{same}
use Rattle.token.specs.Tokens.{part_of}
use Rattle.token.proofs.Codes.{same_equal, same_self}
use Rattle.grammar.specs.Grammar.{ordinary}
use Rattle.rows.specs.Found.{Found}
use Rattle.std.specs.Prelude.{Some, None}
use Rattle.rows.specs.Search.{has_key, find_from, is_found}
use Rattle.rows.proofs.Searches.{find_stop, find_more, find_end, IsFirst, found_first, nothing_none}
use Rattle.meaning.specs.Syntax.{Word, Values, no_value, value, Defined, File, is_enum}
use Rattle.meaning.specs.Words.{alike}
use Rattle.meaning.specs.Scopes.{Under, find_value}
use Rattle.layout.specs.Kept.{kept_definitions, kept_enumerators}
use Rattle.scopes.specs.Situations.{Situation, HasValue, this_value, later_value, RowOf, Reached}
use Rattle.scopes.specs.Promises.{number_found}
use Rattle.scopes.proofs.Descents.{nth_in, entry_facts, found_value, value_word}
use Rattle.standard.specs.Asking.{words_in}
use Rattle.standard.specs.Naming.{is_choice, find_choice}
use Rattle.standard.specs.Choices.{find_word, is_word, is_extra, find_extra, has_extra}
use Rattle.standard.proofs.Valued.{choice_finds, value_bytes}
use Rattle.standard.proofs.Truths.{both_left, both_right, is_false, is_true}

-- The loops of the code ----------------------------------------------------------------------------------------------------------------------

-- Word k has the bytes b.
abbrev is_that : (g ws b : List ℕ) → ℕ → Bool
is_that g ws b k = same (part_of g (get_or ws (k * 2 + 0) 0) (get_or ws (k * 2 + 1) 0)) b

module _ (g ws b : List ℕ) (a z k : ℕ) (inv : find_word g ws z b k ≡ find_word g ws z b a) where
  pub word_here : (p n : ℕ) (q : List ℕ) (r : Bool) → k < z → p ≡ get_or ws (k * 2 + 0) 0 → n ≡ get_or ws (k * 2 + 1) 0 → q ≡ part_of g p n → r ≡ same q b → r ≡ true → true ≡ is_word g ws a z b
  unfolding is_word find_word
  word_here p n q r h e i c t v =
      sym (ap is_found (sym inv ∙ find_stop (is_that g ws b) z k h (sym (t ∙ ap (λ l. same l b) (c ∙ ap₂ (part_of g) e i)) ∙ v)))

  pub word_on : (p n : ℕ) (q : List ℕ) (r : Bool) → k < z → p ≡ get_or ws (k * 2 + 0) 0 → n ≡ get_or ws (k * 2 + 1) 0 → q ≡ part_of g p n → r ≡ same q b → r ≡ false
      → find_word g ws z b (k + 1) ≡ find_word g ws z b a
  unfolding find_word
  word_on p n q r h e i c t v = sym (find_more (is_that g ws b) z k h (sym (t ∙ ap (λ l. same l b) (c ∙ ap₂ (part_of g) e i)) ∙ v)) ∙ inv

  pub word_past : z ≤ k → false ≡ is_word g ws a z b
  unfolding is_word find_word
  word_past h = sym (ap is_found (sym inv ∙ find_end (is_that g ws b) z k h))

module _ (s e g ws : List ℕ) (a z key i : ℕ) where
  pub other_key : (get_or e (i * 3 + 0) 0 ≡ key → ⊥) → false ≡ is_extra s e g ws a z key i
  unfolding is_extra has_key
  other_key h = sym (ap (λ c. both c (not (is_word g ws a z (part_of s (get_or e (i * 3 + 1) 0) (get_or e (i * 3 + 2) 0))))) (ne_eqb (get_or e (i * 3 + 0) 0) key h))

  pub its_key : (p n : ℕ) (q : List ℕ) (r : Bool) → get_or e (i * 3 + 0) 0 ≡ key → p ≡ get_or e (i * 3 + 1) 0 → n ≡ get_or e (i * 3 + 2) 0 → q ≡ part_of s p n → r ≡ is_word g ws a z q → not r ≡ is_extra s e g ws a z key i
  unfolding is_extra has_key
  its_key p n q r h t u c v =
      ap not (v ∙ ap (is_word g ws a z) (c ∙ ap₂ (part_of s) t u))
      ∙ sym (ap (λ d. both d (not (is_word g ws a z (part_of s (get_or e (i * 3 + 1) 0) (get_or e (i * 3 + 2) 0))))) (eq-eqb (get_or e (i * 3 + 0) 0) key h))

module _ (s e g ws : List ℕ) (a z key m i : ℕ) (inv : find_extra s e g ws a z key m i ≡ find_extra s e g ws a z key m 0) (b : Bool) (q : b ≡ is_extra s e g ws a z key i) where
  pub extra_here : i < m → b ≡ true → true ≡ has_extra s e g ws a z key m
  unfolding has_extra find_extra
  extra_here h t = sym (ap is_found (sym inv ∙ find_stop (is_extra s e g ws a z key) m i h (sym q ∙ t)))

  pub extra_on : i < m → b ≡ false → find_extra s e g ws a z key m (i + 1) ≡ find_extra s e g ws a z key m 0
  unfolding find_extra
  extra_on h t = sym (find_more (is_extra s e g ws a z key) m i h (sym q ∙ t)) ∙ inv

pub extra_past : (s e g ws : List ℕ) (a z key m i : ℕ) → find_extra s e g ws a z key m i ≡ find_extra s e g ws a z key m 0 → m ≤ i → false ≡ has_extra s e g ws a z key m
unfolding has_extra find_extra
extra_past s e g ws a z key m i inv h = sym (ap is_found (sym inv ∙ find_end (is_extra s e g ws a z key) m i h))

-- Lists ---------------------------------------------------------------------------------------------------------------------------------------

-- A value is found by bytes alone.
pub find_alike : (vs : Values) (t u : Word) → t.bytes ≡ u.bytes → find_value vs t ≡ find_value vs u
unfolding find_value alike
find_alike no_value t u e = refl
find_alike (value w n us vs) t u e =
    ap₂ (λ (b : Bool) (o : Option Under). pick b (some (record { word = w; number = n; definitions = us })) o) (ap (same w.bytes) e) (find_alike vs t u e)

own_found : (vs : Values) {v : Under} → HasValue vs v → is_there (find_value vs v.word) ≡ true
unfolding find_value alike is_there
own_found (value w n us vs) this_value = ap (λ (b : Bool). is_there (pick b (some (record { word = w; number = n; definitions = us })) (find_value vs w))) (same_self w.bytes)
own_found (value w n us vs) {v} (later_value h) = by (same w.bytes v.word.bytes) (own_found vs h)
  where
    by : (b : Bool) → is_there (find_value vs v.word) ≡ true → is_there (pick b (some (record { word = w; number = n; definitions = us })) (find_value vs v.word)) ≡ true
    by true e = refl
    by false e = e
own_found no_value {v = v} x' = elim x' [ ]

pub words_not : (ws vs : Values) {v : Under} → HasValue vs v → is_there (find_value ws v.word) ≡ false → words_in ws vs ≡ false
unfolding words_in
words_not ws (value w n us vs) this_value e = ap (λ b. both b (words_in ws vs)) e
words_not ws (value w n us vs) (later_value h) e = by (is_there (find_value ws w)) (words_not ws vs h e)
  where
    by : (b : Bool) → words_in ws vs ≡ false → both b (words_in ws vs) ≡ false
    by true k = k
    by false k = refl
words_not ws no_value {v = v} x'' e = elim x'' [ ]

pub words_all : (ws vs : Values) → ((v : Under) → HasValue vs v → is_there (find_value ws v.word) ≡ true) → words_in ws vs ≡ true
unfolding words_in
words_all ws no_value h = refl
words_all ws (value w n us vs) h = ap₂ both (h (record { word = w; number = n; definitions = us }) this_value) (words_all ws vs (λ v i. h v (later_value i)))

-- The test of words holds exactly where each is there.
pub words_exactly : (ws vs : Values) → (words_in ws vs ≡ true) ↔ ((v : Under) → HasValue vs v → is_there (find_value ws v.word) ≡ true)
words_exactly ws vs = ((λ e v h. by (is_there (find_value ws v.word)) refl e h), (λ h. words_all ws vs h))
  where
    by : (b : Bool) {v : Under} → is_there (find_value ws v.word) ≡ b → words_in ws vs ≡ true → HasValue vs v → is_there (find_value ws v.word) ≡ true
    by true q e h = q
    by false q e h = absurd (false≢true (sym (words_not ws vs h q) ∙ e))

-- Rows and lists ------------------------------------------------------------------------------------------------------------------------------

there_found : (o : Option Under) → is_there o ≡ true → {R : Type 0} → ((v : Under) → o ≡ some v → R) → R
unfolding is_there
there_found none h f = absurd (false≢true h)
there_found (some v) h f = f v refl

module _ {s d e : List ℕ} {f : File} {x : Defined} {j m : ℕ} (st : Situation s f) (hd : d ≡ kept_definitions f) (he : e ≡ kept_enumerators f) (row : RowOf f j x) (l : j < 513)
    (rc : Reached f m x.values) (en : is_enum x.definition.type ≡ true) where
  choice_is : (at len : ℕ) (t : Word) → t.bytes ≡ part_of s at len → find_choice s e m (get_or d (j * 19 + 14) 0) (part_of s at len) 0 ≡ number_found (find_value x.values t)
  choice_is at len t q = choice_finds s d e m j at len f x t st hd he row l rc en q

  choice_none : (at len : ℕ) (t : Word) → t.bytes ≡ part_of s at len → find_value x.values t ≡ none → (i : ℕ) → i < m
      → is_choice s e (get_or d (j * 19 + 14) 0) i (part_of s at len) ≡ false
  unfolding find_choice number_found
  choice_none at len t q n i h =
      nothing_none (λ k. is_choice s e (get_or d (j * 19 + 14) 0) k (part_of s at len)) m 0 (choice_is at len t q ∙ ap number_found n) i (omega arith) h

  choice_found : (at len : ℕ) (t : Word) {v : Under} → t.bytes ≡ part_of s at len → find_value x.values t ≡ some v
      → IsFirst (λ k. is_choice s e (get_or d (j * 19 + 14) 0) k (part_of s at len)) m 0 v.number
  unfolding find_choice number_found
  choice_found at len t {v} q n =
      found_first (λ k. is_choice s e (get_or d (j * 19 + 14) 0) k (part_of s at len)) m 0 v.number (choice_is at len t q ∙ ap number_found n)

  choice_own : (key i : ℕ) → has_key e (i * 3) 0 key ≡ true → is_choice s e key i (part_of s (get_or e (i * 3 + 1) 0) (get_or e (i * 3 + 2) 0)) ≡ true
  unfolding is_choice
  choice_own key i h = ap₂ both h (same_self (part_of s (get_or e (i * 3 + 1) 0) (get_or e (i * 3 + 2) 0)))

  choice_key : (i at len : ℕ) → is_choice s e (get_or d (j * 19 + 14) 0) i (part_of s at len) ≡ true → has_key e (i * 3) 0 (get_or d (j * 19 + 14) 0) ≡ true
  unfolding is_choice
  choice_key i at len h = both_left (has_key e (i * 3) 0 (get_or d (j * 19 + 14) 0)) (same (part_of s (get_or e (i * 3 + 1) 0) (get_or e (i * 3 + 2) 0)) (part_of s at len)) h

  choice_part : (i at len : ℕ) → is_choice s e (get_or d (j * 19 + 14) 0) i (part_of s at len) ≡ true → part_of s (get_or e (i * 3 + 1) 0) (get_or e (i * 3 + 2) 0) ≡ part_of s at len
  unfolding is_choice
  choice_part i at len h =
      same_equal _ _ (both_right (has_key e (i * 3) 0 (get_or d (j * 19 + 14) 0)) (same (part_of s (get_or e (i * 3 + 1) 0) (get_or e (i * 3 + 2) 0)) (part_of s at len)) h)

  module _ (g ws : List ℕ) (a z : ℕ) (W : Values) (hw : (t : Word) → is_word g ws a z t.bytes ≡ is_there (find_value W t)) where
    extra_not : (i : ℕ) → has_key e (i * 3) 0 (get_or d (j * 19 + 14) 0) ≡ true → is_extra s e g ws a z (get_or d (j * 19 + 14) 0) i ≡ false
        → is_word g ws a z (part_of s (get_or e (i * 3 + 1) 0) (get_or e (i * 3 + 2) 0)) ≡ true
    unfolding is_extra
    extra_not i k h =
        is_true (is_word g ws a z (part_of s (get_or e (i * 3 + 1) 0) (get_or e (i * 3 + 2) 0)))
        (sym (ap (λ c. both c (not (is_word g ws a z (part_of s (get_or e (i * 3 + 1) 0) (get_or e (i * 3 + 2) 0))))) k) ∙ h)

    -- A row that is extra is a value whose word is not there.
    row_extra : (i : ℕ) → i < m → is_extra s e g ws a z (get_or d (j * 19 + 14) 0) i ≡ true → words_in W x.values ≡ false
    unfolding is_extra
    row_extra i h k = by (find_value x.values t) refl
      where
        b : List ℕ
        b = part_of s (get_or e (i * 3 + 1) 0) (get_or e (i * 3 + 2) 0)

        t : Word
        t = record {
          class = ordinary;
          bytes = part_of s (get_or e (i * 3 + 1) 0) (get_or e (i * 3 + 2) 0);
          number = record { negative = false; amount = 0 };
          float = record { negative = false; amount = 0 };
          place = 0;
          length = 0;
        }

        k₁ : has_key e (i * 3) 0 (get_or d (j * 19 + 14) 0) ≡ true
        k₁ = both_left (has_key e (i * 3) 0 (get_or d (j * 19 + 14) 0)) (not (is_word g ws a z (part_of s (get_or e (i * 3 + 1) 0) (get_or e (i * 3 + 2) 0)))) k

        k₂ : is_word g ws a z (part_of s (get_or e (i * 3 + 1) 0) (get_or e (i * 3 + 2) 0)) ≡ false
        k₂ = is_false (is_word g ws a z (part_of s (get_or e (i * 3 + 1) 0) (get_or e (i * 3 + 2) 0)))
            (both_right (has_key e (i * 3) 0 (get_or d (j * 19 + 14) 0)) (not (is_word g ws a z (part_of s (get_or e (i * 3 + 1) 0) (get_or e (i * 3 + 2) 0)))) k)

        by : (o : Option Under) → find_value x.values t ≡ o → words_in W x.values ≡ false
        by none q = absurd (false≢true (sym (choice_none (get_or e (i * 3 + 1) 0) (get_or e (i * 3 + 2) 0) t refl q i h)
            ∙ choice_own (get_or d (j * 19 + 14) 0) i k₁))
        by (some v) q =
            words_not W x.values (found_value x.values t q)
            (ap is_there (find_alike W v.word t (value_bytes x.values t q)) ∙ sym (hw t) ∙ k₂)

    -- And where none is, each value's word is there.
    no_extra : ((i : ℕ) → i < m → is_extra s e g ws a z (get_or d (j * 19 + 14) 0) i ≡ false) → words_in W x.values ≡ true
    no_extra h = words_all W x.values (λ v i. there_found (find_value x.values v.word) (own_found x.values i) (λ u q. by v i u q))
      where
        by : (v : Under) → HasValue x.values v → (u : Under) → find_value x.values v.word ≡ some u → is_there (find_value W v.word) ≡ true
        by v i u q =
            let w = value_word i (entry_facts st (nth_in row.nth)).facts.values.good in
            let c = choice_found v.word.place v.word.length v.word w.read.bytes q in
            sym (hw v.word) ∙ ap (is_word g ws a z) w.read.bytes ∙ sym (ap (is_word g ws a z) (choice_part u.number v.word.place v.word.length c.holds))
            ∙ extra_not u.number (choice_key u.number v.word.place v.word.length c.holds) (h u.number c.high)

    pub extra_is : has_extra s e g ws a z (get_or d (j * 19 + 14) 0) m ≡ not (words_in W x.values)
    unfolding has_extra find_extra
    extra_is = by (find_from (is_extra s e g ws a z (get_or d (j * 19 + 14) 0)) m 0) refl
      where
        by : (r : Found) → find_from (is_extra s e g ws a z (get_or d (j * 19 + 14) 0)) m 0 ≡ r → is_found r ≡ not (words_in W x.values)
        by (Some i) q =
            let c = found_first (is_extra s e g ws a z (get_or d (j * 19 + 14) 0)) m 0 i q in
            sym (ap not (row_extra i c.high c.holds))
        by None q = sym (ap not (no_extra (λ i h. nothing_none (is_extra s e g ws a z (get_or d (j * 19 + 14) 0)) m 0 q i (omega arith) h)))
