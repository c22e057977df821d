-- Each row of the tables is that of the attribute which the text of section 5.2 defines: by computation. Assumes nothing.
use mathlib.Core.Path.{◌≡◌, refl, sym, ◌∙◌, ap, ap₂, subst}
use mathlib.Core.List.{List, [], ◌∷◌, ◌++◌}
use mathlib.Core.Bool.{Bool, true, false, not, false≢true}
use mathlib.Core.Option.{some}
use Prim.Native.Nat.{ℕ, zero, suc, ◌+◌, ◌-◌, ◌*◌, ◌≤◌}
use native.Mathlib.Omega.{arith}
use lib.ListN.{length, get_or}
use lib.Dec.{eqb, leb}
use borrow.Author.Tests.{eqb-true, eqb-false, ne_eqb, eq-eqb, leb-true}
use Rattle.token.specs.Find.{pick, bit, both, either, is_there}
use Rattle.token.specs.Words.{same}
use Rattle.token.specs.Tokens.{part_of}
use Rattle.token.proofs.Codes.{same_equal}
use Rattle.grammar.specs.Grammar.{Integer}
use Rattle.rows.specs.Search.{is_found}
use Rattle.rows.proofs.Searches.{find_stop, find_more, find_end}
use Rattle.meaning.specs.Syntax.{Num, Word, AttributeType, integer, string, boolean, enum, float, reference, Bounds, no_bounds, from_to, one_of, Definition, Values, no_value, value, Spec}
use Rattle.meaning.specs.Words.{alike, num_at_most, equal, among_numbers, in_bounds}
use Rattle.meaning.specs.Kinds.{kind_number}
use Rattle.meaning.specs.Cells.{type_code}
use Rattle.meaning.specs.Scopes.{find_value}
use Rattle.scopes.specs.Situations.{Nth}
use Rattle.standard.specs.Asking.{Step, Asked, asked, has_default, has_list, next, followed, spans, all_in, within}
use Rattle.standard.specs.Section.{section, standard}
use Rattle.standard.specs.Rows.{rows_written, words_written}
use Rattle.standard.specs.Spans.{one, two, one_or_two, all_one_or_two, within_one_two}
use Rattle.standard.specs.Choices.{find_word, is_word}
use Rattle.standard.specs.Findings.{PathIs, no_step, one_step, Restricted, RowIs, RowsAre}
use Rattle.standard.proofs.Everything.{rules}
use Rattle.standard.proofs.Sections.{is_standard, written}
use Rattle.standard.specs.Conforming.{Proper}
use Rattle.standard.proofs.Numbers.{equal_same, AllProper, ListedProper}
use Rattle.standard.proofs.Truths.{both_left, both_right, is_false}

-- The check of a row -----------------------------------------------------------------------------------------------------------------------------

unfoldable cell : ℕ → ℕ → ℕ
cell i c = get_or rows_written (i * 14 + c) 0

unfoldable part_of_lem : ℕ → ℕ → List ℕ
part_of_lem p n = part_of section p n

unfoldable path_sound : ℕ → List Step → Bool
path_sound i [] = eqb (cell i 8) 0
path_sound i (p ∷ []) = both (not (eqb (cell i 8) 0)) (both (same p.attribute.bytes (part_of_lem (cell i 7) (cell i 8))) (same p.value.bytes (part_of_lem (cell i 9) (cell i 10))))
path_sound i (p ∷ (q ∷ ps)) = false

unfoldable one_two : List Word → Bool
one_two [] = false
one_two (t ∷ []) = false
one_two (t ∷ (u ∷ [])) = both (equal t.number one) (equal u.number two)
one_two (t ∷ (u ∷ (v ∷ vs))) = false

unfoldable all_wider : AttributeType → Bounds → Bool
all_wider (integer i) b = not (within i b no_bounds)
all_wider string b = false
all_wider boolean b = false
all_wider enum b = false
all_wider float b = false
all_wider (reference k) b = false

unfoldable bounds_sound : ℕ → AttributeType → Bounds → Bool
bounds_sound c t no_bounds = eqb c 0
bounds_sound c t (from_to a b) = false
bounds_sound c t (one_of ts) = both (not (eqb c 0)) (both (one_two ts) (all_wider t (one_of ts)))

-- The words from row a on, so many.
unfoldable words_from : ℕ → ℕ → List (List ℕ)
words_from zero a = []
words_from (suc n) a = part_of section (get_or words_written (a * 2 + 0) 0) (get_or words_written (a * 2 + 1) 0) ∷ words_from n (a + 1)

unfoldable words_of : Values → List (List ℕ)
words_of no_value = []
words_of (value w e us vs) = w.bytes ∷ words_of vs

unfoldable same_words : List (List ℕ) → List (List ℕ) → Bool
same_words [] [] = true
same_words [] (b ∷ bs) = false
same_words (a ∷ as') [] = false
same_words (a ∷ as') (b ∷ bs) = both (same a b) (same_words as' bs)

unfoldable cells_sound : ℕ → Asked → Bool
cells_sound i a =
    both (eqb (cell i 0) (kind_number a.kind))
    (both (same a.wanted.definition.name.bytes (part_of_lem (cell i 1) (cell i 2)))
    (both (eqb (cell i 3) (type_code a.wanted.definition.type))
    (both (eqb (cell i 4) (bit a.wanted.definition.list))
    (both (eqb (cell i 5) (bit a.wanted.definition.auto))
    (eqb (cell i 6) (bit (has_default a.wanted.definition)))))))

unfoldable row_sound : ℕ → Asked → Bool
row_sound i a =
    both (cells_sound i a)
    (both (path_sound i a.path)
    (both (bounds_sound (cell i 11) a.wanted.definition.type a.wanted.definition.bounds)
    (both (leb (cell i 12) (cell i 13))
    (both (same_words (words_of a.wanted.values) (words_from (cell i 13 - cell i 12) (cell i 12)))
    (eqb a.wanted.definition.row i)))))

unfoldable all_sound : ℕ → List Asked → Bool
all_sound i [] = true
all_sound i (a ∷ as') = both (row_sound i a) (all_sound (suc i) as')

unfoldable how_many : List Asked → ℕ
how_many [] = 0
how_many (a ∷ as') = suc (how_many as')

written_sound : all_sound 0 (asked written) ≡ true
unfolding rules cell part_of_lem path_sound one_two all_wider bounds_sound words_from words_of same_words cells_sound row_sound all_sound part_of
written_sound = refl

written_many : how_many (asked written) ≡ 36
unfolding rules how_many
written_many = refl

counts : (l : List Asked) → how_many l ≡ length l
unfolding how_many
counts [] = refl
counts (a ∷ l) = ap suc (counts l)

pub asked_many : length (asked standard) ≡ 36
asked_many = sym (counts (asked standard)) ∙ ap (λ (gs : List Spec). how_many (asked gs)) is_standard ∙ written_many

-- What the check tells -----------------------------------------------------------------------------------------------------------------------------

sound_at : (l : List Asked) (n : ℕ) (front : List Asked) (a : Asked) (rest : List Asked) → l ≡ front ++ (a ∷ rest) → all_sound n l ≡ true → row_sound (n + length front) a ≡ true
unfolding all_sound
sound_at l n [] a rest e h =
    let z : n + 0 ≡ n = omega arith in
    ap (λ (k : ℕ). row_sound k a) z ∙ both_left (row_sound n a) (all_sound (suc n) rest) (ap (all_sound n) (sym e) ∙ h)
sound_at l n (b ∷ front) a rest e h =
    let z : n + suc (length front) ≡ suc n + length front = omega arith in
    ap (λ (k : ℕ). row_sound k a) z
    ∙ sound_at (front ++ (a ∷ rest)) (suc n) front a rest refl (both_right (row_sound n b) (all_sound (suc n) (front ++ (a ∷ rest))) (ap (all_sound n) (sym e) ∙ h))

-- Words ----------------------------------------------------------------------------------------------------------------------------------------------

unfoldable any_same : List ℕ → List (List ℕ) → Bool
any_same b [] = false
any_same b (w ∷ ws) = either (same w b) (any_same b ws)

value_there : (vs : Values) (t : Word) → is_there (find_value vs t) ≡ any_same t.bytes (words_of vs)
unfolding find_value alike any_same words_of is_there
value_there no_value t = refl
value_there (value w e us vs) t = by (same w.bytes t.bytes) (value_there vs t)
  where
    by : (b : Bool) → is_there (find_value vs t) ≡ any_same t.bytes (words_of vs)
        → is_there (pick b (some (record { word = w; number = e; definitions = us })) (find_value vs t)) ≡ either b (any_same t.bytes (words_of vs))
    by true h = refl
    by false h = h

word_there : (n a z : ℕ) (b : List ℕ) → z ≡ a + n → is_word section words_written a z b ≡ any_same b (words_from n a)
unfolding is_word find_word any_same words_from
word_there zero a z b e = ap is_found (find_end (λ k. same (part_of section (get_or words_written (k * 2 + 0) 0) (get_or words_written (k * 2 + 1) 0)) b) z a (omega (arith, e)))
word_there (suc n) a z b e =
    by (same (part_of section (get_or words_written (a * 2 + 0) 0) (get_or words_written (a * 2 + 1) 0)) b) refl
    (word_there n (a + 1) z b (omega (arith, e)))
  where
    by : (r : Bool) → same (part_of section (get_or words_written (a * 2 + 0) 0) (get_or words_written (a * 2 + 1) 0)) b ≡ r
        → is_found (find_word section words_written z b (a + 1)) ≡ any_same b (words_from n (a + 1))
        → is_found (find_word section words_written z b a) ≡ either r (any_same b (words_from n (a + 1)))
    by true h ih = ap is_found (find_stop (λ k. same (part_of section (get_or words_written (k * 2 + 0) 0) (get_or words_written (k * 2 + 1) 0)) b) z a (omega (arith, e)) h)
    by false h ih = ap is_found (find_more (λ k. same (part_of section (get_or words_written (k * 2 + 0) 0) (get_or words_written (k * 2 + 1) 0)) b) z a (omega (arith, e)) h) ∙ ih

same_lists : (a b : List (List ℕ)) → same_words a b ≡ true → a ≡ b
unfolding same_words
same_lists [] [] h = refl
same_lists [] (y ∷ b) h = absurd (false≢true h)
same_lists (x ∷ a) [] h = absurd (false≢true h)
same_lists (x ∷ a) (y ∷ b) h = ap₂ (λ (z : List ℕ) (l : List (List ℕ)). z ∷ l) (same_equal x y (both_left (same x y) (same_words a b) h)) (same_lists a b (both_right (same x y) (same_words a b) h))

words_long : (n a : ℕ) → length (words_from n a) ≡ n
unfolding words_from
words_long zero a = refl
words_long (suc n) a = ap suc (words_long n (a + 1))

listed_by : (vs : Values) (c d : ℕ) → length (words_of vs) ≡ d - c → c ≤ d → has_list vs ≡ not (eqb c d)
unfolding has_list words_of
listed_by no_value c d e h = let z : c ≡ d = omega (arith, e, h) in sym (ap not (eq-eqb c d z))
listed_by (value w n us vs) c d e h = sym (ap not (ne_eqb c d (λ z. omega (arith, e, z))))

-- Ranges ---------------------------------------------------------------------------------------------------------------------------------------------

or_none : (b : Bool) → either b false ≡ b
or_none true = refl
or_none false = refl

module _ (t u : Word) (e : t.number ≡ one) (h : u.number ≡ two) where
  among_is : (n : Num) → among_numbers n (t ∷ (u ∷ [])) ≡ one_or_two n
  unfolding among_numbers one_or_two
  among_is n = ap₂ (λ (a b : Num). either (equal n a) (either (equal n b) false)) e h ∙ ap (either (equal n one)) (or_none (equal n two))

  all_are : (ws : List Word) → all_in (one_of (t ∷ (u ∷ []))) ws ≡ all_one_or_two ws
  unfolding all_in in_bounds all_one_or_two
  all_are [] = refl
  all_are (w ∷ ws) = ap₂ both (among_is w.number) (all_are ws)

  one_next : among_numbers (next t.number) (t ∷ (u ∷ [])) ≡ true
  unfolding next one_or_two equal num_at_most
  one_next = ap (λ (n : Num). among_numbers (next n) (t ∷ (u ∷ []))) e ∙ among_is (next one)

  two_next : among_numbers (next u.number) (t ∷ (u ∷ [])) ≡ false
  unfolding next one_or_two equal num_at_most
  two_next = ap (λ (n : Num). among_numbers (next n) (t ∷ (u ∷ []))) h ∙ among_is (next two)

  -- A number that is 1 or 2 is at most 2.
  low_is : (n : Num) → one_or_two n ≡ true → num_at_most n two ≡ true
  unfolding one_or_two num_at_most
  low_is n k = by (equal n one) (equal n two) refl refl k
    where
      by : (a b : Bool) → equal n one ≡ a → equal n two ≡ b → either a b ≡ true → num_at_most n two ≡ true
      by true b p q k = ap (λ (m : Num). num_at_most m two) (equal_same n one p)
      by false true p q k = ap (λ (m : Num). num_at_most m two) (equal_same n two q)
      by false false p q k = absurd (false≢true k)

  from_to_is : (low high : Num) → spans (one_of (t ∷ (u ∷ []))) low high ≡ both (one_or_two low) (num_at_most high two)
  unfolding spans followed
  from_to_is low high =
      ap (λ (b : Bool). both b (followed low high (t ∷ (u ∷ [])) (t ∷ (u ∷ [])))) (among_is low)
      ∙ by (one_or_two low) refl
    where
      last : (x k : Bool) → both (either x true) (both (either (not (both true (not k))) false) true) ≡ k
      last true true = refl
      last true false = refl
      last false true = refl
      last false false = refl

      by : (b : Bool) → one_or_two low ≡ b → both b (followed low high (t ∷ (u ∷ [])) (t ∷ (u ∷ []))) ≡ both b (num_at_most high two)
      by false k = refl
      by true k =
          ap₂ (λ (a b : Bool). both (either (not (both (num_at_most low t.number) (not (num_at_most high t.number)))) a)
          (both (either (not (both (num_at_most low u.number) (not (num_at_most high u.number)))) b) true)) one_next two_next
          ∙ ap (λ (n : Num). both (either (not (both (num_at_most low t.number) (not (num_at_most high t.number)))) true)
          (both (either (not (both (num_at_most low n) (not (num_at_most high n)))) false) true)) h
          ∙ ap (λ (b : Bool). both (either (not (both (num_at_most low t.number) (not (num_at_most high t.number)))) true)
          (both (either (not (both b (not (num_at_most high two)))) false) true)) (low_is low k)
          ∙ last (not (both (num_at_most low t.number) (not (num_at_most high t.number)))) (num_at_most high two)

  restricted : (i : Integer) → within i (one_of (t ∷ (u ∷ []))) no_bounds ≡ false → (c : Bounds) → within i (one_of (t ∷ (u ∷ []))) c ≡ within_one_two c
  unfolding within within_one_two
  restricted i k no_bounds = k
  restricted i k (from_to a b) = from_to_is a.number b.number
  restricted i k (one_of ws) = all_are ws

free_within : (k : Integer) (c : Bounds) → within k no_bounds c ≡ true
unfolding within spans all_in in_bounds
free_within k no_bounds = refl
free_within k (from_to a b) = refl
free_within k (one_of ts) = all_free ts
  where
    all_free : (ws : List Word) → all_in no_bounds ws ≡ true
    all_free [] = refl
    all_free (w ∷ ws) = all_free ws

-- What the bounds of an attribute are, by the cell c.
record Bounded (c : ℕ) (d : Definition) : Type 0 where
  free : c ≡ 0 → (k : Integer) (b : Bounds) → within k d.bounds b ≡ true
  restricted_to : (c ≡ 0 → ⊥) → Restricted d

one_two_is : (ts : List Word) → one_two ts ≡ true → {R : Type 0} → ((t u : Word) → ts ≡ t ∷ (u ∷ []) → t.number ≡ one → u.number ≡ two → R) → R
unfolding one_two
one_two_is [] h f = absurd (false≢true h)
one_two_is (t ∷ []) h f = absurd (false≢true h)
one_two_is (t ∷ (u ∷ [])) h f =
    f t u refl (equal_same t.number one (both_left (equal t.number one) (equal u.number two) h)) (equal_same u.number two (both_right (equal t.number one) (equal u.number two) h))
one_two_is (t ∷ (u ∷ (v ∷ vs))) h f = absurd (false≢true h)

wider_all : (d : Definition) (ts : List Word) (t u : Word) (y : AttributeType) → d.type ≡ y → d.bounds ≡ one_of ts → ts ≡ t ∷ (u ∷ []) → t.number ≡ one → u.number ≡ two
    → all_wider y (one_of ts) ≡ true → Restricted d
unfolding all_wider
wider_all d ts t u (integer i) p q r e h k = record {
  width = i;
  type = p;
  within_is = λ c.
      ap (λ (b : Bounds). within i b c) (q ∙ ap one_of r)
      ∙ restricted t u e h i (sym (ap (λ (l : List Word). within i (one_of l) no_bounds) r) ∙ is_false (within i (one_of ts) no_bounds) k) c;
}
wider_all d ts t u string p q r e h k = absurd (false≢true k)
wider_all d ts t u boolean p q r e h k = absurd (false≢true k)
wider_all d ts t u enum p q r e h k = absurd (false≢true k)
wider_all d ts t u float p q r e h k = absurd (false≢true k)
wider_all d ts t u (reference y) p q r e h k = absurd (false≢true k)

bounded : (c : ℕ) (d : Definition) → bounds_sound c d.type d.bounds ≡ true → Bounded c d
unfolding bounds_sound
bounded c d h = by d.bounds refl h
  where
    by : (b : Bounds) → d.bounds ≡ b → bounds_sound c d.type b ≡ true → Bounded c d
    by no_bounds e h = record { free = λ z k b. ap (λ (y : Bounds). within k y b) e ∙ free_within k b; restricted_to = λ z. absurd (z (eqb-true c 0 h)) }
    by (from_to a b) e h = absurd (false≢true h)
    by (one_of ts) e h =
        let n = is_false (eqb c 0) (both_left (not (eqb c 0)) (both (one_two ts) (all_wider d.type (one_of ts))) h) in
        let r = both_right (not (eqb c 0)) (both (one_two ts) (all_wider d.type (one_of ts))) h in
        record {
          free = λ z. absurd (eqb-false c 0 n z);
          restricted_to = λ z.
              one_two_is ts (both_left (one_two ts) (all_wider d.type (one_of ts)) r)
              (λ t u p q o. wider_all d ts t u d.type refl e p q o (both_right (one_two ts) (all_wider d.type (one_of ts)) r));
        }

path_is : (i : ℕ) (ps : List Step) → path_sound i ps ≡ true → PathIs section rows_written i ps
unfolding path_sound cell part_of_lem
path_is i [] h = no_step (eqb-true _ 0 h)
path_is i (p ∷ []) h =
    let n = not (eqb (cell i 8) 0) in
    let a = same p.attribute.bytes (part_of_lem (cell i 7) (cell i 8)) in
    let b = same p.value.bytes (part_of_lem (cell i 9) (cell i 10)) in
    let r = both_right n (both a b) h in
    one_step (λ z. eqb-false (cell i 8) 0 (is_false (eqb (cell i 8) 0) (both_left n (both a b) h)) z) (same_equal _ _ (both_left a b r)) (same_equal _ _ (both_right a b r))
path_is i (p ∷ (q ∷ ps)) h = absurd (false≢true h)

-- One by one.
all_six : (a b c d e f : Bool) → both a (both b (both c (both d (both e f)))) ≡ true → (a ≡ true) × (b ≡ true) × (c ≡ true) × (d ≡ true) × (e ≡ true) × (f ≡ true)
all_six true true true true true f h = (refl, refl, refl, refl, refl, h)
all_six true true true true false f h = absurd (false≢true h)
all_six true true true false e f h = absurd (false≢true h)
all_six true true false d e f h = absurd (false≢true h)
all_six true false c d e f h = absurd (false≢true h)
all_six false b c d e f h = absurd (false≢true h)

row_is : (i : ℕ) (a : Asked) → row_sound i a ≡ true → RowIs section rows_written words_written i a
unfolding row_sound cells_sound cell part_of_lem
row_is i a h =
    let r = all_six (cells_sound i a) (path_sound i a.path) (bounds_sound (cell i 11) a.wanted.definition.type a.wanted.definition.bounds) (leb (cell i 12) (cell i 13))
    (same_words (words_of a.wanted.values) (words_from (cell i 13 - cell i 12) (cell i 12))) (eqb a.wanted.definition.row i) h in
    let c = all_six (eqb (cell i 0) (kind_number a.kind)) (same a.wanted.definition.name.bytes (part_of_lem (cell i 1) (cell i 2))) (eqb (cell i 3) (type_code a.wanted.definition.type))
    (eqb (cell i 4) (bit a.wanted.definition.list)) (eqb (cell i 5) (bit a.wanted.definition.auto)) (eqb (cell i 6) (bit (has_default a.wanted.definition))) r.0 in
    let b = bounded (cell i 11) a.wanted.definition r.2 in
    let l : cell i 12 ≤ cell i 13 = leb-true (cell i 12) (cell i 13) r.3 in
    let w = same_lists (words_of a.wanted.values) (words_from (cell i 13 - cell i 12) (cell i 12)) r.4 in
    record {
      kind = eqb-true (cell i 0) (kind_number a.kind) c.0;
      name = same_equal a.wanted.definition.name.bytes (part_of_lem (cell i 1) (cell i 2)) c.1;
      type = eqb-true (cell i 3) (type_code a.wanted.definition.type) c.2;
      list = eqb-true (cell i 4) (bit a.wanted.definition.list) c.3;
      auto = eqb-true (cell i 5) (bit a.wanted.definition.auto) c.4;
      default = eqb-true (cell i 6) (bit (has_default a.wanted.definition)) c.5;
      path = path_is i a.path r.1;
      free = b.free;
      restricted = b.restricted_to;
      words = λ t. word_there (cell i 13 - cell i 12) (cell i 12) (cell i 13) t.bytes (omega (arith, l)) ∙ ap (any_same t.bytes) (sym w) ∙ sym (value_there a.wanted.values t);
      listed = listed_by a.wanted.values (cell i 12) (cell i 13) (ap length w ∙ words_long (cell i 13 - cell i 12) (cell i 12)) l;
      number = eqb-true a.wanted.definition.row i r.5;
    }

pub rows_are : RowsAre section rows_written words_written
rows_are i a n =
    let e : all_sound 0 (asked standard) ≡ true = ap (λ (gs : List Spec). all_sound 0 (asked gs)) is_standard ∙ written_sound in
    let z : 0 + length n.front ≡ i = let p = n.place in omega (arith, p) in
    row_is i a (ap (λ (k : ℕ). row_sound k a) (sym z) ∙ sound_at (asked standard) 0 n.front a n.rest n.whole e)

-- The numbers that the standard lists are proper.
pub listed_proper : (i : ℕ) (a : Asked) → Nth (asked standard) i a → ListedProper a.wanted.definition.bounds
unfolding row_sound bounds_sound
listed_proper i a n =
    let e : all_sound 0 (asked standard) ≡ true = ap (λ (gs : List Spec). all_sound 0 (asked gs)) is_standard ∙ written_sound in
    let z : 0 + length n.front ≡ i = let p = n.place in omega (arith, p) in
    let h : row_sound i a ≡ true = ap (λ (k : ℕ). row_sound k a) (sym z) ∙ sound_at (asked standard) 0 n.front a n.rest n.whole e in
    let r = all_six (cells_sound i a) (path_sound i a.path) (bounds_sound (cell i 11) a.wanted.definition.type a.wanted.definition.bounds) (leb (cell i 12) (cell i 13))
    (same_words (words_of a.wanted.values) (words_from (cell i 13 - cell i 12) (cell i 12))) (eqb a.wanted.definition.row i) h in
    by (cell i 11) a.wanted.definition.type a.wanted.definition.bounds r.2
  where
    proper : (w : Word) (m : ℕ) → w.number ≡ record { negative = false; amount = m } → Proper w.number
    proper w m e h = absurd (false≢true (ap (λ (n : Num). n.negative) (sym e) ∙ h))

    by : (c : ℕ) (y : AttributeType) (b : Bounds) → bounds_sound c y b ≡ true → ListedProper b
    by c y no_bounds h = tt
    by c y (from_to p q) h = tt
    by c y (one_of ts) h =
        let r = both_right (not (eqb c 0)) (both (one_two ts) (all_wider y (one_of ts))) h in
        one_two_is ts (both_left (one_two ts) (all_wider y (one_of ts)) r)
        (λ t u e p q. subst AllProper (sym e) (proper t 1 p, (proper u 2 q, tt)))
