-- Resolved values that are the same but places, the stated mark and the words of numbers. Assumes nothing.
use mathlib.Core.Path.{◌≡◌, refl, sym, ◌∙◌, ap, ap₂}
use mathlib.Core.List.{List, [], ◌∷◌, ◌++◌}
use mathlib.Core.Bool.{true, false}
use Prim.Native.Nat.{ℕ, suc, ◌+◌}
use Rattle.token.specs.Words.{bytes_of}
use Rattle.meaning.specs.Syntax.{Num, Word, absent}
use Rattle.meaning.specs.Actions.{zero_num}
use Rattle.meaning.specs.Resolving.{Value, number, truth, auto, string, float, enumerator, object, Taken, Resolved, end, resolved, Owner, of_object, of_value, ValueRow, value_row, how_many_values, value_rows, all_value_rows, how_many_in_all}
use Rattle.meaning.specs.Normal.{written, closed, lines}
use Rattle.meaning.specs.Places.{each, unplaced_value_row}
use Rattle.meaning.proofs.Unplaced.{each_append}
use Rattle.reads_back.specs.ReadsBack.{bare_value_row, AllStated}

-- The float by which a value counts: that of its word, where it is a float.
unfoldable pub float_in : Value → Word → Num
float_in (number n) t = zero_num
float_in (truth b) t = zero_num
float_in auto t = zero_num
float_in string t = zero_num
float_in float t = t.float
float_in (enumerator e) t = zero_num
float_in (object o) t = zero_num

-- The same definition and value, written alike, a float of the same amount; the first is stated.
pub record SameTaken (t u : Taken) : Type 0 where
  pub states : t.stated ≡ true
  pub definition : t.definition ≡ u.definition
  pub value : t.value ≡ u.value
  pub writes : written t.value t.word ≡ written u.value u.word
  pub floats : float_in t.value t.word ≡ float_in u.value u.word

-- The same values in the same order, with the same under them.
pub data Same : Resolved → Resolved → Type 0 where
  same_end : Same end end
  same_more : {t u : Taken} {a b c d : Resolved} → SameTaken t u → Same a b → Same c d → Same (resolved t a c) (resolved u b d)

-- Their number, lines and rows.
same_many : {a b : Resolved} → Same a b → how_many_values a ≡ how_many_values b
unfolding how_many_values
same_many same_end = refl
same_many (same_more h p q) = ap₂ (λ a b. suc (a + b)) (same_many p) (same_many q)

same_closed : {a b : Resolved} (l : List ℕ) → Same a b → closed a l ≡ closed b l
unfolding closed
same_closed l same_end = refl
same_closed l (same_more h p q) = refl

-- They have the same lines.
pub same_lines : {a b : Resolved} → Same a b → lines a ≡ lines b
unfolding lines
same_lines same_end = refl
same_lines (same_more {t} {u} {a} {b} {c} {d} h p q) =
    ap₂ (λ x l. x.name.bytes ++ (bytes_of " = " ++ l)) h.definition
    (ap₂ ◌++◌ h.writes (ap₂ ◌++◌ (same_closed (lines a) p ∙ ap (closed b) (same_lines p)) (same_lines q)))

same_row : {t u : Taken} (o : Owner) → SameTaken t u → bare_value_row (value_row t o) ≡ bare_value_row (value_row u o)
unfolding bare_value_row value_row unplaced_value_row absent
same_row o h = ap₂ (λ d v. record { definition = d.row; owner = o; value = v; stated = false; word = absent }) h.definition h.value

same_rows : {a b : Resolved} (n : ℕ) (o : Owner) → Same a b → each bare_value_row (value_rows a n o) ≡ each bare_value_row (value_rows b n o)
unfolding value_rows each
same_rows n o same_end = refl
same_rows n o (same_more {t} {u} {a} {b} {c} {d} h p q) =
    ap₂ ◌∷◌ (same_row o h)
    (each_append bare_value_row (value_rows a (suc n) (of_value n)) (value_rows c (suc n + how_many_values a) o)
    ∙ ap₂ ◌++◌ (same_rows (suc n) (of_value n) p)
    (ap (λ k. each bare_value_row (value_rows c (suc n + k) o)) (same_many p) ∙ same_rows (suc n + how_many_values b) o q)
    ∙ sym (each_append bare_value_row (value_rows b (suc n) (of_value n)) (value_rows d (suc n + how_many_values b) o)))

-- Objects' resolved values, one by one.
pub data SameAll : List Resolved → List Resolved → Type 0 where
  none_same : SameAll [] []
  more_same : {a b : Resolved} {rs qs : List Resolved} → Same a b → SameAll rs qs → SameAll (a ∷ rs) (b ∷ qs)

-- They are equally many.
pub all_same_many : {rs qs : List Resolved} → SameAll rs qs → how_many_in_all rs ≡ how_many_in_all qs
unfolding how_many_in_all
all_same_many none_same = refl
all_same_many (more_same p q) = ap₂ ◌+◌ (same_many p) (all_same_many q)

-- They have the same rows, but places and the stated mark.
pub all_same_rows : {rs qs : List Resolved} (o n : ℕ) → SameAll rs qs → each bare_value_row (all_value_rows rs o n) ≡ each bare_value_row (all_value_rows qs o n)
unfolding all_value_rows each
all_same_rows o n none_same = refl
all_same_rows o n (more_same {a} {b} {rs} {qs} p q) =
    each_append bare_value_row (value_rows a n (of_object o)) (all_value_rows rs (suc o) (n + how_many_values a))
    ∙ ap₂ ◌++◌ (same_rows n (of_object o) p)
    (ap (λ k. each bare_value_row (all_value_rows rs (suc o) (n + k))) (same_many p) ∙ all_same_rows (suc o) (n + how_many_values b) q)
    ∙ sym (each_append bare_value_row (value_rows b n (of_object o)) (all_value_rows qs (suc o) (n + how_many_values b)))

-- The first are stated -----------------------------------------------------------------------------------------------------------------------

stated_append : (a b : List ValueRow) → AllStated a → AllStated b → AllStated (a ++ b)
stated_append [] b p q = q
stated_append (r ∷ a) b p q = (p.0, stated_append a b p.1 q)

same_stated : {a b : Resolved} (n : ℕ) (o : Owner) → Same a b → AllStated (value_rows a n o)
unfolding value_rows value_row
same_stated n o same_end = tt
same_stated n o (same_more {a} {c} h p q) = (
  h.states,
  stated_append (value_rows a (suc n) (of_value n)) (value_rows c (suc n + how_many_values a) o) (same_stated (suc n) (of_value n) p)
      (same_stated (suc n + how_many_values a) o q),
)

pub all_same_stated : {rs qs : List Resolved} (o n : ℕ) → SameAll rs qs → AllStated (all_value_rows rs o n)
unfolding all_value_rows
all_same_stated o n none_same = tt
all_same_stated o n (more_same {a} {rs} p q) =
    stated_append (value_rows a n (of_object o)) (all_value_rows rs (suc o) (n + how_many_values a)) (same_stated n (of_object o) p)
    (all_same_stated (suc o) (n + how_many_values a) q)

-- With places or without.
pub stated_unplaced : (l : List ValueRow) → AllStated l → AllStated (each unplaced_value_row l)
unfolding each unplaced_value_row
stated_unplaced [] h = tt
stated_unplaced (r ∷ l) h = (h.0, stated_unplaced l h.1)

pub stated_placed : (l : List ValueRow) → AllStated (each unplaced_value_row l) → AllStated l
unfolding each unplaced_value_row
stated_placed [] h = tt
stated_placed (r ∷ l) h = (h.0, stated_placed l h.1)
