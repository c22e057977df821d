-- What must be stated: the marks of the rows, and what a block lacks by them. Assumes nothing.
use mathlib.Core.Path.{◌≡◌, refl, sym, ◌∙◌, ap, subst}
use mathlib.Core.List.{List, []}
use mathlib.Core.Bool.{Bool, true, false, not, false≢true}
use mathlib.Core.Option.{Option, none, some}
use Prim.Native.Nat.{ℕ, ◌+◌, ◌*◌, ◌≤◌, ◌<◌}
use native.Mathlib.Omega.{arith}
use native.Mathlib.Decide.{ℕ_discrete, dec_lt}
use lib.ListN.{length, get_or, set, drop, get_or-append}
use lib.Seq.{get_or-set_same, get_or-set_other, sets, sets-eq}
use lib.Dec.{eqb}
use borrow.Author.Tests.{eq-eqb, eqb-true}
use Rattle.scopes.proofs.Rooms.{nth_of}
use Rattle.token.specs.Find.{both, either, bit}
use Rattle.grammar.specs.Grammar.{word}
use Rattle.std.specs.Prelude.{Some, None}
use Rattle.rows.specs.Search.{has_key, find_row}
use Rattle.rows.proofs.Searches.{found_first, nothing_none}
use Rattle.meaning.specs.Syntax.{Word, Definitions, no_more, define, Defined, Statements, done, File, statements_in}
use Rattle.meaning.specs.Words.{among}
use Rattle.meaning.specs.Scopes.{Under, find_value, definitions_or, under, names}
use Rattle.meaning.specs.Judging.{taken, lacking, lacks, lacks_under}
use Rattle.layout.specs.Kept.{spec_entries, statement_rows}
use Rattle.amounts.specs.Known.{Known}
use Rattle.amounts.proofs.Frames.{known_marked}
use Rattle.blocks.specs.Blocks.{IsStated}
use Rattle.scopes.specs.Situations.{HasDefinition, this_definition, later_definition, under_value}
use Rattle.scopes.specs.Given.{Given, Attribute}
use Rattle.scopes.specs.Promises.{place_found, FindsWord}
use Rattle.scopes.proofs.Descents.{found_value}
use Rattle.sorting.specs.Sorted.{among_cells, Tells}
use Rattle.lookups.specs.Owners.{Owners}
use Rattle.judging.specs.Promises.{needed, Marked, Owned, lack, RowLacks, LacksRow, Lacks, Needs}
use Rattle.scopes.specs.declared.Sizes.{Sizes}
use Rattle.lookups.proofs.Standings.{file_stands}
use Rattle.lookups.proofs.Attributes.{read_at, AttributeRow, under_cell, stands_below, reached, known, name_at, value_below, none_given, not_taken, default_word, nothing_at}
use Rattle.judging.proofs.Standings.{in_scope}
use Rattle.token.proofs.Bytes.{both_false}
use Rattle.meaning.proofs.Unders.{lacks_there}

-- Some and none ----------------------------------------------------------------------------------------------------------------------------

pub has_lacks : {ds : Definitions} {x : Defined} (ns : List Word) → HasDefinition ds x → lack x ns ≡ true → lacks ds ns ≡ true
unfolding lacks lack needed
has_lacks ns (this_definition {d} {vs} {ds}) h = ap (λ b. either b (lacks ds ns)) h
has_lacks ns (later_definition {d} {vs} {ds} p) h =
    go (both (not (among d.name ns)) (lacking (taken d.default) d.list (λ t. lacks_under vs t))) (has_lacks ns p h)
  where
    go : (b : Bool) → lacks ds ns ≡ true → either b (lacks ds ns) ≡ true
    go true e = refl
    go false e = e

pub none_lacks : (ds : Definitions) (ns : List Word) → ((x : Defined) → HasDefinition ds x → lack x ns ≡ false) → lacks ds ns ≡ false
unfolding lacks lack needed
none_lacks no_more ns g = refl
none_lacks (define d vs ds) ns g =
    ap (λ b. either b (lacks ds ns)) (g (record { definition = d; values = vs }) this_definition) ∙ none_lacks ds ns (λ x h. g x (later_definition h))

-- Rows -------------------------------------------------------------------------------------------------------------------------------------

bit_zero : (b : Bool) → bit b ≡ 0 → b ≡ false
unfolding bit
bit_zero true h = absurd (omega arith)
bit_zero false h = refl

bit_more : (b : Bool) → (bit b ≡ 0 → ⊥) → b ≡ true
unfolding bit
bit_more true h = refl
bit_more false h = absurd (h refl)

both_true : (b : Bool) → both b true ≡ b
both_true true = refl
both_true false = refl

module _ {s d st ms : List ℕ} {n key m e : ℕ} {f : File} {u : Word} {ds : Definitions} {ss : Statements} (o : Owned s d st ms n key m e f u ds ss) (i : ℕ) where
  own_row : {x : Defined} → HasDefinition ds x → x.definition.row ≡ i → Attribute f i x
  own_row h r = record { under = u; scope = ds; stands = o.stands; has = h; row = r }

  -- The row stands under another word.
  pub row_other : (get_or d (i * 19 + 0) 0 ≡ key → ⊥) → RowLacks ds (names ss) i false
  unfolding own_row
  row_other g = record {
    own = λ x h r. absurd (g ((known o.given.tables (own_row h r)).under_place ∙ o.place));
    some = λ z. absurd (false≢true z);
  }

  -- It does not need to be stated.
  pub row_unmarked : i < n → get_or ms i 0 ≡ 0 → RowLacks ds (names ss) i false
  unfolding lack
  row_unmarked h g = record {
    own = λ x p r.
        sym (ap (both (not (among x.definition.name (names ss)))) (bit_zero (needed x) (sym (o.marked i x (own_row p r) h) ∙ g)) ∙ both_false (not (among x.definition.name (names ss))));
    some = λ z. absurd (false≢true z);
  }

  -- It does, and is one of the scope.
  pub row_marked : (b : Bool) → i < n → get_or d (i * 19 + 0) 0 ≡ key → (get_or ms i 0 ≡ 0 → ⊥)
      → IsStated s st m e (get_or d (i * 19 + 2) 0) (get_or d (i * 19 + 3) 0) b → RowLacks ds (names ss) i (not b)
  unfolding lack
  row_marked b h k g t =
      let T = o.given.tables in
      let l₁ = o.most in
      let l₂ = T.definitions in
      let w = nth_of (spec_entries f.specs) i (omega arith) in
      record {
        own = λ x q r.
            let z : b ≡ among x.definition.name (names ss) = t ss x.definition.name o.block (name_at T (own_row q r) (get_or d (i * 19 + 2) 0) (get_or d (i * 19 + 3) 0) refl refl) in
            let j : needed x ≡ true = bit_more (needed x) (λ q'. g (o.marked i x (own_row q r) h ∙ q')) in
            ap not z ∙ sym (ap (both (not (among x.definition.name (names ss)))) j ∙ both_true (not (among x.definition.name (names ss))));
        some = λ q. in_scope T.situation o.stands w.nth (sym (under_cell T w.nth) ∙ k ∙ sym o.place);
      }

-- The loop over the rows: none of those passed lacks its statement.
abbrev pub Passed : (s d st ms : List ℕ) → (n key m e i : ℕ) → Type 0
Passed s d st ms n key m e i =
    (f : File) (u : Word) (ds : Definitions) (ss : Statements) → Owned s d st ms n key m e f u ds ss
    → (x : Defined) → HasDefinition ds x → x.definition.row < i → lack x (names ss) ≡ false

no_key : (d : List ℕ) (i key : ℕ) → has_key d (i * 19) 0 key ≡ false → get_or d (i * 19 + 0) 0 ≡ key → ⊥
unfolding has_key
no_key d i key h e = false≢true (sym h ∙ eq-eqb (get_or d (i * 19 + 0) 0) key e)

has_key_lem : (d : List ℕ) (i key : ℕ) → has_key d (i * 19) 0 key ≡ true → get_or d (i * 19 + 0) 0 ≡ key
unfolding has_key
has_key_lem d i key h = eqb-true (get_or d (i * 19 + 0) 0) key h

-- The row found is not before, and one of the first n.
module _ (d : List ℕ) (n key i j : ℕ) (g : find_row d 19 n 0 key i ≡ Some j) where
  pub found_low : i ≤ j
  unfolding find_row
  found_low = (found_first (λ k. has_key d (k * 19) 0 key) n i j g).low

  pub found_high : j < n
  unfolding find_row
  found_high = (found_first (λ k. has_key d (k * 19) 0 key) n i j g).high

module _ (s d st ms : List ℕ) (n key m e : ℕ) where
  pub passed_start : Passed s d st ms n key m e 0
  passed_start f u ds ss o x h k = absurd (omega arith)

  -- The rows up to the next one under the word.
  passed_on : (i j : ℕ) → ((k : ℕ) → i ≤ k → k < j → has_key d (k * 19) 0 key ≡ false) → Passed s d st ms n key m e i → Passed s d st ms n key m e j
  passed_on i j g p f u ds ss o x q k = go (dec_lt x.definition.row i)
    where
      go : Dec (x.definition.row < i) → lack x (names ss) ≡ false
      go (yes r) = p f u ds ss o x q r
      go (no r) = sym ((row_other o x.definition.row (no_key d x.definition.row key (g x.definition.row (omega (arith, r)) k))).own x q refl)

  passed_one : (i : ℕ) → i < n → get_or d (i * 19 + 0) 0 ≡ key → LacksRow s d st ms i m e false → Passed s d st ms n key m e i → Passed s d st ms n key m e (i + 1)
  passed_one i h a l p f u ds ss o x q k = go (ℕ_discrete x.definition.row i)
    where
      go : Dec (x.definition.row ≡ i) → lack x (names ss) ≡ false
      go (yes r) = sym ((l n key f u ds ss o h a).own x q r)
      go (no r) = p f u ds ss o x q (omega (arith, r, k))

  pub passed_end : (i : ℕ) → n ≤ i → Passed s d st ms n key m e i → Lacks s d st ms n key m e false
  passed_end i h p f u ds ss o b = sym (none_lacks ds (names ss) (λ x q. let k = b x q in p f u ds ss o x q (omega arith)))

  pub passed_stop : (i j : ℕ) → find_row d 19 n 0 key i ≡ Some j → LacksRow s d st ms j m e true → Lacks s d st ms n key m e true
  unfolding find_row
  passed_stop i j g l f u ds ss o b =
      let a = found_first (λ k. has_key d (k * 19) 0 key) n i j g in
      let r = l n key f u ds ss o a.high (has_key_lem d j key a.holds) in
      let y = r.some refl in
      sym (has_lacks (names ss) y.has (sym (r.own y.defined y.has y.row)))

  pub passed_more : (i j : ℕ) → find_row d 19 n 0 key i ≡ Some j → LacksRow s d st ms j m e false → Passed s d st ms n key m e i → Passed s d st ms n key m e (j + 1)
  unfolding find_row
  passed_more i j g l p =
      let a = found_first (λ k. has_key d (k * 19) 0 key) n i j g in
      passed_one j a.high (has_key_lem d j key a.holds) l (passed_on i j a.fails p)

  -- There is none left.
  pub passed_none : (i : ℕ) → find_row d 19 n 0 key i ≡ None → Passed s d st ms n key m e i → Lacks s d st ms n key m e false
  unfolding find_row
  passed_none i g p = passed_end n (omega arith) (passed_on i n (nothing_none (λ k. has_key d (k * 19) 0 key) n i g) p)

-- Nothing that must be stated stands under the word.
pub unowned : (s d st ms u : List ℕ) (n key m e : ℕ) → Owners d ms u → Tells u key false → Lacks s d st ms n key m e false
unfolding Tells own_row
unowned s d st ms u n key m e w t f v ds ss o b =
    sym (none_lacks ds (names ss) (λ x q.
    let i = x.definition.row in
    let T = o.given.tables in
    let h : i < n = b x q in
    let l₁ = o.most in
    let l₂ = T.definitions_fit in
    let under : get_or d (i * 19 + 0) 0 ≡ key = (known T (own_row o i q refl)).under_place ∙ o.place in
    go i x q h (omega (arith, h, l₁, l₂)) under (ℕ_discrete (get_or ms i 0) 0)))
  where
    go : (i : ℕ) (x : Defined) → HasDefinition ds x → x.definition.row < n → x.definition.row < 512 → get_or d (x.definition.row * 19 + 0) 0 ≡ key
        → Dec (get_or ms x.definition.row 0 ≡ 0) → lack x (names ss) ≡ false
    go i x q h r c (yes g) = sym ((row_unmarked o x.definition.row h g).own x q refl)
    go i x q h r c (no g) = absurd (false≢true (t w.rising ∙ ap (λ k. among_cells k u) (sym c) ∙ w.has x.definition.row r g))

-- Attributes that are not stated -----------------------------------------------------------------------------------------------------------

-- It takes no default: it is single.
needs_none : (x : Defined) → taken x.definition.default ≡ none → needed x ≡ not x.definition.list
unfolding needed lacking
needs_none x h = ap (λ o. lacking o x.definition.list (λ t. lacks_under x.values t)) h

-- It takes its default: what is under that.
needs_default : (x : Defined) (t : Word) → taken x.definition.default ≡ some t → needed x ≡ lacks (under x.values t) []
unfolding needed lacking
needs_default x t h = ap (λ o. lacking o x.definition.list (λ w. lacks_under x.values w)) h ∙ lacks_there x.values t

-- The value that an attribute takes by default, and the place of its word in the attribute's list.
pub record Taking (x : Defined) (key : ℕ) : Type 0 where
  pub word_of : Word
  pub takes : taken x.definition.default ≡ some word_of
  pub key_is : key ≡ place_found (find_value x.values word_of)

bit_not : (b : Bool) → bit (eqb (bit b) 0) ≡ bit (not b)
unfolding bit
bit_not true = refl
bit_not false = refl

module _ {s d e o st : List ℕ} {z : Sizes} {f : File} {j : ℕ} {x : Defined} (c : Given s d e o st z f) (a : Attribute f j x) where
  row : AttributeRow s d f a.under j x
  row = known c.tables a

  by_list : taken x.definition.default ≡ none → bit (eqb (get_or d (j * 19 + 6) 0) 0) ≡ bit (needed x)
  by_list h = ap (λ k. bit (eqb k 0)) row.list_mark ∙ bit_not x.definition.list ∙ ap bit (sym (needs_none x h))

  -- No default.
  pub needs_no_size : get_or d (j * 19 + 11) 0 ≡ 0 → bit (eqb (get_or d (j * 19 + 6) 0) 0) ≡ bit (needed x)
  needs_no_size g = by_list (none_given row g)

  -- NO_DEFAULT.
  pub needs_no_default : get_or d (j * 19 + 18) 0 ≡ 4 → bit (eqb (get_or d (j * 19 + 6) 0) 0) ≡ bit (needed x)
  needs_no_default g = by_list (not_taken row g)

  -- What it takes, and the place of the value word that this is.
  pub taking : (at len key : ℕ) → at ≡ get_or d (j * 19 + 10) 0 → len ≡ get_or d (j * 19 + 11) 0 → (len ≡ 0 → ⊥) → (get_or d (j * 19 + 18) 0 ≡ 4 → ⊥)
      → FindsWord s d e z.enumerators j at len key → Taking x key
  taking at len key p l n m w =
      let t = default_word row (λ q. n (l ∙ q)) m in
      let T = c.tables in
      record {
        word_of = t.word;
        takes = t.takes;
        key_is = w f x t.word T.situation T.in_definitions T.in_enumerators row.row_of row.low (reached T x.values)
            (read_at t.in_text (p ∙ t.place) (l ∙ t.length)).bytes;
      }

  -- Nothing is under it.
  pub needs_nothing : {key : ℕ} → Taking x key → key ≡ 0 → 0 ≡ bit (needed x)
  unfolding place_found under definitions_or lacks bit
  needs_nothing t g = go (find_value x.values t.word_of) refl (sym t.key_is ∙ g)
    where
      go : (o : Option Under) → find_value x.values t.word_of ≡ o → place_found o ≡ 0 → 0 ≡ bit (needed x)
      go none p z = sym (ap bit (needs_default x t.word_of t.takes ∙ ap (λ o. lacks (definitions_or o) []) p))
      go (some v) p z = let w = (file_stands c.tables.situation (under_value a.stands a.has (found_value x.values t.word_of p))).0.later in absurd (omega arith)

  -- What is under it lacks something, or nothing.
  pub needs_under : {key : ℕ} (ms : List ℕ) (b : Bool) → Taking x key → (key ≡ 0 → ⊥) → Marked f ms j → Lacks s d st ms j key 0 0 b → bit b ≡ bit (needed x)
  unfolding place_found under definitions_or names statements_in statement_rows
  needs_under {key} ms b t g m l = go (find_value x.values t.word_of) refl t.key_is
    where
      go : (o : Option Under) → find_value x.values t.word_of ≡ o → key ≡ place_found o → bit b ≡ bit (needed x)
      go none p k = absurd (g k)
      go (some v) p k =
          let i = found_value x.values t.word_of p in
          let b₀ = stands_below c.tables a.stands x a.has in
          let r = a.row in
          ap bit
          (l f v.word v.definitions done
          (record {
            enumerator_table = e;
            object_table = o;
            sizes = z;
            given = c;
            most = omega arith;
            marked = m;
            stands = under_value a.stands a.has i;
            place = sym k;
            block = nothing_at c;
          })
          (value_below c.tables.situation a i)
          ∙ sym (needs_default x t.word_of t.takes ∙ ap (λ o. lacks (definitions_or o) []) p))

-- The marks --------------------------------------------------------------------------------------------------------------------------------

pub marks_start : (f : File) (ms : List ℕ) → Marked f ms 0
marks_start f ms j x a k = absurd (omega arith)

pub marks_more : {s d e o st : List ℕ} {z : Sizes} {f : File} (ms : List ℕ) (j m : ℕ) → Given s d e o st z f → j < length ms → Needs s d e st ms z j m → Marked f ms j
    → Marked f (set ms j m) (j + 1)
marks_more {o = o} {f = f} ms j m c l n k i x a h = go (ℕ_discrete i j)
  where
    go : Dec (i ≡ j) → get_or (set ms j m) i 0 ≡ bit (needed x)
    go (yes r) = ap (λ b. get_or (set ms j m) b 0) r ∙ get_or-set_same ms j m 0 l ∙ n o f x c k (subst (λ b. Attribute f b x) r a)
    go (no r) = get_or-set_other ms j i m 0 r ∙ k i x a (omega (arith, r, h))

pub marks_past : (f : File) (ms : List ℕ) (j n : ℕ) → n ≤ j → Marked f ms j → Marked f ms n
marks_past f ms j n l k i x a h = k i x a (omega arith)

-- The marks as the first cells of a table.
marks_put : (f : File) (t ms : List ℕ) (n : ℕ) → length ms ≡ 512 → n ≤ 512 → 512 ≤ length t → Marked f ms n → Marked f (sets t 0 ms) n
marks_put f t ms n l h k m i x a c =
    ap (λ r. get_or r i 0) (sets-eq ms t 0 (omega (arith, l, k)))
    ∙ get_or-append ms (drop (0 + length ms) t) 0 i (omega (arith, l, h, c))
    ∙ m i x a c

-- They leave the numbers of the definitions as they are.
module _ (s d t ms : List ℕ) (k : Known s d t) (l : length ms ≡ 512) (t' : List ℕ) (e : t' ≡ sets t 0 ms) where
  pub table_known : Known s d t'
  table_known = subst (Known s d) (sym e) (known_marked s d t ms (omega (arith, l)) k)

  pub table_marked : (f : File) (n : ℕ) → n ≤ 512 → Marked f ms n → Marked f t' n
  table_marked f n h m =
      let a = k.noted.room in
      let b = k.noted.inside in
      subst (λ r. Marked f r n) (sym e) (marks_put f t ms n l h (omega (arith, a, b)) m)

  pub table_owners : (u : List ℕ) → Owners d ms u → Owners d t' u
  table_owners u o =
      let a = k.noted.room in
      let b = k.noted.inside in
      let cell : (i : ℕ) → i < 512 → get_or t' i 0 ≡ get_or ms i 0 =
      λ i h. ap (λ r. get_or r i 0) (e ∙ sets-eq ms t 0 (omega (arith, l, a, b))) ∙ get_or-append ms (drop (0 + length ms) t) 0 i (omega (arith, l, h)) in
      record { rising = o.rising; has = λ i h g. o.has i h (λ z. g (cell i h ∙ z)) }
