-- The laws of blocks: their first statement, what is in its braces, what comes behind it. Assumes nothing.
use mathlib.Core.Path.{◌≡◌, refl, sym, ◌∙◌, ap, ap₂, subst}
use mathlib.Core.List.{List, [], ◌∷◌, ◌++◌, append_assoc}
use mathlib.Core.Bool.{Bool, true, false, not, false≢true}
use Prim.Native.Nat.{ℕ, suc, ◌+◌, ◌*◌, ◌≤◌, ◌<◌}
use native.Mathlib.Omega.{arith}
use lib.ListN.{length-append, get_or}
use lib.Dec.{ltb, leb, eqb}
use borrow.Author.Tests.{eq-eqb, ne_eqb, lt-ltb, le-ltb, le-leb, ltb-true, leb-true, lt-leb}
use Rattle.meaning.specs.Merging.{then}
use Rattle.token.specs.Find.{pick, both, either}
use Rattle.token.specs.Words.{same}
use Rattle.token.specs.Tokens.{part_of}
use Rattle.token.proofs.Codes.{same_self}
use Rattle.meaning.specs.Syntax.{Word, Statement, Statements, done, state, statements_in}
use Rattle.meaning.specs.Words.{alike, among}
use Rattle.meaning.specs.Scopes.{names}
use Rattle.layout.specs.Kept.{statement_cells, statement_rows}
use Rattle.layout.proofs.Lengths.{length_statements}
use Rattle.rows.specs.Found.{Found}
use Rattle.std.specs.Prelude.{Some, None}
use Rattle.rows.specs.Search.{is_found, row_of}
use Rattle.blocks.specs.Blocks.{WordIn, BraceIn, StatementsIn, none_in, more_in, Block, BlockAt, row_after, first_stated, FindsStated, IsStated, IsBefore}
use Rattle.blocks.proofs.Holding.{cell_held}

-- Rows -------------------------------------------------------------------------------------------------------------------------------------

module _ {rs : List (List ℕ)} {m : ℕ} {x : Statement} {inside rest : Statements} (b : Block rs m (state x inside rest)) where
  -- The row of the first statement.
  pub block_row : rs ≡ b.front ++ (statement_cells x (suc m + statements_in inside) ∷ ((statement_rows inside (suc m) ++ statement_rows rest (suc m + statements_in inside)) ++ b.rest))
  unfolding statement_rows
  block_row = b.whole

  pub block_inside : Block rs (suc m) inside
  unfolding statement_rows
  block_inside =
      let r = statement_cells x (suc m + statements_in inside) in
      let i = statement_rows inside (suc m) in
      let t = statement_rows rest (suc m + statements_in inside) in
      let l = length-append b.front (r ∷ []) in
      let p = b.place in
      record {
        front = b.front ++ (r ∷ []);
        rest = t ++ b.rest;
        whole = b.whole ∙ ap (λ z. b.front ++ (r ∷ z)) (append_assoc i t b.rest) ∙ sym (append_assoc b.front (r ∷ []) (i ++ (t ++ b.rest)));
        place = omega arith;
      }

  pub block_rest : Block rs (suc m + statements_in inside) rest
  unfolding statement_rows
  block_rest =
      let r = statement_cells x (suc m + statements_in inside) in
      let i = statement_rows inside (suc m) in
      let t = statement_rows rest (suc m + statements_in inside) in
      let l = length-append b.front (r ∷ i) in
      let n = length_statements inside (suc m) in
      let p = b.place in
      record {
        front = b.front ++ (r ∷ i);
        rest = b.rest;
        whole = b.whole ∙ ap (λ z. b.front ++ (r ∷ z)) (append_assoc i t b.rest) ∙ sym (append_assoc b.front (r ∷ i) (t ++ b.rest));
        place = omega arith;
      }

-- The blocks of a table --------------------------------------------------------------------------------------------------------------------

module _ {s st : List ℕ} {m e : ℕ} {x : Statement} {inside rest : Statements} (b : BlockAt s st m e (state x inside rest)) where
  -- A cell of the row of the first statement.
  pub first_cell : (c : ℕ) → c < 7 → get_or st (m * 7 + c) 0 ≡ get_or (statement_cells x (suc m + statements_in inside)) c 0
  first_cell c k =
      ap (λ n. get_or st (n * 7 + c) 0) (sym b.block.place)
      ∙ cell_held b.block.front _ (statement_cells x (suc m + statements_in inside)) c b.holds (block_row b.block) k

  words_of : StatementsIn s (state x inside rest) → StatementsIn s inside × StatementsIn s rest
  words_of (more_in n v p i r) = (i, r)

  name_of : StatementsIn s (state x inside rest) → WordIn s x.name
  name_of (more_in n v p i r) = n

  pub first_name : WordIn s x.name
  first_name = name_of b.words

  value_in : StatementsIn s (state x inside rest) → WordIn s x.value
  value_in (more_in n v p i r) = v

  pub first_value : WordIn s x.value
  first_value = value_in b.words

  brace_in : StatementsIn s (state x inside rest) → BraceIn s x.brace
  brace_in (more_in n v p i r) = p

  pub first_brace : BraceIn s x.brace
  first_brace = brace_in b.words

  pub first_after : row_after st m e ≡ suc m + statements_in inside
  unfolding row_after statements_in statement_cells
  first_after =
      let v = suc m + statements_in inside in
      let c : get_or st (m * 7 + 6) 0 ≡ v = first_cell 6 (omega arith) in
      let h = b.after in
      let i : m < v = omega arith in
      let j : v ≤ e = omega arith in
      ap (λ n. pick (both (ltb m n) (leb n e)) n e) c
      ∙ ap (λ t. pick (both t (leb v e)) v e) (lt-ltb m v i)
      ∙ ap (λ t. pick t v e) (le-leb v e j)

  pub inside_at : BlockAt s st (suc m) (suc m + statements_in inside) inside
  inside_at = record { rows = b.rows; holds = b.holds; block = block_inside b.block; words = (words_of b.words).0; after = refl }

  pub rest_at : BlockAt s st (suc m + statements_in inside) e rest
  unfolding statements_in
  rest_at =
      let h = b.after in
      record { rows = b.rows; holds = b.holds; block = block_rest b.block; words = (words_of b.words).1; after = omega arith }

-- Two parts of a block.
pub in_then : (a b : Statements) → statements_in (then a b) ≡ statements_in a + statements_in b
unfolding then statements_in
in_then done b = omega arith
in_then (state x inside rest) b = let h = in_then rest b in omega arith

pub then_done : (a : Statements) → then a done ≡ a
unfolding then
then_done done = refl
then_done (state x inside rest) = ap (state x inside) (then_done rest)

pub rows_then : (a b : Statements) (m : ℕ) → statement_rows (then a b) m ≡ statement_rows a m ++ statement_rows b (m + statements_in a)
unfolding then statement_rows statements_in
rows_then done b m = let e : m ≡ m + 0 = omega arith in ap (statement_rows b) e
rows_then (state x inside rest) b m =
    let n = suc m + statements_in inside in
    let e : n + statements_in rest ≡ m + suc (statements_in inside + statements_in rest) = omega arith in
    ap (λ l. statement_cells x n ∷ (statement_rows inside (suc m) ++ l)) (rows_then rest b n ∙ ap (λ k. statement_rows rest n ++ statement_rows b k) e)
    ∙ ap (λ l. statement_cells x n ∷ l) (sym (append_assoc (statement_rows inside (suc m)) (statement_rows rest n) _))

words_then : {s : List ℕ} (a b : Statements) → StatementsIn s (then a b) → StatementsIn s a × StatementsIn s b
unfolding then
words_then done b w = (none_in, w)
words_then (state x inside rest) b (more_in n v p i r) = let k = words_then rest b r in (more_in n v p i k.0, k.1)

module _ {s st : List ℕ} {m e : ℕ} (a b : Statements) (h : BlockAt s st m e (then a b)) where
  pub front_at : BlockAt s st m (m + statements_in a) a
  front_at = record {
    rows = h.rows;
    holds = h.holds;
    block = record {
      front = h.block.front;
      rest = statement_rows b (m + statements_in a) ++ h.block.rest;
      whole = h.block.whole ∙ ap (λ l. h.block.front ++ (l ++ h.block.rest)) (rows_then a b m)
          ∙ ap (λ l. h.block.front ++ l) (append_assoc (statement_rows a m) (statement_rows b (m + statements_in a)) h.block.rest);
      place = h.block.place;
    };
    words = (words_then a b h.words).0;
    after = refl;
  }

  pub back_at : BlockAt s st (m + statements_in a) e b
  back_at =
      let l = length-append h.block.front (statement_rows a m) in
      let n = length_statements a m in
      let p = h.block.place in
      let q = h.after in
      let t = in_then a b in
      record {
        rows = h.rows;
        holds = h.holds;
        block = record {
          front = h.block.front ++ statement_rows a m;
          rest = h.block.rest;
          whole = h.block.whole ∙ ap (λ l. h.block.front ++ (l ++ h.block.rest)) (rows_then a b m)
              ∙ ap (λ l. h.block.front ++ l) (append_assoc (statement_rows a m) (statement_rows b (m + statements_in a)) h.block.rest)
              ∙ sym (append_assoc h.block.front (statement_rows a m) (statement_rows b (m + statements_in a) ++ h.block.rest));
          place = omega arith;
        };
        words = (words_then a b h.words).1;
        after = omega arith;
      }

-- Whatever the table holds, the row after is later and not past the end.
pub after_later : (st : List ℕ) (k e : ℕ) → k < e → k < row_after st k e
unfolding row_after
after_later st k e h = go (ltb k (get_or st (k * 7 + 6) 0)) (leb (get_or st (k * 7 + 6) 0) e) refl
  where
    go : (a b : Bool) → ltb k (get_or st (k * 7 + 6) 0) ≡ a → k < pick (both a b) (get_or st (k * 7 + 6) 0) e
    go true true p = ltb-true k (get_or st (k * 7 + 6) 0) p
    go true false p = h
    go false b p = h

pub after_inside : (st : List ℕ) (k e : ℕ) → row_after st k e ≤ e
unfolding row_after
after_inside st k e = go (ltb k (get_or st (k * 7 + 6) 0)) (leb (get_or st (k * 7 + 6) 0) e) refl
  where
    go : (a b : Bool) → leb (get_or st (k * 7 + 6) 0) e ≡ b → pick (both a b) (get_or st (k * 7 + 6) 0) e ≤ e
    go true true p = leb-true (get_or st (k * 7 + 6) 0) e p
    go true false p = omega arith
    go false b p = omega arith

-- The cases of the row after.
module _ (st : List ℕ) (k e v : ℕ) (c : v ≡ get_or st (k * 7 + 6) 0) where
  pub after_back : v ≤ k → e ≡ row_after st k e
  unfolding row_after
  after_back h = sym (ap (λ n. pick (both (ltb k n) (leb n e)) n e) (sym c) ∙ ap (λ t. pick (both t (leb v e)) v e) (le-ltb k v h))

  pub after_past : e < v → e ≡ row_after st k e
  unfolding row_after
  after_past h = sym (ap (λ n. pick (both (ltb k n) (leb n e)) n e) (sym c) ∙ go (ltb k v) (lt-leb v e h))
    where
      go : (t : Bool) → leb v e ≡ false → pick (both t (leb v e)) v e ≡ e
      go true p = ap (λ t. pick t v e) p
      go false p = refl

  pub after_next : k < v → v ≤ e → v ≡ row_after st k e
  unfolding row_after
  after_next h i = sym (ap (λ n. pick (both (ltb k n) (leb n e)) n e) (sym c) ∙ ap (λ t. pick (both t (leb v e)) v e) (lt-ltb k v h) ∙ ap (λ t. pick t v e) (le-leb v e i))

-- Looking for a name -----------------------------------------------------------------------------------------------------------------------

-- What is left of a block from row k on decides what is found.
pub record Left (s st : List ℕ) (k e : ℕ) (ss : Statements) (m : ℕ) (t : Word) : Type 0 where
  pub left : Statements
  pub block : BlockAt s st k e left
  pub same_found : first_stated left k t ≡ first_stated ss m t

abbrev pub Looking : (s st : List ℕ) → (m e at len k : ℕ) → Type 0
Looking s st m e at len k = (ss : Statements) (t : Word) → BlockAt s st m e ss → t.bytes ≡ part_of s at len → Left s st k e ss m t

pub looking_start : (s st : List ℕ) (m e at len : ℕ) → Looking s st m e at len m
looking_start s st m e at len ss t b h = record { left = ss; block = b; same_found = refl }

module _ {s st : List ℕ} (m e at len k : ℕ) (i : Looking s st m e at len k) where
  -- The name of the first statement left is that at its cells.
  name_test : {x : Statement} {inside rest : Statements} (t : Word) → BlockAt s st k e (state x inside rest) → t.bytes ≡ part_of s at len
      → same (part_of s at len) (part_of s (get_or st (k * 7 + 0) 0) (get_or st (k * 7 + 1) 0)) ≡ alike t x.name
  unfolding alike statement_cells
  name_test {x} t b h =
      ap₂ (λ p n. same (part_of s at len) (part_of s p n)) (first_cell b 0 (omega arith)) (first_cell b 1 (omega arith))
      ∙ ap₂ same (sym h) (sym (first_name b).bytes)

  pub looking_stop : k < e → same (part_of s at len) (part_of s (get_or st (k * 7 + 0) 0) (get_or st (k * 7 + 1) 0)) ≡ true → FindsStated s st m e at len (Some k)
  unfolding first_stated statements_in
  looking_stop h q ss t b p = go (i ss t b p).left (i ss t b p).block (i ss t b p).same_found
    where
      go : (l : Statements) → BlockAt s st k e l → first_stated l k t ≡ first_stated ss m t → Some k ≡ first_stated ss m t
      go done c f = let z = c.after in absurd (omega arith)
      go (state x inside rest) c f =
          sym (ap (λ a. pick a (Some k) (first_stated rest (suc k + statements_in inside) t)) (sym (name_test t c p) ∙ q)) ∙ f

  pub looking_more : k < e → same (part_of s at len) (part_of s (get_or st (k * 7 + 0) 0) (get_or st (k * 7 + 1) 0)) ≡ false
      → Looking s st m e at len (row_after st k e)
  unfolding first_stated statements_in
  looking_more h q ss t b p = go (i ss t b p).left (i ss t b p).block (i ss t b p).same_found
    where
      go : (l : Statements) → BlockAt s st k e l → first_stated l k t ≡ first_stated ss m t → Left s st (row_after st k e) e ss m t
      go done c f = let z = c.after in absurd (omega arith)
      go (state x inside rest) c f =
          subst (λ n. Left s st n e ss m t) (sym (first_after c))
          (record {
            left = rest;
            block = rest_at c;
            same_found = sym (ap (λ a. pick a (Some k) (first_stated rest (suc k + statements_in inside) t)) (sym (name_test t c p) ∙ q)) ∙ f;
          })

  pub looking_end : e ≤ k → FindsStated s st m e at len None
  unfolding first_stated statements_in
  looking_end h ss t b p = go (i ss t b p).left (i ss t b p).block (i ss t b p).same_found
    where
      go : (l : Statements) → BlockAt s st k e l → first_stated l k t ≡ first_stated ss m t → None ≡ first_stated ss m t
      go done c f = f
      go (state x inside rest) c f = let z = c.after in absurd (omega arith)

-- A name is found where it is among the names.
pub stated_among : (ss : Statements) (m : ℕ) (t : Word) → is_found (first_stated ss m t) ≡ among t (names ss)
unfolding first_stated names among
stated_among done m t = refl
stated_among (state x inside rest) m t = go (alike t x.name) (stated_among rest (suc m + statements_in inside) t)
  where
    go : (a : Bool) → is_found (first_stated rest (suc m + statements_in inside) t) ≡ among t (names rest)
        → is_found (pick a (Some m) (first_stated rest (suc m + statements_in inside) t)) ≡ either a (among t (names rest))
    go true h = refl
    go false h = h

pub is_stated : {s st : List ℕ} {m e : ℕ} (at len : ℕ) {r : Found} → FindsStated s st m e at len r → IsStated s st m e at len (is_found r)
is_stated {m = m} at len f ss t b h = ap is_found (f ss t b h) ∙ stated_among ss m t

-- Whether a name is stated before ----------------------------------------------------------------------------------------------------------

-- The first of two parts of a block that has a name.
first_then : (a b : Statements) (m : ℕ) (t : Word)
    → first_stated (then a b) m t ≡ pick (among t (names a)) (first_stated a m t) (first_stated b (m + statements_in a) t)
unfolding then first_stated names among statements_in
first_then done b m t = let e : m ≡ m + 0 = omega arith in ap (λ k. first_stated b k t) e
first_then (state x inside rest) b m t =
    let n = suc m + statements_in inside in
    let e : n + statements_in rest ≡ m + suc (statements_in inside + statements_in rest) = omega arith in
    go (alike t x.name) (first_then rest b n t ∙ ap (λ k. pick (among t (names rest)) (first_stated rest n t) (first_stated b k t)) e)
  where
    go : (c : Bool) → first_stated (then rest b) (suc m + statements_in inside) t ≡ pick (among t (names rest)) (first_stated rest (suc m + statements_in inside) t) (first_stated b (m + suc (statements_in inside + statements_in rest)) t)
        → pick c (Some m) (first_stated (then rest b) (suc m + statements_in inside) t) ≡ pick (either c (among t (names rest))) (pick c (Some m) (first_stated rest (suc m + statements_in inside) t)) (first_stated b (m + suc (statements_in inside + statements_in rest)) t)
    go true h = refl
    go false h = h

first_inside : (a : Statements) (m i : ℕ) (t : Word) → Some i ≡ first_stated a m t → i < m + statements_in a
unfolding first_stated statements_in row_of
first_inside done m i t h = absurd (false≢true (sym (ap is_found h)))
first_inside (state x inside rest) m i t h = go (alike t x.name) (first_inside rest (suc m + statements_in inside) i t) h
  where
    go : (c : Bool) → (Some i ≡ first_stated rest (suc m + statements_in inside) t → i < suc m + statements_in inside + statements_in rest)
        → Some i ≡ pick c (Some m) (first_stated rest (suc m + statements_in inside) t) → i < m + suc (statements_in inside + statements_in rest)
    go true f e = let q : i ≡ m = ap row_of e in omega arith
    go false f e = let q = f e in omega arith

-- The first statement of a block that has the name of its statement of row k.
module _ {s st : List ℕ} (m k e : ℕ) {r : Found} (f : FindsStated s st m e (get_or st (k * 7 + 0) 0) (get_or st (k * 7 + 1) 0) r) where
  first_own : (a : Statements) (x : Statement) (inside rest : Statements) → BlockAt s st m e (then a (state x inside rest)) → k ≡ m + statements_in a
      → r ≡ pick (among x.name (names a)) (first_stated a m x.name) (Some k)
  unfolding first_stated statement_cells alike
  first_own a x inside rest b q =
      let c : BlockAt s st k e (state x inside rest) = subst (λ u. BlockAt s st u e (state x inside rest)) (sym q) (back_at a (state x inside rest) b) in
      let n = x.name in
      let own = (first_name c).bytes ∙ sym (ap₂ (part_of s) (first_cell c 0 (omega arith)) (first_cell c 1 (omega arith))) in
      let here = ap (λ z. pick z (Some (m + statements_in a)) (first_stated rest (suc (m + statements_in a) + statements_in inside) n)) (same_self n.bytes) ∙ ap Some (sym q) in
      f (then a (state x inside rest)) n b own
      ∙ first_then a (state x inside rest) m n
      ∙ ap (pick (among n (names a)) (first_stated a m n)) here

module _ {s st : List ℕ} (m k e : ℕ) where
  pub before_first : (i : ℕ) → FindsStated s st m e (get_or st (k * 7 + 0) 0) (get_or st (k * 7 + 1) 0) (Some i) → IsBefore s st m k e (not (eqb i k))
  unfolding row_of
  before_first i f a x inside rest b q = go (among x.name (names a)) (first_own m k e f a x inside rest b q)
    where
      go : (c : Bool) → Some i ≡ pick c (first_stated a m x.name) (Some k) → not (eqb i k) ≡ c
      go true h = let l = first_inside a m i x.name h in ap not (ne_eqb i k (λ z. omega arith))
      go false h = ap not (eq-eqb i k (ap row_of h))

  pub before_none : FindsStated s st m e (get_or st (k * 7 + 0) 0) (get_or st (k * 7 + 1) 0) None → IsBefore s st m k e false
  before_none f a x inside rest b q = go (among x.name (names a)) (stated_among a m x.name) (first_own m k e f a x inside rest b q)
    where
      go : (c : Bool) → is_found (first_stated a m x.name) ≡ c → None ≡ pick c (first_stated a m x.name) (Some k) → false ≡ c
      go true g h = absurd (false≢true (ap is_found h ∙ g))
      go false g h = refl
