-- A loop over the statements of a block that have an attribute's name. Assumes nothing.
use mathlib.Core.Path.{◌≡◌, refl, sym, ◌∙◌, ap, subst}
use mathlib.Core.List.{List}
use mathlib.Core.Bool.{Bool, true, false, false≢true}
use Prim.Native.Nat.{ℕ, suc, ◌+◌, ◌*◌, ◌≤◌, ◌<◌}
use native.Mathlib.Omega.{arith}
use lib.ListN.{get_or}
use Rattle.token.specs.Find.{pick}
use Rattle.rows.specs.Search.{is_found, row_of}
use Rattle.rows.specs.Found.{Found}
use Rattle.std.specs.Prelude.{Some, None}
use Rattle.meaning.specs.Syntax.{Word, Defined, Statement, Statements, done, state, File, statements_in}
use Rattle.meaning.specs.Words.{alike}
use Rattle.meaning.specs.Resolving.{Resolved, end, Owner}
use Rattle.meaning.proofs.Entries.{joins}
use Rattle.blocks.specs.Blocks.{BlockAt, row_after, first_stated, FindsStated}
use Rattle.blocks.proofs.Ranges.{first_after, rest_at, is_stated}
use Rattle.scopes.specs.declared.Sizes.{Sizes}
use Rattle.resolving.specs.declared.Owner.{Owner as OwnerOf}
use Rattle.scopes.specs.Given.{Given, Attribute}
use Rattle.resolving.specs.Written.{Wrote, Owns}
use Rattle.resolving.specs.Promises.{stated_entries, Room, EntersStated, ResolvesStated, ResolvesDefault, ResolvesUnder}
use Rattle.lookups.proofs.Attributes.{name_at}
use Rattle.resolving.proofs.Turns.{row_stated, row_default}
use Rattle.resolving.proofs.Entrances.{entries_none, entries_other, entries_more}
use Rattle.resolving.proofs.Writes.{wrote_length, wrote_none, wrote_joins, wrote_same, joins_end, joins_joins}
use Rattle.scopes.proofs.Finding.{same_sym}

-- The statements that have a name ----------------------------------------------------------------------------------------------------------

alike_sym : (t u : Word) → alike t u ≡ alike u t
unfolding alike
alike_sym t u = same_sym t.bytes u.bytes

-- Of the statements `left` of the rows from k up to till, that of row i is the first that states the attribute x.
record Match (s st : List ℕ) (f : File) (x : Defined) (left : Statements) (k till i : ℕ) : Type 0 where
  statement : Statement
  inside : Statements
  rest : Statements
  low : k ≤ i
  high : i < till
  block : BlockAt s st i till (state statement inside rest)
  stated : alike statement.name x.definition.name ≡ true
  skips : stated_entries f x left ≡ stated_entries f x (state statement inside rest)

pass : (f : File) (x : Defined) (y : Statement) (inside rest : Statements) → alike x.definition.name y.name ≡ false
    → stated_entries f x (state y inside rest) ≡ stated_entries f x rest
unfolding joins
pass f x y inside rest q =
    entries_more f x y inside rest ∙ ap (λ a. joins a (stated_entries f x rest)) (sym (entries_other f x y inside (alike_sym y.name x.definition.name ∙ q)))

match : {s st : List ℕ} (f : File) (x : Defined) (left : Statements) {k till i : ℕ} → BlockAt s st k till left → Some i ≡ first_stated left k x.definition.name
    → Match s st f x left k till i
unfolding first_stated statements_in row_of
match f x done b e = absurd (false≢true (sym (ap is_found e)))
match {s} {st} f x (state y inside rest) {k} {till} {i} b e = by (alike x.definition.name y.name) refl e (match f x rest (rest_at b))
  where
    by : (a : Bool) → alike x.definition.name y.name ≡ a → Some i ≡ pick a (Some k) (first_stated rest (suc k + statements_in inside) x.definition.name)
        → (Some i ≡ first_stated rest (suc k + statements_in inside) x.definition.name → Match s st f x rest (suc k + statements_in inside) till i)
        → Match s st f x (state y inside rest) k till i
    by true q p ih =
        let h : i ≡ k = ap row_of p in
        let a = b.after in
        record {
          statement = y;
          inside = inside;
          rest = rest;
          low = omega arith;
          high = omega arith;
          block = subst (λ m. BlockAt s st m till (state y inside rest)) (sym h) b;
          stated = alike_sym y.name x.definition.name ∙ q;
          skips = refl;
        }
    by false q p ih =
        let m = ih p in
        let l = m.low in
        record {
          statement = m.statement;
          inside = m.inside;
          rest = m.rest;
          low = omega arith;
          high = m.high;
          block = m.block;
          stated = m.stated;
          skips = pass f x y inside rest q ∙ m.skips;
        }

no_match : (f : File) (x : Defined) (left : Statements) (k : ℕ) → None ≡ first_stated left k x.definition.name → stated_entries f x left ≡ end
unfolding first_stated
no_match f x done k e = entries_none f x
no_match f x (state y inside rest) k e = by (alike x.definition.name y.name) refl e (no_match f x rest (suc k + statements_in inside))
  where
    by : (a : Bool) → alike x.definition.name y.name ≡ a → None ≡ pick a (Some k) (first_stated rest (suc k + statements_in inside) x.definition.name)
        → (None ≡ first_stated rest (suc k + statements_in inside) x.definition.name → stated_entries f x rest ≡ end)
        → stated_entries f x (state y inside rest) ≡ end
    by true q p ih = absurd (false≢true (ap is_found p))
    by false q p ih = pass f x y inside rest q ∙ ih p

-- The loop ---------------------------------------------------------------------------------------------------------------------------------

-- At row k: what is made so far, and the statements left.
pub record Stating (s st : List ℕ) (f : File) (x : Defined) (ss : Statements) (k till : ℕ) (v : List ℕ) (n : ℕ) (ow : Owner) (v' : List ℕ) (m : ℕ) : Type 0 where
  pub left : Statements
  pub made : Resolved
  pub block : BlockAt s st k till left
  pub wrote : Wrote v n made ow v' m
  pub whole : stated_entries f x ss ≡ joins made (stated_entries f x left)

abbrev pub States : (s d e o st v : List ℕ) (z : Sizes) (j from till : ℕ) (w : OwnerOf) (n : ℕ) (v' : List ℕ) (m k : ℕ) → Type 0
States s d e o st v z j from till w n v' m k =
    (f : File) (x : Defined) (ss : Statements) (ow : Owner) → Given s d e o st z f → Attribute f j x → BlockAt s st from till ss → Owns w ow → Room v n
    → Stating s st f x ss k till v n ow v' m

states_done : {s st v : List ℕ} {till : ℕ} {n : ℕ} {v' : List ℕ} {m k : ℕ} {ow : Owner} {f : File} {x : Defined} {ss : Statements} (g : Stating s st f x ss k till v n ow v' m)
    → stated_entries f x g.left ≡ end → Wrote v n (stated_entries f x ss) ow v' m
states_done g e = wrote_same (sym (g.whole ∙ ap (joins g.made) e ∙ joins_end g.made)) g.wrote

none_left : {s st : List ℕ} {till k : ℕ} (f : File) (x : Defined) (left : Statements) → till ≤ k → BlockAt s st k till left → stated_entries f x left ≡ end
unfolding statements_in
none_left f x done h b = entries_none f x
none_left {till = till} {k = k} f x (state y inside rest) h b = absurd (let q = b.after in omega arith)

module _ {s d e o st v : List ℕ} {z : Sizes} {j from till : ℕ} {w : OwnerOf} {n : ℕ} where
  pub states_start : States s d e o st v z j from till w n v n from
  unfolding joins
  states_start f x ss ow g a b own room = record { left = ss; made = end; block = b; wrote = wrote_none v n ow room.low; whole = refl }

  pub states_end : {v' : List ℕ} {m k : ℕ} → till ≤ k → States s d e o st v z j from till w n v' m k → ResolvesStated s d e o st v z j from till w n v' m
  states_end h t f x ss ow g a b own room = let k = t f x ss ow g a b own room in states_done k (none_left f x k.left h k.block)

  module _ {at len : ℕ} (c₁ : at ≡ get_or d (j * 19 + 2) 0) (c₂ : len ≡ get_or d (j * 19 + 3) 0) {v₁ : List ℕ} {m k : ℕ} (t : States s d e o st v z j from till w n v₁ m k) where
    -- No statement left has the name,
    pub states_none : {r : Found} → FindsStated s st k till at len r → r ≡ None → ResolvesStated s d e o st v z j from till w n v₁ m
    states_none finds p f x ss ow g a b own room =
        let K = t f x ss ow g a b own room in
        states_done K (no_match f x K.left k (sym p ∙ finds K.left x.definition.name K.block (name_at g.tables a at len c₁ c₂)))

    -- or that of row i is the first, which is one of those left.
    matched : {r : Found} {i : ℕ} → FindsStated s st k till at len r → r ≡ Some i → (f : File) (x : Defined) (ss : Statements) (ow : Owner) (g : Given s d e o st z f) (a : Attribute f j x)
        (b : BlockAt s st from till ss) (own : Owns w ow) (room : Room v n) → Match s st f x (t f x ss ow g a b own room).left k till i
    matched finds p f x ss ow g a b own room =
        let K = t f x ss ow g a b own room in
        match f x K.left K.block (sym p ∙ finds K.left x.definition.name K.block (name_at g.tables a at len c₁ c₂))

    pub states_out : {r : Found} {i : ℕ} → FindsStated s st k till at len r → r ≡ Some i → (k ≤ i → till ≤ i) → ResolvesStated s d e o st v z j from till w n v₁ m
    states_out finds p h f x ss ow g a b own room =
        let M = matched finds p f x ss ow g a b own room in
        let l = h M.low in
        let u = M.high in
        absurd (omega arith)

    pub states_more : {q : Found} {i next inner : ℕ} {v₂ : List ℕ} {r : ℕ} → FindsStated s st k till at len q → q ≡ Some i → next ≡ row_after st i till → inner ≡ i + 1
        → EntersStated s d e o st v₁ z j i inner next w m v₂ r → States s d e o st v z j from till w n v₂ r next
    unfolding statements_in
    states_more {q} {i} {next} {inner} {v₂} {r} finds p na ni en f x ss ow g a b own room =
        let K = t f x ss ow g a b own room in
        let M = matched finds p f x ss ow g a b own room in
        let y = M.statement in
        let nx : next ≡ suc i + statements_in M.inside = na ∙ first_after M.block in
        let l = wrote_length K.wrote in
        let c = K.wrote.count in
        let u = room.room in
        let ix : inner ≡ suc i = omega arith in
        let h = en f x y M.inside M.rest till ow g a M.block M.stated ix nx own (record { room = omega arith; low = omega arith }) in
        let E = stated_entries f x (state y M.inside done) in
        record {
          left = M.rest;
          made = joins K.made E;
          block = subst (λ i. BlockAt s st i till M.rest) (sym nx) (rest_at M.block);
          wrote = wrote_joins u K.wrote h;
          whole = K.whole ∙ ap (joins K.made) (M.skips ∙ entries_more f x y M.inside M.rest) ∙ sym (joins_joins K.made E (stated_entries f x M.rest));
        }

module _ {s d e o st v : List ℕ} {z : Sizes} {j from till : ℕ} {w : OwnerOf} {n : ℕ} where
  -- The values that a block states are those that it states from the first one on.
  pub stated_from : {at len : ℕ} → at ≡ get_or d (j * 19 + 2) 0 → len ≡ get_or d (j * 19 + 3) 0 → {q : Found} {i : ℕ} {v' : List ℕ} {r : ℕ}
      → FindsStated s st from till at len q → q ≡ Some i → ResolvesStated s d e o st v z j i till w n v' r → ResolvesStated s d e o st v z j from till w n v' r
  stated_from {at} {len} c₁ c₂ finds p res f x ss ow g a b own room =
      let M = match f x ss b (sym p ∙ finds ss x.definition.name b (name_at g.tables a at len c₁ c₂)) in
      wrote_same (sym M.skips) (res f x (state M.statement M.inside M.rest) ow g a M.block own room)

  -- The attribute of a row is stated, first by the statement of row i, or it is not.
  module _ {key : ℕ} {q : Found} {v' : List ℕ} {r : ℕ} (finds : FindsStated s st from till (get_or d (j * 19 + 2) 0) (get_or d (j * 19 + 3) 0) q) where
    pub row_found : {i : ℕ} → q ≡ Some i → ResolvesStated s d e o st v z j i till w n v' r → ResolvesUnder s d e o st v z j key from till w n v' r
    row_found p res = row_stated refl refl (is_stated _ _ finds) (ap is_found p) (stated_from refl refl finds p res)

    pub row_missing : q ≡ None → ResolvesDefault s d e o st v z j w n v' r → ResolvesUnder s d e o st v z j key from till w n v' r
    row_missing p res = row_default refl refl (is_stated _ _ finds) (ap is_found p) res
