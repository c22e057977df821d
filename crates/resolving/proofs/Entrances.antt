-- A value and what is under it, the values that a block states of an attribute, and the one that it takes by default. Assumes nothing.
use mathlib.Core.Path.{◌≡◌, refl, sym, ◌∙◌, ap, subst}
use mathlib.Core.List.{List}
use mathlib.Core.Bool.{Bool, true, false, false≢true}
use mathlib.Core.Option.{Option, none, some}
use Prim.Native.Nat.{ℕ, ◌+◌, ◌*◌, ◌≤◌, ◌<◌}
use native.Mathlib.Omega.{arith}
use lib.ListN.{length, get_or}
use lib.Seq.{length-sets}
use Rattle.token.specs.Find.{bit}
use Rattle.meaning.specs.Syntax.{Word, Definition, Definitions, no_more, define, Values, value, Defined, Statement, Statements, done, state, File}
use Rattle.meaning.specs.Words.{alike, choose}
use Rattle.meaning.specs.Scopes.{Under, find_value, definitions_or, under}
use Rattle.meaning.specs.Judging.{taken}
use Rattle.meaning.specs.Resolving.{Resolved, end, resolved, of_value, take_value, entries, default_entry, value_row}
use Rattle.meaning.specs.Cells.{owner_sort, owner_row, value_cells}
use Rattle.meaning.proofs.Entries.{joins}
use Rattle.layout.specs.Kept.{statement_cells, code_of}
use Rattle.blocks.specs.Blocks.{WordIn, StatementsIn, more_in, BlockAt}
use Rattle.blocks.proofs.Ranges.{first_cell, inside_at}
use Rattle.scopes.specs.Situations.{Situation, HasDefinition, this_definition, later_definition, ScopeAt}
use Rattle.scopes.specs.Promises.{FindsWord}
use Rattle.scopes.specs.declared.Sizes.{Sizes}
use Rattle.resolving.specs.declared.Owner.{Owner as OwnerOf}
use Rattle.resolving.specs.declared.Owner.TheVariants.{Value as ValueOwner}
use Rattle.scopes.specs.Given.{Attribute, Below}
use Rattle.resolving.specs.Promises.{WordAt, PutValue, inner_of, one_entry, stated_entries, default_entries, Enters, EntersStated, ResolvesDefault, Resolves}
use Rattle.scopes.proofs.Descents.{found_value, scope_under}
use Rattle.lookups.proofs.Attributes.{read_at, reached, known, value_below, none_given, not_taken, default_word, nothing_at}
use Rattle.resolving.proofs.Writes.{wrote_none, wrote_full, wrote_entry, wrote_same}
use Rattle.meaning.proofs.Unders.{resolves_under}

-- A value and what is under it --------------------------------------------------------------------------------------------------------------

is_more : Definitions → Bool
is_more no_more = false
is_more (define d vs ds) = true

define≢no_more : {d : Definition} {vs : Values} {ds : Definitions} → define d vs ds ≡ no_more → ⊥
unfolding is_more
define≢no_more e = false≢true (sym (ap is_more e))

none_has : (k : ℕ) (x : Defined) (ds : Definitions) → ds ≡ no_more → HasDefinition ds x → x.definition.row < k
none_has k x (define d vs ds) e (this_definition) = absurd (define≢no_more e)
none_has k x (define d vs ds) e (later_definition h) = absurd (define≢no_more e)
none_has k x no_more e x3 = elim x3 [ ]

pub none_below : (k : ℕ) → Below k no_more
none_below k x h = none_has k x no_more refl h

-- Its definitions stand before the attribute.
below_under : {s : List ℕ} {f : File} {j : ℕ} {x : Defined} (t : Word) → Situation s f → Attribute f j x → Below j (under x.values t)
unfolding under definitions_or
below_under {s} {f} {j} {x} t p a = by (find_value x.values t) refl
  where
    by : (o : Option Under) → find_value x.values t ≡ o → Below j (definitions_or o)
    by none e = none_below j
    by (some v) e = value_below p a (found_value x.values t e)

word_at : {s : List ℕ} {t : Word} {at len code : ℕ} → WordIn s t → at ≡ t.place → len ≡ t.length → code ≡ code_of t → WordAt s t at len code
word_at h p l c = record { read = read_at h p l; place = sym p; length = sym l; coded = sym c }

block_at : {s st : List ℕ} {a b a' b' : ℕ} {us : Statements} → a' ≡ a → b' ≡ b → BlockAt s st a b us → BlockAt s st a' b' us
block_at {s} {st} {a} {b} {a'} {b'} {us} p q h = subst (λ i. BlockAt s st i b' us) (sym p) (subst (λ i. BlockAt s st a i us) (sym q) h)

module _ {s d e o st v : List ℕ} {z : Sizes} {j stated at len code from till : ℕ} {w : OwnerOf} {n : ℕ} where
  pub enter_full : 2048 < n → Enters s d e o st v z j stated at len code from till w n v n
  enter_full h f x t us b ow g a wa bl own fl room = wrote_full v n (one_entry b f x t us) ow room.room h room.low

  pub enter_more : {v₁ : List ℕ} {key : ℕ} {v₂ : List ℕ} {r : ℕ} → n ≤ 2048 → PutValue s d e o v z n w j stated at len code v₁
      → FindsWord s d e z.enumerators j at len key → Resolves s d e o st v₁ z j key from till (ValueOwner n) (n + 1) v₂ r
      → Enters s d e o st v z j stated at len code from till w n v₂ r
  unfolding one_entry inner_of owner_sort owner_row
  enter_more {v₁} {key} {v₂} {r} h put finds res f x t us b ow g a wa bl own fl room =
      let T = g.tables in
      let k = known T a in
      let lo = k.low in
      let below = k.inside in
      let count = T.definitions in
      let tk = take_value b f.objects x.definition x.values t in
      let p = put f x t b ow T a wa own fl in
      let q = finds f x t T.situation T.in_definitions T.in_enumerators k.row_of lo (reached T x.values) wa.read.bytes in
      let sc = subst (λ i. ScopeAt f i (under x.values t)) (sym q) (scope_under t T.situation k.row_of) in
      let l : length v₁ ≡ length v = ap length p ∙ length-sets v (n * 9) (value_cells (value_row tk ow)) in
      let m = room.room in
      wrote_entry tk p
      (wrote_same (sym (resolves_under x.values f.objects t us))
      (res f (under x.values t) us (of_value n) g sc (below_under t T.situation a) (omega arith) bl (record { sort = refl; row = refl }) (record { room = omega arith; low = omega arith })))

-- The values that a block states -------------------------------------------------------------------------------------------------------------

value_in : {s : List ℕ} {y : Statement} {inside rest : Statements} → StatementsIn s (state y inside rest) → WordIn s y.value
value_in (more_in n v p i r) = v

pub entries_none : (f : File) (x : Defined) → stated_entries f x done ≡ end
unfolding stated_entries entries
entries_none f x = refl

entries_this : (f : File) (x : Defined) (y : Statement) (inside : Statements) → alike y.name x.definition.name ≡ true
    → one_entry true f x y.value inside ≡ stated_entries f x (state y inside done)
unfolding stated_entries entries one_entry choose
entries_this f x y inside e = rw e

pub entries_other : (f : File) (x : Defined) (y : Statement) (inside : Statements) → alike y.name x.definition.name ≡ false
    → end ≡ stated_entries f x (state y inside done)
unfolding stated_entries entries choose
entries_other f x y inside e = rw e

pub entries_more : (f : File) (x : Defined) (y : Statement) (inside rest : Statements)
    → stated_entries f x (state y inside rest) ≡ joins (stated_entries f x (state y inside done)) (stated_entries f x rest)
unfolding stated_entries entries joins choose
entries_more f x y inside rest = by (alike y.name x.definition.name)
  where
    R : Resolved
    R = entries rest f.objects x.definition x.values (λ t us. inner_of f x t us) end

    by : (b : Bool) → choose b (λ _. resolved (take_value true f.objects x.definition x.values y.value) (inner_of f x y.value inside) R) (λ _. R)
        ≡ joins (choose b (λ _. resolved (take_value true f.objects x.definition x.values y.value) (inner_of f x y.value inside) end) (λ _. end)) R
    by true = refl
    by false = refl

module _ {s d e o st v : List ℕ} {z : Sizes} {j k inner next : ℕ} {w : OwnerOf} {n : ℕ} where
  pub stated_this : {at len code : ℕ} {v' : List ℕ} {r : ℕ} → at ≡ get_or st (k * 7 + 2) 0 → len ≡ get_or st (k * 7 + 3) 0 → code ≡ get_or st (k * 7 + 4) 0
      → Enters s d e o st v z j 1 at len code inner next w n v' r → EntersStated s d e o st v z j k inner next w n v' r
  unfolding statement_cells bit
  stated_this {at} {len} {code} e₂ e₃ e₄ en f x y inside rest till ow g a b q i₁ i₂ own room =
      let vi = value_in b.words in
      let p : at ≡ y.value.place = e₂ ∙ first_cell b 2 (omega arith) in
      let l : len ≡ y.value.length = e₃ ∙ first_cell b 3 (omega arith) in
      let c : code ≡ code_of y.value = e₄ ∙ first_cell b 4 (omega arith) in
      wrote_same (entries_this f x y inside q) (en f x y.value inside true ow g a (word_at vi p l c) (block_at i₁ i₂ (inside_at b)) own refl room)

-- The value taken by default -----------------------------------------------------------------------------------------------------------------

default_end : (f : File) (x : Defined) → taken x.definition.default ≡ none → end ≡ default_entries f x
unfolding default_entries default_entry
default_end f x e = rw e

default_one : (f : File) (x : Defined) (t : Word) → taken x.definition.default ≡ some t → one_entry false f x t done ≡ default_entries f x
unfolding default_entries default_entry one_entry
default_one f x t e = rw e

module _ {s d e o st v : List ℕ} {z : Sizes} {j : ℕ} {w : OwnerOf} {n : ℕ} where
  pub default_none : {len : ℕ} → len ≡ get_or d (j * 19 + 11) 0 → len ≡ 0 → ResolvesDefault s d e o st v z j w n v n
  default_none c h f x ow g a own room = wrote_same (default_end f x (none_given (known g.tables a) (sym c ∙ h))) (wrote_none v n ow room.low)

  pub default_not : {code : ℕ} → code ≡ get_or d (j * 19 + 18) 0 → code ≡ 4 → ResolvesDefault s d e o st v z j w n v n
  default_not c h f x ow g a own room = wrote_same (default_end f x (not_taken (known g.tables a) (sym c ∙ h))) (wrote_none v n ow room.low)

  pub default_taken : {at len code : ℕ} {v' : List ℕ} {r : ℕ} → len ≡ get_or d (j * 19 + 11) 0 → (len ≡ 0 → ⊥) → code ≡ get_or d (j * 19 + 18) 0 → (code ≡ 4 → ⊥)
      → at ≡ get_or d (j * 19 + 10) 0 → Enters s d e o st v z j 0 at len code 0 0 w n v' r → ResolvesDefault s d e o st v z j w n v' r
  unfolding bit
  default_taken c₁ n₁ c₂ n₂ c₀ en f x ow g a own room =
      let t = default_word (known g.tables a) (λ q. n₁ (c₁ ∙ q)) (λ q. n₂ (c₂ ∙ q)) in
      wrote_same (default_one f x t.word t.takes)
      (en f x t.word done false ow g a (word_at t.in_text (c₀ ∙ t.place) (c₁ ∙ t.length) (c₂ ∙ t.coded)) (nothing_at g) own refl room)
