-- A loop over the rows of the definitions: what a row of a scope is, and what it contributes. Assumes nothing.
use mathlib.Core.Path.{◌≡◌, refl, sym, ◌∙◌, ap, subst}
use mathlib.Core.List.{List, [], ◌∷◌, ◌++◌, append_assoc, append-nil}
use mathlib.Core.Bool.{Bool, true, false}
use Prim.Native.Nat.{ℕ, zero, suc, ◌+◌, ◌*◌, ◌≤◌, ◌<◌}
use native.Mathlib.Omega.{arith}
use lib.ListN.{length, get_or, length-append}
use lib.Dec.{eqb}
use borrow.Author.Tests.{eq-eqb, ne_eqb}
use Rattle.meaning.specs.Syntax.{Word, span_of, Definitions, no_more, define, Defined, Statements, File}
use Rattle.meaning.specs.Words.{among, choose}
use Rattle.meaning.specs.Scopes.{names}
use Rattle.meaning.specs.Defining.{DefinitionRow, definition_row}
use Rattle.meaning.specs.Resolving.{Resolved, end, Owner, resolve}
use Rattle.meaning.proofs.Entries.{joins, contributed, resolve_more}
use Rattle.meaning.proofs.Standing.{Standing, standing_if, select, standing}
use Rattle.layout.specs.Kept.{Entry, spec_entries}
use Rattle.blocks.specs.Blocks.{BlockAt, IsStated}
use Rattle.scopes.specs.Situations.{Situation, HasDefinition, this_definition, later_definition, Stands, ScopeAt, no_scope, scope, Nth}
use Rattle.scopes.specs.Given.{Given, Attribute, Below, entry_rows}
use Rattle.scopes.proofs.Answering.{spec_rows}
use Rattle.scopes.specs.declared.Sizes.{Sizes}
use Rattle.resolving.specs.declared.Owner.{Owner as OwnerOf}
use Rattle.resolving.specs.Written.{Wrote, Owns}
use Rattle.resolving.specs.Promises.{inner_of, stated_entries, default_entries, Room, ResolvesStated, ResolvesDefault, Left, Turn, ResolvesRow, ResolvesUnder, Resolves}
use Rattle.scopes.proofs.Descents.{scope_facts}
use Rattle.lookups.proofs.Standings.{file_stands}
use Rattle.lookups.proofs.Attributes.{under_cell, name_at}
use Rattle.resolving.proofs.Writes.{wrote_none, wrote_length, wrote_joins, wrote_same, joins_end, joins_joins}

-- A row of the loop ------------------------------------------------------------------------------------------------------------------------

-- The row is that of the first definition left.
record Hit (f : File) (u : Word) (ds : Definitions) (j : ℕ) (left : Definitions) : Type 0 where
  defined : Defined
  after : Definitions
  is : left ≡ define defined.definition defined.values after
  row : defined.definition.row ≡ j
  goes_on : Left f u ds (suc j) after

record Peek (f : File) (u : Word) (ds : Definitions) (j : ℕ) (left : Definitions) : Type 0 where
  entry : Entry
  nth : Nth (spec_entries f.specs) j entry
  miss : (entry.under.place ≡ u.place → ⊥) → Left f u ds (suc j) left
  hit : entry.under.place ≡ u.place → Hit f u ds j left

head_number : List Standing → ℕ
head_number [] = 0
head_number (x ∷ xs) = x.number

tail_of : List Standing → List Standing
tail_of [] = []
tail_of (x ∷ xs) = xs

next_whole : (front : List Entry) (x : Entry) (more : List Entry) {l : List Entry} → l ≡ front ++ (x ∷ more) → l ≡ (front ++ (x ∷ [])) ++ more
next_whole front x more e = e ∙ sym (append_assoc front (x ∷ []) more)

next_place : (front : List Entry) (x : Entry) {j : ℕ} → length front ≡ j → length (front ++ (x ∷ [])) ≡ suc j
next_place front x e = let a = length-append front (x ∷ []) in omega arith

hit_of : {f : File} {u : Word} {ds : Definitions} {j : ℕ} (left : Definitions) (front : List Entry) (x : Entry) (more : List Entry)
    → spec_entries f.specs ≡ front ++ (x ∷ more) → length front ≡ j
    → record { number = j; row = definition_row x.under x.definition } ∷ select u.place (suc j) (entry_rows more) ≡ standing u left
    → Stands f.specs u ds → ((y : Defined) → HasDefinition left y → HasDefinition ds y) → Hit f u ds j left
unfolding standing select head_number tail_of
hit_of no_more front x more w p e q a = absurd (let n = ap (λ (l : List Standing). length l) e in omega arith)
hit_of (define d vs rest) front x more w p e q a = record {
  defined = record { definition = d; values = vs };
  after = rest;
  is = refl;
  row = sym (ap head_number e);
  goes_on = record {
    front = front ++ (x ∷ []);
    rest = more;
    whole = next_whole front x more w;
    place = next_place front x p;
    selected = ap tail_of e;
    stands = q;
    among = λ y h. a y (later_definition h);
  };
}

peek_in : {f : File} {u : Word} {ds : Definitions} {j : ℕ} {left : Definitions} (front rest : List Entry) → spec_entries f.specs ≡ front ++ rest → length front ≡ j
    → select u.place j (entry_rows rest) ≡ standing u left → Stands f.specs u ds → ((y : Defined) → HasDefinition left y → HasDefinition ds y)
    → j < length (spec_entries f.specs) → Peek f u ds j left
unfolding select entry_rows definition_row span_of standing_if
peek_in front [] w p s q a h =
    absurd (let n = ap (λ (l : List Entry). length l) w in let m = ap (λ (l : List Entry). length l) (append-nil front) in omega arith)
peek_in {f} {u} {ds} {j} {left} front (x ∷ more) w p s q a h =
    let r = definition_row x.under x.definition in
    let S = select u.place (suc j) (entry_rows more) in
    record {
      entry = x;
      nth = record { front = front; rest = more; whole = w; place = p };
      miss = λ n. record {
        front = front ++ (x ∷ []);
        rest = more;
        whole = next_whole front x more w;
        place = next_place front x p;
        selected = sym (ap (λ b. standing_if b j r ++ S) (ne_eqb x.under.place u.place n)) ∙ s;
        stands = q;
        among = a;
      };
      hit = λ e. hit_of left front x more w p (sym (ap (λ b. standing_if b j r ++ S) (eq-eqb x.under.place u.place e)) ∙ s) q a;
    }

peek : {f : File} {u : Word} {ds : Definitions} {j : ℕ} {left : Definitions} → Left f u ds j left → j < length (spec_entries f.specs) → Peek f u ds j left
peek l h = peek_in l.front l.rest l.whole l.place l.selected l.stands l.among h

pub left_start : {s : List ℕ} {f : File} {u : Word} {ds : Definitions} → Situation s f → Stands f.specs u ds → Left f u ds 0 ds
left_start {s} {f} {u} {ds} p q = record {
  front = [];
  rest = spec_entries f.specs;
  whole = refl;
  place = refl;
  selected = ap (select u.place 0) (spec_rows f.specs) ∙ (scope_facts p q).scope;
  stands = q;
  among = λ x h. h;
}

-- Behind the last row of a scope nothing is left.
select_low : (p j : ℕ) (rs : List DefinitionRow) (k : ℕ) (x : Standing) (xs : List Standing) → select p j rs ≡ x ∷ xs → j ≤ x.number
unfolding select standing_if head_number
select_low p j [] k x xs e = absurd (let n = ap (λ (l : List Standing). length l) e in omega arith)
select_low p j (r ∷ rs) k x xs e = by (eqb r.under.place p) e (select_low p (suc j) rs k x xs)
  where
    by : (b : Bool) → standing_if b j r ++ select p (suc j) rs ≡ x ∷ xs → (select p (suc j) rs ≡ x ∷ xs → suc j ≤ x.number) → j ≤ x.number
    by true q ih = let n : j ≡ x.number = ap head_number q in omega arith
    by false q ih = let n = ih q in omega arith

pub left_end : {f : File} {u : Word} {ds : Definitions} {j : ℕ} (left : Definitions) → Left f u ds j left → Below j ds → left ≡ no_more
unfolding standing
left_end no_more l b = refl
left_end {u = u} {j = j} (define d vs rest) l b =
    let x : Defined = record { definition = d; values = vs } in
    let y : Standing = record { number = d.row; row = definition_row u d } in
    let h : j ≤ y.number = select_low u.place j (entry_rows l.rest) 0 y (standing u rest) l.selected in
    let k = b x (l.among x this_definition) in
    absurd (omega arith)

-- What a row contributes -------------------------------------------------------------------------------------------------------------------

attribute : {j : ℕ} {f : File} {u : Word} {ds left : Definitions} → Left f u ds j left → (h : Hit f u ds j left) → Attribute f j h.defined
attribute {j} {f} {u} {ds} {left} l h = record {
  under = u;
  scope = ds;
  stands = l.stands;
  has = l.among h.defined (subst (λ ks. HasDefinition ks h.defined) (sym h.is) this_definition);
  row = h.row;
}

turn : {j n : ℕ} {v : List ℕ} {f : File} {u : Word} {ds left : Definitions} {ss : Statements} {ow : Owner} {v' : List ℕ} {r : ℕ} (h : Hit f u ds j left)
    → Wrote v n (contributed h.defined.definition h.defined.values f.objects ss) ow v' r → Turn f u ds ss j left v n ow v' r
turn {f} {ss = ss} h q = record {
  after = h.after;
  made = contributed h.defined.definition h.defined.values f.objects ss;
  goes_on = h.goes_on;
  wrote = q;
  whole = ap (λ ks. resolve ks f.objects ss) h.is ∙ resolve_more h.defined.definition h.defined.values h.after f.objects ss;
}

contributed_stated : (f : File) (x : Defined) (ss : Statements) → among x.definition.name (names ss) ≡ true
    → stated_entries f x ss ≡ contributed x.definition x.values f.objects ss
unfolding contributed choose stated_entries inner_of
contributed_stated f x ss e = rw e

contributed_default : (f : File) (x : Defined) (ss : Statements) → among x.definition.name (names ss) ≡ false
    → default_entries f x ≡ contributed x.definition x.values f.objects ss
unfolding contributed choose default_entries inner_of
contributed_default f x ss e = rw e

row_place : {s d e o st : List ℕ} {z : Sizes} {j : ℕ} {f : File} {u : Word} {ds left : Definitions} (g : Given s d e o st z f) (l : Left f u ds j left) (h : j < z.definitions)
    → let p = peek l (let i = g.tables.definitions in omega arith) in get_or d (j * 19 + 0) 0 ≡ p.entry.under.place
row_place g l h = let i = g.tables.definitions in under_cell g.tables (peek l (omega arith)).nth

module _ {s d e o st v : List ℕ} {z : Sizes} {j key from till : ℕ} {w : OwnerOf} {n : ℕ} where
  -- Another scope's row.
  pub row_other : (get_or d (j * 19 + 0) 0 ≡ key → ⊥) → ResolvesRow s d e o st v z j key from till w n v n
  unfolding joins
  row_other c f u ds left ss ow g p l h b own room =
      let i = g.tables.definitions in
      let k = peek l (omega arith) in
      let q = row_place g l h in
      record {
        after = left;
        made = end;
        goes_on = k.miss (λ m. c (q ∙ m ∙ p));
        wrote = wrote_none v n ow room.low;
        whole = refl;
      }

  -- An attribute of the scope: stated, or not.
  pub row_stated : {at len : ℕ} {q : Bool} {v' : List ℕ} {r : ℕ} → at ≡ get_or d (j * 19 + 2) 0 → len ≡ get_or d (j * 19 + 3) 0
      → IsStated s st from till at len q → q ≡ true → ResolvesStated s d e o st v z j from till w n v' r → ResolvesUnder s d e o st v z j key from till w n v' r
  row_stated {at} {len} a₁ a₂ is eq res = record {
    resolves = λ c f u ds left ss ow g p l h b own room.
        let i = g.tables.definitions in
        let k = peek l (omega arith) in
        let t = k.hit (sym (row_place g l h) ∙ c ∙ sym p) in
        let a = attribute l t in
        let y = t.defined in
        let m = is ss y.definition.name b (name_at g.tables a at len a₁ a₂) in
        turn t (wrote_same (contributed_stated f y ss (sym m ∙ eq)) (res f y ss ow g a b own room));
  }

  pub row_default : {at len : ℕ} {q : Bool} {v' : List ℕ} {r : ℕ} → at ≡ get_or d (j * 19 + 2) 0 → len ≡ get_or d (j * 19 + 3) 0
      → IsStated s st from till at len q → q ≡ false → ResolvesDefault s d e o st v z j w n v' r → ResolvesUnder s d e o st v z j key from till w n v' r
  row_default {at} {len} a₁ a₂ is eq res = record {
    resolves = λ c f u ds left ss ow g p l h b own room.
        let i = g.tables.definitions in
        let k = peek l (omega arith) in
        let t = k.hit (sym (row_place g l h) ∙ c ∙ sym p) in
        let a = attribute l t in
        let y = t.defined in
        let m = is ss y.definition.name b (name_at g.tables a at len a₁ a₂) in
        turn t (wrote_same (contributed_default f y ss (sym m ∙ eq)) (res f y ow g a own room));
  }

-- The loop ---------------------------------------------------------------------------------------------------------------------------------

-- At row j: what is made so far, and the definitions left.
pub record Going (f : File) (u : Word) (ds : Definitions) (ss : Statements) (j : ℕ) (v : List ℕ) (n : ℕ) (ow : Owner) (v' : List ℕ) (m : ℕ) : Type 0 where
  pub left : Definitions
  pub made : Resolved
  pub goes_on : Left f u ds j left
  pub wrote : Wrote v n made ow v' m
  pub whole : resolve ds f.objects ss ≡ joins made (resolve left f.objects ss)

-- So it is for every scope whose word is at key.
abbrev pub Goes : (s d e o st v : List ℕ) (z : Sizes) (limit key from till : ℕ) (w : OwnerOf) (n : ℕ) (v' : List ℕ) (m j : ℕ) → Type 0
Goes s d e o st v z limit key from till w n v' m j =
    (f : File) (u : Word) (ds : Definitions) (ss : Statements) (ow : Owner) → Given s d e o st z f → u.place ≡ key → Stands f.specs u ds → Below limit ds
    → limit ≤ z.definitions → BlockAt s st from till ss → Owns w ow → Room v n → Going f u ds ss j v n ow v' m

module _ {s d e o st v : List ℕ} {z : Sizes} {limit key from till : ℕ} {w : OwnerOf} {n : ℕ} where
  pub goes_start : Goes s d e o st v z limit key from till w n v n 0
  unfolding joins
  goes_start f u ds ss ow g p q b lim bl own room =
      record { left = ds; made = end; goes_on = left_start g.tables.situation q; wrote = wrote_none v n ow room.low; whole = refl }

  pub goes_more : {v₁ : List ℕ} {m j : ℕ} {v₂ : List ℕ} {r : ℕ} → j < limit → Goes s d e o st v z limit key from till w n v₁ m j
      → ResolvesRow s d e o st v₁ z j key from till w m v₂ r → Goes s d e o st v z limit key from till w n v₂ r (j + 1)
  goes_more {v₁} {m} {j} h i row f u ds ss ow g p q b lim bl own room =
      let k = i f u ds ss ow g p q b lim bl own room in
      let l = wrote_length k.wrote in
      let c = k.wrote.count in
      let x = room.room in
      let next : suc j ≡ j + 1 = omega arith in
      let t = row f u ds k.left ss ow g p k.goes_on (omega arith) bl own (record { room = omega arith; low = omega arith }) in
      record {
        left = t.after;
        made = joins k.made t.made;
        goes_on = subst (λ i. Left f u ds i t.after) next t.goes_on;
        wrote = wrote_joins x k.wrote t.wrote;
        whole = k.whole ∙ ap (joins k.made) t.whole ∙ sym (joins_joins k.made t.made (resolve t.after f.objects ss));
      }

  pub goes_end : {v' : List ℕ} {m j : ℕ} → limit ≤ j → (key ≡ 0 → ⊥) → Goes s d e o st v z limit key from till w n v' m j
      → Resolves s d e o st v z limit key from till w n v' m
  unfolding resolve
  goes_end {v'} {m} {j} h nz i f ds ss ow g sc b lim bl own room = by key ds refl b sc
    where
      by : (k : ℕ) (ds : Definitions) → k ≡ key → Below limit ds → ScopeAt f k ds → Wrote v n (resolve ds f.objects ss) ow v' m
      by zero no_more e b no_scope = absurd (nz (sym e))
      by k ds e b (scope {u} p q) =
          let k = i f u ds ss ow g (p ∙ e) q b lim bl own room in
          let e = left_end k.left k.goes_on (λ x y. let lo = b x y in omega arith) in
          wrote_same (sym (k.whole ∙ ap (λ ks. joins k.made (resolve ks f.objects ss)) e ∙ joins_end k.made)) k.wrote

  -- The place 0 is no word's.
  pub resolves_none : key ≡ 0 → Resolves s d e o st v z limit key from till w n v n
  unfolding resolve
  resolves_none e f ds ss ow g sc b lim bl own room = by key ds e sc
    where
      by : (k : ℕ) (ds : Definitions) → k ≡ 0 → ScopeAt f k ds → Wrote v n (resolve ds f.objects ss) ow v n
      by zero no_more z no_scope = wrote_none v n ow room.low
      by k ds z (scope {u} p q) = let k = (file_stands g.tables.situation q).0.later in absurd (omega arith)
