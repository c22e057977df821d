-- The values of all objects, object by object. Assumes nothing.
use mathlib.Core.Path.{◌≡◌, refl, sym, ◌∙◌, ap, subst}
use mathlib.Core.List.{List, [], ◌∷◌, ◌++◌, append_assoc, append-nil}
use Prim.Native.Nat.{ℕ, zero, suc, ◌+◌, ◌*◌, ◌≤◌, ◌<◌}
use native.Mathlib.Omega.{arith}
use lib.ListN.{length, get_or, length-append}
use Rattle.meaning.specs.Syntax.{Definitions, no_more, Object, File, statements_in}
use Rattle.meaning.specs.Kinds.{kind_number}
use Rattle.meaning.specs.Scopes.{of_kind}
use Rattle.meaning.specs.Resolving.{of_object, object_values, all_values}
use Rattle.meaning.specs.Cells.{owner_sort, owner_row}
use Rattle.layout.specs.Kept.{statement_count, kind_place}
use Rattle.blocks.specs.Blocks.{BlockAt}
use Rattle.scopes.specs.Situations.{ScopeAt, no_scope, scope}
use Rattle.scopes.specs.declared.Sizes.{Sizes}
use Rattle.scopes.specs.Given.{Tables, Given, Below, Places}
use Rattle.resolving.specs.declared.Owner.TheVariants.{Object as ObjectOwner}
use Rattle.resolving.specs.Written.{WroteAll}
use Rattle.resolving.specs.Promises.{Resolves, ResolvesAll}
use Rattle.layout.proofs.Codes.{kind_low}
use Rattle.scopes.proofs.Descents.{scope_of_kind}
use Rattle.lookups.proofs.Attributes.{stands_below, KeptObject, kept_object}
use Rattle.resolving.proofs.Entrances.{none_below}
use Rattle.resolving.proofs.Writes.{wrote_first, wrote_next, all_length}

scope_below : {s d e o : List ℕ} {z : Sizes} {f : File} (k : ℕ) (ds : Definitions) → Tables s d e o z f → ScopeAt f k ds → Below z.definitions ds
scope_below {z = z} zero no_more g no_scope = none_below z.definitions
scope_below k ds g (scope e q) = stands_below g q

values_next : (f : File) (front : List Object) (x : Object) → all_values f (front ++ (x ∷ [])) ≡ all_values f front ++ (object_values f x ∷ [])
unfolding all_values
values_next f [] x = refl
values_next f (y ∷ front) x = ap (λ l. object_values f y ∷ l) (values_next f front x)

length_values : (f : File) (xs : List Object) → length (all_values f xs) ≡ length xs
unfolding all_values
length_values f [] = refl
length_values f (x ∷ xs) = ap suc (length_values f xs)

-- The loop at object i: those before it are done.
pub record Doing (f : File) (i : ℕ) (v : List ℕ) (v' : List ℕ) (n : ℕ) : Type 0 where
  pub front : List Object
  pub rest : List Object
  pub whole : f.objects ≡ front ++ rest
  pub place : length front ≡ i
  pub wrote : WroteAll v (all_values f front) v' n

abbrev pub Does : (s d e o st v : List ℕ) (z : Sizes) (ps : List ℕ) (v' : List ℕ) (n i : ℕ) → Type 0
Does s d e o st v z ps v' n i = (f : File) → Given s d e o st z f → Places f ps → length v ≡ 18432 → Doing f i v v' n

-- The object of the row is there.
record Here (s o st v v₁ : List ℕ) (n i : ℕ) (f : File) : Type 0 where
  front : List Object
  object : Object
  rest : List Object
  whole : f.objects ≡ front ++ (object ∷ rest)
  place : length front ≡ i
  wrote : WroteAll v (all_values f front) v₁ n
  row_is : KeptObject s o st i front object

here : {s d e o st v : List ℕ} {z : Sizes} {ps : List ℕ} {v₁ : List ℕ} {n i : ℕ} {f : File} → i < z.objects → Does s d e o st v z ps v₁ n i
    → Given s d e o st z f → Places f ps → length v ≡ 18432 → Here s o st v v₁ n i f
here {s} {d} {e} {o} {st} {v} {z} {ps} {v₁} {n} {i} {f} h t g p l = by k.rest k.whole
  where
    k : Doing f i v v₁ n
    k = t f g p l

    by : (rest : List Object) → f.objects ≡ k.front ++ rest → Here s o st v v₁ n i f
    by [] w =
        let a = ap (λ (os : List Object). length os) (w ∙ append-nil k.front) in
        let c = k.place in
        let d = g.tables.objects in
        absurd (omega arith)
    by (x ∷ rest) w = record { front = k.front; object = x; rest = rest; whole = w; place = k.place; wrote = k.wrote; row_is = kept_object k.front x rest g w k.place }

module _ {s d e o st v : List ℕ} {z : Sizes} {ps : List ℕ} where
  pub does_start : Does s d e o st v z ps v 0 0
  unfolding all_values
  does_start f g p l = record { front = []; rest = f.objects; whole = refl; place = refl; wrote = wrote_first v }

  pub does_end : {v' : List ℕ} {n i : ℕ} → z.objects ≤ i → Does s d e o st v z ps v' n i → ResolvesAll s d e o st v z ps v' n
  does_end {v'} {n} {i} h t f g p l = by k.rest k.whole
    where
      k : Doing f i v v' n
      k = t f g p l

      by : (rest : List Object) → f.objects ≡ k.front ++ rest → WroteAll v (all_values f f.objects) v' n
      by [] w = subst (λ os. WroteAll v (all_values f os) v' n) (sym (w ∙ append-nil k.front)) k.wrote
      by (x ∷ rest) w =
          let a = ap (λ (os : List Object). length os) w in
          let b = length-append k.front (x ∷ rest) in
          let c = k.place in
          let d = g.tables.objects in
          absurd (omega arith)

  module _ {v₁ : List ℕ} {n i kind : ℕ} (h : i < z.objects) (c₀ : kind ≡ get_or o (i * 10 + 0) 0) (t : Does s d e o st v z ps v₁ n i) where
    pub does_stop : 13 ≤ kind → ResolvesAll s d e o st v z ps v₁ n
    does_stop lo f g p l =
        let x = here h t g p l in
        let a = x.row_is.kind in
        let b = kind_low x.object.kind in
        absurd (omega arith)

    pub does_more : {key from till : ℕ} {v₂ : List ℕ} {r : ℕ} → key ≡ get_or ps kind 0 → from ≡ get_or o (i * 10 + 8) 0 → till ≡ get_or o (i * 10 + 9) 0
        → Resolves s d e o st v₁ z z.definitions key from till (ObjectOwner i) n v₂ r → Does s d e o st v z ps v₂ r (i + 1)
    unfolding object_values owner_sort owner_row
    does_more {key} {from} {till} {v₂} {r} c₁ c₂ c₃ res f g p l =
        let x = here h t g p l in
        let y = x.object in
        let R = x.row_is in
        let k : kind ≡ kind_number y.kind = c₀ ∙ R.kind in
        let q : key ≡ kind_place (kind_number y.kind) f.specs = c₁ ∙ ap (λ m. get_or ps m 0) k ∙ p.place y.kind in
        let ds = of_kind y.kind f.specs in
        let sc : ScopeAt f key ds = subst (λ m. ScopeAt f m ds) (sym q) (scope_of_kind f y.kind) in
        let be : Below z.definitions ds = scope_below key ds g.tables sc in
        let a : from ≡ statement_count x.front = c₂ ∙ R.from in
        let b : till ≡ statement_count x.front + statements_in y.statements = c₃ ∙ R.till in
        let bl : BlockAt s st from till y.statements = subst (λ m. BlockAt s st m till y.statements) (sym a) (subst (λ m. BlockAt s st (statement_count x.front) m y.statements) (sym b) R.block) in
        let m = all_length x.wrote in
        let c = x.wrote.count in
        let w = res f ds y.statements (of_object i) g sc be (omega arith) bl (record { sort = refl; row = refl }) (record { room = omega arith; low = omega arith }) in
        let u = x.place in
        let e₁ = length-append x.front (y ∷ []) in
        record {
          front = x.front ++ (y ∷ []);
          rest = x.rest;
          whole = x.whole ∙ sym (append_assoc x.front (y ∷ []) x.rest);
          place = omega arith;
          wrote = subst (λ rs. WroteAll v rs v₂ r) (sym (values_next f x.front y)) (wrote_next l (length_values f x.front ∙ u) x.wrote w);
        }
