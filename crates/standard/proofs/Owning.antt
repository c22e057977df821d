-- The scope of a kind, and that of an attribute. Assumes nothing.
use mathlib.Core.Path.{◌≡◌, refl, sym, ◌∙◌, ap, ap₂, subst}
use mathlib.Core.List.{List, [], ◌∷◌, append-nil}
use mathlib.Core.Bool.{Bool, true, false}
use mathlib.Core.Option.{Option, none, some}
use Prim.Native.Nat.{ℕ, ◌+◌, ◌*◌}
use native.Mathlib.Omega.{arith}
use lib.ListN.{get_or}
use lib.Dec.{eqb}
use Rattle.token.specs.Find.{pick}
use Rattle.token.specs.Tokens.{part_of}
use Rattle.grammar.specs.Grammar.{Kind}
use Rattle.meaning.specs.Syntax.{Values, Spec, File}
use Rattle.meaning.specs.Kinds.{kind_number, same_kind}
use Rattle.layout.specs.Kept.{spec_choices, kind_place}
use Rattle.scopes.specs.Situations.{Situation, HasSpec, this_spec, later_spec, under_kind, no_scope, scope, Reached}
use Rattle.scopes.proofs.Descents.{scope_facts}
use Rattle.standard.specs.Asking.{Step, Scope, find_spec, scope_or, scope_of, into, and_then, along}
use Rattle.standard.specs.Descending.{Entered, nothing_asked, entered, StepsInto}
use Rattle.standard.specs.Findings.{Knows, PathIs, no_step, one_step, ScopeIs, Reaches, nowhere, reaches, OwnsKind, Owns}
use Rattle.standard.specs.declared.Known.{Known}
use Rattle.standard.specs.declared.Owner.{Owner}

-- The spec of a kind, by the place of its word.
pub data KindCase (k : Kind) (xs : List Spec) : Type 0 where
  no_kind : find_spec k xs ≡ none → kind_place (kind_number k) xs ≡ 0 → KindCase k xs
  a_kind : (x : Spec) → find_spec k xs ≡ some x → HasSpec xs x → kind_place (kind_number k) xs ≡ x.word.place → KindCase k xs

pub kind_case : (k : Kind) (xs : List Spec) → KindCase k xs
unfolding find_spec kind_place same_kind
kind_case k [] = no_kind refl refl
kind_case k (x ∷ xs) = by (eqb (kind_number k) (kind_number x.kind)) refl (kind_case k xs)
  where
    by : (b : Bool) → eqb (kind_number k) (kind_number x.kind) ≡ b → KindCase k xs → KindCase k (x ∷ xs)
    by true e c = a_kind x (ap (λ (b : Bool). pick b (some x) (find_spec k xs)) e) this_spec (ap (λ (b : Bool). pick b x.word.place (kind_place (kind_number k) xs)) e)
    by false e (no_kind g h) = no_kind (ap (λ (b : Bool). pick b (some x) (find_spec k xs)) e ∙ g) (ap (λ (b : Bool). pick b x.word.place (kind_place (kind_number k) xs)) e ∙ h)
    by false e (a_kind y g i h) =
        a_kind y (ap (λ (b : Bool). pick b (some x) (find_spec k xs)) e ∙ g) (later_spec i) (ap (λ (b : Bool). pick b x.word.place (kind_place (kind_number k) xs)) e ∙ h)

module _ (x : Known) (n key : ℕ) (e : key ≡ get_or x.places n 0) where
  place_is : {s d t : List ℕ} {f : File} (k : Kind) → Knows s d t x f → n ≡ kind_number k → key ≡ kind_place (kind_number k) f.specs
  place_is k h q = e ∙ ap (λ (m : ℕ). get_or x.places m 0) q ∙ h.places.place k

  pub kind_absent : key ≡ 0 → OwnsKind x n (record { word = x.name; key = 0 })
  unfolding scope_of scope_or
  kind_absent z s d t f k h q = by (kind_case k f.specs)
    where
      by : KindCase k f.specs → ScopeIs f (scope_of f k) (record { word = x.name; key = 0 })
      by (no_kind g i) =
          subst (λ (o : Option Spec). ScopeIs f (scope_or f.implementation_name o) (record { word = x.name; key = 0 })) (sym g)
          (record { word = sym h.name; there = h.named; at = no_scope })
      by (a_kind y g i j) =
          let l = (scope_facts h.situation (under_kind i)).good.later in
          let p = place_is k h q in
          absurd (omega (arith, l, p, z, j))

  pub kind_there : (key ≡ 0 → ⊥) → OwnsKind x n (record { word = key; key = key })
  unfolding scope_of scope_or
  kind_there z s d t f k h q = by (kind_case k f.specs)
    where
      by : KindCase k f.specs → ScopeIs f (scope_of f k) (record { word = key; key = key })
      by (no_kind g i) = absurd (z (place_is k h q ∙ i))
      by (a_kind y g i j) =
          let p = place_is k h q ∙ j in
          subst (λ (o : Option Spec). ScopeIs f (scope_or f.implementation_name o) (record { word = key; key = key })) (sym g)
          (record { word = sym p; there = let l = (scope_facts h.situation (under_kind i)).good.later in omega (arith, l, p); at = scope (sym p) (under_kind i) })

-- All enumerators are in the table.
pub all_reached : {s d e : List ℕ} {x : Known} {f : File} → Knows s d e x f → (vs : Values) → Reached f x.enumerators vs
all_reached {f = f} h vs = record {
  front = spec_choices f.specs;
  rest = [];
  whole = sym (append-nil (spec_choices f.specs));
  many = sym h.enumerators;
  room = let l = h.enumerators_fit in omega (arith, l);
  free = tt;
}

into_any : {s : List ℕ} {f : File} {y : Option Scope} {u : ℕ} → Situation s f → Entered f y u → Reaches f (and_then y (λ w. some w)) (record { word = u; key = u })
unfolding and_then
into_any k nothing_asked = nowhere refl
into_any k (entered p t) = reaches (record { word = p; there = let l = (scope_facts k t).good.later in omega (arith, l, p); at = scope p t })

module _ (g rs s d e : List ℕ) (x : Known) (i n : ℕ) (k : Owner) (z : n ≡ get_or rs (i * 14 + 0) 0) (o : OwnsKind x n k) (len : ℕ) (q : len ≡ get_or rs (i * 14 + 8) 0) where
  -- No step leads down.
  pub own_kind : len ≡ 0 → Owns g rs s d e x i k
  unfolding along
  own_kind v ws f a h r = by a.path r.path
    where
      by : (ps : List Step) → PathIs g rs i ps → Reaches f (along (scope_of f a.kind) ps) k
      by _ (no_step c) = reaches (o s d e f a.kind h (z ∙ r.kind))
      by _ (one_step c p t) = absurd (c (sym q ∙ v))

  -- One does.
  pub own_value : (len ≡ 0 → ⊥) → (at at2 len2 u : ℕ) (b c : List ℕ) → at ≡ get_or rs (i * 14 + 7) 0 → at2 ≡ get_or rs (i * 14 + 9) 0 → len2 ≡ get_or rs (i * 14 + 10) 0
      → b ≡ part_of g at len → c ≡ part_of g at2 len2 → StepsInto s d e x.definitions x.enumerators k.key b c u
      → Owns g rs s d e x i (record { word = u; key = u })
  unfolding along and_then
  own_value v at at2 len2 u b c e₁ e₂ e₃ hb hc st ws f a h r = by a.path r.path
    where
      kind-scope : ScopeIs f (scope_of f a.kind) k
      kind-scope = o s d e f a.kind h (z ∙ r.kind)

      into-it : (y : Option Scope) → Entered f y u → Reaches f (and_then y (λ w. some w)) (record { word = u; key = u })
      into-it y m = into_any h.situation m

      by : (ps : List Step) → PathIs g rs i ps → Reaches f (along (scope_of f a.kind) ps) (record { word = u; key = u })
      by _ (no_step y) = absurd (v (q ∙ y))
      by _ (one_step {p} y t w) =
          let l = h.definitions_fit in
          into-it (into (scope_of f a.kind) p)
          (st f (scope_of f a.kind) p h.situation h.in_definitions h.in_enumerators h.definitions (omega (arith, l)) (all_reached h) kind-scope.at
          (t ∙ sym (hb ∙ ap₂ (part_of g) e₁ q)) (w ∙ sym (hc ∙ ap₂ (part_of g) e₂ e₃)))
