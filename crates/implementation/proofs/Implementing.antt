-- One law for each way in which a reader of the implementation answers. Assumes nothing.
use mathlib.Core.Path.{◌≡◌, refl, sym, ◌∙◌, ap, ap₂}
use mathlib.Core.List.{List, [], ◌∷◌, ◌++◌}
use mathlib.Core.Bool.{true, false}
use Prim.Native.Nat.{ℕ, ◌+◌, ◌-◌}
use Rattle.filling.specs.Tables.{Table}
use Rattle.grammar.specs.Grammar.{◌·◌, ◌▸◌, ∎, matches, name, kind, the, sg, IMPLEMENTATION, lbrace, rbrace, semicolon, D, definitions, spec, specs, implementation, spec_is, a_spec, no_spec, implementation_is}
use Rattle.grammar.specs.Readers.{class_at, Meets}
use Rattle.grammar.specs.declared.Look.{Look}
use Rattle.grammar.proofs.Rules.{spec_by, specs_again, specs_done, implementation_by}
use Rattle.meaning.specs.Syntax.{through, definitions_in, enumerators_in}
use Rattle.meaning.specs.Actions.{means, specifying}
use Rattle.layout.specs.Kept.{entries, choices, spec_entries, spec_choices, definition_cells, choice_cells, map_cells}
use Rattle.layout.proofs.Lengths.{map_append}
use Rattle.filling.specs.Fills.{Walks}
use Rattle.filling.proofs.Filling.{Going, Effects, front_of, behind, plain, first, matched, ◌▻◌, told_as, told_rule, going_on, gone, both}
use Rattle.filling.proofs.Codes.{seen_place, seen_length, kind_seen}
use Rattle.definitions.specs.Rows.{Fill, Rows}
use Rattle.definitions.proofs.Acts.{tables, then}
use Rattle.implementation.specs.Places.{Noted, note_all, heads, All, FillAll, SpecRows, AllRows, ImplementationRows}
use Rattle.implementation.proofs.Noting.{noting}

abbrev pub beside : All → All → All
beside a b = (a.0 ++ b.0, then a.1 b.1)

pub all : Effects All (Noted × (Table × Table)) beside ([], ([], [])) FillAll
all = both noting tables

module _ {s : List ℕ} {a : Look} {x y : Table × Table} where
  pub spec_there : {e e' v : ℕ} {b c f r : Look} → v ≡ a.next - a.at → Meets 1 (kind · ∎) s a b → Meets e (sg lbrace · ∎) s b c
      → Walks Fill 0 (definitions ▸ ∎) (λ w m. Rows (record { at = a.at; len = v; list = 0 }) w m.0) s c f x y → Meets e' (sg rbrace · D ▸ sg semicolon · ∎) s f r
      → Walks Fill 1 (spec ▸ ∎) (λ w m. SpecRows s a w m.0) s a r x y
  unfolding means front_of behind Rows SpecRows
  spec_there p k o w c =
      let f = matched kind k ▻ plain (sg lbrace · ∎) o ▻ w.fills ▻ plain (sg rbrace · D ▸ sg semicolon · ∎) c in
      record {
        what = w.what;
        does = w.does;
        fills = record {
          meets = spec_by f.meets;
          told = λ h.
              told_rule (λ m. SpecRows s a w.what m) spec_is
              (told_as (f.told h) (λ m q i j.
              let z = q.0.0 in
              let r = q.1.1.0 m.0 (seen_place z, seen_length z ∙ sym p) i j in
              (z, kind_seen z q.0.1, r.0, r.1)));
        };
      }

module _ {s : List ℕ} {a : Look} {n n₁ n₂ : Noted} {x y z : Table × Table} where
  pub specs_on : {k : ℕ} {o r : Look} → Going beside FillAll specs AllRows s o a (n, x) (n₁, y) → matches kind (class_at a.code) ≡ true → k ≡ a.code - 9
      → n₂ ≡ note_all n₁ ((k, a.at) ∷ []) → Walks Fill 1 (spec ▸ ∎) (λ w m. SpecRows s a w m.0) s a r y z → Going beside FillAll specs AllRows s o r (n, x) (n₂, z)
  unfolding means specifying front_of behind SpecRows AllRows heads spec_entries spec_choices
  specs_on {k} g h p q w =
      going_on all AllRows (spec ▸ ∎) a_spec {w = ((k, a.at) ∷ [], w.what)} g (specs_again g.still h w.fills.meets) (q, w.does) w.fills
      (λ m more u v i j.
      let c = m.0 i j in
      let r = u i j in
      let i' = i + definitions_in c.definitions in
      let j' = j + enumerators_in c.definitions in
      let t = v i' j' in
      let xs = m.1.0 i' j' in (
        ap₂ ◌∷◌ (ap₂ (λ (b c : ℕ). (b, c)) (r.1 ∙ sym p) (seen_place r.0)) t.0,
        map_append definition_cells (entries c.definitions c.word 0) (spec_entries xs) ∙ ap₂ ◌++◌ r.2 t.1,
        map_append choice_cells (choices c.definitions) (spec_choices xs) ∙ ap₂ ◌++◌ r.3 t.2,
      ))

module _ {s : List ℕ} {a : Look} {x y : Noted × (Table × Table)} where
  pub specs_gone : {o : Look} → Going beside FillAll specs AllRows s o a x y → matches kind (class_at a.code) ≡ false
      → Walks FillAll 0 (specs ▸ ∎) (λ w m. AllRows w m.0) s o a x y
  unfolding means AllRows heads spec_entries spec_choices map_cells
  specs_gone g h = gone all AllRows no_spec (λ i j. (refl, refl, refl)) g (specs_done g.still h)

module _ {s : List ℕ} {a h : Look} {x y : Noted × (Table × Table)} where
  pub implementation_there : {e₁ e₂ e₃ e₄ e₅ v : ℕ} {b c f g l r : Look} → Meets 1 (the IMPLEMENTATION · ∎) s a b → Meets e₁ (name · ∎) s b c → Meets e₂ (sg lbrace · ∎) s c f
      → Walks FillAll 0 (specs ▸ ∎) (λ w m. AllRows w m.0) s f l x y → Meets e₃ (sg rbrace · ∎) s l g → Meets e₄ (D ▸ ∎) s g h → Meets e₅ (sg semicolon · ∎) s h r
      → v ≡ (h.at + (h.next - h.at)) - a.at → Walks FillAll 1 (implementation ▸ ∎) (λ w m. ImplementationRows a.at v w m.0) s a r x y
  unfolding means through front_of behind AllRows ImplementationRows
  implementation_there {v} i n o w c d z p =
      let f = first (the IMPLEMENTATION) i ▻ plain (name · ∎) n ▻ plain (sg lbrace · ∎) o ▻ w.fills ▻ plain (sg rbrace · ∎) c ▻ plain (D ▸ ∎) d ▻ first (sg semicolon) z in
      record {
        what = w.what;
        does = w.does;
        fills = record {
          meets = implementation_by f.meets;
          told = λ k.
              told_rule (λ m. ImplementationRows a.at v w.what m) implementation_is
              (told_as (f.told k) (λ m q.
              let last = q.1.1.1.1.1.1 in (
                (
                  seen_place q.0,
                  ap₂ (λ (i j : ℕ). (i + j) - m.0.place) (seen_place last) (seen_length last)
                      ∙ ap (λ (i : ℕ). (h.at + (h.next - h.at)) - i) (seen_place q.0) ∙ sym p,
                ),
                q.1.1.1.0 0 0,
              )));
        };
      }
