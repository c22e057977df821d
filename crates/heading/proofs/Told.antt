-- What the call answers, one law for each return. Assumes nothing.
use mathlib.Core.Path.{◌≡◌, refl, sym, subst}
use mathlib.Core.List.{List}
use Prim.Native.Nat.{ℕ, ◌≤◌, ◌<◌, ◌+◌, ◌-◌}
use native.Mathlib.Omega.{arith}
use lib.ListN.{length}
use Rattle.grammar.specs.Grammar.{Token, matches, ◌·◌, ◌▸◌, ∎, sg, name, lbrace, rbrace, semicolon, D, application, specs, file}
use Rattle.grammar.specs.Terminals.{tokens as tokens-of}
use Rattle.grammar.specs.Stage.{number_of, place_of}
use Rattle.grammar.specs.Factored.{lift}
use Rattle.grammar.specs.Readers.{class_at, look_at, refusal, expected, seen, answer_of, Meets}
use Rattle.grammar.specs.declared.Look.{Look}
use Rattle.grammar.specs.Answered.{Answer}
use Rattle.std.specs.Prelude.{Ok, Err}
use Rattle.grammar.specs.declared.Refusal.TheVariants.{NoToken, NotAdmitted, TooDeep}
use Rattle.grammar.proofs.Codes.{not_code}
use Rattle.grammar.proofs.Meeting.{◌⊳◌, not_taken}
use Rattle.grammar.proofs.Terminals.{oil_version_is, equals_is, string_is, implementation_is}
use Rattle.grammar.proofs.Rules.{version_by, implementation_by, file_by}
use Rattle.grammar.proofs.Lookaheads.{answer_no_token, answer_not_admitted, answer_too_deep}
use Rattle.grammar.proofs.Answering.{stage_answers}
use Rattle.heading.specs.Headings.{Front, name_in, version_and_name, Heads, headed, refused}
use Rattle.heading.specs.Answered.{heading_at}
use Rattle.rows.specs.Refusing.{refusing}
use Rattle.heading.proofs.Looks.{look_fits, look_string, refusal_high, expected_look, sticky}
use Rattle.heading.proofs.Fronts.{looked, no_front}
use Rattle.heading.proofs.Places.{follows}

-- The readings up to the brace.
pub record Ahead (s : List ℕ) (a b c d e f g : Look) : Type 0 where
  pub at_start : a ≡ look_at s 0 0
  pub oil : b ≡ expected s a 6
  pub equal : c ≡ expected s b 49
  pub quoted : d ≡ expected s c 44
  pub finished : Meets 0 (D ▸ sg semicolon · ∎) s d e
  pub implemented : f ≡ expected s e 7
  pub named : Meets 1 (name · ∎) s f g

pub ahead : {s : List ℕ} {a b c d e f g : Look} → a ≡ look_at s 0 0 → b ≡ expected s a 6 → c ≡ expected s b 49 → d ≡ expected s c 44
    → Meets 0 (D ▸ sg semicolon · ∎) s d e → f ≡ expected s e 7 → Meets 1 (name · ∎) s f g → Ahead s a b c d e f g
ahead p q r t u v w = record { at_start = p; oil = q; equal = r; quoted = t; finished = u; implemented = v; named = w }

module _ {s : List ℕ} {a b c d e f g : Look} (w : Ahead s a b c d e f g) where
  module _ (h : g.code ≡ 45) where
    -- The string and the name are tokens of the text.
    c_low : c.code ≤ 56
    c_low =
        let k₅ = w.named.took (omega arith) in
        let k₄ = (implementation_is w.implemented).took k₅.0 in
        let k₃ = w.finished.took k₄.0 in
        ((string_is w.quoted).took k₃.0).0

    f_low : f.code ≤ 56
    f_low = (w.named.took (omega arith)).0

    d_low : d.code ≤ 56
    d_low = (w.finished.took ((implementation_is w.implemented).took f_low).0).0

    pub string_fits : (c.at + 2 ≤ c.next) × (c.next ≤ length s)
    string_fits =
        let q = expected_look 44 refl refl s c d w.quoted d_low in
        let p = expected_look 49 refl refl s b c w.equal c_low in
        let x = look_string s b.next b.depth (subst (λ (l : Look). l.code ≡ 44) p.1 q.0) in
        let y = look_fits s b.next b.depth in
        subst (λ (l : Look). (l.at + 2 ≤ l.next) × (l.next ≤ length s)) (sym p.1) (x, y.1)

    pub name_fits : f.at ≤ f.next
    name_fits =
        let p = expected_look 7 refl refl s e f w.implemented f_low in
        subst (λ (l : Look). l.at ≤ l.next) (sym p.1) (look_fits s e.next e.depth).0

    pub told : length s ≤ 65535 → Heads s (heading_at (c.at + 1) ((c.next - c.at) - 2) f.at (f.next - f.at))
    unfolding version_and_name seen
    told short =
        let v = looked s a c d e f g w.at_start (oil_version_is w.oil ⊳ equals_is w.equal) (string_is w.quoted) w.finished (implementation_is w.implemented) w.named h in
        subst (λ (n : Token). Heads s (version_and_name (seen c) n)) v.its_name
        (subst (λ (t : Token). Heads s (version_and_name t (name_in v.front.tree))) v.its_string (headed short v.front))

  module _ (h : g.code ≡ 45 → ⊥) (r : Look) (q : r ≡ refusal g) where
    r_high : 56 < r.code
    r_high = subst (λ (l : Look). 56 < l.code) (sym q) (refusal_high g)

    whole : Meets 1 (file ▸ ∎) s a r
    unfolding matches class_at
    whole =
        file_by
        (version_by (oil_version_is w.oil ⊳ equals_is w.equal ⊳ string_is w.quoted ⊳ w.finished)
        ⊳ implementation_by (implementation_is w.implemented ⊳ w.named ⊳ not_taken (sg lbrace) (not_code (matches (sg lbrace)) 45 tt h) q ⊳ sticky (lift (specs ▸ sg rbrace · D ▸ sg semicolon · ∎)) r_high)
        ⊳ sticky (lift (application ▸ ∎)) r_high)

    none : Front (tokens-of s) → ⊥
    none t =
        no_front s a g w.at_start
        (version_by (oil_version_is w.oil ⊳ equals_is w.equal ⊳ string_is w.quoted ⊳ w.finished) ⊳ implementation_is w.implemented ⊳ w.named)
        h t.tree (follows s t)

    by_answer : length s ≤ 65535 → (n : Answer) → n ≡ answer_of r → (n ≡ Ok tt → ⊥) → Heads s (refusing (number_of n) (place_of n))
    by_answer short n e p = refused short none n p (stage_answers s a r n w.at_start whole e)

    pub told_3 : length s ≤ 65535 → r.code ≡ 59 → Heads s (refusing 3 r.at)
    unfolding number_of place_of
    told_3 short z = by_answer short (Err (NoToken r.at)) (answer_no_token r (omega (arith, r_high)) z) (λ y. let x : ◌≡◌ {A = ℕ} 0 1 = cc in omega arith)

    pub told_4 : length s ≤ 65535 → r.code ≡ 60 → Heads s (refusing 4 r.at)
    unfolding number_of place_of
    told_4 short z = by_answer short (Err (NotAdmitted r.at)) (answer_not_admitted r (omega (arith, r_high)) z) (λ y. let x : ◌≡◌ {A = ℕ} 0 1 = cc in omega arith)

    pub told_5 : length s ≤ 65535 → (r.code ≡ 59 → ⊥) → (r.code ≡ 60 → ⊥) → Heads s (refusing 5 r.at)
    unfolding number_of place_of
    told_5 short z₃ z₄ =
        by_answer short (Err (TooDeep r.at)) (answer_too_deep r (λ y. omega (arith, r_high)) (omega (arith, r_high)) z₃ z₄) (λ y. let x : ◌≡◌ {A = ℕ} 0 1 = cc in omega arith)
