-- The heading: from the text to the text that is lent alone. Assumes nothing.
use mathlib.Core.Path.{◌≡◌, refl, sym, ◌∙◌, ap, ap₂, subst}
use mathlib.Core.List.{List}
use Prim.Native.Nat.{ℕ, ◌+◌, ◌-◌, ◌≤◌, min}
use native.Mathlib.Omega.{arith}
use lib.ListN.{length}
use Rattle.grammar.specs.Grammar.{Token}
use Rattle.grammar.specs.Terminals.{tokens}
use Rattle.grammar.specs.Stage.{number_of, place_of as stage_place}
use Rattle.heading.specs.Headings.{Front, version_and_name, string_in, name_in, answer_in, Heads}
use Rattle.heading.specs.Headings as heads
use Rattle.heading.specs.Answered.{Answer, heading_at}
use Rattle.heading.specs.declared.VersionAndName.{VersionAndName}
use Rattle.rows.specs.declared.Fault.{Fault}
use Rattle.std.specs.Prelude.{Ok, Err}
use Rattle.rows.specs.Refusing.{refusing}
use Rattle.heading.proofs.Promises.{q_7}
use Rattle.heading_texts.specs.Headings.{placed_heading, TextsHead, too_long, headed, refused}
use Rattle.sources.specs.Expanding.{expansion_of}
use Rattle.sources_reading.specs.Answering.{alone}
use Rattle.sources_reading.proofs.Answered.{within}
use Rattle.lent_texts.specs.Answered.{place_of}
use Rattle.exporting.specs.Rules.{refusal, heading, HeadingByRules}
use Rattle.exporting.specs.Telling.{refusal_told, heading_told, HeadingWith}
use Rattle.exporting.specs.declared.Told.{Told}
use Rattle.exporting.specs.declared.Heading.{Heading}
use Rattle.exporting.proofs.Alone.{text_is, place_is}
use Rattle.exporting.proofs.Calling.{refused_alone}

-- The inner function ---------------------------------------------------------------------------------------------------------------------------

pub named_with : {n : ℕ} {s : List ℕ} {a : Answer} {o : VersionAndName} {p q : ℕ} → Heads s a → a ≡ Ok o → p ≡ min o.version_at (length s) → q ≡ min o.name_at (length s)
    → HeadingWith n s (record { number = 0; place = 0; version = p; version_length = o.version_len; name = q; name_length = o.name_len })
unfolding heading heading_told
named_with {n} {s} {a} {o} h i j l =
    record {
      answer = a;
      heads = h;
      told = ap₂ (λ (x y : ℕ). record { number = 0; place = 0; version = x; version_length = o.version_len; name = y; name_length = o.name_len }) j l ∙ ap (λ (x : Answer). heading (heading_told (length s) n x)) (sym i);
    }

pub refused_with : {n : ℕ} {s : List ℕ} {a : Answer} {f : Fault} {t : Told} → Heads s a → a ≡ Err f → t ≡ refusal_told (length s) n f.number f.place
    → HeadingWith n s (record { number = t.number; place = t.place; version = 0; version_length = 0; name = 0; name_length = 0 })
unfolding heading heading_told
refused_with {n} {s} {a} h i j =
    record {
      answer = a;
      heads = h;
      told = ap (λ (y : Told). record { number = y.number; place = y.place; version = 0; version_length = 0; name = 0; name_length = 0 }) j ∙ ap (λ (x : Answer). heading (heading_told (length s) n x)) (sym i);
    }

-- The call -------------------------------------------------------------------------------------------------------------------------------------

module _ (s : List ℕ) (k : ℕ) (e : k ≡ (expansion_of s (alone s)).number) where
  pub heading_thirty : k ≡ 30 → HeadingByRules s (record { number = 30; place = 0; version = 0; version_length = 0; name = 0; name_length = 0 })
  unfolding heading
  heading_thirty h = record { answer = refusing 30 0; heads = too_long (sym e ∙ h); told = refl }

  module _ (n : k ≡ 30 → ⊥) where
    no_thirty : (expansion_of s (alone s)).number ≡ 30 → ⊥
    no_thirty z = n (e ∙ z)

    short : length s ≤ 65535
    short = subst (λ (x : List ℕ). length x ≤ 65535) (text_is s no_thirty) (within s (alone s) no_thirty).short

    -- Where there is that brace.
    front : (f : Front (tokens s)) → TextsHead s (alone s) (placed_heading (place_of s (alone s)) (answer_in f.tree))
    front =
        subst (λ (x : List ℕ). (f : Front (tokens x)) → TextsHead s (alone s) (placed_heading (place_of s (alone s)) (answer_in f.tree))) (text_is s no_thirty)
        (λ f. headed no_thirty f)

    placed_is : (v m : Token) → placed_heading (place_of s (alone s)) (version_and_name v m) ≡ heading_told (length s) k (version_and_name v m)
    unfolding placed_heading version_and_name heading_told
    placed_is v m = ap₂ (λ (x y : ℕ). heading_at x (v.length - 2) y m.length) (place_is s no_thirty (v.place + 1)) (place_is s no_thirty m.place)

    head_of : (a : Answer) → Heads s a → TextsHead s (alone s) (heading_told (length s) k a)
    unfolding heading_told refusal_told refusal
    head_of _ (heads.too_long h) = absurd (let z = short in omega arith)
    head_of _ (heads.headed h f) = subst (TextsHead s (alone s)) (placed_is (string_in f.tree) (name_in f.tree)) (front f)
    head_of _ (heads.refused h w a i j) =
        let t = (q_7 s (refusing (number_of a) (stage_place a)) (heads.refused h w a i j)).as_read (number_of a) (stage_place a) refl in
        refused no_thirty (subst (λ (x : List ℕ). Front (tokens x) → ⊥) (sym (text_is s no_thirty)) w) _ _ (refused_alone s k e n (number_of a) (stage_place a) t)

    pub heading_rules : {r : Heading} → HeadingWith k s r → HeadingByRules s r
    heading_rules h = record { answer = heading_told (length s) k h.answer; heads = head_of h.answer h.heads; told = h.told }
