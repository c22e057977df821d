-- One law for each way in which a reader of a part of a definition answers. Assumes nothing.
use mathlib.Core.Path.{◌≡◌, refl, sym, ◌∙◌, ap, ap₂}
use mathlib.Core.List.{List, [], ◌∷◌, ◌++◌, append-nil}
use mathlib.Core.Bool.{true}
use mathlib.Core.Option.{none}
use Prim.Native.Nat.{ℕ, ◌+◌, ◌-◌, ◌*◌, min}
use lib.Seq.{sets}
use Rattle.token.specs.Find.{bit}
use Rattle.grammar.specs.Grammar.{Form, Token, Trees, nil, leaf, node, tokens, ◌⟶◌, ◌·◌, ◌▸◌, ∎, matches, name, number, float, the, sg, WITH-AUTO, lsquare, rsquare, equals, semicolon, comma, dots, Sort, integers, strings, booleans, enums, floats, D, auto, mark, integer_range, float_range, numbers, default, own, no_auto, with_auto, no_mark, a_mark, no_range, a_range, a_list, no_float_range, a_float_range, no_number, a_number, no_default, a_default, own_auto, own_none, own_number, own_string, own_true, own_false, own_name, own_float}
use Rattle.grammar.specs.Factored.{span, ◌⟹◌, one_number, up_to, many_numbers}
use Rattle.grammar.specs.Machine.{Stream, prepend}
use Rattle.grammar.specs.Readers.{class_at, rest, advanced, expected, Took, Reads, Meets}
use Rattle.grammar.specs.declared.Look.{Look}
use Rattle.grammar.proofs.Codes.{at_code}
use Rattle.grammar.proofs.Steps.{prepend_append}
use Rattle.grammar.proofs.Literal.{lifted, from, tokens_from}
use Rattle.grammar.proofs.Meeting.{◌⊳◌, take}
use Rattle.grammar.proofs.Terminals.{number_is, float_is, dots_is, rsquare_is}
use Rattle.grammar.proofs.Rules.{auto_pass, auto_is, mark_pass, mark_is, range_pass, range_by, float_range_pass, float_range_by, default_pass, default_is, lsquare_taken}
use Rattle.meaning.specs.Syntax.{Span, absent, span_of, span_or, through}
use Rattle.meaning.specs.Actions.{word_of, means, meaning}
use Rattle.layout.specs.Kept.{default_code}
use Rattle.filling.specs.Fills.{Seen, Told, Fills, Walks}
use Rattle.filling.proofs.Filling.{front_of, behind, plain, first, is_first, ◌▻◌, fills_map, told_map, told_as, told_rule, told_none, told_took}
use Rattle.filling.proofs.Tables.{wrote_row, ◌⸬◌}
use Rattle.definitions.specs.declared.Under.{Under}
use Rattle.definitions.specs.declared.Head.{Head}
use Rattle.definitions.specs.Rows.{Puts, row_of, head_of, list_head, Named}
use Rattle.definitions.specs.Parts.{Spanned, Defaulted}
use Rattle.filling.proofs.Codes.{seen_code, seen_place, seen_length}

-- The word of a default.
own_told : {s : List ℕ} (x : Sort) (a b : Look) (ts : Trees ◌⟶◌ (own x ▸ ∎)) → rest s a ≡ prepend (tokens ts) (rest s b) → Told s (own x ▸ ∎) (rest s a) (rest s b) (λ m. Seen s a m.0)
unfolding means meaning tokens
own_told {s} x a b (node own_auto (leaf t m nil) nil) q = record { trees = node own_auto (leaf t m nil) nil; split = q; holds = is_first s a t [] (rest s b) q }
own_told {s} x a b (node own_none (leaf t m nil) nil) q = record { trees = node own_none (leaf t m nil) nil; split = q; holds = is_first s a t [] (rest s b) q }
own_told {s} integers a b (node own_number (leaf t m nil) nil) q = record { trees = node own_number (leaf t m nil) nil; split = q; holds = is_first s a t [] (rest s b) q }
own_told {s} strings a b (node own_string (leaf t m nil) nil) q = record { trees = node own_string (leaf t m nil) nil; split = q; holds = is_first s a t [] (rest s b) q }
own_told {s} booleans a b (node own_true (leaf t m nil) nil) q = record { trees = node own_true (leaf t m nil) nil; split = q; holds = is_first s a t [] (rest s b) q }
own_told {s} booleans a b (node own_false (leaf t m nil) nil) q = record { trees = node own_false (leaf t m nil) nil; split = q; holds = is_first s a t [] (rest s b) q }
own_told {s} enums a b (node own_name (leaf t m nil) nil) q = record { trees = node own_name (leaf t m nil) nil; split = q; holds = is_first s a t [] (rest s b) q }
own_told {s} floats a b (node own_float (leaf t m nil) nil) q = record { trees = node own_float (leaf t m nil) nil; split = q; holds = is_first s a t [] (rest s b) q }

module _ {s : List ℕ} {a : Look} where
  pub auto_none : (a.code ≡ 5 → ⊥) → Fills 0 (auto ▸ ∎) s a a (λ m. bit m.0 ≡ 0)
  unfolding means bit
  auto_none h = record { meets = auto_pass h; told = λ k. told_none (λ m. bit m ≡ 0) no_auto refl }

  pub auto_there : {b : Look} → a.code ≡ 5 → b ≡ advanced s a → Fills 0 (auto ▸ ∎) s a b (λ m. bit m.0 ≡ 1)
  unfolding means bit class_at matches
  auto_there h p =
      let f = plain (the WITH-AUTO · ∎) (take (the WITH-AUTO) {s = s} {a = a} (at_code (matches (the WITH-AUTO)) 5 tt h) p) in
      record { meets = auto_is h p; told = λ k. told_rule (λ m. bit m ≡ 1) with_auto (told_map (λ m q. refl) (f.told k)) }

  pub mark_none : (a.code ≡ 47 → ⊥) → Fills 0 (mark ▸ ∎) s a a (λ m. bit m.0 ≡ 0)
  unfolding means bit
  mark_none h = record { meets = mark_pass h; told = λ k. told_none (λ m. bit m ≡ 0) no_mark refl }

  pub mark_there : {b c : Look} → a.code ≡ 47 → b ≡ advanced s a → c ≡ expected s b 48 → Fills 0 (mark ▸ ∎) s a c (λ m. bit m.0 ≡ 1)
  unfolding means bit
  mark_there h p q =
      let f = plain (sg lsquare · sg rsquare · ∎) (lsquare_taken h p ⊳ rsquare_is q) in
      record { meets = mark_is h p q; told = λ k. told_rule (λ m. bit m ≡ 1) a_mark (told_map (λ m q. refl) (f.told k)) }

  pub range_none : (a.code ≡ 47 → ⊥) → Fills 0 (integer_range ▸ ∎) s a a (λ m. Spanned m.0.span 0 0)
  unfolding means absent
  range_none h = record { meets = range_pass h; told = λ k. told_none (λ m. Spanned m.span 0 0) no_range (refl, refl) }

  own_first : (x : Sort) {e : ℕ} {b : Look} → Meets e (own x ▸ ∎) s a b → Fills e (own x ▸ ∎) s a b (λ m. Seen s a m.0)
  own_first x {b} m = record { meets = m; told = λ h. let w = told_took {s = s} (own x ▸ ∎) (m.took h).1 in own_told x a b w.trees w.split }

  pub default_none : (x : Sort) → (a.code ≡ 49 → ⊥) → Fills 0 (default x ▸ ∎) s a a (λ m. Defaulted m.0 0 0 0)
  unfolding means span_or absent default_code
  default_none x h = record { meets = default_pass x h; told = λ k. told_none (λ m. Defaulted m 0 0 0) no_default (refl, refl, refl) }

module _ {s : List ℕ} {a b : Look} where
  pub default_there : (x : Sort) {c : Look} {n : ℕ} → a.code ≡ 49 → b ≡ advanced s a → Meets 1 (own x ▸ ∎) s b c → n ≡ b.next - b.at
      → Fills 0 (default x ▸ ∎) s a c (λ m. Defaulted m.0 b.at n b.code)
  unfolding means span_or span_of default_code class_at matches front_of behind
  default_there x {n} h p m e =
      let f = plain (sg equals · ∎) (take (sg equals) {s = s} {a = a} (at_code (matches (sg equals)) 49 tt h) p) ▻ own_first x m in
      record {
        meets = default_is x h p m;
        told = λ k.
            told_rule (λ m. Defaulted m b.at n b.code) a_default
            (told_as (f.told k) (λ m q. (seen_place q.1, seen_length q.1 ∙ sym e, seen_code q.1)));
      }

-- The range of an integer: its three forms hold their `[` and `]`.
range_told : {s : List ℕ} (o c : Token) → matches (sg lsquare) o.class ≡ true → matches (sg rsquare) c.class ≡ true → (ts : Trees ◌⟹◌ (number · span ▸ ∎)) {u v : Stream}
    → u ≡ prepend (o ∷ (tokens ts ++ (c ∷ []))) v → Told s (integer_range ▸ ∎) u v (λ m. m.0.span ≡ through (word_of s o) (word_of s c))
unfolding means meaning tokens
range_told o c i j (leaf n m₂ (node one_number nil nil)) q = record { trees = node a_list (leaf o i (leaf n m₂ (node no_number nil (leaf c j nil)))) nil; split = q; holds = refl }
range_told o c i j (leaf n m₂ (node up_to (leaf d m₃ (leaf e m₄ nil)) nil)) q =
    record { trees = node a_range (leaf o i (leaf n m₂ (leaf d m₃ (leaf e m₄ (leaf c j nil))))) nil; split = q; holds = refl }
range_told o c i j (leaf n m₂ (node many_numbers vs nil)) {v} q =
    let g : Form = sg comma · number · numbers ▸ ∎ in
    let us = from vs (lifted g) in
    record {
      trees = node a_list (leaf o i (leaf n m₂ (node a_number us (leaf c j nil)))) nil;
      split = q
          ∙ ap (λ (l : List Token). prepend (o ∷ n ∷ (l ++ (c ∷ []))) v) (append-nil (tokens vs) ∙ sym (tokens_from vs (lifted g)))
          ∙ ap (λ (l : List Token). prepend l v) (sym (append-nil (o ∷ n ∷ (tokens us ++ (c ∷ [])))));
      holds = refl;
    }

range_parts : {s : List ℕ} (a b d e : Look) {n : ℕ} (ts : Trees ◌⟶◌ (sg lsquare · ∎)) → rest s a ≡ prepend (tokens ts) (rest s b) → Seen s a (meaning s ts).0
    → Took ◌⟹◌ (number · span ▸ ∎) (rest s b) (rest s d)
    → (us : Trees ◌⟶◌ (sg rsquare · ∎)) → rest s d ≡ prepend (tokens us) (rest s e) → Seen s d (meaning s us).0 → n ≡ (d.at + (d.next - d.at)) - a.at
    → Told s (integer_range ▸ ∎) (rest s a) (rest s e) (λ m. Spanned m.0.span a.at n)
unfolding meaning tokens prepend through
range_parts {s} a b d e (leaf o i nil) p x w (leaf c j nil) q y k =
    told_map
    (λ m z. (
      ap (λ (x : Span). x.place) z ∙ seen_place x,
      ap (λ (x : Span). x.length) z
          ∙ ap₂ (λ (i j : ℕ). (i + j) - (word_of s o).place) (seen_place y) (seen_length y)
          ∙ ap (λ (i : ℕ). (d.at + (d.next - d.at)) - i) (seen_place x)
          ∙ sym k,
    ))
    (range_told o c i j w.took (p ∙ ap (λ u. prepend (o ∷ []) u) (w.split ∙ ap (prepend (tokens w.took)) q ∙ sym (prepend_append (tokens w.took) (c ∷ []) (rest s e)))))

module _ {s : List ℕ} {a b c d : Look} where
  pub range_there : {e : Look} {n : ℕ} → a.code ≡ 47 → b ≡ advanced s a → c ≡ expected s b 43 → Reads 0 (span ▸ ∎) s c d → e ≡ expected s d 48
      → n ≡ (d.at + (d.next - d.at)) - a.at → Fills 0 (integer_range ▸ ∎) s a e (λ m. Spanned m.0.span a.at n)
  range_there {e} h p q m r k =
      let x = lsquare_taken {s = s} {a = a} h p in
      let y = number_is {s = s} q ⊳ m in
      let z = rsquare_is {s = s} {a = d} r in
      record {
        meets = range_by h p (y ⊳ z);
        told = λ i.
            let f = (first (sg rsquare) z).told i in
            let o = y.took (z.took i).0 in
            let g = (first (sg lsquare) x).told o.0 in
            range_parts a b d e g.trees g.split g.holds o.1 f.trees f.split f.holds k;
      }

-- The range of a float.
module _ {s : List ℕ} {a : Look} where
  pub float_range_none : (a.code ≡ 47 → ⊥) → Fills 0 (float_range ▸ ∎) s a a (λ m. Spanned m.0.span 0 0)
  unfolding means absent
  float_range_none h = record { meets = float_range_pass h; told = λ k. told_none (λ m. Spanned m.span 0 0) no_float_range (refl, refl) }

  pub float_range_there : {b c d e f : Look} {n : ℕ} → a.code ≡ 47 → b ≡ advanced s a → c ≡ expected s b 54 → d ≡ expected s c 53 → e ≡ expected s d 54
      → f ≡ expected s e 48 → n ≡ (e.at + (e.next - e.at)) - a.at → Fills 0 (float_range ▸ ∎) s a f (λ m. Spanned m.0.span a.at n)
  unfolding means through front_of behind
  float_range_there {e} {n} h p q r t u k =
      let y = float_is {s = s} q ⊳ dots_is {s = s} r ⊳ float_is {s = s} t in
      let z = rsquare_is {s = s} {a = e} u in
      let g = first (sg lsquare) (lsquare_taken {s = s} {a = a} h p) ▻ plain (float · sg dots · float · ∎) y ▻ first (sg rsquare) z in
      record {
        meets = float_range_by h p (y ⊳ z);
        told = λ i.
            told_rule (λ m. Spanned m.span a.at n) a_float_range
            (told_as (g.told i) (λ m w. (
              seen_place w.0,
              ap₂ (λ (i j : ℕ). (i + j) - m.0.place) (seen_place w.1.1) (seen_length w.1.1)
                  ∙ ap (λ (i : ℕ). (e.at + (e.next - e.at)) - i) (seen_place w.0)
                  ∙ sym k,
            )));
      }

-- A definition from its name on.
module _ {s : List ℕ} {a : Look} {l l' : List ℕ} {n n' : ℕ} where
  pub named_walks : (x : Under) (h : Head) (k : Sort) {b c d f : Look} {i v p q r : ℕ} → Meets 1 (name · ∎) s a b → Fills 0 (mark ▸ ∎) s b c (λ m. bit m.0 ≡ i)
      → Fills 0 (default k ▸ ∎) s c d (λ m. Defaulted m.0 p q r) → Meets 0 (D ▸ sg semicolon · ∎) s d f → v ≡ a.next - a.at
      → l' ≡ sets l (n * 19) (x.at ∷ x.len ∷ a.at ∷ v ∷ h.word ∷ h.length ∷ i ∷ h.auto ∷ h.range ∷ h.extent ∷ p ∷ q ∷ h.code ∷ x.list ∷ h.key ∷ h.truth ∷ h.falsity ∷ h.width ∷ r ∷ [])
      → n' ≡ n + min 1 (65536 - n)
      → Walks (Puts 19) 1 (name · mark ▸ default k ▸ D ▸ sg semicolon · ∎) (λ w m. Named x h w m.0 m.1.0 m.1.1.0) s a f (l, n) (l', n')
  unfolding Named row_of front_of behind
  named_walks x h k {i} {v} {p} {q} {r} u m d z e o j =
      record {
        what = (x.at ∷ x.len ∷ a.at ∷ v ∷ h.word ∷ h.length ∷ i ∷ h.auto ∷ h.range ∷ h.extent ∷ p ∷ q ∷ h.code ∷ x.list ∷ h.key ∷ h.truth ∷ h.falsity ∷ h.width ∷ r ∷ []) ∷ [];
        does = wrote_row refl o j;
        fills = fills_map (first name u ▻ m ▻ d ▻ plain (D ▸ sg semicolon · ∎) z)
            (λ m y. ap (λ (c : List ℕ). c ∷ [])
            (refl ⸬ refl ⸬ seen_place y.0 ⸬ (seen_length y.0 ∙ sym e) ⸬ refl ⸬ refl ⸬ y.1.0 ⸬ refl ⸬ refl ⸬ refl
            ⸬ y.1.1.0.0 ⸬ y.1.1.0.1 ⸬ refl ⸬ refl ⸬ refl ⸬ refl ⸬ refl ⸬ refl ⸬ y.1.1.0.2 ⸬ refl));
      }

  pub reference_walks : (x : Under) (t : Look) {h : Head} {b c f : Look} {i v : ℕ} → Meets 1 (name · ∎) s a b → Fills 0 (mark ▸ ∎) s b c (λ m. bit m.0 ≡ i)
      → Meets 0 (D ▸ sg semicolon · ∎) s c f → v ≡ a.next - a.at → h ≡ head_of t 0 0 0
      → l' ≡ sets l (n * 19) (x.at ∷ x.len ∷ a.at ∷ v ∷ h.word ∷ h.length ∷ i ∷ h.auto ∷ h.range ∷ h.extent ∷ 0 ∷ 0 ∷ h.code ∷ x.list ∷ h.key ∷ h.truth ∷ h.falsity ∷ h.width ∷ 0 ∷ [])
      → n' ≡ n + min 1 (65536 - n)
      → Walks (Puts 19) 1 (name · mark ▸ D ▸ sg semicolon · ∎) (λ w m. Named x (head_of t 0 0 0) w m.0 m.1.0 none) s a f (l, n) (l', n')
  unfolding Named row_of front_of behind span_or absent default_code
  reference_walks x t {h} {i} {v} u m z e g o j =
      record {
        what = (x.at ∷ x.len ∷ a.at ∷ v ∷ h.word ∷ h.length ∷ i ∷ h.auto ∷ h.range ∷ h.extent ∷ 0 ∷ 0 ∷ h.code ∷ x.list ∷ h.key ∷ h.truth ∷ h.falsity ∷ h.width ∷ 0 ∷ []) ∷ [];
        does = wrote_row refl o j;
        fills = fills_map (first name u ▻ m ▻ plain (D ▸ sg semicolon · ∎) z)
            (λ m y. ap (λ (k : Head). row_of x k m.0 m.1.0 none ∷ []) (sym g)
            ∙ ap (λ (c : List ℕ). c ∷ [])
            (refl ⸬ refl ⸬ seen_place y.0 ⸬ (seen_length y.0 ∙ sym e) ⸬ refl ⸬ refl ⸬ y.1.0 ⸬ refl));
      }

module _ {s : List ℕ} {a : Look} {y z : List ℕ × ℕ} where
  pub integer_walks : (x : Under) (t : Look) {h : Head} {b c f : Look} {i p q : ℕ} → Fills 0 (auto ▸ ∎) s a b (λ m. bit m.0 ≡ i)
      → Fills 0 (integer_range ▸ ∎) s b c (λ m. Spanned m.0.span p q) → h ≡ head_of t i p q
      → Walks (Puts 19) 1 (name · mark ▸ default integers ▸ D ▸ sg semicolon · ∎) (λ w m. Named x h w m.0 m.1.0 m.1.1.0) s c f y z
      → Walks (Puts 19) 0 (auto ▸ integer_range ▸ name · mark ▸ default integers ▸ D ▸ sg semicolon · ∎)
      (λ w m. Named x (head_of t (bit m.0) m.1.0.span.place m.1.0.span.length) w m.1.1.0 m.1.1.1.0 m.1.1.1.1.0) s a f y z
  unfolding Named row_of front_of behind
  integer_walks x t {i} {p} u r g w =
      record {
        what = w.what;
        does = w.does;
        fills = fills_map (u ▻ r ▻ w.fills)
            (λ m v. ap (λ (k : Head). row_of x k m.1.1.0 m.1.1.1.0 m.1.1.1.1.0 ∷ [])
            (ap (λ (k : ℕ). head_of t k m.1.0.span.place m.1.0.span.length) v.0
            ∙ ap (λ (k : ℕ). head_of t i k m.1.0.span.length) v.1.0.0
            ∙ ap (λ (k : ℕ). head_of t i p k) v.1.0.1
            ∙ sym g)
            ∙ v.1.1);
      }

  pub float_walks : (x : Under) (t : Look) {h : Head} {b c f : Look} {i p q : ℕ} → Fills 0 (auto ▸ ∎) s a b (λ m. bit m.0 ≡ i)
      → Fills 0 (float_range ▸ ∎) s b c (λ m. Spanned m.0.span p q) → h ≡ head_of t i p q
      → Walks (Puts 19) 1 (name · mark ▸ default floats ▸ D ▸ sg semicolon · ∎) (λ w m. Named x h w m.0 m.1.0 m.1.1.0) s c f y z
      → Walks (Puts 19) 0 (auto ▸ float_range ▸ name · mark ▸ default floats ▸ D ▸ sg semicolon · ∎)
      (λ w m. Named x (head_of t (bit m.0) m.1.0.span.place m.1.0.span.length) w m.1.1.0 m.1.1.1.0 m.1.1.1.1.0) s a f y z
  unfolding Named row_of front_of behind
  float_walks x t {i} {p} u r g w =
      record {
        what = w.what;
        does = w.does;
        fills = fills_map (u ▻ r ▻ w.fills)
            (λ m v. ap (λ (k : Head). row_of x k m.1.1.0 m.1.1.1.0 m.1.1.1.1.0 ∷ [])
            (ap (λ (k : ℕ). head_of t k m.1.0.span.place m.1.0.span.length) v.0
            ∙ ap (λ (k : ℕ). head_of t i k m.1.0.span.length) v.1.0.0
            ∙ ap (λ (k : ℕ). head_of t i p k) v.1.0.1
            ∙ sym g)
            ∙ v.1.1);
      }

  pub string_walks : (x : Under) (t : Look) {h : Head} {b f : Look} {i : ℕ} → Fills 0 (auto ▸ ∎) s a b (λ m. bit m.0 ≡ i) → h ≡ head_of t i 0 0
      → Walks (Puts 19) 1 (name · mark ▸ default strings ▸ D ▸ sg semicolon · ∎) (λ w m. Named x h w m.0 m.1.0 m.1.1.0) s b f y z
      → Walks (Puts 19) 0 (auto ▸ name · mark ▸ default strings ▸ D ▸ sg semicolon · ∎)
      (λ w m. Named x (head_of t (bit m.0) 0 0) w m.1.0 m.1.1.0 m.1.1.1.0) s a f y z
  unfolding Named row_of front_of behind
  string_walks x t u g w =
      record {
        what = w.what;
        does = w.does;
        fills = fills_map (u ▻ w.fills)
            (λ m v. ap (λ (k : Head). row_of x k m.1.0 m.1.1.0 m.1.1.1.0 ∷ []) (ap (λ (k : ℕ). head_of t k 0 0) v.0 ∙ sym g) ∙ v.1);
      }

pub list_head_is : (t : Look) {n auto range extent key truth falsity width : ℕ} → n ≡ t.next - t.at
    → record { word = t.at; length = n; code = t.code; auto = auto; range = range; extent = extent; key = key; truth = truth; falsity = falsity; width = width }
    ≡ list_head t auto range extent key truth falsity width
list_head_is t {auto} {range} {extent} {key} {truth} {falsity} {width} e =
    ap (λ (k : ℕ). record { word = t.at; length = k; code = t.code; auto = auto; range = range; extent = extent; key = key; truth = truth; falsity = falsity; width = width }) e
