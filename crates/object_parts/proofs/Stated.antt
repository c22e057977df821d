-- One law for each way in which a reader of statements answers. Assumes nothing.
use mathlib.Core.Path.{◌≡◌, refl, sym, ◌∙◌, ap, ap₂, subst, fun_ext}
use mathlib.Core.List.{List, [], ◌∷◌, ◌++◌, append_assoc, append-nil}
use mathlib.Core.Option.{none}
use mathlib.Core.Bool.{true, false}
use Prim.Native.Nat.{ℕ, suc, ◌+◌, ◌-◌, ◌*◌, min}
use native.Mathlib.Omega.{arith}
use native.Mathlib.Nat.{add-zero}
use lib.ListN.{length, length-append}
use lib.Seq.{sets}
use Rattle.grammar.specs.Grammar.{Terminal, ◌⟶◌, ◌·◌, ◌▸◌, ∎, matches, name, number, string, float, the, sg, TRUE, FALSE, AUTO, lbrace, rbrace, equals, semicolon, D, block, statements, statement, value, no_block, a_block, no_statement, a_statement, statement_is, value_number, value_string, value_float, value_auto, value_name, value_true, value_false}
use Rattle.grammar.specs.Readers.{class_at, advanced, refusal, Meets}
use Rattle.grammar.specs.declared.Look.{Look}
use Rattle.grammar.proofs.Codes.{at_code}
use Rattle.grammar.proofs.Meeting.{◌⊳◌, take}
use Rattle.grammar.proofs.Rules.{name_taken, block_pass, block_by, value_numbers, value_strings, value_floats, value_autos, value_trues, value_falses, value_names, statement_by, statements_again, statements_done}
use Rattle.meaning.specs.Syntax.{Statement, Statements, done, state, statements_in}
use Rattle.meaning.specs.Actions.{Parts, means, stating}
use Rattle.layout.specs.Kept.{place_or, statement_cells, statement_rows, join}
use Rattle.layout.proofs.Lengths.{length_statements}
use Rattle.filling.specs.Tables.{Wide, Table}
use Rattle.filling.specs.Fills.{Walks}
use Rattle.filling.proofs.Filling.{Going, Effects, front_of, behind, plain, first, ◌▻◌, told_as, told_rule, told_none, refused, going_on, gone}
use Rattle.filling.proofs.Tables.{wrote_none, wrote_on, wide_one, wide_then, ◌⸬◌}
use Rattle.filling.proofs.Codes.{seen_code, seen_place, seen_length}
use Rattle.object_parts.specs.Rows.{Lines, Fill, StatementRows, StatedRows, BlockRows, ValueRows}
use Rattle.object_parts.proofs.Stores.{wrote_around}

abbrev pub then : Lines → Lines → Lines
then a b = λ k. a k ++ b (k + length (a k))

-- Lines ----------------------------------------------------------------------------------------------------------------------------------

abbrev pub none_yet : Lines
none_yet = λ k. []

none_wide : (k : ℕ) → Wide 7 (none_yet k)
unfolding join
none_wide k = omega arith

pub lines : Effects Lines Table then none_yet Fill
lines =
    record {
      assoc = λ a b c. fun_ext (λ k. joined (a k) (λ i. b i) (λ i. c i) k);
      front = λ a. fun_ext (λ k. ap a (add-zero k));
      back = λ a. fun_ext (λ k. append-nil (a k));
      does_none = λ x. (none_wide, wrote_none);
      does_then = λ x y z a b d d'. ((λ k. wide_then 7 (a k) (b (k + length (a k))) (d.0 k) (d'.0 (k + length (a k)))), wrote_on b d'.0 d.1 d'.1);
    }
  where
    joined : (xs : List (List ℕ)) (b c : Lines) (k : ℕ)
        → (xs ++ b (k + length xs)) ++ c (k + length (xs ++ b (k + length xs))) ≡ xs ++ (b (k + length xs) ++ c (k + length xs + length (b (k + length xs))))
    joined xs b c k =
        let e : k + length (xs ++ b (k + length xs)) ≡ k + length xs + length (b (k + length xs)) = omega (arith, length-append xs (b (k + length xs))) in
        append_assoc xs (b (k + length xs)) (c (k + length (xs ++ b (k + length xs)))) ∙ ap (λ (i : ℕ). xs ++ (b (k + length xs) ++ c i)) e

-- A statement and those behind it.
rows_stating : (x : Statement) (inside rest : Statements) (k : ℕ)
    → statement_rows (state x inside rest) k
    ≡ statement_rows (state x inside done) k ++ statement_rows rest (suc k + statements_in inside)
unfolding statement_rows
rows_stating x inside rest k =
    let i = suc k + statements_in inside in
    ap (λ (l : List (List ℕ)). statement_cells x i ∷ (l ++ statement_rows rest i)) (sym (append-nil (statement_rows inside (suc k))))

after_one : (x : Statement) (inside : Statements) (k : ℕ) → k + length (statement_rows (state x inside done) k) ≡ suc k + statements_in inside
unfolding statements_in
after_one x inside k = let e = length_statements (state x inside done) k in omega (arith, e)

module _ {s : List ℕ} {a : Look} {x y z : Table} where
  pub statements_on : {o r : Look} → Going then Fill statements StatementRows s o a x y → matches name (class_at a.code) ≡ true
      → Walks Fill 1 (statement ▸ ∎) (λ w m. StatedRows w m.0) s a r y z → Going then Fill statements StatementRows s o r x z
  unfolding means stating front_of behind StatementRows StatedRows
  statements_on g h w =
      going_on lines StatementRows (statement ▸ ∎) a_statement g (statements_again g.still h w.fills.meets) w.does w.fills
      (λ m more q r k.
      let c = (m.0 k).statement in
      let inside = (m.0 k).inside in
      let i = suc k + statements_in inside in
      let e : i ≡ k + length (w.what k) = sym (after_one c inside k) ∙ ap (λ (l : List (List ℕ)). k + length l) (q k) in
      rows_stating c inside (m.1.0 i) k ∙ ap₂ ◌++◌ (q k) (r i ∙ ap more e))

module _ {s : List ℕ} {a : Look} {x y : Table} where
  pub statements_gone : {o : Look} → Going then Fill statements StatementRows s o a x y → matches name (class_at a.code) ≡ false
      → Walks Fill 0 (statements ▸ ∎) (λ w m. StatementRows w m.0) s o a x y
  unfolding means StatementRows statement_rows
  statements_gone g h = gone lines StatementRows no_statement (λ k. refl) g (statements_done g.still h)

  pub block_there : {e e' : ℕ} {b c r : Look} → a.code ≡ 45 → b ≡ advanced s a → Walks Fill e (statements ▸ ∎) (λ w m. StatementRows w m.0) s b c x y
      → Meets e' (sg rbrace · ∎) s c r → Walks Fill 0 (block ▸ ∎) (λ w m. BlockRows a.at w m.0) s a r x y
  unfolding means front_of behind matches class_at StatementRows BlockRows place_or
  block_there h p w m =
      let f = first (sg lbrace) (take (sg lbrace) {s = s} {a = a} (at_code (matches (sg lbrace)) 45 tt h) p) ▻ w.fills ▻ plain (sg rbrace · ∎) m in
      record {
        what = w.what;
        does = w.does;
        fills = record {
          meets = block_by h p (w.fills.meets ⊳ m);
          told = λ k. told_rule (λ m. BlockRows a.at w.what m) a_block (told_as (f.told k) (λ m q. (seen_place q.0, q.1.0)));
        };
      }

  -- A value with a block.
  value_with : (t : Terminal) (p : value ⟶ t · block ▸ ∎) {e : ℕ} {b r : Look} (i : ℕ) → Meets 1 (value ▸ ∎) s a r → Meets 1 (t · ∎) s a b
      → ((m : Parts (t · block ▸ ∎)) → means p m ≡ record { word = m.0; block = m.1.0 })
      → Walks Fill e (block ▸ ∎) (λ w m. BlockRows i w m.0) s b r x y → Walks Fill 1 (value ▸ ∎) (λ w m. ValueRows s a i w m.0) s a r x y
  unfolding front_of behind BlockRows ValueRows
  value_with t p i v u e w =
      let f = first t u ▻ w.fills in
      record {
        what = w.what;
        does = w.does;
        fills = record {
          meets = v;
          told = λ k.
              told_rule (λ m. ValueRows s a i w.what m) p
              (told_as (f.told k) (λ m q. subst (ValueRows s a i w.what) (sym (e m)) (q.0, q.1.0, q.1.1)));
        };
      }

  pub value_true_there : {b r : Look} (i : ℕ) → a.code ≡ 1 → b ≡ advanced s a → Walks Fill 0 (block ▸ ∎) (λ w m. BlockRows i w m.0) s b r x y
      → Walks Fill 1 (value ▸ ∎) (λ w m. ValueRows s a i w m.0) s a r x y
  unfolding means matches class_at
  value_true_there i h p w =
      value_with (the TRUE) value_true i (value_trues h p w.fills.meets) (take (the TRUE) (at_code (matches (the TRUE)) 1 tt h) p) (λ m. refl) w

  pub value_false_there : {b r : Look} (i : ℕ) → a.code ≡ 2 → b ≡ advanced s a → Walks Fill 0 (block ▸ ∎) (λ w m. BlockRows i w m.0) s b r x y
      → Walks Fill 1 (value ▸ ∎) (λ w m. ValueRows s a i w m.0) s a r x y
  unfolding means matches class_at
  value_false_there i h p w =
      value_with (the FALSE) value_false i (value_falses h p w.fills.meets) (take (the FALSE) (at_code (matches (the FALSE)) 2 tt h) p) (λ m. refl) w

  pub value_name_there : {b r : Look} (i : ℕ) → matches name (class_at a.code) ≡ true → b ≡ advanced s a → Walks Fill 0 (block ▸ ∎) (λ w m. BlockRows i w m.0) s b r x y
      → Walks Fill 1 (value ▸ ∎) (λ w m. ValueRows s a i w m.0) s a r x y
  unfolding means
  value_name_there i h p w = value_with name value_name i (value_names h p w.fills.meets) (name_taken h p) (λ m. refl) w

module _ {s : List ℕ} {a : Look} {x : Table} where
  pub block_none : (a.code ≡ 45 → ⊥) → Walks Fill 0 (block ▸ ∎) (λ w m. BlockRows 0 w m.0) s a a x x
  unfolding means BlockRows place_or statement_rows
  block_none h =
      record {
        what = none_yet;
        does = (none_wide, wrote_none);
        fills = record { meets = block_pass h; told = λ k. told_none (λ m. BlockRows 0 none_yet m) no_block (refl, λ k. refl) };
      }

  -- A value without one.
  value_alone : (t : Terminal) (p : value ⟶ t · ∎) {r : Look} → Meets 1 (value ▸ ∎) s a r → Meets 1 (t · ∎) s a r
      → ((m : Parts (t · ∎)) → means p m ≡ record { word = m.0; block = record { brace = none; inside = λ k. done } })
      → Walks Fill 1 (value ▸ ∎) (λ w m. ValueRows s a 0 w m.0) s a r x x
  unfolding ValueRows place_or statement_rows
  value_alone t p v u e =
      let f = first t u in
      record {
        what = none_yet;
        does = (none_wide, wrote_none);
        fills = record {
          meets = v;
          told = λ k.
              told_rule (λ m. ValueRows s a 0 none_yet m) p (told_as (f.told k) (λ m q. subst (ValueRows s a 0 none_yet) (sym (e m)) (q, refl, λ k. refl)));
        };
      }

  pub value_number_there : {r : Look} → a.code ≡ 43 → r ≡ advanced s a → Walks Fill 1 (value ▸ ∎) (λ w m. ValueRows s a 0 w m.0) s a r x x
  unfolding means matches class_at
  value_number_there h p = value_alone number value_number (value_numbers h p) (take number (at_code (matches number) 43 tt h) p) (λ m. refl)

  pub value_string_there : {r : Look} → a.code ≡ 44 → r ≡ advanced s a → Walks Fill 1 (value ▸ ∎) (λ w m. ValueRows s a 0 w m.0) s a r x x
  unfolding means matches class_at
  value_string_there h p = value_alone string value_string (value_strings h p) (take string (at_code (matches string) 44 tt h) p) (λ m. refl)

  pub value_float_there : {r : Look} → a.code ≡ 54 → r ≡ advanced s a → Walks Fill 1 (value ▸ ∎) (λ w m. ValueRows s a 0 w m.0) s a r x x
  unfolding means matches class_at
  value_float_there h p = value_alone float value_float (value_floats h p) (take float (at_code (matches float) 54 tt h) p) (λ m. refl)

  pub value_auto_there : {r : Look} → a.code ≡ 3 → r ≡ advanced s a → Walks Fill 1 (value ▸ ∎) (λ w m. ValueRows s a 0 w m.0) s a r x x
  unfolding means matches class_at
  value_auto_there h p = value_alone (the AUTO) value_auto (value_autos h p) (take (the AUTO) (at_code (matches (the AUTO)) 3 tt h) p) (λ m. refl)

  pub value_none : {r : Look} → Meets 1 (value ▸ ∎) s a r → r ≡ refusal a → Walks Fill 1 (value ▸ ∎) (λ w m. ValueRows s a 0 w m.0) s a r x x
  value_none m e = record { what = none_yet; does = (none_wide, wrote_none); fills = record { meets = m; told = λ k. refused a e k } }

module _ {s : List ℕ} {a c : Look} {l l₁ l₂ : List ℕ} {n k n₁ : ℕ} where
  pub statement_there : (i : ℕ) {e v w : ℕ} {b d r : Look} → Meets 1 (name · ∎) s a b → Meets 1 (sg equals · ∎) s b c → k ≡ n + min 1 (65536 - n)
      → Walks Fill 1 (value ▸ ∎) (λ w m. ValueRows s c i w m.0) s c d (l, k) (l₁, n₁) → v ≡ a.next - a.at → w ≡ c.next - c.at
      → l₂ ≡ sets l₁ (n * 7) (a.at ∷ v ∷ c.at ∷ w ∷ c.code ∷ i ∷ n₁ ∷ []) → Meets e (D ▸ sg semicolon · ∎) s d r
      → Walks Fill 1 (statement ▸ ∎) (λ w m. StatedRows w m.0) s a r (l, n) (l₂, n₁)
  unfolding means front_of behind ValueRows StatedRows statement_rows statement_cells
  statement_there i {v} {w} x y g u p q o d =
      let f = first name x ▻ plain (sg equals · ∎) y ▻ u.fills ▻ plain (D ▸ sg semicolon · ∎) d in
      let z : Lines = λ j. (a.at ∷ v ∷ c.at ∷ w ∷ c.code ∷ i ∷ (suc j + length (u.what (suc j))) ∷ []) ∷ u.what (suc j) in
      record {
        what = z;
        does = (
          (λ j. wide_then 7 ((a.at ∷ v ∷ c.at ∷ w ∷ c.code ∷ i ∷ (suc j + length (u.what (suc j))) ∷ []) ∷ []) (u.what (suc j)) (wide_one 7 _ refl) (u.does.0 (suc j))),
          wrote_around a.at v c.at w c.code i u.what u.does.0 g u.does.1 o,
        );
        fills = record {
          meets = statement_by f.meets;
          told = λ h.
              told_rule (λ m. StatedRows z m) statement_is
              (told_as (f.told h) (λ m t j.
              let val = t.1.1.0 in
              let inside = m.1.1.0.block.inside (suc j) in
              let e : statements_in inside ≡ length (u.what (suc j)) = sym (length_statements inside (suc j)) ∙ ap (λ (l : List (List ℕ)). length l) (val.2 (suc j)) in
              ap₂ ◌∷◌
              (seen_place t.0 ⸬ (seen_length t.0 ∙ sym p) ⸬ seen_place val.0 ⸬ (seen_length val.0 ∙ sym q) ⸬ seen_code val.0 ⸬ val.1
              ⸬ ap (λ (k : ℕ). suc j + k) e ⸬ refl)
              (append-nil (statement_rows inside (suc j)) ∙ val.2 (suc j))));
        };
      }
