-- One law for each way in which a reader of parts answers. Assumes nothing.
use mathlib.Core.Path.{◌≡◌, refl, sym, ◌∙◌, ap, ap₂, subst, fun_ext}
use mathlib.Core.List.{List, [], ◌∷◌, ◌++◌, append_assoc, append-nil}
use mathlib.Core.Bool.{true, false}
use Prim.Native.Nat.{ℕ, suc, ◌+◌, ◌-◌, ◌*◌, ◌≤◌, min}
use native.Mathlib.Omega.{arith}
use native.Mathlib.Nat.{add-zero}
use lib.ListN.{length, length-append}
use lib.Seq.{sets, length-sets}
use Rattle.filling.specs.Tables.{Table}
use Rattle.grammar.specs.Grammar.{◌·◌, ◌▸◌, ∎, matches, name, kind, sg, lbrace, rbrace, semicolon, D, statements, object, objects, an_object, no_object, an_object_alone, an_object_with}
use Rattle.grammar.specs.Readers.{class_at, advanced, Meets}
use Rattle.grammar.specs.declared.Look.{Look}
use Rattle.grammar.proofs.Codes.{at_code}
use Rattle.grammar.proofs.Meeting.{◌⊳◌, take}
use Rattle.grammar.proofs.Rules.{block_pass, block_by, object_by, objects_again, objects_done}
use Rattle.meaning.specs.Syntax.{absent, through, statements_in}
use Rattle.meaning.specs.Actions.{means}
use Rattle.layout.specs.Kept.{statement_rows, object_cells, object_rows, all_statement_rows, join}
use Rattle.layout.proofs.Lengths.{length_statements}
use Rattle.rows.specs.Tally.{one_more, count_on}
use Rattle.rows.proofs.Tallies.{count_on_append}
use Rattle.filling.specs.Fills.{Walks}
use Rattle.filling.proofs.Filling.{Going, Effects, front_of, behind, plain, first, matched, ◌▻◌, told_as, told_rule, going_on, gone, both as side_by_side}
use Rattle.filling.proofs.Tables.{wide_one, wide_then, rows_append, ◌⸬◌}
use Rattle.filling.proofs.Codes.{seen_place, seen_length, kind_seen}
use Rattle.object_parts.specs.Rows.{Lines, Fill, StatementRows, Put, FillBoth, All, FillAll, numbers, PartRows, AllRows}
use Rattle.object_parts.proofs.Stated.{then, none_yet, lines}

abbrev pub also : Put → Put → Put
also a b = ((λ k. a.0 k ++ b.0 (k + length (a.1 k))), then a.1 b.1)

abbrev pub beside : All → All → All
beside a b = (a.0 ++ b.0, also a.1 b.1)

-- Tables ---------------------------------------------------------------------------------------------------------------------------------

abbrev no_put : Put
no_put = (none_yet, none_yet)

module _ (x y z : Table × Table) (a b : Put) (d : FillBoth x a y) (e : FillBoth y b z) where
  put_then : FillBoth x (also a b) z
  put_then =
      record {
        wide = λ k. wide_then 10 (a.0 k) (b.0 (k + length (a.1 k))) (d.wide k) (e.wide (k + length (a.1 k)));
        same = λ k l.
            length-append (a.0 k) (b.0 (k + length (a.1 k)))
            ∙ ap₂ ◌+◌ (d.same k l) (e.same (k + length (a.1 k)) (l + length (a.1 l)))
            ∙ sym (length-append (a.0 l) (b.0 (l + length (a.1 l))));
        size = e.size ∙ d.size;
        count =
            let p = length-append (a.0 0) (b.0 (0 + length (a.1 0))) in
            let q = e.same (0 + length (a.1 0)) 0 in
            omega (arith, p, q, d.count, e.count);
        table = λ h h'.
            let m = x.1.1 in
            let k = m + length (a.1 m) in
            let p = length-append (a.0 0) (b.0 (0 + length (a.1 0))) in
            let q = e.same (0 + length (a.1 0)) 0 in
            let r = length-append (a.1 m) (b.1 k) in
            let i : y.0.1 ≡ x.0.1 + length (a.0 m) = omega (arith, d.count, d.same 0 m, p, q, h) in
            let j : y.1.1 ≡ k = omega (arith, d.lines.1.count, r, h') in
            let u : y.1.1 + length (b.1 y.1.1) ≤ 65536 = subst (λ (n : ℕ). n + length (b.1 n) ≤ 65536) (sym j) (omega (arith, r, h')) in
            e.table (omega (arith, d.count, p, q, h)) u
            ∙ ap₂ (λ (n n' : ℕ). sets y.0.0 (n * 10) (join (b.0 n'))) i j
            ∙ ap (λ (t : List ℕ). sets t ((x.0.1 + length (a.0 m)) * 10) (join (b.0 k))) (d.table (omega (arith, p, h)) (omega (arith, r, h')))
            ∙ sym (rows_append 10 x.0.0 x.0.1 (a.0 m) (b.0 k) (d.wide m));
        lines = lines.does_then x.1 y.1 z.1 a.1 b.1 d.lines e.lines;
      }

puts : Effects Put (Table × Table) also no_put FillBoth
unfolding join
puts =
    record {
      assoc = λ a b c. ap₂ (λ p q. (p, q)) (fun_ext (λ k. joined (a.0 k) (a.1 k) b.0 b.1 c.0 k)) (lines.assoc a.1 b.1 c.1);
      front = λ a. ap₂ (λ p q. (p, q)) (fun_ext (λ k. ap a.0 (add-zero k))) (lines.front a.1);
      back = λ a. ap₂ (λ p q. (p, q)) (fun_ext (λ k. append-nil (a.0 k))) (lines.back a.1);
      does_none = λ x.
          record {
            wide = λ k. omega arith;
            same = λ k l. refl;
            size = refl;
            count = omega arith;
            table = λ h h'. refl;
            lines = lines.does_none x.1;
          };
      does_then = put_then;
    }
  where
    joined : (xs ys : List (List ℕ)) (b b' c : Lines) (k : ℕ)
        → (xs ++ b (k + length ys)) ++ c (k + length (ys ++ b' (k + length ys))) ≡ xs ++ (b (k + length ys) ++ c (k + length ys + length (b' (k + length ys))))
    joined xs ys b b' c k =
        let e : k + length (ys ++ b' (k + length ys)) ≡ k + length ys + length (b' (k + length ys)) = omega (arith, length-append ys (b' (k + length ys))) in
        append_assoc xs (b (k + length ys)) (c (k + length (ys ++ b' (k + length ys)))) ∙ ap (λ (i : ℕ). xs ++ (b (k + length ys) ++ c i)) e

counting : Effects (List ℕ) (List ℕ) ◌++◌ [] (λ x w y. y ≡ count_on x w)
unfolding count_on
counting =
    record {
      assoc = append_assoc;
      front = λ a. refl;
      back = append-nil;
      does_none = λ x. refl;
      does_then = λ x y z a b d e. e ∙ ap (λ (c : List ℕ). count_on c b) d ∙ sym (count_on_append x a b);
    }

pub all : Effects All (List ℕ × (Table × Table)) beside ([], no_put) FillAll
all = side_by_side counting puts

-- One part.
put_part : {l l' : List ℕ} {n n' : ℕ} {t u : Table} (w : Lines) (r : ℕ → List ℕ) (c : List ℕ) → ((k : ℕ) → length (r k) ≡ 10) → Fill t w u
    → l' ≡ sets l (n * 10) c → (t.1 + length (w t.1) ≤ 65536 → c ≡ r t.1) → n' ≡ n + min 1 (65536 - n) → FillBoth ((l, n), t) ((λ k. r k ∷ []), w) ((l', n'), u)
unfolding join
put_part {l} {n} {t} w r c h f p i q =
    record {
      wide = λ k. wide_one 10 (r k) (h k);
      same = λ k k'. refl;
      size = ap length p ∙ length-sets l (n * 10) c;
      count = q;
      table = λ a b. p ∙ ap (sets l (n * 10)) (i b ∙ sym (append-nil (r t.1)));
      lines = f;
    }

module _ {s : List ℕ} {a b c : Look} {l l' : List ℕ} {n n' : ℕ} where
  pub part_alone : {e k v w m : ℕ} {t : List ℕ} {r : Look} → k ≡ a.code - 9 → Meets 1 (kind · ∎) s a b → Meets 1 (name · ∎) s b c → v ≡ a.next - a.at → w ≡ b.next - b.at
      → n' ≡ n + min 1 (65536 - n) → (c.code ≡ 45 → ⊥) → l' ≡ sets l (n * 10) (k ∷ a.at ∷ v ∷ b.at ∷ w ∷ 0 ∷ 0 ∷ 1 ∷ m ∷ m ∷ []) → Meets e (D ▸ sg semicolon · ∎) s c r
      → Walks FillBoth 1 (object ▸ ∎) (λ w m. PartRows a w m.0) s a r ((l, n), (t, m)) ((l', n'), (t, m))
  unfolding means absent front_of behind PartRows object_cells statement_rows statements_in
  part_alone {k} {v} {w} {m} {t} g x y p q i h o d =
      let f = matched kind x ▻ first name y ▻ plain (D ▸ sg semicolon · ∎) d in
      let row : ℕ → List ℕ = λ j. k ∷ a.at ∷ v ∷ b.at ∷ w ∷ 0 ∷ 0 ∷ 1 ∷ j ∷ j ∷ [] in
      let z : Put = ((λ j. row j ∷ []), none_yet) in
      record {
        what = z;
        does = put_part none_yet row (row m) (λ j. refl) (lines.does_none (t, m)) o (λ _. refl) i;
        fills = record {
          meets = object_by (x ⊳ y ⊳ block_pass h ⊳ d);
          told = λ u.
              told_rule (λ m. PartRows a z m) an_object_alone
              (told_as (f.told u) (λ m q' j j'.
              let kd = kind_seen q'.0.0 q'.0.1 in (
                kd,
                ap (λ (r : List ℕ). r ∷ [])
                    ((kd ∙ sym g) ⸬ seen_place q'.0.0 ⸬ (seen_length q'.0.0 ∙ sym p) ⸬ seen_place q'.1.0 ⸬ (seen_length q'.1.0 ∙ sym q) ⸬ refl ⸬ refl
                    ⸬ refl ⸬ refl ⸬ add-zero j' ⸬ refl),
                refl,
              )));
        };
      }

module _ {s : List ℕ} {a b c g : Look} {l l' : List ℕ} {n n' : ℕ} where
  pub part_with : {e e' k v w m m' extent : ℕ} {t t' : List ℕ} {d r f : Look} → k ≡ a.code - 9 → Meets 1 (kind · ∎) s a b → Meets 1 (name · ∎) s b c → v ≡ a.next - a.at
      → w ≡ b.next - b.at → n' ≡ n + min 1 (65536 - n) → c.code ≡ 45 → d ≡ advanced s c
      → Walks Fill 0 (statements ▸ ∎) (λ w m. StatementRows w m.0) s d g (t, m) (t', m') → extent ≡ (g.at + (g.next - g.at)) - c.at
      → l' ≡ sets l (n * 10) (k ∷ a.at ∷ v ∷ b.at ∷ w ∷ c.at ∷ extent ∷ 1 ∷ m ∷ m' ∷ []) → Meets e (sg rbrace · ∎) s g f → Meets e' (D ▸ sg semicolon · ∎) s f r
      → Walks FillBoth 1 (object ▸ ∎) (λ w m. PartRows a w m.0) s a r ((l, n), (t, m)) ((l', n'), (t', m'))
  unfolding means through front_of behind PartRows StatementRows object_cells matches class_at
  part_with {k} {v} {w} {m} {m'} {extent} gk x y p q i h o ss ex wr cl d =
      let br = take (sg lbrace) {s = s} {a = c} (at_code (matches (sg lbrace)) 45 tt h) o in
      let f = matched kind x ▻ first name y ▻ first (sg lbrace) br ▻ ss.fills ▻ first (sg rbrace) cl ▻ plain (D ▸ sg semicolon · ∎) d in
      let row : ℕ → List ℕ = λ j. k ∷ a.at ∷ v ∷ b.at ∷ w ∷ c.at ∷ extent ∷ 1 ∷ j ∷ (j + length (ss.what j)) ∷ [] in
      let z : Put = ((λ j. row j ∷ []), ss.what) in
      record {
        what = z;
        does = put_part ss.what row (k ∷ a.at ∷ v ∷ b.at ∷ w ∷ c.at ∷ extent ∷ 1 ∷ m ∷ m' ∷ []) (λ j. refl) ss.does wr
            (λ u. let e : m' ≡ m + length (ss.what m) = omega (arith, ss.does.1.count, u) in ap (λ (j : ℕ). k ∷ a.at ∷ v ∷ b.at ∷ w ∷ c.at ∷ extent ∷ 1 ∷ m ∷ j ∷ []) e) i;
        fills = record {
          meets = object_by (x ⊳ y ⊳ block_by h o (ss.fills.meets ⊳ cl) ⊳ d);
          told = λ u.
              told_rule (λ m. PartRows a z m) an_object_with
              (told_as (f.told u) (λ m q' j j'.
              let kd = kind_seen q'.0.0 q'.0.1 in
              let last = q'.1.1.1.1.0 in
              let open-brace = q'.1.1.0 in
              let st = m.1.1.1.0 j' in
              let rows = q'.1.1.1.0 j' in
              let e : statements_in st ≡ length (ss.what j') = sym (length_statements st j') ∙ ap (λ (l : List (List ℕ)). length l) rows in (
                kd,
                ap (λ (r : List ℕ). r ∷ [])
                    ((kd ∙ sym gk) ⸬ seen_place q'.0.0 ⸬ (seen_length q'.0.0 ∙ sym p) ⸬ seen_place q'.1.0 ⸬ (seen_length q'.1.0 ∙ sym q) ⸬ seen_place open-brace
                    ⸬ (ap₂ (λ (i j : ℕ). (i + j) - m.1.1.0.place) (seen_place last) (seen_length last)
                    ∙ ap (λ (i : ℕ). (g.at + (g.next - g.at)) - i) (seen_place open-brace) ∙ sym ex)
                    ⸬ refl ⸬ refl ⸬ ap (λ (i : ℕ). j' + i) e ⸬ refl),
                rows,
              )));
        };
      }

-- Parts ----------------------------------------------------------------------------------------------------------------------------------

module _ {s : List ℕ} {a : Look} {cs cs₁ cs₂ : List ℕ} {x y z : Table × Table} where
  pub parts_on : {k : ℕ} {o r : Look} → Going beside FillAll objects AllRows s o a (cs, x) (cs₁, y) → matches kind (class_at a.code) ≡ true → k ≡ a.code - 9
      → cs₂ ≡ one_more cs₁ k → Walks FillBoth 1 (object ▸ ∎) (λ w m. PartRows a w m.0) s a r y z → Going beside FillAll objects AllRows s o r (cs, x) (cs₂, z)
  unfolding means front_of behind PartRows AllRows numbers object_rows all_statement_rows count_on
  parts_on {k} g h p q w =
      going_on all AllRows (object ▸ ∎) an_object {w = (k ∷ [], w.what)} g (objects_again g.still h w.fills.meets) (q, w.does) w.fills
      (λ m more u v i j.
      let o = m.0 i j in
      let j' = j + statements_in o.statements in
      let r = u i j in
      let e : j' ≡ j + length (w.what.1 j) = ap (λ (n : ℕ). j + n) (sym (length_statements o.statements j) ∙ ap (λ (l : List (List ℕ)). length l) r.2) in
      let t = v (suc i) j' in (
        ap₂ ◌∷◌ (r.0 ∙ sym p) t.0,
        ap₂ ◌++◌ r.1 (t.1 ∙ ap more.1.0 e),
        ap₂ ◌++◌ r.2 (t.2 ∙ ap more.1.1 e),
      ))

module _ {s : List ℕ} {a : Look} {x y : List ℕ × (Table × Table)} where
  pub parts_gone : {o : Look} → Going beside FillAll objects AllRows s o a x y → matches kind (class_at a.code) ≡ false
      → Walks FillAll 0 (objects ▸ ∎) (λ w m. AllRows w m.0) s o a x y
  unfolding means AllRows numbers object_rows all_statement_rows
  parts_gone g h = gone all AllRows no_object (λ i j. (refl, refl, refl)) g (objects_done g.still h)
