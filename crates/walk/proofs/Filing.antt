-- One law for each way in which a reader of the whole text answers. Assumes nothing.
use mathlib.Core.Path.{◌≡◌, sym, ◌∙◌, ap, ap₂, subst}
use mathlib.Core.List.{List}
use Prim.Native.Nat.{ℕ, ◌-◌, ◌*◌, ◌≤◌, min}
use native.Mathlib.Omega.{arith}
use lib.ListN.{length, replicate}
use lib.Seq.{sets}
use Rattle.grammar.specs.Grammar.{◌·◌, ◌▸◌, ∎, name, string, the, sg, OIL-VERSION, CPU, lbrace, rbrace, equals, semicolon, D, version, implementation, application, objects, file, version_is, application_is, file_is}
use Rattle.grammar.specs.Readers.{look_at, rest, Meets}
use Rattle.grammar.specs.declared.Look.{Look}
use Rattle.grammar.proofs.Rules.{version_by, application_by, file_by}
use Rattle.meaning.specs.Actions.{means}
use Rattle.layout.specs.Kept.{spec_entries, spec_choices, definition_cells, choice_cells, map_cells, all_statement_rows, join}
use Rattle.layout.proofs.Lengths.{length_map, length_objects, length_all}
use Rattle.rows.specs.Tally.{count_on}
use Rattle.filling.specs.Fills.{Told, Fills, Walks}
use Rattle.filling.proofs.Filling.{front_of, behind, plain, first, ◌▻◌, told_as, told_rule}
use Rattle.filling.specs.Tables.{Wrote, Table}
use Rattle.filling.proofs.Codes.{seen_place, seen_length}
use Rattle.implementation.specs.Places.{Noted, note_all, ImplementationRows, FillAll as FillSpecs}
use Rattle.object_parts.specs.Rows.{FillAll, AllRows}
use Rattle.walk.specs.declared.Walked.{Walked}
use Rattle.walk.specs.Whole.{Rooms, Stands, Tells, Few, Whole, ApplicationRows}
use Rattle.grammar.specs.Machine.{Stream}
use Rattle.walk.proofs.Tallying.{tallied}
use Rattle.walk.proofs.Fewer.{few_rows}
use Rattle.std.specs.Prelude.{Option as Perhaps, None}
use Rattle.std.specs.Option.{unwrap_or}
use Rattle.walk.proofs.Placing.{none_noted, all_places, first_again}

-- A table that was filled from its first row on.
table_is : {w : ℕ} {l l' : List ℕ} {n : ℕ} {rs : List (List ℕ)} (xs : List (List ℕ)) → Wrote w l 0 rs l' n → xs ≡ rs → length xs ≤ 65536 → l' ≡ sets l 0 (join xs)
table_is {w} {l} xs u e h =
    let z : 0 * w ≡ 0 = omega arith in
    let k = ap (λ (t : List (List ℕ)). length t) e in
    u.table (omega (arith, h, k)) ∙ ap₂ (λ (i : ℕ) (t : List (List ℕ)). sets l i (join t)) z (sym e)

count_is : {w : ℕ} {l l' : List ℕ} {n : ℕ} {rs : List (List ℕ)} (xs : List (List ℕ)) → Wrote w l 0 rs l' n → xs ≡ rs → n ≡ min 65536 (length xs)
count_is xs u e = let k = ap (λ (t : List (List ℕ)). length t) e in omega (arith, u.count, k)

module _ {s : List ℕ} {a c : Look} where
  pub version_there : {e e' v : ℕ} {b d r : Look} → Meets 1 (the OIL-VERSION · ∎) s a b → Meets e (sg equals · ∎) s b c → Meets e' (string · ∎) s c d
      → Meets 0 (D ▸ sg semicolon · ∎) s d r → v ≡ c.next - c.at → Fills 1 (version ▸ ∎) s a r (λ m. Stands m.0 c.at v)
  unfolding means front_of behind
  version_there {v} x y z w p =
      let f = plain (the OIL-VERSION · ∎) x ▻ plain (sg equals · ∎) y ▻ first string z ▻ plain (D ▸ sg semicolon · ∎) w in
      record {
        meets = version_by f.meets;
        told = λ k. told_rule (λ m. Stands m c.at v) version_is (told_as (f.told k) (λ m q. (seen_place q.1.1.0, seen_length q.1.1.0 ∙ sym p)));
      }

module _ {s : List ℕ} {a b : Look} {x y : List ℕ × (Table × Table)} where
  pub application_there : {e e' e'' v : ℕ} {c d f r : Look} → Meets 1 (the CPU · ∎) s a b → Meets e (name · ∎) s b c → Meets e' (sg lbrace · ∎) s c d
      → Walks FillAll 0 (objects ▸ ∎) (λ w m. AllRows w m.0) s d f x y → Meets e'' (sg rbrace · D ▸ sg semicolon · ∎) s f r → v ≡ b.next - b.at
      → Walks FillAll 1 (application ▸ ∎) (λ w m. ApplicationRows b.at v w m.0) s a r x y
  unfolding means front_of behind AllRows ApplicationRows
  application_there {v} k n o w c p =
      let f = plain (the CPU · ∎) k ▻ first name n ▻ plain (sg lbrace · ∎) o ▻ w.fills ▻ plain (sg rbrace · D ▸ sg semicolon · ∎) c in
      record {
        what = w.what;
        does = w.does;
        fills = record {
          meets = application_by f.meets;
          told = λ h.
              told_rule (λ m. ApplicationRows b.at v w.what m) application_is
              (told_as (f.told h) (λ m q.
              let r = q.1.1.1.0 0 0 in
              ((seen_place q.1.0, seen_length q.1.0 ∙ sym p), r.0, r.1, r.2)));
        };
      }

few : {s : List ℕ} {x y : Rooms} {r : Walked} {v : Stream} → (look_at s 0 0).code ≤ 56 → Told s (file ▸ ∎) (rest s (look_at s 0 0)) v (λ m. Tells m.0 x y r)
    → Told s (file ▸ ∎) (rest s (look_at s 0 0)) v (λ m. Tells m.0 x y r × Few s m.0)
few {s} {v} c d = record { trees = d.trees; split = d.split; holds = (d.holds, few_rows s v d.trees c d.split) }

-- The whole text.
module _ {s : List ℕ} {a : Look} {x y : Rooms} {r : Walked} where
  pub file_there : {marks : List ℕ} {again : Perhaps ℕ} {b c : Look} → a ≡ look_at s 0 0 → Fills 1 (version ▸ ∎) s a b (λ m. Stands m.0 r.version_at r.version_len)
      → Walks FillSpecs 1 (implementation ▸ ∎) (λ w m. ImplementationRows r.implementation_at r.implementation_len w m.0) s b c
      (record { marks = replicate 13 0; places = replicate 13 0; again = None }, ((x.definitions, 0), (x.enumerators, 0)))
      (record { marks = marks; places = r.places; again = again }, ((y.definitions, r.definitions), (y.enumerators, r.enumerators)))
      → Walks FillAll 1 (application ▸ ∎) (λ w m. ApplicationRows r.cpu_at r.cpu_len w m.0) s c r.look
      (replicate 13 0, ((x.parts, 0), (x.statements, 0))) (r.counts, ((y.parts, r.parts), (y.statements, r.statements)))
      → r.again ≡ unwrap_or again 0 → Whole s x y r
  unfolding means front_of behind ImplementationRows ApplicationRows
  file_there {b} e v i p g =
      let v' : Fills 1 (version ▸ ∎) s (look_at s 0 0) b (λ m. Stands m.0 r.version_at r.version_len) =
      subst (λ (a : Look). Fills 1 (version ▸ ∎) s a b (λ m. Stands m.0 r.version_at r.version_len)) e v in
      let f = v' ▻ i.fills ▻ p.fills in
      record {
        meets = file_by f.meets;
        sizes = record {
          definitions = i.does.1.0.size;
          enumerators = i.does.1.1.size;
          parts = p.does.1.size;
          statements = p.does.1.lines.1.size;
        };
        told = λ k.
            few ((file_by f.meets).took k).0
            (told_rule (λ m. Tells m x y r) file_is
            (told_as (f.told k) (λ m q.
            let xs = m.1.0.specs in
            let os = m.1.1.0.objects in
            let im = q.1.0.1 in
            let pa = q.1.1 in
            let ds = map_cells definition_cells (spec_entries xs) in
            let es = map_cells choice_cells (spec_choices xs) in
            let ld = length_map definition_cells (spec_entries xs) in
            let le = length_map choice_cells (spec_choices xs) in
            let lo = length_objects os 0 in
            let ls = length_all os 0 in
            let ko = ap (λ (l : List (List ℕ)). length l) pa.2 in
            let ks = ap (λ (l : List (List ℕ)). length l) pa.3 in
            record {
              version = q.0;
              implementation = q.1.0.0;
              cpu = pa.0;
              definitions = count_is ds i.does.1.0 im.1 ∙ ap (min 65536) ld;
              enumerators = count_is es i.does.1.1 im.2 ∙ ap (min 65536) le;
              parts = omega (arith, p.does.1.count, lo, ko);
              statements = count_is (all_statement_rows os 0) p.does.1.lines.1 pa.3 ∙ ap (min 65536) ls;
              definition_rows = λ h. table_is ds i.does.1.0 im.1 (omega (arith, h, ld));
              enumerator_rows = λ h. table_is es i.does.1.1 im.2 (omega (arith, h, le));
              part_table = λ h h'.
                  p.does.1.table (omega (arith, h, lo, ko)) (omega (arith, h', ls, ks)) ∙ ap (λ (l : List (List ℕ)). sets x.parts 0 (join l)) (sym pa.2);
              statement_table = λ h. table_is (all_statement_rows os 0) p.does.1.lines.1 pa.3 (omega (arith, h, ls));
              places = ap (λ (n : Noted). n.places) i.does.0 ∙ ap (λ (h : List (ℕ × ℕ)). (note_all none_noted h).places) (sym im.0) ∙ all_places xs;
              again = g ∙ ap (λ (n : Noted). unwrap_or n.again 0) i.does.0 ∙ ap (λ (h : List (ℕ × ℕ)). unwrap_or (note_all none_noted h).again 0) (sym im.0) ∙ first_again xs;
              counted = λ h. p.does.0 ∙ ap (count_on (replicate 13 0)) (sym pa.1) ∙ tallied os h;
            })));
      }
