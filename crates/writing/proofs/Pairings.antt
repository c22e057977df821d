-- The lines of objects, row by row: what is left to write decides the whole. Assumes nothing.
use mathlib.Core.Path.{◌≡◌, refl, sym, ◌∙◌, ap, ap₂, subst}
use mathlib.Core.List.{List, [], ◌∷◌, ◌++◌, append_assoc, append-nil}
use Prim.Native.Nat.{ℕ, suc, ◌+◌, ◌≤◌, ◌<◌}
use native.Mathlib.Omega.{arith}
use native.Mathlib.Numerals.{add-one}
use lib.ListN.{length, get_or}
use Rattle.rows.specs.Table.{cell_of}
use Rattle.rows.specs.Search.{row_name}
use Rattle.token.specs.Words.{bytes_of}
use Rattle.token.specs.Tokens.{part_of}
use Rattle.meaning.specs.Syntax.{Object, span_of}
use Rattle.meaning.specs.Applying.{object_rows}
use Rattle.meaning.specs.Resolving.{Resolved, end, resolved, of_object, of_value, ValueRow, value_row, value_rows, all_value_rows, how_many_values}
use Rattle.meaning.specs.Cells.{owner_sort, owner_row, object_cells, value_cells}
use Rattle.meaning.specs.Normal.{lines, object_lines}
use Rattle.meaning.proofs.Rooms.{object_width, value_width}
use Rattle.meaning.proofs.Entries.{length_values}
use Rattle.writing.specs.Wrote.{cap, Wrote}
use Rattle.writing.specs.Lines.{opening_at, object_line}
use Rattle.writing.specs.Promises.{From, Ends, ends, ends_before, PutsLines, LaidObject, PutsObject, Pairs, a_pair, LaidAll, PutsObjects}
use Rattle.writing.specs.declared.Spot.{Spot}
use Rattle.writing.proofs.Writes.{wrote_length, wrote_low, wrote_then, wrote_as, wrote_none}
use Rattle.writing.proofs.Froms.{from_cell, from_append}

-- One object -------------------------------------------------------------------------------------------------------------------------------

object_line_is : {s d o v : List ℕ} {n i k : ℕ} (x : Object) (y : Resolved) {rest : List ValueRow} → LaidObject s d o v n i k x y rest
    → opening_at s o i ++ (lines y ++ bytes_of "};\n") ≡ object_line x y
unfolding opening_at object_line
object_line_is x y a =
    ap₂ (λ (p q : List ℕ). (p ++ (bytes_of " " ++ (q ++ bytes_of " {\n"))) ++ (lines y ++ bytes_of "};\n")) a.word a.name ∙ simp append_assoc

pub puts_object : {s d o v : List ℕ} {n i k : ℕ} {l l₁ l₂ l₃ : List ℕ} {at a b : ℕ} (q : Spot) → Wrote l at (opening_at s o i) l₁ a → PutsLines s d v n k 0 i l₁ a l₂ q
    → Wrote l₂ q.place (bytes_of "};\n") l₃ b → PutsObject s d o v n i k l at l₃ (record { next = q.next; place = b })
puts_object {i = i} q h p z =
    record {
      size = wrote_length z ∙ p.size ∙ wrote_length h;
      puts = λ x y rest a.
          let r = p.puts (wrote_low h) (of_object i) y rest a.laid in
          record { wrote = wrote_as (object_line_is x y a) (wrote_then h (wrote_then r.wrote z)); next = r.next };
    }

-- Rows -------------------------------------------------------------------------------------------------------------------------------------

not_value : (i m : ℕ) → of_object i ≡ of_value m → ⊥
unfolding owner_sort
not_value i m e = let z : ◌≡◌ {A = ℕ} 0 1 = ap owner_sort e in omega arith

-- The rows of later objects end those of an earlier one.
objects_end : (ys : List Resolved) (k i j m : ℕ) → i < j → Ends k (of_object i) (all_value_rows ys j m)
unfolding all_value_rows value_rows value_row owner_row
objects_end [] k i j m h = ends
objects_end (end ∷ ys) k i j m h = objects_end ys k i (suc j) (m + how_many_values end) (omega arith)
objects_end (resolved t us r ∷ ys) k i j m h = ends_before (λ (e : of_object j ≡ of_object i). let z : j ≡ i = ap owner_row e in omega arith) (λ n g. not_value j n)

module _ {s d o v : List ℕ} {m n i k : ℕ} {x : Object} {xs : List Object} {y : Resolved} {ys : List Resolved} where
  row_cell_lem : LaidAll s d o v m n i k (x ∷ xs) (y ∷ ys) → (c : ℕ) → c < 8
      → cell_of o 8 i c ≡ get_or (object_cells (record { kind = x.kind; word = span_of x.word; name = span_of x.name; block = x.block; parts = x.parts })) c 0
  unfolding object_rows
  row_cell_lem a c h = from_cell 8 object_cells object_width _ (object_rows xs) c h a.objects

  pub laid_object : LaidAll s d o v m n i k (x ∷ xs) (y ∷ ys) → LaidObject s d o v n i k x y (all_value_rows ys (suc i) (k + how_many_values y))
  unfolding row_name object_cells span_of all_value_rows owner_sort owner_row
  laid_object a = go a.pairs
    where
      go : Pairs s d (x ∷ xs) (y ∷ ys) → LaidObject s d o v n i k x y (all_value_rows ys (suc i) (k + how_many_values y))
      go (a_pair w u t p) =
          record {
            word = ap₂ (part_of s) (row_cell_lem a 1 (omega arith)) (row_cell_lem a 2 (omega arith)) ∙ sym w.bytes;
            name = ap₂ (part_of s) (row_cell_lem a 3 (omega arith)) (row_cell_lem a 4 (omega arith)) ∙ sym u.bytes;
            laid = record {
              of_sort = refl;
              of_row = refl;
              earlier = λ j h. not_value i j;
              rows = a.values;
              ends = objects_end ys k i (suc i) (k + how_many_values y) (omega arith);
              told = t;
            };
          }

  pub laid_later : LaidAll s d o v m n i k (x ∷ xs) (y ∷ ys) → (h : ℕ) → h ≡ k + how_many_values y → LaidAll s d o v m n (i + 1) h xs ys
  unfolding object_rows all_value_rows
  laid_later a h e = go a.pairs
    where
      go : Pairs s d (x ∷ xs) (y ∷ ys) → LaidAll s d o v m n (i + 1) h xs ys
      go (a_pair w u t p) =
          let l = length_values y k (of_object i) in
          let z : suc i ≡ i + 1 = sym (add-one i) in
          record {
            objects = from_append 8 object_cells object_width (_ ∷ []) (object_rows xs) refl a.objects;
            values = subst (λ (j : ℕ). From 9 value_cells v n h (all_value_rows ys j h)) z
                (subst (λ (j : ℕ). From 9 value_cells v n h (all_value_rows ys (suc i) j)) (sym e)
                (from_append 9 value_cells value_width (value_rows y k (of_object i)) (all_value_rows ys (suc i) (k + how_many_values y)) (omega (arith, e, l)) a.values));
            pairs = p;
          }

-- Objects one behind the other -------------------------------------------------------------------------------------------------------------

-- At object i and row k: the objects and values that are left are still to be written.
pub record LeftObjects (s d o v : List ℕ) (m n : ℕ) (l : List ℕ) (at i k : ℕ) (l₁ : List ℕ) (e : ℕ) (xs : List Object) (ys : List Resolved) : Type 0 where
  pub written_lines : List ℕ
  pub objects : List Object
  pub values : List Resolved
  pub whole : written_lines ++ object_lines objects values ≡ object_lines xs ys
  pub wrote : Wrote l at written_lines l₁ e
  pub laid : LaidAll s d o v m n i k objects values

pub record GoingObjects (s d o v : List ℕ) (m n : ℕ) (l : List ℕ) (at i k : ℕ) (l₁ : List ℕ) (e : ℕ) : Type 0 where
  pub size : length l₁ ≡ length l
  pub left : at ≤ cap → (xs : List Object) (ys : List Resolved) → LaidAll s d o v m n 0 0 xs ys → LeftObjects s d o v m n l at i k l₁ e xs ys

pub objects_start : (s d o v : List ℕ) (m n : ℕ) (l : List ℕ) (at : ℕ) → length l ≤ cap → GoingObjects s d o v m n l at 0 0 l at
objects_start s d o v m n l at h =
    record {
      size = refl;
      left = λ b xs ys a. record { written_lines = []; objects = xs; values = ys; whole = refl; wrote = wrote_none l at h b; laid = a };
    }

module _ {s d o v : List ℕ} {m n : ℕ} {l : List ℕ} {at i k : ℕ} {l₁ : List ℕ} {e : ℕ} (g : GoingObjects s d o v m n l at i k l₁ e) where
  pub objects_more : {l₂ : List ℕ} {q : Spot} → i < m → PutsObject s d o v n i k l₁ e l₂ q → GoingObjects s d o v m n l at (i + 1) q.next l₂ q.place
  unfolding object_lines object_line object_rows
  objects_more {l₂} {q} h p = record { size = p.size ∙ g.size; left = λ c xs ys a. by xs ys (g.left c xs ys a) }
    where
      by-object : (xs : List Object) (ys : List Resolved) (bs : List ℕ) (us : List Object) (vs : List Resolved) → bs ++ object_lines us vs ≡ object_lines xs ys
          → Wrote l at bs l₁ e → LaidAll s d o v m n i k us vs → Pairs s d us vs → LeftObjects s d o v m n l at (i + 1) q.next l₂ q.place xs ys
      by-object xs ys bs [] vs f w a c = absurd (let j = a.objects.count in omega arith)
      by-object xs ys bs (x ∷ us) (y ∷ vs) f w a c =
          let z = p.puts x y (all_value_rows vs (suc i) (k + how_many_values y)) (laid_object a) in
          record {
            written_lines = bs ++ object_line x y;
            objects = us;
            values = vs;
            whole = simp append_assoc f;
            wrote = wrote_then w z.wrote;
            laid = laid_later a q.next z.next;
          }
      by-object xs ys bs (x ∷ us) [] f w a c = elim c [ ]

      by : (xs : List Object) (ys : List Resolved) → LeftObjects s d o v m n l at i k l₁ e xs ys → LeftObjects s d o v m n l at (i + 1) q.next l₂ q.place xs ys
      by xs ys a = by-object xs ys a.written_lines a.objects a.values a.whole a.wrote a.laid a.laid.pairs

  pub objects_done : m ≤ i → PutsObjects s d o v m n l at l₁ e
  unfolding object_lines object_rows
  objects_done h = record { size = g.size; puts = λ c xs ys a. by xs ys (g.left c xs ys a) }
    where
      by-object : (xs : List Object) (ys : List Resolved) (bs : List ℕ) (us : List Object) (vs : List Resolved) → bs ++ object_lines us vs ≡ object_lines xs ys
          → Wrote l at bs l₁ e → From 8 object_cells o m i (object_rows us) → Wrote l at (object_lines xs ys) l₁ e
      by-object xs ys bs [] vs f w a = wrote_as (sym (append-nil bs) ∙ f) w
      by-object xs ys bs (x ∷ us) vs f w a = absurd (let j = a.count in omega arith)

      by : (xs : List Object) (ys : List Resolved) → LeftObjects s d o v m n l at i k l₁ e xs ys → Wrote l at (object_lines xs ys) l₁ e
      by xs ys a = by-object xs ys a.written_lines a.objects a.values a.whole a.wrote a.laid.objects
