-- From the tables of an accepted reading to where each object and its values stand. Assumes nothing.
use mathlib.Core.Path.{◌≡◌, refl, sym, ◌∙◌, ap, ap₂, subst}
use mathlib.Core.List.{List, [], ◌∷◌, ◌++◌, append_assoc}
use Prim.Native.Nat.{ℕ, suc, ◌+◌, ◌*◌, ◌<◌, ◌≤◌}
use native.Mathlib.Omega.{arith}
use native.Mathlib.Numerals.{add-one}
use lib.ListN.{length, get_or, length-append}
use Rattle.token.specs.Tokens.{part_of, step_at}
use Rattle.rows.specs.Table.{cell_of}
use Rattle.rows.specs.Search.{row_name}
use Rattle.meaning.specs.Syntax.{span_of, Object, File}
use Rattle.meaning.specs.Actions.{float_of_step}
use Rattle.meaning.specs.Defining.{all_definition_rows}
use Rattle.meaning.specs.Applying.{ObjectRow, object_rows}
use Rattle.meaning.specs.Resolving.{Taken, Resolved, end, resolved, Owner, of_object, of_value, ValueRow, value_row, value_rows, all_values, all_value_rows, object_values, how_many_values}
use Rattle.meaning.specs.Cells.{owner_row, object_cells, value_cells, object_room, value_room}
use Rattle.meaning.proofs.Rooms.{object_width, value_width}
use Rattle.meaning.proofs.Entries.{length_values}
use Rattle.meaning.proofs.Sites.{statement_words, object_words}
use Rattle.meaning.proofs.Numbering.{Counts, counts_more, object_numbers, numbered}
use Rattle.blocks.specs.Blocks.{WordIn}
use Rattle.blocks.proofs.Files.{AllIn, in_front, in_back, objects_in, statements_in_text}
use Rattle.scopes.proofs.Descents.{scope_of_kind}
use Rattle.writing.specs.Promises.{From, Tables}
use Rattle.writing.proofs.Froms.{from_cell, from_append, from_room}
use Rattle.comparing.specs.Contents.{Placed, placed, contents_from, contents}
use Rattle.comparing.specs.Keys.{row_float}
use Rattle.comparing.specs.Standing.{RowIs, TreeAt, no_rows, some_rows, ObjectIs, ObjectsAt, no_objects, some_objects}
use Rattle.releases.specs.Starts.{object_end, start_at}
use Rattle.releases.specs.Settings.{AllLocated, none_located, more_located, Scene}
use Rattle.releases.proofs.Starting.{object_ends}
use Rattle.releases.proofs.Facts.{AllTaken, no_taken, more_taken, Fact, all_facts}

-- Values -----------------------------------------------------------------------------------------------------------------------------------

module _ (s d v : List ℕ) (n many : ℕ) where
  row_is : (t : Taken) (o : Owner) (rest : List ValueRow) (k : ℕ) → owner_row o ≤ 65536 → Fact s d many t → From 9 value_cells v n k (value_row t o ∷ rest) → RowIs s d v many k o t
  unfolding value_cells value_row span_of row_name row_float
  row_is t o rest k few p a =
      let at : (c : ℕ) → c < 9 → cell_of v 9 k c ≡ get_or (value_cells (value_row t o)) c 0 = λ c h. from_cell 9 value_cells value_width (value_row t o) rest c h a in
      let definition : cell_of v 9 k 0 ≡ t.definition.row = at 0 (omega arith) in
      record {
        definition = definition;
        known = p.known;
        of_sort = at 1 (omega arith);
        of_row = at 2 (omega arith);
        few = few;
        row = record {
          sort = at 3 (omega arith);
          sign = at 4 (omega arith);
          amount = at 5 (omega arith);
          word = ap₂ (part_of s) (at 7 (omega arith)) (at 8 (omega arith)) ∙ sym p.word.bytes;
          float = ap (λ (q : ℕ). float_of_step (step_at s q)) (at 7 (omega arith)) ∙ sym p.word.float;
          type = ap (λ (q : ℕ). cell_of d 13 q 12) definition ∙ p.type;
          typed = p.typed;
        };
        list = p.list;
        name = p.name;
      }

  pub tree_at : (x : Resolved) (k : ℕ) (o : Owner) (rest : List ValueRow) → owner_row o ≤ 65536 → k + how_many_values x ≤ 65536 → AllTaken (Fact s d many) x
      → From 9 value_cells v n k (value_rows x k o ++ rest) → TreeAt s d v many k o x
  unfolding value_rows how_many_values owner_row
  tree_at end k o rest few all no_taken a = no_rows
  tree_at (resolved t us r) k o rest few all (more_taken p q w) a =
      let under = value_rows us (suc k) (of_value k) in
      let behind = value_rows r (suc k + how_many_values us) o in
      let l = length_values us (suc k) (of_value k) in
      let b : From 9 value_cells v n k (value_row t o ∷ (under ++ (behind ++ rest))) =
      subst (From 9 value_cells v n k) (ap (λ (z : List ValueRow). value_row t o ∷ z) (append_assoc under behind rest)) a in
      let c : From 9 value_cells v n (suc k) (under ++ (behind ++ rest)) = from_append 9 value_cells value_width (value_row t o ∷ []) (under ++ (behind ++ rest)) (sym (add-one k)) b in
      let e : From 9 value_cells v n (suc k + how_many_values us) (behind ++ rest) = from_append 9 value_cells value_width under (behind ++ rest) (omega (arith, l)) c in
      some_rows (row_is t o (under ++ (behind ++ rest)) k few p b) (tree_at us (suc k) (of_value k) (behind ++ rest) (omega (arith, all)) (omega (arith, all)) q c)
      (tree_at r (suc k + how_many_values us) o rest few (omega (arith, all)) w e)

-- Objects ----------------------------------------------------------------------------------------------------------------------------------

counts_head : {n k : ℕ} {l : List ℕ} → Counts n (k ∷ l) → k ≡ n
counts_head (counts_more e c) = e

counts_tail : {n k : ℕ} {l : List ℕ} → Counts n (k ∷ l) → Counts (suc n) l
counts_tail (counts_more e c) = c

module _ (s o : List ℕ) (m : ℕ) (f : File) where
  object_is : (x : Object) (rest : List ObjectRow) (i : ℕ) (ps : List Placed) → From 8 object_cells o m i (object_rows (x ∷ []) ++ rest) → WordIn s x.name → x.row ≡ i
      → ObjectIs s o i (record { object = x; values = ps })
  unfolding object_rows object_cells span_of row_name
  object_is x rest i ps a w e =
      let r : ObjectRow = record { kind = x.kind; word = span_of x.word; name = span_of x.name; block = x.block; parts = x.parts } in
      record {
        kind = from_cell 8 object_cells object_width r rest 0 (omega arith) a;
        name = ap₂ (part_of s) (from_cell 8 object_cells object_width r rest 3 (omega arith) a) (from_cell 8 object_cells object_width r rest 4 (omega arith) a) ∙ sym w.bytes;
        row = e;
      }

  pub objects_at : (xs : List Object) (i k : ℕ) → From 8 object_cells o m i (object_rows xs) → AllIn s (object_words xs) → Counts i (object_numbers xs) → ObjectsAt s o i (contents_from f xs k)
  unfolding contents_from object_rows object_words object_numbers
  objects_at [] i k a w c = no_objects
  objects_at (x ∷ xs) i k a w c =
      some_objects (object_is x (object_rows xs) i (placed (object_values f x) k []) a w.1.0 (counts_head c))
      (objects_at xs (i + 1) (k + how_many_values (object_values f x)) (from_append 8 object_cells object_width (_ ∷ []) (object_rows xs) refl a)
      (in_back s (statement_words x.statements) (object_words xs) w.1.1) (subst (λ (z : ℕ). Counts z (object_numbers xs)) (sym (add-one i)) (counts_tail c)))

-- A text -----------------------------------------------------------------------------------------------------------------------------------

module _ (s d o v : List ℕ) (m n : ℕ) (f : File) (t : Tables s d o v m n f) (few : m ≤ 256) (low : n ≤ 2048) where
  abbrev many : ℕ
  many = length (all_definition_rows f.specs)

  located : (xs : List Object) (i k : ℕ) → From 8 object_cells o m i (object_rows xs) → AllIn s (object_words xs) → Counts i (object_numbers xs)
      → From 9 value_cells v n k (all_value_rows (all_values f xs) i k) → start_at v n i ≡ k → AllLocated s d o v n many (contents_from f xs k)
  unfolding contents_from object_rows object_words object_numbers all_values all_value_rows object_values start_at owner_row
  located [] i k a w c b e = none_located
  located (x ∷ xs) i k a w c b e =
      let r = object_values f x in
      let rest = all_value_rows (all_values f xs) (suc i) (k + how_many_values r) in
      let front = value_rows r k (of_object i) in
      let l = length_values r k (of_object i) in
      let many_rows = b.count in
      let long = length-append front rest in
      let all : k + how_many_values r ≤ 2048 = omega (arith, l, many_rows, long, low) in
      let head = counts_head c in
      let objects = a.count in
      let inside : i < 256 = omega (arith, objects, few) in
      let facts = all_facts t.situation t.definitions f.objects (scope_of_kind f x.kind) x.statements (statements_in_text s x.statements (in_front s (statement_words x.statements) (object_words xs) w.1.1)) in
      let tree : TreeAt s d v many k (of_object i) r = tree_at s d v n many r k (of_object i) rest (omega (arith, inside)) (omega (arith, all)) facts b in
      let next : start_at v n (suc i) ≡ k + how_many_values r = ap (object_end v n i) e ∙ object_ends v n i k r (all_values f xs) b in
      let behind : From 9 value_cells v n (k + how_many_values r) rest = from_append 9 value_cells value_width front rest (omega (arith, l)) b in
      let own : ObjectIs s o i (record { object = x; values = placed r k [] }) = object_is s o m f x (object_rows xs) i (placed r k []) a w.1.0 head in
      more_located
      (record {
        rows = r;
        from = k;
        values = refl;
        tree = subst (λ (z : ℕ). TreeAt s d v many k (of_object z) r) (sym head) tree;
        starts = ap (start_at v n) head ∙ e;
        ends = ap (λ (z : ℕ). start_at v n (suc z)) head ∙ next;
        few = all;
        low = omega (arith, head, inside);
        own = subst (λ (z : ℕ). ObjectIs s o z (record { object = x; values = placed r k [] })) (sym head) own;
      })
      (located xs (suc i) (k + how_many_values r) (from_append 8 object_cells object_width (_ ∷ []) (object_rows xs) (sym (add-one i)) a)
      (in_back s (statement_words x.statements) (object_words xs) w.1.1) (counts_tail c) behind next)

  contents_length : (xs : List Object) (k : ℕ) → length (contents_from f xs k) ≡ length (object_rows xs)
  unfolding contents_from object_rows
  contents_length [] k = refl
  contents_length (x ∷ xs) k = ap suc (contents_length xs (k + how_many_values (object_values f x)))

  -- THE LAW: what the tables of an accepted text are.
  pub scene : ((i : ℕ) → get_or s i 0 < 256) → length s ≤ 18446744073709551616 → ((i : ℕ) → get_or d i 0 < 18446744073709551616) → many ≤ 512 → Scene s d o v many m n f
  unfolding contents start_at object_room value_room
  scene bytes short cells defs =
      let words = subst (λ (g : File). AllIn s (object_words g.objects)) (sym t.situation.syntax_of) (objects_in s t.situation.derivation) in
      let numbers = subst (λ (g : File). Counts 0 (object_numbers g.objects)) (sym t.situation.syntax_of) (numbered s t.situation.derivation.tree).1.0 in
      let os = from_room 8 object_cells (256 * 8) (object_rows f.objects) o m t.objects t.many_objects in
      let vs = from_room 9 value_cells (2048 * 9) (all_value_rows (all_values f f.objects) 0 0) v n t.values t.many_values in
      record {
        bytes = bytes;
        short = short;
        cells = cells;
        objects = objects_at s o m f f.objects 0 0 os words numbers;
        located = located f.objects 0 0 os words numbers vs refl;
        count = t.many_objects ∙ sym (contents_length f.objects 0);
        few = few;
        few_definitions = defs;
      }
