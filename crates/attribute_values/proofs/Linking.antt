-- From the rows to the syntax: the row that is found is that of the value to which the path leads. Assumes nothing.
use mathlib.Core.Path.{◌≡◌, refl, sym, ◌∙◌, ap, ap₂, subst}
use mathlib.Core.List.{List, [], ◌∷◌, ◌++◌, append_assoc}
use mathlib.Core.Bool.{Bool, true, false}
use mathlib.Core.Option.{Option, none, some}
use Prim.Native.Nat.{ℕ, suc, ◌+◌, ◌-◌, ◌*◌, ◌<◌, ◌≤◌}
use native.Mathlib.Omega.{arith}
use native.Mathlib.Numerals.{add-one}
use lib.ListN.{length, get_or}
use lib.Dec.{eqb}
use Rattle.token.specs.Find.{both}
use Rattle.token.specs.Words.{same}
use Rattle.token.specs.Tokens.{part_of}
use Rattle.rows.specs.Table.{cell_of}
use Rattle.rows.specs.Search.{row_name, find_from}
use Rattle.rows.specs.Found.{Found}
use Rattle.std.specs.Prelude.{Some, None}
use Rattle.rows.proofs.Searches.{find_stop, find_more, find_end}
use Rattle.meaning.specs.Syntax.{Object, File, span_of}
use Rattle.meaning.specs.Words.{choose}
use Rattle.meaning.specs.Applying.{ObjectRow, object_rows}
use Rattle.meaning.specs.Resolving.{Taken, Resolved, end, resolved, object_values, all_values, Owner, of_object, of_value, ValueRow, value_row, value_rows, all_value_rows, how_many_values}
use Rattle.meaning.specs.Cells.{owner_sort, owner_row, object_cells, value_cells, object_room, value_room}
use Rattle.meaning.proofs.Rooms.{object_width, value_width}
use Rattle.meaning.proofs.Entries.{length_values}
use Rattle.blocks.specs.Blocks.{WordIn}
use Rattle.writing.specs.Lines.{value_at}
use Rattle.writing.specs.Promises.{From, Told, AllTold, more_told, Pairs, a_pair, Tables}
use Rattle.writing.proofs.Froms.{from_cell, from_append, from_room}
use Rattle.writing.proofs.Telling.{file_pairs}
use Rattle.writing.proofs.Layings.{flag_one, shown}
use Rattle.attribute_values.specs.Paths.{steps, name_of, mark_of, picks}
use Rattle.attribute_values.specs.Values.{onward, leads_to, by_steps, is_called, value_among, value_of}
use Rattle.attribute_values.specs.Results.{text_of, copied, told}
use Rattle.attribute_values.specs.Rows.{called_at, owned_at, named_at, picked_at, seek, entry_at, onward_at, by_steps_at, within, row_of, told_at}
use Rattle.attribute_values.proofs.Stepping.{lost}
use Rattle.attribute_values.proofs.Seeking.{seek_here, seek_other, seek_pass}
use Rattle.attribute_values.proofs.Others.{has, has_own, object_not, not_object, other_value, other_object, Outside, outside_append, outside_narrow, outside_value, values_outside, objects_outside, pass_over, nothing_left}

-- What was found in the rows is what the syntax has: nothing, or a row whose value is written as that value is.
pub data Agrees (s v : List ℕ) : Option Taken → Found → Type 0 where
  both_nothing : Agrees s v none None
  both_found : {t : Taken} {k : ℕ} → value_at s v k ≡ text_of t → Agrees s v (some t) (Some k)

pub agrees_told : {s v : List ℕ} {x : Option Taken} {f : Found} (l : List ℕ) → Agrees s v x f → told_at s v f l ≡ told x l
unfolding told_at told
agrees_told l both_nothing = refl
agrees_told l (both_found e) = ap (λ (w : List ℕ). copied w l) e

-- What a value's row holds -----------------------------------------------------------------------------------------------------------------

module _ {s d v : List ℕ} {e k : ℕ} (o : Owner) {t : Taken} {xs : List ValueRow} (h : From 9 value_cells v e k (value_row t o ∷ xs)) (a : Told s d t) where
  cell : (c : ℕ) → c < 9 → cell_of v 9 k c ≡ get_or (value_cells (value_row t o)) c 0
  cell c p = from_cell 9 value_cells value_width (value_row t o) xs c p h

  pub row_text : value_at s v k ≡ text_of t
  unfolding value_at row_name value_cells value_row span_of text_of
  row_text = rw (cell 3 (omega arith), cell 4 (omega arith), cell 5 (omega arith), cell 7 (omega arith), cell 8 (omega arith)) (shown s t.value t.word a.word)

  pub row_named : (name : List ℕ) → named_at s d v (owner_sort o) (owner_row o) name k ≡ same t.definition.name.bytes name
  unfolding named_at owned_at value_cells value_row has
  row_named name =
      ap₂ (λ (x : Bool) (y : List ℕ). both x (same y name))
      (ap₂ (λ (i j : ℕ). both (eqb i (owner_sort o)) (eqb j (owner_row o))) (cell 1 (omega arith)) (cell 2 (omega arith)) ∙ has_own o)
      (ap (λ (j : ℕ). row_name s d 13 2 j) (cell 0 (omega arith)) ∙ a.name)

  pub row_picked : (mark : List ℕ) (n : ℕ) → picked_at d v mark k n ≡ picks t.definition.list mark n
  unfolding picked_at value_cells value_row
  row_picked mark n =
      ap (λ (b : Bool). picks b mark n)
      (ap (λ (j : ℕ). eqb (cell_of d 13 j 6) 1) (cell 0 (omega arith)) ∙ ap (λ (j : ℕ). eqb j 1) a.list ∙ flag_one t.definition.list)

-- Down a path ------------------------------------------------------------------------------------------------------------------------------

-- No value from row k on is the owner o.
pub record Earlier (k : ℕ) (o : Owner) : Type 0 where
  pub never : (m : ℕ) → k ≤ m → has (owner_sort o) (owner_row o) (of_value m) ≡ false
  pub nor : (m : ℕ) → k ≤ m → has 1 m o ≡ false

pub object_earlier : (i k : ℕ) → Earlier k (of_object i)
unfolding owner_sort owner_row
object_earlier i k = record { never = λ m h. object_not i m; nor = λ m h. not_object m i }

value_earlier : (k : ℕ) → Earlier (suc k) (of_value k)
unfolding owner_sort owner_row
value_earlier k = record { never = λ m h. other_value k m (λ (z : m ≡ k). omega (arith, z, h)); nor = λ m h. other_value m k (λ (z : k ≡ m). omega (arith, z, h)) }

earlier_later : {k j : ℕ} {o : Owner} → k ≤ j → Earlier k o → Earlier j o
earlier_later h a = record { never = λ m p. a.never m (omega (arith, h, p)); nor = λ m p. a.nor m (omega (arith, h, p)) }

-- What stands behind the values under row k is neither its own nor theirs.
apart_from : (k : ℕ) (us more : Resolved) (o : Owner) (rest : List ValueRow) → Earlier k o → Outside k (k + suc (how_many_values us + how_many_values more)) (owner_sort o) (owner_row o) rest
    → Outside (suc k) (suc k + how_many_values us) (owner_sort (of_value k)) (owner_row (of_value k)) (value_rows more (suc k + how_many_values us) o ++ rest)
unfolding owner_sort owner_row
apart_from k us more o rest w c =
    outside_append
    (values_outside (suc k) (suc k + how_many_values us) 1 k more (suc k + how_many_values us) o (omega arith) (w.nor k (omega arith))
    (λ m p q. w.nor m (omega (arith, p)))
    (λ m p. other_value k m (λ (z : m ≡ k). omega (arith, z, p))))
    (outside_value (omega arith) (omega arith) (omega arith) (omega arith) c)

module _ (s d v : List ℕ) (e : ℕ) where
  -- The row that the step b and the further steps bs lead to, among the rows of the owner o from k on, n of which with the name stand before.
  unfoldable pub down : List ℕ → List (List ℕ) → (n k : ℕ) → Owner → Found
  down b bs n k o =
      onward_at bs (seek (named_at s d v (owner_sort o) (owner_row o) (name_of b)) (picked_at d v (mark_of b)) (e - k) k n) (λ j. by_steps_at s d v e bs (suc j) 1 j)

  abbrev Down : List ℕ → List (List ℕ) → (n k : ℕ) → Owner → Resolved → Type 0
  Down b bs n k o x = Agrees s v (leads_to b bs n x) (down b bs n k o)

  -- Where the search finds nothing.
  down_nothing : (b : List ℕ) (bs : List (List ℕ)) (n k : ℕ) (o : Owner) (rest : List ValueRow) {low high : ℕ} → From 9 value_cells v e k rest
      → Outside low high (owner_sort o) (owner_row o) rest → None ≡ down b bs n k o
  unfolding down
  down_nothing b bs n k o rest h a =
      lost bs (λ j. by_steps_at s d v e bs (suc j) 1 j)
      ∙ ap (λ (f : Found). onward_at bs f (λ j. by_steps_at s d v e bs (suc j) 1 j))
      (sym (nothing_left s d v e (owner_sort o) (owner_row o) (name_of b) (picked_at d v (mark_of b)) rest n h a))

  -- From one search to another.
  down_as : (b : List ℕ) (bs : List (List ℕ)) (n k m j : ℕ) (o : Owner)
      → seek (named_at s d v (owner_sort o) (owner_row o) (name_of b)) (picked_at d v (mark_of b)) (e - k) k n
      ≡ seek (named_at s d v (owner_sort o) (owner_row o) (name_of b)) (picked_at d v (mark_of b)) (e - j) j m → down b bs n k o ≡ down b bs m j o
  unfolding down
  down_as b bs n k m j o q = ap (λ (f : Found). onward_at bs f (λ i. by_steps_at s d v e bs (suc i) 1 i)) q

  down_at : (b : List ℕ) (bs : List (List ℕ)) (n k i : ℕ) (o : Owner)
      → seek (named_at s d v (owner_sort o) (owner_row o) (name_of b)) (picked_at d v (mark_of b)) (e - k) k n ≡ Some i
      → down b bs n k o ≡ onward_at bs (Some i) (λ j. by_steps_at s d v e bs (suc j) 1 j)
  unfolding down
  down_at b bs n k i o q = ap (λ (f : Found). onward_at bs f (λ j. by_steps_at s d v e bs (suc j) 1 j)) q

  -- The steps under row k.
  under_row : (c : List ℕ) (cs : List (List ℕ)) (k : ℕ) → by_steps_at s d v e (c ∷ cs) (suc k) 1 k ≡ down c cs 0 (suc k) (of_value k)
  unfolding by_steps_at entry_at down owner_sort owner_row
  under_row c cs k = refl

  -- A value that its step picks: the path ends there, or goes on under it.
  picked : (bs : List (List ℕ)) (k : ℕ) (t : Taken) (us : Resolved) → value_at s v k ≡ text_of t → ((c : List ℕ) (cs : List (List ℕ)) → Down c cs 0 (suc k) (of_value k) us)
      → Agrees s v (onward bs t (λ c cs. leads_to c cs 0 us)) (onward_at bs (Some k) (λ j. by_steps_at s d v e bs (suc j) 1 j))
  unfolding onward onward_at
  picked [] k t us a inner = both_found a
  picked (c ∷ cs) k t us a inner = subst (Agrees s v (leads_to c cs 0 us)) (sym (under_row c cs k)) (inner c cs)

  module _ (b : List ℕ) (bs : List (List ℕ)) (n k : ℕ) (o : Owner) (t : Taken) (us more : Resolved) (rest : List ValueRow) where
    abbrev after : ℕ
    after = suc k + how_many_values us

    abbrev named : ℕ → Bool
    named = named_at s d v (owner_sort o) (owner_row o) (name_of b)

    abbrev marked : ℕ → ℕ → Bool
    marked = picked_at d v (mark_of b)

    module _ (h : From 9 value_cells v e k (value_row t o ∷ (value_rows us (suc k) (of_value k) ++ (value_rows more after o ++ rest)))) (a : Told s d t) (w : Earlier k o) where
      inside : k < e
      inside = let c = h.count in omega (arith, c)

      -- The rows of what is under a value are passed over.
      over : (m : ℕ) → seek named marked (e - suc k) (suc k) m ≡ seek named marked (e - after) after m
      over m =
          let z : suc k ≡ k + 1 = sym (add-one k) in
          let l : length (value_rows us (suc k) (of_value k)) ≡ how_many_values us = length_values us (suc k) (of_value k) in
          let p : From 9 value_cells v e (suc k) (value_rows us (suc k) (of_value k) ++ (value_rows more after o ++ rest)) =
          from_append 9 value_cells value_width (value_row t o ∷ []) (value_rows us (suc k) (of_value k) ++ (value_rows more after o ++ rest)) z h in
          pass_over s d v e (owner_sort o) (owner_row o) (name_of b) marked (value_rows us (suc k) (of_value k)) (value_rows more after o ++ rest) m p others
          ∙ ap (λ (i : ℕ). seek named marked (e - (suc k + i)) (suc k + i) m) l
        where
          others : Outside 0 0 (owner_sort o) (owner_row o) (value_rows us (suc k) (of_value k))
          others =
              values_outside 0 0 (owner_sort o) (owner_row o) us (suc k) (of_value k) (omega arith) (w.never k (omega arith))
              (λ m p q. absurd (omega (arith, q)))
              (λ m p. w.never m (omega (arith, p)))

      one_value : ((i : ℕ) → Down b bs i after o more) → ((c : List ℕ) (cs : List (List ℕ)) → Down c cs 0 (suc k) (of_value k) us) → Down b bs n k o (resolved t us more)
      unfolding leads_to choose
      one_value next inner = by (same t.definition.name.bytes (name_of b)) (picks t.definition.list (mark_of b) n) (row_named o h a (name_of b)) (row_picked o h a (mark_of b) n)
        where
          by : (x y : Bool) → named k ≡ x → marked k n ≡ y
              → Agrees s v (choose x (λ _. choose y (λ _. onward bs t (λ c cs. leads_to c cs 0 us)) (λ _. leads_to b bs (suc n) more)) (λ _. leads_to b bs n more)) (down b bs n k o)
          by true true p q = subst (Agrees s v (onward bs t (λ c cs. leads_to c cs 0 us))) (sym (down_at b bs n k k o (seek_here named marked e k n inside p q))) (picked bs k t us (row_text o h a) inner)
          by true false p q = subst (Agrees s v (leads_to b bs (suc n) more)) (sym (down_as b bs n k (suc n) after o (seek_other named marked e k n inside p q ∙ over (suc n)))) (next (suc n))
          by false y p q = subst (Agrees s v (leads_to b bs n more)) (sym (down_as b bs n k n after o (seek_pass named marked e k n inside p ∙ over n))) (next n)

  -- The values of an owner, from row k on, and behind them rows that neither it nor any of them owns.
  pub tree : (x : Resolved) (b : List ℕ) (bs : List (List ℕ)) (n k : ℕ) (o : Owner) (rest : List ValueRow) → From 9 value_cells v e k (value_rows x k o ++ rest) → AllTold s d x → Earlier k o
      → Outside k (k + how_many_values x) (owner_sort o) (owner_row o) rest → Down b bs n k o x
  unfolding leads_to value_rows how_many_values
  tree end b bs n k o rest h a w c = subst (Agrees s v none) (down_nothing b bs n k o rest h c) both_nothing
  tree (resolved t us more) b bs n k o rest h (more_told a u m) w c =
      one_value b bs n k o t us more rest rows a w
      (λ i. tree more b bs i (suc k + how_many_values us) o rest behind m (earlier_later (omega arith) w) (outside_narrow (omega arith) (omega arith) c))
      (λ x xs. tree us x xs 0 (suc k) (of_value k) (value_rows more (suc k + how_many_values us) o ++ rest) under u (value_earlier k) apart)
    where
      rows : From 9 value_cells v e k (value_row t o ∷ (value_rows us (suc k) (of_value k) ++ (value_rows more (suc k + how_many_values us) o ++ rest)))
      rows =
          subst (From 9 value_cells v e k)
          (ap (λ (l : List ValueRow). value_row t o ∷ l) (append_assoc (value_rows us (suc k) (of_value k)) (value_rows more (suc k + how_many_values us) o) rest)) h

      under : From 9 value_cells v e (suc k) (value_rows us (suc k) (of_value k) ++ (value_rows more (suc k + how_many_values us) o ++ rest))
      under = let z : suc k ≡ k + 1 = sym (add-one k) in from_append 9 value_cells value_width (value_row t o ∷ []) (value_rows us (suc k) (of_value k) ++ (value_rows more (suc k + how_many_values us) o ++ rest)) z rows

      behind : From 9 value_cells v e (suc k + how_many_values us) (value_rows more (suc k + how_many_values us) o ++ rest)
      behind =
          let l = length_values us (suc k) (of_value k) in
          let z : suc k + how_many_values us ≡ suc k + length (value_rows us (suc k) (of_value k)) = ap (λ (i : ℕ). suc k + i) (sym l) in
          from_append 9 value_cells value_width (value_rows us (suc k) (of_value k)) (value_rows more (suc k + how_many_values us) o ++ rest) z under

      apart : Outside (suc k) (suc k + how_many_values us) (owner_sort (of_value k)) (owner_row (of_value k)) (value_rows more (suc k + how_many_values us) o ++ rest)
      apart = apart_from k us more o rest w c

-- Objects ----------------------------------------------------------------------------------------------------------------------------------

-- The kind word and the name of an object's row.
row_called : {s o : List ℕ} {m i : ℕ} (kind name : List ℕ) (x : Object) (xs : List Object) → From 8 object_cells o m i (object_rows (x ∷ xs)) → WordIn s x.word → WordIn s x.name
    → called_at s o kind name i ≡ is_called kind name x
unfolding called_at is_called row_name object_rows object_cells span_of
row_called {s} {o} {m} {i} kind name x xs h w u =
    let r : ObjectRow = record { kind = x.kind; word = span_of x.word; name = span_of x.name; block = x.block; parts = x.parts } in
    ap₂ (λ (y z : List ℕ). both (same y kind) (same z name))
    (ap₂ (part_of s) (from_cell 8 object_cells object_width r (object_rows xs) 1 (omega arith) h) (from_cell 8 object_cells object_width r (object_rows xs) 2 (omega arith) h) ∙ sym w.bytes)
    (ap₂ (part_of s) (from_cell 8 object_cells object_width r (object_rows xs) 3 (omega arith) h) (from_cell 8 object_cells object_width r (object_rows xs) 4 (omega arith) h) ∙ sym u.bytes)

module _ (s d o v : List ℕ) (m e : ℕ) (f : File) (kind name path : List ℕ) where
  abbrev called : ℕ → Bool
  called = called_at s o kind name

  -- The row that the path leads to from the object of row i.
  abbrev from_object : ℕ → Found
  from_object i = by_steps_at s d v e (steps path) 0 0 i

  -- The path's first step finds from row k on what it finds from the first row on.
  abbrev Passed : (i k : ℕ) → Type 0
  Passed i k = (row : ℕ) → i ≤ row → (b : List ℕ) → entry_at s d v e 0 0 row b ≡ entry_at s d v e k 0 row b

  started : (i k : ℕ) (b : List ℕ) (bs : List (List ℕ)) → entry_at s d v e 0 0 i b ≡ entry_at s d v e k 0 i b → by_steps_at s d v e (b ∷ bs) 0 0 i ≡ down s d v e b bs 0 k (of_object i)
  unfolding by_steps_at entry_at down owner_sort owner_row
  started i k b bs q = ap (λ (x : Found). onward_at bs x (λ j. by_steps_at s d v e bs (suc j) 1 j)) q

  one_object : (ps : List (List ℕ)) (i k : ℕ) (y : Resolved) (ys : List Resolved) → From 9 value_cells v e k (all_value_rows (y ∷ ys) i k) → AllTold s d y
      → ((b : List ℕ) → entry_at s d v e 0 0 i b ≡ entry_at s d v e k 0 i b) → Agrees s v (by_steps ps y) (by_steps_at s d v e ps 0 0 i)
  unfolding by_steps by_steps_at all_value_rows owner_sort owner_row
  one_object [] i k y ys h a q = both_nothing
  one_object (b ∷ bs) i k y ys h a q =
      subst (Agrees s v (leads_to b bs 0 y)) (sym (started i k b bs (q b)))
      (tree s d v e y b bs 0 k (of_object i) (all_value_rows ys (suc i) (k + how_many_values y)) h a (object_earlier i k) (objects_outside k (k + how_many_values y) i ys (suc i) (k + how_many_values y) (omega arith) (omega arith)))

  abbrev Rows : (i k : ℕ) → List Object → Type 0
  Rows i k xs = From 9 value_cells v e k (all_value_rows (all_values f xs) i k)

  pass_object : (i k : ℕ) (y : Resolved) (ys : List Resolved) → From 9 value_cells v e k (all_value_rows (y ∷ ys) i k) → Passed i k → Passed (suc i) (k + how_many_values y)
  unfolding all_value_rows entry_at
  pass_object i k y ys h q row g b =
      let l = length_values y k (of_object i) in
      q row (omega (arith, g)) b
      ∙ pass_over s d v e 0 row (name_of b) (picked_at d v (mark_of b)) (value_rows y k (of_object i)) (all_value_rows ys (suc i) (k + how_many_values y)) 0 h
      (values_outside 0 0 0 row y k (of_object i) (omega arith) (other_object row i (λ (z : i ≡ row). omega (arith, z, g))) (λ m p r. absurd (omega (arith, r))) (λ m p. object_not row m))
      ∙ ap (λ (j : ℕ). seek (named_at s d v 0 row (name_of b)) (picked_at d v (mark_of b)) (e - (k + j)) (k + j) 0) l

  next_rows : (i k : ℕ) (y : Resolved) (ys : List Resolved) → From 9 value_cells v e k (all_value_rows (y ∷ ys) i k) → From 9 value_cells v e (k + how_many_values y) (all_value_rows ys (suc i) (k + how_many_values y))
  unfolding all_value_rows
  next_rows i k y ys h =
      let l = length_values y k (of_object i) in
      let z : k + how_many_values y ≡ k + length (value_rows y k (of_object i)) = ap (λ (j : ℕ). k + j) (sym l) in
      from_append 9 value_cells value_width (value_rows y k (of_object i)) (all_value_rows ys (suc i) (k + how_many_values y)) z h

  next_objects : (i : ℕ) (x : Object) (xs : List Object) → From 8 object_cells o m i (object_rows (x ∷ xs)) → From 8 object_cells o m (suc i) (object_rows xs)
  unfolding object_rows
  next_objects i x xs h =
      let z : suc i ≡ i + 1 = sym (add-one i) in
      from_append 8 object_cells object_width (record { kind = x.kind; word = span_of x.word; name = span_of x.name; block = x.block; parts = x.parts } ∷ []) (object_rows xs) z h

  no_objects : (i : ℕ) → From 8 object_cells o m i (object_rows []) → m ≤ i
  unfolding object_rows
  no_objects i h = let c = h.count in omega (arith, c)

  an_object : (i : ℕ) (x : Object) (xs : List Object) → From 8 object_cells o m i (object_rows (x ∷ xs)) → i < m
  unfolding object_rows
  an_object i x xs h = let c = h.count in omega (arith, c)

  objects : (xs : List Object) (i k : ℕ) → From 8 object_cells o m i (object_rows xs) → Rows i k xs → Pairs s d xs (all_values f xs) → Passed i k
      → Agrees s v (value_among f kind name path xs) (within (find_from called m i) from_object)
  unfolding value_among all_values within choose
  objects [] i k h r p q = subst (λ (x : Found). Agrees s v none (within x from_object)) (sym (find_end called m i (no_objects i h))) both_nothing
  objects (x ∷ xs) i k h r (a_pair w u t p) q =
      by (is_called kind name x) (row_called kind name x xs h w u)
      (objects xs (suc i) (k + how_many_values (object_values f x)) (next_objects i x xs h) (next_rows i k (object_values f x) (all_values f xs) r) p (pass_object i k (object_values f x) (all_values f xs) r q))
    where
      inside : i < m
      inside = an_object i x xs h

      by : (b : Bool) → called i ≡ b → Agrees s v (value_among f kind name path xs) (within (find_from called m (suc i)) from_object)
          → Agrees s v (choose b (λ _. by_steps (steps path) (object_values f x)) (λ _. value_among f kind name path xs)) (within (find_from called m i) from_object)
      by true c j =
          subst (λ (z : Found). Agrees s v (by_steps (steps path) (object_values f x)) (within z from_object)) (sym (find_stop called m i inside c))
          (one_object (steps path) i k (object_values f x) (all_values f xs) r t (λ b. q i (omega arith) b))
      by false c j =
          subst (λ (z : Found). Agrees s v (value_among f kind name path xs) (within z from_object))
          (sym (find_more called m i inside c ∙ ap (find_from called m) (add-one i))) j

-- The row that is found in the tables of a text is that of its value.
pub row_is : {s d o v : List ℕ} {m e : ℕ} {f : File} → Tables s d o v m e f → (kind name path : List ℕ) → Agrees s v (value_of f kind name path) (row_of s d o v m e kind name path)
unfolding value_of row_of object_room value_room
row_is {s} {d} {o} {v} {m} {e} {f} t kind name path =
    objects s d o v m e f kind name path f.objects 0 0
    (from_room 8 object_cells (256 * 8) (object_rows f.objects) o m t.objects t.many_objects)
    (from_room 9 value_cells (2048 * 9) (all_value_rows (all_values f f.objects) 0 0) v e t.values t.many_values)
    (file_pairs t.situation t.definitions)
    (λ row h b. refl)
