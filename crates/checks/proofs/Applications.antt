-- What the checks of the parts' rows give is the fault by which the stage of 11, 17 and 24 answers. Assumes nothing.
use mathlib.Core.Path.{◌≡◌, refl, sym, ◌∙◌, ap, ap₂, subst}
use mathlib.Core.List.{List, [], ◌∷◌, ◌++◌, append_assoc, append-nil}
use mathlib.Core.Bool.{Bool, true, false, false≢true}
use mathlib.Core.Option.{Option, none, some}
use mathlib.Core.Logic.{⊎_elim}
use Prim.Native.Nat.{ℕ, suc, ◌+◌, ◌*◌, ◌≤◌, ◌<◌, min}
use native.Mathlib.Omega.{arith}
use native.Mathlib.Decide.{ℕ_discrete}
use lib.ListN.{length, get_or, replicate, length-append}
use lib.Dec.{eqb, ltb}
use borrow.Author.Tests.{lt-ltb, le-ltb}
use Rattle.std.specs.Prelude.{None}
use Rattle.rows.specs.Table.{cell_of}
use Rattle.rows.specs.Tally.{one_more, count_on}
use Rattle.rows.proofs.Tallies.{count_on_append}
use Rattle.token.specs.Find.{pick, either, bit}
use Rattle.grammar.specs.Grammar.{Kind, OS, APPMODE, TASK, ISR, COUNTER, ALARM, RESOURCE, EVENT, COM, MESSAGE, NETWORKMESSAGE, IPDU, NM}
use Rattle.rows.specs.Order.{MaybeFault}
use Rattle.rows.specs.Found.{Found}
use Rattle.std.specs.Prelude.{Some, None}
use Rattle.rows.specs.Order as order
use Rattle.rows.proofs.Walks as table
use Rattle.rows.specs.Search.{is_found}
use Rattle.meaning.proofs.Numbered.{of_few}
use Rattle.meaning.specs.Syntax.{Word, Statement, Statements, done, state, Object, File, statements_in}
use Rattle.meaning.specs.Words.{choose}
use Rattle.meaning.specs.Kinds.{kinds, kind_number, same_kind, fewest, most}
use Rattle.meaning.specs.Merging.{same_object, used, merged, merge_from, merge}
use Rattle.meaning.specs.Faults.{Fault, faults_if, first, sooner}
use Rattle.meaning.specs.Applying.{how_many, counts_of, counts, too_few, full, statement_faults, each_object, each_part, elsewhere, each_name, object_faults}
use Rattle.meaning.proofs.Merges.{same_alike, used_more, used_none}
use Rattle.meaning.proofs.Order.{InOrder, sub_behind, sub_all, drop, ordered_sub}
use Rattle.meaning.proofs.Sooner.{left_of}
use Rattle.meaning.proofs.Sites.{statement_words, object_words, spec_words}
use Rattle.meaning.proofs.Numbering.{Counts, statement_numbers, object_numbers, all_statement_numbers}
use Rattle.layout.specs.Kept.{statement_cells, statement_rows, all_statement_rows, object_cells, kept_parts, kept_part_statements, statement_count, Wide}
use Rattle.layout.proofs.Codes.{kind_low}
use Rattle.scopes.specs.Situations.{Situation, Nth}
use Rattle.scopes.specs.Promises.{fault_of}
use Rattle.scopes.proofs.Rooms.{kept_cell, row_cell_lem, nth_of}
use Rattle.scopes.proofs.Finding.{seek_all}
use Rattle.scopes.proofs.Goodness.{later_words}
use Rattle.scopes.proofs.Descents.{whole}
use Rattle.kinds.specs.Kinds.{kind_at, most_of}
use Rattle.merging.proofs.Places.{row_is, new_by, old_by}
use Rattle.checks.specs.declared.objects.Checked.{Checked}
use Rattle.checks.specs.Cells.{lacking_from, full_of, room_fault}
use Rattle.checks.specs.Promises.{Noted, numbers, Met, ChecksParts, Clashes, clash, no_clash, NameFault, ObjectFaults}
use Rattle.scopes.proofs.Firsts.{Has, here, there, has_none, has_left, has_right, has_split, in_if, Covered, covered, covered_by, first_same, Real, real, real_none, real_append, real_if, fault_append, fault_one}
use Rattle.merging.specs.Parts.{row_or, FirstRows}
use Rattle.merging.proofs.Storing.{cells_of}
use Rattle.checks.proofs.Names.{each_name_append}
use Rattle.checks.proofs.Tallying.{alike, cell, tallied}
use Rattle.checks.proofs.Rows.{get_at, nth_fault, fault_nth, real_nth, room_code, numbers_of, numbered, numbered_append, numbers_append as codes-append, numbered_is}

-- Kinds ------------------------------------------------------------------------------------------------------------------------------------

pub kind_at_number : (k : Kind) → kind_at (kind_number k) ≡ k
unfolding kind_at kind_number
kind_at_number OS = refl
kind_at_number APPMODE = refl
kind_at_number TASK = refl
kind_at_number ISR = refl
kind_at_number COUNTER = refl
kind_at_number ALARM = refl
kind_at_number RESOURCE = refl
kind_at_number EVENT = refl
kind_at_number COM = refl
kind_at_number MESSAGE = refl
kind_at_number NETWORKMESSAGE = refl
kind_at_number IPDU = refl
kind_at_number NM = refl

full_most : (m : Option ℕ) (n : ℕ) → full_of (most_of m) n ≡ full m n
unfolding full_of most_of full
full_most none n = refl
full_most (some m) n = refl

-- 17 at the CPU's name -----------------------------------------------------------------------------------------------------------------------

counts_at : (a : List Kind) (x : Kind) (b : List Kind) (os : List Object) → get_or (counts_of (a ++ (x ∷ b)) os) (length a) 0 ≡ how_many x os
unfolding counts_of
counts_at [] x b os = refl
counts_at (y ∷ a) x b os = counts_at a x b os

few_all : (ks : List Kind) (os : List Object) (cpu : Word) {g : Fault} → Has g (too_few ks os cpu) → record { place = cpu.place; number = 17 } ≡ g
unfolding too_few
few_all [] os cpu m = absurd (has_none m)
few_all (k ∷ ks) os cpu m =
    ⊎_elim (λ n. (in_if (ltb (how_many k os) (fewest k)) cpu 17 n).1) (λ n. few_all ks os cpu n) (has_split (faults_if (ltb (how_many k os) (fewest k)) cpu 17) (too_few ks os cpu) m)

only_first : (f : Fault) (l : List Fault) → ((g : Fault) → Has g l → f ≡ g) → first (f ∷ l) ≡ first (f ∷ [])
only_first f l h = first_same (f ∷ l) (f ∷ []) (λ g m. one g m) (λ g m. all g m)
  where
    one : (g : Fault) → Has g (f ∷ []) → Covered g (f ∷ l)
    one g (here e) = covered (here e)
    one g (there m) = absurd (has_none m)

    all : (g : Fault) → Has g (f ∷ l) → Covered g (f ∷ [])
    all g (here e) = covered (here e)
    all g (there m) = covered (here (h g m))

unfoldable is_lacking : List Object → Kind → Bool
is_lacking os k = ltb (how_many k os) (fewest k)

few_code : (ks : List Kind) (os : List Object) (cpu : Word) (i : ℕ)
    → order.fault_if (is_found (table.first (is_lacking os) Some None i ks)) 17 cpu.place ≡ fault_of (first (too_few ks os cpu))
unfolding table.first too_few is_lacking order.fault_if faults_if fault_of first sooner
few_code [] os cpu i = refl
few_code (k ∷ ks) os cpu i = by (ltb (how_many k os) (fewest k)) (few_code ks os cpu (suc i))
  where
    by : (b : Bool) → order.fault_if (is_found (table.first (is_lacking os) Some None (suc i) ks)) 17 cpu.place ≡ fault_of (first (too_few ks os cpu))
        → order.fault_if (is_found (pick b (Some i) (table.first (is_lacking os) Some None (suc i) ks))) 17 cpu.place ≡ fault_of (first (faults_if b cpu 17 ++ too_few ks os cpu))
    by true e = sym (ap fault_of (only_first (record { place = cpu.place; number = 17 }) (too_few ks os cpu) (λ g m. few_all ks os cpu m)))
    by false e = e

lacking_is : (os : List Object) → lacking_from (counts os) 0 ≡ table.first (is_lacking os) Some None 0 kinds
unfolding lacking_from counts is_lacking kind_at
lacking_is os =
    seek_all (is_lacking os) (λ j. ltb (get_or (counts_of kinds os) j 0) (fewest (get_or kinds j NM))) kinds
    (λ a x b e. ap₂ (λ (n : ℕ) (k : Kind). ltb n (fewest k))
    (ap (λ (l : List Kind). get_or (counts_of l os) (length a) 0) e ∙ counts_at a x b os)
    (ap (λ (l : List Kind). get_or l (length a) NM) e ∙ get_at a x b NM))

pub too_few_is : (os : List Object) (cpu : Word) (cs : List ℕ) (p : ℕ) → cs ≡ counts os → p ≡ cpu.place
    → order.fault_if (is_found (lacking_from cs 0)) 17 p ≡ fault_of (first (too_few kinds os cpu))
too_few_is os cpu cs p e h =
    ap₂ (λ (l : List ℕ) (q : ℕ). order.fault_if (is_found (lacking_from l 0)) 17 q) e h ∙ ap (λ (x : Found). order.fault_if (is_found x) 17 cpu.place) (lacking_is os) ∙ few_code kinds os cpu 0

-- Objects begun by parts -----------------------------------------------------------------------------------------------------------------------

-- The faults of one object, where the objects os stand before it.
unfoldable own_faults : List Object → (k : ℕ) → Object → List Fault
own_faults os k x = faults_if (eqb k 256) x.word 11 ++ faults_if (full (most x.kind) (how_many x.kind os)) x.word 17

own_real : (os : List Object) (k : ℕ) (x : Object) → Real (own_faults os k x)
unfolding own_faults
own_real os k x =
    real_append (faults_if (eqb k 256) x.word 11) (faults_if (full (most x.kind) (how_many x.kind os)) x.word 17)
    (real_if (eqb k 256) x.word 11 (omega arith)) (real_if (full (most x.kind) (how_many x.kind os)) x.word 17 (omega arith))

each_behind : (before a b : List Object) → each_object before (a ++ b) ≡ each_object before a ++ each_object (before ++ a) b
unfolding each_object
each_behind before [] b = ap (λ (l : List Object). each_object l b) (sym (append-nil before))
each_behind before (x ∷ a) b =
    let F = faults_if (eqb x.row 256) x.word 11 ++ faults_if (full (most x.kind) (how_many x.kind before)) x.word 17 in
    ap (λ (l : List Fault). F ++ l) (each_behind (before ++ (x ∷ [])) a b ∙ ap (λ (l : List Object). each_object (before ++ (x ∷ [])) a ++ each_object l b) (append_assoc before (x ∷ []) a))
    ∙ sym (append_assoc F (each_object (before ++ (x ∷ [])) a) (each_object (before ++ (x ∷ a)) b))

each_one : (os : List Object) (z : Object) (k : ℕ) (rest : List Object) → each_object os (merged z k rest ∷ []) ≡ own_faults os k z
unfolding each_object merged own_faults
each_one os z k rest = append-nil (faults_if (eqb k 256) z.word 11 ++ faults_if (full (most z.kind) (how_many z.kind os)) z.word 17)

each_real : (before xs : List Object) → Real (each_object before xs)
unfolding each_object
each_real before [] = real_none
each_real before (x ∷ xs) =
    let a = faults_if (eqb x.row 256) x.word 11 in
    let b = faults_if (full (most x.kind) (how_many x.kind before)) x.word 17 in
    real_append (a ++ b) (each_object (before ++ (x ∷ [])) xs)
    (real_append a b (real_if (eqb x.row 256) x.word 11 (omega arith)) (real_if (full (most x.kind) (how_many x.kind before)) x.word 17 (omega arith)))
    (each_real (before ++ (x ∷ [])) xs)

numbers_append : (a b : List Object) → numbers (a ++ b) ≡ numbers a ++ numbers b
unfolding numbers
numbers_append [] b = refl
numbers_append (x ∷ a) b = ap (λ (l : List ℕ). kind_number x.kind ∷ l) (numbers_append a b)

numbers_one : (z : Object) (k : ℕ) (rest : List Object) → numbers (merged z k rest ∷ []) ≡ kind_number z.kind ∷ []
unfolding numbers merged
numbers_one z k rest = refl

counted_one : (cs : List ℕ) (k : ℕ) → count_on cs (k ∷ []) ≡ one_more cs k
unfolding count_on
counted_one cs k = refl

merge_old : (before : List Object) (z : Object) (rest : List Object) (k : ℕ) → used z before ≡ true → merge_from before (z ∷ rest) k ≡ merge_from (before ++ (z ∷ [])) rest k
unfolding merge_from choose
merge_old before z rest k u = ap (λ (b : Bool). choose b (λ _. merge_from (before ++ (z ∷ [])) rest k) (λ _. merged z k rest ∷ merge_from (before ++ (z ∷ [])) rest (suc k))) u

merge_new : (before : List Object) (z : Object) (rest : List Object) (k : ℕ) → used z before ≡ false
    → merge_from before (z ∷ rest) k ≡ merged z k rest ∷ merge_from (before ++ (z ∷ [])) rest (k + 1)
unfolding merge_from choose
merge_new before z rest k u =
    let e : suc k ≡ k + 1 = omega arith in
    ap (λ (b : Bool). choose b (λ _. merge_from (before ++ (z ∷ [])) rest k) (λ _. merged z k rest ∷ merge_from (before ++ (z ∷ [])) rest (suc k))) u
    ∙ ap (λ (i : ℕ). merged z k rest ∷ merge_from (before ++ (z ∷ [])) rest i) e

own_code : (os : List Object) (k : ℕ) (x : Object) (a b : MaybeFault) → a ≡ fault_of (first (faults_if (eqb k 256) x.word 11))
    → b ≡ fault_of (first (faults_if (full (most x.kind) (how_many x.kind os)) x.word 17)) → order.sooner a b ≡ fault_of (first (own_faults os k x))
unfolding own_faults
own_code os k x a b e g =
    ap₂ order.sooner e g
    ∙ sym (fault_append (faults_if (eqb k 256) x.word 11) (faults_if (full (most x.kind) (how_many x.kind os)) x.word 17)
    (real_if (eqb k 256) x.word 11 (omega arith)) (real_if (full (most x.kind) (how_many x.kind os)) x.word 17 (omega arith)))

-- The cells of a part's row.
module _ (f : File) (p : List ℕ) (e : p ≡ kept_parts f) (j : ℕ) (z : Object) (q : Nth f.parts j z) (h : j < 513) where
  kind_cell : get_or p (j * 10 + 0) 0 ≡ kind_number z.kind
  unfolding kept_parts object_cells
  kind_cell = row_cell_lem 513 f.parts p j 0 z e q h (omega arith)

  word_cell : get_or p (j * 10 + 1) 0 ≡ z.word.place
  unfolding kept_parts object_cells
  word_cell = row_cell_lem 513 f.parts p j 1 z e q h (omega arith)

-- The part behind those that were met.
record Next (f : File) (before left : List Object) : Type 0 where
  part : Object
  rest : List Object
  is : left ≡ part ∷ rest
  parts : f.parts ≡ before ++ (part ∷ rest)

next : (f : File) (before left : List Object) → f.parts ≡ before ++ left → length before < length f.parts → Next f before left
next f before [] w h = let a : length f.parts ≡ length (before ++ []) = ap (λ (l : List Object). length l) w in let b = length-append before [] in absurd (omega arith)
next f before (z ∷ rest) w h = record { part = z; rest = rest; is = refl; parts = w }

module _ {s p x : List ℕ} {n : ℕ} {f : File} (N : Noted s p x n f) {j : ℕ} (h : j < n) {best : MaybeFault} {k : ℕ} {cs : List ℕ} (M : Met f j best k cs) where
  after : Next f M.before M.left
  after = let a = M.place in let b = N.inside in next f M.before M.left M.whole (omega arith)

  cell_of_lem : get_or x j 0 ≡ row_or j (table.first (same_object after.part) Some None 0 M.before)
  cell_of_lem =
      let a = N.few in
      N.firsts j h ∙ row_is s p f j M.before after.part after.rest N.situation N.in_parts after.parts M.place (omega arith)

  length_more : length (M.before ++ (after.part ∷ [])) ≡ j + 1
  length_more = let a = M.place in let b = length-append M.before (after.part ∷ []) in omega arith

  -- A further part changes nothing,
  pub met_old : (get_or x j 0 ≡ j → ⊥) → Met f (j + 1) best k cs
  met_old g =
      let z = after.part in
      let rest = after.rest in
      let u = old_by j (get_or x j 0) M.before z cell_of_lem g in
      let l = M.low in
      record {
        before = M.before ++ (z ∷ []);
        left = rest;
        so_far = M.so_far;
        whole = after.parts ∙ sym (append_assoc M.before (z ∷ []) rest);
        place = length_more;
        merged_so = ap (λ (os : List Object). M.so_far ++ os) (sym (merge_old M.before z rest k u) ∙ ap (λ (v : List Object). merge_from M.before v k) (sym after.is)) ∙ M.merged_so;
        number = M.number;
        low = omega arith;
        counted = M.counted;
        found = M.found;
      }

  -- and the first part of an object is one more.
  pub met_new : {number place : ℕ} {a b c r : MaybeFault} {more : List ℕ} → get_or x j 0 ≡ j → number ≡ get_or p (j * 10 + 0) 0 → place ≡ get_or p (j * 10 + 1) 0
      → a ≡ order.fault_if (eqb k 256) 11 place → b ≡ order.fault_if (full_of (most_of (most (kind_at number))) (get_or cs number 0)) 17 place → c ≡ order.sooner a b
      → r ≡ order.sooner best c → more ≡ one_more cs number → Met f (j + 1) r (k + 1) more
  met_new {number} {place} {a} {b} {c} {r} {more} g e₁ e₂ e₃ e₄ e₅ e₆ e₇ =
      let z = after.part in
      let rest = after.rest in
      let u = new_by j (get_or x j 0) M.before z cell_of_lem M.place g in
      let q : Nth f.parts j z = record { front = M.before; rest = rest; whole = after.parts; place = M.place } in
      let fw = N.few in
      let l = M.low in
      let nb = M.number in
      let kd : number ≡ kind_number z.kind = e₁ ∙ kind_cell f p N.in_parts j z q (omega arith) in
      let wd : place ≡ z.word.place = e₂ ∙ word_cell f p N.in_parts j z q (omega arith) in
      let os = M.so_far in
      let y = merged z k rest in
      let ct : cs ≡ counts os = M.counted ∙ tallied os (omega arith) in
      let hm : get_or cs number 0 ≡ how_many z.kind os =
      ap₂ (λ (c : List ℕ) (i : ℕ). get_or c i 0) ct kd ∙ sym (cell os (kind_number z.kind) (let i = kind_low z.kind in omega arith)) ∙ alike z.kind os in
      let b' : b ≡ fault_of (first (faults_if (full (most z.kind) (how_many z.kind os)) z.word 17)) =
      e₄ ∙ ap₂ (λ (i m : ℕ). order.fault_if (full_of (most_of (most (kind_at i))) m) 17 place) kd hm
      ∙ ap (λ (d : Kind). order.fault_if (full_of (most_of (most d)) (how_many z.kind os)) 17 place) (kind_at_number z.kind)
      ∙ ap₂ (λ (t : Bool) (i : ℕ). order.fault_if t 17 i) (full_most (most z.kind) (how_many z.kind os)) wd
      ∙ sym (fault_one (full (most z.kind) (how_many z.kind os)) z.word 17) in
      let a' : a ≡ fault_of (first (faults_if (eqb k 256) z.word 11)) = e₃ ∙ ap (order.fault_if (eqb k 256) 11) wd ∙ sym (fault_one (eqb k 256) z.word 11) in
      let c' : c ≡ fault_of (first (own_faults os k z)) = e₅ ∙ own_code os k z a b a' b' in
      let ln = length-append os (y ∷ []) in
      record {
        before = M.before ++ (z ∷ []);
        left = rest;
        so_far = os ++ (y ∷ []);
        whole = after.parts ∙ sym (append_assoc M.before (z ∷ []) rest);
        place = length_more;
        merged_so = append_assoc os (y ∷ []) (merge_from (M.before ++ (z ∷ [])) rest (k + 1))
            ∙ ap (λ (v : List Object). os ++ v) (sym (merge_new M.before z rest k u) ∙ ap (λ (v : List Object). merge_from M.before v k) (sym after.is)) ∙ M.merged_so;
        number = omega arith;
        low = omega arith;
        counted = e₇ ∙ ap₂ one_more M.counted kd ∙ sym (counted_one (count_on (replicate 13 0) (numbers os)) (kind_number z.kind))
            ∙ sym (count_on_append (replicate 13 0) (numbers os) (kind_number z.kind ∷ []))
            ∙ ap (count_on (replicate 13 0)) (ap (λ (v : List ℕ). numbers os ++ v) (sym (numbers_one z k rest)) ∙ sym (numbers_append os (y ∷ [])));
        found = e₆ ∙ ap₂ order.sooner M.found c'
            ∙ sym (fault_append (each_object [] os) (own_faults os k z) (each_real [] os) (own_real os k z))
            ∙ ap (λ (v : List Fault). fault_of (first v)) (ap (λ (v : List Fault). each_object [] os ++ v) (sym (each_one os z k rest)) ∙ sym (each_behind [] os (y ∷ [])));
      }

pub met_start : (f : File) → Met f 0 None 0 (replicate 13 0)
unfolding merge numbers count_on each_object first fault_of
met_start f = record {
  before = [];
  left = f.parts;
  so_far = [];
  whole = refl;
  place = refl;
  merged_so = refl;
  number = refl;
  low = omega arith;
  counted = refl;
  found = refl;
}

pub met_end : {f : File} {j n : ℕ} {best : MaybeFault} {k : ℕ} {cs : List ℕ} → j ≤ n → n ≤ j → Met f j best k cs → Met f n best k cs
met_end {f} {j} {n} {best} {k} {cs} h g M = let e : j ≡ n = omega arith in subst (λ (i : ℕ). Met f i best k cs) e M

-- Statements ---------------------------------------------------------------------------------------------------------------------------------

-- The statements in the order of their names.
unfoldable flat_of : Statements → List Statement
flat_of done = []
flat_of (state x inside rest) = x ∷ (flat_of inside ++ flat_of rest)

unfoldable flat : List Object → List Statement
flat [] = []
flat (x ∷ xs) = flat_of x.statements ++ flat xs

unfoldable numbered_statements : List Statement → List Fault
numbered_statements xs = numbered (λ (x : Statement). x.number) (λ (x : Statement). x.name) 2048 11 xs

statements_numbered : (ss : Statements) → statement_faults ss ≡ numbered_statements (flat_of ss)
unfolding statement_faults flat_of numbered_statements numbered
statements_numbered done = refl
statements_numbered (state x inside rest) =
    ap₂ (λ (a b : List Fault). (faults_if (eqb x.number 2048) x.name 11 ++ a) ++ b) (statements_numbered inside) (statements_numbered rest)
    ∙ append_assoc (faults_if (eqb x.number 2048) x.name 11) (numbered_statements (flat_of inside)) (numbered_statements (flat_of rest))
    ∙ ap (λ (l : List Fault). faults_if (eqb x.number 2048) x.name 11 ++ l)
    (sym (numbered_append (λ (x : Statement). x.number) (λ (x : Statement). x.name) 2048 11 (flat_of inside) (flat_of rest)))

numbers_flat_of : (ss : Statements) → numbers_of (λ (x : Statement). x.number) (λ (x : Statement). x.name) 2048 11 (flat_of ss) ≡ statement_numbers ss
unfolding flat_of numbers_of statement_numbers
numbers_flat_of done = refl
numbers_flat_of (state x inside rest) =
    ap (λ (l : List ℕ). x.number ∷ l)
    (codes-append (λ (x : Statement). x.number) (λ (x : Statement). x.name) 2048 11 (flat_of inside) (flat_of rest) ∙ ap₂ ◌++◌ (numbers_flat_of inside) (numbers_flat_of rest))

numbers_flat : (os : List Object) → numbers_of (λ (x : Statement). x.number) (λ (x : Statement). x.name) 2048 11 (flat os) ≡ all_statement_numbers os
unfolding flat numbers_of all_statement_numbers
numbers_flat [] = refl
numbers_flat (x ∷ xs) =
    codes-append (λ (x : Statement). x.number) (λ (x : Statement). x.name) 2048 11 (flat_of x.statements) (flat xs) ∙ ap₂ ◌++◌ (numbers_flat_of x.statements) (numbers_flat xs)

length_flat_of : (ss : Statements) → length (flat_of ss) ≡ statements_in ss
unfolding flat_of statements_in
length_flat_of done = refl
length_flat_of (state x inside rest) =
    let a = length-append (flat_of inside) (flat_of rest) in
    let b = length_flat_of inside in
    let c = length_flat_of rest in
    omega arith

length_flat : (os : List Object) → length (flat os) ≡ statement_count os
unfolding flat statement_count
length_flat [] = refl
length_flat (x ∷ xs) =
    let a = length-append (flat_of x.statements) (flat xs) in
    let b = length_flat_of x.statements in
    let c = length_flat xs in
    omega arith

-- The rows rs are those of the statements xs.
data Rowed : List Statement → List (List ℕ) → Type 0 where
  no_rows : Rowed [] []
  more_rows : {xs : List Statement} {rs : List (List ℕ)} (x : Statement) (after : ℕ) → Rowed xs rs → Rowed (x ∷ xs) (statement_cells x after ∷ rs)

rowed_append : {xs : List Statement} {rs : List (List ℕ)} {ys : List Statement} {qs : List (List ℕ)} → Rowed xs rs → Rowed ys qs → Rowed (xs ++ ys) (rs ++ qs)
rowed_append no_rows q = q
rowed_append (more_rows x a p) q = more_rows x a (rowed_append p q)

rowed_of : (ss : Statements) (m : ℕ) → Rowed (flat_of ss) (statement_rows ss m)
unfolding flat_of statement_rows
rowed_of done m = no_rows
rowed_of (state x inside rest) m = more_rows x (suc m + statements_in inside) (rowed_append (rowed_of inside (suc m)) (rowed_of rest (suc m + statements_in inside)))

rowed : (os : List Object) (m : ℕ) → Rowed (flat os) (all_statement_rows os m)
unfolding flat all_statement_rows
rowed [] m = no_rows
rowed (x ∷ xs) m = rowed_append (rowed_of x.statements m) (rowed xs (m + statements_in x.statements))

rowed_wide : {xs : List Statement} {rs : List (List ℕ)} → Rowed xs rs → Wide 7 rs
unfolding statement_cells
rowed_wide no_rows = tt
rowed_wide (more_rows x a p) = (refl, rowed_wide p)

record RowAt (rs : List (List ℕ)) (j : ℕ) (x : Statement) : Type 0 where
  after : ℕ
  nth : Nth rs j (statement_cells x after)

rowed_nth : {xs : List Statement} {rs : List (List ℕ)} → Rowed xs rs → (a : List Statement) (x : Statement) (b : List Statement) → xs ≡ a ++ (x ∷ b) → RowAt rs (length a) x
rowed_nth no_rows [] x b e = let z : 0 ≡ length (x ∷ b) = ap length e in absurd (omega arith)
rowed_nth no_rows (y ∷ a) x b e = let z : 0 ≡ length (y ∷ (a ++ (x ∷ b))) = ap length e in absurd (omega arith)
rowed_nth (more_rows {xs} {rs = rs'} y m p) [] x b e =
    let h : y ≡ x = cc in
    record { after = m; nth = record { front = []; rest = rs'; whole = ap (λ (z : Statement). statement_cells z m ∷ rs') h; place = refl } }
rowed_nth (more_rows {xs} {rs = rs'} y m p) (z ∷ a) x b e =
    let t : xs ≡ a ++ (x ∷ b) = cc in
    let r = rowed_nth p a x b t in
    let n = r.nth in
    record { after = r.after; nth = record { front = statement_cells y m ∷ n.front; rest = n.rest; whole = ap (λ (l : List (List ℕ)). statement_cells y m ∷ l) n.whole; place = ap suc n.place } }

statement_cell : (f : File) (st : List ℕ) (x : Statement) → st ≡ kept_part_statements f → Nth (flat f.parts) 2048 x → cell_of st 7 2048 0 ≡ x.name.place
unfolding kept_part_statements statement_cells
statement_cell f st x e q =
    let w = rowed f.parts 0 in
    let r = rowed_nth w q.front x q.rest q.whole in
    let n : Nth (all_statement_rows f.parts 0) 2048 (statement_cells x r.after) =
    subst (λ (j : ℕ). Nth (all_statement_rows f.parts 0) j (statement_cells x r.after)) q.place r.nth in
    ap (λ (t : List ℕ). get_or t (2048 * 7 + 0) 0) e
    ∙ kept_cell (2049 * 7) 7 2048 0 (all_statement_rows f.parts 0) (statement_cells x r.after) (rowed_wide w) n (omega arith) (omega arith)

-- Order --------------------------------------------------------------------------------------------------------------------------------------

words_behind : (p : ℕ) (c : List Object) (y : Object) (d : List Object) → InOrder p (object_words (c ++ (y ∷ d))) → InOrder (suc y.word.place) (object_words d)
unfolding object_words
words_behind p [] y d o = ordered_sub (drop {t = y.name} (sub_behind (statement_words y.statements) (sub_all (object_words d)))) (suc y.word.place) o.1
words_behind p (z ∷ c) y d o =
    words_behind (suc z.name.place) c y d (ordered_sub (sub_behind (statement_words z.statements) (sub_all (object_words (c ++ (y ∷ d))))) (suc z.name.place) o.1.1)

words_from : (p : ℕ) (c : List Object) (x : Object) (b : List Object) → InOrder p (object_words (c ++ (x ∷ b))) → (p ≤ x.word.place) × (p ≤ x.name.place)
unfolding object_words
words_from p [] x b o = let h = o.0 in let i = o.1.0 in (h, omega arith)
words_from p (z ∷ c) x b o =
    let h = o.0 in
    let i = o.1.0 in
    let r = words_from (suc z.name.place) c x b (ordered_sub (sub_behind (statement_words z.statements) (sub_all (object_words (c ++ (x ∷ b))))) (suc z.name.place) o.1.1) in
    let r₀ = r.0 in
    let r₁ = r.1 in
    (omega arith, omega arith)

-- The faults of the parts are 11 at part 513 and 11 at statement 2,049.
numbers_parts : (os : List Object) → numbers_of (λ (x : Object). x.row) (λ (x : Object). x.word) 512 11 os ≡ object_numbers os
unfolding numbers_of object_numbers
numbers_parts [] = refl
numbers_parts (x ∷ xs) = ap (λ (l : List ℕ). x.row ∷ l) (numbers_parts xs)

unfoldable limits : List Object → List Fault
limits os = numbered (λ (x : Object). x.row) (λ (x : Object). x.word) 512 11 os

parts_split : {g : Fault} (os : List Object) → Has g (each_part os) → Has g (limits os ++ numbered_statements (flat os))
unfolding each_part limits numbered flat numbered_statements
parts_split [] m = m
parts_split {g} (x ∷ xs) m =
    let A = faults_if (eqb x.row 512) x.word 11 in
    let B = statement_faults x.statements in
    let L = limits xs in
    let S = numbered_statements (flat xs) in
    let S₀ = numbered_statements (flat_of x.statements) in
    let whole : numbered_statements (flat_of x.statements ++ flat xs) ≡ S₀ ++ S = numbered_append (λ (x : Statement). x.number) (λ (x : Statement). x.name) 2048 11 (flat_of x.statements) (flat xs) in
    ⊎_elim
    (λ i. ⊎_elim (λ a. has_left (A ++ L) (numbered_statements (flat_of x.statements ++ flat xs)) (has_left A L a))
    (λ b. has_right (A ++ L) (numbered_statements (flat_of x.statements ++ flat xs)) (subst (Has g) (sym whole) (has_left S₀ S (subst (Has g) (statements_numbered x.statements) b))))
    (has_split A B i))
    (λ i. ⊎_elim (λ a. has_left (A ++ L) (numbered_statements (flat_of x.statements ++ flat xs)) (has_right A L a))
    (λ b. has_right (A ++ L) (numbered_statements (flat_of x.statements ++ flat xs)) (subst (Has g) (sym whole) (has_right S₀ S b)))
    (has_split L S (parts_split xs i)))
    (has_split (A ++ B) (each_part xs) m)

parts_join : {g : Fault} (os : List Object) → Has g (limits os ++ numbered_statements (flat os)) → Has g (each_part os)
unfolding each_part limits numbered flat numbered_statements
parts_join [] m = m
parts_join {g} (x ∷ xs) m =
    let A = faults_if (eqb x.row 512) x.word 11 in
    let B = statement_faults x.statements in
    let L = limits xs in
    let S = numbered_statements (flat xs) in
    let S₀ = numbered_statements (flat_of x.statements) in
    let whole : numbered_statements (flat_of x.statements ++ flat xs) ≡ S₀ ++ S = numbered_append (λ (x : Statement). x.number) (λ (x : Statement). x.name) 2048 11 (flat_of x.statements) (flat xs) in
    ⊎_elim
    (λ i. ⊎_elim (λ a. has_left (A ++ B) (each_part xs) (has_left A B a)) (λ b. has_right (A ++ B) (each_part xs) (parts_join xs (has_left L S b))) (has_split A L i))
    (λ i. ⊎_elim (λ a. has_left (A ++ B) (each_part xs) (has_right A B (subst (Has g) (sym (statements_numbered x.statements)) a)))
    (λ b. has_right (A ++ B) (each_part xs) (parts_join xs (has_right L S b)))
    (has_split S₀ S (subst (Has g) whole i)))
    (has_split (A ++ L) (numbered_statements (flat_of x.statements ++ flat xs)) m)

-- Faults of objects that later parts begin ---------------------------------------------------------------------------------------------------------

-- The kind words of parts stand at lo or behind it.
abbrev From : ℕ → List Object → Type 0
From lo [] = Unit {0}
From lo (x ∷ xs) = (lo ≤ x.word.place) × From lo xs

from_order : (p lo : ℕ) (xs : List Object) → lo ≤ p → InOrder p (object_words xs) → From lo xs
unfolding object_words
from_order p lo [] h o = tt
from_order p lo (x ∷ xs) h o =
    let a = o.0 in
    let b = o.1.0 in
    (omega arith, from_order (suc x.name.place) lo xs (omega arith) (ordered_sub (sub_behind (statement_words x.statements) (sub_all (object_words xs))) (suc x.name.place) o.1.1))

own_from : {g : Fault} (lo : ℕ) (os : List Object) (k : ℕ) (x : Object) → lo ≤ x.word.place → Has g (own_faults os k x) → lo ≤ g.place
unfolding own_faults
own_from {g} lo os k x h m =
    let b = full (most x.kind) (how_many x.kind os) in
    ⊎_elim (λ n. let e : x.word.place ≡ g.place = ap (λ (y : Fault). y.place) (in_if (eqb k 256) x.word 11 n).1 in omega (arith, e))
    (λ n. let e : x.word.place ≡ g.place = ap (λ (y : Fault). y.place) (in_if b x.word 17 n).1 in omega (arith, e))
    (has_split (faults_if (eqb k 256) x.word 11) (faults_if b x.word 17) m)

merge_from_lo : {g : Fault} (lo : ℕ) (os before xs : List Object) (k : ℕ) → From lo xs → Has g (each_object os (merge_from before xs k)) → lo ≤ g.place
unfolding merge_from each_object choose
merge_from_lo lo os before [] k h m = absurd (has_none m)
merge_from_lo {g} lo os before (x ∷ xs) k h m =
    go (used x before) (λ n. merge_from_lo lo os (before ++ (x ∷ [])) xs k h.1 n) (λ n. merge_from_lo lo (os ++ (merged x k xs ∷ [])) (before ++ (x ∷ [])) xs (suc k) h.1 n) m
  where
    go : (b : Bool) → (Has g (each_object os (merge_from (before ++ (x ∷ [])) xs k)) → lo ≤ g.place)
        → (Has g (each_object (os ++ (merged x k xs ∷ [])) (merge_from (before ++ (x ∷ [])) xs (suc k))) → lo ≤ g.place)
        → Has g (each_object os (choose b (λ _. merge_from (before ++ (x ∷ [])) xs k) (λ _. merged x k xs ∷ merge_from (before ++ (x ∷ [])) xs (suc k)))) → lo ≤ g.place
    go true p q n = p n
    go false p q n =
        let r = merge_from (before ++ (x ∷ [])) xs (suc k) in
        ⊎_elim (λ i. own_from lo os k x h.0 (subst (Has g) (each_one os x k xs) i)) (λ i. q i)
        (has_split (each_object os (merged x k xs ∷ [])) (each_object (os ++ (merged x k xs ∷ [])) r) (subst (Has g) (each_behind os (merged x k xs ∷ []) r) n))

-- The names of parts stand at lo or behind it.
abbrev NamesFrom : ℕ → List Object → Type 0
NamesFrom lo [] = Unit {0}
NamesFrom lo (x ∷ xs) = (lo ≤ x.name.place) × NamesFrom lo xs

names_order : (p lo : ℕ) (xs : List Object) → lo ≤ p → InOrder p (object_words xs) → NamesFrom lo xs
unfolding object_words
names_order p lo [] h o = tt
names_order p lo (x ∷ xs) h o =
    let a = o.0 in
    let b = o.1.0 in
    (omega arith, names_order (suc x.name.place) lo xs (omega arith) (ordered_sub (sub_behind (statement_words x.statements) (sub_all (object_words xs))) (suc x.name.place) o.1.1))

names_back : (lo : ℕ) (a b : List Object) → NamesFrom lo (a ++ b) → NamesFrom lo b
names_back lo [] b h = h
names_back lo (x ∷ a) b h = names_back lo a b h.1

names_behind : (p : ℕ) (c : List Object) (y : Object) (d : List Object) → InOrder p (object_words (c ++ (y ∷ d))) → InOrder (suc y.name.place) (object_words d)
unfolding object_words
names_behind p [] y d o = ordered_sub (sub_behind (statement_words y.statements) (sub_all (object_words d))) (suc y.name.place) o.1.1
names_behind p (z ∷ c) y d o =
    names_behind (suc z.name.place) c y d (ordered_sub (sub_behind (statement_words z.statements) (sub_all (object_words (c ++ (y ∷ d))))) (suc z.name.place) o.1.1)

names_lo : {g : Fault} (lo : ℕ) (before xs : List Object) → NamesFrom lo xs → Has g (each_name before xs) → lo ≤ g.place
unfolding each_name
names_lo lo before [] h m = absurd (has_none m)
names_lo {g} lo before (x ∷ xs) h m =
    let a = h.0 in
    ⊎_elim (λ n. let e : x.name.place ≡ g.place = ap (λ (y : Fault). y.place) (in_if (elsewhere x before) x.name 24 n).1 in omega (arith, a, e))
    (λ n. names_lo lo (before ++ (x ∷ [])) xs h.1 n)
    (has_split (faults_if (elsewhere x before) x.name 24) (each_name (before ++ (x ∷ [])) xs) m)

-- Kinds that have no object have no part -----------------------------------------------------------------------------------------------------------

bit_kind : (k : Kind) (x : Object) → bit (same_kind k x.kind) ≡ 0 → same_kind k x.kind ≡ false
unfolding bit
bit_kind k x e = go (same_kind k x.kind) e
  where
    go : (b : Bool) → bit b ≡ 0 → b ≡ false
    go true e = absurd (omega arith)
    go false e = refl

fewer : (k : Kind) (before xs : List Object) (n : ℕ) → how_many k (merge_from before xs n) ≤ how_many k xs
unfolding merge_from how_many choose merged
fewer k before [] n = omega arith
fewer k before (x ∷ xs) n = go (used x before) (fewer k (before ++ (x ∷ [])) xs n) (fewer k (before ++ (x ∷ [])) xs (suc n))
  where
    go : (b : Bool) → how_many k (merge_from (before ++ (x ∷ [])) xs n) ≤ how_many k xs → how_many k (merge_from (before ++ (x ∷ [])) xs (suc n)) ≤ how_many k xs
        → how_many k (choose b (λ _. merge_from (before ++ (x ∷ [])) xs n) (λ _. merged x n xs ∷ merge_from (before ++ (x ∷ [])) xs (suc n))) ≤ bit (same_kind k x.kind) + how_many k xs
    go true p q = omega arith
    go false p q = omega arith

-- What was used before was of its kind.
used_kind : (k : Kind) (x : Object) (l : List Object) → same_kind k x.kind ≡ true → how_many k l ≡ 0 → used x l ≡ false
unfolding how_many same_kind
used_kind k x [] t e = used_none x
used_kind k x (y ∷ l) t e =
    let a : bit (same_kind k y.kind) ≡ 0 = omega arith in
    used_more x y l ∙ go (same_object x y) (λ h. false≢true (sym (bit_kind k y a) ∙ kind_through h)) (used_kind k x l t (omega arith))
  where
    kind_through : same_object x y ≡ true → same_kind k y.kind ≡ true
    kind_through h =
        let q = (same_alike x y h).kinds in
        ap (eqb (kind_number k)) (sym q) ∙ t

    go : (b : Bool) → (b ≡ true → ⊥) → used x l ≡ false → either b (used x l) ≡ false
    go true f r = absurd (f refl)
    go false f r = r

many_behind : (k : Kind) (l : List Object) (x : Object) → how_many k (l ++ (x ∷ [])) ≡ how_many k l + bit (same_kind k x.kind)
unfolding how_many
many_behind k [] x = omega arith
many_behind k (y ∷ l) x = let e = many_behind k l x in omega arith

none_left : (k : Kind) (before xs : List Object) (n : ℕ) → how_many k before ≡ 0 → how_many k (merge_from before xs n) ≡ 0 → how_many k xs ≡ 0
unfolding merge_from how_many choose merged bit
none_left k before [] n h e = refl
none_left k before (x ∷ xs) n h e =
    go (same_kind k x.kind) (used x before) (λ t. used_kind k x before t h)
    (λ z g. none_left k (before ++ (x ∷ [])) xs n (let a = many_behind k before x in omega arith) g)
    (λ z g. none_left k (before ++ (x ∷ [])) xs (suc n) (let a = many_behind k before x in omega arith) g) refl e
  where
    go : (t u : Bool) → (t ≡ true → u ≡ false) → (bit (same_kind k x.kind) ≡ 0 → how_many k (merge_from (before ++ (x ∷ [])) xs n) ≡ 0 → how_many k xs ≡ 0)
        → (bit (same_kind k x.kind) ≡ 0 → how_many k (merge_from (before ++ (x ∷ [])) xs (suc n)) ≡ 0 → how_many k xs ≡ 0) → same_kind k x.kind ≡ t
        → how_many k (choose u (λ _. merge_from (before ++ (x ∷ [])) xs n) (λ _. merged x n xs ∷ merge_from (before ++ (x ∷ [])) xs (suc n))) ≡ 0
        → bit (same_kind k x.kind) + how_many k xs ≡ 0
    go true true f p q i g = absurd (false≢true (sym (f refl)))
    go true false f p q i g = let z : bit (same_kind k x.kind) ≡ 1 = ap bit i in absurd (omega arith)
    go false true f p q i g = let z : bit (same_kind k x.kind) ≡ 0 = ap bit i in let y = p z g in omega arith
    go false false f p q i g = let z : bit (same_kind k x.kind) ≡ 0 = ap bit i in let y = q z (omega arith) in omega arith

merged_none : (k : Kind) (ps : List Object) → how_many k (merge ps) ≡ 0 → how_many k ps ≡ 0
unfolding merge how_many
merged_none k ps e = none_left k [] ps 0 refl e

merged_fewer : (k : Kind) (ps : List Object) → how_many k (merge ps) ≤ how_many k ps
unfolding merge
merged_fewer k ps = fewer k [] ps 0

merge_none : (before l : List Object) (k : ℕ) → l ≡ [] → merge_from before l k ≡ []
unfolding merge_from
merge_none before l k e = ap (λ (v : List Object). merge_from before v k) e

ltb_none : (a b : ℕ) → ltb a 0 ≡ ltb b 0
ltb_none a b = le-ltb a 0 (omega arith) ∙ sym (le-ltb b 0 (omega arith))

ltb_one : (a b : ℕ) → (a ≡ 0 → b ≡ 0) → (b ≡ 0 → a ≡ 0) → ltb a 1 ≡ ltb b 1
ltb_one a b f g = by (ℕ_discrete a 0)
  where
    by : Dec (a ≡ 0) → ltb a 1 ≡ ltb b 1
    by (yes e) = let h = f e in lt-ltb a 1 (omega arith) ∙ sym (lt-ltb b 1 (omega arith))
    by (no e) = by-other (ℕ_discrete b 0)
      where
        by-other : Dec (b ≡ 0) → ltb a 1 ≡ ltb b 1
        by-other (yes h) = absurd (e (g h))
        by-other (no h) = le-ltb a 1 (omega (arith, e)) ∙ sym (le-ltb b 1 (omega (arith, h)))

few_same : (a b : ℕ) → (a ≡ 0 → b ≡ 0) → (b ≡ 0 → a ≡ 0) → (k : Kind) → ltb a (fewest k) ≡ ltb b (fewest k)
unfolding fewest
few_same a b f g OS = ltb_one a b f g
few_same a b f g APPMODE = ltb_one a b f g
few_same a b f g TASK = ltb_none a b
few_same a b f g ISR = ltb_none a b
few_same a b f g COUNTER = ltb_none a b
few_same a b f g ALARM = ltb_none a b
few_same a b f g RESOURCE = ltb_none a b
few_same a b f g EVENT = ltb_none a b
few_same a b f g COM = ltb_none a b
few_same a b f g MESSAGE = ltb_none a b
few_same a b f g NETWORKMESSAGE = ltb_none a b
few_same a b f g IPDU = ltb_none a b
few_same a b f g NM = ltb_none a b

too_few_same : (ks : List Kind) (ps : List Object) (cpu : Word) → too_few ks (merge ps) cpu ≡ too_few ks ps cpu
unfolding too_few
too_few_same [] ps cpu = refl
too_few_same (k ∷ ks) ps cpu =
    ap₂ (λ (b : Bool) (l : List Fault). faults_if b cpu 17 ++ l)
    (few_same (how_many k (merge ps)) (how_many k ps) (λ e. merged_none k ps e) (λ e. let h = merged_fewer k ps in omega arith) k) (too_few_same ks ps cpu)

-- The stage ----------------------------------------------------------------------------------------------------------------------------------

from_back : (lo : ℕ) (a b : List Object) → From lo (a ++ b) → From lo b
from_back lo [] b h = h
from_back lo (x ∷ a) b h = from_back lo a b h.1

module _ (s : List ℕ) (f : File) (K : Situation s f) where
  limits_is : limits f.parts ≡ nth_fault (λ (x : Object). x.word) 11 512 f.parts
  unfolding limits
  limits_is =
      numbered_is (λ (x : Object). x.row) (λ (x : Object). x.word) 512 11 f.parts
      (subst (Counts 0) (sym (numbers_parts f.parts)) (whole K).numbers.1.1.0)

  inside_is : numbered_statements (flat f.parts) ≡ nth_fault (λ (x : Statement). x.name) 11 2048 (flat f.parts)
  unfolding numbered_statements
  inside_is =
      numbered_is (λ (x : Statement). x.number) (λ (x : Statement). x.name) 2048 11 (flat f.parts)
      (subst (Counts 0) (sym (numbers_flat f.parts)) (whole K).numbers.1.1.1)

  part_order : InOrder 1 (object_words f.parts)
  unfolding later_words
  part_order = ordered_sub (sub_behind (spec_words f.specs) (drop {t = f.cpu} (sub_all (object_words f.parts)))) 1 (whole K).order

  -- The fault 24 that was found.
  unfoldable clashes : {n : ℕ} {r : MaybeFault} → Clashes f n r → List Fault
  clashes (clash front z rest w c h e) = record { place = z.name.place; number = 24 } ∷ []
  clashes (no_clash u e) = []

  clashes_real : {n : ℕ} {r : MaybeFault} (Q : Clashes f n r) → Real (clashes Q)
  unfolding clashes faults_if
  clashes_real (clash front z rest w c h e) = real_if true z.name 24 (omega arith)
  clashes_real (no_clash u e) = real_none

  clashes_code : {n : ℕ} {r : MaybeFault} (Q : Clashes f n r) → r ≡ fault_of (first (clashes Q))
  unfolding clashes fault_of first sooner
  clashes_code (clash front z rest w c h e) = e
  clashes_code (no_clash u e) = e

  clashes_in : {n : ℕ} {r : MaybeFault} (Q : Clashes f n r) (g : Fault) → Has g (clashes Q) → Has g (each_name [] f.parts)
  unfolding clashes each_name faults_if
  clashes_in (clash front z rest w c h e) g m =
      subst (λ (os : List Object). Has g (each_name [] os)) (sym w)
      (subst (Has g) (sym (each_name_append [] front (z ∷ rest)))
      (has_right (each_name [] front) (each_name front (z ∷ rest))
      (has_left (faults_if (elsewhere z front) z.name 24) (each_name (front ++ (z ∷ [])) rest) (subst (λ (b : Bool). Has g (faults_if b z.name 24)) (sym h) m))))
  clashes_in (no_clash u e) g m = absurd (has_none m)

  module _ {l : ℕ} {best : MaybeFault} {k : ℕ} {cs : List ℕ} (M : Met f l best k cs) (full-front : (0 < length M.left → length M.before ≡ 513)) {r : MaybeFault} (Q : Clashes f l r) where
    abbrev C : List Fault
    C = nth_fault (λ (x : Object). x.word) 11 512 f.parts

    abbrev D : List Fault
    D = nth_fault (λ (x : Statement). x.name) 11 2048 (flat f.parts)

    unfoldable found : List Fault
    found = too_few kinds f.objects f.cpu ++ (each_object [] M.so_far ++ ((C ++ D) ++ clashes Q))

    objects_split : each_object [] f.objects ≡ each_object [] M.so_far ++ each_object M.so_far (merge_from M.before M.left k)
    objects_split = ap (each_object []) ((whole K).merged ∙ sym M.merged_so) ∙ each_behind [] M.so_far (merge_from M.before M.left k)

    parts_is : {g : Fault} → Has g (each_part f.parts) → Has g (C ++ D)
    parts_is {g} m = subst (Has g) (ap₂ ◌++◌ limits_is inside_is) (parts_split f.parts m)

    is_parts : {g : Fault} → Has g (C ++ D) → Has g (each_part f.parts)
    is_parts {g} m = parts_join f.parts (subst (Has g) (sym (ap₂ ◌++◌ limits_is inside_is)) m)

    found_in_stage : (g : Fault) → Has g found → Covered g (object_faults f)
    unfolding found object_faults
    found_in_stage g m =
        let a = too_few kinds f.objects f.cpu in
        let b = each_object [] M.so_far in
        let os = each_object [] f.objects in
        let ps = each_part f.parts in
        let ns = each_name [] f.parts in
        ⊎_elim (λ n. covered (has_left a (os ++ (ps ++ ns)) n))
        (λ n. ⊎_elim
        (λ i. covered (has_right a (os ++ (ps ++ ns)) (has_left os (ps ++ ns) (subst (Has g) (sym objects_split) (has_left b (each_object M.so_far (merge_from M.before M.left k)) i)))))
        (λ i. ⊎_elim (λ j. covered (has_right a (os ++ (ps ++ ns)) (has_right os (ps ++ ns) (has_left ps ns (is_parts j)))))
        (λ j. covered (has_right a (os ++ (ps ++ ns)) (has_right os (ps ++ ns) (has_right ps ns (clashes_in Q g j)))))
        (has_split (C ++ D) (clashes Q) i))
        (has_split b ((C ++ D) ++ clashes Q) n))
        (has_split a (b ++ ((C ++ D) ++ clashes Q)) m)

    -- The faults of objects that parts past the room begin lie right of 11 at the part that is one too many.
    past_room : (g : Fault) (R : List Object) → M.left ≡ R → Has g (each_object M.so_far (merge_from M.before R k)) → Covered g found
    unfolding found merge_from each_object
    past_room g [] e m = absurd (has_none m)
    past_room g (x ∷ R) e m =
        let F = M.before in
        let n : 0 < length M.left = let z : length M.left ≡ length (x ∷ R) = ap (λ (v : List Object). length v) e in omega arith in
        let h = full-front n in
        let i = nth_of F 512 (omega arith) in
        let y = i.element in
        let u = i.nth in
        let w : f.parts ≡ F ++ (x ∷ R) = M.whole ∙ ap (λ (v : List Object). F ++ v) e in
        let v : f.parts ≡ u.front ++ (y ∷ (u.rest ++ (x ∷ R))) = w ∙ ap (λ (l : List Object). l ++ (x ∷ R)) u.whole ∙ append_assoc u.front (y ∷ u.rest) (x ∷ R) in
        let o = words_behind 1 u.front y (u.rest ++ (x ∷ R)) (subst (λ (l : List Object). InOrder 1 (object_words l)) v part_order) in
        let q = from_back (suc y.word.place) u.rest (x ∷ R) (from_order (suc y.word.place) (suc y.word.place) (u.rest ++ (x ∷ R)) (omega arith) o) in
        let t = merge_from_lo (suc y.word.place) M.so_far F (x ∷ R) k q m in
        covered_by (record { place = y.word.place; number = 11 })
        (has_right (too_few kinds f.objects f.cpu) _ (has_right (each_object [] M.so_far) _ (has_left (C ++ D) _ (has_left C D
        (fault_nth (λ (x : Object). x.word) 11 {x = y} (record { front = u.front; rest = u.rest ++ (x ∷ R); whole = v; place = u.place }) refl)))))
        (left_of t)

    -- The faults of names lie right of the one that was found, or of 11 at the part that is one too many.
    names_past : (g : Fault) (F R : List Object) → f.parts ≡ F ++ R → (0 < length R → length F ≡ 513) → Has g (each_name F R) → Covered g found
    unfolding found each_name
    names_past g F [] w full m = absurd (has_none m)
    names_past g F (x ∷ R) w full m =
        let h = full (omega arith) in
        let i = nth_of F 512 (omega arith) in
        let y = i.element in
        let u = i.nth in
        let v : f.parts ≡ u.front ++ (y ∷ (u.rest ++ (x ∷ R))) = w ∙ ap (λ (l : List Object). l ++ (x ∷ R)) u.whole ∙ append_assoc u.front (y ∷ u.rest) (x ∷ R) in
        let o = words_behind 1 u.front y (u.rest ++ (x ∷ R)) (subst (λ (l : List Object). InOrder 1 (object_words l)) v part_order) in
        let q = names_back (suc y.word.place) u.rest (x ∷ R) (names_order (suc y.word.place) (suc y.word.place) (u.rest ++ (x ∷ R)) (omega arith) o) in
        let t = names_lo (suc y.word.place) F (x ∷ R) q m in
        covered_by (record { place = y.word.place; number = 11 })
        (has_right (too_few kinds f.objects f.cpu) _ (has_right (each_object [] M.so_far) _ (has_left (C ++ D) _ (has_left C D
        (fault_nth (λ (x : Object). x.word) 11 {x = y} (record { front = u.front; rest = u.rest ++ (x ∷ R); whole = v; place = u.place }) refl)))))
        (left_of t)

    names_found : (P : Clashes f l r) → clashes P ≡ clashes Q → (g : Fault) → Has g (each_name [] f.parts) → Covered g found
    unfolding clashes found each_name
    names_found (clash front z rest w c h e) q g m =
        let n = subst (Has g) (each_name_append [] front (z ∷ rest)) (subst (λ (os : List Object). Has g (each_name [] os)) w m) in
        let own : Has (record { place = z.name.place; number = 24 }) found =
        has_right (too_few kinds f.objects f.cpu) _ (has_right (each_object [] M.so_far) _ (has_right (C ++ D) _ (subst (Has (record { place = z.name.place; number = 24 })) q (here refl)))) in
        ⊎_elim (λ i. absurd (has_none (subst (Has g) c i)))
        (λ i. ⊎_elim (λ j. covered (subst (λ (v : Fault). Has v found) (in_if (elsewhere z front) z.name 24 j).1 own))
        (λ j.
        let o = names_behind 1 front z rest (subst (λ (os : List Object). InOrder 1 (object_words os)) w part_order) in
        let t = names_lo (suc z.name.place) (front ++ (z ∷ [])) rest (names_order (suc z.name.place) (suc z.name.place) rest (omega arith) o) j in
        covered_by (record { place = z.name.place; number = 24 }) own (left_of t))
        (has_split (faults_if (elsewhere z front) z.name 24) (each_name (front ++ (z ∷ [])) rest) i))
        (has_split (each_name [] front) (each_name front (z ∷ rest)) n)
    names_found (no_clash u e) q g m =
        let n = subst (Has g) (each_name_append [] u.front u.rest) (subst (λ (os : List Object). Has g (each_name [] os)) u.whole m) in
        let a : length f.parts ≡ length u.front + length u.rest = ap (λ (v : List Object). length v) u.whole ∙ length-append u.front u.rest in
        let b : length f.parts ≡ length M.before + length M.left = ap (λ (v : List Object). length v) M.whole ∙ length-append M.before M.left in
        let c = u.place in
        let d = M.place in
        ⊎_elim (λ i. absurd (has_none (subst (Has g) u.clear i)))
        (λ i. names_past g u.front u.rest u.whole (λ t. let z = full-front (omega (arith, a, b, c, d, t)) in omega (arith, c, d, z)) i)
        (has_split (each_name [] u.front) (each_name u.front u.rest) n)

    stage_in_found : (g : Fault) → Has g (object_faults f) → Covered g found
    unfolding found object_faults
    stage_in_found g m =
        let a = too_few kinds f.objects f.cpu in
        let b = each_object [] M.so_far in
        let os = each_object [] f.objects in
        let ps = each_part f.parts in
        let ns = each_name [] f.parts in
        let cd = (C ++ D) ++ clashes Q in
        ⊎_elim (λ n. covered (has_left a (b ++ cd) n))
        (λ n. ⊎_elim
        (λ i. ⊎_elim (λ j. covered (has_right a (b ++ cd) (has_left b cd j))) (λ j. past_room g M.left refl j)
        (has_split b (each_object M.so_far (merge_from M.before M.left k)) (subst (Has g) objects_split i)))
        (λ i. ⊎_elim (λ j. covered (has_right a (b ++ cd) (has_right b cd (has_left (C ++ D) (clashes Q) (parts_is j))))) (λ j. names_found Q refl g j) (has_split ps ns i))
        (has_split os (ps ++ ns) n))
        (has_split a (os ++ (ps ++ ns)) m)

    stage_is : first (object_faults f) ≡ first found
    stage_is = first_same (object_faults f) found found_in_stage stage_in_found

real_few : (ks : List Kind) (os : List Object) (cpu : Word) → Real (too_few ks os cpu)
real_few ks os cpu = real (of_few ks os cpu)

part_word : (p : List ℕ) (f : File) → p ≡ kept_parts f → (x : Object) → Nth f.parts 512 x → cell_of p 10 512 1 ≡ x.word.place
part_word p f e x q = word_cell f p e 512 x q (omega arith)

none_left_over : (l : List Object) → length l ≡ 0 → l ≡ []
none_left_over [] h = refl
none_left_over (x ∷ l) h = absurd (omega arith)

-- The five parts, joined.
pub objects_answer : (s p st x xn : List ℕ) (n m : ℕ) (cs : List ℕ) (cpu l : ℕ) (a b c d v y w z : MaybeFault) (r u : Checked)
    → a ≡ order.fault_if (is_found (lacking_from cs 0)) 17 cpu → l ≡ min n 513 → ChecksParts p x l u → b ≡ u.fault → c ≡ room_fault p 10 512 1 n 11 → d ≡ room_fault st 7 2048 0 m 11
    → y ≡ order.sooner c d → FirstRows (length p) s p l xn → NameFault p xn l v → w ≡ order.sooner y v → z ≡ order.sooner b w → r.fault ≡ order.sooner a z → r.objects ≡ u.objects → r.counts ≡ u.counts
    → ObjectFaults s p st x n m cs cpu r
unfolding found
objects_answer s p st x xn n m cs cpu l a b c d v y w z r t e₁ e₂ e₃ e₀ e₄ e₅ e₆ j₁ j₂ j₃ e₇ e₈ e₉ e₁₀ f K h₁ h₂ h₃ h₄ h₅ h₆ h₇ =
    let N : Noted s p x l f = record { situation = K; in_parts = h₁; firsts = λ j i. h₇ j (omega (arith, i, e₂)); few = omega (arith, e₂); inside = omega (arith, e₂, h₃) } in
    let M = e₃ s f N in
    let Q = j₂ s f (record { situation = K; in_parts = h₁; firsts = λ j i. cells_of (length p) s p xn l n e₂ j₁ j (omega (arith, i, e₂)); few = omega (arith, e₂); inside = omega (arith, e₂, h₃) }) in
    let E₀ = clashes s f K Q in
    let whole_length : length f.parts ≡ length M.before + length M.left = ap (λ (v : List Object). length v) M.whole ∙ length-append M.before M.left in
    let pl = M.place in
    let A = too_few kinds f.objects f.cpu in
    let B = each_object [] M.so_far in
    let C₀ = nth_fault (λ (x : Object). x.word) 11 512 f.parts in
    let D₀ = nth_fault (λ (x : Statement). x.name) 11 2048 (flat f.parts) in
    let same-few : too_few kinds f.objects f.cpu ≡ too_few kinds f.parts f.cpu = ap (λ (os : List Object). too_few kinds os f.cpu) (whole K).merged ∙ too_few_same kinds f.parts f.cpu in
    let qA : a ≡ fault_of (first A) = e₁ ∙ too_few_is f.parts f.cpu cs cpu h₅ h₆ ∙ ap (λ (v : List Fault). fault_of (first v)) (sym same-few) in
    let qB : b ≡ fault_of (first B) = e₀ ∙ M.found in
    let qC : c ≡ fault_of (first C₀) = e₄ ∙ room_code (λ (x : Object). x.word) 11 p 10 512 1 n f.parts h₃ (λ x q. part_word p f h₁ x q) in
    let qD : d ≡ fault_of (first D₀) = e₅ ∙ room_code (λ (x : Statement). x.name) 11 st 7 2048 0 m (flat f.parts) (h₄ ∙ sym (length_flat f.parts)) (λ x q. statement_cell f st x h₂ q) in
    let rE = clashes_real s f K Q in
    let whole_length : length f.parts ≡ length M.before + length M.left = ap (λ (v : List Object). length v) M.whole ∙ length-append M.before M.left in
    let pl = M.place in
    let A = too_few kinds f.objects f.cpu in
    let B = each_object [] M.so_far in
    let C₀ = nth_fault (λ (x : Object). x.word) 11 512 f.parts in
    let D₀ = nth_fault (λ (x : Statement). x.name) 11 2048 (flat f.parts) in
    let rB = each_real [] M.so_far in
    let rC = real_nth (λ (x : Object). x.word) 11 (omega arith) f.parts 512 in
    let rD = real_nth (λ (x : Statement). x.name) 11 (omega arith) (flat f.parts) 2048 in
    let same-few : too_few kinds f.objects f.cpu ≡ too_few kinds f.parts f.cpu = ap (λ (os : List Object). too_few kinds os f.cpu) (whole K).merged ∙ too_few_same kinds f.parts f.cpu in
    let qA : a ≡ fault_of (first A) = e₁ ∙ too_few_is f.parts f.cpu cs cpu h₅ h₆ ∙ ap (λ (v : List Fault). fault_of (first v)) (sym same-few) in
    let qB : b ≡ fault_of (first B) = e₀ ∙ M.found in
    let qC : c ≡ fault_of (first C₀) = e₄ ∙ room_code (λ (x : Object). x.word) 11 p 10 512 1 n f.parts h₃ (λ x q. part_word p f h₁ x q) in
    let qD : d ≡ fault_of (first D₀) = e₅ ∙ room_code (λ (x : Statement). x.name) 11 st 7 2048 0 m (flat f.parts) (h₄ ∙ sym (length_flat f.parts)) (λ x q. statement_cell f st x h₂ q) in
    let qy : y ≡ fault_of (first (C₀ ++ D₀)) = e₆ ∙ ap₂ order.sooner qC qD ∙ sym (fault_append C₀ D₀ rC rD) in
    let rCD = real_append C₀ D₀ rC rD in
    let qw : w ≡ fault_of (first ((C₀ ++ D₀) ++ E₀)) = j₃ ∙ ap₂ order.sooner qy (clashes_code s f K Q) ∙ sym (fault_append (C₀ ++ D₀) E₀ rCD rE) in
    let rCE = real_append (C₀ ++ D₀) E₀ rCD rE in
    let qz : z ≡ fault_of (first (B ++ ((C₀ ++ D₀) ++ E₀))) = e₇ ∙ ap₂ order.sooner qB qw ∙ sym (fault_append B ((C₀ ++ D₀) ++ E₀) rB rCE) in
    let qr : r.fault ≡ fault_of (first (A ++ (B ++ ((C₀ ++ D₀) ++ E₀)))) =
    e₈ ∙ ap₂ order.sooner qA qz ∙ sym (fault_append A (B ++ ((C₀ ++ D₀) ++ E₀)) (real_few kinds f.objects f.cpu) (real_append B ((C₀ ++ D₀) ++ E₀) rB rCE)) in
    let all : length f.parts ≤ 513 → M.so_far ≡ f.objects =
    λ h. sym (append-nil M.so_far) ∙ ap (λ (v : List Object). M.so_far ++ v) (sym (merge_none M.before M.left t.objects (none_left_over M.left (omega (arith, h, e₂, h₃, whole_length, pl))))) ∙ M.merged_so ∙ sym (whole K).merged in
    let nb = M.number in
    record {
      fault = qr ∙ sym (ap fault_of (stage_is s f K M (λ w. omega (arith, e₂, h₃, whole_length, pl, w)) Q));
      objects = λ h. e₉ ∙ sym nb ∙ ap (λ (v : List Object). length v) (all h);
      counted = λ h. e₁₀ ∙ M.counted ∙ tallied M.so_far (let i = M.low in omega (arith, nb, i, e₂)) ∙ ap counts (all h);
    }
