-- The public call: from what was read and what was put out to the answer, the tables and the output. Assumes nothing.
use mathlib.Core.Path.{◌≡◌, refl, sym, ◌∙◌, ap, ap₂, subst}
use mathlib.Core.List.{List, [], ◌++◌}
use mathlib.Core.Bool.{Bool, true, false}
use mathlib.Core.Option.{Option, none, some}
use Prim.Native.Nat.{ℕ, ◌+◌, ◌≤◌, ◌<◌}
use native.Mathlib.Omega.{arith}
use lib.ListN.{length, take, drop, replicate, length-append, length-drop, take-append-drop}
use lib.Seq.{take_at, drop_at, take_all, length-take-le}
use borrow.Author.Tests.{lt-ltb, le-ltb}
use Rattle.meaning.specs.Syntax.{File}
use Rattle.meaning.specs.Words.{choose}
use Rattle.meaning.specs.Faults.{Fault}
use Rattle.meaning.specs.Defining.{all_definition_rows, all_enumerator_rows}
use Rattle.meaning.specs.Applying.{object_rows}
use Rattle.meaning.specs.Resolving.{all_values, all_value_rows}
use Rattle.meaning.specs.Answers.{Answer as Meant, Tables, accepted, refused, unless, tables, answer}
use Rattle.meaning.specs.Normal.{normal}
use Rattle.meaning.specs.Reading.{reading, normal_text}
use Rattle.meaning.specs.Calls.{enough, too_short, output_asked, call}
use Rattle.meaning.specs.Cells.{room_cells, rooms_after, definition_room, enumerator_room, object_room, value_room, definition_cells, enumerator_cells, object_cells, value_cells}
use Rattle.meaning.proofs.Found.{normal_derived}
use Rattle.meaning.proofs.Rooms.{Fits, accepted_fits, rooms_full}
use Rattle.reading.specs.Results.{reading_of, rooms_of, table_after, ReadsSpanned}
use Rattle.reading.specs.declared.Answer.TheVariants.{Accepted, Refused}
use Rattle.reading.specs.declared.Reading.{Reading}
use Rattle.reading.specs.declared.Spanned.{Spanned}
use Rattle.meaning.specs.Rules.{FullRoom}
use Rattle.reading.specs.Decisions.{RoomSizes}
use Rattle.reading.proofs.ByRules.{full_enough}
use Rattle.reading.proofs.Lending.{call_enough}
use Rattle.reading.proofs.Settling.{blank_room}
use Rattle.writing.specs.Promises.{Given, PutOut, fits, too_long, PutsOut}
use Rattle.writing.specs.Results.{written_of, output_after, asked, Writes}
use Rattle.writing.specs.declared.Written.{Written}

-- Answers ----------------------------------------------------------------------------------------------------------------------------------

pub record IsAccepted (a : Meant) : Type 0 where
  pub rows : Tables
  pub is : a ≡ accepted rows

pub is_accepted : (a : Meant) → (reading_of a).answer ≡ Accepted → IsAccepted a
unfolding reading_of
is_accepted (accepted t) e = record { rows = t; is = refl }
is_accepted (refused n p) e = absurd (let z : ◌≡◌ {A = ℕ} 0 1 = cc in omega arith)

pub is_refused : (a : Meant) (n p : ℕ) → (reading_of a).answer ≡ Refused n p → a ≡ refused n p
unfolding reading_of
is_refused (accepted t) n p e = absurd (let z : ◌≡◌ {A = ℕ} 0 1 = cc in omega arith)
is_refused (refused m q) n p e = let x : m ≡ n = cc in let y : q ≡ p = cc in ap₂ refused x y

-- A stage without a fault hands on.
past : (o : Option Fault) (k : Unit {0} → Meant) (t : Tables) → unless o k ≡ accepted t → k tt ≡ accepted t
unfolding unless
past none k t e = e
past (some f) k t e = absurd (let z : ◌≡◌ {A = ℕ} 0 1 = cc in omega arith)

-- The rows of an accepted file are its own.
pub own_rows : (f : File) (t : Tables) → answer f ≡ accepted t → tables f (all_values f f.objects) ≡ t
unfolding answer
own_rows f t e = let q = past _ _ t (past _ _ t (past _ _ t (past _ _ t e))) in cc

-- Calls ------------------------------------------------------------------------------------------------------------------------------------

enough_by : (b : Bool) (a : Meant) (t : Tables) → choose b (λ _. a) (λ _. refused 1 0) ≡ accepted t → b ≡ true
unfolding choose
enough_by true a t e = refl
enough_by false a t e = absurd (let z : ◌≡◌ {A = ℕ} 0 1 = cc in omega arith)

asked_refused : (m : ℕ) (w : List ℕ) (b : Bool) (a : Meant) (n p : ℕ) → choose b (λ _. output_asked none w a) (λ _. refused 1 0) ≡ refused n p
    → choose b (λ _. output_asked (some m) w a) (λ _. refused 1 0) ≡ refused n p
unfolding choose output_asked too_short
asked_refused m w true (accepted t) n p e = absurd (let z : ◌≡◌ {A = ℕ} 0 1 = cc in omega arith)
asked_refused m w true (refused i j) n p e = e
asked_refused m w false a n p e = e

asked_fits : (m : ℕ) (w : List ℕ) (t : Tables) → length w ≤ m → output_asked (some m) w (accepted t) ≡ accepted t
unfolding output_asked too_short
asked_fits m w t h = rw (le-ltb m (length w) h)

asked_long : (m : ℕ) (w : List ℕ) (t : Tables) → m < length w → output_asked (some m) w (accepted t) ≡ refused 20 0
unfolding output_asked too_short
asked_long m w t h = rw (lt-ltb m (length w) h)

-- A table whose room was read: its room, and what is past it.
module _ (n : ℕ) (room l l₁ : List ℕ) (e : l₁ ≡ room ++ drop n l) (h : length room ≡ n) where
  pub room_is : take n l₁ ≡ room
  room_is = ap (take n) e ∙ take_at room (drop n l) n h

  past_is : drop n l₁ ≡ drop n l
  past_is = ap (drop n) e ∙ drop_at room (drop n l) n h

  kept : (l₂ : List ℕ) → l₂ ≡ take n l₁ → l₂ ++ drop n l₁ ≡ room ++ drop n l
  kept l₂ q = ap₂ ◌++◌ (q ∙ room_is) past_is

  cleared : {R : Type 0} (f : R → List ℕ) (l₂ : List ℕ) → l₂ ≡ replicate (length (take n l₁)) 0 → l₂ ++ drop n l₁ ≡ room_cells n f [] ++ drop n l
  cleared f l₂ q = ap₂ ◌++◌ (blank_room n f l₂ (q ∙ ap (λ (i : ℕ). replicate i 0) (ap length room_is ∙ h))) past_is

-- A table that is no longer than its room is that room.
pub room_whole : (n : ℕ) (room l l₁ : List ℕ) → l₁ ≡ room ++ drop n l → length room ≡ n → length l ≡ n → l₁ ≡ room
room_whole n room l l₁ e h k =
    let z = ap length e ∙ length-append room (drop n l) in
    let y = length-drop n l in
    sym (take_all n l₁ (omega (arith, z, y, h, k))) ∙ room_is n room l l₁ e h

-- A table whose room was lent has its length.
pub lent_length : (n : ℕ) (l l₁ l₂ : List ℕ) → length l₂ ≡ length (take n l₁) → length l₁ ≡ length l → length (l₂ ++ drop n l₁) ≡ length l
lent_length n l l₁ l₂ e q = length-append l₂ (drop n l₁) ∙ ap (λ (k : ℕ). k + length (drop n l₁)) e ∙ sym (length-append (take n l₁) (drop n l₁)) ∙ ap length (take-append-drop n l₁) ∙ q

after_same : (b : Bool) (x y : List ℕ) (n : ℕ) (l : List ℕ) → (b ≡ true → x ≡ y) → table_after b x n l ≡ table_after b y n l
unfolding table_after
after_same true x y n l h = ap (λ (k : List ℕ). k ++ drop n l) (h refl)
after_same false x y n l h = refl

module _ {s d e o v d₁ e₁ o₁ v₁ : List ℕ} {w : Spanned} (h : ReadsSpanned s d e o v d₁ e₁ o₁ v₁ w) where
  -- A refused text -------------------------------------------------------------------------------------------------------------------------

  pub refused_writes : (n p : ℕ) → w.reading.answer ≡ Refused n p → (l : List ℕ) → Writes s d e o v l d₁ e₁ o₁ v₁ l (record { answer = Refused n p; length = 0 })
  unfolding asked call written_of output_after
  refused_writes n p i l =
      let c : call (rooms_of d e o v) none s ≡ refused n p = is_refused _ n p (sym (ap (λ (x : Reading). x.answer) h.reads.result) ∙ i) in
      let z : asked s d e o v l ≡ refused n p = asked_refused (length l) (normal_text s) (enough (rooms_of d e o v)) (reading s) n p c in
      let q : enough (rooms_of d e o v) ≡ true → reading s ≡ asked s d e o v l = λ b. sym (call_enough s d e o v b) ∙ c ∙ sym z in
      record {
        result = ap (written_of (normal_text s)) (sym z);
        definitions = h.reads.definitions ∙ after_same (enough (rooms_of d e o v)) _ _ 6656 d (λ b. ap (λ (a : Meant). (rooms_after a).definitions) (q b));
        enumerators = h.reads.enumerators ∙ after_same (enough (rooms_of d e o v)) _ _ 3072 e (λ b. ap (λ (a : Meant). (rooms_after a).enumerators) (q b));
        objects = h.reads.objects ∙ after_same (enough (rooms_of d e o v)) _ _ 2048 o (λ b. ap (λ (a : Meant). (rooms_after a).objects) (q b));
        values = h.reads.values ∙ after_same (enough (rooms_of d e o v)) _ _ 18432 v (λ b. ap (λ (a : Meant). (rooms_after a).values) (q b));
        output = ap (output_after (normal_text s) l) (sym z);
      }

  -- Where the tables are long enough, it is refused so by the rules.
  pub refused_reading : FullRoom d e o v → (n p : ℕ) → w.reading.answer ≡ Refused n p → reading s ≡ refused n p
  refused_reading k n p i =
      sym (call_enough s d e o v (full_enough k)) ∙ is_refused _ n p (sym (ap (λ (x : Reading). x.answer) h.reads.result) ∙ i)

  -- An accepted text -----------------------------------------------------------------------------------------------------------------------

  module _ (i : w.reading.answer ≡ Accepted) where
    abbrev pub file : File
    file = (h.spans i).file

    abbrev pub own : Tables
    own = tables (h.spans i).file (all_values (h.spans i).file (h.spans i).file.objects)

    pub called : IsAccepted (call (rooms_of d e o v) none s)
    called = is_accepted _ (sym (ap (λ (x : Reading). x.answer) h.reads.result) ∙ i)

    pub all_enough : enough (rooms_of d e o v) ≡ true
    unfolding call
    all_enough = enough_by (enough (rooms_of d e o v)) (output_asked none (normal_text s) (reading s)) called.rows called.is

    pub reads_own : reading s ≡ accepted own
    reads_own =
        let a = sym (call_enough s d e o v all_enough) ∙ called.is in
        a ∙ ap accepted (sym (own_rows file called.rows (sym (h.spans i).answered ∙ a)))

    pub own_fits : Fits own
    own_fits =
        let t = (h.spans i).situation in
        accepted_fits s t.derivation.tree own (sym (ap answer t.syntax_of) ∙ sym (h.spans i).answered ∙ reads_own)

    abbrev pub definitions_room : List ℕ
    definitions_room = definition_room (all_definition_rows file.specs)

    pub definitions_are : d₁ ≡ definitions_room ++ drop 6656 d
    unfolding table_after rooms_after tables
    definitions_are = h.reads.definitions ∙ ap₂ (λ (b : Bool) (a : Meant). table_after b (rooms_after a).definitions 6656 d) all_enough reads_own

    pub definitions_wide : length definitions_room ≡ 6656
    unfolding tables
    definitions_wide = (rooms_full own own_fits).0

    pub definitions_long : 6656 ≤ length d₁
    definitions_long = let a = ap length definitions_are in let b = length-append definitions_room (drop 6656 d) in let c = definitions_wide in omega (arith, a, b, c)

    pub definitions_front : 6656 ≡ length (take 6656 d₁)
    definitions_front = sym (length-take-le 6656 d₁ definitions_long)

    abbrev pub enumerators_room : List ℕ
    enumerators_room = enumerator_room (all_enumerator_rows file.specs)

    pub enumerators_are : e₁ ≡ enumerators_room ++ drop 3072 e
    unfolding table_after rooms_after tables
    enumerators_are = h.reads.enumerators ∙ ap₂ (λ (b : Bool) (a : Meant). table_after b (rooms_after a).enumerators 3072 e) all_enough reads_own

    pub enumerators_wide : length enumerators_room ≡ 3072
    unfolding tables
    enumerators_wide = (rooms_full own own_fits).1

    pub enumerators_long : 3072 ≤ length e₁
    enumerators_long = let a = ap length enumerators_are in let b = length-append enumerators_room (drop 3072 e) in let c = enumerators_wide in omega (arith, a, b, c)

    pub enumerators_front : 3072 ≡ length (take 3072 e₁)
    enumerators_front = sym (length-take-le 3072 e₁ enumerators_long)

    abbrev pub objects_room : List ℕ
    objects_room = object_room (object_rows file.objects)

    pub objects_are : o₁ ≡ objects_room ++ drop 2048 o
    unfolding table_after rooms_after tables
    objects_are = h.reads.objects ∙ ap₂ (λ (b : Bool) (a : Meant). table_after b (rooms_after a).objects 2048 o) all_enough reads_own

    pub objects_wide : length objects_room ≡ 2048
    unfolding tables
    objects_wide = (rooms_full own own_fits).2

    pub objects_long : 2048 ≤ length o₁
    objects_long = let a = ap length objects_are in let b = length-append objects_room (drop 2048 o) in let c = objects_wide in omega (arith, a, b, c)

    pub objects_front : 2048 ≡ length (take 2048 o₁)
    objects_front = sym (length-take-le 2048 o₁ objects_long)

    abbrev pub values_room : List ℕ
    values_room = value_room (all_value_rows (all_values file file.objects) 0 0)

    pub values_are : v₁ ≡ values_room ++ drop 18432 v
    unfolding table_after rooms_after tables
    values_are = h.reads.values ∙ ap₂ (λ (b : Bool) (a : Meant). table_after b (rooms_after a).values 18432 v) all_enough reads_own

    pub values_wide : length values_room ≡ 18432
    unfolding tables
    values_wide = (rooms_full own own_fits).3

    pub values_long : 18432 ≤ length v₁
    values_long = let a = ap length values_are in let b = length-append values_room (drop 18432 v) in let c = values_wide in omega (arith, a, b, c)

    pub values_front : 18432 ≡ length (take 18432 v₁)
    values_front = sym (length-take-le 18432 v₁ values_long)

    pub given : Given s (take 6656 d₁) (take 2048 o₁) (take 18432 v₁) w file
    unfolding reading_of tables
    given =
        let a = h.spans i in
        let r : w.reading ≡ reading_of (accepted own) = h.reads.result ∙ ap reading_of (call_enough s d e o v all_enough ∙ reads_own) in
        record {
          tables = record {
            situation = a.situation;
            definitions = room_is 6656 definitions_room d d₁ definitions_are definitions_wide;
            objects = room_is 2048 objects_room o o₁ objects_are objects_wide;
            values = room_is 18432 values_room v v₁ values_are values_wide;
            many_objects = ap (λ (x : Reading). x.objects) r;
            many_values = ap (λ (x : Reading). x.values) r;
          };
          spans = record {
            implementation_at = sym a.implementation.0;
            implementation_long = sym a.implementation.1;
            cpu_at = sym a.cpu.0;
            cpu_long = sym a.cpu.1;
          };
        }

    -- Tables that are no longer than their rooms hold the rows whole.
    pub given_whole : RoomSizes d e o v → Given s d₁ o₁ v₁ w file
    given_whole k =
        let g = given in
        record {
          tables = record {
            situation = g.tables.situation;
            definitions = room_whole 6656 definitions_room d d₁ definitions_are definitions_wide k.definitions;
            objects = room_whole 2048 objects_room o o₁ objects_are objects_wide k.objects;
            values = room_whole 18432 values_room v v₁ values_are values_wide k.values;
            many_objects = g.tables.many_objects;
            many_values = g.tables.many_values;
          };
          spans = g.spans;
        }

    pub enumerators_whole : RoomSizes d e o v → e₁ ≡ enumerators_room
    enumerators_whole k = room_whole 3072 enumerators_room e e₁ enumerators_are enumerators_wide k.enumerators

    -- How many rows of definitions and of enumerators there are.
    pub many_definitions : w.reading.definitions ≡ length (all_definition_rows file.specs)
    unfolding reading_of tables
    many_definitions = ap (λ (x : Reading). x.definitions) (h.reads.result ∙ ap reading_of (call_enough s d e o v all_enough ∙ reads_own))

    pub many_enumerators : w.reading.enumerators ≡ length (all_enumerator_rows file.specs)
    unfolding reading_of tables
    many_enumerators = ap (λ (x : Reading). x.enumerators) (h.reads.result ∙ ap reading_of (call_enough s d e o v all_enough ∙ reads_own))

    pub text_is : normal s file ≡ normal_text s
    text_is = let a = h.spans i in ap (normal s) a.situation.syntax_of ∙ sym (normal_derived s a.covered a.situation.derivation)

    asked_is : (l : List ℕ) → asked s d e o v l ≡ output_asked (some (length l)) (normal_text s) (accepted own)
    unfolding asked call choose
    asked_is l =
        ap (λ (b : Bool). choose b (λ _. output_asked (some (length l)) (normal_text s) (reading s)) (λ _. refused 1 0)) all_enough
        ∙ ap (output_asked (some (length l)) (normal_text s)) reads_own

    pub accepted_writes : (l d₂ e₂ o₂ v₂ l₂ : List ℕ) (r : Written) → PutsOut s (take 6656 d₁) (take 3072 e₁) (take 2048 o₁) (take 18432 v₁) w l d₂ e₂ o₂ v₂ l₂ r
        → Writes s d e o v l (d₂ ++ drop 6656 d₁) (e₂ ++ drop 3072 e₁) (o₂ ++ drop 2048 o₁) (v₂ ++ drop 18432 v₁) l₂ r
    unfolding written_of output_after table_after rooms_after definition_room enumerator_room object_room value_room tables
    accepted_writes l d₂ e₂ o₂ v₂ l₂ r p = by (p file given)
      where
        by : PutOut (normal s file) (take 6656 d₁) (take 3072 e₁) (take 2048 o₁) (take 18432 v₁) l d₂ e₂ o₂ v₂ l₂ r
            → Writes s d e o v l (d₂ ++ drop 6656 d₁) (e₂ ++ drop 3072 e₁) (o₂ ++ drop 2048 o₁) (v₂ ++ drop 18432 v₁) l₂ r
        by (fits k a b c g m q) =
            let z : asked s d e o v l ≡ accepted own = asked_is l ∙ asked_fits (length l) (normal_text s) own (subst (λ (x : List ℕ). length x ≤ length l) text_is k) in
            record {
              result = q ∙ ap (λ (x : List ℕ). record { answer = Accepted; length = length x }) text_is ∙ ap (written_of (normal_text s)) (sym z);
              definitions = kept 6656 definitions_room d d₁ definitions_are definitions_wide d₂ a ∙ ap₂ (λ (b : Bool) (y : Meant). table_after b (rooms_after y).definitions 6656 d) (sym all_enough) (sym z);
              enumerators = kept 3072 enumerators_room e e₁ enumerators_are enumerators_wide e₂ b ∙ ap₂ (λ (b : Bool) (y : Meant). table_after b (rooms_after y).enumerators 3072 e) (sym all_enough) (sym z);
              objects = kept 2048 objects_room o o₁ objects_are objects_wide o₂ c ∙ ap₂ (λ (b : Bool) (y : Meant). table_after b (rooms_after y).objects 2048 o) (sym all_enough) (sym z);
              values = kept 18432 values_room v v₁ values_are values_wide v₂ g ∙ ap₂ (λ (b : Bool) (y : Meant). table_after b (rooms_after y).values 18432 v) (sym all_enough) (sym z);
              output = m ∙ ap (λ (x : List ℕ). x ++ drop (length x) l) text_is ∙ ap (output_after (normal_text s) l) (sym z);
            }
        by (too_long k a b c g m q) =
            let z : asked s d e o v l ≡ refused 20 0 = asked_is l ∙ asked_long (length l) (normal_text s) own (subst (λ (x : List ℕ). length l < length x) text_is k) in
            record {
              result = q ∙ ap (written_of (normal_text s)) (sym z);
              definitions = cleared 6656 definitions_room d d₁ definitions_are definitions_wide definition_cells d₂ a ∙ ap₂ (λ (b : Bool) (y : Meant). table_after b (rooms_after y).definitions 6656 d) (sym all_enough) (sym z);
              enumerators = cleared 3072 enumerators_room e e₁ enumerators_are enumerators_wide enumerator_cells e₂ b ∙ ap₂ (λ (b : Bool) (y : Meant). table_after b (rooms_after y).enumerators 3072 e) (sym all_enough) (sym z);
              objects = cleared 2048 objects_room o o₁ objects_are objects_wide object_cells o₂ c ∙ ap₂ (λ (b : Bool) (y : Meant). table_after b (rooms_after y).objects 2048 o) (sym all_enough) (sym z);
              values = cleared 18432 values_room v v₁ values_are values_wide value_cells v₂ g ∙ ap₂ (λ (b : Bool) (y : Meant). table_after b (rooms_after y).values 18432 v) (sym all_enough) (sym z);
              output = m ∙ ap (output_after (normal_text s) l) (sym z);
            }
