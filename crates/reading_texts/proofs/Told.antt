-- The answers of the functions. Assumes nothing.
use Prim.Native.Nat.{ℕ, ◌≤◌, ◌<◌}
use mathlib.Core.List.{List, ◌++◌, append-nil}
use mathlib.Core.Logic.{◌⊎◌, inl, inr}
use mathlib.Core.Path.{◌≡◌, refl, sym, ◌∙◌, ap, ap₂, subst, fun_ext}
use native.Mathlib.Omega.{arith}
use lib.ListN.{length, get_or, take, drop, drop_of_length-le, replicate}
use lib.Dec.{eqb}
use Rattle.token.specs.Find.{pick}
use Rattle.meaning.specs.Answers.{Tables, Answer, accepted, refused}
use Rattle.meaning.specs.Cells.{rooms_after, cells, room_cells, definition_room, enumerator_room, object_room, value_room}
use Rattle.meaning.specs.Reading.{Answers as TextAnswers, too_long, not_grammar, meant, reading}
use Rattle.meaning.specs.Rules.{TheAnswer as TheTextsAnswer, FullRoom}
use Rattle.meaning.proofs.Rooms.{accepted_fits}
use Rattle.meaning.proofs.Whole.{answers as text-answers}
use Rattle.copying.proofs.Rooms.{cleared_zeros}
use Rattle.reading.specs.Results.{reading_of}
use Rattle.reading.proofs.Demand.{reading_demand_3}
use Rattle.reading.specs.Rules.{ReadsByRules, short_tables as short, by_rules as ruled}
use Rattle.reading.specs.declared.Answer.{Answer as AnswerTold}
use Rattle.reading.specs.declared.Answer.TheVariants.{Accepted, Refused}
use Rattle.reading.specs.declared.Reading.{Reading}
use Rattle.sources.specs.Expanding.{expanded, expansion_of}
use Rattle.sources.specs.Promises.{ExpandsToRead}
use Rattle.sources.specs.declared.Expansion.{Expansion}
use Rattle.sources.proofs.Plains.{Exactly, exactly}
use Rattle.sources_reading.specs.Answering.{Answers, too_long as texts-too-long, renumbered}
use Rattle.sources_reading.proofs.Answered.{answers, one_answer}
use Rattle.sources_reading.proofs.Renumbered.{is_renumbered, plain_answer, plain_number}
use Rattle.placing.specs.Placed.{place_in, placed_definition_row, placed_enumerator_row, placed_object_row, placed_value_row, placed_tables, is_at_start, placed_answer}
use Rattle.placing.specs.Columns.{RowsFit, PlacesTables}
use Rattle.placing.proofs.Rowwise.{length_each}
use Rattle.lent_texts.specs.Answered.{place_of, TheAnswer}
use Rattle.reading_texts.specs.Reads.{FullRooms, ReadsTexts, short_tables, by_rules, Plain, placed_told, DemandTexts}
use Rattle.reading_texts.specs.Filling.{RoomSizes, Hold, ReadsExpanded, FillsTexts}
use Rattle.lent_texts.proofs.Kept.{Kept, kept}

-- ---- rooms of the stated sizes

pub full_room : {d e o v : List ℕ} → RoomSizes d e o v → FullRoom d e o v
full_room z =
    let a = z.definitions in
    let b = z.enumerators in
    let c = z.objects in
    let d = z.values in
    record { definitions = omega arith; enumerators = omega arith; objects = omega arith; values = omega arith }

pub nothing_past : (n : ℕ) (c l : List ℕ) → length l ≡ n → c ++ drop n l ≡ c
nothing_past n c l e =
    let h : length l ≤ n = omega arith in
    ap (λ (x : List ℕ). c ++ x) (drop_of_length-le l h) ∙ append-nil {A = ℕ} c

-- what a reading of a text into them says
pub record Ruled (s d' e' o' v' : List ℕ) (r : Reading) : Type 0 where
  pub answer : Answer
  pub rules : TheTextsAnswer s answer
  pub result : r ≡ reading_of answer
  pub rooms : Hold (rooms_after answer) d' e' o' v'

pub ruled_of : {s d e o v d' e' o' v' : List ℕ} {r : Reading} → RoomSizes d e o v → ReadsByRules s d e o v d' e' o' v' r → Ruled s d' e' o' v' r
ruled_of z (short n _ _) = absurd (n (full_room z))
ruled_of {s} {d} {e} {o} {v} z (ruled f a t q i) =
    record {
      answer = a;
      rules = t;
      result = q;
      rooms = record {
        definitions = i.definitions ∙ nothing_past 6656 _ d z.definitions;
        enumerators = i.enumerators ∙ nothing_past 3072 _ e z.enumerators;
        objects = i.objects ∙ nothing_past 2048 _ o z.objects;
        values = i.values ∙ nothing_past 18432 _ v z.values;
      };
    }

-- ---- an accepted text

pub rows_fit : {s : List ℕ} {a : Answer} (t : Tables) → TextAnswers s a → a ≡ accepted t → RowsFit t
rows_fit t (too_long h) e = absurd (let z : ◌≡◌ {A = ℕ} 0 1 = cc in omega arith)
rows_fit t (not_grammar a h n k) e = absurd (let z : ◌≡◌ {A = ℕ} 0 1 = cc in omega arith)
rows_fit {s} t (meant w d) e =
    let f = accepted_fits s d.tree t e in
    record { definitions = f.definitions; enumerators = f.enumerators; objects = f.objects; values = f.values }

same_reading : (f : ℕ → ℕ) (t : Tables) → reading_of (accepted t) ≡ reading_of (accepted (placed_tables f t))
unfolding reading_of placed_tables
same_reading f t =
    rw (length_each (placed_definition_row f) t.definitions, length_each (placed_enumerator_row f) t.enumerators, length_each (placed_object_row f) t.objects, length_each (placed_value_row f) t.values)

module _ (s g : List ℕ) (m n : ℕ) where
  accepted_by : (d e o v d' e' o' v' : List ℕ) (r : Reading) (a : Answer) → TheTextsAnswer s a → r ≡ reading_of a → Hold (rooms_after a) d e o v → r.answer ≡ Accepted →
      PlacesTables (place_in g (length s) m) d e o v d' e' o' v' → ReadsExpanded s g m n d' e' o' v' r
  unfolding reading_of renumbered placed_answer rooms_after placed_tables
  accepted_by d e o v d' e' o' v' r (refused k p) t q h z u =
      absurd (let w : Accepted ≡ Refused k p = sym z ∙ ap (λ (x : Reading). x.answer) q in let y : ◌≡◌ {A = ℕ} 0 1 = cc in omega arith)
  accepted_by d e o v d' e' o' v' r (accepted x) t q h z u =
      let fit = rows_fit x t.given refl in
      record {
        answer = accepted x;
        rules = t;
        result = q ∙ same_reading (place_in g (length s) m) x;
        rooms = record {
          definitions = u.definitions x fit h.definitions;
          enumerators = u.enumerators x fit h.enumerators;
          objects = u.objects x fit h.objects;
          values = u.values x fit h.values;
        };
      }

  pub accepted_reads : {d e o v d' e' o' v' : List ℕ} {r : Reading} → Ruled s d e o v r → r.answer ≡ Accepted →
      PlacesTables (place_in g (length s) m) d e o v d' e' o' v' → ReadsExpanded s g m n d' e' o' v' r
  accepted_reads {d} {e} {o} {v} {d'} {e'} {o'} {v'} {r} k z u = accepted_by d e o v d' e' o' v' r k.answer k.rules k.result k.rooms z u

  refused_by : (d e o v : List ℕ) (r x : Reading) (k p n' p' : ℕ) (a : Answer) → TheTextsAnswer s a → r ≡ reading_of a → Hold (rooms_after a) d e o v → r.answer ≡ Refused k p →
      n' ≡ pick (eqb k 3) n k → p' ≡ pick (is_at_start n') p (place_in g (length s) m p) → x ≡ reading_of (refused n' p') → ReadsExpanded s g m n d e o v x
  unfolding reading_of renumbered placed_answer rooms_after
  refused_by d e o v r x k p n' p' (accepted y) t q h z i j w =
      absurd (let u : Accepted ≡ Refused k p = sym (ap (λ (x : Reading). x.answer) q) ∙ z in let y : ◌≡◌ {A = ℕ} 0 1 = cc in omega arith)
  refused_by d e o v r x k p n' p' (refused k₁ p₁) t q h z i j w =
      let u : Refused k₁ p₁ ≡ Refused k p = sym (ap (λ (x : Reading). x.answer) q) ∙ z in
      let a : k ≡ k₁ = cc in
      let b : p ≡ p₁ = cc in
      let c : n' ≡ pick (eqb k₁ 3) n k₁ = i ∙ ap (λ (y : ℕ). pick (eqb y 3) n y) a in
      let f : p' ≡ pick (is_at_start (pick (eqb k₁ 3) n k₁)) p₁ (place_in g (length s) m p₁) =
      j ∙ ap (λ (y : ℕ). pick (is_at_start y) p (place_in g (length s) m p)) c ∙ ap (λ (y : ℕ). pick (is_at_start (pick (eqb k₁ 3) n k₁)) y (place_in g (length s) m y)) b in
      record {
        answer = refused k₁ p₁;
        rules = t;
        result = w ∙ ap₂ (λ (y y' : ℕ). reading_of (refused y y')) c f;
        rooms = record { definitions = h.definitions; enumerators = h.enumerators; objects = h.objects; values = h.values };
      }

  pub refused_reads : {d e o v : List ℕ} {r : Reading} (x : Reading) (k p n' p' : ℕ) → Ruled s d e o v r → r.answer ≡ Refused k p →
      n' ≡ pick (eqb k 3) n k → p' ≡ pick (is_at_start n') p (place_in g (length s) m p) → x ≡ reading_of (refused n' p') → ReadsExpanded s g m n d e o v x
  refused_reads {d} {e} {o} {v} {r} x k p n' p' u z i j w = refused_by d e o v r x k p n' p' u.answer u.rules u.result u.rooms z i j w

-- ---- lent texts

-- cleared rooms
pub thirty_rooms : {d e o v d' e' o' v' : List ℕ} → RoomSizes d e o v → d' ≡ replicate (length d) 0 → e' ≡ replicate (length e) 0 → o' ≡ replicate (length o) 0 →
    v' ≡ replicate (length v) 0 → Hold (rooms_after (refused 30 0)) d' e' o' v'
unfolding rooms_after definition_room enumerator_room object_room value_room room_cells cells
thirty_rooms z p q i j =
    record {
      definitions = p ∙ ap (λ (i : ℕ). replicate i 0) z.definitions ∙ cleared_zeros 6656;
      enumerators = q ∙ ap (λ (i : ℕ). replicate i 0) z.enumerators ∙ cleared_zeros 3072;
      objects = i ∙ ap (λ (i : ℕ). replicate i 0) z.objects ∙ cleared_zeros 2048;
      values = j ∙ ap (λ (i : ℕ). replicate i 0) z.values ∙ cleared_zeros 18432;
    }

module _ (b l x g x' g' : List ℕ) (e : Expansion) (u : ExpandsToRead b l x g x' g' e) where
  own : Exactly b l x g x' g' e
  own = exactly u

  -- 30
  thirty_own : e.number ≡ 30 → (expansion_of b l).number ≡ 30
  thirty_own n = by own.number
    where
      by : (e.number ≡ (expansion_of b l).number) ⊎ ((e.number ≡ 3) × ((expansion_of b l).number ≡ 0)) → (expansion_of b l).number ≡ 30
      by (inl i) = sym i ∙ n
      by (inr i) = let z = i.0 in absurd (omega arith)

  pub thirty_answer : e.number ≡ 30 → TheAnswer b l (refused 30 0)
  unfolding placed_answer is_at_start
  thirty_answer n =
      let h : Answers b l (refused 30 0) = texts-too-long (thirty_own n) in
      record { in_expanded = refused 30 0; given = h; no_other = λ y k. sym (one_answer k) ∙ one_answer h; placed = refl }

  pub thirty_fills : (d e₁ o v d' e' o' v' : List ℕ) (r : Reading) → e.number ≡ 30 → RoomSizes d e₁ o v → d' ≡ replicate (length d) 0 → e' ≡ replicate (length e₁) 0 →
      o' ≡ replicate (length o) 0 → v' ≡ replicate (length v) 0 → r ≡ reading_of (refused 30 0) → FillsTexts b l x g x' g' d' e' o' v' r
  thirty_fills d e₁ o v d' e' o' v' r n z p q i j w =
      record { answer = refused 30 0; rules = thirty_answer n; result = w; rooms = thirty_rooms z p q i j; bytes = u.bytes; origins = u.origins }

  module _ (hx : 65535 ≤ length x) (hg : 65535 ≤ length g) (not : e.number ≡ 30 → ⊥) where
    not_own : (expansion_of b l).number ≡ 30 → ⊥
    not_own n = by own.number
      where
        by : (e.number ≡ (expansion_of b l).number) ⊎ ((e.number ≡ 3) × ((expansion_of b l).number ≡ 0)) → ⊥
        by (inl i) = not (i ∙ n)
        by (inr i) = let z = i.1 in absurd (omega arith)

    k : Kept b l x' g' (expansion_of b l)
    k = kept b l x g x' g' (expansion_of b l) own.expands hx hg not_own

    -- the text that is read is the expanded text
    pub room_inside : e.length ≤ length x'
    room_inside = subst (λ (n : ℕ). n ≤ length x') (sym own.size) k.inside

    pub two_told : 1 < length l
    two_told = k.two

    pub small_number : e.number ≤ 29
    small_number = by own.number
      where
        by : (e.number ≡ (expansion_of b l).number) ⊎ ((e.number ≡ 3) × ((expansion_of b l).number ≡ 0)) → e.number ≤ 29
        by (inl i) = subst (λ (n : ℕ). n ≤ 29) (sym i) k.small
        by (inr i) = let z = i.0 in omega arith

    pub text_is : take e.length x' ≡ (expanded b l).bytes
    text_is = ap (λ (n : ℕ). take n x') own.size ∙ k.bytes

    places : place_in g' (length (take e.length x')) (get_or l 1 0) ≡ place_of b l
    places = ap (λ (n : ℕ). place_in g' n (get_or l 1 0)) (ap length text_is ∙ sym k.size) ∙ fun_ext k.place

    -- its answer
    is_reading : (a : Answer) → TheTextsAnswer (take e.length x') a → reading (expanded b l).bytes ≡ a
    is_reading a t =
        let s = (expanded b l).bytes in
        let t' : TheTextsAnswer s a = subst (λ (y : List ℕ). TheTextsAnswer y a) text_is t in
        t'.no_other (reading s) (text-answers s)

    the_answer : (a : Answer) → TheTextsAnswer (take e.length x') a → Answers b l (renumbered (expanded b l).number a)
    the_answer a t = subst (Answers b l) (is_renumbered b l not_own ∙ ap (renumbered (expanded b l).number) (is_reading a t)) (answers b l)

    -- with the number of its fault
    same_number : (a : Answer) → TheTextsAnswer (take e.length x') a → renumbered e.number a ≡ renumbered (expanded b l).number a
    same_number a t = by own.number
      where
        by : (e.number ≡ (expansion_of b l).number) ⊎ ((e.number ≡ 3) × ((expansion_of b l).number ≡ 0)) → renumbered e.number a ≡ renumbered (expanded b l).number a
        by (inl i) = ap (λ (n : ℕ). renumbered n a) (i ∙ k.number)
        by (inr i) =
            ap (λ (n : ℕ). renumbered n a) i.0
            ∙ subst (λ (c : Answer). renumbered 3 c ≡ renumbered (expanded b l).number c) (is_reading a t) (plain_number b l not_own (inl (sym k.number ∙ i.1)))

    -- and with its places
    pub texts_placed : (n : ℕ) (a : Answer) → n ≡ e.number → TheTextsAnswer (take e.length x') a →
        placed_answer (place_in g' (length (take e.length x')) (get_or l 1 0)) (renumbered n a) ≡ placed_answer (place_of b l) (renumbered (expanded b l).number a)
    texts_placed n a i t =
        ap (λ (f : ℕ → ℕ). placed_answer f (renumbered n a)) places
        ∙ ap (placed_answer (place_of b l)) (ap (λ (y : ℕ). renumbered y a) i ∙ same_number a t)

    pub texts_answer : (a : Answer) → TheTextsAnswer (take e.length x') a → TheAnswer b l (placed_answer (place_of b l) (renumbered (expanded b l).number a))
    texts_answer a t =
        let h = the_answer a t in
        record { in_expanded = renumbered (expanded b l).number a; given = h; no_other = λ y j. sym (one_answer j) ∙ one_answer h; placed = refl }

    pub read_fills : {d' e' o' v' : List ℕ} {r : Reading} (n : ℕ) → n ≡ e.number → ReadsExpanded (take e.length x') g' (get_or l 1 0) n d' e' o' v' r →
        FillsTexts b l x g x' g' d' e' o' v' r
    read_fills {d'} {e'} {o'} {v'} {r} n i w =
        let z = texts_placed n w.answer i w.rules in
        record {
          answer = placed_answer (place_of b l) (renumbered (expanded b l).number w.answer);
          rules = texts_answer w.answer w.rules;
          result = w.result ∙ ap reading_of z;
          rooms = subst (λ (y : Answer). Hold (rooms_after y) d' e' o' v') z w.rooms;
          bytes = u.bytes;
          origins = u.origins;
        }

-- ---- the public call

pub short_reads : {b l x g d e o v : List ℕ} {r : Reading} → (FullRooms x g d e o v → ⊥) → r ≡ reading_of (refused 1 0) → ReadsTexts b l x g d e o v x g d e o v r
short_reads n q = short_tables n q refl refl (record { definitions = refl; enumerators = refl; objects = refl; values = refl })

pub full_reads : {b l x g d e o v x' g' d' e' o' v' : List ℕ} {r : Reading} → FullRooms x g d e o v → FillsTexts b l x g x' g' d' e' o' v' r →
    ReadsTexts b l x g d e o v x' g' (d' ++ drop 6656 d) (e' ++ drop 3072 e) (o' ++ drop 2048 o) (v' ++ drop 18432 v) r
full_reads {b} {l} {x} {g} {d} {e} {o} {v} f u =
    by_rules f u.answer u.rules u.result (record {
      definitions = ap (λ (y : List ℕ). y ++ drop 6656 d) u.rooms.definitions;
      enumerators = ap (λ (y : List ℕ). y ++ drop 3072 e) u.rooms.enumerators;
      objects = ap (λ (y : List ℕ). y ++ drop 2048 o) u.rooms.objects;
      values = ap (λ (y : List ℕ). y ++ drop 18432 v) u.rooms.values;
    }) u.bytes u.origins

reading_placed : (f : ℕ → ℕ) (a : Answer) → (reading_of (placed_answer f a)).answer ≡ placed_told f (reading_of a).answer
unfolding reading_of placed_answer placed_told
reading_placed f (accepted t) = refl
reading_placed f (refused n p) = refl

-- demand 3 of what is told for the answer of the rules
pub answer_demand : (b l : List ℕ) → Plain b l → (a : Answer) (r : AnswerTold) → TheAnswer b l a → r ≡ (reading_of a).answer → DemandTexts b l r
answer_demand b l z a r t q =
    let s = (expanded b l).bytes in
    let h : t.in_expanded ≡ reading s = sym (one_answer t.given) ∙ plain_answer b l z.within z.number in
    record {
      in_expanded = (reading_of (reading s)).answer;
      demand = reading_demand_3 s;
      placed = q ∙ ap (λ (y : Answer). (reading_of y).answer) t.placed ∙ reading_placed (place_of b l) t.in_expanded
          ∙ ap (λ (y : Answer). placed_told (place_of b l) (reading_of y).answer) h;
    }

demand_texts : {b l x g d e o v x' g' d' e' o' v' : List ℕ} {r : Reading} → ReadsTexts b l x g d e o v x' g' d' e' o' v' r → FullRooms x g d e o v → Plain b l →
    DemandTexts b l r.answer
demand_texts (short_tables n _ _ _ _) f z = absurd (n f)
demand_texts {b} {l} {r = r} (by_rules _ a t q _ _ _) f z = answer_demand b l z a r.answer t (ap (λ (y : Reading). y.answer) q)

pub and_demand : {b l x g d e o v x' g' d' e' o' v' : List ℕ} {r : Reading} → ReadsTexts b l x g d e o v x' g' d' e' o' v' r →
    ReadsTexts b l x g d e o v x' g' d' e' o' v' r × (FullRooms x g d e o v → Plain b l → DemandTexts b l r.answer)
and_demand u = (u, demand_texts u)
