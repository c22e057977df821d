-- The normal text of lent texts reads back alone. Assumes nothing.
use mathlib.Core.Path.{◌≡◌, refl, sym, ◌∙◌, ap, ap₂, subst}
use mathlib.Core.List.{List, ◌++◌}
use mathlib.Core.Bool.{Bool, true, false, false≢true}
use Prim.Native.Nat.{ℕ, zero, suc, ◌+◌, ◌≤◌, ◌<◌}
use native.Mathlib.Omega.{arith}
use lib.ListN.{length, get_or, take, drop}
use lib.Seq.{take_at}
use borrow.Author.Tests.{lt-ltb}
use Rattle.token.specs.Find.{pick}
use Rattle.grammar.specs.Stage.{Divides}
use Rattle.meaning.specs.Answers.{Tables, Answer, accepted, refused}
use Rattle.meaning.specs.Cells.{rooms_after}
use Rattle.meaning.specs.Reading.{Answers as TextAnswers, too_long as text-too-long, not_grammar, meant, reading}
use Rattle.meaning.specs.Rules.{TheNormalText, InRooms}
use Rattle.meaning.proofs.Whole.{answers as text-answers, one_answer as text-one-answer}
use Rattle.reading.specs.Results.{reading_of}
use Rattle.reading.specs.declared.Answer.TheVariants.{Accepted, Refused}
use Rattle.reading.specs.declared.Reading.{Reading}
use Rattle.writing.specs.declared.Written.{Written}
use Rattle.reads_back.specs.ReadsBack.{ReadsBack}
use Rattle.reads_back.proofs.ReadsBack.{texts_read_back}
use Rattle.sources.specs.Expanding.{up_from, main_text, expanded, expansion_of}
use Rattle.sources_reading.specs.Answering.{Answers, too_long, alone, sources_answer, renumbered}
use Rattle.sources_reading.proofs.Answered.{answers, one_answer}
use Rattle.sources_reading.proofs.Renumbered.{is_renumbered}
use Rattle.sources_reading.proofs.Alone.{alone_bytes, alone_origins, alone_answer}
use Rattle.placing.specs.Placed.{place_in, placed_tables, placed_answer}
use Rattle.lent_texts.specs.Answered.{place_of, TheAnswer}
use Rattle.reading_texts.specs.Reads.{FullRooms, ReadsTexts, short_tables, by_rules}
use Rattle.reading_texts.specs.Filling.{Hold}
use Rattle.writing_texts.specs.Writes.{Written-by, refuses, longer, writes, WritesTexts, FillsOutput, short_tables as no_room, by_rules as by-texts}
use Rattle.assurances.specs.TextsBack.{ReadsBackAlone, LentTextsReadBack, written, TextsReadBackCalled}

not_accepted : {n p : ℕ} {t : Tables} → refused n p ≡ accepted t → ⊥
not_accepted q = let z : ◌≡◌ {A = Bool} false true = cc in false≢true z

-- The answer to the expanded text -----------------------------------------------------------------------------------------------------------

still_accepted : (k : ℕ) (a : Answer) (t : Tables) → renumbered k a ≡ accepted t → a ≡ accepted t
unfolding renumbered
still_accepted k (accepted x) t e = e
still_accepted k (refused n p) t e = absurd (not_accepted e)

-- what the rules accept of lent texts, they accept of the expanded text
expanded_accepted : (b l : List ℕ) (t : Tables) → Answers b l (accepted t) → reading (expanded b l).bytes ≡ accepted t
expanded_accepted b l t a =
    let z : sources_answer b l ≡ accepted t = one_answer a in
    let n : (expansion_of b l).number ≡ 30 → ⊥ = λ e. let x : Answers b l (refused 30 0) = too_long e in not_accepted (sym (one_answer x) ∙ z) in
    still_accepted (expanded b l).number (reading (expanded b l).bytes) t (sym (is_renumbered b l n) ∙ z)

-- An accepted text, lent alone -----------------------------------------------------------------------------------------------------------------

divides : {s : List ℕ} {a : Answer} (t : Tables) → TextAnswers s a → a ≡ accepted t → Divides s
divides t (text-too-long h) e = absurd (not_accepted e)
divides t (not_grammar a h n k) e = absurd (not_accepted e)
divides t (meant w d) e = w.divides

up_get : (a n i : ℕ) → i < n → get_or (up_from a n) i 0 ≡ a + i
unfolding up_from
up_get a zero i h = absurd (omega arith)
up_get a (suc n) zero h = omega arith
up_get a (suc n) (suc i) h = let e = up_get (suc a) n i (omega arith) in omega arith

module _ (n : List ℕ) (h : length n ≤ 65535) (d : Divides n) where
  own : (p : ℕ) → p < length n → place_of n (alone n) p ≡ p
  unfolding place_of place_in
  own p k =
      let s : length (expanded n (alone n)).bytes ≡ length n = ap length (alone_bytes n h d) in
      let u : p < length (expanded n (alone n)).bytes = omega arith in
      let e : 0 + p ≡ p = omega arith in
      ap (λ (t : Bool). pick t (get_or (expanded n (alone n)).origins p 0) (length (main_text n (alone n)))) (lt-ltb p (length (expanded n (alone n)).bytes) u)
      ∙ ap (λ (g : List ℕ). get_or g p 0) (alone_origins n h d)
      ∙ up_get 0 (length n) p k
      ∙ e

  answered : (t : Tables) → reading n ≡ accepted t → TheAnswer n (alone n) (accepted (placed_tables (place_of n (alone n)) t))
  unfolding placed_answer
  answered t e =
      let g : Answers n (alone n) (accepted t) = subst (Answers n (alone n)) (alone_answer n h d ∙ e) (answers n (alone n)) in
      record { in_expanded = accepted t; given = g; no_other = λ y k. sym (one_answer k) ∙ one_answer g; placed = refl }

pub lent_texts_read_back : LentTextsReadBack
lent_texts_read_back b l t a n w h =
    let s = (expanded b l).bytes in
    let r : ReadsBack s t n = texts_read_back s t (subst (TextAnswers s) (expanded_accepted b l t a) (text-answers s)) n w h in
    let e : reading n ≡ accepted r.back = text-one-answer r.accepts.given in
    let d : Divides n = divides r.back (text-answers n) e in
    record { no_includes = alone_bytes n h d; as_one_text = r; accepts = answered n h d r.back e; own_places = own n h d }

-- The calls -----------------------------------------------------------------------------------------------------------------------------------

not_refused : {n p k : ℕ} {r : Written} → r ≡ record { answer = Refused n p; length = k } → r.answer ≡ Accepted → ⊥
not_refused q e = let z : ◌≡◌ {A = Bool} false true = cc in false≢true z

-- what `write` left, where it accepts: its rows in the rooms d, e, o, v
record Left (b l n d e o v : List ℕ) (k : ℕ) : Type 0 where
  rows : Tables
  answer : Answers b l (accepted rows)
  text : TheNormalText (expanded b l).bytes n
  long : length n ≡ k
  held : Hold (rooms_after (accepted (placed_tables (place_of b l) rows))) d e o v

-- an answer that is placed as an accepted one is accepted
accepted_of : (f : ℕ → ℕ) (a : Answer) (t : Tables) → placed_answer f a ≡ accepted t → (x : Tables) × (a ≡ accepted x)
unfolding placed_answer
accepted_of f (accepted x) t e = (x, refl)
accepted_of f (refused n p) t e = absurd (not_accepted e)

left_by : (b l : List ℕ) (a : Answer) (o d e v w o' : List ℕ) (r : Written) → TheAnswer b l a → Written-by (expanded b l).bytes a o d e v w o' r → r.answer ≡ Accepted →
    Left b l (take r.length o') d e v w r.length
unfolding placed_answer
left_by b l a o d e v w o' r u (refuses n p i q h k) z = absurd (not_refused q z)
left_by b l a o d e v w o' r u (longer t i m n s q h k) z = absurd (not_refused q z)
left_by b l a o d e v w o' r u (writes t i m n s q h k) z =
    let x = accepted_of (place_of b l) u.in_expanded t (sym u.placed ∙ i) in
    let j : r.length ≡ length m = ap (λ (y : Written). y.length) q in
    let y : take r.length o' ≡ m = ap₂ (λ (c : ℕ) (p : List ℕ). take c p) j k ∙ take_at m (drop (length m) o) (length m) refl in
    let c : accepted t ≡ accepted (placed_tables (place_of b l) x.0) = sym i ∙ u.placed ∙ ap (placed_answer (place_of b l)) x.1 in
    record {
      rows = x.0;
      answer = subst (Answers b l) x.1 u.given;
      text = subst (TheNormalText (expanded b l).bytes) (sym y) n;
      long = ap length y ∙ sym j;
      held = subst (λ (z : Answer). Hold (rooms_after z) d e v w) c h;
    }

record Called (b l n d e o v d' e' o' v' : List ℕ) (k : ℕ) : Type 0 where
  rows : Tables
  answer : Answers b l (accepted rows)
  text : TheNormalText (expanded b l).bytes n
  long : length n ≡ k
  rooms : InRooms (rooms_after (accepted (placed_tables (place_of b l) rows))) d e o v d' e' o' v'

left : {b l x g d e v w o x' g' d' e' v' w' o' : List ℕ} {r : Written} → WritesTexts b l x g d e v w o x' g' d' e' v' w' o' r → r.answer ≡ Accepted →
    Called b l (take r.length o') d e v w d' e' v' w' r.length
left (no_room f q _ _ _ _) z = absurd (not_refused q z)
left {b} {l} {d = d} {e = e} {v = v} {w = w} {o = o} {o' = o'} {r = r} (by-texts _ d₁ e₁ v₁ w₁ u p q i j) z =
    let k = left_by b l u.answer o d₁ e₁ v₁ w₁ o' r u.rules u.outcome z in
    record {
      rows = k.rows;
      answer = k.answer;
      text = k.text;
      long = k.long;
      rooms = record {
        definitions = p ∙ ap (λ (y : List ℕ). y ++ drop 6656 d) k.held.definitions;
        enumerators = q ∙ ap (λ (y : List ℕ). y ++ drop 3072 e) k.held.enumerators;
        objects = i ∙ ap (λ (y : List ℕ). y ++ drop 2048 v) k.held.objects;
        values = j ∙ ap (λ (y : List ℕ). y ++ drop 18432 w) k.held.values;
      };
    }

-- what `read` left, where the rules accept
record Read (t : Tables) (d e o v d' e' o' v' : List ℕ) (r : Reading) : Type 0 where
  rooms : InRooms (rooms_after (accepted t)) d e o v d' e' o' v'
  result : r ≡ reading_of (accepted t)

read_alone : {b l x g d e o v x' g' d' e' o' v' : List ℕ} {r : Reading} (t : Tables) → TheAnswer b l (accepted t) → FullRooms x g d e o v →
    ReadsTexts b l x g d e o v x' g' d' e' o' v' r → Read t d e o v d' e' o' v' r
read_alone t a f (short_tables n _ _ _ _) = absurd (n f)
read_alone {b} {l} {d = d} {e = e} {o = o} {v = v} {d' = d'} {e' = e'} {o' = o'} {v' = v'} t a f (by_rules _ y u q i _ _) =
    let z : y ≡ accepted t = u.placed ∙ ap (placed_answer (place_of b l)) (a.no_other u.in_expanded u.given) ∙ sym a.placed in
    record { rooms = subst (λ (c : Answer). InRooms (rooms_after c) d e o v d' e' o' v') z i; result = q ∙ ap reading_of z }

pub texts_read_back_called : TextsReadBackCalled
texts_read_back_called c e h r f =
    let k = left c.contract e in
    let j : length (written c) ≤ 65535 = subst (λ (m : ℕ). m ≤ 65535) (sym k.long) h in
    let g = lent_texts_read_back c.b c.l k.rows k.answer (written c) k.text j in
    let y = read_alone (placed_tables (place_of (written c) (alone (written c))) g.as_one_text.back) g.accepts f r.contract in
    record { rows = k.rows; answer = k.answer; left_by_write = k.rooms; back = g; accepts = y.result; left_by_read = y.rooms }
