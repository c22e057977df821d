-- A text that is lent alone, with an empty name: no text can be included, so that its expansion is the text itself, and places stay.
-- Assumes nothing.
use mathlib.Core.Path.{◌≡◌, refl, sym, ◌∙◌, ap, ap₂, subst}
use mathlib.Core.Bool.{Bool, true, false}
use mathlib.Core.List.{List}
use Prim.Native.Nat.{ℕ, zero, suc, ◌+◌, ◌-◌, ◌≤◌, ◌<◌, min}
use native.Mathlib.Omega.{arith}
use native.Mathlib.Decide.{dec_lt}
use lib.ListN.{length, get_or, take}
use lib.Seq.{take_all}
use lib.Dec.{ltb}
use borrow.Author.Tests.{lt-ltb, le-ltb}
use Rattle.token.specs.Find.{pick}
use Rattle.token.specs.Words.{same}
use Rattle.token.specs.Tokens.{bytes_between}
use Rattle.meaning.specs.Answers.{Answer}
use Rattle.meaning.specs.Reading.{reading}
use Rattle.meaning.specs.Rules.{TheAnswer as TheTextsAnswer}
use Rattle.meaning.proofs.Whole.{answers as text-answers}
use Rattle.sources.specs.Lines.{stop_at}
use Rattle.sources.specs.Texts.{find_from, find_name, include_by, include_of, event_by, event_at, told_well}
use Rattle.sources.specs.Expanding.{Piece, up_from, origin, stopped, after_event, walk, expand_n, inner, main_open, main_text, expanded, is_too_long, fill_by, fill_of, expansion_if, expansion_within, expansion_of}
use Rattle.sources.specs.declared.Line.{Line}
use Rattle.sources.specs.declared.Stop.{Stop}
use Rattle.sources.specs.declared.Stop.TheVariants.{At, Line as AtLine}
use Rattle.std.specs.Prelude.{Option, Some, None}
use Rattle.sources.specs.declared.Event.{Event}
use Rattle.sources.specs.declared.Event.TheVariants.{Stop as Stops}
use Rattle.sources.proofs.Pieces.{good_expand, walk_law, expand_law}
use Rattle.sources_reading.specs.Answering.{Answers, alone, text, sources_answer, renumbered}
use Rattle.sources_reading.proofs.Alone.{main_alone}
use Rattle.sources_reading.proofs.Answered.{within, answers, one_answer}
use Rattle.sources_reading.proofs.Renumbered.{is_renumbered}
use Rattle.placing.specs.Placed.{place_in, placed_answer}
use Rattle.lent_texts.specs.Answered.{place_of, TheAnswer}

-- An event that stops.
data Stopped : Event → Type 0 where
  stops_at : (n q : ℕ) → Stopped (Stops n q)

module _ (s : List ℕ) where
  -- A name is that of the text itself, which is open, or of no text.
  line_stops : (i : Line) (w : List ℕ) → Stopped (include_by main_open i (find_name s (alone s) w))
  unfolding find_name find_from
  line_stops i w = by (same (bytes_between s 0 (0 + 0)) w)
    where
      by : (b : Bool) → Stopped (include_by main_open i (pick {A = Option (ℕ × ℕ × ℕ)} b (Some (0, 0 + 0, 0 + 0 + length s)) None))
      by true = stops_at 27 i.hash
      by false = stops_at 28 i.hash

  event_stops : (x : Stop) → Stopped (event_by s (alone s) s main_open x)
  unfolding include_of
  event_stops (At n q) = stops_at n q
  event_stops (AtLine i) = line_stops i (bytes_between s i.from i.to)

  -- The text itself, with its origins.
  record Itself (x : Piece) : Type 0 where
    bytes : x.bytes ≡ s
    origins : x.origins ≡ up_from 0 (length s)

  whole : bytes_between s 0 (length s) ≡ s
  whole = let e : length s - 0 ≡ length s = omega arith in ap (λ (n : ℕ). take n s) e ∙ take_all (length s) s (omega arith)

  stopped_itself : (n q : ℕ) → Itself (stopped 0 s 0 n q)
  unfolding stopped origin
  stopped_itself n q = let e : length s - 0 ≡ length s = omega arith in record { bytes = whole; origins = ap (up_from 0) e }

  after_itself : (g : _) (h : ℕ → Piece) (x : Event) → Stopped x → Itself (after_event 0 s 0 g h x)
  after_itself g h x (stops_at n q) = stopped_itself n q

  module _ (t : told_well s (alone s) ≡ true) where
    itself : Itself (expanded s (alone s))
    unfolding expanded event_at
    itself =
        let f = inner (8 - 1) s (alone s) main_open in
        let e : expanded s (alone s) ≡ after_event 0 s 0 f (walk s (alone s) 0 s main_open f) (event_at s (alone s) s main_open 0) =
        ap (λ (x : List ℕ). expand_n 8 s (alone s) 0 x main_open) (main_alone s)
        ∙ expand_law 8 s (alone s) 0 s main_open (λ (z : 8 ≡ 0). absurd (omega arith))
        ∙ walk_law s (alone s) 0 s main_open f 0 t (omega arith) in
        subst Itself (sym e) (after_itself f (walk s (alone s) 0 s main_open f) (event_at s (alone s) s main_open 0) (event_stops (stop_at s 0)))

-- The number i of those from a on.
up_get : (a n i : ℕ) → i < n → get_or (up_from a n) i 0 ≡ a + i
unfolding up_from
up_get a zero i h = absurd (omega (arith, h))
up_get a (suc n) zero h = omega arith
up_get a (suc n) (suc i) h = let g : i < n = omega (arith, h) in let z : suc a + i ≡ a + suc i = omega arith in up_get (suc a) n i g ∙ z

fill_number : (n p e t : ℕ) → ((fill_by 65535 n p e t).number ≡ 30 → ⊥) → (fill_by 65535 n p e t).number ≡ n
unfolding fill_by is_too_long
fill_number n p e t h = by (ltb 65535 t) h
  where
    by : (b : Bool) → ((pick b (is_too_long 65535) (record { number = n; place = p; end = e; total = t })).number ≡ 30 → ⊥)
        → (pick b (is_too_long 65535) (record { number = n; place = p; end = e; total = t })).number ≡ n
    by true g = absurd (g refl)
    by false g = refl

fill_small : (n p e t : ℕ) → n ≤ 29 → (fill_by 65535 n p e t).number ≤ 30
unfolding fill_by is_too_long
fill_small n p e t h = by (ltb 65535 t)
  where
    by : (b : Bool) → (pick b (is_too_long 65535) (record { number = n; place = p; end = e; total = t })).number ≤ 30
    by true = omega arith
    by false = omega (arith, h)

-- The number is small.
if_small : (s : List ℕ) (b : Bool) → told_well s (alone s) ≡ b → (expansion_if b 65535 s (alone s)).number ≤ 30
unfolding expanded fill_of
if_small s false e = omega arith
if_small s true e =
    let x = expanded s (alone s) in
    let g = (good_expand 8 s (alone s) 0 (main_text s (alone s)) main_open e).small in
    fill_small x.number (0 + x.place) (0 + length x.bytes) (0 + length x.bytes + x.rest) g

pub number_small : (s : List ℕ) → (expansion_of s (alone s)).number ≤ 30
unfolding expansion_within
number_small s = if_small s (told_well s (alone s)) refl

module _ (s : List ℕ) (n : (expansion_of s (alone s)).number ≡ 30 → ⊥) where
  well : told_well s (alone s) ≡ true
  well = (within s (alone s) n).told

  -- The number of the expansion is that of the first fault.
  pub number_is : (expansion_of s (alone s)).number ≡ (expanded s (alone s)).number
  unfolding expansion_within fill_of
  number_is =
      let x = expanded s (alone s) in
      let e : (expansion_of s (alone s)).number ≡ (fill_by 65535 x.number (0 + x.place) (0 + length x.bytes) (0 + length x.bytes + x.rest)).number =
      ap (λ (b : Bool). (expansion_if b 65535 s (alone s)).number) well in
      e ∙ fill_number x.number (0 + x.place) (0 + length x.bytes) (0 + length x.bytes + x.rest) (λ z. n (e ∙ z))

  pub text_is : text s (alone s) ≡ s
  text_is = (itself s well).bytes

  -- Places of the text are its own.
  pub place_is : (p : ℕ) → place_of s (alone s) p ≡ min p (length s)
  unfolding place_of place_in
  place_is p =
      ap₂ (λ (g : List ℕ) (x : List ℕ). pick (ltb p (length x)) (get_or g p 0) (length (main_text s (alone s)))) (itself s well).origins text_is
      ∙ ap (λ (x : List ℕ). pick (ltb p (length s)) (get_or (up_from 0 (length s)) p 0) (length x)) (main_alone s)
      ∙ by (dec_lt p (length s))
    where
      by : Dec (p < length s) → pick (ltb p (length s)) (get_or (up_from 0 (length s)) p 0) (length s) ≡ min p (length s)
      by (yes h) =
          let z : 0 + p ≡ min p (length s) = omega (arith, h) in
          ap (λ (b : Bool). pick b (get_or (up_from 0 (length s)) p 0) (length s)) (lt-ltb p (length s) h) ∙ up_get 0 (length s) p h ∙ z
      by (no h) =
          let g : length s ≤ p = omega (arith, h) in
          let z : length s ≡ min p (length s) = omega (arith, g) in
          ap (λ (b : Bool). pick b (get_or (up_from 0 (length s)) p 0) (length s)) (le-ltb p (length s) g) ∙ z

  -- The answer to the text alone is the answer to the text, with 3 renumbered and its places.
  pub alone_answer : (a : Answer) → TheTextsAnswer s a → TheAnswer s (alone s) (placed_answer (place_of s (alone s)) (renumbered (expanded s (alone s)).number a))
  alone_answer a t =
      let q : reading s ≡ a = t.no_other (reading s) (text-answers s) in
      let e : sources_answer s (alone s) ≡ renumbered (expanded s (alone s)).number a =
      is_renumbered s (alone s) n ∙ ap (λ (x : List ℕ). renumbered (expanded s (alone s)).number (reading x)) text_is ∙ ap (renumbered (expanded s (alone s)).number) q in
      let h : Answers s (alone s) (renumbered (expanded s (alone s)).number a) = subst (Answers s (alone s)) e (answers s (alone s)) in
      record { in_expanded = renumbered (expanded s (alone s)).number a; given = h; no_other = λ y j. sym (one_answer j) ∙ one_answer h; placed = refl }
