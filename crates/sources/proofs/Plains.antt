-- The laws of a main text that includes nothing. Assumes nothing.
use Prim.Native.Nat.{ℕ, zero, suc, ◌+◌, ◌-◌, ◌≤◌, ◌<◌, min}
use mathlib.Core.List.{List, [], ◌∷◌, ◌++◌}
use mathlib.Core.Bool.{Bool, true, false, not}
use mathlib.Core.Logic.{◌⊎◌, inl, inr, ⊎_elim}
use mathlib.Core.Path.{◌≡◌, refl, sym, ◌∙◌, ap, subst}
use native.Mathlib.Omega.{arith}
use native.Mathlib.Numerals.{add-one}
use lib.ListN.{length, get_or, take, drop}
use lib.Seq.{take_all}
use lib.Dec.{eqb}
use borrow.Author.Tests.{eqb-false}
use Rattle.token.specs.Find.{pick, both, either, byte}
use Rattle.token.specs.Tokens.{bytes_between, step_at}
use Rattle.token.specs.declared.Step.{Step}
use Rattle.token.specs.declared.Step.TheVariants.{Found, Refused, End}
use Rattle.token.specs.declared.Token.{Token}
use Rattle.token.specs.declared.Cursor.{Cursor}
use Rattle.token.proofs.Bytes.{both_true, both_second, neither_first, neither_second, either_assoc, either_false}
use Rattle.token.proofs.Steps.{found_fits, bad_fits, step_past}
use Rattle.sources.specs.Lines.{after_token, stop_at}
use Rattle.sources.specs.Texts.{told_well, event_by, event_at}
use Rattle.sources.specs.Expanding.{Piece, stopped, up_from, origin, inner, walk, expand_n, main_open, main_text, expanded, fill_by, fill_of, expansion_by, expansion_if, expansion_within, expansion_of}
use Rattle.sources.specs.Plain.{holds, is_plain, expansion_to_read}
use Rattle.sources.specs.Promises.{Puts, Fills, Expands, ExpandsToRead}
use Rattle.sources.specs.declared.Stop.{Stop}
use Rattle.sources.specs.declared.Stop.TheVariants.{At, Line as AtLine}
use Rattle.sources.specs.declared.Event.{Event}
use Rattle.sources.specs.declared.Event.TheVariants.{Stop as Stops, Include as Includes}
use Rattle.sources.specs.declared.Fill.{Fill}
use Rattle.sources.specs.declared.Expansion.{Expansion}
use Rattle.sources.proofs.Singles.{fill_short}
use Rattle.sources.proofs.Tellings.{Fits}
use Rattle.sources.proofs.Stops.{stop_law, stop_end, hash_other, length_between}
use Rattle.sources.proofs.Pieces.{expand_law, stop_piece}
use Rattle.sources.proofs.Fillings.{rest_fills}
use Rattle.sources.proofs.Wholes.{expands, main_fits}

-- ---- whether a byte stands in a text

pub holds_more : (c : ℕ) (s : List ℕ) (i : ℕ) → i < length s → holds c (take (i + 1) s) ≡ either (holds c (take i s)) (eqb (byte s i) c)
unfolding holds
holds_more c [] i h = absurd (omega arith)
holds_more c (x ∷ s) zero h = either_false (eqb x c)
holds_more c (x ∷ s) (suc i) h =
    let k : suc i + 1 ≡ suc (i + 1) = omega arith in
    let e : holds c (take (i + 1) s) ≡ either (holds c (take i s)) (eqb (byte s i) c) = holds_more c s i (omega arith) in
    ap (λ (j : ℕ). holds c (take j (x ∷ s))) k ∙ ap (either (eqb x c)) e ∙ either_assoc (eqb x c) (holds c (take i s)) (eqb (byte s i) c)

pub holds_none : (c : ℕ) (s : List ℕ) → false ≡ holds c (take 0 s)
unfolding holds
holds_none c s = refl

pub holds_next : (c : ℕ) (s : List ℕ) (i : ℕ) (a r : Bool) → i < length s → a ≡ holds c (take i s) → r ≡ either a (eqb (byte s i) c) → r ≡ holds c (take (i + 1) s)
holds_next c s i a r h e f = f ∙ ap (λ (x : Bool). either x (eqb (byte s i) c)) e ∙ sym (holds_more c s i h)

pub holds_all : (c : ℕ) (s : List ℕ) (i : ℕ) → length s ≤ i → holds c (take i s) ≡ holds c s
holds_all c s i h = ap (holds c) (take_all i s h)

none_there : (c : ℕ) (s : List ℕ) → holds c s ≡ false → (i : ℕ) → i < length s → byte s i ≡ c → ⊥
unfolding holds
none_there c [] e i h = absurd (omega arith)
none_there c (x ∷ s) e zero h = eqb-false x c (neither_first (eqb x c) (holds c s) e)
none_there c (x ∷ s) e (suc i) h = none_there c s (neither_second (eqb x c) (holds c s) e) i (omega arith)

-- ---- what stops its tokens: its end, or refusal 3

abbrev Plainly : Stop → Type 0
Plainly (At n q) = (n ≡ 0) ⊎ (n ≡ 3)
Plainly (AtLine i) = ⊥

module _ (s : List ℕ) (e : holds 35 s ≡ false) where
  plain_step : (p : ℕ) (r : Step) → step_at s p ≡ r → ((t : Token) (c : Cursor) → step_at s p ≡ Found t c → Plainly (stop_at s c.at)) → Plainly (after_token r s p (stop_at s))
  plain_step p (Found t c) f k = k t c f
  plain_step p (Refused q) f k =
      let o = bad_fits s p q f in
      subst Plainly (hash_other s p q (none_there 35 s e q o.1)) (inr refl)
  plain_step p (End n) f k = inl refl

  plain_stops : (n p : ℕ) → length s < p + n → Plainly (stop_at s p)
  plain_stops zero p h = subst Plainly (sym (stop_end s p (length s) (step_past s p (omega arith)))) (inl refl)
  plain_stops (suc n) p h =
      subst Plainly (sym (stop_law s p))
      (plain_step p (step_at s p) refl (λ t c f. let o = found_fits s p t c f in plain_stops n c.at (omega arith)))

-- ---- its expansion is the text itself

pub record PlainPiece (b l : List ℕ) : Type 0 where
  pub told : told_well b l ≡ true
  pub number : ℕ
  pub place : ℕ
  pub which : (number ≡ 0) ⊎ (number ≡ 3)
  pub event : event_at b l (main_text b l) main_open 0 ≡ Stops number place
  pub is : expanded b l ≡ stopped 0 (main_text b l) 0 number place
  pub size : length (main_text b l) ≡ get_or l 1 0
  pub short : get_or l 1 0 ≤ 65535

by_stop : (b l : List ℕ) (x : Stop) → told_well b l ≡ true → length (main_text b l) ≡ get_or l 1 0 → get_or l 1 0 ≤ 65535 → stop_at (main_text b l) 0 ≡ x → Plainly x → PlainPiece b l
unfolding event_at expanded
by_stop b l (At n q) t i j e w =
    let f : event_at b l (main_text b l) main_open 0 ≡ Stops n q = ap (event_by b l (main_text b l) main_open) e in
    record {
      told = t;
      number = n;
      place = q;
      which = w;
      event = f;
      is = expand_law 8 b l 0 (main_text b l) main_open (λ z. omega arith) ∙ sym (stop_piece b l 0 (main_text b l) main_open 7 0 n q t (omega arith) f);
      size = i;
      short = j;
    }
by_stop b l (AtLine i) t m j e w = absurd w

no_byte : (a : Bool) → not a ≡ true → a ≡ false
no_byte true e = sym e
no_byte false e = refl

pub plain_piece : (b l : List ℕ) → is_plain b l ≡ true → PlainPiece b l
unfolding is_plain main_text
plain_piece b l e =
    let t = both_true (told_well b l) (not (holds 35 (main_text b l))) e in
    let h = no_byte (holds 35 (main_text b l)) (both_second (told_well b l) (not (holds 35 (main_text b l))) e) in
    let f = main_fits b l t in
    let y = f.name in
    let z = f.text in
    let n = length_between b (get_or l 0 0) (get_or l 0 0 + get_or l 1 0) (omega arith) in
    by_stop b l (stop_at (main_text b l) 0) t (omega arith) f.short refl (plain_stops (main_text b l) h (suc (length (main_text b l))) 0 (omega arith))

pub plain_told : (b l : List ℕ) (a : Bool) → told_well b l ≡ true → a ≡ holds 35 (bytes_between b (get_or l 0 0) (get_or l 0 0 + get_or l 1 0)) → not a ≡ is_plain b l
unfolding is_plain main_text
plain_told b l a t e = ap not e ∙ sym (ap (λ (c : Bool). both c (not (holds 35 (main_text b l)))) t)

pub plain_badly : (b l : List ℕ) → told_well b l ≡ false → false ≡ is_plain b l
unfolding is_plain
plain_badly b l t = sym (ap (λ (c : Bool). both c (not (holds 35 (main_text b l)))) t)

-- it lies in the buffer
pub plain_fits : (b l : List ℕ) → is_plain b l ≡ true → Fits b 0 l 0
plain_fits b l e = main_fits b l (plain_piece b l e).told

pub plain_size : (b l : List ℕ) → is_plain b l ≡ true → length (bytes_between b (get_or l 0 0) (get_or l 0 0 + get_or l 1 0)) ≡ get_or l 1 0
unfolding main_text
plain_size b l e = (plain_piece b l e).size

-- what the copied bytes say
pub copies : (b l o g : List ℕ) (n m : ℕ) (o' g' : List ℕ) (r : ℕ) → is_plain b l ≡ true → n ≡ min 65535 (length o) → m ≡ min 65535 (length g) →
    Puts (bytes_between b (get_or l 0 0) (get_or l 0 0 + get_or l 1 0)) 0 (get_or l 1 0) 0 (take n o) (take m g) 0 o' g' r →
    ExpandsToRead b l o g (o' ++ drop n o) (g' ++ drop m g) (record { number = 3; place = 0; length = r })
unfolding expansion_to_read main_text expanded
copies b l o g n m o' g' r e i j u =
    let w = plain_piece b l e in
    let s = main_text b l in
    let z = w.size in
    let v : Puts s 0 (length s) 0 (take n o) (take m g) 0 o' g' r = subst (λ (k : ℕ). Puts s 0 k 0 (take n o) (take m g) 0 o' g' r) (sym z) u in
    let f = fill_by 65535 w.number (0 + (w.place - 0)) r r in
    let x : Fills 65535 (expand_n 8 b l 0 s main_open) (take n o) (take m g) 0 o' g' f =
    subst (λ (k : Piece). Fills 65535 k (take n o) (take m g) 0 o' g' f) (sym w.is) (rest_fills 65535 s 0 0 w.number w.place (take n o) (take m g) 0 o' g' r f v refl) in
    let y = expands 65535 b l o g n m o' g' f w.told i j x in
    let k : r ≡ length s = let q = v.next in omega arith in
    record {
      result = ap (λ (c : ℕ). record { number = 3; place = 0; length = c }) k ∙ sym (ap (λ (c : Bool). pick c (record { number = 3; place = 0; length = length s }) (expansion_of b l)) e);
      bytes = y.bytes;
      origins = y.origins;
    }

pub expands_to_read : (b l o g o' g' : List ℕ) (r : Expansion) → is_plain b l ≡ false → Expands 65535 b l o g o' g' r → ExpandsToRead b l o g o' g' r
unfolding expansion_to_read
expands_to_read b l o g o' g' r e u =
    record {
      result = u.result ∙ sym (ap (λ (c : Bool). pick c (record { number = 3; place = 0; length = length (main_text b l) }) (expansion_of b l)) e);
      bytes = u.bytes;
      origins = u.origins;
    }

-- ---- what a reader takes from it

-- the expansion itself, and how the answer differs from its own
pub record Exactly (b l o g o' g' : List ℕ) (r : Expansion) : Type 0 where
  pub expands : Expands 65535 b l o g o' g' (expansion_of b l)
  pub size : r.length ≡ (expansion_of b l).length
  pub number : (r.number ≡ (expansion_of b l).number) ⊎ ((r.number ≡ 3) × ((expansion_of b l).number ≡ 0))

pub plain_answer : (b l : List ℕ) (w : PlainPiece b l) → ((expansion_of b l).number ≡ w.number) × ((expansion_of b l).length ≡ length (main_text b l))
unfolding expansion_within fill_of stopped
plain_answer b l w =
    let s = main_text b l in
    let z = w.size in
    let y = w.short in
    let k = length_between s 0 (length s) (omega arith) in
    let c : expansion_of b l ≡ expansion_by (fill_by 65535 w.number (0 + (w.place - 0)) (0 + length (bytes_between s 0 (length s))) (0 + length (bytes_between s 0 (length s)) + 0)) =
    ap (λ (t : Bool). expansion_if t 65535 b l) w.told ∙ ap (λ (x : Piece). expansion_by (fill_of 65535 0 x)) w.is in
    let d = c ∙ ap expansion_by (sym (fill_short 65535 w.number (0 + (w.place - 0)) (0 + length (bytes_between s 0 (length s))) (0 + length (bytes_between s 0 (length s)) + 0) (omega arith))) in
    let h : (expansion_of b l).length ≡ 0 + length (bytes_between s 0 (length s)) = ap (λ (x : Expansion). x.length) d in
    (ap (λ (x : Expansion). x.number) d, omega arith)

by_plain : (b l : List ℕ) (t : Bool) → is_plain b l ≡ t → (r : Expansion) → r ≡ pick t (record { number = 3; place = 0; length = length (main_text b l) }) (expansion_of b l) →
    (r.length ≡ (expansion_of b l).length) × ((r.number ≡ (expansion_of b l).number) ⊎ ((r.number ≡ 3) × ((expansion_of b l).number ≡ 0)))
by_plain b l true e r q =
    let w = plain_piece b l e in
    let a = plain_answer b l w in
    let n : r.number ≡ 3 = ap (λ (x : Expansion). x.number) q in (
      ap (λ (x : Expansion). x.length) q ∙ sym a.1,
      ⊎_elim (λ z. inr (n, a.0 ∙ z)) (λ z. inl (n ∙ sym (a.0 ∙ z))) w.which,
    )
by_plain b l false e r q = (ap (λ (x : Expansion). x.length) q, inl (ap (λ (x : Expansion). x.number) q))

pub exactly : {b l o g o' g' : List ℕ} {r : Expansion} → ExpandsToRead b l o g o' g' r → Exactly b l o g o' g' r
unfolding expansion_to_read
exactly {b} {l} {r = r} u =
    let w = by_plain b l (is_plain b l) refl r u.result in
    record { expands = record { result = refl; bytes = u.bytes; origins = u.origins }; size = w.0; number = w.1 }
