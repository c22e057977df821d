-- What the functions that fill the expanded text promise. Assumes nothing.
use Rattle.std.specs.Prelude.{◌≡◌, List, [], ◌∷◌, Bool, true, false, ℕ, ◌+◌, ◌-◌, ◌*◌, ◌≤◌, ◌<◌, length, get_or, take, drop, ◌++◌, eqb}
use Rattle.std.proofs.lemmas.List.Edits.{sets}
use Rattle.token.specs.Find.{pick}
use Rattle.token.specs.Tokens.{bytes_between}
use Rattle.sources.specs.Texts.{told_well}
use Rattle.sources.specs.Expanding.{Piece, up_from, origin, is_too_long, fill_of, expanded, expansion_within}
use Rattle.sources.specs.Notes.{Noted, AllNoted}
use Rattle.sources.specs.Plain.{expansion_to_read}
use Rattle.sources.specs.declared.Line.{Line}
use Rattle.sources.specs.declared.Frame.{Frame}
use Rattle.sources.specs.declared.Spot.{Spot}
use Rattle.sources.specs.declared.Fill.{Fill}
use Rattle.std.specs.declared.ops.ControlFlow.{ControlFlow}
use Rattle.std.specs.declared.ops.ControlFlow.TheVariants.{Continue, Break}
use Rattle.sources.specs.declared.Expansion.{Expansion}

-- The bytes of text k from p to e, with their origins, at a.
pub record Puts (s : List ℕ) (p e k : ℕ) (o g : List ℕ) (a : ℕ) (o' g' : List ℕ) (r : ℕ) : Type 0 where
  pub next : r ≡ a + (e - p)
  pub bytes : o' ≡ sets o a (bytes_between s p e)
  pub origins : g' ≡ sets g a (up_from (origin k p) (e - p))

-- A piece, at a, where at most max bytes are filled.
pub record Fills (max : ℕ) (x : Piece) (o g : List ℕ) (a : ℕ) (o' g' : List ℕ) (r : Fill) : Type 0 where
  pub result : r ≡ fill_of max a x
  pub bytes : o' ≡ sets o a x.bytes
  pub origins : g' ≡ sets g a x.origins

-- A piece x at a goes on with a piece y at c.
pub record Goes (max : ℕ) (x : Piece) (o g : List ℕ) (a : ℕ) (y : Piece) (o' g' : List ℕ) (c : ℕ) : Type 0 where
  pub result : fill_of max a x ≡ fill_of max c y
  pub bytes : sets o a x.bytes ≡ sets o' c y.bytes
  pub origins : sets g a x.origins ≡ sets g' c y.origins
  pub room : c ≤ max

-- What the functions ask: texts lent as they have to be, one of their numbers, notes of all of them, no more memory than is filled, and a place
-- that is not past it.
pub record Asks (b l t : List ℕ) (f : Frame) (o g : List ℕ) (a : ℕ) : Type 0 where
  pub told : told_well b l ≡ true
  pub number : f.number < 8
  pub limit : f.limit ≤ 1000000
  pub bytes : length o ≤ f.limit
  pub origins : length g ≤ f.limit
  pub place : a ≤ f.limit
  pub notes : length t ≡ 52432
  pub noted : AllNoted b l t 8

-- And of a text: it is short, p lies in it, and what comes next is noted from there on.
pub record AsksFrom (b l t s : List ℕ) (k p : ℕ) : Type 0 where
  pub short : length s ≤ 65535
  pub inside : p ≤ length s
  pub noted : Noted b l t k s p

-- An LF at a, of the origin c, and on at q, unless there is no room for it.
pub record EndsLine (max a q c : ℕ) (o g o' g' : List ℕ) (r : ControlFlow Fill (ℕ × ℕ)) : Type 0 where
  pub next : r ≡ pick (eqb a max) (Break (is_too_long max)) (Continue (q, a + 1))
  pub bytes : o' ≡ sets o a (10 ∷ [])
  pub origins : g' ≡ sets g a (c ∷ [])

-- What `include_of` asks: an include line's name lies in the text.
pub record AsksName (b l s : List ℕ) (i : Line) : Type 0 where
  pub told : told_well b l ≡ true
  pub low : i.from ≤ i.to
  pub high : i.to ≤ length s

-- What `note_text` asks: text k of those that are lent as they have to be, and room for the notes of eight.
pub record AsksNotes (b l s : List ℕ) (k : ℕ) (t : List ℕ) : Type 0 where
  pub told : told_well b l ≡ true
  pub short : length s ≤ 65535
  pub number : k < 8
  pub room : length t ≡ 52432

-- Text k is noted, and what is noted of those before it stays.
pub record NotesText (b l s : List ℕ) (k : ℕ) (t t' : List ℕ) : Type 0 where
  pub noted : Noted b l t' k s 0
  pub kept : (j : ℕ) → j < k * 6554 → get_or t' j 0 ≡ get_or t j 0

-- One step of a text of n bytes from p on, w being the piece from each place on, and N what is known of each place at which it goes on.
unfoldable pub Steps : ℕ → (ℕ → Piece) → (ℕ → Type 0) → ℕ → ℕ → List ℕ → List ℕ → ℕ → List ℕ → List ℕ → ControlFlow Fill (ℕ × ℕ) → Type 0
Steps max w N n p o g a o' g' (Continue (q, c)) = (p < q) × (q ≤ n) × N q × Goes max (w p) o g a (w q) o' g' c
Steps max w N n p o g a o' g' (Break f) = Fills max (w p) o g a o' g' f

-- The lent memory afterwards: max bytes or cells have room.
abbrev pub filled : Bool → ℕ → List ℕ → List ℕ → List ℕ
filled true max o x = sets (take max o) 0 x ++ drop max o
filled false max o x = o

-- The whole call.
pub record Expands (max : ℕ) (b l o g o' g' : List ℕ) (r : Expansion) : Type 0 where
  pub result : r ≡ expansion_within max b l
  pub bytes : o' ≡ filled (told_well b l) max o (expanded b l).bytes
  pub origins : g' ≡ filled (told_well b l) max g (expanded b l).origins

-- The same for a reader.
pub record ExpandsToRead (b l o g o' g' : List ℕ) (r : Expansion) : Type 0 where
  pub result : r ≡ expansion_to_read b l
  pub bytes : o' ≡ filled (told_well b l) 65535 o (expanded b l).bytes
  pub origins : g' ≡ filled (told_well b l) 65535 g (expanded b l).origins
