-- Document 02, Q-10: what the expanded text is: "Expansion, and so normal text, puts the included bytes and an LF in the stead of the line and its LF."
-- `expanded` (crates/sources/specs/Expanding.antt) computes it, and is the only piece that this allows (proofs/Expanding, `expansions`).
-- Assumes nothing.
use Rattle.std.specs.Prelude.{◌≡◌, List, true, ℕ, suc, ◌-◌, length, set}
use Rattle.token.specs.Tokens.{bytes_between}
use Rattle.sources.specs.Texts.{told_well, event_at}
use Rattle.sources.specs.Expanding.{Piece, origin, onto, onto_part, stopped, onto_end, with_rest, main_open, main_text, expanded}
use Rattle.sources.specs.declared.Include.{Include}
use Rattle.sources.specs.declared.Event.TheVariants.{Stop as Stops, Include as Includes}

-- Text k of the buffer b with lengths l has the bytes s; o has 1 for each open text. From place p on it expands to a piece.
pub data Expands (b l : List ℕ) : List ℕ → ℕ → List ℕ → ℕ → Piece → Type 0 where
  -- No include line is left, or a fault of 3 and 27 to 29 comes first: the rest as it stands, "from the first 3 or 27 to 29 on, lines stay unexpanded".
  as_it_stands : (o : List ℕ) (k : ℕ) (s : List ℕ) (p n q : ℕ) → event_at b l s o p ≡ Stops n q → Expands b l o k s p (stopped k s p n q)
  -- An include line of a text without a fault: what stands before the line, the included text, an LF, and what follows the line and its LF.
  with_text : (o : List ℕ) (k : ℕ) (s : List ℕ) (p : ℕ) (i : Include) (x y : Piece) → event_at b l s o p ≡ Includes i →
      Expands b l (set o i.number 1) i.number (bytes_between b i.from i.to) 0 x → x.number ≡ 0 → Expands b l o k s i.after y →
      Expands b l o k s p (onto_part k s p i.start (onto x.bytes x.origins (onto_end (origin k i.hash) y)))
  -- An include line of a text with a fault: nothing is read after it, and the LF and what follows the line count as they stand.
  with_fault : (o : List ℕ) (k : ℕ) (s : List ℕ) (p : ℕ) (i : Include) (x : Piece) → event_at b l s o p ≡ Includes i →
      Expands b l (set o i.number 1) i.number (bytes_between b i.from i.to) 0 x → (x.number ≡ 0 → ⊥) →
      Expands b l o k s p (onto_part k s p i.start (with_rest (suc (length s - i.after)) x))

-- THE STATEMENT: lent texts that are told well expand to `expanded`, and to nothing else.
pub record ExpandsOnly (b l : List ℕ) : Type 0 where
  pub expands : Expands b l main_open 0 (main_text b l) 0 (expanded b l)
  pub only : (x : Piece) → Expands b l main_open 0 (main_text b l) 0 x → x ≡ expanded b l

abbrev pub Expansions : Type 0
Expansions = (b l : List ℕ) → told_well b l ≡ true → ExpandsOnly b l
