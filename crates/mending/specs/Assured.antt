-- What holds of every text that is mended (document 02, Q-11). Assumes nothing.
use Rattle.std.specs.Prelude.{◌≡◌, List, [], ◌∷◌, ◌++◌, ℕ, ◌+◌, ◌≤◌, ◌<◌, length, take, drop}
use Rattle.meaning.specs.Answers.{Tables, accepted}
use Rattle.meaning.specs.Rules.{TheAnswer}
use Rattle.dropping.specs.Drops.{Drop}
use Rattle.mending.specs.Pieces.{Dropped, Piece, keeps, drops, pieces, number_at}
use Rattle.mending.specs.Results.{mend_text}
use Rattle.mending.specs.Answered.{done_at}

-- The rules accept the text.
pub record Accepts (s : List ℕ) : Type 0 where
  pub tables : Tables
  pub answer : TheAnswer s (accepted tables)

-- What is written is accepted when it is read again. proofs/Again has `written_accepted`.
abbrev pub WrittenAccepted : Type 0
WrittenAccepted = (s g l k : List ℕ) (n c : ℕ) → (mend_text s g l k).result ≡ done_at n c → Accepts (take n (mend_text s g l k).text)

-- An accepted text is mended to itself, with no line. proofs/Again has `accepted_stays`.
abbrev pub AcceptedStays : Type 0
AcceptedStays = (s : List ℕ) → Accepts s → (g l k : List ℕ) → length s ≤ length l
    → mend_text s g l k ≡ record { result = done_at (length s) 0; text = s ++ drop (length s) l; lines = k }

-- So mending a mended text changes nothing. proofs/Again has `mended_stays`.
abbrev pub MendedStays : Type 0
MendedStays = (s g l k : List ℕ) (n c : ℕ) → (mend_text s g l k).result ≡ done_at n c → (g₁ l₁ k₁ : List ℕ) → length (take n (mend_text s g l k).text) ≤ length l₁
    → mend_text (take n (mend_text s g l k).text) g₁ l₁ k₁
    ≡ record {
      result = done_at (length (take n (mend_text s g l k).text)) 0;
      text = take n (mend_text s g l k).text ++ drop (length (take n (mend_text s g l k).text)) l₁;
      lines = k₁;
    }

-- The pieces ps follow one another from place p to n: each byte between is one that is kept, or lies in one that is dropped, and no byte is in two.
pub data Follow (n : ℕ) : List Piece → ℕ → Type 0 where
  at_end : Follow n [] n
  byte_kept : {p : ℕ} {ps : List Piece} → Follow n ps (p + 1) → Follow n (keeps p ∷ ps) p
  span_dropped : {x : Dropped} {ps : List Piece} → 0 < x.length → Follow n ps (x.place + x.length) → Follow n (drops x ∷ ps) x.place

-- Every byte outside the drops is kept, in order. proofs/Again has `pieces_follow`.
abbrev pub PiecesFollow : Type 0
PiecesFollow = (s : List ℕ) (ds : List Drop) → Follow (length s) (pieces s (number_at ds) 0) 0
