-- A lent text by its number, and a part of it: "only the call that hands back a part counts one text's own" bytes. Assumes nothing.
use Rattle.std.specs.Prelude.{ℕ, zero, suc, ◌+◌, List, [], ◌∷◌, Bool, true, false, Option, Some, None}
use Rattle.token.specs.Tokens.{bytes_between}
use Rattle.sources.specs.Texts.{told_well}

-- text k of those whose names and texts begin at a, told as text n
unfoldable pub span_from : ℕ → ℕ → List ℕ → ℕ → Option (ℕ × ℕ × ℕ)
span_from n a [] k = None
span_from n a (x ∷ []) k = None
span_from n a (x ∷ t ∷ l) zero = Some (n, a + x, a + x + t)
span_from n a (x ∷ t ∷ l) (suc k) = span_from n (a + x + t) l k

unfoldable pub span_of : List ℕ → ℕ → Option (ℕ × ℕ × ℕ)
span_of l n = span_from n 0 l n

-- the bytes of a text that was found, none where there is no such text
unfoldable pub bytes_at : List ℕ → Option (ℕ × ℕ × ℕ) → List ℕ
bytes_at b (Some (n, f, t)) = bytes_between b f t
bytes_at b None = []

-- where it begins in the buffer; at the buffer's start where there is no such text
unfoldable pub start_at : Option (ℕ × ℕ × ℕ) → ℕ
start_at (Some (n, f, t)) = f
start_at None = 0

-- the same of text n of the buffer b with lengths l, none where they are not lent as they have to be
abbrev pub bytes_if : Bool → List ℕ → Option (ℕ × ℕ × ℕ) → List ℕ
bytes_if true b h = bytes_at b h
bytes_if false b h = []

abbrev pub start_if : Bool → Option (ℕ × ℕ × ℕ) → ℕ
start_if true h = start_at h
start_if false h = 0

unfoldable pub text_bytes : List ℕ → List ℕ → ℕ → List ℕ
text_bytes b l n = bytes_if (told_well b l) b (span_of l n)

unfoldable pub text_start : List ℕ → List ℕ → ℕ → ℕ
text_start b l n = start_if (told_well b l) (span_of l n)
