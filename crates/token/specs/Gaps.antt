-- "Space, tab, CR, LF, VT, FF and comments part tokens." A comment that is not ended is an error: its place.
-- Assumes nothing.
use Rattle.std.specs.Prelude.{ℕ, zero, suc, ◌+◌, ◌-◌, List, length, ltb, Option, Some, None, Result, Ok, Err}
use Rattle.token.specs.Find.{pick, byte}
use Rattle.token.specs.declared.scan.Class.{Class}
use Rattle.token.specs.declared.scan.Class.TheVariants.{Letter as letter, Digit as digit, Blank as blank, Sign as plus_minus, Quote as quote, Punctuator as punctuator, Dot as dot, Slash as slash, Other as other}
use Rattle.token.specs.Bytes.{class_of, find_byte, pair_at, find_close}

-- "`/*` ends at the next `*/` after both its bytes, without nesting; `//` ends at LF or at the end of the text."
unfoldable pub comment_at : List ℕ → ℕ → Result (Option ℕ) ℕ
comment_at s p =
    pick (pair_at s p 47 47) (Ok (Some (find_byte 10 s (p + 2))))
    (pick (pair_at s p 47 42)
    (pick (ltb (find_close s (p + 2)) (length s)) (Ok (Some (find_close s (p + 2) + 2))) (Err p))
    (Ok None))

-- what a byte of a class at p begins, as far as it parts tokens
unfoldable pub gap_of : Class → List ℕ → ℕ → Result (Option ℕ) ℕ
gap_of letter s p = Ok None
gap_of digit s p = Ok None
gap_of blank s p = Ok (Some (p + 1))
gap_of plus_minus s p = Ok None
gap_of quote s p = Ok None
gap_of punctuator s p = Ok None
gap_of dot s p = Ok None
gap_of slash s p = comment_at s p
gap_of other s p = Ok None

-- the place after the blank or comment at p, if one stands there
unfoldable pub gap_at : List ℕ → ℕ → Result (Option ℕ) ℕ
gap_at s p = gap_of (class_of (byte s p)) s p

-- past one blank or comment, and then on by k
abbrev pub after_gap : Result (Option ℕ) ℕ → ℕ → (ℕ → Result ℕ ℕ) → Result ℕ ℕ
after_gap (Ok None) p k = Ok p
after_gap (Ok (Some q)) p k = k q
after_gap (Err q) p k = Err q

-- past at most n blanks and comments from p on
unfoldable pub skip_n : ℕ → List ℕ → ℕ → Result ℕ ℕ
skip_n zero s p = Ok p
skip_n (suc n) s p = after_gap (gap_at s p) p (λ q. skip_n n s q)

-- past all blanks and comments from p on: there are no more than bytes
unfoldable pub skip : List ℕ → ℕ → Result ℕ ℕ
skip s p = skip_n (length s - p) s p
