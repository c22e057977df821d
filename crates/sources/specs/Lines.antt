-- Document 02, Q-10: what an include line is, and what stops the tokens of one text: "Accept, outside strings and comments, a line holding only
-- `#include` and a file in quotes or angle brackets, spaces, tabs, CR and comments wholly on it aside."
-- A line is the list of its bytes, without its LF.
-- Assumes nothing.
use Rattle.std.specs.Prelude.{ℕ, zero, suc, ◌+◌, ◌-◌, List, Bool, true, false, length, take, leb, ltb, eqb, Option, Some, None}
use Rattle.token.specs.Find.{pick, both, either, byte}
use Rattle.token.specs.Bytes.{find_byte, pair_at, find_close}
use Rattle.token.specs.Words.{bytes_of, same}
use Rattle.token.specs.Tokens.{bytes_between, step_at}
use Rattle.token.specs.declared.Step.{Step}
use Rattle.token.specs.declared.Step.TheVariants.{Found, Refused, End}
use Rattle.sources.specs.declared.Stop.{Stop}
use Rattle.sources.specs.declared.Stop.TheVariants.{At, Line as AtLine}

-- "spaces, tabs, CR"
unfoldable pub is_aside : ℕ → Bool
is_aside b = either (eqb b 32) (either (eqb b 9) (eqb b 13))

-- the place after the space, tab, CR or "comment wholly on it" at a place of a line; the place itself where none is
unfoldable pub aside_at : List ℕ → ℕ → ℕ
aside_at l i =
    pick (is_aside (byte l i)) (i + 1)
    (pick (pair_at l i 47 47) (length l)
    (pick (both (pair_at l i 47 42) (ltb (find_close l (i + 2)) (length l))) (find_close l (i + 2) + 2) i))

-- on by k from the place j after what is set aside at i, or i itself
abbrev pub on_aside : Bool → ℕ → ℕ → (ℕ → ℕ) → ℕ
on_aside true i j k = i
on_aside false i j k = k j

-- past at most n of them
unfoldable pub aside_n : ℕ → List ℕ → ℕ → ℕ
aside_n zero l i = i
aside_n (suc n) l i = on_aside (eqb (aside_at l i) i) i (aside_at l i) (λ j. aside_n n l j)

-- past all of them: there are no more than bytes
unfoldable pub aside : List ℕ → ℕ → ℕ
aside l i = aside_n (length l - i) l i

-- the name from after o up to the next byte b, if only what is set aside follows
unfoldable pub closing : List ℕ → ℕ → ℕ → Option (ℕ × ℕ)
closing l o b =
    pick (both (ltb (find_byte b l (o + 1)) (length l)) (eqb (aside l (find_byte b l (o + 1) + 1)) (length l)))
    (Some (o + 1, find_byte b l (o + 1))) None

-- "a file in quotes or angle brackets"
unfoldable pub quoted : List ℕ → ℕ → Option (ℕ × ℕ)
quoted l o = pick (eqb (byte l o) 34) (closing l o 34) (pick (eqb (byte l o) 60) (closing l o 62) None)

-- the file's name on a line that holds only `#include`, the `#` at h, and a file
unfoldable pub named : List ℕ → ℕ → Option (ℕ × ℕ)
named l h =
    pick (both (eqb (aside l 0) h) (same (bytes_between l h (h + 8)) (bytes_of "#include"))) (quoted l (aside l (h + 8))) None

-- where the line begins that p is on: after the last LF before p
unfoldable pub line_start : List ℕ → ℕ → ℕ
line_start s zero = 0
line_start s (suc p) = let r = line_start s p in pick (eqb (byte s p) 10) (suc p) r

-- a name, moved by the place a
unfoldable pub moved_name : ℕ → Option (ℕ × ℕ) → Option (ℕ × ℕ)
moved_name a (Some (f, t)) = Some (a + f, a + t)
moved_name a None = None

-- the file's name on the include line of the `#` at h, by its places in the text s
unfoldable pub name_at : List ℕ → ℕ → Option (ℕ × ℕ)
name_at s h =
    pick (ltb h (length s)) (moved_name (line_start s h) (named (bytes_between s (line_start s h) (find_byte 10 s h)) (h - line_start s h))) None

abbrev pub is_end : Step → Bool
is_end (Found t c) = false
is_end (Refused q) = false
is_end (End n) = true

-- from p to the end of a text are only blanks and ended comments
unfoldable pub whole_to : List ℕ → ℕ → Bool
whole_to s p = is_end (step_at s p)

-- the place after the line's end e and its LF; a last line may have none
unfoldable pub after_line : List ℕ → ℕ → ℕ
after_line s e = pick (ltb e (length s)) (e + 1) e

-- an include line of a name, from a to e, with its `#` at h
abbrev pub line_by : List ℕ → ℕ → ℕ → ℕ → Option (ℕ × ℕ) → Stop
line_by s h a e (Some (f, t)) = AtLine (record { hash = h; start = a; from = a + f; to = a + t; after = after_line s e })
line_by s h a e None = At 29 h

-- the `#` at h, with only blanks and comments between p and it: no token and no comment reaches into its line, and the line is an include line;
-- "29: any other `#` where a token could start"
unfoldable pub line_of : List ℕ → ℕ → ℕ → Stop
line_of s p h =
    pick (both (leb p (line_start s h)) (whole_to (take (line_start s h) s) p))
    (line_by s h (line_start s h) (find_byte 10 s h) (named (bytes_between s (line_start s h) (find_byte 10 s h)) (h - line_start s h)))
    (At 29 h)

-- where no token is at q, with only blanks and comments between p and it
unfoldable pub hash_at : List ℕ → ℕ → ℕ → Stop
hash_at s p q = pick (eqb (byte s q) 35) (line_of s p q) (At 3 q)

-- what a step from p found: a token, and then on by k; or what stops
abbrev pub after_token : Step → List ℕ → ℕ → (ℕ → Stop) → Stop
after_token (Found t c) s p k = k c.at
after_token (Refused q) s p k = hash_at s p q
after_token (End n) s p k = At 0 (length s)

-- what stops at most n steps from p on
unfoldable pub stop_n : ℕ → List ℕ → ℕ → Stop
stop_n zero s p = At 0 (length s)
stop_n (suc n) s p = after_token (step_at s p) s p (λ q. stop_n n s q)

-- what stops the tokens of a text from p on: the end, refusal 3, an include line, or another `#`
unfoldable pub stop_at : List ℕ → ℕ → Stop
stop_at s p = stop_n (suc (length s - p)) s p
