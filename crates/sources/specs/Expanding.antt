-- The expanded text: "Expansion, and so normal text, puts the included bytes and an LF in the stead of the line and its LF."
-- Assumes nothing.
use Rattle.std.specs.Prelude.{ℕ, zero, suc, ◌+◌, ◌-◌, ◌*◌, List, [], ◌∷◌, ◌++◌, Bool, true, false, length, get_or, set, ltb, eqb}
use Rattle.token.specs.Find.{pick}
use Rattle.token.specs.Tokens.{bytes_between}
use Rattle.sources.specs.Texts.{told_well, event_at}
use Rattle.sources.specs.declared.Include.{Include}
use Rattle.sources.specs.declared.Event.{Event}
use Rattle.sources.specs.declared.Event.TheVariants.{Stop, Include as Includes}
use Rattle.sources.specs.declared.Fill.{Fill}
use Rattle.sources.specs.declared.Expansion.{Expansion}

-- A piece of the expanded text: its bytes, and the origin of each; the first fault of 3 and 27 to 29 in it, number 0 where there is none; where in
-- the piece that stands, the piece's length where there is none; and how many bytes stay unexpanded after the end of the text with the fault.
pub record Piece : Type 0 where
  pub bytes : List ℕ
  pub origins : List ℕ
  pub number : ℕ
  pub place : ℕ
  pub rest : ℕ

-- the n numbers from a on
unfoldable pub up_from : ℕ → ℕ → List ℕ
up_from a zero = []
up_from a (suc n) = a ∷ up_from (suc a) n

-- the origin of byte p of text k
unfoldable pub origin : ℕ → ℕ → ℕ
origin k p = k * 65536 + p

-- bytes with their origins, before a piece
unfoldable pub onto : List ℕ → List ℕ → Piece → Piece
onto f g x = record { bytes = f ++ x.bytes; origins = g ++ x.origins; number = x.number; place = length f + x.place; rest = x.rest }

-- the bytes of text k from p to e, before a piece
unfoldable pub onto_part : ℕ → List ℕ → ℕ → ℕ → Piece → Piece
onto_part k s p e x = onto (bytes_between s p e) (up_from (origin k p) (e - p)) x

-- nothing more
unfoldable pub nothing : Piece
nothing = record { bytes = []; origins = []; number = 0; place = 0; rest = 0 }

-- text k from p to its end, with a fault at q, or none at its end: "from the first 3 or 27 to 29 on, lines stay unexpanded". What is read ends
-- with the text that has the fault: "No token or comment crosses a text's end."
unfoldable pub stopped : ℕ → List ℕ → ℕ → ℕ → ℕ → Piece
stopped k s p n q = record { bytes = bytes_between s p (length s); origins = up_from (origin k p) (length s - p); number = n; place = q - p; rest = 0 }

-- an LF in place of the line, before the piece that follows
unfoldable pub onto_end : ℕ → Piece → Piece
onto_end o x = onto (10 ∷ []) (o ∷ []) x

-- a piece with a fault, where n bytes more stay unexpanded
unfoldable pub with_rest : ℕ → Piece → Piece
with_rest n x = record { bytes = x.bytes; origins = x.origins; number = x.number; place = x.place; rest = x.rest + n }

-- an included text x, without or with a fault, the LF at origin o and what follows by k, or the n bytes that follow
abbrev pub included_by : Bool → ℕ → ℕ → Piece → (ℕ → Piece) → ℕ → Piece
included_by true o n x k a = onto x.bytes x.origins (onto_end o (k a))
included_by false o n x k a = with_rest (suc n) x

unfoldable pub included : ℕ → ℕ → Piece → (ℕ → Piece) → ℕ → Piece
included o n x k a = included_by (eqb x.number 0) o n x k a

-- what comes next in text k from p on, with the texts that it includes by g, and what follows by h
abbrev pub after_event : ℕ → List ℕ → ℕ → (Include → Piece) → (ℕ → Piece) → Event → Piece
after_event k s p g h (Stop n q) = stopped k s p n q
after_event k s p g h (Includes i) =
    onto_part k s p i.start (included (origin k i.hash) (length s - i.after) (g i) h i.after)

-- text k from p on, at most n include lines, with the texts that it includes by g
unfoldable pub walk_n : ℕ → List ℕ → List ℕ → ℕ → List ℕ → List ℕ → (Include → Piece) → ℕ → Piece
walk_n zero b l k s o g p = nothing
walk_n (suc n) b l k s o g p = after_event k s p g (λ q. walk_n n b l k s o g q) (event_at b l s o p)

-- text k from p on, with the texts that it includes by g: there are no more include lines than bytes
unfoldable pub walk : List ℕ → List ℕ → ℕ → List ℕ → List ℕ → (Include → Piece) → ℕ → Piece
walk b l k s o g p = walk_n (suc (length s - p)) b l k s o g p

-- a text of the buffer b with lengths l: text k with the bytes s, expanded; o has 1 for each open text. At most d texts are opened one inside the
-- other: a text is not opened while it is open, so eight are enough.
unfoldable pub expand_n : ℕ → List ℕ → List ℕ → ℕ → List ℕ → List ℕ → Piece
expand_n zero b l k s o = nothing
expand_n (suc d) b l k s o =
    walk b l k s o (λ i. expand_n d b l i.number (bytes_between b i.from i.to) (set o i.number 1)) 0

-- an included text, expanded
unfoldable pub inner : ℕ → List ℕ → List ℕ → List ℕ → Include → Piece
inner d b l o i = expand_n d b l i.number (bytes_between b i.from i.to) (set o i.number 1)

-- the texts that are open while the main text alone is
abbrev pub main_open : List ℕ
main_open = 1 ∷ 0 ∷ 0 ∷ 0 ∷ 0 ∷ 0 ∷ 0 ∷ 0 ∷ []

-- the main text's bytes
unfoldable pub main_text : List ℕ → List ℕ → List ℕ
main_text b l = bytes_between b (get_or l 0 0) (get_or l 0 0 + get_or l 1 0)

-- the main text, expanded
unfoldable pub expanded : List ℕ → List ℕ → Piece
expanded b l = expand_n 8 b l 0 (main_text b l) main_open

-- Where the expanded text ends that is filled up to a and goes on with a piece, where it may have at most max bytes: "over 65,535 bytes .. after
-- expansion" is refusal 30. What stays unexpanded counts, and the text is not read at all where it is too long.
unfoldable pub is_too_long : ℕ → Fill
is_too_long max = record { number = 30; place = 0; end = 0; total = max + 1 }

unfoldable pub fill_by : ℕ → ℕ → ℕ → ℕ → ℕ → Fill
fill_by max n p e t = pick (ltb max t) (is_too_long max) (record { number = n; place = p; end = e; total = t })

unfoldable pub fill_of : ℕ → ℕ → Piece → Fill
fill_of max a x = fill_by max x.number (a + x.place) (a + length x.bytes) (a + length x.bytes + x.rest)

-- the answer of the expansion, of a filled text; and of texts that are not lent as they have to be
abbrev pub expansion_by : Fill → Expansion
expansion_by f = record { number = f.number; place = f.place; length = f.end }

abbrev pub expansion_if : Bool → ℕ → List ℕ → List ℕ → Expansion
expansion_if true max b l = expansion_by (fill_of max 0 (expanded b l))
expansion_if false max b l = record { number = 30; place = 0; length = 0 }

-- the texts of the buffer b with lengths l, expanded to at most max bytes
unfoldable pub expansion_within : ℕ → List ℕ → List ℕ → Expansion
expansion_within max b l = expansion_if (told_well b l) max b l

-- as a reader expands them: to at most 65,535 bytes
abbrev pub expansion_of : List ℕ → List ℕ → Expansion
expansion_of b l = expansion_within 65535 b l
