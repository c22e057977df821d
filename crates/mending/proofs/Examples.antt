-- Texts that are mended, and texts that are not, by computation. Assumes nothing.
use mathlib.Core.Path.{◌≡◌, refl}
use mathlib.Core.List.{List, [], ◌∷◌, ◌++◌}
use Prim.Native.Nat.{ℕ, zero, suc}
use lib.ListN.{replicate}
use Rattle.token.specs.Words.{bytes_of}
use Rattle.meaning.proofs.Everything.{everything}
use Rattle.placing.specs.Placed.{is_at_start}
use Rattle.dropping.specs.Drops.{drop_if, stated_again, or_inside, dropped as dropped-by, drops, drops_of, all_drops}
use Rattle.mending.specs.Ends.{punctuator_of, open_after, is_last, end_by, end_in, end_from, end_of}
use Rattle.mending.specs.Pieces.{piece_at, next_place, pieces_in, pieces, kept_of, dropped_of, bytes_at, field, line, lines, number_or, number_at, kept, dropped, mended, back}
use Rattle.mending.specs.Results.{left, place_back, written, by_answer, mend_by, or_refused, mend_parsed, mend_text}
use Rattle.mending.specs.Answered.{refused_at, not_mended_at, done_at}

-- The origins of the main text's bytes.
unfoldable up_from : ℕ → ℕ → List ℕ
up_from a zero = []
up_from a (suc n) = a ∷ up_from (suc a) n

unfoldable all : Unit {0}
unfolding everything up_from is_at_start drop_if stated_again or_inside dropped-by drops drops_of all_drops punctuator_of open_after is_last end_by end_in end_from end_of piece_at next_place pieces_in pieces kept_of dropped_of bytes_at field line lines number_or number_at kept dropped mended back left place_back written by_answer mend_by or_refused mend_parsed mend_text
all = tt

-- Nothing to drop: the text itself, and no line.
nothing : mend_text (bytes_of "OIL_VERSION=\"2.5\";IMPLEMENTATION m{};CPU c{OS o;APPMODE a;};") (up_from 0 60) (replicate 61 9) (replicate 1 9)
    ≡ record { result = done_at 60 0; text = bytes_of "OIL_VERSION=\"2.5\";IMPLEMENTATION m{};CPU c{OS o;APPMODE a;};" ++ (9 ∷ []); lines = 9 ∷ [] }
unfolding all
nothing = refl

-- 13: the name is not defined in its scope. What stands around the statement stays.
thirteen : mend_text (bytes_of "OIL_VERSION=\"2.5\";IMPLEMENTATION m{};CPU c{OS o{ /*y*/ X = 1; };APPMODE a;};") (up_from 0 76) (replicate 71 9) (replicate 11 9)
    ≡ record { result = done_at 70 10; text = bytes_of "OIL_VERSION=\"2.5\";IMPLEMENTATION m{};CPU c{OS o{ /*y*/  };APPMODE a;};" ++ (9 ∷ []); lines = bytes_of "0\t55\t6\t13\n" ++ (9 ∷ []) }
unfolding all
thirteen = refl

-- 14: a single attribute stated again in its block, here in another part of its object.
fourteen : mend_text (bytes_of "OIL_VERSION=\"2.5\";IMPLEMENTATION m{OS{UINT32 A;};};CPU c{OS o{A=1;};APPMODE a;OS o{A=2;};};") (up_from 0 91) (replicate 88 9) (replicate 11 9)
    ≡ record { result = done_at 87 10; text = bytes_of "OIL_VERSION=\"2.5\";IMPLEMENTATION m{OS{UINT32 A;};};CPU c{OS o{A=1;};APPMODE a;OS o{};};" ++ (9 ∷ []); lines = bytes_of "0\t83\t4\t14\n" ++ (9 ∷ []) }
unfolding all
fourteen = refl

-- What stands in the braces of a dropped statement is not dropped by itself.
nested : mend_text (bytes_of "OIL_VERSION=\"2.5\";IMPLEMENTATION m{};CPU c{OS o{X=y{Y=2;Z=w{W=4;};}:\"d\";};APPMODE a;};") (up_from 0 86) (replicate 63 9) (replicate 12 9)
    ≡ record { result = done_at 62 11; text = bytes_of "OIL_VERSION=\"2.5\";IMPLEMENTATION m{};CPU c{OS o{};APPMODE a;};" ++ (9 ∷ []); lines = bytes_of "0\t48\t24\t13\n" ++ (9 ∷ []) }
unfolding all
nested = refl

-- A 15 is left: the refusal of the mended text, with its place in the original.
fifteen : mend_text (bytes_of "OIL_VERSION=\"2.5\";IMPLEMENTATION m{OS{UINT32 A;};};CPU c{OS o{X=1;A=\"s\";};APPMODE a;};") (up_from 0 86) (replicate 5 9) (replicate 5 9)
    ≡ left (not_mended_at 15 68) (replicate 5 9) (replicate 5 9)
unfolding all
fifteen = refl

-- 14 and 15 at once: it is dropped.
both : mend_text (bytes_of "OIL_VERSION=\"2.5\";IMPLEMENTATION m{OS{UINT32 A;};};CPU c{OS o{A=1;A=AUTO;};APPMODE a;};") (up_from 0 87) (replicate 81 9) (replicate 11 9)
    ≡ record { result = done_at 80 10; text = bytes_of "OIL_VERSION=\"2.5\";IMPLEMENTATION m{OS{UINT32 A;};};CPU c{OS o{A=1;};APPMODE a;};" ++ (9 ∷ []); lines = bytes_of "0\t66\t7\t14\n" ++ (9 ∷ []) }
unfolding all
both = refl

-- 16 in the mended text, at the object's name.
sixteen : mend_text (bytes_of "OIL_VERSION=\"2.5\";IMPLEMENTATION m{OS{UINT32 A;};};CPU c{OS o{X=1;};APPMODE a;};") (up_from 0 80) (replicate 5 9) (replicate 5 9)
    ≡ left (not_mended_at 16 60) (replicate 5 9) (replicate 5 9)
unfolding all
sixteen = refl

-- A fault of a stage before 13: the text's own refusal.
earlier : mend_text (bytes_of "OIL_VERSION=\"2.5\";IMPLEMENTATION m{};CPU c{OS o{X=1;};};") (up_from 0 56) (replicate 5 9) (replicate 5 9)
    ≡ left (refused_at 17 41) (replicate 5 9) (replicate 5 9)
unfolding all
earlier = refl

-- An output one byte too short.
short_text : mend_text (bytes_of "OIL_VERSION=\"2.5\";IMPLEMENTATION m{};CPU c{OS o{X=1;};APPMODE a;};") (up_from 0 66) (replicate 61 9) (replicate 10 9)
    ≡ left (not_mended_at 20 0) (replicate 61 9) (replicate 10 9)
unfolding all
short_text = refl

-- The other one too.
short_lines : mend_text (bytes_of "OIL_VERSION=\"2.5\";IMPLEMENTATION m{};CPU c{OS o{X=1;};APPMODE a;};") (up_from 0 66) (replicate 62 9) (replicate 9 9)
    ≡ left (not_mended_at 20 0) (replicate 62 9) (replicate 9 9)
unfolding all
short_lines = refl
