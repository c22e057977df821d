-- What the program prints of two texts (document 02, Q-8). Assumes nothing.
use Rattle.std.specs.Prelude.{List, [], ◌∷◌, ◌++◌, Bool, true, false, ℕ, ◌+◌, ◌-◌, ◌/◌, ◌%◌, length, take, drop, ltb}
use Rattle.token.specs.Find.{pick}
use Rattle.token.specs.Words.{bytes_of}
use Rattle.meaning.specs.Syntax.{Object}
use Rattle.meaning.specs.Resolving.{Value, number, truth, auto, float, enumerator, object, Taken, string as string-value}
use Rattle.meaning.specs.Normal.{digits_in, written}
use Rattle.comparing.specs.Lists.{each_of}
use Rattle.comparing.specs.Contents.{Step, Path, Placed}
use Rattle.comparing.specs.Differences.{Difference, object_in_first, object_in_second, value_in_first, value_in_second, values_differ, Compared, compared, not_compared}

-- "strings as lower-case hex of the bytes inside".
unfoldable pub hex_digit : ℕ → ℕ
hex_digit n = pick (ltb n 10) (48 + n) (87 + n)

unfoldable pub hex : List ℕ → List ℕ
hex [] = []
hex (b ∷ bs) = hex_digit (b / 16) ∷ hex_digit (b % 16) ∷ hex bs

unfoldable pub inside : List ℕ → List ℕ
inside bs = take (length bs - 2) (drop 1 bs)

-- "each side's value as normal text writes it".
unfoldable pub shown : Value → Taken → List ℕ
shown (number n) t = written (number n) t.word
shown (truth b) t = written (truth b) t.word
shown auto t = written auto t.word
shown string-value t = hex (inside t.word.bytes)
shown float t = written float t.word
shown (enumerator e) t = written (enumerator e) t.word
shown (object o) t = written (object o) t.word

unfoldable pub value_text : Placed → List ℕ
value_text v = shown v.taken.value v.taken

-- "attribute names from the object down, parted by dots, each list's name followed by its position from 0, as `[0]`".
unfoldable pub position_text : Bool → ℕ → List ℕ
position_text true n = bytes_of "[" ++ (digits_in 20 n ++ bytes_of "]")
position_text false n = []

unfoldable pub step_text : Step → List ℕ
step_text s = s.name.bytes ++ position_text s.list s.position

unfoldable pub dotted : Path → List ℕ
dotted [] = []
dotted (s ∷ p) = bytes_of "." ++ (step_text s ++ dotted p)

unfoldable pub path_text : Path → List ℕ
path_text [] = []
path_text (s ∷ p) = step_text s ++ dotted p

-- A line: "fields parted by tabs: `first`, `second` or `both` .., kind, name, path (empty for an object), each side's value .. (empty if none)".
unfoldable pub fields : List ℕ → Object → List ℕ → List ℕ → List ℕ → List ℕ
fields side x p v w =
    side ++ (bytes_of "\t" ++ (x.word.bytes ++ (bytes_of "\t" ++ (x.name.bytes ++ (bytes_of "\t" ++ (p ++ (bytes_of "\t" ++ (v ++ (bytes_of "\t" ++ (w ++ bytes_of "\n"))))))))))

unfoldable pub line : Difference → List ℕ
line (object_in_first x) = fields (bytes_of "first") x [] [] []
line (object_in_second y) = fields (bytes_of "second") y [] [] []
line (value_in_first x y v) = fields (bytes_of "first") x (path_text v.path) (value_text v) []
line (value_in_second x y w) = fields (bytes_of "second") y (path_text w.path) [] (value_text w)
line (values_differ x y v w) = fields (bytes_of "both") x (path_text v.path) (value_text v) (value_text w)

-- "lends 64 records and prints one a line ..; then `total` and the total. If a text is refused, say `refused`, which (1 or 2), number and place".
unfoldable pub report : Compared → List ℕ
report (compared ds) = each_of line (take 64 ds) ++ (bytes_of "total\t" ++ (digits_in 20 (length ds) ++ bytes_of "\n"))
report (not_compared w n p) =
    bytes_of "refused\t" ++ (digits_in 20 w ++ (bytes_of "\t" ++ (digits_in 20 n ++ (bytes_of "\t" ++ (digits_in 20 p ++ bytes_of "\n")))))
