-- Normal text (document 01, "Normal text, given whole"). Assumes nothing.
use Rattle.std.specs.Prelude.{List, [], ◌∷◌, ◌++◌, Bool, true, false, ℕ, zero, suc, ◌+◌, ◌/◌, ◌%◌, take, drop, ltb}
use Rattle.token.specs.Words.{bytes_of}
use Rattle.meaning.specs.Syntax.{Num, Word, Span, Object, File}
use Rattle.meaning.specs.Words.{choose}
use Rattle.meaning.specs.Resolving.{Value, number, truth, auto, string, float, enumerator, object, Resolved, end, resolved, all_values}

-- "Numbers are decimal, with `-` if negative." Twenty digits are enough for any number of a text.
unfoldable pub digits_in : ℕ → ℕ → List ℕ
digits_in zero n = []
digits_in (suc k) n = choose (ltb n 10) (λ _. (48 + n) ∷ []) (λ _. digits_in k (n / 10) ++ ((48 + n % 10) ∷ []))

unfoldable pub minus : Bool → List ℕ
minus true = bytes_of "-"
minus false = []

unfoldable pub decimal : Num → List ℕ
decimal n = minus n.negative ++ digits_in 20 n.amount

-- A value: "Numbers are decimal, with `-` if negative"; any other as its word stands.
unfoldable pub written : Value → Word → List ℕ
written (number n) t = decimal n
written (truth b) t = t.bytes
written auto t = t.bytes
written string t = t.bytes
written float t = t.bytes
written (enumerator e) t = t.bytes
written (object o) t = t.bytes

-- "Values with something under them take ` {`, their lines and `};`": what follows a value, where the lines of what is under it are ls.
unfoldable pub closed : Resolved → List ℕ → List ℕ
closed end ls = bytes_of ";\n"
closed (resolved t us rest) ls = bytes_of " {\n" ++ (ls ++ bytes_of "};\n")

-- The lines of resolved values: name, ` = ` and value. "Every line ends in LF."
unfoldable pub lines : Resolved → List ℕ
lines end = []
lines (resolved t us rest) = t.definition.name.bytes ++ (bytes_of " = " ++ (written t.value t.word ++ (closed us (lines us) ++ lines rest)))

-- The objects in text order, each with its lines in braces, also where there are none.
unfoldable pub object_lines : List Object → List Resolved → List ℕ
object_lines [] rs = []
object_lines (x ∷ xs) [] = []
object_lines (x ∷ xs) (r ∷ rs) =
    x.word.bytes ++ (bytes_of " " ++ (x.name.bytes ++ (bytes_of " {\n" ++ (lines r ++ (bytes_of "};\n" ++ object_lines xs rs)))))

-- The lines of the application, with the resolved values rs of its objects.
unfoldable pub application_lines : File → List Resolved → List ℕ
application_lines f rs = bytes_of "CPU " ++ (f.cpu.bytes ++ (bytes_of " {\n" ++ (object_lines f.objects rs ++ bytes_of "};\n")))

-- The bytes of a part of the text.
unfoldable pub part : List ℕ → Span → List ℕ
part s p = take p.length (drop p.place s)

-- The whole normal text of the text s: "The implementation is copied byte for byte", from IMPLEMENTATION through its semicolon.
unfoldable pub normal : List ℕ → File → List ℕ
normal s f = bytes_of "OIL_VERSION = \"2.5\";\n" ++ (part s f.implementation ++ (bytes_of "\n" ++ application_lines f (all_values f f.objects)))
