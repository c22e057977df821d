-- Document 01's words for the terminals, in the order of the flags, and for the text's end. Assumes nothing.
use Rattle.std.specs.Prelude.{List, [], ◌∷◌, ◌++◌, ℕ, ◌-◌, length, get_or, replicate}
use Rattle.token.specs.Words.{bytes_of}

abbrev pub terminal_words : List (List ℕ)
terminal_words =
    bytes_of "a name" ∷ bytes_of "a kind" ∷ bytes_of "a kind followed by _TYPE" ∷ bytes_of "an integer type" ∷ bytes_of "OIL_VERSION"
    ∷ bytes_of "IMPLEMENTATION" ∷ bytes_of "CPU" ∷ bytes_of "STRING" ∷ bytes_of "BOOLEAN" ∷ bytes_of "ENUM"
    ∷ bytes_of "FLOAT" ∷ bytes_of "a number" ∷ bytes_of "a string" ∷ bytes_of "a float" ∷ bytes_of "TRUE"
    ∷ bytes_of "FALSE" ∷ bytes_of "AUTO" ∷ bytes_of "NO_DEFAULT" ∷ bytes_of "WITH_AUTO" ∷ bytes_of "`{`"
    ∷ bytes_of "`}`" ∷ bytes_of "`[`" ∷ bytes_of "`]`" ∷ bytes_of "`=`" ∷ bytes_of "`;`"
    ∷ bytes_of "`:`" ∷ bytes_of "`,`" ∷ bytes_of "`..`" ∷ bytes_of "the end of the text" ∷ []

unfoldable pub word_of : ℕ → List ℕ
word_of i = get_or terminal_words i []

-- a word in twenty-four bytes
unfoldable pub padded : List ℕ → List ℕ
padded w = w ++ replicate (24 - length w) 32
