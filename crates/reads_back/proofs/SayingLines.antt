-- What the lines of a normal text say. Assumes nothing.
use Prim.Native.Nat.{ℕ, suc}
use mathlib.Core.Path.{◌≡◌, refl, subst}
use mathlib.Core.List.{List, [], ◌∷◌, ◌++◌}
use mathlib.Core.Bool.{true, false}
use Rattle.token.specs.Find.{first_of, find}
use Rattle.token.specs.Bytes.{class_of, is_word_byte, word_end, find_byte}
use Rattle.token.specs.declared.scan.Class.TheVariants.{Punctuator as punctuator}
use Rattle.token.specs.Gaps.{gap_of, gap_at, skip_n, skip}
use Rattle.token.specs.Words.{bytes_of, same, code_in, code_of}
use Rattle.token.specs.Tokens.{found, word_at, string_at, token_of, token_at, step_at}
use Rattle.token.specs.Lexing.{lex_n, lex_from}
use Rattle.token.specs.declared.Sort.TheVariants.{Word as WordToken, String, Punctuator}
use Rattle.locality.proofs.Front.{ends}
use Rattle.locality.proofs.Join.{sign_one}
use Rattle.locality.proofs.Pieces.{may_start}
use Rattle.grammar.specs.Grammar.{word, OIL-VERSION, CPU}
use Rattle.grammar.specs.Terminals.{sign_of, class_of as sortClass}
use Rattle.meaning.specs.Syntax.{Word, Object, File}
use Rattle.meaning.specs.Actions.{zero_num, num_of_sort, float_of_sort}
use Rattle.meaning.specs.Resolving.{Value, number, truth, auto, string, float, enumerator, object, Resolved, end, resolved}
use Rattle.meaning.specs.Normal.{written, closed, lines, object_lines, application_lines}
use Rattle.meaning.proofs.Unplaced.{unplaced_word}
use Rattle.reads_back.proofs.Restated.{given, opening, closing, equal_sign, stop, version_string, restated_word, version_words, closed_words, line_words, object_words, application_words, Alone, Named, SaidLines, SaidObjects}
use Rattle.reads_back.proofs.RestatingUnplaced.{unplaced_restated_word}
use Rattle.reads_back.proofs.SayingPieces.{Says, says_append, says_none, says_blank, says_alone, says_sign}

-- ---- what a normal text has of itself

space : Says false (bytes_of " ") []
unfolding class_of
space = says_blank 32 refl

line_feed : Says false (bytes_of "\n") []
unfolding class_of
line_feed = says_blank 10 refl

sign_says : (b : ℕ) → class_of b ≡ punctuator → Says false (b ∷ []) (given (sign_of b) (b ∷ []) ∷ [])
unfolding given zero_num num_of_sort float_of_sort sortClass unplaced_word ends
sign_says b e =
    says_sign (given (sign_of b) (b ∷ [])) (record { sort = Punctuator b; one = sign_one b e; class_is = refl; number_is = refl; float_is = refl }) (λ b. refl)

-- ` = `
says_equal : Says false (bytes_of " = ") (equal_sign ∷ [])
unfolding class_of sign_of may_start
says_equal = says_append refl space (says_append refl (sign_says 61 refl) space)

-- `;` and LF
says_stop : Says false (bytes_of ";\n") (stop ∷ [])
unfolding class_of sign_of may_start
says_stop = says_append refl (sign_says 59 refl) line_feed

-- ` {` and LF
says_opening : Says false (bytes_of " {\n") (opening ∷ [])
unfolding class_of sign_of may_start
says_opening = says_append refl space (says_append refl (sign_says 123 refl) line_feed)

-- `};` and LF
says_closing : Says false (bytes_of "};\n") (closing ∷ stop ∷ [])
unfolding class_of sign_of may_start
says_closing = says_append refl (sign_says 125 refl) says_stop

says_version : Says false (bytes_of "\"2.5\"") (version_string ∷ [])
unfolding given zero_num num_of_sort float_of_sort sortClass unplaced_word ends lex_from lex_n step_at skip skip_n gap_at gap_of class_of token_of token_at string_at find_byte find first_of found
says_version = says_sign version_string (record { sort = String; one = refl; class_is = refl; number_is = refl; float_is = refl }) (λ b. refl)

says_oil_version : Says true (bytes_of "OIL_VERSION") (given (word OIL-VERSION) (bytes_of "OIL_VERSION") ∷ [])
unfolding given zero_num num_of_sort float_of_sort sortClass unplaced_word lex_from lex_n step_at skip skip_n gap_at gap_of class_of token_of token_at word_at word_end is_word_byte code_of code_in same find first_of found
says_oil_version =
    says_alone (given (word OIL-VERSION) (bytes_of "OIL_VERSION")) (record { sort = WordToken 6; one = refl; class_is = refl; number_is = refl; float_is = refl })

says_cpu : Says true (bytes_of "CPU") (given (word CPU) (bytes_of "CPU") ∷ [])
unfolding given zero_num num_of_sort float_of_sort sortClass unplaced_word lex_from lex_n step_at skip skip_n gap_at gap_of class_of token_of token_at word_at word_end is_word_byte code_of code_in same find first_of found
says_cpu = says_alone (given (word CPU) (bytes_of "CPU")) (record { sort = WordToken 8; one = refl; class_is = refl; number_is = refl; float_is = refl })

-- OIL_VERSION = "2.5"; and LF
pub says_heading : Says false (bytes_of "OIL_VERSION = \"2.5\";\n") version_words
unfolding may_start is_word_byte
says_heading = says_append refl says_oil_version (says_append refl says_equal (says_append refl says_version says_stop))

-- ---- lines

written_is : (v : Value) (t : Word) → (restated_word v t).bytes ≡ written v t
unfolding written restated_word unplaced_word
written_is (number n) t = refl
written_is (truth b) t = refl
written_is auto t = refl
written_is string t = refl
written_is float t = refl
written_is (enumerator e) t = refl
written_is (object o) t = refl

says_value : (v : Value) (t : Word) → Alone (restated_word v t) → Says true (written v t) (restated_word v t ∷ [])
says_value v t a =
    subst (λ (w : Word). Says true (written v t) (w ∷ [])) (unplaced_restated_word v t)
    (subst (λ (b : List ℕ). Says true b (unplaced_word (restated_word v t) ∷ [])) (written_is v t) (says_alone (restated_word v t) a))

says_word : (w : Word) → Alone (unplaced_word w) → Says true w.bytes (unplaced_word w ∷ [])
unfolding unplaced_word
says_word w a = says_alone (unplaced_word w) a

closed_start : (us : Resolved) (ls more : List ℕ) → may_start true (closed us ls ++ more) ≡ true
unfolding closed may_start is_word_byte
closed_start end ls more = refl
closed_start (resolved t us rest) ls more = refl

says_closed : (us : Resolved) {ls : List ℕ} {ws : List Word} → Says false ls ws → Says false (closed us ls) (closed_words us ws)
unfolding closed closed_words may_start
says_closed end x = says_stop
says_closed (resolved t us rest) x = says_append refl says_opening (says_append refl x says_closing)

says_lines : (r : Resolved) → SaidLines r → Says false (lines r) (line_words r)
unfolding lines line_words may_start is_word_byte
says_lines end h = says_none
says_lines (resolved t us rest) h =
    says_append refl (says_word t.definition.name h.0.name.alone)
    (says_append refl says_equal
    (says_append (closed_start us (lines us) (lines rest)) (says_value t.value t.word h.0.alone)
    (says_append refl (says_closed us (says_lines us h.1)) (says_lines rest h.2))))

says_objects : (xs : List Object) (rs : List Resolved) (i : ℕ) → SaidObjects xs rs i → Says false (object_lines xs rs) (object_words xs rs)
unfolding object_lines object_words may_start is_word_byte
says_objects [] rs i h = says_none
says_objects (x ∷ xs) [] i h = absurd h
says_objects (x ∷ xs) (r ∷ rs) i h =
    says_append refl (says_word x.word h.0.word_alone)
    (says_append refl space
    (says_append refl (says_word x.name h.0.name.alone)
    (says_append refl says_opening (says_append refl (says_lines r h.0.lines) (says_append refl says_closing (says_objects xs rs (suc i) h.1))))))

-- LF, and then the application
pub says_application : (f : File) (rs : List Resolved) → Named f.cpu → SaidObjects f.objects rs 0 →
    Says false (bytes_of "\n" ++ application_lines f rs) (application_words f rs)
unfolding application_lines application_words may_start is_word_byte
says_application f rs c h =
    says_append refl line_feed
    (says_append refl (says_append refl says_cpu space)
    (says_append refl (says_word f.cpu c.alone) (says_append refl says_opening (says_append refl (says_objects f.objects rs 0 h) says_closing))))
