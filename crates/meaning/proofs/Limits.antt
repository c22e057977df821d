-- The limits rule by rule, refusals 1 and 20, texts read back, codes and cells, by computation. Assumes nothing.
use mathlib.Core.Path.{◌≡◌, refl}
use mathlib.Core.List.{[], ◌∷◌}
use mathlib.Core.Bool.{true, false}
use mathlib.Core.Option.{none, some}
use Prim.Native.Nat.{ℕ}
use Rattle.token.specs.Words.{bytes_of, code_of}
use Rattle.grammar.specs.Grammar.{ordinary, OS, APPMODE, TASK, ISR, COUNTER, ALARM, RESOURCE, EVENT, COM, MESSAGE, NETWORKMESSAGE, IPDU, NM, UINT32, INT32, UINT64, INT64}
use Rattle.meaning.specs.Syntax.{Num, Word, absent, no_bounds, Definition, integer, boolean, enum, float, reference, Statements, done, state, Object, string as string-type}
use Rattle.meaning.specs.Words.{in_type}
use Rattle.meaning.specs.Faults.{Fault}
use Rattle.meaning.specs.Defining.{name_faults, word_faults}
use Rattle.meaning.specs.Applying.{each_object, each_part, statement_faults}
use Rattle.meaning.specs.Resolving.{too_many, number, auto, of_object, of_value}
use Rattle.meaning.specs.Answers.{refused}
use Rattle.meaning.specs.Reading.{normal_text}
use Rattle.meaning.specs.Calls.{stated_rooms, too_short, call, program}
use Rattle.meaning.specs.Cells.{type_code, definition_cells, enumerator_cells, object_cells, value_cells, room_cells}
use Rattle.meaning.proofs.Everything.{everything, sp, df, en, ob, va}

-- Limits -----------------------------------------------------------------------------------------------------------------------------------

abbrev whole_number : ℕ → Num
whole_number n = record { negative = false; amount = n }

abbrev minus_number : ℕ → Num
minus_number n = record { negative = true; amount = n }

abbrev word_at : ℕ → Word
word_at p = record { class = ordinary; bytes = bytes_of "x"; number = whole_number 0; float = whole_number 0; place = p; length = 1 }

abbrev a_definition : ℕ → Definition
a_definition n = record { row = n; type = reference TASK; word = word_at 3; auto = false; range = absent; bounds = no_bounds; name = word_at 7; list = false; default = none }

abbrev an_object : ℕ → Object
an_object n = record { row = n; kind = TASK; word = word_at 3; name = word_at 7; block = absent; parts = 1; statements = done }

abbrev a_statement : ℕ → Statements → Statements
a_statement n ss = state (record { number = n; name = word_at 7; value = word_at 9; brace = none }) ss done

abbrev fault : ℕ → ℕ → Fault
fault n p = record { place = p; number = n }

definition_512 : name_faults (a_definition 511) [] [] ≡ []
unfolding everything
definition_512 = refl

definition_513 : name_faults (a_definition 512) [] [] ≡ fault 7 7 ∷ []
unfolding everything
definition_513 = refl

enumerator_1024 : word_faults true 1023 (word_at 5) [] ≡ []
unfolding everything
enumerator_1024 = refl

enumerator_1025 : word_faults true 1024 (word_at 5) [] ≡ fault 7 5 ∷ []
unfolding everything
enumerator_1025 = refl

truth_not_counted : word_faults false 1024 (word_at 5) [] ≡ []
unfolding everything
truth_not_counted = refl

object_256 : each_object [] (an_object 255 ∷ []) ≡ []
unfolding everything
object_256 = refl

object_257 : each_object [] (an_object 256 ∷ []) ≡ fault 11 3 ∷ []
unfolding everything
object_257 = refl

part_512 : each_part (an_object 511 ∷ []) ≡ []
unfolding everything
part_512 = refl

part_513 : each_part (an_object 512 ∷ []) ≡ fault 11 3 ∷ []
unfolding everything
part_513 = refl

statement_2048 : statement_faults (a_statement 2046 (a_statement 2047 done)) ≡ []
unfolding everything
statement_2048 = refl

statement_2049 : statement_faults (a_statement 2047 (a_statement 2048 done)) ≡ fault 11 7 ∷ []
unfolding everything
statement_2049 = refl

values_2048 : too_many 2048 ≡ []
unfolding everything
values_2048 = refl

values_2049 : too_many 2049 ≡ fault 19 0 ∷ []
unfolding everything
values_2049 = refl

-- Integer bounds, both ends included -------------------------------------------------------------------------------------------------------

uint32_most : in_type UINT32 (whole_number 4294967295) ≡ true
unfolding everything
uint32_most = refl

uint32_over : in_type UINT32 (whole_number 4294967296) ≡ false
unfolding everything
uint32_over = refl

uint32_below : in_type UINT32 (minus_number 1) ≡ false
unfolding everything
uint32_below = refl

int32_least : in_type INT32 (minus_number 2147483648) ≡ true
unfolding everything
int32_least = refl

int32_below : in_type INT32 (minus_number 2147483649) ≡ false
unfolding everything
int32_below = refl

int32_over : in_type INT32 (whole_number 2147483648) ≡ false
unfolding everything
int32_over = refl

uint64_most : in_type UINT64 (whole_number 18446744073709551615) ≡ true
unfolding everything
uint64_most = refl

int64_least : in_type INT64 (minus_number 9223372036854775808) ≡ true
unfolding everything
int64_least = refl

int64_over : in_type INT64 (whole_number 9223372036854775808) ≡ false
unfolding everything
int64_over = refl

-- Calls ------------------------------------------------------------------------------------------------------------------------------------

refusal_1_definitions : call (record { definitions = 511; enumerators = 1024; objects = 256; values = 2048 }) none [] ≡ refused 1 0
unfolding everything
refusal_1_definitions = refl

refusal_1_values : call (record { definitions = 512; enumerators = 1024; objects = 256; values = 2047 }) none [] ≡ refused 1 0
unfolding everything
refusal_1_values = refl

program_refuses : program (bytes_of "OIL_VERSION = 2;") ≡ bytes_of "refused\t4\t14\n"
unfolding everything
program_refuses = refl

-- The normal text of this one has 77 bytes.
refusal_20 : call stated_rooms (some 76) (bytes_of "OIL_VERSION=\"2.5\";IMPLEMENTATION m{};CPU c{OS o;APPMODE a;};") ≡ refused 20 0
unfolding everything
refusal_20 = refl

output_enough : too_short (some 77) 77 ≡ false
unfolding everything
output_enough = refl

program_writes : program (bytes_of "OIL_VERSION=\"2.5\";IMPLEMENTATION m{};CPU c{OS o;APPMODE a;};")
    ≡ bytes_of "OIL_VERSION = \"2.5\";\nIMPLEMENTATION m{};\nCPU c {\nOS o {\n};\nAPPMODE a {\n};\n};\n"
unfolding everything
program_writes = refl

-- Read back, the normal text is its own normal text.
back_lists :
    normal_text (normal_text (bytes_of "OIL_VERSION=\"2.5\";IMPLEMENTATION m{OS{UINT32 A[]=5;UINT32 B[]=NO_DEFAULT;BOOLEAN[TRUE{UINT32 L[];INT32 N=-7;},FALSE]C=TRUE;STRING D=\"\";};};CPU c{APPMODE a{};OS o{};};"))
    ≡ normal_text (bytes_of "OIL_VERSION=\"2.5\";IMPLEMENTATION m{OS{UINT32 A[]=5;UINT32 B[]=NO_DEFAULT;BOOLEAN[TRUE{UINT32 L[];INT32 N=-7;},FALSE]C=TRUE;STRING D=\"\";};};CPU c{APPMODE a{};OS o{};};")
unfolding everything
back_lists = refl

-- Cells ------------------------------------------------------------------------------------------------------------------------------------

-- A type's code is the code that the token reader gives its word.
type_codes :
    (type_code (reference OS) ∷ type_code (reference APPMODE) ∷ type_code (reference TASK) ∷ type_code (reference ISR) ∷ type_code (reference COUNTER)
    ∷ type_code (reference ALARM) ∷ type_code (reference RESOURCE) ∷ type_code (reference EVENT) ∷ type_code (reference COM) ∷ type_code (reference MESSAGE)
    ∷ type_code (reference NETWORKMESSAGE) ∷ type_code (reference IPDU) ∷ type_code (reference NM) ∷ type_code (integer UINT32) ∷ type_code (integer INT32)
    ∷ type_code (integer UINT64) ∷ type_code (integer INT64) ∷ type_code string-type ∷ type_code boolean ∷ type_code enum ∷ type_code float ∷ [])
    ≡ (code_of (bytes_of "OS_TYPE") ∷ code_of (bytes_of "APPMODE_TYPE") ∷ code_of (bytes_of "TASK_TYPE") ∷ code_of (bytes_of "ISR_TYPE") ∷ code_of (bytes_of "COUNTER_TYPE")
    ∷ code_of (bytes_of "ALARM_TYPE") ∷ code_of (bytes_of "RESOURCE_TYPE") ∷ code_of (bytes_of "EVENT_TYPE") ∷ code_of (bytes_of "COM_TYPE") ∷ code_of (bytes_of "MESSAGE_TYPE")
    ∷ code_of (bytes_of "NETWORKMESSAGE_TYPE") ∷ code_of (bytes_of "IPDU_TYPE") ∷ code_of (bytes_of "NM_TYPE") ∷ code_of (bytes_of "UINT32") ∷ code_of (bytes_of "INT32")
    ∷ code_of (bytes_of "UINT64") ∷ code_of (bytes_of "INT64") ∷ code_of (bytes_of "STRING") ∷ code_of (bytes_of "BOOLEAN") ∷ code_of (bytes_of "ENUM") ∷ code_of (bytes_of "FLOAT") ∷ [])
unfolding everything
type_codes = refl

-- The worked example's second definition, third object and second value.
definition_example : definition_cells (df (sp 67 4) (sp 91 9) (sp 74 6) false false (sp 81 9) (sp 103 2) (integer UINT32)) ≡ 67 ∷ 4 ∷ 91 ∷ 9 ∷ 74 ∷ 6 ∷ 0 ∷ 0 ∷ 81 ∷ 9 ∷ 103 ∷ 2 ∷ 35 ∷ []
unfolding everything
definition_example = refl

enumerator_example : enumerator_cells (en 7 (sp 269 3)) ≡ 7 ∷ 269 ∷ 3 ∷ []
unfolding everything
enumerator_example = refl

object_example : object_cells (ob TASK (sp 141 4) (sp 146 1) (sp 148 21)) ≡ 2 ∷ 141 ∷ 4 ∷ 146 ∷ 1 ∷ 148 ∷ 21 ∷ 1 ∷ []
unfolding everything
object_example = refl

value_example : value_cells (va 1 (of_object 2) (number (whole_number 32)) true (sp 162 4)) ≡ 1 ∷ 0 ∷ 2 ∷ 0 ∷ 0 ∷ 32 ∷ 1 ∷ 162 ∷ 4 ∷ []
unfolding everything
value_example = refl

negative_example : value_cells (va 6 (of_value 4) (number (minus_number 9223372036854775808)) false (sp 313 2)) ≡ 6 ∷ 1 ∷ 4 ∷ 0 ∷ 1 ∷ 9223372036854775808 ∷ 0 ∷ 313 ∷ 2 ∷ []
unfolding everything
negative_example = refl

room_example : room_cells 12 enumerator_cells (en 7 (sp 269 3) ∷ en 7 (sp 274 4) ∷ []) ≡ 7 ∷ 269 ∷ 3 ∷ 7 ∷ 274 ∷ 4 ∷ 0 ∷ 0 ∷ 0 ∷ 0 ∷ 0 ∷ 0 ∷ []
unfolding everything
room_example = refl
