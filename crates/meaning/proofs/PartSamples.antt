-- Objects in parts (document 02, Q-2): texts for each sentence, with their answers, by computation. Assumes nothing.
use mathlib.Core.Path.{◌≡◌, refl}
use mathlib.Core.List.{[], ◌∷◌}
use mathlib.Core.Bool.{true, false}
use Rattle.token.specs.Words.{bytes_of}
use Rattle.grammar.specs.Grammar.{APPMODE, COM, ISR, NM, OS, TASK, UINT32}
use Rattle.meaning.specs.Syntax.{integer, enum, reference}
use Rattle.meaning.specs.Resolving.{number, enumerator, object, of_object, of_value}
use Rattle.meaning.specs.Answers.{accepted, refused}
use Rattle.meaning.specs.Reading.{reading}
use Rattle.meaning.proofs.Everything.{everything, whole, sp, df, en, obs, va}

parts_merge : whole (bytes_of "OIL_VERSION=\"2.5\";IMPLEMENTATION m{TASK{UINT32 X;UINT32 L[];};};CPU c{OS o;TASK t{L=1;};APPMODE a;TASK u{X=2;};TASK t{X=7;L=3;};TASK t;OS o{};};") ≡ (
  accepted (record {
    definitions = (df (sp 35 4) (sp 47 1) (sp 40 6) false false (sp 0 0) (sp 0 0) (integer UINT32) ∷ df (sp 35 4) (sp 56 1) (sp 49 6) true false (sp 0 0) (sp 0 0) (integer UINT32) ∷ []);
    enumerators = ([]);
    objects = (obs OS (sp 70 2) (sp 73 1) (sp 0 0) 2 ∷ obs TASK (sp 75 4) (sp 80 1) (sp 81 6) 3 ∷ obs APPMODE (sp 88 7) (sp 96 1) (sp 0 0) 1 ∷ obs TASK (sp 98 4) (sp 103 1) (sp 104 6) 1 ∷ []);
    values = (va 0 (of_object 1) (number (record { negative = false; amount = 7 })) true (sp 120 1) ∷ va 1 (of_object 1) (number (record { negative = false; amount = 1 })) true (sp 84 1) ∷ va 1 (of_object 1) (number (record { negative = false; amount = 3 })) true (sp 124 1) ∷ va 0 (of_object 3) (number (record { negative = false; amount = 2 })) true (sp 107 1) ∷ []);
    counts = (1 ∷ 1 ∷ 2 ∷ 0 ∷ 0 ∷ 0 ∷ 0 ∷ 0 ∷ 0 ∷ 0 ∷ 0 ∷ 0 ∷ 0 ∷ []);
  }),
  bytes_of "OIL_VERSION = \"2.5\";\nIMPLEMENTATION m{TASK{UINT32 X;UINT32 L[];};};\nCPU c {\nOS o {\n};\nTASK t {\nX = 7;\nL = 1;\nL = 3;\n};\nAPPMODE a {\n};\nTASK u {\nX = 2;\n};\n};\n",
)
unfolding everything
parts_merge = refl

parts_first_alone : whole (bytes_of "OIL_VERSION=\"2.5\";IMPLEMENTATION m{TASK{UINT32 X=1;};};CPU c{OS o;APPMODE a;TASK t;TASK t{X=2;};};") ≡ (
  accepted (record {
    definitions = (df (sp 35 4) (sp 47 1) (sp 40 6) false false (sp 0 0) (sp 49 1) (integer UINT32) ∷ []);
    enumerators = ([]);
    objects = (obs OS (sp 61 2) (sp 64 1) (sp 0 0) 1 ∷ obs APPMODE (sp 66 7) (sp 74 1) (sp 0 0) 1 ∷ obs TASK (sp 76 4) (sp 81 1) (sp 0 0) 2 ∷ []);
    values = (va 0 (of_object 2) (number (record { negative = false; amount = 2 })) true (sp 92 1) ∷ []);
    counts = (1 ∷ 1 ∷ 1 ∷ 0 ∷ 0 ∷ 0 ∷ 0 ∷ 0 ∷ 0 ∷ 0 ∷ 0 ∷ 0 ∷ 0 ∷ []);
  }),
  bytes_of "OIL_VERSION = \"2.5\";\nIMPLEMENTATION m{TASK{UINT32 X=1;};};\nCPU c {\nOS o {\n};\nAPPMODE a {\n};\nTASK t {\nX = 2;\n};\n};\n",
)
unfolding everything
parts_first_alone = refl

parts_list_order : whole (bytes_of "OIL_VERSION=\"2.5\";IMPLEMENTATION m{TASK{UINT32 A[];UINT32 B[];};};CPU c{TASK t{B=1;A=2;};OS o;TASK u{A=9;};TASK t{A=3;B=4;};APPMODE a;TASK t{A=5;};};") ≡ (
  accepted (record {
    definitions = (df (sp 35 4) (sp 47 1) (sp 40 6) true false (sp 0 0) (sp 0 0) (integer UINT32) ∷ df (sp 35 4) (sp 58 1) (sp 51 6) true false (sp 0 0) (sp 0 0) (integer UINT32) ∷ []);
    enumerators = ([]);
    objects = (obs TASK (sp 72 4) (sp 77 1) (sp 78 10) 3 ∷ obs OS (sp 89 2) (sp 92 1) (sp 0 0) 1 ∷ obs TASK (sp 94 4) (sp 99 1) (sp 100 6) 1 ∷ obs APPMODE (sp 124 7) (sp 132 1) (sp 0 0) 1 ∷ []);
    values = (va 0 (of_object 0) (number (record { negative = false; amount = 2 })) true (sp 85 1) ∷ va 0 (of_object 0) (number (record { negative = false; amount = 3 })) true (sp 116 1) ∷ va 0 (of_object 0) (number (record { negative = false; amount = 5 })) true (sp 143 1) ∷ va 1 (of_object 0) (number (record { negative = false; amount = 1 })) true (sp 81 1) ∷ va 1 (of_object 0) (number (record { negative = false; amount = 4 })) true (sp 120 1) ∷ va 0 (of_object 2) (number (record { negative = false; amount = 9 })) true (sp 103 1) ∷ []);
    counts = (1 ∷ 1 ∷ 2 ∷ 0 ∷ 0 ∷ 0 ∷ 0 ∷ 0 ∷ 0 ∷ 0 ∷ 0 ∷ 0 ∷ 0 ∷ []);
  }),
  bytes_of "OIL_VERSION = \"2.5\";\nIMPLEMENTATION m{TASK{UINT32 A[];UINT32 B[];};};\nCPU c {\nTASK t {\nA = 2;\nA = 3;\nA = 5;\nB = 1;\nB = 4;\n};\nOS o {\n};\nTASK u {\nA = 9;\n};\nAPPMODE a {\n};\n};\n",
)
unfolding everything
parts_list_order = refl

v12_retired : whole (bytes_of "OIL_VERSION=\"2.5\";IMPLEMENTATION m{};CPU c{OS a;APPMODE b;TASK t;ISR u;TASK t;};") ≡ (
  accepted (record {
    definitions = ([]);
    enumerators = ([]);
    objects = (obs OS (sp 43 2) (sp 46 1) (sp 0 0) 1 ∷ obs APPMODE (sp 48 7) (sp 56 1) (sp 0 0) 1 ∷ obs TASK (sp 58 4) (sp 63 1) (sp 0 0) 2 ∷ obs ISR (sp 65 3) (sp 69 1) (sp 0 0) 1 ∷ []);
    values = ([]);
    counts = (1 ∷ 1 ∷ 1 ∷ 1 ∷ 0 ∷ 0 ∷ 0 ∷ 0 ∷ 0 ∷ 0 ∷ 0 ∷ 0 ∷ 0 ∷ []);
  }),
  bytes_of "OIL_VERSION = \"2.5\";\nIMPLEMENTATION m{};\nCPU c {\nOS a {\n};\nAPPMODE b {\n};\nTASK t {\n};\nISR u {\n};\n};\n",
)
unfolding everything
v12_retired = refl

v14_across : reading (bytes_of "OIL_VERSION=\"2.5\";IMPLEMENTATION m{TASK{UINT32 X;};};CPU c{OS o;APPMODE a;TASK t{X=1;};TASK t{X=2;};};") ≡ refused 14 94
unfolding everything
v14_across = refl

v14_not_in_braces : whole (bytes_of "OIL_VERSION=\"2.5\";IMPLEMENTATION m{TASK{ENUM[A{UINT32 X=1;}]E[];};};CPU c{OS o;APPMODE a;TASK t{E=A{X=1;};};TASK t{E=A{X=2;};};};") ≡ (
  accepted (record {
    definitions = (df (sp 45 1) (sp 54 1) (sp 47 6) false false (sp 0 0) (sp 56 1) (integer UINT32) ∷ df (sp 35 4) (sp 60 1) (sp 40 4) true false (sp 44 16) (sp 0 0) enum ∷ []);
    enumerators = (en 1 (sp 45 1) ∷ []);
    objects = (obs OS (sp 74 2) (sp 77 1) (sp 0 0) 1 ∷ obs APPMODE (sp 79 7) (sp 87 1) (sp 0 0) 1 ∷ obs TASK (sp 89 4) (sp 94 1) (sp 95 12) 2 ∷ []);
    values = (va 1 (of_object 2) (enumerator 0) true (sp 98 1) ∷ va 0 (of_value 0) (number (record { negative = false; amount = 1 })) true (sp 102 1) ∷ va 1 (of_object 2) (enumerator 0) true (sp 117 1) ∷ va 0 (of_value 2) (number (record { negative = false; amount = 2 })) true (sp 121 1) ∷ []);
    counts = (1 ∷ 1 ∷ 1 ∷ 0 ∷ 0 ∷ 0 ∷ 0 ∷ 0 ∷ 0 ∷ 0 ∷ 0 ∷ 0 ∷ 0 ∷ []);
  }),
  bytes_of "OIL_VERSION = \"2.5\";\nIMPLEMENTATION m{TASK{ENUM[A{UINT32 X=1;}]E[];};};\nCPU c {\nOS o {\n};\nAPPMODE a {\n};\nTASK t {\nE = A {\nX = 1;\n};\nE = A {\nX = 2;\n};\n};\n};\n",
)
unfolding everything
v14_not_in_braces = refl

v16_first_name : reading (bytes_of "OIL_VERSION=\"2.5\";IMPLEMENTATION m{TASK{UINT32 X;UINT32 Y;};};CPU c{OS o;APPMODE a;TASK t{X=1;};TASK u{X=1;Y=1;};TASK t{X=2;};};") ≡ refused 16 88
unfolding everything
v16_first_name = refl

v16_value_later : reading (bytes_of "OIL_VERSION=\"2.5\";IMPLEMENTATION m{TASK{ENUM[A{UINT32 X;}]E[];};};CPU c{OS o;APPMODE a;TASK t;TASK t{E=A;};};") ≡ refused 16 103
unfolding everything
v16_value_later = refl

v16_none : whole (bytes_of "OIL_VERSION=\"2.5\";IMPLEMENTATION m{TASK{UINT32 X;UINT32 Y;};};CPU c{OS o;APPMODE a;TASK t{X=1;};TASK t{Y=2;};};") ≡ (
  accepted (record {
    definitions = (df (sp 35 4) (sp 47 1) (sp 40 6) false false (sp 0 0) (sp 0 0) (integer UINT32) ∷ df (sp 35 4) (sp 56 1) (sp 49 6) false false (sp 0 0) (sp 0 0) (integer UINT32) ∷ []);
    enumerators = ([]);
    objects = (obs OS (sp 68 2) (sp 71 1) (sp 0 0) 1 ∷ obs APPMODE (sp 73 7) (sp 81 1) (sp 0 0) 1 ∷ obs TASK (sp 83 4) (sp 88 1) (sp 89 6) 2 ∷ []);
    values = (va 0 (of_object 2) (number (record { negative = false; amount = 1 })) true (sp 92 1) ∷ va 1 (of_object 2) (number (record { negative = false; amount = 2 })) true (sp 105 1) ∷ []);
    counts = (1 ∷ 1 ∷ 1 ∷ 0 ∷ 0 ∷ 0 ∷ 0 ∷ 0 ∷ 0 ∷ 0 ∷ 0 ∷ 0 ∷ 0 ∷ []);
  }),
  bytes_of "OIL_VERSION = \"2.5\";\nIMPLEMENTATION m{TASK{UINT32 X;UINT32 Y;};};\nCPU c {\nOS o {\n};\nAPPMODE a {\n};\nTASK t {\nX = 1;\nY = 2;\n};\n};\n",
)
unfolding everything
v16_none = refl

v17_further : whole (bytes_of "OIL_VERSION=\"2.5\";IMPLEMENTATION m{OS{UINT32 X=1;};COM{UINT32 X=1;};};CPU c{OS o;APPMODE a;OS o{X=2;};COM d{};NM n;COM d{X=5;};NM n;};") ≡ (
  accepted (record {
    definitions = (df (sp 35 2) (sp 45 1) (sp 38 6) false false (sp 0 0) (sp 47 1) (integer UINT32) ∷ df (sp 51 3) (sp 62 1) (sp 55 6) false false (sp 0 0) (sp 64 1) (integer UINT32) ∷ []);
    enumerators = ([]);
    objects = (obs OS (sp 76 2) (sp 79 1) (sp 0 0) 2 ∷ obs APPMODE (sp 81 7) (sp 89 1) (sp 0 0) 1 ∷ obs COM (sp 102 3) (sp 106 1) (sp 107 2) 2 ∷ obs NM (sp 110 2) (sp 113 1) (sp 0 0) 2 ∷ []);
    values = (va 0 (of_object 0) (number (record { negative = false; amount = 2 })) true (sp 98 1) ∷ va 1 (of_object 2) (number (record { negative = false; amount = 5 })) true (sp 123 1) ∷ []);
    counts = (1 ∷ 1 ∷ 0 ∷ 0 ∷ 0 ∷ 0 ∷ 0 ∷ 0 ∷ 1 ∷ 0 ∷ 0 ∷ 0 ∷ 1 ∷ []);
  }),
  bytes_of "OIL_VERSION = \"2.5\";\nIMPLEMENTATION m{OS{UINT32 X=1;};COM{UINT32 X=1;};};\nCPU c {\nOS o {\nX = 2;\n};\nAPPMODE a {\n};\nCOM d {\nX = 5;\n};\nNM n {\n};\n};\n",
)
unfolding everything
v17_further = refl

v17_second : reading (bytes_of "OIL_VERSION=\"2.5\";IMPLEMENTATION m{};CPU c{OS o;APPMODE a;OS o;OS p;};") ≡ refused 17 63
unfolding everything
v17_second = refl

v24_other_kind : reading (bytes_of "OIL_VERSION=\"2.5\";IMPLEMENTATION m{};CPU c{OS o;APPMODE a;TASK t;EVENT t;TASK t;};") ≡ refused 24 71
unfolding everything
v24_other_kind = refl

v24_behind_17 : reading (bytes_of "OIL_VERSION=\"2.5\";IMPLEMENTATION m{};CPU c{OS o;APPMODE a;OS a;};") ≡ refused 17 58
unfolding everything
v24_behind_17 = refl

least_not_first : reading (bytes_of "OIL_VERSION=\"2.5\";IMPLEMENTATION m{TASK{UINT32 X=1;};};CPU c{OS o;APPMODE a;TASK t{X=1;};TASK u{Z=1;};TASK t{X=2;Y=3;};};") ≡ refused 13 96
unfolding everything
least_not_first = refl

reference_to_later : whole (bytes_of "OIL_VERSION=\"2.5\";IMPLEMENTATION m{TASK{TASK_TYPE N[];};};CPU c{OS o;APPMODE a;TASK t{N=u;};TASK t{N=t;};TASK u;};") ≡ (
  accepted (record {
    definitions = (df (sp 35 4) (sp 50 1) (sp 40 9) true false (sp 0 0) (sp 0 0) (reference TASK) ∷ []);
    enumerators = ([]);
    objects = (obs OS (sp 64 2) (sp 67 1) (sp 0 0) 1 ∷ obs APPMODE (sp 69 7) (sp 77 1) (sp 0 0) 1 ∷ obs TASK (sp 79 4) (sp 84 1) (sp 85 6) 2 ∷ obs TASK (sp 105 4) (sp 110 1) (sp 0 0) 1 ∷ []);
    values = (va 0 (of_object 2) (object 3) true (sp 88 1) ∷ va 0 (of_object 2) (object 2) true (sp 101 1) ∷ []);
    counts = (1 ∷ 1 ∷ 2 ∷ 0 ∷ 0 ∷ 0 ∷ 0 ∷ 0 ∷ 0 ∷ 0 ∷ 0 ∷ 0 ∷ 0 ∷ []);
  }),
  bytes_of "OIL_VERSION = \"2.5\";\nIMPLEMENTATION m{TASK{TASK_TYPE N[];};};\nCPU c {\nOS o {\n};\nAPPMODE a {\n};\nTASK t {\nN = u;\nN = t;\n};\nTASK u {\n};\n};\n",
)
unfolding everything
reference_to_later = refl
