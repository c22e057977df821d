-- Texts for each refusal and for what is accepted, with their answers, by computation. Assumes nothing.
use mathlib.Core.Path.{◌≡◌, refl}
use mathlib.Core.List.{[], ◌∷◌}
use mathlib.Core.Bool.{true, false}
use Rattle.token.specs.Words.{bytes_of}
use Rattle.grammar.specs.Grammar.{OS, APPMODE, TASK, ISR, RESOURCE, EVENT, UINT32, INT32, UINT64, INT64}
use Rattle.meaning.specs.Syntax.{integer, boolean, enum, reference, string as string-type}
use Rattle.meaning.specs.Resolving.{number, truth, auto, string, enumerator, object, of_object, of_value}
use Rattle.meaning.specs.Answers.{accepted, refused}
use Rattle.meaning.specs.Reading.{reading, normal_text}
use Rattle.meaning.proofs.Everything.{everything, whole, sp, df, en, ob, va}

v6_version : reading (bytes_of "OIL_VERSION=\"2.4\";IMPLEMENTATION m{};CPU c{};") ≡ refused 6 12
unfolding everything
v6_version = refl

v8_kind_twice : reading (bytes_of "OIL_VERSION=\"2.5\";IMPLEMENTATION m{TASK{};OS{};TASK{};};CPU c{OS o;APPMODE a;};") ≡ refused 8 47
unfolding everything
v8_kind_twice = refl

v8_attribute_twice : reading (bytes_of "OIL_VERSION=\"2.5\";IMPLEMENTATION m{TASK{UINT32 A=1;OS_TYPE A;};};CPU c{OS o;APPMODE a;};") ≡ refused 8 59
unfolding everything
v8_attribute_twice = refl

v8_enumerator_twice : reading (bytes_of "OIL_VERSION=\"2.5\";IMPLEMENTATION m{TASK{ENUM[A,B{UINT32 A=1;},A]E=A;};};CPU c{OS o;APPMODE a;};") ≡ refused 8 62
unfolding everything
v8_enumerator_twice = refl

v9_types_differ : reading (bytes_of "OIL_VERSION=\"2.5\";IMPLEMENTATION m{TASK{ENUM[A{UINT32 X=1;},B{STRING X=\"\";}]E=A;};};CPU c{OS o;APPMODE a;};") ≡ refused 9 69
unfolding everything
v9_types_differ = refl

v9_boolean_first_decides : reading (bytes_of "OIL_VERSION=\"2.5\";IMPLEMENTATION m{TASK{BOOLEAN[TRUE{UINT32 X=1;UINT32 Y=1;},FALSE{UINT32 X=2;TASK_TYPE Y;}]E=TRUE;};};CPU c{OS o;APPMODE a;};") ≡ refused 9 104
unfolding everything
v9_boolean_first_decides = refl

v21_bound : reading (bytes_of "OIL_VERSION=\"2.5\";IMPLEMENTATION m{TASK{INT32[-2147483649..5]X=1;};};CPU c{OS o;APPMODE a;};") ≡ refused 21 46
unfolding everything
v21_bound = refl

v21_low_above_high : reading (bytes_of "OIL_VERSION=\"2.5\";IMPLEMENTATION m{TASK{UINT64[5..4]X;};};CPU c{OS o;APPMODE a;};") ≡ refused 21 47
unfolding everything
v21_low_above_high = refl

v22_listed_and_default : reading (bytes_of "OIL_VERSION=\"2.5\";IMPLEMENTATION m{TASK{UINT32[1,3,5]X=4;};};CPU c{OS o;APPMODE a;};") ≡ refused 22 55
unfolding everything
v22_listed_and_default = refl

v23_auto : reading (bytes_of "OIL_VERSION=\"2.5\";IMPLEMENTATION m{TASK{STRING WITH_AUTO S=AUTO;BOOLEAN B=AUTO;};};CPU c{OS o;APPMODE a;};") ≡ refused 23 74
unfolding everything
v23_auto = refl

v22_default_no_enumerator : reading (bytes_of "OIL_VERSION=\"2.5\";IMPLEMENTATION m{TASK{ENUM[A,B]E=C;};};CPU c{OS o;APPMODE a;};") ≡ refused 22 51
unfolding everything
v22_default_no_enumerator = refl

v13_not_defined : reading (bytes_of "OIL_VERSION=\"2.5\";IMPLEMENTATION m{TASK{ENUM[A{UINT32 X=1;},B]E=B;};};CPU c{OS o;APPMODE a;TASK t{E=B{X=1;};};};") ≡ refused 13 102
unfolding everything
v13_not_defined = refl

v14_again : reading (bytes_of "OIL_VERSION=\"2.5\";IMPLEMENTATION m{TASK{UINT32 X;UINT32 L[];};};CPU c{OS o;APPMODE a;TASK t{L=1;X=1;L=2;X=2;};};") ≡ refused 14 104
unfolding everything
v14_again = refl

v15_sort : reading (bytes_of "OIL_VERSION=\"2.5\";IMPLEMENTATION m{TASK{UINT32 X;STRING S=\"\";};};CPU c{OS o;APPMODE a;TASK t{X=1;S=TRUE{Y=1;};};};") ≡ refused 15 99
unfolding everything
v15_sort = refl

v15_auto : reading (bytes_of "OIL_VERSION=\"2.5\";IMPLEMENTATION m{TASK{UINT32 X;};};CPU c{OS o;APPMODE a;TASK t{X=AUTO;};};") ≡ refused 15 83
unfolding everything
v15_auto = refl

v15_brace_after_reference : reading (bytes_of "OIL_VERSION=\"2.5\";IMPLEMENTATION m{TASK{TASK_TYPE N;};};CPU c{OS o;APPMODE a;TASK t{N=t {};};};") ≡ refused 15 88
unfolding everything
v15_brace_after_reference = refl

v15_minus_one : reading (bytes_of "OIL_VERSION=\"2.5\";IMPLEMENTATION m{TASK{UINT64 X;};};CPU c{OS o;APPMODE a;TASK t{X=-1;};};") ≡ refused 15 83
unfolding everything
v15_minus_one = refl

v16_object : reading (bytes_of "OIL_VERSION=\"2.5\";IMPLEMENTATION m{TASK{UINT32 X;UINT32 Y=NO_DEFAULT;};};CPU c{OS o;APPMODE a;TASK t{X=1;Z=2;};};") ≡ refused 16 99
unfolding everything
v16_object = refl

v16_value : reading (bytes_of "OIL_VERSION=\"2.5\";IMPLEMENTATION m{TASK{ENUM[A{UINT32 X;},B]E=B;};};CPU c{OS o;APPMODE a;TASK t{E=A{};};};") ≡ refused 16 98
unfolding everything
v16_value = refl

v16_nearest_stated : reading (bytes_of "OIL_VERSION=\"2.5\";IMPLEMENTATION m{TASK{ENUM[A{BOOLEAN[TRUE{UINT32 X;},FALSE]B=TRUE;}]E[];};};CPU c{OS o;APPMODE a;TASK t{E=A{B=FALSE;};E=A;};};") ≡ refused 16 138
unfolding everything
v16_nearest_stated = refl

v16_default_chain : reading (bytes_of "OIL_VERSION=\"2.5\";IMPLEMENTATION m{TASK{ENUM[A{BOOLEAN[TRUE{UINT32 X;},FALSE]B=TRUE;}]E=A;};};CPU c{OS o;APPMODE a;TASK t;};") ≡ refused 16 120
unfolding everything
v16_default_chain = refl

v17_second_os : reading (bytes_of "OIL_VERSION=\"2.5\";IMPLEMENTATION m{};CPU c{OS o;APPMODE a;APPMODE b;OS p;};") ≡ refused 17 68
unfolding everything
v17_second_os = refl

v17_no_appmode : reading (bytes_of "OIL_VERSION=\"2.5\";IMPLEMENTATION m{};CPU c{OS a;OS a;};") ≡ refused 17 41
unfolding everything
v17_no_appmode = refl

v18_other_kind : reading (bytes_of "OIL_VERSION=\"2.5\";IMPLEMENTATION m{TASK{EVENT_TYPE E[];};};CPU c{OS o;APPMODE a;TASK t{E=v;E=o;};EVENT v;};") ≡ refused 18 93
unfolding everything
v18_other_kind = refl

v5_seventeen : reading (bytes_of "OIL_VERSION=\"2.5\";IMPLEMENTATION m{TASK{ENUM[A{ENUM[A{ENUM[A{ENUM[A{ENUM[A{ENUM[A{ENUM[A{ENUM[A{ENUM[A{ENUM[A{ENUM[A{ENUM[A{ENUM[A{ENUM[A{ENUM[A{") ≡ refused 5 144
unfolding everything
v5_seventeen = refl

ok_sixteen : whole (bytes_of "OIL_VERSION=\"2.5\";IMPLEMENTATION m{TASK{ENUM[A{ENUM[A{ENUM[A{ENUM[A{ENUM[A{ENUM[A{ENUM[A{ENUM[A{ENUM[A{ENUM[A{ENUM[A{ENUM[A{ENUM[A{ENUM[A{}]E=A;}]E=A;}]E=A;}]E=A;}]E=A;}]E=A;}]E=A;}]E=A;}]E=A;}]E=A;}]E=A;}]E=A;}]E=A;}]E=A;};};CPU c{OS o;APPMODE a;TASK t;};") ≡ (
  accepted (record {
    definitions = (df (sp 129 1) (sp 140 1) (sp 131 4) false false (sp 135 5) (sp 142 1) enum ∷ df (sp 122 1) (sp 146 1) (sp 124 4) false false (sp 128 18) (sp 148 1) enum ∷ df (sp 115 1) (sp 152 1) (sp 117 4) false false (sp 121 31) (sp 154 1) enum ∷ df (sp 108 1) (sp 158 1) (sp 110 4) false false (sp 114 44) (sp 160 1) enum ∷ df (sp 101 1) (sp 164 1) (sp 103 4) false false (sp 107 57) (sp 166 1) enum ∷ df (sp 94 1) (sp 170 1) (sp 96 4) false false (sp 100 70) (sp 172 1) enum ∷ df (sp 87 1) (sp 176 1) (sp 89 4) false false (sp 93 83) (sp 178 1) enum ∷ df (sp 80 1) (sp 182 1) (sp 82 4) false false (sp 86 96) (sp 184 1) enum ∷ df (sp 73 1) (sp 188 1) (sp 75 4) false false (sp 79 109) (sp 190 1) enum ∷ df (sp 66 1) (sp 194 1) (sp 68 4) false false (sp 72 122) (sp 196 1) enum ∷ df (sp 59 1) (sp 200 1) (sp 61 4) false false (sp 65 135) (sp 202 1) enum ∷ df (sp 52 1) (sp 206 1) (sp 54 4) false false (sp 58 148) (sp 208 1) enum ∷ df (sp 45 1) (sp 212 1) (sp 47 4) false false (sp 51 161) (sp 214 1) enum ∷ df (sp 35 4) (sp 218 1) (sp 40 4) false false (sp 44 174) (sp 220 1) enum ∷ []);
    enumerators = (en 13 (sp 45 1) ∷ en 12 (sp 52 1) ∷ en 11 (sp 59 1) ∷ en 10 (sp 66 1) ∷ en 9 (sp 73 1) ∷ en 8 (sp 80 1) ∷ en 7 (sp 87 1) ∷ en 6 (sp 94 1) ∷ en 5 (sp 101 1) ∷ en 4 (sp 108 1) ∷ en 3 (sp 115 1) ∷ en 2 (sp 122 1) ∷ en 1 (sp 129 1) ∷ en 0 (sp 136 1) ∷ []);
    objects = (ob OS (sp 232 2) (sp 235 1) (sp 0 0) ∷ ob APPMODE (sp 237 7) (sp 245 1) (sp 0 0) ∷ ob TASK (sp 247 4) (sp 252 1) (sp 0 0) ∷ []);
    values = (va 13 (of_object 2) (enumerator 0) false (sp 220 1) ∷ va 12 (of_value 0) (enumerator 1) false (sp 214 1) ∷ va 11 (of_value 1) (enumerator 2) false (sp 208 1) ∷ va 10 (of_value 2) (enumerator 3) false (sp 202 1) ∷ va 9 (of_value 3) (enumerator 4) false (sp 196 1) ∷ va 8 (of_value 4) (enumerator 5) false (sp 190 1) ∷ va 7 (of_value 5) (enumerator 6) false (sp 184 1) ∷ va 6 (of_value 6) (enumerator 7) false (sp 178 1) ∷ va 5 (of_value 7) (enumerator 8) false (sp 172 1) ∷ va 4 (of_value 8) (enumerator 9) false (sp 166 1) ∷ va 3 (of_value 9) (enumerator 10) false (sp 160 1) ∷ va 2 (of_value 10) (enumerator 11) false (sp 154 1) ∷ va 1 (of_value 11) (enumerator 12) false (sp 148 1) ∷ va 0 (of_value 12) (enumerator 13) false (sp 142 1) ∷ []);
    counts = (1 ∷ 1 ∷ 1 ∷ 0 ∷ 0 ∷ 0 ∷ 0 ∷ 0 ∷ 0 ∷ 0 ∷ 0 ∷ 0 ∷ 0 ∷ []);
  }),
  bytes_of "OIL_VERSION = \"2.5\";\nIMPLEMENTATION m{TASK{ENUM[A{ENUM[A{ENUM[A{ENUM[A{ENUM[A{ENUM[A{ENUM[A{ENUM[A{ENUM[A{ENUM[A{ENUM[A{ENUM[A{ENUM[A{ENUM[A{}]E=A;}]E=A;}]E=A;}]E=A;}]E=A;}]E=A;}]E=A;}]E=A;}]E=A;}]E=A;}]E=A;}]E=A;}]E=A;}]E=A;};};\nCPU c {\nOS o {\n};\nAPPMODE a {\n};\nTASK t {\nE = A {\nE = A {\nE = A {\nE = A {\nE = A {\nE = A {\nE = A {\nE = A {\nE = A {\nE = A {\nE = A {\nE = A {\nE = A {\nE = A;\n};\n};\n};\n};\n};\n};\n};\n};\n};\n};\n};\n};\n};\n};\n};\n",
)
unfolding everything
ok_sixteen = refl

ok_rich : whole (bytes_of "OIL_VERSION = \"2.5\" : \"v\"; /* c */\nIMPLEMENTATION m {\n  OS { ENUM [STANDARD, EXTENDED { UINT32 DEPTH = 3; }] STATUS = EXTENDED; };\n  TASK {\n    BOOLEAN [TRUE { APPMODE_TYPE APPMODE[]; }, FALSE] AUTOSTART = FALSE;\n    UINT32 WITH_AUTO [0..15] PRIORITY = AUTO;\n    ENUM [NON, FULL { STRING WHY = \"x y\"; INT64 LOW = -1; }] SCHEDULE[] = FULL;\n    EVENT_TYPE EVENT[]; RESOURCE_TYPE RESOURCE[]; INT32 [-5, +7, -0] OFF[];\n  };\n  EVENT { UINT64 WITH_AUTO MASK = AUTO; };\n} : \"d\" ;\nCPU c {\n  TASK t1 { EVENT = e2; AUTOSTART = TRUE { APPMODE = a; APPMODE = a; }; EVENT = e1; OFF = -5; OFF = 7; OFF = +0; PRIORITY = 7 : \"p\"; };\n  EVENT e1; EVENT e2 { MASK = 18446744073709551615; } : \"q\";\n  APPMODE a; OS o { STATUS = STANDARD; };\n  TASK t2 { SCHEDULE = NON; SCHEDULE = FULL { WHY = \"\"; LOW = -9223372036854775808; }; };\n  TASK TASK;\n};") ≡ (
  accepted (record {
    definitions = (df (sp 77 8) (sp 95 5) (sp 88 6) false false (sp 0 0) (sp 103 1) (integer UINT32) ∷ df (sp 56 2) (sp 109 6) (sp 61 4) false false (sp 66 42) (sp 118 8) enum ∷ df (sp 153 4) (sp 173 7) (sp 160 12) true false (sp 0 0) (sp 0 0) (reference APPMODE) ∷ df (sp 133 4) (sp 194 9) (sp 144 7) false false (sp 152 41) (sp 206 5) boolean ∷ df (sp 133 4) (sp 242 8) (sp 217 6) false true (sp 234 7) (sp 253 4) (integer UINT32) ∷ df (sp 274 4) (sp 288 3) (sp 281 6) false false (sp 0 0) (sp 294 5) string-type ∷ df (sp 274 4) (sp 307 3) (sp 301 5) false false (sp 0 0) (sp 313 2) (integer INT64) ∷ df (sp 133 4) (sp 320 8) (sp 263 4) true false (sp 268 51) (sp 333 4) enum ∷ df (sp 133 4) (sp 354 5) (sp 343 10) true false (sp 0 0) (sp 0 0) (reference EVENT) ∷ df (sp 133 4) (sp 377 8) (sp 363 13) true false (sp 0 0) (sp 0 0) (reference RESOURCE) ∷ df (sp 133 4) (sp 408 3) (sp 389 5) true false (sp 395 12) (sp 0 0) (integer INT32) ∷ df (sp 422 5) (sp 447 4) (sp 430 6) false true (sp 0 0) (sp 454 4) (integer UINT64) ∷ []);
    enumerators = (en 1 (sp 67 8) ∷ en 1 (sp 77 8) ∷ en 7 (sp 269 3) ∷ en 7 (sp 274 4) ∷ []);
    objects = (ob TASK (sp 483 4) (sp 488 2) (sp 491 124) ∷ ob EVENT (sp 619 5) (sp 625 2) (sp 0 0) ∷ ob EVENT (sp 629 5) (sp 635 2) (sp 638 32) ∷ ob APPMODE (sp 680 7) (sp 688 1) (sp 0 0) ∷ ob OS (sp 691 2) (sp 694 1) (sp 696 22) ∷ ob TASK (sp 722 4) (sp 727 2) (sp 730 78) ∷ ob TASK (sp 812 4) (sp 817 4) (sp 0 0) ∷ []);
    values = (va 3 (of_object 0) (truth true) true (sp 517 4) ∷ va 2 (of_value 0) (object 3) true (sp 534 1) ∷ va 2 (of_value 0) (object 3) true (sp 547 1) ∷ va 4 (of_object 0) (number (record { negative = false; amount = 7 })) true (sp 605 1) ∷ va 7 (of_object 0) (enumerator 3) false (sp 333 4) ∷ va 5 (of_value 4) string false (sp 294 5) ∷ va 6 (of_value 4) (number (record { negative = true; amount = 1 })) false (sp 313 2) ∷ va 8 (of_object 0) (object 2) true (sp 501 2) ∷ va 8 (of_object 0) (object 1) true (sp 561 2) ∷ va 10 (of_object 0) (number (record { negative = true; amount = 5 })) true (sp 571 2) ∷ va 10 (of_object 0) (number (record { negative = false; amount = 7 })) true (sp 581 1) ∷ va 10 (of_object 0) (number (record { negative = false; amount = 0 })) true (sp 590 2) ∷ va 11 (of_object 1) auto false (sp 454 4) ∷ va 11 (of_object 2) (number (record { negative = false; amount = 18446744073709551615 })) true (sp 647 20) ∷ va 1 (of_object 4) (enumerator 0) true (sp 707 8) ∷ va 3 (of_object 5) (truth false) false (sp 206 5) ∷ va 4 (of_object 5) auto false (sp 253 4) ∷ va 7 (of_object 5) (enumerator 2) true (sp 743 3) ∷ va 7 (of_object 5) (enumerator 3) true (sp 759 4) ∷ va 5 (of_value 18) string true (sp 772 2) ∷ va 6 (of_value 18) (number (record { negative = true; amount = 9223372036854775808 })) true (sp 782 20) ∷ va 3 (of_object 6) (truth false) false (sp 206 5) ∷ va 4 (of_object 6) auto false (sp 253 4) ∷ va 7 (of_object 6) (enumerator 3) false (sp 333 4) ∷ va 5 (of_value 23) string false (sp 294 5) ∷ va 6 (of_value 23) (number (record { negative = true; amount = 1 })) false (sp 313 2) ∷ []);
    counts = (1 ∷ 1 ∷ 3 ∷ 0 ∷ 0 ∷ 0 ∷ 0 ∷ 2 ∷ 0 ∷ 0 ∷ 0 ∷ 0 ∷ 0 ∷ []);
  }),
  bytes_of "OIL_VERSION = \"2.5\";\nIMPLEMENTATION m {\n  OS { ENUM [STANDARD, EXTENDED { UINT32 DEPTH = 3; }] STATUS = EXTENDED; };\n  TASK {\n    BOOLEAN [TRUE { APPMODE_TYPE APPMODE[]; }, FALSE] AUTOSTART = FALSE;\n    UINT32 WITH_AUTO [0..15] PRIORITY = AUTO;\n    ENUM [NON, FULL { STRING WHY = \"x y\"; INT64 LOW = -1; }] SCHEDULE[] = FULL;\n    EVENT_TYPE EVENT[]; RESOURCE_TYPE RESOURCE[]; INT32 [-5, +7, -0] OFF[];\n  };\n  EVENT { UINT64 WITH_AUTO MASK = AUTO; };\n} : \"d\" ;\nCPU c {\nTASK t1 {\nAUTOSTART = TRUE {\nAPPMODE = a;\nAPPMODE = a;\n};\nPRIORITY = 7;\nSCHEDULE = FULL {\nWHY = \"x y\";\nLOW = -1;\n};\nEVENT = e2;\nEVENT = e1;\nOFF = -5;\nOFF = 7;\nOFF = 0;\n};\nEVENT e1 {\nMASK = AUTO;\n};\nEVENT e2 {\nMASK = 18446744073709551615;\n};\nAPPMODE a {\n};\nOS o {\nSTATUS = STANDARD;\n};\nTASK t2 {\nAUTOSTART = FALSE;\nPRIORITY = AUTO;\nSCHEDULE = NON;\nSCHEDULE = FULL {\nWHY = \"\";\nLOW = -9223372036854775808;\n};\n};\nTASK TASK {\nAUTOSTART = FALSE;\nPRIORITY = AUTO;\nSCHEDULE = FULL {\nWHY = \"x y\";\nLOW = -1;\n};\n};\n};\n",
)
unfolding everything
ok_rich = refl

v4_ends_early : reading (bytes_of "OIL_VERSION=\"2.5\";IMPLEMENTATION m{};CPU c{OS o;APPMODE a;} // end") ≡ refused 4 66
unfolding everything
v4_ends_early = refl

ok_lists : whole (bytes_of "OIL_VERSION=\"2.5\";IMPLEMENTATION m{OS{UINT32 A[]=5;UINT32 B[]=NO_DEFAULT;BOOLEAN[TRUE{UINT32 L[];},FALSE]C=TRUE;STRING D=\"\";};};CPU c{APPMODE a{};OS o{};};") ≡ (
  accepted (record {
    definitions = (df (sp 35 2) (sp 45 1) (sp 38 6) true false (sp 0 0) (sp 49 1) (integer UINT32) ∷ df (sp 35 2) (sp 58 1) (sp 51 6) true false (sp 0 0) (sp 62 10) (integer UINT32) ∷ df (sp 81 4) (sp 93 1) (sp 86 6) true false (sp 0 0) (sp 0 0) (integer UINT32) ∷ df (sp 35 2) (sp 105 1) (sp 73 7) false false (sp 80 25) (sp 107 4) boolean ∷ df (sp 35 2) (sp 119 1) (sp 112 6) false false (sp 0 0) (sp 121 2) string-type ∷ []);
    enumerators = ([]);
    objects = (ob APPMODE (sp 134 7) (sp 142 1) (sp 143 2) ∷ ob OS (sp 146 2) (sp 149 1) (sp 150 2) ∷ []);
    values = (va 0 (of_object 1) (number (record { negative = false; amount = 5 })) false (sp 49 1) ∷ va 3 (of_object 1) (truth true) false (sp 107 4) ∷ va 4 (of_object 1) string false (sp 121 2) ∷ []);
    counts = (1 ∷ 1 ∷ 0 ∷ 0 ∷ 0 ∷ 0 ∷ 0 ∷ 0 ∷ 0 ∷ 0 ∷ 0 ∷ 0 ∷ 0 ∷ []);
  }),
  bytes_of "OIL_VERSION = \"2.5\";\nIMPLEMENTATION m{OS{UINT32 A[]=5;UINT32 B[]=NO_DEFAULT;BOOLEAN[TRUE{UINT32 L[];},FALSE]C=TRUE;STRING D=\"\";};};\nCPU c {\nAPPMODE a {\n};\nOS o {\nA = 5;\nC = TRUE;\nD = \"\";\n};\n};\n",
)
unfolding everything
ok_lists = refl

-- Floats (document 02, Q-4) -----------------------------------------------------------------------------------------------------------------

float_low_above_high : reading (bytes_of "OIL_VERSION=\"2.5\";IMPLEMENTATION m{OS{FLOAT[1.6..15.0e-1]F;};};CPU c{APPMODE a;OS o{F=1.5;};};") ≡ refused 21 44
unfolding everything
float_low_above_high = refl

float_default_below : reading (bytes_of "OIL_VERSION=\"2.5\";IMPLEMENTATION m{OS{FLOAT[-1.0e-64..1.5]F=-10.1E-65;};};CPU c{APPMODE a;OS o{};};") ≡ refused 3 60
unfolding everything
float_default_below = refl

float_default_outside : reading (bytes_of "OIL_VERSION=\"2.5\";IMPLEMENTATION m{OS{FLOAT[-1.0e-64..1.5]F=-1.1e-64;};};CPU c{APPMODE a;OS o{};};") ≡ refused 22 60
unfolding everything
float_default_outside = refl

float_auto : reading (bytes_of "OIL_VERSION=\"2.5\";IMPLEMENTATION m{OS{FLOAT F=AUTO;};};CPU c{APPMODE a;OS o{};};") ≡ refused 23 46
unfolding everything
float_auto = refl

float_whole : reading (bytes_of "OIL_VERSION=\"2.5\";IMPLEMENTATION m{OS{FLOAT F;};};CPU c{APPMODE a;OS o{F=1;};};") ≡ refused 15 73
unfolding everything
float_whole = refl

float_for_integer : reading (bytes_of "OIL_VERSION=\"2.5\";IMPLEMENTATION m{OS{UINT32 F;};};CPU c{APPMODE a;OS o{F=1.0;};};") ≡ refused 15 74
unfolding everything
float_for_integer = refl

float_above : reading (bytes_of "OIL_VERSION=\"2.5\";IMPLEMENTATION m{OS{FLOAT[-1.0..1.5]F;};};CPU c{APPMODE a;OS o{F=1.500000000000001;};};") ≡ refused 15 83
unfolding everything
float_above = refl

float_missing : reading (bytes_of "OIL_VERSION=\"2.5\";IMPLEMENTATION m{OS{FLOAT F;};};CPU c{APPMODE a;OS o{};};") ≡ refused 16 69
unfolding everything
float_missing = refl

float_normal : normal_text (bytes_of "OIL_VERSION=\"2.5\";IMPLEMENTATION m{OS{FLOAT WITH_AUTO[15.0e-1..1.50]F[]=00.15E+01;FLOAT Z=-0.0;};};CPU c{APPMODE a;OS o{F=1500.0e-3;F=AUTO;};};") ≡ bytes_of "OIL_VERSION = \"2.5\";\nIMPLEMENTATION m{OS{FLOAT WITH_AUTO[15.0e-1..1.50]F[]=00.15E+01;FLOAT Z=-0.0;};};\nCPU c {\nAPPMODE a {\n};\nOS o {\nF = 1500.0e-3;\nF = AUTO;\nZ = -0.0;\n};\n};\n"
unfolding everything
float_normal = refl
