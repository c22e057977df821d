-- Pairs of texts with what the program prints of them, as an independent implementation gives it. Assumes nothing.
use Rattle.std.specs.Prelude.{◌≡◌, List, ℕ}
use Rattle.token.specs.Words.{bytes_of}
use Rattle.comparing.specs.Differences.{compare_texts}
use Rattle.comparing.specs.Reports.{report}

abbrev pub a1 : List ℕ
a1 = bytes_of "OIL_VERSION = \"2.5\";\nIMPLEMENTATION m { OS { BOOLEAN H = FALSE; }; TASK { UINT32 [1..0xff] STACKSIZE = 16; }; };\nCPU c { OS o; APPMODE a {}; TASK t { STACKSIZE = 0x20; }; TASK u; };\n"

abbrev pub b1 : List ℕ
b1 = bytes_of "OIL_VERSION = \"2.5\";\nIMPLEMENTATION m { OS { BOOLEAN H = TRUE; }; TASK { UINT32 STACKSIZE = 16; UINT32 P = 1; }; };\nCPU c { TASK v; TASK t; OS o; APPMODE a; };\n"

abbrev pub a2 : List ℕ
a2 = bytes_of "OIL_VERSION = \"2.5\";\nIMPLEMENTATION m { OS { ENUM [A { UINT32 x = 1; EVENT_TYPE E[]; }, B { UINT32 x = 2; STRING s = \"q\"; }] K = A; STRING L[]; }; EVENT { }; };\nCPU c { OS o { L = \"x\"; L = \"yz\"; K = A { E = e1; E = e2; }; }; APPMODE a; EVENT e1; EVENT e2; };\n"

abbrev pub b2 : List ℕ
b2 = bytes_of "OIL_VERSION = \"2.5\";\nIMPLEMENTATION m { OS { STRING L = \"x\"; ENUM [A { UINT32 x = 1; EVENT_TYPE E[]; }, B { UINT32 x = 2; STRING s = \"q\"; }] K = B; TASK_TYPE T; }; };\nCPU c { APPMODE a; OS o { T = e1; }; TASK e1; EVENT e2; };\n"

abbrev pub b3 : List ℕ
b3 = bytes_of "OIL_VERSION = \"2.5\";\nIMPLEMENTATION m { OS { ENUM [A { UINT32 x = 1; EVENT_TYPE E[]; }] K = A; INT32 y; STRING L[]; }; EVENT { }; };\nCPU c { EVENT e2; EVENT e1; OS o { L = \"x\"; K = A { E = e2; E = e1; x = 7; }; y = -1; }; APPMODE a; };\n"

-- "Given or defaulted makes no difference, nor does object order; a reference counts by kind and name, an enumerator by name, a float by amount".
abbrev pub a4 : List ℕ
a4 = bytes_of "OIL_VERSION = \"2.5\";\nIMPLEMENTATION m { OS { UINT32 n = 5; ENUM [A, B] K = B; FLOAT f = 1.50; TASK_TYPE T; }; };\nCPU c { OS o { T = t; }; APPMODE a; TASK t; };\n"

abbrev pub b4 : List ℕ
b4 = bytes_of "OIL_VERSION = \"2.5\";\nIMPLEMENTATION m { OS { FLOAT f; ENUM [B, C] K; UINT32 n; TASK_TYPE T; }; };\nCPU c { TASK t; APPMODE a; OS o { T = t; n = 0x5; K = B; f = 15.0e-1; }; };\n"

-- "values of two sorts differ": an enumerator and a reference of one name, references to two kinds, a number and a float, a string and TRUE.
abbrev pub a5 : List ℕ
a5 = bytes_of "OIL_VERSION = \"2.5\";\nIMPLEMENTATION m { OS { ENUM [r] e; TASK_TYPE t; UINT32 n; STRING s = \"x\"; }; };\nCPU c { OS o { e = r; t = r; n = 1; }; APPMODE a; TASK r; };\n"

abbrev pub b5 : List ℕ
b5 = bytes_of "OIL_VERSION = \"2.5\";\nIMPLEMENTATION m { OS { EVENT_TYPE e; EVENT_TYPE t; FLOAT n; BOOLEAN s; }; };\nCPU c { OS o { e = r; t = r; n = 1.0; s = TRUE; }; APPMODE a; EVENT r; };\n"

abbrev pub bad : List ℕ
bad = bytes_of "OIL_VERSION = 2;"

abbrev pub ValuesAndObjects : Type 0
ValuesAndObjects = report (compare_texts a1 b1) ≡ bytes_of "both\tOS\to\tH\tFALSE\tTRUE\nboth\tTASK\tt\tSTACKSIZE\t32\t16\nsecond\tTASK\tt\tP\t\t1\nfirst\tTASK\tu\t\t\t\nsecond\tTASK\tv\t\t\t\ntotal\t5\n"

abbrev pub ListsAndScopes : Type 0
ListsAndScopes = report (compare_texts a2 b2) ≡ bytes_of "both\tOS\to\tK\tA\tB\nboth\tOS\to\tK.x\t1\t2\nfirst\tOS\to\tK.E[0]\te1\t\nfirst\tOS\to\tK.E[1]\te2\t\nfirst\tOS\to\tL[0]\t78\t\nfirst\tOS\to\tL[1]\t797a\t\nsecond\tOS\to\tL\t\t78\nsecond\tOS\to\tK.s\t\t71\nsecond\tOS\to\tT\t\te1\nfirst\tEVENT\te1\t\t\t\nsecond\tTASK\te1\t\t\t\ntotal\t11\n"

abbrev pub OrderOfObjects : Type 0
OrderOfObjects = report (compare_texts a2 b3) ≡ bytes_of "both\tOS\to\tK.x\t1\t7\nboth\tOS\to\tK.E[0]\te1\te2\nboth\tOS\to\tK.E[1]\te2\te1\nfirst\tOS\to\tL[1]\t797a\t\nsecond\tOS\to\ty\t\t-1\ntotal\t5\n"

abbrev pub NoDifference : Type 0
NoDifference = report (compare_texts a4 b4) ≡ bytes_of "total\t0\n"

abbrev pub TwoSorts : Type 0
TwoSorts = report (compare_texts a5 b5) ≡ bytes_of "both\tOS\to\te\tr\tr\nboth\tOS\to\tt\tr\tr\nboth\tOS\to\tn\t1\t1.0\nboth\tOS\to\ts\t78\tTRUE\nfirst\tTASK\tr\t\t\t\nsecond\tEVENT\tr\t\t\t\ntotal\t6\n"

abbrev pub SecondRefused : Type 0
SecondRefused = report (compare_texts a1 bad) ≡ bytes_of "refused\t2\t4\t14\n"

abbrev pub BothRefused : Type 0
BothRefused = report (compare_texts bad bad) ≡ bytes_of "refused\t1\t4\t14\n"
