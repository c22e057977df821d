-- The edges of document 01 ("Edges to try") and its worked example whole, by computation. Assumes nothing.
use mathlib.Core.Path.{◌≡◌, refl, ap, subst}
use mathlib.Core.List.{[], ◌∷◌}
use mathlib.Core.Bool.{true, false}
use Rattle.token.specs.Words.{bytes_of}
use Rattle.token.specs.Tokens.{step_at}
use Rattle.grammar.specs.Grammar.{OS, APPMODE, TASK, UINT32}
use Rattle.meaning.specs.Syntax.{integer, boolean}
use Rattle.meaning.specs.Resolving.{number, truth, of_object}
use Rattle.meaning.specs.Answers.{accepted, refused}
use Rattle.meaning.specs.Reading.{Answers, reading, normal_text}
use Rattle.meaning.specs.Edges.{Edge, Holds, EdgesHold}
use Rattle.meaning.proofs.Whole.{answers}
use Rattle.meaning.proofs.Everything.{everything, whole, sp, df, ob, va}

-- The starred edges --------------------------------------------------------------------------------------------------------------------------

-- By computing `reading`, which gives the rules' answer.
holds : (e : Edge) → step_at (bytes_of e.text) 0 ≡ e.first → whole (bytes_of e.text) ≡ (e.answer, bytes_of e.normal) → Holds e
unfolding whole reading normal_text
holds e p q = record {
  first = p;
  answer = subst (λ a. Answers (bytes_of e.text) a) (ap (λ x. x.0) q) (answers (bytes_of e.text));
  normal = ap (λ x. x.1) q;
}

pub edges_hold : EdgesHold
unfolding everything
edges_hold = (
  holds _ refl refl,
  (
    holds _ refl refl,
    (
      holds _ refl refl,
      (
        holds _ refl refl,
        (
          holds _ refl refl,
          (
            holds _ refl refl,
            (holds _ refl refl, (holds _ refl refl, (holds _ refl refl, (holds _ refl refl, (holds _ refl refl, tt))))),
          ),
        ),
      ),
    ),
  ),
)

-- "In it STACKSIZE 0 and 256 give 15, 1 and 255 pass" -----------------------------------------------------------------------------------------

worked_0 : reading (bytes_of "OIL_VERSION = \"2.5\";\nIMPLEMENTATION m { OS { BOOLEAN H = FALSE; }; TASK { UINT32 [1..0xff] STACKSIZE = 16; }; };\nCPU c { OS o; APPMODE a {}; TASK t { STACKSIZE = 0; }; };") ≡ refused 15 162
unfolding everything
worked_0 = refl

worked_256 : reading (bytes_of "OIL_VERSION = \"2.5\";\nIMPLEMENTATION m { OS { BOOLEAN H = FALSE; }; TASK { UINT32 [1..0xff] STACKSIZE = 16; }; };\nCPU c { OS o; APPMODE a {}; TASK t { STACKSIZE = 256; }; };") ≡ refused 15 162
unfolding everything
worked_256 = refl

worked_1 : whole (bytes_of "OIL_VERSION = \"2.5\";\nIMPLEMENTATION m { OS { BOOLEAN H = FALSE; }; TASK { UINT32 [1..0xff] STACKSIZE = 16; }; };\nCPU c { OS o; APPMODE a {}; TASK t { STACKSIZE = 1; }; };") ≡ (
  accepted (record {
    definitions = (df (sp 40 2) (sp 53 1) (sp 45 7) false false (sp 0 0) (sp 57 5) boolean ∷ df (sp 67 4) (sp 91 9) (sp 74 6) false false (sp 81 9) (sp 103 2) (integer UINT32) ∷ []);
    enumerators = ([]);
    objects = (ob OS (sp 121 2) (sp 124 1) (sp 0 0) ∷ ob APPMODE (sp 127 7) (sp 135 1) (sp 137 2) ∷ ob TASK (sp 141 4) (sp 146 1) (sp 148 18) ∷ []);
    values = (va 0 (of_object 0) (truth false) false (sp 57 5) ∷ va 1 (of_object 2) (number (record { negative = false; amount = 1 })) true (sp 162 1) ∷ []);
    counts = (1 ∷ 1 ∷ 1 ∷ 0 ∷ 0 ∷ 0 ∷ 0 ∷ 0 ∷ 0 ∷ 0 ∷ 0 ∷ 0 ∷ 0 ∷ []);
  }),
  bytes_of "OIL_VERSION = \"2.5\";\nIMPLEMENTATION m { OS { BOOLEAN H = FALSE; }; TASK { UINT32 [1..0xff] STACKSIZE = 16; }; };\nCPU c {\nOS o {\nH = FALSE;\n};\nAPPMODE a {\n};\nTASK t {\nSTACKSIZE = 1;\n};\n};\n",
)
unfolding everything
worked_1 = refl

worked_255 : whole (bytes_of "OIL_VERSION = \"2.5\";\nIMPLEMENTATION m { OS { BOOLEAN H = FALSE; }; TASK { UINT32 [1..0xff] STACKSIZE = 16; }; };\nCPU c { OS o; APPMODE a {}; TASK t { STACKSIZE = 255; }; };") ≡ (
  accepted (record {
    definitions = (df (sp 40 2) (sp 53 1) (sp 45 7) false false (sp 0 0) (sp 57 5) boolean ∷ df (sp 67 4) (sp 91 9) (sp 74 6) false false (sp 81 9) (sp 103 2) (integer UINT32) ∷ []);
    enumerators = ([]);
    objects = (ob OS (sp 121 2) (sp 124 1) (sp 0 0) ∷ ob APPMODE (sp 127 7) (sp 135 1) (sp 137 2) ∷ ob TASK (sp 141 4) (sp 146 1) (sp 148 20) ∷ []);
    values = (va 0 (of_object 0) (truth false) false (sp 57 5) ∷ va 1 (of_object 2) (number (record { negative = false; amount = 255 })) true (sp 162 3) ∷ []);
    counts = (1 ∷ 1 ∷ 1 ∷ 0 ∷ 0 ∷ 0 ∷ 0 ∷ 0 ∷ 0 ∷ 0 ∷ 0 ∷ 0 ∷ 0 ∷ []);
  }),
  bytes_of "OIL_VERSION = \"2.5\";\nIMPLEMENTATION m { OS { BOOLEAN H = FALSE; }; TASK { UINT32 [1..0xff] STACKSIZE = 16; }; };\nCPU c {\nOS o {\nH = FALSE;\n};\nAPPMODE a {\n};\nTASK t {\nSTACKSIZE = 255;\n};\n};\n",
)
unfolding everything
worked_255 = refl
