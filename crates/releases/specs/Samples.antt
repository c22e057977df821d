-- What becomes of a lent list, and what is answered. Assumes nothing.
use Rattle.std.specs.Prelude.{◌≡◌, List, [], ◌∷◌, ℕ, drop, replicate}
use Rattle.token.specs.Words.{bytes_of}
use Rattle.comparing.specs.Differences.{compare_texts}
use Rattle.comparing.specs.Samples.{a1, b1, bad}
use Rattle.comparing.specs.declared.Difference.{Difference}
use Rattle.releases.specs.Promises.{list_after, answer_for}

-- An entry of the lent list as it was.
abbrev pub entry : Difference
entry = record { first_object = 9; second_object = 9; first_value = 9; second_value = 9 }

-- Sixty-five entries of a list in the first text, none in the second.
abbrev pub a6 : List ℕ
a6 = bytes_of "OIL_VERSION = \"2.5\";\nIMPLEMENTATION m { OS { UINT32 L[]; }; };\nCPU c { OS o { L=1;L=1;L=1;L=1;L=1;L=1;L=1;L=1;L=1;L=1;L=1;L=1;L=1;L=1;L=1;L=1;L=1;L=1;L=1;L=1;L=1;L=1;L=1;L=1;L=1;L=1;L=1;L=1;L=1;L=1;L=1;L=1;L=1;L=1;L=1;L=1;L=1;L=1;L=1;L=1;L=1;L=1;L=1;L=1;L=1;L=1;L=1;L=1;L=1;L=1;L=1;L=1;L=1;L=1;L=1;L=1;L=1;L=1;L=1;L=1;L=1;L=1;L=1;L=1;L=1; }; APPMODE a; };\n"

abbrev pub b6 : List ℕ
b6 = bytes_of "OIL_VERSION = \"2.5\";\nIMPLEMENTATION m { OS { UINT32 L[]; }; };\nCPU c { OS o; APPMODE a; };\n"

-- "as many as it holds": of five records three.
abbrev pub ThreeHeld : Type 0
ThreeHeld =
    list_after (compare_texts a1 b1) (entry ∷ entry ∷ entry ∷ [])
    ≡ (record { first_object = 1; second_object = 3; first_value = 1; second_value = 5 }
    ∷ record { first_object = 3; second_object = 2; first_value = 2; second_value = 3 }
    ∷ record { first_object = 3; second_object = 2; first_value = 0; second_value = 4 }
    ∷ [])

-- "Entries past those used stay": the sixth of six.
abbrev pub SixthStays : Type 0
SixthStays =
    drop 3 (list_after (compare_texts a1 b1) (replicate 6 entry))
    ≡ (record { first_object = 4; second_object = 0; first_value = 0; second_value = 0 }
    ∷ record { first_object = 0; second_object = 1; first_value = 0; second_value = 0 }
    ∷ entry
    ∷ [])

-- "at most 64": the 65th entry of 66 stays, though there is a 65th difference.
abbrev pub AtMost64 : Type 0
AtMost64 =
    drop 63 (list_after (compare_texts a6 b6) (replicate 66 entry))
    ≡ (record { first_object = 1; second_object = 1; first_value = 64; second_value = 0 } ∷ entry ∷ entry ∷ [])

-- "The true total is always told."
abbrev pub TrueTotal : Type 0
TrueTotal = answer_for (compare_texts a6 b6) ≡ record { which = 0; number = 0; place = 0; total = 65 }

-- "If a text is refused, say .. which (1 or 2), number and place .. and leave the list."
abbrev pub RefusedSaid : Type 0
RefusedSaid = answer_for (compare_texts a1 bad) ≡ record { which = 2; number = 4; place = 14; total = 0 }

abbrev pub ListLeft : Type 0
ListLeft = list_after (compare_texts a1 bad) (entry ∷ []) ≡ entry ∷ []
