-- The rules: one law for each way in which a reader answers. Assumes nothing.
use mathlib.Core.Path.{◌≡◌, refl, ◌∙◌}
use mathlib.Core.List.{List, [], ◌∷◌}
use mathlib.Core.Bool.{Bool, true, false}
use Prim.Native.Nat.{ℕ, ◌+◌, ◌*◌, ◌<◌, ◌≤◌}
use native.Mathlib.Decide.{ℕ_discrete}
use native.Mathlib.Omega.{arith}
use lib.Dec.{T, ltb, eqb}
use borrow.Author.Tests.{eqb-true, ne_eqb}
use Rattle.token.specs.Find.{either}
use Rattle.grammar.specs.Grammar.{Rule, Terminal, ◌·◌, ◌▸◌, ∎, matches, name, kind, type, integer, number, string, float, the, sg, TRUE, FALSE, AUTO, NO-DEFAULT, WITH-AUTO, STRING, BOOLEAN, ENUM, FLOAT, OIL-VERSION, IMPLEMENTATION, CPU, lbrace, rbrace, lsquare, rsquare, equals, semicolon, colon, comma, dots, Sort, integers, strings, booleans, enums, floats, file, version, implementation, specs, spec, definitions, definition, attribute, reference, D, P, auto, mark, integer_range, numbers, boolean_range, float_range, enumerator, enumerators, default, own, application, objects, object, block, statements, statement, value, file_is, version_is, implementation_is, a_spec, spec_is, a_definition, an_attribute, a_reference, an_integer, a_string, a_boolean, an_enum, a_float, reference_is, a_D, a_P, with_auto, a_mark, a_number, a_boolean_range, a_float_range, enumerator_is, an_enumerator, a_default, own_auto, own_none, own_number, own_string, own_true, own_false, own_name, own_float, application_is, an_object, a_block, a_statement, statement_is, value_number, value_string, value_float, value_auto, value_name, value_true, value_false}
use Rattle.grammar.specs.Factored.{Nonterminal, paper, span, Symbols, lift, ◌⟹◌, keep, kept, choices, object_is, range_is, up_to, many_numbers}
use Rattle.grammar.specs.Machine.{nullable, nullable_form, starts}
use Rattle.grammar.proofs.Checks.{takes}
use Rattle.grammar.proofs.Uniqueness.{takes_tok}
use Rattle.grammar.proofs.Steps.{took_nil}
use Rattle.grammar.specs.Readers.{class_at, advanced, refusal, expected, fitting, left, rest, Reads, Meets}
use Rattle.grammar.proofs.Meeting.{Still, ◌⊳◌, loosen, take, not_taken, pass, not_begun, form, only, again, done, fell, went_on}
use Rattle.grammar.specs.declared.Look.{Look}
use Rattle.grammar.proofs.Codes.{Yes, at_code, not_code, not_any, in_set, not_in}
use Rattle.grammar.proofs.Terminals.{number_is, string_is, rsquare_is}

pub nothing : {s : List ℕ} {a : Look} → Reads 0 ∎ s a a
nothing {s} {a} = record { reads = λ k. refl; falls = omega arith; took = λ h. (h, took_nil (rest s a)) }

-- A rule by a form that begins with a terminal.
pub enter : {x : Nonterminal} {t : Terminal} {g : Symbols} (p : x ⟹ (t · g)) {e : ℕ} {s : List ℕ} {a b r : Look} → Yes (matches t) a.code
    → b ≡ advanced s a → Reads e g s b r → Reads 1 (x ▸ ∎) s a r
enter {t} {g} p {a} y q m = form p (y.0, takes_tok t g (class_at a.code) ∙ y.1) (take t y q ⊳ m)

comma_at : {n : ℕ} → n ≡ 52 → Yes (matches (sg comma)) n
unfolding class_at matches
comma_at h = at_code (matches (sg comma)) 52 tt h

lsquare_at : {n : ℕ} → n ≡ 47 → Yes (matches (sg lsquare)) n
unfolding class_at matches
lsquare_at h = at_code (matches (sg lsquare)) 47 tt h

lbrace_at : {n : ℕ} → n ≡ 45 → Yes (matches (sg lbrace)) n
unfolding class_at matches
lbrace_at h = at_code (matches (sg lbrace)) 45 tt h

module _ {s : List ℕ} {a : Look} where
  -- Parts.
  pub D-pass : (a.code ≡ 51 → ⊥) → Meets 0 (D ▸ ∎) s a a
  unfolding nullable starts class_at
  D-pass h = pass (paper D) refl (not_code (starts (paper D)) 51 tt h)

  pub D-is : {b r : Look} → a.code ≡ 51 → b ≡ advanced s a → r ≡ expected s b 44 → Meets 0 (D ▸ ∎) s a r
  unfolding kept class_at matches
  D-is h p q = loosen (enter (keep a_D refl) (at_code (matches (sg colon)) 51 tt h) p (string_is q))

  pub auto_pass : (a.code ≡ 5 → ⊥) → Meets 0 (auto ▸ ∎) s a a
  unfolding nullable starts class_at
  auto_pass h = pass (paper auto) refl (not_code (starts (paper auto)) 5 tt h)

  pub auto_is : {r : Look} → a.code ≡ 5 → r ≡ advanced s a → Meets 0 (auto ▸ ∎) s a r
  unfolding kept class_at matches
  auto_is h p = loosen (enter (keep with_auto refl) (at_code (matches (the WITH-AUTO)) 5 tt h) p nothing)

  pub mark_pass : (a.code ≡ 47 → ⊥) → Meets 0 (mark ▸ ∎) s a a
  unfolding nullable starts class_at
  mark_pass h = pass (paper mark) refl (not_code (starts (paper mark)) 47 tt h)

  pub mark_is : {b r : Look} → a.code ≡ 47 → b ≡ advanced s a → r ≡ expected s b 48 → Meets 0 (mark ▸ ∎) s a r
  unfolding kept class_at matches
  mark_is h p q = loosen (enter (keep a_mark refl) (at_code (matches (sg lsquare)) 47 tt h) p (rsquare_is q))

  -- Ranges.
  pub number_item : {b r : Look} → a.code ≡ 52 → b ≡ advanced s a → r ≡ expected s b 43 → Meets 1 (sg comma · number · ∎) s a r
  number_item h p q = take (sg comma) (comma_at h) p ⊳ number_is q

  pub numbers_again : {o r : Look} → Still numbers s o a → a.code ≡ 52 → Meets 1 (sg comma · number · ∎) s a r → Still numbers s o r
  unfolding kept class_at takes
  numbers_again z h m = again (lift (sg comma · number · ∎)) (keep a_number refl) z (at_code (takes (lift (sg comma · number · numbers ▸ ∎))) 52 tt h) m

  pub comma_less : {f : Symbols} {r : Look} → a.code ≡ 52 → Reads 1 f s a r → left s r < left s a
  comma_less h m = fell (omega arith) m

  pub numbers_done : {o : Look} → Still numbers s o a → (a.code ≡ 52 → ⊥) → Meets 0 (numbers ▸ ∎) s o a
  unfolding nullable starts class_at
  numbers_done z h = done numbers z refl (not_code (starts (paper numbers)) 52 tt h)

  pub span_pass : (a.code ≡ 53 → ⊥) → (a.code ≡ 52 → ⊥) → Reads 0 (span ▸ ∎) s a a
  unfolding nullable starts class_at
  span_pass h i =
      pass span refl
      (not_any (starts span) ((λ n. eqb n 53) ∷ (λ n. eqb n 52) ∷ []) tt (ne_eqb a.code 53 h, (ne_eqb a.code 52 i, tt)))

  pub span_up : {b r : Look} → a.code ≡ 53 → b ≡ advanced s a → r ≡ expected s b 43 → Reads 0 (span ▸ ∎) s a r
  unfolding class_at matches
  span_up h p q = loosen (enter up_to (at_code (matches (sg dots)) 53 tt h) p (number_is q))

  pub span_many : {b c r : Look} → a.code ≡ 52 → b ≡ advanced s a → c ≡ expected s b 43 → Meets 0 (numbers ▸ ∎) s c r → Reads 0 (span ▸ ∎) s a r
  span_many h p q m = loosen (enter many_numbers (comma_at h) p (number_is q ⊳ m))

  pub range_pass : (a.code ≡ 47 → ⊥) → Meets 0 (integer_range ▸ ∎) s a a
  unfolding nullable starts class_at
  range_pass h = pass (paper integer_range) refl (not_code (starts (paper integer_range)) 47 tt h)

  pub range_by : {e : ℕ} {b r : Look} → a.code ≡ 47 → b ≡ advanced s a → Reads e (number · span ▸ sg rsquare · ∎) s b r → Meets 0 (integer_range ▸ ∎) s a r
  range_by h p m = loosen (enter range_is (lsquare_at h) p m)

  pub float_range_pass : (a.code ≡ 47 → ⊥) → Meets 0 (float_range ▸ ∎) s a a
  unfolding nullable starts class_at
  float_range_pass h = pass (paper float_range) refl (not_code (starts (paper float_range)) 47 tt h)

  pub float_range_by : {e : ℕ} {b r : Look} → a.code ≡ 47 → b ≡ advanced s a → Meets e (float · sg dots · float · sg rsquare · ∎) s b r
      → Meets 0 (float_range ▸ ∎) s a r
  unfolding kept
  float_range_by h p m = loosen (enter (keep a_float_range refl) (lsquare_at h) p m)

  -- Defaults.
  pub default_pass : (x : Sort) → (a.code ≡ 49 → ⊥) → Meets 0 (default x ▸ ∎) s a a
  unfolding nullable starts class_at
  default_pass integers h = pass (paper (default integers)) refl (not_code (starts (paper (default integers))) 49 tt h)
  default_pass strings h = pass (paper (default strings)) refl (not_code (starts (paper (default strings))) 49 tt h)
  default_pass booleans h = pass (paper (default booleans)) refl (not_code (starts (paper (default booleans))) 49 tt h)
  default_pass enums h = pass (paper (default enums)) refl (not_code (starts (paper (default enums))) 49 tt h)
  default_pass floats h = pass (paper (default floats)) refl (not_code (starts (paper (default floats))) 49 tt h)

  pub default_is : (x : Sort) {b r : Look} → a.code ≡ 49 → b ≡ advanced s a → Meets 1 (own x ▸ ∎) s b r → Meets 0 (default x ▸ ∎) s a r
  unfolding kept class_at matches
  default_is x h p m = loosen (enter (keep a_default refl) (at_code (matches (sg equals)) 49 tt h) p m)

  own_autos : (x : Sort) {r : Look} → a.code ≡ 3 → r ≡ advanced s a → Meets 1 (own x ▸ ∎) s a r
  unfolding kept class_at matches
  own_autos x h p = enter (keep own_auto refl) (at_code (matches (the AUTO)) 3 tt h) p nothing

  own_nones : (x : Sort) {r : Look} → a.code ≡ 4 → r ≡ advanced s a → Meets 1 (own x ▸ ∎) s a r
  unfolding kept class_at matches
  own_nones x h p = enter (keep own_none refl) (at_code (matches (the NO-DEFAULT)) 4 tt h) p nothing

  pub own_words : (x : Sort) {r : Look} → 3 ≤ a.code → a.code < 5 → r ≡ advanced s a → Meets 1 (own x ▸ ∎) s a r
  own_words x {r} l h p = by (ℕ_discrete a.code 3)
    where
      by : Dec (a.code ≡ 3) → Meets 1 (own x ▸ ∎) s a r
      by (yes e) = own_autos x e p
      by (no f) = own_nones x (omega arith) p

  pub own_fits : (x : Sort) {r : Look} → fitting x a.code ≡ true → r ≡ advanced s a → Meets 1 (own x ▸ ∎) s a r
  unfolding kept fitting class_at matches
  own_fits integers h p = enter (keep own_number refl) (at_code (matches number) 43 tt (eqb-true a.code 43 h)) p nothing
  own_fits strings h p = enter (keep own_string refl) (at_code (matches string) 44 tt (eqb-true a.code 44 h)) p nothing
  own_fits booleans {r} h p = go (eqb a.code 1) refl h
    where
      go : (b : Bool) → eqb a.code 1 ≡ b → either b (eqb a.code 2) ≡ true → Meets 1 (own booleans ▸ ∎) s a r
      go true e i = enter (keep own_true refl) (at_code (matches (the TRUE)) 1 tt (eqb-true a.code 1 e)) p nothing
      go false e i = enter (keep own_false refl) (at_code (matches (the FALSE)) 2 tt (eqb-true a.code 2 i)) p nothing
  own_fits floats h p = enter (keep own_float refl) (at_code (matches float) 54 tt (eqb-true a.code 54 h)) p nothing
  own_fits enums h p = enter (keep own_name refl) (in_set (matches name) (matches name) refl tt h) p nothing

  pub own_no : (x : Sort) {r : Look} → (a.code ≡ 3 → ⊥) → (a.code ≡ 4 → ⊥) → fitting x a.code ≡ false → r ≡ refusal a → Meets 1 (own x ▸ ∎) s a r
  unfolding nullable starts fitting class_at matches
  own_no integers h i j = not_begun (paper (own integers)) refl (not_any (starts (paper (own integers))) ((λ n. eqb n 3) ∷ (λ n. eqb n 4) ∷ (λ n. fitting integers n) ∷ []) tt (ne_eqb a.code 3 h, (ne_eqb a.code 4 i, (j, tt))))
  own_no strings h i j = not_begun (paper (own strings)) refl (not_any (starts (paper (own strings))) ((λ n. eqb n 3) ∷ (λ n. eqb n 4) ∷ (λ n. fitting strings n) ∷ []) tt (ne_eqb a.code 3 h, (ne_eqb a.code 4 i, (j, tt))))
  own_no booleans h i j = not_begun (paper (own booleans)) refl (not_any (starts (paper (own booleans))) ((λ n. eqb n 3) ∷ (λ n. eqb n 4) ∷ (λ n. fitting booleans n) ∷ []) tt (ne_eqb a.code 3 h, (ne_eqb a.code 4 i, (j, tt))))
  own_no floats h i j = not_begun (paper (own floats)) refl (not_any (starts (paper (own floats))) ((λ n. eqb n 3) ∷ (λ n. eqb n 4) ∷ (λ n. fitting floats n) ∷ []) tt (ne_eqb a.code 3 h, (ne_eqb a.code 4 i, (j, tt))))
  own_no enums h i j = not_begun (paper (own enums)) refl (not_any (starts (paper (own enums))) ((λ n. eqb n 3) ∷ (λ n. eqb n 4) ∷ (λ n. fitting enums n) ∷ []) tt (ne_eqb a.code 3 h, (ne_eqb a.code 4 i, (j, tt))))

  pub lsquare_taken : {r : Look} → a.code ≡ 47 → r ≡ advanced s a → Meets 1 (sg lsquare · ∎) s a r
  lsquare_taken h p = take (sg lsquare) (lsquare_at h) p

  -- Names and kinds.
  pub name_taken : {r : Look} → matches name (class_at a.code) ≡ true → r ≡ advanced s a → Meets 1 (name · ∎) s a r
  unfolding class_at matches
  name_taken h p = take name (in_set (matches name) (matches name) refl tt h) p

  pub kind_taken : {r : Look} → matches kind (class_at a.code) ≡ true → r ≡ advanced s a → Meets 1 (kind · ∎) s a r
  unfolding class_at matches
  kind_taken h p = take kind (in_set (matches kind) (matches kind) refl tt h) p

  pub name_no : {r : Look} → matches name (class_at a.code) ≡ false → r ≡ refusal a → Meets 1 (name · ∎) s a r
  name_no h p = not_taken name (λ _. h) p

  pub kind_no : {r : Look} → matches kind (class_at a.code) ≡ false → r ≡ refusal a → Meets 1 (kind · ∎) s a r
  kind_no h p = not_taken kind (λ _. h) p

  -- Definitions.
  pub P-pass : (a.code ≡ 45 → ⊥) → Meets 0 (P ▸ ∎) s a a
  unfolding nullable starts class_at
  P-pass h = pass (paper P) refl (not_code (starts (paper P)) 45 tt h)

  pub P-by : {e : ℕ} {b r : Look} → a.code ≡ 45 → b ≡ advanced s a → Meets e (definitions ▸ sg rbrace · ∎) s b r → Meets 0 (P ▸ ∎) s a r
  unfolding kept
  P-by h p m = loosen (enter (keep a_P refl) (lbrace_at h) p m)

  pub enumerator_by : {r : Look} → Meets 1 (name · P ▸ D ▸ ∎) s a r → Meets 1 (enumerator ▸ ∎) s a r
  unfolding kept choices nullable nullable_form
  enumerator_by m = only (keep enumerator_is refl) refl refl refl m

  pub enumerators_item : {b r : Look} → a.code ≡ 52 → b ≡ advanced s a → Meets 1 (enumerator ▸ ∎) s b r → Meets 1 (sg comma · enumerator ▸ ∎) s a r
  enumerators_item h p m = take (sg comma) (comma_at h) p ⊳ m

  pub enumerators_again : {o r : Look} → Still enumerators s o a → a.code ≡ 52 → Meets 1 (sg comma · enumerator ▸ ∎) s a r → Still enumerators s o r
  unfolding kept class_at takes
  enumerators_again z h m =
      again (lift (sg comma · enumerator ▸ ∎)) (keep an_enumerator refl) z (at_code (takes (lift (sg comma · enumerator ▸ enumerators ▸ ∎))) 52 tt h) m

  pub enumerators_done : {o : Look} → Still enumerators s o a → (a.code ≡ 52 → ⊥) → Meets 0 (enumerators ▸ ∎) s o a
  unfolding nullable starts class_at
  enumerators_done z h = done enumerators z refl (not_code (starts (paper enumerators)) 52 tt h)

  pub boolean_range_pass : (a.code ≡ 47 → ⊥) → Meets 0 (boolean_range ▸ ∎) s a a
  unfolding nullable starts class_at
  boolean_range_pass h = pass (paper boolean_range) refl (not_code (starts (paper boolean_range)) 47 tt h)

  pub boolean_range_by : {e : ℕ} {b r : Look} → a.code ≡ 47 → b ≡ advanced s a
      → Meets e (the TRUE · P ▸ D ▸ sg comma · the FALSE · P ▸ D ▸ sg rsquare · ∎) s b r → Meets 0 (boolean_range ▸ ∎) s a r
  unfolding kept
  boolean_range_by h p m = loosen (enter (keep a_boolean_range refl) (lsquare_at h) p m)

  pub boolean_by : {e : ℕ} {b r : Look} → a.code ≡ 40 → b ≡ advanced s a
      → Meets e (auto ▸ boolean_range ▸ name · mark ▸ default booleans ▸ D ▸ sg semicolon · ∎) s b r → Meets 1 (definition ▸ ∎) s a r
  unfolding kept class_at matches takes
  boolean_by h p m =
      form (keep an_attribute refl) (at_code (takes (lift (attribute ▸ ∎))) 40 tt h)
      (enter (keep a_boolean refl) (at_code (matches (the BOOLEAN)) 40 tt h) p m)

  pub enum_by : {e : ℕ} {b r : Look} → a.code ≡ 41 → b ≡ advanced s a
      → Meets e (auto ▸ sg lsquare · enumerator ▸ enumerators ▸ sg rsquare · name · mark ▸ default enums ▸ D ▸ sg semicolon · ∎) s b r
      → Meets 1 (definition ▸ ∎) s a r
  unfolding kept class_at matches takes
  enum_by h p m =
      form (keep an_attribute refl) (at_code (takes (lift (attribute ▸ ∎))) 41 tt h)
      (enter (keep an_enum refl) (at_code (matches (the ENUM)) 41 tt h) p m)

  pub string_by : {e : ℕ} {b r : Look} → a.code ≡ 39 → b ≡ advanced s a
      → Meets e (auto ▸ name · mark ▸ default strings ▸ D ▸ sg semicolon · ∎) s b r → Meets 1 (definition ▸ ∎) s a r
  unfolding kept class_at matches takes
  string_by h p m =
      form (keep an_attribute refl) (at_code (takes (lift (attribute ▸ ∎))) 39 tt h)
      (enter (keep a_string refl) (at_code (matches (the STRING)) 39 tt h) p m)

  pub float_by_lem : {e : ℕ} {b r : Look} → a.code ≡ 42 → b ≡ advanced s a
      → Meets e (auto ▸ float_range ▸ name · mark ▸ default floats ▸ D ▸ sg semicolon · ∎) s b r → Meets 1 (definition ▸ ∎) s a r
  unfolding kept class_at matches takes
  float_by_lem h p m =
      form (keep an_attribute refl) (at_code (takes (lift (attribute ▸ ∎))) 42 tt h)
      (enter (keep a_float refl) (at_code (matches (the FLOAT)) 42 tt h) p m)

  pub integer_by : {e : ℕ} {b r : Look} → matches integer (class_at a.code) ≡ true → b ≡ advanced s a
      → Meets e (auto ▸ integer_range ▸ name · mark ▸ default integers ▸ D ▸ sg semicolon · ∎) s b r → Meets 1 (definition ▸ ∎) s a r
  unfolding kept class_at matches takes
  integer_by h p m =
      form (keep an_attribute refl) (in_set (matches integer) (takes (lift (attribute ▸ ∎))) refl tt h)
      (enter (keep an_integer refl) (in_set (matches integer) (matches integer) refl tt h) p m)

  pub reference_by : {e : ℕ} {b r : Look} → matches type (class_at a.code) ≡ true → b ≡ advanced s a
      → Meets e (name · mark ▸ D ▸ sg semicolon · ∎) s b r → Meets 1 (definition ▸ ∎) s a r
  unfolding kept class_at matches takes
  reference_by h p m =
      form (keep a_reference refl) (in_set (matches type) (takes (lift (reference ▸ ∎))) refl tt h)
      (enter (keep reference_is refl) (in_set (matches type) (matches type) refl tt h) p m)

  pub definition_no : {r : Look} → (a.code ≡ 40 → ⊥) → (a.code ≡ 41 → ⊥) → (a.code ≡ 39 → ⊥) → matches integer (class_at a.code) ≡ false
      → matches type (class_at a.code) ≡ false → (a.code ≡ 42 → ⊥) → r ≡ refusal a → Meets 1 (definition ▸ ∎) s a r
  unfolding nullable starts class_at matches
  definition_no h i j k l m =
      not_begun (paper definition) refl
      (not_any (starts (paper definition))
      ((λ n. eqb n 40) ∷ (λ n. eqb n 41) ∷ (λ n. eqb n 39) ∷ (λ n. matches integer (class_at n)) ∷ (λ n. matches type (class_at n)) ∷ (λ n. eqb n 42) ∷ []) tt
      (ne_eqb a.code 40 h, (ne_eqb a.code 41 i, (ne_eqb a.code 39 j, (k, (l, (ne_eqb a.code 42 m, tt)))))))

  pub definitions_again : {o r : Look} → Still definitions s o a → starts (paper definition) (class_at a.code) ≡ true → Meets 1 (definition ▸ ∎) s a r
      → Still definitions s o r
  unfolding kept class_at takes starts
  definitions_again z h m =
      again (lift (definition ▸ ∎)) (keep a_definition refl) z (in_set (starts (paper definition)) (takes (lift (definition ▸ definitions ▸ ∎))) refl tt h) m

  pub definitions_done : {o : Look} → Still definitions s o a → starts (paper definition) (class_at a.code) ≡ false → Meets 0 (definitions ▸ ∎) s o a
  unfolding nullable starts class_at
  definitions_done z h = done definitions z refl (not_in (starts (paper definition)) (starts (paper definitions)) tt h)

  pub definitions_less : {r : Look} → starts (paper definition) (class_at a.code) ≡ true → Meets 1 (definition ▸ ∎) s a r → left s r < left s a
  unfolding starts class_at
  definitions_less h m = fell (in_set (starts (paper definition)) (starts (paper definition)) refl tt h).0 m

  -- Statements.
  pub block_pass : (a.code ≡ 45 → ⊥) → Meets 0 (block ▸ ∎) s a a
  unfolding nullable starts class_at
  block_pass h = pass (paper block) refl (not_code (starts (paper block)) 45 tt h)

  pub block_by : {e : ℕ} {b r : Look} → a.code ≡ 45 → b ≡ advanced s a → Meets e (statements ▸ sg rbrace · ∎) s b r → Meets 0 (block ▸ ∎) s a r
  unfolding kept
  block_by h p m = loosen (enter (keep a_block refl) (lbrace_at h) p m)

  pub value_numbers : {r : Look} → a.code ≡ 43 → r ≡ advanced s a → Meets 1 (value ▸ ∎) s a r
  unfolding kept class_at matches
  value_numbers h p = enter (keep value_number refl) (at_code (matches number) 43 tt h) p nothing

  pub value_strings : {r : Look} → a.code ≡ 44 → r ≡ advanced s a → Meets 1 (value ▸ ∎) s a r
  unfolding kept class_at matches
  value_strings h p = enter (keep value_string refl) (at_code (matches string) 44 tt h) p nothing

  pub value_floats : {r : Look} → a.code ≡ 54 → r ≡ advanced s a → Meets 1 (value ▸ ∎) s a r
  unfolding kept class_at matches
  value_floats h p = enter (keep value_float refl) (at_code (matches float) 54 tt h) p nothing

  pub value_autos : {r : Look} → a.code ≡ 3 → r ≡ advanced s a → Meets 1 (value ▸ ∎) s a r
  unfolding kept class_at matches
  value_autos h p = enter (keep value_auto refl) (at_code (matches (the AUTO)) 3 tt h) p nothing

  pub value_trues : {b r : Look} → a.code ≡ 1 → b ≡ advanced s a → Meets 0 (block ▸ ∎) s b r → Meets 1 (value ▸ ∎) s a r
  unfolding kept class_at matches
  value_trues h p m = enter (keep value_true refl) (at_code (matches (the TRUE)) 1 tt h) p m

  pub value_falses : {b r : Look} → a.code ≡ 2 → b ≡ advanced s a → Meets 0 (block ▸ ∎) s b r → Meets 1 (value ▸ ∎) s a r
  unfolding kept class_at matches
  value_falses h p m = enter (keep value_false refl) (at_code (matches (the FALSE)) 2 tt h) p m

  pub value_names : {b r : Look} → matches name (class_at a.code) ≡ true → b ≡ advanced s a → Meets 0 (block ▸ ∎) s b r → Meets 1 (value ▸ ∎) s a r
  unfolding kept class_at matches
  value_names h p m = enter (keep value_name refl) (in_set (matches name) (matches name) refl tt h) p m

  pub value_no : {r : Look} → (a.code ≡ 43 → ⊥) → (a.code ≡ 44 → ⊥) → (a.code ≡ 3 → ⊥) → (a.code ≡ 1 → ⊥) → (a.code ≡ 2 → ⊥)
      → matches name (class_at a.code) ≡ false → (a.code ≡ 54 → ⊥) → r ≡ refusal a → Meets 1 (value ▸ ∎) s a r
  unfolding nullable starts class_at matches
  value_no h i j k l m o =
      not_begun (paper value) refl
      (not_any (starts (paper value))
      ((λ n. eqb n 43) ∷ (λ n. eqb n 44) ∷ (λ n. eqb n 3) ∷ (λ n. eqb n 1) ∷ (λ n. eqb n 2) ∷ (λ n. matches name (class_at n)) ∷ (λ n. eqb n 54) ∷ []) tt
      (ne_eqb a.code 43 h, (ne_eqb a.code 44 i, (ne_eqb a.code 3 j, (ne_eqb a.code 1 k, (ne_eqb a.code 2 l, (m, (ne_eqb a.code 54 o, tt))))))))

  pub statement_by : {r : Look} → Meets 1 (name · sg equals · value ▸ D ▸ sg semicolon · ∎) s a r → Meets 1 (statement ▸ ∎) s a r
  unfolding kept choices nullable nullable_form
  statement_by m = only (keep statement_is refl) refl refl refl m

  pub statements_again : {o r : Look} → Still statements s o a → matches name (class_at a.code) ≡ true → Meets 1 (statement ▸ ∎) s a r
      → Still statements s o r
  unfolding kept class_at takes matches
  statements_again z h m =
      again (lift (statement ▸ ∎)) (keep a_statement refl) z (in_set (matches name) (takes (lift (statement ▸ statements ▸ ∎))) refl tt h) m

  pub statements_done : {o : Look} → Still statements s o a → matches name (class_at a.code) ≡ false → Meets 0 (statements ▸ ∎) s o a
  unfolding nullable starts class_at matches
  statements_done z h = done statements z refl (not_in (matches name) (starts (paper statements)) tt h)

  pub name_less : {f : Symbols} {r : Look} → matches name (class_at a.code) ≡ true → Reads 1 f s a r → left s r < left s a
  unfolding matches class_at
  name_less h m = fell (in_set (matches name) (matches name) refl tt h).0 m

  -- The file.
  pub kind_less : {f : Symbols} {r : Look} → matches kind (class_at a.code) ≡ true → Reads 1 f s a r → left s r < left s a
  unfolding matches class_at
  kind_less h m = fell (in_set (matches kind) (matches kind) refl tt h).0 m

  pub version_by : {r : Look} → Meets 1 (the OIL-VERSION · sg equals · string · D ▸ sg semicolon · ∎) s a r → Meets 1 (version ▸ ∎) s a r
  unfolding kept choices nullable nullable_form
  version_by m = only (keep version_is refl) refl refl refl m

  pub spec_by : {r : Look} → Meets 1 (kind · sg lbrace · definitions ▸ sg rbrace · D ▸ sg semicolon · ∎) s a r → Meets 1 (spec ▸ ∎) s a r
  unfolding kept choices nullable nullable_form
  spec_by m = only (keep spec_is refl) refl refl refl m

  pub specs_again : {o r : Look} → Still specs s o a → matches kind (class_at a.code) ≡ true → Meets 1 (spec ▸ ∎) s a r → Still specs s o r
  unfolding kept class_at takes matches
  specs_again z h m = again (lift (spec ▸ ∎)) (keep a_spec refl) z (in_set (matches kind) (takes (lift (spec ▸ specs ▸ ∎))) refl tt h) m

  pub specs_done : {o : Look} → Still specs s o a → matches kind (class_at a.code) ≡ false → Meets 0 (specs ▸ ∎) s o a
  unfolding nullable starts class_at matches
  specs_done z h = done specs z refl (not_in (matches kind) (starts (paper specs)) tt h)

  pub implementation_by : {r : Look} → Meets 1 (the IMPLEMENTATION · name · sg lbrace · specs ▸ sg rbrace · D ▸ sg semicolon · ∎) s a r
      → Meets 1 (implementation ▸ ∎) s a r
  unfolding kept choices nullable nullable_form
  implementation_by m = only (keep implementation_is refl) refl refl refl m

  pub object_by : {r : Look} → Meets 1 (kind · name · block ▸ D ▸ sg semicolon · ∎) s a r → Meets 1 (object ▸ ∎) s a r
  unfolding choices nullable nullable_form
  object_by m = only object_is refl refl refl m

  pub objects_again : {o r : Look} → Still objects s o a → matches kind (class_at a.code) ≡ true → Meets 1 (object ▸ ∎) s a r → Still objects s o r
  unfolding kept class_at takes matches
  objects_again z h m = again (lift (object ▸ ∎)) (keep an_object refl) z (in_set (matches kind) (takes (lift (object ▸ objects ▸ ∎))) refl tt h) m

  pub objects_done : {o : Look} → Still objects s o a → matches kind (class_at a.code) ≡ false → Meets 0 (objects ▸ ∎) s o a
  unfolding nullable starts class_at matches
  objects_done z h = done objects z refl (not_in (matches kind) (starts (paper objects)) tt h)

  pub application_by : {r : Look} → Meets 1 (the CPU · name · sg lbrace · objects ▸ sg rbrace · D ▸ sg semicolon · ∎) s a r
      → Meets 1 (application ▸ ∎) s a r
  unfolding kept choices nullable nullable_form
  application_by m = only (keep application_is refl) refl refl refl m

  pub file_by : {r : Look} → Meets 1 (version ▸ implementation ▸ application ▸ ∎) s a r → Meets 1 (file ▸ ∎) s a r
  unfolding kept choices nullable nullable_form
  file_by m = only (keep file_is refl) refl refl refl m

-- What falls in the cycle of definitions: behind a token and more, and in the loop over commas.
module _ {s : List ℕ} {t : ℕ} where
  pub twice_less : (a : Look) {f : Symbols} {b c : Look} {e : ℕ} (m : ℕ) → T (ltb m 56) → 2 * left s a ≡ t → a.code ≡ m → b ≡ advanced s a → Reads e f s b c
      → 2 * left s c < t
  twice_less a {b} m y q h p w = let u = went_on m y s a b h p in let v = w.falls in omega arith

  pub twice_one_less : (a : Look) {f : Symbols} {b c : Look} {e : ℕ} (m : ℕ) → T (ltb m 56) → 2 * left s a ≡ t → a.code ≡ m → b ≡ advanced s a → Reads e f s b c
      → 2 * left s c + 1 < t
  twice_one_less a {b} m y q h p w = let u = went_on m y s a b h p in let v = w.falls in omega arith

  pub comma_one_less : {x : Rule} {o e : Look} (f : Look) → 2 * left s o < t → Still x s o e → e.code ≡ 52 → f ≡ advanced s e → 2 * left s f + 1 < t
  comma_one_less {e} f q z h p = let u = went_on 52 tt s e f h p in let v = z.less in omega arith
