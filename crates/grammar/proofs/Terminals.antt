-- The terminals that have one code. Assumes nothing.
use mathlib.Core.Path.{◌≡◌}
use mathlib.Core.List.{List}
use Prim.Native.Nat.{ℕ}
use Rattle.grammar.specs.Grammar.{◌·◌, ∎, matches, sg, the, number, string, float, OIL-VERSION, IMPLEMENTATION, CPU, TRUE, FALSE, lbrace, rbrace, lsquare, rsquare, equals, semicolon, comma, dots}
use Rattle.grammar.specs.Readers.{class_at, expected, Meets}
use Rattle.grammar.specs.declared.Look.{Look}
use Rattle.grammar.proofs.Meeting.{tokened}

module _ {s : List ℕ} {a r : Look} where
  pub true_is : r ≡ expected s a 1 → Meets 1 (the TRUE · ∎) s a r
  unfolding class_at matches
  true_is = tokened (the TRUE) 1 (tt, tt)

  pub false_is : r ≡ expected s a 2 → Meets 1 (the FALSE · ∎) s a r
  unfolding class_at matches
  false_is = tokened (the FALSE) 2 (tt, tt)

  pub oil_version_is : r ≡ expected s a 6 → Meets 1 (the OIL-VERSION · ∎) s a r
  unfolding class_at matches
  oil_version_is = tokened (the OIL-VERSION) 6 (tt, tt)

  pub implementation_is : r ≡ expected s a 7 → Meets 1 (the IMPLEMENTATION · ∎) s a r
  unfolding class_at matches
  implementation_is = tokened (the IMPLEMENTATION) 7 (tt, tt)

  pub cpu_is : r ≡ expected s a 8 → Meets 1 (the CPU · ∎) s a r
  unfolding class_at matches
  cpu_is = tokened (the CPU) 8 (tt, tt)

  pub number_is : r ≡ expected s a 43 → Meets 1 (number · ∎) s a r
  unfolding class_at matches
  number_is = tokened number 43 (tt, tt)

  pub string_is : r ≡ expected s a 44 → Meets 1 (string · ∎) s a r
  unfolding class_at matches
  string_is = tokened string 44 (tt, tt)

  pub lbrace_is : r ≡ expected s a 45 → Meets 1 (sg lbrace · ∎) s a r
  unfolding class_at matches
  lbrace_is = tokened (sg lbrace) 45 (tt, tt)

  pub rbrace_is : r ≡ expected s a 46 → Meets 1 (sg rbrace · ∎) s a r
  unfolding class_at matches
  rbrace_is = tokened (sg rbrace) 46 (tt, tt)

  pub lsquare_is : r ≡ expected s a 47 → Meets 1 (sg lsquare · ∎) s a r
  unfolding class_at matches
  lsquare_is = tokened (sg lsquare) 47 (tt, tt)

  pub rsquare_is : r ≡ expected s a 48 → Meets 1 (sg rsquare · ∎) s a r
  unfolding class_at matches
  rsquare_is = tokened (sg rsquare) 48 (tt, tt)

  pub equals_is : r ≡ expected s a 49 → Meets 1 (sg equals · ∎) s a r
  unfolding class_at matches
  equals_is = tokened (sg equals) 49 (tt, tt)

  pub semicolon_is : r ≡ expected s a 50 → Meets 1 (sg semicolon · ∎) s a r
  unfolding class_at matches
  semicolon_is = tokened (sg semicolon) 50 (tt, tt)

  pub comma_is : r ≡ expected s a 52 → Meets 1 (sg comma · ∎) s a r
  unfolding class_at matches
  comma_is = tokened (sg comma) 52 (tt, tt)

  pub dots_is : r ≡ expected s a 53 → Meets 1 (sg dots · ∎) s a r
  unfolding class_at matches
  dots_is = tokened (sg dots) 53 (tt, tt)

  pub float_is : r ≡ expected s a 54 → Meets 1 (float · ∎) s a r
  unfolding class_at matches
  float_is = tokened float 54 (tt, tt)
