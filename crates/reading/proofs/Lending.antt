-- The public call: rooms that are long enough, and what is past them. Assumes nothing.
use mathlib.Core.Path.{◌≡◌, refl, sym, ◌∙◌, ap}
use mathlib.Core.List.{List, ◌++◌}
use mathlib.Core.Bool.{true, false}
use mathlib.Core.Option.{none}
use Prim.Native.Nat.{ℕ, ◌*◌, ◌/◌, ◌≤◌, ◌<◌}
use native.Mathlib.Omega.{arith}
use native.Mathlib.Nat.{le-div_iff_mul-le, div-lt_iff_lt-mul}
use lib.ListN.{length, drop}
use lib.Dec.{leb}
use borrow.Author.Tests.{le-leb, lt-leb}
use Rattle.token.proofs.Bytes.{both_false}
use Rattle.meaning.specs.Words.{choose}
use Rattle.meaning.specs.Answers.{Answer as Meant, accepted, refused}
use Rattle.meaning.specs.Reading.{reading, normal_text}
use Rattle.meaning.specs.Calls.{enough, too_short, output_asked, call}
use Rattle.meaning.specs.Cells.{rooms_after}
use Rattle.reading.specs.Results.{reading_of, rooms_of, table_after, Reads}
use Rattle.reading.specs.Decisions.{Filled}
use Rattle.reading.specs.declared.Reading.{Reading}

asked_none : (w : List ℕ) (a : Meant) → output_asked none w a ≡ a
unfolding output_asked too_short
asked_none w (accepted t) = refl
asked_none w (refused n p) = refl

module _ (s d e o v : List ℕ) where
  pub call_enough : enough (rooms_of d e o v) ≡ true → call (rooms_of d e o v) none s ≡ reading s
  unfolding call choose
  call_enough h = rw h (asked_none (normal_text s) (reading s))

  pub call_short : enough (rooms_of d e o v) ≡ false → call (rooms_of d e o v) none s ≡ refused 1 0
  unfolding call choose
  call_short h = rw h

  -- Refusal 1 changes nothing.
  pub short_reads : (r : Reading) → enough (rooms_of d e o v) ≡ false → r ≡ reading_of (refused 1 0) → Reads s d e o v d e o v r
  unfolding table_after
  short_reads r h q =
      record { result = q ∙ ap reading_of (sym (call_short h)); definitions = rw h; enumerators = rw h; objects = rw h; values = rw h }

  -- Else the rooms are filled, and what is past them stays.
  pub long_reads : (d' e' o' v' : List ℕ) (r : Reading) → 6656 ≤ length d → 3072 ≤ length e → 2048 ≤ length o → 18432 ≤ length v → Filled s d' e' o' v' r
      → Reads s d e o v (d' ++ drop 6656 d) (e' ++ drop 3072 e) (o' ++ drop 2048 o) (v' ++ drop 18432 v) r
  unfolding table_after enough rooms_of
  long_reads d' e' o' v' r hd he ho hv f =
      let a : 512 ≤ length d / 13 = (le-div_iff_mul-le {k = 13} {x = 512} {y = length d} (omega arith)).1 (omega arith) in
      let b : 1024 ≤ length e / 3 = (le-div_iff_mul-le {k = 3} {x = 1024} {y = length e} (omega arith)).1 (omega arith) in
      let c : 256 ≤ length o / 8 = (le-div_iff_mul-le {k = 8} {x = 256} {y = length o} (omega arith)).1 (omega arith) in
      let g : 2048 ≤ length v / 9 = (le-div_iff_mul-le {k = 9} {x = 2048} {y = length v} (omega arith)).1 (omega arith) in
      let h : enough (rooms_of d e o v) ≡ true =
      rw (le-leb 512 (length d / 13) a, le-leb 1024 (length e / 3) b, le-leb 256 (length o / 8) c, le-leb 2048 (length v / 9) g) in
      record {
        result = f.result ∙ ap reading_of (sym (call_enough h));
        definitions = ap (λ l. l ++ drop 6656 d) f.definitions ∙ ap (λ q. table_after q (rooms_after (reading s)).definitions 6656 d) (sym h);
        enumerators = ap (λ l. l ++ drop 3072 e) f.enumerators ∙ ap (λ q. table_after q (rooms_after (reading s)).enumerators 3072 e) (sym h);
        objects = ap (λ l. l ++ drop 2048 o) f.objects ∙ ap (λ q. table_after q (rooms_after (reading s)).objects 2048 o) (sym h);
        values = ap (λ l. l ++ drop 18432 v) f.values ∙ ap (λ q. table_after q (rooms_after (reading s)).values 18432 v) (sym h);
      }

  few : (n w r : ℕ) → 0 < w → n < r * w → leb r (n / w) ≡ false
  few n w r p h = lt-leb r (n / w) ((div-lt_iff_lt-mul p).1 h)

  pub short_definitions : length d < 6656 → enough (rooms_of d e o v) ≡ false
  unfolding enough rooms_of
  short_definitions h = rw (few (length d) 13 512 (omega arith) (omega arith))

  pub short_enumerators : length e < 3072 → enough (rooms_of d e o v) ≡ false
  unfolding enough rooms_of
  short_enumerators h = rw (few (length e) 3 1024 (omega arith) (omega arith)) (both_false (leb 512 (length d / 13)))

  pub short_objects : length o < 2048 → enough (rooms_of d e o v) ≡ false
  unfolding enough rooms_of
  short_objects h =
      rw (few (length o) 8 256 (omega arith) (omega arith), both_false (leb 1024 (length e / 3))) (both_false (leb 512 (length d / 13)))

  pub short_values : length v < 18432 → enough (rooms_of d e o v) ≡ false
  unfolding enough rooms_of
  short_values h =
      rw (few (length v) 9 2048 (omega arith) (omega arith), both_false (leb 256 (length o / 8)), both_false (leb 1024 (length e / 3))) (both_false (leb 512 (length d / 13)))
