-- The public call: from what was read to the answer. Assumes nothing.
use mathlib.Core.Path.{◌≡◌, sym, ◌∙◌, ap, subst}
use mathlib.Core.List.{List}
use Prim.Native.Nat.{ℕ}
use native.Mathlib.Omega.{arith}
use lib.ListN.{replicate, length-replicate}
use Rattle.rows.specs.Found.{Found}
use Rattle.meaning.specs.Syntax.{File}
use Rattle.meaning.specs.Answers.{Answer, accepted, refused, answer}
use Rattle.meaning.specs.Reading.{Parsed, parsed, not_parsed, parse, answer_of_parsed, reading}
use Rattle.meaning.specs.Rules.{FullRoom}
use Rattle.meaning.proofs.Found.{parse_derived}
use Rattle.reading.specs.Results.{ReadsSpanned}
use Rattle.reading.specs.Decisions.{RoomSizes}
use Rattle.reading.specs.declared.Answer.TheVariants.{Accepted, Refused}
use Rattle.reading.specs.declared.Spanned.{Spanned}
use Rattle.writing.proofs.Calling.{file, own, reads_own, given_whole, refused_reading}
use Rattle.attribute_values.specs.Values.{value_of}
use Rattle.attribute_values.specs.Results.{Outcome, untouched, told, value_answered, value_parsed, value_text, Leaves, ValuesText}
use Rattle.attribute_values.specs.Rows.{row_of, told_at}
use Rattle.attribute_values.specs.Answered.{Valued}
use Rattle.rows.specs.Refusing.{refusing}
use Rattle.attribute_values.proofs.Linking.{agrees_told, row_is}

-- A refused text ---------------------------------------------------------------------------------------------------------------------------

module _ (n p : ℕ) (kind name path l : List ℕ) where
  file_refused : (a : Answer) (f : File) → a ≡ refused n p → untouched (refusing n p) l ≡ value_answered a f kind name path l
  unfolding value_answered
  file_refused a f e = ap (λ (x : Answer). value_answered x f kind name path l) (sym e)

  refused_by : (x : Parsed) → answer_of_parsed x ≡ refused n p → untouched (refusing n p) l ≡ value_parsed x kind name path l
  unfolding value_parsed answer_of_parsed
  refused_by (parsed f) e = file_refused (answer f) f e
  refused_by (not_parsed m q) e = let y : m ≡ n = cc in let z : q ≡ p = cc in cc

-- The call's own tables ----------------------------------------------------------------------------------------------------------------------

rooms : RoomSizes (replicate 6656 0) (replicate 3072 0) (replicate 2048 0) (replicate 18432 0)
rooms = record {
  definitions = length-replicate {A = ℕ} 6656 0;
  enumerators = length-replicate {A = ℕ} 3072 0;
  objects = length-replicate {A = ℕ} 2048 0;
  values = length-replicate {A = ℕ} 18432 0;
}

full_room : {d e o v : List ℕ} → RoomSizes d e o v → FullRoom d e o v
full_room k =
    let a = k.definitions in
    let b = k.enumerators in
    let c = k.objects in
    let g = k.values in
    record { definitions = omega (arith, a); enumerators = omega (arith, b); objects = omega (arith, c); values = omega (arith, g) }

leaves : {a : Outcome} (b : Outcome) {l' : List ℕ} {r : Valued} → a ≡ b → Leaves a l' r → Leaves b l' r
leaves b {l'} {r} e k = subst (λ (x : Outcome). Leaves x l' r) e k

module _ {s d₁ e₁ o₁ v₁ : List ℕ} {w : Spanned} (h : ReadsSpanned s (replicate 6656 0) (replicate 3072 0) (replicate 2048 0) (replicate 18432 0) d₁ e₁ o₁ v₁ w) (kind name path l : List ℕ) where
  pub value_refused : (n p : ℕ) → w.reading.answer ≡ Refused n p → ValuesText s kind name path l l (refusing n p)
  unfolding value_text reading untouched
  value_refused n p i =
      let e = refused_by n p kind name path l (parse s) (refused_reading h (full_room rooms) n p i) in
      record { result = ap (λ (x : Outcome). x.result) e; output = ap (λ (x : Outcome). x.output) e }

  module _ (i : w.reading.answer ≡ Accepted) where
    parse_is : parse s ≡ parsed (file h i)
    parse_is = let a = h.spans i in parse_derived s a.covered a.situation.derivation ∙ ap parsed (sym a.situation.syntax_of)

    answer_is : answer (file h i) ≡ accepted (own h i)
    answer_is = sym (h.spans i).answered ∙ reads_own h i

    text_is : told (value_of (file h i) kind name path) l ≡ value_text s kind name path l
    unfolding value_text value_parsed value_answered
    text_is = sym (ap (λ (x : Parsed). value_parsed x kind name path l) parse_is ∙ ap (λ (x : Answer). value_answered x (file h i) kind name path l) answer_is)

    pub value_accepted : (f : Found) → f ≡ row_of s d₁ o₁ v₁ w.reading.objects w.reading.values kind name path → {l' : List ℕ} {r : Valued} → Leaves (told_at s v₁ f l) l' r
        → ValuesText s kind name path l l' r
    value_accepted f q k =
        leaves (value_text s kind name path l)
        (ap (λ (x : Found). told_at s v₁ x l) q ∙ agrees_told l (row_is (given_whole h i rooms).tables kind name path) ∙ text_is) k
