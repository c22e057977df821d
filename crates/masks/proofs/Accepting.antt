-- The public calls: from what was read to the answer. Assumes nothing.
use mathlib.Core.Path.{◌≡◌, sym, ◌∙◌, ap, subst}
use mathlib.Core.List.{List}
use Prim.Native.Nat.{ℕ}
use native.Mathlib.Omega.{arith}
use lib.ListN.{replicate, length-replicate}
use Rattle.meaning.specs.Syntax.{File}
use Rattle.meaning.specs.Answers.{Answer, accepted, refused, tables, answer}
use Rattle.meaning.specs.Reading.{Parsed, parsed, not_parsed, parse, answer_of_parsed, reading}
use Rattle.meaning.specs.Rules.{FullRoom}
use Rattle.meaning.proofs.Found.{parse_derived}
use Rattle.reading.specs.Results.{ReadsSpanned}
use Rattle.reading.specs.Decisions.{RoomSizes}
use Rattle.reading.specs.declared.Answer.TheVariants.{Accepted, Refused}
use Rattle.reading.specs.declared.Spanned.{Spanned}
use Rattle.writing.proofs.Calling.{file, own, own_fits, reads_own, given_whole, many_definitions, refused_reading}
use Rattle.masks.specs.Results.{check_answered, check_parsed, check, Made, left, answered, plan_answered, plan_parsed, plan_text, Leaves, PlansText}
use Rattle.masks.specs.Promises.{ReadAs, ChecksRead, PlansRead}
use Rattle.masks.specs.declared.Checked.{Checked}
use Rattle.masks.specs.declared.Planned.{Planned}
use Rattle.std.specs.Prelude.{Result, Ok}
use Rattle.rows.specs.Refusing.{refusing}
use Rattle.rows.specs.declared.Fault.{Fault}

-- A refused text ---------------------------------------------------------------------------------------------------------------------------

module _ (n q : ℕ) (l : List ℕ) where
  check_file_refused : (a : Answer) (f : File) → a ≡ refused n q → refusing n q ≡ check_answered a f l
  unfolding check_answered
  check_file_refused a f e = ap (λ (x : Answer). check_answered x f l) (sym e)

  check_refused_by : (x : Parsed) → answer_of_parsed x ≡ refused n q → refusing n q ≡ check_parsed x l
  unfolding check_parsed answer_of_parsed
  check_refused_by (parsed f) e = check_file_refused (answer f) f e
  check_refused_by (not_parsed m k) e = let y : m ≡ n = cc in let z : k ≡ q = cc in cc

  plan_file_refused : (a : Answer) (f : File) → a ≡ refused n q → left (refusing {A = Planned} n q) l ≡ plan_answered a f l
  unfolding plan_answered
  plan_file_refused a f e = ap (λ (x : Answer). plan_answered x f l) (sym e)

  plan_refused_by : (x : Parsed) → answer_of_parsed x ≡ refused n q → left (refusing {A = Planned} n q) l ≡ plan_parsed x l
  unfolding plan_parsed answer_of_parsed
  plan_refused_by (parsed f) e = plan_file_refused (answer f) f e
  plan_refused_by (not_parsed m k) e = let y : m ≡ n = cc in let z : k ≡ q = cc in cc

-- The caller's own tables --------------------------------------------------------------------------------------------------------------------

rooms : RoomSizes (replicate 6656 0) (replicate 3072 0) (replicate 2048 0) (replicate 18432 0)
rooms = record {
  definitions = length-replicate {A = ℕ} 6656 0;
  enumerators = length-replicate {A = ℕ} 3072 0;
  objects = length-replicate {A = ℕ} 2048 0;
  values = length-replicate {A = ℕ} 18432 0;
}

full_room : {d e o v : List ℕ} → RoomSizes d e o v → FullRoom d e o v
full_room k =
    let a = k.definitions in
    let b = k.enumerators in
    let c = k.objects in
    let g = k.values in
    record { definitions = omega (arith, a); enumerators = omega (arith, b); objects = omega (arith, c); values = omega (arith, g) }

module _ {s d₁ e₁ o₁ v₁ : List ℕ} {w : Spanned} (h : ReadsSpanned s (replicate 6656 0) (replicate 3072 0) (replicate 2048 0) (replicate 18432 0) d₁ e₁ o₁ v₁ w) where
  pub check_refused : (n q : ℕ) → w.reading.answer ≡ Refused n q → (l : List ℕ) → refusing n q ≡ check s l
  unfolding check reading
  check_refused n q i l = check_refused_by n q l (parse s) (refused_reading h (full_room rooms) n q i)

  pub plan_refused : (n q : ℕ) → w.reading.answer ≡ Refused n q → (l : List ℕ) → PlansText s l l (refusing n q)
  unfolding plan_text reading left
  plan_refused n q i l =
      let e = plan_refused_by n q l (parse s) (refused_reading h (full_room rooms) n q i) in
      record { result = ap (λ (x : Made (Result Planned Fault)). x.result) e; list = ap (λ (x : Made (Result Planned Fault)). x.list) e }

  module _ (i : w.reading.answer ≡ Accepted) where
    read_as : ReadAs s d₁ o₁ v₁ w (file h i)
    unfolding tables
    read_as =
        let g = given_whole h i rooms in
        let a = (own_fits h i).objects in
        let b = g.tables.many_objects in
        record { tables = g.tables; definitions = many_definitions h i; few = omega (arith, a, b); places = (h.spans i).places }

    parse_is : parse s ≡ parsed (file h i)
    parse_is = let a = h.spans i in parse_derived s a.covered a.situation.derivation ∙ ap parsed (sym a.situation.syntax_of)

    answer_is : answer (file h i) ≡ accepted (own h i)
    answer_is = sym (h.spans i).answered ∙ reads_own h i

    pub check_accepted : (l : List ℕ) (r : Checked) → ChecksRead s d₁ o₁ v₁ w l r → Ok r ≡ check s l
    unfolding check check_parsed check_answered
    check_accepted l r k =
        ap Ok (k (file h i) read_as) ∙ sym (ap (λ (x : Parsed). check_parsed x l) parse_is ∙ ap (λ (x : Answer). check_answered x (file h i) l) answer_is)

    pub plan_accepted : (l l' : List ℕ) (r : Planned) → PlansRead s d₁ o₁ v₁ w l l' r → PlansText s l l' (Ok r)
    unfolding plan_text plan_parsed plan_answered answered
    plan_accepted l l' r k =
        let m = k (file h i) read_as in
        subst (λ (x : Made (Result Planned Fault)). Leaves x l' (Ok r)) (sym (ap (λ (x : Parsed). plan_parsed x l) parse_is ∙ ap (λ (x : Answer). plan_answered x (file h i) l) answer_is))
        (record { result = ap Ok m.result; list = m.list })
