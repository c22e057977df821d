-- Where two neighbouring parts of different objects change places, no stage has a new fault. Assumes nothing.
use mathlib.Core.Path.{◌≡◌, refl, sym, ◌∙◌, ap, ap₂, subst₂}
use mathlib.Core.List.{List, [], ◌∷◌, ◌++◌}
use mathlib.Core.Bool.{false, not}
use Prim.Native.Nat.{ℕ, suc, ◌+◌, ◌≤◌}
use native.Mathlib.Omega.{arith}
use lib.ListN.{length, length-append}
use lib.Dec.{eqb}
use borrow.Author.Tests.{ne_eqb}
use Rattle.token.specs.Words.{bytes_of, same}
use Rattle.grammar.specs.Grammar.{Kind}
use Rattle.meaning.specs.Syntax.{Object, File}
use Rattle.meaning.specs.Kinds.{kinds, most}
use Rattle.meaning.specs.Faults.{faults_if}
use Rattle.meaning.specs.Merging.{merge}
use Rattle.meaning.specs.Scopes.{find_object}
use Rattle.meaning.specs.Defining.{spec_faults, definition_faults}
use Rattle.meaning.specs.Applying.{how_many, full, too_few, each_object, each_part, elsewhere, each_name, object_faults}
use Rattle.meaning.specs.Judging.{statement_stage}
use Rattle.meaning.specs.Resolving.{all_values, how_many_in_all, too_many}
use Rattle.meaning.proofs.Rooms.{nothing_front, nothing_back, not_faulty}
use Rattle.meaning.proofs.Numbering.{Counts, counts_more, object_numbers, statement_numbers, all_statement_numbers}
use Rattle.channels.specs.Channels.{if_there, called}
use Rattle.channels.proofs.Twins.{Agree, agree_none, twins_agree, swapped_agree, Few, few_none, few_more, twins_few, swapped_few, Named, named_none, named_more, SameUse, use_twin, use_behind, now_named}
use Rattle.channels.proofs.Accepting.{counts_split, few_statements, AsMany, as_many_more, twins_many, swapped_many, twin_statements, agree_few, twins_judged, swapped_judged, twins_values, swapped_values}
use Rattle.channels.proofs.Alone.{alone, channel_alone}
use Rattle.channels.proofs.Merging.{PartsSwapped, now, on, Rearranged, as_before, exchanged, merge_exchanged}
use Rattle.channels.proofs.PartsAlone.{parts_exchanged}
use Rattle.channels.proofs.ObjectTrees.{SameButObjects}

-- 11 and 17 ----------------------------------------------------------------------------------------------------------------------------------

few_each : (before xs : List Object) → each_object before xs ≡ [] → Few before xs
unfolding each_object
few_each before [] e = few_none
few_each before (x ∷ xs) e =
    let a = faults_if (eqb x.row 256) x.word 11 in
    let b = faults_if (full (most x.kind) (how_many x.kind before)) x.word 17 in
    let r = each_object (before ++ (x ∷ [])) xs in
    few_more (not_faulty _ x.word 17 (nothing_back a b (nothing_front (a ++ b) r e))) (few_each (before ++ (x ∷ [])) xs (nothing_back (a ++ b) r e))

each_few : (before xs : List Object) (n : ℕ) → Few before xs → Counts n (object_numbers xs) → n + length xs ≤ 256 → each_object before xs ≡ []
unfolding each_object object_numbers faults_if
each_few before [] n few_none c h = refl
each_few before (x ∷ xs) n (few_more p r) (counts_more e c) h =
    let row : eqb x.row 256 ≡ false = ne_eqb x.row 256 (λ q. omega arith) in
    ap₂ ◌++◌ (ap₂ (λ a b. faults_if a x.word 11 ++ faults_if b x.word 17) row p) (each_few (before ++ (x ∷ [])) xs (suc n) r c (omega arith))

few_parts : (xs : List Object) (n k : ℕ) → Counts n (object_numbers xs) → n + length xs ≤ 512 → Counts k (all_statement_numbers xs)
    → k + length (all_statement_numbers xs) ≤ 2048 → each_part xs ≡ []
unfolding each_part object_numbers all_statement_numbers faults_if
few_parts [] n k c h d i = refl
few_parts (x ∷ xs) n k (counts_more e c) h d i =
    let u = counts_split (statement_numbers x.statements) (all_statement_numbers xs) k d in
    let l = length-append (statement_numbers x.statements) (all_statement_numbers xs) in
    let row : eqb x.row 512 ≡ false = ne_eqb x.row 512 (λ q. omega arith) in
    ap₂ ◌++◌ (ap₂ (λ a b. faults_if a x.word 11 ++ b) row (few_statements x.statements k u.0 (omega arith)))
    (few_parts xs (suc n) (k + length (statement_numbers x.statements)) c (omega arith) u.1 (omega arith))

parts_many : {ps qs : List Object} → PartsSwapped ps qs → AsMany ps qs
unfolding all_statement_numbers
parts_many (now {x} {y} {x'} {y'} {xs} {ys} e h i p) =
    let r = twins_many p in
    let u = twin_statements h in
    let v = twin_statements i in
    let q = r.statements in
    let a = length-append (statement_numbers x.statements) (all_statement_numbers (y ∷ xs)) in
    let b = length-append (statement_numbers y.statements) (all_statement_numbers xs) in
    let c = length-append (statement_numbers y'.statements) (all_statement_numbers (x' ∷ ys)) in
    let d = length-append (statement_numbers x'.statements) (all_statement_numbers ys) in
    record { objects = ap (λ n. suc (suc n)) r.objects; statements = omega arith }
parts_many (on h p) = as_many_more h (parts_many p)

rearranged_agree : {xs ys : List Object} → Rearranged xs ys → Agree xs ys
rearranged_agree (as_before p) = twins_agree p
rearranged_agree (exchanged p) = swapped_agree p

rearranged_few : {xs ys : List Object} → Rearranged xs ys → Few [] xs → Few [] ys
rearranged_few (as_before p) c = twins_few agree_none p c
rearranged_few (exchanged p) c = swapped_few agree_none p c

rearranged_many : {xs ys : List Object} → Rearranged xs ys → length xs ≡ length ys
rearranged_many (as_before p) = (twins_many p).objects
rearranged_many (exchanged p) = (swapped_many p).objects

-- 24 -----------------------------------------------------------------------------------------------------------------------------------------

named_each : (before xs : List Object) → each_name before xs ≡ [] → Named before xs
unfolding each_name
named_each before [] e = named_none
named_each before (x ∷ xs) e =
    let a = faults_if (elsewhere x before) x.name 24 in
    let r = each_name (before ++ (x ∷ [])) xs in
    named_more (not_faulty (elsewhere x before) x.name 24 (nothing_front a r e)) (named_each (before ++ (x ∷ [])) xs (nothing_back a r e))

each_named : {before xs : List Object} → Named before xs → each_name before xs ≡ []
unfolding each_name faults_if
each_named named_none = refl
each_named (named_more {x = x} a r) = ap₂ (λ b l. faults_if b x.name 24 ++ l) a (each_named r)

parts_named : {before before' ps qs : List Object} → SameUse before before' → PartsSwapped ps qs → Named before ps → Named before' qs
parts_named e (now d h i p) n = now_named e h i p n
parts_named e (on h p) (named_more a n) = named_more (sym (e.used _) ∙ sym (use_twin _ h) ∙ a) (parts_named (use_behind e h) p n)

-- Files of which the second has two neighbouring parts of the first in the other order ----------------------------------------------------------

module _ (f g : File) (same_rest : SameButObjects f g) (swap : PartsSwapped f.parts g.parts) (f-merged : f.objects ≡ merge f.parts) (g-merged : g.objects ≡ merge g.parts) where
  rearranged : Rearranged f.objects g.objects
  rearranged = subst₂ (λ xs ys. Rearranged xs ys) (sym f-merged) (sym g-merged) (merge_exchanged swap)

  pub definitions_kept : definition_faults f ≡ [] → definition_faults g ≡ []
  unfolding definition_faults
  definitions_kept e =
      sym (ap₂ (λ v ss. faults_if (not (same v.bytes (bytes_of "\"2.5\""))) v 6 ++ spec_faults [] ss) same_rest.version same_rest.specs) ∙ e

  -- The stage of 11, 17 and 24: numbers of parts, objects and statements within their limits stay so, and the kinds are as many.
  pub objects_kept : object_faults f ≡ [] → length f.objects ≤ 256 → length f.parts ≤ 512 → length (all_statement_numbers f.parts) ≤ 2048
      → Counts 0 (object_numbers g.objects) → Counts 0 (object_numbers g.parts) → Counts 0 (all_statement_numbers g.parts) → object_faults g ≡ []
  unfolding object_faults
  objects_kept e h i j c d k =
      let a = too_few kinds f.objects f.cpu in
      let b = each_object [] f.objects in
      let p = each_part f.parts in
      let n = each_name [] f.parts in
      let z = nothing_back a (b ++ (p ++ n)) e in
      let m = parts_many swap in
      let u = m.objects in
      let v = m.statements in
      let w = rearranged_many rearranged in
      ap₂ ◌++◌
      (ap (too_few kinds g.objects) (sym same_rest.cpu) ∙ sym (agree_few kinds f.cpu (rearranged_agree rearranged)) ∙ nothing_front a (b ++ (p ++ n)) e)
      (ap₂ ◌++◌ (each_few [] g.objects 0 (rearranged_few rearranged (few_each [] f.objects (nothing_front b (p ++ n) z))) c (omega arith))
      (ap₂ ◌++◌ (few_parts g.parts 0 0 d (omega arith) k (omega arith))
      (each_named (parts_named (record { used = λ x. refl }) swap (named_each [] f.parts (nothing_back p n (nothing_back b (p ++ n) z)))))))

  -- 13 to 16 and 18.
  pub statements_kept : statement_stage f ≡ [] → statement_stage g ≡ []
  unfolding statement_stage
  statements_kept e = go rearranged
    where
      go : Rearranged f.objects g.objects → statement_stage g ≡ []
      go (as_before r) = twins_judged f g same_rest.specs (twins_agree r) r e
      go (exchanged r) = swapped_judged f g same_rest.specs (swapped_agree r) r e

  as_many_values : Rearranged f.objects g.objects → how_many_in_all (all_values f f.objects) ≡ how_many_in_all (all_values g g.objects)
  as_many_values (as_before r) = twins_values f g same_rest.specs r
  as_many_values (exchanged r) = swapped_values f g same_rest.specs r

  -- 19.
  pub values_kept : too_many (how_many_in_all (all_values f f.objects)) ≡ [] → too_many (how_many_in_all (all_values g g.objects)) ≡ []
  values_kept e = ap too_many (sym (as_many_values rearranged)) ∙ e

  -- What channels show alone.
  pub channels_kept : (k : Kind) (n : List ℕ) → channel_alone g k (called n) ≡ channel_alone f k (called n)
  unfolding channel_alone
  channels_kept k n =
      ap₂ (λ ss os. if_there (alone ss) (find_object k os (called n))) (sym same_rest.specs) g-merged
      ∙ sym (parts_exchanged f.specs k (called n) swap) ∙ ap (λ os. if_there (alone f.specs) (find_object k os (called n))) (sym f-merged)
