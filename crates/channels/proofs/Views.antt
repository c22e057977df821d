-- Where no stage has a fault, a channel shows what its definitions and statements show alone: each reference leads to the object of its kind
-- and name. Assumes nothing.
use mathlib.Core.Path.{◌≡◌, refl, sym, ◌∙◌, ap, ap₂, subst}
use mathlib.Core.List.{List, [], ◌∷◌}
use mathlib.Core.Bool.{Bool, true, false, false≢true}
use mathlib.Core.Option.{Option, some}
use Prim.Native.Nat.{ℕ, suc, ◌+◌}
use native.Mathlib.Omega.{arith}
use native.Mathlib.Nat.{zero-add}
use lib.ListN.{get_or}
use lib.Dec.{eqb}
use borrow.Author.Tests.{eqb-true, eq-eqb}
use Rattle.grammar.specs.Grammar.{Kind, OS, APPMODE, TASK, ISR, COUNTER, ALARM, RESOURCE, EVENT, COM, MESSAGE, NETWORKMESSAGE, IPDU, NM}
use Rattle.token.specs.Find.{pick, both, is_there}
use Rattle.meaning.specs.Syntax.{Word, AttributeType, integer, string, boolean, enum, float, reference, Definition, Definitions, Values, Object}
use Rattle.meaning.specs.Words.{alike}
use Rattle.meaning.specs.Kinds.{kinds, kind_number, same_kind}
use Rattle.meaning.specs.Scopes.{Sort, a_name, sort_of, find_object, a_number as number-sort, a_string as string-sort, a_truth as truth-sort, an_auto as auto-sort, a_no_default as none-sort, a_float as float-sort}
use Rattle.meaning.specs.Resolving.{Taken, Resolved, row_or, named, valued, take_value}
use Rattle.meaning.proofs.Numbering.{Counts, counts_more, object_numbers}
use Rattle.reads_back.proofs.SameWords.{alike_bytes}
use Rattle.reads_back.proofs.RestatingScopes.{is_reference, Taking, numbered, told, referred, Takes, Settled, settled, none_of, one_of, More, again, no_more_of}
use Rattle.channels.specs.Channels.{key_of, key_at, a_reference, shown, item_of, view}
use Rattle.channels.proofs.Ideals.{target, ideal_value, ideal_item, ideal, item_same}

-- Kinds --------------------------------------------------------------------------------------------------------------------------------------

kind_at : (k : Kind) → get_or kinds (kind_number k) OS ≡ k
unfolding kind_number
kind_at OS = refl
kind_at APPMODE = refl
kind_at TASK = refl
kind_at ISR = refl
kind_at COUNTER = refl
kind_at ALARM = refl
kind_at RESOURCE = refl
kind_at EVENT = refl
kind_at COM = refl
kind_at MESSAGE = refl
kind_at NETWORKMESSAGE = refl
kind_at IPDU = refl
kind_at NM = refl

-- Kinds that are the same by their numbers are the same.
pub kind_equal : (k j : Kind) → same_kind k j ≡ true → k ≡ j
unfolding same_kind
kind_equal k j e = sym (kind_at k) ∙ ap (λ n. get_or kinds n OS) (eqb-true (kind_number k) (kind_number j) e) ∙ kind_at j

-- A kind is the same as itself.
pub kind_same : (k j : Kind) → k ≡ j → same_kind k j ≡ true
unfolding same_kind
kind_same k j e = ap (λ i. eqb (kind_number k) (kind_number i)) (sym e) ∙ eq-eqb (kind_number k) (kind_number k) refl

-- Rows ---------------------------------------------------------------------------------------------------------------------------------------

-- The object o of a list whose rows begin with n, found by the kind k and the name t, stands at its row.
record Standing (os : List Object) (n : ℕ) (k : Kind) (t : Word) (o : Option Object) : Type 0 where
  place : ℕ
  row_is : row_or o ≡ n + place
  key_is : key_at place os ≡ some (record { kind = k; name = t.bytes })

-- Both tests hold: the first does,
pub both_first : (a b : Bool) → both a b ≡ true → a ≡ true
both_first true b e = refl
both_first false b e = e

-- and the second does.
pub both_second : (a b : Bool) → both a b ≡ true → b ≡ true
both_second true b e = e
both_second false b e = absurd (false≢true e)

standing : (os : List Object) (n : ℕ) (k : Kind) (t : Word) → Counts n (object_numbers os) → is_there (find_object k os t) ≡ true → Standing os n k t (find_object k os t)
unfolding find_object object_numbers is_there row_or key_at key_of
standing [] n k t c h = absurd (false≢true h)
standing (x ∷ xs) n k t (counts_more e c) h = go (both (same_kind k x.kind) (alike x.name t)) refl (λ i. standing xs (suc n) k t c i) h
  where
    go : (b : Bool) → both (same_kind k x.kind) (alike x.name t) ≡ b → (is_there (find_object k xs t) ≡ true → Standing xs (suc n) k t (find_object k xs t))
        → is_there (pick b (some x) (find_object k xs t)) ≡ true → Standing (x ∷ xs) n k t (pick b (some x) (find_object k xs t))
    go true q f i = record {
      place = 0;
      row_is = (let z : x.row ≡ n + 0 = omega arith in z);
      key_is = ap₂ (λ j m. some (record { kind = j; name = m })) (sym (kind_equal k x.kind (both_first _ (alike x.name t) q)))
          (alike_bytes x.name t (both_second (same_kind k x.kind) _ q));
    }
    go false q f i =
        let r = f i in
        let w = r.row_is in
        record { place = suc r.place; row_is = (let z : row_or (find_object k xs t) ≡ n + suc r.place = omega arith in z); key_is = r.key_is }

-- A reference that finds an object leads to it.
pub leads : (os : List Object) (k : Kind) (t : Word) → Counts 0 (object_numbers os) → is_there (find_object k os t) ≡ true
    → key_at (row_or (find_object k os t)) os ≡ some (record { kind = k; name = t.bytes })
leads os k t c h = let r = standing os 0 k t c h in ap (λ i. key_at i os) (r.row_is ∙ zero-add r.place) ∙ r.key_is

-- Values -------------------------------------------------------------------------------------------------------------------------------------

-- What is no reference shows the same.
plain_named : (y : AttributeType) (os : List Object) (vs : Values) (t : Word) → is_reference y ≡ false → shown os (named y os vs t) t ≡ ideal_value y (named y os vs t) t
unfolding named shown ideal_value is_reference
plain_named (integer i) os vs t e = refl
plain_named string os vs t e = refl
plain_named boolean os vs t e = refl
plain_named enum os vs t e = refl
plain_named float os vs t e = refl
plain_named (reference k) os vs t e = absurd (false≢true (sym e))

plain_valued : (o : Sort) (os : List Object) (d : Definition) (vs : Values) (t : Word) → is_reference d.type ≡ false
    → shown os (valued o os d vs t) t ≡ ideal_value d.type (valued o os d vs t) t
unfolding valued shown ideal_value
plain_valued number-sort os d vs t e = refl
plain_valued string-sort os d vs t e = refl
plain_valued truth-sort os d vs t e = refl
plain_valued auto-sort os d vs t e = refl
plain_valued none-sort os d vs t e = refl
plain_valued float-sort os d vs t e = refl
plain_valued a_name os d vs t e = plain_named d.type os vs t e

module _ (os : List Object) (c : Counts 0 (object_numbers os)) where
  named_reference : (k : Kind) (vs : Values) (t : Word) → is_there (find_object k os t) ≡ true
      → shown os (named (reference k) os vs t) t ≡ ideal_value (reference k) (named (reference k) os vs t) t
  unfolding named shown ideal_value target
  named_reference k vs t h = ap a_reference (leads os k t c h)

  valued_reference : (o : Sort) (k : Kind) (d : Definition) (vs : Values) (t : Word) → o ≡ a_name → d.type ≡ reference k → is_there (find_object k os t) ≡ true
      → shown os (valued o os d vs t) t ≡ ideal_value d.type (valued o os d vs t) t
  unfolding valued
  valued_reference o k d vs t p q h =
      subst (λ o. shown os (valued o os d vs t) t ≡ ideal_value d.type (valued o os d vs t) t) (sym p)
      (subst (λ y. shown os (named y os vs t) t ≡ ideal_value y (named y os vs t) t) (sym q) (named_reference k vs t h))

  taking_ideal : {d : Definition} {vs : Values} {t : Word} → Taking os d vs t
      → shown os (valued (sort_of t.class) os d vs t) t ≡ ideal_value d.type (valued (sort_of t.class) os d vs t) t
  taking_ideal {d} {vs} {t} (numbered p q r e) = plain_valued (sort_of t.class) os d vs t q
  taking_ideal {d} {vs} {t} (told p q r) = plain_valued (sort_of t.class) os d vs t q
  taking_ideal {d} {vs} {t} (referred {k} p q r h) = valued_reference (sort_of t.class) k d vs t r p h

  takes_ideal : {d : Definition} {vs : Values} {t : Word} {x : Taken} → Takes os d vs t x → item_of os x ≡ ideal_item x
  unfolding item_of ideal_item take_value
  takes_ideal {d} {vs} {t} h =
      subst (λ x. item_of os x ≡ ideal_item x) (sym h.is)
      (ap (λ v. record { definition = d.row; attribute = d.name.bytes; value = v; stated = h.stated }) (taking_ideal h.taking))

  mutual
    unfolding view ideal

    -- Settled values show what they show alone.
    pub view_settled : {before : List Definition} {ds : Definitions} {r : Resolved} → Settled os before ds r → view os r ≡ ideal r
    view_settled settled = refl
    view_settled (none_of n p q s) = view_settled s
    view_settled (one_of n h s m) = item_same (takes_ideal h) (view_settled s) (view_more m)

    view_more : {before : List Definition} {d : Definition} {vs : Values} {ds : Definitions} {r : Resolved} → More os before d vs ds r → view os r ≡ ideal r
    view_more (again p h s m) = item_same (takes_ideal h) (view_settled s) (view_more m)
    view_more (no_more_of s) = view_settled s
