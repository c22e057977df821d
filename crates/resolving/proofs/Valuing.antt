-- The value of a word, by its code and the attribute's type. Assumes nothing.
use mathlib.Core.Path.{◌≡◌, refl, sym, ◌∙◌, ap, subst}
use mathlib.Core.List.{List, [], ◌∷◌}
use mathlib.Core.Bool.{true, false}
use mathlib.Core.Option.{Option, none, some}
use Prim.Native.Nat.{ℕ, ◌+◌, ◌-◌, ◌*◌, ◌≤◌, ◌<◌}
use native.Mathlib.Omega.{arith}
use lib.ListN.{length, get_or}
use lib.Dec.{eqb}
use lib.Seq.{sets}
use Rattle.rows.specs.Search.{row_of}
use Rattle.token.specs.Find.{bit}
use Rattle.token.specs.Tokens.{step_at}
use Rattle.grammar.specs.Grammar.{Kind}
use Rattle.rows.specs.Found.{Found}
use Rattle.meaning.specs.Syntax.{Num, Word, span_of, AttributeType, integer, string, boolean, enum, float, reference, Values, Defined, Object, File, is_enum}
use Rattle.meaning.specs.Kinds.{kind_number}
use Rattle.meaning.specs.Actions.{num_of_step}
use Rattle.meaning.specs.Scopes.{Sort, a_number, a_string, a_truth, an_auto, a_no_default, a_name, a_float as float-sort, sort_of, Under, find_value, find_object}
use Rattle.meaning.specs.Resolving.{number, truth, is_true, number_or, row_or, named, valued, take_value, value_row, string as string-value}
use Rattle.meaning.specs.Cells.{value_sort, value_negative, value_amount, value_cells}
use Rattle.layout.specs.Kept.{code_of}
use Rattle.amounts.specs.Known.{InCells}
use Rattle.scopes.proofs.Forms.{Formed, an_integer, a_string, a_boolean, an_enum, a_float, a_reference}
use Rattle.scopes.proofs.Forms as forms
use Rattle.scopes.specs.Promises.{FindsEnumerator, FindsObject, number_found, object_found}
use Rattle.scopes.specs.declared.Sizes.{Sizes}
use Rattle.resolving.specs.declared.Owner.{Owner as OwnerOf}
use Rattle.resolving.specs.declared.Held.{Held}
use Rattle.resolving.specs.declared.Held.TheVariants.{Number as ANumber, Truth as ATruth, Auto as AnAuto, String as AString, Enumerator as AnEnumerator, Object as AnObject, Float as AFloat}
use Rattle.scopes.specs.Given.{Tables, Attribute}
use Rattle.resolving.specs.Written.{Holds, sort_cell, row_cell, held_sort, held_negative, held_amount}
use Rattle.resolving.specs.Promises.{WordAt, NamedValue, ValueOf, PutValue}
use Rattle.scopes.proofs.Sorts.{sort_coded, tells, name_coded}
use Rattle.lookups.proofs.Attributes.{reached, known, formed}
use Rattle.layout.proofs.Codes.{kind_low, integer_low}

-- Nine cells, one by one.
nine : {a b c d e f g h i a' b' c' d' e' f' g' h' i' : ℕ} → a ≡ a' → b ≡ b' → c ≡ c' → d ≡ d' → e ≡ e' → f ≡ f' → g ≡ g' → h ≡ h' → i ≡ i'
    → a ∷ b ∷ c ∷ d ∷ e ∷ f ∷ g ∷ h ∷ i ∷ [] ≡ a' ∷ b' ∷ c' ∷ d' ∷ e' ∷ f' ∷ g' ∷ h' ∷ i' ∷ []
nine p₁ p₂ p₃ p₄ p₅ p₆ p₇ p₈ p₉ = cc

-- A number.
pub holds_number : (y : Num) (n k : ℕ) → InCells y n k → Holds (ANumber n k) (number y)
unfolding value_sort value_negative value_amount
holds_number y n k h = record { sort = refl; negative = h.negative; amount = h.amount }

-- Names ------------------------------------------------------------------------------------------------------------------------------------

-- The types by their codes.
data Typed (t : AttributeType) (c : ℕ) : Type 0 where
  is_other : ((os : List Object) (vs : Values) (w : Word) → named t os vs w ≡ string-value) → (c ≡ 41 → ⊥) → (22 ≤ c → 34 < c) → Typed t c
  an_enumeration : t ≡ enum → c ≡ 41 → Typed t c
  a_kind : (k : Kind) → t ≡ reference k → c ≡ 22 + kind_number k → Typed t c

other_integer : (t : AttributeType) → (i : _) → t ≡ integer i → (os : List Object) (vs : Values) (w : Word) → named t os vs w ≡ string-value
unfolding named
other_integer t i e os vs w = ap (λ q. named q os vs w) e

other_string : (t : AttributeType) → t ≡ string → (os : List Object) (vs : Values) (w : Word) → named t os vs w ≡ string-value
unfolding named
other_string t e os vs w = ap (λ q. named q os vs w) e

other_boolean : (t : AttributeType) → t ≡ boolean → (os : List Object) (vs : Values) (w : Word) → named t os vs w ≡ string-value
unfolding named
other_boolean t e os vs w = ap (λ q. named q os vs w) e

other_float : (t : AttributeType) → t ≡ float → (os : List Object) (vs : Values) (w : Word) → named t os vs w ≡ string-value
unfolding named
other_float t e os vs w = ap (λ q. named q os vs w) e

typed : {s : List ℕ} (x : Defined) (vs : Values) (c : ℕ) → Formed s x.definition vs → c ≡ code_of x.definition.word → Typed x.definition.type c
typed x vs n (an_integer i t c r) e = let l = integer_low i in is_other (other_integer x.definition.type i t) (λ q. omega arith) (λ q. omega arith)
typed x vs n (a_string t c b) e = is_other (other_string x.definition.type t) (λ q. omega arith) (λ q. omega arith)
typed x vs n (a_float t c b) e = is_other (other_float x.definition.type t) (λ q. omega arith) (λ q. omega arith)
typed x vs n (a_boolean t c b v) e = is_other (other_boolean x.definition.type t) (λ q. omega arith) (λ q. omega arith)
typed x vs n (an_enum t c b v) e = an_enumeration t (e ∙ c)
typed x vs n (a_reference k t c b) e = a_kind k t (e ∙ c)

type_of : {s d e o : List ℕ} {z : Sizes} {j t : ℕ} {f : File} {x : Defined} → t ≡ get_or d (j * 19 + 12) 0 → Tables s d e o z f → Attribute f j x → Typed x.definition.type t
type_of {t = t} {x = x} c g a = typed x x.values t (formed g a) (c ∙ (known g a).type_code)

module _ {s d e o : List ℕ} {z : Sizes} {j at len t : ℕ} (c : t ≡ get_or d (j * 19 + 12) 0) where
  -- No enumeration and no reference.
  pub named_string : (t ≡ 41 → ⊥) → (22 ≤ t → 34 < t) → NamedValue s d e o z j at len AString
  unfolding value_sort value_negative value_amount bit
  named_string n₁ n₂ f x w g a r = by (type_of c g a)
    where
      by : Typed x.definition.type t → Holds AString (named x.definition.type f.objects x.values w)
      by (is_other h i k) = subst (Holds AString) (sym (h f.objects x.values w)) (record { sort = refl; negative = refl; amount = refl })
      by (an_enumeration h i) = absurd (n₁ i)
      by (a_kind k h i) = let l = kind_low k in let q = n₂ (omega arith) in absurd (omega arith)

  pub named_enumerator : {r : Found} {m : ℕ} → t ≡ 41 → FindsEnumerator s d e z.enumerators j at len r → m ≡ row_of r → NamedValue s d e o z j at len (AnEnumerator m)
  unfolding number_found number_or row_of named value_sort value_negative value_amount bit is_enum
  named_enumerator {r} {m} q finds k f x w g a h = by (type_of c g a)
    where
      value_is : (y : Option Under) → r ≡ number_found y → m ≡ number_or y
      value_is none p = k ∙ ap row_of p
      value_is (some u) p = k ∙ ap row_of p

      holds : x.definition.type ≡ enum → m ≡ number_or (find_value x.values w) → Holds (AnEnumerator m) (named x.definition.type f.objects x.values w)
      holds p i = subst (λ y. Holds (AnEnumerator m) (named y f.objects x.values w)) (sym p) (record { sort = refl; negative = refl; amount = i })

      enum_is : x.definition.type ≡ enum → is_enum x.definition.type ≡ true
      enum_is p = ap is_enum p

      by : Typed x.definition.type t → Holds (AnEnumerator m) (named x.definition.type f.objects x.values w)
      by (is_other _ i _) = absurd (i q)
      by (an_enumeration p i) =
          let K = known g a in
          holds p (value_is (find_value x.values w) (finds f x w g.situation g.in_definitions g.in_enumerators K.row_of K.low (reached g x.values) (enum_is p) h.bytes))
      by (a_kind y p i) = let l = kind_low y in absurd (omega arith)

  pub named_object : {r : Found} {m kind : ℕ} → (t ≡ 41 → ⊥) → 22 ≤ t → t ≤ 34 → kind ≡ t - 22 → FindsObject s o z.objects kind at len r → m ≡ row_of r
      → NamedValue s d e o z j at len (AnObject m)
  unfolding object_found row_or row_of named value_sort value_negative value_amount bit
  named_object {r} {m} {kind} n₁ lo hi e finds k f x w g a h = by (type_of c g a)
    where
      value_is : (y : Option Object) → r ≡ object_found y → m ≡ row_or y
      value_is none p = k ∙ ap row_of p
      value_is (some u) p = k ∙ ap row_of p

      holds : (y : Kind) → x.definition.type ≡ reference y → m ≡ row_or (find_object y f.objects w) → Holds (AnObject m) (named x.definition.type f.objects x.values w)
      holds y p i = subst (λ q. Holds (AnObject m) (named q f.objects x.values w)) (sym p) (record { sort = refl; negative = refl; amount = i })

      by : Typed x.definition.type t → Holds (AnObject m) (named x.definition.type f.objects x.values w)
      by (is_other _ _ i) = absurd (let q = i lo in omega arith)
      by (an_enumeration p i) = absurd (n₁ i)
      by (a_kind y p i) =
          let n = g.objects_fit in
          let q : kind ≡ kind_number y = omega arith in
          holds y p (value_is (find_object y f.objects w) (finds f y w g.situation g.in_objects g.objects (omega arith) q h.bytes))

-- Words ------------------------------------------------------------------------------------------------------------------------------------

-- The sort of the word.
sort_is : {s : List ℕ} {at len code : ℕ} {t : Word} {q : Sort} → WordAt s t at len code → sort_coded code ≡ q → sort_of t.class ≡ q
unfolding code_of
sort_is {t = t} w h = (tells t.class).sort ∙ ap sort_coded w.coded ∙ h

by_sort : (f : File) (x : Defined) (t : Word) (q : Sort) {h : Held} → sort_of t.class ≡ q → Holds h (valued q f.objects x.definition x.values t)
    → Holds h (valued (sort_of t.class) f.objects x.definition x.values t)
by_sort f x t q {h} p k = subst (λ y. Holds h (valued y f.objects x.definition x.values t)) (sym p) k

module _ {s d e o : List ℕ} {z : Sizes} {j at len code : ℕ} where
  pub value_number : {h : Held} → code ≡ 43 → Holds h (number (num_of_step (step_at s at))) → ValueOf s d e o z j at len code h
  unfolding sort_coded valued
  value_number {h} c k f x t g a w = by_sort f x t a_number (sort_is w (ap sort_coded c)) (subst (λ y. Holds h (number y)) (sym w.read.number) k)

  pub value_string : code ≡ 44 → ValueOf s d e o z j at len code AString
  unfolding sort_coded valued value_sort value_negative value_amount bit
  value_string c f x t g a w = by_sort f x t a_string (sort_is w (ap sort_coded c)) (record { sort = refl; negative = refl; amount = refl })

  pub value_float : code ≡ 54 → ValueOf s d e o z j at len code AFloat
  unfolding sort_coded valued value_sort value_negative value_amount bit
  value_float c f x t g a w = by_sort f x t float-sort (sort_is w (ap sort_coded c)) (record { sort = refl; negative = refl; amount = refl })

  pub value_true : code ≡ 1 → ValueOf s d e o z j at len code (ATruth true)
  unfolding sort_coded valued value_sort value_negative value_amount bit code_of
  value_true c f x t g a w =
      let b : is_true t.class ≡ true = (tells t.class).truth ∙ ap (λ n. eqb n 1) (w.coded ∙ c) in
      by_sort f x t a_truth (sort_is w (ap sort_coded c)) (record { sort = refl; negative = refl; amount = sym (ap bit b) })

  pub value_false : code ≡ 2 → ValueOf s d e o z j at len code (ATruth false)
  unfolding sort_coded valued value_sort value_negative value_amount bit code_of
  value_false c f x t g a w =
      let b : is_true t.class ≡ false = (tells t.class).truth ∙ ap (λ n. eqb n 1) (w.coded ∙ c) in
      by_sort f x t a_truth (sort_is w (ap sort_coded c)) (record { sort = refl; negative = refl; amount = sym (ap bit b) })

  pub value_auto : code ≡ 3 → ValueOf s d e o z j at len code AnAuto
  unfolding sort_coded valued value_sort value_negative value_amount bit
  value_auto c f x t g a w = by_sort f x t an_auto (sort_is w (ap sort_coded c)) (record { sort = refl; negative = refl; amount = refl })

  pub value_no_default : code ≡ 4 → ValueOf s d e o z j at len code AnAuto
  unfolding sort_coded valued value_sort value_negative value_amount bit
  value_no_default c f x t g a w = by_sort f x t a_no_default (sort_is w (ap sort_coded c)) (record { sort = refl; negative = refl; amount = refl })

  pub value_name : {h : Held} → (code ≡ 43 → ⊥) → (code ≡ 44 → ⊥) → (code ≡ 1 → ⊥) → (code ≡ 2 → ⊥) → (code ≡ 3 → ⊥) → (code ≡ 4 → ⊥) → (code ≡ 54 → ⊥)
      → NamedValue s d e o z j at len h → ValueOf s d e o z j at len code h
  unfolding valued
  value_name h₁ h₂ h₃ h₄ h₅ h₆ h₇ k f x t g a w = by_sort f x t a_name (sort_is w (name_coded code h₁ h₂ h₃ h₄ h₅ h₆ h₇)) (k f x t g a w.read)

  -- The row of a value.
  pub put_row : (v : List ℕ) (n : ℕ) (w : OwnerOf) (stated : ℕ) (h : Held) (a b k l m : ℕ) (v' : List ℕ) → a ≡ sort_cell w → b ≡ row_cell w → k ≡ held_sort h → l ≡ held_negative h → m ≡ held_amount h → ValueOf s d e o z j at len code h
      → v' ≡ sets v (n * 9) (j ∷ a ∷ b ∷ k ∷ l ∷ m ∷ stated ∷ at ∷ len ∷ []) → PutValue s d e o v z n w j stated at len code v'
  unfolding value_cells value_row take_value span_of
  put_row v n w stated h c e k₁ k₂ k₃ v' eq er e₁ e₂ e₃ k p f x t b ow g a wa own fl =
      let q = k f x t g a wa in
      p ∙ ap (sets v (n * 9)) (nine (sym a.row) (eq ∙ own.sort) (er ∙ own.row) (e₁ ∙ q.sort) (e₂ ∙ q.negative) (e₃ ∙ q.amount) fl (sym wa.place) (sym wa.length))
