-- `named` finds a name on a line exactly where it is an include line. Assumes nothing.
use Prim.Native.Nat.{ℕ, suc, ◌+◌, ◌-◌, ◌<◌}
use mathlib.Core.Path.{◌≡◌, refl, sym, ◌∙◌, ap, ap₂, subst}
use mathlib.Core.List.{List, [], ◌∷◌, ◌++◌, append_assoc}
use mathlib.Core.Bool.{Bool, true, false}
use mathlib.Core.Logic.{◌⊎◌, inl, inr}
use native.Mathlib.Nat.{add-zero}
use native.Mathlib.Omega.{arith}
use lib.ListN.{length, get_or, take, drop, length-append, take-append-drop}
use lib.Seq.{drop-append_seam, get_or-append-add}
use lib.Dec.{ltb, eqb}
use borrow.Author.Tests.{eq-eqb, eqb-true, eqb-false, ltb-true}
use Rattle.token.specs.Find.{pick, both, byte}
use Rattle.token.specs.Bytes.{find_byte}
use Rattle.token.specs.Words.{bytes_of, same}
use Rattle.token.specs.Tokens.{bytes_between}
use Rattle.token.proofs.Find.{find_here, find_next}
use Rattle.token.proofs.Bytes.{both_true, both_second, not_true}
use Rattle.token.proofs.Codes.{same_equal}
use Rattle.sources.specs.Lines.{is_aside, aside, closing, quoted, named}
use Rattle.std.specs.Prelude.{Option, Some, None}
use Rattle.sources.proofs.Namings.{closing_is, quoted_quote, quoted_angle, named_is, same_start, same_end}
use Rattle.including.specs.IncludeLines.{Aside, AsideEnd, Quotes, quotes, brackets, Without, IncludeLine, name_place, Includes, IncludeLines}
use Rattle.including.proofs.Onwards.{byte_up, aside_on, byte_on}
use Rattle.including.proofs.Settings.{passes, stays_at, passes_end, passed, passed_end}

-- ---- the next byte c

byte_find : (c : ℕ) (n r : List ℕ) → Without c n → find_byte c (n ++ (c ∷ r)) 0 ≡ length n
unfolding find_byte
byte_find c [] r f = find_here (λ i. eqb (byte (c ∷ r) i) c) (length (c ∷ r)) 0 (omega arith) (eq-eqb c c refl)
byte_find c (b ∷ n) r f =
    let m = n ++ (c ∷ r) in
    find_next (λ i. eqb (byte (b ∷ m) i) c) (length (b ∷ m)) 0 (omega arith)
    (not_true (eqb b c) (λ e. f [] n (ap (λ (x : ℕ). x ∷ n) (eqb-true b c e))))
    ∙ byte_up b m c 0
    ∙ ap suc (byte_find c n r (λ x y e. f (b ∷ x) y (ap (λ (z : List ℕ). b ∷ z) e)))

record ByteSplit (c : ℕ) (l : List ℕ) : Type 0 where
  front : List ℕ
  back : List ℕ
  whole : l ≡ front ++ (c ∷ back)
  size : length front ≡ find_byte c l 0
  free : Without c front

none_without : (c : ℕ) → Without c []
none_without c x y e = let n = ap length e in let m = length-append x (c ∷ y) in absurd (omega arith)

module _ (c b : ℕ) (l : List ℕ) where
  free_on : (f : List ℕ) → eqb b c ≡ false → Without c f → Without c (b ∷ f)
  free_on f e k [] y q = eqb-false b c e (ap (λ (z : List ℕ). get_or z 0 0) q)
  free_on f e k (z ∷ x) y q = k x y (ap (drop 1) q)

  split_on : find_byte c (b ∷ l) 0 < length (b ∷ l) → (find_byte c l 0 < length l → ByteSplit c l) → (t : Bool) → eqb b c ≡ t → ByteSplit c (b ∷ l)
  unfolding find_byte
  split_on h f true e =
      record {
        front = [];
        back = l;
        whole = ap (λ (x : ℕ). x ∷ l) (eqb-true b c e);
        size = sym (find_here (λ i. eqb (byte (b ∷ l) i) c) (length (b ∷ l)) 0 (omega arith) e);
        free = none_without c;
      }
  split_on h f false e =
      let n : find_byte c (b ∷ l) 0 ≡ suc (find_byte c l 0) = find_next (λ i. eqb (byte (b ∷ l) i) c) (length (b ∷ l)) 0 (omega arith) e ∙ byte_up b l c 0 in
      let k = f (omega arith) in
      record {
        front = b ∷ k.front;
        back = k.back;
        whole = ap (λ (x : List ℕ). b ∷ x) k.whole;
        size = ap suc k.size ∙ sym n;
        free = free_on k.front e k.free;
      }

byte_split : (c : ℕ) (l : List ℕ) → find_byte c l 0 < length l → ByteSplit c l
byte_split c [] h = absurd (omega arith)
byte_split c (b ∷ l) h = split_on c b l h (byte_split c l) (eqb b c) refl

-- ---- what stands from a place on

record From (l : List ℕ) (i : ℕ) (r : List ℕ) : Type 0 where
  front : List ℕ
  whole : l ≡ front ++ r
  size : length front ≡ i

from_on : {l : List ℕ} {i : ℕ} (a r : List ℕ) → From l i (a ++ r) → From l (i + length a) r
from_on {l} {i} a r k =
    record {
      front = k.front ++ a;
      whole = k.whole ∙ sym (append_assoc k.front a r);
      size = length-append k.front a ∙ ap (λ (x : ℕ). x + length a) k.size;
    }

from_same : {l : List ℕ} {i j : ℕ} {r q : List ℕ} → i ≡ j → r ≡ q → From l i r → From l j q
from_same {l} {i} {j} {r} {q} e f k = record { front = k.front; whole = k.whole ∙ ap (λ (x : List ℕ). k.front ++ x) f; size = k.size ∙ e }

module _ {l : List ℕ} {i : ℕ} (r : List ℕ) (k : From l i r) where
  from_aside : aside l i ≡ i + aside r 0
  from_aside =
      ap₂ aside k.whole (sym k.size ∙ sym (add-zero (length k.front))) ∙ aside_on k.front r 0 ∙ ap (λ (x : ℕ). x + aside r 0) k.size

  from_find : (c : ℕ) → find_byte c l i ≡ i + find_byte c r 0
  from_find c =
      ap₂ (find_byte c) k.whole (sym k.size ∙ sym (add-zero (length k.front))) ∙ byte_on c k.front r 0 ∙ ap (λ (x : ℕ). x + find_byte c r 0) k.size

  from_byte : byte l i ≡ byte r 0
  from_byte = ap₂ byte k.whole (sym k.size ∙ sym (add-zero (length k.front))) ∙ get_or-append-add k.front r 0 0

  from_length : length l ≡ i + length r
  from_length = ap length k.whole ∙ length-append k.front r ∙ ap (λ (x : ℕ). x + length r) k.size

  from_drop : drop i l ≡ r
  from_drop = ap₂ (λ (n : ℕ) (x : List ℕ). drop n x) (sym k.size) k.whole ∙ drop-append_seam k.front r

-- ---- an include line has its name

abbrev word : List ℕ
word = bytes_of "#include"

hash_stays : (r : List ℕ) → aside (35 ∷ r) 0 ≡ 0
unfolding is_aside
hash_stays r = stays_at 35 r refl (λ z. absurd (omega arith))

open_stays : {o c : ℕ} → Quotes o c → (r : List ℕ) → aside (o ∷ r) 0 ≡ 0
unfolding is_aside
open_stays quotes r = stays_at 34 r refl (λ z. absurd (omega arith))
open_stays brackets r = stays_at 60 r refl (λ z. absurd (omega arith))

open_quoted : {o c : ℕ} → Quotes o c → (l : List ℕ) (p : ℕ) → byte l p ≡ o → closing l p c ≡ quoted l p
open_quoted quotes l p e = quoted_quote l p e
open_quoted brackets l p e = quoted_angle l p (λ z. absurd (omega arith)) e

every_line : (line name : List ℕ) (i : IncludeLine line name) → named line (length i.before) ≡ Some (name_place i, name_place i + length name)
unfolding name_place same
every_line line name i =
    let h = length i.before in
    let behind = i.closes ∷ i.behind in
    let file = i.opens ∷ (name ++ behind) in
    let after = i.between ++ file in
    let p = h + 8 + length i.between in
    let k₀ : From line h (word ++ after) = record { front = i.before; whole = i.whole; size = refl } in
    let k₁ : From line (h + 8) after = from_on word after k₀ in
    let k₂ : From line p file = from_on i.between file k₁ in
    let k₃ : From line (p + 1) (name ++ behind) = from_on (i.opens ∷ []) (name ++ behind) k₂ in
    let k₄ : From line (p + 1 + length name) behind = from_on name behind k₃ in
    let k₅ : From line (p + 1 + length name + 1) i.behind = from_on (i.closes ∷ []) i.behind k₄ in
    let a₀ : h ≡ aside line 0 = sym (ap (λ (x : List ℕ). aside x 0) i.whole ∙ passes i.before_aside (word ++ after) ∙ ap (λ (x : ℕ). h + x) (hash_stays _) ∙ add-zero h) in
    let w : bytes_between line h (h + 8) ≡ word =
    (let n : h + 8 - h ≡ 8 = omega arith in ap₂ (λ (m : ℕ) (x : List ℕ). take m x) n (from_drop (word ++ after) k₀)) in
    let a₁ : p ≡ aside line (h + 8) =
    sym (from_aside after k₁ ∙ ap (λ (x : ℕ). h + 8 + x) (passes i.between_aside file ∙ ap (λ (x : ℕ). length i.between + x) (open_stays i.quoted (name ++ behind)) ∙ add-zero (length i.between))) in
    let c : p + 1 + length name ≡ find_byte i.closes line (p + 1) =
    sym (from_find (name ++ behind) k₃ i.closes ∙ ap (λ (x : ℕ). p + 1 + x) (byte_find i.closes name i.behind i.closed)) in
    let n₄ = from_length behind k₄ in
    let a₂ = from_aside i.behind k₅ in
    let n₅ = from_length i.behind k₅ in
    let e₅ = passes_end i.behind_aside in
    let g : Some (p + 1, p + 1 + length name) ≡ closing line p i.closes =
    closing_is line p i.closes (p + 1 + length name) (length line) c (omega arith) (let y : length line ≡ aside line (p + 1 + length name + 1) = omega arith in y) refl in
    let q : p + 1 ≡ h + (8 + (length i.between + 1)) = omega arith in
    sym (named_is line h h p a₀ refl (ap (λ (x : List ℕ). same x word) w) a₁) ∙ sym (open_quoted i.quoted line p (from_byte file k₂)) ∙ sym g
    ∙ ap (λ (x : ℕ). Some (x, x + length name)) q

-- ---- a line with a name is an include line

no_numbers : {A : Type 0} → ◌≡◌ {A = ℕ} 0 1 → A
no_numbers e = absurd (omega arith)

chosen : (b : Bool) (x : Option (ℕ × ℕ)) (f t : ℕ) → pick b x None ≡ Some (f, t) → (b ≡ true) × (x ≡ Some (f, t))
chosen true x f t e = (refl, e)
chosen false x f t e = no_numbers (let d : ◌≡◌ {A = Option (ℕ × ℕ)} None (Some (f, t)) = e in cc)

-- the quotes, and the name in them
record QuotedBy (l : List ℕ) (p f t : ℕ) : Type 0 where
  opens : ℕ
  closes : ℕ
  marks : Quotes opens closes
  byte_is : byte l p ≡ opens
  name : closing l p closes ≡ Some (f, t)

quoted_by : (l : List ℕ) (p f t : ℕ) → quoted l p ≡ Some (f, t) → QuotedBy l p f t
unfolding quoted
quoted_by l p f t = by (eqb (byte l p) 34) refl
  where
    by : (b : Bool) → eqb (byte l p) 34 ≡ b → pick b (closing l p 34) (pick (eqb (byte l p) 60) (closing l p 62) None) ≡ Some (f, t) → QuotedBy l p f t
    by true e q = record { opens = 34; closes = 34; marks = quotes; byte_is = eqb-true (byte l p) 34 e; name = q }
    by false e q =
        let k = chosen (eqb (byte l p) 60) (closing l p 62) f t q in
        record { opens = 60; closes = 62; marks = brackets; byte_is = eqb-true (byte l p) 60 k.0; name = k.1 }

open_positive : {o c : ℕ} → Quotes o c → 0 < o
open_positive quotes = omega arith
open_positive brackets = omega arith

-- a byte that is not 0 stands at the front of what is left
first_byte : (b : ℕ) (r : List ℕ) → byte r 0 ≡ b → 0 < b → r ≡ b ∷ drop 1 r
first_byte b [] e h = absurd (omega arith)
first_byte b (x ∷ r) e h = ap (λ (y : ℕ). y ∷ r) e

front_aside : {f r : List ℕ} (b : ℕ) (q : List ℕ) → r ≡ b ∷ q → Aside f ⊎ (AsideEnd f × (r ≡ [])) → Aside f
front_aside b q e (inl a) = a
front_aside b q e (inr a) = absurd (let n = ap length (sym e ∙ a.1) in omega arith)

module _ (line : List ℕ) (h f t : ℕ) (e : named line h ≡ Some (f, t)) where
  tests : (both (eqb (aside line 0) h) (same (bytes_between line h (h + 8)) word) ≡ true) × (quoted line (aside line (h + 8)) ≡ Some (f, t))
  unfolding named
  tests = chosen (both (eqb (aside line 0) h) (same (bytes_between line h (h + 8)) word)) (quoted line (aside line (h + 8))) f t e

  word_there : bytes_between line h (h + 8) ≡ word
  word_there = same_equal (bytes_between line h (h + 8)) word (both_second (eqb (aside line 0) h) (same (bytes_between line h (h + 8)) word) tests.0)

  found_line : Includes line h f t
  unfolding closing name_place
  found_line =
      let a : aside line 0 ≡ h = eqb-true (aside line 0) h (both_true (eqb (aside line 0) h) (same (bytes_between line h (h + 8)) word) tests.0) in
      let p₀ = passed line in
      let before = p₀.front in
      let s₀ : length before ≡ h = p₀.size ∙ a in
      let k₀ : From line h p₀.back = record { front = before; whole = p₀.whole; size = s₀ } in
      let rest = drop 8 p₀.back in
      let w₀ : p₀.back ≡ word ++ rest =
      (let n : h + 8 - h ≡ 8 = omega arith in
      let u : take 8 p₀.back ≡ word = sym (ap₂ (λ (m : ℕ) (x : List ℕ). take m x) n (from_drop p₀.back k₀)) ∙ word_there in
      sym (take-append-drop 8 p₀.back) ∙ ap (λ (x : List ℕ). x ++ rest) u) in
      let k₁ : From line (h + 8) rest = from_on word rest (from_same refl w₀ k₀) in
      let p₁ = passed rest in
      let between = p₁.front in
      let q = quoted_by line (aside line (h + 8)) f t tests.1 in
      let s₁ : aside line (h + 8) ≡ h + 8 + length between = from_aside rest k₁ ∙ ap (λ (x : ℕ). h + 8 + x) (sym p₁.size) in
      let k₂ : From line (h + 8 + length between) p₁.back = from_on between p₁.back (from_same refl p₁.whole k₁) in
      let b₂ : byte p₁.back 0 ≡ q.opens = sym (from_byte p₁.back k₂) ∙ ap (byte line) (sym s₁) ∙ q.byte_is in
      let inside = drop 1 p₁.back in
      let w₂ : p₁.back ≡ q.opens ∷ inside = first_byte q.opens p₁.back b₂ (open_positive q.marks) in
      let o = h + 8 + length between in
      let k₃ : From line (o + 1) inside = from_on (q.opens ∷ []) inside (from_same refl w₂ k₂) in
      let c = q.closes in
      let named_by : closing line o c ≡ Some (f, t) = ap (λ (x : ℕ). closing line x c) (sym s₁) ∙ q.name in
      let u = chosen (both (ltb (find_byte c line (o + 1)) (length line)) (eqb (aside line (find_byte c line (o + 1) + 1)) (length line))) (Some (o + 1, find_byte c line (o + 1))) f t named_by in
      let v : find_byte c line (o + 1) < length line =
      ltb-true (find_byte c line (o + 1)) (length line) (both_true (ltb (find_byte c line (o + 1)) (length line)) (eqb (aside line (find_byte c line (o + 1) + 1)) (length line)) u.0) in
      let z : aside line (find_byte c line (o + 1) + 1) ≡ length line =
      eqb-true (aside line (find_byte c line (o + 1) + 1)) (length line) (both_second (ltb (find_byte c line (o + 1)) (length line)) (eqb (aside line (find_byte c line (o + 1) + 1)) (length line)) u.0) in
      let g : find_byte c line (o + 1) ≡ o + 1 + find_byte c inside 0 = from_find inside k₃ c in
      let n₃ = from_length inside k₃ in
      let d = byte_split c inside (omega arith) in
      let ds = d.size in
      let k₄ : From line (o + 1 + length d.front + 1) d.back =
      from_on (c ∷ []) d.back (from_on d.front (c ∷ d.back) (from_same refl d.whole k₃)) in
      let n₄ = from_length d.back k₄ in
      let a₄ = from_aside d.back k₄ in
      let m : find_byte c line (o + 1) ≡ o + 1 + length d.front = omega arith in
      let z' : aside line (o + 1 + length d.front + 1) ≡ length line = subst (λ (x : ℕ). aside line (x + 1) ≡ length line) m z in
      let end : AsideEnd d.back = passed_end d.back (omega arith) in
      let is : IncludeLine line d.front =
      record {
        before = before;
        between = between;
        behind = d.back;
        opens = q.opens;
        closes = c;
        whole = p₀.whole ∙ ap (λ (x : List ℕ). before ++ x) (w₀ ∙ ap (λ (x : List ℕ). word ++ x) (p₁.whole ∙ ap (λ (x : List ℕ). between ++ x) (w₂ ∙ ap (λ (x : List ℕ). q.opens ∷ x) d.whole)));
        before_aside = front_aside 35 _ w₀ p₀.set;
        between_aside = front_aside q.opens inside w₂ p₁.set;
        behind_aside = end;
        quoted = q.marks;
        closed = d.free;
      } in
      let r₀ : o + 1 ≡ f = same_start u.1 in
      let r₁ : find_byte c line (o + 1) ≡ t = same_end u.1 in
      record { name = d.front; is = is; hash = sym s₀; from = omega arith; to = omega arith }

-- THE THEOREM.
pub include_lines : IncludeLines
include_lines line =
    record {
      found = found_line line;
      every = λ h f t i.
          ap (named line) i.hash ∙ every_line line i.name i.is ∙ ap₂ (λ (x y : ℕ). Some (x, y)) (sym i.from) (sym i.to);
    }
