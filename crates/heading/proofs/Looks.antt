-- Looks: where they stand, and what a reading comes to behind a refusal. Assumes nothing.
use mathlib.Core.Path.{◌≡◌, refl, sym, ◌∙◌, ap, subst}
use mathlib.Core.List.{List, ◌++◌}
use mathlib.Core.Bool.{Bool, true, false, false≢true}
use Prim.Native.Nat.{ℕ, ◌+◌, ◌-◌, ◌≤◌, ◌<◌}
use native.Mathlib.Omega.{arith}
use lib.ListN.{length}
use lib.Dec.{ltb, leb, eqb}
use borrow.Author.Tests.{ltb-true, leb-false, eqb-true, eq-eqb}
use Rattle.token.specs.Find.{pick, byte, find}
use Rattle.token.specs.Bytes.{class_of, is_letter, is_digit, is_blank, is_plus_minus, is_punctuator, word_end, find_byte, pair_at, is_dotted}
use Rattle.token.specs.declared.scan.Class.{Class}
use Rattle.token.specs.declared.scan.Class.TheVariants.{Letter as letter, Digit as digit, Blank as blank, Sign as plus_minus, Quote as quote, Punctuator as punctuator, Dot as dot, Slash as slash, Other as other}
use Rattle.token.proofs.Bytes.{class_code}
use Rattle.token.specs.Words.{code_of as wordCode}
use Rattle.token.specs.Tokens.{step_at, token_at, token_of, word_at, bytes_between, whole_at, float_of, float_by, float_at, number_by, number_at, limit_of, string_at, dots_at, found}
use Rattle.token.specs.Floats.{mantissa_of, power_at}
use Rattle.std.specs.Prelude.{Option, Some, None}
use Rattle.token.specs.declared.Power.{Power}
use Rattle.token.specs.declared.Sort.TheVariants.{Word, String, Punctuator}
use Rattle.token.specs.declared.Token.{Token as Lexeme}
use Rattle.token.specs.declared.Cursor.{Cursor}
use Rattle.token.specs.declared.Step.{Step}
use Rattle.token.specs.declared.Step.TheVariants.{Found, Refused, End}
use Rattle.token.proofs.Find.{by_test, find_low, find_holds, find_before}
use Rattle.token.proofs.Steps.{found_fits, bad_fits, end_fits}
use Rattle.locality.proofs.Forms.{number_form}
use Rattle.locality.proofs.Skipping.{Bare, plain, lone, unended, plain_step, lone_step, unended_step, skips_step, stop}
use Rattle.grammar.specs.Factored.{Symbols}
use Rattle.grammar.specs.Readers.{punctuator_code, code_of, look_of, look_at, stop as stopped, advanced, refusal, expected, Reads}
use Rattle.grammar.specs.declared.Look.{Look}
use Rattle.grammar.proofs.Meeting.{by_look}
use Rattle.heading.specs.Promises.{InQuotes}

-- A string stands in quotes -----------------------------------------------------------------------------------------------------------------

punctuator_not : (b : ℕ) → punctuator_code b ≡ 44 → ⊥
unfolding punctuator_code
punctuator_not b =
    go (eqb b 123) (eqb b 125) (eqb b 91) (eqb b 93) (eqb b 61) (eqb b 59) (eqb b 58) (eqb b 44) (eqb b 46)
  where
    go : (a b c d e f g h i : Bool)
        → ◌≡◌ {A = ℕ} (pick a 45 (pick b 46 (pick c 47 (pick d 48 (pick e 49 (pick f 50 (pick g 51 (pick h 52 (pick i 53 55))))))))) 44 → ⊥
    go true b c d e f g h i q = omega arith
    go false true c d e f g h i q = omega arith
    go false false true d e f g h i q = omega arith
    go false false false true e f g h i q = omega arith
    go false false false false true f g h i q = omega arith
    go false false false false false true g h i q = omega arith
    go false false false false false false true h i q = omega arith
    go false false false false false false false true i q = omega arith
    go false false false false false false false false true q = omega arith
    go false false false false false false false false false q = omega arith

word_not : (c : ℕ) → code_of (Word c) ≡ 44 → ⊥
unfolding code_of
word_not c = by_test (λ (n : ℕ). n ≡ 44 → ⊥) (ltb c 43) c 55 (λ t e. let h = ltb-true c 43 t in omega arith) (λ _ e. omega arith)

quote_byte : (b : ℕ) → class_of b ≡ quote → b ≡ 34
unfolding class_of
quote_byte b h = go (is_letter b) (is_digit b) (is_blank b) (is_plus_minus b) (eqb b 34) (is_punctuator b) (eqb b 46) (eqb b 47) refl h
  where
    go : (l d k p q m o s : Bool) → eqb b 34 ≡ q
        → pick l letter (pick d digit (pick k blank (pick p plus_minus (pick q quote (pick m punctuator (pick o dot (pick s slash other))))))) ≡ quote → b ≡ 34
    go true d k p q m o s e h = absurd (let z : ◌≡◌ {A = ℕ} 0 4 = ap class_code h in omega arith)
    go false true k p q m o s e h = absurd (let z : ◌≡◌ {A = ℕ} 1 4 = ap class_code h in omega arith)
    go false false true p q m o s e h = absurd (let z : ◌≡◌ {A = ℕ} 2 4 = ap class_code h in omega arith)
    go false false false true q m o s e h = absurd (let z : ◌≡◌ {A = ℕ} 3 4 = ap class_code h in omega arith)
    go false false false false true m o s e h = eqb-true b 34 e
    go false false false false false true o s e h = absurd (let z : ◌≡◌ {A = ℕ} 5 4 = ap class_code h in omega arith)
    go false false false false false false true s e h = absurd (let z : ◌≡◌ {A = ℕ} 6 4 = ap class_code h in omega arith)
    go false false false false false false false true e h = absurd (let z : ◌≡◌ {A = ℕ} 7 4 = ap class_code h in omega arith)
    go false false false false false false false false e h = absurd (let z : ◌≡◌ {A = ℕ} 8 4 = ap class_code h in omega arith)

-- from a quote up to behind the next one
in_quotes : (s : List ℕ) (q : ℕ) → q < length s → byte s q ≡ 34 → find_byte 34 s (q + 1) < length s → InQuotes s q (find_byte 34 s (q + 1) + 1)
unfolding find_byte
in_quotes s q h o l =
    let t : ℕ → Bool = λ i. eqb (byte s i) 34 in
    let low = find_low t (length s) (q + 1) in
    let back : find t (length s) (q + 1) ≡ find t (length s) (q + 1) + 1 - 1 = omega arith in
    record {
      long = omega arith;
      opening = o;
      closing = subst (λ (i : ℕ). byte s i ≡ 34) back (eqb-true (byte s (find t (length s) (q + 1))) 34 (find_holds t (length s) (q + 1) (omega arith) l));
      none_between = λ i j k e. false≢true (sym (find_before t (length s) (q + 1) i (omega arith) (omega arith)) ∙ eq-eqb (byte s i) 34 e);
    }

abbrev StringOk : List ℕ → Step → Type 0
StringOk s (Found t c) = code_of t.sort ≡ 44 → InQuotes s t.at c.at
StringOk s (Refused q) = Unit {0}
StringOk s (End n) = Unit {0}

whole_ok : (s : List ℕ) (p q : ℕ) → StringOk s (whole_at s p q)
unfolding whole_at found code_of
whole_ok s p q =
    number_form (eqb (byte s p) 45) (ltb p q) (limit_of (eqb (byte s p) 45)) (λ (f : ℕ → ℕ → Step). StringOk s (f p (word_end s q))) (λ m _ h. absurd (omega arith)) tt
    (bytes_between s q (word_end s q))

float_ok : (s : List ℕ) (minus : Bool) (v : Option ℕ) (w : Option Power) (n p : ℕ) → StringOk s (float_of minus v w n p)
unfolding found code_of
float_ok s minus (Some m) (Some x) n p = λ h. absurd (omega arith)
float_ok s minus (Some m) None n p = tt
float_ok s minus None w n p = tt

number_by_ok : (b : Bool) (s : List ℕ) (p q : ℕ) → StringOk s (number_by b s p q)
unfolding number_by float_at float_by
number_by_ok true s p q = float_ok s (eqb (byte s p) 45) (mantissa_of _ _) (power_at s _ _) _ p
number_by_ok false s p q = whole_ok s p q

number_ok : (s : List ℕ) (p q : ℕ) → StringOk s (number_at s p q)
unfolding number_at
number_ok s p q = number_by_ok (is_dotted s (word_end s q)) s p q

class_ok : (s : List ℕ) (q : ℕ) → q < length s → (c : Class) → class_of (byte s q) ≡ c → StringOk s (token_of c s q)
unfolding token_of word_at string_at dots_at found code_of
class_ok s q i letter e = λ h. absurd (word_not (wordCode (bytes_between s q (word_end s q))) h)
class_ok s q i digit e = number_ok s q q
class_ok s q i blank e = tt
class_ok s q i plus_minus e = number_ok s q (q + 1)
class_ok s q i quote e =
    by_test (StringOk s) (ltb (find_byte 34 s (q + 1)) (length s)) (found String q (find_byte 34 s (q + 1) + 1)) (Refused q)
    (λ t h. in_quotes s q i (quote_byte (byte s q) e) (ltb-true (find_byte 34 s (q + 1)) (length s) t)) (λ _. tt)
class_ok s q i punctuator e = λ h. absurd (punctuator_not (byte s q) h)
class_ok s q i dot e = by_test (StringOk s) (pair_at s q 46 46) (found (Punctuator 46) q (q + 2)) (Refused q) (λ _ h. absurd (punctuator_not 46 h)) (λ _. tt)
class_ok s q i slash e = tt
class_ok s q i other e = tt

token_ok : (s : List ℕ) (q : ℕ) → StringOk s (token_at s q)
unfolding token_at
token_ok s q =
    by_test (StringOk s) (ltb q (length s)) (token_of (class_of (byte s q)) s q) (End (length s))
    (λ t. class_ok s q (ltb-true q (length s) t) (class_of (byte s q)) refl) (λ _. tt)

bare_ok : (s : List ℕ) (p : ℕ) → Bare s p → StringOk s (step_at s p)
bare_ok s p (plain e) = subst (StringOk s) (sym (plain_step s p e)) (token_ok s p)
bare_ok s p (lone e f g) = subst (StringOk s) (sym (lone_step s p e f g)) (token_ok s p)
bare_ok s p (unended e f g h) = subst (StringOk s) (sym (unended_step s p e f g h)) tt

string_ok : (s : List ℕ) (p : ℕ) → StringOk s (step_at s p)
string_ok s p = let k = stop s p in subst (StringOk s) (sym (skips_step s k.place p k.skipped)) (bare_ok s k.place k.bare)

-- The token of a string stands in quotes.
pub string_quoted : (s : List ℕ) (p : ℕ) (t : Lexeme) (c : Cursor) → step_at s p ≡ Found t c → code_of t.sort ≡ 44 → InQuotes s t.at c.at
string_quoted s p t c e = subst (StringOk s) e (string_ok s p)

-- Looks ---------------------------------------------------------------------------------------------------------------------------------------

pub look_fits : (s : List ℕ) (p d : ℕ) → ((look_at s p d).at ≤ (look_at s p d).next) × ((look_at s p d).next ≤ length s)
unfolding look_at look_of
look_fits s p d = go (step_at s p) refl
  where
    go : (r : Step) → step_at s p ≡ r → ((look_of r d).at ≤ (look_of r d).next) × ((look_of r d).next ≤ length s)
    go (Found t c) e = let o = found_fits s p t c e in (omega arith, o.inside)
    go (Refused q) e = let o = bad_fits s p q e in (omega arith, omega arith)
    go (End n) e = let o = end_fits s p n e in (omega arith, omega arith)

pub look_string : (s : List ℕ) (p d : ℕ) → (look_at s p d).code ≡ 44 → (look_at s p d).at + 2 ≤ (look_at s p d).next
unfolding look_at look_of
look_string s p d = go (step_at s p) (string_ok s p)
  where
    go : (r : Step) → StringOk s r → (look_of r d).code ≡ 44 → (look_of r d).at + 2 ≤ (look_of r d).next
    go (Found t c) o h = (o h).long
    go (Refused q) o h = absurd (omega arith)
    go (End n) o h = absurd (omega arith)

pub refusal_high : (a : Look) → 56 < (refusal a).code
unfolding refusal
refusal_high a =
    by_test (λ (b : Look). 56 < b.code) (leb a.code 56) (stopped 4 a) a (λ _. omega arith) (λ t. let h = leb-false a.code 56 t in omega arith)

-- A terminal that is no brace was there if the look behind it is no refusal.
pub expected_look : (m : ℕ) → eqb m 45 ≡ false → eqb m 46 ≡ false → (s : List ℕ) (a b : Look) → b ≡ expected s a m → b.code ≤ 56
    → (a.code ≡ m) × (b ≡ look_at s a.next a.depth)
unfolding expected advanced
expected_look m p q s a b e h = go (eqb a.code m) refl
  where
    go : (t : Bool) → eqb a.code m ≡ t → (a.code ≡ m) × (b ≡ look_at s a.next a.depth)
    go true t =
        let n : a.code ≡ m = eqb-true a.code m t in
        let u : eqb a.code 45 ≡ false = ap (λ (i : ℕ). eqb i 45) n ∙ p in
        let v : eqb a.code 46 ≡ false = ap (λ (i : ℕ). eqb i 46) n ∙ q in
        (n, e ∙ rw (t, u, v) refl)
    go false t =
        let r : b ≡ refusal a = e ∙ rw t refl in
        let z = refusal_high a in
        let w : b.code ≡ (refusal a).code = ap (λ (l : Look). l.code) r in
        absurd (omega arith)

-- A refusal stays, whatever is still to be read.
pub sticky : (f : Symbols) {s : List ℕ} {a : Look} → 56 < a.code → Reads 0 f s a a
sticky f {s} {a} h =
    record {
      reads = by_look s a (λ o. (k : Symbols) → o (f ++ k) ≡ o k) (λ l. absurd (omega arith)) (λ e. absurd (omega arith)) (λ _ k. refl);
      falls = omega arith;
      took = λ g. absurd (omega arith);
    }
