-- What a word's bytes tell: two words of one kind are the same bytes; the float of a word is that of its bytes. Assumes nothing.
use mathlib.Core.Path.{◌≡◌, refl, sym, ◌∙◌, ap, subst}
use mathlib.Core.List.{List, [], ◌∷◌}
use mathlib.Core.Bool.{Bool, true, false, not, false≢true}
use Prim.Native.Nat.{ℕ, suc, ◌+◌, ◌-◌, ◌≤◌, ◌<◌}
use native.Mathlib.Omega.{arith}
use native.Mathlib.Decide.{dec_lt}
use lib.ListN.{length, get_or, get_or-eq_default}
use lib.Seq.{take_all}
use lib.Dec.{T, eqb, eqb→eq}
use Rattle.token.specs.Find.{pick, either}
use Rattle.token.specs.Words.{known, same, code_in, code_of}
use Rattle.token.specs.Tokens.{step_at}
use Rattle.token.specs.Lexing.{Lexed, more, after_step, lex_n, lex_from}
use Rattle.token.specs.declared.Sort.{Sort}
use Rattle.token.specs.declared.Sort.TheVariants.{Word, Number, String, Punctuator, Float}
use Rattle.token.specs.declared.Token.{Token}
use Rattle.token.specs.declared.Cursor.{Cursor}
use Rattle.token.specs.declared.Step.{Step}
use Rattle.token.specs.declared.Step.TheVariants.{Found, Refused, End}
use Rattle.token.proofs.Codes.{same_equal}
use Rattle.token.proofs.Promises.{CodeOk, found_code}
use Rattle.token.proofs.Tables.{below}
use Rattle.grammar.specs.Grammar.{Class, other, matches, kind}
use Rattle.grammar.specs.Terminals.{words, sign_of, class_of}
use Rattle.meaning.specs.Syntax.{Word as SyntaxWord}
use Rattle.meaning.specs.Kinds.{kind_number}
use Rattle.meaning.specs.Actions.{kind_of, float_of_step}
use Rattle.reads_back.proofs.Restated.{Alone}

-- Known words ----------------------------------------------------------------------------------------------------------------------------------

-- A code of a list is 0 or at least that of its first word.
code_low : (n : ℕ) (ks : List (List ℕ)) (w : List ℕ) → (code_in n ks w ≡ 0 → ⊥) → n ≤ code_in n ks w
unfolding code_in
code_low n [] w h = absurd (h refl)
code_low n (k ∷ ks) w h = go (same w k) h (λ g. code_low (suc n) ks w g)
  where
    go : (b : Bool) → (pick b n (code_in (suc n) ks w) ≡ 0 → ⊥) → ((code_in (suc n) ks w ≡ 0 → ⊥) → suc n ≤ code_in (suc n) ks w) → n ≤ pick b n (code_in (suc n) ks w)
    go true g f = omega arith
    go false g f = let i = f g in omega arith

-- Words of one code, which is not 0, are the same bytes.
code_one : (n : ℕ) (ks : List (List ℕ)) (w v : List ℕ) → code_in n ks w ≡ code_in n ks v → (code_in n ks w ≡ 0 → ⊥) → w ≡ v
unfolding code_in
code_one n [] w v e h = absurd (h refl)
code_one n (k ∷ ks) w v e h = go (same w k) refl (same v k) refl e h (λ e' h'. code_one (suc n) ks w v e' h')
  where
    go : (a : Bool) → same w k ≡ a → (b : Bool) → same v k ≡ b → pick a n (code_in (suc n) ks w) ≡ pick b n (code_in (suc n) ks v)
        → (pick a n (code_in (suc n) ks w) ≡ 0 → ⊥) → (code_in (suc n) ks w ≡ code_in (suc n) ks v → (code_in (suc n) ks w ≡ 0 → ⊥) → w ≡ v) → w ≡ v
    go true p true q e h f = same_equal w k p ∙ sym (same_equal v k q)
    go true p false q e h f = let i = code_low (suc n) ks v (λ z. h (e ∙ z)) in absurd (omega arith)
    go false p true q e h f = let i = code_low (suc n) ks w h in absurd (omega arith)
    go false p false q e h f = f e h

-- Kinds' words ---------------------------------------------------------------------------------------------------------------------------------

other_no_kind : matches kind other ≡ false
unfolding matches
other_no_kind = refl

-- The code of a kind's word by its class: a test of each known word.
kind_below : (c : ℕ) → c < 43 → T (either (not (matches kind (get_or words c other))) (eqb c (9 + kind_number (kind_of (get_or words c other)))))
unfolding matches kind_of kind_number
kind_below c l = below (λ i. either (not (matches kind (get_or words i other))) (eqb i (9 + kind_number (kind_of (get_or words i other))))) 43 tt c l

if_so : (a b : Bool) → T (either (not a) b) → a ≡ true → T b
if_so true b t e = t
if_so false b t e = absurd (false≢true e)

kind_code : (c : ℕ) → matches kind (get_or words c other) ≡ true → c ≡ 9 + kind_number (kind_of (get_or words c other))
kind_code c h = go (dec_lt c 43)
  where
    go : Dec (c < 43) → c ≡ 9 + kind_number (kind_of (get_or words c other))
    go (yes l) =
        eqb→eq c (9 + kind_number (kind_of (get_or words c other)))
        (if_so (matches kind (get_or words c other)) (eqb c (9 + kind_number (kind_of (get_or words c other)))) (kind_below c l) h)
    go (no l) =
        let k : length words ≤ c = omega (arith, l) in
        absurd (false≢true (sym other_no_kind ∙ ap (matches kind) (sym (get_or-eq_default words other k)) ∙ h))

-- No punctuator's class is a kind's.
pick_no : (b : Bool) (x y : Class) → matches kind x ≡ false → matches kind y ≡ false → matches kind (pick b x y) ≡ false
pick_no true x y h k = h
pick_no false x y h k = k

sign_no : (b : ℕ) → matches kind (sign_of b) ≡ false
unfolding sign_of matches
sign_no b =
    pick_no (eqb b 123) _ _ refl (pick_no (eqb b 125) _ _ refl (pick_no (eqb b 91) _ _ refl (pick_no (eqb b 93) _ _ refl (pick_no (eqb b 61) _ _ refl
    (pick_no (eqb b 59) _ _ refl (pick_no (eqb b 58) _ _ refl (pick_no (eqb b 44) _ _ refl (pick_no (eqb b 46) _ _ refl refl))))))))

-- The code of the bytes of a kind's word.
bytes_code : (k : Sort) (b : List ℕ) → CodeOk k b → matches kind (class_of k) ≡ true → code_of b ≡ 9 + kind_number (kind_of (class_of k))
unfolding class_of matches
bytes_code (Word c) b h m = sym h ∙ kind_code c m
bytes_code (Number n a) b h m = absurd (false≢true m)
bytes_code String b h m = absurd (false≢true m)
bytes_code (Punctuator c) b h m = absurd (false≢true (sym (sign_no c) ∙ m))
bytes_code (Float n a k) b h m = absurd (false≢true m)

-- Words that stand alone ------------------------------------------------------------------------------------------------------------------------

first_step : (s : List ℕ) (t : Token) (l : Lexed) (k : ℕ → Lexed) (r : Step) → step_at s 0 ≡ r → after_step r k ≡ more t l → (c : Cursor) × (step_at s 0 ≡ Found t c)
first_step s t l k (Found u c) q e = let z : u ≡ t = cc in (c, q ∙ ap (λ (y : Token). Found y c) z)
first_step s t l k (Refused p) q e = absurd (let z : ◌≡◌ {A = ℕ} 0 1 = cc in omega arith)
first_step s t l k (End n) q e = absurd (let z : ◌≡◌ {A = ℕ} 0 1 = cc in omega arith)

-- The one token of a word that stands alone is what a step finds in its bytes.
alone_step : (w : SyntaxWord) (a : Alone w) → (c : Cursor) × (step_at w.bytes 0 ≡ Found (record { sort = a.sort; at = 0; len = length w.bytes }) c)
unfolding lex_from lex_n
alone_step w a =
    first_step w.bytes (record { sort = a.sort; at = 0; len = length w.bytes }) _ (λ q. lex_n (length w.bytes - 0) w.bytes q) (step_at w.bytes 0) refl a.one

alone_code : (w : SyntaxWord) (a : Alone w) → CodeOk a.sort w.bytes
alone_code w a =
    let h = alone_step w a in
    subst (CodeOk a.sort) (take_all (length w.bytes) w.bytes (omega arith)) (found_code w.bytes 0 _ h.0 h.1)

-- The float of a word that stands alone is that of its bytes.
pub alone_float : (w : SyntaxWord) → Alone w → w.float ≡ float_of_step (step_at w.bytes 0)
unfolding float_of_step
alone_float w a = a.float_is ∙ sym (ap float_of_step (alone_step w a).1)

kind_word_code : (w : SyntaxWord) → Alone w → matches kind w.class ≡ true → code_of w.bytes ≡ 9 + kind_number (kind_of w.class)
kind_word_code w a h =
    subst (λ (c : Class). matches kind c ≡ true → code_of w.bytes ≡ 9 + kind_number (kind_of c)) (sym a.class_is) (bytes_code a.sort w.bytes (alone_code w a)) h

-- Two words of one kind.
pub kind_bytes : (w v : SyntaxWord) → Alone w → Alone v → matches kind w.class ≡ true → matches kind v.class ≡ true → kind_of w.class ≡ kind_of v.class
    → w.bytes ≡ v.bytes
unfolding code_of
kind_bytes w v a b h k e =
    let p = kind_word_code w a h in
    let q = kind_word_code v b k in
    let r : code_in 1 known w.bytes ≡ code_in 1 known v.bytes = p ∙ ap (λ i. 9 + kind_number i) e ∙ sym q in
    code_one 1 known w.bytes v.bytes r (λ z. omega (arith, p, z))
