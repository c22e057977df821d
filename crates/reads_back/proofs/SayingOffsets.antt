-- Tokens of two texts that lie as far behind one place as behind another, where the texts have the same bytes. Assumes nothing.
use Prim.Native.Nat.{ℕ, zero, suc, ◌+◌, ◌-◌, ◌≤◌}
use mathlib.Core.Path.{◌≡◌, refl, sym, ◌∙◌, ap, ap₂}
use mathlib.Core.List.{List, [], ◌∷◌, map}
use native.Mathlib.Omega.{arith}
use lib.ListN.{take, drop}
use lib.Seq.{take-take, drop-drop}
use Rattle.token.specs.declared.Token.{Token as Lexeme}
use Rattle.locality.proofs.Shift.{moved}
use Rattle.locality.proofs.Pieces.{Inside}
use Rattle.grammar.specs.Grammar.{Token}
use Rattle.grammar.specs.Terminals.{token_of}
use Rattle.meaning.specs.Syntax.{Word, Span, span_of, through}
use Rattle.meaning.specs.Normal.{part}

-- The span a lies as far behind p as b of the same length behind q, and both end within m bytes.
pub record Offset (p q m : ℕ) (a b : Span) : Type 0 where
  pub behind : ℕ
  pub place_is : a.place ≡ p + behind
  pub place_there : b.place ≡ q + behind
  pub length_is : b.length ≡ a.length
  pub inside : behind + a.length ≤ m

-- Where a token lies.
unfoldable pub token_span : Token → Span
token_span t = record { place = t.place; length = t.length }

-- So it is for each token of two lists, and the classes are the same.
pub data Offsets (p q m : ℕ) : List Token → List Token → Type 0 where
  no_offset : Offsets p q m [] []
  an_offset : {t u : Token} {ts us : List Token} → Offset p q m (token_span t) (token_span u) → u.class ≡ t.class → Offsets p q m ts us
      → Offsets p q m (t ∷ ts) (u ∷ us)

-- So it is for the tokens of a text of m bytes, moved by p and by q.
pub moved_offsets : (p q m : ℕ) (ts : List Lexeme) → Inside m ts → Offsets p q m (map token_of (map (moved p) ts)) (map token_of (map (moved q) ts))
unfolding token_span token_of moved
moved_offsets p q m [] i = no_offset
moved_offsets p q m (t ∷ ts) i =
    an_offset (record { behind = t.at; place_is = refl; place_there = refl; length_is = refl; inside = i.0 }) refl (moved_offsets p q m ts i.1)

-- The tokens us of the text n are the tokens ts of the text s at other places, with the bytes around them.
pub record Copied (s n : List ℕ) (ts us : List Token) : Type 0 where
  pub from : ℕ
  pub to : ℕ
  pub many : ℕ
  pub bytes : take many (drop from s) ≡ take many (drop to n)
  pub offsets : Offsets from to many ts us

-- Bytes -----------------------------------------------------------------------------------------------------------------------------------

inner : (k j i : ℕ) (l : List ℕ) → i ≡ k + j → take j (drop k l) ≡ drop k (take i l)
inner zero j i l e = let q : j ≡ i = omega arith in ap (λ z. take z l) q
inner (suc k) j zero l e = absurd (omega arith)
inner (suc k) zero (suc i) [] e = refl
inner (suc k) (suc j) (suc i) [] e = refl
inner (suc k) j (suc i) (x ∷ l) e = inner k j i l (omega arith)

inside_same : (l l' : List ℕ) (m k j : ℕ) → k + j ≤ m → take m l ≡ take m l' → take j (drop k l) ≡ take j (drop k l')
inside_same l l' m k j h e =
    inner k j (k + j) l refl ∙ ap (drop k) (sym (take-take (k + j) m l h) ∙ ap (take (k + j)) e ∙ take-take (k + j) m l' h) ∙ sym (inner k j (k + j) l' refl)

-- From one word through another the texts have the same bytes.
pub through_same : (s n : List ℕ) (p q m : ℕ) (o c o' c' : Word) → take m (drop p s) ≡ take m (drop q n)
    → Offset p q m (span_of o) (span_of o') → Offset p q m (span_of c) (span_of c') → part s (through o c) ≡ part n (through o' c')
unfolding part through span_of
through_same s n p q m o c o' c' e x y =
    let k = x.behind in
    let j = (y.behind + c.length) - k in
    let ix = x.inside in
    let iy = y.inside in
    let px = x.place_is in
    let py = y.place_is in
    let qx = x.place_there in
    let qy = y.place_there in
    let ly = y.length_is in
    let a : (c.place + c.length) - o.place ≡ j = omega arith in
    let b : (c'.place + c'.length) - o'.place ≡ j = omega arith in
    ap₂ (λ i (w : ℕ). take i (drop w s)) a px ∙ ap (take j) (sym (drop-drop k p s))
    ∙ inside_same (drop p s) (drop q n) m k j (omega arith) e
    ∙ ap (take j) (drop-drop k q n) ∙ sym (ap₂ (λ i (w : ℕ). take i (drop w n)) b qx)
