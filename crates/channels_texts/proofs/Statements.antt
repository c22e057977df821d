-- Q-12 over lent texts: the two statements. Assumes nothing.
use mathlib.Core.Path.{◌≡◌, refl, sym, ◌∙◌, ap, ap₂, subst, subst₂}
use mathlib.Core.List.{List, [], ◌∷◌, ◌++◌}
use mathlib.Core.Bool.{Bool, true, false, false≢true}
use mathlib.Core.Logic.{inl}
use Prim.Native.Nat.{ℕ, ◌+◌, ◌-◌, ◌<◌}
use native.Mathlib.Omega.{arith}
use lib.ListN.{length, length-append}
use lib.Dec.{ltb}
use Rattle.token.specs.Find.{pick, byte}
use Rattle.grammar.specs.Grammar.{Kind}
use Rattle.meaning.specs.Answers.{Tables, Answer, accepted}
use Rattle.meaning.specs.Reading.{reading, Answers as PlainAnswers}
use Rattle.meaning.proofs.Whole.{one_answer as one_plain, answers as plain-answers}
use Rattle.sources.specs.Texts.{told_well}
use Rattle.sources.specs.Expanding.{Piece, fill_by, fill_of, is_too_long, expanded, expansion_if, expansion_within, expansion_of}
use Rattle.sources_reading.specs.Answering.{text, Answers, too_long, at_fault, not_admitted, ends_early, too_deep, meant, sources_answer}
use Rattle.sources_reading.proofs.Answered.{within, answers, one_answer}
use Rattle.sources_reading.proofs.Renumbered.{plain_answer}
use Rattle.channels.specs.Neighbours.{SameChannel, Inside, Pairs, key_in}
use Rattle.channels.proofs.ObjectTokens.{accepted_derivation}
use Rattle.channels.proofs.Statements.{exchange_many, isolation}
use Rattle.channels_texts.specs.Lent.{InText}
use Rattle.channels_texts.specs.Unchanged.{LentExchange, LentIsolation}
use Rattle.channels_texts.proofs.Lending.{told_same}
use Rattle.channels_texts.proofs.Expanding.{expansion_exchanged}
use Rattle.channels_texts.proofs.Everywhere.{exchanges_everywhere}
use Rattle.channels_texts.proofs.Neighbouring.{everywhere}

-- Accepted texts have no fault of the expansion.
record Plain (b l : List ℕ) : Type 0 where
  short : (expansion_of b l).number ≡ 30 → ⊥
  whole : (expanded b l).number ≡ 0

no_answer : {A : Type 0} → ◌≡◌ {A = Bool} false true → A
no_answer e = absurd (false≢true e)

by_answer : {b l : List ℕ} {a : Answer} (t : Tables) → Answers b l a → a ≡ accepted t → Plain b l
by_answer t (too_long h) e = no_answer cc
by_answer t (at_fault h i j k) e = no_answer cc
by_answer t (not_admitted h f u r i j k q) e = no_answer cc
by_answer t (ends_early h i j k q) e = no_answer cc
by_answer t (too_deep h f u r i j k q z) e = no_answer cc
by_answer t (meant h i j d) e = record { short = h; whole = i }

-- The expanded text of accepted texts is accepted, with the same tables.
read_so : (b l : List ℕ) (t : Tables) → Answers b l (accepted t) → reading (text b l) ≡ accepted t
read_so b l t h = let p = by_answer t h refl in sym (plain_answer b l p.short (inl p.whole)) ∙ one_answer h

plain_so : (b l : List ℕ) (t : Tables) → Answers b l (accepted t) → PlainAnswers (text b l) (accepted t)
plain_so b l t h = subst (PlainAnswers (text b l)) (read_so b l t h) (plain-answers (text b l))

-- The number of the expansion.
number_is : (b l : List ℕ) → (expansion_of b l).number ≡ pick (told_well b l) (pick (ltb 65535 (0 + length (expanded b l).bytes + (expanded b l).rest)) 30 (expanded b l).number) 30
unfolding expansion_within fill_of fill_by is_too_long
number_is b l = by (told_well b l)
  where
    inner : (c : Bool) (n p e t : ℕ) → (pick c (is_too_long 65535) (record { number = n; place = p; end = e; total = t })).number ≡ pick c 30 n
    inner true n p e t = refl
    inner false n p e t = refl

    by : (c : Bool) → (expansion_if c 65535 b l).number ≡ pick c (pick (ltb 65535 (0 + length (expanded b l).bytes + (expanded b l).rest)) 30 (expanded b l).number) 30
    by true = inner (ltb 65535 (0 + length (expanded b l).bytes + (expanded b l).rest)) (expanded b l).number (0 + (expanded b l).place) (0 + length (expanded b l).bytes) (0 + length (expanded b l).bytes + (expanded b l).rest)
    by false = refl

same_number : (b k l : List ℕ) → told_well b l ≡ told_well k l → length (expanded k l).bytes ≡ length (expanded b l).bytes → (expanded k l).rest ≡ (expanded b l).rest
    → (expanded k l).number ≡ (expanded b l).number → (expansion_of k l).number ≡ (expansion_of b l).number
same_number b k l e f g h =
    number_is k l
    ∙ ap₂ (λ c (z : ℕ). pick c z 30) (sym e) (ap₂ (λ (u n : ℕ). pick (ltb 65535 u) 30 n) (ap₂ (λ (u r : ℕ). 0 + u + r) f g) h)
    ∙ sym (number_is b l)

some : (t : List ℕ) → byte t (length t - 1) ≡ 59 → 0 < length t
some [] e = absurd (let q : ◌≡◌ {A = ℕ} 0 59 = e in omega arith)
some (j ∷ t) e = omega arith

longs : (P a x m y c Q : List ℕ) → length (P ++ ((a ++ (x ++ (m ++ (y ++ c)))) ++ Q)) ≡ length (P ++ ((a ++ (y ++ (m ++ (x ++ c)))) ++ Q))
longs P a x m y c Q =
    length-append P ((a ++ (x ++ (m ++ (y ++ c)))) ++ Q)
    ∙ ap (length P +◌) (length-append (a ++ (x ++ (m ++ (y ++ c)))) Q ∙ ap (◌+ length Q) inner ∙ sym (length-append (a ++ (y ++ (m ++ (x ++ c)))) Q))
    ∙ sym (length-append P ((a ++ (y ++ (m ++ (x ++ c)))) ++ Q))
  where
    inner : length (a ++ (x ++ (m ++ (y ++ c)))) ≡ length (a ++ (y ++ (m ++ (x ++ c))))
    inner =
        let p₁ = length-append a (x ++ (m ++ (y ++ c))) in
        let p₂ = length-append x (m ++ (y ++ c)) in
        let p₃ = length-append m (y ++ c) in
        let p₄ = length-append y c in
        let q₁ = length-append a (y ++ (m ++ (x ++ c))) in
        let q₂ = length-append y (m ++ (x ++ c)) in
        let q₃ = length-append m (x ++ c) in
        let q₄ = length-append x c in
        omega arith

-- The first statement,
pub lent_exchange : LentExchange
lent_exchange P a x m y c Q l k t h is i two =
    let b = P ++ ((a ++ (x ++ (m ++ (y ++ c)))) ++ Q) in
    let b' = P ++ ((a ++ (y ++ (m ++ (x ++ c)))) ++ Q) in
    let p = by_answer t h refl in
    let told = (within b l p.short).told in
    let e = expansion_exchanged P a x m y c Q l k told is i p.whole in
    let r = read_so b l t h in
    let d = accepted_derivation (text b l) t r in
    let u = exchange_many (text b l) t (plain_so b l t h) d (text b' l)
    (exchanges_everywhere (text b l) d _ x m y (some x i.one_semicolon) (expanded b l).origins (everywhere P a x m y c Q l k told is i two p.whole d) (text b' l) e.replaced) in
    let read : reading (text b' l) ≡ accepted u.tables = one_plain u.accepts.given in
    let short : (expansion_of b' l).number ≡ 30 → ⊥ = λ z. p.short (sym (same_number b b' l (told_same b b' l (longs P a x m y c Q)) e.long e.rest (e.number ∙ sym p.whole)) ∙ z) in
    let answer : sources_answer b' l ≡ accepted u.tables = plain_answer b' l short (inl e.number) ∙ read in
    record {
      tables = u.tables;
      accepts = subst (Answers b' l) answer (answers b' l);
      no_other = λ v w. sym (one_answer w) ∙ answer;
      same = u.same;
    }

-- and the second.
pub lent_isolation : LentIsolation
lent_isolation b l b' l' t u g h a i j c e f x y k n z =
    let s = plain_so b l t g in
    let v = plain_so b' l' u h in
    subst₂ (λ p q. SameChannel p q k n) (sym e) (sym f) (isolation a i j c t u (subst (λ p. PlainAnswers p (accepted t)) e s) (subst (λ p. PlainAnswers p (accepted u)) f v) x y k n z)
