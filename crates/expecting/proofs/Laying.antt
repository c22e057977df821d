-- The bytes of the texts by which the stage is asked, and the words. Assumes nothing.
use Prim.Native.Nat.{ℕ, suc, ◌+◌, ◌-◌, ◌≤◌, ◌<◌}
use mathlib.Core.Path.{◌≡◌, sym, ◌∙◌, ap, ap₂}
use mathlib.Core.List.{List, [], ◌∷◌, ◌++◌, append-nil}
use native.Mathlib.Omega.{arith}
use lib.ListN.{length, get_or, set, take, drop, replicate, length-append, length-set, length-drop, get_or-eq_default, drop_of_length-le}
use lib.Seq.{sets, sets-eq, length-take-le, set-append_seam, take-append_seam, take-append-add, drop-cons}
use lib.Dec.{eqb, eqb→eq}
use borrow.Rule.Slice.PartMut.{put_mid, post_of}
use Rattle.std.proofs.Common.{append_assoc, map}
use Rattle.std.proofs.lemmas.List.{get_or_default, get_or-map}
use Rattle.token.proofs.Tables.{below}
use Rattle.expecting.specs.Samples.{samples, sample_of, asking}
use Rattle.expecting.specs.Words.{terminal_words, word_of, padded}

-- ---- the samples

pub sample_at : (i : ℕ) (d : List ℕ) → i < 29 → get_or samples i d ≡ sample_of i
unfolding sample_of
sample_at i d h = get_or_default samples i d [] h

sample_long : (i : ℕ) → i < 29 → length (sample_of i) ≡ 16
unfolding sample_of
sample_long i h = eqb→eq (length (get_or samples i [])) 16 (below (λ n. eqb (length (get_or samples n [])) 16) 29 tt i h)

-- What is as long as the room is stored whole.
pub whole_stored : (l vs : List ℕ) → length l ≡ length vs → sets l 0 vs ≡ vs
whole_stored l vs e =
    sets-eq vs l 0 (omega (arith, e)) ∙ ap (λ (r : List ℕ). vs ++ r) (drop_of_length-le l (omega (arith, e))) ∙ append-nil vs

-- The room before the line feed, and that of a sample behind it.
pub text_room : (p : ℕ) (l s : List ℕ) → p ≤ length s → p + 17 ≤ length l → length (take p l) ≡ length (take p s)
text_room p l s h k = length-take-le p l (omega arith) ∙ sym (length-take-le p s h)

pub sample_room : (i p : ℕ) (x l v : List ℕ) → length x ≡ p → p + 17 ≤ length l → v ≡ sample_of i → i < 29
    → length (take (p + 17 - (p + 1)) (drop (p + 1) (set (x ++ drop p l) p 10))) ≡ length v
sample_room i p x l v e h g k =
    let a = length-set (x ++ drop p l) p 10 in
    let b = length-append x (drop p l) in
    let c = length-drop p l in
    let d = length-drop (p + 1) (set (x ++ drop p l) p 10) in
    let n : p + 17 - (p + 1) ≡ 16 = omega arith in
    length-take-le (p + 17 - (p + 1)) (drop (p + 1) (set (x ++ drop p l) p 10)) (omega (arith, a, b, c, d, e, h)) ∙ n ∙ sym (ap length g ∙ sample_long i k)

-- A text x, a line feed and sixteen bytes v, written one after another over l.
laid : (x l v : List ℕ) → length v ≡ 16 → length x < length l
    → take (length x + 17) (put_mid (length x + 1) (length x + 17 - (length x + 1)) (set (x ++ drop (length x) l) (length x) 10) v) ≡ x ++ (10 ∷ v)
laid x l v e h =
    let r = drop (suc (length x)) l in
    let a : set (x ++ drop (length x) l) (length x) 10 ≡ x ++ (10 ∷ r) =
    ap (λ (t : List ℕ). set (x ++ t) (length x) 10) (drop-cons l (length x) 0 h) ∙ set-append_seam x (get_or l (length x) 0) r 10 in
    let post : List ℕ = post_of (length x + 1) (length x + 17 - (length x + 1)) (x ++ (10 ∷ r)) in
    let b : take (length x + 1) (x ++ (10 ∷ r)) ≡ x ++ (10 ∷ []) = take-append-add x (10 ∷ r) 1 in
    let c = length-append (x ++ (10 ∷ [])) v in
    let f = length-append x (10 ∷ []) in
    let n : length ((x ++ (10 ∷ [])) ++ v) ≡ length x + 17 = omega (arith, c, f, e) in
    ap (λ (t : List ℕ). take (length x + 17) (put_mid (length x + 1) (length x + 17 - (length x + 1)) t v)) a
    ∙ ap (λ (t : List ℕ). take (length x + 17) (t ++ (v ++ post))) b
    ∙ ap (take (length x + 17)) (sym (append_assoc (x ++ (10 ∷ [])) v post))
    ∙ ap (λ (m : ℕ). take m (((x ++ (10 ∷ [])) ++ v) ++ post)) (sym n)
    ∙ take-append_seam ((x ++ (10 ∷ [])) ++ v) post
    ∙ append_assoc x (10 ∷ []) v

pub lay_is : (s l x v : List ℕ) (p i : ℕ) → x ≡ take p s → v ≡ sample_of i → p ≤ length s → p + 17 ≤ length l → i < 29
    → take (p + 17) (put_mid (p + 1) (p + 17 - (p + 1)) (set (x ++ drop p l) p 10) v) ≡ asking s p i
unfolding asking
lay_is s l x v p i e g h k r =
    let z : length x ≡ p = ap length e ∙ length-take-le p s h in
    ap (λ (q : ℕ). take (q + 17) (put_mid (q + 1) (q + 17 - (q + 1)) (set (x ++ drop q l) q 10) v)) (sym z)
    ∙ laid x l v (ap length g ∙ sample_long i r) (omega arith) ∙ ap₂ (λ (y w : List ℕ). y ++ (10 ∷ w)) e g

-- ---- the words

pub letters_at : (i : ℕ) (d : List ℕ) → i < 29 → get_or (map padded terminal_words) i d ≡ padded (word_of i)
unfolding word_of
letters_at i d h = get_or-map padded terminal_words i [] d h

pub length_at : (i : ℕ) (d : ℕ) → i < 29 → get_or (map length terminal_words) i d ≡ length (word_of i)
unfolding word_of
length_at i d h = get_or-map length terminal_words i [] d h

pub no_word : (i : ℕ) → 29 ≤ i → word_of i ≡ []
unfolding word_of
no_word i h = get_or-eq_default terminal_words [] h

pub no_length : (i : ℕ) → 29 ≤ i → 0 ≡ length (word_of i)
no_length i h = sym (ap length (no_word i h))

pub no_letters : (i : ℕ) → 29 ≤ i → replicate 24 32 ≡ padded (word_of i)
unfolding padded
no_letters i h = sym (ap padded (no_word i h))
