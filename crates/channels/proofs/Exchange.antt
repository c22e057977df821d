-- THE EXCHANGE: two neighbouring objects of an accepted text change places. Assumes nothing.
use mathlib.Core.Path.{◌≡◌, refl, sym, ◌∙◌, ap, ap₂, subst}
use mathlib.Core.List.{List, [], ◌∷◌, ◌++◌, append_assoc}
use mathlib.Core.Bool.{false}
use Prim.Native.Nat.{ℕ, ◌+◌, ◌-◌, ◌≤◌}
use native.Mathlib.Omega.{arith}
use lib.ListN.{length, length-append, take, drop}
use lib.Seq.{take-append_seam, drop-append_seam}
use Rattle.token.specs.Tokens.{bytes_between}
use Rattle.locality.proofs.Pieces.{may_start}
use Rattle.grammar.specs.Grammar.{Token, tokens as Leaves-of}
use Rattle.grammar.specs.Terminals.{tokens}
use Rattle.grammar.specs.Stage.{Divides, Shallow}
use Rattle.grammar.specs.Demand.{Covered}
use Rattle.meaning.specs.Syntax.{Word}
use Rattle.meaning.specs.Places.{each}
use Rattle.meaning.specs.Answers.{Tables, accepted}
use Rattle.meaning.specs.Reading.{reading}
use Rattle.meaning.proofs.Found.{reading_derived}
use Rattle.meaning.proofs.Unplaced.{each_append}
use Rattle.reads_back.proofs.Restated.{plain_word, word_opens, word_closes}
use Rattle.reads_back.proofs.SayingPieces.{Says, says_append}
use Rattle.reads_back.proofs.SayingTokens.{piece_divides}
use Rattle.reads_back.proofs.DepthWords.{Low, low_front, low_back, low_append, low_shallow, shallow_by_words, tokens_low}
use Rattle.channels.specs.Neighbours.{first_place, end_of_last, Neighbours}
use Rattle.channels.proofs.Computed.{ReadsUnchanged}
use Rattle.channels.proofs.ObjectTrees.{all_leaves, with_objects, front_leaves, back_leaves}
use Rattle.channels.proofs.Saying.{front_says, Ends, object_says, between_says, words_in, text_words, piece_words, rest_divides, last_end_is}
use Rattle.channels.proofs.ObjectTokens.{object_ends, object_balanced, before_ending, spread, text_spread, accepted_covered}
use Rattle.channels.proofs.Moved.{carried, channel_derived}
use Rattle.channels.proofs.Exchanging.{exchanged}

-- Bytes --------------------------------------------------------------------------------------------------------------------------------------

-- A part of a text.
pub part_is : (p x r : List ℕ) (i j : ℕ) → i ≡ length p → j ≡ length p + length x → bytes_between (p ++ (x ++ r)) i j ≡ x
part_is p x r i j e f =
    let n : j - i ≡ length x = omega arith in
    ap₂ (λ (k m : ℕ). take k (drop m (p ++ (x ++ r)))) n e ∙ ap (take (length x)) (drop-append_seam p (x ++ r)) ∙ take-append_seam x r

pub four : {A : Type 0} (a x m y b : List A) → a ++ (x ++ (m ++ (y ++ b))) ≡ (a ++ (x ++ (m ++ y))) ++ b
four a x m y b =
    sym (append_assoc a (x ++ (m ++ y)) b ∙ ap (a ++◌) (append_assoc x (m ++ y) b ∙ ap (x ++◌) (append_assoc m y b)))

pub cancel : {A : Type 0} (l m n : List A) → l ++ m ≡ l ++ n → m ≡ n
cancel [] m n e = e
cancel (a ∷ l) m n e = cancel l m n cc

-- Depth --------------------------------------------------------------------------------------------------------------------------------------

pub low_swap : (A X Y B : List Word) → word_opens X ≡ word_closes X → word_opens Y ≡ word_closes Y → Low 0 0 (A ++ (X ++ (Y ++ B))) → Low 0 0 (A ++ (Y ++ (X ++ B)))
low_swap A X Y B p q h =
    let i = word_opens A in
    let j = word_closes A in
    let r : Low i j (X ++ (Y ++ B)) = low_back A (X ++ (Y ++ B)) 0 0 i j (omega arith) h in
    let s : Low i j (Y ++ B) = low_back X (Y ++ B) i j i j (omega arith) r in
    let t : Low i j B = low_back Y B i j i j (omega arith) s in
    low_append A (Y ++ (X ++ B)) 0 0 i j (omega arith) (low_front A (X ++ (Y ++ B)) 0 0 h)
    (low_append Y (X ++ B) i j i j (omega arith) (low_front Y B i j s) (low_append X B i j i j (omega arith) (low_front X (Y ++ B) i j r) t))

-- The parts ----------------------------------------------------------------------------------------------------------------------------------

module _ (a x m y b : List ℕ) (t : Tables) (accepts : reading (a ++ (x ++ (m ++ (y ++ b)))) ≡ accepted t) (n : Neighbours a x m y b) where
  abbrev s : List ℕ
  s = a ++ (x ++ (m ++ (y ++ b)))

  abbrev u : List ℕ
  u = a ++ (y ++ (m ++ (x ++ b)))

  abbrev A : List Token
  A = front_leaves n.derivation.tree ++ all_leaves n.before

  abbrev X : List Token
  X = Leaves-of n.one

  abbrev Y : List Token
  Y = Leaves-of n.other

  abbrev B : List Token
  B = all_leaves n.after ++ back_leaves n.derivation.tree

  abbrev W : List Token → List Word
  W l = each (plain_word s) l

  whole : tokens s ≡ A ++ (X ++ (Y ++ B))
  whole = text_spread s n.derivation n.before n.after n.one n.other n.objects_are

  covered : Covered s
  covered = accepted_covered s t accepts

  one_ends : Ends X
  one_ends = object_ends n.one

  other_ends : Ends Y
  other_ends = object_ends n.other

  says_a : Says false a (W A)
  unfolding first_place
  says_a =
      let e = one_ends in
      front_says a (x ++ (m ++ (y ++ b))) A e.first ((e.mid ++ (e.final ∷ [])) ++ (Y ++ B)) (whole ∙ ap (λ l. A ++ (l ++ (Y ++ B))) e.leaves)
      (sym (ap first_place e.leaves) ∙ n.one_begins) (before_ending n.derivation.tree n.before)

  says_x : Says false x (W X)
  says_x =
      subst (λ z. Says false z (W X)) (part_is a x (m ++ (y ++ b)) (first_place X) (end_of_last X) n.one_begins n.one_ends)
      (object_says s A X (Y ++ B) whole one_ends)

  says_y : Says false y (W Y)
  says_y =
      let p = a ++ (x ++ m) in
      let l : length p ≡ length a + (length x + length m) = length-append a (x ++ m) ∙ ap (length a +◌) (length-append x m) in
      let e : s ≡ p ++ (y ++ b) = sym (append_assoc a (x ++ m) (y ++ b) ∙ ap (a ++◌) (append_assoc x m (y ++ b))) in
      let i = n.other_begins in
      let j = n.other_ends in
      let k : end_of_last Y ≡ length p + length y = omega arith in
      subst (λ z. Says false z (W Y))
      (ap (λ z. bytes_between z (first_place Y) (end_of_last Y)) e ∙ part_is p y b (first_place Y) (end_of_last Y) (i ∙ sym l) k)
      (object_says s (A ++ X) Y B (whole ∙ sym (append_assoc A X (Y ++ B))) other_ends)

  says_m : Says false m []
  unfolding first_place
  says_m =
      let e = one_ends in
      let f = other_ends in
      let l = length-append a x in
      let i = n.one_ends in
      let j = n.other_begins in
      let k : end_of_last X ≡ e.final.place + e.final.length = ap end_of_last e.leaves ∙ last_end_is (e.first ∷ e.mid) e.final in
      let h : first_place Y ≡ f.first.place = ap first_place f.leaves in
      let R = (f.mid ++ (f.final ∷ [])) ++ B in
      between_says (a ++ x) m (y ++ b) (A ++ (e.first ∷ e.mid)) e.final f.first R
      (ap tokens (append_assoc a x (m ++ (y ++ b))) ∙ whole ∙ ap₂ (λ v w. A ++ (v ++ (w ++ B))) e.leaves f.leaves
      ∙ sym (append_assoc A (e.first ∷ (e.mid ++ (e.final ∷ []))) (f.first ∷ R))
      ∙ ap (◌++ (f.first ∷ R)) (sym (append_assoc A (e.first ∷ e.mid) (e.final ∷ []))))
      (omega arith) (omega arith)

  -- The text as it was, up to the second object, and as it is now.
  says_old : Says false (a ++ (x ++ (m ++ y))) (W A ++ (W X ++ W Y))
  unfolding may_start
  says_old = says_append refl says_a (says_append refl says_x (says_append refl says_m says_y))

  says_new : Says false (a ++ (y ++ (m ++ x))) (W A ++ (W Y ++ W X))
  unfolding may_start
  says_new = says_append refl says_a (says_append refl says_y (says_append refl says_m says_x))

  old_words : W (tokens s) ≡ W A ++ (W X ++ (W Y ++ words_in b))
  old_words =
      text_words s ∙ ap words_in (four a x m y b) ∙ piece_words says_old b ∙ append_assoc (W A) (W X ++ W Y) (words_in b) ∙ ap (W A ++◌) (append_assoc (W X) (W Y) (words_in b))

  new_words : each (plain_word u) (tokens u) ≡ W A ++ (W Y ++ (W X ++ words_in b))
  new_words =
      text_words u ∙ ap words_in (four a y m x b) ∙ piece_words says_new b ∙ append_assoc (W A) (W Y ++ W X) (words_in b) ∙ ap (W A ++◌) (append_assoc (W Y) (W X) (words_in b))

  spread_words : (P Q : List Token) → W (A ++ (P ++ (Q ++ B))) ≡ W A ++ (W P ++ (W Q ++ W B))
  spread_words P Q =
      each_append (plain_word s) A (P ++ (Q ++ B)) ∙ ap (W A ++◌) (each_append (plain_word s) P (Q ++ B) ∙ ap (W P ++◌) (each_append (plain_word s) Q B))

  rest_words : W B ≡ words_in b
  rest_words =
      cancel (W Y) (W B) (words_in b) (cancel (W X) (W Y ++ W B) (W Y ++ words_in b) (cancel (W A) (W X ++ (W Y ++ W B)) (W X ++ (W Y ++ words_in b))
      (sym (spread_words X Y) ∙ ap W (sym whole) ∙ old_words)))

  -- The tokens of the text now have the words of the tree with its objects exchanged.
  exchanged_words : each (plain_word u) (tokens u) ≡ W (Leaves-of (with_objects n.derivation.tree (n.before ++ (n.other ∷ n.one ∷ n.after))))
  exchanged_words =
      new_words ∙ ap (λ z. W A ++ (W Y ++ (W X ++ z))) (sym rest_words) ∙ sym (spread_words Y X)
      ∙ ap W (sym (spread n.derivation.tree n.before n.after n.other n.one))

  divides : Divides u
  divides = subst Divides (sym (four a y m x b)) (piece_divides says_new.piece b (rest_divides says_old b (subst Divides (four a x m y b) covered.divides)))

  short : length u ≤ 65535
  short =
      let h = covered.short in
      let p₁ = length-append a (x ++ (m ++ (y ++ b))) in
      let p₂ = length-append x (m ++ (y ++ b)) in
      let p₃ = length-append m (y ++ b) in
      let p₄ = length-append y b in
      let q₁ = length-append a (y ++ (m ++ (x ++ b))) in
      let q₂ = length-append y (m ++ (x ++ b)) in
      let q₃ = length-append m (x ++ b) in
      let q₄ = length-append x b in
      omega arith

  shallow : Shallow (tokens u)
  shallow =
      shallow_by_words u (tokens u) (low_shallow _ (subst (λ l. Low 0 0 l) (sym new_words)
      (low_swap (W A) (W X) (W Y) (words_in b) (object_balanced s n.one) (object_balanced s n.other)
      (subst (λ l. Low 0 0 l) old_words (tokens_low s (tokens s) covered.shallow)))))

  -- It is accepted, with the same channels.
  pub unchanged : ReadsUnchanged s u
  unchanged =
      let d = n.derivation in
      let k = exchanged s d.tree n.before n.after n.one n.other t n.objects_are n.different (sym (reading_derived s covered d) ∙ accepts) in
      let c = carried s u (with_objects d.tree (n.before ++ (n.other ∷ n.one ∷ n.after))) k.tables
      (record { short = short; divides = divides; shallow = shallow }) exchanged_words k.accepts in
      record {
        tables = c.tables;
        accepts = c.accepts;
        same = λ i j. c.channels i j ∙ k.same i j ∙ sym (channel_derived s covered d i j);
      }
