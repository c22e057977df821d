-- Any number of pairs of neighbouring parts change places at once. Assumes nothing.
use mathlib.Core.Path.{◌≡◌, refl, sym, ◌∙◌, ap, ap₂, subst}
use mathlib.Core.Bool.{false}
use mathlib.Core.List.{List, [], ◌∷◌, ◌++◌, append_assoc, append-nil}
use Prim.Native.Nat.{ℕ, ◌+◌, ◌-◌, ◌≤◌}
use native.Mathlib.Omega.{arith}
use lib.ListN.{length, length-append, length-drop, take, drop, take-append-drop}
use lib.Seq.{length-take-le, take-append_seam}
use Rattle.token.specs.Tokens.{bytes_between}
use Rattle.locality.proofs.Join.{halves, part_long}
use Rattle.locality.proofs.Pieces.{may_start}
use Rattle.grammar.specs.Grammar.{Token, Form, ◌▸◌, ∎, ◌⟶◌, Trees, nil, leaf, node, file, objects, file_is, application_is, no_object, an_object, Derivation, tokens as Leaves-of}
use Rattle.grammar.specs.Terminals.{tokens}
use Rattle.grammar.specs.Stage.{Divides}
use Rattle.meaning.specs.Syntax.{Word}
use Rattle.meaning.specs.Actions.{syntax}
use Rattle.meaning.specs.Places.{each}
use Rattle.meaning.specs.Answers.{Tables, accepted, answer}
use Rattle.meaning.specs.Reading.{reading}
use Rattle.meaning.proofs.Found.{reading_derived}
use Rattle.meaning.proofs.Unplaced.{each_append}
use Rattle.reads_back.proofs.Restated.{plain_word, word_opens, word_closes}
use Rattle.reads_back.proofs.SayingPieces.{Says, says_append}
use Rattle.reads_back.proofs.SayingTokens.{piece_divides}
use Rattle.reads_back.proofs.DepthWords.{Low, low_shallow, shallow_by_words, tokens_low}
use Rattle.channels.specs.Channels.{channel}
use Rattle.channels.specs.Neighbours.{ObjectTree, each_tree, object_trees, first_place, end_of_last, key_in, Exchanges, rest_stands, part_stands, two_exchanged}
use Rattle.channels.proofs.Computed.{ReadsUnchanged}
use Rattle.channels.proofs.ObjectTrees.{join_trees, rest_trees, all_leaves, with_objects, front_leaves, back_leaves, with_own, with_trees}
use Rattle.channels.proofs.Saying.{Ending, front_says, Ends, object_says, between_says, words_in, text_words, piece_words, rest_divides, last_end_is}
use Rattle.channels.proofs.ObjectTokens.{object_ends, object_balanced, before_ending, accepted_covered}
use Rattle.channels.proofs.Moved.{carried, channel_derived}
use Rattle.channels.proofs.Exchanging.{Kept, exchanged}
use Rattle.channels.proofs.Exchange.{four, cancel, low_swap}
use Rattle.channels.proofs.Places.{Range, object_range, begins_behind}

-- Trees ----------------------------------------------------------------------------------------------------------------------------------------

each_join : {f : Form} (l : List ObjectTree) (r : Trees ◌⟶◌ f) → each_tree (join_trees l r) ≡ l
unfolding each_tree join_trees
each_join [] r = refl
each_join (node p x nil ∷ l) r = ap (node p x nil ∷◌) (each_join l nil)

rest_join : {f : Form} (l : List ObjectTree) (r : Trees ◌⟶◌ f) → rest_trees (join_trees l r) ≡ r
unfolding rest_trees join_trees
rest_join [] r = refl
rest_join (node p x nil ∷ l) r = refl

objects_with : (t : Trees ◌⟶◌ (file ▸ ∎)) (l : List ObjectTree) → object_trees (with_objects t l) ≡ l
unfolding object_trees with_objects
objects_with (node file_is (node p v (node q i (node application_is (leaf a k (leaf b m (leaf c n os))) nil))) nil) l = each_join l (rest_trees os)

with_twice : (t : Trees ◌⟶◌ (file ▸ ∎)) (l m : List ObjectTree) → with_objects (with_objects t l) m ≡ with_objects t m
unfolding with_objects
with_twice (node file_is (node p v (node q i (node application_is (leaf a k (leaf b z (leaf c n os))) nil))) nil) l m =
    ap (λ r. node file_is (node p v (node q i (node application_is (leaf a k (leaf b z (leaf c n (join_trees m r)))) nil))) nil) (rest_join l (rest_trees os))

-- The parts after the exchanges.
unfoldable after : {s : List ℕ} {p : ℕ} {l : List ObjectTree} {u : List ℕ} → Exchanges s p l u → List ObjectTree
after (rest_stands p l) = l
after (part_stands p x l u e) = x ∷ after e
after (two_exchanged p x y l u d e) = y ∷ x ∷ after e

-- The syntax -----------------------------------------------------------------------------------------------------------------------------------

module _ (s : List ℕ) where
  kept_own : (t : Trees ◌⟶◌ (file ▸ ∎)) (l : List ObjectTree) (r : Tables) → object_trees t ≡ l → answer (syntax s t) ≡ accepted r → Kept s t (with_objects t l)
  kept_own t l r e h =
      subst (Kept s t) (sym (with_own t) ∙ ap (with_objects t) e) (record { tables = r; accepts = h; same = λ k n. refl })

  kept_both : (t v w : Trees ◌⟶◌ (file ▸ ∎)) → Kept s t v → Kept s v w → Kept s t w
  kept_both t v w a b = record { tables = b.tables; accepts = b.accepts; same = λ k n. b.same k n ∙ a.same k n }

  many_kept : {p : ℕ} {l : List ObjectTree} {u : List ℕ} (e : Exchanges s p l u) (pre : List ObjectTree) (t : Trees ◌⟶◌ (file ▸ ∎)) (r : Tables) → object_trees t ≡ pre ++ l
      → answer (syntax s t) ≡ accepted r → Kept s t (with_objects t (pre ++ after e))
  unfolding after
  many_kept (rest_stands p l) pre t r o h = kept_own t (pre ++ l) r o h
  many_kept (part_stands p x l u e) pre t r o h =
      subst (λ m. Kept s t (with_objects t m)) (append_assoc pre (x ∷ []) (after e)) (many_kept e (pre ++ (x ∷ [])) t r (o ∙ sym (append_assoc pre (x ∷ []) l)) h)
  many_kept (two_exchanged p x y l u d e) pre t r o h =
      let k = exchanged s t pre l x y r o d h in
      let v = with_objects t (pre ++ (y ∷ x ∷ l)) in
      let i = many_kept e (pre ++ (y ∷ x ∷ [])) v k.tables (objects_with t (pre ++ (y ∷ x ∷ l)) ∙ sym (append_assoc pre (y ∷ x ∷ []) l)) k.accepts in
      kept_both t v (with_objects t (pre ++ (y ∷ x ∷ after e))) k
      (subst (Kept s v) (with_twice t (pre ++ (y ∷ x ∷ l)) ((pre ++ (y ∷ x ∷ [])) ++ after e) ∙ ap (with_objects t) (append_assoc pre (y ∷ x ∷ []) (after e))) i)

-- The bytes ------------------------------------------------------------------------------------------------------------------------------------

-- A part of a text, in two.
pub two_parts : (s : List ℕ) (p q e : ℕ) → p ≤ q → q ≤ e → e ≤ length s → bytes_between s p q ++ bytes_between s q e ≡ bytes_between s p e
two_parts s p q e a b c =
    let x = bytes_between s p q in
    let y = bytes_between s q e in
    let h : drop p s ≡ (x ++ y) ++ drop e s = halves s p q a (omega arith) ∙ ap (x ++◌) (halves s q e b c) ∙ sym (append_assoc x y (drop e s)) in
    let n : length (x ++ y) ≡ e - p = length-append x y ∙ ap₂ ◌+◌ (part_long s p q a (omega arith)) (part_long s q e b c) ∙ (let z : (q - p) + (e - q) ≡ e - p = omega arith in z) in
    sym (ap₂ (λ (k : ℕ) (l : List ℕ). take k l) (sym n) h ∙ take-append_seam (x ++ y) (drop e s))

-- Where a part begins, after the tokens A: the text's start, with the tokens G before the first part; or where the last of them ends.
data Reached (s : List ℕ) (t : Trees ◌⟶◌ (file ▸ ∎)) : ℕ → List Token → List Token → Type 0 where
  at_start : Reached s t 0 [] (front_leaves t)
  at_end : (p : ℕ) (A B : List Token) (c : Token) → A ≡ B ++ (c ∷ []) → p ≡ c.place + c.length → Reached s t p A []

module _ (s : List ℕ) (t : Trees ◌⟶◌ (file ▸ ∎)) where
  abbrev W : List Token → List Word
  W l = each (plain_word s) l

  -- What stands before a part.
  record Gap (p : ℕ) (G X : List Token) : Type 0 where
    low : p ≤ first_place X
    says : Says false (bytes_between s p (first_place X)) (W G)

  gap_says : {p : ℕ} {A G : List Token} → Reached s t p A G → (X B : List Token) → tokens s ≡ A ++ (G ++ (X ++ B)) → Ends X → Range s X → p ≤ length s → Gap p G X
  unfolding first_place all_leaves each
  gap_says at_start X B w x g i =
      let f = first_place X in
      let low = g.low in
      let high = g.high in
      let h : bytes_between s 0 f ++ drop f s ≡ s = sym (halves s 0 f (omega arith) (omega arith)) in
      let k = part_long s 0 f (omega arith) (omega arith) in
      let n : length (bytes_between s 0 f) ≡ f = omega arith in
      let R = (x.mid ++ (x.final ∷ [])) ++ B in
      let y = front_says (bytes_between s 0 f) (drop f s) (front_leaves t) x.first R (ap tokens h ∙ w ∙ ap (λ l. front_leaves t ++ (l ++ B)) x.leaves)
      (sym (ap first_place x.leaves) ∙ sym n) (subst Ending (append-nil (front_leaves t)) (before_ending t [])) in
      record { low = omega arith; says = subst (λ v. Says false (bytes_between s 0 f) (each (plain_word v) (front_leaves t))) h y }
  gap_says (at_end p A C c a e) X B w x g i =
      let f = first_place X in
      let R = (x.mid ++ (x.final ∷ [])) ++ B in
      let z : tokens s ≡ (C ++ (c ∷ [])) ++ (x.first ∷ R) = w ∙ ap₂ (λ l m. l ++ (m ++ B)) a x.leaves in
      let b = begins_behind s C c x.first R z in
      let q : f ≡ x.first.place = ap first_place x.leaves in
      let low = g.low in
      let high = g.high in
      let h : take p s ++ (bytes_between s p f ++ drop f s) ≡ s = ap (take p s ++◌) (sym (halves s p f (omega arith) (omega arith))) ∙ take-append-drop p s in
      let n : length (take p s) ≡ p = length-take-le p s i in
      let m : length (bytes_between s p f) ≡ f - p = part_long s p f (omega arith) (omega arith) in
      record { low = omega arith; says = between_says (take p s) (bytes_between s p f) (drop f s) C c x.first R (ap tokens h ∙ z) (omega arith) (omega arith) }

  spread_words : (G X R : List Token) → W (G ++ (X ++ R)) ≡ W G ++ (W X ++ W R)
  spread_words G X R = each_append (plain_word s) G (X ++ R) ∙ ap (W G ++◌) (each_append (plain_word s) X R)

  -- What the exchanged text says from p on, before the tokens B.
  record Told (p : ℕ) (u : List ℕ) (G L B : List Token) : Type 0 where
    words : words_in u ≡ W (G ++ (L ++ B))
    divides : Divides u
    long : length u + p ≡ length s

  -- After an object.
  module _ (A G X R : List Token) (x : Ends X) (w : tokens s ≡ A ++ (G ++ (X ++ R))) where
    whole_after : tokens s ≡ (A ++ G) ++ (X ++ R)
    whole_after = w ∙ sym (append_assoc A G (X ++ R))

    reached_after : Reached s t (end_of_last X) ((A ++ G) ++ X) []
    reached_after =
        at_end (end_of_last X) ((A ++ G) ++ X) ((A ++ G) ++ (x.first ∷ x.mid)) x.final
        (ap ((A ++ G) ++◌) x.leaves ∙ sym (append_assoc (A ++ G) (x.first ∷ x.mid) (x.final ∷ []))) (ap end_of_last x.leaves ∙ last_end_is (x.first ∷ x.mid) x.final)

    next_after : tokens s ≡ ((A ++ G) ++ X) ++ R
    next_after = whole_after ∙ sym (append_assoc (A ++ G) X R)

    range_after : Range s X
    range_after = object_range s (A ++ G) X R whole_after x

  module _ (B : List Token) where
    many_told : {p : ℕ} {l : List ObjectTree} {u : List ℕ} (e : Exchanges s p l u) {A G : List Token} → Reached s t p A G → p ≤ length s → tokens s ≡ A ++ (G ++ (all_leaves l ++ B))
        → words_in (drop p s) ≡ W (G ++ (all_leaves l ++ B)) → Divides (drop p s) → Told p u G (all_leaves (after e)) B
    unfolding after all_leaves may_start each
    many_told (rest_stands p l) r i w v d = record { words = v; divides = d; long = (let n = length-drop p s in omega arith) }
    many_told (part_stands p x l u e) {A} {G} r i w v d =
        let X = Leaves-of x in
        let L = all_leaves l in
        let f = first_place X in
        let q = end_of_last X in
        let o = object_ends x in
        let w' : tokens s ≡ A ++ (G ++ (X ++ (L ++ B))) = w ∙ ap (λ z. A ++ (G ++ z)) (append_assoc X L B) in
        let g = range_after A G X (L ++ B) o w' in
        let gl = g.low in
        let gh = g.high in
        let a = gap_says r X (L ++ B) w' o g i in
        let al = a.low in
        let b = object_says s (A ++ G) X (L ++ B) (whole_after A G X (L ++ B) o w') o in
        let c : Says false (bytes_between s p q) (W G ++ W X) = subst (λ z. Says false z (W G ++ W X)) (two_parts s p f q al gl gh) (says_append refl a.says b) in
        let h : drop p s ≡ bytes_between s p q ++ drop q s = halves s p q (omega arith) gh in
        let v' : words_in (drop q s) ≡ W (L ++ B) =
        cancel (W G ++ W X) (words_in (drop q s)) (W (L ++ B))
        (sym (piece_words c (drop q s)) ∙ ap words_in (sym h) ∙ v ∙ ap (λ z. W (G ++ z)) (append_assoc X L B) ∙ spread_words G X (L ++ B) ∙ sym (append_assoc (W G) (W X) (W (L ++ B)))) in
        let d' = rest_divides c (drop q s) (subst Divides h d) in
        let y = many_told e (reached_after A G X (L ++ B) o w') gh (next_after A G X (L ++ B) o w') v' d' in
        let n = y.long in
        let m = part_long s p q (omega arith) gh in
        let k = length-append (bytes_between s p q) u in
        record {
          words = piece_words c u ∙ ap ((W G ++ W X) ++◌) y.words ∙ append_assoc (W G) (W X) (W (all_leaves (after e) ++ B)) ∙ sym (spread_words G X (all_leaves (after e) ++ B))
              ∙ ap (λ z. W (G ++ z)) (sym (append_assoc X (all_leaves (after e)) B));
          divides = piece_divides c.piece u y.divides;
          long = omega arith;
        }
    many_told (two_exchanged p x z l u different e) {A} {G} r i w v d =
        let X = Leaves-of x in
        let Y = Leaves-of z in
        let L = all_leaves l in
        let o = object_ends x in
        let j = object_ends z in
        let e₁ : (X ++ (Y ++ L)) ++ B ≡ X ++ (Y ++ (L ++ B)) = append_assoc X (Y ++ L) B ∙ ap (X ++◌) (append_assoc Y L B) in
        let w' : tokens s ≡ A ++ (G ++ (X ++ (Y ++ (L ++ B)))) = w ∙ ap (λ q. A ++ (G ++ q)) e₁ in
        let A' = (A ++ G) ++ X in
        let w'' : tokens s ≡ A' ++ ([] ++ (Y ++ (L ++ B))) = next_after A G X (Y ++ (L ++ B)) o w' in
        let g = range_after A G X (Y ++ (L ++ B)) o w' in
        let gl = g.low in
        let gh = g.high in
        let g' = range_after A' [] Y (L ++ B) j w'' in
        let gl' = g'.low in
        let gh' = g'.high in
        let fx = first_place X in
        let lx = end_of_last X in
        let fy = first_place Y in
        let ly = end_of_last Y in
        let a = gap_says r X (Y ++ (L ++ B)) w' o g i in
        let al = a.low in
        let m = gap_says (reached_after A G X (Y ++ (L ++ B)) o w') Y (L ++ B) w'' j g' gh in
        let ml = m.low in
        let b = object_says s (A ++ G) X (Y ++ (L ++ B)) (whole_after A G X (Y ++ (L ++ B)) o w') o in
        let c = object_says s (A' ++ []) Y (L ++ B) (whole_after A' [] Y (L ++ B) j w'') j in
        let ga = bytes_between s p fx in
        let bx = bytes_between s fx lx in
        let bm = bytes_between s lx fy in
        let by = bytes_between s fy ly in
        let old : Says false (ga ++ (bx ++ (bm ++ by))) (W G ++ (W X ++ W Y)) = says_append refl a.says (says_append refl b (says_append refl m.says c)) in
        let new : Says false (ga ++ (by ++ (bm ++ bx))) (W G ++ (W Y ++ W X)) = says_append refl a.says (says_append refl c (says_append refl m.says b)) in
        let rest = drop ly s in
        let h : drop p s ≡ (ga ++ (bx ++ (bm ++ by))) ++ rest =
        halves s p fx al (omega arith) ∙ ap (ga ++◌) (halves s fx lx gl gh ∙ ap (bx ++◌) (halves s lx fy ml (omega arith) ∙ ap (bm ++◌) (halves s fy ly gl' gh'))) ∙ four ga bx bm by rest in
        let k : W (G ++ ((X ++ (Y ++ L)) ++ B)) ≡ (W G ++ (W X ++ W Y)) ++ W (L ++ B) =
        ap (λ q. W (G ++ q)) e₁ ∙ spread_words G X (Y ++ (L ++ B)) ∙ ap (λ q. W G ++ (W X ++ q)) (each_append (plain_word s) Y (L ++ B))
        ∙ sym (append_assoc (W G) (W X ++ W Y) (W (L ++ B)) ∙ ap (W G ++◌) (append_assoc (W X) (W Y) (W (L ++ B)))) in
        let v' : words_in rest ≡ W (L ++ B) =
        cancel (W G ++ (W X ++ W Y)) (words_in rest) (W (L ++ B)) (sym (piece_words old rest) ∙ ap words_in (sym h) ∙ v ∙ k) in
        let d' = rest_divides old rest (subst Divides h d) in
        let y = many_told e (reached_after A' [] Y (L ++ B) j w'') gh' (next_after A' [] Y (L ++ B) j w'') v' d' in
        let M = all_leaves (after e) in
        let n = y.long in
        let ka = part_long s p fx al (omega arith) in
        let kx = part_long s fx lx gl gh in
        let km = part_long s lx fy ml (omega arith) in
        let ky = part_long s fy ly gl' gh' in
        let l₁ = length-append ga (by ++ (bm ++ (bx ++ u))) in
        let l₂ = length-append by (bm ++ (bx ++ u)) in
        let l₃ = length-append bm (bx ++ u) in
        let l₄ = length-append bx u in
        record {
          words = ap words_in (four ga by bm bx u) ∙ piece_words new u ∙ ap ((W G ++ (W Y ++ W X)) ++◌) y.words
              ∙ append_assoc (W G) (W Y ++ W X) (W (M ++ B)) ∙ ap (W G ++◌) (append_assoc (W Y) (W X) (W (M ++ B)))
              ∙ sym (ap (λ q. W (G ++ q)) (append_assoc Y (X ++ M) B ∙ ap (Y ++◌) (append_assoc X M B)) ∙ spread_words G Y (X ++ (M ++ B)) ∙ ap (λ q. W G ++ (W Y ++ q)) (each_append (plain_word s) X (M ++ B)));
          divides = subst Divides (sym (four ga by bm bx u)) (piece_divides new.piece u y.divides);
          long = omega arith;
        }

    -- Braces are not deeper.
    many_low : {p : ℕ} {l : List ObjectTree} {u : List ℕ} (e : Exchanges s p l u) (P : List Token) → Low 0 0 (W (P ++ (all_leaves l ++ B))) → Low 0 0 (W (P ++ (all_leaves (after e) ++ B)))
    unfolding after all_leaves
    many_low (rest_stands p l) P h = h
    many_low (part_stands p x l u e) P h =
        let X = Leaves-of x in
        let k : (L : List Token) → P ++ ((X ++ L) ++ B) ≡ (P ++ X) ++ (L ++ B) = λ L. ap (P ++◌) (append_assoc X L B) ∙ sym (append_assoc P X (L ++ B)) in
        subst (λ z. Low 0 0 (W z)) (sym (k (all_leaves (after e)))) (many_low e (P ++ X) (subst (λ z. Low 0 0 (W z)) (k (all_leaves l)) h))
    many_low (two_exchanged p x z l u d e) P h =
        let X = Leaves-of x in
        let Y = Leaves-of z in
        let k : (C D L : List Token) → P ++ ((C ++ (D ++ L)) ++ B) ≡ (P ++ (C ++ D)) ++ (L ++ B) = λ C D L.
        ap (P ++◌) (append_assoc C (D ++ L) B ∙ ap (C ++◌) (append_assoc D L B)) ∙ sym (append_assoc P (C ++ D) (L ++ B) ∙ ap (P ++◌) (append_assoc C D (L ++ B))) in
        let q : (C D L : List Token) → W ((P ++ (C ++ D)) ++ L) ≡ W P ++ (W C ++ (W D ++ W L)) = λ C D L.
        ap W (append_assoc P (C ++ D) L ∙ ap (P ++◌) (append_assoc C D L)) ∙ spread_words P C (D ++ L) ∙ ap (λ n. W P ++ (W C ++ n)) (each_append (plain_word s) D L) in
        let i : Low 0 0 (W ((P ++ (X ++ Y)) ++ (all_leaves (after e) ++ B))) = many_low e (P ++ (X ++ Y)) (subst (λ n. Low 0 0 (W n)) (k X Y (all_leaves l)) h) in
        subst (λ n. Low 0 0 (W n)) (sym (k Y X (all_leaves (after e))))
        (subst (λ n. Low 0 0 n) (sym (q Y X (all_leaves (after e) ++ B)))
        (low_swap (W P) (W X) (W Y) (W (all_leaves (after e) ++ B)) (object_balanced s x) (object_balanced s z) (subst (λ n. Low 0 0 n) (q X Y (all_leaves (after e) ++ B)) i)))

-- Pairs of neighbouring parts of an accepted text.
pub many_unchanged : (s : List ℕ) (r : Tables) → reading s ≡ accepted r → (d : Derivation (tokens s)) (u : List ℕ) → Exchanges s 0 (object_trees d.tree) u → ReadsUnchanged s u
many_unchanged s r accepts d u e =
    let T = d.tree in
    let l = object_trees T in
    let F = front_leaves T in
    let B = back_leaves T in
    let w = accepted_covered s r accepts in
    let leaves : tokens s ≡ F ++ (all_leaves l ++ B) = sym d.leaves ∙ ap Leaves-of (sym (with_own T)) ∙ with_trees T l in
    let y = many_told s T B e at_start (omega arith) leaves (sym (text_words s) ∙ ap (each (plain_word s)) leaves) w.divides in
    let k = many_kept s e [] T r refl (sym (reading_derived s w d) ∙ accepts) in
    let words : each (plain_word u) (tokens u) ≡ each (plain_word s) (Leaves-of (with_objects T (after e))) =
    text_words u ∙ y.words ∙ ap (each (plain_word s)) (sym (with_trees T (after e))) in
    let n = y.long in
    let h = w.short in
    let low = many_low s T B e F (subst (λ q. Low 0 0 (each (plain_word s) q)) leaves (tokens_low s (tokens s) w.shallow)) in
    let c = carried s u (with_objects T (after e)) k.tables
    (record { short = (let z : length u ≤ 65535 = omega arith in z); divides = y.divides; shallow = shallow_by_words u (tokens u) (low_shallow _ (subst (λ q. Low 0 0 q) (sym (text_words u ∙ y.words)) low)) })
    words k.accepts in
    record { tables = c.tables; accepts = c.accepts; same = λ i j. c.channels i j ∙ k.same i j ∙ sym (channel_derived s w d i j) }
