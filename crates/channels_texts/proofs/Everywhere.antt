-- The expanded text with parts exchanged in several places is the text with pairs of neighbouring parts exchanged. Assumes nothing.
use mathlib.Core.Path.{◌≡◌, refl, sym, ◌∙◌, ap, ap₂, subst, subst₂}
use mathlib.Core.List.{List, [], ◌∷◌, ◌++◌, append_assoc, append-nil}
use Prim.Native.Nat.{ℕ, suc, ◌+◌, ◌≤◌, ◌<◌}
use native.Mathlib.Omega.{arith}
use lib.ListN.{length, length-append, length-drop, get_or, take, drop, take-append-drop}
use lib.Seq.{length-take-le, drop-append_seam, drop-drop, get_or-drop}
use Rattle.token.specs.Tokens.{bytes_between}
use Rattle.grammar.specs.Grammar.{Token, Derivation, tokens as Leaves-of}
use Rattle.grammar.specs.Terminals.{tokens}
use Rattle.channels.specs.Neighbours.{ObjectTree, object_trees, first_place, end_of_last, key_in, Exchanges, rest_stands, part_stands, two_exchanged}
use Rattle.channels.proofs.ObjectTrees.{all_leaves, leaves_append, front_leaves, back_leaves, with_own, with_trees}
use Rattle.channels.proofs.Saying.{Ends, last_end_is}
use Rattle.channels.proofs.ObjectTokens.{object_ends}
use Rattle.channels.proofs.Exchange.{part_is}
use Rattle.channels.proofs.Places.{Range, object_range, begins_behind}
use Rattle.channels.proofs.Many.{two_parts}
use Rattle.channels_texts.specs.Lent.{Replaced, no_more, here}

-- At the place j of the text s, by its derivation d, x m y stand, where x and y are two neighbouring parts of different objects.
pub record PartsAt (s : List ℕ) (d : Derivation (tokens s)) (j : ℕ) (x m y : List ℕ) : Type 0 where
  pub before : List ObjectTree
  pub one : ObjectTree
  pub other : ObjectTree
  pub after : List ObjectTree
  pub objects_are : object_trees d.tree ≡ before ++ (one ∷ other ∷ after)
  pub different : key_in s one ≡ key_in s other → ⊥
  pub one_begins : first_place (Leaves-of one) ≡ j
  pub one_ends : end_of_last (Leaves-of one) ≡ j + length x
  pub other_begins : first_place (Leaves-of other) ≡ j + (length x + length m)
  pub other_ends : end_of_last (Leaves-of other) ≡ j + (length x + (length m + length y))

-- Lists ----------------------------------------------------------------------------------------------------------------------------------------

-- Where an element of a list in two parts stands.
data Found {A : Type 0} (pre l before : List A) (x : A) (rest : List A) : Type 0 where
  in_first : (d : List A) → pre ≡ before ++ (x ∷ d) → Found pre l before x rest
  in_second : (mid : List A) → before ≡ pre ++ mid → l ≡ mid ++ (x ∷ rest) → Found pre l before x rest

found_more : {A : Type 0} {pre l before : List A} {x : A} {rest : List A} (t u : A) → t ≡ u → Found pre l before x rest → Found (t ∷ pre) l (u ∷ before) x rest
found_more t u e (in_first d p) = in_first d (ap₂ ◌∷◌ e p)
found_more t u e (in_second mid p q) = in_second mid (ap₂ ◌∷◌ (sym e) p) q

found : {A : Type 0} (pre l before : List A) (x : A) (rest : List A) → pre ++ l ≡ before ++ (x ∷ rest) → Found pre l before x rest
found [] l before x rest e = in_second before refl e
found (t ∷ pre) l [] x rest e = in_first pre (ap (◌∷ pre) (let z : t ≡ x = cc in z))
found (t ∷ pre) l (u ∷ before) x rest e =
    let h : t ≡ u = cc in
    let i : pre ++ l ≡ before ++ (x ∷ rest) = cc in
    found_more t u h (found pre l before x rest i)

-- Each of these parts ends at p or before.
abbrev AllEnd : List ObjectTree → ℕ → Type 0
AllEnd [] p = Unit {0}
AllEnd (x ∷ l) p = (end_of_last (Leaves-of x) ≤ p) × AllEnd l p

end_later : (l : List ObjectTree) (p q : ℕ) → p ≤ q → AllEnd l p → AllEnd l q
end_later [] p q h e = tt
end_later (x ∷ l) p q h e = let i = e.0 in (omega arith, end_later l p q h e.1)

end_both : (l k : List ObjectTree) (p : ℕ) → AllEnd l p → AllEnd k p → AllEnd (l ++ k) p
end_both [] k p e f = f
end_both (x ∷ l) k p e f = (e.0, end_both l k p e.1 f)

end_one : (l : List ObjectTree) (x : ObjectTree) (d : List ObjectTree) (p : ℕ) → AllEnd (l ++ (x ∷ d)) p → end_of_last (Leaves-of x) ≤ p
end_one [] x d p e = e.0
end_one (z ∷ l) x d p e = end_one l x d p e.1

-- Places ---------------------------------------------------------------------------------------------------------------------------------------

module _ (s : List ℕ) where
  -- The tokens A end at p or before.
  data Behind (p : ℕ) (A : List Token) : Type 0 where
    at_start : p ≡ 0 → Behind p A
    at_end : (B : List Token) (c : Token) → A ≡ B ++ (c ∷ []) → p ≡ c.place + c.length → Behind p A

  begins : {p : ℕ} {A : List Token} → Behind p A → (X R : List Token) → Ends X → tokens s ≡ A ++ (X ++ R) → p ≤ first_place X
  unfolding first_place
  begins (at_start e) X R x w = omega arith
  begins {p} {A} (at_end B c e f) X R x w =
      let g = begins_behind s B c x.first ((x.mid ++ (x.final ∷ [])) ++ R) (w ∙ ap₂ (λ l m. l ++ (m ++ R)) e x.leaves) in
      let h : first_place X ≡ x.first.place = ap first_place x.leaves in
      omega arith

  after_object : (A X : List Token) → Ends X → Behind (end_of_last X) (A ++ X)
  after_object A X x =
      at_end (A ++ (x.first ∷ x.mid)) x.final (ap (A ++◌) x.leaves ∙ sym (append_assoc A (x.first ∷ x.mid) (x.final ∷ []))) (ap end_of_last x.leaves ∙ last_end_is (x.first ∷ x.mid) x.final)

  -- Parts before the object X, from p on.
  record Chain (p : ℕ) (mid : List ObjectTree) (X : List Token) : Type 0 where
    low : p ≤ first_place X
    ends : AllEnd mid (first_place X)

  chain : (mid : List ObjectTree) {p : ℕ} {A : List Token} → Behind p A → (X R : List Token) → Ends X → tokens s ≡ A ++ (all_leaves mid ++ (X ++ R)) → Chain p mid X
  unfolding all_leaves
  chain [] r X R x w = record { low = begins r X R x w; ends = tt }
  chain (z ∷ mid) {p} {A} r X R x w =
      let Z = Leaves-of z in
      let o = object_ends z in
      let e : tokens s ≡ A ++ (Z ++ (all_leaves mid ++ (X ++ R))) = w ∙ ap (A ++◌) (append_assoc Z (all_leaves mid) (X ++ R)) in
      let a = begins r Z (all_leaves mid ++ (X ++ R)) o e in
      let g = object_range s A Z (all_leaves mid ++ (X ++ R)) e o in
      let b = g.low in
      let c = chain mid (after_object A Z o) X R x (e ∙ sym (append_assoc A Z (all_leaves mid ++ (X ++ R)))) in
      let d = c.low in
      record { low = omega arith; ends = (d, c.ends) }

  -- The parts mid as they stand, and then x and y exchanged.
  steps : (mid : List ObjectTree) {p : ℕ} {A : List Token} → Behind p A → (x y : ObjectTree) (after : List ObjectTree) (R : List Token) (u : List ℕ)
      → tokens s ≡ A ++ (all_leaves mid ++ (Leaves-of x ++ R)) → (key_in s x ≡ key_in s y → ⊥) → Exchanges s (end_of_last (Leaves-of y)) after u
      → Exchanges s p (mid ++ (x ∷ y ∷ after))
      (bytes_between s p (first_place (Leaves-of x))
      ++ (bytes_between s (first_place (Leaves-of y)) (end_of_last (Leaves-of y))
      ++ (bytes_between s (end_of_last (Leaves-of x)) (first_place (Leaves-of y)) ++ (bytes_between s (first_place (Leaves-of x)) (end_of_last (Leaves-of x)) ++ u))))
  unfolding all_leaves
  steps [] {p} r x y after R u w d e = two_exchanged p x y after u d e
  steps (z ∷ mid) {p} {A} r x y after R u w d e =
      let Z = Leaves-of z in
      let X = Leaves-of x in
      let o = object_ends z in
      let rest = bytes_between s (first_place (Leaves-of y)) (end_of_last (Leaves-of y)) ++ (bytes_between s (end_of_last X) (first_place (Leaves-of y)) ++ (bytes_between s (first_place X) (end_of_last X) ++ u)) in
      let g₀ : tokens s ≡ A ++ (Z ++ (all_leaves mid ++ (X ++ R))) = w ∙ ap (A ++◌) (append_assoc Z (all_leaves mid) (X ++ R)) in
      let g₁ : tokens s ≡ (A ++ Z) ++ (all_leaves mid ++ (X ++ R)) = g₀ ∙ sym (append_assoc A Z (all_leaves mid ++ (X ++ R))) in
      let a = begins r Z (all_leaves mid ++ (X ++ R)) o g₀ in
      let b = object_range s A Z (all_leaves mid ++ (X ++ R)) g₀ o in
      let b₁ = b.low in
      let c = chain mid (after_object A Z o) X R (object_ends x) g₁ in
      let c₁ = c.low in
      let f = object_range s ((A ++ Z) ++ all_leaves mid) X R (g₁ ∙ sym (append_assoc (A ++ Z) (all_leaves mid) (X ++ R))) (object_ends x) in
      let f₁ = f.low in
      let f₂ = f.high in
      let i = steps mid (after_object A Z o) x y after R u g₁ d e in
      subst (Exchanges s p (z ∷ (mid ++ (x ∷ y ∷ after))))
      (sym (append_assoc (bytes_between s p (end_of_last Z)) (bytes_between s (end_of_last Z) (first_place X)) rest) ∙ ap (◌++ rest) (two_parts s p (end_of_last Z) (first_place X) (omega arith) c₁ (omega arith)))
      (part_stands p z (mid ++ (x ∷ y ∷ after)) (bytes_between s (end_of_last Z) (first_place X) ++ rest) i)

-- The exchanges --------------------------------------------------------------------------------------------------------------------------------

module _ (s : List ℕ) (d : Derivation (tokens s)) (o : ℕ) (x m y : List ℕ) (some : 0 < length x) (O : List ℕ)
    (all : (j : ℕ) → j < length s → get_or O j 0 ≡ o → PartsAt s d j x m y) where
  abbrev v : List ℕ
  v = x ++ (m ++ y)

  abbrev w : List ℕ
  w = y ++ (m ++ x)

  -- What is known at p, after the parts pre, before the parts l.
  record Here (p : ℕ) (pre l : List ObjectTree) : Type 0 where
    whole : object_trees d.tree ≡ pre ++ l
    behind : Behind s p (front_leaves d.tree ++ all_leaves pre)
    ended : AllEnd pre p
    inside : p ≤ length s

  text_tokens : (l : List ObjectTree) → object_trees d.tree ≡ l → tokens s ≡ front_leaves d.tree ++ (all_leaves l ++ back_leaves d.tree)
  text_tokens l e = sym d.leaves ∙ ap Leaves-of (sym (with_own d.tree)) ∙ with_trees d.tree (object_trees d.tree) ∙ ap (λ k. front_leaves d.tree ++ (all_leaves k ++ back_leaves d.tree)) e

  -- The parts by their bytes.
  record Bytes (p : ℕ) (g r : List ℕ) (X Y : List Token) : Type 0 where
    front : bytes_between s p (first_place X) ≡ g
    one : bytes_between s (first_place X) (end_of_last X) ≡ x
    between : bytes_between s (end_of_last X) (first_place Y) ≡ m
    other : bytes_between s (first_place Y) (end_of_last Y) ≡ y

  bytes_at : (p : ℕ) (g r : List ℕ) (X Y : List Token) → p ≤ length s → g ++ (v ++ r) ≡ drop p s → first_place X ≡ p + length g → end_of_last X ≡ (p + length g) + length x
      → first_place Y ≡ (p + length g) + (length x + length m) → end_of_last Y ≡ (p + length g) + (length x + (length m + length y)) → Bytes p g r X Y
  bytes_at p g r X Y h f a b c e =
      let K = take p s in
      let n : length K ≡ p = length-take-le p s h in
      let whole : s ≡ K ++ (g ++ (x ++ (m ++ (y ++ r)))) =
      sym (take-append-drop p s) ∙ ap (K ++◌) (sym f ∙ ap (g ++◌) (append_assoc x (m ++ y) r ∙ ap (x ++◌) (append_assoc m y r))) in
      let t₁ : s ≡ (K ++ g) ++ (x ++ (m ++ (y ++ r))) = whole ∙ sym (append_assoc K g (x ++ (m ++ (y ++ r)))) in
      let t₂ : s ≡ ((K ++ g) ++ x) ++ (m ++ (y ++ r)) = t₁ ∙ sym (append_assoc (K ++ g) x (m ++ (y ++ r))) in
      let t₃ : s ≡ (((K ++ g) ++ x) ++ m) ++ (y ++ r) = t₂ ∙ sym (append_assoc ((K ++ g) ++ x) m (y ++ r)) in
      let l₁ = length-append K g in
      let l₂ = length-append (K ++ g) x in
      let l₃ = length-append ((K ++ g) ++ x) m in
      record {
        front = ap (λ z. bytes_between z p (first_place X)) whole ∙ part_is K g (x ++ (m ++ (y ++ r))) p (first_place X) (sym n) (omega arith);
        one = ap (λ z. bytes_between z (first_place X) (end_of_last X)) t₁ ∙ part_is (K ++ g) x (m ++ (y ++ r)) (first_place X) (end_of_last X) (omega arith) (omega arith);
        between = ap (λ z. bytes_between z (end_of_last X) (first_place Y)) t₂ ∙ part_is ((K ++ g) ++ x) m (y ++ r) (end_of_last X) (first_place Y) (omega arith) (omega arith);
        other = ap (λ z. bytes_between z (first_place Y) (end_of_last Y)) t₃ ∙ part_is (((K ++ g) ++ x) ++ m) y r (first_place Y) (end_of_last Y) (omega arith) (omega arith);
      }

  -- The tokens, with the parts pre, mid, one and other.
  spread : (pre mid : List ObjectTree) (a b : ObjectTree) (k : List ObjectTree) → object_trees d.tree ≡ pre ++ (mid ++ (a ∷ b ∷ k))
      → tokens s ≡ (front_leaves d.tree ++ all_leaves pre) ++ (all_leaves mid ++ (Leaves-of a ++ (Leaves-of b ++ (all_leaves k ++ back_leaves d.tree))))
  unfolding all_leaves
  spread pre mid a b k e =
      let F = front_leaves d.tree in
      let B = back_leaves d.tree in
      let A = Leaves-of a in
      let C = Leaves-of b in
      let K = all_leaves k in
      text_tokens (pre ++ (mid ++ (a ∷ b ∷ k))) e
      ∙ ap (λ z. F ++ (z ++ B)) (leaves_append pre (mid ++ (a ∷ b ∷ k)) ∙ ap (all_leaves pre ++◌) (leaves_append mid (a ∷ b ∷ k)))
      ∙ ap (F ++◌) (append_assoc (all_leaves pre) (all_leaves mid ++ (A ++ (C ++ K))) B
      ∙ ap (all_leaves pre ++◌) (append_assoc (all_leaves mid) (A ++ (C ++ K)) B ∙ ap (all_leaves mid ++◌) (append_assoc A (C ++ K) B ∙ ap (A ++◌) (append_assoc C K B))))
      ∙ sym (append_assoc F (all_leaves pre) (all_leaves mid ++ (A ++ (C ++ (K ++ B)))))

  leaves_of_both : (pre mid : List ObjectTree) (a b : ObjectTree)
      → ((front_leaves d.tree ++ all_leaves pre) ++ (all_leaves mid ++ Leaves-of a)) ++ Leaves-of b ≡ front_leaves d.tree ++ all_leaves (pre ++ (mid ++ (a ∷ b ∷ [])))
  unfolding all_leaves
  leaves_of_both pre mid a b =
      let F = front_leaves d.tree in
      let A = Leaves-of a in
      let C = Leaves-of b in
      append_assoc (F ++ all_leaves pre) (all_leaves mid ++ A) C ∙ ap ((F ++ all_leaves pre) ++◌) (append_assoc (all_leaves mid) A C) ∙ append_assoc F (all_leaves pre) (all_leaves mid ++ (A ++ C))
      ∙ ap (F ++◌) (sym (leaves_append pre (mid ++ (a ∷ b ∷ [])) ∙ ap (all_leaves pre ++◌) (leaves_append mid (a ∷ b ∷ []) ∙ ap (λ z. all_leaves mid ++ (A ++ z)) (append-nil C))))

  -- The pair at p + |g|, among the parts l.
  record Met (p : ℕ) (pre l : List ObjectTree) (g : List ℕ) (A : PartsAt s d (p + length g) x m y) : Type 0 where
    mid : List ObjectTree
    parts : l ≡ mid ++ (A.one ∷ A.other ∷ A.after)
    tokens_are : tokens s
        ≡ (front_leaves d.tree ++ all_leaves pre) ++ (all_leaves mid ++ (Leaves-of A.one ++ (Leaves-of A.other ++ (all_leaves A.after ++ back_leaves d.tree))))
    known : Here (p + (length g + length v)) (pre ++ (mid ++ (A.one ∷ A.other ∷ []))) A.after

  v_long : length v ≡ length x + (length m + length y)
  v_long = length-append x (m ++ y) ∙ ap (length x +◌) (length-append m y)

  meet : (p : ℕ) (pre l : List ObjectTree) (g : List ℕ) (A : PartsAt s d (p + length g) x m y) → Here p pre l → p + (length g + length v) ≤ length s
      → Found pre l A.before A.one (A.other ∷ A.after) → Met p pre l g A
  meet p pre l g A k n (in_first dd e) =
      absurd (let a = end_one A.before A.one dd p (subst (λ z. AllEnd z p) e k.ended) in let b = A.one_ends in let c = some in omega arith)
  meet p pre l g A k n (in_second mid e f) =
      let X = Leaves-of A.one in
      let Y = Leaves-of A.other in
      let F = front_leaves d.tree in
      let whole : object_trees d.tree ≡ pre ++ (mid ++ (A.one ∷ A.other ∷ A.after)) = k.whole ∙ ap (pre ++◌) f in
      let T = spread pre mid A.one A.other A.after whole in
      let c = chain s mid k.behind X (Y ++ (all_leaves A.after ++ back_leaves d.tree)) (object_ends A.one) T in
      let low = c.low in
      let b₁ = A.one_begins in
      let b₂ = A.one_ends in
      let b₃ = A.other_begins in
      let b₄ = A.other_ends in
      let vl = v_long in
      let q : end_of_last Y ≡ p + (length g + length v) = omega arith in
      let behind : Behind s (p + (length g + length v)) (F ++ all_leaves (pre ++ (mid ++ (A.one ∷ A.other ∷ [])))) =
      subst₂ (Behind s) q (leaves_of_both pre mid A.one A.other) (after_object s ((F ++ all_leaves pre) ++ (all_leaves mid ++ X)) Y (object_ends A.other)) in
      record {
        mid = mid;
        parts = f;
        tokens_are = T;
        known = record {
          whole = whole ∙ ap (pre ++◌) (sym (append_assoc mid (A.one ∷ A.other ∷ []) A.after)) ∙ sym (append_assoc pre (mid ++ (A.one ∷ A.other ∷ [])) A.after);
          behind = behind;
          ended = end_both pre (mid ++ (A.one ∷ A.other ∷ [])) (p + (length g + length v)) (end_later pre p (p + (length g + length v)) (omega arith) k.ended)
              (end_both mid (A.one ∷ A.other ∷ []) (p + (length g + length v)) (end_later mid (first_place X) (p + (length g + length v)) (omega arith) c.ends) (omega arith, (omega arith, tt)));
          inside = n;
        };
      }

  finish : (p : ℕ) (pre l : List ObjectTree) (g r r' : List ℕ) (A : PartsAt s d (p + length g) x m y) → Here p pre l → Met p pre l g A → g ++ (v ++ r) ≡ drop p s
      → Exchanges s (p + (length g + length v)) A.after r' → Exchanges s p l (g ++ (w ++ r'))
  finish p pre l g r r' A k M f e =
      let X = Leaves-of A.one in
      let Y = Leaves-of A.other in
      let b₄ = A.other_ends in
      let vl = v_long in
      let q : p + (length g + length v) ≡ end_of_last Y = omega arith in
      let b = bytes_at p g r X Y k.inside f A.one_begins A.one_ends A.other_begins A.other_ends in
      let i = steps s M.mid k.behind A.one A.other A.after (Y ++ (all_leaves A.after ++ back_leaves d.tree)) r' M.tokens_are A.different
      (subst (λ (z : ℕ). Exchanges s z A.after r') q e) in
      let t : bytes_between s p (first_place X) ++ (bytes_between s (first_place Y) (end_of_last Y) ++ (bytes_between s (end_of_last X) (first_place Y) ++ (bytes_between s (first_place X) (end_of_last X) ++ r')))
      ≡ g ++ (w ++ r') =
      ap₂ ◌++◌ b.front (ap₂ ◌++◌ b.other (ap₂ ◌++◌ b.between (ap (◌++ r') b.one))) ∙ ap (g ++◌) (sym (append_assoc y (m ++ x) r' ∙ ap (y ++◌) (append_assoc m x r'))) in
      subst₂ (λ z u. Exchanges s p z u) (sym M.parts) t i

  exchanges : (p : ℕ) (pre l : List ObjectTree) {O' r r' : List ℕ} → Here p pre l → O' ≡ drop p O → r ≡ drop p s → Replaced o v w O' r r' → Exchanges s p l r'
  exchanges p pre l k e f (no_more _ r) = subst (Exchanges s p l) (sym f) (rest_stands p l)
  exchanges p pre l k e f (here O' g r r' i q) =
      let n₁ = length-append g (v ++ r) in
      let n₂ = length-append v r in
      let n₃ = v_long in
      let n₄ = length-drop p s in
      let n₅ : length (g ++ (v ++ r)) ≡ length (drop p s) = ap length f in
      let n₆ = k.inside in
      let sm = some in
      let A = all (p + length g) (omega arith) (sym (ap (λ z. get_or z (length g) 0) e ∙ get_or-drop p O (length g) 0) ∙ i) in
      let M = meet p pre l g A k (omega arith) (found pre l A.before A.one (A.other ∷ A.after) (sym k.whole ∙ A.objects_are)) in
      let c : r ≡ drop (p + (length g + length v)) s =
      sym (ap₂ (λ (z : ℕ) (u : List ℕ). drop z u) (sym (length-append g v)) (sym (append_assoc g v r)) ∙ drop-append_seam (g ++ v) r) ∙ ap (drop (length g + length v)) f ∙ drop-drop (length g + length v) p s in
      finish p pre l g r r' A k M f
      (exchanges (p + (length g + length v)) (pre ++ (M.mid ++ (A.one ∷ A.other ∷ []))) A.after M.known (ap (drop (length g + length v)) e ∙ drop-drop (length g + length v) p O) c q)

-- The whole text.
pub exchanges_everywhere : (s : List ℕ) (d : Derivation (tokens s)) (o : ℕ) (x m y : List ℕ) → 0 < length x → (O : List ℕ)
    → ((j : ℕ) → j < length s → get_or O j 0 ≡ o → PartsAt s d j x m y) → (u : List ℕ) → Replaced o (x ++ (m ++ y)) (y ++ (m ++ x)) O s u → Exchanges s 0 (object_trees d.tree) u
exchanges_everywhere s d o x m y some O all u r =
    exchanges s d o x m y some O all 0 [] (object_trees d.tree) (record { whole = refl; behind = at_start refl; ended = tt; inside = omega arith }) refl refl r
