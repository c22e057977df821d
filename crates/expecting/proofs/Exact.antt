-- The machine's list is exact: a terminal is in it if and only if it may stand there. Assumes nothing.
use mathlib.Core.Path.{◌≡◌, refl, sym, ◌∙◌, ap, ap₂, subst}
use mathlib.Core.List.{List, [], ◌∷◌, ◌++◌, append_assoc}
use mathlib.Core.Bool.{true, false≢true}
use mathlib.Core.Logic.{◌↔◌}
use mathlib.Core.Option.{Option, none, some}
use Prim.Native.Nat.{ℕ}
use native.Mathlib.Omega.{arith}
use Rattle.grammar.specs.Grammar.{Terminal, Class, Token, file, ◌▸◌, ∎, Trees, tokens, matches}
use Rattle.grammar.specs.Terminals.{tokens as tokens-of}
use Rattle.grammar.specs.Factored.{Symbols, paper, ◌⟹◌}
use Rattle.grammar.specs.Machine.{Move, after, feed}
use Rattle.grammar.specs.Building.{back, lifted, from}
use Rattle.grammar.proofs.Literal.{to}
use Rattle.grammar.proofs.Uniqueness.{Good, one_good, forth, left_good, complete, move_unique, feed_move, feed_fed, none≢some, some_inj, finish}
use Rattle.expecting.specs.Expected.{Leaf, under, leaves, tokens_at, Expects, until, GoesOn, ByTerminal}
use Rattle.expecting.specs.Firsts.{admits, admits_at, onwards, rest_after, expects, expected, ExpectedExact}
use Rattle.expecting.proofs.Leaves.{at_append, tokens_leaves, taker, leaves_back, leaves_to, leaves_from}
use Rattle.expecting.proofs.Firsts.{class_of_lem, class_matches, taker_matches, move_first, first_move}

-- Trees of what is left make trees of the whole, with the same leaves after -------------------------------------------------------------------

record Led (k : Symbols) (l : List Token) (m : List Leaf) : Type 0 where
  trees : Trees ◌⟹◌ k
  front : List Leaf
  are : leaves trees ≡ front ++ m
  front_is : tokens_at front ≡ l

lead : (l : List Token) {j : Symbols} (k : Symbols) → rest_after k l ≡ some j → (us : Trees ◌⟹◌ j) → Led k l (leaves us)
unfolding rest_after tokens_at
lead [] {j} k e us = subst (λ i. Led i [] (leaves us)) (sym (some_inj e)) (record { trees = us; front = []; are = refl; front_is = refl })
lead (t ∷ l) {j} k e us = go (feed k t.class) refl (λ i d. lead l i d us) e
  where
    go : (o : Option Symbols) → feed k t.class ≡ o → ((i : Symbols) → rest_after i l ≡ some j → Led i l (leaves us)) → onwards o (λ i. rest_after i l) ≡ some j
        → Led k (t ∷ l) (leaves us)
    go none f ih d = absurd (none≢some d)
    go (some i) f ih d =
        let v = feed_fed f in
        let w : Led (after v.fed) l (leaves us) = subst (λ h. Led h l (leaves us)) (sym v.leaves) (ih i d) in
        record {
          trees = back t v.fed w.trees;
          front = under (taker v.fed) t ∷ w.front;
          are = leaves_back t v.fed w.trees ∙ ap (under (taker v.fed) t ∷◌) w.are;
          front_is = ap (t ∷◌) w.front_is;
        }

-- And trees of the whole come so -----------------------------------------------------------------------------------------------------------------

record Left (k : Symbols) (l : List Token) (m : List Leaf) : Type 0 where
  symbols : Symbols
  reached : rest_after k l ≡ some symbols
  trees : Trees ◌⟹◌ symbols
  are : leaves trees ≡ m

-- a tree whose first leaf is x
record Forward {k : Symbols} (ts : Trees ◌⟹◌ k) (x : Leaf) (m : List Leaf) : Type 0 where
  move : Move x.token.class k
  rest : Trees ◌⟹◌ (after move)
  by_it : taker move ≡ x.terminal
  are : leaves rest ≡ m

forward : {k : Symbols} (ts : Trees ◌⟹◌ k) (x : Leaf) (m : List Leaf) → leaves ts ≡ x ∷ m → Forward ts x m
unfolding tokens_at
forward ts x m e =
    let f = forth ts x.token (tokens_at m) (sym (tokens_leaves ts) ∙ ap tokens_at e) in
    let q : under (taker f.by_move) x.token ∷ leaves f.rest ≡ x ∷ m = sym (leaves_back x.token f.by_move f.rest) ∙ sym (ap leaves f.same) ∙ e in
    let h : under (taker f.by_move) x.token ≡ x = cc in
    let r : leaves f.rest ≡ m = cc in
    record { move = f.by_move; rest = f.rest; by_it = ap (λ (y : Leaf). y.terminal) h; are = r }

leave : (front m : List Leaf) {k : Symbols} → Good k → (ts : Trees ◌⟹◌ k) → leaves ts ≡ front ++ m → Left k (tokens_at front) m
unfolding rest_after tokens_at
leave [] m {k} g ts e = record { symbols = k; reached = refl; trees = ts; are = e }
leave (x ∷ front) m {k} g ts e =
    let f = forward ts x (front ++ m) e in
    let r = leave front m (left_good g f.move) f.rest f.are in
    record {
      symbols = r.symbols;
      reached = ap (λ o. onwards o (λ i. rest_after i (tokens_at front))) (feed_move (complete g f.move)) ∙ r.reached;
      trees = r.trees;
      are = r.are;
    }

-- THE LIST IS EXACT --------------------------------------------------------------------------------------------------------------------------------

found_at : (l : List Token) (a : Terminal) (t : Token) → matches a t.class ≡ true → expects l a ≡ true → (x : Expects l a) × (x.here ≡ t)
unfolding expects admits_at
found_at l a t m e = go (rest_after (paper file ▸ ∎) l) refl e
  where
    go : (o : Option Symbols) → rest_after (paper file ▸ ∎) l ≡ o → admits_at o a ≡ true → (x : Expects l a) × (x.here ≡ t)
    go none r h = absurd (false≢true h)
    go (some j) r h =
        let w = first_move a t.class m j h in
        let us = back t w.move (finish (after w.move)) in
        let z = lead l (paper file ▸ ∎) r us in (
          record {
            tree = from z.trees (lifted (file ▸ ∎));
            before = z.front;
            here = t;
            more = leaves (finish (after w.move));
            leaves_are =
                leaves_from z.trees (lifted (file ▸ ∎)) ∙ z.are
                ∙ ap (z.front ++◌) (leaves_back t w.move (finish (after w.move)) ∙ ap (λ (b : Terminal). under b t ∷ leaves (finish (after w.move))) w.by_it);
            before_is = z.front_is;
          },
          refl,
        )

found : (l : List Token) (a : Terminal) → expects l a ≡ true → Expects l a
found l a e = (found_at l a (record { class = class_of_lem a; place = 0; length = 0 }) (class_matches a) e).0

told : (l : List Token) (a : Terminal) → Expects l a → expects l a ≡ true
unfolding expects admits_at
told l a x =
    let r = leave x.before (under a x.here ∷ x.more) (one_good (paper file)) (to x.tree) (leaves_to x.tree ∙ x.leaves_are) in
    let f = forward r.trees (under a x.here) x.more r.are in
    ap (λ (o : Option Symbols). admits_at o a) (ap (rest_after (paper file ▸ ∎)) (sym x.before_is) ∙ r.reached)
    ∙ ap (admits r.symbols) (sym f.by_it) ∙ move_first f.move

-- Of any tokens, and any terminal.
pub exact : (l : List Token) (a : Terminal) → (expects l a ≡ true) ↔ Expects l a
exact l a = (found l a, told l a)

-- Of any text and any place, so also of every refusal 4.
pub expected_exact : ExpectedExact
unfolding expected
expected_exact s p a = exact (until p (tokens-of s)) a

-- What is expected goes on with the tokens before it, whatever token of the terminal it is.
pub goes_on : GoesOn
unfolding tokens_at
goes_on l a t m x =
    let y = found_at l a t m (told l a x) in
    let z = y.0 in
    let q : tokens z.tree ≡ l ++ (t ∷ tokens_at z.more) =
    sym (tokens_leaves z.tree) ∙ ap tokens_at z.leaves_are ∙ at_append z.before (under a z.here ∷ z.more)
    ∙ ap₂ (λ (k : List Token) (u : Token). k ++ (u ∷ tokens_at z.more)) z.before_is y.1 in
    record { more = tokens_at z.more; derivation = record { tree = z.tree; leaves = q ∙ sym (append_assoc l (t ∷ []) (tokens_at z.more)) } }

-- And every token that goes on is of a terminal that is expected.
record Cut (ls : List Leaf) (l : List Token) (t : Token) : Type 0 where
  front : List Leaf
  leaf_here : Leaf
  more : List Leaf
  all_are : ls ≡ front ++ (leaf_here ∷ more)
  front_is : tokens_at front ≡ l
  token_is : leaf_here.token ≡ t

cut : (ls : List Leaf) (l : List Token) (t : Token) (m : List Token) → tokens_at ls ≡ l ++ (t ∷ m) → Cut ls l t
unfolding tokens_at
cut [] [] t m e = absurd (let z : ◌≡◌ {A = ℕ} 0 1 = cc in omega arith)
cut [] (u ∷ l) t m e = absurd (let z : ◌≡◌ {A = ℕ} 0 1 = cc in omega arith)
cut (x ∷ ls) [] t m e = record { front = []; leaf_here = x; more = ls; all_are = refl; front_is = refl; token_is = let q : x.token ≡ t = cc in q }
cut (x ∷ ls) (u ∷ l) t m e =
    let r = cut ls l t m (let q : tokens_at ls ≡ l ++ (t ∷ m) = cc in q) in
    let q : x.token ≡ u = cc in
    record { front = x ∷ r.front; leaf_here = r.leaf_here; more = r.more; all_are = ap (x ∷◌) r.all_are; front_is = ap₂ ◌∷◌ q r.front_is; token_is = r.token_is }

pub by_terminal : ByTerminal
by_terminal l t b =
    let d = b.derivation in
    let w = cut (leaves d.tree) l t b.more (tokens_leaves d.tree ∙ d.leaves ∙ append_assoc l (t ∷ []) b.more) in
    let x = w.leaf_here in
    let r = leave w.front (x ∷ w.more) (one_good (paper file)) (to d.tree) (leaves_to d.tree ∙ w.all_are) in
    let f = forward r.trees x w.more r.are in (
      x.terminal,
      ap₂ (λ (a : Terminal) (u : Token). matches a u.class) (sym f.by_it) (sym w.token_is) ∙ taker_matches f.move,
      record { tree = d.tree; before = w.front; here = x.token; more = w.more; leaves_are = w.all_are; before_is = w.front_is },
    )

-- A token goes on under one terminal alone ------------------------------------------------------------------------------------------------------

rest_after_good : (l : List Token) {k j : Symbols} → Good k → rest_after k l ≡ some j → Good j
unfolding rest_after
rest_after_good [] g e = subst Good (some_inj e) g
rest_after_good (t ∷ l) {k} {j} g e = go (feed k t.class) refl (λ i h d. rest_after_good l h d) e
  where
    go : (o : Option Symbols) → feed k t.class ≡ o → ((i : Symbols) → Good i → rest_after i l ≡ some j → Good j) → onwards o (λ i. rest_after i l) ≡ some j
        → Good j
    go none f ih d = absurd (none≢some d)
    go (some i) f ih d = let v = feed_fed f in ih i (subst Good v.leaves (left_good g v.fed)) d

pub one_terminal : (l : List Token) (a b : Terminal) (c : Class) → matches a c ≡ true → matches b c ≡ true → Expects l a → Expects l b → a ≡ b
unfolding expects admits_at
one_terminal l a b c m n x y = go (rest_after (paper file ▸ ∎) l) refl (told l a x) (told l b y)
  where
    go : (o : Option Symbols) → rest_after (paper file ▸ ∎) l ≡ o → admits_at o a ≡ true → admits_at o b ≡ true → a ≡ b
    go none r h k = absurd (false≢true h)
    go (some j) r h k =
        let v = first_move a c m j h in
        let w = first_move b c n j k in
        sym v.by_it ∙ ap taker (move_unique (rest_after_good l (one_good (paper file)) r) v.move w.move) ∙ w.by_it
