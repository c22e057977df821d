-- The laws of readers that fill tables: trees one after another, rules by their forms, loops. Assumes nothing.
use mathlib.Core.Path.{◌≡◌, refl, sym, ◌∙◌, ap, ap₂, subst}
use mathlib.Core.List.{List, [], ◌∷◌, ◌++◌, append-nil}
use mathlib.Core.Bool.{Bool, true, false, false≢true}
use Prim.Native.Nat.{ℕ, ◌≤◌, ◌<◌}
use native.Mathlib.Omega.{arith}
use lib.Dec.{ltb, leb}
use borrow.Author.Tests.{ltb-true, leb-false}
use Rattle.token.specs.Find.{pick}
use Rattle.grammar.specs.Grammar.{Form, Rule, Terminal, Token, Trees, tok, rule, nil, leaf, node, tokens, ◌·◌, ◌▸◌, ∎, matches, ◌⟶◌}
use Rattle.grammar.specs.Factored.{Symbols, paper, lift, ◌⟹◌}
use Rattle.grammar.specs.Machine.{Stream, ended, bad, ◌▹◌, prepend}
use Rattle.grammar.specs.Readers.{seen, rest_by, rest, refusal, Took, Reads, Meets}
use Rattle.grammar.proofs.Meeting.{Still, ◌⊳◌, still}
use Rattle.grammar.specs.declared.Look.{Look}
use Rattle.grammar.proofs.Splits.{join, tokens_join}
use Rattle.grammar.proofs.Steps.{prepend_append}
use Rattle.grammar.proofs.Literal.{lifted, from, tokens_from}
use Rattle.meaning.specs.Actions.{M, Parts, word_of, means, meaning}
use Rattle.filling.specs.Fills.{Seen, Told, Fills, Walks}

-- The invariant of a loop that reads the rule r: what is still to be read is done behind what was done so far.
pub record Going {W S : Type 0} (then : W → W → W) (Does : S → W → S → Type 0) (r : Rule) (Q : W → M r → Type 0) (s : List ℕ) (a b : Look) (x y : S) : Type 0 where
  pub what : W
  pub does : Does x what y
  pub still : Still r s a b
  pub wraps : b.code ≤ 56 → (v : Stream) (more : W) → Told s (r ▸ ∎) (rest s b) v (λ m. Q more m.0)
      → Told s (r ▸ ∎) (rest s a) v (λ m. Q (then what more) m.0)

-- What can be done, one thing after another.
pub record Effects (W S : Type 0) (then : W → W → W) (nothing : W) (Does : S → W → S → Type 0) : Type 0 where
  pub assoc : (a b c : W) → then (then a b) c ≡ then a (then b c)
  pub front : (a : W) → then nothing a ≡ a
  pub back : (a : W) → then a nothing ≡ a
  pub does_none : (x : S) → Does x nothing x
  pub does_then : (x y z : S) (a b : W) → Does x a y → Does y b z → Does x (then a b) z

-- The parts of two forms in a row.
unfoldable pub front_of : (f g : Form) → Parts (f ++ g) → Parts f
front_of [] g m = tt
front_of (tok a ∷ f) g m = (m.0, front_of f g m.1)
front_of (rule x ∷ f) g m = (m.0, front_of f g m.1)

unfoldable pub behind : (f g : Form) → Parts (f ++ g) → Parts g
behind [] g m = m
behind (tok a ∷ f) g m = behind f g m.1
behind (rule x ∷ f) g m = behind f g m.1

-- Trees ----------------------------------------------------------------------------------------------------------------------------------

meaning_front : {f g : Form} (s : List ℕ) (ts : Trees ◌⟶◌ f) (us : Trees ◌⟶◌ g) → front_of f g (meaning s (join ts us)) ≡ meaning s ts
unfolding front_of meaning join
meaning_front s nil us = refl
meaning_front s (leaf t m ts) us = ap (λ p. (word_of s t, p)) (meaning_front s ts us)
meaning_front s (node p vs ts) us = ap (λ q. (means p (meaning s vs), q)) (meaning_front s ts us)

meaning_behind : {f g : Form} (s : List ℕ) (ts : Trees ◌⟶◌ f) (us : Trees ◌⟶◌ g) → behind f g (meaning s (join ts us)) ≡ meaning s us
unfolding behind meaning join
meaning_behind s nil us = refl
meaning_behind s (leaf t m ts) us = meaning_behind s ts us
meaning_behind s (node p vs ts) us = meaning_behind s ts us

abbrev pub Both : (f g : Form) → (Parts f → Type 0) → (Parts g → Type 0) → Parts (f ++ g) → Type 0
Both f g Q R m = Q (front_of f g m) × R (behind f g m)

pub told_then : {s : List ℕ} {f g : Form} {u v w : Stream} {Q : Parts f → Type 0} {R : Parts g → Type 0} → Told s f u v Q → Told s g v w R
    → Told s (f ++ g) u w (Both f g Q R)
told_then {s} {w} {Q} {R} a b =
    record {
      trees = join a.trees b.trees;
      split = a.split ∙ ap (prepend (tokens a.trees)) b.split ∙ sym (prepend_append (tokens a.trees) (tokens b.trees) w)
          ∙ ap (λ l. prepend l w) (sym (tokens_join a.trees b.trees));
      holds = (subst Q (sym (meaning_front s a.trees b.trees)) a.holds, subst R (sym (meaning_behind s a.trees b.trees)) b.holds);
    }

pub told_map : {s : List ℕ} {f : Form} {u v : Stream} {Q R : Parts f → Type 0} → ((m : Parts f) → Q m → R m) → Told s f u v Q → Told s f u v R
told_map {s} h a = record { trees = a.trees; split = a.split; holds = h (meaning s a.trees) a.holds }

pub told_as : {s : List ℕ} {f : Form} {u v : Stream} {Q R : Parts f → Type 0} → Told s f u v Q → ((m : Parts f) → Q m → R m) → Told s f u v R
told_as a h = told_map h a

-- A rule by a form.
pub told_rule : {s : List ℕ} {x : Rule} {g : Form} {u v : Stream} (Q : M x → Type 0) (p : x ⟶ g) → Told s g u v (λ m. Q (means p m))
    → Told s (x ▸ ∎) u v (λ m. Q m.0)
unfolding meaning tokens
told_rule {v} Q p a =
    record {
      trees = node p a.trees nil;
      split = a.split ∙ ap (λ l. prepend l v) (sym (append-nil (tokens a.trees)));
      holds = a.holds;
    }

pub told_none : {s : List ℕ} {x : Rule} {u : Stream} (Q : M x → Type 0) (p : x ⟶ ∎) → Q (means p tt) → Told s (x ▸ ∎) u u (λ m. Q m.0)
unfolding meaning tokens prepend
told_none Q p q = record { trees = node p nil nil; split = refl; holds = q }

-- Readers --------------------------------------------------------------------------------------------------------------------------------

-- What a reader took, as trees of document 01.
pub told_took : {s : List ℕ} (f : Form) {u v : Stream} → Took ◌⟹◌ (lift f) u v → Told s f u v (λ _. Unit {0})
told_took f {v} w =
    record {
      trees = from w.took (lifted f);
      split = w.split ∙ ap (λ l. prepend l v) (sym (tokens_from w.took (lifted f)));
      holds = tt;
    }

-- What is known of any reader: nothing of its meaning.
pub plain : {e : ℕ} (f : Form) {s : List ℕ} {a b : Look} → Meets e f s a b → Fills e f s a b (λ _. Unit {0})
plain f m = record { meets = m; told = λ h. told_took f (m.took h).1 }

pub fills_map : {e : ℕ} {f : Form} {s : List ℕ} {a b : Look} {Q R : Parts f → Type 0} → Fills e f s a b Q → ((m : Parts f) → Q m → R m) → Fills e f s a b R
fills_map f h = record { meets = f.meets; told = λ k. told_map h (f.told k) }

lift_append : (f g : Form) → lift (f ++ g) ≡ lift f ++ lift g
lift_append [] g = refl
lift_append (tok a ∷ f) g = ap (tok a ∷◌) (lift_append f g)
lift_append (rule x ∷ f) g = ap (rule (paper x) ∷◌) (lift_append f g)

infixr 30 ◌▻◌
pub ◌▻◌ : {e e' : ℕ} {f g : Form} {s : List ℕ} {a b c : Look} {Q : Parts f → Type 0} {R : Parts g → Type 0} → Fills e f s a b Q → Fills e' g s b c R
    → Fills e (f ++ g) s a c (Both f g Q R)
◌▻◌ {e} {f} {g} {s} {a} {c} m n =
    record { meets = subst (λ (k : Symbols). Reads e k s a c) (sym (lift_append f g)) (m.meets ⊳ n.meets); told = λ h. told_then (m.told (n.meets.took h).0) (n.told h) }

-- The token that is seen: of what is read, the first.
unfoldable pub head_or : Token → Stream → Token
head_or d (t ▹ l) = t
head_or d (ended n) = d
head_or d (bad n) = d

head_rest : (s : List ℕ) (a : Look) (b : Bool) → head_or (seen a) (rest_by b s a) ≡ seen a
unfolding rest_by head_or
head_rest s a true = refl
head_rest s a false = refl

unfoldable begun : Stream → Bool
begun (t ▹ l) = true
begun (ended n) = false
begun (bad n) = false

pub is_first : (s : List ℕ) (a : Look) (t : Token) (l : List Token) (v : Stream) → rest s a ≡ prepend (t ∷ l) v → Seen s a (word_of s t)
unfolding rest rest_by prepend head_or begun
is_first s a t l v q =
    record {
      word = ap (word_of s) (sym (ap (head_or (seen a)) q) ∙ head_rest s a (ltb a.code 56));
      low = low (ltb a.code 56) refl (ap begun q);
    }
  where
    low : (b : Bool) → ltb a.code 56 ≡ b → begun (rest_by b s a) ≡ true → a.code < 56
    low true e h = ltb-true a.code 56 e
    low false e h = absurd (false≢true h)

pub first : {e : ℕ} (t : Terminal) {s : List ℕ} {a b : Look} → Meets e (t · ∎) s a b → Fills e (t · ∎) s a b (λ m. Seen s a m.0)
unfolding meaning tokens
first t {s} {a} {b} m = record { meets = m; told = λ h. let w = told_took {s = s} (t · ∎) (m.took h).1 in go w.trees w.split }
  where
    go : (ts : Trees ◌⟶◌ (t · ∎)) → rest s a ≡ prepend (tokens ts) (rest s b) → Told s (t · ∎) (rest s a) (rest s b) (λ m. Seen s a m.0)
    go (leaf u e ts) q = record { trees = leaf u e ts; split = q; holds = is_first s a u (tokens ts) (rest s b) q }

pub matched : {e : ℕ} (t : Terminal) {s : List ℕ} {a b : Look} → Meets e (t · ∎) s a b
    → Fills e (t · ∎) s a b (λ m. Seen s a m.0 × (matches t m.0.class ≡ true))
unfolding meaning tokens word_of
matched t {s} {a} {b} m = record { meets = m; told = λ h. let w = told_took {s = s} (t · ∎) (m.took h).1 in go w.trees w.split }
  where
    go : (ts : Trees ◌⟶◌ (t · ∎)) → rest s a ≡ prepend (tokens ts) (rest s b)
        → Told s (t · ∎) (rest s a) (rest s b) (λ m. Seen s a m.0 × (matches t m.0.class ≡ true))
    go (leaf u e ts) q = record { trees = leaf u e ts; split = q; holds = (is_first s a u (tokens ts) (rest s b) q, e) }

-- A refusal is told nothing of.
pub refused : {s : List ℕ} {f : Form} (a : Look) {r : Look} {u v : Stream} {Q : Parts f → Type 0} → r ≡ refusal a → r.code ≤ 56 → Told s f u v Q
unfolding refusal
refused a e k = absurd (go (leb a.code 56) refl (rw e at k))
  where
    go : (b : Bool) → leb a.code 56 ≡ b → (pick b (record { code = 60; at = a.at; next = a.next; depth = a.depth }) a).code ≤ 56 → ⊥
    go true q k = omega arith
    go false q k = let h = leb-false a.code 56 q in omega arith

-- Lists, read by a loop ------------------------------------------------------------------------------------------------------------------

module _ {W S : Type 0} {then : W → W → W} {nothing : W} {Does : S → W → S → Type 0} (t : Effects W S then nothing Does) where
  pub going : (r : Rule) (Q : W → M r → Type 0) {s : List ℕ} {a : Look} {x : S} → Going then Does r Q s a a x x
  going r Q {x} =
      record {
        what = nothing;
        does = t.does_none x;
        still = still r;
        wraps = λ h v more w. told_map (λ m q. subst (λ (o : W). Q o m.0) (sym (t.front more)) q) w;
      }

  pub going_on : {r : Rule} (Q : W → M r → Type 0) (g : Form) (p : r ⟶ (g ++ (r ▸ ∎))) {P : Parts g → Type 0} {w : W} {e : ℕ} {s : List ℕ} {a b c : Look} {x y z : S}
      → Going then Does r Q s a b x y → Still r s a c → Does y w z → Fills e g s b c P
      → ((m : Parts (g ++ (r ▸ ∎))) (more : W) → P (front_of g (r ▸ ∎) m) → Q more (behind g (r ▸ ∎) m).0 → Q (then w more) (means p m))
      → Going then Does r Q s a c x z
  going_on {r} Q g p {w} {c} {x} {y} {z} o i d f k =
      record {
        what = then o.what w;
        does = t.does_then x y z o.what w o.does d;
        still = i;
        wraps = λ h v more u.
            told_map (λ m q. subst (λ (n : W). Q n m.0) (sym (t.assoc o.what w more)) q)
            (o.wraps (f.meets.took h).0 v (then w more)
            (told_rule (λ m. Q (then w more) m) p (told_map (λ m q. k m more q.0 q.1) (told_then (f.told h) u))));
      }

  pub gone : {r : Rule} (Q : W → M r → Type 0) (p : r ⟶ ∎) → Q nothing (means p tt) → {s : List ℕ} {a b : Look} {x y : S}
      → Going then Does r Q s a b x y → Meets 0 (r ▸ ∎) s a b → Walks Does 0 (r ▸ ∎) (λ w m. Q w m.0) s a b x y
  gone Q p e {s} {b} o m =
      record {
        what = o.what;
        does = o.does;
        fills = record {
          meets = m;
          told = λ h. told_map (λ m q. subst (λ (n : W). Q n m.0) (t.back o.what) q) (o.wraps h (rest s b) nothing (told_none (λ m. Q nothing m) p e));
        };
      }

-- Two effects side by side.
pub both : {W S W' S' : Type 0} {then : W → W → W} {nothing : W} {Does : S → W → S → Type 0} {then' : W' → W' → W'} {nothing' : W'} {Does' : S' → W' → S' → Type 0}
    → Effects W S then nothing Does → Effects W' S' then' nothing' Does'
    → Effects (W × W') (S × S') (λ a b. (then a.0 b.0, then' a.1 b.1)) (nothing, nothing') (λ x w y. Does x.0 w.0 y.0 × Does' x.1 w.1 y.1)
both t u =
    record {
      assoc = λ a b c. ap₂ (λ p q. (p, q)) (t.assoc a.0 b.0 c.0) (u.assoc a.1 b.1 c.1);
      front = λ a. ap₂ (λ p q. (p, q)) (t.front a.0) (u.front a.1);
      back = λ a. ap₂ (λ p q. (p, q)) (t.back a.0) (u.back a.1);
      does_none = λ x. (t.does_none x.0, u.does_none x.1);
      does_then = λ x y z a b d d'.
          (t.does_then x.0 y.0 z.0 a.0 b.0 d.0 d'.0, u.does_then x.1 y.1 z.1 a.1 b.1 d.1 d'.1);
    }
