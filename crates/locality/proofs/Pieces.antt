-- Texts one after the other: the tokens of one stay, whatever may go on after it. Assumes nothing.
use Prim.Native.Nat.{ℕ, ◌+◌, ◌≤◌, ◌<◌}
use mathlib.Core.Path.{◌≡◌, refl, sym, ◌∙◌, ap, ap₂, subst}
use mathlib.Core.List.{List, [], ◌∷◌, ◌++◌, map, append_assoc, append-nil}
use mathlib.Core.Bool.{Bool, true, false, not, false≢true}
use native.Mathlib.Omega.{arith}
use native.Mathlib.Nat.{add_assoc, zero-add}
use lib.ListN.{length, drop, length-append, get_or-append}
use lib.Seq.{drop-append_seam}
use lib.Dec.{eqb, ltb}
use borrow.Author.Tests.{eq-eqb}
use Rattle.token.specs.Find.{byte, both}
use Rattle.token.proofs.Find.{by_test}
use Rattle.token.proofs.Bytes.{both_true, both_second}
use Rattle.token.proofs.Decimals.{dotted_other}
use Rattle.token.specs.Bytes.{pair_at, class_of, is_word_byte}
use Rattle.token.specs.declared.scan.Class.TheVariants.{Blank as blank}
use Rattle.token.specs.Tokens.{step_at, found, dots_at, token_of, token_at}
use Rattle.token.specs.Lexing.{Lexed, more, ended, refused, after_step, Divides, lex_from}
use Rattle.token.proofs.Sequences.{tokens_of, after_all}
use Rattle.token.specs.declared.Cursor.{Cursor}
use Rattle.token.specs.declared.Token.{Token}
use Rattle.token.specs.declared.Sort.{Sort}
use Rattle.token.specs.declared.Sort.TheVariants.{Word, Number, String, Punctuator, Float}
use Rattle.token.specs.declared.Step.{Step}
use Rattle.token.specs.declared.Step.TheVariants.{Found, Refused, End}
use Rattle.token.proofs.Steps.{found_fits, lex_law, lex_found, lex_bad, lex_end}
use Rattle.locality.proofs.Skipping.{a_blank, gap_step, plain_step, parting}
use Rattle.locality.proofs.Shift.{moved, moved_all, lex_rest}
use Rattle.locality.proofs.Front.{ends}
use Rattle.locality.proofs.Join.{step_longer, step_shorter, rest_ends, found_ends, One}

-- ---- tokens, and then others

after_append : (ts us : List Token) (l : Lexed) → after_all ts (after_all us l) ≡ after_all (ts ++ us) l
unfolding after_all
after_append [] us l = refl
after_append (t ∷ ts) us l = ap (more t) (after_append ts us l)

moved_after : (d : ℕ) (ts : List Token) (l : Lexed) → moved_all d (after_all ts l) ≡ after_all (map (moved d) ts) (moved_all d l)
unfolding after_all moved_all
moved_after d [] l = refl
moved_after d (t ∷ ts) l = ap (more (moved d t)) (moved_after d ts l)

moved_twice : (d e : ℕ) (l : Lexed) → moved_all d (moved_all e l) ≡ moved_all (d + e) l
unfolding moved_all moved
moved_twice d e (more t l) =
    ap₂ (λ (i : ℕ) (m : Lexed). more (record { sort = t.sort; at = i; len = t.len }) m) (sym (add_assoc d e t.at)) (moved_twice d e l)
moved_twice d e (ended n) = ap ended (sym (add_assoc d e n))
moved_twice d e (refused p) = ap refused (sym (add_assoc d e p))

unmoved : (l : Lexed) → moved_all 0 l ≡ l
unfolding moved_all moved
unmoved (more t l) = ap₂ (λ (i : ℕ) (m : Lexed). more (record { sort = t.sort; at = i; len = t.len }) m) (zero-add t.at) (unmoved l)
unmoved (ended n) = ap ended (zero-add n)
unmoved (refused p) = ap refused (zero-add p)

-- which tokens those are
pub tokens_after : (ts : List Token) (l : Lexed) → tokens_of (after_all ts l) ≡ ts ++ tokens_of l
unfolding after_all tokens_of
tokens_after [] l = refl
tokens_after (t ∷ ts) l = ap (λ (x : List Token). t ∷ x) (tokens_after ts l)

-- the tokens of a list that is moved
pub tokens_moved : (d : ℕ) (l : Lexed) → tokens_of (moved_all d l) ≡ map (moved d) (tokens_of l)
unfolding tokens_of moved_all
tokens_moved d (more t l) = ap (λ (x : List Token). moved d t ∷ x) (tokens_moved d l)
tokens_moved d (ended n) = refl
tokens_moved d (refused p) = refl

-- a list with tokens in front divides wholly if it does
pub divides_after : (ts : List Token) (l : Lexed) → Divides l → Divides (after_all ts l)
unfolding after_all
divides_after [] l d = d
divides_after (t ∷ ts) l d = divides_after ts l d

-- and so does one that is moved
pub divides_moved : (d : ℕ) (l : Lexed) → Divides l → Divides (moved_all d l)
unfolding moved_all
divides_moved d (more t l) h = divides_moved d l h
divides_moved d (ended n) h = h
divides_moved d (refused p) h = h

-- ---- tokens that end by a place

-- all of the tokens end by n
abbrev pub Inside : ℕ → List Token → Type 0
Inside n [] = Unit {0}
Inside n (t ∷ ts) = (t.at + t.len ≤ n) × Inside n ts

inside_more : (n m : ℕ) (ts : List Token) → n ≤ m → Inside n ts → Inside m ts
inside_more n m [] h i = tt
inside_more n m (t ∷ ts) h i = let k = i.0 in (omega arith, inside_more n m ts h i.1)

inside_moved : (d n : ℕ) (ts : List Token) → Inside n ts → Inside (d + n) (map (moved d) ts)
unfolding moved
inside_moved d n [] i = tt
inside_moved d n (t ∷ ts) i = let k = i.0 in (omega arith, inside_moved d n ts i.1)

inside_append : (n : ℕ) (ts us : List Token) → Inside n ts → Inside n us → Inside n (ts ++ us)
inside_append n [] us i j = j
inside_append n (t ∷ ts) us i j = (i.0, inside_append n ts us i.1 j)

-- ---- pieces

-- b may go on after a text, which ends with a word, a number or a float or does not: with a byte of no word and no dot
unfoldable pub may_follow : Bool → List ℕ → Bool
may_follow true b = both (not (is_word_byte (byte b 0))) (not (eqb (byte b 0) 46))
may_follow false b = true

-- the same of b and whatever goes on after b
unfoldable pub may_start : Bool → List ℕ → Bool
may_start true [] = false
may_start true (x ∷ b) = both (not (is_word_byte x)) (not (eqb x 46))
may_start false b = true

-- the text a has the tokens ts, and keeps them whatever goes on after it that may
pub record Piece (word : Bool) (a : List ℕ) (ts : List Token) : Type 0 where
  pub joined : (b : List ℕ) → may_follow word b ≡ true → lex_from (a ++ b) 0 ≡ after_all ts (moved_all (length a) (lex_from b 0))
  pub inside : Inside (length a) ts

follow_start : (f : Bool) (b c : List ℕ) → may_start f b ≡ true → may_follow f (b ++ c) ≡ true
unfolding may_start may_follow
follow_start true [] c e = absurd (let z : ◌≡◌ {A = ℕ} 0 1 = cc in omega arith)
follow_start true (x ∷ b) c e = e
follow_start false b c e = refl

-- one piece after another
pub piece_append : {f g : Bool} {a b : List ℕ} {ts us : List Token} → may_start f b ≡ true → Piece f a ts → Piece g b us →
    Piece g (a ++ b) (ts ++ map (moved (length a)) us)
piece_append {f} {g} {a} {b} {ts} {us} e x y =
    let n = length-append a b in
    record {
      joined = λ c h.
          let l = lex_from c 0 in
          let vs = map (moved (length a)) us in
          ap (λ (s : List ℕ). lex_from s 0) (append_assoc a b c) ∙ x.joined (b ++ c) (follow_start f b c e)
          ∙ ap (λ (k : Lexed). after_all ts (moved_all (length a) k)) (y.joined c h)
          ∙ ap (after_all ts)
          (moved_after (length a) us (moved_all (length b) l)
          ∙ ap (after_all vs) (moved_twice (length a) (length b) l ∙ ap (λ (i : ℕ). moved_all i l) (sym n)))
          ∙ after_append ts vs (moved_all (length (a ++ b)) l);
      inside =
          inside_append (length (a ++ b)) ts (map (moved (length a)) us) (inside_more (length a) (length (a ++ b)) ts (omega arith) x.inside)
          (subst (λ (i : ℕ). Inside i (map (moved (length a)) us)) (sym n) (inside_moved (length a) (length b) us y.inside));
    }

-- the empty text
pub piece_none : Piece false [] []
unfolding after_all
piece_none = record { joined = λ b _. sym (unmoved (lex_from b 0)); inside = tt }

-- a blank
pub piece_blank : (x : ℕ) → class_of x ≡ blank → Piece false (x ∷ []) []
unfolding after_all
piece_blank x e =
    record {
      joined = λ b _.
          lex_law (x ∷ b) 0 ∙ ap (λ (r : Step). after_step r (lex_from (x ∷ b))) (gap_step (x ∷ b) 0 1 (a_blank e refl)).0
          ∙ sym (lex_law (x ∷ b) 1) ∙ lex_rest (x ∷ []) b;
      inside = tt;
    }

-- ---- tokens found one after the other

-- the steps from p find the tokens ts and come to q
pub data Run (s : List ℕ) (q : ℕ) : ℕ → List Token → Type 0 where
  stay : (p : ℕ) → p ≡ q → Run s q p []
  go : (p : ℕ) (t : Token) (c : Cursor) (ts : List Token) → step_at s p ≡ Found t c → Run s q c.at ts → Run s q p (t ∷ ts)

pub run_lex : (s : List ℕ) (q p : ℕ) (ts : List Token) → Run s q p ts → lex_from s p ≡ after_all ts (lex_from s q)
unfolding after_all
run_lex s q p ts (stay _ e) = ap (lex_from s) e
run_lex s q p ts (go _ t c us e r) = lex_found s p t c e ∙ ap (more t) (run_lex s q c.at us r)

pub run_low : (s : List ℕ) (q p : ℕ) (ts : List Token) → Run s q p ts → p ≤ q
run_low s q p ts (stay _ e) = omega arith
run_low s q p ts (go _ t c us e r) = let o = found_fits s p t c e in let l = run_low s q c.at us r in omega arith

-- none of the tokens ends behind q
pub run_inside : (s : List ℕ) (q p : ℕ) (ts : List Token) → Run s q p ts → Inside q ts
run_inside s q p ts (stay _ e) = tt
run_inside s q p ts (go _ t c us e r) =
    let o = found_fits s p t c e in
    let l = run_low s q c.at us r in
    (omega arith, run_inside s q c.at us r)

-- q is inside the text
pub run_high : (s : List ℕ) (q p : ℕ) (ts : List Token) → Run s q p ts → p ≤ length s → q ≤ length s
run_high s q p ts (stay _ e) h = omega arith
run_high s q p ts (go _ t c us e r) h = let o = found_fits s p t c e in run_high s q c.at us r o.inside

-- where the last of some tokens ends, the first of which begins behind d
unfoldable pub last_end : ℕ → List Token → ℕ
last_end d [] = d
last_end d (t ∷ ts) = last_end (t.at + t.len) ts

-- the last token ends at q
pub run_last : (s : List ℕ) (q p : ℕ) (ts : List Token) → Run s q p ts → last_end p ts ≡ q
unfolding last_end
run_last s q p ts (stay _ e) = e
run_last s q p ts (go _ t c us e r) =
    let o = found_fits s p t c e in
    ap (λ (i : ℕ). last_end i us) o.next ∙ run_last s q c.at us r

-- the last of some tokens ends where b goes on
abbrev pub LastEnds : List ℕ → List Token → Type 0
LastEnds b [] = Unit {0}
LastEnds b (t ∷ []) = ends t.sort b ≡ true
LastEnds b (t ∷ u ∷ ts) = LastEnds b (u ∷ ts)

first_step : (s : List ℕ) (q p : ℕ) (t : Token) (ts : List Token) → Run s q p (t ∷ ts) → p < q
first_step s q p t ts (go _ _ c _ e r) = let o = found_fits s p t c e in let l = run_low s q c.at ts r in omega arith

-- a step from a dot finds `..`
dot_two : (s : List ℕ) (p : ℕ) (t : Token) (c : Cursor) → byte s p ≡ 46 → step_at s p ≡ Found t c → c.at ≡ p + 2
unfolding parting class_of token_at token_of dots_at found
dot_two s p t c e h =
    by_test (λ (r : Step). r ≡ Found t c → c.at ≡ p + 2) (ltb p (length s)) (token_of (class_of (byte s p)) s p) (End (length s))
    (λ _ k.
    by_test (λ (r : Step). r ≡ Found t c → c.at ≡ p + 2) (pair_at s p 46 46) _ (Refused p)
    (λ _ z. let y : (record { at = p + 2 }) ≡ c = cc in sym (ap (λ (x : Cursor). x.at) y))
    (λ _ z. absurd (let y : ◌≡◌ {A = ℕ} 0 1 = cc in omega arith))
    (sym (ap (λ (n : ℕ). token_of (class_of n) s p) e) ∙ k))
    (λ _ k. absurd (let y : ◌≡◌ {A = ℕ} 0 1 = cc in omega arith))
    (sym (plain_step s p (ap (λ (n : ℕ). parting (class_of n)) e)) ∙ h)

-- the tokens of a text up to a place stay if another text goes on there
pub run_other : (a b z : List ℕ) (p : ℕ) (ts : List Token) → Run (a ++ z) (length a) p ts → LastEnds b ts → Run (a ++ b) (length a) p ts
run_other a b z p [] (stay _ e) h = stay p e
run_other a b z p (t ∷ []) (go _ _ c _ e r) h =
    go p t c []
    (step_longer a b p t c (step_shorter a z p t c e (run_low (a ++ z) (length a) c.at [] r)) (ap (ends t.sort) (ap (λ (i : ℕ). drop i (a ++ b)) (at_end r) ∙ drop-append_seam a b) ∙ h))
    (run_other a b z c.at [] r tt)
  where
    at_end : {n : ℕ} → Run (a ++ z) (length a) n [] → n ≡ length a
    at_end (stay _ i) = i
run_other a b z p (t ∷ u ∷ ts) (go _ _ c _ e r) h =
    let l = first_step (a ++ z) (length a) c.at u ts r in
    let n = dotted_next r in
    go p t c (u ∷ ts)
    (step_longer a b p t c (step_shorter a z p t c e (omega arith))
    (rest_ends a b t.sort c.at l n ∙ sym (rest_ends a z t.sort c.at l n) ∙ found_ends (a ++ z) p t c e))
    (run_other a b z c.at (u ∷ ts) r h)
  where
    -- a dot behind the token is `..`, whose second byte is in a
    dotted_next : {n : ℕ} → Run (a ++ z) (length a) n (u ∷ ts) → byte a n ≡ 46 → n + 1 < length a
    dotted_next {n} (go _ _ k _ i j) y =
        let low = run_low (a ++ z) (length a) k.at ts j in
        let o = found_fits (a ++ z) n u k i in
        let x : n < length a = omega arith in
        let w = dot_two (a ++ z) n u k (get_or-append a z 0 n x ∙ y) i in
        omega arith

-- a text whose tokens are found up to its end, and the last ends before whatever may follow
pub piece_run : (f : Bool) (a z : List ℕ) (ts : List Token) → Run (a ++ z) (length a) 0 ts →
    ((b : List ℕ) → may_follow f b ≡ true → LastEnds b ts) → Piece f a ts
piece_run f a z ts r h =
    record {
      joined = λ b m. run_lex (a ++ b) (length a) 0 ts (run_other a b z 0 ts r (h b m)) ∙ ap (after_all ts) (lex_rest a b);
      inside = run_inside (a ++ z) (length a) 0 ts r;
    }

-- ---- from the list of tokens to the steps

-- a step from p finds the token t, and those after it are us
pub record First (s : List ℕ) (p : ℕ) (t : Token) (us : List Token) : Type 0 where
  pub next : Cursor
  pub step : step_at s p ≡ Found t next
  pub rest : tokens_of (lex_from s next.at) ≡ us

by_step : (s : List ℕ) (p : ℕ) (t : Token) (us : List Token) (r : Step) → step_at s p ≡ r → tokens_of (lex_from s p) ≡ t ∷ us → First s p t us
unfolding tokens_of
by_step s p t us (Found u c) e k =
    let l : u ∷ tokens_of (lex_from s c.at) ≡ t ∷ us = sym (ap tokens_of (lex_found s p u c e)) ∙ k in
    let same : u ≡ t = cc in
    record { next = c; step = e ∙ ap (λ (x : Token). Found x c) same; rest = cc }
by_step s p t us (Refused q) e k =
    absurd (let l : [] ≡ t ∷ us = sym (ap tokens_of (lex_bad s p q e)) ∙ k in let z : ◌≡◌ {A = ℕ} 0 1 = cc in omega arith)
by_step s p t us (End n) e k =
    absurd (let l : [] ≡ t ∷ us = sym (ap tokens_of (lex_end s p n e)) ∙ k in let z : ◌≡◌ {A = ℕ} 0 1 = cc in omega arith)

-- so it is where they are the tokens from p on
pub first : (s : List ℕ) (p : ℕ) (t : Token) (us : List Token) → tokens_of (lex_from s p) ≡ t ∷ us → First s p t us
first s p t us k = by_step s p t us (step_at s p) refl k

-- the steps from p find the tokens ts, and those after them are us
pub record Leading (s : List ℕ) (p : ℕ) (ts us : List Token) : Type 0 where
  pub end : ℕ
  pub run : Run s end p ts
  pub rest : tokens_of (lex_from s end) ≡ us

-- so it is where they are the tokens from p on
pub leading : (s : List ℕ) (p : ℕ) (ts us : List Token) → tokens_of (lex_from s p) ≡ ts ++ us → Leading s p ts us
leading s p [] us k = record { end = p; run = stay p refl; rest = k }
leading s p (t ∷ ts) us k =
    let f = first s p t (ts ++ us) k in
    let g = leading s f.next.at ts us f.rest in
    record { end = g.end; run = go p t f.next ts f.step g.run; rest = g.rest }

-- ---- a text of one token

ends_follow : (k : Sort) (b : List ℕ) → may_follow true b ≡ true → ends k b ≡ true
unfolding ends may_follow
ends_follow (Word c) b e = both_true (not (is_word_byte (byte b 0))) (not (eqb (byte b 0) 46)) e
ends_follow (Float n m k) b e = both_true (not (is_word_byte (byte b 0))) (not (eqb (byte b 0) 46)) e
ends_follow (Number n m) b e =
    ap₂ (λ (x y : Bool). both x (not y)) (both_true (not (is_word_byte (byte b 0))) (not (eqb (byte b 0) 46)) e)
    (dotted_other b 0 (λ z. false≢true (sym (ap not (eq-eqb (byte b 0) 46 z)) ∙ both_second (not (is_word_byte (byte b 0))) (not (eqb (byte b 0) 46)) e)))
ends_follow String b e = refl
ends_follow (Punctuator m) b e = refl

one_run : (w : List ℕ) (k : Sort) → One w k → Run (w ++ []) (length w) 0 (record { sort = k; at = 0; len = length w } ∷ [])
unfolding tokens_of
one_run w k o =
    let t : Token = record { sort = k; at = 0; len = length w } in
    let f = first w 0 t [] (ap tokens_of o) in
    let h = found_fits w 0 t f.next f.step in
    subst (λ (s : List ℕ). Run s (length w) 0 (t ∷ [])) (sym (append-nil w))
    (go 0 t f.next [] f.step (stay f.next.at (omega arith)))

-- a text of one token
pub piece_one : {w : List ℕ} {k : Sort} → One w k → Piece true w (record { sort = k; at = 0; len = length w } ∷ [])
piece_one {w} {k} o = piece_run true w [] _ (one_run w k o) (λ b h. ends_follow k b h)

-- of a string or a sign
pub piece_sign : {w : List ℕ} {k : Sort} → ((b : List ℕ) → ends k b ≡ true) → One w k → Piece false w (record { sort = k; at = 0; len = length w } ∷ [])
piece_sign {w} {k} e o = piece_run false w [] _ (one_run w k o) (λ b _. e b)
