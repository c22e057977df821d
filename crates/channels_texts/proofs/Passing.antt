-- The tokens of a text with two objects exchanged stop where they stopped. Assumes nothing.
use mathlib.Core.Path.{◌≡◌, refl, sym, ◌∙◌, ap, ap₂, subst, subst₂}
use mathlib.Core.List.{List, [], ◌∷◌, ◌++◌, map, append_assoc}
use mathlib.Core.Bool.{Bool, true, false}
use Prim.Native.Nat.{ℕ, suc, ◌+◌, ◌-◌, ◌≤◌, ◌<◌}
use native.Mathlib.Omega.{arith}
use native.Mathlib.Nat.{add_assoc}
use lib.ListN.{length, length-append, length-drop, take, drop, take-append-drop}
use lib.Seq.{length-take-le, drop-append-le, drop-append_seam, get_or-drop}
use lib.Dec.{eqb}
use borrow.Author.Tests.{ne_eqb}
use Rattle.token.specs.Find.{pick, either, byte}
use Rattle.token.specs.Tokens.{bytes_between}
use Rattle.token.specs.Lexing.{lex_from}
use Rattle.token.proofs.Sequences.{tokens_of}
use Rattle.token.specs.declared.Token.{Token as Lexeme}
use Rattle.token.proofs.Steps.{found_fits, lex_again}
use Rattle.locality.proofs.Shift.{moved, lex_rest}
use Rattle.locality.proofs.Front.{ends}
use Rattle.locality.proofs.Pieces.{may_start, tokens_moved, Piece, piece_append, Run, stay, go, last_end, run_last, LastEnds, piece_run, first, leading}
use Rattle.locality.proofs.Slices.{split, last_moved, slice}
use Rattle.locality.proofs.Between.{piece_between, piece_until}
use Rattle.grammar.specs.Grammar.{Token, matches, sg, lbrace, semicolon, tokens as Leaves-of}
use Rattle.grammar.specs.Terminals.{token_of, tokens}
use Rattle.reads_back.proofs.SayingCopied.{last_place}
use Rattle.reads_back.proofs.SayingTokens.{piece_tokens}
use Rattle.channels.specs.Neighbours.{first_place, end_of_last}
use Rattle.channels.proofs.Saying.{Stops, semicolon_stops, brace_stops, Ending, ending_last, lexemes_split, heading, Ends, object_ending, last_end_is}
use Rattle.channels.proofs.ObjectTokens.{object_ends}
use Rattle.channels.proofs.Exchange.{part_is, four}
use Rattle.sources.specs.Lines.{line_start, stop_at}
use Rattle.sources.proofs.Stops.{line_low}
use Rattle.sources_laws.proofs.Ends.{Run as Passes, stay as stays, go as goes}
use Rattle.channels_texts.specs.Lent.{InText}
use Rattle.channels_texts.proofs.Stopping.{run_stop, stop_later}

-- Tokens ---------------------------------------------------------------------------------------------------------------------------------------

-- Where the last of some tokens ends, whatever stands before.
abbrev pub LastAt : List Lexeme → ℕ → Type 0
LastAt ts e = (q : ℕ) → last_end q ts ≡ e

last_append : (ts us : List Lexeme) (e : ℕ) → LastAt us e → LastAt (ts ++ us) e
unfolding last_end
last_append [] us e h q = h q
last_append (t ∷ ts) us e h q = last_append ts us e h (t.at + t.len)

pub last_later : (d : ℕ) (ts : List Lexeme) (e : ℕ) → LastAt ts e → LastAt (map (moved d) ts) (d + e)
unfolding last_end moved
last_later d [] e h q = absurd (let x = h 0 in let y = h 1 in omega arith)
last_later d (t ∷ ts) e h q = ap (λ (i : ℕ). last_end i (map (moved d) ts)) (add_assoc d t.at t.len) ∙ last_moved d (t.at + t.len) ts ∙ ap (d +◌) (h 0)

last_some : (ts : List Lexeme) (t : Lexeme) (us : List Lexeme) (e : ℕ) → ts ≡ t ∷ us → last_end 0 ts ≡ e → LastAt ts e
unfolding last_end
last_some ts t us e w h q = ap (last_end q) w ∙ sym (ap (last_end 0) w) ∙ h

-- The tokens of x, which end where it ends, and are X where X begins.
pub record Cut (x : List ℕ) (X : List Token) : Type 0 where
  pub tokens : List Lexeme
  pub piece : Piece false x tokens
  pub last : LastAt tokens (length x)
  pub are : map token_of (map (moved (first_place X)) tokens) ≡ X

ending_unmoved : (p : ℕ) (ts : List Lexeme) → Ending (map token_of (map (moved p) ts)) → Ending (map token_of ts)
unfolding token_of moved
ending_unmoved p [] h = h
ending_unmoved p (t ∷ []) h = h
ending_unmoved p (t ∷ u ∷ ts) h = ending_unmoved p (u ∷ ts) h

map_first : (p : ℕ) (ts : List Lexeme) (u : Lexeme) (us : List Lexeme) → map (moved p) ts ≡ u ∷ us → (e : ℕ) → last_end 0 ts ≡ e → LastAt ts e
map_first p [] u us w e h = absurd (let z : ◌≡◌ {A = ℕ} 0 1 = cc in omega arith)
map_first p (t ∷ ts) u us w e h = last_some (t ∷ ts) t ts e refl h

-- An object of the text d.
pub cut_object : (d : List ℕ) (A X B : List Token) → tokens d ≡ A ++ (X ++ B) → Ends X → (x : List ℕ) → bytes_between d (first_place X) (end_of_last X) ≡ x → Cut x X
unfolding first_place
cut_object d A X B e o x w =
    let j = lexemes_split d A (X ++ B) e in
    let k = split token_of j.back X B j.back_is in
    let g = leading d 0 j.front j.back j.whole in
    let f = heading k.front o.first (o.mid ++ (o.final ∷ [])) (k.front_is ∙ o.leaves) in
    let h = first d g.end f.head (f.rest ++ k.back) (g.rest ∙ k.whole ∙ ap (◌++ k.back) f.whole) in
    let i = found_fits d g.end f.head h.next h.step in
    let n = i.next in
    let m = i.inside in
    let l : tokens_of (lex_from d f.head.at) ≡ k.front ++ k.back = ap tokens_of (lex_again d g.end f.head h.next h.step) ∙ g.rest ∙ k.whole in
    let y = slice d f.head.at k.front k.back (omega arith) l in
    let p : first_place X ≡ f.head.at = ap first_place o.leaves ∙ sym f.place_is in
    let q : end_of_last X ≡ y.end =
    ap end_of_last o.leaves ∙ last_end_is (o.first ∷ o.mid) o.final ∙ sym (last_place k.front f.head.at (o.first ∷ o.mid) o.final (k.front_is ∙ o.leaves)) ∙ y.last in
    let v : bytes_between d f.head.at y.end ≡ x = ap₂ (bytes_between d) (sym p) (sym q) ∙ w in
    let r : Run (x ++ drop y.end d) (length x) 0 y.tokens = subst (λ (z : List ℕ). Run (z ++ drop y.end d) (length z) 0 y.tokens) v y.run in
    let c : Ending (map token_of y.tokens) =
    ending_unmoved f.head.at y.tokens (subst Ending (sym (ap (map token_of) y.moved_are ∙ k.front_is)) (object_ending o)) in
    record {
      tokens = y.tokens;
      piece = piece_run false x (drop y.end d) y.tokens r (λ b _. ending_last y.tokens c b);
      last = map_first f.head.at y.tokens f.head f.rest (y.moved_are ∙ f.whole) (length x) (run_last (x ++ drop y.end d) (length x) 0 y.tokens r);
      are = ap (λ (i : ℕ). map token_of (map (moved i) y.tokens)) p ∙ ap (map token_of) y.moved_are ∙ k.front_is;
    }

-- Past two objects -----------------------------------------------------------------------------------------------------------------------------

run_passes : (s : List ℕ) (q p : ℕ) (ts : List Lexeme) → Run s q p ts → Passes s q p
run_passes s q p ts (stay _ e) = stays p e
run_passes s q p ts (go _ t c us e r) = goes p t c e (run_passes s q c.at us r)

map_append : (f : Lexeme → Lexeme) (a b : List Lexeme) → map f (a ++ b) ≡ map f a ++ map f b
map_append f [] b = refl
map_append f (t ∷ a) b = ap (f t ∷◌) (map_append f a b)

-- The text n, whose tokens end where it ends, between h and c.
pass_one : (h n c : List ℕ) (ts : List Lexeme) → Piece false n ts → LastAt ts (length n) → stop_at (h ++ (n ++ c)) (length h) ≡ stop_at (h ++ (n ++ c)) (length h + length n)
pass_one h n c ts x l =
    let u = h ++ (n ++ c) in
    let us = map (moved (length n)) (tokens_of (lex_from c 0)) in
    let e : tokens_of (lex_from u (length h)) ≡ map (moved (length h)) ts ++ map (moved (length h)) us =
    ap tokens_of (lex_rest h (n ++ c)) ∙ tokens_moved (length h) (lex_from (n ++ c) 0) ∙ ap (map (moved (length h))) (piece_tokens x c) ∙ map_append (moved (length h)) ts us in
    let r = leading u (length h) (map (moved (length h)) ts) (map (moved (length h)) us) e in
    let q : r.end ≡ length h + length n = sym (run_last u r.end (length h) (map (moved (length h)) ts) r.run) ∙ last_later (length h) ts (length n) l (length h) in
    run_stop u r.end (length h) (run_passes u r.end (length h) (map (moved (length h)) ts) r.run) ∙ ap (stop_at u) q

-- The object p, the gap m and the object q, after a.
pass_two : (h a p m q c : List ℕ) (ts : List Lexeme) {X Y : List Token} → Piece false a ts → Cut p X → Piece false m [] → Cut q Y
    → stop_at (h ++ ((a ++ (p ++ (m ++ q))) ++ c)) (length h) ≡ stop_at (h ++ ((a ++ (p ++ (m ++ q))) ++ c)) (length h + length (a ++ (p ++ (m ++ q))))
unfolding may_start
pass_two h a p m q c ts pa cp pm cq =
    let U = cp.tokens ++ map (moved (length p)) ([] ++ map (moved (length m)) cq.tokens) in
    let y : Piece false (a ++ (p ++ (m ++ q))) (ts ++ map (moved (length a)) U) =
    piece_append {f = false} refl pa (piece_append {f = false} refl cp.piece (piece_append {f = false} refl pm cq.piece)) in
    let n₁ = length-append a (p ++ (m ++ q)) in
    let n₂ = length-append p (m ++ q) in
    let n₃ = length-append m q in
    let l : LastAt (ts ++ map (moved (length a)) U) (length a + (length p + (length m + length q))) =
    last_append ts (map (moved (length a)) U) _ (last_later (length a) U _ (last_append cp.tokens (map (moved (length p)) (map (moved (length m)) cq.tokens)) _
    (last_later (length p) (map (moved (length m)) cq.tokens) _ (last_later (length m) cq.tokens (length q) cq.last)))) in
    pass_one h (a ++ (p ++ (m ++ q))) c (ts ++ map (moved (length a)) U) y (subst (LastAt (ts ++ map (moved (length a)) U)) (let z : length a + (length p + (length m + length q)) ≡ length (a ++ (p ++ (m ++ q))) = omega arith in z) l)

-- The file -------------------------------------------------------------------------------------------------------------------------------------

line_goes_on : (s : List ℕ) (i : ℕ) → byte s i ≡ 59 → line_start s (suc i) < suc i
unfolding line_start
line_goes_on s i k = let l = line_low s i in subst (λ b. pick b (suc i) (line_start s i) < suc i) (sym (ne_eqb (byte s i) 10 (λ e. omega arith))) (let z : line_start s i < suc i = omega arith in z)

-- A text whose last byte is a `;` does not end with a line.
line_open : (g y : List ℕ) → byte y (length y - 1) ≡ 59 → line_start (g ++ y) (length (g ++ y)) < length (g ++ y)
line_open g [] e = absurd (let z : ◌≡◌ {A = ℕ} 0 59 = e in omega arith)
line_open g (b ∷ y) e =
    let n = length-append g (b ∷ y) in
    let z : length (g ++ (b ∷ y)) ≡ suc (length g + length y) = omega arith in
    let w : length (b ∷ y) - 1 ≡ length y = omega arith in
    let k : byte (g ++ (b ∷ y)) (length g + length y) ≡ 59 =
    sym (get_or-drop (length g) (g ++ (b ∷ y)) (length y) 0) ∙ ap (λ (x : List ℕ). byte x (length y)) (drop-append_seam g (b ∷ y)) ∙ ap (byte (b ∷ y)) (sym w) ∙ e in
    subst (λ (i : ℕ). line_start (g ++ (b ∷ y)) i < i) (sym z) (line_goes_on (g ++ (b ∷ y)) (length g + length y) k)

-- What stands before the token t.
pub record Front (a : List ℕ) : Type 0 where
  pub tokens : List Lexeme
  pub piece : Piece false a tokens

front_piece : (a z : List ℕ) (A : List Token) (t : Token) (R : List Token) → tokens (a ++ z) ≡ A ++ (t ∷ R) → t.place ≡ length a
    → ((ts : List Lexeme) → map token_of ts ≡ A → (b : List ℕ) → LastEnds b ts) → Front a
front_piece a z A t R e i h =
    let j = lexemes_split (a ++ z) A (t ∷ R) e in
    let f = heading j.back t R j.back_is in
    record {
      tokens = j.front;
      piece = piece_until a z j.front f.rest f.head (j.whole ∙ ap (j.front ++◌) f.whole) (f.place_is ∙ i) (h j.front j.front_is);
    }

-- What stands between the tokens A, of which the last is c, and the token t.
gap_piece : (a m z : List ℕ) (A : List Token) (c t : Token) (R : List Token) → tokens (a ++ (m ++ z)) ≡ (A ++ (c ∷ [])) ++ (t ∷ R) → c.place + c.length ≡ length a
    → t.place ≡ length a + length m → Piece false m []
gap_piece a m z A c t R e l i =
    let j = lexemes_split (a ++ (m ++ z)) (A ++ (c ∷ [])) (t ∷ R) e in
    let f = heading j.back t R j.back_is in
    piece_between a m z j.front f.rest f.head (j.whole ∙ ap (j.front ++◌) f.whole) (last_place j.front 0 A c j.front_is ∙ l) (f.place_is ∙ i)

-- After h, the text a x m y c with the tokens A X Y R.
module _ (h a x m y c : List ℕ) (A X Y R : List Token) (w : tokens (a ++ (x ++ (m ++ (y ++ c)))) ≡ A ++ (X ++ (Y ++ R))) (ox : Ends X) (oy : Ends Y)
    (closed : (ts : List Lexeme) → map token_of ts ≡ A → (b : List ℕ) → LastEnds b ts)
    (begins : first_place X ≡ length a) (ended : end_of_last X ≡ length a + length x) (begins' : first_place Y ≡ length a + (length x + length m))
    (ended' : end_of_last Y ≡ length a + (length x + (length m + length y))) (sx : byte x (length x - 1) ≡ 59) (sy : byte y (length y - 1) ≡ 59) where
  abbrev d : List ℕ
  d = a ++ (x ++ (m ++ (y ++ c)))

  pub before_x : Front a
  unfolding first_place
  before_x =
      front_piece a (x ++ (m ++ (y ++ c))) A ox.first ((ox.mid ++ (ox.final ∷ [])) ++ (Y ++ R)) (w ∙ ap (λ l. A ++ (l ++ (Y ++ R))) ox.leaves)
      (sym (ap first_place ox.leaves) ∙ begins) closed

  pub cut_x : Cut x X
  cut_x = cut_object d A X (Y ++ R) w ox x (part_is a x (m ++ (y ++ c)) (first_place X) (end_of_last X) begins ended)

  pub cut_y : Cut y Y
  cut_y =
      let p = a ++ (x ++ m) in
      let l : length p ≡ length a + (length x + length m) = length-append a (x ++ m) ∙ ap (length a +◌) (length-append x m) in
      let e : d ≡ p ++ (y ++ c) = sym (append_assoc a (x ++ m) (y ++ c) ∙ ap (a ++◌) (append_assoc x m (y ++ c))) in
      cut_object d (A ++ X) Y R (w ∙ sym (append_assoc A X (Y ++ R))) oy y
      (ap (λ z. bytes_between z (first_place Y) (end_of_last Y)) e
      ∙ part_is p y c (first_place Y) (end_of_last Y) (begins' ∙ sym l) (let j = ended' in let k : end_of_last Y ≡ length p + length y = omega arith in k))

  pub between : Piece false m []
  unfolding first_place
  between =
      let l = length-append a x in
      let i : end_of_last X ≡ ox.final.place + ox.final.length = ap end_of_last ox.leaves ∙ last_end_is (ox.first ∷ ox.mid) ox.final in
      let k : first_place Y ≡ oy.first.place = ap first_place oy.leaves in
      let e = ended in
      let b = begins' in
      let Q = (oy.mid ++ (oy.final ∷ [])) ++ R in
      gap_piece (a ++ x) m (y ++ c) (A ++ (ox.first ∷ ox.mid)) ox.final oy.first Q
      (ap tokens (append_assoc a x (m ++ (y ++ c))) ∙ w ∙ ap₂ (λ u v. A ++ (u ++ (v ++ R))) ox.leaves oy.leaves
      ∙ sym (append_assoc A (ox.first ∷ (ox.mid ++ (ox.final ∷ []))) (oy.first ∷ Q))
      ∙ ap (◌++ (oy.first ∷ Q)) (sym (append_assoc A (ox.first ∷ ox.mid) (ox.final ∷ []))))
      (omega arith) (omega arith)

  abbrev old : List ℕ
  old = a ++ (x ++ (m ++ y))

  abbrev new : List ℕ
  new = a ++ (y ++ (m ++ x))

  pub old_past : stop_at (h ++ (old ++ c)) (length h) ≡ stop_at (h ++ (old ++ c)) (length h + length old)
  old_past = pass_two h a x m y c before_x.tokens before_x.piece cut_x between cut_y

  pub new_past : stop_at (h ++ (new ++ c)) (length h) ≡ stop_at (h ++ (new ++ c)) (length h + length new)
  new_past = pass_two h a y m x c before_x.tokens before_x.piece cut_y between cut_x

  same_long : length old ≡ length new
  same_long =
      let p₁ = length-append a (x ++ (m ++ y)) in
      let p₂ = length-append x (m ++ y) in
      let p₃ = length-append m y in
      let q₁ = length-append a (y ++ (m ++ x)) in
      let q₂ = length-append y (m ++ x) in
      let q₃ = length-append m x in
      omega arith

  open_by : (p q : List ℕ) → byte q (length q - 1) ≡ 59 → line_start (h ++ (a ++ (p ++ (m ++ q)))) (length (h ++ (a ++ (p ++ (m ++ q))))) < length (h ++ (a ++ (p ++ (m ++ q))))
  open_by p q e =
      subst (λ (z : List ℕ). line_start z (length z) < length z)
      (append_assoc h (a ++ (p ++ m)) q ∙ ap (h ++◌) (append_assoc a (p ++ m) q ∙ ap (a ++◌) (append_assoc p m q))) (line_open (h ++ (a ++ (p ++ m))) q e)

  pub later_alike : (p : ℕ) → stop_at (h ++ (old ++ c)) (length h + length old + p) ≡ stop_at (h ++ (new ++ c)) (length h + length old + p)
  later_alike p =
      let e = stop_later (h ++ old) (h ++ new) c (length-append h old ∙ ap (length h +◌) same_long ∙ sym (length-append h new)) (open_by x y sy) (open_by y x sx) p in
      ap₂ (λ (z : List ℕ) (i : ℕ). stop_at z i) (sym (append_assoc h old c)) (ap (◌+ p) (sym (length-append h old)))
      ∙ e ∙ ap₂ (λ (z : List ℕ) (i : ℕ). stop_at z i) (append_assoc h new c) (ap (◌+ p) (length-append h new ∙ ap (length h +◌) (sym same_long)))

  pub through : stop_at (h ++ (old ++ c)) (length h) ≡ stop_at (h ++ (new ++ c)) (length h)
  through =
      let z : (n : ℕ) → n + 0 ≡ n = λ n. omega arith in
      old_past ∙ ap (stop_at (h ++ (old ++ c))) (sym (z (length h + length old))) ∙ later_alike 0
      ∙ ap (stop_at (h ++ (new ++ c))) (z (length h + length old) ∙ ap (length h +◌) same_long) ∙ sym new_past

-- Of a text that is lent --------------------------------------------------------------------------------------------------------------------------

pub record Alike (a x m y c : List ℕ) (from : ℕ) : Type 0 where
  pub exchanged : stop_at (a ++ (x ++ (m ++ (y ++ c)))) from ≡ stop_at (a ++ (y ++ (m ++ (x ++ c)))) from
  pub past : stop_at (a ++ (x ++ (m ++ (y ++ c)))) from ≡ stop_at (a ++ (x ++ (m ++ (y ++ c)))) (length a + (length x + (length m + length y)))
  pub later : (p : ℕ) → stop_at (a ++ (x ++ (m ++ (y ++ c)))) (length a + (length x + (length m + length y)) + p) ≡ stop_at (a ++ (y ++ (m ++ (x ++ c)))) (length a + (length x + (length m + length y)) + p)

sign_ends : (t : Token) → either (matches (sg lbrace) t.class) (matches (sg semicolon) t.class) ≡ true → Stops t.class
sign_ends t e = by (matches (sg lbrace) t.class) refl e
  where
    by : (b : Bool) → matches (sg lbrace) t.class ≡ b → either b (matches (sg semicolon) t.class) ≡ true → Stops t.class
    by true p q = brace_stops t.class p
    by false p q = semicolon_stops t.class q

closing : (A : List Token) → ((l : List Token) (t : Token) → A ≡ l ++ (t ∷ []) → either (matches (sg lbrace) t.class) (matches (sg semicolon) t.class) ≡ true)
    → (ts : List Lexeme) → map token_of ts ≡ A → (b : List ℕ) → LastEnds b ts
unfolding token_of
closing A f [] e b = tt
closing A f (t ∷ []) e b = sign_ends (token_of t) (f [] (token_of t) (sym e)) t.sort refl b
closing A f (t ∷ u ∷ ts) e b =
    closing (map token_of (u ∷ ts)) (λ l v g. f (token_of t ∷ l) v (sym e ∙ ap (token_of t ∷◌) g)) (u ∷ ts) refl b

-- The text from where it goes on, with the places of x and y in it.
pub record Own (a x m y c : List ℕ) (i : InText a x m y c) : Type 0 where
  pub tokens_are : tokens (drop i.from a ++ (x ++ (m ++ (y ++ c)))) ≡ i.before ++ (Leaves-of i.one ++ (Leaves-of i.other ++ i.rest))
  pub text_is : drop i.from (a ++ (x ++ (m ++ (y ++ c)))) ≡ drop i.from a ++ (x ++ (m ++ (y ++ c)))
  pub begins : first_place (Leaves-of i.one) ≡ length (drop i.from a)
  pub ended : end_of_last (Leaves-of i.one) ≡ length (drop i.from a) + length x
  pub begins' : first_place (Leaves-of i.other) ≡ length (drop i.from a) + (length x + length m)
  pub ended' : end_of_last (Leaves-of i.other) ≡ length (drop i.from a) + (length x + (length m + length y))

pub own : (a x m y c : List ℕ) (i : InText a x m y c) → Own a x m y c i
own a x m y c i =
    let f = i.from in
    let lo = i.low in
    let j = length-drop f a in
    let b₁ = i.one_begins in
    let b₂ = i.one_ends in
    let b₃ = i.other_begins in
    let b₄ = i.other_ends in
    let t = drop-append-le f a (x ++ (m ++ (y ++ c))) lo in
    record { tokens_are = ap tokens (sym t) ∙ i.by_tokens; text_is = t; begins = omega arith; ended = omega arith; begins' = omega arith; ended' = omega arith }

-- Its pieces.
pub record Pieces (a x m y c : List ℕ) (i : InText a x m y c) : Type 0 where
  pub front : Front (drop i.from a)
  pub one : Cut x (Leaves-of i.one)
  pub between_both : Piece false m []
  pub other : Cut y (Leaves-of i.other)

pub pieces : (a x m y c : List ℕ) (i : InText a x m y c) → Pieces a x m y c i
pieces a x m y c i =
    let k = drop i.from a in
    let o = own a x m y c i in
    let X = Leaves-of i.one in
    let Y = Leaves-of i.other in
    let ox = object_ends i.one in
    let oy = object_ends i.other in
    let cl = closing i.before i.after_sign in
    let sx = i.one_semicolon in
    let sy = i.other_semicolon in
    record {
      front = before_x [] k x m y c i.before X Y i.rest o.tokens_are ox oy cl o.begins o.ended o.begins' o.ended' sx sy;
      one = cut_x [] k x m y c i.before X Y i.rest o.tokens_are ox oy cl o.begins o.ended o.begins' o.ended' sx sy;
      between_both = between [] k x m y c i.before X Y i.rest o.tokens_are ox oy cl o.begins o.ended o.begins' o.ended' sx sy;
      other = cut_y [] k x m y c i.before X Y i.rest o.tokens_are ox oy cl o.begins o.ended o.begins' o.ended' sx sy;
    }

pub alike : (a x m y c : List ℕ) (i : InText a x m y c) → Alike a x m y c i.from
alike a x m y c i =
    let f = i.from in
    let h = take f a in
    let k = drop f a in
    let n : length h ≡ f = length-take-le f a i.low in
    let j = length-drop f a in
    let lo = i.low in
    let w : a ≡ h ++ k = sym (take-append-drop f a) in
    let o = own a x m y c i in
    let X = Leaves-of i.one in
    let Y = Leaves-of i.other in
    let text : (p q : List ℕ) → h ++ ((k ++ (p ++ (m ++ q))) ++ c) ≡ a ++ (p ++ (m ++ (q ++ c))) = λ p q.
    ap (h ++◌) (sym (four k p m q c)) ∙ sym (append_assoc h k (p ++ (m ++ (q ++ c)))) ∙ ap (◌++ (p ++ (m ++ (q ++ c)))) (sym w) in
    let T = o.tokens_are in
    let ox = object_ends i.one in
    let oy = object_ends i.other in
    let cl = closing i.before i.after_sign in
    let e₁ = o.begins in
    let e₂ = o.ended in
    let e₃ = o.begins' in
    let e₄ = o.ended' in
    let sx = i.one_semicolon in
    let sy = i.other_semicolon in
    let p₁ = length-append k (x ++ (m ++ y)) in
    let p₂ = length-append x (m ++ y) in
    let p₃ = length-append m y in
    let z : length h + length (k ++ (x ++ (m ++ y))) ≡ length a + (length x + (length m + length y)) = omega arith in
    record {
      exchanged = ap₂ (λ (u : List ℕ) (q : ℕ). stop_at u q) (sym (text x y)) (sym n) ∙ through h k x m y c i.before X Y i.rest T ox oy cl e₁ e₂ e₃ e₄ sx sy ∙ ap₂ (λ (u : List ℕ) (q : ℕ). stop_at u q) (text y x) n;
      past = ap₂ (λ (u : List ℕ) (q : ℕ). stop_at u q) (sym (text x y)) (sym n) ∙ old_past h k x m y c i.before X Y i.rest T ox oy cl e₁ e₂ e₃ e₄ sx sy ∙ ap₂ (λ (u : List ℕ) (q : ℕ). stop_at u q) (text x y) z;
      later = λ p.
          ap₂ (λ (u : List ℕ) (q : ℕ). stop_at u (q + p)) (sym (text x y)) (sym z) ∙ later_alike h k x m y c i.before X Y i.rest T ox oy cl e₁ e₂ e₃ e₄ sx sy p
          ∙ ap₂ (λ (u : List ℕ) (q : ℕ). stop_at u (q + p)) (text y x) z;
    }
