-- Where the parts of a lent text stand in the expanded text: "No token or comment crosses a text's end." Assumes nothing.
use mathlib.Core.Path.{◌≡◌, refl, sym, ◌∙◌, ap, ap₂, subst, subst₂}
use mathlib.Core.List.{List, [], ◌∷◌, ◌++◌, map, append_assoc, append-nil}
use mathlib.Core.Bool.{true, false}
use Prim.Native.Nat.{ℕ, zero, suc, ◌+◌, ◌-◌, ◌*◌, ◌≤◌, ◌<◌}
use native.Mathlib.Omega.{arith}
use lib.ListN.{length, length-append, length-drop, get_or, get_or-append, drop}
use lib.Seq.{drop-append_seam, get_or-drop, get_or-take, take_all}
use Rattle.token.specs.Find.{byte}
use Rattle.token.specs.Tokens.{bytes_between}
use Rattle.token.specs.Lexing.{Lexed, more, ended, refused, Divides, lex_from}
use Rattle.token.proofs.Sequences.{tokens_of}
use Rattle.token.proofs.Steps.{step_past, lex_end}
use Rattle.token.specs.declared.Token.{Token as Lexeme}
use Rattle.locality.proofs.Shift.{moved}
use Rattle.locality.proofs.Join.{part_long}
use Rattle.locality.proofs.Pieces.{may_start, may_follow, Inside, Piece, piece_append, run_inside, run_high, leading, divides_after, divides_moved}
use Rattle.sources.specs.Lines.{stop_at}
use Rattle.sources.specs.Texts.{told_well, event_at}
use Rattle.sources.specs.Numbering.{span_of}
use Rattle.sources.specs.Expanding.{Piece as Expanded, up_from, origin, onto, onto_part, stopped, onto_end, with_rest, main_open, main_text, expanded}
use Rattle.sources.specs.declared.Line.{Line}
use Rattle.sources.specs.declared.Stop.{Stop}
use Rattle.sources.specs.declared.Stop.TheVariants.{At as EndAt, Line as AtLine}
use Rattle.sources.specs.declared.Include.{Include}
use Rattle.sources.specs.declared.Event.TheVariants.{Stop as Stops, Include as Includes}
use Rattle.std.specs.Prelude.{Option, Some}
use Rattle.sources.proofs.Singles.{split}
use Rattle.sources.proofs.Stops.{StopOk, stop_ok}
use Rattle.sources.proofs.Events.{IncludeFits, EventOk, event_ok}
use Rattle.sources.proofs.Numberings.{span_ok, same_from, same_to}
use Rattle.sources.proofs.Notings.{event_number, span_length}
use Rattle.sources.proofs.Wholes.{main_span}
use Rattle.sources_laws.specs.Lexings.{EndsAs}
use Rattle.sources_laws.proofs.Outcomes.{Outcome, at_end, at_bad, outcome, LineSays, HashSays, hash_says, text_ends}
use Rattle.sources_laws.proofs.Fronts.{line_front, line_feed}
use Rattle.sources_laws.proofs.Joined.{text_joined, lines_joined, feed_joined}
use Rattle.including.specs.Expansions.{Expands, as_it_stands, with_text, with_fault}
use Rattle.including.proofs.Expanding.{expansions}
use Rattle.channels.proofs.Exchange.{part_is}
use Rattle.channels_texts.specs.Lent.{InText, IsText}
use Rattle.channels_texts.proofs.Passing.{alike, Pieces, pieces}
use Rattle.channels_texts.proofs.Lending.{from_line, end_only}
use Rattle.channels_texts.proofs.Expanding.{Leads, reached, leads, leads_first, up_long, begins_own, by_v, v_long, S-long, parts_of, start_high, z_inside, x_some}

-- Places ---------------------------------------------------------------------------------------------------------------------------------------

-- At the place q of the text u stand x m y, behind a text that keeps its tokens whatever goes on after it.
pub record At (x m y u : List ℕ) (q : ℕ) : Type 0 where
  pub front : List ℕ
  pub tokens : List Lexeme
  pub piece : Piece false front tokens
  pub back : List ℕ
  pub whole : u ≡ front ++ (x ++ (m ++ (y ++ back)))
  pub place : length front ≡ q

module _ (x m y : List ℕ) where
  at_front : {u : List ℕ} {q : ℕ} (f : List ℕ) (ts : List Lexeme) → Piece false f ts → At x m y u q → At x m y (f ++ u) (length f + q)
  unfolding may_start
  at_front f ts p r =
      record {
        front = f ++ r.front;
        tokens = ts ++ map (moved (length f)) r.tokens;
        piece = piece_append {f = false} refl p r.piece;
        back = r.back;
        whole = ap (f ++◌) r.whole ∙ sym (append_assoc f r.front (x ++ (m ++ (y ++ r.back))));
        place = length-append f r.front ∙ ap (length f +◌) r.place;
      }

  at_back : {u : List ℕ} {q : ℕ} (w : List ℕ) → At x m y u q → At x m y (u ++ w) q
  at_back w r =
      record {
        front = r.front;
        tokens = r.tokens;
        piece = r.piece;
        back = r.back ++ w;
        whole = ap (◌++ w) r.whole ∙ append_assoc r.front (x ++ (m ++ (y ++ r.back))) w
            ∙ ap (r.front ++◌) (append_assoc x (m ++ (y ++ r.back)) w ∙ ap (x ++◌) (append_assoc m (y ++ r.back) w ∙ ap (m ++◌) (append_assoc y r.back w)));
        place = r.place;
      }

later_cell : (G R : List ℕ) (q : ℕ) → length G ≤ q → get_or (G ++ R) q 0 ≡ get_or R (q - length G) 0
later_cell G R q h =
    let z : q ≡ length G + (q - length G) = omega arith in
    ap (λ (j : ℕ). get_or (G ++ R) j 0) z ∙ sym (get_or-drop (length G) (G ++ R) (q - length G) 0) ∙ ap (λ (u : List ℕ). get_or u (q - length G) 0) (drop-append_seam G R)

-- Each place with the origin o, in a text f, an included text x and an LF, and what follows.
module _ (x m y : List ℕ) (o : ℕ) (F X Y : List ℕ) (tf tx : List Lexeme) (pf : Piece false F tf) (px : Piece false (X ++ (10 ∷ [])) tx) (G O R : List ℕ) (H : ℕ)
    (lf : length G ≡ length F) (lx : length O ≡ length X) (in_f : (q : ℕ) → q < length F → get_or G q 0 ≡ o → At x m y F q)
    (in-x : (q : ℕ) → q < length X → get_or O q 0 ≡ o → At x m y X q) (no-feed : H ≡ o → ⊥) (in-y : (q : ℕ) → q < length Y → get_or R q 0 ≡ o → At x m y Y q) where
  third : (k j : ℕ) → k ≡ length X + j → j < suc (length Y) → get_or (H ∷ R) j 0 ≡ o → At x m y (X ++ (10 ∷ Y)) k
  third k zero e h g = absurd (no-feed g)
  third k (suc j) e h g =
      let n = length-append X (10 ∷ []) in
      subst₂ (At x m y) (append_assoc X (10 ∷ []) Y) (let z : length (X ++ (10 ∷ [])) + j ≡ k = omega arith in z) (at_front x m y (X ++ (10 ∷ [])) tx px (in-y j (omega arith) g))

  second : (k : ℕ) → k < length (X ++ (10 ∷ Y)) → get_or (O ++ (H ∷ R)) k 0 ≡ o → At x m y (X ++ (10 ∷ Y)) k
  second k h g =
      let n = length-append X (10 ∷ Y) in
      let a = lx in
      split k (length X)
      (λ i. at_back x m y (10 ∷ Y) (in-x k i (sym (get_or-append O (H ∷ R) 0 k (omega arith)) ∙ g)))
      (λ i. third k (k - length O) (omega arith) (omega arith) (sym (later_cell O (H ∷ R) k (omega arith)) ∙ g))

  pub joined_at : (q : ℕ) → q < length (F ++ (X ++ (10 ∷ Y))) → get_or (G ++ (O ++ (H ∷ R))) q 0 ≡ o → At x m y (F ++ (X ++ (10 ∷ Y))) q
  joined_at q h g =
      let n = length-append F (X ++ (10 ∷ Y)) in
      let a = lf in
      split q (length F)
      (λ i. at_back x m y (X ++ (10 ∷ Y)) (in_f q i (sym (get_or-append G (O ++ (H ∷ R)) 0 q (omega arith)) ∙ g)))
      (λ i. subst (At x m y (F ++ (X ++ (10 ∷ Y)))) (let z : length F + (q - length G) ≡ q = omega arith in z)
      (at_front x m y F tf pf (second (q - length G) (omega arith) (sym (later_cell G (O ++ (H ∷ R)) q (omega arith)) ∙ g))))

-- Pieces that end with an LF ---------------------------------------------------------------------------------------------------------------------

inside_later : (n k : ℕ) (ts : List Lexeme) → n ≤ k → Inside n ts → Inside k ts
inside_later n k [] h i = tt
inside_later n k (t ∷ ts) h i = let j = i.0 in (omega arith, inside_later n k ts h i.1)

lines_piece : (f : List ℕ) → Divides (lex_from f 0) → (0 < length f → byte f (length f - 1) ≡ 10) → Piece false f (tokens_of (lex_from f 0))
lines_piece f d h =
    let ts = tokens_of (lex_from f 0) in
    let r = leading f 0 ts [] (sym (append-nil ts)) in
    record {
      joined = λ b _. lines_joined f b d h;
      inside = inside_later r.end (length f) ts (run_high f r.end 0 ts r.run (omega arith)) (run_inside f r.end 0 ts r.run);
    }

none_divides : Divides (lex_from [] 0)
none_divides = subst Divides (sym (lex_end [] 0 0 (step_past [] 0 (omega arith)))) tt

feed_piece : (x : List ℕ) → Divides (lex_from x 0) → Piece false (x ++ (10 ∷ [])) (tokens_of (lex_from (x ++ (10 ∷ [])) 0))
feed_piece x d =
    let n = length-append x (10 ∷ []) in
    let z : length (x ++ (10 ∷ [])) - 1 ≡ length x + 0 = omega arith in
    lines_piece (x ++ (10 ∷ []))
    (subst Divides (sym (text_joined x [] d))
    (divides_after (tokens_of (lex_from x 0)) _ (divides_moved (length x) (lex_from (10 ∷ []) 0) (subst Divides (sym (feed_joined [])) (divides_moved 1 (lex_from [] 0) none_divides)))))
    (λ _. ap (byte (x ++ (10 ∷ []))) z ∙ sym (get_or-drop (length x) (x ++ (10 ∷ [])) 0 0) ∙ ap (λ (u : List ℕ). byte u 0) (drop-append_seam x (10 ∷ [])))

wholly : (q : ℕ) (l : Lexed) → EndsAs 0 q l → Divides l
wholly q (more t l) e = wholly q l e
wholly q (ended n) e = tt
wholly q (refused p) e = absurd (e.0 refl)

-- An LF stands before an include line, unless it is the first.
before_line : (s : List ℕ) (p : ℕ) (i : Line) → stop_at s p ≡ AtLine i → 0 < i.start → byte s (i.start - 1) ≡ 10
before_line s p i e h = by (outcome s p)
  where
    by : Outcome s p (stop_at s p) → byte s (i.start - 1) ≡ 10
    by (at_end last m r f g) = absurd (let w : AtLine i ≡ EndAt 0 (length s) = sym e ∙ g in let z : ◌≡◌ {A = ℕ} 0 1 = cc in omega arith)
    by (at_bad last q r f g) =
        let u : LineSays s last q i = subst (HashSays s last q) (sym g ∙ e) (hash_says s last q) in
        let m = u.start in
        subst (λ (k : ℕ). byte s (k - 1) ≡ 10) (sym m) (line_feed s q (omega arith))

-- What stands before it.
line_piece : (s : List ℕ) (p : ℕ) (i : Line) → p ≤ length s → stop_at s p ≡ AtLine i → Piece false (bytes_between s p i.start) (tokens_of (lex_from (bytes_between s p i.start) 0))
line_piece s p i h e =
    let u = subst (λ (x : Stop). StopOk s p x) e (stop_ok s p h) in
    let u₁ = u.first in
    let u₂ = u.hash in
    let u₃ = u.after in
    let u₄ = u.last in
    let f = bytes_between s p i.start in
    let n : length f ≡ i.start - p = part_long s p i.start u₁ (omega arith) in
    lines_piece f
    (wholly _ (lex_from f 0) (subst (λ (x : List ℕ). EndsAs 0 (length f + 0) (lex_from x 0)) (append-nil f)
    (line_front s p i (omega arith) e [] 0 0 (subst (EndsAs 0 0) (sym (lex_end [] 0 0 (step_past [] 0 (omega arith)))) refl))))
    (λ k.
    let z : p + (length f - 1) ≡ i.start - 1 = omega arith in
    get_or-take (i.start - p) (drop p s) (length f - 1) 0 (omega arith) ∙ get_or-drop p s (length f - 1) 0 ∙ ap (byte s) z ∙ before_line s p i e (omega arith))

-- Origins --------------------------------------------------------------------------------------------------------------------------------------

same_origin : (j u n w : ℕ) → u ≤ 65535 → w ≤ 65535 → origin j u ≡ origin n w → (j ≡ n) × (u ≡ w)
unfolding origin
same_origin j u n w h k e = (omega arith, omega arith)

include_span : (b l s o : List ℕ) (p : ℕ) (i : Include) → event_at b l s o p ≡ Includes i → span_of l i.number ≡ Some (i.number, i.from, i.to)
include_span b l s o p i e = rw e at (event_number b l s o p)

tail_is : (s : List ℕ) (p : ℕ) → drop p s ≡ bytes_between s p (length s)
tail_is s p = let n = length-drop p s in sym (take_all (length s - p) (drop p s) (omega arith))

-- The expansion --------------------------------------------------------------------------------------------------------------------------------

module _ (P a x m y c Q l : List ℕ) (n : ℕ) (told : told_well (P ++ ((a ++ (x ++ (m ++ (y ++ c)))) ++ Q)) l ≡ true) (is : IsText P (a ++ (x ++ (m ++ (y ++ c)))) l n) (i : InText a x m y c) where
  abbrev S : List ℕ
  S = a ++ (x ++ (m ++ (y ++ c)))

  abbrev b : List ℕ
  b = P ++ (S ++ Q)

  abbrev z : ℕ
  z = length a + (length x + (length m + length y))

  S-short : length S ≤ 65535
  S-short = let o = span_ok b l n n (length P) (length P + length S) told is in let h = o.2 in omega arith

  -- The text itself at p: the parts are to come, or they are gone.
  data Known (s : List ℕ) (p : ℕ) : Type 0 where
    to_come : s ≡ S → Leads S i.from p → Known s p
    gone : s ≡ S → z ≤ p → Known s p

  record Told (j : ℕ) (s : List ℕ) (p : ℕ) : Type 0 where
    known : j ≡ n → Known s p
    short : length s ≤ 65535
    inside : p ≤ length s

  text_told : (j f e : ℕ) → span_of l j ≡ Some (j, f, e) → Told j (bytes_between b f e) 0
  text_told j f e h =
      record {
        known = λ d.
            let w : ◌≡◌ {A = Option (ℕ × ℕ × ℕ)} (Some (j, f, e)) (Some (n, length P, length P + length S)) = sym h ∙ ap (span_of l) d ∙ is in
            to_come (ap₂ (bytes_between b) (same_from w) (same_to w) ∙ part_is P S Q (length P) (length P + length S) refl refl) (leads_first S i.from i.goes_on);
        short = span_length b l j j f e told h;
        inside = omega arith;
      }

  found_own : (p e q : ℕ) → p ≡ i.from → z ≤ e → e ≤ length S → p + q ≡ length a → At x m y (bytes_between S p e) q
  found_own p e q r h k w =
      let lo = i.low in
      let n₁ = length-drop i.from a in
      let B = bytes_between S z e in
      let f : bytes_between a p (length a) ≡ drop i.from a = ap (λ (j : ℕ). bytes_between a j (length a)) r ∙ sym (tail_is a i.from) in
      record {
        front = drop i.from a;
        tokens = (pieces a x m y c i).front.tokens;
        piece = (pieces a x m y c i).front.piece;
        back = B;
        whole = parts_of P a x m y c Q l n p e (omega arith) h k (x ++ (m ++ y)) S (by_v P a x m y c Q l n) (v_long P a x m y c Q l n) refl
            ∙ ap₂ ◌++◌ f (append_assoc x (m ++ y) B ∙ ap (x ++◌) (append_assoc m y B));
        place = omega arith;
      }

  past_a : length a < z
  past_a = let h = x_some P a x m y c Q l n told is i in omega arith

  -- At the end of the text.
  end_at : (s : List ℕ) (p k u w : ℕ) → Known s p → stop_at s p ≡ EndAt u w → p + k ≡ length a → At x m y (bytes_between s p (length s)) k
  end_at s p k u w (to_come e (reached _ r)) f g =
      subst (λ (t : List ℕ). At x m y (bytes_between t p (length t)) k) (sym e) (found_own p (length S) k r (z_inside P a x m y c Q l n told is i) (omega arith) g)
  end_at s p k u w (to_come e (leads _ t d h r)) f g =
      absurd (let v : AtLine t ≡ EndAt u w = sym d ∙ sym (ap (λ (q : List ℕ). stop_at q p) e) ∙ f in let y : ◌≡◌ {A = ℕ} 0 1 = cc in omega arith)
  end_at s p k u w (gone e h) f g = absurd (let v = past_a in omega arith)

  -- At an include line of it.
  data LineCase (s : List ℕ) (p : ℕ) (g : Include) : Type 0 where
    here : s ≡ S → p ≡ i.from → z ≤ g.start → g.start ≤ length S → LineCase s p g
    later : s ≡ S → g.after ≤ i.from → Leads S i.from g.after → LineCase s p g
    over : s ≡ S → z ≤ p → LineCase s p g

  line_case : (o s : List ℕ) (p : ℕ) (g : Include) → Known s p → event_at b l s o p ≡ Includes g → LineCase s p g
  unfolding event_at
  line_case o s p g (to_come e (reached _ r)) f =
      let f' : event_at b l S o p ≡ Includes g = sym (ap (λ (t : List ℕ). event_at b l t o p) e) ∙ f in
      let h = start_high P a x m y c Q l n told is i o p z g (z_inside P a x m y c Q l n told is i) (ap (stop_at S) r ∙ (alike a x m y c i).past) f' in
      here e r h.0 h.1
  line_case o s p g (to_come e (leads _ t d h r)) f =
      let f' : event_at b l S o p ≡ Includes g = sym (ap (λ (t : List ℕ). event_at b l t o p) e) ∙ f in
      let q = from_line b l S o (stop_at S p) g f' in
      let w : AtLine q.line ≡ AtLine t = sym q.stops ∙ d in
      let v : q.line ≡ t = cc in
      let k : g.after ≡ t.after = q.after ∙ ap (λ (u : Line). u.after) v in
      later e (subst (λ (u : ℕ). u ≤ i.from) (sym k) h) (subst (Leads S i.from) (sym k) r)
  line_case o s p g (gone e h) f = over e h

  next_known : (s : List ℕ) (p : ℕ) (g : Include) → IncludeFits b s p g → LineCase s p g → Known s g.after
  next_known s p g o (here e r h k) = gone e (let u = o.hash in let w = o.after in omega arith)
  next_known s p g o (later e h r) = to_come e r
  next_known s p g o (over e h) = gone e (let t = o.first in let u = o.hash in let w = o.after in omega arith)

  line_at : (s : List ℕ) (p : ℕ) (g : Include) (k : ℕ) → IncludeFits b s p g → LineCase s p g → p + k < g.start → p + k ≡ length a → At x m y (bytes_between s p g.start) k
  line_at s p g k o (here e r h j) t w = subst (λ (t : List ℕ). At x m y (bytes_between t p g.start) k) (sym e) (found_own p g.start k r h j w)
  line_at s p g k o (later e h r) t w = absurd (let lo = i.low in let u = o.hash in let v = o.after in omega arith)
  line_at s p g k o (over e h) t w = absurd (let v = past_a in omega arith)

  no_hash : (s : List ℕ) (p : ℕ) (g : Include) → IncludeFits b s p g → LineCase s p g → g.hash ≡ length a → ⊥
  no_hash s p g o (here e r h j) w = let v = past_a in let u = o.hash in omega arith
  no_hash s p g o (later e h r) w = let lo = i.low in let v = o.after in omega arith
  no_hash s p g o (over e h) w = let v = past_a in let t = o.first in let u = o.hash in omega arith

  record Result (X : Expanded) : Type 0 where
    divides : Divides (lex_from X.bytes 0)
    long : length X.origins ≡ length X.bytes
    at : (q : ℕ) → q < length X.bytes → get_or X.origins q 0 ≡ origin n (length a) → At x m y X.bytes q

  after_piece : {f : List ℕ} {ts : List Lexeme} (u : List ℕ) → Piece false f ts → Divides (lex_from u 0) → Divides (lex_from (f ++ u) 0)
  unfolding may_follow
  after_piece {f} {ts} u p d = subst Divides (sym (p.joined u refl)) (divides_after ts _ (divides_moved (length f) (lex_from u 0) d))

  ended_so : (j : ℕ) (s : List ℕ) (p q r : ℕ) → Told j s p → q ≡ 0 → stop_at s p ≡ EndAt q r → Result (stopped j s p q r)
  unfolding stopped
  ended_so j s p q r t h e =
      let in' = t.inside in
      let sh = t.short in
      let sz = S-short in
      let sl = S-long P a x m y c Q l n in
      let w = part_long s p (length s) in' (omega arith) in
      record {
        divides = subst (λ (u : List ℕ). Divides (lex_from u 0)) (tail_is s p)
            (wholly (r - p) (lex_from (drop p s) 0) (subst (λ (u : ℕ). EndsAs u (r - p) (lex_from (drop p s) 0)) h (text_ends s p q r in' e)));
        long = up_long (origin j p) (length s - p) ∙ sym w;
        at = λ k f g.
            let d = same_origin j (p + k) n (length a) (omega arith) (omega arith) (sym (begins_own j p (length s) k (omega arith)) ∙ g) in
            end_at s p k q r (t.known d.0) e d.1;
      }

  stands : {o : List ℕ} {j : ℕ} {s : List ℕ} {p : ℕ} {X : Expanded} → Expands b l o j s p X → X.number ≡ 0 → Told j s p → Result X
  unfolding stopped onto_part onto onto_end with_rest event_at
  stands (as_it_stands o j s p q r e) h t = ended_so j s p q r t h (end_only b l s o (stop_at s p) q r e h)
  stands (with_text o j s p g X Y e d c₁ c₂) h t =
      let ok : IncludeFits b s p g = subst (EventOk b s p) e (event_ok b l s o p told t.inside) in
      let k₁ = ok.first in
      let k₂ = ok.hash in
      let k₃ = ok.after in
      let k₄ = ok.last in
      let sh = t.short in
      let sz = S-short in
      let sl = S-long P a x m y c Q l n in
      let q = from_line b l s o (stop_at s p) g e in
      let R₁ = stands d c₁ (text_told g.number g.from g.to (include_span b l s o p g e)) in
      let R₂ = stands c₂ h (record { known = λ u. next_known s p g ok (line_case o s p g (t.known u) e); short = sh; inside = k₄ }) in
      let F = bytes_between s p g.start in
      let G = up_from (origin j p) (g.start - p) in
      let pf : Piece false F (tokens_of (lex_from F 0)) =
      subst (λ (u : ℕ). Piece false (bytes_between s p u) (tokens_of (lex_from (bytes_between s p u) 0))) (sym q.start) (line_piece s p q.line t.inside q.stops) in
      let px = feed_piece X.bytes R₁.divides in
      let n₁ : length G ≡ g.start - p = up_long (origin j p) (g.start - p) in
      let n₂ : length F ≡ g.start - p = part_long s p g.start k₁ (omega arith) in
      let l₃ = length-append F (X.bytes ++ (10 ∷ Y.bytes)) in
      let l₄ = length-append X.bytes (10 ∷ Y.bytes) in
      let l₈ = length-append G (X.origins ++ (origin j g.hash ∷ Y.origins)) in
      let l₉ = length-append X.origins (origin j g.hash ∷ Y.origins) in
      let n₃ = R₁.long in
      let n₄ = R₂.long in
      record {
        divides = after_piece (X.bytes ++ (10 ∷ Y.bytes)) pf (subst (λ (u : List ℕ). Divides (lex_from u 0)) (append_assoc X.bytes (10 ∷ []) Y.bytes) (after_piece Y.bytes px R₂.divides));
        long = omega arith;
        at = joined_at x m y (origin n (length a)) F X.bytes Y.bytes (tokens_of (lex_from F 0)) (tokens_of (lex_from (X.bytes ++ (10 ∷ [])) 0)) pf px G X.origins Y.origins (origin j g.hash)
            (n₁ ∙ sym n₂) n₃
            (λ k f w.
            let u = same_origin j (p + k) n (length a) (omega arith) (omega arith)
            (sym (begins_own j p g.start k (omega arith)) ∙ w) in
            line_at s p g k ok (line_case o s p g (t.known u.0) e) (omega arith) u.1)
            R₁.at
            (λ w. let u = same_origin j g.hash n (length a) (omega arith) (omega arith) w in no_hash s p g ok (line_case o s p g (t.known u.0) e) u.1)
            R₂.at;
      }
  stands (with_fault o j s p g X e d c₁) h t = absurd (c₁ h)

  pub text_stands : (expanded b l).number ≡ 0 → (q : ℕ) → q < length (expanded b l).bytes → get_or (expanded b l).origins q 0 ≡ origin n (length a) → At x m y (expanded b l).bytes q
  unfolding main_text
  text_stands h = (stands (expansions b l told).expands h (text_told 0 (get_or l 0 0) (get_or l 0 0 + get_or l 1 0) (main_span b l told))).at
