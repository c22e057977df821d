-- The tokens of the expanded text end as the expansion says. Assumes nothing.
use Prim.Native.Nat.{ℕ, zero, suc, ◌+◌, ◌-◌, ◌≤◌}
use mathlib.Core.List.{List, [], ◌∷◌, ◌++◌}
use mathlib.Core.Bool.{Bool, true, false}
use mathlib.Core.Logic.{◌⊎◌, inl, inr}
use mathlib.Core.Path.{◌≡◌, refl, sym, subst}
use native.Mathlib.Omega.{arith}
use lib.ListN.{length, get_or, drop, length-append, length-drop}
use mathlib.Core.List.{append_assoc}
use lib.Seq.{take_all}
use lib.Dec.{eqb}
use borrow.Author.Tests.{eqb-true, eqb-false}
use Rattle.token.specs.Bytes.{class_of}
use Rattle.token.specs.Tokens.{bytes_between}
use Rattle.token.specs.Lexing.{lex_from}
use Rattle.token.proofs.Sequences.{after_all}
use Rattle.token.proofs.Find.{by_test}
use Rattle.token.proofs.Steps.{step_past, lex_end}
use Rattle.locality.proofs.Pieces.{piece_blank, may_follow}
use Rattle.sources.specs.Lines.{stop_at}
use Rattle.sources.specs.Texts.{told_well, find_name, include_by, include_of, event_by, event_at}
use Rattle.sources.specs.Expanding.{Piece, origin, onto, onto_part, nothing, stopped, onto_end, with_rest, included_by, included, after_event, walk_n, walk, expand_n, main_text, main_open, expanded}
use Rattle.sources.specs.declared.Line.{Line}
use Rattle.sources.specs.declared.Stop.{Stop}
use Rattle.sources.specs.declared.Stop.TheVariants.{At, Line as AtLine}
use Rattle.std.specs.Prelude.{Option, Some, None}
use Rattle.sources.specs.declared.Include.{Include}
use Rattle.sources.specs.declared.Event.{Event}
use Rattle.sources.specs.declared.Event.TheVariants.{Stop as Stops, Include as Includes}
use Rattle.sources.proofs.Events.{EventOk, event_ok}
use Rattle.sources_laws.specs.Lexings.{EndsAs, Lexes, ExpandedLexes}
use Rattle.sources_laws.proofs.Ends.{ends_moved}
use Rattle.sources_laws.proofs.Outcomes.{text_ends, line_ends, text_feeds}
use Rattle.sources_laws.proofs.Fronts.{line_front}

-- ---- an LF in front

blank_ends : (b : List ℕ) (n i : ℕ) → EndsAs n i (lex_from b 0) → EndsAs n (1 + i) (lex_from (10 ∷ b) 0)
unfolding after_all may_follow class_of
blank_ends b n i e = subst (EndsAs n (1 + i)) (sym ((piece_blank 10 refl).joined b refl)) (ends_moved 1 n i (lex_from b 0) e)

-- ---- pieces

-- the tokens of a piece end as it says, and where it has no fault an LF and any text may follow
pub record LexOk (x : Piece) : Type 0 where
  pub ends : EndsAs x.number x.place (lex_from x.bytes 0)
  pub feeds : x.number ≡ 0 → (b : List ℕ) (n i : ℕ) → EndsAs n i (lex_from (10 ∷ b) 0) → EndsAs n (length x.bytes + i) (lex_from (x.bytes ++ (10 ∷ b)) 0)

-- any text may follow f
abbrev Front : List ℕ → Type 0
Front f = (b : List ℕ) (n j : ℕ) → EndsAs n j (lex_from b 0) → EndsAs n (length f + j) (lex_from (f ++ b) 0)

onto_ok : (f g : List ℕ) (x : Piece) → Front f → LexOk x → LexOk (onto f g x)
unfolding onto
onto_ok f g x h o =
    record {
      ends = h x.bytes x.number x.place o.ends;
      feeds = λ z b n i e.
          let l = length-append f x.bytes in
          let k : length f + (length x.bytes + i) ≡ length (f ++ x.bytes) + i = omega arith in
          subst (λ (j : ℕ). EndsAs n j (lex_from ((f ++ x.bytes) ++ (10 ∷ b)) 0)) k
          (subst (λ (s : List ℕ). EndsAs n (length f + (length x.bytes + i)) (lex_from s 0)) (sym (append_assoc f x.bytes (10 ∷ b)))
          (h (x.bytes ++ (10 ∷ b)) n (length x.bytes + i) (o.feeds z b n i e)));
    }

-- an included text without a fault, an LF, and what follows
feed_ok : (c : ℕ) (x y : Piece) → x.number ≡ 0 → LexOk x → LexOk y → LexOk (onto x.bytes x.origins (onto_end c y))
unfolding onto onto_end
feed_ok c x y z o u =
    record {
      ends = o.feeds z y.bytes y.number (1 + y.place) (blank_ends y.bytes y.number y.place u.ends);
      feeds = λ w b n i e.
          let l = length-append x.bytes (10 ∷ y.bytes) in
          let k : length x.bytes + (1 + (length y.bytes + i)) ≡ length (x.bytes ++ (10 ∷ y.bytes)) + i = omega arith in
          subst (λ (j : ℕ). EndsAs n j (lex_from ((x.bytes ++ (10 ∷ y.bytes)) ++ (10 ∷ b)) 0)) k
          (subst (λ (s : List ℕ). EndsAs n (length x.bytes + (1 + (length y.bytes + i))) (lex_from s 0)) (sym (append_assoc x.bytes (10 ∷ y.bytes) (10 ∷ b)))
          (o.feeds z (y.bytes ++ (10 ∷ b)) n (1 + (length y.bytes + i)) (blank_ends (y.bytes ++ (10 ∷ b)) n (length y.bytes + i) (u.feeds w b n i e))));
    }

rest_ok : (n : ℕ) (x : Piece) → (x.number ≡ 0 → ⊥) → LexOk x → LexOk (with_rest n x)
unfolding with_rest
rest_ok n x z o = record { ends = o.ends; feeds = λ w. absurd (z w) }

included_ok : (c n : ℕ) (x : Piece) (w : ℕ → Piece) (q : ℕ) → LexOk x → LexOk (w q) → (t : Bool) → eqb x.number 0 ≡ t → LexOk (included_by t c n x w q)
included_ok c n x w q o u true e = feed_ok c x (w q) (eqb-true x.number 0 e) o u
included_ok c n x w q o u false e = rest_ok (suc n) x (eqb-false x.number 0 e) o

nothing_ok : LexOk nothing
unfolding nothing
nothing_ok =
    record {
      ends = subst (EndsAs 0 0) (sym (lex_end [] 0 0 (step_past [] 0 (omega arith)))) refl;
      feeds = λ z b n i e. let k : i ≡ 0 + i = omega arith in subst (λ (j : ℕ). EndsAs n j (lex_from (10 ∷ b) 0)) k e;
    }

-- ---- what comes next in a text

abbrev pub EventSays : List ℕ → ℕ → Event → Type 0
EventSays s p (Stops n q) = (stop_at s p ≡ At n q) ⊎ ((i : Line) × (stop_at s p ≡ AtLine i) × (q ≡ i.hash) × (n ≡ 0 → ⊥))
EventSays s p (Includes j) = (i : Line) × (stop_at s p ≡ AtLine i) × (j.start ≡ i.start)

hit_says : (s o : List ℕ) (p : ℕ) (i : Line) → stop_at s p ≡ AtLine i → (h : Option (ℕ × ℕ × ℕ)) → EventSays s p (include_by o i h)
hit_says s o p i e (Some (n, f, t)) =
    by_test (EventSays s p) (eqb (get_or o n 0) 1) (Stops 27 i.hash) _
    (λ _. inr (i, e, refl, λ z. absurd (omega arith))) (λ _. (i, e, refl))
hit_says s o p i e None = inr (i, e, refl, λ z. absurd (omega arith))

stop_says : (b l s o : List ℕ) (p : ℕ) (x : Stop) → stop_at s p ≡ x → EventSays s p (event_by b l s o x)
unfolding include_of
stop_says b l s o p (At n q) e = inl e
stop_says b l s o p (AtLine i) e = hit_says s o p i e (find_name b l (bytes_between s i.from i.to))

pub event_says : (b l s o : List ℕ) (p : ℕ) → EventSays s p (event_at b l s o p)
unfolding event_at
event_says b l s o p = stop_says b l s o p (stop_at s p) refl

tail_is : (s : List ℕ) (p : ℕ) → drop p s ≡ bytes_between s p (length s)
tail_is s p =
    let n = length-drop p s in
    sym (take_all (length s - p) (drop p s) (omega arith))

stopped_ok : (k : ℕ) (s : List ℕ) (p n q : ℕ) → p ≤ length s → (stop_at s p ≡ At n q) ⊎ ((i : Line) × (stop_at s p ≡ AtLine i) × (q ≡ i.hash) × (n ≡ 0 → ⊥)) →
    LexOk (stopped k s p n q)
unfolding stopped
stopped_ok k s p n q h (inl e) =
    record {
      ends = subst (λ (x : List ℕ). EndsAs n (q - p) (lex_from x 0)) (tail_is s p) (text_ends s p n q h e);
      feeds = λ z b m i f.
          subst (λ (x : List ℕ). EndsAs m (length x + i) (lex_from (x ++ (10 ∷ b)) 0)) (tail_is s p)
          (text_feeds s p q h (subst (λ (j : ℕ). stop_at s p ≡ At j q) z e) b m i f);
    }
stopped_ok k s p n q h (inr u) =
    record {
      ends = subst (λ (x : List ℕ). EndsAs n (q - p) (lex_from x 0)) (tail_is s p)
          (subst (λ (j : ℕ). EndsAs n (j - p) (lex_from (drop p s) 0)) (sym u.2) (line_ends s p n u.0 h u.1 u.3));
      feeds = λ z. absurd (u.3 z);
    }

event_lexes : (b : List ℕ) (k : ℕ) (s : List ℕ) (p : ℕ) (g : Include → Piece) (h : ℕ → Piece) → p ≤ length s → ((i : Include) → LexOk (g i)) →
    ((q : ℕ) → q ≤ length s → LexOk (h q)) → (x : Event) → EventOk b s p x → EventSays s p x → LexOk (after_event k s p g h x)
unfolding onto_part included
event_lexes b k s p g h j f u (Stops n q) o e = stopped_ok k s p n q j e
event_lexes b k s p g h j f u (Includes i) o e =
    onto_ok (bytes_between s p i.start) _ _
    (λ c n m z.
    let st : i.start ≡ e.0.start = e.2 in
    subst (λ (x : ℕ). EndsAs n (length (bytes_between s p x) + m) (lex_from (bytes_between s p x ++ c) 0)) (sym st)
    (line_front s p e.0 (omega arith) e.1 c n m z))
    (included_ok (origin k i.hash) (length s - i.after) (g i) h i.after (f i) (u i.after o.last) (eqb (g i).number 0) refl)

walk_lexes : (n : ℕ) (b l : List ℕ) (k : ℕ) (s o : List ℕ) (g : Include → Piece) (p : ℕ) → told_well b l ≡ true → ((i : Include) → LexOk (g i)) → p ≤ length s →
    LexOk (walk_n n b l k s o g p)
unfolding walk_n
walk_lexes zero b l k s o g p t f h = nothing_ok
walk_lexes (suc n) b l k s o g p t f h =
    event_lexes b k s p g (walk_n n b l k s o g) h f (λ q e. walk_lexes n b l k s o g q t f e) (event_at b l s o p) (event_ok b l s o p t h) (event_says b l s o p)

pub expand_lexes : (d : ℕ) (b l : List ℕ) (k : ℕ) (s o : List ℕ) → told_well b l ≡ true → LexOk (expand_n d b l k s o)
unfolding expand_n walk
expand_lexes zero b l k s o t = nothing_ok
expand_lexes (suc d) b l k s o t =
    walk_lexes (suc (length s - 0)) b l k s o _ 0 t (λ i. expand_lexes d b l i.number _ _ t) (omega arith)

-- The token reader on the expanded text, through the end of the text with the fault, comes to its end where the expansion has no fault, and else is
-- refused exactly at the fault.
pub expanded_lexes : ExpandedLexes
unfolding expanded Lexes
expanded_lexes b l t = (expand_lexes 8 b l 0 (main_text b l) main_open t).ends
