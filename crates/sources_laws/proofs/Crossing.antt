-- "No token or comment crosses a text's end": at an include line the tokens of the expanded text are those of what stands before the line, then
-- those of the included text, expanded, then those of what follows, each as if it stood alone. Assumes nothing.
use Prim.Native.Nat.{ℕ, ◌+◌, ◌-◌, ◌≤◌, ◌<◌}
use mathlib.Core.List.{List, [], ◌∷◌, ◌++◌, append-nil}
use mathlib.Core.Bool.{Bool, true}
use mathlib.Core.Path.{◌≡◌, refl, sym, ◌∙◌, ap, subst}
use native.Mathlib.Omega.{arith}
use lib.ListN.{length, drop}
use lib.Seq.{get_or-take, get_or-drop}
use borrow.Author.Tests.{eq-eqb, ne_eqb}
use Rattle.token.specs.Find.{byte}
use Rattle.token.specs.Tokens.{bytes_between}
use Rattle.token.specs.Lexing.{Lexed, more, ended, refused, Divides, lex_from}
use Rattle.token.proofs.Sequences.{tokens_of, after_all}
use Rattle.token.proofs.Steps.{step_past, lex_end}
use Rattle.locality.proofs.Shift.{moved_all}
use Rattle.sources.specs.Lines.{stop_at}
use Rattle.sources.specs.Texts.{told_well, event_at}
use Rattle.sources.specs.Expanding.{Piece, origin, onto, onto_part, onto_end, with_rest, included_by, included, after_event, walk, inner}
use Rattle.sources.specs.declared.Line.{Line}
use Rattle.sources.specs.declared.Stop.TheVariants.{At, Line as AtLine}
use Rattle.sources.specs.declared.Include.{Include}
use Rattle.sources.specs.declared.Event.TheVariants.{Include as Includes}
use Rattle.sources.proofs.Events.{IncludeFits, EventOk, event_ok}
use Rattle.sources.proofs.Stops.{length_between}
use Rattle.sources.proofs.Pieces.{walk_law}
use Rattle.sources_laws.specs.Lexings.{EndsAs}
use Rattle.sources_laws.proofs.Outcomes.{Outcome, at_end, at_bad, outcome, LineSays, HashSays, hash_says}
use Rattle.sources_laws.proofs.Fronts.{line_front, line_feed}
use Rattle.sources_laws.proofs.Joined.{text_joined, lines_joined, feed_joined}
use Rattle.sources_laws.proofs.Expanded.{expand_lexes, EventSays, event_says}

wholly : (q : ℕ) (l : Lexed) → EndsAs 0 q l → Divides l
wholly q (more t l) e = wholly q l e
wholly q (ended n) e = tt
wholly q (refused p) e = absurd (e.0 refl)

none : EndsAs 0 0 (lex_from [] 0)
none = subst (EndsAs 0 0) (sym (lex_end [] 0 0 (step_past [] 0 (omega arith)))) refl

-- an LF stands before an include line, unless it is the first
before_line : (s : List ℕ) (p : ℕ) (i : Line) → stop_at s p ≡ AtLine i → 0 < i.start → byte s (i.start - 1) ≡ 10
before_line s p i e h = by (outcome s p)
  where
    by : Outcome s p (stop_at s p) → byte s (i.start - 1) ≡ 10
    by (at_end last m r f g) = absurd (let w : AtLine i ≡ At 0 (length s) = sym e ∙ g in let z : ◌≡◌ {A = ℕ} 0 1 = cc in omega arith)
    by (at_bad last q r f g) =
        let u : LineSays s last q i = subst (HashSays s last q) (sym g ∙ e) (hash_says s last q) in
        let m = u.start in
        subst (λ (k : ℕ). byte s (k - 1) ≡ 10) (sym m) (line_feed s q (omega arith))

module _ (b l s o : List ℕ) (p : ℕ) (i : Include) (t : told_well b l ≡ true) (h : p ≤ length s) (e : event_at b l s o p ≡ Includes i) where
  fits : IncludeFits b s p i
  fits = subst (EventOk b s p) e (event_ok b l s o p t h)

  says : EventSays s p (Includes i)
  says = subst (EventSays s p) e (event_says b l s o p)

  front_divides : Divides (lex_from (bytes_between s p i.start) 0)
  front_divides =
      let u = fits in
      let v = says in
      let st : i.start ≡ v.0.start = v.2 in
      let w = line_front s p v.0 (let x = u.hash in let y = u.after in let z = u.last in omega arith) v.1 [] 0 0 none in
      wholly _ (lex_from (bytes_between s p i.start) 0)
      (subst (λ (x : List ℕ). EndsAs 0 (length (bytes_between s p i.start) + 0) (lex_from x 0)) (append-nil {A = ℕ} (bytes_between s p i.start))
      (subst (λ (m : ℕ). EndsAs 0 (length (bytes_between s p m) + 0) (lex_from (bytes_between s p m ++ []) 0)) (sym st) w))

  front_feed : 0 < length (bytes_between s p i.start) → byte (bytes_between s p i.start) (length (bytes_between s p i.start) - 1) ≡ 10
  front_feed k =
      let u = fits in
      let v = says in
      let x = u.hash in
      let y = u.after in
      let z = u.last in
      let st : i.start ≡ v.0.start = v.2 in
      let n = length_between s p i.start (omega arith) in
      let f : byte s (i.start - 1) ≡ 10 = subst (λ (m : ℕ). byte s (m - 1) ≡ 10) (sym st) (before_line s p v.0 v.1 (omega arith)) in
      let m : p + (length (bytes_between s p i.start) - 1) ≡ i.start - 1 = omega arith in
      get_or-take (i.start - p) (drop p s) (length (bytes_between s p i.start) - 1) 0 (omega arith)
      ∙ get_or-drop p s (length (bytes_between s p i.start) - 1) 0
      ∙ ap (byte s) m ∙ f

  front_joined : (c : List ℕ) → lex_from (bytes_between s p i.start ++ c) 0
      ≡ after_all (tokens_of (lex_from (bytes_between s p i.start) 0)) (moved_all (length (bytes_between s p i.start)) (lex_from c 0))
  front_joined c = lines_joined (bytes_between s p i.start) c front_divides front_feed

whole_bytes : (k : ℕ) (s : List ℕ) (p m c n : ℕ) (x : Piece) (w : ℕ → Piece) (q : ℕ) → x.number ≡ 0 →
    (onto_part k s p m (included c n x w q)).bytes ≡ bytes_between s p m ++ (x.bytes ++ (10 ∷ (w q).bytes))
unfolding onto_part onto included onto_end
whole_bytes k s p m c n x w q e = ap (λ (t : Bool). bytes_between s p m ++ (included_by t c n x w q).bytes) (eq-eqb x.number 0 e)

fault_bytes : (k : ℕ) (s : List ℕ) (p m c n : ℕ) (x : Piece) (w : ℕ → Piece) (q : ℕ) → (x.number ≡ 0 → ⊥) →
    (onto_part k s p m (included c n x w q)).bytes ≡ bytes_between s p m ++ x.bytes
unfolding onto_part onto included with_rest
fault_bytes k s p m c n x w q e = ap (λ (t : Bool). bytes_between s p m ++ (included_by t c n x w q).bytes) (ne_eqb x.number 0 e)

inner_divides : (d : ℕ) (b l o : List ℕ) (i : Include) → told_well b l ≡ true → (inner d b l o i).number ≡ 0 → Divides (lex_from (inner d b l o i).bytes 0)
unfolding inner
inner_divides d b l o i t e =
    let x = inner d b l o i in
    wholly x.place (lex_from x.bytes 0) (subst (λ (n : ℕ). EndsAs n x.place (lex_from x.bytes 0)) e (expand_lexes d b l i.number _ _ t).ends)

-- The text s from p on, up to an include line and on, where the included text has no fault.
pub include_tokens : (d : ℕ) (b l : List ℕ) (k : ℕ) (s o : List ℕ) (p : ℕ) (i : Include) → told_well b l ≡ true → p ≤ length s → event_at b l s o p ≡ Includes i →
    (inner d b l o i).number ≡ 0 →
    lex_from (walk b l k s o (inner d b l o) p).bytes 0
    ≡ after_all (tokens_of (lex_from (bytes_between s p i.start) 0))
    (moved_all (length (bytes_between s p i.start))
    (after_all (tokens_of (lex_from (inner d b l o i).bytes 0))
    (moved_all (length (inner d b l o i).bytes) (moved_all 1 (lex_from (walk b l k s o (inner d b l o) i.after).bytes 0)))))
include_tokens d b l k s o p i t h e n =
    let x = inner d b l o i in
    let w = walk b l k s o (inner d b l o) in
    ap (λ (y : Piece). lex_from y.bytes 0) (walk_law b l k s o (inner d b l o) p t h ∙ ap (after_event k s p (inner d b l o) w) e)
    ∙ ap (λ (y : List ℕ). lex_from y 0) (whole_bytes k s p i.start (origin k i.hash) (length s - i.after) x w i.after n)
    ∙ front_joined b l s o p i t h e (x.bytes ++ (10 ∷ (w i.after).bytes))
    ∙ ap (λ (y : Lexed). after_all (tokens_of (lex_from (bytes_between s p i.start) 0)) (moved_all (length (bytes_between s p i.start)) y))
    (text_joined x.bytes (w i.after).bytes (inner_divides d b l o i t n)
    ∙ ap (λ (y : Lexed). after_all (tokens_of (lex_from x.bytes 0)) (moved_all (length x.bytes) y)) (feed_joined (w i.after).bytes))

-- And where the included text has a fault: nothing follows it.
pub fault_tokens : (d : ℕ) (b l : List ℕ) (k : ℕ) (s o : List ℕ) (p : ℕ) (i : Include) → told_well b l ≡ true → p ≤ length s → event_at b l s o p ≡ Includes i →
    ((inner d b l o i).number ≡ 0 → ⊥) →
    lex_from (walk b l k s o (inner d b l o) p).bytes 0
    ≡ after_all (tokens_of (lex_from (bytes_between s p i.start) 0)) (moved_all (length (bytes_between s p i.start)) (lex_from (inner d b l o i).bytes 0))
fault_tokens d b l k s o p i t h e n =
    let x = inner d b l o i in
    let w = walk b l k s o (inner d b l o) in
    ap (λ (y : Piece). lex_from y.bytes 0) (walk_law b l k s o (inner d b l o) p t h ∙ ap (after_event k s p (inner d b l o) w) e)
    ∙ ap (λ (y : List ℕ). lex_from y 0) (fault_bytes k s p i.start (origin k i.hash) (length s - i.after) x w i.after n)
    ∙ front_joined b l s o p i t h e x.bytes
