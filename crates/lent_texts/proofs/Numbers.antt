-- The first fault of an expanded text is one of 3 and 27 to 29. Assumes nothing.
use Prim.Native.Nat.{ℕ, zero, suc, ◌-◌}
use mathlib.Core.List.{List}
use mathlib.Core.Bool.{Bool, true, false}
use lib.ListN.{length, get_or, set, take}
use lib.Dec.{leb, eqb}
use Rattle.token.specs.Find.{both, byte}
use Rattle.token.specs.Bytes.{find_byte}
use Rattle.token.specs.Tokens.{bytes_between, step_at}
use Rattle.token.specs.declared.Step.{Step}
use Rattle.token.specs.declared.Step.TheVariants.{Found, Refused, End}
use Rattle.token.proofs.Find.{by_test}
use Rattle.sources.specs.Lines.{line_start, whole_to, named, line_by, line_of, hash_at, after_token, stop_n, stop_at}
use Rattle.sources.specs.Texts.{find_name, include_by, include_of, event_by, event_at}
use Rattle.sources.specs.Expanding.{Piece, onto, onto_part, nothing, stopped, onto_end, with_rest, included_by, included, after_event, walk_n, walk, expand_n, main_open, main_text, expanded}
use Rattle.sources.specs.declared.Line.{Line}
use Rattle.std.specs.Prelude.{Option, Some, None}
use Rattle.sources.specs.declared.Stop.{Stop}
use Rattle.sources.specs.declared.Stop.TheVariants.{At, Line as AtLine}
use Rattle.sources.specs.declared.Include.{Include}
use Rattle.sources.specs.declared.Event.{Event}
use Rattle.sources.specs.declared.Event.TheVariants.{Stop as Stops, Include as Includes}
use Rattle.lent_texts.specs.Answered.{FaultNumber, no_fault, no_token, still_open, not_lent, other_hash, FaultNumbers}

-- ---- what stops a text

abbrev ByStop : Stop → Type 0
ByStop (At n q) = FaultNumber n
ByStop (AtLine i) = Unit {0}

by_name : (s : List ℕ) (h a e : ℕ) (x : Option (ℕ × ℕ)) → ByStop (line_by s h a e x)
by_name s h a e (Some (f, t)) = tt
by_name s h a e None = other_hash

by_hash : (s : List ℕ) (p q : ℕ) → ByStop (hash_at s p q)
unfolding hash_at line_of
by_hash s p q =
    by_test ByStop (eqb (byte s q) 35) (line_of s p q) (At 3 q)
    (λ _.
    by_test ByStop (both (leb p (line_start s q)) (whole_to (take (line_start s q) s) p)) _ (At 29 q)
    (λ _. by_name s q (line_start s q) (find_byte 10 s q) (named (bytes_between s (line_start s q) (find_byte 10 s q)) (q - line_start s q))) (λ _. other_hash))
    (λ _. no_token)

by_step : (s : List ℕ) (p : ℕ) (k : ℕ → Stop) (r : Step) → ((q : ℕ) → ByStop (k q)) → ByStop (after_token r s p k)
by_step s p k (Found t c) f = f c.at
by_step s p k (Refused q) f = by_hash s p q
by_step s p k (End n) f = no_fault

by_steps : (n : ℕ) (s : List ℕ) (p : ℕ) → ByStop (stop_n n s p)
unfolding stop_n
by_steps zero s p = no_fault
by_steps (suc n) s p = by_step s p (λ q. stop_n n s q) (step_at s p) (λ q. by_steps n s q)

-- ---- what comes next

abbrev ByEvent : Event → Type 0
ByEvent (Stops n q) = FaultNumber n
ByEvent (Includes i) = Unit {0}

by_include : (o : List ℕ) (i : Line) (h : Option (ℕ × ℕ × ℕ)) → ByEvent (include_by o i h)
by_include o i (Some (n, f, t)) = by_test ByEvent (eqb (get_or o n 0) 1) (Stops 27 i.hash) _ (λ _. still_open) (λ _. tt)
by_include o i None = not_lent

by_stop : (b l s o : List ℕ) (x : Stop) → ByStop x → ByEvent (event_by b l s o x)
unfolding include_of
by_stop b l s o (At n q) h = h
by_stop b l s o (AtLine i) h = by_include o i (find_name b l (bytes_between s i.from i.to))

by_event : (b l s o : List ℕ) (p : ℕ) → ByEvent (event_at b l s o p)
unfolding event_at stop_at
by_event b l s o p = by_stop b l s o (stop_at s p) (by_steps (suc (length s - p)) s p)

-- ---- the expanded text

of_included : (c n : ℕ) (x : Piece) (w : ℕ → Piece) (q : ℕ) → FaultNumber x.number → FaultNumber (w q).number → (t : Bool) → FaultNumber (included_by t c n x w q).number
unfolding onto onto_end with_rest
of_included c n x w q e f true = f
of_included c n x w q e f false = e

of_event : (k : ℕ) (s : List ℕ) (p : ℕ) (g : Include → Piece) (h : ℕ → Piece) → ((i : Include) → FaultNumber (g i).number) → ((q : ℕ) → FaultNumber (h q).number) →
    (x : Event) → ByEvent x → FaultNumber (after_event k s p g h x).number
unfolding stopped onto onto_part included
of_event k s p g h f u (Stops n q) e = e
of_event k s p g h f u (Includes i) e = of_included _ _ (g i) h i.after (f i) (u i.after) (eqb (g i).number 0)

of_walk : (n : ℕ) (b l : List ℕ) (k : ℕ) (s o : List ℕ) (g : Include → Piece) (p : ℕ) → ((i : Include) → FaultNumber (g i).number) → FaultNumber (walk_n n b l k s o g p).number
unfolding walk_n nothing
of_walk zero b l k s o g p f = no_fault
of_walk (suc n) b l k s o g p f = of_event k s p g (walk_n n b l k s o g) f (λ q. of_walk n b l k s o g q f) (event_at b l s o p) (by_event b l s o p)

of_expand : (d : ℕ) (b l : List ℕ) (k : ℕ) (s o : List ℕ) → FaultNumber (expand_n d b l k s o).number
unfolding expand_n walk nothing
of_expand zero b l k s o = no_fault
of_expand (suc d) b l k s o = of_walk (suc (length s - 0)) b l k s o _ 0 (λ i. of_expand d b l i.number _ _)

pub fault_numbers : FaultNumbers
unfolding expanded
fault_numbers b l = of_expand 8 b l 0 (main_text b l) main_open
