-- What the run of any stream is: refusals 3, 4 and 5. Assumes nothing.
use mathlib.Core.Path.{◌≡◌, refl, sym, ◌∙◌, ap, ap₂, subst}
use mathlib.Core.Logic.{◌⊎◌, inl, inr}
use mathlib.Core.List.{List, [], ◌∷◌, ◌++◌, append-nil}
use mathlib.Core.Bool.{Bool, true, false, false≢true}
use mathlib.Core.Option.{Option, none, some}
use Prim.Native.Nat.{ℕ, suc, ◌+◌, ◌≤◌, ◌<◌}
use native.Mathlib.Omega.{arith}
use lib.Dec.{ltb, ltb→lt, lt→ltb}
use Rattle.token.specs.Find.{bit}
use Rattle.token.proofs.Bytes.{T_true}
use Rattle.grammar.specs.Grammar.{Token, file, ◌▸◌, ∎, matches, sg, lbrace, rbrace, Derivation, Begins}
use Rattle.grammar.specs.Stage.{opens, closes, Shallow}
use Rattle.grammar.specs.Factored.{Symbols, paper}
use Rattle.grammar.specs.Machine.{nullable_form, after, feed, Stream, ended, bad, ◌▹◌, prepend, opened, deeper_by, deeper, at_end, next, run}
use Rattle.grammar.specs.Answered.{Answer}
use Rattle.std.specs.Prelude.{Ok, Err}
use Rattle.grammar.specs.declared.Refusal.TheVariants.{NoToken, NotAdmitted, TooDeep}
use Rattle.grammar.proofs.Uniqueness.{reach, bind, Fed, feed_fed, cons≢[], none≢some, some_inj}
use Rattle.grammar.proofs.Braces.{true_T}
use Rattle.grammar.proofs.Viable.{start, viable, not_viable, derived, not_derived, Turn, turn_open, turn_close, turn_plain, Nest, nest_nil, nest_rule, move_nest}

-- What a run of the stream s can come to. Whatever is refused, the braces before it were never too deep.
pub data Outcome (s : Stream) : Answer → Type 0 where
  well : (l : List Token) (n : ℕ) → s ≡ prepend l (ended n) → Shallow l → Derivation l → Outcome s (Ok tt)
  -- Refusal 3: where no token is, and the tokens before it begin a list that the grammar derives.
  no_token_at : (l : List Token) (p : ℕ) → s ≡ prepend l (bad p) → Shallow l → Begins l → Outcome s (Err (NoToken p))
  -- Refusal 4: at a token that the grammar does not admit, or at the end.
  not_taken : (l : List Token) (t : Token) (r : Stream) → s ≡ prepend l (t ▹ r) → Shallow l → Begins l → (Begins (l ++ (t ∷ [])) → ⊥)
      → Outcome s (Err (NotAdmitted t.place))
  unfinished : (l : List Token) (n : ℕ) → s ≡ prepend l (ended n) → Shallow l → Begins l → (Derivation l → ⊥) → Outcome s (Err (NotAdmitted n))
  -- Refusal 5: at a `{` that the grammar admits, where sixteen are open.
  seventeenth : (l : List Token) (t : Token) (r : Stream) → s ≡ prepend l (t ▹ r) → Shallow l → Begins (l ++ (t ∷ []))
      → matches (sg lbrace) t.class ≡ true → opens l ≡ closes l + 16 → Outcome s (Err (TooDeep t.place))

-- Lists ----------------------------------------------------------------------------------------------------------------------------------

-- A front part of l and one more token is the whole, or a front part of l.
fronts : (l₁ l₂ l : List Token) (t : Token) → l ++ (t ∷ []) ≡ l₁ ++ l₂ → (l₁ ≡ l ++ (t ∷ [])) ⊎ ((l₃ : List Token) × (l ≡ l₁ ++ l₃))
fronts [] l₂ l t e = inr (l, refl)
fronts (x ∷ []) l₂ [] t e = let q : t ≡ x = cc in inl (ap (◌∷ []) (sym q))
fronts (x ∷ y ∷ l₁) l₂ [] t e = let q : [] ≡ y ∷ (l₁ ++ l₂) = cc in absurd (cons≢[] (sym q))
fronts (x ∷ l₁) l₂ (y ∷ l) t e = go (fronts l₁ l₂ l t (let q : l ++ (t ∷ []) ≡ l₁ ++ l₂ = cc in q)) (let q : y ≡ x = cc in q)
  where
    go : (l₁ ≡ l ++ (t ∷ [])) ⊎ ((l₃ : List Token) × (l ≡ l₁ ++ l₃)) → y ≡ x → (x ∷ l₁ ≡ y ∷ (l ++ (t ∷ []))) ⊎ ((l₃ : List Token) × (y ∷ l ≡ x ∷ (l₁ ++ l₃)))
    go (inl p) q = inl (ap₂ ◌∷◌ (sym q) p)
    go (inr p) q = inr (p.0, ap₂ ◌∷◌ q p.1)

prepend_one : (l : List Token) (t : Token) (s : Stream) → prepend (l ++ (t ∷ [])) s ≡ prepend l (t ▹ s)
unfolding prepend
prepend_one [] t s = refl
prepend_one (u ∷ l) t s = ap (u ▹◌) (prepend_one l t s)

pub opens_one : (l : List Token) (t : Token) → opens (l ++ (t ∷ [])) ≡ opens l + bit (matches (sg lbrace) t.class)
unfolding opens
opens_one [] t = omega arith
opens_one (u ∷ l) t = let e = opens_one l t in omega arith

pub closes_one : (l : List Token) (t : Token) → closes (l ++ (t ∷ [])) ≡ closes l + bit (matches (sg rbrace) t.class)
unfolding closes
closes_one [] t = omega arith
closes_one (u ∷ l) t = let e = closes_one l t in omega arith

bind_some : (o : Option Symbols) → bind o (λ j. some j) ≡ o
unfolding bind
bind_some none = refl
bind_some (some j) = refl

reach_one : (l : List Token) (t : Token) {i : Symbols} (k : Symbols) → reach k l ≡ some i → reach k (l ++ (t ∷ [])) ≡ feed i t.class
unfolding reach bind
reach_one [] t {i} k e = bind_some (feed k t.class) ∙ ap (λ j. feed j t.class) (some_inj e)
reach_one (u ∷ l) t {i} k e = go (feed k u.class) (λ j. reach_one l t j) e
  where
    go : (o : Option Symbols) → ((j : Symbols) → reach j l ≡ some i → reach j (l ++ (t ∷ [])) ≡ feed i t.class)
        → bind o (λ j. reach j l) ≡ some i → bind o (λ j. reach j (l ++ (t ∷ []))) ≡ feed i t.class
    go none ih d = absurd (none≢some d)
    go (some j) ih d = ih j d

-- The run, with the tokens l behind it ---------------------------------------------------------------------------------------------------

-- The braces open behind the tokens l are d, and were never too many.
record Behind (l : List Token) (d : ℕ) : Type 0 where
  shallow : Shallow l
  open_now : d + closes l ≡ opens l

counted : (l : List Token) (t : Token) {b b' : Bool} {d e : ℕ} → Turn b b' d e → matches (sg lbrace) t.class ≡ b → matches (sg rbrace) t.class ≡ b'
    → d + closes l ≡ opens l → e + closes (l ++ (t ∷ [])) ≡ opens (l ++ (t ∷ []))
unfolding bit
counted l t turn_open p q w = let x = ap bit p in let y = ap bit q in omega (arith, opens_one l t, closes_one l t)
counted l t turn_close p q w = let x = ap bit p in let y = ap bit q in omega (arith, opens_one l t, closes_one l t)
counted l t turn_plain p q w = let x = ap bit p in let y = ap bit q in omega (arith, opens_one l t, closes_one l t)

one_more : (l : List Token) (t : Token) {d e : ℕ} → Turn (matches (sg lbrace) t.class) (matches (sg rbrace) t.class) d e → e ≤ 16
    → Behind l d → Behind (l ++ (t ∷ [])) e
one_more l t {d} {e} turn h w = record { shallow = λ l₁ l₂ f. whole l₁ (fronts l₁ l₂ l t f); open_now = c }
  where
    c : e + closes (l ++ (t ∷ [])) ≡ opens (l ++ (t ∷ []))
    c = counted l t turn refl refl w.open_now

    whole : (l₁ : List Token) → (l₁ ≡ l ++ (t ∷ [])) ⊎ ((l₃ : List Token) × (l ≡ l₁ ++ l₃)) → opens l₁ ≤ closes l₁ + 16
    whole l₁ (inl f) = rw f (omega (arith, c))
    whole l₁ (inr f) = w.shallow l₁ f.0 f.1

turn_step : {b b' : Bool} {d e : ℕ} → Turn b b' d e → d ≤ 16
    → ((deeper_by b b' d ≡ some e) × (e ≤ 16)) ⊎ ((deeper_by b b' d ≡ none) × (b ≡ true) × (d ≡ 16))
unfolding deeper_by opened
turn_step (turn_open {d}) h = go (ltb d 16) refl
  where
    go : (b : Bool) → ltb d 16 ≡ b → ((opened (ltb d 16) d ≡ some (suc d)) × (suc d ≤ 16)) ⊎ ((opened (ltb d 16) d ≡ none) × (true ≡ true) × (d ≡ 16))
    go true e = inl (ap (λ b. opened b d) e, ltb→lt d 16 (true_T {b = ltb d 16} e))
    go false e = inr (ap (λ b. opened b d) e, refl, full)
      where
        not-less : ¬ (d < 16)
        not-less lt = false≢true (sym e ∙ T_true {b = ltb d 16} (lt→ltb d 16 lt))

        full : d ≡ 16
        full = omega (arith, not-less)
turn_step turn_close h = inl (refl, omega arith)
turn_step turn_plain h = inl (refl, h)

run_from : (s₀ s : Stream) (l : List Token) (k : Symbols) (d : ℕ) → s₀ ≡ prepend l s → reach start l ≡ some k → Nest d k → Behind l d → Outcome s₀ (run d k s)
unfolding run
run_from s₀ (ended n) l k d q e nest w = go (nullable_form k) refl
  where
    go : (b : Bool) → nullable_form k ≡ b → Outcome s₀ (at_end b n)
    go true h = well l n q w.shallow (derived l e h)
    go false h = unfinished l n q w.shallow (viable l e) (not_derived l e h)
run_from s₀ (bad p) l k d q e nest w = no_token_at l p q w.shallow (viable l e)
run_from s₀ (t ▹ s) l k d q e nest w = go (feed k t.class) refl (λ j. run_from s₀ s (l ++ (t ∷ [])) j)
  where
    go : (o : Option Symbols) → feed k t.class ≡ o
        → ((j : Symbols) (n : ℕ) → s₀ ≡ prepend (l ++ (t ∷ [])) s → reach start (l ++ (t ∷ [])) ≡ some j → Nest n j → Behind (l ++ (t ∷ [])) n → Outcome s₀ (run n j s))
        → Outcome s₀ (next o (deeper d t.class) t.place (λ j n. run n j s))
    go none f ih = not_taken l t s q w.shallow (viable l e) (not_viable (l ++ (t ∷ [])) (reach_one l t start e ∙ f))
    go (some j) f ih = step (turn_step r.1 (omega (arith, w.open_now, w.shallow l [] (sym (append-nil l)))))
      where
        v : Fed k t.class j
        v = feed_fed f

        r : (n : ℕ) × Turn (matches (sg lbrace) t.class) (matches (sg rbrace) t.class) d n × Nest n (after v.fed ++ [])
        r = move_nest {d = d} v.fed [] (rw append-nil nest)

        reached : reach start (l ++ (t ∷ [])) ≡ some j
        reached = reach_one l t start e ∙ f

        step : ((deeper d t.class ≡ some r.0) × (r.0 ≤ 16)) ⊎ ((deeper d t.class ≡ none) × (matches (sg lbrace) t.class ≡ true) × (d ≡ 16))
            → Outcome s₀ (next (some j) (deeper d t.class) t.place (λ i n. run n i s))
        step (inl p) =
            subst (λ o. Outcome s₀ (next (some j) o t.place (λ i n. run n i s))) (sym p.0)
            (ih j r.0 (q ∙ sym (prepend_one l t s)) reached (subst (λ i. Nest r.0 i) (append-nil (after v.fed) ∙ v.leaves) r.2) (one_more l t r.1 p.1 w))
        step (inr p) =
            subst (λ o. Outcome s₀ (next (some j) o t.place (λ i n. run n i s))) (sym p.0)
            (seventeenth l t s q w.shallow (viable (l ++ (t ∷ [])) reached) p.1 (omega (arith, w.open_now, p.2)))

-- The run of any stream.
pub run_is : (s : Stream) → Outcome s (run 0 (paper file ▸ ∎) s)
unfolding prepend reach opens closes
run_is s = run_from s s [] start 0 refl refl (nest_rule nest_nil) (record { shallow = nothing; open_now = refl })
  where
    nothing : Shallow []
    nothing [] l₂ f = omega arith
    nothing (x ∷ l₁) l₂ f = absurd (cons≢[] (sym f))
