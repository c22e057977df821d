-- The stage's answer tells whether the last token is admitted. Assumes nothing.
use mathlib.Core.Path.{◌≡◌, refl, sym, ◌∙◌, ap, ap₂, subst}
use mathlib.Core.List.{List, [], ◌∷◌, ◌++◌}
use mathlib.Core.Bool.{Bool, true, false, not, false≢true}
use mathlib.Core.Logic.{◌⊎◌, inl, inr, ◌↔◌}
use Prim.Native.Nat.{ℕ}
use native.Mathlib.Omega.{arith}
use lib.Dec.{eqb}
use lib.ListN.{length}
use borrow.Author.Tests.{eqb-true, eqb-false}
use Rattle.token.specs.Lexing.{lex_from}
use Rattle.grammar.specs.Grammar.{Token, Begins}
use Rattle.grammar.specs.Terminals.{tokens}
use Rattle.grammar.specs.Stage.{Divides, Shallow, Answers, passes, no_token, not_admitted, ends_early, too_deep}
use Rattle.grammar.specs.Answered.{Answer}
use Rattle.std.specs.Prelude.{Ok, Err, is_ok}
use Rattle.grammar.specs.declared.Refusal.TheVariants.{NoToken, NotAdmitted, TooDeep}
use Rattle.grammar.proofs.Decided.{decided}
use Rattle.grammar.proofs.Fronts.{begins_front, shallow_front, derived_begins, not_shallow, stops_not}
use Rattle.expecting.specs.Expected.{until}
use Rattle.expecting.specs.Samples.{AdmitsLast}
use Rattle.expecting.proofs.Refusals.{until_token, until_end, same_head, none_behind}

unfoldable pub verdict : Answer → ℕ → Bool
verdict (Ok _) p = true
verdict (Err (NoToken q)) p = false
verdict (Err (NotAdmitted q)) p = not (eqb q p)
verdict (Err (TooDeep q)) p = true

abbrev Past : List Token → Token → List Token → Type 0
Past l t m = (r : List Token) × (m ≡ (l ++ (t ∷ [])) ++ r)

compare : (l : List Token) (t : Token) (r : List Token) (m : List Token) (u : Token) (v : List Token) → l ++ (t ∷ r) ≡ m ++ (u ∷ v)
    → ((l ≡ m) × (t ≡ u)) ⊎ (Past l t m ⊎ Past m u l)
compare [] t r [] u v e = let q : t ≡ u = cc in inl (refl, q)
compare [] t r (y ∷ m) u v e = let q : y ≡ t = cc in inr (inl (m, ap (◌∷ m) q))
compare (x ∷ l) t r [] u v e = let q : x ≡ u = cc in inr (inr (l, ap (◌∷ l) q))
compare (x ∷ l) t r (y ∷ m) u v e = go (compare l t r m u v (let q : l ++ (t ∷ r) ≡ m ++ (u ∷ v) = cc in q)) (let q : x ≡ y = cc in q)
  where
    go : ((l ≡ m) × (t ≡ u)) ⊎ (Past l t m ⊎ Past m u l) → x ≡ y → ((x ∷ l ≡ y ∷ m) × (t ≡ u)) ⊎ (Past (x ∷ l) t (y ∷ m) ⊎ Past (y ∷ m) u (x ∷ l))
    go (inl p) q = inl (ap₂ ◌∷◌ q p.0, p.1)
    go (inr (inl p)) q = inr (inl (p.0, ap₂ ◌∷◌ (sym q) p.1))
    go (inr (inr p)) q = inr (inr (p.0, ap₂ ◌∷◌ q p.1))

yes : {b : Bool} {A : Type 0} → b ≡ true → A → (b ≡ true) ↔ A
yes e a = ((λ _. a), (λ _. e))

no : {b : Bool} {A : Type 0} → b ≡ false → (A → ⊥) → (b ≡ true) ↔ A
no e n = ((λ f. absurd (false≢true (sym e ∙ f))), (λ a. absurd (n a)))

module _ (s : List ℕ) (l : List Token) (t : Token) (w : Divides s) (whole : tokens s ≡ l ++ (t ∷ [])) (h : Shallow l) (b : Begins l) where
  exact : {a : Answer} → Answers s a → (verdict a t.place ≡ true) ↔ Begins (l ++ (t ∷ []))
  unfolding verdict
  exact (passes _ _ d) = yes refl (subst Begins whole (derived_begins d))
  exact (no_token p z _ _) = absurd (stops_not (lex_from s 0) p z w)
  exact (ends_early _ _ c _) = go (eqb (length s) t.place) refl
    where
      go : (x : Bool) → eqb (length s) t.place ≡ x → (not x ≡ true) ↔ Begins (l ++ (t ∷ []))
      go false e = yes refl (subst Begins whole c)
      go true e =
          let q : until (length s) (tokens s) ≡ l = ap (λ (i : ℕ). until i (tokens s)) (eqb-true (length s) t.place e) ∙ until_token s l t [] whole in
          absurd (none_behind l [] t (sym q ∙ until_end s ∙ whole))
  exact (not_admitted m u r e _ c n) = go (eqb u.place t.place) refl
    where
      go : (x : Bool) → eqb u.place t.place ≡ x → (not x ≡ true) ↔ Begins (l ++ (t ∷ []))
      go true z =
          let q : m ≡ l = sym (until_token s m u r e) ∙ ap (λ (i : ℕ). until i (tokens s)) (eqb-true u.place t.place z) ∙ until_token s l t [] whole in
          let p : u ≡ t = same_head l u t r [] (ap (◌++ (u ∷ r)) (sym q) ∙ sym e ∙ whole) in
          no refl (λ d. n (subst (λ (k : List Token). Begins (k ++ (u ∷ []))) (sym q) (subst (λ (k : Token). Begins (l ++ (k ∷ []))) (sym p) d)))
      go false z = by (compare m u r l t [] (sym e ∙ whole))
        where
          by : ((m ≡ l) × (u ≡ t)) ⊎ (Past m u l ⊎ Past l t m) → (true ≡ true) ↔ Begins (l ++ (t ∷ []))
          by (inl p) = absurd (eqb-false u.place t.place z (ap (λ (k : Token). k.place) p.1))
          by (inr (inl p)) = absurd (n (begins_front (m ++ (u ∷ [])) p.0 (subst Begins p.1 b)))
          by (inr (inr p)) = yes refl (begins_front (l ++ (t ∷ [])) p.0 (subst Begins p.1 c))
  exact (too_deep m u r e _ c z o) = by (compare m u r l t [] (sym e ∙ whole))
    where
      by : ((m ≡ l) × (u ≡ t)) ⊎ (Past m u l ⊎ Past l t m) → (true ≡ true) ↔ Begins (l ++ (t ∷ []))
      by (inl p) = yes refl (subst (λ (k : List Token). Begins (k ++ (t ∷ []))) p.0 (subst (λ (k : Token). Begins (m ++ (k ∷ []))) p.1 c))
      by (inr (inl p)) = absurd (not_shallow m u z o (shallow_front (m ++ (u ∷ [])) p.0 (subst Shallow p.1 h)))
      by (inr (inr p)) = yes refl (begins_front (l ++ (t ∷ [])) p.0 (subst Begins p.1 (begins_front m (u ∷ []) c)))

pub tells : {s : List ℕ} {a : Answer} (p : ℕ) → Answers s a → AdmitsLast s p (verdict a p)
tells {s} {a} p e =
    record { exactly = λ l t w whole q h b. subst (λ (i : ℕ). (verdict a i ≡ true) ↔ Begins (l ++ (t ∷ []))) q (exact s l t w whole h b e) }

pub tells_by : {s : List ℕ} {a : Answer} (p : ℕ) → Answers s a → (r : Bool) → (b : Answer) → a ≡ b → verdict b p ≡ r → AdmitsLast s p r
tells_by {s} p e r b q v = subst (AdmitsLast s p) v (tells p (subst (Answers s) q e))

-- The stage's answer alone -------------------------------------------------------------------------------------------------------------------------

unfoldable pub refuses : Answer → ℕ → Bool
refuses (Ok _) p = false
refuses (Err (NoToken q)) p = false
refuses (Err (NotAdmitted q)) p = eqb q p
refuses (Err (TooDeep q)) p = false

module _ (s : List ℕ) (p : ℕ) where
  -- an answer that is another one
  other : {a b : Answer} → Answers s a → (a ≡ b → ⊥) → Answers s b → ⊥
  other {a} {b} x n y = n (decided x y)

  refuses_exact : (a : Answer) → Answers s a → (refuses a p ≡ true) ↔ Answers s (Err (NotAdmitted p))
  unfolding refuses
  refuses_exact (Ok _) x = no refl (other x (λ e. let z : ◌≡◌ {A = ℕ} 0 1 = cc in omega arith))
  refuses_exact (Err (NoToken q)) x = no refl (other x (λ e. let z : ◌≡◌ {A = ℕ} 0 1 = cc in omega arith))
  refuses_exact (Err (TooDeep q)) x = no refl (other x (λ e. let z : ◌≡◌ {A = ℕ} 0 1 = cc in omega arith))
  refuses_exact (Err (NotAdmitted q)) x = go (eqb q p) refl
    where
      go : (b : Bool) → eqb q p ≡ b → (b ≡ true) ↔ Answers s (Err (NotAdmitted p))
      go true e = yes refl (subst (λ (i : ℕ). Answers s (Err (NotAdmitted i))) (eqb-true q p e) x)
      go false e = no refl (other x (λ z. eqb-false q p e (let y : q ≡ p = cc in y)))

  pub refuses_by : {a : Answer} → Answers s a → (r : Bool) (b : Answer) → a ≡ b → refuses b p ≡ r → (r ≡ true) ↔ Answers s (Err (NotAdmitted p))
  refuses_by x r b q v = subst (λ (c : Bool). (c ≡ true) ↔ Answers s (Err (NotAdmitted p))) v (refuses_exact b (subst (Answers s) q x))

  passes_exact : (a : Answer) → Answers s a → (is_ok a ≡ true) ↔ Answers s (Ok tt)
  passes_exact (Ok _) x = yes refl x
  passes_exact (Err r) x = no refl (other x (λ e. let z : ◌≡◌ {A = ℕ} 0 1 = cc in omega arith))

pub passes_by : {s : List ℕ} {a : Answer} → Answers s a → {r : Bool} → r ≡ is_ok a → (r ≡ true) ↔ Answers s (Ok tt)
passes_by {s} {a} x q = subst (λ (c : Bool). (c ≡ true) ↔ Answers s (Ok tt)) (sym q) (passes_exact s 0 a x)

-- Of the same text.
pub admits_as : {s u : List ℕ} {p : ℕ} {r : Bool} → s ≡ u → AdmitsLast s p r → AdmitsLast u p r
admits_as {p} {r} e x = subst (λ (v : List ℕ). AdmitsLast v p r) e x

pub passes_as : {s u : List ℕ} {r : Bool} → s ≡ u → (r ≡ true) ↔ Answers s (Ok tt) → (r ≡ true) ↔ Answers u (Ok tt)
passes_as {r} e x = subst (λ (v : List ℕ). (r ≡ true) ↔ Answers v (Ok tt)) e x
