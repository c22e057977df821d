-- What `check_standard` promises by the rules. Assumes nothing.
use mathlib.Core.Path.{◌≡◌, refl, sym, ◌∙◌, ap, subst}
use mathlib.Core.List.{List, [], ◌∷◌}
use mathlib.Core.Bool.{Bool, true, false, false≢true}
use mathlib.Core.Option.{Option, none, some}
use Prim.Native.Nat.{ℕ}
use native.Mathlib.Omega.{arith}
use Rattle.grammar.specs.Grammar.{Derivation}
use Rattle.grammar.specs.Terminals.{tokens}
use Rattle.meaning.specs.Syntax.{Defined, File}
use Rattle.meaning.specs.Actions.{syntax}
use Rattle.meaning.specs.Answers.{Answer, Tables, accepted, refused, answer}
use Rattle.meaning.specs.Reading.{Parsed, parsed, not_parsed, parse, answer_of_parsed, reading, Answers}
use Rattle.meaning.specs.Scopes.{find_definition}
use Rattle.meaning.proofs.Found.{parse_derived}
use Rattle.meaning.proofs.Whole.{one_answer}
use Rattle.reading.proofs.Derived.{derived, the_refusal, the_accepted, derivation_of, own_file}
use Rattle.standard.specs.Asking.{Asked, asked, Scope, scope_of, along, differs, Finding, finding_if, found, in_scope, finding, findings_of, findings, foremost}
use Rattle.standard.specs.Section.{standard}
use Rattle.standard.specs.Conforming.{Asks}
use Rattle.standard.specs.Checking.{told, checked_as, checked_by, checked_against, checked}
use Rattle.standard.specs.Rules.{Wrong, absent, different, Verdict, ChecksByRules, NothingExactly}
use Rattle.standard.specs.Rules as rules
use Rattle.standard.specs.Answered.{Checked, all_right}
use Rattle.standard.proofs.Members.{Has, here, later, has_left, has_right, has_none, split_by, first_or}
use Rattle.standard.proofs.Ways.{reached, due}
use Rattle.standard.proofs.Agreeing.{agrees}
use Rattle.standard.proofs.Theorem.{AllFair, nothing_told, least_told, le_of}
use Rattle.standard.proofs.Fairness.{all_fair}

-- What is on the list is wrong, and what is wrong is on the list ---------------------------------------------------------------------------------

module _ (f : File) (fair : AllFair standard f) where
  wrong_found : (x : Defined) (u : Scope) → Asks standard f x u → (o : Option Defined) → find_definition u.definitions x.definition.name ≡ o → {y : Finding} → Has y (found u.word x o) → Wrong f y
  unfolding found finding_if
  wrong_found x u a none e {y} m = first_or m (λ q. subst (Wrong f) q (absent a e)) (λ n. absurd (has_none n refl))
  wrong_found x u a (some d) e {y} m = by (differs x d) refl m
    where
      by : (b : Bool) → differs x d ≡ b → Has y (finding_if b d.definition.name.place 26 x.definition.row) → Wrong f y
      by true q n = first_or n (λ p. subst (Wrong f) p (different a e (λ z. false≢true (sym ((agrees x d (fair x d u a e)).1 z) ∙ q)))) (λ o. absurd (has_none o refl))
      by false q n = absurd (has_none n refl)

  wrong_scope : (a : Asked) → Has a (asked standard) → (o : Option Scope) → along (scope_of f a.kind) a.path ≡ o → {y : Finding} → Has y (in_scope a.wanted o) → Wrong f y
  unfolding in_scope
  wrong_scope a h none e m = absurd (has_none m refl)
  wrong_scope a h (some u) e m = wrong_found a.wanted u (due standard f a h u e) (find_definition u.definitions a.wanted.definition.name) refl m

  wrong_of : (l : List Asked) → ((a : Asked) → Has a l → Has a (asked standard)) → {y : Finding} → Has y (findings_of f l) → Wrong f y
  unfolding findings_of finding
  wrong_of [] h m = absurd (has_none m refl)
  wrong_of (a ∷ l) h m =
      split_by (finding f a) (findings_of f l) m
      (λ n. wrong_scope a (h a here) (along (scope_of f a.kind) a.path) refl n)
      (λ n. wrong_of l (λ b i. h b (later i)) n)

  listed_wrong : {y : Finding} → Has y (findings standard f) → Wrong f y
  unfolding findings
  listed_wrong m = wrong_of (asked standard) (λ a h. h) m

  of_asked : (l : List Asked) {a : Asked} {y : Finding} → Has a l → Has y (finding f a) → Has y (findings_of f l)
  unfolding findings_of
  of_asked (b ∷ l) here m = has_left (findings_of f l) m
  of_asked (b ∷ l) (later h) m = has_right (finding f b) (of_asked l h m)
  of_asked [] {a = a} {y = y} x'' m = elim x'' [ ]

  in_list : {x : Defined} {u : Scope} {y : Finding} → Asks standard f x u → Has y (found u.word x (find_definition u.definitions x.definition.name)) → Has y (findings standard f)
  unfolding findings finding in_scope
  in_list {x} {u} {y} a m =
      let r = reached a in
      of_asked (asked standard) r.listed (subst (λ (o : Option Scope). Has y (in_scope x o)) (sym r.leads) m)

  wrong_listed : {y : Finding} → Wrong f y → Has y (findings standard f)
  unfolding found finding_if
  wrong_listed (absent {x} {u} a e) =
      let y : Finding = record { place = u.word.place; number = 25; attribute = x.definition.row } in
      let m : Has y (found u.word x none) = here {l = []} in
      in_list a (subst (λ (o : Option Defined). Has y (found u.word x o)) (sym e) m)
  wrong_listed (different {x} {d} {u} a e n) =
      let y : Finding = record { place = d.definition.name.place; number = 26; attribute = x.definition.row } in
      let m : Has y (found u.word x (some d)) = by (differs x d) refl in
      in_list a (subst (λ (o : Option Defined). Has y (found u.word x o)) (sym e) m)
    where
      by : (b : Bool) → differs x d ≡ b → Has (record { place = d.definition.name.place; number = 26; attribute = x.definition.row }) (finding_if b d.definition.name.place 26 x.definition.row)
      by true q = here
      by false q = absurd (n ((agrees x d (fair x d u a e)).0 q))

  verdict : Verdict f (told (foremost (findings standard f)))
  unfolding told
  verdict = by (foremost (findings standard f)) refl
    where
      by : (o : Option Finding) → foremost (findings standard f) ≡ o → Verdict f (told o)
      by none e = rules.Verdict.nothing_wrong ((nothing_told standard f fair).0 e)
      by (some x) e =
          let l = least_told (findings standard f) x e in
          rules.Verdict.wrong x (listed_wrong l.is_one) (λ y w. le_of x y (l.least y (wrong_listed w)))

-- A text -----------------------------------------------------------------------------------------------------------------------------------

module _ (s : List ℕ) where
  check_answer : (f : File) → parse s ≡ parsed f → (a : Answer) → answer f ≡ a → ChecksByRules s (checked_as standard f a)
  unfolding checked_as reading answer_of_parsed
  check_answer f e (refused n q) h = rules.ChecksByRules.refuses n q (the_refusal s n q (ap answer_of_parsed e ∙ h)) refl
  check_answer f e (accepted t) h =
      rules.ChecksByRules.judges t (the_accepted s f e t h) (derivation_of s f e t h).derivation (λ d. subst (λ (g : File). Verdict g (told (foremost (findings standard f)))) (own_file s f e t h d) (verdict f (all_fair t (record { derivation = (derivation_of s f e t h).derivation; syntax_of = own_file s f e t h (derivation_of s f e t h).derivation }) h)))

  check_parse : (x : Parsed) → parse s ≡ x → ChecksByRules s (checked_by standard x)
  unfolding checked_by reading answer_of_parsed
  check_parse (parsed f) e = check_answer f e (answer f) refl
  check_parse (not_parsed n q) e = rules.ChecksByRules.refuses n q (the_refusal s n q (ap answer_of_parsed e)) refl

  check_by_rules : ChecksByRules s (checked s)
  unfolding checked checked_against
  check_by_rules = check_parse (parse s) refl

-- The clauses of `check_standard`: from the first, the second.
pub checks_rules : {s : List ℕ} {r : Checked} → r ≡ checked s → (r ≡ checked s) × ChecksByRules s r
checks_rules {s} e = (e, subst (ChecksByRules s) (sym e) (check_by_rules s))

-- THE THEOREM of a text ------------------------------------------------------------------------------------------------------------------------

-- An accepted text is checked by its syntax.
pub checked_is : (s : List ℕ) (f : File) (t : Tables) → parse s ≡ parsed f → answer f ≡ accepted t → checked s ≡ told (foremost (findings standard f))
unfolding checked checked_against checked_by checked_as
checked_is s f t e h = ap (checked_by standard) e ∙ ap (checked_as standard f) h

told_nothing : (o : Option Finding) → told o ≡ all_right → o ≡ none
unfolding told
told_nothing none e = refl
told_nothing (some x) e = absurd (let z : ◌≡◌ {A = ℕ} 0 1 = cc in omega (arith, z))

module _ (s : List ℕ) (t : Tables) (a : Answers s (accepted t)) (d : Derivation (tokens s)) where
  pub parse_is : parse s ≡ parsed (syntax s d.tree)
  parse_is = parse_derived s (derived t a refl).covered d

  pub answer_is : answer (syntax s d.tree) ≡ accepted t
  unfolding reading answer_of_parsed
  answer_is = sym (ap answer_of_parsed parse_is) ∙ one_answer a

pub nothing_exactly : NothingExactly
unfolding told
nothing_exactly s t a d =
    let f = syntax s d.tree in
    let q = checked_is s f t (parse_is s t a d) (answer_is s t a d) in
    let r = all_fair t (record { derivation = d; syntax_of = refl }) (answer_is s t a d) in (
      (λ e. (nothing_told standard f r).0 (told_nothing (foremost (findings standard f)) (sym q ∙ e))),
      (λ k. q ∙ ap told ((nothing_told standard f r).1 k)),
    )
