-- Q-7: a text has one answer, which can be computed; it is that of the text's front; Q-7 holds of it. Assumes nothing.
use mathlib.Core.Path.{◌≡◌, refl, sym, ◌∙◌, ap, ap₂, subst}
use mathlib.Core.List.{List, [], ◌∷◌, ◌++◌, append_assoc}
use Prim.Native.Nat.{ℕ, suc, ◌+◌, ◌-◌, ◌≤◌, ◌<◌}
use native.Mathlib.Omega.{arith}
use lib.ListN.{length}
use Rattle.grammar.specs.Grammar.{Token, Trees, nil, leaf, node, tokens, ◌▸◌, ∎, ◌⟶◌, file, file_is, version_is, implementation_is, Derivation}
use Rattle.grammar.specs.Terminals.{tokens as tokens-of}
use Rattle.grammar.specs.Stage.{number_of, place_of, Answers}
use Rattle.grammar.specs.Factored.{paper}
use Rattle.grammar.specs.Machine.{prepend, run}
use Rattle.grammar.specs.Readers.{lex_at}
use Rattle.grammar.specs.Answered.{Answer as StageAnswer}
use Rattle.std.specs.Prelude.{Ok, Err}
use Rattle.grammar.specs.declared.Refusal.TheVariants.{NoToken, NotAdmitted, TooDeep}
use Rattle.grammar.proofs.Answering.{answer_to, answer_to_lem}
use Rattle.grammar.proofs.Decided.{decided}
use Rattle.grammar.proofs.Steps.{prepend_append}
use Rattle.meaning.specs.Actions.{syntax, meaning, means, word_of}
use Rattle.meaning.specs.Reading.{Answers as Reads, too_long as reads-too-long, not_grammar}
use Rattle.meaning.specs.Rules.{TheAnswer}
use Rattle.meaning.proofs.Whole.{one_answer as one-reading}
use Rattle.meaning.specs.Answers.{refused as is_refused}
use Rattle.heading.specs.Headings.{front_form, Front, string_in, name_in, brace_in, version_and_name, answer_in, Heads, too_long, headed, refused}
use Rattle.heading.specs.Promises.{token_of_word, its_version_and_name, InQuotes, Decides, FrontDecides, MeetsQ7}
use Rattle.heading.specs.Answered.{Answer, told_at, heading_at}
use Rattle.rows.specs.Refusing.{refusing}
use Rattle.rows.proofs.Refusing.{ok_is, number_is, place_is}
use Rattle.heading.specs.declared.VersionAndName.{VersionAndName}
use Rattle.heading.proofs.Runs.{file_run, Behind, run_late}
use Rattle.heading.proofs.Fronts.{front_same, Follows, late_from}
use Rattle.heading.proofs.Places.{follows, other_front}
use Rattle.heading.proofs.Computing.{computes}
use Rattle.heading.proofs.Quotes.{version_quoted}

-- One answer -------------------------------------------------------------------------------------------------------------------------------------

one_heading : {l : List Token} (f g : Front l) → answer_in f.tree ≡ answer_in g.tree
one_heading f g = let e = front_same f.tree g.tree f.behind g.behind (sym f.split ∙ g.split) in ap₂ version_and_name e.0 e.1

-- A text has one answer.
pub one_answer : {s : List ℕ} {r q : Answer} → Heads s r → Heads s q → r ≡ q
one_answer (too_long h) (too_long h') = refl
one_answer (too_long h) (headed l f) = absurd (omega arith)
one_answer (too_long h) (refused l n a p e) = absurd (omega arith)
one_answer (headed l f) (too_long h) = absurd (omega arith)
one_answer (headed l f) (headed l' g) = one_heading f g
one_answer (headed l f) (refused l' n a p e) = absurd (n f)
one_answer (refused l n a p e) (too_long h) = absurd (omega arith)
one_answer (refused l n a p e) (headed l' f) = absurd (n f)
one_answer (refused l n a p e) (refused l' n' b p' e') = ap (λ (x : StageAnswer). refusing (number_of x) (place_of x)) (decided e e')

-- Derivations --------------------------------------------------------------------------------------------------------------------------------------

record Fronted (s : List ℕ) (t : Trees ◌⟶◌ (file ▸ ∎)) : Type 0 where
  front : Front (tokens t)
  says : answer_in front.tree ≡ its_version_and_name (syntax s t)

fronted : (s : List ℕ) (t : Trees ◌⟶◌ (file ▸ ∎)) → Fronted s t
unfolding tokens string_in name_in version_and_name its_version_and_name token_of_word syntax meaning means word_of
fronted s (node file_is (node version_is (leaf o m₁ (leaf e m₂ (leaf v m₃ ds))) (node implementation_is (leaf i m₄ (leaf n m₅ (leaf b m₆ ts))) us)) nil) =
    record {
      front = record {
        tree = node version_is (leaf o m₁ (leaf e m₂ (leaf v m₃ ds))) (leaf i m₄ (leaf n m₅ (leaf b m₆ nil)));
        behind = (tokens ts ++ tokens us) ++ [];
        split = ap (λ (l : List Token). o ∷ e ∷ v ∷ l) (append_assoc (tokens ds) (i ∷ n ∷ b ∷ (tokens ts ++ tokens us)) [] ∙ sym (append_assoc (tokens ds) (i ∷ n ∷ b ∷ []) ((tokens ts ++ tokens us) ++ [])));
      };
      says = refl;
    }

derived_front : (s : List ℕ) (d : Derivation (tokens-of s)) → (f : Front (tokens-of s)) × (answer_in f.tree ≡ its_version_and_name (syntax s d.tree))
derived_front s d =
    let w = fronted s d.tree in
    (record { tree = w.front.tree; behind = w.front.behind; split = sym d.leaves ∙ w.front.split }, w.says)

-- Refusals behind the brace ------------------------------------------------------------------------------------------------------------------------

behind_place : (e : ℕ) (a : StageAnswer) → (a ≡ Ok tt → ⊥) → Behind e a → e ≤ place_of a
unfolding place_of
behind_place e (Ok _) n h = absurd (n refl)
behind_place e (Err (NoToken p)) n h = h
behind_place e (Err (NotAdmitted p)) n h = h
behind_place e (Err (TooDeep p)) n h = h

run_behind : (s : List ℕ) (t : Trees ◌⟶◌ front_form) → Follows s t → Behind (suc (brace_in t).place) (answer_to s)
unfolding brace_in tokens prepend
run_behind s (node version_is us (leaf i m₁ (leaf n m₂ (leaf b m₃ nil)))) w =
    let u = lex_at s w.from_here in
    let e : answer_to s ≡ run 1 _ u = ap (run 0 (paper file ▸ ∎)) (w.stream ∙ prepend_append (tokens us) (i ∷ n ∷ b ∷ []) u) ∙ file_run us i n b u m₁ m₂ m₃ in
    subst (Behind (suc b.place)) (sym e)
    (run_late (suc b.place) u (late_from s (suc b.place) (omega (arith, w.later, w.inside)) w.from_here (omega (arith, w.later))) 1 _)

pub behind_brace : (s : List ℕ) (f : Front (tokens-of s)) (a : StageAnswer) → Answers s a → (a ≡ Ok tt → ⊥) → (brace_in f.tree).place < place_of a
behind_brace s f a e n =
    behind_place (suc (brace_in f.tree).place) a n (subst (Behind (suc (brace_in f.tree).place)) (decided (answer_to_lem s) e) (run_behind s f.tree (follows s f)))

-- The answer from the front alone -------------------------------------------------------------------------------------------------------------------

-- of two texts that go on differently behind the brace
joined : (a b c : List ℕ) {r q : Answer} → length (a ++ b) ≤ 65535 → length (a ++ c) ≤ 65535
    → (f : Front (tokens-of (a ++ b))) → (brace_in f.tree).place + (brace_in f.tree).length ≡ length a → Heads (a ++ b) r → Heads (a ++ c) q → q ≡ r
joined a b c h k f e x y =
    let g = other_front a b c f e in
    one_answer y (headed k g.0) ∙ ap (λ t. answer_in t) g.1 ∙ one_answer (headed h f) x

pub front_decides : FrontDecides
front_decides s u r q h k w x y = at_shared s w.this w.front w.through_brace u w.that h k x y
  where
    at_shared : (s : List ℕ) → s ≡ w.shared ++ w.behind → (f : Front (tokens-of s)) → (brace_in f.tree).place + (brace_in f.tree).length ≡ length w.shared
        → (u : List ℕ) → u ≡ w.shared ++ w.behind_other → length s ≤ 65535 → length u ≤ 65535 → Heads s r → Heads u q → q ≡ r
    at_shared s i f e u j h k x y =
        subst
        (λ (z : List ℕ). (f : Front (tokens-of z)) → (brace_in f.tree).place + (brace_in f.tree).length ≡ length w.shared → length z ≤ 65535 → Heads z r → q ≡ r)
        (sym i)
        (λ f e h x. joined w.shared w.behind w.behind_other h (subst (λ (z : List ℕ). length z ≤ 65535) j k) f e x (subst (λ (z : List ℕ). Heads z q) j y))
        f e h x

-- Computed ---------------------------------------------------------------------------------------------------------------------------------------------

pub decides : Decides
decides s = (computes (λ u d. (derived_front u d).0) s, λ r h. one_answer h (computes (λ u d. (derived_front u d).0) s))

-- Q-7 ------------------------------------------------------------------------------------------------------------------------------------------------

not_refused : (v n : Token) (m p : ℕ) → version_and_name v n ≡ refusing m p → ⊥
unfolding version_and_name
not_refused v n m p e = let z : ◌≡◌ {A = ℕ} 0 1 = cc in omega arith

other_number : (a : StageAnswer) (p : ℕ) → refusing {A = VersionAndName} (number_of a) (place_of a) ≡ refusing 6 p → ⊥
unfolding number_of
other_number (Ok _) p e = let z : ◌≡◌ {A = ℕ} 0 6 = number_is e in omega arith
other_number (Err (NoToken q)) p e = let z : ◌≡◌ {A = ℕ} 3 6 = number_is e in omega arith
other_number (Err (NotAdmitted q)) p e = let z : ◌≡◌ {A = ℕ} 4 6 = number_is e in omega arith
other_number (Err (TooDeep q)) p e = let z : ◌≡◌ {A = ℕ} 5 6 = number_is e in omega arith

-- What the rules answer is the one answer of the rules.
the_only : {s : List ℕ} (n p m q : ℕ) → Reads s (is_refused n p) → refusing {A = VersionAndName} n p ≡ refusing m q → TheAnswer s (is_refused m q)
the_only {s} n p m q h e =
    let x : n ≡ m = number_is e in
    let y : p ≡ q = place_is e in
    let g : Reads s (is_refused m q) = subst (λ (i : ℕ). Reads s (is_refused i q)) x (subst (λ (i : ℕ). Reads s (is_refused n i)) y h) in
    record { given = g; no_other = λ b k. sym (one-reading k) ∙ one-reading g }

-- The bytes told of the version stand in quotes.
quotes : {s : List ℕ} {r : Answer} → Heads s r → (p n q m : ℕ) → r ≡ heading_at p n q m → InQuotes s (p - 1) (p + n + 1)
unfolding version_and_name
quotes (too_long h) p n q m e = absurd (let z : ◌≡◌ {A = ℕ} 0 1 = cc in omega arith)
quotes {s} (headed l f) p n q m e =
    let w = version_quoted s f in
    let v : Token = string_in f.tree in
    let o : told_at (v.place + 1) (v.length - 2) (name_in f.tree).place (name_in f.tree).length ≡ told_at p n q m = ok_is e in
    let x : v.place + 1 ≡ p = ap (λ (i : VersionAndName). i.version_at) o in
    let y : v.length - 2 ≡ n = ap (λ (i : VersionAndName). i.version_len) o in
    let long = w.long in
    let a : v.place ≡ p - 1 = omega arith in
    let b : v.place + v.length ≡ p + n + 1 = omega arith in
    subst (λ (i : ℕ). InQuotes s i (p + n + 1)) a (subst (λ (i : ℕ). InQuotes s v.place i) b w)
quotes (refused l k a o x) p n q m e = absurd (let z : ◌≡◌ {A = ℕ} 0 1 = cc in omega arith)

pub q_7 : MeetsQ7
q_7 s r (too_long h) =
    record {
      without_quotes = quotes (too_long h);
      from_front = λ u q l. absurd (omega arith);
      first = λ _. refl;
      derives = λ l. absurd (omega arith);
      that_same = λ l. absurd (omega arith);
      later = behind_brace s;
      otherwise = λ l. absurd (omega arith);
      as_read = λ n p e. the_only 2 0 n p (reads-too-long h) e;
      no_brace = λ n p l. absurd (omega arith);
      never_6 = λ p e. let z : ◌≡◌ {A = ℕ} 2 6 = number_is e in omega arith;
    }
q_7 s r (headed l f) =
    record {
      without_quotes = quotes (headed l f);
      from_front = λ u q h k w y. front_decides s u _ q h k w (headed l f) y;
      first = λ h. absurd (omega arith);
      derives = λ _ d. let w = derived_front s d in one_heading f w.0 ∙ w.1;
      that_same = λ _ a e n h. let x = behind_brace s f a e n in let y = h f in absurd (omega arith);
      later = behind_brace s;
      otherwise = λ _ g. one_heading f g;
      as_read = λ n p e. absurd (not_refused _ _ n p e);
      no_brace = λ n p _ e. absurd (not_refused _ _ n p e);
      never_6 = λ p e. not_refused _ _ 6 p e;
    }
q_7 s r (refused l n a p e) =
    record {
      without_quotes = quotes (refused l n a p e);
      from_front = λ u q h k w y. absurd (n w.front);
      first = λ h. absurd (omega arith);
      derives = λ _ d. absurd (n (derived_front s d).0);
      that_same = λ _ b e' _ _. ap (λ (x : StageAnswer). refusing (number_of x) (place_of x)) (decided e e');
      later = behind_brace s;
      otherwise = λ _ f. absurd (n f);
      as_read = λ i q g. the_only (number_of a) (place_of a) i q (not_grammar a l p e) g;
      no_brace = λ i q _ _ f. n f;
      never_6 = λ q g. other_number a q g;
    }
