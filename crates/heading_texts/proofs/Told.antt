-- The answers of the functions. Assumes nothing.
use Prim.Native.Nat.{ℕ, ◌+◌, ◌-◌, ◌≤◌}
use mathlib.Core.List.{List}
use mathlib.Core.Path.{◌≡◌, refl, sym, ◌∙◌, ap, ap₂, subst}
use native.Mathlib.Omega.{arith}
use lib.ListN.{length, take}
use lib.Dec.{eqb}
use Rattle.token.specs.Find.{pick}
use Rattle.token.proofs.Find.{by_test}
use Rattle.grammar.specs.Grammar.{Token}
use Rattle.grammar.specs.Stage.{number_of, place_of as stage_place}
use Rattle.meaning.specs.Actions.{syntax}
use Rattle.meaning.specs.Answers.{refused as is_refused}
use Rattle.heading.specs.Headings.{Front, version_and_name, string_in, name_in, answer_in, Heads, too_long as heads-too-long, headed as heads-headed, refused as heads-refused}
use Rattle.heading.specs.Promises.{Q-7, token_of_word, its_version_and_name, InQuotes}
use Rattle.heading.specs.Answered.{Answer, told_at, heading_at}
use Rattle.rows.specs.Refusing.{refusing}
use Rattle.std.specs.Prelude.{Result, Ok, Err}
use Rattle.heading.proofs.Promises.{q_7, behind_brace}
use Rattle.sources.specs.Expanding.{expanded, expansion_of}
use Rattle.sources_reading.specs.Answering.{text, found}
use Rattle.sources_reading.proofs.Answered.{within}
use Rattle.placing.specs.Placed.{place_in}
use Rattle.lent_texts.specs.Answered.{place_of, TheAnswer, FaultNumber, no_fault, no_token, still_open, not_lent, other_hash}
use Rattle.lent_texts.specs.Expanded.{refusal_at, refusal_in, Rooms, Filled, Holds, ExpandsTexts, Lent}
use Rattle.lent_texts.specs.declared.Expanded.{Expanded}
use Rattle.rows.specs.Refusing.{fault_at}
use Rattle.rows.specs.declared.Fault.{Fault}
use Rattle.rows.proofs.Refusing.{ok_is, number_is, place_is}
use Rattle.heading.specs.declared.VersionAndName.{VersionAndName}
use Rattle.lent_texts.proofs.Told.{AtOnce, by_1, by_30, at_once, There, there, answered_refused, thirty_answer, one_told}
use Rattle.lent_texts.proofs.Numbers.{fault_numbers}
use Rattle.heading_texts.specs.Headings.{placed_heading, TextsHead, too_long, headed, refused, HeadsTexts, short_rooms, by_rules, told_in, HeadsExpanded}
use Rattle.heading_texts.specs.Promises.{Quoted, Q-7-Texts}

-- ---- the inner function

pub names_expanded : {s g : List ℕ} {e : Expanded} {a : Answer} {o : VersionAndName} {p q : ℕ} → Heads s a → a ≡ Ok o →
    p ≡ place_in g e.length e.main o.version_at → q ≡ place_in g e.length e.main o.name_at → HeadsExpanded s g e (heading_at p o.version_len q o.name_len)
unfolding told_in
names_expanded {g = g} {e = e} {a = a} {o} h i j k =
    record { in_expanded = a; heads = h; told = ap₂ (λ (x y : ℕ). heading_at x o.version_len y o.name_len) j k ∙ ap (told_in g e) (sym i) }

pub refuses_expanded : {s g : List ℕ} {e : Expanded} {a : Answer} {f r : Fault} → Heads s a → a ≡ Err f → r ≡ refusal_in g e f.number f.place →
    HeadsExpanded s g e (Err r)
unfolding told_in
refuses_expanded {g = g} {e = e} {a = a} h i j = record { in_expanded = a; heads = h; told = ap Err j ∙ ap (told_in g e) (sym i) }

-- ---- the expanded text

version_placed : {b l x g : List ℕ} {e : Expanded} (v n : Token) → Holds b l x g e → told_in g e (version_and_name v n) ≡ placed_heading (place_of b l) (version_and_name v n)
unfolding told_in placed_heading version_and_name
version_placed v n k = ap₂ (λ (y z : ℕ). heading_at y (v.length - 2) z n.length) (k.place (v.place + 1)) (k.place n.place)

six_number : (k f : ℕ) → (k ≡ 6 → ⊥) → FaultNumber f → pick (eqb k 3) f k ≡ 6 → ⊥
six_number k f n h e =
    by_test (λ (y : ℕ). y ≡ 6 → ⊥) (eqb k 3) f k (λ _ z. other f h z) (λ _ z. n z) e
  where
    other : (m : ℕ) → FaultNumber m → m ≡ 6 → ⊥
    other _ no_fault z = omega arith
    other _ no_token z = omega arith
    other _ still_open z = omega arith
    other _ not_lent z = omega arith
    other _ other_hash z = omega arith

module _ {b l x g : List ℕ} {e : Expanded} (k : Holds b l x g e) where
  short : length (text b l) ≤ 65535
  short = (within b l k.within).short

  head_of : (a r : Answer) → Heads (text b l) a → r ≡ told_in g e a → TextsHead b l r
  unfolding told_in
  head_of _ r (heads-too-long h) q = absurd (let z = short in omega arith)
  head_of _ r (heads-headed h f) q =
      subst (TextsHead b l) (sym (q ∙ version_placed (string_in f.tree) (name_in f.tree) k)) (headed k.within f)
  head_of _ r (heads-refused h n a i j) q =
      let w = heads-refused h n a i j in
      let t = (q_7 (text b l) (refusing (number_of a) (stage_place a)) w).as_read (number_of a) (stage_place a) refl in
      let u = refusal_in g e (number_of a) (stage_place a) in
      subst (TextsHead b l) (sym q) (refused k.within n u.number u.place (answered_refused (number_of a) (stage_place a) k t u refl))

  quoted_by : (a r : Answer) → Q-7 (text b l) a → r ≡ told_in g e a → (p n q m : ℕ) → r ≡ heading_at p n q m → Quoted b l p n
  unfolding told_in
  quoted_by (Err x) r w z p n q m y = absurd (let c = sym z ∙ y in let d : ◌≡◌ {A = ℕ} 0 1 = cc in omega arith)
  quoted_by (Ok h) r w z p n q m y =
      let o : told_at (place_in g e.length e.main h.version_at) h.version_len (place_in g e.length e.main h.name_at) h.name_len ≡ told_at p n q m = ok_is (sym z ∙ y) in
      let i : place_in g e.length e.main h.version_at ≡ p = ap (λ (v : VersionAndName). v.version_at) o in
      let j : h.version_len ≡ n = ap (λ (v : VersionAndName). v.version_len) o in
      record {
        at = h.version_at;
        placed = sym i ∙ k.place h.version_at;
        in_quotes = subst (λ (o : ℕ). InQuotes (text b l) (h.version_at - 1) (h.version_at + o + 1)) j (w.without_quotes h.version_at h.version_len h.name_at h.name_len refl);
      }

  read_by : (a r : Answer) → Q-7 (text b l) a → r ≡ told_in g e a → (n p : ℕ) → r ≡ refusing n p → TheAnswer b l (is_refused n p)
  unfolding told_in
  read_by (Ok h) r w z n p y = absurd (let c = sym z ∙ y in let d : ◌≡◌ {A = ℕ} 0 1 = cc in omega arith)
  read_by (Err x) r w z n p y =
      let u = refusal_in g e x.number x.place in
      let c : refusing {A = VersionAndName} u.number u.place ≡ refusing n p = sym z ∙ y in
      let s : u.number ≡ n = number_is c in
      let t : u.place ≡ p = place_is c in
      subst (λ (o : ℕ). TheAnswer b l (is_refused o p)) s (subst (λ (o : ℕ). TheAnswer b l (is_refused u.number o)) t (answered_refused x.number x.place k (w.as_read x.number x.place refl) u refl))

  six_by : (a r : Answer) → Q-7 (text b l) a → r ≡ told_in g e a → (p : ℕ) → r ≡ refusing 6 p → ⊥
  unfolding told_in refusal_at refusal_in
  six_by (Ok h) r w z p y = let c = sym z ∙ y in let d : ◌≡◌ {A = ℕ} 0 1 = cc in omega arith
  six_by (Err x) r w z p y =
      let d : pick (eqb x.number 3) e.fault x.number ≡ 6 = number_is (sym z ∙ y) in
      six_number x.number e.fault (λ f. w.never_6 x.place (ap (λ (o : ℕ). refusing {A = VersionAndName} o x.place) f)) (subst FaultNumber (sym k.fault) (fault_numbers b l)) d

  same_by : (a r : Answer) → Q-7 (text b l) a → r ≡ told_in g e a → (i j : ℕ) → a ≡ refusing i j → (n p : ℕ) → TheAnswer b l (is_refused n p) → r ≡ refusing n p
  unfolding told_in
  same_by a r w z i j y n p t =
      let u = refusal_in g e i j in
      let c : r ≡ refusing u.number u.place = z ∙ ap (told_in g e) y in
      let d : is_refused u.number u.place ≡ is_refused n p = one_told (read_by a r w z u.number u.place c) t in
      let f : u.number ≡ n = cc in
      let h : u.place ≡ p = cc in
      c ∙ ap₂ (refusing {A = VersionAndName}) f h

  q_7_by : (a r : Answer) → Q-7 (text b l) a → r ≡ told_in g e a → Q-7-Texts b l r
  unfolding its_version_and_name token_of_word
  q_7_by a r w z =
      record {
        without_quotes = quoted_by a r w z;
        first = λ n. absurd (k.within n);
        derives = λ _ d. z ∙ ap (told_in g e) (w.derives short d) ∙ version_placed (token_of_word (syntax (text b l) d.tree).version) (token_of_word (syntax (text b l) d.tree).implementation_name) k;
        that_same = λ _ s i j h n p t. same_by a r w z _ _ (w.that_same short s i j h) n p t;
        later = w.later;
        otherwise = λ _ f. z ∙ ap (told_in g e) (w.otherwise short f) ∙ version_placed (string_in f.tree) (name_in f.tree) k;
        as_read = read_by a r w z;
        never_6 = six_by a r w z;
      }

-- ---- the public call

abbrev Both : (b l x g x' g' : List ℕ) → Answer → Type 0
Both b l x g x' g' r = HeadsTexts b l x g x' g' r × (Rooms x g → Q-7-Texts b l r)

thirty : (b l : List ℕ) → (expansion_of b l).number ≡ 30 → Q-7-Texts b l (refusing 30 0)
thirty b l n =
    record {
      without_quotes = λ p i q m e. absurd (let z : ◌≡◌ {A = ℕ} 0 1 = cc in omega arith);
      first = λ _. refl;
      derives = λ u. absurd (u n);
      that_same = λ u. absurd (u n);
      later = behind_brace (text b l);
      otherwise = λ u. absurd (u n);
      as_read = λ i p e.
          let s : 30 ≡ i = number_is e in
          let t : 0 ≡ p = place_is e in
          subst (λ (o : ℕ). TheAnswer b l (is_refused o p)) s (subst (λ (o : ℕ). TheAnswer b l (is_refused 30 o)) t (thirty_answer b l n));
      never_6 = λ p e. let z : ◌≡◌ {A = ℕ} 30 6 = number_is e in omega arith;
    }

once : {b l x g x' g' : List ℕ} (n : Fault) → AtOnce b l x g x' g' n → Both b l x g x' g' (Err n)
once n (by_1 h i j k) = (short_rooms h (ap Err i) j k, λ r. absurd (h r))
once {b} {l} {x} {g} {x'} {g'} n (by_30 h i j k f) =
    subst (λ (o : Fault). Both b l x g x' g' (Err o)) (sym i) (by_rules h (too_long j) f, λ _. thirty b l j)

pub stopped_heads : {b l x g x' g' : List ℕ} {r : Lent} {n : Fault} {a : Answer} → ExpandsTexts b l x g x' g' r → r ≡ Err n → a ≡ Err n → Both b l x g x' g' a
stopped_heads {b} {l} {x} {g} {x'} {g'} {n = n} u q z = subst (Both b l x g x' g') (sym z) (once n (at_once n u q))

pub text_heads : {b l x g x' g' : List ℕ} {r : Lent} {e : Expanded} {a : Answer} → ExpandsTexts b l x g x' g' r → r ≡ Ok e →
    HeadsExpanded (take e.length x') g' e a → Both b l x g x' g' a
text_heads {b} {l} {e = e} {a = a} u q w =
    let t = there e u q in
    let k = t.holds in
    let h : Heads (text b l) w.in_expanded = subst (λ (y : List ℕ). Heads y w.in_expanded) k.bytes w.heads in
    (by_rules t.rooms (head_of k w.in_expanded a h w.told) t.filled, λ _. q_7_by k w.in_expanded a (q_7 (text b l) w.in_expanded h) w.told)
