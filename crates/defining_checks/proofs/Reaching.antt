-- The list of an attribute whose default stands before the enumerator that is one too many has been kept as a whole. Assumes nothing.
use mathlib.Core.Path.{◌≡◌, refl, sym, ◌∙◌, ap, subst}
use mathlib.Core.List.{List, [], ◌∷◌, ◌++◌, append_assoc, append-nil}
use mathlib.Core.Bool.{Bool, true, false, not, false≢true}
use mathlib.Core.Option.{some}
use Prim.Native.Nat.{ℕ, zero, suc, ◌≤◌, ◌<◌}
use native.Mathlib.Omega.{arith}
use native.Mathlib.Decide.{dec_lt}
use lib.ListN.{length}
use lib.Dec.{leb}
use borrow.Author.Tests.{lt-ltb, leb-false}
use Rattle.meaning.specs.Syntax.{Word, span_of, span_or, Definition, Definitions, no_more, define, Values, no_value, value, Spec, File, is_enum}
use Rattle.meaning.proofs.Standing.{Run}
use Rattle.meaning.proofs.Sites.{option_words, definition_words, value_words, spec_words}
use Rattle.layout.specs.Kept.{Entry, Choice, list_key, entries, entries_under, spec_entries, choice_if, choices, choices_of, spec_choices}
use Rattle.scopes.specs.Situations.{Nth, NoneOf, Reached}
use Rattle.scopes.proofs.Lists.{none_append, none_in, none_of, none_specs, KeyBefore, key_next, none_if}
use Rattle.defining_checks.specs.Listing.{judged}
use Rattle.defining_checks.specs.Promises.{Room}
use Rattle.defining_checks.proofs.Rising.{Ascend, ascend_le, ascend_back, ascend_of}
use Rattle.defining_checks.proofs.Rowwise.{none_list}
use Rattle.meaning.proofs.Runs.{run_le, cut, Cuts, cuts}
use Rattle.scopes.proofs.Rooms.{split}

-- Splits ---------------------------------------------------------------------------------------------------------------------------------------

-- All but the last, and the last.
pub record Last {A : Type 0} (l : List A) (n : ℕ) : Type 0 where
  pub front : List A
  pub last : A
  pub whole : l ≡ front ++ (last ∷ [])
  pub many : length front ≡ n

pub last_of : {A : Type 0} (l : List A) (n : ℕ) → length l ≡ suc n → Last l n
last_of [] n h = absurd (omega arith)
last_of (x ∷ []) zero h = record { front = []; last = x; whole = refl; many = refl }
last_of (x ∷ []) (suc n) h = absurd (omega arith)
last_of (x ∷ y ∷ l) zero h = absurd (omega arith)
last_of (x ∷ y ∷ l) (suc n) h =
    let r = last_of (y ∷ l) n (omega arith) in
    record { front = x ∷ r.front; last = r.last; whole = ap (λ m. x ∷ m) r.whole; many = ap suc r.many }

-- The enumerators of a list stand before its attribute's default ------------------------------------------------------------------------------

-- Those of the list with the key k stand before p.
abbrev pub Left : (k p : ℕ) → List Choice → Type 0
Left k p [] = Unit {0}
Left k p (c ∷ cs) = (c.list ≡ k → c.word.place < p) × Left k p cs

left_append : (a : List Choice) (k p : ℕ) (b : List Choice) → Left k p a → Left k p b → Left k p (a ++ b)
left_append [] k p b f g = g
left_append (c ∷ a) k p b f g = (f.0, left_append a k p b f.1 g)

left_back : (a : List Choice) (k p : ℕ) (b : List Choice) → Left k p (a ++ b) → Left k p b
left_back [] k p b f = f
left_back (c ∷ a) k p b f = left_back a k p b f.1

none_left : (k p : ℕ) (l : List Choice) → NoneOf k l → Left k p l
none_left k p [] h = tt
none_left k p (c ∷ l) h = ((λ e. absurd (h.0 e)), none_left k p l h.1)

ascend_left : (k p : ℕ) (l : List Choice) (lo hi : ℕ) → Ascend lo l hi → hi ≤ p → Left k p l
ascend_left k p [] lo hi r h = tt
ascend_left k p (c ∷ l) lo hi r h = let a = ascend_le l (suc c.word.place) hi r.1 in ((λ e. omega (arith, a, h)), ascend_left k p l (suc c.word.place) hi r.1 h)

left_none : (k p : ℕ) (l : List Choice) (lo hi : ℕ) → Ascend lo l hi → Left k p l → p ≤ lo → NoneOf k l
left_none k p [] lo hi r f h = tt
left_none k p (c ∷ l) lo hi r f h =
    let a = r.0 in
    ((λ e. let b = f.0 e in omega (arith, a, b, h)), left_none k p l (suc c.word.place) hi r.1 f.1 (omega (arith, a, h)))

-- So it is for a row, and for each of some rows.
abbrev pub LeftOf : List Choice → Entry → Type 0
LeftOf C x = (t : Word) → x.definition.default ≡ some t → Left (list_key x.values) t.place C

abbrev pub AllLeft : List Choice → List Entry → Type 0
AllLeft C [] = Unit {0}
AllLeft C (x ∷ xs) = LeftOf C x × AllLeft C xs

all_append : (C : List Choice) (a b : List Entry) → AllLeft C a → AllLeft C b → AllLeft C (a ++ b)
all_append C [] b f g = g
all_append C (x ∷ a) b f g = (f.0, all_append C a b f.1 g)

all_back : (C : List Choice) (a : List Entry) (x : Entry) (b : List Entry) → AllLeft C (a ++ (x ∷ b)) → LeftOf C x
all_back C [] x b f = f.0
all_back C (y ∷ a) x b f = all_back C a x b f.1

default_behind : (d : Definition) (t : Word) (b c : ℕ) → d.default ≡ some t → Run b (d.name ∷ option_words d.default) c → b ≤ t.place
unfolding option_words
default_behind d t b c e r =
    let k : Run (suc d.name.place) (option_words (some t)) c = subst (λ o. Run (suc d.name.place) (option_words o) c) e r.1 in
    let x = r.0 in
    let y = k.0 in
    omega (arith, x, y)

left_own : (u : Word) (o : ℕ) (d : Definition) (vs : Values) (ds : Definitions) (lo hi : ℕ) (C A B : List Choice) (q : Bool) → C ≡ A ++ (choices_of vs q (list_key vs) ++ B)
    → (k : Cuts lo d vs ds hi) → NoneOf 0 C → ((x : ℕ) → k.a ≤ x → x < k.b → NoneOf x A) → ((x : ℕ) → k.a ≤ x → x < k.b → NoneOf x B)
    → LeftOf C (record { under = u; outer = o; definition = d; values = vs })
unfolding list_key value_words
left_own u o d no_value ds lo hi C A B q e k z f g t h = none_left 0 t.place C z
left_own u o d (value w n us vs) ds lo hi C A B q e k z f g t h =
    let r = k.values in
    let i = r.0 in
    let m = run_le (definition_words us ++ value_words vs) r.1 in
    let K = choices_of (value w n us vs) q w.place in
    let j = default_behind d t k.b k.c h k.named in
    subst (Left w.place t.place) (sym e)
    (left_append A w.place t.place (K ++ B) (none_left w.place t.place A (f w.place i (omega arith)))
    (left_append K w.place t.place B (ascend_left w.place t.place K k.a k.b (ascend_of (value w n us vs) q w.place k.a k.b r) j)
    (none_left w.place t.place B (g w.place i (omega arith)))))

keyed : (vs : Values) (lo hi : ℕ) → Run lo (value_words vs) hi → KeyBefore vs (list_key vs)
unfolding list_key
keyed no_value lo hi r = tt
keyed (value w e us vs) lo hi r = omega arith

mutual
  unfolding entries choices definition_words

  left_in : (ds : Definitions) (u : Word) (o lo hi : ℕ) (C A B : List Choice) → C ≡ A ++ (choices ds ++ B) → Run lo (definition_words ds) hi → NoneOf 0 C
      → ((x : ℕ) → lo ≤ x → x < hi → NoneOf x A) → ((x : ℕ) → lo ≤ x → x < hi → NoneOf x B) → AllLeft C (entries ds u o)
  left_in no_more u o lo hi C A B e r z f g = tt
  left_in (define d vs ds) u o lo hi C A B e r z f g =
      let b = is_enum d.type in
      let k = cuts d vs ds lo hi r in
      let k₁ = k.low in
      let k₂ = k.next in
      let k₃ = run_le (value_words vs) k.values in
      let k₄ = run_le (definition_words ds) k.rest in
      let K = choices_of vs b (list_key vs) in
      let rest = choices ds in
      let e₁ : C ≡ A ++ (K ++ (rest ++ B)) = e ∙ ap (λ l. A ++ l) (append_assoc K rest B) in
      let e₂ : C ≡ (A ++ K) ++ (rest ++ B) = e₁ ∙ sym (append_assoc A K (rest ++ B)) in
      let fa : (x : ℕ) → k.a ≤ x → x < k.b → NoneOf x A = λ x p q. f x (omega arith) (omega arith) in
      let fb : (x : ℕ) → k.a ≤ x → x < k.b → NoneOf x (rest ++ B) =
      λ x p q. none_append rest x B (none_in ds k.c hi x k.rest (λ y p' q' z. omega arith)) (g x (omega arith) (omega arith)) in
      all_append C (entries_under vs (list_key vs)) (record { under = u; outer = o; definition = d; values = vs } ∷ entries ds u o)
      (left_under vs b (list_key vs) k.a k.b C A (rest ++ B) e₁ k.values z (keyed vs k.a k.b k.values) fa fb) (
        left_own u o d vs ds lo hi C A (rest ++ B) b e₁ k z fa fb,
        left_in ds u o k.c hi C (A ++ K) B e₂ k.rest z
            (λ x p q. none_append A x K (f x (omega arith) (omega arith)) (none_list vs b k.a k.b x k.values (λ y p' q' z. omega arith)))
            (λ x p q. g x (omega arith) (omega arith)),
      )

  left_under : (vs : Values) (b : Bool) (key lo hi : ℕ) (C A B : List Choice) → C ≡ A ++ (choices_of vs b key ++ B) → Run lo (value_words vs) hi → NoneOf 0 C
      → KeyBefore vs key → ((x : ℕ) → lo ≤ x → x < hi → NoneOf x A) → ((x : ℕ) → lo ≤ x → x < hi → NoneOf x B) → AllLeft C (entries_under vs key)
  left_under no_value b key lo hi C A B e r z h f g = tt
  left_under (value w n us vs) b key lo hi C A B e r z h f g =
      let i = r.0 in
      let k = cut (definition_words us) (value_words vs) (suc w.place) hi r.1 in
      let k₁ = run_le (definition_words us) k.front in
      let k₂ = run_le (value_words vs) k.back in
      let own = choice_if b key w in
      let rows = choices us in
      let K = choices_of vs b key in
      let e₁ : C ≡ (A ++ own) ++ (rows ++ (K ++ B)) = e ∙ simp append_assoc in
      let e₂ : C ≡ ((A ++ own) ++ rows) ++ (K ++ B) = e₁ ∙ sym (append_assoc (A ++ own) rows (K ++ B)) in
      all_append C (entries us w key) (entries_under vs key)
      (left_in us w key (suc w.place) k.mid C (A ++ own) (K ++ B) e₁ k.front z
      (λ x p q. none_append A x own (f x (omega arith) (omega arith)) (none_if b key w x (λ y. omega arith)))
      (λ x p q. none_append K x B (none_of vs b key k.mid hi x k.back (λ y. omega arith) (λ y p' q' v. omega arith)) (g x (omega arith) (omega arith))))
      (left_under vs b key k.mid hi C ((A ++ own) ++ rows) B e₂ k.back z (key_next vs key k.mid hi k.back (omega arith))
      (λ x p q. none_append (A ++ own) x rows (none_append A x own (f x (omega arith) (omega arith)) (none_if b key w x (λ y. omega arith)))
      (none_in us (suc w.place) k.mid x k.front (λ y p' q' v. omega arith)))
      (λ x p q. g x (omega arith) (omega arith)))

left_specs : (xs : List Spec) (lo hi : ℕ) (C A : List Choice) → C ≡ A ++ spec_choices xs → Run lo (spec_words xs) hi → NoneOf 0 C
    → ((x : ℕ) → lo ≤ x → x < hi → NoneOf x A) → AllLeft C (spec_entries xs)
unfolding spec_entries spec_choices spec_words
left_specs [] lo hi C A e r z f = tt
left_specs (y ∷ ys) lo hi C A e r z f =
    let us = y.definitions in
    let w = y.word in
    let i = r.0 in
    let k = cut (definition_words us) (spec_words ys) (suc w.place) hi r.1 in
    let k₁ = run_le (definition_words us) k.front in
    let k₂ = run_le (spec_words ys) k.back in
    let e₂ : C ≡ (A ++ choices us) ++ spec_choices ys = e ∙ sym (append_assoc A (choices us) (spec_choices ys)) in
    all_append C (entries us w 0) (spec_entries ys)
    (left_in us w 0 (suc w.place) k.mid C A (spec_choices ys) e k.front z (λ x p q. f x (omega arith) (omega arith))
    (λ x p q. none_specs ys k.mid hi x k.back (λ v p' q' d. omega arith)))
    (left_specs ys k.mid hi C (A ++ choices us) e₂ k.back z
    (λ x p q. none_append A x (choices us) (f x (omega arith) (omega arith)) (none_in us (suc w.place) k.mid x k.front (λ v p' q' d. omega arith))))

pub all_left : (xs : List Spec) (lo hi : ℕ) → Run lo (spec_words xs) hi → 0 < lo → AllLeft (spec_choices xs) (spec_entries xs)
all_left xs lo hi r h = left_specs xs lo hi (spec_choices xs) [] refl r (none_specs xs lo hi 0 r (λ y p q e. omega arith)) (λ x p q. tt)

-- What is kept of a list ------------------------------------------------------------------------------------------------------------------------

before_limit : (limit : ℕ) (t : Word) → judged true limit (some t) ≡ true → t.place < limit
unfolding judged span_or span_of
before_limit limit t e = by (leb limit t.place) refl e
  where
    by : (b : Bool) → leb limit t.place ≡ b → not b ≡ true → t.place < limit
    by true h k = absurd (false≢true k)
    by false h k = leb-false limit t.place h

pub reached : (f : File) (m : ℕ) (full : Bool) (limit lo hi : ℕ) (j : ℕ) (x : Entry) (t : Word) → Run lo (spec_words f.specs) hi → 0 < lo → Ascend lo (spec_choices f.specs) hi
    → Room f m full limit → Nth (spec_entries f.specs) j x → x.definition.default ≡ some t → judged full limit (some t) ≡ true → Reached f m x.values
reached f m full limit lo hi j x t r z a room n e q = by (dec_lt 1025 (length C))
  where
    C : List Choice
    C = spec_choices f.specs

    left : Left (list_key x.values) t.place C
    left = all_back C n.front x n.rest (subst (AllLeft C) n.whole (all_left f.specs lo hi r z)) t e

    by : Dec (1025 < length C) → Reached f m x.values
    by (no h) =
        let k = room.many in
        record { front = C; rest = []; whole = sym (append-nil C); many = omega (arith, h, k); room = omega (arith, k); free = tt }
    by (yes h) =
        let k = room.many in
        let s = split C 1025 (omega (arith, h)) in
        let l = last_of s.front 1024 s.many in
        let c = l.last in
        let w : C ≡ l.front ++ (c ∷ s.rest) = s.whole ∙ ap (λ i. i ++ s.rest) l.whole ∙ append_assoc l.front (c ∷ []) s.rest in
        let g : limit ≡ c.word.place = room.edge c (record { front = l.front; rest = s.rest; whole = w; place = l.many }) in
        let o : full ≡ true = room.over ∙ lt-ltb 1024 (length C) (omega (arith, h)) in
        let p = before_limit limit t (subst (λ b. judged b limit (some t) ≡ true) o q) in
        let v = s.many in
        record {
          front = s.front;
          rest = s.rest;
          whole = s.whole;
          many = omega (arith, h, k, v);
          room = omega (arith, k);
          free = left_none (list_key x.values) t.place s.rest (suc c.word.place) hi (ascend_back l.front c s.rest lo hi (subst (λ i. Ascend lo i hi) w a))
              (left_back s.front (list_key x.values) t.place s.rest (subst (Left (list_key x.values) t.place) s.whole left)) (omega (arith, g, p));
        }
