-- What stops the tokens of a text, in two texts that begin alike, and in two that go on alike. Assumes nothing.
use mathlib.Core.Path.{◌≡◌, refl, sym, ◌∙◌, ap, ap₂, subst}
use mathlib.Core.List.{List, [], ◌++◌, append-nil}
use mathlib.Core.Logic.{⊎_elim}
use mathlib.Core.Bool.{Bool, true, false}
use Prim.Native.Nat.{ℕ, zero, suc, ◌+◌, ◌-◌, ◌≤◌, ◌<◌}
use native.Mathlib.Omega.{arith}
use native.Mathlib.Nat.{eq-or-lt_of_le}
use lib.ListN.{length, length-append, length-drop, take, drop, get_or-append}
use lib.Seq.{take-append-le, drop-append-le, take-append-add, drop-append-add, drop-append_seam, get_or-drop}
use lib.Dec.{leb, ltb, eqb}
use borrow.Author.Tests.{lt-ltb, le-ltb, ltb-false, eqb-true}
use Rattle.token.specs.Find.{pick, both, byte, find}
use Rattle.token.specs.Bytes.{class_of, find_byte}
use Rattle.token.specs.Tokens.{bytes_between, token_of, token_at, step_at}
use Rattle.token.specs.declared.Cursor.{Cursor}
use Rattle.token.specs.declared.Token.{Token}
use Rattle.token.specs.declared.Step.{Step}
use Rattle.token.specs.declared.Step.TheVariants.{Found, Refused, End}
use Rattle.token.proofs.Find.{by_test, find_low, find_high, find_holds, find_before}
use Rattle.token.proofs.Steps.{TokenOk, token_ok, found_fits, bad_fits}
use Rattle.locality.proofs.Onward.{onward}
use Rattle.locality.proofs.Skipping.{parting, Bare, plain, lone, unended, plain_step, lone_step, unended_step, Skips, here, on, skips_step, skips_low, stop}
use Rattle.locality.proofs.Shift.{moved, moved_step, step_shift}
use Rattle.locality.proofs.Front.{Same, find_is, gap_front}
use Rattle.locality.proofs.Join.{found_ends, rest_ends, step_longer, step_shorter}
use Rattle.sources.specs.Lines.{line_start, named, is_end, whole_to, after_line, line_by, line_of, hash_at, stop_at}
use Rattle.std.specs.Prelude.{Option, Some, None}
use Rattle.sources.specs.declared.Line.{Line}
use Rattle.sources.specs.declared.Stop.{Stop}
use Rattle.sources.specs.declared.Stop.TheVariants.{At, Line as AtLine}
use Rattle.sources.proofs.Singles.{split}
use Rattle.sources.proofs.Stops.{line_low, line_late, stop_found, stop_refused, stop_end}
use Rattle.including.proofs.Onwards.{byte_on}
use Rattle.sources_laws.proofs.Ends.{Run, stay, go, run_low}
use Rattle.sources_laws.proofs.Outcomes.{Outcome, at_end, at_bad, outcome}

-- Lines ----------------------------------------------------------------------------------------------------------------------------------------

-- The line of the `#` at q that begins at L, where T stands before it and N on it, and the text goes on at Z.
by_name : ℕ → ℕ → ℕ → Option (ℕ × ℕ) → Stop
by_name q L Z (Some (f, t)) = AtLine (record { hash = q; start = L; from = L + f; to = L + t; after = Z })
by_name q L Z None = At 29 q

by_line : (p q L : ℕ) (T N : List ℕ) (Z : ℕ) → Stop
by_line p q L T N Z = pick (both (leb p L) (whole_to T p)) (by_name q L Z (named N (q - L))) (At 29 q)

name_is : (s : List ℕ) (q L E : ℕ) (n : Option (ℕ × ℕ)) → line_by s q L E n ≡ by_name q L (after_line s E) n
unfolding by_name
name_is s q L E (Some (f, t)) = refl
name_is s q L E None = refl

line_is : (s : List ℕ) (p q L E : ℕ) → line_start s q ≡ L → find_byte 10 s q ≡ E → line_of s p q ≡ by_line p q L (take L s) (bytes_between s L E) (after_line s E)
unfolding line_of by_line
line_is s p q L E e f =
    ap₂ (λ l x. pick (both (leb p l) (whole_to (take l s) p)) (line_by s q l x (named (bytes_between s l x) (q - l))) (At 29 q)) e f
    ∙ ap (λ x. pick (both (leb p L) (whole_to (take L s) p)) x (At 29 q)) (name_is s q L E (named (bytes_between s L E) (q - L)))

line_same : (p q : ℕ) {L M : ℕ} {T U N O : List ℕ} {Z Y : ℕ} → L ≡ M → T ≡ U → N ≡ O → Z ≡ Y → by_line p q L T N Z ≡ by_line p q M U O Y
line_same p q a b c d = λ i. by_line p q (a i) (b i) (c i) (d i)

-- A text that begins with h ----------------------------------------------------------------------------------------------------------------------

module _ (h r : List ℕ) where
  abbrev s : List ℕ
  s = h ++ r

  long : length h ≤ length s
  long = let n = length-append h r in omega arith

  start_front : (q : ℕ) → q ≤ length h → line_start s q ≡ line_start h q
  unfolding line_start
  start_front zero i = refl
  start_front (suc q) i =
      ap₂ (λ b l. pick (eqb b 10) (suc q) l) (get_or-append h r 0 q (omega arith)) (start_front q (omega arith))

  feed_front : (q : ℕ) → q ≤ length h → find_byte 10 s q < length h → find_byte 10 h q ≡ find_byte 10 s q
  unfolding find_byte
  feed_front q i l =
      let t : ℕ → Bool = λ i. eqb (byte s i) 10 in
      let e = find t (length s) q in
      let n = long in
      find_is (λ i. eqb (byte h i) 10) (length h) q e (find_low t (length s) q) (omega arith)
      (λ j a b. ap (λ (x : ℕ). eqb x 10) (sym (get_or-append h r 0 j (omega arith))) ∙ find_before t (length s) q j a b)
      (λ _. ap (λ (x : ℕ). eqb x 10) (sym (get_or-append h r 0 e l)) ∙ find_holds t (length s) q (omega arith) (omega arith))

  between_front : (a e : ℕ) → a ≤ e → e ≤ length h → bytes_between s a e ≡ bytes_between h a e
  between_front a e i j =
      let n : e - a ≤ length (drop a h) = (let z = length-drop a h in omega arith) in
      ap (take (e - a)) (drop-append-le a h r (omega arith)) ∙ take-append-le (e - a) (drop a h) r n

  after_front : (e : ℕ) → e < length h → after_line s e ≡ e + 1
  unfolding after_line
  after_front e l = let n = long in ap (λ b. pick b (e + 1) e) (lt-ltb e (length s) (omega arith))

  after_own : (e : ℕ) → e < length h → after_line h e ≡ e + 1
  unfolding after_line
  after_own e l = ap (λ b. pick b (e + 1) e) (lt-ltb e (length h) l)

  feed_low : (q : ℕ) → q ≤ find_byte 10 s q
  unfolding find_byte
  feed_low q = find_low (λ i. eqb (byte s i) 10) (length s) q

  feed_high : (q : ℕ) → q ≤ length s → find_byte 10 s q ≤ length s
  unfolding find_byte
  feed_high q i = find_high (λ i. eqb (byte s i) 10) (length s) q i

  -- The line of a `#` whose LF stands in h.
  line_front : (p q : ℕ) → q < length h → find_byte 10 s q < length h → line_of s p q ≡ line_of h p q
  line_front p q i l =
      let E = find_byte 10 s q in
      let f = feed_front q (omega arith) l in
      let o = line_low h q in
      let k = feed_low q in
      line_is s p q (line_start h q) E (start_front q (omega arith)) refl
      ∙ line_same p q refl (take-append-le (line_start h q) h r (omega arith)) (between_front (line_start h q) E (omega arith) (omega arith)) (after_front E l ∙ sym (after_own E l))
      ∙ sym (line_is h p q (line_start h q) E refl f)

  feed_own : (q : ℕ) → q ≤ length h → find_byte 10 h q < length h → find_byte 10 s q ≡ find_byte 10 h q
  unfolding find_byte
  feed_own q i l =
      let t : ℕ → Bool = λ i. eqb (byte h i) 10 in
      let e = find t (length h) q in
      let n = long in
      find_is (λ i. eqb (byte s i) 10) (length s) q e (find_low t (length h) q) (omega arith)
      (λ j a b. ap (λ (x : ℕ). eqb x 10) (get_or-append h r 0 j (omega arith)) ∙ find_before t (length h) q j a b)
      (λ _. ap (λ (x : ℕ). eqb x 10) (get_or-append h r 0 e l) ∙ find_holds t (length h) q i l)

  feed_is : (q : ℕ) → q ≤ length s → find_byte 10 s q < length s → byte s (find_byte 10 s q) ≡ 10
  unfolding find_byte
  feed_is q i l = eqb-true (byte s (find (λ i. eqb (byte s i) 10) (length s) q)) 10 (find_holds (λ i. eqb (byte s i) 10) (length s) q i l)

  -- What an include line says whose text goes on in h.
  record FrontLine (p q : ℕ) (i : Line) : Type 0 where
    is_hash : byte s q ≡ 35
    inside : q + 1 < length h
    feed : find_byte 10 s q < length h
    own : line_of h p q ≡ AtLine i

  after_by : (q E L : ℕ) (n : Option (ℕ × ℕ)) (i : Line) → E ≤ length s → line_by s q L E n ≡ AtLine i → i.after ≤ length h → length h < length s → E < length h
  unfolding after_line
  after_by q E L (Some (f, t)) i k e a l =
      let z : record { hash = q; start = L; from = L + f; to = L + t; after = after_line s E } ≡ i = cc in
      let y : after_line s E ≡ i.after = ap (λ (j : Line). j.after) z in
      by_test (λ (n : ℕ). n ≡ i.after → E < length h) (ltb E (length s)) (E + 1) E (λ _ w. omega arith) (λ b w. let c = ltb-false E (length s) b in omega arith) y
  after_by q E L None i k e a l = absurd (let z : ◌≡◌ {A = ℕ} 0 1 = cc in omega arith)

  line_feed : (p q : ℕ) (i : Line) → q ≤ length s → line_of s p q ≡ AtLine i → i.after ≤ length h → length h < length s → find_byte 10 s q < length h
  unfolding line_of
  line_feed p q i j f b c =
      by_test (λ (x : Stop). x ≡ AtLine i → find_byte 10 s q < length h) (both (leb p (line_start s q)) (whole_to (take (line_start s q) s) p))
      (line_by s q (line_start s q) (find_byte 10 s q) (named (bytes_between s (line_start s q) (find_byte 10 s q)) (q - line_start s q))) (At 29 q)
      (λ _ g. after_by q (find_byte 10 s q) (line_start s q) (named (bytes_between s (line_start s q) (find_byte 10 s q)) (q - line_start s q)) i (feed_high q j) g b c)
      (λ _ g. absurd (let z : ◌≡◌ {A = ℕ} 0 1 = cc in omega arith)) f

  hash_line : (p q : ℕ) (i : Line) → hash_at s p q ≡ AtLine i → q < length s → i.after ≤ length h → length h < length s → FrontLine p q i
  unfolding hash_at
  hash_line p q i e a b c =
      by_test (λ (x : Stop). x ≡ AtLine i → FrontLine p q i) (eqb (byte s q) 35) (line_of s p q) (At 3 q)
      (λ t f.
      let g = line_feed p q i (omega arith) f b c in
      let w = eqb-true (byte s q) 35 t in
      let k = feed_low q in
      let x : find_byte 10 s q ≡ q → ⊥ = λ y. absurd (let z : byte s q ≡ 10 = ap (byte s) (sym y) ∙ feed_is q (omega arith) (omega arith) in omega arith) in
      let u : q < find_byte 10 s q = ⊎_elim (λ z. absurd (x (sym z))) (λ z. z) (eq-or-lt_of_le k) in
      record { is_hash = w; inside = omega arith; feed = g; own = sym (line_front p q (omega arith) g) ∙ f })
      (λ _ f. absurd (let z : ◌≡◌ {A = ℕ} 0 1 = cc in omega arith)) e

-- Two texts that begin with h --------------------------------------------------------------------------------------------------------------------

module _ (h r k : List ℕ) where
  same_front : Same (h ++ r) (h ++ k) 0 (length h)
  same_front i _ l = get_or-append h k 0 i l ∙ sym (get_or-append h r 0 i l)

  run_front : (q p : ℕ) → q + 1 < length h → Run (h ++ r) q p → Run (h ++ k) q p
  run_front q p l (stay _ e) = stay p e
  run_front q p l (go _ t c e n) =
      let low = run_low (h ++ r) q c.at n in
      go p t c
      (step_longer h k p t c (step_shorter h r p t c e (omega arith))
      (rest_ends h k t.sort c.at (omega arith) (λ _. omega arith) ∙ sym (rest_ends h r t.sort c.at (omega arith) (λ _. omega arith)) ∙ found_ends (h ++ r) p t c e))
      (run_front q c.at l n)

  skips_front : (m p : ℕ) → m < length h → Skips (h ++ r) m p → Skips (h ++ k) m p
  skips_front m p l (here _ e) = here p e
  skips_front m p l (on _ q g n) =
      let low = skips_low (h ++ r) m q n in
      on p q (gap_front (h ++ r) (h ++ k) 0 (length h) (long h r) (long h k) same_front p q (omega arith) (omega arith) g) (skips_front m q l n)

-- Where a step is refused.
refused_at : (s : List ℕ) (m q : ℕ) → Bare s m → step_at s m ≡ Refused q → m ≡ q
refused_at s m q (plain f) e = (subst (TokenOk s m) (sym (plain_step s m f) ∙ e) (token_ok s m)).0
refused_at s m q (lone f g h) e = (subst (TokenOk s m) (sym (lone_step s m f g h) ∙ e) (token_ok s m)).0
refused_at s m q (unended f g h k) e = let z : Refused m ≡ Refused q = sym (unended_step s m f g h k) ∙ e in cc

-- A `#` is refused.
hash_refused : (s : List ℕ) (q : ℕ) → q < length s → byte s q ≡ 35 → step_at s q ≡ Refused q
unfolding parting class_of token_at token_of
hash_refused s q l e =
    plain_step s q (ap (λ (b : ℕ). parting (class_of b)) e) ∙ ap (λ b. pick b (token_of (class_of (byte s q)) s q) (End (length s))) (lt-ltb q (length s) l)
    ∙ ap (λ (b : ℕ). token_of (class_of b) s q) e

-- Past tokens.
pub run_stop : (s : List ℕ) (q p : ℕ) → Run s q p → stop_at s p ≡ stop_at s q
run_stop s q p (stay _ e) = ap (stop_at s) e
run_stop s q p (go _ t c e r) = stop_found s p t c e ∙ run_stop s q c.at r

module _ (h r k : List ℕ) where
  bad_front : (p q : ℕ) → step_at (h ++ r) p ≡ Refused q → byte (h ++ r) q ≡ 35 → q < length h → step_at (h ++ k) p ≡ Refused q
  bad_front p q e b l =
      let w = stop (h ++ r) p in
      let m = refused_at (h ++ r) w.place q w.bare (sym (skips_step (h ++ r) w.place p w.skipped) ∙ e) in
      let n = long h k in
      skips_step (h ++ k) q p (skips_front h r k q p l (subst (λ (j : ℕ). Skips (h ++ r) j p) m w.skipped))
      ∙ hash_refused (h ++ k) q (omega arith) (same_front h r k q (omega arith) l ∙ b)

  hash_front : (p q : ℕ) (i : Line) → FrontLine h r p q i → hash_at (h ++ k) p q ≡ AtLine i
  unfolding hash_at
  hash_front p q i f =
      let l = f.inside in
      let b : byte (h ++ k) q ≡ 35 = same_front h r k q (omega arith) (omega arith) ∙ f.is_hash in
      let e = feed_front h r q (omega arith) f.feed in
      let g = f.feed in
      let d = feed_own h k q (omega arith) (omega arith) in
      ap (λ (n : ℕ). pick (eqb n 35) (line_of (h ++ k) p q) (At 3 q)) b ∙ line_front h k p q (omega arith) (omega arith) ∙ f.own

  -- An include line of h ++ r whose text goes on in h is one of h ++ k.
  pub stop_front : (p : ℕ) (i : Line) → stop_at (h ++ r) p ≡ AtLine i → i.after ≤ length h → 0 < length r → stop_at (h ++ k) p ≡ AtLine i
  stop_front p i e a l = go (outcome (h ++ r) p)
    where
      go : Outcome (h ++ r) p (stop_at (h ++ r) p) → stop_at (h ++ k) p ≡ AtLine i
      go (at_end last n w f g) = absurd (let y : AtLine i ≡ At 0 (length (h ++ r)) = sym e ∙ g in let z : ◌≡◌ {A = ℕ} 0 1 = cc in omega arith)
      go (at_bad last q w f g) =
          let o = bad_fits (h ++ r) last q f in
          let n = length-append h r in
          let m = hash_line h r last q i (sym g ∙ e) o.1 a (omega arith) in
          let u = m.inside in
          run_stop (h ++ k) last p (run_front h r k last p (omega arith) w)
          ∙ stop_refused (h ++ k) last q (bad_front last q f m.is_hash (omega arith)) ∙ hash_front last q i m

-- So it is one of h.
pub stop_own : (h r : List ℕ) (p : ℕ) (i : Line) → stop_at (h ++ r) p ≡ AtLine i → i.after ≤ length h → 0 < length r → stop_at h p ≡ AtLine i
stop_own h r p i e a l = ap (λ (x : List ℕ). stop_at x p) (sym (append-nil h)) ∙ stop_front h r [] p i e a l

pub between_same : (h r k : List ℕ) (a e : ℕ) → a ≤ e → e ≤ length h → bytes_between (h ++ r) a e ≡ bytes_between (h ++ k) a e
between_same h r k a e i j = between_front h r a e i j ∙ sym (between_front h k a e i j)

-- The name of an include line stands on it.
line_from : (s : List ℕ) (p q : ℕ) (i : Line) → line_of s p q ≡ AtLine i → i.start ≤ i.from
unfolding line_of
line_from s p q i f =
    by_test (λ (x : Stop). x ≡ AtLine i → i.start ≤ i.from) (both (leb p (line_start s q)) (whole_to (take (line_start s q) s) p))
    (line_by s q (line_start s q) (find_byte 10 s q) (named (bytes_between s (line_start s q) (find_byte 10 s q)) (q - line_start s q))) (At 29 q)
    (λ _ g. by (named (bytes_between s (line_start s q) (find_byte 10 s q)) (q - line_start s q)) g) (λ _ g. absurd (let z : ◌≡◌ {A = ℕ} 0 1 = cc in omega arith)) f
  where
    by : (n : Option (ℕ × ℕ)) → line_by s q (line_start s q) (find_byte 10 s q) n ≡ AtLine i → i.start ≤ i.from
    by (Some (f, t)) g =
        let z : record { hash = q; start = line_start s q; from = line_start s q + f; to = line_start s q + t; after = after_line s (find_byte 10 s q) } ≡ i = cc in
        let a : line_start s q ≡ i.start = ap (λ (j : Line). j.start) z in
        let b : line_start s q + f ≡ i.from = ap (λ (j : Line). j.from) z in
        omega arith
    by None g = absurd (let z : ◌≡◌ {A = ℕ} 0 1 = cc in omega arith)

pub name_from : (s : List ℕ) (p : ℕ) (i : Line) → stop_at s p ≡ AtLine i → i.start ≤ i.from
unfolding hash_at
name_from s p i e = go (outcome s p)
  where
    go : Outcome s p (stop_at s p) → i.start ≤ i.from
    go (at_end last n w f g) = absurd (let y : AtLine i ≡ At 0 (length s) = sym e ∙ g in let z : ◌≡◌ {A = ℕ} 0 1 = cc in omega arith)
    go (at_bad last q w f g) =
        by_test (λ (x : Stop). x ≡ AtLine i → i.start ≤ i.from) (eqb (byte s q) 35) (line_of s last q) (At 3 q) (λ _ h. line_from s last q i h)
        (λ _ h. absurd (let z : ◌≡◌ {A = ℕ} 0 1 = cc in omega arith)) (sym g ∙ e)

-- Texts that go on with c ----------------------------------------------------------------------------------------------------------------------

byte_later : (g c : List ℕ) (q : ℕ) → byte (g ++ c) (length g + q) ≡ byte c q
byte_later g c q = sym (get_or-drop (length g) (g ++ c) q 0) ∙ ap (λ (x : List ℕ). byte x q) (drop-append_seam g c)

up : (n q : ℕ) → n + suc q ≡ suc (n + q)
up n q = omega arith

start_none : (g c : List ℕ) (q : ℕ) → line_start c q ≡ 0 → line_start (g ++ c) (length g + q) ≡ line_start g (length g)
unfolding line_start
start_none g c zero e = ap (line_start (g ++ c)) (let z : length g + 0 ≡ length g = omega arith in z) ∙ start_front g c (length g) (omega arith)
start_none g c (suc q) e =
    ap (line_start (g ++ c)) (up (length g) q) ∙ ap (λ (b : ℕ). pick (eqb b 10) (suc (length g + q)) (line_start (g ++ c) (length g + q))) (byte_later g c q)
    ∙ go (eqb (byte c q) 10) e (λ f. start_none g c q f)
  where
    go : (b : Bool) → pick b (suc q) (line_start c q) ≡ 0 → (line_start c q ≡ 0 → line_start (g ++ c) (length g + q) ≡ line_start g (length g))
        → pick b (suc (length g + q)) (line_start (g ++ c) (length g + q)) ≡ line_start g (length g)
    go true f k = absurd (omega arith)
    go false f k = k f

start_some : (g c : List ℕ) (q : ℕ) → 0 < line_start c q → line_start (g ++ c) (length g + q) ≡ length g + line_start c q
unfolding line_start
start_some g c zero e = absurd (omega arith)
start_some g c (suc q) e =
    ap (line_start (g ++ c)) (up (length g) q) ∙ ap (λ (b : ℕ). pick (eqb b 10) (suc (length g + q)) (line_start (g ++ c) (length g + q))) (byte_later g c q)
    ∙ go (eqb (byte c q) 10) e (λ f. start_some g c q f)
  where
    go : (b : Bool) → 0 < pick b (suc q) (line_start c q) → (0 < line_start c q → line_start (g ++ c) (length g + q) ≡ length g + line_start c q)
        → pick b (suc (length g + q)) (line_start (g ++ c) (length g + q)) ≡ length g + pick b (suc q) (line_start c q)
    go true f k = sym (up (length g) q)
    go false f k = k f

-- What the line of the `#` at q of c says, n bytes later.
on_line : ℕ → List ℕ → ℕ → ℕ → ℕ → ℕ → Stop
on_line n c p q L E =
    pick (both (leb (n + p) (n + L)) (whole_to (take L c) p)) (by_name (n + q) (n + L) (pick (ltb E (length c)) (n + E + 1) (n + E)) (named (bytes_between c L E) (q - L))) (At 29 (n + q))

later_line : ℕ → List ℕ → ℕ → ℕ → Stop
later_line n c p q = pick (ltb 0 (line_start c q)) (on_line n c p q (line_start c q) (find_byte 10 c q)) (At 29 (n + q))

end_moved : (d : ℕ) (x : Step) → is_end (moved_step d x) ≡ is_end x
unfolding moved_step
end_moved d (Found t c) = refl
end_moved d (Refused q) = refl
end_moved d (End n) = refl

whole_later : (g t : List ℕ) (p : ℕ) → whole_to (g ++ t) (length g + p) ≡ whole_to t p
unfolding whole_to
whole_later g t p = ap is_end (step_shift g t p) ∙ end_moved (length g) (step_at t p)

less_later : (n e m : ℕ) → ltb (n + e) (n + m) ≡ ltb e m
less_later n e m = split e m (λ l. lt-ltb (n + e) (n + m) (omega arith) ∙ sym (lt-ltb e m l)) (λ l. le-ltb (n + e) (n + m) (omega arith) ∙ sym (le-ltb e m l))

after_later : (g c : List ℕ) (e : ℕ) → after_line (g ++ c) (length g + e) ≡ pick (ltb e (length c)) (length g + e + 1) (length g + e)
unfolding after_line
after_later g c e = ap (λ b. pick b (length g + e + 1) (length g + e)) (ap (ltb (length g + e)) (length-append g c) ∙ less_later (length g) e (length c))

pub between_later : (g c : List ℕ) (a e : ℕ) → bytes_between (g ++ c) (length g + a) (length g + e) ≡ bytes_between c a e
between_later g c a e =
    ap₂ (λ (n : ℕ) (x : List ℕ). take n x) (let z : (length g + e) - (length g + a) ≡ e - a = omega arith in z) (drop-append-add g c a)

line_later : (g c : List ℕ) (p q : ℕ) → line_start g (length g) < length g → line_of (g ++ c) (length g + p) (length g + q) ≡ later_line (length g) c p q
unfolding later_line on_line by_line
line_later g c p q l =
    let G = length g in
    let L = line_start c q in
    let E = find_byte 10 c q in
    split 0 L
    (λ i.
    line_is (g ++ c) (G + p) (G + q) (G + L) (G + E) (start_some g c q i) (byte_on 10 g c q)
    ∙ ap₂ (λ b (z : Stop). pick (both (leb (G + p) (G + L)) b) z (At 29 (G + q))) (ap (λ (x : List ℕ). whole_to x (G + p)) (take-append-add g c L) ∙ whole_later g (take L c) p)
    (ap₂ (λ (z : ℕ) (n : Option (ℕ × ℕ)). by_name (G + q) (G + L) z n) (after_later g c E)
    (ap₂ (λ (x : List ℕ) (n : ℕ). named x n) (between_later g c L E) (let z : (G + q) - (G + L) ≡ q - L = omega arith in z)))
    ∙ sym (ap (λ b. pick b (on_line G c p q L E) (At 29 (G + q))) (lt-ltb 0 L i)))
    (λ i.
    sym (line_late (g ++ c) (G + p) (G + q) (line_start g G) (sym (start_none g c q (let z : L ≡ 0 = omega arith in z))) (omega arith))
    ∙ sym (ap (λ b. pick b (on_line G c p q L E) (At 29 (G + q))) (le-ltb 0 L i)))

hash_later : (g c : List ℕ) (p q : ℕ) → line_start g (length g) < length g → hash_at (g ++ c) (length g + p) (length g + q) ≡ pick (eqb (byte c q) 35) (later_line (length g) c p q) (At 3 (length g + q))
unfolding hash_at
hash_later g c p q l = ap₂ (λ (b : ℕ) (x : Stop). pick (eqb b 35) x (At 3 (length g + q))) (byte_later g c q) (line_later g c p q l)

module _ (g k c : List ℕ) (same : length g ≡ length k) (low : line_start g (length g) < length g) (low' : line_start k (length k) < length k) where
  longs : length (g ++ c) ≡ length (k ++ c)
  longs = length-append g c ∙ ap (λ (n : ℕ). n + length c) same ∙ sym (length-append k c)

  by_step : (p : ℕ) → ((q : ℕ) → p < q → q ≤ length c → stop_at (g ++ c) (length g + q) ≡ stop_at (k ++ c) (length k + q)) → (x : Step) → step_at c p ≡ x
      → stop_at (g ++ c) (length g + p) ≡ stop_at (k ++ c) (length k + p)
  unfolding moved_step
  by_step p f (Found t n) e =
      let o = found_fits c p t n e in
      let l = o.long in
      stop_found (g ++ c) (length g + p) (moved (length g) t) (record { at = length g + n.at }) (step_shift g c p ∙ ap (moved_step (length g)) e)
      ∙ f n.at (omega arith) o.inside
      ∙ sym (stop_found (k ++ c) (length k + p) (moved (length k) t) (record { at = length k + n.at }) (step_shift k c p ∙ ap (moved_step (length k)) e))
  by_step p f (Refused q) e =
      stop_refused (g ++ c) (length g + p) (length g + q) (step_shift g c p ∙ ap (moved_step (length g)) e) ∙ hash_later g c p q low
      ∙ ap (λ (n : ℕ). pick (eqb (byte c q) 35) (later_line n c p q) (At 3 (n + q))) same
      ∙ sym (stop_refused (k ++ c) (length k + p) (length k + q) (step_shift k c p ∙ ap (moved_step (length k)) e) ∙ hash_later k c p q low')
  by_step p f (End n) e =
      stop_end (g ++ c) (length g + p) (length g + n) (step_shift g c p ∙ ap (moved_step (length g)) e) ∙ ap (At 0) longs
      ∙ sym (stop_end (k ++ c) (length k + p) (length k + n) (step_shift k c p ∙ ap (moved_step (length k)) e))

  -- They stop alike in c.
  pub stop_later : (p : ℕ) → stop_at (g ++ c) (length g + p) ≡ stop_at (k ++ c) (length k + p)
  stop_later = onward (length c) (λ (p : ℕ). stop_at (g ++ c) (length g + p) ≡ stop_at (k ++ c) (length k + p)) (λ p f. by_step p f (step_at c p) refl)
