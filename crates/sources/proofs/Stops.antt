-- The laws of what stops the tokens of a text: include lines, other faults, the end. Assumes nothing.
use Prim.Native.Nat.{ℕ, zero, suc, ◌+◌, ◌-◌, ◌≤◌, ◌<◌}
use mathlib.Core.List.{List}
use mathlib.Core.Bool.{true, false}
use mathlib.Core.Path.{◌≡◌, refl, sym, ◌∙◌, ap, subst}
use native.Mathlib.Omega.{arith}
use lib.ListN.{length, take, drop, length-take, length-drop}
use lib.Dec.{leb, eqb}
use borrow.Author.Tests.{lt-leb, le-leb, leb-true, lt-ltb, le-ltb, eq-eqb, ne_eqb}
use Rattle.token.specs.Find.{both, byte}
use Rattle.token.specs.Bytes.{find_byte}
use Rattle.token.specs.Tokens.{bytes_between, step_at}
use Rattle.token.specs.declared.Cursor.{Cursor}
use Rattle.token.specs.declared.Token.{Token}
use Rattle.token.specs.declared.Step.{Step}
use Rattle.token.specs.declared.Step.TheVariants.{Found, Refused, End}
use Rattle.token.proofs.Find.{by_test}
use Rattle.token.proofs.Bytes.{both_true, both_false, byte_low}
use Rattle.token.proofs.Steps.{found_fits, bad_fits, step_past}
use Rattle.sources.specs.Lines.{named, line_start, moved_name, name_at, whole_to, after_line, line_by, line_of, hash_at, after_token, stop_n, stop_at}
use Rattle.std.specs.Prelude.{Option, Some, None}
use Rattle.sources.specs.declared.Line.{Line}
use Rattle.sources.specs.declared.Stop.{Stop}
use Rattle.sources.specs.declared.Stop.TheVariants.{At, Line as AtLine}
use Rattle.sources.proofs.Singles.{split, after_inside, after_past}
use Rattle.sources.proofs.Namings.{NameOk, named_ok, byte_high}

pub line_low : (s : List ℕ) (p : ℕ) → line_start s p ≤ p
unfolding line_start
line_low s zero = omega arith
line_low s (suc p) =
    let h = line_low s p in
    by_test (λ (q : ℕ). q ≤ suc p) (eqb (byte s p) 10) (suc p) (line_start s p) (λ _. omega arith) (λ _. omega arith)

pub length_between : (s : List ℕ) (a e : ℕ) → e ≤ length s → length (bytes_between s a e) ≡ e - a
length_between s a e h =
    let x = length-take (e - a) (drop a s) in
    let y = length-drop a s in
    omega arith

module _ (s : List ℕ) (p h : ℕ) where
  pub line_late : (a : ℕ) → a ≡ line_start s h → a < p → At 29 h ≡ line_of s p h
  unfolding line_of
  line_late a e k = rw (← e, lt-leb p a k)

  pub line_reached : (a : ℕ) → a ≡ line_start s h → whole_to (take a s) p ≡ false → At 29 h ≡ line_of s p h
  unfolding line_of
  line_reached a e k = rw (← e, k, both_false (leb p a))

  pub line_named : (a e z f t : ℕ) → a ≡ line_start s h → p ≤ a → whole_to (take a s) p ≡ true → e ≡ find_byte 10 s h →
      named (bytes_between s a e) (h - a) ≡ Some (f, t) → z ≡ after_line s e →
      AtLine (record { hash = h; start = a; from = a + f; to = a + t; after = z }) ≡ line_of s p h
  unfolding line_of
  line_named a e z f t i j k m n o = rw (← i, le-leb p a j, k, ← m, n, o)

  pub line_unnamed : (a e : ℕ) → a ≡ line_start s h → p ≤ a → whole_to (take a s) p ≡ true → e ≡ find_byte 10 s h →
      named (bytes_between s a e) (h - a) ≡ None → At 29 h ≡ line_of s p h
  unfolding line_of
  line_unnamed a e i j k m n = rw (← i, le-leb p a j, k, ← m, n)

  pub hash_is : byte s h ≡ 35 → line_of s p h ≡ hash_at s p h
  unfolding hash_at
  hash_is e = rw (eq-eqb (byte s h) 35 e)

  pub hash_other : (byte s h ≡ 35 → ⊥) → At 3 h ≡ hash_at s p h
  unfolding hash_at
  hash_other e = rw (ne_eqb (byte s h) 35 e)

-- ---- the name on an include line

module _ (s : List ℕ) (h : ℕ) where
  pub name_past : length s ≤ h → None ≡ name_at s h
  unfolding name_at
  name_past k = rw (le-ltb h (length s) k)

  pub name_there : (a e f t : ℕ) → h < length s → a ≡ line_start s h → e ≡ find_byte 10 s h → named (bytes_between s a e) (h - a) ≡ Some (f, t) →
      Some (a + f, a + t) ≡ name_at s h
  unfolding name_at moved_name
  name_there a e f t k i m n = rw (lt-ltb h (length s) k, ← i, ← m, n)

  pub name_none : (a e : ℕ) → h < length s → a ≡ line_start s h → e ≡ find_byte 10 s h → named (bytes_between s a e) (h - a) ≡ None → None ≡ name_at s h
  unfolding name_at moved_name
  name_none a e k i m n = rw (lt-ltb h (length s) k, ← i, ← m, n)

-- ---- by steps

after_same : (s : List ℕ) (p : ℕ) (f g : ℕ → Stop) (r : Step) → ((t : Token) (c : Cursor) → r ≡ Found t c → f c.at ≡ g c.at) →
    after_token r s p f ≡ after_token r s p g
after_same s p f g (Found t c) e = e t c refl
after_same s p f g (Refused q) e = refl
after_same s p f g (End n) e = refl

none_left : (s : List ℕ) (p n : ℕ) → length s ≤ p → At 0 (length s) ≡ stop_n n s p
unfolding stop_n
none_left s p zero h = refl
none_left s p (suc n) h = rw (step_past s p h)

enough : (n m : ℕ) (s : List ℕ) (p : ℕ) → length s < p + n → length s < p + m → stop_n n s p ≡ stop_n m s p
unfolding stop_n
enough zero m s p h k = none_left s p m (omega arith)
enough (suc n) zero s p h k = sym (none_left s p (suc n) (omega arith))
enough (suc n) (suc m) s p h k =
    after_same s p (stop_n n s) (stop_n m s) (step_at s p)
    (λ t c e. let o = found_fits s p t c e in enough n m s c.at (omega arith) (omega arith))

pub stop_law : (s : List ℕ) (p : ℕ) → stop_at s p ≡ after_token (step_at s p) s p (stop_at s)
unfolding stop_at stop_n
stop_law s p =
    after_same s p (stop_n (length s - p) s) (stop_at s) (step_at s p)
    (λ t c e.
    let o = found_fits s p t c e in
    enough (length s - p) (suc (length s - c.at)) s c.at (omega arith) (omega arith))

module _ (s : List ℕ) (p : ℕ) where
  pub stop_found : (t : Token) (c : Cursor) → step_at s p ≡ Found t c → stop_at s p ≡ stop_at s c.at
  stop_found t c e = stop_law s p ∙ ap (λ (r : Step). after_token r s p (stop_at s)) e

  pub stop_refused : (q : ℕ) → step_at s p ≡ Refused q → stop_at s p ≡ hash_at s p q
  stop_refused q e = stop_law s p ∙ ap (λ (r : Step). after_token r s p (stop_at s)) e

  pub stop_end : (n : ℕ) → step_at s p ≡ End n → stop_at s p ≡ At 0 (length s)
  stop_end n e = stop_law s p ∙ ap (λ (r : Step). after_token r s p (stop_at s)) e

-- ---- where it stops

-- an include line of a text, after p: its parts lie in their order inside the text, and it has at least 10 bytes
pub record LineFits (s : List ℕ) (p : ℕ) (i : Line) : Type 0 where
  pub first : p ≤ i.start
  pub hash : i.start ≤ i.hash
  pub after : i.hash + 10 ≤ i.after
  pub last : i.after ≤ length s
  pub name : i.from ≤ i.to
  pub inside : i.to ≤ length s

abbrev pub StopOk : List ℕ → ℕ → Stop → Type 0
StopOk s p (At n q) = (p ≤ q) × (q ≤ length s)
StopOk s p (AtLine i) = LineFits s p i

name_stops : (s : List ℕ) (p h a e : ℕ) → p ≤ a → a ≤ h → h < length s → e ≡ find_byte 10 s h → (x : Option (ℕ × ℕ)) → NameOk (h - a + 9) (length (bytes_between s a e)) x →
    StopOk s p (line_by s h a e x)
name_stops s p h a e j k m g (Some (f, t)) o =
    let b = byte_high 10 s h (omega arith) in
    let c = byte_low s h 10 in
    let n = length_between s a e (omega arith) in
    let z : (h + 10 ≤ after_line s e) × (after_line s e ≤ length s) =
    split e (length s)
    (λ u. let v = after_inside s e u in (omega arith, omega arith))
    (λ u. let v = after_past s e u in (omega arith, omega arith)) in
    record { first = j; hash = k; after = z.0; last = z.1; name = omega arith; inside = omega arith }
name_stops s p h a e j k m g None o = (omega arith, omega arith)

name_fits : (l : List ℕ) (h : ℕ) (x : Option (ℕ × ℕ)) → named l h ≡ x → NameOk (h + 9) (length l) x
name_fits l h (Some (f, t)) e = named_ok l h f t e
name_fits l h None e = tt

line_stops : (s : List ℕ) (p h : ℕ) → p ≤ h → h < length s → StopOk s p (line_of s p h)
unfolding line_of
line_stops s p h j k =
    by_test (StopOk s p) (both (leb p (line_start s h)) (whole_to (take (line_start s h) s) p)) _ (At 29 h)
    (λ t.
    name_stops s p h (line_start s h) (find_byte 10 s h)
    (leb-true p (line_start s h) (both_true (leb p (line_start s h)) (whole_to (take (line_start s h) s) p) t)) (line_low s h) k refl
    (named (bytes_between s (line_start s h) (find_byte 10 s h)) (h - line_start s h)) (name_fits _ _ _ refl))
    (λ _. (j, omega arith))

hash_stops : (s : List ℕ) (p h : ℕ) → p ≤ h → h < length s → StopOk s p (hash_at s p h)
unfolding hash_at
hash_stops s p h j k =
    by_test (StopOk s p) (eqb (byte s h) 35) (line_of s p h) (At 3 h) (λ _. line_stops s p h j k) (λ _. (j, omega arith))

later : (s : List ℕ) (p q : ℕ) (x : Stop) → p ≤ q → StopOk s q x → StopOk s p x
later s p q (At n r) h o = (omega arith, o.1)
later s p q (AtLine i) h o = record { first = omega arith; hash = o.hash; after = o.after; last = o.last; name = o.name; inside = o.inside }

step_stops : (n : ℕ) (s : List ℕ) (p : ℕ) → length s < p + n → p ≤ length s → (r : Step) → step_at s p ≡ r →
    ((t : Token) (c : Cursor) → step_at s p ≡ Found t c → StopOk s c.at (stop_at s c.at)) → StopOk s p (after_token r s p (stop_at s))
step_stops n s p h k (Found t c) e f = let o = found_fits s p t c e in later s p c.at (stop_at s c.at) (omega arith) (f t c e)
step_stops n s p h k (Refused q) e f = let o = bad_fits s p q e in hash_stops s p q o.0 o.1
step_stops n s p h k (End m) e f = (k, omega arith)

stops : (n : ℕ) (s : List ℕ) (p : ℕ) → length s < p + n → p ≤ length s → StopOk s p (stop_at s p)
stops zero s p h k = absurd (omega arith)
stops (suc n) s p h k =
    subst (StopOk s p) (sym (stop_law s p))
    (step_stops (suc n) s p h k (step_at s p) refl
    (λ t c e. let o = found_fits s p t c e in stops n s c.at (omega arith) o.inside))

pub stop_ok : (s : List ℕ) (p : ℕ) → p ≤ length s → StopOk s p (stop_at s p)
stop_ok s p h = stops (suc (length s)) s p (omega arith) h
