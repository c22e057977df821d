-- The lent buffer with other bytes of one text: names and all other texts stay. Assumes nothing.
use mathlib.Core.Path.{◌≡◌, refl, sym, ◌∙◌, ap, ap₂, subst}
use mathlib.Core.List.{List, [], ◌∷◌, ◌++◌, append_assoc}
use mathlib.Core.Bool.{Bool, true, false}
use Prim.Native.Nat.{ℕ, zero, suc, ◌+◌, ◌-◌, ◌≤◌}
use native.Mathlib.Omega.{arith}
use lib.ListN.{length, length-append, get_or, take, drop}
use lib.Seq.{drop-append-add}
use lib.Dec.{leb, eqb}
use Rattle.token.specs.Find.{pick, both}
use Rattle.token.specs.Words.{same}
use Rattle.token.specs.Tokens.{bytes_between}
use Rattle.token.proofs.Find.{by_test}
use Rattle.channels.proofs.Exchange.{part_is}
use Rattle.sources.proofs.Numberings.{same_number, same_from, same_to}
use Rattle.sources.specs.Texts.{fitting, told_well, find_from, find_name, include_by, include_of, event_by, event_at}
use Rattle.sources.specs.Numbering.{span_from, span_of}
use Rattle.sources.specs.Lines.{stop_at}
use Rattle.sources.specs.Expanding.{main_text}
use Rattle.sources.specs.declared.Line.{Line}
use Rattle.sources.specs.declared.Stop.{Stop}
use Rattle.sources.specs.declared.Stop.TheVariants.{At, Line as AtLine}
use Rattle.std.specs.Prelude.{Option, Some, None}
use Rattle.sources.specs.declared.Include.{Include}
use Rattle.sources.specs.declared.Event.{Event}
use Rattle.sources.specs.declared.Event.TheVariants.{Stop as Stops, Include as Includes}
use Rattle.channels_texts.specs.Lent.{IsText}
use Rattle.channels_texts.proofs.Stopping.{between_same}

-- Told lengths count by the buffer's length alone.
fitting_same : (b k l : List ℕ) (a : ℕ) → length b ≡ length k → fitting b a l ≡ fitting k a l
unfolding fitting
fitting_same b k [] a e = refl
fitting_same b k (n ∷ []) a e = refl
fitting_same b k (n ∷ t ∷ l) a e =
    ap₂ (λ (x : ℕ) z. both (leb n (x - a)) (both (leb t (x - (a + n))) (both (leb t 65535) z))) e (fitting_same b k l (a + n + t) e)

pub told_same : (b k l : List ℕ) → length b ≡ length k → told_well b l ≡ told_well k l
unfolding told_well
told_same b k l e = ap (λ z. both (leb 1 (length l)) (both (leb (length l) 16) z)) (fitting_same b k l 0 e)

no_hit : {A : Type 0} {n f e : ℕ} → ◌≡◌ {A = Option (ℕ × ℕ × ℕ)} None (Some (n, f, e)) → A
no_hit h = absurd (let z : ◌≡◌ {A = ℕ} 0 1 = cc in omega arith)

module _ (P S T Q : List ℕ) (as_long : length S ≡ length T) where
  abbrev pub b : List ℕ
  b = P ++ (S ++ Q)

  abbrev pub k : List ℕ
  k = P ++ (T ++ Q)

  pub buffers : length b ≡ length k
  buffers =
      length-append P (S ++ Q) ∙ ap (length P +◌) (length-append S Q ∙ ap (◌+ length Q) as_long ∙ sym (length-append T Q)) ∙ sym (length-append P (T ++ Q))

  below : (f e : ℕ) → f ≤ e → e ≤ length P → bytes_between b f e ≡ bytes_between k f e
  below f e i j = between_same P (S ++ Q) (T ++ Q) f e i j

  drop_above : (R : List ℕ) (f : ℕ) → length P + length R ≤ f → drop f (P ++ (R ++ Q)) ≡ drop (f - (length P + length R)) Q
  drop_above R f h =
      let n = length-append P R in
      let z : f ≡ length (P ++ R) + (f - (length P + length R)) = omega arith in
      ap₂ (λ (i : ℕ) (u : List ℕ). drop i u) z (sym (append_assoc P R Q)) ∙ drop-append-add (P ++ R) Q (f - (length P + length R))

  above : (f e : ℕ) → length P + length S ≤ f → bytes_between b f e ≡ bytes_between k f e
  above f e h =
      let w = as_long in
      ap (take (e - f)) (drop_above S f h ∙ ap (λ (n : ℕ). drop (f - (length P + n)) Q) as_long ∙ sym (drop_above T f (omega arith)))

  -- Where text j stands: it is s itself, which is text n, or before it, or after it.
  pub data Region (n j f e : ℕ) : Type 0 where
    is_own : j ≡ n → f ≡ length P → e ≡ length P + length S → Region n j f e
    is_below : f ≤ e → e ≤ length P → Region n j f e
    is_above : length P + length S ≤ f → Region n j f e

  pub own_text : bytes_between b (length P) (length P + length S) ≡ S
  own_text = part_is P S Q (length P) (length P + length S) refl refl

  pub own_other : bytes_between k (length P) (length P + length S) ≡ T
  own_other = part_is P T Q (length P) (length P + length S) refl (ap (length P +◌) as_long)

  pub below_same : (f e : ℕ) → f ≤ e → e ≤ length P → bytes_between k f e ≡ bytes_between b f e
  below_same f e i j = sym (below f e i j)

  pub above_same : (f e : ℕ) → length P + length S ≤ f → bytes_between k f e ≡ bytes_between b f e
  above_same f e h = sym (above f e h)

  names_above : (l : List ℕ) (n a : ℕ) (w : List ℕ) → length P + length S ≤ a → find_from b n a l w ≡ find_from k n a l w
  unfolding find_from
  names_above [] n a w h = refl
  names_above (x ∷ []) n a w h = refl
  names_above (x ∷ t ∷ l) n a w h =
      ap₂ (λ (z : List ℕ) (r : Option (ℕ × ℕ × ℕ)). pick (same z w) (Some (n, a + x, a + x + t)) r) (above a (a + x) h) (names_above l (suc n) (a + x + t) w (omega arith))

  texts_above : (i : ℕ) (l : List ℕ) (n a : ℕ) (w : List ℕ) (j f e : ℕ) → length P + length S ≤ a → find_from b n a l w ≡ Some (j, f, e) → Region i j f e
  unfolding find_from
  texts_above i [] n a w j f e h g = no_hit g
  texts_above i (x ∷ []) n a w j f e h g = no_hit g
  texts_above i (x ∷ t ∷ l) n a w j f e h g =
      by_test (λ (r : Option (ℕ × ℕ × ℕ)). r ≡ Some (j, f, e) → Region i j f e) (same (bytes_between b a (a + x)) w) (Some (n, a + x, a + x + t)) (find_from b (suc n) (a + x + t) l w)
      (λ _ u. let z = same_from u in is_above (omega arith)) (λ _ u. texts_above i l (suc n) (a + x + t) w j f e (omega arith) u) g

  span_low : (l : List ℕ) (n a i f e : ℕ) → span_from n a l i ≡ Some (n, f, e) → a ≤ f
  unfolding span_from
  span_low [] n a i f e h = no_hit h
  span_low (x ∷ []) n a i f e h = no_hit h
  span_low (x ∷ t ∷ l) n a zero f e h = let z = same_from h in omega arith
  span_low (x ∷ t ∷ l) n a (suc i) f e h = let z = span_low l n (a + x + t) i f e h in omega arith

  names_same : (l : List ℕ) (n m a i : ℕ) (w : List ℕ) → span_from n a l i ≡ Some (n, length P, length P + length S) → find_from b m a l w ≡ find_from k m a l w
  unfolding find_from span_from
  names_same [] n m a i w h = no_hit h
  names_same (x ∷ []) n m a i w h = no_hit h
  names_same (x ∷ t ∷ l) n m a zero w h =
      let y = same_from h in
      let z = same_to h in
      ap₂ (λ (u : List ℕ) (r : Option (ℕ × ℕ × ℕ)). pick (same u w) (Some (m, a + x, a + x + t)) r) (below a (a + x) (omega arith) (omega arith)) (names_above l (suc m) (a + x + t) w (omega arith))
  names_same (x ∷ t ∷ l) n m a (suc i) w h =
      let z = span_low l n (a + x + t) i (length P) (length P + length S) h in
      ap₂ (λ (u : List ℕ) (r : Option (ℕ × ℕ × ℕ)). pick (same u w) (Some (m, a + x, a + x + t)) r) (below a (a + x) (omega arith) (omega arith)) (names_same l n (suc m) (a + x + t) i w h)

  texts_there : (l : List ℕ) (n m a i : ℕ) (w : List ℕ) (j f e : ℕ) → m + i ≡ n → span_from n a l i ≡ Some (n, length P, length P + length S) → find_from b m a l w ≡ Some (j, f, e) → Region n j f e
  unfolding find_from span_from
  texts_there [] n m a i w j f e c h g = no_hit g
  texts_there (x ∷ []) n m a i w j f e c h g = no_hit g
  texts_there (x ∷ t ∷ l) n m a zero w j f e c h g =
      let y = same_from h in
      let z = same_to h in
      by_test (λ (r : Option (ℕ × ℕ × ℕ)). r ≡ Some (j, f, e) → Region n j f e) (same (bytes_between b a (a + x)) w) (Some (m, a + x, a + x + t)) (find_from b (suc m) (a + x + t) l w)
      (λ _ u. let d = same_number u in is_own (omega arith) (sym (same_from u) ∙ y) (sym (same_to u) ∙ z)) (λ _ u. texts_above n l (suc m) (a + x + t) w j f e (omega arith) u) g
  texts_there (x ∷ t ∷ l) n m a (suc i) w j f e c h g =
      let z = span_low l n (a + x + t) i (length P) (length P + length S) h in
      by_test (λ (r : Option (ℕ × ℕ × ℕ)). r ≡ Some (j, f, e) → Region n j f e) (same (bytes_between b a (a + x)) w) (Some (m, a + x, a + x + t)) (find_from b (suc m) (a + x + t) l w)
      (λ _ u. let q = same_from u in let d = same_to u in is_below (omega arith) (omega arith)) (λ _ u. texts_there l n (suc m) (a + x + t) i w j f e (omega arith) h u) g

  main_there : (l : List ℕ) (n i : ℕ) → i ≡ n → span_from n 0 l i ≡ Some (n, length P, length P + length S) → Region n 0 (get_or l 0 0) (get_or l 0 0 + get_or l 1 0)
  unfolding span_from
  main_there [] n i c h = no_hit h
  main_there (x ∷ []) n i c h = no_hit h
  main_there (x ∷ t ∷ l) n zero c h = let y = same_from h in let z = same_to h in is_own c (let u : x ≡ length P = omega arith in u) (let u : x + t ≡ length P + length S = omega arith in u)
  main_there (x ∷ t ∷ l) n (suc i) c h = let z = span_low l n (0 + x + t) i (length P) (length P + length S) h in is_below (let u : x ≤ x + t = omega arith in u) (let u : x + t ≤ length P = omega arith in u)

  module _ (l : List ℕ) (n : ℕ) (is : IsText P S l n) where
    name_same : (w : List ℕ) → find_name b l w ≡ find_name k l w
    unfolding find_name span_of
    name_same w = names_same l n 0 0 n w is

    -- What an include line includes.
    pub include_same : (s u o : List ℕ) (i : Line) → bytes_between s i.from i.to ≡ bytes_between u i.from i.to → include_of b l s o i ≡ include_of k l u o i
    unfolding include_of
    include_same s u o i e = ap (include_by o i) (name_same (bytes_between s i.from i.to) ∙ ap (find_name k l) e)

    pub event_same : (s o : List ℕ) (x : Stop) → event_by b l s o x ≡ event_by k l s o x
    event_same s o (At m q) = refl
    event_same s o (AtLine i) = include_same s s o i refl

    include_region : (o : List ℕ) (i : Line) (h : Option (ℕ × ℕ × ℕ)) (w : List ℕ) → find_name b l w ≡ h → (j : Include) → include_by o i h ≡ Includes j → Region n j.number j.from j.to
    unfolding find_name span_of
    include_region o i (Some (m, f, e)) w g j u =
        by_test (λ (x : Event). x ≡ Includes j → Region n j.number j.from j.to) (eqb (get_or o m 0) 1) (Stops 27 i.hash) _
        (λ _ v. absurd (let z : ◌≡◌ {A = ℕ} 0 1 = cc in omega arith))
        (λ _ v.
        let z : record { number = m; from = f; to = e; hash = i.hash; start = i.start; after = i.after } ≡ j = cc in
        subst (λ (y : Include). Region n y.number y.from y.to) z (texts_there l n 0 0 n w m f e (let q : 0 + n ≡ n = omega arith in q) is g)) u
    include_region o i None w g j u = absurd (let z : ◌≡◌ {A = ℕ} 0 1 = cc in omega arith)

    -- Where an included text stands.
    pub event_region : (s o : List ℕ) (x : Stop) (j : Include) → event_by b l s o x ≡ Includes j → Region n j.number j.from j.to
    unfolding include_of
    event_region s o (At m q) j e = absurd (let z : ◌≡◌ {A = ℕ} 0 1 = cc in omega arith)
    event_region s o (AtLine i) j e = include_region o i (find_name b l (bytes_between s i.from i.to)) (bytes_between s i.from i.to) refl j e

    pub main_region : Region n 0 (get_or l 0 0) (get_or l 0 0 + get_or l 1 0)
    unfolding span_of
    main_region = main_there l n n refl is

-- Which line it is.
pub record FromLine (s : List ℕ) (x : Stop) (j : Include) : Type 0 where
  pub line : Line
  pub stops : x ≡ AtLine line
  pub start : j.start ≡ line.start
  pub after : j.after ≡ line.after

line_of : (o : List ℕ) (i : Line) (h : Option (ℕ × ℕ × ℕ)) (j : Include) → include_by o i h ≡ Includes j → (j.start ≡ i.start) × (j.after ≡ i.after)
line_of o i (Some (m, f, e)) j u =
    by_test (λ (x : Event). x ≡ Includes j → (j.start ≡ i.start) × (j.after ≡ i.after)) (eqb (get_or o m 0) 1) (Stops 27 i.hash) _
    (λ _ v. absurd (let z : ◌≡◌ {A = ℕ} 0 1 = cc in omega arith))
    (λ _ v.
    let z : j ≡ record { number = m; from = f; to = e; hash = i.hash; start = i.start; after = i.after } = cc in
    (ap (λ (y : Include). y.start) z, ap (λ (y : Include). y.after) z)) u
line_of o i None j u = absurd (let z : ◌≡◌ {A = ℕ} 0 1 = cc in omega arith)

pub from_line : (b l s o : List ℕ) (x : Stop) (j : Include) → event_by b l s o x ≡ Includes j → FromLine s x j
unfolding include_of
from_line b l s o (At m q) j e = absurd (let z : ◌≡◌ {A = ℕ} 0 1 = cc in omega arith)
from_line b l s o (AtLine i) j e = let r = line_of o i (find_name b l (bytes_between s i.from i.to)) j e in record { line = i; stops = refl; start = r.0; after = r.1 }

-- An end without a fault is the end.
faults : (o : List ℕ) (i : Line) (h : Option (ℕ × ℕ × ℕ)) (n q : ℕ) → include_by o i h ≡ Stops n q → n ≡ 0 → ⊥
faults o i (Some (m, f, e)) n q u g =
    by_test (λ (x : Event). x ≡ Stops n q → ⊥) (eqb (get_or o m 0) 1) (Stops 27 i.hash) _ (λ _ v. let z : ◌≡◌ {A = ℕ} 27 n = cc in omega arith)
    (λ _ v. let z : ◌≡◌ {A = ℕ} 0 1 = cc in omega arith) u
faults o i None n q u g = let z : ◌≡◌ {A = ℕ} 28 n = cc in omega arith

pub end_only : (b l s o : List ℕ) (x : Stop) (n q : ℕ) → event_by b l s o x ≡ Stops n q → n ≡ 0 → x ≡ At n q
unfolding include_of
end_only b l s o (At m r) n q e g = cc
end_only b l s o (AtLine i) n q e g = absurd (faults o i (find_name b l (bytes_between s i.from i.to)) n q e g)
