-- Where two objects of a lent text are exchanged, they are exchanged in the expanded text, wherever that text is included. Assumes nothing.
use mathlib.Core.Path.{◌≡◌, refl, sym, ◌∙◌, ap, ap₂, subst, subst₂}
use mathlib.Core.List.{List, [], ◌∷◌, ◌++◌, append_assoc, append-nil}
use mathlib.Core.Bool.{true}
use Prim.Native.Nat.{ℕ, zero, suc, ◌+◌, ◌-◌, ◌*◌, ◌≤◌, ◌<◌}
use native.Mathlib.Omega.{arith}
use lib.ListN.{length, length-append, length-drop, get_or, get_or-append, take, drop}
use lib.Seq.{drop-append-le, drop-append-add, drop-append_seam, drop-drop, get_or-drop}
use Rattle.token.specs.Find.{byte}
use Rattle.token.specs.Tokens.{bytes_between}
use Rattle.locality.proofs.Join.{part_long}
use Rattle.channels.proofs.Exchange.{part_is}
use Rattle.channels.proofs.Many.{two_parts}
use Rattle.sources.specs.Lines.{stop_at}
use Rattle.sources.specs.Texts.{told_well, include_of, event_by, event_at}
use Rattle.sources.specs.Expanding.{Piece, up_from, origin, onto, onto_part, stopped, onto_end, with_rest, main_open, main_text, expanded}
use Rattle.sources.specs.declared.Line.{Line}
use Rattle.sources.specs.declared.Stop.{Stop}
use Rattle.sources.specs.declared.Stop.TheVariants.{At, Line as AtLine}
use Rattle.sources.specs.declared.Include.{Include}
use Rattle.sources.specs.declared.Event.{Event}
use Rattle.sources.specs.declared.Event.TheVariants.{Stop as Stops, Include as Includes}
use Rattle.sources.proofs.Stops.{StopOk, stop_ok}
use Rattle.sources.proofs.Events.{IncludeFits, EventOk, event_ok}
use Rattle.including.specs.Expansions.{Expands, as_it_stands, with_text, with_fault}
use Rattle.including.proofs.Expanding.{expansions}
use Rattle.channels_texts.specs.Lent.{GoesOn, at_start, after_line, InText, IsText, Replaced, no_more, here, ExpansionExchanged}
use Rattle.channels_texts.proofs.Stopping.{stop_front, stop_own, between_same, name_from}
use Rattle.channels_texts.proofs.Passing.{Alike, alike}
use Rattle.channels_texts.proofs.Lending.{told_same, buffers, Region, is_own, is_below, is_above, own_text, own_other, below_same, above_same, include_same, event_same, event_region, main_region, from_line, end_only}

-- Replacing ------------------------------------------------------------------------------------------------------------------------------------

module _ {o : ℕ} {v w : List ℕ} where
  replaced_front : {r r' : List ℕ} (O g : List ℕ) → Replaced o v w (drop (length g) O) r r' → Replaced o v w O (g ++ r) (g ++ r')
  replaced_front O g (no_more _ r) = no_more O (g ++ r)
  replaced_front O g (here _ f r r' e i) =
      let n = length-append g f in
      let d : drop (length f + length v) (drop (length g) O) ≡ drop (length (g ++ f) + length v) O =
      drop-drop (length f + length v) (length g) O ∙ ap (λ (j : ℕ). drop j O) (let q : length g + (length f + length v) ≡ length (g ++ f) + length v = omega arith in q) in
      subst₂ (Replaced o v w O) (append_assoc g f (v ++ r)) (append_assoc g f (w ++ r'))
      (here O (g ++ f) r r' (ap (λ (j : ℕ). get_or O j 0) n ∙ sym (get_or-drop (length g) O (length f) 0) ∙ e) (subst (λ (O' : List ℕ). Replaced o v w O' r r') d i))

  replaced_both : {g g' r r' : List ℕ} (O : List ℕ) → Replaced o v w O g g' → Replaced o v w (drop (length g) O) r r' → Replaced o v w O (g ++ r) (g' ++ r')
  replaced_both O (no_more _ g) e = replaced_front O g e
  replaced_both {r = r} {r' = r'} O (here _ f g g' h i) e =
      let n₁ = length-append f (v ++ g) in
      let n₂ = length-append v g in
      let d : drop (length (f ++ (v ++ g))) O ≡ drop (length g) (drop (length f + length v) O) =
      sym (drop-drop (length g) (length f + length v) O ∙ ap (λ (j : ℕ). drop j O) (let q : (length f + length v) + length g ≡ length (f ++ (v ++ g)) = omega arith in q)) in
      subst₂ (Replaced o v w O) (sym (append_assoc f (v ++ g) r ∙ ap (f ++◌) (append_assoc v g r))) (sym (append_assoc f (w ++ g') r' ∙ ap (f ++◌) (append_assoc w g' r')))
      (here O f (g ++ r) (g' ++ r') h (replaced_both (drop (length f + length v) O) i (subst (λ (O' : List ℕ). Replaced o v w O' r r') d e)))

  -- More origins after those of the text.
  replaced_more : {g g' : List ℕ} (O R : List ℕ) → 0 < length v → length O ≡ length g → Replaced o v w O g g' → Replaced o v w (O ++ R) g g'
  replaced_more O R p h (no_more _ g) = no_more (O ++ R) g
  replaced_more O R p h (here _ f g g' e i) =
      let n₁ = length-append f (v ++ g) in
      let n₂ = length-append v g in
      let n₃ = length-drop (length f + length v) O in
      here (O ++ R) f g g' (get_or-append O R 0 (length f) (omega arith) ∙ e)
      (subst (λ (O' : List ℕ). Replaced o v w O' g g') (sym (drop-append-le (length f + length v) O R (omega arith))) (replaced_more (drop (length f + length v) O) R p (omega arith) i))

-- Origins --------------------------------------------------------------------------------------------------------------------------------------

pub up_long : (A n : ℕ) → length (up_from A n) ≡ n
unfolding up_from
up_long A zero = refl
up_long A (suc n) = ap suc (up_long (suc A) n)

up_at : (A n q : ℕ) → q < n → get_or (up_from A n) q 0 ≡ A + q
unfolding up_from
up_at A zero q h = absurd (omega arith)
up_at A (suc n) zero h = let z : A ≡ A + 0 = omega arith in z
up_at A (suc n) (suc q) h = up_at (suc A) n q (omega arith) ∙ (let z : suc A + q ≡ A + suc q = omega arith in z)

-- The origins O begin with those of text j from p up to e.
abbrev pub Begins : List ℕ → (j p e : ℕ) → Type 0
Begins O j p e = (q : ℕ) → p + q < e → get_or O q 0 ≡ origin j (p + q)

pub begins_up : (R : List ℕ) (j p e : ℕ) → Begins (up_from (origin j p) (e - p) ++ R) j p e
unfolding origin
begins_up R j p e q h =
    let n = up_long (origin j p) (e - p) in
    get_or-append (up_from (origin j p) (e - p)) R 0 q (omega arith) ∙ up_at (origin j p) (e - p) q (omega arith) ∙ (let z : (j * 65536 + p) + q ≡ j * 65536 + (p + q) = omega arith in z)

pub begins_own : (j p e : ℕ) → Begins (up_from (origin j p) (e - p)) j p e
begins_own j p e q h = sym (ap (λ (O : List ℕ). get_or O q 0) (append-nil (up_from (origin j p) (e - p)))) ∙ begins_up [] j p e q h

-- The include lines -----------------------------------------------------------------------------------------------------------------------------

-- Those of S from p on up to the place `from`.
pub data Leads (S : List ℕ) (from : ℕ) : ℕ → Type 0 where
  reached : (p : ℕ) → p ≡ from → Leads S from p
  leads : (p : ℕ) (j : Line) → stop_at S p ≡ AtLine j → j.after ≤ from → Leads S from j.after → Leads S from p

goes_inside : (S : List ℕ) {p : ℕ} → GoesOn S p → p ≤ length S
goes_inside S at_start = omega arith
goes_inside S (after_line p j g e) = (subst (λ (q : Stop). StopOk S p q) e (stop_ok S p (goes_inside S g))).last

leads_back : (S : List ℕ) (from : ℕ) {p : ℕ} → GoesOn S p → p ≤ from → Leads S from p → Leads S from 0
leads_back S from at_start h r = r
leads_back S from (after_line p j g e) h r =
    let f = subst (λ (q : Stop). StopOk S p q) e (stop_ok S p (goes_inside S g)) in
    let f₁ = f.first in
    let f₂ = f.hash in
    let f₃ = f.after in
    leads_back S from g (omega arith) (leads p j e h r)

pub leads_first : (S : List ℕ) (from : ℕ) → GoesOn S from → Leads S from 0
leads_first S from g = leads_back S from g (omega arith) (reached from refl)

module _ (P a x m y c Q l : List ℕ) (n : ℕ) where
  abbrev S : List ℕ
  S = a ++ (x ++ (m ++ (y ++ c)))

  abbrev T : List ℕ
  T = a ++ (y ++ (m ++ (x ++ c)))

  abbrev v : List ℕ
  v = x ++ (m ++ y)

  abbrev w : List ℕ
  w = y ++ (m ++ x)

  abbrev b : List ℕ
  b = P ++ (S ++ Q)

  abbrev k : List ℕ
  k = P ++ (T ++ Q)

  -- Where the exchanged objects end.
  abbrev z : ℕ
  z = length a + (length x + (length m + length y))

  pub by_v : S ≡ a ++ (v ++ c)
  by_v = ap (a ++◌) (sym (append_assoc x (m ++ y) c ∙ ap (x ++◌) (append_assoc m y c)))

  by_w : T ≡ a ++ (w ++ c)
  by_w = ap (a ++◌) (sym (append_assoc y (m ++ x) c ∙ ap (y ++◌) (append_assoc m x c)))

  pub v_long : length v ≡ length x + (length m + length y)
  v_long = length-append x (m ++ y) ∙ ap (length x +◌) (length-append m y)

  w_long : length w ≡ length x + (length m + length y)
  w_long = let i = length-append y (m ++ x) in let j = length-append m x in omega arith

  pub S-long : length S ≡ z + length c
  S-long = let i = v_long in let j = length-append v c in ap length by_v ∙ length-append a (v ++ c) ∙ (let q : length a + length (v ++ c) ≡ z + length c = omega arith in q)

  T-long : length T ≡ z + length c
  T-long = let i = w_long in let j = length-append w c in ap length by_w ∙ length-append a (w ++ c) ∙ (let q : length a + length (w ++ c) ≡ z + length c = omega arith in q)

  as_long : length S ≡ length T
  as_long = S-long ∙ sym T-long

  -- Bytes after the objects are the same.
  drop_later : (u : List ℕ) → length u ≡ length x + (length m + length y) → (q : ℕ) → drop (z + q) (a ++ (u ++ c)) ≡ drop q c
  drop_later u h q =
      let i = length-append a u in
      let e : z + q ≡ length (a ++ u) + q = omega arith in
      ap₂ (λ (j : ℕ) (t : List ℕ). drop j t) e (sym (append_assoc a u c)) ∙ drop-append-add (a ++ u) c q

  later_bytes : (f e : ℕ) → z ≤ f → bytes_between S f e ≡ bytes_between T f e
  later_bytes f e h =
      let i : f ≡ z + (f - z) = omega arith in
      ap (λ (t : List ℕ). take (e - f) t)
      (ap₂ (λ (j : ℕ) (t : List ℕ). drop j t) i by_v ∙ drop_later v v_long (f - z) ∙ sym (ap₂ (λ (j : ℕ) (t : List ℕ). drop j t) i by_w ∙ drop_later w w_long (f - z)))

  -- Bytes from before the objects to after them.
  module _ (p e : ℕ) (low : p ≤ length a) (high : z ≤ e) (inside : e ≤ length S) where
    pub parts_of : (u t : List ℕ) → t ≡ a ++ (u ++ c) → length u ≡ length x + (length m + length y) → length t ≡ length S
        → bytes_between t p e ≡ bytes_between a p (length a) ++ (u ++ bytes_between t z e)
    parts_of u t h i j =
        let A = length a in
        let o : bytes_between t A z ≡ u = ap (λ (q : List ℕ). bytes_between q A z) h ∙ part_is a u c A z refl (let q : z ≡ length a + length u = omega arith in q) in
        sym (two_parts t p A e low (omega arith) (omega arith))
        ∙ ap₂ ◌++◌ (ap (λ (q : List ℕ). bytes_between q p A) h ∙ front-part (u ++ c)) (sym (two_parts t A z e (omega arith) high (omega arith)) ∙ ap (◌++ bytes_between t z e) o)
      where
        front-part : (r : List ℕ) → bytes_between (a ++ r) p (length a) ≡ bytes_between a p (length a)
        front-part r = between_same a r [] p (length a) low (omega arith) ∙ ap (λ (q : List ℕ). bytes_between q p (length a)) (append-nil a)

    across : (O : List ℕ) → 0 < length x → Begins O n p e → Replaced (origin n (length a)) v w O (bytes_between S p e) (bytes_between T p e)
    across O some h =
        let i : length (bytes_between a p (length a)) ≡ length a - p = part_long a p (length a) low (omega arith) in
        let q : p + (length a - p) ≡ length a = omega arith in
        subst₂ (Replaced (origin n (length a)) v w O) (sym (parts_of v S by_v v_long refl)) (sym (parts_of w T by_w w_long (sym as_long) ∙ ap (λ (q : List ℕ). bytes_between a p (length a) ++ (w ++ q)) (sym (later_bytes z e (omega arith)))))
        (here O (bytes_between a p (length a)) (bytes_between S z e) (bytes_between S z e) (ap (λ (j : ℕ). get_or O j 0) i ∙ h (length a - p) (omega arith) ∙ ap (origin n) q) (no_more _ (bytes_between S z e)))

  part_same : (p e : ℕ) → p ≤ e → e ≤ length S → length (bytes_between T p e) ≡ length (bytes_between S p e)
  part_same p e h i = let j = as_long in part_long T p e h (omega arith) ∙ sym (part_long S p e h i)

  module _ (told : told_well b l ≡ true) (is : IsText P S l n) (i : InText a x m y c) where
    abbrev from : ℕ
    from = i.from

    same : Alike a x m y c from
    same = alike a x m y c i

    pub x_some : 0 < length x
    x_some = some x i.one_semicolon
      where
        some : (t : List ℕ) → byte t (length t - 1) ≡ 59 → 0 < length t
        some [] e = absurd (let q : ◌≡◌ {A = ℕ} 0 59 = e in omega arith)
        some (j ∷ t) e = omega arith

    -- A text of the expansion, and what stands in its stead.
    data Text (j : ℕ) (s u : List ℕ) (p : ℕ) : Type 0 where
      other : u ≡ s → Text j s u p
      before : j ≡ n → s ≡ S → u ≡ T → Leads S from p → Text j s u p
      behind : s ≡ S → u ≡ T → z ≤ p → Text j s u p

    text_of : (j f e : ℕ) → Region P S T Q as_long n j f e → Text j (bytes_between b f e) (bytes_between k f e) 0
    text_of j f e (is_own d g h) =
        before d (ap₂ (bytes_between b) g h ∙ own_text P S T Q as_long) (ap₂ (bytes_between k) g h ∙ own_other P S T Q as_long) (leads_first S from i.goes_on)
    text_of j f e (is_below g h) = other (below_same P S T Q as_long f e g h)
    text_of j f e (is_above g) = other (above_same P S T Q as_long f e g)

    -- At an include line -------------------------------------------------------------------------------------------------------------------------

    record Next (d : ℕ) (o s u : List ℕ) (p : ℕ) (j : Include) : Type 0 where
      event : event_at k l u o p ≡ Includes j
      text : Text d s u j.after
      replaced : (O : List ℕ) → Begins O d p j.start → Replaced (origin n (length a)) v w O (bytes_between s p j.start) (bytes_between u p j.start)
      long : length (bytes_between u p j.start) ≡ length (bytes_between s p j.start)

    next_other : (d : ℕ) (o s u : List ℕ) (p : ℕ) (j : Include) → u ≡ s → event_at b l s o p ≡ Includes j → Next d o s u p j
    unfolding event_at
    next_other d o s u p j e f =
        subst (λ (t : List ℕ). Next d o s t p j) (sym e)
        (record { event = sym (event_same P S T Q as_long l n is s o (stop_at s p)) ∙ f; text = other refl; replaced = λ O h. no_more O (bytes_between s p j.start); long = refl })

    -- The same line in both.
    both_lines : (o : List ℕ) (p : ℕ) (j : Include) (t : Line) → stop_at S p ≡ AtLine t → stop_at T p ≡ AtLine t → bytes_between S t.from t.to ≡ bytes_between T t.from t.to
        → event_at b l S o p ≡ Includes j → event_at k l T o p ≡ Includes j
    unfolding event_at
    both_lines o p j t e f g h =
        ap (event_by k l T o) f ∙ sym (include_same P S T Q as_long l n is S T o t g) ∙ sym (ap (event_by b l S o) e) ∙ h

    -- Behind the objects.
    next_late : (d : ℕ) (o : List ℕ) (p q : ℕ) (j : Include) → q ≤ length S → p ≤ q → z ≤ q → stop_at S p ≡ stop_at S q → stop_at S p ≡ stop_at T p
        → ((O : List ℕ) → Begins O d p j.start → Replaced (origin n (length a)) v w O (bytes_between S p j.start) (bytes_between T p j.start)) → event_at b l S o p ≡ Includes j
        → Next d o S T p j
    unfolding event_at
    next_late d₀ o p q j g h e d t r f =
        let r' = from_line b l S o (stop_at S p) j f in
        let t' = r'.line in
        let k₁ = subst (λ (u : Stop). StopOk S q u) (sym d ∙ r'.stops) (stop_ok S q g) in
        let k₂ = k₁.first in
        let k₃ = k₁.hash in
        let k₄ = k₁.after in
        let k₅ = k₁.last in
        let k₆ = name_from S p t' r'.stops in
        let s₁ = r'.start in
        let s₂ = r'.after in
        record {
          event = both_lines o p j t' r'.stops (sym t ∙ r'.stops) (later_bytes t'.from t'.to (omega arith)) f;
          text = behind refl refl (omega arith);
          replaced = r;
          long = part_same p j.start (omega arith) (omega arith);
        }

    pub start_high : (o : List ℕ) (p q : ℕ) (j : Include) → q ≤ length S → stop_at S p ≡ stop_at S q → event_at b l S o p ≡ Includes j → (q ≤ j.start) × (j.start ≤ length S)
    unfolding event_at
    start_high o p q j g d f =
        let r = from_line b l S o (stop_at S p) j f in
        let k₁ = subst (λ (u : Stop). StopOk S q u) (sym d ∙ r.stops) (stop_ok S q g) in
        let k₂ = k₁.first in
        let k₃ = k₁.hash in
        let k₄ = k₁.after in
        let k₅ = k₁.last in
        let s₁ = r.start in
        (omega arith, omega arith)

    pub z_inside : z ≤ length S
    z_inside = let h = S-long in omega arith

    next_own : (d : ℕ) (o : List ℕ) (p : ℕ) (j : Include) → d ≡ n → Leads S from p → p ≤ length S → event_at b l S o p ≡ Includes j → Next d o S T p j
    unfolding event_at
    next_own d₀ o p j own (reached _ e) h f =
        let lo = i.low in
        let d : stop_at S p ≡ stop_at S z = ap (stop_at S) e ∙ same.past in
        let t : stop_at S p ≡ stop_at T p = ap (stop_at S) e ∙ same.exchanged ∙ ap (stop_at T) (sym e) in
        let g = start_high o p z j z_inside d f in
        let zi = z_inside in
        next_late d₀ o p z j z_inside (omega arith) (omega arith) d t (λ O c'. across p j.start (omega arith) g.0 g.1 O x_some (subst (λ (i : ℕ). Begins O i p j.start) own c')) f
    next_own d₀ o p j own' (leads _ t e g r) h f =
        let lo = i.low in
        let q = from_line b l S o (stop_at S p) j f in
        let same_line : AtLine q.line ≡ AtLine t = sym q.stops ∙ e in
        let s : q.line ≡ t = cc in
        let s₁ : j.start ≡ t.start = q.start ∙ ap (λ (u : Line). u.start) s in
        let s₂ : j.after ≡ t.after = q.after ∙ ap (λ (u : Line). u.after) s in
        let some : 0 < length (x ++ (m ++ (y ++ c))) = (let c₁ = x_some in let c₂ = length-append x (m ++ (y ++ c)) in omega arith) in
        let e' : stop_at T p ≡ AtLine t = stop_front a (x ++ (m ++ (y ++ c))) (y ++ (m ++ (x ++ c))) p t e (omega arith) some in
        let k₁ = subst (λ (u : Stop). StopOk S p u) e (stop_ok S p h) in
        let k₂ = k₁.first in
        let k₃ = k₁.hash in
        let k₄ = k₁.after in
        let own = subst (λ (u : Stop). StopOk a p u) (stop_own a (x ++ (m ++ (y ++ c))) p t e (omega arith) some) (stop_ok a p (omega arith)) in
        let zi = z_inside in
        let bytes : bytes_between S p j.start ≡ bytes_between T p j.start = between_same a (x ++ (m ++ (y ++ c))) (y ++ (m ++ (x ++ c))) p j.start (omega arith) (omega arith) in
        record {
          event = both_lines o p j t e e' (between_same a (x ++ (m ++ (y ++ c))) (y ++ (m ++ (x ++ c))) t.from t.to own.name own.inside) f;
          text = before own' refl refl (subst (Leads S from) (sym s₂) r);
          replaced = λ O c'. subst (Replaced (origin n (length a)) v w O (bytes_between S p j.start)) bytes (no_more O (bytes_between S p j.start));
          long = ap length (sym bytes);
        }

    next_behind : (d : ℕ) (o : List ℕ) (p : ℕ) (j : Include) → z ≤ p → p ≤ length S → event_at b l S o p ≡ Includes j → Next d o S T p j
    next_behind d₀ o p j g h f =
        let e : z + (p - z) ≡ p = omega arith in
        let t : stop_at S p ≡ stop_at T p = ap (stop_at S) (sym e) ∙ same.later (p - z) ∙ ap (stop_at T) e in
        next_late d₀ o p p j h (omega arith) g refl t (λ O c'. subst (Replaced (origin n (length a)) v w O (bytes_between S p j.start)) (later_bytes p j.start g) (no_more O (bytes_between S p j.start))) f

    next : (d : ℕ) (o s u : List ℕ) (p : ℕ) (j : Include) → Text d s u p → p ≤ length s → event_at b l s o p ≡ Includes j → Next d o s u p j
    next d o s u p j (other e) h f = next_other d o s u p j e f
    next d o s u p j (before i' e g r) h f =
        subst₂ (λ s u. Next d o s u p j) (sym e) (sym g) (next_own d o p j i' r (subst (λ (t : List ℕ). p ≤ length t) e h) (sym (ap (λ (t : List ℕ). event_at b l t o p) e) ∙ f))
    next d o s u p j (behind e g r) h f =
        subst₂ (λ s u. Next d o s u p j) (sym e) (sym g) (next_behind d o p j r (subst (λ (t : List ℕ). p ≤ length t) e h) (sym (ap (λ (t : List ℕ). event_at b l t o p) e) ∙ f))

    -- At the end -----------------------------------------------------------------------------------------------------------------------------------

    record Last (d : ℕ) (o s u : List ℕ) (p q r : ℕ) : Type 0 where
      event : event_at k l u o p ≡ Stops q r
      replaced : (O : List ℕ) → Begins O d p (length s) → Replaced (origin n (length a)) v w O (bytes_between s p (length s)) (bytes_between u p (length u))
      long : length (bytes_between u p (length u)) ≡ length (bytes_between s p (length s))

    last_by : (d : ℕ) (o : List ℕ) (p q r : ℕ) → p ≤ length S → q ≡ 0 → stop_at S p ≡ stop_at T p
        → ((O : List ℕ) → Begins O d p (length S) → Replaced (origin n (length a)) v w O (bytes_between S p (length S)) (bytes_between T p (length S))) → event_at b l S o p ≡ Stops q r → Last d o S T p q r
    unfolding event_at
    last_by d₀ o p q r h g t d f =
        let e = end_only b l S o (stop_at S p) q r f g in
        record {
          event = ap (event_by k l T o) (sym t ∙ e);
          replaced = λ O c'. subst (λ (n' : ℕ). Replaced (origin n (length a)) v w O (bytes_between S p (length S)) (bytes_between T p n')) as_long (d O c');
          long = sym (ap (λ (n' : ℕ). length (bytes_between T p n')) as_long) ∙ part_same p (length S) h (omega arith);
        }

    last_own : (d : ℕ) (o : List ℕ) (p q r : ℕ) → d ≡ n → Leads S from p → p ≤ length S → q ≡ 0 → event_at b l S o p ≡ Stops q r → Last d o S T p q r
    unfolding event_at
    last_own d₀ o p q r own (reached _ e) h g f =
        let lo = i.low in
        let t : stop_at S p ≡ stop_at T p = ap (stop_at S) e ∙ same.exchanged ∙ ap (stop_at T) (sym e) in
        last_by d₀ o p q r h g t (λ O c'. across p (length S) (omega arith) z_inside (omega arith) O x_some (subst (λ (j : ℕ). Begins O j p (length S)) own c')) f
    last_own d₀ o p q r own (leads _ t e d c') h g f = absurd (let u : AtLine t ≡ At q r = sym e ∙ end_only b l S o (stop_at S p) q r f g in let y : ◌≡◌ {A = ℕ} 0 1 = cc in omega arith)

    last_behind : (d : ℕ) (o : List ℕ) (p q r : ℕ) → z ≤ p → p ≤ length S → q ≡ 0 → event_at b l S o p ≡ Stops q r → Last d o S T p q r
    last_behind d₀ o p q r d h g f =
        let e : z + (p - z) ≡ p = omega arith in
        let t : stop_at S p ≡ stop_at T p = ap (stop_at S) (sym e) ∙ same.later (p - z) ∙ ap (stop_at T) e in
        last_by d₀ o p q r h g t (λ O c'. subst (Replaced (origin n (length a)) v w O (bytes_between S p (length S))) (later_bytes p (length S) d) (no_more O (bytes_between S p (length S)))) f

    last : (d : ℕ) (o s u : List ℕ) (p q r : ℕ) → Text d s u p → p ≤ length s → q ≡ 0 → event_at b l s o p ≡ Stops q r → Last d o s u p q r
    unfolding event_at
    last d o s u p q r (other e) h g f =
        subst (λ (t : List ℕ). Last d o s t p q r) (sym e)
        (record { event = sym (event_same P S T Q as_long l n is s o (stop_at s p)) ∙ f; replaced = λ O c'. no_more O (bytes_between s p (length s)); long = refl })
    last d o s u p q r (before j e t c') h g f =
        subst₂ (λ s u. Last d o s u p q r) (sym e) (sym t) (last_own d o p q r j c' (subst (λ (t : List ℕ). p ≤ length t) e h) g (sym (ap (λ (t : List ℕ). event_at b l t o p) e) ∙ f))
    last d o s u p q r (behind e t c') h g f =
        subst₂ (λ s u. Last d o s u p q r) (sym e) (sym t) (last_behind d o p q r c' (subst (λ (t : List ℕ). p ≤ length t) e h) g (sym (ap (λ (t : List ℕ). event_at b l t o p) e) ∙ f))

    -- The expansion --------------------------------------------------------------------------------------------------------------------------------

    record Result (o : List ℕ) (j : ℕ) (u : List ℕ) (p : ℕ) (X : Piece) : Type 0 where
      piece : Piece
      expands : Expands k l o j u p piece
      number : piece.number ≡ 0
      rest : piece.rest ≡ X.rest
      long : length piece.bytes ≡ length X.bytes
      origins : length X.origins ≡ length X.bytes
      replaced : Replaced (origin n (length a)) v w X.origins X.bytes piece.bytes

    v_some : 0 < length v
    v_some = let h = x_some in let j = v_long in omega arith

    seam_drop : (A B : List ℕ) (q : ℕ) → q ≡ length A → drop q (A ++ B) ≡ B
    seam_drop A B q h = ap (λ (j : ℕ). drop j (A ++ B)) h ∙ drop-append_seam A B

    expands_so : {o : List ℕ} {j : ℕ} {s : List ℕ} {p : ℕ} {X : Piece} → Expands b l o j s p X → X.number ≡ 0 → (u : List ℕ) → Text j s u p → p ≤ length s → Result o j u p X
    unfolding stopped onto_part onto onto_end with_rest event_at
    expands_so (as_it_stands o j s p q r e) h u t f =
        let d = last j o s u p q r t f h e in
        record {
          piece = stopped j u p q r;
          expands = as_it_stands o j u p q r d.event;
          number = h;
          rest = refl;
          long = d.long;
          origins = up_long (origin j p) (length s - p) ∙ sym (part_long s p (length s) f (omega arith));
          replaced = d.replaced (up_from (origin j p) (length s - p)) (begins_own j p (length s));
        }
    expands_so (with_text o j s p g X Y e d c₁ c₂) h u t f =
        let N = next j o s u p g t f e in
        let ok : IncludeFits b s p g = subst (EventOk b s p) e (event_ok b l s o p told f) in
        let k₁ = ok.first in
        let k₂ = ok.hash in
        let k₃ = ok.after in
        let k₄ = ok.last in
        let R₁ = expands_so d c₁ (bytes_between k g.from g.to) (text_of g.number g.from g.to (event_region P S T Q as_long l n is s o (stop_at s p) g e)) (omega arith) in
        let R₂ = expands_so c₂ h u N.text ok.last in
        let G = up_from (origin j p) (g.start - p) in
        let H = origin j g.hash in
        let O = G ++ (X.origins ++ (H ∷ Y.origins)) in
        let l₁ = length-append (bytes_between u p g.start) (R₁.piece.bytes ++ (10 ∷ R₂.piece.bytes)) in
        let l₂ = length-append R₁.piece.bytes (10 ∷ R₂.piece.bytes) in
        let l₃ = length-append (bytes_between s p g.start) (X.bytes ++ (10 ∷ Y.bytes)) in
        let l₄ = length-append X.bytes (10 ∷ Y.bytes) in
        let l₅ = N.long in
        let l₆ = R₁.long in
        let l₇ = R₂.long in
        let l₈ = length-append G (X.origins ++ (H ∷ Y.origins)) in
        let l₉ = length-append X.origins (H ∷ Y.origins) in
        let n₁ : length G ≡ g.start - p = up_long (origin j p) (g.start - p) in
        let n₂ : length (bytes_between s p g.start) ≡ g.start - p = part_long s p g.start k₁ (omega arith) in
        let n₃ = R₁.origins in
        let n₄ = R₂.origins in
        record {
          piece = onto_part j u p g.start (onto R₁.piece.bytes R₁.piece.origins (onto_end (origin j g.hash) R₂.piece));
          expands = with_text o j u p g R₁.piece R₂.piece N.event R₁.expands R₁.number R₂.expands;
          number = R₂.number;
          rest = R₂.rest;
          long = omega arith;
          origins = omega arith;
          replaced =
              replaced_both O (N.replaced O (begins_up (X.origins ++ (H ∷ Y.origins)) j p g.start))
              (subst (λ (q : List ℕ). Replaced (origin n (length a)) v w q (X.bytes ++ (10 ∷ Y.bytes)) (R₁.piece.bytes ++ (10 ∷ R₂.piece.bytes)))
              (sym (seam_drop G (X.origins ++ (H ∷ Y.origins)) (length (bytes_between s p g.start)) (n₂ ∙ sym n₁)))
              (replaced_both (X.origins ++ (H ∷ Y.origins)) (replaced_more X.origins (H ∷ Y.origins) v_some n₃ R₁.replaced)
              (subst (λ (q : List ℕ). Replaced (origin n (length a)) v w q (10 ∷ Y.bytes) (10 ∷ R₂.piece.bytes)) (sym (seam_drop X.origins (H ∷ Y.origins) (length X.bytes) (sym n₃)))
              (replaced_front (H ∷ Y.origins) (10 ∷ []) R₂.replaced))));
        }
    expands_so (with_fault o j s p g X e d c₁) h u t f = absurd (c₁ h)

    main_so : (expanded b l).number ≡ 0 → Result main_open 0 (main_text k l) 0 (expanded b l)
    unfolding main_text
    main_so h = expands_so (expansions b l told).expands h (main_text k l) (text_of 0 _ _ (main_region P S T Q as_long l n is)) (omega arith)

-- Where x and y are exchanged in one of the lent texts, they are exchanged in the expanded text.
pub expansion_exchanged : ExpansionExchanged
expansion_exchanged P a x m y c Q l n told is i h =
    let r = main_so P a x m y c Q l n told is i h in
    let u = told_same (b P a x m y c Q l n) (k P a x m y c Q l n) l (buffers P (S P a x m y c Q l n) (T P a x m y c Q l n) Q (as_long P a x m y c Q l n)) in
    let e : r.piece ≡ expanded (k P a x m y c Q l n) l = (expansions (k P a x m y c Q l n) l (sym u ∙ told)).only r.piece r.expands in
    record {
      number = sym (ap (λ (q : Piece). q.number) e) ∙ r.number;
      rest = sym (ap (λ (q : Piece). q.rest) e) ∙ r.rest;
      long = sym (ap (λ (q : Piece). length q.bytes) e) ∙ r.long;
      replaced = subst (λ (q : Piece). Replaced (origin n (length a)) (x ++ (m ++ y)) (y ++ (m ++ x)) (expanded (b P a x m y c Q l n) l).origins (expanded (b P a x m y c Q l n) l).bytes q.bytes) e r.replaced;
    }
