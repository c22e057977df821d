-- The laws of filling: how one piece of the expanded text goes on with another in the lent memory, and when it is too long. Assumes nothing.
use Prim.Native.Nat.{ℕ, zero, suc, ◌+◌, ◌-◌, ◌≤◌, ◌<◌}
use mathlib.Core.List.{List, [], ◌∷◌, ◌++◌}
use mathlib.Core.Bool.{Bool, true, false}
use mathlib.Core.Path.{◌≡◌, refl, sym, ◌∙◌, ap, ap₂, subst}
use native.Mathlib.Omega.{arith}
use lib.ListN.{length, set, length-append}
use lib.Seq.{sets, length-sets}
use lib.Dec.{eqb}
use borrow.Author.Tests.{eqb-true, eqb-false}
use Rattle.rows.proofs.Stores.{sets_append, sets_out}
use Rattle.token.specs.Find.{pick}
use Rattle.token.specs.Tokens.{bytes_between}
use Rattle.token.proofs.Find.{by_test}
use Rattle.sources.specs.Texts.{told_well, event_at}
use Rattle.sources.specs.Expanding.{Piece, up_from, origin, onto, onto_part, nothing, stopped, onto_end, with_rest, included, walk, expand_n, inner, is_too_long, fill_by, fill_of}
use Rattle.sources.specs.Promises.{Puts, Fills, Goes, EndsLine, Steps}
use Rattle.sources.specs.declared.Include.{Include}
use Rattle.sources.specs.declared.Event.TheVariants.{Stop as Stops, Include as Includes}
use Rattle.sources.specs.declared.Fill.{Fill}
use Rattle.std.specs.declared.ops.ControlFlow.{ControlFlow}
use Rattle.std.specs.declared.ops.ControlFlow.TheVariants.{Continue, Break}
use Rattle.sources.proofs.Singles.{fill_long, fill_short, split}
use Rattle.sources.proofs.Stops.{length_between}
use Rattle.sources.proofs.Pieces.{length_up, Good, good_inner, included_whole, included_faulty, expand_law, stop_piece, line_piece, include_fits}

-- at most max bytes are filled
module _ (max : ℕ) where
  -- ---- bytes before a piece

  pub fill_onto : (a : ℕ) (f g : List ℕ) (x : Piece) → fill_of max a (onto f g x) ≡ fill_of max (a + length f) x
  unfolding fill_of onto
  fill_onto a f g x =
      let n = length-append f x.bytes in
      let p : a + (length f + x.place) ≡ a + length f + x.place = omega arith in
      let e : a + length (f ++ x.bytes) ≡ a + length f + length x.bytes = omega arith in
      rw (p, e)

  pub goes_onto : (f g : List ℕ) (x : Piece) (o h : List ℕ) (a : ℕ) → length g ≡ length f → a + length f ≤ max →
      Goes max (onto f g x) o h a x (sets o a f) (sets h a g) (a + length f)
  unfolding onto
  goes_onto f g x o h a e k =
      record {
        result = fill_onto a f g x;
        bytes = sets_append o a f x.bytes;
        origins = sets_append h a g x.origins ∙ ap (λ (n : ℕ). sets (sets h a g) (a + n) x.origins) e;
        room = k;
      }

  pub goes_then : {x : Piece} {o h : List ℕ} {a : ℕ} {y : Piece} {o₁ h₁ : List ℕ} {c : ℕ} {z : Piece} {o₂ h₂ : List ℕ} {e : ℕ} →
      Goes max x o h a y o₁ h₁ c → Goes max y o₁ h₁ c z o₂ h₂ e → Goes max x o h a z o₂ h₂ e
  goes_then u v = record { result = u.result ∙ v.result; bytes = u.bytes ∙ v.bytes; origins = u.origins ∙ v.origins; room = v.room }

  pub goes_fills : {x : Piece} {o h : List ℕ} {a : ℕ} {y : Piece} {o₁ h₁ : List ℕ} {c : ℕ} {o₂ h₂ : List ℕ} {r : Fill} →
      Goes max x o h a y o₁ h₁ c → Fills max y o₁ h₁ c o₂ h₂ r → Fills max x o h a o₂ h₂ r
  goes_fills u v = record { result = v.result ∙ sym u.result; bytes = v.bytes ∙ sym u.bytes; origins = v.origins ∙ sym u.origins }

  pub goes_none : (x : Piece) (o h : List ℕ) (a : ℕ) → a ≤ max → Goes max x o h a x o h a
  goes_none x o h a k = record { result = refl; bytes = refl; origins = refl; room = k }

  -- bytes that are too long already: what follows is not stored
  pub fills_long : (f g : List ℕ) (x : Piece) (o h : List ℕ) (a : ℕ) (r : Fill) → length g ≡ length f → length o ≤ max → length h ≤ max →
      max < a + length f → r ≡ (is_too_long max) → Fills max (onto f g x) o h a (sets o a f) (sets h a g) r
  unfolding fill_of onto
  fills_long f g x o h a r e i j k t =
      let m = length-append f x.bytes in
      let p = length-sets o a f in
      let q = length-sets h a g in
      record {
        result = t ∙ fill_long max x.number (a + (length f + x.place)) (a + length (f ++ x.bytes)) (a + length (f ++ x.bytes) + x.rest) (omega arith);
        bytes = sym (sets_append o a f x.bytes ∙ sets_out (sets o a f) (a + length f) x.bytes (omega arith));
        origins = sym (sets_append h a g x.origins ∙ sets_out (sets h a g) (a + length g) x.origins (omega arith));
      }

  -- ---- a part of a text

  module _ (s : List ℕ) (p e k : ℕ) (o h : List ℕ) (a : ℕ) (o' h' : List ℕ) (r : ℕ) where
    pub put_goes : (x : Piece) → e ≤ length s → Puts s p e k o h a o' h' r → r ≤ max → Goes max (onto_part k s p e x) o h a x o' h' r
    unfolding onto_part
    put_goes x i w j =
        let n = length_between s p e i in
        let m = length_up (origin k p) (e - p) in
        let c : a + length (bytes_between s p e) ≡ r = let z = w.next in omega arith in
        subst (λ (q : ℕ). Goes max (onto (bytes_between s p e) (up_from (origin k p) (e - p)) x) o h a x o' h' q) c
        (subst (λ (l : List ℕ). Goes max (onto (bytes_between s p e) (up_from (origin k p) (e - p)) x) o h a x l h' (a + length (bytes_between s p e))) (sym w.bytes)
        (subst (λ (l : List ℕ). Goes max (onto (bytes_between s p e) (up_from (origin k p) (e - p)) x) o h a x (sets o a (bytes_between s p e)) l (a + length (bytes_between s p e))) (sym w.origins)
        (goes_onto (bytes_between s p e) (up_from (origin k p) (e - p)) x o h a (m ∙ sym n) (omega arith))))

    pub put_long : (x : Piece) (f : Fill) → e ≤ length s → Puts s p e k o h a o' h' r → length o ≤ max → length h ≤ max → max < r → f ≡ (is_too_long max) →
        Fills max (onto_part k s p e x) o h a o' h' f
    unfolding onto_part
    put_long x f i w u v j t =
        let n = length_between s p e i in
        let m = length_up (origin k p) (e - p) in
        let c : max < a + length (bytes_between s p e) = let z = w.next in omega arith in
        subst (λ (l : List ℕ). Fills max (onto (bytes_between s p e) (up_from (origin k p) (e - p)) x) o h a l h' f) (sym w.bytes)
        (subst (λ (l : List ℕ). Fills max (onto (bytes_between s p e) (up_from (origin k p) (e - p)) x) o h a (sets o a (bytes_between s p e)) l f) (sym w.origins)
        (fills_long (bytes_between s p e) (up_from (origin k p) (e - p)) x o h a f (m ∙ sym n) u v c t))

  -- the rest of a text
  pub rest_fills : (s : List ℕ) (p k n q : ℕ) (o h : List ℕ) (a : ℕ) (o' h' : List ℕ) (e : ℕ) (r : Fill) → Puts s p (length s) k o h a o' h' e →
      r ≡ fill_by max n (a + (q - p)) e e → Fills max (stopped k s p n q) o h a o' h' r
  unfolding stopped fill_of
  rest_fills s p k n q o h a o' h' e r w f =
      let m = length_between s p (length s) (omega arith) in
      let z = w.next in
      let i : e ≡ a + length (bytes_between s p (length s)) = omega arith in
      let j : e ≡ a + length (bytes_between s p (length s)) + 0 = omega arith in
      record { result = f ∙ ap₂ (fill_by max n (a + (q - p))) i j; bytes = w.bytes; origins = w.origins }

  -- ---- an included text

  -- where it is filled without a fault
  pub record FilledWhole (a : ℕ) (x : Piece) (f : Fill) : Type 0 where
    pub number : x.number ≡ 0
    pub end : f.end ≡ a + length x.bytes
    pub room : a + length x.bytes + x.rest ≤ max

  pub filled_whole : (a : ℕ) (x : Piece) (f : Fill) → f ≡ fill_of max a x → f.number ≡ 0 → FilledWhole a x f
  unfolding fill_of is_too_long
  filled_whole a x f e z =
      split max (a + length x.bytes + x.rest)
      (λ h.
      let y : f.number ≡ 30 = ap (λ (u : Fill). u.number) (e ∙ sym (fill_long max x.number (a + x.place) (a + length x.bytes) (a + length x.bytes + x.rest) h)) in
      absurd (omega arith))
      (λ h.
      let y = e ∙ sym (fill_short max x.number (a + x.place) (a + length x.bytes) (a + length x.bytes + x.rest) h) in
      record { number = sym (ap (λ (u : Fill). u.number) y) ∙ z; end = ap (λ (u : Fill). u.end) y; room = h })

  module _ (c n : ℕ) (x : Piece) (w : ℕ → Piece) (q : ℕ) (o h : List ℕ) (a : ℕ) (o' h' : List ℕ) (f : Fill) where
    -- the included text itself, without a fault
    whole_goes : Good x → Fills max x o h a o' h' f → (e : FilledWhole a x f) → Goes max (included c n x w q) o h a (onto_end c (w q)) o' h' f.end
    whole_goes g u e =
        let k = e.room in
        subst (λ (m : ℕ). Goes max (included c n x w q) o h a (onto_end c (w q)) o' h' m) (sym e.end)
        (subst (λ (l : List ℕ). Goes max (included c n x w q) o h a (onto_end c (w q)) l h' (a + length x.bytes)) (sym u.bytes)
        (subst (λ (l : List ℕ). Goes max (included c n x w q) o h a (onto_end c (w q)) (sets o a x.bytes) l (a + length x.bytes)) (sym u.origins)
        (subst (λ (y : Piece). Goes max y o h a (onto_end c (w q)) (sets o a x.bytes) (sets h a x.origins) (a + length x.bytes)) (sym (included_whole c n x w q e.number))
        (goes_onto x.bytes x.origins (onto_end c (w q)) o h a g.even (omega arith)))))

  -- the LF after it, and on
  end_steps : (c e q : ℕ) (w : ℕ → Piece) (N : ℕ → Type 0) (n p : ℕ) (x : Piece) (o h : List ℕ) (a : ℕ) (o₁ h₁ o₂ h₂ : List ℕ) → p < q → q ≤ n → N q →
      x ≡ w p → Goes max x o h a (onto_end c (w q)) o₁ h₁ e → length o₁ ≤ max → length h₁ ≤ max →
      o₂ ≡ sets o₁ e (10 ∷ []) → h₂ ≡ sets h₁ e (c ∷ []) → Steps max w N n p o h a o₂ h₂ (pick (eqb e max) (Break (is_too_long max)) (Continue (q, e + 1)))
  unfolding onto_end Steps
  end_steps c e q w N n p x o h a o₁ h₁ o₂ h₂ i j k y u l m f g =
      by_test (Steps max w N n p o h a o₂ h₂) (eqb e max) (Break (is_too_long max)) (Continue (q, e + 1))
      (λ t.
      let z = eqb-true e max t in
      subst (λ (v : Piece). Fills max v o h a o₂ h₂ (is_too_long max)) y
      (goes_fills u
      (subst (λ (r : List ℕ). Fills max (onto (10 ∷ []) (c ∷ []) (w q)) o₁ h₁ e r h₂ (is_too_long max)) (sym f)
      (subst (λ (r : List ℕ). Fills max (onto (10 ∷ []) (c ∷ []) (w q)) o₁ h₁ e (sets o₁ e (10 ∷ [])) r (is_too_long max)) (sym g)
      (fills_long (10 ∷ []) (c ∷ []) (w q) o₁ h₁ e (is_too_long max) refl l m (omega arith) refl)))))
      (λ t.
      let z = eqb-false e max t in
      let r = u.room in (
        i,
        j,
        k,
        subst (λ (v : Piece). Goes max v o h a (w q) o₂ h₂ (e + 1)) y
            (goes_then u
            (subst (λ (r : List ℕ). Goes max (onto (10 ∷ []) (c ∷ []) (w q)) o₁ h₁ e (w q) r h₂ (e + 1)) (sym f)
            (subst (λ (r : List ℕ). Goes max (onto (10 ∷ []) (c ∷ []) (w q)) o₁ h₁ e (w q) (sets o₁ e (10 ∷ [])) r (e + 1)) (sym g)
            (goes_onto (10 ∷ []) (c ∷ []) (w q) o₁ h₁ e refl (omega arith))))),
      ))

  -- with a fault, or too long: what follows only counts
  long_total : (a : ℕ) (x : Piece) (f : Fill) → f ≡ fill_of max a x → max < a + length x.bytes + x.rest → f.total ≡ max + 1
  unfolding fill_of is_too_long
  long_total a x f e h =
      ap (λ (u : Fill). u.total) (e ∙ sym (fill_long max x.number (a + x.place) (a + length x.bytes) (a + length x.bytes + x.rest) h))

  rest_long : (n a : ℕ) (x : Piece) → max < a + length x.bytes + x.rest → (is_too_long max) ≡ fill_of max a (with_rest n x)
  unfolding fill_of with_rest
  rest_long n a x h = fill_long max x.number (a + x.place) (a + length x.bytes) (a + length x.bytes + (x.rest + n)) (omega arith)

  rest_short : (n a : ℕ) (x : Piece) (f : Fill) → f ≡ fill_of max a x → a + length x.bytes + x.rest ≤ max →
      fill_by max f.number f.place f.end (f.total + 1 + n) ≡ fill_of max a (with_rest (suc n) x)
  unfolding fill_of with_rest
  rest_short n a x f e h =
      let y = e ∙ sym (fill_short max x.number (a + x.place) (a + length x.bytes) (a + length x.bytes + x.rest) h) in
      let z : a + length x.bytes + x.rest + 1 + n ≡ a + length x.bytes + (x.rest + suc n) = omega arith in
      ap (λ (u : Fill). fill_by max u.number u.place u.end (u.total + 1 + n)) y
      ∙ ap (fill_by max x.number (a + x.place) (a + length x.bytes)) z

  filled_number : (a : ℕ) (x : Piece) (f : Fill) → f ≡ fill_of max a x → a + length x.bytes + x.rest ≤ max → f.number ≡ x.number
  unfolding fill_of
  filled_number a x f e h =
      ap (λ (u : Fill). u.number) (e ∙ sym (fill_short max x.number (a + x.place) (a + length x.bytes) (a + length x.bytes + x.rest) h))

  rest_after : (n : ℕ) (x : Piece) (o h : List ℕ) (a : ℕ) (o' h' : List ℕ) (f r : Fill) → Fills max x o h a o' h' f → r ≡ fill_of max a (with_rest n x) →
      Fills max (with_rest n x) o h a o' h' r
  unfolding with_rest
  rest_after n x o h a o' h' f r u e = record { result = e; bytes = u.bytes; origins = u.origins }

  pub faulty_fills : (c n : ℕ) (x : Piece) (w : ℕ → Piece) (q : ℕ) (o h : List ℕ) (a : ℕ) (o' h' : List ℕ) (f r : Fill) → Good x → length o ≤ max → length h ≤ max →
      Fills max x o h a o' h' f → (f.number ≡ 0 → ⊥) → r ≡ fill_by max f.number f.place f.end (f.total + 1 + n) → Fills max (included c n x w q) o h a o' h' r
  faulty_fills c n x w q o h a o' h' f r g i j u e z =
      split max (a + length x.bytes + x.rest) (λ k. long k (eqb x.number 0) refl) short
    where
      fault : (x.number ≡ 0 → ⊥) → r ≡ fill_of max a (with_rest (suc n) x) → Fills max (included c n x w q) o h a o' h' r
      fault k y = subst (λ (v : Piece). Fills max v o h a o' h' r) (sym (included_faulty c n x w q k)) (rest_after (suc n) x o h a o' h' f r u y)

      is-long : max < a + length x.bytes + x.rest → r ≡ (is_too_long max)
      is-long k =
          let t = long_total a x f u.result k in
          z ∙ sym (fill_long max f.number f.place f.end (f.total + 1 + n) (omega arith))

      long : max < a + length x.bytes + x.rest → (t : Bool) → eqb x.number 0 ≡ t → Fills max (included c n x w q) o h a o' h' r
      long k true y =
          let m = eqb-true x.number 0 y in
          let v = g.whole m in
          subst (λ (v : Piece). Fills max v o h a o' h' r) (sym (included_whole c n x w q m))
          (subst (λ (l : List ℕ). Fills max (onto x.bytes x.origins (onto_end c (w q))) o h a l h' r) (sym u.bytes)
          (subst (λ (l : List ℕ). Fills max (onto x.bytes x.origins (onto_end c (w q))) o h a (sets o a x.bytes) l r) (sym u.origins)
          (fills_long x.bytes x.origins (onto_end c (w q)) o h a r g.even i j (omega arith) (is-long k))))
      long k false y = fault (eqb-false x.number 0 y) (is-long k ∙ rest_long (suc n) a x k)

      short-number : a + length x.bytes + x.rest ≤ max → f.number ≡ x.number
      short-number k = filled_number a x f u.result k

      short : a + length x.bytes + x.rest ≤ max → Fills max (included c n x w q) o h a o' h' r
      short k = fault (λ y. e (short-number k ∙ y)) (z ∙ rest_short n a x f u.result k)

  pub expand_none : (d : ℕ) (b l : List ℕ) (k : ℕ) (s o : List ℕ) (g h : List ℕ) (a : ℕ) (r : Fill) → d ≡ 0 → a ≤ max → r ≡ fill_by max 0 a a a → Fills max (expand_n d b l k s o) g h a g h r
  unfolding expand_n nothing fill_of
  expand_none zero b l k s o g h a r e i f =
      let y : a ≡ a + 0 = omega arith in
      let z : a ≡ a + 0 + 0 = omega arith in
      record { result = f ∙ ap (λ (p : ℕ). fill_by max 0 p p a) y ∙ ap (fill_by max 0 (a + 0) (a + 0)) z; bytes = refl; origins = refl }
  expand_none (suc d) b l k s o g h a r e i f = absurd (omega arith)

  -- ---- the steps of the code

  module _ (b l : List ℕ) (k : ℕ) (s o : List ℕ) (d p : ℕ) where
    pub stop_done : (n q : ℕ) (g h : List ℕ) (a : ℕ) (g' h' : List ℕ) (e : ℕ) (r : Fill) → told_well b l ≡ true → p ≤ length s → event_at b l s o p ≡ Stops n q →
        Puts s p (length s) k g h a g' h' e → r ≡ fill_by max n (a + (q - p)) e e → Fills max (walk b l k s o (inner d b l o) p) g h a g' h' r
    stop_done n q g h a g' h' e r t i f w z =
        subst (λ (x : Piece). Fills max x g h a g' h' r) (stop_piece b l k s o d p n q t i f) (rest_fills s p k n q g h a g' h' e r w z)

    module _ (i : Include) (g h : List ℕ) (a : ℕ) (t : told_well b l ≡ true) (j : p ≤ length s) (f : event_at b l s o p ≡ Includes i) where
      pub front-done : (g' h' : List ℕ) (e : ℕ) (r : Fill) → Puts s p i.start k g h a g' h' e → length g ≤ max → length h ≤ max → max < e → r ≡ (is_too_long max) →
          Fills max (walk b l k s o (inner d b l o) p) g h a g' h' r
      front-done g' h' e r w u v m z =
          let y = include_fits b l k s o d p i t j f in
          subst (λ (x : Piece). Fills max x g h a g' h' r) (line_piece b l k s o d p i t j f)
          (put_long s p i.start k g h a g' h' e _ r (omega arith) w u v m z)

      pub text-steps : (N : ℕ → Type 0) (g₁ h₁ : List ℕ) (e : ℕ) (g₂ h₂ : List ℕ) (r : Fill) (g₃ h₃ : List ℕ) (x : ControlFlow Fill (ℕ × ℕ)) → Puts s p i.start k g h a g₁ h₁ e → e ≤ max →
          Fills max (inner d b l o i) g₁ h₁ e g₂ h₂ r → r.number ≡ 0 → length g ≤ max → length h ≤ max → N i.after →
          EndsLine max r.end i.after (origin k i.hash) g₂ h₂ g₃ h₃ x → Steps max (walk b l k s o (inner d b l o)) N (length s) p g h a g₃ h₃ x
      text-steps N g₁ h₁ e g₂ h₂ r g₃ h₃ x w m u z q v k' y =
          let n = include_fits b l k s o d p i t j f in
          let c = origin k i.hash in
          let fw = filled_whole e (inner d b l o i) r u.result z in
          let front = put_goes s p i.start k g h a g₁ h₁ e (included c (length s - i.after) (inner d b l o i) (walk b l k s o (inner d b l o)) i.after) (omega arith) w m in
          let mid = whole_goes c (length s - i.after) (inner d b l o i) (walk b l k s o (inner d b l o)) i.after g₁ h₁ e g₂ h₂ r (good_inner d b l o i t) u fw in
          let lg : length g₂ ≤ max = subst (λ (n : ℕ). n ≤ max) (sym (ap length u.bytes ∙ length-sets g₁ e (inner d b l o i).bytes ∙ ap length w.bytes ∙ length-sets g a (bytes_between s p i.start))) q in
          let lh : length h₂ ≤ max = subst (λ (n : ℕ). n ≤ max) (sym (ap length u.origins ∙ length-sets h₁ e (inner d b l o i).origins ∙ ap length w.origins ∙ length-sets h a (up_from (origin k p) (i.start - p)))) v in
          subst (Steps max (walk b l k s o (inner d b l o)) N (length s) p g h a g₃ h₃) (sym y.next)
          (end_steps c r.end i.after (walk b l k s o (inner d b l o)) N (length s) p _ g h a g₂ h₂ g₃ h₃ (omega arith) n.last k'
          (line_piece b l k s o d p i t j f) (goes_then front mid) lg lh y.bytes y.origins)

      pub text-done : (g₁ h₁ : List ℕ) (e : ℕ) (g₂ h₂ : List ℕ) (r x : Fill) → Puts s p i.start k g h a g₁ h₁ e → e ≤ max →
          Fills max (inner d b l o i) g₁ h₁ e g₂ h₂ r → (r.number ≡ 0 → ⊥) → length g ≤ max → length h ≤ max →
          x ≡ fill_by max r.number r.place r.end (r.total + 1 + (length s - i.after)) → Fills max (walk b l k s o (inner d b l o) p) g h a g₂ h₂ x
      text-done g₁ h₁ e g₂ h₂ r x w m u z q v y =
          let n = include_fits b l k s o d p i t j f in
          let c = origin k i.hash in
          let front = put_goes s p i.start k g h a g₁ h₁ e (included c (length s - i.after) (inner d b l o i) (walk b l k s o (inner d b l o)) i.after) (omega arith) w m in
          let lg : length g₁ ≤ max = subst (λ (n : ℕ). n ≤ max) (sym (ap length w.bytes ∙ length-sets g a (bytes_between s p i.start))) q in
          let lh : length h₁ ≤ max = subst (λ (n : ℕ). n ≤ max) (sym (ap length w.origins ∙ length-sets h a (up_from (origin k p) (i.start - p)))) v in
          subst (λ (v : Piece). Fills max v g h a g₂ h₂ x) (line_piece b l k s o d p i t j f)
          (goes_fills front (faulty_fills c (length s - i.after) (inner d b l o i) (walk b l k s o (inner d b l o)) i.after g₁ h₁ e g₂ h₂ r x (good_inner d b l o i t) lg lh u z y))

  -- ---- what a step says

  pub done : (w : ℕ → Piece) (N : ℕ → Type 0) (n p : ℕ) (o g : List ℕ) (a : ℕ) (o' g' : List ℕ) (f : Fill) → Fills max (w p) o g a o' g' f → Steps max w N n p o g a o' g' (Break f)
  unfolding Steps
  done w N n p o g a o' g' f u = u

  pub record Stepped (w : ℕ → Piece) (N : ℕ → Type 0) (n p : ℕ) (o g : List ℕ) (a : ℕ) (o' g' : List ℕ) (q c : ℕ) : Type 0 where
    pub later : p < q
    pub inside : q ≤ n
    pub noted : N q
    pub goes : Goes max (w p) o g a (w q) o' g' c

  pub stepped : {w : ℕ → Piece} {N : ℕ → Type 0} {n p : ℕ} {o g : List ℕ} {a : ℕ} {o' g' : List ℕ} {r : ControlFlow Fill (ℕ × ℕ)} {q c : ℕ} → Steps max w N n p o g a o' g' r → r ≡ Continue (q, c) →
      Stepped w N n p o g a o' g' q c
  unfolding Steps
  stepped {w} {N} {n} {p} {o} {g} {a} {o'} {g'} u e =
      let v = subst (Steps max w N n p o g a o' g') e u in
      record { later = v.0; inside = v.1; noted = v.2; goes = v.3 }

  pub finished : (w : ℕ → Piece) (N : ℕ → Type 0) (n p : ℕ) (o g : List ℕ) (a : ℕ) (o' g' : List ℕ) (r : ControlFlow Fill (ℕ × ℕ)) (f : Fill) → Steps max w N n p o g a o' g' r → r ≡ Break f →
      Fills max (w p) o g a o' g' f
  unfolding Steps
  finished w N n p o g a o' g' r f u e = subst (Steps max w N n p o g a o' g') e u

  pub loop_done : (d : ℕ) (b l : List ℕ) (k : ℕ) (s o : List ℕ) (g h : List ℕ) (a p : ℕ) (g₁ h₁ : List ℕ) (c : ℕ) (g₂ h₂ : List ℕ) (r : Fill) → (d ≡ 0 → ⊥) →
      Goes max (walk b l k s o (inner (d - 1) b l o) 0) g h a (walk b l k s o (inner (d - 1) b l o) p) g₁ h₁ c →
      Fills max (walk b l k s o (inner (d - 1) b l o) p) g₁ h₁ c g₂ h₂ r → Fills max (expand_n d b l k s o) g h a g₂ h₂ r
  loop_done d b l k s o g h a p g₁ h₁ c g₂ h₂ r e u v =
      subst (λ (x : Piece). Fills max x g h a g₂ h₂ r) (sym (expand_law d b l k s o e)) (goes_fills u v)

  pub puts_bytes : {s : List ℕ} {p e k : ℕ} {o h : List ℕ} {a : ℕ} {o' h' : List ℕ} {r : ℕ} → Puts s p e k o h a o' h' r → length o ≤ max → length o' ≤ max
  puts_bytes {s} {p} {e} {k} {o} {h} {a} w i = subst (λ (n : ℕ). n ≤ max) (sym (ap length w.bytes ∙ length-sets o a (bytes_between s p e))) i

  pub puts_origins : {s : List ℕ} {p e k : ℕ} {o h : List ℕ} {a : ℕ} {o' h' : List ℕ} {r : ℕ} → Puts s p e k o h a o' h' r → length h ≤ max → length h' ≤ max
  puts_origins {s} {p} {e} {k} {o} {h} {a} w i = subst (λ (n : ℕ). n ≤ max) (sym (ap length w.origins ∙ length-sets h a (up_from (origin k p) (e - p)))) i

  pub inner_fills : (d : ℕ) (b l o m : List ℕ) (i : Include) (g h : List ℕ) (a : ℕ) (g' h' : List ℕ) (r : Fill) → m ≡ set o i.number 1 →
      Fills max (expand_n d b l i.number (bytes_between b i.from i.to) m) g h a g' h' r → Fills max (inner d b l o i) g h a g' h' r
  unfolding inner
  inner_fills d b l o m i g h a g' h' r e u =
      subst (λ (x : List ℕ). Fills max (expand_n d b l i.number (bytes_between b i.from i.to) x) g h a g' h' r) e u

  -- how much is filled at most
  pub fill_total : (a : ℕ) (x : Piece) (f : Fill) → f ≡ fill_of max a x → f.total ≤ max + 1
  unfolding fill_of is_too_long
  fill_total a x f e =
      split max (a + length x.bytes + x.rest)
      (λ h. let y = long_total a x f e h in omega arith)
      (λ h.
      let y : f.total ≡ a + length x.bytes + x.rest =
      ap (λ (u : Fill). u.total) (e ∙ sym (fill_short max x.number (a + x.place) (a + length x.bytes) (a + length x.bytes + x.rest) h)) in
      omega arith)
