-- The laws of seeking: the statement that is touched at a place, by the rows. Assumes nothing.
use mathlib.Core.Path.{◌≡◌, refl, sym, ◌∙◌, ap, ap₂, subst}
use mathlib.Core.List.{List, [], ◌∷◌, ◌++◌, append_assoc, append-nil}
use mathlib.Core.Bool.{Bool, true, false, not, false≢true}
use mathlib.Core.Option.{Option, none, some}
use Prim.Native.Nat.{ℕ, suc, ◌+◌, ◌*◌, ◌≤◌, ◌<◌}
use native.Mathlib.Omega.{arith}
use lib.ListN.{length, length-append, get_or}
use lib.Dec.{eqb}
use borrow.Author.Tests.{eq-eqb, ne_eqb}
use Rattle.token.specs.Find.{either}
use Rattle.std.specs.Prelude.{Some, None}
use Rattle.meaning.specs.Merging.{then}
use Rattle.meaning.specs.Syntax.{Definitions, Statement, Statements, done, state, Object, File, statements_in}
use Rattle.meaning.specs.Kinds.{kind_number}
use Rattle.meaning.specs.Scopes.{find_definition, of_kind}
use Rattle.meaning.proofs.Entries.{then_assoc}
use Rattle.layout.specs.Kept.{statement_cells, statement_count, kind_place}
use Rattle.blocks.specs.Blocks.{BlockAt, row_after}
use Rattle.blocks.proofs.Ranges.{first_cell, first_after, inside_at, in_then, back_at}
use Rattle.scopes.specs.Situations.{ScopeAt, no_scope}
use Rattle.scopes.specs.Given.{Given, Places}
use Rattle.scopes.specs.Promises.{FindsDefinition, FindsWord}
use Rattle.scopes.specs.declared.Sizes.{Sizes}
use Rattle.scopes.proofs.Descents.{scope_of_kind}
use Rattle.lookups.proofs.Attributes.{kept_object}
use Rattle.judging.proofs.Judgements.{row_nothing, row_found_as, looked_up, stated_as, value_scope}
use Rattle.statement_causes.specs.Sites.{Site, touches, inner, or_site, site_if, site_in, site_of}
use Rattle.statement_causes.specs.Promises.{touched, FindsInner, SpotIs, no_spot, a_spot, Seeks, SeeksObject, SeeksAll}
use Rattle.statement_causes.specs.declared.Spot.{Spot}

-- One statement -------------------------------------------------------------------------------------------------------------------------------

module _ (st : List ℕ) (k p : ℕ) where
  abbrev by_cells : Bool → Bool → Bool
  by_cells a b = either a (either b (eqb (get_or st (k * 7 + 5) 0) p))

  pub touched_name : get_or st (k * 7 + 0) 0 ≡ p → true ≡ touched st k p
  unfolding touched
  touched_name h = sym (ap (λ a. by_cells a (eqb (get_or st (k * 7 + 2) 0) p)) (eq-eqb (get_or st (k * 7 + 0) 0) p h))

  pub touched_value : (get_or st (k * 7 + 0) 0 ≡ p → ⊥) → get_or st (k * 7 + 2) 0 ≡ p → true ≡ touched st k p
  unfolding touched
  touched_value n h = sym (ap₂ by_cells (ne_eqb (get_or st (k * 7 + 0) 0) p n) (eq-eqb (get_or st (k * 7 + 2) 0) p h))

  pub touched_last : (get_or st (k * 7 + 0) 0 ≡ p → ⊥) → (get_or st (k * 7 + 2) 0 ≡ p → ⊥) → eqb (get_or st (k * 7 + 5) 0) p ≡ touched st k p
  unfolding touched
  touched_last n m = sym (ap₂ by_cells (ne_eqb (get_or st (k * 7 + 0) 0) p n) (ne_eqb (get_or st (k * 7 + 2) 0) p m))

touched_is : {s st : List ℕ} {k v : ℕ} {x : Statement} {inside rest : Statements} (p : ℕ) → BlockAt s st k v (state x inside rest) → touched st k p ≡ touches p x
unfolding touched touches statement_cells
touched_is p b =
    ap₂ either (ap (λ (i : ℕ). eqb i p) (first_cell b 0 (omega arith)))
    (ap₂ either (ap (λ (i : ℕ). eqb i p) (first_cell b 2 (omega arith))) (ap (λ (i : ℕ). eqb i p) (first_cell b 5 (omega arith))))

module _ (s d e st : List ℕ) (z : Sizes) (key k name size : ℕ) (pn : name ≡ get_or st (k * 7 + 0) 0) (ps : size ≡ get_or st (k * 7 + 1) 0) where
  pub inner_none : FindsDefinition s d z.definitions key name size None → FindsInner s d e st z key k 0
  unfolding inner
  inner_none g o f ds x inside rest v c w b =
      let h = row_nothing (find_definition ds x.name) (looked_up None pn ps c w b g) in
      subst (λ t. ScopeAt f 0 (inner t x)) (sym h) no_scope

  pub inner_some : (j at len u : ℕ) → FindsDefinition s d z.definitions key name size (Some j) → at ≡ get_or st (k * 7 + 2) 0 → len ≡ get_or st (k * 7 + 3) 0
      → FindsWord s d e z.enumerators j at len u → FindsInner s d e st z key k u
  unfolding inner stated_as
  inner_some j at len u g pa pl i o f ds x inside rest v c w b =
      let y = row_found_as (find_definition ds x.name) j (looked_up (Some j) pn ps c w b g) in
      let a = stated_as j y.defined c w b y.is y.row in
      subst (λ t. ScopeAt f u (inner t x)) (sym y.is) (value_scope a at len u pa pl i)

-- The first of two sites ----------------------------------------------------------------------------------------------------------------------

module _ {s st : List ℕ} {f : File} {r : Spot} where
  spot_first : {o : Option Site} (o' : Option Site) → SpotIs s st f r o → r.found ≡ true → SpotIs s st f r (or_site o o')
  unfolding or_site
  spot_first o' (no_spot e) h = absurd (false≢true (sym e ∙ h))
  spot_first o' (a_spot x) h = a_spot x

  spot_none : {o : Option Site} → SpotIs s st f r o → r.found ≡ false → o ≡ none
  spot_none (no_spot e) h = refl
  spot_none (a_spot x) h = absurd (false≢true (sym h ∙ x.found))

or_none : {o : Option Site} (o' : Option Site) → o ≡ none → or_site o o' ≡ o'
unfolding or_site
or_none o' e = ap (λ (q : Option Site). or_site q o') e

-- A block -------------------------------------------------------------------------------------------------------------------------------------

module _ (p : ℕ) (x : Statement) (inside rest : Statements) (ds : Definitions) (front : Statements) where
  own_site : Site
  own_site = record { scope = ds; before = front; statement = x; inside = inside; rest = rest }

  abbrev later : Option Site
  later = or_site (site_in p inside (inner (find_definition ds x.name) x) done) (site_in p rest ds (then front (state x inside done)))

  site_here : touches p x ≡ true → site_in p (state x inside rest) ds front ≡ some own_site
  unfolding site_in or_site site_if own_site
  site_here h = ap (λ b. or_site (site_if b own_site) later) h

  site_later : touches p x ≡ false → site_in p (state x inside rest) ds front ≡ later
  unfolding site_in or_site site_if own_site
  site_later h = ap (λ b. or_site (site_if b own_site) later) h

-- The loop over a block's own statements: none of those in front is sought, nor what is in their braces.
pub record Sought (m k p : ℕ) (ds : Definitions) (ss : Statements) : Type 0 where
  pub front : Statements
  pub rest : Statements
  pub whole : ss ≡ then front rest
  pub row : k ≡ m + statements_in front
  pub same : site_in p ss ds done ≡ site_in p rest ds front

abbrev pub Seeking : (s d e st : List ℕ) → Sizes → (key m n p k : ℕ) → Type 0
Seeking s d e st z key m n p k =
    (o : List ℕ) (f : File) (ds : Definitions) (ss : Statements) → Given s d e o st z f → ScopeAt f key ds → BlockAt s st m n ss → Sought m k p ds ss

module _ (s d e st : List ℕ) (z : Sizes) (key m n p : ℕ) where
  pub seeking_start : Seeking s d e st z key m n p m
  unfolding then statements_in
  seeking_start o f ds ss c w b = record { front = done; rest = ss; whole = refl; row = omega arith; same = refl }

  past : {A : Type 0} (k : ℕ) (ss front : Statements) → k < n → BlockAt s st m n ss → ss ≡ then front done → k ≡ m + statements_in front → A
  unfolding statements_in
  past k ss front h b q i =
      let l = b.after in
      let l' = ap statements_in q in
      let l'' = in_then front done in
      absurd (omega arith)

  module _ (k : ℕ) (h : k < n) (i : Seeking s d e st z key m n p k) where
    pub seeking_stop : touched st k p ≡ true → Seeks s d e st z key m n p (record { found = true; key = key; from = m; row = k; end = n })
    unfolding own_site
    seeking_stop t o f ds ss c w b = go u.front u.rest u.whole u.row u.same
      where
        u : Sought m k p ds ss
        u = i o f ds ss c w b

        go : (front rest : Statements) → ss ≡ then front rest → k ≡ m + statements_in front → site_in p ss ds done ≡ site_in p rest ds front
            → SpotIs s st f (record { found = true; key = key; from = m; row = k; end = n }) (site_in p ss ds done)
        go front done q j a = past k ss front h b q j
        go front (state x inside rest) q j a =
            let b' : BlockAt s st m n (then front (state x inside rest)) = subst (BlockAt s st m n) q b in
            let bb : BlockAt s st k n (state x inside rest) = subst (λ u. BlockAt s st u n (state x inside rest)) (sym j) (back_at front (state x inside rest) b') in
            subst (SpotIs s st f (record { found = true; key = key; from = m; row = k; end = n }))
            (sym (a ∙ site_here p x inside rest ds front (sym (touched_is p bb) ∙ t)))
            (a_spot (record { found = refl; scope = w; block = b'; row = j }))

    module _ (t : touched st k p ≡ false) (next under : ℕ) (r : Spot) (g : next ≡ row_after st k n) (y : FindsInner s d e st z key k under) (v : Seeks s d e st z under (k + 1) next p r) where
      inside-spot : (o : List ℕ) (f : File) (ds : Definitions) (x : Statement) (inside rest : Statements) → Given s d e o st z f → ScopeAt f key ds
          → BlockAt s st k n (state x inside rest) → SpotIs s st f r (site_in p inside (inner (find_definition ds x.name) x) done)
      inside-spot o f ds x inside rest c w bb =
          let a = g ∙ first_after bb in
          let k₁ : suc k ≡ k + 1 = omega arith in
          let bi : BlockAt s st (k + 1) next inside = subst (λ u. BlockAt s st u next inside) k₁ (subst (λ u. BlockAt s st (suc k) u inside) (sym a) (inside_at bb)) in
          v o f (inner (find_definition ds x.name) x) inside c (y o f ds x inside rest n c w bb) bi

      pub seeking-inside : r.found ≡ true → Seeks s d e st z key m n p r
      seeking-inside l o f ds ss c w b = go u.front u.rest u.whole u.row u.same
        where
          u : Sought m k p ds ss
          u = i o f ds ss c w b

          go : (front rest : Statements) → ss ≡ then front rest → k ≡ m + statements_in front → site_in p ss ds done ≡ site_in p rest ds front → SpotIs s st f r (site_in p ss ds done)
          go front done q j a = past k ss front h b q j
          go front (state x inside rest) q j a =
              let b' : BlockAt s st m n (then front (state x inside rest)) = subst (BlockAt s st m n) q b in
              let bb : BlockAt s st k n (state x inside rest) = subst (λ u. BlockAt s st u n (state x inside rest)) (sym j) (back_at front (state x inside rest) b') in
              subst (SpotIs s st f r)
              (sym (a ∙ site_later p x inside rest ds front (sym (touched_is p bb) ∙ t)))
              (spot_first (site_in p rest ds (then front (state x inside done))) (inside-spot o f ds x inside rest c w bb) l)

      pub seeking-more : r.found ≡ false → Seeking s d e st z key m n p next
      unfolding statements_in then
      seeking-more l o f ds ss c w b = go u.front u.rest u.whole u.row u.same
        where
          u : Sought m k p ds ss
          u = i o f ds ss c w b

          go : (front rest : Statements) → ss ≡ then front rest → k ≡ m + statements_in front → site_in p ss ds done ≡ site_in p rest ds front → Sought m next p ds ss
          go front done q j a = past k ss front h b q j
          go front (state x inside rest) q j a =
              let b' : BlockAt s st m n (then front (state x inside rest)) = subst (BlockAt s st m n) q b in
              let bb : BlockAt s st k n (state x inside rest) = subst (λ u. BlockAt s st u n (state x inside rest)) (sym j) (back_at front (state x inside rest) b') in
              let n₁ = g ∙ first_after bb in
              let n₂ = in_then front (state x inside done) in
              record {
                front = then front (state x inside done);
                rest = rest;
                whole = q ∙ sym (then_assoc front (state x inside done) rest);
                row = omega arith;
                same = a
                    ∙ site_later p x inside rest ds front (sym (touched_is p bb) ∙ t)
                    ∙ or_none (site_in p rest ds (then front (state x inside done))) (spot_none (inside-spot o f ds x inside rest c w bb) l);
              }

  pub seeking_end : (k : ℕ) (r : Spot) → n ≤ k → r.found ≡ false → Seeking s d e st z key m n p k → Seeks s d e st z key m n p r
  unfolding statements_in site_in
  seeking_end k r h l i o f ds ss c w b = go u.front u.rest u.whole u.row u.same
    where
      u : Sought m k p ds ss
      u = i o f ds ss c w b

      go : (front rest : Statements) → ss ≡ then front rest → k ≡ m + statements_in front → site_in p ss ds done ≡ site_in p rest ds front → SpotIs s st f r (site_in p ss ds done)
      go front done q j a = subst (SpotIs s st f r) (sym a) (no_spot l)
      go front (state x inside rest) q j a =
          let l₀ = b.after in
          let l₁ = ap statements_in q in
          let l₂ = in_then front (state x inside rest) in
          absurd (omega arith)

-- All objects ---------------------------------------------------------------------------------------------------------------------------------

pub object_by : (s d e o st : List ℕ) (z : Sizes) (ps : List ℕ) (i p kind key m n : ℕ) (r : Spot) → kind ≡ get_or o (i * 10 + 0) 0 → key ≡ get_or ps kind 0
    → m ≡ get_or o (i * 10 + 8) 0 → n ≡ get_or o (i * 10 + 9) 0 → Seeks s d e st z key m n p r → SeeksObject s d e o st z ps i p r
object_by s d e o st z ps i p kind key m n r pk py pm pn g f front x rest c pl w q =
    let R = kept_object front x rest c w q in
    let kind_is : kind ≡ kind_number x.kind = pk ∙ R.kind in
    let key_is : key ≡ kind_place (kind_number x.kind) f.specs = py ∙ ap (λ a. get_or ps a 0) kind_is ∙ pl.place x.kind in
    let m-is : m ≡ statement_count front = pm ∙ R.from in
    let n_is : n ≡ statement_count front + statements_in x.statements = pn ∙ R.till in
    g o f (of_kind x.kind f.specs) x.statements c (subst (λ a. ScopeAt f a (of_kind x.kind f.specs)) (sym key_is) (scope_of_kind f x.kind))
    (subst (λ a. BlockAt s st a n x.statements) (sym m-is) (subst (λ a. BlockAt s st (statement_count front) a x.statements) (sym n_is) R.block))

-- The loop over the objects: nothing in those in front is sought.
pub record SoughtObjects (i p : ℕ) (f : File) : Type 0 where
  pub front : List Object
  pub rest : List Object
  pub whole : f.objects ≡ front ++ rest
  pub row : length front ≡ i
  pub same : site_of f p f.objects ≡ site_of f p rest

abbrev pub SeekingObjects : (s d e o st : List ℕ) → Sizes → (ps : List ℕ) → (p i : ℕ) → Type 0
SeekingObjects s d e o st z ps p i = (f : File) → Given s d e o st z f → Places f ps → SoughtObjects i p f

module _ (s d e o st : List ℕ) (z : Sizes) (ps : List ℕ) (p : ℕ) where
  pub objects_start : SeekingObjects s d e o st z ps p 0
  objects_start f c pl = record { front = []; rest = f.objects; whole = refl; row = refl; same = refl }

  module _ (i : ℕ) (r : Spot) (h : i < z.objects) (w : SeeksObject s d e o st z ps i p r) (v : SeekingObjects s d e o st z ps p i) where
    pub objects_stop : r.found ≡ true → SeeksAll s d e o st z ps p r
    unfolding site_of
    objects_stop l f c pl = go u.front u.rest u.whole u.row u.same
      where
        u : SoughtObjects i p f
        u = v f c pl

        go : (front rest : List Object) → f.objects ≡ front ++ rest → length front ≡ i → site_of f p f.objects ≡ site_of f p rest → SpotIs s st f r (site_of f p f.objects)
        go front [] q j a =
            let l₀ = c.tables.objects in
            let l₁ = ap (λ (a : List Object). length a) (q ∙ append-nil front) in
            absurd (omega arith)
        go front (x ∷ rest) q j a = subst (SpotIs s st f r) (sym a) (spot_first (site_of f p rest) (w f front x rest c pl q j) l)

    pub objects_more : r.found ≡ false → SeekingObjects s d e o st z ps p (i + 1)
    unfolding site_of
    objects_more l f c pl = go u.front u.rest u.whole u.row u.same
      where
        u : SoughtObjects i p f
        u = v f c pl

        go : (front rest : List Object) → f.objects ≡ front ++ rest → length front ≡ i → site_of f p f.objects ≡ site_of f p rest → SoughtObjects (i + 1) p f
        go front [] q j a =
            let l₀ = c.tables.objects in
            let l₁ = ap (λ (a : List Object). length a) (q ∙ append-nil front) in
            absurd (omega arith)
        go front (x ∷ rest) q j a =
            let l₀ = length-append front (x ∷ []) in
            record {
              front = front ++ (x ∷ []);
              rest = rest;
              whole = q ∙ sym (append_assoc front (x ∷ []) rest);
              row = omega arith;
              same = a ∙ or_none (site_of f p rest) (spot_none (w f front x rest c pl q j) l);
            }

  pub objects_end : (i : ℕ) (r : Spot) → z.objects ≤ i → r.found ≡ false → SeekingObjects s d e o st z ps p i → SeeksAll s d e o st z ps p r
  unfolding site_of
  objects_end i r h l v f c pl = go u.front u.rest u.whole u.row u.same
    where
      u : SoughtObjects i p f
      u = v f c pl

      go : (front rest : List Object) → f.objects ≡ front ++ rest → length front ≡ i → site_of f p f.objects ≡ site_of f p rest → SpotIs s st f r (site_of f p f.objects)
      go front [] q j a = subst (SpotIs s st f r) (sym a) (no_spot l)
      go front (x ∷ rest) q j a =
          let l₀ = c.tables.objects in
          let l₁ = ap (λ (a : List Object). length a) q in
          let l₂ = length-append front (x ∷ rest) in
          absurd (omega arith)

-- Tests of a flag that is turned ----------------------------------------------------------------------------------------------------------------

pub turned_true : (b : Bool) → not b ≡ true → b ≡ false
turned_true true e = absurd (false≢true e)
turned_true false e = refl

pub turned_false : (b : Bool) → not b ≡ false → b ≡ true
turned_false true e = refl
turned_false false e = absurd (false≢true (sym e))
