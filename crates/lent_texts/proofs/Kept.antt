-- What the lent memory holds after the expansion. Assumes nothing.
use Prim.Native.Nat.{ℕ, ◌+◌, ◌≤◌, ◌<◌}
use mathlib.Core.List.{List, ◌++◌, append_assoc}
use mathlib.Core.Bool.{Bool, true}
use mathlib.Core.Path.{◌≡◌, refl, sym, ◌∙◌, ap, subst}
use native.Mathlib.Omega.{arith}
use lib.ListN.{length, get_or, take, drop, length-append, get_or-append}
use lib.Seq.{sets-eq, take-append_seam, length-take-le}
use borrow.Author.Tests.{lt-ltb, le-ltb}
use Rattle.token.specs.Find.{pick}
use Rattle.sources.specs.Texts.{told_well}
use Rattle.sources.specs.Expanding.{Piece, main_open, main_text, expanded, fill_of, is_too_long, expansion_by, expansion_if, expansion_within, expansion_of}
use Rattle.sources.specs.Promises.{filled, Expands}
use Rattle.sources.specs.declared.Fill.{Fill}
use Rattle.sources.specs.declared.Expansion.{Expansion}
use Rattle.sources.proofs.Singles.{split, fill_short, fill_long}
use Rattle.sources.proofs.Pieces.{Good, good_expand}
use Rattle.sources.proofs.Wholes.{main_fits}
use Rattle.sources.proofs.Stops.{length_between}
use Rattle.sources_reading.proofs.Answered.{Within, within}
use Rattle.placing.specs.Placed.{place_in}
use Rattle.lent_texts.specs.Answered.{place_of}

place_inside : (g : List ℕ) (n m p : ℕ) → p < n → place_in g n m p ≡ get_or g p 0
unfolding place_in
place_inside g n m p h = rw (lt-ltb p n h)

place_end : (g : List ℕ) (n m p : ℕ) → n ≤ p → place_in g n m p ≡ m
unfolding place_in
place_end g n m p h = rw (le-ltb p n h)

-- what is filled begins the memory
front : (o x : List ℕ) → length x ≤ 65535 → 65535 ≤ length o → (r : List ℕ) × (filled true 65535 o x ≡ x ++ r)
front o x h k =
    let n = length-take-le 65535 o k in (
      drop (0 + length x) (take 65535 o) ++ drop 65535 o,
      ap (λ (y : List ℕ). y ++ drop 65535 o) (sets-eq x (take 65535 o) 0 (omega arith))
          ∙ append_assoc x (drop (0 + length x) (take 65535 o)) (drop 65535 o),
    )

pub record Kept (b l x' g' : List ℕ) (e : Expansion) : Type 0 where
  pub told : told_well b l ≡ true
  pub size : e.length ≡ length (expanded b l).bytes
  pub number : e.number ≡ (expanded b l).number
  pub bytes : take e.length x' ≡ (expanded b l).bytes
  pub inside : e.length ≤ length x'
  pub main : get_or l 1 0 ≡ length (main_text b l)
  pub place : (p : ℕ) → place_in g' e.length (get_or l 1 0) p ≡ place_of b l p
  pub two : 1 < length l
  pub small : e.number ≤ 29

expansion_is : (b l : List ℕ) → Within b l → (x : Piece) → x ≡ expanded b l → length x.bytes + x.rest ≤ 65535 → expansion_of b l ≡ record { number = x.number; place = 0 + x.place; length = 0 + length x.bytes }
unfolding expansion_within fill_of
expansion_is b l w x e h =
    ap (λ (t : Bool). expansion_if t 65535 b l) w.told
    ∙ ap (λ (y : Piece). expansion_by (fill_of 65535 0 y)) (sym e)
    ∙ ap expansion_by (sym (fill_short 65535 x.number (0 + x.place) (0 + length x.bytes) (0 + length x.bytes + x.rest) (omega arith)))

by_told : (b l : List ℕ) → told_well b l ≡ true → ((expansion_of b l).number ≡ 30 → ⊥) → length (expanded b l).bytes + (expanded b l).rest ≤ 65535
unfolding expansion_within fill_of is_too_long
by_told b l t n =
    let x = expanded b l in
    split 65535 (0 + length x.bytes + x.rest)
    (λ h.
    absurd (n (ap (λ (u : Bool). (expansion_if u 65535 b l).number) t
    ∙ sym (ap (λ (u : Fill). u.number) (fill_long 65535 x.number (0 + x.place) (0 + length x.bytes) (0 + length x.bytes + x.rest) h)))))
    (λ h. omega arith)

main_length : (b l : List ℕ) → told_well b l ≡ true → get_or l 1 0 ≡ length (main_text b l)
unfolding main_text
main_length b l t =
    let f = main_fits b l t in
    let x = f.name in
    let y = f.text in
    let n = length_between b (get_or l 0 0) (get_or l 0 0 + get_or l 1 0) (omega arith) in
    omega arith

good_expanded : (b l : List ℕ) → told_well b l ≡ true → Good (expanded b l)
unfolding expanded
good_expanded b l t = good_expand 8 b l 0 (main_text b l) main_open t

place_same : (b l g' r : List ℕ) (n m : ℕ) → Good (expanded b l) → g' ≡ (expanded b l).origins ++ r → n ≡ length (expanded b l).bytes → m ≡ length (main_text b l) →
    (p : ℕ) → place_in g' n m p ≡ place_of b l p
unfolding place_of
place_same b l g' r n m o e f h p =
    let x = expanded b l in
    let k = o.even in
    subst (λ (i : ℕ). place_in g' n i p ≡ place_in x.origins (length x.bytes) (length (main_text b l)) p) (sym h)
    (subst (λ (i : ℕ). place_in g' i (length (main_text b l)) p ≡ place_in x.origins (length x.bytes) (length (main_text b l)) p) (sym f)
    (split p (length x.bytes)
    (λ u.
    let z : get_or g' p 0 ≡ get_or x.origins p 0 = ap (λ (y : List ℕ). get_or y p 0) e ∙ get_or-append x.origins r 0 p (omega arith) in
    place_inside g' (length x.bytes) (length (main_text b l)) p u ∙ z ∙ sym (place_inside x.origins (length x.bytes) (length (main_text b l)) p u))
    (λ u. place_end g' (length x.bytes) (length (main_text b l)) p u ∙ sym (place_end x.origins (length x.bytes) (length (main_text b l)) p u))))

pub kept : (b l x g x' g' : List ℕ) (e : Expansion) → Expands 65535 b l x g x' g' e → 65535 ≤ length x → 65535 ≤ length g → (e.number ≡ 30 → ⊥) → Kept b l x' g' e
kept b l o g o' g' e u h k n =
    let x = expanded b l in
    let m : (expansion_of b l).number ≡ 30 → ⊥ = λ z. n (ap (λ (y : Expansion). y.number) u.result ∙ z) in
    let w = within b l m in
    let t = w.told in
    let c = by_told b l t m in
    let f = u.result ∙ expansion_is b l w x refl c in
    let size : e.length ≡ length x.bytes = let z : e.length ≡ 0 + length x.bytes = ap (λ (y : Expansion). y.length) f in omega arith in
    let good = good_expanded b l t in
    let even = good.even in
    let fo = front o x.bytes (omega arith) h in
    let fg = front g x.origins (omega arith) k in
    let eo : o' ≡ x.bytes ++ fo.0 = u.bytes ∙ ap (λ (y : Bool). filled y 65535 o x.bytes) t ∙ fo.1 in
    let eg : g' ≡ x.origins ++ fg.0 = u.origins ∙ ap (λ (y : Bool). filled y 65535 g x.origins) t ∙ fg.1 in
    let no = ap length eo ∙ length-append x.bytes fo.0 in
    let fits = main_fits b l t in
    let two = fits.two_left in
    record {
      told = t;
      size = size;
      number = ap (λ (y : Expansion). y.number) f;
      bytes = ap (λ (y : List ℕ). take e.length y) eo ∙ ap (λ (i : ℕ). take i (x.bytes ++ fo.0)) size ∙ take-append_seam x.bytes fo.0;
      inside = omega arith;
      main = main_length b l t;
      place = place_same b l g' fg.0 e.length (get_or l 1 0) good eg size (main_length b l t);
      two = omega arith;
      small = let z : e.number ≡ x.number = ap (λ (y : Expansion). y.number) f in let y = good.small in omega arith;
    }
