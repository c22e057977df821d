-- The laws of the whole call. Assumes nothing.
use Prim.Native.Nat.{ℕ, ◌+◌, ◌≤◌, min}
use mathlib.Core.List.{List, ◌++◌}
use mathlib.Core.Bool.{Bool, true, false}
use mathlib.Core.Path.{◌≡◌, refl, sym, ◌∙◌, ap, ap₂}
use native.Mathlib.Omega.{arith}
use lib.ListN.{length, get_or, take, drop, drop_of_length-le}
use lib.Seq.{sets, take_all}
use Rattle.token.specs.Tokens.{bytes_between}
use Rattle.sources.specs.Texts.{told_well}
use Rattle.sources.specs.Expanding.{expand_n, main_open, main_text, expanded, expansion_by, expansion_if, expansion_within}
use Rattle.sources.specs.Numbering.{span_of}
use Rattle.sources.specs.Promises.{AsksFrom, Fills, filled, Expands}
use Rattle.sources.specs.Notes.{AllNoted}
use Rattle.sources.specs.declared.Fill.{Fill}
use Rattle.sources.proofs.Singles.{split}
use Rattle.std.specs.Prelude.{Some}
use Rattle.sources.proofs.Tellings.{Fits, fits, told}
use Rattle.sources.proofs.Numberings.{span_here}
use Rattle.sources.proofs.Notings.{span_length}

-- the main text lies in the buffer
pub main_fits : (b l : List ℕ) → told_well b l ≡ true → Fits b 0 l 0
main_fits b l t =
    let u = told b l t in
    let n = u.some in
    fits b 0 l 0 (omega arith) u.fit

-- the room is the front of the memory, or all of it
pub room_take : (n : ℕ) (l : List ℕ) → take (min n (length l)) l ≡ take n l
room_take n l =
    split (length l) n
    (λ h.
    let e : min n (length l) ≡ length l = omega arith in
    let u : length l ≤ length l = omega arith in
    let v : length l ≤ n = omega arith in
    ap (λ (k : ℕ). take k l) e ∙ take_all (length l) l u ∙ sym (take_all n l v))
    (λ h.
    let e : min n (length l) ≡ n = omega arith in
    ap (λ (k : ℕ). take k l) e)

pub room_drop : (n : ℕ) (l : List ℕ) → drop (min n (length l)) l ≡ drop n l
room_drop n l =
    split (length l) n
    (λ h.
    let e : min n (length l) ≡ length l = omega arith in
    let u : length l ≤ length l = omega arith in
    let v : length l ≤ n = omega arith in
    ap (λ (k : ℕ). drop k l) e ∙ drop_of_length-le l u ∙ sym (drop_of_length-le l v))
    (λ h.
    let e : min n (length l) ≡ n = omega arith in
    ap (λ (k : ℕ). drop k l) e)

room_after : (max n : ℕ) (o x o' : List ℕ) → n ≡ min max (length o) → o' ≡ sets (take n o) 0 x → o' ++ drop n o ≡ sets (take max o) 0 x ++ drop max o
room_after max n o x o' e f =
    ap₂ ◌++◌ (f ∙ ap (λ (l : List ℕ). sets l 0 x) (ap (λ (k : ℕ). take k o) e ∙ room_take max o)) (ap (λ (k : ℕ). drop k o) e ∙ room_drop max o)

pub expands : (max : ℕ) (b l o g : List ℕ) (n m : ℕ) (o' g' : List ℕ) (f : Fill) → told_well b l ≡ true → n ≡ min max (length o) → m ≡ min max (length g) →
    Fills max (expand_n 8 b l 0 (bytes_between b (get_or l 0 0) (get_or l 0 0 + get_or l 1 0)) main_open) (take n o) (take m g) 0 o' g' f →
    Expands max b l o g (o' ++ drop n o) (g' ++ drop m g) (record { number = f.number; place = f.place; length = f.end })
unfolding expanded main_text expansion_within
expands max b l o g n m o' g' f t e h u =
    record {
      result = ap expansion_by u.result ∙ ap (λ (x : Bool). expansion_if x max b l) (sym t);
      bytes = room_after max n o (expanded b l).bytes o' e u.bytes ∙ ap (λ (x : Bool). filled x max o (expanded b l).bytes) (sym t);
      origins = room_after max m g (expanded b l).origins g' h u.origins ∙ ap (λ (x : Bool). filled x max g (expanded b l).origins) (sym t);
    }

pub told_badly : (max : ℕ) (b l o g : List ℕ) → told_well b l ≡ false → Expands max b l o g o g (record { number = 30; place = 0; length = 0 })
unfolding expansion_within
told_badly max b l o g t =
    record {
      result = ap (λ (x : Bool). expansion_if x max b l) (sym t);
      bytes = ap (λ (x : Bool). filled x max o (expanded b l).bytes) (sym t);
      origins = ap (λ (x : Bool). filled x max g (expanded b l).origins) (sym t);
    }

-- the main text is the text of number 0
pub main_span : (b l : List ℕ) → told_well b l ≡ true → span_of l 0 ≡ Some (0, get_or l 0 0, get_or l 0 0 + get_or l 1 0)
unfolding span_of
main_span b l t =
    let f = main_fits b l t in
    let e : 0 + get_or l 0 0 ≡ get_or l 0 0 = omega arith in
    span_here 0 0 l 0 0 f.two_left refl ∙ ap (λ (x : ℕ). Some (0, x, x + get_or l 1 0)) e

-- it is noted from its start on
pub main_asks : (b l t : List ℕ) → told_well b l ≡ true → AllNoted b l t 8 → AsksFrom b l t (bytes_between b (get_or l 0 0) (get_or l 0 0 + get_or l 1 0)) 0 0
main_asks b l t w a =
    let z = main_span b l w in
    record {
      short = span_length b l 0 0 (get_or l 0 0) (get_or l 0 0 + get_or l 1 0) w z;
      inside = omega arith;
      noted = a.each 0 (get_or l 0 0) (get_or l 0 0 + get_or l 1 0) (omega arith) z;
    }
