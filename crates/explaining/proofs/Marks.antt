-- The mark stands under the place: what is before it is blank under what is before the place in the line shown.
-- Assumes nothing.
use Prim.Native.Nat.{ℕ, ◌+◌, ◌-◌, ◌<◌, ◌≤◌}
use mathlib.Core.Path.{◌≡◌, ◌∙◌, ap, sym}
use mathlib.Core.Bool.{true}
use mathlib.Core.List.{List, ◌++◌}
use mathlib.Core.Logic.{◌≢◌}
use native.Mathlib.Omega.{arith}
use native.Mathlib.Decide.{dec_lt}
use lib.ListN.{length, take, drop, length-append, get_or-append}
use lib.Seq.{take-append-le, take-append-add, take-take, get_or-append-add, get_or-take, get_or-drop}
use Rattle.token.specs.Tokens.{bytes_between}
use Rattle.token.specs.Find.{byte}
use Rattle.token.proofs.Find.{by_test}
use Rattle.explaining.specs.declared.View.{View}
use Rattle.explaining.specs.Places.{line_end, cr_before, shown_end, token_end}
use Rattle.explaining.specs.Windows.{Fits, view_in, view_of, ViewsAreWindows}
use Rattle.explaining.specs.Pictures.{dots, line_bytes, mark_bytes, marked, shown_line, mark_line, picture}
use Rattle.explaining.proofs.Starts.{start_low}
use Rattle.explaining.proofs.Ends.{end_low, end_at, cr_inside}
use Rattle.explaining.proofs.Frames.{window_is, view_fits}
use Rattle.explaining.proofs.Stores.{bytes_long, line_short, mark_long}

module _ (s : List ℕ) (v : View) (h : Fits s v) where
  middle_long : length (dots v.front ++ bytes_between s v.from v.to) ≡ length (dots v.front) + (v.to - v.from)
  middle_long = length-append (dots v.front) (bytes_between s v.from v.to) ∙ ap (length (dots v.front) +◌) (bytes_long s v.from v.to h.inside)

  mark_at : length (mark_bytes s v) ≡ length (dots v.front) + (v.at - v.from)
  unfolding mark_bytes
  mark_at = length-append (dots v.front) (bytes_between s v.from v.at) ∙ ap (length (dots v.front) +◌) (bytes_long s v.from v.at h.placed)

  -- the bytes before the mark are the first of the line shown
  pub mark_front : v.at ≤ v.to → take (length (mark_bytes s v)) (line_bytes s v) ≡ mark_bytes s v
  unfolding line_bytes mark_bytes
  mark_front k =
      let n = v.at - v.from in
      let d = dots v.front in
      let b = take (v.to - v.from) (drop v.from s) in
      let l : length (d ++ bytes_between s v.from v.at) ≤ length (d ++ b) = omega (arith, mark_at, middle_long) in
      take-append-le _ (d ++ b) (dots v.behind) l
      ∙ ap (λ (i : ℕ). take i (d ++ b)) mark_at
      ∙ take-append-add d b n
      ∙ ap (d ++◌) (take-take n (v.to - v.from) (drop v.from s) (omega arith))

  -- and what stands over the mark is the byte at the place
  pub mark_under : v.at < v.to → byte (line_bytes s v) (length (mark_bytes s v)) ≡ byte s v.at
  unfolding line_bytes mark_bytes
  mark_under k =
      let n = v.at - v.from in
      let d = dots v.front in
      let b = take (v.to - v.from) (drop v.from s) in
      let l : length (d ++ bytes_between s v.from v.at) < length (d ++ b) = omega (arith, mark_at, middle_long, h.before) in
      let e : v.from + n ≡ v.at = omega (arith, h.before) in
      get_or-append (d ++ b) (dots v.behind) 0 _ l
      ∙ ap (byte (d ++ b)) mark_at
      ∙ get_or-append-add d b n 0
      ∙ get_or-take (v.to - v.from) (drop v.from s) n 0 (omega (arith, h.before))
      ∙ get_or-drop v.from s n 0
      ∙ ap (byte s) e

-- a place that is not at an LF is in the part of its line that is shown, or at its end
pub place_shown : (s : List ℕ) (p : ℕ) → p ≤ length s → byte s p ≢ 10 → p ≤ shown_end s (line_end s p)
unfolding shown_end
place_shown s p h n =
    by_test (λ (k : ℕ). p ≤ k) (cr_before s (line_end s p)) (line_end s p - 1) (line_end s p)
    (λ t. before_cr t (dec_lt p (line_end s p)))
    (λ _. end_low s p)
  where
    before_cr : cr_before s (line_end s p) ≡ true → Dec (p < line_end s p) → p ≤ line_end s p - 1
    before_cr t (yes y) = omega arith
    before_cr t (no k) =
        let e : line_end s p ≡ p = omega (arith, end_low s p) in
        absurd (n (ap (byte s) (sym e) ∙ end_at s p h (cr_inside s (line_end s p) t)))

-- so the view of such a place is a window on its line around it
pub view_is_window : ViewsAreWindows
unfolding view_of view_in
view_is_window s p h n = window_is _ _ p (start_low s p) (place_shown s p h n)

marked_most : (v : View) (e : ℕ) → marked v e ≤ v.to - (v.at + 1)
unfolding marked
marked_most v e = omega arith

-- both lines fit 157 bytes
pub picture_short : (s : List ℕ) (p : ℕ) → p ≤ length s → length (picture s p) ≤ 157
unfolding picture
picture_short s p h =
    let v = view_of s p in
    let f = view_fits s p h in
    let e = token_end s p in
    omega (arith, length-append (shown_line s v) (mark_line s v e), line_short s v f, mark_long s v f e, marked_most v e, f.front, f.near, f.most)
