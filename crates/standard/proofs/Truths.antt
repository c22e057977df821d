-- What a test tells. Assumes nothing.
use mathlib.Core.Path.{◌≡◌, refl, sym}
use mathlib.Core.Bool.{Bool, true, false, not, false≢true}
use Rattle.token.specs.Find.{both}

pub both_left : (a b : Bool) → both a b ≡ true → a ≡ true
both_left true b h = refl
both_left false b h = h

pub both_right : (a b : Bool) → both a b ≡ true → b ≡ true
both_right true b h = h
both_right false b h = absurd (false≢true h)

pub is_false : (a : Bool) → not a ≡ true → a ≡ false
is_false true h = sym h
is_false false h = refl

pub is_true : (a : Bool) → not a ≡ false → a ≡ true
is_true true h = refl
is_true false h = sym h
