-- Members of lists, and lists that are empty. Assumes nothing.
use mathlib.Core.Path.{◌≡◌, refl, ◌∙◌, ap}
use mathlib.Core.List.{List, [], ◌∷◌, ◌++◌}
use lib.ListN.{length}
use native.Mathlib.Omega.{arith}

-- x is one of a list.
pub data Has {A : Type 0} (x : A) : List A → Type 0 where
  here : {l : List A} → Has x (x ∷ l)
  later : {y : A} {l : List A} → Has x l → Has x (y ∷ l)

pub has_left : {A : Type 0} {x : A} {a : List A} (b : List A) → Has x a → Has x (a ++ b)
has_left b here = here
has_left b (later h) = later (has_left b h)

pub has_right : {A : Type 0} {x : A} (a : List A) {b : List A} → Has x b → Has x (a ++ b)
has_right [] h = h
has_right (y ∷ a) h = later (has_right a h)

pub data Split {A : Type 0} (x : A) (a b : List A) : Type 0 where
  on_left : Has x a → Split x a b
  on_right : Has x b → Split x a b

split_later : {A : Type 0} {x y : A} {a b : List A} → Split x a b → Split x (y ∷ a) b
split_later (on_left h) = on_left (later h)
split_later (on_right h) = on_right h

pub has_split : {A : Type 0} {x : A} (a b : List A) → Has x (a ++ b) → Split x a b
has_split [] b h = on_right h
has_split (y ∷ a) b here = on_left here
has_split (y ∷ a) b (later h) = split_later (has_split a b h)

pub no_cons : {A : Type 0} (x : A) (l : List A) → x ∷ l ≡ [] → ⊥
no_cons x l h = let e : length (x ∷ l) ≡ 0 = ap length h in omega arith

pub has_none : {A : Type 0} {x : A} {l : List A} → Has x l → l ≡ [] → ⊥
has_none {x = x} (here {l = l}) e = no_cons x l e
has_none (later {y = y} {l = l} h) e = no_cons y l e

-- Of lists that are empty together, each is.
pub none_left : {A : Type 0} (a b : List A) → a ++ b ≡ [] → a ≡ []
none_left [] b h = refl
none_left (x ∷ a) b h = absurd (no_cons x (a ++ b) h)

pub none_right : {A : Type 0} (a b : List A) → a ++ b ≡ [] → b ≡ []
none_right [] b h = h
none_right (x ∷ a) b h = absurd (no_cons x (a ++ b) h)

pub none_both : {A : Type 0} (a b : List A) → a ≡ [] → b ≡ [] → a ++ b ≡ []
none_both a b h i = ap (λ l. l ++ b) h ∙ i

-- By where a member stands.
pub split_by : {A R : Type 0} {x : A} (a b : List A) → Has x (a ++ b) → (Has x a → R) → (Has x b → R) → R
split_by {R = R} {x = x} a b h f g = by (has_split a b h)
  where
    by : Split x a b → R
    by (on_left m) = f m
    by (on_right m) = g m

pub first_or : {A R : Type 0} {x y : A} {l : List A} → Has x (y ∷ l) → (y ≡ x → R) → (Has x l → R) → R
first_or here f g = f refl
first_or (later m) f g = g m
