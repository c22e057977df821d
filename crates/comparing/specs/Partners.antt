-- Which rows of two objects' values match, by numbers: for each row its owner, 0 for the object and else one more than the owner's row, and the
-- number of its step. Rows are counted from the object's first. Assumes nothing.
use Rattle.std.specs.Prelude.{List, [], ◌∷◌, ◌++◌, ℕ, zero, suc, ◌<◌, ◌≤◌, eqb, length, get_or}
use Rattle.token.specs.Find.{pick, both}

-- One more than the first row with this owner and this step, of rows that are counted from i; 0 where there is none.
unfoldable pub step_from : ℕ → List ℕ → List ℕ → ℕ → ℕ → ℕ
step_from i [] ss o t = 0
step_from i (x ∷ os) [] o t = 0
step_from i (x ∷ os) (y ∷ ss) o t = let r = step_from (suc i) os ss o t in pick (both (eqb x o) (eqb y t)) (suc i) r

-- The partner of a row of the second object, one more than the row of the first, or 0: under an owner with the partner p there is one only under p.
unfoldable pub under : List ℕ → List ℕ → ℕ → ℕ → ℕ
under os ss zero t = 0
under os ss (suc p) t = step_from 0 os ss (suc p) t

unfoldable pub partner_of : List ℕ → List ℕ → (before : List ℕ) → ℕ → ℕ → ℕ
partner_of os ss before zero t = step_from 0 os ss 0 t
partner_of os ss before (suc j) t = under os ss (get_or before j 0) t

-- The partners of the rows of the second object, whose owners and steps are os2 and ss2, after those `before`.
unfoldable pub partners : List ℕ → List ℕ → (before os2 ss2 : List ℕ) → List ℕ
partners os ss before [] ts = before
partners os ss before (o ∷ os2) [] = before
partners os ss before (o ∷ os2) (t ∷ ss2) = partners os ss (before ++ (partner_of os ss before o t ∷ [])) os2 ss2

-- One more than the first place of a number in a list, counted from i; 0 where it is not there.
unfoldable pub place_from : ℕ → List ℕ → ℕ → ℕ
place_from i [] a = 0
place_from i (x ∷ l) a = let r = place_from (suc i) l a in pick (eqb x a) (suc i) r

-- One more than the position of the last row with this owner and this name, of rows with the owners os, the names ns and the positions ps; 0 where
-- there is none: the position of a row with this owner and this name after them.
unfoldable pub last_position : (os ns ps : List ℕ) → ℕ → ℕ → ℕ
last_position [] ns ps o a = 0
last_position (x ∷ os) [] ps o a = 0
last_position (x ∷ os) (y ∷ ns) [] o a = 0
last_position (x ∷ os) (y ∷ ns) (p ∷ ps) o a =
    let r = last_position os ns ps o a in pick (eqb r 0) (pick (both (eqb x o) (eqb y a)) (suc p) 0) r

-- The positions of rows with the owners xs and the names ys, after rows with the owners os, the names ns and the positions ps.
unfoldable pub positions : (os ns ps xs ys : List ℕ) → List ℕ
positions os ns ps [] ys = ps
positions os ns ps (x ∷ xs) [] = ps
positions os ns ps (x ∷ xs) (y ∷ ys) = positions (os ++ (x ∷ [])) (ns ++ (y ∷ [])) (ps ++ (last_position os ns ps x y ∷ [])) xs ys

-- Each number is at most its place: so are positions.
abbrev pub Small : List ℕ → Type 0
Small l = (i : ℕ) → i < length l → get_or l i 0 ≤ i
