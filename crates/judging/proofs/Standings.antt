-- No other row than those of its definitions stands under a scope's word. Assumes nothing.
use mathlib.Core.Path.{◌≡◌, sym, ◌∙◌, ap, subst}
use mathlib.Core.List.{List, [], ◌∷◌, ◌++◌}
use mathlib.Core.Bool.{Bool, true, false}
use Prim.Native.Nat.{ℕ, suc, ◌+◌}
use native.Mathlib.Omega.{arith}
use lib.ListN.{length}
use lib.Dec.{eqb}
use borrow.Author.Tests.{eq-eqb}
use Rattle.meaning.specs.Syntax.{Word, span_of, Definition, Definitions, define, Values, File}
use Rattle.meaning.specs.Defining.{DefinitionRow, definition_row, all_definition_rows}
use Rattle.meaning.proofs.Standing.{Standing, standing_if, select, standing}
use Rattle.layout.specs.Kept.{Entry, spec_entries}
use Rattle.scopes.specs.Situations.{Situation, this_definition, later_definition, Stands, Nth}
use Rattle.scopes.specs.Given.{entry_rows}
use Rattle.scopes.proofs.Descents.{scope_facts}
use Rattle.scopes.proofs.Answering.{spec_rows}
use Rattle.judging.specs.Promises.{HasRow}

-- A row with a number, one of some.
data Among (i : ℕ) : List Standing → Type 0 where
  this_one : {x : Standing} {xs : List Standing} → x.number ≡ i → Among i (x ∷ xs)
  later_one : {x : Standing} {xs : List Standing} → Among i xs → Among i (x ∷ xs)

among_if : (b : Bool) (j i : ℕ) (r : DefinitionRow) {l : List Standing} → Among i l → Among i (standing_if b j r ++ l)
unfolding standing_if
among_if true j i r a = later_one a
among_if false j i r a = a

selected : (p m : ℕ) (front : List Entry) (x : Entry) (rest : List Entry) → x.under.place ≡ p → Among (m + length front) (select p m (entry_rows (front ++ (x ∷ rest))))
unfolding select entry_rows definition_row standing_if span_of
selected p m [] x rest e =
    subst (λ b. Among (m + 0) (standing_if b m (definition_row x.under x.definition) ++ select p (suc m) (entry_rows rest)))
    (sym (eq-eqb x.under.place p e)) (this_one (omega arith))
selected p m (y ∷ front) x rest e =
    let n : suc m + length front ≡ m + suc (length front) = omega arith in
    among_if (eqb y.under.place p) m (m + suc (length front)) (definition_row y.under y.definition)
    (subst (λ i. Among i (select p (suc m) (entry_rows (front ++ (x ∷ rest))))) n (selected p (suc m) front x rest e))

of_later : {d : Definition} {vs : Values} {ds : Definitions} {i : ℕ} → HasRow ds i → HasRow (define d vs ds) i
of_later z = record { defined = z.defined; has = later_definition z.has; row = z.row }

standing_of : (u : Word) (ds : Definitions) (i : ℕ) → Among i (standing u ds) → HasRow ds i
unfolding standing
standing_of u (define d vs ds) i (this_one e) = record { defined = record { definition = d; values = vs }; has = this_definition; row = e }
standing_of u (define d vs ds) i (later_one a) = of_later (standing_of u ds i a)
standing_of u Rattle.meaning.specs.Syntax.no_more i x' = elim x' [ ]

-- A row under the word of a scope is that of one of its definitions.
pub in_scope : {s : List ℕ} {f : File} {u : Word} {ds : Definitions} {j : ℕ} {y : Entry} → Situation s f → Stands f.specs u ds
    → Nth (spec_entries f.specs) j y → y.under.place ≡ u.place → HasRow ds j
in_scope {s} {f} {u} {ds} {j} {y} p q n e =
    let R = all_definition_rows f.specs in
    let r : entry_rows (n.front ++ (y ∷ n.rest)) ≡ R = ap entry_rows (sym n.whole) ∙ spec_rows f.specs in
    let k = n.place in
    let m : 0 + length n.front ≡ j = omega arith in
    let a : Among j (select u.place 0 R) = subst (λ i. Among i (select u.place 0 R)) m (subst (λ l. Among (0 + length n.front) (select u.place 0 l)) r (selected u.place 0 n.front y n.rest e)) in
    standing_of u ds j (subst (Among j) (scope_facts p q).scope a)
