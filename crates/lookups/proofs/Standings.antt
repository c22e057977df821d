-- The rows of a scope's definitions: each stands where its number says, those under its values stand before it, and its words are those of the
-- text. Assumes nothing.
use mathlib.Core.Path.{◌≡◌, refl, sym, ◌∙◌, ap, subst}
use mathlib.Core.List.{List, [], ◌∷◌, ◌++◌, append_assoc}
use Prim.Native.Nat.{ℕ, suc, ◌+◌, ◌<◌}
use native.Mathlib.Omega.{arith}
use lib.ListN.{length, length-append}
use Rattle.meaning.specs.Syntax.{Word, Definitions, Values, Defined, Spec, File}
use Rattle.meaning.specs.Scopes.{Under, under}
use Rattle.meaning.proofs.Numbering.{Counts, counts_more}
use Rattle.meaning.proofs.Sites.{bound_words, option_words, definition_words, value_words, spec_words}
use Rattle.layout.specs.Kept.{Entry, entries, entries_under, spec_entries, list_key}
use Rattle.blocks.specs.Blocks.{WordIn}
use Rattle.blocks.proofs.Files.{AllIn, in_front, in_back, file_in, specs_in}
use Rattle.scopes.specs.Situations.{Situation, HasDefinition, this_definition, later_definition, HasValue, this_value, later_value, HasSpec, this_spec, later_spec, Stands, under_kind, under_value, Nth}
use Rattle.scopes.proofs.Descents.{rows_of, whole}

-- A list within another --------------------------------------------------------------------------------------------------------------------

pub record Within {A : Type 0} (l k : List A) : Type 0 where
  pub front : List A
  pub back : List A
  pub whole : l ≡ front ++ (k ++ back)

unfoldable within_trans : {A : Type 0} {l k h : List A} → Within l k → Within k h → Within l h
within_trans {A} {l} {k} {h} a b = record {
  front = a.front ++ b.front;
  back = b.back ++ a.back;
  whole = a.whole ∙ ap (λ (x : List A). a.front ++ (x ++ a.back)) b.whole ∙ simp append_assoc;
}

unfoldable within_front : {A : Type 0} (l k : List A) → Within (l ++ k) l
within_front l k = record { front = []; back = k; whole = refl }

front_length : {A : Type 0} {l k h : List A} (a : Within l k) (b : Within k h) → length (within_trans a b).front ≡ length a.front + length b.front
unfolding within_trans
front_length a b = length-append a.front b.front

front_none : {A : Type 0} (l k : List A) → length (within_front l k).front ≡ 0
unfolding within_front
front_none l k = refl

within_back : {A : Type 0} (a : List A) {l k : List A} → Within l k → Within (a ++ l) k
within_back {A} a w = record {
  front = a ++ w.front;
  back = w.back;
  whole = ap (λ (x : List A). a ++ x) w.whole ∙ sym (append_assoc a w.front _);
}

-- The element that ends a list within another, as one of a number.
within_nth : {A : Type 0} {l : List A} (k : List A) (x : A) (w : Within l (k ++ (x ∷ []))) → Nth l (length w.front + length k) x
within_nth {A} {l} k x w = record {
  front = w.front ++ k;
  rest = w.back;
  whole = w.whole ∙ simp append_assoc;
  place = length-append w.front k;
}

-- Entries ----------------------------------------------------------------------------------------------------------------------------------

abbrev pub entry : Word → ℕ → Defined → Entry
entry u o x = record { under = u; outer = o; definition = x.definition; values = x.values }

entries_of_definition : {ds : Definitions} {x : Defined} (u : Word) (o : ℕ) → HasDefinition ds x
    → Within (entries ds u o) (entries_under x.values (list_key x.values) ++ (entry u o x ∷ []))
unfolding entries
entries_of_definition u o (this_definition {d} {vs} {ds}) = record { front = []; back = entries ds u o; whole = simp append_assoc }
entries_of_definition u o (later_definition {d} {vs} {ds} h) =
    within_back (entries_under vs (list_key vs)) (within_back (record { under = u; outer = o; definition = d; values = vs } ∷ []) (entries_of_definition u o h))

entries_of_value : {vs : Values} {v : Under} (o : ℕ) → HasValue vs v → Within (entries_under vs o) (entries v.definitions v.word o)
unfolding entries
entries_of_value o (this_value {w} {e} {us} {vs}) = within_front (entries us w o) (entries_under vs o)
entries_of_value o (later_value {w} {e} {us} {vs} h) = within_back (entries us w o) (entries_of_value o h)

entries_of_spec : {xs : List Spec} {x : Spec} → HasSpec xs x → Within (spec_entries xs) (entries x.definitions x.word 0)
unfolding spec_entries
entries_of_spec (this_spec {x} {xs}) = within_front (entries x.definitions x.word 0) (spec_entries xs)
entries_of_spec (later_spec {y = y} h) = within_back (entries y.definitions y.word 0) (entries_of_spec h)

record StandsIn (xs : List Spec) (u : Word) (ds : Definitions) : Type 0 where
  outer : ℕ
  within : Within (spec_entries xs) (entries ds u outer)

stands_in : {xs : List Spec} {u : Word} {ds : Definitions} → Stands xs u ds → StandsIn xs u ds
stands_in (under_kind h) = record { outer = 0; within = entries_of_spec h }
stands_in (under_value {u} {ds} {x} {v} p h g) =
    let w = stands_in p in
    let o = list_key x.values in
    record {
      outer = o;
      within = within_trans (within_trans w.within (entries_of_definition u w.outer h))
          (within_trans (within_front (entries_under x.values o) (entry u w.outer x ∷ [])) (entries_of_value o g));
    }

-- Numbers ----------------------------------------------------------------------------------------------------------------------------------

counted_at : (front : List Entry) (x : Entry) (rest : List Entry) (m : ℕ) → Counts m (rows_of (front ++ (x ∷ rest))) → x.definition.row ≡ m + length front
unfolding rows_of
counted_at [] x rest m (counts_more h c) = omega arith
counted_at (y ∷ front) x rest m (counts_more h c) = let e = counted_at front x rest (suc m) c in omega arith

-- A row has the number of its definition.
pub nth_row : {s : List ℕ} {f : File} {j : ℕ} {x : Entry} → Situation s f → Nth (spec_entries f.specs) j x → x.definition.row ≡ j
nth_row {s} {f} {j} {x} p n =
    let e = counted_at n.front x n.rest 0 (subst (λ l. Counts 0 (rows_of l)) n.whole (whole p).rows) in
    let h = n.place in
    omega arith

-- The row of a definition, under its scope's word.
pub record StandsAt (f : File) (u : Word) (x : Defined) : Type 0 where
  pub outer : ℕ
  pub nth : Nth (spec_entries f.specs) x.definition.row (entry u outer x)

pub stands_at : {s : List ℕ} {f : File} {u : Word} {ds : Definitions} {x : Defined} → Situation s f → Stands f.specs u ds → HasDefinition ds x → StandsAt f u x
stands_at {s} {f} {u} {ds} {x} p q h =
    let w = stands_in q in
    let i = within_trans w.within (entries_of_definition u w.outer h) in
    let n = within_nth (entries_under x.values (list_key x.values)) (entry u w.outer x) i in
    record { outer = w.outer; nth = subst (λ j. Nth (spec_entries f.specs) j (entry u w.outer x)) (sym (nth_row p n)) n }

-- The definitions under the values of one stand before it.
pub under_below : {s : List ℕ} {f : File} {u : Word} {ds : Definitions} {x y : Defined} {v : Under} → Situation s f → Stands f.specs u ds → HasDefinition ds x
    → HasValue x.values v → HasDefinition v.definitions y → y.definition.row < x.definition.row
under_below {s} {f} {u} {ds} {x} {y} {v} p q h g k =
    let w = stands_in q in
    let o = list_key x.values in
    let U = entries_under x.values o in
    let E = entry u w.outer x in
    let i = within_trans w.within (entries_of_definition u w.outer h) in
    let a = nth_row p (within_nth U E i) in
    let j = within_trans (entries_of_value o g) (entries_of_definition v.word o k) in
    let K = entries_under y.values (list_key y.values) in
    let F = entry v.word o y in
    let m = within_front U (E ∷ []) in
    let b = nth_row p (within_nth K F (within_trans i (within_trans m j))) in
    let l₁ = ap (λ l. length l) j.whole in
    let l₂ = length-append j.front ((K ++ (F ∷ [])) ++ j.back) in
    let l₃ = length-append (K ++ (F ∷ [])) j.back in
    let l₄ = length-append K (F ∷ []) in
    let l₅ = front_length i (within_trans m j) in
    let l₆ = front_length m j in
    let l₇ = front_none U (E ∷ []) in
    omega (arith, a, b, l₁, l₂, l₃, l₄, l₅, l₆, l₇)

-- Words ------------------------------------------------------------------------------------------------------------------------------------

-- The words of definitions are those of the text.
pub words_definition : {s : List ℕ} {ds : Definitions} {x : Defined} → HasDefinition ds x → AllIn s (definition_words ds)
    → AllIn s (value_words x.values) × (WordIn s x.definition.name × AllIn s (option_words x.definition.default))
unfolding definition_words
words_definition {s} (this_definition {d} {vs} {ds}) w =
    let n = d.name ∷ option_words d.default in
    let b = bound_words d.bounds in
    let k = in_back s b (value_words vs ++ n) (in_front s (b ++ (value_words vs ++ n)) (definition_words ds) w.1) in
    (in_front s (value_words vs) n k, in_back s (value_words vs) n k)
words_definition {s} (later_definition {d} {vs} {ds} h) w =
    words_definition h (in_back s (bound_words d.bounds ++ (value_words vs ++ (d.name ∷ option_words d.default))) (definition_words ds) w.1)

words_value : {s : List ℕ} {vs : Values} {v : Under} → HasValue vs v → AllIn s (value_words vs) → WordIn s v.word × AllIn s (definition_words v.definitions)
unfolding value_words
words_value {s} (this_value {w} {e} {us} {vs}) a = (a.0, in_front s (definition_words us) (value_words vs) a.1)
words_value {s} (later_value {w} {e} {us} {vs} h) a = words_value h (in_back s (definition_words us) (value_words vs) a.1)

words_spec : {s : List ℕ} {xs : List Spec} {x : Spec} → HasSpec xs x → AllIn s (spec_words xs) → WordIn s x.word × AllIn s (definition_words x.definitions)
unfolding spec_words
words_spec {s} (this_spec {x} {xs}) a = (a.0, in_front s (definition_words x.definitions) (spec_words xs) a.1)
words_spec {s} (later_spec {x} {y} {xs} h) a = words_spec h (in_back s (definition_words y.definitions) (spec_words xs) a.1)

stands_words : {s : List ℕ} {xs : List Spec} {u : Word} {ds : Definitions} → AllIn s (spec_words xs) → Stands xs u ds → WordIn s u × AllIn s (definition_words ds)
stands_words a (under_kind h) = words_spec h a
stands_words a (under_value p h g) = words_value g (words_definition h (stands_words a p).1).0

pub file_stands : {s : List ℕ} {f : File} {u : Word} {ds : Definitions} → Situation s f → Stands f.specs u ds → WordIn s u × AllIn s (definition_words ds)
file_stands {s} {f} p q =
    stands_words (subst (λ g. AllIn s (spec_words g.specs)) (sym p.syntax_of) (specs_in s _ (file_in s p.derivation))) q
