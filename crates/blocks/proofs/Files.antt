-- The words of a text's syntax are those of the text, and its objects and their blocks stand in the kept rows. Assumes nothing.
use mathlib.Core.Path.{◌≡◌, refl, sym, ◌∙◌, ap, ap₂, subst}
use mathlib.Core.List.{List, [], ◌∷◌, ◌++◌, append_assoc}
use mathlib.Core.Option.{Option, none, some}
use Prim.Native.Nat.{ℕ, zero, suc, ◌+◌, ◌*◌, ◌-◌, ◌≤◌, ◌<◌}
use native.Mathlib.Omega.{arith}
use lib.ListN.{length, get_or, take, drop}
use borrow.Author.Tests.{le-leb}
use Rattle.token.specs.Find.{pick, both}
use Rattle.token.specs.Tokens.{part_of, step_at}
use Rattle.token.specs.Lexing.{lex_n, lex_from, after_step, Lexed}
use Rattle.token.specs.declared.Step.{Step}
use Rattle.token.specs.declared.Step.TheVariants.{Found, Refused, End}
use Rattle.token.proofs.Steps.{StepOk, step_ok}
use Rattle.grammar.specs.Grammar.{Token, tokens, Derivation}
use Rattle.grammar.specs.Terminals.{token_of, tokens_in, tokens as tokens-of}
use Rattle.meaning.specs.Syntax.{Word, Statements, done, state, Object, File, statements_in}
use Rattle.meaning.specs.Actions.{syntax, word_of, num_of_step, float_of_step}
use Rattle.meaning.proofs.Order.{Ordered, InOrder, Sub, sub_nil, keep, ordered_sub, drop as leave}
use Rattle.meaning.proofs.Leaves.{words, leaves_words, words_leaves, leaves_in_order}
use Rattle.meaning.proofs.Settled.{text_ordered}
use Rattle.meaning.specs.Merging.{merge}
use Rattle.meaning.proofs.Merges.{In, in_here, in_there, merge_in, syntax_merged}
use Rattle.meaning.proofs.Sites.{option_words, spec_words, statement_words, object_words, file_words}
use Rattle.layout.specs.Kept.{statement_cells, statement_rows, object_cells, object_rows, all_statement_rows, statement_count, kept_objects, kept_statements, Wide}
use Rattle.layout.proofs.Lengths.{wide_append, length_all, object_wide, length_objects}
use Rattle.blocks.specs.Blocks.{Holds, WordIn, BraceIn, no_brace, a_brace, StatementsIn, none_in, more_in, BlockAt}
use Rattle.blocks.proofs.Holding.{cell_held}

-- All words of a list stand in the text.
abbrev pub AllIn : List ℕ → List Word → Type 0
AllIn s [] = Unit {0}
AllIn s (t ∷ l) = WordIn s t × AllIn s l

-- Words ------------------------------------------------------------------------------------------------------------------------------------

-- Tokens have a length, and lie in the text.
abbrev TokensIn : List ℕ → List Token → Type 0
TokensIn s [] = Unit {0}
TokensIn s (t ∷ l) = ((0 < t.length) × (t.place + t.length ≤ length s)) × TokensIn s l

step_in : (s : List ℕ) (q : ℕ) (g : ℕ → Lexed) (r : Step) → StepOk s q r → ((p : ℕ) → TokensIn s (tokens_in (g p))) → TokensIn s (tokens_in (after_step r g))
unfolding tokens_in token_of
step_in s q g (Found t c) ok h =
    let l = ok.long in
    let n = ok.next in
    let i = ok.inside in
    ((omega arith, omega arith), h c.at)
step_in s q g (Refused p) ok h = tt
step_in s q g (End n) ok h = tt

lex_in : (k : ℕ) (s : List ℕ) (q : ℕ) → TokensIn s (tokens_in (lex_n k s q))
unfolding lex_n tokens_in
lex_in zero s q = tt
lex_in (suc k) s q = step_in s q (λ r. lex_n k s r) (step_at s q) (step_ok s q) (λ p. lex_in k s p)

text_in : (s : List ℕ) → TokensIn s (tokens-of s)
unfolding tokens-of lex_from
text_in s = lex_in (suc (length s - 0)) s 0

pub part_inside : (s : List ℕ) (p n : ℕ) → p + n ≤ length s → part_of s p n ≡ take n (drop p s)
unfolding part_of
part_inside s p n h =
    let a : p ≤ length s = omega arith in
    let b : n ≤ length s - p = omega arith in
    ap₂ (λ x y. pick (both x y) (take n (drop p s)) []) (le-leb p (length s) a) (le-leb n (length s - p) b)

record Read (s : List ℕ) (t : Word) : Type 0 where
  bytes : t.bytes ≡ part_of s t.place t.length
  number : t.number ≡ num_of_step (step_at s t.place)
  float : t.float ≡ float_of_step (step_at s t.place)
  long : 0 < t.length

abbrev AllRead : List ℕ → List Word → Type 0
AllRead s [] = Unit {0}
AllRead s (t ∷ l) = Read s t × AllRead s l

read_words : (s : List ℕ) (l : List Token) → TokensIn s l → AllRead s (words s l)
unfolding words word_of
read_words s [] h = tt
read_words s (t ∷ l) h =
    (record { bytes = sym (part_inside s t.place t.length h.0.1); number = refl; float = refl; long = h.0.0 }, read_words s l h.1)

read_sub : (s : List ℕ) {l m : List Word} → Sub l m → AllRead s m → AllRead s l
read_sub s sub_nil h = tt
read_sub s (keep p) h = (h.0, read_sub s p h.1)
read_sub s (leave p) h = read_sub s p h.1

later_in : (s : List ℕ) (l : List Word) (lo : ℕ) → 0 < lo → AllRead s l → InOrder lo l → AllIn s l
later_in s [] lo h r o = tt
later_in s (t ∷ l) lo h r o =
    let a = o.0 in
    (record { bytes = r.0.bytes; number = r.0.number; float = r.0.float; long = r.0.long; later = omega arith }, later_in s l (suc t.place) (omega arith) r.1 o.1)

-- The words of a file, but for the version's.
unfoldable pub words_of : File → List Word
words_of f = spec_words f.specs ++ (f.cpu ∷ object_words f.parts)

pub file_in : (s : List ℕ) (d : Derivation (tokens-of s)) → AllIn s (words_of (syntax s d.tree))
unfolding words_of file_words
file_in s d =
    let t = d.tree in
    let f = syntax s t in
    let leaves-read = read_words s (tokens t) (subst (TokensIn s) (sym d.leaves) (text_in s)) in
    let read = read_sub s (words_leaves s t) (subst (AllRead s) (sym (leaves_words s t)) leaves-read) in
    let order = ordered_sub (words_leaves s t) 0 (leaves_in_order s t (subst (Ordered 0) (sym d.leaves) (text_ordered s))) in
    later_in s (words_of f) (suc f.version.place) (omega arith) read.1 order.1

pub in_front : (s : List ℕ) (a b : List Word) → AllIn s (a ++ b) → AllIn s a
in_front s [] b h = tt
in_front s (w ∷ a) b h = (h.0, in_front s a b h.1)

pub in_back : (s : List ℕ) (a b : List Word) → AllIn s (a ++ b) → AllIn s b
in_back s [] b h = h
in_back s (w ∷ a) b h = in_back s a b h.1

pub specs_in : (s : List ℕ) (f : File) → AllIn s (words_of f) → AllIn s (spec_words f.specs)
unfolding words_of
specs_in s f h = in_front s (spec_words f.specs) (f.cpu ∷ object_words f.parts) h

pub parts_in : (s : List ℕ) (f : File) → AllIn s (words_of f) → AllIn s (object_words f.parts)
unfolding words_of
parts_in s f h = (in_back s (spec_words f.specs) (f.cpu ∷ object_words f.parts) h).1

-- The words of the objects are words of their parts.
one_in : (s : List ℕ) {w : Word} {l : List Word} → In w l → AllIn s l → WordIn s w
one_in s (in_here e) g = subst (WordIn s) e g.0
one_in s (in_there h) g = one_in s h g.1

among_in : (s : List ℕ) (l m : List Word) → ((w : Word) → In w l → In w m) → AllIn s m → AllIn s l
among_in s [] m f g = tt
among_in s (w ∷ l) m f g = (one_in s (f w (in_here refl)) g, among_in s l m (λ v h. f v (in_there h)) g)

pub objects_in : (s : List ℕ) (d : Derivation (tokens-of s)) → AllIn s (object_words (syntax s d.tree).objects)
objects_in s d =
    let f = syntax s d.tree in
    subst (λ (os : List Object). AllIn s (object_words os)) (sym (syntax_merged s d.tree))
    (among_in s (object_words (merge f.parts)) (object_words f.parts) (λ w i. merge_in f.parts i) (parts_in s f (file_in s d)))

brace_in : (s : List ℕ) (o : Option Word) → AllIn s (option_words o) → BraceIn s o
unfolding option_words
brace_in s none h = no_brace
brace_in s (some t) h = a_brace h.0

pub statements_in_text : (s : List ℕ) (ss : Statements) → AllIn s (statement_words ss) → StatementsIn s ss
unfolding statement_words
statements_in_text s done h = none_in
statements_in_text s (state x inside rest) h =
    let b = option_words x.brace in
    let i = statement_words inside in
    let k = in_front s (b ++ i) (statement_words rest) h.1.1 in
    more_in h.0 h.1.0 (brace_in s x.brace (in_front s b i k)) (statements_in_text s inside (in_back s b i k))
    (statements_in_text s rest (in_back s (b ++ i) (statement_words rest) h.1.1))

-- Objects ----------------------------------------------------------------------------------------------------------------------------------

-- The words of one object of a list.
pub object_in : (s : List ℕ) (front : List Object) (x : Object) (rest : List Object) → AllIn s (object_words (front ++ (x ∷ rest)))
    → WordIn s x.name × StatementsIn s x.statements
unfolding object_words
object_in s [] x rest h = (h.1.0, statements_in_text s x.statements (in_front s (statement_words x.statements) (object_words rest) h.1.1))
object_in s (y ∷ front) x rest h =
    object_in s front x rest (in_back s (statement_words y.statements) (object_words (front ++ (x ∷ rest))) h.1.1)

pub wide_statements : (ss : Statements) (m : ℕ) → Wide 7 (statement_rows ss m)
unfolding statement_rows statement_cells
wide_statements done m = tt
wide_statements (state x inside rest) m = (
  refl,
  wide_append 7 (statement_rows inside (suc m)) (statement_rows rest (suc m + statements_in inside)) (wide_statements inside (suc m))
      (wide_statements rest (suc m + statements_in inside)),
)

pub wide_all : (xs : List Object) (m : ℕ) → Wide 7 (all_statement_rows xs m)
unfolding all_statement_rows
wide_all [] m = tt
wide_all (x ∷ xs) m =
    wide_append 7 (statement_rows x.statements m) (all_statement_rows xs (m + statements_in x.statements)) (wide_statements x.statements m)
    (wide_all xs (m + statements_in x.statements))

pub statements_held : (f : File) → statement_count f.objects ≤ 2049 → Holds 2049 7 (kept_statements f) (all_statement_rows f.objects 0)
unfolding kept_statements
statements_held f h =
    let l = length_all f.objects 0 in
    record { table = refl; fits = omega arith; wide = wide_all f.objects 0 }

pub objects_held : (f : File) → length f.objects ≤ 257 → Holds 257 10 (kept_objects f) (object_rows f.objects 0)
unfolding kept_objects
objects_held f h =
    let l = length_objects f.objects 0 in
    record { table = refl; fits = omega arith; wide = object_wide f.objects 0 }

-- The rows of one object of a list, before which m statements stand.
pub all_split : (front : List Object) (x : Object) (rest : List Object) (m : ℕ)
    → all_statement_rows (front ++ (x ∷ rest)) m ≡ all_statement_rows front m ++ (statement_rows x.statements (m + statement_count front) ++ all_statement_rows rest (m + statement_count front + statements_in x.statements))
unfolding all_statement_rows statement_count
all_split [] x rest m =
    let e : m ≡ m + 0 = omega arith in
    ap (λ k. statement_rows x.statements k ++ all_statement_rows rest (k + statements_in x.statements)) e
all_split (y ∷ front) x rest m =
    let n = m + statements_in y.statements in
    let e : n + statement_count front ≡ m + (statements_in y.statements + statement_count front) = omega arith in
    ap (λ l. statement_rows y.statements m ++ l) (all_split front x rest n)
    ∙ ap (λ k. statement_rows y.statements m ++ (all_statement_rows front n ++ (statement_rows x.statements k ++ all_statement_rows rest (k + statements_in x.statements)))) e
    ∙ sym (append_assoc (statement_rows y.statements m) (all_statement_rows front n) _)

pub object_split : (front : List Object) (x : Object) (rest : List Object) (m : ℕ)
    → object_rows (front ++ (x ∷ rest)) m ≡ object_rows front m ++ (object_cells x (m + statement_count front) ∷ object_rows rest (m + statement_count front + statements_in x.statements))
unfolding object_rows statement_count
object_split [] x rest m =
    let e : m ≡ m + 0 = omega arith in
    ap (λ k. object_cells x k ∷ object_rows rest (k + statements_in x.statements)) e
object_split (y ∷ front) x rest m =
    let n = m + statements_in y.statements in
    let e : n + statement_count front ≡ m + (statements_in y.statements + statement_count front) = omega arith in
    ap (λ l. object_cells y m ∷ l)
    (object_split front x rest n
    ∙ ap (λ k. object_rows front n ++ (object_cells x k ∷ object_rows rest (k + statements_in x.statements))) e)

module _ (s : List ℕ) (f : File) (front : List Object) (x : Object) (rest : List Object) (e : f.objects ≡ front ++ (x ∷ rest)) where
  -- A cell of the object's row.
  pub object_cell : (o : List ℕ) → o ≡ kept_objects f → length f.objects ≤ 257 → (c : ℕ) → c < 10
      → get_or o (length front * 10 + c) 0 ≡ get_or (object_cells x (statement_count front)) c 0
  object_cell o p h c k =
      let n : length (object_rows front 0) ≡ length front = length_objects front 0 in
      let z : 0 + statement_count front ≡ statement_count front = omega arith in
      let w : Holds 257 10 o (object_rows f.objects 0) = subst (λ t. Holds 257 10 t (object_rows f.objects 0)) (sym p) (objects_held f h) in
      ap (λ i. get_or o (i * 10 + c) 0) (sym n)
      ∙ cell_held (object_rows front 0) _ (object_cells x (0 + statement_count front)) c w (ap (λ l. object_rows l 0) e ∙ object_split front x rest 0) k
      ∙ ap (λ m. get_or (object_cells x m) c 0) z

  -- The block of its statements.
  pub object_block : (st : List ℕ) → st ≡ kept_statements f → statement_count f.objects ≤ 2049 → AllIn s (object_words f.objects)
      → BlockAt s st (statement_count front) (statement_count front + statements_in x.statements) x.statements
  object_block st p h w =
      let l = length_all front 0 in
      let z : 0 + statement_count front ≡ statement_count front = omega arith in
      record {
        rows = all_statement_rows f.objects 0;
        holds = subst (λ t. Holds 2049 7 t (all_statement_rows f.objects 0)) (sym p) (statements_held f h);
        block = record {
          front = all_statement_rows front 0;
          rest = all_statement_rows rest (0 + statement_count front + statements_in x.statements);
          whole = ap (λ t. all_statement_rows t 0) e ∙ all_split front x rest 0
              ∙ ap (λ k. all_statement_rows front 0 ++ (statement_rows x.statements k ++ all_statement_rows rest (0 + statement_count front + statements_in x.statements))) z;
          place = l;
        };
        words = (object_in s front x rest (subst (λ t. AllIn s (object_words t)) e w)).1;
        after = refl;
      }
