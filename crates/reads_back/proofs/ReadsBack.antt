-- READS BACK: demand 2, second half. Normal text is accepted, gives the same values, and is its own normal text. Assumes nothing.
use mathlib.Core.Path.{◌≡◌, refl, sym, ◌∙◌, ap, ap₂, subst, subst₂}
use mathlib.Core.List.{List, [], ◌∷◌, ◌++◌}
use mathlib.Core.Bool.{Bool, true, false, false≢true}
use Prim.Native.Nat.{ℕ, ◌≤◌}
use Prim.Native.String.{String}
use lib.ListN.{length}
use Rattle.token.specs.Words.{bytes_of}
use Rattle.grammar.specs.Grammar.{Derivation}
use Rattle.grammar.specs.Terminals.{tokens}
use Rattle.grammar.specs.Demand.{Covered}
use Rattle.meaning.specs.Syntax.{File}
use Rattle.meaning.specs.Actions.{syntax}
use Rattle.meaning.specs.Resolving.{all_values}
use Rattle.meaning.specs.Normal.{part, application_lines, normal}
use Rattle.meaning.specs.Places.{each, unplaced_object_row, unplaced_tables}
use Rattle.meaning.specs.Applying.{ObjectRow}
use Rattle.meaning.specs.Edges.{worked_tables}
use Rattle.meaning.proofs.Edges.{edges_hold}
use Rattle.meaning.specs.Answers.{Tables, Answer, accepted, tables, answer}
use Rattle.meaning.specs.Reading.{Answers, too_long, not_grammar, meant, parsed, parse, reading, normal_text}
use Rattle.meaning.proofs.Found.{parse_derived, reading_derived, normal_derived}
use Rattle.meaning.specs.Rules.{TheAnswer, TheNormalText}
use Rattle.meaning.proofs.Whole.{answers, one_answer, the_answer, the_normal_text}
use Rattle.meaning.proofs.Unplaced.{unplaced, each_append, application_unplaced}
use Rattle.meaning.proofs.UnplacedFaults.{SameAnswer, both_accept, both_refuse, answer_unplaced}
use Rattle.reads_back.specs.ReadsBack.{bare, words_of, ranges_of, AllStated, ReadsBack, TextsReadBack}
use Rattle.reads_back.proofs.Restated.{restated_file, plain_word, version_words, application_words, Said, ShallowWords}
use Rattle.reads_back.proofs.SayingAlone.{tokens_alone, number_alone}
use Rattle.reads_back.proofs.SayingOffsets.{Copied}
use Rattle.reads_back.proofs.SayingTokens.{NormalTokens, normal_tokens}
use Rattle.reads_back.proofs.Planting.{implementation_leaves, ImplementationTokens, implementation_tokens, Planted, planted_text}
use Rattle.reads_back.proofs.WordingValues.{said}
use Rattle.reads_back.proofs.DepthWords.{shallow_by_words}
use Rattle.reads_back.proofs.DepthLines.{normal_shallow}
use Rattle.reads_back.proofs.SameTables.{bare_unplaced}
use Rattle.reads_back.proofs.SameValues.{stated_placed}
use Rattle.reads_back.proofs.SameRanges.{ranges_same}
use Rattle.reads_back.proofs.SameNames.{names_of, names_unplaced}
use Rattle.reads_back.proofs.SameNamesText.{names_there}
use Rattle.reads_back.proofs.SameMeaning.{accepted_tables, MeansSame, means_same}

-- Where the syntax without its places is accepted, so is the syntax, with the same tables but places.
record Accepts (a : Answer) (t : Tables) : Type 0 where
  placed : Tables
  accepted_as : a ≡ accepted placed
  same_as : bare placed ≡ bare t
  parts_as : each (λ (r : ObjectRow). r.parts) placed.objects ≡ each (λ (r : ObjectRow). 1) placed.objects
  stated_as : AllStated t.values → AllStated placed.values

parts_unplaced : (l : List ObjectRow) (g : ℕ → ℕ) → each (λ (r : ObjectRow). g r.parts) (each unplaced_object_row l) ≡ each (λ (r : ObjectRow). g r.parts) l
unfolding each unplaced_object_row
parts_unplaced [] g = refl
parts_unplaced (r ∷ l) g = ap (λ (k : List ℕ). g r.parts ∷ k) (parts_unplaced l g)

alone : (u t : Tables) → unplaced_tables u ≡ t → each (λ (r : ObjectRow). r.parts) t.objects ≡ each (λ (r : ObjectRow). 1) t.objects
    → each (λ (r : ObjectRow). r.parts) u.objects ≡ each (λ (r : ObjectRow). 1) u.objects
unfolding unplaced_tables
alone u t e h =
    sym (parts_unplaced u.objects (λ n. n)) ∙ ap (λ (v : Tables). each (λ (r : ObjectRow). r.parts) v.objects) e ∙ h
    ∙ sym (ap (λ (v : Tables). each (λ (r : ObjectRow). 1) v.objects) e) ∙ parts_unplaced u.objects (λ n. 1)

accepts : {a b : Answer} (t : Tables) → each (λ (r : ObjectRow). r.parts) t.objects ≡ each (λ (r : ObjectRow). 1) t.objects → SameAnswer a b → b ≡ accepted t → Accepts a t
unfolding unplaced_tables
accepts t h (both_accept u) e =
    let q : unplaced_tables u ≡ t = cc in
    record {
      placed = u;
      accepted_as = refl;
      same_as = sym (bare_unplaced u) ∙ ap bare q;
      parts_as = alone u t q h;
      stated_as = λ i. stated_placed u.values (subst (λ (x : Tables). AllStated x.values) (sym q) i);
    }
accepts t h (both_refuse n p m q) e = absurd (let z : ◌≡◌ {A = Bool} false true = cc in false≢true z)

-- The lines of a file's application.
lines_of : File → List ℕ
lines_of f = application_lines f (all_values f f.objects)

module _ (s : List ℕ) (w : Covered s) (d : Derivation (tokens s)) (n : List ℕ) (e : n ≡ normal s (syntax s d.tree)) (h : length n ≤ 65535) where
  -- The tokens of the normal text, and a tree of them.
  words_said : Said (syntax s d.tree)
  words_said = said s d (tokens_alone s) number_alone

  parts : ImplementationTokens s d
  parts = implementation_tokens s d

  normal_parts : NormalTokens s n (parts.first ∷ (parts.mid ++ (parts.final ∷ []))) (syntax s d.tree) (all_values (syntax s d.tree) (syntax s d.tree).objects)
  unfolding normal
  normal_parts =
      subst (λ m. NormalTokens s m (parts.first ∷ (parts.mid ++ (parts.final ∷ []))) (syntax s d.tree) (all_values (syntax s d.tree) (syntax s d.tree).objects)) (sym e)
      (normal_tokens s parts.before parts.after parts.mid parts.first parts.final (syntax s d.tree) _ w.divides parts.whole parts.final_is
      parts.span_is words_said.cpu words_said.objects)

  normal_tree : Planted s n d normal_parts.middle (normal_parts.heading ++ (normal_parts.middle ++ normal_parts.last))
  normal_tree =
      planted_text s n d parts words_said normal_parts.heading normal_parts.middle normal_parts.last normal_parts.heading_words
      normal_parts.middle_words normal_parts.last_words

  normal_derivation : Derivation (tokens n)
  normal_derivation = record { tree = normal_tree.tree; leaves = normal_tree.leaves ∙ sym normal_parts.whole }

  normal_words : each (plain_word n) (tokens n)
      ≡ version_words ++ (each (plain_word s) (implementation_leaves d.tree) ++ application_words (syntax s d.tree) (all_values (syntax s d.tree) (syntax s d.tree).objects))
  normal_words =
      ap (each (plain_word n)) normal_parts.whole
      ∙ each_append (plain_word n) normal_parts.heading (normal_parts.middle ++ normal_parts.last)
      ∙ ap₂ ◌++◌ normal_parts.heading_words
      (each_append (plain_word n) normal_parts.middle normal_parts.last
      ∙ ap₂ ◌++◌ (normal_parts.middle_words ∙ ap (each (plain_word s)) (sym parts.leaves_are)) normal_parts.last_words)

  normal_covered : Covered n
  normal_covered = record {
    short = h;
    divides = normal_parts.divides;
    shallow = shallow_by_words n (tokens n) (subst (λ l. ShallowWords l) (sym normal_words) (normal_shallow s d w.shallow words_said));
  }

  -- What it means.
  module _ (t : Tables) (q : answer (syntax s d.tree) ≡ accepted t) where
    same_meaning : MeansSame (syntax s d.tree) t
    same_meaning = means_same s d t q

    accepted_back : Accepts (answer (syntax n normal_tree.tree)) same_meaning.back
    accepted_back =
        accepts same_meaning.back same_meaning.one_part (answer_unplaced (syntax n normal_tree.tree)) (ap answer normal_tree.syntax_is ∙ same_meaning.accepts)

    lines_again : lines_of (syntax n normal_tree.tree) ≡ lines_of (syntax s d.tree)
    unfolding lines_of
    lines_again = sym (application_unplaced (syntax n normal_tree.tree)) ∙ ap lines_of normal_tree.syntax_is ∙ same_meaning.lines

    copied_again : part n (syntax n normal_tree.tree).implementation ≡ part s (syntax s d.tree).implementation
    copied_again =
        ap (part n) normal_tree.span_is ∙ normal_parts.copied normal_tree.first normal_tree.final normal_tree.mid normal_tree.middle_is

    normal_again : normal n (syntax n normal_tree.tree) ≡ n
    unfolding normal lines_of
    normal_again =
        ap₂ (λ i l. bytes_of "OIL_VERSION = \"2.5\";\n" ++ (i ++ (bytes_of "\n" ++ l))) copied_again lines_again ∙ sym e

    reads_back_derived : reading n ≡ accepted accepted_back.placed
    unfolding normal_derivation
    reads_back_derived = reading_derived n normal_covered normal_derivation ∙ accepted_back.accepted_as

    stated_again : AllStated accepted_back.placed.values
    stated_again = accepted_back.stated_as same_meaning.stated

    same_again : bare accepted_back.placed ≡ bare t
    same_again = accepted_back.same_as ∙ same_meaning.same

    -- The words of the rows are those of the syntax, in either text.
    row_words_again : words_of n accepted_back.placed ≡ words_of s t
    row_words_again =
        let f = syntax n normal_tree.tree in
        ap (words_of n) (sym (accepted_tables f accepted_back.placed accepted_back.accepted_as)) ∙ names_there n normal_tree.tree
        ∙ sym (names_unplaced f) ∙ ap names_of normal_tree.syntax_is ∙ same_meaning.names
        ∙ sym (names_there s d.tree) ∙ ap (words_of s) (accepted_tables (syntax s d.tree) t q)

    -- Nor do ranges change, which are copied with the implementation.
    ranges_again : ranges_of n accepted_back.placed ≡ ranges_of s t
    unfolding ranges_of tables
    ranges_again =
        let f = syntax n normal_tree.tree in
        ap (ranges_of n) (sym (accepted_tables f accepted_back.placed accepted_back.accepted_as))
        ∙ sym (ranges_same s n d.tree normal_tree.tree
        (subst₂ (λ a b. Copied s n a b) (sym parts.leaves_are) (sym normal_tree.leaves_are) normal_parts.at_offset))
        ∙ ap (ranges_of s) (accepted_tables (syntax s d.tree) t q)

    own_normal : normal_text n ≡ n
    unfolding normal_derivation
    own_normal = normal_derived n normal_covered normal_derivation ∙ normal_again

-- The syntax of a normal text.
pub record NormalFile (n : List ℕ) (f : File) : Type 0 where
  pub file : File
  pub parses : parse n ≡ parsed file
  pub restates : unplaced file ≡ restated_file f

pub normal_file : (s : List ℕ) → Covered s → (d : Derivation (tokens s)) (n : List ℕ) → n ≡ normal s (syntax s d.tree) → length n ≤ 65535 → NormalFile n (syntax s d.tree)
unfolding normal_derivation
normal_file s w d n e h = record {
  file = syntax n (normal_tree s w d n e h).tree;
  parses = parse_derived n (normal_covered s w d n e h) (normal_derivation s w d n e h);
  restates = (normal_tree s w d n e h).syntax_is;
}

by_derivation : {s : List ℕ} {a : Answer} (t : Tables) → Answers s a → a ≡ accepted t → length (normal_text s) ≤ 65535 → ReadsBack s t (normal_text s)
by_derivation t (too_long k) e h = absurd (let z : ◌≡◌ {A = Bool} false true = cc in false≢true z)
by_derivation t (not_grammar a k m q) e h = absurd (let z : ◌≡◌ {A = Bool} false true = cc in false≢true z)
by_derivation {s} t (meant w d) e h =
    let n = normal_text s in
    let i = normal_derived s w d in
    record {
      back = (accepted_back s w d n i h t e).placed;
      accepts = subst (λ a. TheAnswer n a) (reads_back_derived s w d n i h t e) (the_answer n);
      stated = stated_again s w d n i h t e;
      same = same_again s w d n i h t e;
      one_part = (accepted_back s w d n i h t e).parts_as;
      words = row_words_again s w d n i h t e;
      ranges = ranges_again s w d n i h t e;
      again = subst (λ m. TheNormalText n m) (own_normal s w d n i h t e) (the_normal_text _ (answers n) (reads_back_derived s w d n i h t e));
    }

-- "an accepted text written out in full reads back to the same values": for every accepted text whose normal text is at most 65,535 bytes.
pub reads_back : (s : List ℕ) (t : Tables) → reading s ≡ accepted t → length (normal_text s) ≤ 65535 → ReadsBack s t (normal_text s)
reads_back s t e h = by_derivation t (answers s) e h

-- The same by the rules.
pub texts_read_back : TextsReadBack
texts_read_back s t a n w h =
    let e = one_answer a in
    let q : n ≡ normal_text s = w.written w.derivation ∙ sym ((the_normal_text t (answers s) e).written w.derivation) in
    subst (λ m. ReadsBack s t m) (sym q) (reads_back s t e (subst (λ (m : List ℕ). length m ≤ 65535) q h))

-- What it rules out --------------------------------------------------------------------------------------------------------------------------

-- Document 01's worked example, in which H is not stated.
abbrev pub worked_text : String
worked_text = "OIL_VERSION = \"2.5\";\nIMPLEMENTATION m { OS { BOOLEAN H = FALSE; }; TASK { UINT32 [1..0xff] STACKSIZE = 16; }; };\nCPU c { OS o; APPMODE a {}; TASK t { STACKSIZE = 0x20; }; };\n"

worked_answer : Answers (bytes_of worked_text) (accepted worked_tables)
worked_answer = edges_hold.1.1.1.1.1.1.1.1.1.1.0.answer

-- A tool that hands its input back does not meet it.
pub no_copy : ReadsBack (bytes_of worked_text) worked_tables (bytes_of worked_text) → ⊥
no_copy h =
    let q : accepted h.back ≡ accepted worked_tables = sym (h.accepts.no_other (accepted worked_tables) worked_answer) in
    let t : h.back ≡ worked_tables = cc in
    false≢true (subst (λ (x : Tables). AllStated x.values) t h.stated).0
