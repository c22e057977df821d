-- x and y, two objects one after the other by the tokens of their file, are neighbouring parts of different objects wherever it is included. Assumes
-- nothing.
use mathlib.Core.Path.{◌≡◌, refl, sym, ◌∙◌, ap, ap₂, subst}
use mathlib.Core.List.{List, [], ◌∷◌, ◌++◌, map, append_assoc, append-nil}
use mathlib.Core.Bool.{true, false}
use Prim.Native.Nat.{ℕ, ◌+◌, ◌<◌}
use native.Mathlib.Omega.{arith}
use lib.ListN.{length, length-append, get_or, drop}
use Rattle.token.specs.Lexing.{lex_from}
use Rattle.token.proofs.Sequences.{tokens_of}
use Rattle.token.specs.declared.Token.{Token as Lexeme}
use Rattle.locality.proofs.Shift.{moved}
use Rattle.locality.proofs.Pieces.{may_start, Piece, piece_append, last_end, leading}
use Rattle.grammar.specs.Grammar.{Token, OS, ◌▸◌, ∎, ◌⟶◌, Trees, nil, leaf, node, object, an_object_alone, an_object_with, Derivation, tokens as Leaves-of}
use Rattle.grammar.specs.Terminals.{token_of, tokens}
use Rattle.meaning.specs.Syntax.{Word}
use Rattle.meaning.specs.Actions.{kind_of, word_of, means, meaning}
use Rattle.meaning.specs.Places.{each}
use Rattle.meaning.proofs.Unplaced.{unplaced_word}
use Rattle.reads_back.proofs.Restated.{plain_word}
use Rattle.reads_back.proofs.SayingPieces.{lexeme_word, words_moved, words_kept}
use Rattle.reads_back.proofs.SayingCopied.{run_words}
use Rattle.reads_back.proofs.SayingTokens.{tokens_are, piece_tokens}
use Rattle.reads_back.proofs.WordTrees.{lifted, planted}
use Rattle.channels.specs.Channels.{Key, key_of}
use Rattle.channels.specs.Neighbours.{ObjectTree, first_place, end_of_last, key_in}
use Rattle.sources.specs.Texts.{told_well}
use Rattle.sources.specs.Expanding.{origin, expanded}
use Rattle.sources_reading.specs.Answering.{text}
use Rattle.channels_texts.specs.Lent.{InText, IsText, OfTwo}
use Rattle.channels_texts.proofs.Passing.{LastAt, last_later, Cut, Own, own, Pieces, pieces}
use Rattle.channels_texts.proofs.Everywhere.{PartsAt}
use Rattle.channels_texts.proofs.Standing.{At, text_stands}
use Rattle.channels_texts.proofs.Beginnings.{TwoParts, two_parts_in}

-- Tokens at other places -----------------------------------------------------------------------------------------------------------------------

map_both : {A B : Type 0} (f : A → B) (a b : List A) → map f (a ++ b) ≡ map f a ++ map f b
map_both f [] b = refl
map_both f (t ∷ a) b = ap (f t ∷◌) (map_both f a b)

first_at : (p : ℕ) (ts : List Lexeme) (e : ℕ) → LastAt ts e → first_place (map token_of (map (moved p) ts)) ≡ p → (q : ℕ) → first_place (map token_of (map (moved q) ts)) ≡ q
unfolding first_place token_of moved last_end
first_at p [] e h f q = absurd (let x = h 0 in let y = h 1 in omega arith)
first_at p (t ∷ ts) e h f q = let w : p + t.at ≡ p = f in let z : q + t.at ≡ q = omega arith in z

last_of : (t : Lexeme) (ts : List Lexeme) (q e : ℕ) → last_end q (t ∷ ts) ≡ e → end_of_last (map token_of (t ∷ ts)) ≡ e
unfolding end_of_last last_end token_of
last_of t [] q e h = h
last_of t (u ∷ ts) q e h = last_of u ts (t.at + t.len) e h

last_is : (ts : List Lexeme) (e : ℕ) → LastAt ts e → end_of_last (map token_of ts) ≡ e
unfolding last_end
last_is [] e h = absurd (let x = h 0 in let y = h 1 in omega arith)
last_is (t ∷ ts) e h = last_of t ts 0 e (h 0)

-- The piece x behind the piece G.
module _ (G x r : List ℕ) (ts xs : List Lexeme) (pg : Piece false G ts) (px : Piece false x xs) where
  abbrev after_x : List Lexeme
  after_x = map (moved (length G)) (map (moved (length x)) (tokens_of (lex_from r 0)))

  behind_tokens : tokens_of (lex_from (G ++ (x ++ r)) 0) ≡ ts ++ (map (moved (length G)) xs ++ after_x)
  behind_tokens =
      piece_tokens pg (x ++ r) ∙ ap (λ (z : List Lexeme). ts ++ map (moved (length G)) z) (piece_tokens px r)
      ∙ ap (ts ++◌) (map_both (moved (length G)) xs (map (moved (length x)) (tokens_of (lex_from r 0))))

  behind_words : each (plain_word (G ++ (x ++ r))) (map token_of (map (moved (length G)) xs)) ≡ each (lexeme_word x) xs
  behind_words =
      let u = G ++ (x ++ r) in
      let there = map (moved (length G)) xs in
      let g = leading u 0 ts (there ++ after_x) behind_tokens in
      let h = leading u g.end there after_x g.rest in
      run_words u h.end g.end there h.run ∙ words_moved G (x ++ r) xs ∙ words_kept x r xs px.inside

-- x m y behind the piece G.
module _ (x m y : List ℕ) {X Y : List Token} (cx : Cut x X) (pm : Piece false m []) (cy : Cut y Y) (G H : List ℕ) (ts : List Lexeme) (pg : Piece false G ts) where
  abbrev whole_text : List ℕ
  whole_text = G ++ (x ++ (m ++ (y ++ H)))

  abbrev before_y : List ℕ
  before_y = G ++ (x ++ m)

  abbrev one_tokens : List Token
  one_tokens = map token_of (map (moved (length G)) cx.tokens)

  abbrev other_tokens : List Token
  other_tokens = map token_of (map (moved (length before_y)) cy.tokens)

  abbrev rest_tokens : List Token
  rest_tokens = map token_of (map (moved (length before_y)) (map (moved (length y)) (tokens_of (lex_from H 0))))

  abbrev front_tokens : List Lexeme
  front_tokens = ts ++ map (moved (length G)) (cx.tokens ++ map (moved (length x)) [])

  before_piece : Piece false before_y front_tokens
  unfolding may_start
  before_piece = piece_append {f = false} refl pg (piece_append {f = false} refl cx.piece pm)

  by_y : whole_text ≡ before_y ++ (y ++ H)
  by_y = sym (append_assoc G (x ++ m) (y ++ H) ∙ ap (G ++◌) (append_assoc x m (y ++ H)))

  y_place : length before_y ≡ length G + (length x + length m)
  y_place = length-append G (x ++ m) ∙ ap (length G +◌) (length-append x m)

  both_tokens : tokens whole_text ≡ map token_of ts ++ (one_tokens ++ (other_tokens ++ rest_tokens))
  unfolding tokens
  both_tokens =
      let mx = map (moved (length G)) cx.tokens in
      let my = map (moved (length before_y)) cy.tokens in
      let R = map (moved (length before_y)) (map (moved (length y)) (tokens_of (lex_from H 0))) in
      let e : tokens_of (lex_from whole_text 0) ≡ ts ++ (mx ++ (my ++ R)) =
      ap (λ (z : List ℕ). tokens_of (lex_from z 0)) by_y ∙ behind_tokens before_y y H front_tokens cy.tokens before_piece cy.piece
      ∙ ap (λ (z : List Lexeme). (ts ++ map (moved (length G)) z) ++ (my ++ R)) (append-nil cx.tokens) ∙ append_assoc ts mx (my ++ R) in
      tokens_are (lex_from whole_text 0) ∙ ap (map token_of) e ∙ map_both token_of ts (mx ++ (my ++ R))
      ∙ ap (map token_of ts ++◌) (map_both token_of mx (my ++ R) ∙ ap (map token_of mx ++◌) (map_both token_of my R))

  one_words : each (plain_word whole_text) one_tokens ≡ each (lexeme_word x) cx.tokens
  one_words = behind_words G x (m ++ (y ++ H)) ts cx.tokens pg cx.piece

  other_words : each (plain_word whole_text) other_tokens ≡ each (lexeme_word y) cy.tokens
  other_words = ap (λ (z : List ℕ). each (plain_word z) other_tokens) by_y ∙ behind_words before_y y H front_tokens cy.tokens before_piece cy.piece

  one_begins : first_place one_tokens ≡ length G
  one_begins = first_at (first_place X) cx.tokens (length x) cx.last (ap first_place cx.are) (length G)

  one_ends : end_of_last one_tokens ≡ length G + length x
  one_ends = last_is (map (moved (length G)) cx.tokens) (length G + length x) (last_later (length G) cx.tokens (length x) cx.last)

  other_begins : first_place other_tokens ≡ length before_y
  other_begins = first_at (first_place Y) cy.tokens (length y) cy.last (ap first_place cy.are) (length before_y)

  other_ends : end_of_last other_tokens ≡ length before_y + length y
  other_ends = last_is (map (moved (length before_y)) cy.tokens) (length before_y + length y) (last_later (length before_y) cy.tokens (length y) cy.last)

-- Kind and name of an object, by its words.
unfoldable key_by : List Word → Key
key_by [] = record { kind = OS; name = [] }
key_by (t ∷ []) = record { kind = OS; name = [] }
key_by (t ∷ n ∷ l) = record { kind = kind_of t.class; name = n.bytes }

key_is : (s : List ℕ) (x : ObjectTree) → key_in s x ≡ key_by (each (plain_word s) (Leaves-of x))
unfolding key_in key_of key_by meaning means Leaves-of each plain_word unplaced_word word_of
key_is s (node an_object_alone (leaf t _ (leaf n _ us)) nil) = refl
key_is s (node an_object_with (leaf t _ (leaf n _ us)) nil) = refl

-- The parts ------------------------------------------------------------------------------------------------------------------------------------

module _ (a x m y c : List ℕ) (i : InText a x m y c) (different : OfTwo a x m y c i) (G H : List ℕ) (ts : List Lexeme) (pg : Piece false G ts) where
  abbrev k : List ℕ
  k = drop i.from a

  abbrev s : List ℕ
  s = k ++ (x ++ (m ++ (y ++ c)))

  abbrev u : List ℕ
  u = G ++ (x ++ (m ++ (y ++ H)))

  abbrev p : Pieces a x m y c i
  p = pieces a x m y c i

  abbrev X' : List Token
  X' = map token_of (map (moved (length G)) p.one.tokens)

  abbrev Y' : List Token
  Y' = map token_of (map (moved (length (G ++ (x ++ m)))) p.other.tokens)

  words_x : each (plain_word u) X' ≡ each (plain_word s) (Leaves-of i.one)
  words_x =
      one_words x m y p.one p.between_both p.other G H ts pg
      ∙ sym (one_words x m y p.one p.between_both p.other k c p.front.tokens p.front.piece)
      ∙ ap (each (plain_word s)) (ap (λ (j : ℕ). map token_of (map (moved j) p.one.tokens)) (sym (own a x m y c i).begins) ∙ p.one.are)

  words_y : each (plain_word u) Y' ≡ each (plain_word s) (Leaves-of i.other)
  words_y =
      let e : length (k ++ (x ++ m)) ≡ first_place (Leaves-of i.other) = length-append k (x ++ m) ∙ ap (length k +◌) (length-append x m) ∙ sym (own a x m y c i).begins' in
      other_words x m y p.one p.between_both p.other G H ts pg
      ∙ sym (other_words x m y p.one p.between_both p.other k c p.front.tokens p.front.piece)
      ∙ ap (each (plain_word s)) (ap (λ (j : ℕ). map token_of (map (moved j) p.other.tokens)) e ∙ p.other.are)

  key_same : (o z : ObjectTree) (l : List Token) → Leaves-of o ≡ l → each (plain_word u) l ≡ each (plain_word s) (Leaves-of z)
      → key_in (drop i.from (a ++ (x ++ (m ++ (y ++ c))))) z ≡ key_in u o
  key_same o z l e w =
      ap (λ (t : List ℕ). key_in t z) (own a x m y c i).text_is ∙ key_is s z ∙ ap key_by (sym w) ∙ ap (λ (t : List Token). key_by (each (plain_word u) t)) (sym e) ∙ sym (key_is u o)

  parts : (d : Derivation (tokens u)) → PartsAt u d (length G) x m y
  parts d =
      let cx = p.one in
      let pm = p.between_both in
      let cy = p.other in
      let A = map token_of ts in
      let R = map token_of (map (moved (length (G ++ (x ++ m)))) (map (moved (length y)) (tokens_of (lex_from H 0)))) in
      let one = planted (lifted s i.one) u X' words_x in
      let other = planted (lifted s i.other) u Y' words_y in
      let w : Leaves-of d.tree ≡ A ++ (Leaves-of one.tree ++ (Leaves-of other.tree ++ R)) =
      d.leaves ∙ both_tokens x m y cx pm cy G H ts pg ∙ ap₂ (λ (v t : List Token). A ++ (v ++ (t ++ R))) (sym one.leaves) (sym other.leaves) in
      let t = two_parts_in d.tree one.tree other.tree A R w in
      let e₁ : Leaves-of t.one ≡ X' = t.one_is ∙ one.leaves in
      let e₂ : Leaves-of t.other ≡ Y' = t.other_is ∙ other.leaves in
      let n = y_place x m y cx pm cy G H ts pg in
      let f = other_begins x m y cx pm cy G H ts pg in
      let g = other_ends x m y cx pm cy G H ts pg in
      let h₁ : first_place Y' ≡ length G + (length x + length m) = omega arith in
      let h₂ : end_of_last Y' ≡ length G + (length x + (length m + length y)) = omega arith in
      record {
        before = t.before;
        one = t.one;
        other = t.other;
        after = t.after;
        objects_are = t.whole;
        different = λ q. different (key_same t.one i.one X' e₁ words_x ∙ q ∙ sym (key_same t.other i.other Y' e₂ words_y));
        one_begins = ap first_place e₁ ∙ one_begins x m y cx pm cy G H ts pg;
        one_ends = ap end_of_last e₁ ∙ one_ends x m y cx pm cy G H ts pg;
        other_begins = ap first_place e₂ ∙ h₁;
        other_ends = ap end_of_last e₂ ∙ h₂;
      }

-- Wherever the text is included.
pub everywhere : (P a x m y c Q l : List ℕ) (n : ℕ) → told_well (P ++ ((a ++ (x ++ (m ++ (y ++ c)))) ++ Q)) l ≡ true → IsText P (a ++ (x ++ (m ++ (y ++ c)))) l n
    → (i : InText a x m y c) → OfTwo a x m y c i → (expanded (P ++ ((a ++ (x ++ (m ++ (y ++ c)))) ++ Q)) l).number ≡ 0
    → (d : Derivation (tokens (text (P ++ ((a ++ (x ++ (m ++ (y ++ c)))) ++ Q)) l))) (j : ℕ) → j < length (text (P ++ ((a ++ (x ++ (m ++ (y ++ c)))) ++ Q)) l)
    → get_or (expanded (P ++ ((a ++ (x ++ (m ++ (y ++ c)))) ++ Q)) l).origins j 0 ≡ origin n (length a) → PartsAt (text (P ++ ((a ++ (x ++ (m ++ (y ++ c)))) ++ Q)) l) d j x m y
everywhere P a x m y c Q l n told is i two h d j k e =
    let r = text_stands P a x m y c Q l n told is i h j k e in
    let b = P ++ ((a ++ (x ++ (m ++ (y ++ c)))) ++ Q) in
    subst (λ (q : ℕ). PartsAt (text b l) d q x m y) r.place
    (subst (λ (s : List ℕ). (d : Derivation (tokens s)) → PartsAt s d (length r.front) x m y) (sym r.whole) (parts a x m y c i two r.front r.back r.tokens r.piece) d)
