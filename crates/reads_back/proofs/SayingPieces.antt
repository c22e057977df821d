-- What the tokens of a text say, put together of pieces: each piece keeps its tokens, whatever may go on after it. Assumes nothing.
use Prim.Native.Nat.{ℕ}
use mathlib.Core.Path.{◌≡◌, refl, sym, ◌∙◌, ap, ap₂}
use mathlib.Core.List.{List, [], ◌∷◌, ◌++◌, map}
use mathlib.Core.Bool.{Bool, true, false}
use native.Mathlib.Omega.{arith}
use lib.ListN.{length, take, drop, length-drop}
use lib.Seq.{take-append-le, drop-append-le, drop-append-add, take-length}
use Rattle.token.specs.Bytes.{class_of as byteClass}
use Rattle.token.specs.declared.scan.Class.TheVariants.{Blank as blank}
use Rattle.token.specs.declared.Token.{Token as Lexeme}
use Rattle.token.specs.declared.Sort.{Sort as TokenSort}
use Rattle.locality.proofs.Shift.{moved}
use Rattle.locality.proofs.Front.{ends}
use Rattle.locality.proofs.Pieces.{Inside, may_start, Piece, piece_append, piece_none, piece_blank, piece_one, piece_sign}
use Rattle.grammar.specs.Terminals.{class_of}
use Rattle.meaning.specs.Syntax.{Word}
use Rattle.meaning.specs.Actions.{num_of_sort, float_of_sort}
use Rattle.meaning.specs.Places.{each}
use Rattle.meaning.proofs.Unplaced.{unplaced_word, each_append}
use Rattle.reads_back.proofs.Restated.{Alone}

-- a token of the text s, as a word without its place
unfoldable pub lexeme_word : List ℕ → Lexeme → Word
lexeme_word s t = record { class = class_of t.sort; bytes = take t.len (drop t.at s); number = num_of_sort t.sort; float = float_of_sort t.sort; place = 0; length = 0 }

-- ---- the words of a text that goes on, and of one behind another

module _ (a b : List ℕ) where
  -- the words of b, with a in front
  pub words_moved : (ts : List Lexeme) → each (lexeme_word (a ++ b)) (map (moved (length a)) ts) ≡ each (lexeme_word b) ts
  unfolding each lexeme_word moved
  words_moved [] = refl
  words_moved (t ∷ ts) =
      ap₂ (λ (v : List ℕ) (ws : List Word). record { class = class_of t.sort; bytes = take t.len v; number = num_of_sort t.sort; float = float_of_sort t.sort; place = 0; length = 0 } ∷ ws)
      (drop-append-add a b t.at) (words_moved ts)

  -- the words of a, where b goes on
  pub words_kept : (ts : List Lexeme) → Inside (length a) ts → each (lexeme_word (a ++ b)) ts ≡ each (lexeme_word a) ts
  unfolding each lexeme_word
  words_kept [] i = refl
  words_kept (t ∷ ts) i =
      let h = i.0 in
      let l = length-drop t.at a in
      ap₂ (λ (v : List ℕ) (ws : List Word). record { class = class_of t.sort; bytes = v; number = num_of_sort t.sort; float = float_of_sort t.sort; place = 0; length = 0 } ∷ ws)
      (ap (take t.len) (drop-append-le t.at a b (omega arith)) ∙ take-append-le t.len (drop t.at a) b (omega arith)) (words_kept ts i.1)

-- ---- pieces

-- the text a says the words ws, and whatever goes on after it that may (anything, or what begins no word)
pub record Says (f : Bool) (a : List ℕ) (ws : List Word) : Type 0 where
  pub tokens : List Lexeme
  pub piece : Piece f a tokens
  pub words : each (lexeme_word a) tokens ≡ ws

-- one after another
pub says_append : {f g : Bool} {a b : List ℕ} {ws vs : List Word} → may_start f b ≡ true → Says f a ws → Says g b vs → Says g (a ++ b) (ws ++ vs)
says_append {f} {g} {a} {b} e x y =
    record {
      tokens = x.tokens ++ map (moved (length a)) y.tokens;
      piece = piece_append e x.piece y.piece;
      words =
          each_append (lexeme_word (a ++ b)) x.tokens (map (moved (length a)) y.tokens)
          ∙ ap₂ (λ (u v : List Word). u ++ v) (words_kept a b x.tokens x.piece.inside ∙ x.words) (words_moved a b y.tokens ∙ y.words);
    }

-- the empty text
pub says_none : Says false [] []
unfolding each
says_none = record { tokens = []; piece = piece_none; words = refl }

-- a blank
pub says_blank : (x : ℕ) → byteClass x ≡ blank → Says false (x ∷ []) []
unfolding each
says_blank x e = record { tokens = []; piece = piece_blank x e; words = refl }

one_word : (w : Word) (k : TokenSort) → w.class ≡ class_of k → w.number ≡ num_of_sort k → w.float ≡ float_of_sort k →
    each (lexeme_word w.bytes) (record { sort = k; at = 0; len = length w.bytes } ∷ []) ≡ unplaced_word w ∷ []
unfolding each lexeme_word unplaced_word
one_word w k c n r =
    λ j. record { class = sym c j; bytes = take-length w.bytes j; number = sym n j; float = sym r j; place = 0; length = 0 } ∷ []

-- a word that stands alone
pub says_alone : (w : Word) → Alone w → Says true w.bytes (unplaced_word w ∷ [])
says_alone w a =
    record {
      tokens = record { sort = a.sort; at = 0; len = length w.bytes } ∷ [];
      piece = piece_one a.one;
      words = one_word w a.sort a.class_is a.number_is a.float_is;
    }

-- a string or a sign
pub says_sign : (w : Word) (a : Alone w) → ((b : List ℕ) → ends a.sort b ≡ true) → Says false w.bytes (unplaced_word w ∷ [])
says_sign w a e =
    record {
      tokens = record { sort = a.sort; at = 0; len = length w.bytes } ∷ [];
      piece = piece_sign e a.one;
      words = one_word w a.sort a.class_is a.number_is a.float_is;
    }
