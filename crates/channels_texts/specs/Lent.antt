-- Lent texts of which one has two of its objects exchanged (document 02, Q-10 and Q-12): "two neighbouring objects or parts of different ones in one
-- file, each from kind word through semicolon, with no include line in or between". Assumes nothing.
use Rattle.std.specs.Prelude.{◌≡◌, List, [], ◌∷◌, ◌++◌, true, ℕ, ◌+◌, ◌-◌, ◌≤◌, length, get_or, drop, Some}
use Rattle.token.specs.Find.{either, byte}
use Rattle.grammar.specs.Grammar.{Token, matches, sg, lbrace, semicolon, Derivation, tokens as Leaves-of}
use Rattle.grammar.specs.Terminals.{tokens}
use Rattle.sources.specs.Lines.{stop_at}
use Rattle.sources.specs.Texts.{told_well}
use Rattle.sources.specs.Numbering.{span_of}
use Rattle.sources.specs.Expanding.{origin, expanded}
use Rattle.sources.specs.declared.Line.{Line}
use Rattle.sources.specs.declared.Stop.TheVariants.{Line as AtLine}
use Rattle.channels.specs.Neighbours.{ObjectTree, first_place, end_of_last, key_in}

-- The file -------------------------------------------------------------------------------------------------------------------------------------

-- The places at which a text goes on: its start, and the place after each of its include lines.
pub data GoesOn (s : List ℕ) : ℕ → Type 0 where
  at_start : GoesOn s 0
  after_line : (p : ℕ) (i : Line) → GoesOn s p → stop_at s p ≡ AtLine i → GoesOn s i.after

-- x and y are two objects one after the other in the text a x m y c, each from its kind word through its semicolon, by the text's own tokens: those
-- from the last place before x on at which it goes on, so that no include line is in or between. Before x stands nothing there, or a `{` or a `;`.
pub record InText (a x m y c : List ℕ) : Type 0 where
  pub from : ℕ
  pub goes_on : GoesOn (a ++ (x ++ (m ++ (y ++ c)))) from
  pub low : from ≤ length a
  pub before : List Token
  pub one : ObjectTree
  pub other : ObjectTree
  pub rest : List Token
  pub by_tokens : tokens (drop from (a ++ (x ++ (m ++ (y ++ c))))) ≡ before ++ (Leaves-of one ++ (Leaves-of other ++ rest))
  pub after_sign : (l : List Token) (t : Token) → before ≡ l ++ (t ∷ []) → either (matches (sg lbrace) t.class) (matches (sg semicolon) t.class) ≡ true
  pub one_begins : from + first_place (Leaves-of one) ≡ length a
  pub one_ends : from + end_of_last (Leaves-of one) ≡ length a + length x
  pub other_begins : from + first_place (Leaves-of other) ≡ length a + (length x + length m)
  pub other_ends : from + end_of_last (Leaves-of other) ≡ length a + (length x + (length m + length y))
  pub one_semicolon : byte x (length x - 1) ≡ 59
  pub other_semicolon : byte y (length y - 1) ≡ 59

-- They are parts of different objects: of another kind, or of another name.
abbrev pub OfTwo : (a x m y c : List ℕ) → InText a x m y c → Type 0
OfTwo a x m y c i = key_in (drop i.from (a ++ (x ++ (m ++ (y ++ c))))) i.one ≡ key_in (drop i.from (a ++ (x ++ (m ++ (y ++ c))))) i.other → ⊥

-- The buffer -----------------------------------------------------------------------------------------------------------------------------------

-- In the buffer P s Q with the lengths l, text k is s.
abbrev pub IsText : (P s l : List ℕ) (k : ℕ) → Type 0
IsText P s l k = span_of l k ≡ Some (k, length P, length P + length s)

-- The expanded text ----------------------------------------------------------------------------------------------------------------------------

-- w stands in place of v at some places of a text whose bytes have the origins O, each of which has the origin o: the texts are g v .. g v r and
-- g w .. g w r.
pub data Replaced (o : ℕ) (v w : List ℕ) : List ℕ → List ℕ → List ℕ → Type 0 where
  no_more : (O r : List ℕ) → Replaced o v w O r r
  here : (O g r r' : List ℕ) → get_or O (length g) 0 ≡ o → Replaced o v w (drop (length g + length v) O) r r' → Replaced o v w O (g ++ (v ++ r)) (g ++ (w ++ r'))

-- The expansion of the buffer b, and that of b': it has no fault either, as many bytes, and y m x in place of x m y, where the first byte of x
-- comes from the place p of text k.
pub record SameExpansion (b b' l x m y : List ℕ) (k p : ℕ) : Type 0 where
  pub number : (expanded b' l).number ≡ 0
  pub rest : (expanded b' l).rest ≡ (expanded b l).rest
  pub long : length (expanded b' l).bytes ≡ length (expanded b l).bytes
  pub replaced : Replaced (origin k p) (x ++ (m ++ y)) (y ++ (m ++ x)) (expanded b l).origins (expanded b l).bytes (expanded b' l).bytes

-- Where x and y are exchanged in one of the lent texts, they are exchanged in the expanded text, at each place where that text is included.
abbrev pub ExpansionExchanged : Type 0
ExpansionExchanged =
    (P a x m y c Q l : List ℕ) (k : ℕ) → told_well (P ++ ((a ++ (x ++ (m ++ (y ++ c)))) ++ Q)) l ≡ true → IsText P (a ++ (x ++ (m ++ (y ++ c)))) l k → InText a x m y c
    → (expanded (P ++ ((a ++ (x ++ (m ++ (y ++ c)))) ++ Q)) l).number ≡ 0
    → SameExpansion (P ++ ((a ++ (x ++ (m ++ (y ++ c)))) ++ Q)) (P ++ ((a ++ (y ++ (m ++ (x ++ c)))) ++ Q)) l x m y k (length a)
