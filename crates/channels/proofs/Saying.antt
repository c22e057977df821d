-- What the parts of a text say: those before an object, an object, what stands between two, and the rest. Assumes nothing.
use Prim.Native.Nat.{ℕ, ◌+◌, ◌-◌}
use mathlib.Core.Path.{◌≡◌, refl, sym, ◌∙◌, ap, ap₂, subst}
use mathlib.Core.List.{List, [], ◌∷◌, ◌++◌, map, append-nil}
use mathlib.Core.Bool.{true, false}
use native.Mathlib.Omega.{arith}
use lib.ListN.{length, take, drop}
use Rattle.token.specs.Tokens.{bytes_between}
use Rattle.token.specs.Lexing.{lex_from, Divides as Wholly}
use Rattle.token.proofs.Sequences.{tokens_of}
use Rattle.token.specs.declared.Token.{Token as Lexeme}
use Rattle.token.specs.declared.Sort.{Sort as TokenSort}
use Rattle.token.specs.declared.Sort.TheVariants.{Word as WordToken, Number, String, Punctuator, Float}
use Rattle.token.proofs.Steps.{lex_again}
use Rattle.locality.proofs.Shift.{moved, moved_all, lex_rest}
use Rattle.locality.proofs.Front.{ends}
use Rattle.locality.proofs.Pieces.{may_follow, tokens_moved, Run, run_last, LastEnds, piece_run, first, leading}
use Rattle.locality.proofs.Slices.{Split, split}
use Rattle.locality.proofs.Between.{piece_between, piece_until, after_divides, moved_divides}
use Rattle.grammar.specs.Grammar.{Token, Class, Sign, matches, sg, lbrace, semicolon}
use Rattle.grammar.specs.Stage.{Divides}
use Rattle.grammar.specs.Terminals.{words, class_of, token_of, tokens}
use Rattle.meaning.specs.Syntax.{Word, through}
use Rattle.meaning.specs.Actions.{word_of}
use Rattle.meaning.specs.Normal.{part}
use Rattle.meaning.specs.Places.{each}
use Rattle.meaning.proofs.Unplaced.{each_append}
use Rattle.reads_back.proofs.Restated.{plain_word}
use Rattle.reads_back.proofs.SayingAlone.{fails_at}
use Rattle.reads_back.proofs.SayingPieces.{lexeme_word, words_moved, words_kept, Says}
use Rattle.reads_back.proofs.SayingCopied.{run_words, last_place, copy}
use Rattle.reads_back.proofs.SayingTokens.{tokens_are, piece_tokens, all_tokens}
use Rattle.channels.specs.Neighbours.{first_place, end_of_last}

-- Tokens that end before whatever follows ----------------------------------------------------------------------------------------------------

-- A token of the class c ends before whatever follows.
abbrev pub Stops : Class → Type 0
Stops c = (k : TokenSort) → class_of k ≡ c → (b : List ℕ) → ends k b ≡ true

sign_stops : (x : Sign) (c : Class) → ((k : ℕ) → matches (sg x) (class_of (WordToken k)) ≡ false) → ((n : _) (m : ℕ) → matches (sg x) (class_of (Number n m)) ≡ false)
    → ((n : _) (m i : ℕ) → matches (sg x) (class_of (Float n m i)) ≡ false) → matches (sg x) c ≡ true → Stops c
unfolding ends
sign_stops x c f g h m (WordToken k) e b = absurd (let p = f k in let q = ap (matches (sg x)) e ∙ m in let z : ◌≡◌ {A = ℕ} 0 1 = cc in omega arith)
sign_stops x c f g h m (Number n i) e b = absurd (let p = g n i in let q = ap (matches (sg x)) e ∙ m in let z : ◌≡◌ {A = ℕ} 0 1 = cc in omega arith)
sign_stops x c f g h m (Float n i j) e b = absurd (let p = h n i j in let q = ap (matches (sg x)) e ∙ m in let z : ◌≡◌ {A = ℕ} 0 1 = cc in omega arith)
sign_stops x c f g h m String e b = refl
sign_stops x c f g h m (Punctuator i) e b = refl

-- So does a `;`,
pub semicolon_stops : (c : Class) → matches (sg semicolon) c ≡ true → Stops c
unfolding class_of matches
semicolon_stops c m = sign_stops semicolon c (fails_at (matches (sg semicolon)) words refl) (λ n i. refl) (λ n i j. refl) m

-- and a `{`.
pub brace_stops : (c : Class) → matches (sg lbrace) c ≡ true → Stops c
unfolding class_of matches
brace_stops c m = sign_stops lbrace c (fails_at (matches (sg lbrace)) words refl) (λ n i. refl) (λ n i j. refl) m

-- There are tokens, and so does the last of them.
abbrev pub Ending : List Token → Type 0
Ending [] = ⊥
Ending (t ∷ []) = Stops t.class
Ending (t ∷ u ∷ l) = Ending (u ∷ l)

pub ending_append : (a b : List Token) → Ending b → Ending (a ++ b)
ending_append [] b h = h
ending_append (t ∷ []) [] h = absurd h
ending_append (t ∷ []) (u ∷ b) h = h
ending_append (t ∷ u ∷ a) b h = ending_append (u ∷ a) b h

pub ending_last : (ts : List Lexeme) → Ending (map token_of ts) → (b : List ℕ) → LastEnds b ts
unfolding token_of
ending_last [] h b = tt
ending_last (t ∷ []) h b = h t.sort refl b
ending_last (t ∷ u ∷ ts) h b = ending_last (u ∷ ts) h b

-- The parts ----------------------------------------------------------------------------------------------------------------------------------

-- The lexemes of a text whose tokens are A and then B.
pub lexemes_split : (s : List ℕ) (A B : List Token) → tokens s ≡ A ++ B → Split token_of (tokens_of (lex_from s 0)) A B
unfolding tokens
lexemes_split s A B e = split token_of (tokens_of (lex_from s 0)) A B (sym (tokens_are (lex_from s 0)) ∙ e)

-- The first of some lexemes.
pub record Heading (l : List Lexeme) (t : Token) : Type 0 where
  pub head : Lexeme
  pub rest : List Lexeme
  pub whole : l ≡ head ∷ rest
  pub place_is : head.at ≡ t.place

pub heading : (l : List Lexeme) (t : Token) (R : List Token) → map token_of l ≡ t ∷ R → Heading l t
unfolding token_of
heading [] t R e = absurd (let z : ◌≡◌ {A = ℕ} 0 1 = cc in omega arith)
heading (u ∷ l) t R e = let same : token_of u ≡ t = cc in record { head = u; rest = l; whole = refl; place_is = ap (λ (x : Token). x.place) same }

-- What stands before the token t.
pub front_says : (a z : List ℕ) (A : List Token) (t : Token) (R : List Token) → tokens (a ++ z) ≡ A ++ (t ∷ R) → t.place ≡ length a → Ending A
    → Says false a (each (plain_word (a ++ z)) A)
front_says a z A t R e i h =
    let s = a ++ z in
    let j = lexemes_split s A (t ∷ R) e in
    let f = heading j.back t R j.back_is in
    let k : tokens_of (lex_from s 0) ≡ j.front ++ (f.head ∷ f.rest) = j.whole ∙ ap (j.front ++◌) f.whole in
    let p = piece_until a z j.front f.rest f.head k (f.place_is ∙ i) (ending_last j.front (subst Ending (sym j.front_is) h)) in
    let r = leading s 0 j.front j.back j.whole in
    record {
      tokens = j.front;
      piece = p;
      words = sym (words_kept a z j.front p.inside) ∙ sym (run_words s r.end 0 j.front r.run) ∙ ap (each (plain_word s)) j.front_is;
    }

-- Where the last of tokens ends.
pub last_end_is : (l : List Token) (c : Token) → end_of_last (l ++ (c ∷ [])) ≡ c.place + c.length
unfolding end_of_last
last_end_is [] c = refl
last_end_is (t ∷ []) c = refl
last_end_is (t ∷ u ∷ l) c = last_end_is (u ∷ l) c

-- An object, from the token i through its semicolon c.
pub record Ends (X : List Token) : Type 0 where
  pub first : Token
  pub mid : List Token
  pub final : Token
  pub leaves : X ≡ first ∷ (mid ++ (final ∷ []))
  pub final_is : matches (sg semicolon) final.class ≡ true

pub object_ending : {X : List Token} → Ends X → Ending X
object_ending x =
    subst Ending (sym x.leaves) (ending_append (x.first ∷ x.mid) (x.final ∷ []) (semicolon_stops x.final.class x.final_is))

pub object_says : (s : List ℕ) (A X B : List Token) → tokens s ≡ A ++ (X ++ B) → Ends X → Says false (bytes_between s (first_place X) (end_of_last X)) (each (plain_word s) X)
unfolding part through word_of first_place
object_says s A X B e x =
    let i = x.first in
    let c = x.final in
    let j = lexemes_split s A (X ++ B) e in
    let k = split token_of j.back X B j.back_is in
    let g = leading s 0 j.front j.back j.whole in
    let y = copy s g.end k.back i c x.mid x.final_is k.front (g.rest ∙ k.whole) (k.front_is ∙ x.leaves) in
    let p : first_place X ≡ i.place = ap first_place x.leaves in
    let q : end_of_last X ≡ c.place + c.length = ap end_of_last x.leaves ∙ last_end_is (i ∷ x.mid) c in
    subst (λ b. Says false b (each (plain_word s) X)) (ap₂ (λ (m n : ℕ). take (n - m) (drop m s)) (sym p) (sym q))
    (subst (λ l. Says false (part s (through (word_of s i) (word_of s c))) (each (plain_word s) l)) (sym x.leaves) y.says)

-- What stands between the tokens A, of which the last is the semicolon of an object, and the token t.
pub between_says : (a m z : List ℕ) (A : List Token) (c t : Token) (R : List Token) → tokens (a ++ (m ++ z)) ≡ (A ++ (c ∷ [])) ++ (t ∷ R) → c.place + c.length ≡ length a
    → t.place ≡ length a + length m → Says false m []
unfolding each
between_says a m z A c t R e l i =
    let s = a ++ (m ++ z) in
    let j = lexemes_split s (A ++ (c ∷ [])) (t ∷ R) e in
    let f = heading j.back t R j.back_is in
    let k : tokens_of (lex_from s 0) ≡ j.front ++ (f.head ∷ f.rest) = j.whole ∙ ap (j.front ++◌) f.whole in
    record { tokens = []; piece = piece_between a m z j.front f.rest f.head k (last_place j.front 0 A c j.front_is ∙ l) (f.place_is ∙ i); words = refl }

-- The rest -----------------------------------------------------------------------------------------------------------------------------------

-- The words of a text.
unfoldable pub words_in : List ℕ → List Word
words_in b = each (lexeme_word b) (tokens_of (lex_from b 0))

pub text_words : (s : List ℕ) → each (plain_word s) (tokens s) ≡ words_in s
unfolding words_in tokens
text_words s =
    let r = leading s 0 (tokens_of (lex_from s 0)) [] (sym (append-nil (tokens_of (lex_from s 0)))) in
    ap (each (plain_word s)) (tokens_are (lex_from s 0)) ∙ run_words s r.end 0 (tokens_of (lex_from s 0)) r.run

-- What a piece says, and then what goes on.
pub piece_words : {p : List ℕ} {ws : List Word} → Says false p ws → (b : List ℕ) → words_in (p ++ b) ≡ ws ++ words_in b
unfolding words_in
piece_words {p} x b =
    let l = tokens_of (lex_from b 0) in
    ap (each (lexeme_word (p ++ b))) (piece_tokens x.piece b) ∙ each_append (lexeme_word (p ++ b)) x.tokens (map (moved (length p)) l)
    ∙ ap₂ ◌++◌ (words_kept p b x.tokens x.piece.inside ∙ x.words) (words_moved p b l)

-- What goes on divides wholly if all does.
pub rest_divides : {p : List ℕ} {ws : List Word} → Says false p ws → (b : List ℕ) → Divides (p ++ b) → Divides b
unfolding may_follow
rest_divides {p} x b d = moved_divides (length p) (lex_from b 0) (after_divides x.tokens (moved_all (length p) (lex_from b 0)) (subst Wholly (x.piece.joined b refl) d))

-- Up to a token, and from one on -------------------------------------------------------------------------------------------------------------

-- A text that ends where the token c ends.
pub until_says : (a z : List ℕ) (A : List Token) (c : Token) (R : List Token) → tokens (a ++ z) ≡ (A ++ (c ∷ [])) ++ R → c.place + c.length ≡ length a → Stops c.class
    → Says false a (each (plain_word (a ++ z)) (A ++ (c ∷ [])))
until_says a z A c R e l h =
    let s = a ++ z in
    let j = lexemes_split s (A ++ (c ∷ [])) R e in
    let r = leading s 0 j.front j.back j.whole in
    let n : r.end ≡ length a = sym (run_last s r.end 0 j.front r.run) ∙ last_place j.front 0 A c j.front_is ∙ l in
    let p = piece_run false a z j.front (subst (λ (i : ℕ). Run s i 0 j.front) n r.run)
    (λ b _. ending_last j.front (subst Ending (sym j.front_is) (ending_append A (c ∷ []) h)) b) in
    record {
      tokens = j.front;
      piece = p;
      words = sym (words_kept a z j.front p.inside) ∙ sym (run_words s r.end 0 j.front r.run) ∙ ap (each (plain_word s)) j.front_is;
    }

-- A piece says the words of its text.
pub piece_says : {p : List ℕ} {ws : List Word} → Says false p ws → ws ≡ words_in p
unfolding words_in
piece_says {p} x = sym (ap (each (lexeme_word p)) (all_tokens x.piece) ∙ x.words)

-- A text that begins where the token c begins.
pub back_words : (p b : List ℕ) (A : List Token) (c : Token) (R : List Token) → tokens (p ++ b) ≡ A ++ (c ∷ R) → c.place ≡ length p
    → each (plain_word (p ++ b)) (c ∷ R) ≡ words_in b
unfolding words_in
back_words p b A c R e i =
    let s = p ++ b in
    let j = lexemes_split s A (c ∷ R) e in
    let r = leading s 0 j.front j.back j.whole in
    let f = heading j.back c R j.back_is in
    let g = first s r.end f.head f.rest (r.rest ∙ f.whole) in
    let k : lex_from s (length p) ≡ lex_from s r.end = ap (lex_from s) (sym (f.place_is ∙ i)) ∙ lex_again s r.end f.head g.next g.step in
    let l : j.back ≡ map (moved (length p)) (tokens_of (lex_from b 0)) =
    sym r.rest ∙ ap tokens_of (sym k ∙ lex_rest p b) ∙ tokens_moved (length p) (lex_from b 0) in
    let q = leading s r.end j.back [] (r.rest ∙ sym (append-nil j.back)) in
    ap (each (plain_word s)) (sym j.back_is) ∙ run_words s q.end r.end j.back q.run ∙ ap (each (lexeme_word s)) l ∙ words_moved p b (tokens_of (lex_from b 0))
