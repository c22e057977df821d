-- The tokens of a normal text: the heading's, the implementation's and the application's. Assumes nothing.
use Prim.Native.Nat.{ℕ, ◌+◌, ◌-◌}
use mathlib.Core.Path.{◌≡◌, refl, sym, ◌∙◌, ap, ap₂, subst}
use mathlib.Core.List.{List, [], ◌∷◌, ◌++◌, map, map-append, append-nil}
use mathlib.Core.Bool.{true, false}
use native.Mathlib.Omega.{arith}
use native.Mathlib.Nat.{add-zero}
use lib.ListN.{length, take, drop}
use lib.Seq.{take-append_seam, drop-append_seam}
use Rattle.token.specs.Gaps.{skip_n, skip}
use Rattle.token.specs.Words.{bytes_of}
use Rattle.token.specs.Tokens.{token_at, step_at}
use Rattle.token.specs.Lexing.{Lexed, more, ended, refused, lex_n, lex_from, Divides as Wholly}
use Rattle.token.proofs.Sequences.{tokens_of}
use Rattle.token.specs.declared.Token.{Token as Lexeme}
use Rattle.locality.proofs.Shift.{moved, moved_all}
use Rattle.locality.proofs.Pieces.{may_follow, Piece, tokens_after, tokens_moved, divides_after, divides_moved, leading}
use Rattle.locality.proofs.Slices.{last_moved, split}
use Rattle.grammar.specs.Grammar.{Token, matches, sg, semicolon}
use Rattle.grammar.specs.Stage.{Divides}
use Rattle.grammar.specs.Terminals.{token_of, tokens_in, tokens}
use Rattle.meaning.specs.Syntax.{File, through}
use Rattle.meaning.specs.Actions.{word_of}
use Rattle.meaning.specs.Resolving.{Resolved}
use Rattle.meaning.specs.Normal.{part, application_lines}
use Rattle.meaning.specs.Places.{each}
use Rattle.reads_back.proofs.Restated.{version_words, application_words, plain_word, Named, SaidObjects}
use Rattle.reads_back.proofs.SayingOffsets.{Offsets, moved_offsets, Copied}
use Rattle.reads_back.proofs.SayingPieces.{words_moved, words_kept, Says}
use Rattle.reads_back.proofs.SayingLines.{says_heading, says_application}
use Rattle.reads_back.proofs.SayingCopied.{run_words, last_place, first_at, Copy, copy}

-- The tokens of the normal text n of a text s with the implementation's tokens im.
pub record NormalTokens (s n : List ℕ) (im : List Token) (f : File) (rs : List Resolved) : Type 0 where
  pub divides : Divides n
  pub heading : List Token
  pub middle : List Token
  pub last : List Token
  pub whole : tokens n ≡ heading ++ (middle ++ last)
  pub heading_words : each (plain_word n) heading ≡ version_words
  pub middle_words : each (plain_word n) middle ≡ each (plain_word s) im
  pub last_words : each (plain_word n) last ≡ application_words f rs
  -- the implementation is copied byte for byte, from its first token through its last
  pub copied : (i c : Token) (mid : List Token) → middle ≡ i ∷ (mid ++ (c ∷ [])) →
      part n (through (word_of n i) (word_of n c)) ≡ part s f.implementation
  -- its tokens with it, at one offset
  pub at_offset : Copied s n im middle

-- the tokens of a text, of its lexemes
pub tokens_are : (l : Lexed) → tokens_in l ≡ map token_of (tokens_of l)
unfolding tokens_in tokens_of
tokens_are (more t l) = ap (λ (x : List Token). token_of t ∷ x) (tokens_are l)
tokens_are (ended n) = refl
tokens_are (refused p) = refl

-- ---- a piece and what goes on after it

module _ {a : List ℕ} {ts : List Lexeme} (x : Piece false a ts) (b : List ℕ) where
  -- its tokens, and then those of what goes on
  pub piece_tokens : tokens_of (lex_from (a ++ b) 0) ≡ ts ++ map (moved (length a)) (tokens_of (lex_from b 0))
  unfolding may_follow
  piece_tokens =
      ap tokens_of (x.joined b refl) ∙ tokens_after ts (moved_all (length a) (lex_from b 0))
      ∙ ap (λ (us : List Lexeme). ts ++ us) (tokens_moved (length a) (lex_from b 0))

  -- both divide wholly if what goes on does
  pub piece_divides : Divides b → Divides (a ++ b)
  unfolding may_follow
  piece_divides d = subst Wholly (sym (x.joined b refl)) (divides_after ts (moved_all (length a) (lex_from b 0)) (divides_moved (length a) (lex_from b 0) d))

empty : lex_from [] 0 ≡ ended 0
unfolding lex_from lex_n step_at skip skip_n token_at
empty = refl

module _ {a : List ℕ} {ts : List Lexeme} (x : Piece false a ts) where
  -- where nothing goes on, its tokens are all
  pub all_tokens : tokens_of (lex_from a 0) ≡ ts
  unfolding tokens_of
  all_tokens =
      ap (λ (u : List ℕ). tokens_of (lex_from u 0)) (sym (append-nil a)) ∙ piece_tokens x []
      ∙ ap (λ (l : Lexed). ts ++ map (moved (length a)) (tokens_of l)) empty ∙ append-nil ts

  all_divides : Divides a
  all_divides = subst Divides (append-nil a) (piece_divides x [] (subst Wholly (sym empty) tt))

-- ---- three pieces

first_place : (d : ℕ) (ts : List Lexeme) (i : Token) (l : List Token) → map token_of (map (moved d) ts) ≡ i ∷ l → d + first_at ts ≡ i.place
unfolding token_of moved first_at
first_place d [] i l e = absurd (let z : ◌≡◌ {A = ℕ} 0 1 = cc in omega arith)
first_place d (t ∷ ts) i l e = let same : token_of (moved d t) ≡ i = cc in ap (λ (x : Token). x.place) same

module _ (s : List ℕ) (im : List Token) (f : File) (rs : List Resolved) (h a r : List ℕ) (x : Says false h version_words) (y : Copy s im a)
    (z : Says false r (application_words f rs)) (same : a ≡ part s f.implementation) where
  abbrev n : List ℕ
  n = h ++ (a ++ r)

  abbrev heads : List Lexeme
  heads = x.tokens

  abbrev middles : List Lexeme
  middles = map (moved (length h)) y.says.tokens

  abbrev lasts : List Lexeme
  lasts = map (moved (length h)) (map (moved (length a)) z.tokens)

  lexemes : tokens_of (lex_from n 0) ≡ heads ++ (middles ++ lasts)
  lexemes =
      piece_tokens x.piece (a ++ r)
      ∙ ap (λ (l : List Lexeme). heads ++ map (moved (length h)) l)
      (piece_tokens y.says.piece r ∙ ap (λ (l : List Lexeme). y.says.tokens ++ map (moved (length a)) l) (all_tokens z.piece))
      ∙ ap (λ (l : List Lexeme). heads ++ l) (map-append (moved (length h)) y.says.tokens (map (moved (length a)) z.tokens))

  copied_part : (i c : Token) (mid : List Token) → map token_of middles ≡ i ∷ (mid ++ (c ∷ [])) → part n (through (word_of n i) (word_of n c)) ≡ a
  unfolding part through word_of
  copied_part i c mid e =
      let d = length h in
      let p : i.place ≡ d = sym (first_place d y.says.tokens i (mid ++ (c ∷ [])) e) ∙ ap (λ (k : ℕ). d + k) y.starts ∙ add-zero d in
      let q : c.place + c.length ≡ d + length a =
      sym (last_place middles (d + 0) (i ∷ mid) c e) ∙ last_moved d 0 y.says.tokens ∙ ap (λ (k : ℕ). d + k) y.finishes in
      let m : d + length a - d ≡ length a = omega arith in
      ap₂ (λ (p q : ℕ). take (q - p) (drop p n)) p q ∙ ap₂ (λ (k : ℕ) (u : List ℕ). take k u) m (drop-append_seam h (a ++ r)) ∙ take-append_seam a r

  three : NormalTokens s n im f rs
  unfolding tokens
  three =
      let j = leading n 0 heads (middles ++ lasts) lexemes in
      let k = leading n j.end middles lasts j.rest in
      let l = leading n k.end lasts [] (k.rest ∙ sym (append-nil lasts)) in
      record {
        divides = piece_divides x.piece (a ++ r) (piece_divides y.says.piece r (all_divides z.piece));
        heading = map token_of heads;
        middle = map token_of middles;
        last = map token_of lasts;
        whole =
            tokens_are (lex_from n 0) ∙ ap (map token_of) lexemes
            ∙ map-append token_of heads (middles ++ lasts) ∙ ap (λ (t : List Token). map token_of heads ++ t) (map-append token_of middles lasts);
        heading_words = run_words n j.end 0 heads j.run ∙ words_kept h (a ++ r) heads x.piece.inside ∙ x.words;
        middle_words =
            run_words n k.end j.end middles k.run ∙ words_moved h (a ++ r) y.says.tokens
            ∙ words_kept a r y.says.tokens y.says.piece.inside ∙ y.says.words;
        last_words =
            run_words n l.end k.end lasts l.run ∙ words_moved h (a ++ r) (map (moved (length a)) z.tokens)
            ∙ words_moved a r z.tokens ∙ z.words;
        copied = λ i c mid e. copied_part i c mid e ∙ same;
        at_offset = record {
          from = y.from;
          to = length h;
          many = length a;
          bytes = y.bytes_are ∙ sym (ap (take (length a)) (drop-append_seam h (a ++ r)) ∙ take-append_seam a r);
          offsets = subst (λ l. Offsets y.from (length h) (length a) l (map token_of middles)) y.tokens_are
              (moved_offsets y.from (length h) (length a) y.says.tokens y.says.piece.inside);
        };
      }

-- The normal text of a text s whose implementation has the tokens from i through the `;` c.
pub normal_tokens : (s : List ℕ) (before after mid : List Token) (i c : Token) (f : File) (rs : List Resolved)
    → Divides s → tokens s ≡ before ++ ((i ∷ (mid ++ (c ∷ []))) ++ after)
    → matches (sg semicolon) c.class ≡ true
    → f.implementation ≡ through (word_of s i) (word_of s c)
    → Named f.cpu → SaidObjects f.objects rs 0
    → NormalTokens s (bytes_of "OIL_VERSION = \"2.5\";\n" ++ (part s f.implementation ++ (bytes_of "\n" ++ application_lines f rs))) (i ∷ (mid ++ (c ∷ []))) f rs
unfolding tokens
normal_tokens s before after mid i c f rs d e m p cpu objects =
    let im : List Token = i ∷ (mid ++ (c ∷ [])) in
    let j = split token_of (tokens_of (lex_from s 0)) before (im ++ after) (sym (tokens_are (lex_from s 0)) ∙ e) in
    let k = split token_of j.back im after j.back_is in
    let g = leading s 0 j.front j.back j.whole in
    let y = copy s g.end k.back i c mid m k.front (g.rest ∙ k.whole) k.front_is in
    three s im f rs (bytes_of "OIL_VERSION = \"2.5\";\n") (part s f.implementation) (bytes_of "\n" ++ application_lines f rs) says_heading
    (subst (Copy s im) (ap (part s) (sym p)) y) (says_application f rs cpu objects) refl
