-- The implementation of a text, from its first token through its `;`, as a text: it says the same words. Assumes nothing.
use Prim.Native.Nat.{ℕ, ◌+◌, ◌-◌, ◌≤◌}
use mathlib.Core.Path.{◌≡◌, refl, sym, ◌∙◌, ap, ap₂, subst}
use mathlib.Core.List.{List, [], ◌∷◌, ◌++◌, map}
use mathlib.Core.Bool.{true, false}
use native.Mathlib.Omega.{arith}
use lib.ListN.{length, take, drop}
use lib.Seq.{take-append_seam}
use Rattle.token.specs.Tokens.{bytes_between, step_at}
use Rattle.token.specs.Lexing.{lex_from}
use Rattle.token.proofs.Sequences.{tokens_of}
use Rattle.token.specs.declared.Cursor.{Cursor}
use Rattle.token.specs.declared.Token.{Token as Lexeme}
use Rattle.token.specs.declared.Sort.{Sort as TokenSort}
use Rattle.token.specs.declared.Sort.TheVariants.{Word as WordToken, Number, String, Punctuator, Float}
use Rattle.token.specs.declared.Step.TheVariants.{Found}
use Rattle.token.proofs.Steps.{found_fits, step_again, lex_again}
use Rattle.locality.proofs.Shift.{moved}
use Rattle.locality.proofs.Front.{ends}
use Rattle.locality.proofs.Join.{by_parts, halves}
use Rattle.locality.proofs.Pieces.{Run, stay, go, run_inside, last_end, run_last, LastEnds, piece_run, first, leading}
use Rattle.locality.proofs.Slices.{Slice, slice}
use Rattle.grammar.specs.Grammar.{Token, matches, sg, semicolon}
use Rattle.grammar.specs.Terminals.{words, class_of, token_of}
use Rattle.meaning.specs.Syntax.{Word, through}
use Rattle.meaning.specs.Actions.{num_of_step, float_of_step, word_of}
use Rattle.meaning.specs.Normal.{part}
use Rattle.meaning.specs.Places.{each}
use Rattle.meaning.proofs.Unplaced.{unplaced_word}
use Rattle.reads_back.proofs.Restated.{plain_word}
use Rattle.reads_back.proofs.SayingAlone.{fails_at}
use Rattle.reads_back.proofs.SayingPieces.{lexeme_word, words_moved, words_kept, Says}

-- ---- the words of tokens that are found

found_word : (s : List ℕ) (p : ℕ) (t : Lexeme) (c : Cursor) → step_at s p ≡ Found t c → plain_word s (token_of t) ≡ lexeme_word s t
unfolding plain_word unplaced_word word_of token_of lexeme_word num_of_step float_of_step
found_word s p t c e = λ j.
    record { class = class_of t.sort; bytes = take t.len (drop t.at s); number = num_of_step (step_again s p t c e j); float = float_of_step (step_again s p t c e j); place = 0; length = 0 }

-- of tokens found one after the other
pub run_words : (s : List ℕ) (q p : ℕ) (ts : List Lexeme) → Run s q p ts → each (plain_word s) (map token_of ts) ≡ each (lexeme_word s) ts
unfolding each
run_words s q p ts (stay _ e) = refl
run_words s q p ts (go _ t c us e r) = ap₂ (λ (w : Word) (ws : List Word). w ∷ ws) (found_word s p t c e) (run_words s q c.at us r)

-- ---- the first and the last of some tokens

no_end : (l : List Token) (c : Token) → [] ≡ l ++ (c ∷ []) → ⊥
no_end [] c e = let z : ◌≡◌ {A = ℕ} 0 1 = cc in omega arith
no_end (x ∷ l) c e = let z : ◌≡◌ {A = ℕ} 0 1 = cc in omega arith

-- the last token ends where the last of the lexemes does
pub last_place : (ts : List Lexeme) (d : ℕ) (l : List Token) (c : Token) → map token_of ts ≡ l ++ (c ∷ []) → last_end d ts ≡ c.place + c.length
unfolding last_end token_of
last_place [] d l c e = absurd (no_end l c e)
last_place (t ∷ []) d [] c e = let same : token_of t ≡ c = cc in ap (λ (x : Token). x.place + x.length) same
last_place (t ∷ u ∷ ts) d [] c e = absurd (let z : ◌≡◌ {A = ℕ} 0 1 = cc in omega arith)
last_place (t ∷ ts) d (x ∷ l) c e = last_place ts (t.at + t.len) l c cc

-- a `;` ends before whatever follows
stop_ends : (k : TokenSort) (b : List ℕ) → matches (sg semicolon) (class_of k) ≡ true → ends k b ≡ true
unfolding ends matches class_of
stop_ends (WordToken k) b e = absurd (let f = fails_at (matches (sg semicolon)) words refl k in let z : ◌≡◌ {A = ℕ} 0 1 = cc in omega arith)
stop_ends (Number n m) b e = absurd (let z : ◌≡◌ {A = ℕ} 0 1 = cc in omega arith)
stop_ends (Float n m k) b e = absurd (let z : ◌≡◌ {A = ℕ} 0 1 = cc in omega arith)
stop_ends String b e = refl
stop_ends (Punctuator m) b e = refl

stop_last : (ts : List Lexeme) (l : List Token) (c : Token) (b : List ℕ) → map token_of ts ≡ l ++ (c ∷ []) → matches (sg semicolon) c.class ≡ true →
    LastEnds b ts
unfolding token_of
stop_last [] l c b e m = tt
stop_last (t ∷ []) [] c b e m =
    let same : token_of t ≡ c = cc in stop_ends t.sort b (ap (λ (x : Token). matches (sg semicolon) x.class) same ∙ m)
stop_last (t ∷ []) (x ∷ l) c b e m = absurd (no_end l c cc)
stop_last (t ∷ u ∷ ts) [] c b e m = absurd (let z : ◌≡◌ {A = ℕ} 0 1 = cc in omega arith)
stop_last (t ∷ u ∷ ts) (x ∷ l) c b e m = let rest : map token_of (u ∷ ts) ≡ l ++ (c ∷ []) = cc in stop_last (u ∷ ts) l c b rest m

moved_last : (d : ℕ) (b : List ℕ) (ts : List Lexeme) → LastEnds b (map (moved d) ts) → LastEnds b ts
unfolding moved
moved_last d b [] h = tt
moved_last d b (t ∷ []) h = h
moved_last d b (t ∷ u ∷ ts) h = moved_last d b (u ∷ ts) h

-- where the first of some tokens begins
unfoldable pub first_at : List Lexeme → ℕ
first_at [] = 0
first_at (t ∷ ts) = t.at

first_zero : (p : ℕ) (us ts : List Lexeme) → map (moved p) us ≡ ts → first_at ts ≡ p → first_at us ≡ 0
unfolding first_at moved
first_zero p [] ts e f = refl
first_zero p (u ∷ us) ts e f = let k = ap first_at e ∙ f in omega arith

-- ---- the implementation

-- the text a says the words that the tokens im are in the text s, and these begin where it begins and end where it ends; in s they are its
-- tokens from a place on, and a is what s has from there on
pub record Copy (s : List ℕ) (im : List Token) (a : List ℕ) : Type 0 where
  pub says : Says false a (each (plain_word s) im)
  pub starts : first_at says.tokens ≡ 0
  pub finishes : last_end 0 says.tokens ≡ length a
  pub from : ℕ
  pub tokens_are : map token_of (map (moved from) says.tokens) ≡ im
  pub bytes_are : take (length a) (drop from s) ≡ a

module _ (s : List ℕ) (p : ℕ) (ts : List Lexeme) (inside : p ≤ length s) (x : Slice s p ts) (q : ℕ) (r : Run s q p ts) where
  slice_words : each (lexeme_word (bytes_between s p x.end)) x.tokens ≡ each (plain_word s) (map token_of ts)
  slice_words =
      let n = x.end in
      let a = bytes_between s p n in
      sym (words_kept a (drop n s) x.tokens (run_inside (a ++ drop n s) (length a) 0 x.tokens x.run))
      ∙ ap (λ (u : List ℕ). each (lexeme_word u) x.tokens) (sym (halves s p n x.low x.high))
      ∙ sym
      (by_parts s p inside (λ (u : List ℕ) (d : ℕ). each (lexeme_word u) (map (moved d) x.tokens) ≡ each (lexeme_word (drop p s)) x.tokens)
      (words_moved (take p s) (drop p s) x.tokens))
      ∙ ap (each (lexeme_word s)) x.moved_are ∙ sym (run_words s q p ts r)

  slice_copy : (l : List Token) (c : Token) → map token_of ts ≡ l ++ (c ∷ []) → matches (sg semicolon) c.class ≡ true → first_at ts ≡ p →
      Copy s (l ++ (c ∷ [])) (bytes_between s p x.end)
  slice_copy l c e m f =
      let n = x.end in
      let a = bytes_between s p n in
      record {
        says = record {
          tokens = x.tokens;
          piece = piece_run false a (drop n s) x.tokens x.run
              (λ b _. moved_last p b x.tokens (subst (LastEnds b) (sym x.moved_are) (stop_last ts l c b e m)));
          words = slice_words ∙ ap (each (plain_word s)) e;
        };
        starts = first_zero p x.tokens ts x.moved_are f;
        finishes = run_last (a ++ drop n s) (length a) 0 x.tokens x.run;
        from = p;
        tokens_are = ap (map token_of) x.moved_are ∙ e;
        bytes_are = ap (take (length a)) (halves s p n x.low x.high) ∙ take-append_seam a (drop n s);
      }

module _ (s : List ℕ) (q : ℕ) (us : List Lexeme) (i c : Token) (mid : List Token) (m : matches (sg semicolon) c.class ≡ true) where
  -- the part of s from the token i through the `;` c
  pub copy : (ts : List Lexeme) → tokens_of (lex_from s q) ≡ ts ++ us → map token_of ts ≡ i ∷ (mid ++ (c ∷ [])) →
      Copy s (i ∷ (mid ++ (c ∷ []))) (part s (through (word_of s i) (word_of s c)))
  unfolding part through word_of token_of first_at
  copy [] k e = absurd (let z : ◌≡◌ {A = ℕ} 0 1 = cc in omega arith)
  copy (t ∷ ts) k e =
      let f = first s q t (ts ++ us) k in
      let p = t.at in
      let o = found_fits s q t f.next f.step in
      let inside : p ≤ length s = omega arith in
      let k' : tokens_of (lex_from s p) ≡ t ∷ (ts ++ us) = ap tokens_of (lex_again s q t f.next f.step) ∙ k in
      let x = slice s p (t ∷ ts) us inside k' in
      let r = leading s p (t ∷ ts) us k' in
      let same : token_of t ≡ i = cc in
      let place : p ≡ i.place = ap (λ (y : Token). y.place) same in
      let last : x.end ≡ c.place + c.length = sym x.last ∙ last_place (t ∷ ts) p (i ∷ mid) c e in
      subst (Copy s (i ∷ (mid ++ (c ∷ [])))) (ap₂ (λ (p n : ℕ). take (n - p) (drop p s)) place last)
      (slice_copy s p (t ∷ ts) inside x r.end r.run (i ∷ mid) c e m refl)
