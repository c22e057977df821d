-- Any two neighbouring objects of an accepted text may be exchanged, by their places. Assumes nothing.
use mathlib.Core.Path.{◌≡◌, sym, ◌∙◌, ap, ap₂, subst}
use mathlib.Core.List.{List, [], ◌∷◌, ◌++◌, append_assoc}
use Prim.Native.Nat.{ℕ, ◌+◌, ◌-◌, ◌≤◌}
use native.Mathlib.Omega.{arith}
use lib.ListN.{length, take, drop, take-append-drop}
use lib.Seq.{length-take-le}
use Rattle.token.specs.Tokens.{bytes_between}
use Rattle.token.specs.Lexing.{lex_from}
use Rattle.token.proofs.Sequences.{tokens_of}
use Rattle.token.proofs.Steps.{found_fits, lex_again}
use Rattle.locality.proofs.Join.{halves, part_long}
use Rattle.locality.proofs.Pieces.{run_last, first, leading}
use Rattle.locality.proofs.Slices.{split, slice}
use Rattle.grammar.specs.Grammar.{Token, Derivation, tokens as Leaves-of}
use Rattle.grammar.specs.Terminals.{token_of, tokens}
use Rattle.meaning.specs.Answers.{Tables, accepted}
use Rattle.meaning.specs.Reading.{reading}
use Rattle.reads_back.proofs.SayingCopied.{last_place}
use Rattle.channels.specs.Neighbours.{ObjectTree, object_trees, key_in, first_place, end_of_last, exchanged}
use Rattle.channels.proofs.ObjectTrees.{all_leaves, front_leaves, back_leaves}
use Rattle.channels.proofs.Saying.{Ends, last_end_is, lexemes_split, heading}
use Rattle.channels.proofs.ObjectTokens.{object_ends, text_spread}
use Rattle.channels.proofs.Computed.{ReadsUnchanged}
use Rattle.channels.proofs.Exchange.{unchanged}

-- The tokens X of a text begin before they end, and they end inside it.
pub record Range (s : List ℕ) (X : List Token) : Type 0 where
  pub low : first_place X ≤ end_of_last X
  pub high : end_of_last X ≤ length s

pub object_range : (s : List ℕ) (A X B : List Token) → tokens s ≡ A ++ (X ++ B) → Ends X → Range s X
unfolding first_place
object_range s A X B e x =
    let j = lexemes_split s A (X ++ B) e in
    let k = split token_of j.back X B j.back_is in
    let g = leading s 0 j.front j.back j.whole in
    let f = heading k.front x.first (x.mid ++ (x.final ∷ [])) (k.front_is ∙ x.leaves) in
    let h = first s g.end f.head (f.rest ++ k.back) (g.rest ∙ k.whole ∙ ap (◌++ k.back) f.whole) in
    let o = found_fits s g.end f.head h.next h.step in
    let n = o.next in
    let i = o.inside in
    let l : tokens_of (lex_from s f.head.at) ≡ k.front ++ k.back =
    ap tokens_of (lex_again s g.end f.head h.next h.step) ∙ g.rest ∙ k.whole in
    let y = slice s f.head.at k.front k.back (omega arith) l in
    let p : first_place X ≡ f.head.at = ap first_place x.leaves ∙ sym f.place_is in
    let q : end_of_last X ≡ y.end =
    ap end_of_last x.leaves ∙ last_end_is (x.first ∷ x.mid) x.final ∙ sym (last_place k.front f.head.at (x.first ∷ x.mid) x.final (k.front_is ∙ x.leaves)) ∙ y.last in
    let u = y.low in
    let v = y.high in
    record { low = omega arith; high = omega arith }

-- A token begins behind those before it.
pub begins_behind : (s : List ℕ) (A : List Token) (c t : Token) (R : List Token) → tokens s ≡ (A ++ (c ∷ [])) ++ (t ∷ R) → c.place + c.length ≤ t.place
begins_behind s A c t R e =
    let j = lexemes_split s (A ++ (c ∷ [])) (t ∷ R) e in
    let g = leading s 0 j.front j.back j.whole in
    let f = heading j.back t R j.back_is in
    let h = first s g.end f.head f.rest (g.rest ∙ f.whole) in
    let o = found_fits s g.end f.head h.next h.step in
    let a = o.after in
    let p = f.place_is in
    let q : c.place + c.length ≡ g.end = sym (last_place j.front 0 A c j.front_is) ∙ run_last s g.end 0 j.front g.run in
    omega arith

-- The text by its parts.
five_parts : (s : List ℕ) (p q r e : ℕ) → p ≤ q → q ≤ r → r ≤ e → e ≤ length s
    → s ≡ take p s ++ (bytes_between s p q ++ (bytes_between s q r ++ (bytes_between s r e ++ drop e s)))
five_parts s p q r e a b c d =
    sym (take-append-drop p s)
    ∙ ap (take p s ++◌) (halves s p q a (omega arith) ∙ ap (bytes_between s p q ++◌) (halves s q r b (omega arith) ∙ ap (bytes_between s q r ++◌) (halves s r e c d)))

-- Any two neighbouring parts of different objects, by their places.
pub exchanged_unchanged : (s : List ℕ) (t : Tables) → reading s ≡ accepted t → (d : Derivation (tokens s)) (before after : List ObjectTree) (one other : ObjectTree)
    → object_trees d.tree ≡ before ++ (one ∷ other ∷ after) → (key_in s one ≡ key_in s other → ⊥) → ReadsUnchanged s (exchanged s one other)
unfolding exchanged first_place
exchanged_unchanged s t accepts d before after one other objects_are different =
    let T = d.tree in
    let A = front_leaves T ++ all_leaves before in
    let B = all_leaves after ++ back_leaves T in
    let X = Leaves-of one in
    let Y = Leaves-of other in
    let w = text_spread s d before after one other objects_are in
    let x = object_ends one in
    let y = object_ends other in
    let i = object_range s A X (Y ++ B) w x in
    let j = object_range s (A ++ X) Y B (w ∙ sym (append_assoc A X (Y ++ B))) y in
    let R = (y.mid ++ (y.final ∷ [])) ++ B in
    let k = begins_behind s (A ++ (x.first ∷ x.mid)) x.final y.first R
    (w ∙ ap₂ (λ u v. A ++ (u ++ (v ++ B))) x.leaves y.leaves ∙ sym (append_assoc A (x.first ∷ (x.mid ++ (x.final ∷ []))) (y.first ∷ R))
    ∙ ap (◌++ (y.first ∷ R)) (sym (append_assoc A (x.first ∷ x.mid) (x.final ∷ [])))) in
    let xe : end_of_last X ≡ x.final.place + x.final.length = ap end_of_last x.leaves ∙ last_end_is (x.first ∷ x.mid) x.final in
    let yb : first_place Y ≡ y.first.place = ap first_place y.leaves in
    let p = first_place X in
    let q = end_of_last X in
    let r = first_place Y in
    let e = end_of_last Y in
    let il = i.low in
    let ih = i.high in
    let jl = j.low in
    let jh = j.high in
    let qr : q ≤ r = omega arith in
    let split_text = five_parts s p q r e il qr jl jh in
    let la : length (take p s) ≡ p = length-take-le p s (omega arith) in
    let lx : length (bytes_between s p q) ≡ q - p = part_long s p q il ih in
    let lm : length (bytes_between s q r) ≡ r - q = part_long s q r qr (omega arith) in
    let ly : length (bytes_between s r e) ≡ e - r = part_long s r e jl jh in
    let begin-x : p ≡ length (take p s) = sym la in
    let end-x : q ≡ length (take p s) + length (bytes_between s p q) = omega arith in
    let begin-y : r ≡ length (take p s) + (length (bytes_between s p q) + length (bytes_between s q r)) = omega arith in
    let end-y : e ≡ length (take p s) + (length (bytes_between s p q) + (length (bytes_between s q r) + length (bytes_between s r e))) = omega arith in
    subst (λ z. reading z ≡ accepted t → (d : Derivation (tokens z)) → object_trees d.tree ≡ before ++ (one ∷ other ∷ after) → (key_in z one ≡ key_in z other → ⊥)
    → ReadsUnchanged z (take p s ++ (bytes_between s r e ++ (bytes_between s q r ++ (bytes_between s p q ++ drop e s))))) (sym split_text)
    (λ h f o k. unchanged (take p s) (bytes_between s p q) (bytes_between s q r) (bytes_between s r e) (drop e s) t h
    (record { derivation = f; before = before; one = one; other = other; after = after; objects_are = o; different = k; one_begins = begin-x; one_ends = end-x; other_begins = begin-y; other_ends = end-y }))
    accepts d objects_are different
