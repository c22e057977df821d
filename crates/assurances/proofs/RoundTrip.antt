-- Demand 2, second half, of the calls themselves. Assumes nothing.
use mathlib.Core.Path.{◌≡◌, refl, sym, ◌∙◌, ap, ap₂, subst}
use mathlib.Core.List.{List}
use mathlib.Core.Bool.{Bool, true, false, false≢true}
use Prim.Native.Nat.{ℕ, ◌≤◌}
use lib.ListN.{length, take, drop}
use lib.Seq.{take_at}
use Rattle.meaning.specs.Answers.{Tables, accepted}
use Rattle.meaning.specs.Reading.{reading, normal_text}
use Rattle.meaning.specs.Cells.{rooms_after}
use Rattle.meaning.specs.Rules.{TheAnswer, FullRoom, InRooms}
use Rattle.meaning.proofs.Whole.{answers, one_answer, the_normal_text}
use Rattle.reading.specs.Results.{reading_of}
use Rattle.reading.specs.Rules.{ReadsByRules, short_tables, by_rules}
use Rattle.reading.specs.declared.Answer.TheVariants.{Accepted, Refused}
use Rattle.reading.specs.declared.Reading.{Reading}
use Rattle.writing.specs.Rules.{WritesByRules, refuses, longer, writes, short_tables as no_room}
use Rattle.writing.specs.declared.Written.{Written}
use Rattle.reads_back.specs.ReadsBack.{ReadsBack}
use Rattle.reads_back.proofs.ReadsBack.{reads_back}
use Rattle.assurances.specs.RoundTrip.{written, ReadsBackCalled}

not_refused : {n p k : ℕ} {r : Written} → r ≡ record { answer = Refused n p; length = k } → r.answer ≡ Accepted → ⊥
not_refused q e = let z : ◌≡◌ {A = Bool} false true = cc in false≢true z

-- What `write` left, where it accepts.
record Left (s d e o v d' e' o' v' n : List ℕ) (k : ℕ) : Type 0 where
  rows : Tables
  answer : reading s ≡ accepted rows
  rooms : InRooms (rooms_after (accepted rows)) d e o v d' e' o' v'
  text : n ≡ normal_text s
  long : length (normal_text s) ≡ k

left : {s d e o v l d' e' o' v' l' : List ℕ} {r : Written} → WritesByRules s d e o v l d' e' o' v' l' r → r.answer ≡ Accepted
    → Left s d e o v d' e' o' v' (take r.length l') r.length
left (no_room f q u x) e = absurd (not_refused q e)
left (refuses f n p a q u x) e = absurd (not_refused q e)
left (longer f t a w k h q u x) e = absurd (not_refused q e)
left {s} {l} {l'} {r} (writes f t a w k h q u x) e =
    let i = one_answer a.given in
    let m : r.length ≡ length w = ap (λ (y : Written). y.length) q in
    let y = the_normal_text t (answers s) i in
    let z : w ≡ normal_text s = k.written k.derivation ∙ sym (y.written k.derivation) in
    record {
      rows = t;
      answer = i;
      rooms = u;
      text = ap₂ (λ (j : ℕ) (z : List ℕ). take j z) m x ∙ take_at w (drop (length w) l) (length w) refl ∙ z;
      long = ap length (sym z) ∙ sym m;
    }

-- What `read` left, where the rules accept.
record Read (b : Tables) (d e o v d' e' o' v' : List ℕ) (r : Reading) : Type 0 where
  rooms : InRooms (rooms_after (accepted b)) d e o v d' e' o' v'
  result : r ≡ reading_of (accepted b)

read_back : {n d e o v d' e' o' v' : List ℕ} {r : Reading} (b : Tables) → TheAnswer n (accepted b) → FullRoom d e o v → ReadsByRules n d e o v d' e' o' v' r
    → Read b d e o v d' e' o' v' r
read_back b a f (short_tables g q u) = absurd (g f)
read_back {d} {e} {o} {v} {d'} {e'} {o'} {v'} b a f (by_rules g x y q u) =
    let i : x ≡ accepted b = a.no_other x y.given in
    record { rooms = subst (λ z. InRooms (rooms_after z) d e o v d' e' o' v') i u; result = q ∙ ap reading_of i }

pub reads_back_called : ReadsBackCalled
reads_back_called c e h b f =
    let k = left c.contract e in
    let m : length (normal_text c.text) ≤ 65535 = subst (λ (j : ℕ). j ≤ 65535) (sym k.long) h in
    let g = subst (λ n. ReadsBack c.text k.rows n) (sym k.text) (reads_back c.text k.rows k.answer m) in
    let j = read_back g.back g.accepts f b.contract in
    record {
      rows = k.rows;
      left_by_write = k.rooms;
      back = g.back;
      left_by_read = j.rooms;
      accepts = j.result;
      stated = g.stated;
      same = g.same;
      one_part = g.one_part;
      words = g.words;
      ranges = g.ranges;
    }
