-- Where the implementation and the CPU's name stand in an accepted text. Assumes nothing.
use mathlib.Core.Path.{◌≡◌, refl, sym, ◌∙◌, ap}
use mathlib.Core.List.{List}
use mathlib.Core.Bool.{Bool, true, false, false≢true}
use Prim.Native.Nat.{ℕ, ◌≤◌}
use lib.ListN.{length, replicate}
use Rattle.meaning.specs.Answers.{Answer as Meant, accepted, refused}
use Rattle.meaning.specs.Reading.{reading}
use Rattle.std.specs.Prelude.{None}
use Rattle.reading.specs.Results.{reading_of, SpansOf, NoSpans}
use Rattle.reading.specs.Decisions.{Merged, Decides, Filled, Unspanned, FilledSpanned}
use Rattle.reading.specs.declared.Answer.{Answer}
use Rattle.reading.specs.declared.Answer.TheVariants.{Accepted, Refused}
use Rattle.reading.specs.declared.Decision.{Decision}
use Rattle.reading.specs.declared.Reading.{Reading}
use Rattle.reading.specs.declared.Spanned.{Spanned}
use Rattle.reading.proofs.Arriving.{reading_is}
use Rattle.reading.proofs.Settling.{places}

is_accepted : Answer → Bool
is_accepted Accepted = true
is_accepted (Refused n p) = false

-- A refusal is not accepted,
pub not_accepted : (s : List ℕ) (r : Spanned) (n p : ℕ) → Unspanned n p r → r.reading.answer ≡ Accepted → SpansOf s r
unfolding reading_of is_accepted
not_accepted s r n p e h =
    absurd (false≢true (sym (ap (λ (x : Reading). is_accepted x.answer) e.reading) ∙ ap is_accepted h))

-- and what is accepted is no refusal.
not_refused : (r : Spanned) (n p : ℕ) → r.reading.answer ≡ Accepted → r.reading.answer ≡ Refused n p → NoSpans r
unfolding is_accepted
not_refused r n p a b = absurd (false≢true (sym (ap is_accepted b) ∙ ap is_accepted a))

pub refused_spanned : (s d e o v : List ℕ) (r : Spanned) (n p : ℕ) → Unspanned n p r → Filled s d e o v r.reading → FilledSpanned s d e o v r
refused_spanned s d e o v r n p h f = record { filled = f; spans = not_accepted s r n p h; no_spans = λ _ _ _. h.none }

-- An answer that is a refusal is all of the answer.
same_refusal : (a : Meant) (n p : ℕ) → (reading_of a).answer ≡ Refused n p → reading_of a ≡ reading_of (refused n p)
unfolding reading_of is_accepted
same_refusal (accepted t) n p h = absurd (false≢true (sym (ap is_accepted h)))
same_refusal (refused m q) n p h = cc

-- Refusal 19 is given without spans.
pub settled_refused : (s d e o v : List ℕ) (x : Reading) (r : Spanned) (n p : ℕ) → Filled s d e o v x → x.answer ≡ Refused n p → Unspanned n p r → FilledSpanned s d e o v r
settled_refused s d e o v x r n p f h u =
    let q : reading_of (reading s) ≡ reading_of (refused n p) = same_refusal (reading s) n p (sym (ap (λ (y : Reading). y.answer) f.result) ∙ h) in
    refused_spanned s d e o v r n p u
    (record { result = u.reading ∙ sym q; definitions = f.definitions; enumerators = f.enumerators; objects = f.objects; values = f.values })

-- What passed has the spans that the walk found.
pub settled_spanned : (s : List ℕ) → length s ≤ 65535 → (y : Merged) (x : Decision) → Decides s (replicate 9747 0) (replicate 3075 0) (replicate 2570 0) (replicate 14343 0) y x → x.fault ≡ None
    → (d e o v : List ℕ) (r : Reading) → Filled s d e o v r → r.answer ≡ Accepted
    → FilledSpanned s d e o v (record { reading = r; implementation_at = x.walked.implementation_at; implementation_len = x.walked.implementation_len; cpu_at = x.walked.cpu_at; cpu_len = x.walked.cpu_len; places = x.walked.places })
settled_spanned s h y x t i d e o v r f a =
    let p = (t.decided h refl refl refl refl).passes i in
    let k = p.kept in
    record {
      filled = f;
      spans = λ _. record {
        file = p.file;
        situation = k.situation;
        covered = p.covered;
        answered = reading_is s p.file k.situation p.covered;
        implementation = k.implementation;
        cpu = k.cpu;
        places = places k;
      };
      no_spans = λ n q b. not_refused _ n q a b;
    }
