-- Q-12: the two statements, of texts and of the tables that are handed out. Assumes nothing.
use mathlib.Core.Path.{◌≡◌, sym, ◌∙◌, ap, subst}
use mathlib.Core.List.{List, ◌++◌}
use Prim.Native.Nat.{ℕ}
use Rattle.grammar.specs.Grammar.{Kind}
use Rattle.meaning.specs.Answers.{Tables, accepted}
use Rattle.meaning.specs.Reading.{Answers, reading}
use Rattle.meaning.specs.Rules.{TheAnswer}
use Rattle.meaning.proofs.Whole.{one_answer, the_answer}
use Rattle.channels.specs.Channels.{if_there}
use Rattle.channels.specs.Neighbours.{SameChannel, Unchanged, Exchange, ExchangeAll, ExchangeMany, Isolation}
use Rattle.channels.specs.Handed.{ExchangeTables, IsolationTables}
use Rattle.channels.proofs.Computed.{channel_of, ReadsUnchanged}
use Rattle.channels.proofs.ObjectTokens.{accepted_covered}
use Rattle.channels.proofs.Moved.{channel_derived}
use Rattle.channels.proofs.Exchange.{unchanged}
use Rattle.channels.proofs.Places.{exchanged_unchanged}
use Rattle.channels.proofs.Many.{many_unchanged}
use Rattle.channels.proofs.Paired.{pairs_isolated}
use Rattle.channels.proofs.Rows.{items, table_channels}

-- What the reading computes is the answer of the rules.
is_read : {s : List ℕ} {t : Tables} → Answers s (accepted t) → reading s ≡ accepted t
is_read h = one_answer h

the_one : (s : List ℕ) (t : Tables) → reading s ≡ accepted t → TheAnswer s (accepted t)
the_one s t e = subst (TheAnswer s) e (the_answer s)

-- Channels that are computed are those of any derivation.
by_any : (s u : List ℕ) (t v : Tables) (k : Kind) (n : List ℕ) → reading s ≡ accepted t → reading u ≡ accepted v → channel_of u k n ≡ channel_of s k n → SameChannel s u k n
by_any s u t v k n e f h d c = sym (channel_derived u (accepted_covered u v f) c k n) ∙ h ∙ channel_derived s (accepted_covered s t e) d k n

by_reading : (s u : List ℕ) (t : Tables) → reading s ≡ accepted t → ReadsUnchanged s u → Unchanged s u
by_reading s u t e r = record { tables = r.tables; accepts = the_one u r.tables r.accepts; same = λ k n. by_any s u t r.tables k n e r.accepts (r.same k n) }

-- The first statement,
pub exchange : Exchange
exchange a x m y b t h n = by_reading _ _ t (is_read h) (unchanged a x m y b t (is_read h) n)

-- for any two neighbouring parts of different objects,
pub exchange_all : ExchangeAll
exchange_all s t h d before after one other e z = by_reading _ _ t (is_read h) (exchanged_unchanged s t (is_read h) d before after one other e z)

-- and for any number of pairs at once;
pub exchange_many : ExchangeMany
exchange_many s t h d u e = by_reading _ _ t (is_read h) (many_unchanged s t (is_read h) d u e)

-- and the second.
pub isolation : Isolation
isolation a i j b t u g h x y k n z = by_any _ _ t u k n (is_read g) (is_read h) (pairs_isolated a i j b t u (is_read g) (is_read h) x y k n z)

-- Of the tables, the first statement
pub exchange_tables : ExchangeTables
exchange_tables a x m y b t h n =
    let e = is_read h in
    let r = unchanged a x m y b t e n in
    record {
      tables = r.tables;
      accepts = the_one _ r.tables r.accepts;
      same = λ k i.
          table_channels (a ++ (y ++ (m ++ (x ++ b)))) r.tables r.accepts k i ∙ ap (if_there items) (r.same k i)
          ∙ sym (table_channels (a ++ (x ++ (m ++ (y ++ b)))) t e k i);
    }

-- and the second.
pub isolation_tables : IsolationTables
isolation_tables a i j b t u g h x y k n z =
    table_channels (a ++ (j ++ b)) u (is_read h) k n ∙ ap (if_there items) (pairs_isolated a i j b t u (is_read g) (is_read h) x y k n z)
    ∙ sym (table_channels (a ++ (i ++ b)) t (is_read g) k n)
