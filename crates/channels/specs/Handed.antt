-- Q-12's two statements of the tables that a reading fills. Assumes nothing.
use Rattle.std.specs.Prelude.{◌≡◌, List, ◌++◌, ℕ}
use Rattle.grammar.specs.Grammar.{Kind}
use Rattle.meaning.specs.Answers.{Tables, accepted}
use Rattle.meaning.specs.Reading.{Answers}
use Rattle.meaning.specs.Rules.{TheAnswer}
use Rattle.channels.specs.Neighbours.{key_in, Neighbours, Inside, Pairs}
use Rattle.channels.specs.Rows.{table_channel}

-- The rules accept the text u, and its tables show of each channel what the tables t of s show.
pub record SameTables (s u : List ℕ) (t : Tables) : Type 0 where
  pub tables : Tables
  pub accepts : TheAnswer u (accepted tables)
  pub same : (k : Kind) (n : List ℕ) → table_channel u tables k n ≡ table_channel s t k n

abbrev pub ExchangeTables : Type 0
ExchangeTables = (a x m y b : List ℕ) (t : Tables) → Answers (a ++ (x ++ (m ++ (y ++ b)))) (accepted t) → Neighbours a x m y b
    → SameTables (a ++ (x ++ (m ++ (y ++ b)))) (a ++ (y ++ (m ++ (x ++ b)))) t

abbrev pub IsolationTables : Type 0
IsolationTables = (a i j b : List ℕ) (t u : Tables) → Answers (a ++ (i ++ b)) (accepted t) → Answers (a ++ (j ++ b)) (accepted u)
    → (x : Inside a i b) → Pairs a j b → (k : Kind) (n : List ℕ) → (key_in (a ++ (i ++ b)) x.this ≡ record { kind = k; name = n } → ⊥)
    → table_channel (a ++ (j ++ b)) u k n ≡ table_channel (a ++ (i ++ b)) t k n
