-- What `compare` promises over lent texts, by the rules of the papers themselves (document 02, Q-8 and Q-10): each side by itself, and the
-- differences are those of the syntax by any derivation of the expanded tokens. Assumes nothing.
use Rattle.std.specs.Prelude.{◌≡◌, List, ℕ, min, take, eqb}
use Rattle.token.specs.Find.{pick}
use Rattle.grammar.specs.Grammar.{Derivation}
use Rattle.meaning.specs.Actions.{syntax}
use Rattle.meaning.specs.Answers.{Answer, Tables, accepted, refused}
use Rattle.meaning.specs.Rules.{TheAnswer as TheTextsAnswer}
use Rattle.reading.specs.Results.{reading_of}
use Rattle.reading.specs.declared.Answer.{Answer as Given}
use Rattle.comparing.specs.Lists.{overwrite}
use Rattle.comparing.specs.Differences.{differences}
use Rattle.comparing.specs.declared.Difference.{Difference}
use Rattle.comparing.specs.declared.Found.{Found}
use Rattle.comparing.specs.declared.Compared.{Compared as Result}
use Rattle.releases.specs.Promises.{Stopped}
use Rattle.releases.specs.Rules.{Tells, Refuses, ComparesByRules}
use Rattle.sources_reading.specs.Answering.{text, found}
use Rattle.lent_texts.specs.Answered.{TheAnswer}
use Rattle.lent_texts.specs.Expanded.{refusal_in, Rooms, Filled}
use Rattle.lent_texts.specs.declared.Expanded.{Expanded}
use Rattle.rows.specs.declared.Fault.{Fault}

-- A side, the texts of the buffer b with lengths l, where x and g are lent for the expanded text and its origins: its answer.
pub data SideAnswer (b l x g : List ℕ) : Answer → Type 0 where
  -- 1, "lent tables too short", at 0
  short_rooms : (Rooms x g → ⊥) → SideAnswer b l x g (refused 1 0)
  by_rules : {a : Answer} → Rooms x g → TheAnswer b l a → SideAnswer b l x g a

-- What they hold afterwards, x' and g'. "Refusal 1 changes nothing."
pub data SideMemory (b l x g x' g' : List ℕ) : Type 0 where
  untouched : (Rooms x g → ⊥) → x' ≡ x → g' ≡ g → SideMemory b l x g x' g'
  is_filled : Rooms x g → Filled b l x g x' g' → SideMemory b l x g x' g'

-- The sides b, l and c, m with the lent list ds, which is ds' afterwards; r is what is returned.
pub data SidesCompared (b l x g c m y h : List ℕ) (ds ds' : List Difference) (r : Result) : Type 0 where
  -- "if both are only the first's"
  first_refused : (n p : ℕ) → SideAnswer b l x g (refused n p) → Refuses 1 n p ds ds' r → SidesCompared b l x g c m y h ds ds' r
  second_refused : (t : Tables) → SideAnswer b l x g (accepted t) → (n p : ℕ) → SideAnswer c m y h (refused n p) → Refuses 2 n p ds ds' r
      → SidesCompared b l x g c m y h ds ds' r
  -- "Take two accepted texts"
  both_accepted : (t u : Tables) → SideAnswer b l x g (accepted t) → SideAnswer c m y h (accepted u) → Derivation (found b l) → Derivation (found c m)
      → ((d : Derivation (found b l)) (e : Derivation (found c m)) → Tells (differences (syntax (text b l) d.tree) (syntax (text c m) e.tree)) ds ds' r)
      → SidesCompared b l x g c m y h ds ds' r

-- What was found, put into a lent list (`comparing::put_all`).
abbrev pub put : Found → List Difference → List Difference
put q ds = overwrite (take (min q.total 64) q.records) ds

-- What is found is what was asked for, whichever list it is put into.
pub record ListsTexts (b l x g x' g' c m y h y' h' : List ℕ) (q : Found) : Type 0 where
  pub first : SideMemory b l x g x' g'
  pub second : SideMemory c m y h y' h'
  pub rules : (ds : List Difference) → SidesCompared b l x g c m y h ds (put q ds) q.compared

-- The lent list is ds, and ds' afterwards; r is what is returned.
pub record ComparesTexts (b l x g x' g' c m y h y' h' : List ℕ) (ds ds' : List Difference) (r : Result) : Type 0 where
  pub first : SideMemory b l x g x' g'
  pub second : SideMemory c m y h y' h'
  pub rules : SidesCompared b l x g c m y h ds ds' r

-- The inner functions --------------------------------------------------------------------------------------------------------------------------

-- The refusal q of an expanded text e with the origins g, as that of the lent texts.
unfoldable pub side_in : List ℕ → Expanded → Result → Result
side_in g e q = record {
  which = q.which;
  number = (refusal_in g e q.number q.place).number;
  place = (refusal_in g e q.number q.place).place;
  total = 0;
}

-- The answer q to two expanded texts e and f.
unfoldable pub told_in : List ℕ → Expanded → List ℕ → Expanded → Result → Result
told_in g e h f q = pick (eqb q.which 1) (side_in g e q) (pick (eqb q.which 2) (side_in h f q) q)

pub record ComparesExpanded (s g : List ℕ) (e : Expanded) (t h : List ℕ) (f : Expanded) (ds ds' : List Difference) (r : Result) : Type 0 where
  pub in_expanded : Result
  pub rules : ComparesByRules s t ds ds' in_expanded
  pub told : r ≡ told_in g e h f in_expanded

abbrev pub ListsExpanded : (s g : List ℕ) → Expanded → (t h : List ℕ) → Expanded → Found → Type 0
ListsExpanded s g e t h f q = (ds : List Difference) → ComparesExpanded s g e t h f ds (put q ds) q.compared

-- What was found, with the answer c.
pub record With (found : Found) (c : Result) (r : Found) : Type 0 where
  pub total : r.total ≡ found.total
  pub records : r.records ≡ found.records
  pub answer : r.compared ≡ c

-- A text's own answer.
pub record AnswersText (s : List ℕ) (r : Given) : Type 0 where
  pub answer : Answer
  pub rules : TheTextsAnswer s answer
  pub result : r ≡ (reading_of answer).answer

-- The first side's refusal, or n as the second's.
pub data FirstOr (s g : List ℕ) (e : Expanded) (n : Fault) (r : Found) : Type 0 where
  of_first : (k p : ℕ) → TheTextsAnswer s (refused k p) → Stopped 1 (refusal_in g e k p).number (refusal_in g e k p).place r → FirstOr s g e n r
  of_second : (t : Tables) → TheTextsAnswer s (accepted t) → Stopped 2 n.number n.place r → FirstOr s g e n r
