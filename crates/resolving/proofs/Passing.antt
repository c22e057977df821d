-- The rows that give no value are passed; what is noted of names is right. Assumes nothing.
use mathlib.Core.Path.{◌≡◌, refl, sym, ◌∙◌, ap, subst}
use mathlib.Core.List.{List}
use mathlib.Core.Bool.{Bool, true, false, false≢true}
use Prim.Native.Nat.{ℕ, zero, suc, ◌+◌, ◌-◌, ◌*◌, ◌≤◌, ◌<◌}
use native.Mathlib.Omega.{arith}
use native.Mathlib.Decide.{ℕ_discrete, dec_le}
use lib.ListN.{length, get_or, set, replicate, length-replicate}
use lib.Seq.{length-sets, get_or-set_same, get_or-set_other}
use Rattle.rows.specs.Search.{row_name}
use Rattle.rows.specs.Table.{part}
use Rattle.rows.proofs.Starts.{cell_past}
use Rattle.rows.specs.Found.{Found}
use Rattle.meaning.specs.Syntax.{done, state, statements_in}
use Rattle.meaning.specs.Words.{among}
use Rattle.meaning.specs.Scopes.{names}
use Rattle.meaning.specs.Resolving.{resolve}
use Rattle.sorting.specs.Sorted.{among_cells, Tells}
use Rattle.indexes.specs.Indexing.{Indexed}
use Rattle.lookups.specs.Names.{statement_ranks, definition_ranks, next_rows}
use Rattle.lookups.specs.Links.{Linked, Follows, StatedAfter}
use Rattle.lookups.specs.Ranks.{Ranked, Firsts, RowStated, MayState}
use Rattle.layout.specs.Kept.{spec_entries, definition_cells, map_cells, join, kept, kept_definitions}
use Rattle.blocks.specs.Blocks.{row_after, FindsStated, IsStated}
use Rattle.blocks.proofs.Ranges.{after_later, is_stated}
use Rattle.scopes.specs.declared.Sizes.{Sizes}
use Rattle.resolving.specs.declared.Owner.{Owner as OwnerOf}
use Rattle.resolving.specs.Noted.{NotesTo, NamesRanked, Lent, Taken, NotesTaken, DefaultOwners, IsQuiet, Noted, Bare, no_default, not_taken, Quiet, elsewhere, silent, Defaults, Stirs, NextUnder, Passes, NextRow}
use Rattle.resolving.specs.Promises.{ResolvesDefault, ResolvesRow, Resolves, ResolvesAll}
use Rattle.resolving.proofs.Turns.{row_other, row_default, Goes, goes_start, goes_more, goes_end}
use Rattle.resolving.proofs.Namings.{words_noted}
use Rattle.resolving.proofs.Entrances.{default_none, default_not}
use Rattle.resolving.proofs.Writes.{wrote_full}

-- Ranks ------------------------------------------------------------------------------------------------------------------------------------

module _ {s d st rs rd : List ℕ} (h : NamesRanked s d st rs rd) (j m e : ℕ) where
  pub finds_ranked : (F : List ℕ) (r : Found) → Firsts st rs m e F → RowStated s d 19 2 rd j st rs F m e r
      → FindsStated s st m e (get_or d (j * 19 + 2) 0) (get_or d (j * 19 + 3) 0) r
  unfolding RowStated
  finds_ranked F r o f = f h.rank h.definitions h.statements o

-- The next statement that has the name of row j, where row a is the one after that of row k.
module _ {s d st rs rd nx : List ℕ} (h : NamesRanked s d st rs rd) (l : Linked st rs nx) {j k a e : ℕ} where
  pub finds_after : {r : Found} → Follows st nx k a e → StatedAfter s d 19 2 rd j st rs nx k a e r → FindsStated s st a e (get_or d (j * 19 + 2) 0) (get_or d (j * 19 + 3) 0) r
  finds_after o f = f.finds h.rank h.definitions h.statements l o

-- Past the table nothing is noted.
pub follows_none : (st nx : List ℕ) (a e : ℕ) → Follows st nx (length nx) a e
follows_none st nx a e = let z = cell_past nx (length nx) (omega arith) in record { inside = λ q. absurd (q z); after = λ q. absurd (q z) }

-- The row after a statement comes later.
pub after_grows : (st : List ℕ) (i e next : ℕ) → next ≡ row_after st i e → i < e → i < next
after_grows st i e next p h = let k = after_later st i e h in omega arith

-- Rows that give no value ------------------------------------------------------------------------------------------------------------------

pub bare_none : {d : List ℕ} {p c : ℕ} {r : Bool} → c ≡ get_or d (p + 11) 0 → c ≡ 0 → Defaults d p r
bare_none {d} a b = record { bare = λ q j e. no_default (sym (ap (λ i. get_or d (i + 11) 0) e) ∙ sym a ∙ b) }

pub bare_not : {d : List ℕ} {p c : ℕ} {r : Bool} → c ≡ get_or d (p + 18) 0 → c ≡ 4 → Defaults d p r
bare_not {d} a b = record { bare = λ q j e. not_taken (sym (ap (λ i. get_or d (i + 18) 0) e) ∙ sym a ∙ b) }

pub not_bare : {d : List ℕ} {p : ℕ} → Defaults d p true
not_bare = record { bare = λ q j e. absurd (false≢true (sym q)) }

pub stirs_yes : {s d st : List ℕ} {key from till j p : ℕ} → Stirs s d st key from till j p true
stirs_yes = record { quiet = λ q e. absurd (false≢true (sym q)) }

none_stated : {s st : List ℕ} {from till : ℕ} (at len : ℕ) → till ≤ from → IsStated s st from till at len false
unfolding among names statements_in
none_stated at len h done t b e = refl
none_stated {from = from} {till = till} at len h (state y inside rest) t b e = absurd (let q = b.after in omega arith)

pub stirs_none : {s d st : List ℕ} {key from till j p : ℕ} {q : Bool} → Defaults d p q → q ≡ false → till ≤ from → Stirs s d st key from till j p false
stirs_none {j = j} k e h = record { quiet = λ _ p. silent (k.bare e j p) (none_stated _ _ h) }

pub stirs_stated : {s d st rs rd : List ℕ} {key from till j p g : ℕ} {q r : Bool} → NamesRanked s d st rs rd → Defaults d p q → q ≡ false → j < length rd → g ≡ get_or rd j 0
    → (F : List ℕ) → Firsts st rs from till F → MayState st rs F from till g r → Stirs s d st key from till j p r
unfolding row_name
stirs_stated {s} {d} {st} {rs} {rd} {key} {from} {till} {j} {p} {g} {q} {r} h k e l c F o i = record {
  quiet = λ no pe.
      silent (k.bare e j pe)
      (is_stated (get_or d (j * 19 + 2) 0) (get_or d (j * 19 + 3) 0)
      (i.none s (get_or d (j * 19 + 2) 0) (get_or d (j * 19 + 3) 0) h.rank o h.statements (c ∙ h.definitions.cell j l) no));
}

-- Passing them -----------------------------------------------------------------------------------------------------------------------------

pub passes_start : {s d st : List ℕ} {limit key from till j r : ℕ} → NextUnder d limit key j r → Passes s d st key from till j r
passes_start h = record { quiet = λ i a b. elsewhere (h.elsewhere.other i a b) }

pub passes_more : {s d st : List ℕ} {limit key from till j i p r : ℕ} {q : Bool} → Passes s d st key from till j i → Stirs s d st key from till i p q → q ≡ false → p ≡ i * 19
    → NextUnder d limit key (i + 1) r → Passes s d st key from till j r
passes_more {s} {d} {st} {limit} {key} {from} {till} {j} {i} {p} {r} g h q e n = record { quiet = λ k a b. by k a b (ℕ_discrete k i) (dec_le i k) }
  where
    by : (k : ℕ) → j ≤ k → k < r → Dec (k ≡ i) → Dec (i ≤ k) → Quiet s d st key from till k
    by k a b (yes m) _ = subst (Quiet s d st key from till) (sym m) (h.quiet q e)
    by k a b (no m) (yes l) = elsewhere (n.elsewhere.other k (omega arith) b)
    by k a b (no m) (no l) = g.quiet k a (omega arith)

pub row_here : {s d st : List ℕ} {limit key from till j i : ℕ} → j ≤ i → i ≤ limit → Passes s d st key from till j i → (i < limit → get_or d (i * 19 + 0) 0 ≡ key)
    → NextRow s d st limit key from till j i
row_here a b p h = record { low = a; high = b; passes = p; here = h }

pub row_none : {s d st : List ℕ} {limit key from till j i : ℕ} → j ≤ i → i ≤ limit → limit ≤ i → Passes s d st key from till j i → NextRow s d st limit key from till j limit
row_none {s} {d} {st} {limit} {key} {from} {till} {j} {i} a b c p =
    let e : i ≡ limit = omega arith in
    record { low = omega arith; high = omega arith; passes = subst (Passes s d st key from till j) e p; here = λ l. absurd (omega arith) }

module _ {s d e o st v : List ℕ} {z : Sizes} {j : ℕ} {w : OwnerOf} {n : ℕ} where
  bare_default : Bare d j → ResolvesDefault s d e o st v z j w n v n
  bare_default (no_default h) = default_none refl h
  bare_default (not_taken h) = default_not refl h

module _ {s d e o st v : List ℕ} {z : Sizes} {j key from till : ℕ} {w : OwnerOf} {n : ℕ} where
  quiet_row : Quiet s d st key from till j → ResolvesRow s d e o st v z j key from till w n v n
  quiet_row (elsewhere h) = row_other h
  quiet_row (silent b i) = by (ℕ_discrete (get_or d (j * 19 + 0) 0) key)
    where
      by : Dec (get_or d (j * 19 + 0) 0 ≡ key) → ResolvesRow s d e o st v z j key from till w n v n
      by (yes q) = (row_default refl refl i refl (bare_default b)).resolves q
      by (no q) = row_other q

module _ {s d e o st v : List ℕ} {z : Sizes} {limit key from till : ℕ} {w : OwnerOf} {n : ℕ} where
  passing : {v₁ : List ℕ} {m : ℕ} (c j r : ℕ) → r ≡ j + c → r ≤ limit → Passes s d st key from till j r → Goes s d e o st v z limit key from till w n v₁ m j
      → Goes s d e o st v z limit key from till w n v₁ m r
  passing {v₁} {m} zero j r q l p g = let h : j ≡ r = omega arith in subst (λ i. Goes s d e o st v z limit key from till w n v₁ m i) h g
  passing (suc c) j r q l p g =
      passing c (j + 1) r (omega arith) l (record { quiet = λ i a b. p.quiet i (omega arith) b }) (goes_more (omega arith) g (quiet_row (p.quiet j (omega arith) (omega arith))))

  pub goes_pass : {v₁ : List ℕ} {m j r : ℕ} → NextRow s d st limit key from till j r → Goes s d e o st v z limit key from till w n v₁ m j
      → Goes s d e o st v z limit key from till w n v₁ m r
  goes_pass {v₁} {m} {j} {r} x g = let l = x.low in passing (r - j) j r (omega arith) x.high x.passes g

  -- A block is empty, and nothing under the word at key has a default that is taken.
  pub resolves_quiet : {us : List ℕ} {r : Bool} → (key ≡ 0 → ⊥) → limit ≤ 512 → DefaultOwners d us → IsQuiet us key from till r → r ≡ true → Resolves s d e o st v z limit key from till w n v n
  unfolding Tells
  resolves_quiet {us} {r} nz l h q y = goes_end (omega arith) nz (goes_pass (record { low = omega arith; high = omega arith; passes = record { quiet = quiet }; here = λ c. absurd (omega arith) }) goes_start)
    where
      bare : (i : ℕ) → i < 512 → get_or d (i * 19 + 0) 0 ≡ key → Dec (get_or h.marks i 0 ≡ 0) → Bare d i
      bare i a c (yes g) = h.noted.cell i a g
      bare i a c (no g) = absurd (false≢true (q.unowned y h.owners.rising ∙ ap (λ k. among_cells k us) (sym c) ∙ h.owners.has i a g))

      quiet : (i : ℕ) → 0 ≤ i → i < limit → Quiet s d st key from till i
      quiet i a b = by (ℕ_discrete (get_or d (i * 19 + 0) 0) key)
        where
          by : Dec (get_or d (i * 19 + 0) 0 ≡ key) → Quiet s d st key from till i
          by (yes c) = silent (bare i (omega arith) c (ℕ_discrete (get_or h.marks i 0) 0)) (none_stated _ _ (q.empty y))
          by (no c) = elsewhere c

  pub resolves_past : 512 < limit → Resolves s d e o st v z limit key from till w n v n
  resolves_past h f ds ss ow g sc b lim bl own room = absurd (let k = g.tables.definitions_fit in omega arith)

  pub resolves_full : 2048 < n → Resolves s d e o st v z limit key from till w n v n
  resolves_full h f ds ss ow g sc b lim bl own room = wrote_full v n (resolve ds f.objects ss) ow room.room h room.low

-- What is noted ----------------------------------------------------------------------------------------------------------------------------

pub noted_all : {s d e o st : List ℕ} {z : Sizes} {x known words xe xo rs nx rd us : List ℕ} → Lent s d e o st z x known us → xe ≡ part x 512 z.enumerators
    → xo ≡ part x 1536 z.objects → rs ≡ statement_ranks x → nx ≡ next_rows x → rd ≡ definition_ranks x → NotesTo s d e xe (length words) words → Noted s d e o st z known words xe xo rs nx rd us
noted_all {s} {d} {e} {o} {st} {z} {x} {known} {words} {xe} {xo} {rs} {nx} {rd} {us} h a b p l q w =
    let n = h.named in
    let r = n.ranks in
    let fe = h.few.enumerators in
    let y : Indexed s e 3 z.enumerators 0 1 xe = subst (λ l. Indexed s e 3 z.enumerators 0 1 l) (sym a) n.enumerators.index in
    record {
      defaults = h.defaults;
      indexes = record {
        defaults = words_noted z.enumerators words y (omega arith) w;
        enumerators = y;
        objects = subst (λ l. Indexed s o 10 z.objects 0 3 l) (sym b) n.objects.index;
        enumerators_fit = fe;
        objects_fit = h.few.objects;
      };
      ranks = record {
        rank = r.rank;
        statements = subst (λ l. Ranked r.rank s st 7 0 l) (sym p) r.statements;
        definitions = subst (λ l. Ranked r.rank s d 19 2 l) (sym q) r.definitions;
        room = h.room;
      };
      links = subst (λ u. Linked st u nx) (sym p) (subst (λ u. Linked st (statement_ranks x) u) (sym l) n.links);
      owners = h.owners;
    }

kept_long : (n : ℕ) (rs : List (List ℕ)) → length (kept n rs) ≡ n
unfolding kept
kept_long n rs = length-sets {A = ℕ} (replicate n 0) 0 (join rs) ∙ length-replicate {A = ℕ} n 0

module _ {s d e o st v : List ℕ} {z : Sizes} {ps : List ℕ} where
  -- The tables of a text have their sizes.
  pub not_sized : (length d ≡ 9747 → z.definitions ≤ 512 → z.enumerators ≤ 1024 → z.objects ≤ 256 → ⊥) → ResolvesAll s d e o st v z ps v 0
  unfolding kept_definitions
  not_sized h f g p l =
      absurd (h (ap length g.tables.in_definitions ∙ kept_long (513 * 19) (map_cells definition_cells (spec_entries f.specs))) g.tables.definitions_fit g.tables.enumerators_fit g.tables.objects_fit)

-- The marks of the rows whose default is taken.
module _ (d : List ℕ) where
  pub taken_start : (ms : List ℕ) → NotesTaken d 0 ms
  taken_start ms = record { cell = λ i h g. absurd (omega arith) }

  pub taken_more : (ms : List ℕ) (i x : ℕ) → i < length ms → Taken d i x → NotesTaken d i ms → NotesTaken d (i + 1) (set ms i x)
  taken_more ms i x l e n = record { cell = λ j h. by j h (ℕ_discrete j i) }
    where
      by : (j : ℕ) → j < i + 1 → Dec (j ≡ i) → Taken d j (get_or (set ms i x) j 0)
      by j h (yes r) g = subst (Bare d) (sym r) (e (sym (get_or-set_same ms i x 0 l) ∙ ap (λ k. get_or (set ms i x) k 0) (sym r) ∙ g))
      by j h (no r) g = n.cell j (omega (arith, r, h)) (sym (get_or-set_other ms i j x 0 r) ∙ g)

  pub taken_past : (ms : List ℕ) (i n : ℕ) → n ≤ i → NotesTaken d i ms → NotesTaken d n ms
  taken_past ms i n h o = record { cell = λ j k. o.cell j (omega arith) }

  pub taken_none : {c : ℕ} (i : ℕ) → c ≡ get_or d (i * 19 + 11) 0 → c ≡ 0 → Taken d i 0
  taken_none i e z g = no_default (sym e ∙ z)

  pub taken_not : {c : ℕ} (i : ℕ) → c ≡ get_or d (i * 19 + 18) 0 → c ≡ 4 → Taken d i 0
  taken_not i e z g = not_taken (sym e ∙ z)
