-- The table of names: what is found by it, and how it is made. Assumes nothing.
use Prim.Native.Nat.{ℕ, suc, ◌+◌, ◌-◌, ◌*◌, ◌≤◌}
use mathlib.Core.Path.{◌≡◌, refl, sym, ◌∙◌, ap, subst}
use mathlib.Core.Bool.{Bool}
use mathlib.Core.List.{List, [], ◌∷◌, ◌++◌, append_assoc}
use native.Mathlib.Omega.{arith}
use native.Mathlib.Nat.{add-sub_cancel_left}
use borrow.Rule.Slice.PartMut.{put_mid, Post-is, mid_len}
use lib.ListN.{length, get_or, set, take, drop, length-set, length-drop, drop_of_length-le}
use lib.Seq.{sets, sets-eq, length-sets, take_all, get_or-take, get_or-drop, get_or-set_same, get_or-set_other}
use Rattle.rows.specs.Table.{part}
use Rattle.rows.specs.Found.{Found}
use Rattle.rows.proofs.Stores.{part_sets_same, part_sets_before, part_sets_after}
use Rattle.indexes.specs.Indexing.{Indexed, Makes, name_rank}
use Rattle.lookups.specs.Answers.{DefinitionIndexed, ObjectIndexed, WordIndexed}
use Rattle.lookups.specs.Links.{Linked}
use Rattle.lookups.specs.Ranks.{Ranked, NotesRanks, Firsts, FirstsTo, RowStated, IsRowStated}
use Rattle.blocks.specs.Blocks.{FindsStated, IsStated}
use Rattle.scopes.specs.Promises.{FindsDefinition, FindsObject, FindsWord}
use Rattle.lookups.specs.Names.{IndexAt, Ranks, Named, Names, Rooms, Within, PutsIndex, PutsRanks, statement_ranks, definition_ranks, owner_words, next_rows, PutsLinks}
use Rattle.scopes.specs.declared.Sizes.{Sizes}

-- Parts ------------------------------------------------------------------------------------------------------------------------------------

module _ (t : List ℕ) (at n : ℕ) where
  pub part_past : length t ≤ at → [] ≡ part t at n
  part_past h = sym (ap (take n) (drop_of_length-le t h) ∙ take_all n [] (omega arith))

  pub part_rest : length t - at ≤ n → take (length t - at) (drop at t) ≡ part t at n
  part_rest h = let l = length-drop at t in take_all (length t - at) (drop at t) (omega arith) ∙ sym (take_all n (drop at t) (omega arith))

  pub part_within : take ((at + n) - at) (drop at t) ≡ part t at n
  part_within = ap (λ (k : ℕ). take k (drop at t)) (add-sub_cancel_left at n)

-- What is found ----------------------------------------------------------------------------------------------------------------------------

module _ (s t x y : List ℕ) (w m n at : ℕ) (i : IndexAt s t w m n at x) (e : y ≡ part x at n) where
  index_of : Indexed s t w n 0 m y
  index_of = subst (λ (l : List ℕ). Indexed s t w n 0 m l) (sym e) i.index

  few_of : n ≤ 65536
  few_of = let l = i.few in omega arith

pub definition_found : (s d x y : List ℕ) (n key at len : ℕ) (r : Found) → IndexAt s d 19 2 n 0 x → y ≡ part x 0 n → DefinitionIndexed s d y key at len r
    → FindsDefinition s d n key at len r
unfolding DefinitionIndexed
definition_found s d x y n key at len r i e g = g n (index_of s d x y 19 2 n 0 i e) (few_of s d x y 19 2 n 0 i e)

pub object_found : (s o x y : List ℕ) (n kind at len : ℕ) (r : Found) → IndexAt s o 10 3 n 1536 x → y ≡ part x 1536 n → ObjectIndexed s o y kind at len r
    → FindsObject s o n kind at len r
unfolding ObjectIndexed
object_found s o x y n kind at len r i e g = g n (index_of s o x y 10 3 n 1536 i e) (few_of s o x y 10 3 n 1536 i e)

pub word_found : (s d a x y : List ℕ) (n j at len r : ℕ) → IndexAt s a 3 1 n 512 x → y ≡ part x 512 n → WordIndexed s d a y j at len r
    → FindsWord s d a n j at len r
unfolding WordIndexed
word_found s d a x y n j at len r i e g = g n (index_of s a x y 3 1 n 512 i e) (few_of s a x y 3 1 n 512 i e)

-- A block that states the name of a row, whose rank is noted.
module _ (s d st x : List ℕ) (h : Ranks s d st x) (v F : List ℕ) (i a e : ℕ) (q : v ≡ statement_ranks x) where
  of_statements : Ranked h.rank s st 7 0 v
  of_statements = subst (λ (l : List ℕ). Ranked h.rank s st 7 0 l) (sym q) h.statements

  pub definition_stated : (y : List ℕ) (r : Bool) → y ≡ definition_ranks x → Firsts st (statement_ranks x) a e F → IsRowStated s d 19 2 y i st v F a e r
      → IsStated s st a e (get_or d (i * 19 + 2) 0) (get_or d (i * 19 + 3) 0) r
  unfolding IsRowStated
  definition_stated y r p o g =
      g h.rank (subst (λ (l : List ℕ). Ranked h.rank s d 19 2 l) (sym p) h.definitions) of_statements
      (subst (λ (l : List ℕ). Firsts st l a e F) (sym q) o)

  pub statement_stated : (r : Found) → Firsts st (statement_ranks x) a e F → RowStated s st 7 0 v i st v F a e r → FindsStated s st a e (get_or st (i * 7 + 0) 0) (get_or st (i * 7 + 1) 0) r
  unfolding RowStated
  statement_stated r o g = g h.rank of_statements of_statements (subst (λ (l : List ℕ). Firsts st l a e F) (sym q) o)

-- The first rows of the ranks, in the table.
pub firsts_to_in : (st x v F : List ℕ) (a e k : ℕ) → v ≡ statement_ranks x → FirstsTo st (statement_ranks x) a e k F → FirstsTo st v a e k F
firsts_to_in st x v F a e k q o = subst (λ (l : List ℕ). FirstsTo st l a e k F) (sym q) o

pub firsts_in : (st x v F : List ℕ) (a e : ℕ) → v ≡ statement_ranks x → Firsts st v a e F → Firsts st (statement_ranks x) a e F
firsts_in st x v F a e q o = subst (λ (l : List ℕ). Firsts st l a e F) q o

-- How it is made ---------------------------------------------------------------------------------------------------------------------------

module _ (x y : List ℕ) (at n : ℕ) (h : at + n ≤ length x) (l : length y ≡ n) where
  mid_sets : put_mid at ((at + n) - at) x y ≡ sets x at y
  mid_sets =
      let e : at + n ≡ at + length y = omega arith in
      ap (λ (q : List ℕ). take at x ++ (y ++ q)) (Post-is at (at + n) x (omega arith) ∙ ap (λ (k : ℕ). drop k x) e)
      ∙ sym (append_assoc (take at x) y (drop (at + length y) x))
      ∙ sym (sets-eq y x at (omega arith))

  sets_within : Within at n x (sets x at y)
  sets_within = record {
    size = length-sets x at y;
    before = λ a k g. part_sets_before x at y a k g;
    behind = λ a k g. part_sets_after x at y a k (omega (arith, l, g));
  }

  sets_part : part (sets x at y) at n ≡ y
  sets_part = ap (λ (k : ℕ). part (sets x at y) at k) (sym l) ∙ part_sets_same x at y (omega arith)

  pub puts_index : (s t : List ℕ) (w m room k : ℕ) → k ≡ n → Makes s t w k 0 m room y → PutsIndex s t w m n at room x (put_mid at ((at + n) - at) x y)
  unfolding Makes
  puts_index s t w m room k e g =
      subst (λ (v : List ℕ). PutsIndex s t w m n at room x v) (sym mid_sets)
      (record {
        within = sets_within;
        index = λ c. subst (λ (v : List ℕ). Indexed s t w n 0 m v) (sym sets_part) (subst (λ (a : ℕ). Indexed s t w a 0 m y) e (g (omega (arith, c, e))));
      })

  pub puts_ranks : (s d v t : List ℕ) (w m : ℕ) → NotesRanks s d v t w m y → PutsRanks s d v t w m n at x (put_mid at ((at + n) - at) x y)
  puts_ranks s d v t w m g =
      subst (λ (u : List ℕ). PutsRanks s d v t w m n at x u) (sym mid_sets)
      (record { within = sets_within; ranks = subst (λ (u : List ℕ). NotesRanks s d v t w m u) (sym sets_part) g })

-- as many cells as are lent
pub lent_count : (x : List ℕ) (at n : ℕ) → at + n ≤ length x → length (take ((at + n) - at) (drop at x)) ≡ n
lent_count x at n h = mid_len at (at + n) x h ∙ add-sub_cancel_left at n

-- A cell of a part.
same_cell : (x y : List ℕ) (k : ℕ) → part x k 1 ≡ part y k 1 → get_or x k 0 ≡ get_or y k 0
same_cell x y k q = part_cell x ∙ ap (λ (l : List ℕ). get_or l 0 0) q ∙ sym (part_cell y)
  where
    part_cell : (l : List ℕ) → get_or l k 0 ≡ get_or (part l k 1) 0 0
    part_cell l = let e : k + 0 ≡ k = omega arith in sym (get_or-take 1 (drop k l) 0 0 (omega arith) ∙ get_or-drop k l 0 0 ∙ ap (λ (i : ℕ). get_or l i 0) e)

-- The next rows are put behind all others.
pub puts_links : (st h x y : List ℕ) → 4867 + length h ≤ length x → length y ≡ length h → Linked st h y → PutsLinks st h x (put_mid 4867 ((4867 + length h) - 4867) x y)
puts_links st h x y a b g =
    subst (λ (v : List ℕ). PutsLinks st h x v) (sym (mid_sets x y 4867 (length h) a b))
    (record { within = sets_within x y 4867 (length h) a b; links = subst (λ (v : List ℕ). Linked st h v) (sym (sets_part x y 4867 (length h) a b)) g })

module _ (s d e o st : List ℕ) (z : Sizes) (v₀ h₀ spare x₀ v h x₁ x₂ x₃ x₄ x₅ x₆ x₇ : List ℕ) (n₁ r₁ r₂ r₃ : ℕ) (b : Rooms z v₀ h₀ spare x₀) where
  pub named_by : n₁ ≡ length v₀ → length v ≡ length v₀ → length h ≡ length h₀ → 512 ≤ r₁ → 512 ≤ r₂ → 512 ≤ r₃ → Makes s d 19 n₁ 0 2 r₁ v → x₁ ≡ sets x₀ 0 v
      → PutsIndex s e 3 1 z.enumerators 512 r₂ x₁ x₂ → PutsIndex s o 10 3 z.objects 1536 r₃ x₂ x₃ → NotesRanks s d v st 7 0 h → x₄ ≡ sets x₃ 1792 h
      → PutsRanks s d v d 19 2 z.definitions 3841 x₄ x₅ → x₆ ≡ sets x₅ 4865 (length h ∷ z.definitions ∷ []) → PutsLinks st h x₆ x₇ → Named s d e o st z x₇
  unfolding NotesRanks Makes
  named_by en ev eh g₁ g₂ g₃ p₁ q₁ p₂ p₃ p₄ q₄ p₅ q₆ p₇ =
      let n = z.definitions in
      let m = length h in
      let fd = b.few.definitions in
      let fe = b.few.enumerators in
      let fo = b.few.objects in
      let fs₀ = b.statements_fit in
      let fs : m ≤ 2049 = omega (arith, fs₀, eh) in
      let lv₀ = b.size in
      let lv : length v ≡ n = omega (arith, ev, lv₀) in
      let iv : Indexed s d 19 n 0 2 v = subst (λ (i : ℕ). Indexed s d 19 i 0 2 v) (en ∙ lv₀) (p₁ (omega (arith, en, lv₀, fd, g₁))) in
      let few : n ≤ 65536 = omega (arith, fd) in
      let l₀ = b.room in
      let l₁ : length x₁ ≡ length x₀ = ap length q₁ ∙ length-sets x₀ 0 v in
      let l₂ = p₂.within.size in
      let l₃ = p₃.within.size in
      let l₄ : length x₄ ≡ length x₃ = ap length q₄ ∙ length-sets x₃ 1792 h in
      let l₅ = p₅.within.size in
      let size₃ : length x₃ ≡ 6916 = omega (arith, l₀, l₁, l₂, l₃) in
      let size : length x₅ ≡ 6916 = omega (arith, size₃, l₄, l₅) in
      let first : part x₁ 0 n ≡ v = ap (λ (u : List ℕ). part u 0 n) q₁ ∙ ap (λ (k : ℕ). part (sets x₀ 0 v) 0 k) (sym lv) ∙ part_sets_same x₀ 0 v (omega (arith, lv, fd, l₀)) in
      let counts = m ∷ n ∷ [] in
      let end : (a k : ℕ) → a + k ≤ 4867 → part x₇ a k ≡ part x₆ a k = λ a k i. p₇.within.before a k i in
      let last : (a k : ℕ) → a + k ≤ 4865 → part x₇ a k ≡ part x₅ a k = λ a k i. end a k (omega (arith, i)) ∙ ap (λ (u : List ℕ). part u a k) q₆ ∙ part_sets_before x₅ 4865 counts a k i in
      let low : (a k : ℕ) → a + k ≤ 1792 → part x₇ a k ≡ part x₃ a k = λ a k i.
      last a k (omega (arith, i)) ∙ p₅.within.before a k (omega (arith, i)) ∙ ap (λ (u : List ℕ). part u a k) q₄ ∙ part_sets_before x₃ 1792 h a k i in
      let c₁ : get_or x₆ 4865 0 ≡ m = ap (λ (u : List ℕ). get_or u 4865 0) q₆ ∙ get_or-set_other (set x₅ 4865 m) 4866 4865 n 0 (λ q. omega (arith, q))
      ∙ get_or-set_same x₅ 4865 m 0 (omega (arith, size)) in
      let l₆ : length (set x₅ 4865 m) ≡ length x₅ = length-set x₅ 4865 m in
      let c₂ : get_or x₆ 4866 0 ≡ n = ap (λ (u : List ℕ). get_or u 4866 0) q₆ ∙ get_or-set_same (set x₅ 4865 m) 4866 n 0 (omega (arith, size, l₆)) in
      let d₁ : get_or x₇ 4865 0 ≡ m = same_cell x₇ x₆ 4865 (end 4865 1 (omega arith)) ∙ c₁ in
      let d₂ : get_or x₇ 4866 0 ≡ n = same_cell x₇ x₆ 4866 (end 4866 1 (omega arith)) ∙ c₂ in
      let rank = name_rank s d 19 0 2 v in
      let ranks : part x₇ 1792 m ≡ h = last 1792 m (omega (arith, fs)) ∙ p₅.within.before 1792 m (omega (arith, fs)) ∙ ap (λ (u : List ℕ). part u 1792 m) q₄
      ∙ part_sets_same x₃ 1792 h (omega (arith, fs, size₃)) in
      let ranks₁ : part x₇ 1792 (get_or x₇ 4865 0) ≡ h = ap (λ (k : ℕ). part x₇ 1792 k) d₁ ∙ ranks in
      record {
        definitions = record {
          few = omega (arith, fd);
          index = subst (λ (u : List ℕ). Indexed s d 19 n 0 2 u)
              (sym (low 0 n (omega (arith, fd)) ∙ p₃.within.before 0 n (omega (arith, fd)) ∙ p₂.within.before 0 n (omega (arith, fd)) ∙ first)) iv;
        };
        enumerators = record {
          few = fe;
          index = subst (λ (u : List ℕ). Indexed s e 3 z.enumerators 0 1 u)
              (sym (low 512 z.enumerators (omega (arith, fe)) ∙ p₃.within.before 512 z.enumerators (omega (arith, fe))))
              (p₂.index (omega (arith, fe, g₂)));
        };
        objects = record {
          few = omega (arith, fo);
          index = subst (λ (u : List ℕ). Indexed s o 10 z.objects 0 3 u) (sym (low 1536 z.objects (omega (arith, fo)))) (p₃.index (omega (arith, fo, g₃)));
        };
        ranks = record {
          rank = rank;
          few_definitions = omega (arith, d₂, fd);
          few_statements = omega (arith, d₁, fs);
          definitions = subst (λ (u : List ℕ). Ranked rank s d 19 2 u)
              (sym (ap (λ (k : ℕ). part x₇ 3841 k) d₂ ∙ last 3841 n (omega (arith, fd)))) (p₅.ranks n iv few);
          statements = subst (λ (u : List ℕ). Ranked rank s st 7 0 u) (sym ranks₁) (p₄ n iv few);
        };
        links = subst (λ (u : List ℕ). Linked st u (part x₇ 4867 (get_or x₇ 4865 0))) (sym ranks₁)
            (subst (λ (k : ℕ). Linked st h (part x₇ 4867 k)) (sym d₁) p₇.links);
      }

-- The words put behind the names ---------------------------------------------------------------------------------------------------------------

sets_after : (vs l : List ℕ) (i k : ℕ) → i + length vs ≤ k → get_or (sets l i vs) k 0 ≡ get_or l k 0
sets_after [] l i k h = refl
sets_after (v ∷ vs) l i k h = sets_after vs (set l i v) (suc i) k (omega arith) ∙ get_or-set_other l i k v 0 (λ e. omega (arith, e, h))

-- The table still has all names where words are put.
pub names_kept : (s d e o st : List ℕ) (z : Sizes) (x y u : List ℕ) → length u ≡ 512 → y ≡ sets x 4353 u → Names s d e o st z x → Names s d e o st z y
names_kept s d e o st z x y u l q g =
    let low : (a i : ℕ) → a + i ≤ 4353 → part y a i ≡ part x a i = λ a i h. ap (λ (v : List ℕ). part v a i) q ∙ part_sets_before x 4353 u a i h in
    let high : (a i : ℕ) → 4865 ≤ a → part y a i ≡ part x a i = λ a i h. ap (λ (v : List ℕ). part v a i) q ∙ part_sets_after x 4353 u a i (omega (arith, l, h)) in
    let cell : (k : ℕ) → 4865 ≤ k → get_or y k 0 ≡ get_or x k 0 = λ k h. ap (λ (v : List ℕ). get_or v k 0) q ∙ sets_after u x 4353 k (omega (arith, l, h)) in
    record {
      room = ap length q ∙ length-sets x 4353 u ∙ g.room;
      named = λ f.
          let n = g.named f in
          let fd = f.definitions in
          let fe = f.enumerators in
          let fo = f.objects in
          let r = n.ranks in
          let b₁ = r.few_statements in
          let b₂ = r.few_definitions in
          record {
            definitions = record { few = n.definitions.few; index = subst (λ (v : List ℕ). Indexed s d 19 z.definitions 0 2 v) (sym (low 0 z.definitions (omega (arith, fd)))) n.definitions.index };
            enumerators = record { few = fe; index = subst (λ (v : List ℕ). Indexed s e 3 z.enumerators 0 1 v) (sym (low 512 z.enumerators (omega (arith, fe)))) n.enumerators.index };
            objects = record { few = n.objects.few; index = subst (λ (v : List ℕ). Indexed s o 10 z.objects 0 3 v) (sym (low 1536 z.objects (omega (arith, fo)))) n.objects.index };
            ranks = record {
              rank = r.rank;
              few_definitions = let c = cell 4866 (omega arith) in omega (arith, c, b₂);
              few_statements = let c = cell 4865 (omega arith) in omega (arith, c, b₁);
              definitions = subst (λ (v : List ℕ). Ranked r.rank s d 19 2 v)
                  (sym (ap (λ (k : ℕ). part y 3841 k) (cell 4866 (omega arith)) ∙ low 3841 (get_or x 4866 0) (omega (arith, b₂)))) r.definitions;
              statements = subst (λ (v : List ℕ). Ranked r.rank s st 7 0 v)
                  (sym (ap (λ (k : ℕ). part y 1792 k) (cell 4865 (omega arith)) ∙ low 1792 (get_or x 4865 0) (omega (arith, b₁)))) r.statements;
            };
            links = subst (λ (v : List ℕ). Linked st v (next_rows y)) (sym (ap (λ (k : ℕ). part y 1792 k) (cell 4865 (omega arith)) ∙ low 1792 (get_or x 4865 0) (omega (arith, b₁))))
                (subst (λ (v : List ℕ). Linked st (statement_ranks x) v) (sym (ap (λ (k : ℕ). part y 4867 k) (cell 4865 (omega arith)) ∙ high 4867 (get_or x 4865 0) (omega arith))) n.links);
          };
    }

-- They stand there.
pub words_put : (x y u : List ℕ) → length u ≡ 512 → length x ≡ 6916 → y ≡ sets x 4353 u → owner_words y ≡ u
words_put x y u l h q = ap (λ (v : List ℕ). part v 4353 512) q ∙ ap (λ (i : ℕ). part (sets x 4353 u) 4353 i) (sym l) ∙ part_sets_same x 4353 u (omega (arith, l, h))
