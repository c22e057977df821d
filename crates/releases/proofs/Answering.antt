-- From what was read and found to the answer. Assumes nothing.
use mathlib.Core.Path.{◌≡◌, refl, sym, ◌∙◌, ap, ap₂, subst}
use mathlib.Core.List.{List, [], ◌∷◌}
use mathlib.Core.Bool.{Bool, true, false}
use mathlib.Core.Option.{Option, none, some}
use Prim.Native.Nat.{ℕ, zero, suc, ◌*◌, ◌<◌, ◌≤◌, min}
use native.Mathlib.Omega.{arith}
use native.Mathlib.Nat.{suc-mul}
use lib.ListN.{length, get_or, take, length-append}
use Rattle.token.specs.Find.{is_there}
use Rattle.meaning.specs.Syntax.{File}
use Rattle.meaning.specs.Words.{choose}
use Rattle.meaning.specs.Defining.{all_definition_rows}
use Rattle.meaning.specs.Answers.{refused, tables}
use Rattle.meaning.specs.Reading.{Parsed, parsed, not_parsed, parse, answer_of_parsed, reading}
use Rattle.meaning.specs.Rules.{FullRoom}
use Rattle.meaning.proofs.Found.{parse_derived}
use Rattle.reading.specs.Decisions.{RoomSizes}
use Rattle.reading.specs.Results.{ReadsSpanned}
use Rattle.reading.specs.declared.Answer.TheVariants.{Accepted, Refused}
use Rattle.reading.specs.declared.Spanned.{Spanned}
use Rattle.writing.specs.Promises.{Tables}
use Rattle.writing.proofs.Calling.{given_whole, many_definitions, own_fits, reads_own, refused_reading}
use Rattle.comparing.specs.Lists.{the_first, each_of, overwrite}
use Rattle.comparing.specs.Contents.{Placed, same_value, Content, contents, same_object, same_path}
use Rattle.comparing.specs.Differences.{Compared, not_compared, Release, release, no_release, released, release_of, compare_releases, compare_texts, differences, told, record_of, records_of, met, of_first_value, of_second_value, of_pair, matched, of_first_object, of_second_object, of_contents, object_in_second, value_in_second, values_differ, Difference as Change}
use Rattle.comparing.specs.declared.Difference.{Difference}
use Rattle.comparing.specs.declared.Found.{Found}
use Rattle.comparing.proofs.Rooting.{placed_length}
use Rattle.comparing.proofs.Tellings.{told_list}
use Rattle.releases.specs.Settings.{Located, Scene}
use Rattle.releases.specs.Promises.{Counted, Stopped, Answered, all_told, refused_told, DifferencesTold, SecondRead, list_after, answer_for, Compares}
use Rattle.releases.proofs.Scenes.{scene}
use Rattle.releases.proofs.ByRules.{by_rules}
use Rattle.releases.proofs.Telling.{One, this_one, later_one, found_one, one_located}

-- Records ----------------------------------------------------------------------------------------------------------------------------------

pub records_length : (ds : List Change) → length (records_of ds) ≡ length ds
unfolding records_of
records_length [] = refl
records_length (d ∷ ds) = ap suc (records_length ds)

take_records : (n : ℕ) (ds : List Change) → take n (records_of ds) ≡ records_of (take n ds)
unfolding records_of
take_records zero ds = refl
take_records (suc n) [] = refl
take_records (suc n) (d ∷ ds) = ap (λ (l : List Difference). record_of d ∷ l) (take_records n ds)

so_list : (c : Compared) (f : Found) → Answered c f → (l : List Difference) → overwrite (take (min f.total 64) f.records) l ≡ list_after c l
unfolding list_after told overwrite
so_list c f (all_told {ds} t e) l = told_list (records_of ds) f l t ∙ ap (λ (m : List Difference). overwrite m l) (take_records 64 ds)
so_list c f (refused_told s) l =
    let e = s.total in
    let z : min f.total 64 ≡ 0 = omega (arith, e) in
    ap (λ (k : ℕ). overwrite (take k f.records) l) z

so_result : (c : Compared) (f : Found) → Answered c f → f.compared ≡ answer_for c
unfolding answer_for
so_result c f (all_told t e) = e
so_result c f (refused_told s) = s.answer

-- THE CONTRACT of `compare`, from what was found.
pub compares_so : (s t : List ℕ) (l : List Difference) (f : Found) → Answered (compare_texts s t) f
    → Compares s t l (overwrite (take (min f.total 64) f.records) l) f.compared
compares_so s t l f a =
    let i = so_list (compare_texts s t) f a l in
    let j = so_result (compare_texts s t) f a in
    record { list = i; result = j; rules = by_rules s t l (overwrite (take (min f.total 64) f.records) l) f.compared i j }

-- Refused texts ----------------------------------------------------------------------------------------------------------------------------

released_refused : (p : Parsed) (n q : ℕ) → answer_of_parsed p ≡ refused n q → release_of p ≡ no_release n q
unfolding answer_of_parsed release_of released
released_refused (parsed f) n q e = ap (released f) e
released_refused (not_parsed m r) n q e = let x : m ≡ n = cc in let y : r ≡ q = cc in ap₂ no_release x y

first_refused : (b : Release) (n p : ℕ) → compare_releases (no_release n p) b ≡ not_compared 1 n p
unfolding compare_releases
first_refused (release g) n p = refl
first_refused (no_release m q) n p = refl

full_room : {d e o v : List ℕ} → RoomSizes d e o v → FullRoom d e o v
full_room h =
    let a = h.definitions in
    let b = h.enumerators in
    let c = h.objects in
    let f = h.values in
    record { definitions = omega (arith, a); enumerators = omega (arith, b); objects = omega (arith, c); values = omega (arith, f) }

module _ {s d e o v d₁ e₁ o₁ v₁ : List ℕ} {w : Spanned} (h : ReadsSpanned s d e o v d₁ e₁ o₁ v₁ w) (k : RoomSizes d e o v) where
  refused_release : (n p : ℕ) → w.reading.answer ≡ Refused n p → release_of (parse s) ≡ no_release n p
  unfolding reading
  refused_release n p i = released_refused (parse s) n p (refused_reading h (full_room k) n p i)

  pub first_stopped : (t : List ℕ) (n p : ℕ) (q : Found) → w.reading.answer ≡ Refused n p → Stopped 1 n p q → Answered (compare_texts s t) q
  unfolding compare_texts
  first_stopped t n p q i z =
      subst (λ (c : Compared). Answered c q) (sym (ap (λ (a : Release). compare_releases a (release_of (parse t))) (refused_release n p i) ∙ first_refused (release_of (parse t)) n p)) (refused_told z)

  -- The second text is s, the first is r.
  pub second_stopped : (r d3 o3 v3 : List ℕ) (many m j : ℕ) (n p : ℕ) (q : Found) → w.reading.answer ≡ Refused n p → Stopped 2 n p q → SecondRead r d3 o3 v3 many m j s q
  unfolding compare_texts compare_releases
  second_stopped r d3 o3 v3 many m j n p q i z f e t a b c l =
      subst (λ (c : Compared). Answered c q) (sym (ap₂ compare_releases e (refused_release n p i))) (refused_told z)

  -- An accepted text -----------------------------------------------------------------------------------------------------------------------

  pub record IsRead (many m n : ℕ) : Type 0 where
    pub file : File
    pub is : release_of (parse s) ≡ release file
    pub tables : Tables s d₁ o₁ v₁ m n file
    pub many_is : many ≡ length (all_definition_rows file.specs)
    pub few_definitions : many ≤ 512
    pub few_objects : m ≤ 256
    pub few_values : n ≤ 2048

  pub is_read : w.reading.answer ≡ Accepted → IsRead w.reading.definitions w.reading.objects w.reading.values
  unfolding release_of released tables
  is_read i =
      let a = h.spans i in
      let f = a.file in
      let g = (given_whole h i k).tables in
      let fits = own_fits h i in
      let many = many_definitions h i in
      let few = fits.definitions in
      let mo = g.many_objects in
      let fo = fits.objects in
      let mv = g.many_values in
      let fv = fits.values in
      record {
        file = f;
        is = ap release_of (parse_derived s a.covered a.situation.derivation ∙ ap parsed (sym a.situation.syntax_of)) ∙ ap (released f) (sym a.answered ∙ reads_own h i);
        tables = g;
        many_is = many;
        few_definitions = omega (arith, many, few);
        few_objects = omega (arith, mo, fo);
        few_values = omega (arith, mv, fv);
      }

-- The total --------------------------------------------------------------------------------------------------------------------------------

each_one : {A : Type 0} (F : A → List Change) → ((a : A) → length (F a) ≤ 1) → (l : List A) → length (each_of F l) ≤ length l
unfolding each_of
each_one F h [] = omega arith
each_one F h (a ∷ l) =
    let p = h a in
    let q = each_one F h l in
    let e = length-append (F a) (each_of F l) in
    omega (arith, p, q, e)

each_most : (F : Content → List Change) (k c : ℕ) (xs : List Content) → ((x : Content) → One x xs → length (F x) ≤ k) → length xs ≤ c → length (each_of F xs) ≤ c * k
unfolding each_of
each_most F k c [] h g = omega arith
each_most F k zero (x ∷ xs) h g = absurd (omega (arith, g))
each_most F k (suc c) (x ∷ xs) h g =
    let p = h x this_one in
    let q = each_most F k c xs (λ y o. h y (later_one o)) (omega (arith, g)) in
    let e = length-append (F x) (each_of F xs) in
    let m = suc-mul c k in
    omega (arith, p, q, e, m)

chosen_few : (b : Bool) (d : Change) → length (choose b (λ _. []) (λ _. d ∷ [])) ≤ 1
unfolding choose
chosen_few true d = omega arith
chosen_few false d = omega arith

first_few : (x y : Content) (v : Placed) → length (of_first_value x y v) ≤ 1
unfolding of_first_value met
first_few x y v = by (the_first (λ w. same_path v.path w.path) y.values)
  where
    by : (o : Option Placed) → length (met x y v o) ≤ 1
    by none = omega arith
    by (some w) = chosen_few (same_value v.taken w.taken) (values_differ x.object y.object v w)

second_few : (x y : Content) (w : Placed) → length (of_second_value x y w) ≤ 1
unfolding of_second_value
second_few x y w = chosen_few (is_there (the_first (λ v. same_path v.path w.path) x.values)) (value_in_second x.object y.object w)

pair_few : (x y : Content) → length x.values ≤ 2048 → length y.values ≤ 2048 → length (of_pair x y) ≤ 4096
unfolding of_pair
pair_few x y h k =
    let a = each_one (of_first_value x y) (first_few x y) x.values in
    let b = each_one (of_second_value x y) (second_few x y) y.values in
    let e = length-append (each_of (of_first_value x y) x.values) (each_of (of_second_value x y) y.values) in
    omega (arith, a, b, e, h, k)

values_few : {s d o v : List ℕ} {n many : ℕ} {x : Content} → Located s d o v n many x → length x.values ≤ 2048
values_few l =
    let e = ap length l.values ∙ placed_length l.rows l.from [] in
    let f = l.few in
    omega (arith, e, f)

module _ {s d o v s2 d2 o2 v2 : List ℕ} {many m n many2 m2 n2 : ℕ} {f g : File} (S : Scene s d o v many m n f) (T : Scene s2 d2 o2 v2 many2 m2 n2 g) where
  object_few : (x : Content) → One x (contents f) → length (of_first_object (contents g) x) ≤ 4096
  unfolding of_first_object matched
  object_few x a = by (the_first (same_object x) (contents g)) refl
    where
      by : (c : Option Content) → the_first (same_object x) (contents g) ≡ c → length (matched x c) ≤ 4096
      by none e = omega arith
      by (some y) e = pair_few x y (values_few (one_located a S.located)) (values_few (one_located (found_one (same_object x) (contents g) y e) T.located))

  added_few : (y : Content) → length (of_second_object (contents f) y) ≤ 1
  unfolding of_second_object
  added_few y = chosen_few (is_there (the_first (λ x. same_object x y) (contents f))) (object_in_second y.object)

  pub total_few : length (differences f g) ≤ 1048832
  unfolding differences of_contents
  total_few =
      let c = S.count in
      let l = S.few in
      let c2 = T.count in
      let l2 = T.few in
      let a = each_most (of_first_object (contents g)) 4096 256 (contents f) object_few (omega (arith, c, l)) in
      let b = each_one (of_second_object (contents f)) added_few (contents g) in
      let e = length-append (each_of (of_first_object (contents g)) (contents f)) (each_of (of_second_object (contents f)) (contents g)) in
      omega (arith, a, b, e, c2, l2)

-- Both accepted: what was found is told with its total.
pub second_counted : (s d o v t d2 e2 o2 v2 d₂ e₂ o₂ v₂ : List ℕ) (w : Spanned) (many m n : ℕ) (found q : Found) → ((i : ℕ) → get_or s i 0 < 256) → length s ≤ 18446744073709551616 → ((i : ℕ) → get_or d i 0 < 18446744073709551616)
    → ((i : ℕ) → get_or t i 0 < 256) → length t ≤ 18446744073709551616 → ((i : ℕ) → get_or d₂ i 0 < 18446744073709551616) → (h : ReadsSpanned t d2 e2 o2 v2 d₂ e₂ o₂ v₂ w) (k : RoomSizes d2 e2 o2 v2) → w.reading.answer ≡ Accepted
    → DifferencesTold s d o v t d₂ o₂ v₂ many m n w.reading.definitions w.reading.objects w.reading.values found → Counted found q → SecondRead s d o v many m n t q
unfolding compare_texts compare_releases
second_counted s d o v t d2 e2 o2 v2 d₂ e₂ o₂ v₂ w many m n found q sb sl dc tb tl dc2 h k i told counted f is tables many_is few-d few-o few-v =
    let r = is_read h k i in
    let g = r.file in
    let S : Scene s d o v many m n f = subst (λ (z : ℕ). Scene s d o v z m n f) (sym many_is) (scene s d o v m n f tables few-o few-v sb sl dc (subst (λ (z : ℕ). z ≤ 512) many_is few-d)) in
    let T : Scene t d₂ o₂ v₂ w.reading.definitions w.reading.objects w.reading.values g =
    subst (λ (z : ℕ). Scene t d₂ o₂ v₂ z w.reading.objects w.reading.values g) (sym r.many_is)
    (scene t d₂ o₂ v₂ w.reading.objects w.reading.values g r.tables r.few_objects r.few_values tb tl dc2 (subst (λ (z : ℕ). z ≤ 512) r.many_is r.few_definitions)) in
    let u = told f g S T in
    let total = u.total in
    let long = records_length (differences f g) in
    let few = total_few S T in
    let e : found.total ≡ length (differences f g) = omega (arith, total, long, few) in
    subst (λ (c : Compared). Answered c q) (sym (ap₂ compare_releases is r.is))
    (all_told (record { total = counted.total ∙ u.total; records = ap (take (min 64 (length (records_of (differences f g))))) counted.records ∙ u.records })
    (counted.answer ∙ ap (λ (z : ℕ). record { which = 0; number = 0; place = 0; total = z }) e))

-- The first accepted.
pub first_accepted : (s d e o v d₁ e₁ o₁ v₁ t : List ℕ) (w : Spanned) (q : Found) (h : ReadsSpanned s d e o v d₁ e₁ o₁ v₁ w) (k : RoomSizes d e o v) → w.reading.answer ≡ Accepted
    → SecondRead s d₁ o₁ v₁ w.reading.definitions w.reading.objects w.reading.values t q → Answered (compare_texts s t) q
first_accepted s d e o v d₁ e₁ o₁ v₁ t w q h k i r =
    let a = is_read h k i in
    r a.file a.is a.tables a.many_is a.few_definitions a.few_objects a.few_values
