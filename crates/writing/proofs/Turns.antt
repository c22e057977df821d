-- The lines of resolved values, row by row: what is left to write decides the whole. Assumes nothing.
use mathlib.Core.Path.{◌≡◌, refl, sym, ◌∙◌, ap, ap₂}
use mathlib.Core.List.{List, [], ◌++◌, append_assoc, append-nil}
use mathlib.Core.Bool.{true, false, false≢true}
use Prim.Native.Nat.{ℕ, suc, ◌+◌, ◌≤◌}
use native.Mathlib.Omega.{arith}
use lib.ListN.{length}
use Rattle.token.specs.Words.{bytes_of}
use Rattle.meaning.specs.Resolving.{Taken, Resolved, end, resolved, Owner, of_value, ValueRow, value_row, value_rows, how_many_values}
use Rattle.meaning.specs.Normal.{written, closed, lines}
use Rattle.writing.specs.Wrote.{cap, Wrote}
use Rattle.writing.specs.Lines.{head_at, owned, line}
use Rattle.writing.specs.Promises.{Laid, Puts, PutsLine, PutsLines}
use Rattle.writing.specs.declared.Spot.{Spot}
use Rattle.writing.proofs.Writes.{wrote_length, wrote_low, wrote_then, wrote_as, wrote_none}
use Rattle.writing.proofs.Layings.{is_owned, none_owned, laid_line, laid_next, laid_under, head_is}

-- One value --------------------------------------------------------------------------------------------------------------------------------

line_is : (t : Taken) (us : Resolved) (h c : List ℕ) → h ≡ t.definition.name.bytes ++ (bytes_of " = " ++ written t.value t.word) → c ≡ closed us (lines us)
    → h ++ c ≡ line t us
unfolding line
line_is t us h c e q =
    ap₂ ◌++◌ e q
    ∙ append_assoc t.definition.name.bytes (bytes_of " = " ++ written t.value t.word) (closed us (lines us))
    ∙ ap (λ (l : List ℕ). t.definition.name.bytes ++ l) (append_assoc (bytes_of " = ") (written t.value t.word) (closed us (lines us)))

-- Values that no row is found for are none, and others are some.
none_under : {s d v : List ℕ} {n i sort row : ℕ} {o : Owner} (us : Resolved) {rest : List ValueRow} → Laid s d v n i sort row o us rest
    → owned v n i sort row ≡ false → us ≡ end
unfolding value_rows value_row
none_under end a e = refl
none_under {v = v} {n} {i} {sort} {row} {o} (resolved t us r) {rest} a e =
    absurd (false≢true (sym e ∙ is_owned v n i sort row o a.of_sort a.of_row (value_row t o) _ a.rows refl))

closed_some : {s d v : List ℕ} {n i sort row : ℕ} {o : Owner} (us : Resolved) {rest : List ValueRow} (ls : List ℕ) → Laid s d v n i sort row o us rest
    → owned v n i sort row ≡ true → bytes_of " {\n" ++ (ls ++ bytes_of "};\n") ≡ closed us ls
unfolding value_rows closed
closed_some {v = v} {n} {i} {sort} {row} {o} end {rest} ls a e = absurd (none_owned v n i sort row o a.of_sort a.of_row i rest a.rows a.ends e)
closed_some (resolved t us r) ls a e = refl

module _ {s d v : List ℕ} {n k : ℕ} {l : List ℕ} {at : ℕ} {l₁ : List ℕ} {a : ℕ} (h : Wrote l at (head_at s d v k) l₁ a) where
  -- Nothing is under the value,
  pub puts_plain : {l₂ : List ℕ} {b : ℕ} → owned v n (k + 1) 1 k ≡ false → Wrote l₁ a (bytes_of ";\n") l₂ b → PutsLine s d v n k l at l₂ (record { next = k + 1; place = b })
  unfolding closed how_many_values
  puts_plain e w =
      record {
        size = wrote_length w ∙ wrote_length h;
        onward = omega arith;
        puts = λ t o us rest x.
            let z = none_under us (laid_under x) e in
            record {
              wrote = wrote_as (line_is t us (head_at s d v k) (bytes_of ";\n") (head_is x) (ap (λ (r : Resolved). closed r (lines us)) (sym z))) (wrote_then h w);
              next = let q : how_many_values us ≡ 0 = ap how_many_values z in omega (arith, q);
            };
      }

  -- or something is.
  pub puts_block : {l₂ l₃ l₄ : List ℕ} {b c : ℕ} (q : Spot) → owned v n (k + 1) 1 k ≡ true → Wrote l₁ a (bytes_of " {\n") l₂ b → PutsLines s d v n (k + 1) 1 k l₂ b l₃ q
      → Wrote l₃ q.place (bytes_of "};\n") l₄ c → PutsLine s d v n k l at l₄ (record { next = q.next; place = c })
  puts_block q e w p z =
      let m = p.onward in
      record {
        size = wrote_length z ∙ p.size ∙ wrote_length w ∙ wrote_length h;
        onward = omega (arith, m);
        puts = λ t o us rest x.
            let y = laid_under x in
            let r = p.puts (wrote_low w) (of_value k) us rest y in
            let i = r.next in
            record {
              wrote = wrote_as (line_is t us (head_at s d v k) (bytes_of " {\n" ++ (lines us ++ bytes_of "};\n")) (head_is x) (closed_some us (lines us) y e))
                  (wrote_then h (wrote_then w (wrote_then r.wrote z)));
              next = omega (arith, i);
            };
      }

-- Values one behind the other --------------------------------------------------------------------------------------------------------------

-- At row k: the values `left` are still to be written.
pub record Left (s d v : List ℕ) (n i sort row : ℕ) (l : List ℕ) (at k : ℕ) (l₁ : List ℕ) (e : ℕ) (o : Owner) (x : Resolved) (rest : List ValueRow) : Type 0 where
  pub written_lines : List ℕ
  pub left : Resolved
  pub whole : written_lines ++ lines left ≡ lines x
  pub wrote : Wrote l at written_lines l₁ e
  pub count : k + how_many_values left ≡ i + how_many_values x
  pub laid : Laid s d v n k sort row o left rest

pub record Going (s d v : List ℕ) (n i sort row : ℕ) (l : List ℕ) (at k : ℕ) (l₁ : List ℕ) (e : ℕ) : Type 0 where
  pub size : length l₁ ≡ length l
  pub onward : i ≤ k
  pub left : at ≤ cap → (o : Owner) (x : Resolved) (rest : List ValueRow) → Laid s d v n i sort row o x rest → Left s d v n i sort row l at k l₁ e o x rest

pub going_start : (s d v : List ℕ) (n i sort row : ℕ) (l : List ℕ) (at : ℕ) → length l ≤ cap → Going s d v n i sort row l at i l at
going_start s d v n i sort row l at h =
    record {
      size = refl;
      onward = omega arith;
      left = λ b o x rest a. record { written_lines = []; left = x; whole = refl; wrote = wrote_none l at h b; count = refl; laid = a };
    }

module _ {s d v : List ℕ} {n i sort row : ℕ} {l : List ℕ} {at k : ℕ} {l₁ : List ℕ} {e : ℕ} (g : Going s d v n i sort row l at k l₁ e) where
  pub going_more : {l₂ : List ℕ} {q : Spot} → owned v n k sort row ≡ true → PutsLine s d v n k l₁ e l₂ q → Going s d v n i sort row l at q.next l₂ q.place
  unfolding lines line how_many_values value_rows
  going_more {l₂} {q} t p =
      let a = g.onward in
      let b = p.onward in
      record { size = p.size ∙ g.size; onward = omega (arith, a, b); left = λ c o x rest y. by o x rest (g.left c o x rest y) }
    where
      by_value : (o : Owner) (x : Resolved) (rest : List ValueRow) (bs : List ℕ) (r : Resolved) → bs ++ lines r ≡ lines x → Wrote l at bs l₁ e
          → k + how_many_values r ≡ i + how_many_values x → Laid s d v n k sort row o r rest → Left s d v n i sort row l at q.next l₂ q.place o x rest
      by_value o x rest bs end f w c y = absurd (none_owned v n k sort row o y.of_sort y.of_row k rest y.rows y.ends t)
      by_value o x rest bs (resolved u us r) f w c y =
          let z = p.puts u o us (value_rows r (suc k + how_many_values us) o ++ rest) (laid_line y) in
          let m = z.next in
          record {
            written_lines = bs ++ line u us;
            left = r;
            whole = simp append_assoc f;
            wrote = wrote_then w z.wrote;
            count = omega (arith, m, c);
            laid = laid_next y q.next m;
          }

      by : (o : Owner) (x : Resolved) (rest : List ValueRow) → Left s d v n i sort row l at k l₁ e o x rest → Left s d v n i sort row l at q.next l₂ q.place o x rest
      by o x rest y = by_value o x rest y.written_lines y.left y.whole y.wrote y.count y.laid

  pub going_done : owned v n k sort row ≡ false → PutsLines s d v n i sort row l at l₁ (record { next = k; place = e })
  unfolding lines how_many_values
  going_done t = record { size = g.size; onward = g.onward; puts = λ c o x rest y. by o x rest (g.left c o x rest y) }
    where
      by : (o : Owner) (x : Resolved) (rest : List ValueRow) → Left s d v n i sort row l at k l₁ e o x rest → Puts l at (lines x) (i + how_many_values x) l₁ (record { next = k; place = e })
      by o x rest y =
          let z = none_under y.left y.laid t in
          let c = y.count in
          let m : how_many_values y.left ≡ 0 = ap how_many_values z in
          record {
            wrote = wrote_as (sym (append-nil y.written_lines) ∙ ap (λ (r : Resolved). y.written_lines ++ lines r) (sym z) ∙ y.whole) y.wrote;
            next = omega (arith, c, m);
          }
