-- The whole normal text, from the tables of an accepted text. Assumes nothing.
use mathlib.Core.Path.{◌∙◌, ap₂}
use mathlib.Core.List.{List}
use Prim.Native.Nat.{ℕ, ◌*◌}
use Rattle.token.specs.Tokens.{part_of}
use Rattle.token.specs.Words.{bytes_of}
use Rattle.meaning.specs.Syntax.{File}
use Rattle.meaning.specs.Applying.{object_rows}
use Rattle.meaning.specs.Resolving.{all_values, all_value_rows}
use Rattle.meaning.specs.Cells.{object_cells, value_cells, object_room, value_room}
use Rattle.meaning.specs.Normal.{application_lines, normal}
use Rattle.writing.specs.Wrote.{Wrote}
use Rattle.writing.specs.Promises.{LaidAll, PutsObjects, Tables, PutsApplication, WritesNormal}
use Rattle.writing.proofs.Writes.{wrote_length, wrote_low, wrote_then, wrote_as}
use Rattle.writing.proofs.Froms.{from_room}
use Rattle.writing.proofs.Telling.{file_pairs}
use Rattle.writing.proofs.Spans.{implementation_part, cpu_part}

laid_all : {s d o v : List ℕ} {m n : ℕ} {f : File} → Tables s d o v m n f → LaidAll s d o v m n 0 0 f.objects (all_values f f.objects)
unfolding object_room value_room
laid_all {s} {d} {o} {v} {m} {n} {f} t =
    record {
      objects = from_room 8 object_cells (256 * 8) (object_rows f.objects) o m t.objects t.many_objects;
      values = from_room 9 value_cells (2048 * 9) (all_value_rows (all_values f f.objects) 0 0) v n t.values t.many_values;
      pairs = file_pairs t.situation t.definitions;
    }

pub puts_application : {s d o v : List ℕ} {m n cpu size : ℕ} {l l₁ l₂ l₃ l₄ l₅ : List ℕ} {at a b c e r : ℕ} → Wrote l at (bytes_of "CPU ") l₁ a → Wrote l₁ a (part_of s cpu size) l₂ b
    → Wrote l₂ b (bytes_of " {\n") l₃ c → PutsObjects s d o v m n l₃ c l₄ e → Wrote l₄ e (bytes_of "};\n") l₅ r → PutsApplication s d o v m n cpu size l at l₅ r
unfolding application_lines
puts_application {s} w x y p z =
    record {
      same = wrote_length z ∙ p.size ∙ wrote_length y ∙ wrote_length x ∙ wrote_length w;
      puts = λ f t i j.
          let q = p.puts (wrote_low y) f.objects (all_values f f.objects) (laid_all t) in
          let g = ap₂ (part_of s) i j ∙ cpu_part t.situation in
          wrote_then w (wrote_then (wrote_as g x) (wrote_then y (wrote_then q z)));
    }

pub writes_normal : {s d o v : List ℕ} {m n from long cpu size : ℕ} {l l₁ l₂ l₃ l₄ : List ℕ} {a b c r : ℕ} → Wrote l 0 (bytes_of "OIL_VERSION = \"2.5\";\n") l₁ a
    → Wrote l₁ a (part_of s from long) l₂ b → Wrote l₂ b (bytes_of "\n") l₃ c → PutsApplication s d o v m n cpu size l₃ c l₄ r
    → WritesNormal s d o v m n from long cpu size l l₄ r
unfolding normal
writes_normal {s} w x y p =
    record {
      same = p.same ∙ wrote_length y ∙ wrote_length x ∙ wrote_length w;
      puts = λ f t i.
          let g = ap₂ (part_of s) i.implementation_at i.implementation_long ∙ implementation_part t.situation in
          wrote_then w (wrote_then (wrote_as g x) (wrote_then y (p.puts f t i.cpu_at i.cpu_long)));
    }
