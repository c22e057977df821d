use lib.ListN.{length-take}
use mathlib.Core.Path.{sym, ◌∙◌}
use native.Mathlib.Omega.{arith}
use Rattle.sources.proofs.Stops.{line_low, line_late, line_reached, line_named, line_unnamed, length_between}
use Rattle.sources.proofs.Namings.{byte_high, named_ok}
use Rattle.token.proofs.Bytes.{byte_low}
use Rattle.sources.proofs.lines.line_of.Goals as goal

pub returns-then-start-last : goal.returns-then-start-last
returns-then-start-last c = line_late _ _ _ _ c.line_start-start.ensures (omega arith)

pub slice_bounds-whole_to-end : goal.slice_bounds-whole_to-end
slice_bounds-whole_to-end c = omega (arith, length-take c.line_start-start.result c.args.text.now, line_low c.args.text.now c.args.hash)

pub slice_bounds-named-count : goal.slice_bounds-named-count
slice_bounds-named-count c = omega (arith, line_low c.args.text.now c.args.hash, byte_low c.args.text.now c.args.hash 10)

pub slice_bounds-named-start : goal.slice_bounds-named-start
slice_bounds-named-start c = omega (arith, line_low c.args.text.now c.args.hash, byte_low c.args.text.now c.args.hash 10)

pub slice_bounds-named-end : goal.slice_bounds-named-end
slice_bounds-named-end c = omega (arith, byte_high 10 c.args.text.now c.args.hash (omega arith))

pub overflow_sub-hash : goal.overflow_sub-hash
overflow_sub-hash c = omega (arith, line_low c.args.text.now c.args.hash)

pub named-requires : goal.named-requires
named-requires c = let h = byte_high 10 c.args.text.now c.args.hash (omega arith) in let k = byte_low c.args.text.now c.args.hash 10 in let n = length_between c.args.text.now c.line_start-start.result c.find_byte-end.result (omega arith) in omega arith

pub overflow_add-result : goal.overflow_add-result
overflow_add-result c = let h = byte_high 10 c.args.text.now c.args.hash (omega arith) in let k = byte_low c.args.text.now c.args.hash 10 in let n = length_between c.args.text.now c.line_start-start.result c.find_byte-end.result (omega arith) in let o = named_ok _ _ _ _ (sym c.named.ensures ∙ c.in-Some.is) in omega arith

pub overflow_add-result-in-Some : goal.overflow_add-result-in-Some
overflow_add-result-in-Some c = let h = byte_high 10 c.args.text.now c.args.hash (omega arith) in let k = byte_low c.args.text.now c.args.hash 10 in let n = length_between c.args.text.now c.line_start-start.result c.find_byte-end.result (omega arith) in let o = named_ok _ _ _ _ (sym c.named.ensures ∙ c.in-Some.is) in omega arith

pub returns-in-Some : goal.returns-in-Some
returns-in-Some c = line_named _ _ _ _ _ _ _ _ c.line_start-start.ensures (omega arith) (sym c.whole_to.ensures ∙ c.if-whole_to.true) c.find_byte-end.ensures (sym c.named.ensures ∙ c.in-Some.is) c.after_line-after.ensures

pub returns-in-None : goal.returns-in-None
returns-in-None c = line_unnamed _ _ _ _ _ c.line_start-start.ensures (omega arith) (sym c.whole_to.ensures ∙ c.if-whole_to.true) c.find_byte-end.ensures (sym c.named.ensures ∙ c.in-None.is)

pub returns-else-whole_to : goal.returns-else-whole_to
returns-else-whole_to c = line_reached _ _ _ _ c.line_start-start.ensures (sym c.whole_to.ensures ∙ c.if-whole_to.false)
