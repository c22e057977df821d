use Rattle.object_parts.proofs.Applied.{part_alone, part_with}
use Rattle.grammar.proofs.Terminals.{rbrace_is}
use Rattle.object_parts.proofs.part.Goals as goal

pub returns-then-c-ne-LBRACE : goal.returns-then-c-ne-LBRACE
returns-then-c-ne-LBRACE c = part_alone c.kind_number-kind.ensures c.expect_kind-b.ensures c.expect_name-c.ensures c.length-size.ensures c.length-len.ensures c.next-k.ensures c.if-c-ne-LBRACE.true c.put_row.ensures c.finish-d.ensures

pub returns : goal.returns
returns c = part_with c.kind_number-kind.ensures c.expect_kind-b.ensures c.expect_name-c.ensures c.length-size.ensures c.length-len.ensures c.next-k.ensures c.if-c-ne-LBRACE.false c.advance-d.ensures c.statements-e.ensures c.through-extent.ensures c.put_row-2.ensures (rbrace_is c.expect-f.ensures) c.finish-g.ensures
