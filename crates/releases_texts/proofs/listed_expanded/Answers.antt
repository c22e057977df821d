use Rattle.releases_texts.proofs.Told.{first_lists, second_lists, neither_lists}
use Rattle.releases_texts.proofs.listed_expanded.Goals as goal

pub returns-then-told-eq1 : goal.returns-then-told-eq1
returns-then-told-eq1 c = first_lists c.listed_into-found.ensures c.if-told-eq1.true c.side.ensures c.with.ensures

pub returns-then-told-eq2 : goal.returns-then-told-eq2
returns-then-told-eq2 c = second_lists c.listed_into-found.ensures c.if-told-eq1.false c.if-told-eq2.true c.side-then-told-eq2.ensures c.with-then-told-eq2.ensures

pub returns : goal.returns
returns c = neither_lists c.listed_into-found.ensures c.if-told-eq1.false c.if-told-eq2.false
