use Rattle.resolving.proofs.Passing.{noted_all}
use Rattle.resolving.proofs.entering.resolve_noted.Goals as goal

pub resolve_objects-requires : goal.resolve_objects-requires
resolve_objects-requires c = noted_all c.requires c.enumerators-enumerator_index.ensures c.objects.ensures c.statement_ranks.ensures c.next_rows.ensures c.definition_ranks.ensures c.note_words.ensures

pub returns : goal.returns
returns c = c.resolve_objects.ensures
