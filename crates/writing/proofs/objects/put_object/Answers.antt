use Rattle.writing.proofs.Pairings.{puts_object}
use Rattle.writing.proofs.objects.put_object.Goals as goal

pub returns : goal.returns
returns c = puts_object _ c.put_opening-a.ensures c.put_lines-s.ensures c.put_bytes-b.ensures
