use Rattle.masks.proofs.Calls.{hands_out}
use Rattle.masks.proofs.turns.hand_out.Goals as goal

pub returns : goal.returns
returns c = hands_out _ _ _ _ _ _ _ _ _ c.start_masks.ensures c.take_turns-found.ensures c.deliver.ensures
