use Rattle.placing.proofs.place_refused.Goals as goal

pub returns : goal.returns
returns c = c.place_numbered.ensures
