use mathlib.Core.Path.{◌≡◌, ap, ◌∙◌}
use lib.ListN.{length}
use lib.Seq.{length-take-le}
use Rattle.expecting.proofs.Laying.{lay_is, sample_at, sample_room, text_room, whole_stored}
use Rattle.expecting.proofs.samples.lay.Goals as goal

pub returns : goal.returns
returns c =
    let text = c.put_cells.ensures ∙ whole_stored _ _ (text_room c.args.place c.args.scratch.now c.args.text.now c.requires.0 c.requires.1) in
    let word = sample_at c.args.i _ c.requires.2 in
    let long : length c.put_cells.new.t ≡ c.args.place = ap length text ∙ length-take-le c.args.place c.args.text.now c.requires.0 in
    let sample = c.put_cells-2.ensures ∙ whole_stored _ _ (sample_room c.args.i c.args.place _ c.args.scratch.now _ long c.requires.1 word c.requires.2) ∙ word in
    lay_is _ _ _ _ _ c.args.i text sample c.requires.0 c.requires.1 c.requires.2
