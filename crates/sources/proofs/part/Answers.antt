use Prim.Native.Nat.{ℕ, ◌+◌}
use mathlib.Core.Path.{◌∙◌, ap, ap₂}
use Rattle.token.specs.Tokens.{part_of, part_place}
use mathlib.Core.List.{List}
use Rattle.sources.proofs.part.Goals as goal

pub returns : goal.returns
returns c = record { bytes = c.part.ensures.bytes ∙ ap (λ (s : List ℕ). part_of s c.args.at c.args.len) c.text_of-text.ensures.bytes; block = c.part.ensures.block ∙ c.text_of-text.ensures.block; place = c.part.ensures.place ∙ ap₂ (λ (x : ℕ) (s : List ℕ). x + part_place s c.args.at c.args.len) c.text_of-text.ensures.place c.text_of-text.ensures.bytes }
