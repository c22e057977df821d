use native.Mathlib.Omega.{arith}
use Rattle.sources.proofs.Notings.{span_length, all_next, all_absent}
use Rattle.sources.proofs.Numberings.{span_ok}
use Rattle.sources.proofs.Tellings.{told}
use mathlib.Core.Path.{sym, ◌∙◌}
use Rattle.sources.proofs.noting.note_number.Goals as goal

pub span_of-requires : goal.span_of-requires
span_of-requires c = (told _ _ c.requires.0).fit

pub slice_bounds-note_text-count : goal.slice_bounds-note_text-count
slice_bounds-note_text-count c = (span_ok _ _ _ _ _ _ c.requires.0 (sym c.span_of.ensures ∙ c.in-Some.is)).0

pub slice_bounds-note_text-start : goal.slice_bounds-note_text-start
slice_bounds-note_text-start c = let o = span_ok _ _ _ _ _ _ c.requires.0 (sym c.span_of.ensures ∙ c.in-Some.is) in omega arith

pub slice_bounds-note_text-end : goal.slice_bounds-note_text-end
slice_bounds-note_text-end c = let o = span_ok _ _ _ _ _ _ c.requires.0 (sym c.span_of.ensures ∙ c.in-Some.is) in omega arith

pub note_text-requires : goal.note_text-requires
note_text-requires c = record { told = c.requires.0; short = span_length _ _ _ _ _ _ c.requires.0 (sym c.span_of.ensures ∙ c.in-Some.is); number = c.requires.1.0; room = c.requires.1.1 }

pub returns-in-Some : goal.returns-in-Some
returns-in-Some c = λ a. all_next _ _ _ _ c.requires.0 a _ _ _ _ (sym c.span_of.ensures ∙ c.in-Some.is) c.note_text.ensures

pub returns-in-None : goal.returns-in-None
returns-in-None c = λ a. all_absent _ _ _ _ c.requires.0 a (sym c.span_of.ensures ∙ c.in-None.is)
