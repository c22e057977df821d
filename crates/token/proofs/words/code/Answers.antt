-- `token::words::code` meets its contract: a word is its slot's candidate, or no known word.
-- Assumes nothing.
use native.Mathlib.Omega.{arith}
use mathlib.Core.Path.{◌∙◌, sym, ap}
use Rattle.token.specs.Slots.{slot_of, candidate_of}
use Rattle.token.proofs.Codes.{code_empty, code_long, code_no_candidate, code_other, code_is, candidate_below, slot_below}
use Rattle.token.proofs.words.code.Goals as goal

pub returns-then-n-eq0 : goal.returns-then-n-eq0
returns-then-n-eq0 c = sym (code_empty _ c.if-n-eq0.true)

pub returns-then-n-ge20 : goal.returns-then-n-ge20
returns-then-n-ge20 c = sym (code_long _ c.if-n-ge20.true)

pub candidate-k-requires : goal.candidate-k-requires
candidate-k-requires c = slot_below _ _ _ _ c.slot-at.ensures

pub returns-then-k-eq0 : goal.returns-then-k-eq0
unfolding slot_of
returns-then-k-eq0 c = sym (code_no_candidate _ _ (c.candidate-k.ensures ∙ ap candidate_of c.slot-at.ensures) c.if-k-eq0.true)

pub is_known-requires : goal.is_known-requires
is_known-requires c =
    let h = candidate_below _ _ c.candidate-k.ensures (slot_below _ _ _ _ c.slot-at.ensures) in
    omega arith

pub returns-then-is_known : goal.returns-then-is_known
returns-then-is_known c =
    let h = candidate_below _ _ c.candidate-k.ensures (slot_below _ _ _ _ c.slot-at.ensures) in
    sym (code_is _ _ (omega arith) (omega arith) (sym c.is_known.ensures ∙ c.if-is_known.true))

pub returns : goal.returns
unfolding slot_of
returns c = sym (code_other _ _ (c.candidate-k.ensures ∙ ap candidate_of c.slot-at.ensures) (sym c.is_known.ensures ∙ c.if-is_known.false))
