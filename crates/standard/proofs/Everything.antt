-- For the examples: one name that unfolds all that a text is checked by. Assumes nothing.
use Rattle.meaning.proofs.Everything.{everything}
use Rattle.standard.specs.Asking.{asked_in, asked, find_spec, scope_or, scope_of, into_value, into_list, into, and_then, along, only_where, has_default, less_by_one, next, followed, spans, all_in, within, words_in, has_list, wider, same_truth, differs, finding_if, found, in_scope, finding, findings_of, findings, not_behind, earlier, foremost}
use Rattle.standard.specs.Section.{specs_of}
use Rattle.standard.specs.Checking.{told, checked_as, checked_by, checked_against}

unfoldable pub rules : Unit {0}
unfolding asked_in asked find_spec scope_or scope_of into_value into_list into and_then along only_where has_default less_by_one next followed spans all_in within words_in has_list wider same_truth differs finding_if found in_scope finding findings_of findings not_behind earlier foremost specs_of told checked_as checked_by checked_against everything
rules = tt
