-- For the examples: one name that unfolds all that a text is answered by. Assumes nothing.
use mathlib.Core.List.{List}
use Prim.Native.Nat.{ℕ}
pub use Rattle.meaning.specs.Edges.{sp, df, ob, va}
use Rattle.grammar.specs.Grammar.{Kind, code, given_code}
use Rattle.meaning.specs.Syntax.{Span, absent, span_of, span_or, through, definitions_in, definitions_under, is_enum, enumerators_in, enumerators_under, statements_in}
use Rattle.meaning.specs.Defining.{EnumeratorRow, definition_row, definition_rows, definition_rows_under, enumerator_row, enumerator_rows, enumerator_rows_of, all_definition_rows, all_enumerator_rows, outside, bound_faults, low_faults, range_faults, default_wrong, default_number, default_faults, defined_in, differs, name_faults, word_faults, scope_faults, value_faults, specified, spec_faults, definition_faults}
use Rattle.meaning.specs.Applying.{ObjectRow, object_rows, how_many, counts_of, counts, too_few, full, statement_faults, each_object, each_part, elsewhere, each_name, object_faults}
use Rattle.meaning.specs.Merging.{then, same_object, used, further, continued, merged, merge_from, merge}
use Rattle.meaning.specs.Resolving.{is_true, number_or, row_or, named, valued, take_value, entries, default_entry, resolve, resolve_under, object_values, all_values, value_row, how_many_values, value_rows, all_value_rows, how_many_in_all, too_many}
use Rattle.meaning.specs.Answers.{Answer, tables, unless, answer}
use Rattle.token.specs.Find.{find, first_of, bit, is_there}
use Rattle.token.specs.Bytes.{class_of, is_word_byte, word_end, find_byte, pair_at, find_close, is_dotted, find_mark, is_signed}
use Rattle.token.specs.Gaps.{comment_at, gap_of, gap_at, skip_n, skip}
use Rattle.token.specs.Numbers.{digit_of, value_after, at_most, digits_after, numeral as numeral-of}
use Rattle.token.specs.Tokens.{found, word_at, limit_of, is_negative, whole_at, float_by, float_at, number_by, number_at, step_at, string_at, dots_at, token_of, token_at}
use Rattle.token.specs.Floats.{some_digits, digits_behind, mantissa_of, power_of, power_at, scale_of}
use Rattle.token.specs.Words.{same, code_in, code_of}
use Rattle.token.specs.Lexing.{lex_n, lex_from}
use Rattle.grammar.specs.Terminals.{sign_of, class_of as class_of_lem, token_of as token_of_word, tokens_in}
use Rattle.grammar.specs.Machine.{run, move, test, nullable_form, after}
use Rattle.grammar.specs.Readers.{stream_of}
use Rattle.grammar.specs.Building.{back, empty, from, lifted}
use Rattle.meaning.specs.Actions.{zero_num, num_of_sort, num_of_step, float_of_sort, float_of_step, word_of, kind_of, integer_of, first_value, truths, defined, defining, specifying, stating, means, meaning, syntax}
use Rattle.meaning.specs.Words.{choose, alike, among, num_at_most, equal, least_of, greatest_of, signed, width, in_type, among_numbers, in_bounds, in_float_bounds}
use Rattle.meaning.specs.Kinds.{kind_number, same_kind, fewest, most}
use Rattle.meaning.specs.Faults.{faults_if, ahead, sooner, first}
use Rattle.meaning.specs.Scopes.{of_kind, find_value, definitions_or, under, find_definition, heads, names, find_object, sort_of_word, sort_of, is_string, is_boolean, fits_number, fits_float, fits_as, fits}
use Rattle.meaning.specs.Judging.{is_no_default, taken_by, taken, lacking, lacks, lacks_under, reference_faults, brace_faults, faults_as, own_faults, and_inside, judged, judge, judge_object, judge_objects, statement_stage}
use Rattle.meaning.specs.Normal.{digits_in, minus, decimal, written, closed, lines, object_lines, application_lines, part, normal}
use Rattle.meaning.specs.Tree.{empty_trees, trees_from, trees_of, tree}
use Rattle.meaning.specs.Reading.{by_tree, after_grammar, parse, answer_of_parsed, reading, normal_of, normal_text}
use Rattle.meaning.specs.Calls.{enough, too_short, output_asked, call, line, program}
use Rattle.meaning.specs.Cells.{integer_code, type_code, definition_cells, enumerator_cells, object_cells, owner_sort, owner_row, value_sort, value_negative, value_amount, value_cells, cells, zeros, room_cells, definition_room, enumerator_room, object_room, value_room, rooms_after}

-- Short names of rows, beside those of specs/Edges: an enumerator's, and that of an object of so many parts.
abbrev pub en : ℕ → Span → EnumeratorRow
en a n = record { attribute = a; name = n }

abbrev pub obs : Kind → Span → Span → Span → ℕ → ObjectRow
obs k w n b m = record { kind = k; word = w; name = n; block = b; parts = m }

-- Both answers to a text: its tables or refusal, and its normal text.
unfoldable pub whole : List ℕ → Answer × List ℕ
whole s = let p = parse s in (answer_of_parsed p, normal_of s p)

unfoldable pub everything : Unit {0}
unfolding whole find first_of class_of is_word_byte word_end find_byte pair_at find_close comment_at gap_of gap_at skip_n skip digit_of value_after at_most digits_after numeral-of found word_at limit_of is_negative whole_at is_dotted find_mark is_signed some_digits digits_behind mantissa_of power_of power_at scale_of float_by float_at number_by number_at step_at string_at dots_at token_of token_at same code_in code_of lex_n lex_from code given_code sign_of class_of_lem token_of_word tokens_in run move test nullable_form after stream_of back empty from lifted absent span_of span_or through definitions_in definitions_under is_enum bit enumerators_in enumerators_under statements_in zero_num num_of_sort num_of_step float_of_sort float_of_step word_of kind_of integer_of first_value truths defined defining specifying stating means meaning syntax choose alike among num_at_most equal least_of greatest_of signed width in_type among_numbers in_bounds in_float_bounds kind_number same_kind fewest most faults_if ahead sooner first of_kind find_value definitions_or under find_definition heads names find_object is_there sort_of_word sort_of is_string is_boolean fits_number fits_float fits_as fits definition_row definition_rows definition_rows_under enumerator_row enumerator_rows enumerator_rows_of all_definition_rows all_enumerator_rows outside bound_faults low_faults range_faults default_wrong default_number default_faults defined_in differs name_faults word_faults scope_faults value_faults specified spec_faults definition_faults object_rows how_many counts_of counts too_few full statement_faults each_object each_part elsewhere each_name object_faults then same_object used further continued merged merge_from merge is_no_default taken_by taken lacking lacks lacks_under reference_faults brace_faults faults_as own_faults and_inside judged judge judge_object judge_objects statement_stage is_true number_or row_or named valued take_value entries default_entry resolve resolve_under object_values all_values value_row how_many_values value_rows all_value_rows how_many_in_all too_many digits_in minus decimal written closed lines object_lines application_lines part normal tables unless answer empty_trees trees_from trees_of tree by_tree after_grammar parse answer_of_parsed reading normal_of normal_text enough too_short output_asked call line program integer_code type_code definition_cells enumerator_cells object_cells owner_sort owner_row value_sort value_negative value_amount value_cells cells zeros room_cells definition_room enumerator_room object_room value_room rooms_after
everything = tt
