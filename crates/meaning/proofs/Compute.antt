-- What computes when an example is worked out by the checker: each definition is shut until it is named, and a declaration that
-- unfolds one of the groups below unfolds all that the group names. `computing` is all of them.
use Rattle.algebra.specs.Congruence.{remainder, inverse_below, inverse}
use Rattle.algebra.specs.Digits.{digits}
use Rattle.algebra.specs.Root.{root_up_to, square_root}
use Rattle.meaning.specs.Number.{half, lowest, highest, between, in_range, signed, no_divisor, odd_prime}
use Rattle.meaning.specs.Text.{bytes, same_bytes, on_first, split, without_last, lines_of, is_ended, fields_of, is_digit, all_digits, decimal, is_plain, sized, number, decimal_before, decimal_of, number_text}
use Rattle.meaning.specs.Word.{words, number_at, size_at, alternate, without_first, digits_at, kind_of}
use Rattle.meaning.specs.Line.{word_among, cons_number, numbers_of, assemble, line_of_fields, line_of}
use Rattle.meaning.specs.Known.{larger, smaller, fresh, ends_of, place_of, top_part, digit_rule, apart, above}
use Rattle.meaning.specs.Row.{eval, holds, digit_rows, place_values, group}
use Rattle.meaning.specs.Gadget.Digits.{group_cells, value_at}
use Rattle.meaning.specs.Gadget.Sign.{sign_shift, sign_statement, sign_rows, sign_top, sign_cells}
use Rattle.meaning.specs.Gadget.Field.{field_line}
use Rattle.meaning.specs.Gadget.Input.{input_line}
use Rattle.meaning.specs.Gadget.Span.{span_top, shared, span_line}
use Rattle.meaning.specs.Gadget.Sum.{terms_of, scaled, added, sum_ends, ends_in_range, sum_fits, sum_form, sum_value, sum_line}
use Rattle.meaning.specs.Gadget.Relu.{relu_line}
use Rattle.meaning.specs.Gadget.Which.{which_value, which_line}
use Rattle.meaning.specs.Gadget.Max.{max_line}
use Rattle.meaning.specs.Gadget.Root.{root_value, root_line}
use Rattle.meaning.specs.Meaning.{gadget, prime_after, places_from, after}
use Rattle.meaning.specs.Refusal.{all, on_some, is_placed, is_over_prime, is_digits, is_ranged, is_made, rules_with, rules_within, rules, first_broken, on_reading, cons_line, read_line, read_from, reading_by}
use Rattle.meaning.specs.Work.{with_cells, work_from, work}
use Rattle.meaning.specs.Reply.{read_reply, first_fail, rows_from, rows_of, is_cell, checked, check_reply, filled, made, make_reply, stretch, shown}
use Rattle.meaning.specs.Program.{tabbed, refusal_text, cells_text, table_text, making_text, cons_part, parts_of, joined, is_some, or_none, answer_parts, on_parts, respond}
use Rattle.meaning.specs.Claims.{values_of, signed_at}
use Rattle.meaning.specs.Write.{given_of, word_text, fields_text, given_text, text_of, list_text}
use Rattle.meaning.specs.Examples.{column_text, input_text, same_reply, same_answer, same_values, making-of, values-of, is_right, all_right, examples}

-- remainders, digits, roots and the signed range
unfoldable pub computing-numbers : Unit {0}
unfolding half lowest highest between in_range signed no_divisor odd_prime remainder inverse_below inverse digits root_up_to square_root
computing-numbers = tt

-- texts and lines
unfoldable pub computing-lines : Unit {0}
unfolding bytes same_bytes on_first split without_last lines_of is_ended fields_of is_digit all_digits decimal is_plain sized number decimal_before decimal_of number_text kind_of words word_among cons_number numbers_of assemble line_of_fields line_of number_at size_at alternate without_first digits_at
computing-lines = tt

-- what is known, and rows
unfoldable pub computing-rows : Unit {0}
unfolding larger smaller fresh ends_of place_of top_part digit_rule apart above eval holds digit_rows place_values group
computing-rows = tt

-- what each line does
unfoldable pub computing-gadgets : Unit {0}
unfolding group_cells value_at sign_shift sign_statement sign_rows sign_top sign_cells field_line input_line span_top shared span_line terms_of scaled added sum_ends ends_in_range sum_fits sum_form sum_value sum_line relu_line which_value which_line max_line root_value root_line kind_of gadget prime_after places_from after
computing-gadgets = tt

-- reading, working, the replies and the program
unfoldable pub computing-replies : Unit {0}
unfolding all on_some kind_of is_placed is_over_prime is_digits is_ranged is_made rules_with rules_within rules first_broken on_reading cons_line read_line read_from reading_by with_cells work_from work read_reply first_fail rows_from rows_of is_cell checked check_reply filled made make_reply stretch shown tabbed refusal_text cells_text table_text making_text cons_part parts_of joined is_some or_none answer_parts on_parts respond
computing-replies = tt

-- the rows of the worked tables
unfoldable pub computing-examples : Unit {0}
unfolding values_of signed_at given_of word_text fields_text given_text text_of list_text column_text input_text same_reply same_answer same_values making-of values-of is_right all_right examples
computing-examples = tt

unfoldable pub computing : Unit {0}
unfolding computing-numbers computing-lines computing-rows computing-gadgets computing-replies computing-examples
computing = tt
