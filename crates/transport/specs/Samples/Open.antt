-- `unfolding opened` opens every definition of the specification, to compute with.
use mathlib.Core.List.{flat_map, flatten, zip_with}
use Rattle.transport.specs.Lists.{all, keep, least_from, first_least, table, padded, below, grid, down_to, sum_to, sum_z, at, at_z, total, least_for, at_most}
use Rattle.transport.specs.Lists.{within, within_z, first_of}
use Rattle.transport.specs.Limits.{max_sources, max_sinks, max_side, max_amount, max_bags, max_cost, cost_below, cost_above, max_cells, max_digits, max_text}
use Rattle.transport.specs.Limits.{max_plan_text}
use Rattle.transport.specs.Problem.{sources, sinks, lanes, place, lane_cost}
use Rattle.transport.specs.Sheet.{roasteries, cafes, bad_sides, bad_length, bad_amount, bad_cost, lacking, crowded, idle, number_tests, sheet_tests, refusal}
use Rattle.transport.specs.Extended.{surplus, wanted, cost_at, extended}
use Rattle.transport.specs.Parties.{is_left, left, among, rows_left_of, columns_left, struck, problem_of}
use Rattle.transport.specs.Amount.{eq_z, nothing, add, subtract, less, same, smaller, add_up, paired_supply_of, paired_demand_of}
use Rattle.transport.specs.Tableau.{basis_size, lane_of, with_amount, basis_for, same_lane, no_cell, cells_of, tableau_of, no_tableau, corner, start}
use Rattle.transport.specs.Leaf.{touches, strike_at, only_one, first_leaf, strike_off, strikes}
use Rattle.transport.specs.Belonging.{on_sheet, in_order, above_zero, row_total, column_total, balanced, spans, cells_belong, belongs}
use Rattle.transport.specs.Potential.{potential_by, potential, source_prices_of, sink_prices, reduced_cost, is_finished_of}
use Rattle.transport.specs.OwnNumbers.{own, renumbered, covers, belongs_to, row_price_of, column_price_of, cafe_price_of, roastery_price_of}
use Rattle.transport.specs.OwnNumbers.{roastery_prices, cafe_prices}
use Rattle.transport.specs.Round.{entering, take_from, flow, sign, leaving, gain, shift, insert, pivot, next, run, round_bound}
use Rattle.transport.specs.Plan.{plan_cost_of, row_plans, plans_for, plans, settled}
use Rattle.transport.specs.Calls.{unless, lent_after, tableau_tests, inside, too_short, start_call, round, round_call, run_from, run_call}
use Rattle.transport.specs.Calls.{settle_call}
use Rattle.transport.specs.Calls.{solution_from, solution, solve_call, finished_tests, solve_tests}
use Rattle.transport.specs.Standing.{edited, last_tableau_of, set_up_call, standing_tests, max_counter, bad_edit, edit_tests}
use Rattle.transport.specs.Standing.{edit_from, edit_call, carried_out, stands_after, kept_sheet, spare, struct_of, standing_of}
use Rattle.transport.specs.Text.{bytes, kind_of, digits_up_to, digits, whole_digits, head_line, number_line, row_line}
use Rattle.transport.specs.SheetText.{rows_of, sheet_text, write_sheet_call, ◌>>=◌, ◌>>◌, pure, times, byte_that, word, end, is_digit, digit_value_of}
use Rattle.transport.specs.SheetText.{more_digits_of}
use Rattle.transport.specs.SheetText.{number_from, number, minus, whole, side, line, row, sheet_reader, read_with, read_tests, read_sheet_call}
use Rattle.transport.specs.PlanText.{whole_line, carried, used, lane_line, plan_text, write_plan_call, refused_line, printed, fitting, shown}
use Rattle.transport.specs.Answers.{result_of, said, round_shown, round_read, run_shown, run_read, solve_shown, counts_of}
use Rattle.transport.specs.Answers.{start_answer, start_says, prices, no_prices, round_answer, round_says, run_outcome, run_answer, run_says, settle_answer}
use Rattle.transport.specs.Answers.{settle_says, solve_answer, solve_says, set_up_answer, edit_answer, read_answer, read_says, write_answer, write_says}
use Rattle.transport.specs.Statements.{scaled, loop_sign, after}

unfoldable pub opened : Unit {0}
unfolding flat_map flatten zip_with all keep least_from first_least table padded below grid down_to sum_to sum_z at at_z total least_for at_most within within_z
    max_sources max_sinks max_side max_amount max_bags max_cost cost_below cost_above max_cells max_digits max_text max_plan_text sources sinks lanes place
    lane_cost roasteries cafes surplus wanted cost_at extended is_left left among rows_left_of columns_left struck problem_of own renumbered covers belongs_to
    row_price_of column_price_of cafe_price_of roastery_price_of roastery_prices bad_sides bad_length bad_amount bad_cost lacking crowded idle number_tests
    sheet_tests
    refusal eq_z nothing add subtract less same smaller add_up paired_supply_of paired_demand_of basis_size lane_of with_amount basis_for same_lane no_cell
    cells_of
    tableau_of no_tableau corner start on_sheet in_order above_zero row_total column_total balanced touches strike_at only_one first_leaf strike_off strikes
    spans cells_belong belongs potential_by potential source_prices_of sink_prices reduced_cost is_finished_of entering take_from flow sign leaving gain shift
    insert pivot next round run plan_cost_of row_plans plans_for plans settled unless lent_after tableau_tests inside too_short start_call
    cafe_prices
    round_call run_from run_call settle_call round_bound solution_from solution solve_call bytes kind_of digits_up_to digits whole_digits head_line number_line
    row_line rows_of sheet_text write_sheet_call ◌>>=◌ ◌>>◌ pure times byte_that word end is_digit digit_value_of more_digits_of number_from number minus
    whole side
    line row sheet_reader read_with read_tests read_sheet_call whole_line carried used lane_line plan_text write_plan_call refused_line printed fitting shown
    result_of said round_shown round_read run_shown run_read solve_shown counts_of
    start_answer start_says prices no_prices round_answer round_says run_outcome run_answer run_says settle_answer settle_says solve_answer solve_says
    read_answer
    read_says write_answer write_says scaled loop_sign after first_of finished_tests solve_tests edited last_tableau_of set_up_call
    standing_tests max_counter bad_edit edit_tests edit_from edit_call carried_out stands_after kept_sheet spare struct_of
    standing_of set_up_answer edit_answer
opened = tt
