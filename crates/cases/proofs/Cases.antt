-- Every case of both tables holds: one test, which the checker computes.
use lib.Dec.{T}
use Rattle.model.specs.Lists.{list_from, rows, row_of, sum_to}
use Rattle.model.specs.Row.{place, least, limit, owner, kind_of, step_of, taps1, taps2, taps3, repeated, sample_in, read, weighted, filtered, mixed, smooth_pixel, torn_pixel, last_pixel, pair_pixel, owned_pixel, placed_at, near_edge, shown_pixel, pixel_at, limit_at, left_row}
use Rattle.model.specs.Views.{seen, view_row}
use Rattle.model.specs.Combined.{blended, both_shown, both_holes, combined_of, square_error}
use Rattle.model.specs.Fresh.{fresh_row, fresh_sample, fresh_combined, total_of, fresh_total}
use Rattle.model.specs.Candidates.{cross, in_region1, filled, on_border, side_shared, line_ok}
use Rattle.model.specs.Blocks.{in_block, written_plane, written, block_depths, change_of}
use Rattle.model.specs.Journals.{record_depths, next_index, with_newest, saved}
use Rattle.model.specs.Refusals.{up_to, tables_ok, tear_ok, block_ok, record_ok, chain_ok, journal_ok, room_ok, candidate_then, own_then, saving_then, taking_then}
use Rattle.run.specs.Run.{move_number, plain_number, plain_accepted, plain_next, plain_answer, plain_change, plain_reply}
use Rattle.run.specs.Shared.{in_turn, struck, shared_number, accepted, shared_next, shared_change, shared_reply}
use Rattle.cases.specs.Cases.{identity, four, settings, opening, images, cases, card11, same, holds_from, shared_holds_from, holds, all_hold}

pub cases_hold : T (all_hold cases) × T (all_hold card11)
unfolding identity four settings opening images cases card11 same holds_from shared_holds_from holds all_hold list_from rows row_of sum_to place least limit owner kind_of step_of taps1 taps2 taps3 repeated sample_in read weighted filtered mixed smooth_pixel torn_pixel last_pixel pair_pixel owned_pixel placed_at near_edge shown_pixel pixel_at limit_at left_row seen view_row blended both_shown both_holes combined_of square_error fresh_row fresh_sample fresh_combined total_of fresh_total in_block written_plane written block_depths change_of record_depths next_index with_newest saved cross in_region1 filled on_border side_shared line_ok up_to tables_ok tear_ok block_ok record_ok chain_ok journal_ok room_ok candidate_then own_then saving_then taking_then move_number plain_number plain_accepted plain_next plain_answer plain_change plain_reply in_turn struck shared_number accepted shared_next shared_change shared_reply
cases_hold = (tt, tt)
