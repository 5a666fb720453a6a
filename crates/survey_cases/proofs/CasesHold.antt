-- Every case of the list is worked as it is printed: one statement, each case by computation. Assumes nothing.
use mathlib.Core.Path.{◌≡◌, refl, ap, ◌∙◌}
use mathlib.Core.List.{map}
use lib.IntN.{pos}
use Rattle.rounding.specs.Nearest.{with_sign, nearest_size, nearest, on_half_size, on_half}
use Rattle.rounding.specs.Between.{between, between_half}
use Rattle.steps.specs.Steps.{q_of, q_half, size_of_x, size_of_x_half, rise, rise_half, reduction, reduction_half, seconds, seconds_half, approximate_l, approximate_l_half, size_of_l, size_of_l_half, convergence, convergence_half, per_second}
use Rattle.words.specs.Words.{unsigned_at, signed32, word_at, bits32}
use Rattle.refusals.specs.Ladder.{need, where_below, where_is, or_else}
use Rattle.refusals.specs.Faults.{first_fault}
use Rattle.refusals.specs.Tests.{in_range, same_as}
use Rattle.rules.specs.Limits.{rises}
use Rattle.rules.specs.Latitude.{figures_in_range, within_bounds, differences_of, no_differences, same_differences}
use Rattle.latitude_rows.specs.Rows.{figures_at, differences_at, row_in_range, pair_fault, last_fault, latitude_fault}
use Rattle.small_rows.specs.SmallRows.{zero_where, zone_row_fault, zone_fault, longitude_row_fault, longitude_fault, northing_row_fault, northing_fault, easting_row_fault, easting_fault, scale_row_fault, scale_fault}
use Rattle.entries.specs.Layout.{form_named}
use Rattle.entries.specs.Entries.{named, due_at, entry_of, the_entry, start_of, rows_of, step_of, body_of}
use Rattle.contents.specs.Contents.{within, entry_fault, sized, contents_by, contents_of}
use Rattle.sheet_check.specs.Check.{row_fault, bodies_of, check_of}
use Rattle.reading.specs.Tables.{past_row, past_row_half, value_at, value_half, within_rows}
use Rattle.row_search.specs.Rows.{last_not_above}
use Rattle.tables.specs.Figures.{central_meridian_of, false_easting_of, first_latitude_of, y0_of, y0_at, y0_half, h_at, h_half, v_at, v_half, a_at, a_half, b_at, b_half, c_at, c_half, p_at, p_half, m_at, m_half, d_at, d_half, k_at, k_half}
use Rattle.extent.specs.Extent.{from_first, latitude_known, l_of, size_known, longitude_known, x_prime, easting_known, scale_known, northing_known, reduced_known}
use Rattle.forward.specs.Forward.{x_size, x_of, x_half, y_of, y_half, plane_from, plane_at, forward_of}
use Rattle.inverse.specs.Inverse.{reduced_northing, reduced_half, row_of, seconds_past, seconds_past_half, distance_of, distance_half, approximate_of, size_of, size_half, longitude_of, geographic_at, from_distance, from_reduced, inverse_of}
use Rattle.convergence.specs.Grid.{convergence_at, grid_half, grid_at, grid_of}
use Rattle.convert.proofs.Checked.{forward_on_pass, inverse_on_pass, grid_on_pass}
use Rattle.survey_cases.specs.Bytes.{bytes_of}
use Rattle.survey_cases.specs.CaseSheet.{case_sheet}
use Rattle.survey_cases.specs.Cases.{Case, on_plane, on_earth, on_grid, starred, harvey, kahela, kahela_back, irish, irish_back, naper, from2047, row2048, h2048, half_m, half_marked, half_a, minute31, listing_g, listing_p}

-- a case is worked as it is printed
abbrev Holds : Case → Type 0
Holds c = c.worked ≡ c.printed

-- ---- from printed figures
harvey_holds : Holds harvey
unfolding with_sign nearest_size nearest between harvey
harvey_holds = refl

kahela_holds : Holds kahela
unfolding with_sign nearest_size nearest between kahela
kahela_holds = refl

kahela_back_holds : Holds kahela_back
unfolding nearest_size seconds kahela_back
kahela_back_holds = refl

irish_holds : Holds irish
unfolding with_sign nearest_size nearest q_of size_of_x rise irish
irish_holds = refl

irish_back_holds : Holds irish_back
unfolding with_sign nearest_size nearest reduction irish_back
irish_back_holds = refl

naper_holds : Holds naper
unfolding with_sign nearest_size nearest rise reduction naper
naper_holds = refl

h2048_holds : Holds h2048
unfolding with_sign nearest_size nearest between h2048
h2048_holds = refl

half_a_holds : Holds half_a
unfolding with_sign nearest_size nearest between half_a
half_a_holds = refl

-- ---- a check
row2048_holds : Holds row2048
unfolding with_sign nearest_size nearest per_second unsigned_at signed32 word_at bits32 need where_below where_is or_else first_fault in_range rises same_as figures_in_range within_bounds differences_of no_differences same_differences figures_at differences_at row_in_range pair_fault last_fault latitude_fault zero_where zone_row_fault zone_fault longitude_row_fault longitude_fault northing_row_fault northing_fault easting_row_fault easting_fault scale_row_fault scale_fault form_named named due_at entry_of the_entry start_of rows_of step_of body_of within entry_fault sized contents_by contents_of row_fault bodies_of check_of bytes_of from2047 row2048
row2048_holds = refl

case-passes : (check_of case_sheet).number ≡ 0
unfolding with_sign nearest_size nearest per_second unsigned_at signed32 word_at bits32 need where_below where_is or_else first_fault in_range rises same_as figures_in_range within_bounds differences_of no_differences same_differences figures_at differences_at row_in_range pair_fault last_fault latitude_fault zero_where zone_row_fault zone_fault longitude_row_fault longitude_fault northing_row_fault northing_fault easting_row_fault easting_fault scale_row_fault scale_fault form_named named due_at entry_of the_entry start_of rows_of step_of body_of within entry_fault sized contents_by contents_of row_fault bodies_of check_of bytes_of case_sheet
case-passes = refl

-- ---- the case sheet: it passes, so that each conversion is its steps
half_m_holds : Holds half_m
unfolding with_sign nearest_size nearest between unsigned_at signed32 word_at bits32 form_named named due_at entry_of the_entry start_of rows_of step_of body_of past_row value_at m_at bytes_of case_sheet half_m
half_m_holds = refl

half-marked_steps : on_grid (grid_of case_sheet (pos 51_250_000) (pos 5_000_000)) ≡ half_marked.printed
unfolding with_sign nearest_size nearest on_half_size on_half between between_half convergence convergence_half unsigned_at signed32 word_at bits32 need where_below where_is form_named named due_at entry_of the_entry start_of rows_of step_of body_of past_row past_row_half value_at value_half within_rows false_easting_of m_at m_half k_at k_half x_prime scale_known northing_known convergence_at grid_half grid_at grid_of bytes_of case_sheet half_marked
half-marked_steps = refl

half-marked_holds : Holds half_marked
unfolding half_marked
half-marked_holds = ap on_grid (grid_on_pass case_sheet (pos 51_250_000) (pos 5_000_000) case-passes) ∙ half-marked_steps

minute31_steps : on_earth (inverse_of case_sheet (pos 50_000_000) (pos 12_713_305)) ≡ minute31.printed
unfolding with_sign nearest_size nearest on_half_size on_half between between_half reduction reduction_half seconds seconds_half approximate_l approximate_l_half size_of_l size_of_l_half unsigned_at signed32 word_at bits32 need where_below where_is form_named named due_at entry_of the_entry start_of rows_of step_of body_of past_row past_row_half value_at value_half within_rows last_not_above central_meridian_of false_easting_of first_latitude_of y0_of h_at h_half a_at a_half b_at b_half p_at p_half d_at d_half size_known x_prime easting_known northing_known reduced_known reduced_northing reduced_half row_of seconds_past seconds_past_half distance_of distance_half approximate_of size_of size_half longitude_of geographic_at from_distance from_reduced inverse_of bytes_of case_sheet minute31
minute31_steps = refl

minute31_holds : Holds minute31
unfolding minute31
minute31_holds = ap on_earth (inverse_on_pass case_sheet (pos 50_000_000) (pos 12_713_305) case-passes) ∙ minute31_steps

listing_g_steps : on_plane (forward_of case_sheet (pos 77_430_000) (pos 568_250_000)) ≡ listing_g.printed
unfolding with_sign nearest_size nearest on_half_size on_half between between_half q_of q_half size_of_x size_of_x_half rise rise_half unsigned_at signed32 word_at bits32 need where_below where_is form_named named due_at entry_of the_entry start_of rows_of step_of body_of past_row past_row_half value_at value_half within_rows central_meridian_of false_easting_of first_latitude_of y0_at y0_half h_at h_half v_at v_half a_at a_half b_at b_half c_at c_half from_first latitude_known l_of size_known longitude_known x_size x_of x_half y_of y_half plane_from plane_at forward_of bytes_of case_sheet listing_g
listing_g_steps = refl

listing_g_holds : Holds listing_g
unfolding listing_g
listing_g_holds = ap on_plane (forward_on_pass case_sheet (pos 77_430_000) (pos 568_250_000) case-passes) ∙ listing_g_steps

listing_p_steps : on_earth (inverse_of case_sheet (pos 55_193_582) (pos 12_413_141)) ≡ listing_p.printed
unfolding with_sign nearest_size nearest on_half_size on_half between between_half reduction reduction_half seconds seconds_half approximate_l approximate_l_half size_of_l size_of_l_half unsigned_at signed32 word_at bits32 need where_below where_is form_named named due_at entry_of the_entry start_of rows_of step_of body_of past_row past_row_half value_at value_half within_rows last_not_above central_meridian_of false_easting_of first_latitude_of y0_of h_at h_half a_at a_half b_at b_half p_at p_half d_at d_half size_known x_prime easting_known northing_known reduced_known reduced_northing reduced_half row_of seconds_past seconds_past_half distance_of distance_half approximate_of size_of size_half longitude_of geographic_at from_distance from_reduced inverse_of bytes_of case_sheet listing_p
listing_p_steps = refl

listing_p_holds : Holds listing_p
unfolding listing_p
listing_p_holds = ap on_earth (inverse_on_pass case_sheet (pos 55_193_582) (pos 12_413_141) case-passes) ∙ listing_p_steps

-- ---- the statement
pub cases_hold : map (λ (c : Case). c.worked) starred ≡ map (λ (c : Case). c.printed) starred
unfolding starred
cases_hold =
    rw (
      harvey_holds,
      kahela_holds,
      kahela_back_holds,
      irish_holds,
      irish_back_holds,
      naper_holds,
      row2048_holds,
      h2048_holds,
      half_m_holds,
      half-marked_holds,
      half_a_holds,
      minute31_holds,
      listing_g_holds,
      listing_p_holds,
    )
