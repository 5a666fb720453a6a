-- The worked figures of the Survey's sheets that are proved: each case has the figures that the definitions give, and those that are printed.
use Rattle.std.specs.Prelude.{Bool, cond, List, [], ◌∷◌, ℕ, ◌-◌, ℤ, pos, neg_ℤ, ◌-ℤ◌}
use Rattle.rounding.specs.Nearest.{with_sign, nearest}
use Rattle.rounding.specs.Between.{between}
use Rattle.steps.specs.Steps.{q_of, size_of_x, rise, reduction, seconds, per_second}
use Rattle.entries.specs.Layout.{one_minute}
use Rattle.contents.specs.Contents.{Verdict}
use Rattle.sheet_check.specs.Check.{check_of}
use Rattle.tables.specs.Figures.{m_at}
use Rattle.forward.specs.Forward.{PlaneTold}
use Rattle.inverse.specs.Inverse.{GeographicTold}
use Rattle.convergence.specs.Grid.{GridTold}
use Rattle.convert.specs.Conversions.{geographic_to_plane, plane_to_geographic, convergence_and_scale}
use Rattle.survey_cases.specs.Bytes.{bytes_of}
use Rattle.survey_cases.specs.CaseSheet.{case_sheet}

-- What the definitions work, figure by figure, and what is printed, in the same units.
pub record Case : Type 0 where
  pub worked : List ℤ
  pub printed : List ℤ

-- A mark as a figure: 1 where some rounding met a half, else 0.
abbrev pub marked : Bool → ℤ
marked half = cond half (pos 1) (pos 0)

-- An answer's number, its two values and its mark.
abbrev pub on_plane : PlaneTold → List ℤ
on_plane r = pos r.number ∷ r.x ∷ r.y ∷ marked r.half ∷ []

abbrev pub on_earth : GeographicTold → List ℤ
on_earth r = pos r.number ∷ r.latitude ∷ r.longitude ∷ marked r.half ∷ []

abbrev pub on_grid : GridTold → List ℤ
on_grid r = pos r.number ∷ r.convergence ∷ r.scale ∷ marked r.half ∷ []

-- The check's answer, "number, kind, row", before what else is told.
abbrev pub told : Verdict → List ℤ → List ℤ
told v rest = pos v.number ∷ pos v.kind ∷ pos v.row ∷ rest

-- Document 000, Harvey: at 38°26′17.646″ y0 341,647.98, H 79.567780, between the rows 38°26′ and 38°27′.
unfoldable pub harvey : Case
harvey = record {
  worked = between (pos 33_986_295) (pos 34_593_243) 17_646 one_minute ∷ between (pos 79_573_162) (pos 79_554_863) 17_646 one_minute ∷ [];
  printed = pos 34_164_798 ∷ pos 79_567_780 ∷ [];
}

-- Document 003, Kahela: at 19°37′23.477″ y0 286,828.13, H 95.595105, between the rows 19°37′ and 19°38′.
unfoldable pub kahela : Case
kahela = record {
  worked = between (pos 28_445_984) (pos 29_051_245) 23_477 one_minute ∷ between (pos 95_598_962) (pos 95_589_105) 23_477 one_minute ∷ [];
  printed = pos 28_682_813 ∷ pos 95_595_105 ∷ [];
}

-- Kahela back: y0 286,828.14 returns 23.477″, between the y0 of the same rows.
unfoldable pub kahela_back : Case
kahela_back = record {
  worked = pos (seconds one_minute (28_682_814 - 28_445_984) (29_051_245 - 28_445_984)) ∷ [];
  printed = pos 23_477 ∷ [];
}

-- Document 002, Irish: L −2,526.978 has q 638.562; H 72.635503, L, a −0.263, b 1.098 give x' −183,548.03; V 1.231546, q, c −0.107 give 786.31.
unfoldable pub irish : Case
irish = record {
  worked =
      pos (q_of 2_526_978) ∷
      with_sign (neg_ℤ (pos 2_526_978)) (size_of_x 72_635_503 2_526_978 (neg_ℤ (pos 263)) (pos 1_098)) ∷
      rise 1_231_546 638_562 (neg_ℤ (pos 107)) ∷
      [];
  printed = pos 638_562 ∷ neg_ℤ (pos 18_354_803) ∷ pos 78_631 ∷ [];
}

-- Irish back: P 2.33389, x' and d 0.02 give 786.30.
unfoldable pub irish_back : Case
irish_back = record {
  worked = reduction 233_389 18_354_803 (pos 2) ∷ [];
  printed = pos 78_630 ∷ [];
}

-- Document 001, Naper: V 1.223859, q 59.785, c −0.013 give 73.16; back, P 2.13085, d 0 and x' 58,591.51 give 73.15. The trip is not exact.
unfoldable pub naper : Case
naper = record {
  worked = rise 1_223_859 59_785 (neg_ℤ (pos 13)) ∷ reduction 213_085 5_859_151 (pos 0) ∷ [];
  printed = pos 7_316 ∷ pos 7_315 ∷ [];
}

-- Document 003, zone 2, cut to the rows 20°47′ to 20°49′ and the first two rows of each other table, with dh as ΔH of row 20°48′.
unfoldable pub from2047 : ℤ → List ℕ
from2047 dh =
    bytes_of (
    pos 6 ∷
    pos 1 ∷ pos 19 ∷ pos 1 ∷
    pos 2 ∷ pos 21 ∷ pos 3 ∷
    pos 3 ∷ pos 45 ∷ pos 2 ∷
    pos 4 ∷ pos 49 ∷ pos 2 ∷
    pos 5 ∷ pos 53 ∷ pos 2 ∷
    pos 6 ∷ pos 55 ∷ pos 2 ∷
    pos 564_000_000 ∷ pos 50_000_000 ∷
    pos 1_247 ∷ pos 16_343_781 ∷ pos 10_089_033 ∷ pos 94_889_553 ∷ pos 17_367 ∷ pos 816_227 ∷ pos 893 ∷ neg_ℤ (pos 934) ∷
    pos 1_248 ∷ pos 16_949_123 ∷ pos 10_089_050 ∷ pos 94_879_133 ∷ dh ∷ pos 816_763 ∷ pos 893 ∷ neg_ℤ (pos 933) ∷
    pos 1_249 ∷ pos 17_554_466 ∷ pos 0 ∷ pos 94_868_706 ∷ pos 0 ∷ pos 817_299 ∷ pos 0 ∷ neg_ℤ (pos 933) ∷
    pos 0 ∷ pos 0 ∷
    pos 269 ∷ pos 0 ∷
    pos 88_503 ∷ pos 36_512 ∷
    pos 89_810 ∷ pos 37_052 ∷
    pos 0 ∷
    pos 0 ∷
    pos 9_999_667 ∷
    pos 9_999_667 ∷
    []
    )

-- Document 003, row 20°48′: H 94.879133, next 94.868706, so ΔH is 173.78 of its millionths, and the whole check passes, 0 0 0. The copy reads 173.71: number 9, in kind 2's row 1.
unfoldable pub row2048 : Case
row2048 = record {
  worked = per_second 100 (pos 94_879_133 -ℤ pos 94_868_706) ∷ told (check_of (from2047 (pos 17_378))) (told (check_of (from2047 (pos 17_371))) []);
  printed = pos 17_378 ∷ pos 0 ∷ pos 0 ∷ pos 0 ∷ pos 9 ∷ pos 2 ∷ pos 1 ∷ [];
}

-- At 20°48′30″ the rows give H 94.873920; the misprinted per-second column would give 94.873922.
unfoldable pub h2048 : Case
h2048 = record {
  worked = between (pos 94_879_133) (pos 94_868_706) 30_000 one_minute ∷ [];
  printed = pos 94_873_920 ∷ [];
}

-- Case sheet, y 50,000 ft: M 0.0038423, read of its bytes: a half between 0.0038150 at 0 ft and 0.0038695 at 100,000 ft.
unfoldable pub half_m : Case
half_m = record {
  worked = pos (m_at case_sheet 5_000_000) ∷ [];
  printed = pos 38_423 ∷ [];
}

-- The same through the whole definition: at x 512,500 ft and y 50,000 ft Δα is 48.0″ and k 0.9999902, and the answer is marked. k and Δα meet no half there, so that the mark is M's.
unfoldable pub half_marked : Case
half_marked = record {
  worked = on_grid (convergence_and_scale case_sheet (pos 51_250_000) (pos 5_000_000));
  printed = pos 0 ∷ pos 480 ∷ pos 9_999_902 ∷ pos 1 ∷ [];
}

-- −0.9875 to three places is −0.988 and not −0.987. The case sheet's a stands there at 21°30′30″, between −0.988 and −0.987.
unfoldable pub half_a : Case
half_a = record {
  worked = nearest (neg_ℤ (pos 9_875)) 10 ∷ between (neg_ℤ (pos 988)) (neg_ℤ (pos 987)) 30_000 one_minute ∷ [];
  printed = neg_ℤ (pos 988) ∷ neg_ℤ (pos 988) ∷ [];
}

-- Case sheet, x 500,000.00, y 127,133.05: latitude 21°31′00.000″, on the central meridian, 158°. The seconds past 21°30′ come to 60.000, and not by a half.
unfoldable pub minute31 : Case
minute31 = record {
  worked = on_earth (plane_to_geographic case_sheet (pos 50_000_000) (pos 12_713_305));
  printed = pos 0 ∷ pos 77_460_000 ∷ pos 568_800_000 ∷ pos 0 ∷ [];
}

-- The two first points of the listing, on the case sheet: `G 77430000 568250000` and `P 55193582 12413141`. The listing prints no marks; both points meet halves, in H, a and b.
unfoldable pub listing_g : Case
listing_g = record {
  worked = on_plane (geographic_to_plane case_sheet (pos 77_430_000) (pos 568_250_000));
  printed = pos 0 ∷ pos 55_193_582 ∷ pos 12_413_141 ∷ pos 1 ∷ [];
}

unfoldable pub listing_p : Case
listing_p = record {
  worked = on_earth (plane_to_geographic case_sheet (pos 55_193_582) (pos 12_413_141));
  printed = pos 0 ∷ pos 77_430_000 ∷ pos 568_250_000 ∷ pos 1 ∷ [];
}

-- The list.
unfoldable pub starred : List Case
starred = harvey ∷ kahela ∷ kahela_back ∷ irish ∷ irish_back ∷ naper ∷ row2048 ∷ h2048 ∷ half_m ∷ half_marked ∷ half_a ∷ minute31 ∷ listing_g ∷ listing_p ∷ []
