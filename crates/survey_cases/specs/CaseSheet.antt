-- The case sheet: document 003, zone 3, rows 21°30′ to 21°50′, its Tables II, III and IV whole, scale rows 0 to 20,000 ft, central meridian 158°, C 500,000 ft, kinds in rising
-- order. It has 238 words.
use Rattle.std.specs.Prelude.{List, [], ◌∷◌, ℕ, pos, neg_ℤ}
use Rattle.survey_cases.specs.Bytes.{bytes_of}

unfoldable pub case_sheet : List ℕ
case_sheet =
    bytes_of (
    pos 6 ∷
    pos 1 ∷ pos 19 ∷ pos 1 ∷
    pos 2 ∷ pos 21 ∷ pos 21 ∷
    pos 3 ∷ pos 189 ∷ pos 16 ∷
    pos 4 ∷ pos 221 ∷ pos 4 ∷
    pos 5 ∷ pos 229 ∷ pos 4 ∷
    pos 6 ∷ pos 233 ∷ pos 5 ∷
    pos 568_800_000 ∷ pos 50_000_000 ∷
    pos 1_290 ∷ pos 12_107_898 ∷ pos 10_090_133 ∷ pos 94_434_676 ∷ pos 17_935 ∷ pos 838_991 ∷ pos 873 ∷ neg_ℤ (pos 988) ∷
    pos 1_291 ∷ pos 12_713_306 ∷ pos 10_090_133 ∷ pos 94_423_915 ∷ pos 17_950 ∷ pos 839_515 ∷ pos 872 ∷ neg_ℤ (pos 987) ∷
    pos 1_292 ∷ pos 13_318_714 ∷ pos 10_090_167 ∷ pos 94_413_145 ∷ pos 17_962 ∷ pos 840_038 ∷ pos 872 ∷ neg_ℤ (pos 986) ∷
    pos 1_293 ∷ pos 13_924_124 ∷ pos 10_090_200 ∷ pos 94_402_368 ∷ pos 17_977 ∷ pos 840_561 ∷ pos 872 ∷ neg_ℤ (pos 986) ∷
    pos 1_294 ∷ pos 14_529_536 ∷ pos 10_090_200 ∷ pos 94_391_582 ∷ pos 17_988 ∷ pos 841_084 ∷ pos 872 ∷ neg_ℤ (pos 985) ∷
    pos 1_295 ∷ pos 15_134_948 ∷ pos 10_090_233 ∷ pos 94_380_789 ∷ pos 18_002 ∷ pos 841_607 ∷ pos 872 ∷ neg_ℤ (pos 984) ∷
    pos 1_296 ∷ pos 15_740_362 ∷ pos 10_090_250 ∷ pos 94_369_988 ∷ pos 18_017 ∷ pos 842_130 ∷ pos 870 ∷ neg_ℤ (pos 984) ∷
    pos 1_297 ∷ pos 16_345_777 ∷ pos 10_090_267 ∷ pos 94_359_178 ∷ pos 18_028 ∷ pos 842_652 ∷ pos 870 ∷ neg_ℤ (pos 983) ∷
    pos 1_298 ∷ pos 16_951_193 ∷ pos 10_090_300 ∷ pos 94_348_361 ∷ pos 18_042 ∷ pos 843_174 ∷ pos 868 ∷ neg_ℤ (pos 982) ∷
    pos 1_299 ∷ pos 17_556_611 ∷ pos 10_090_317 ∷ pos 94_337_536 ∷ pos 18_055 ∷ pos 843_695 ∷ pos 868 ∷ neg_ℤ (pos 982) ∷
    pos 1_300 ∷ pos 18_162_030 ∷ pos 10_090_317 ∷ pos 94_326_703 ∷ pos 18_070 ∷ pos 844_216 ∷ pos 868 ∷ neg_ℤ (pos 981) ∷
    pos 1_301 ∷ pos 18_767_449 ∷ pos 10_090_367 ∷ pos 94_315_861 ∷ pos 18_082 ∷ pos 844_737 ∷ pos 868 ∷ neg_ℤ (pos 981) ∷
    pos 1_302 ∷ pos 19_372_871 ∷ pos 10_090_367 ∷ pos 94_305_012 ∷ pos 18_095 ∷ pos 845_258 ∷ pos 868 ∷ neg_ℤ (pos 980) ∷
    pos 1_303 ∷ pos 19_978_293 ∷ pos 10_090_400 ∷ pos 94_294_155 ∷ pos 18_108 ∷ pos 845_779 ∷ pos 867 ∷ neg_ℤ (pos 979) ∷
    pos 1_304 ∷ pos 20_583_717 ∷ pos 10_090_417 ∷ pos 94_283_290 ∷ pos 18_122 ∷ pos 846_299 ∷ pos 865 ∷ neg_ℤ (pos 979) ∷
    pos 1_305 ∷ pos 21_189_142 ∷ pos 10_090_433 ∷ pos 94_272_417 ∷ pos 18_135 ∷ pos 846_818 ∷ pos 867 ∷ neg_ℤ (pos 978) ∷
    pos 1_306 ∷ pos 21_794_568 ∷ pos 10_090_450 ∷ pos 94_261_536 ∷ pos 18_147 ∷ pos 847_338 ∷ pos 867 ∷ neg_ℤ (pos 977) ∷
    pos 1_307 ∷ pos 22_399_995 ∷ pos 10_090_467 ∷ pos 94_250_648 ∷ pos 18_163 ∷ pos 847_858 ∷ pos 863 ∷ neg_ℤ (pos 977) ∷
    pos 1_308 ∷ pos 23_005_423 ∷ pos 10_090_500 ∷ pos 94_239_750 ∷ pos 18_175 ∷ pos 848_376 ∷ pos 865 ∷ neg_ℤ (pos 976) ∷
    pos 1_309 ∷ pos 23_610_853 ∷ pos 10_090_517 ∷ pos 94_228_845 ∷ pos 18_187 ∷ pos 848_895 ∷ pos 865 ∷ neg_ℤ (pos 976) ∷
    pos 1_310 ∷ pos 24_216_284 ∷ pos 0 ∷ pos 94_217_933 ∷ pos 0 ∷ pos 849_414 ∷ pos 0 ∷ neg_ℤ (pos 975) ∷
    pos 0 ∷ pos 0 ∷
    pos 62 ∷ pos 0 ∷
    pos 122 ∷ pos 0 ∷
    pos 179 ∷ pos 0 ∷
    pos 231 ∷ pos 0 ∷
    pos 276 ∷ pos 0 ∷
    pos 313 ∷ pos 0 ∷
    pos 340 ∷ pos 0 ∷
    pos 356 ∷ pos 0 ∷
    pos 358 ∷ pos 0 ∷
    pos 345 ∷ pos 0 ∷
    pos 316 ∷ pos 0 ∷
    pos 269 ∷ pos 0 ∷
    pos 201 ∷ pos 0 ∷
    pos 113 ∷ pos 0 ∷
    pos 0 ∷ pos 0 ∷
    pos 92_476 ∷ pos 38_150 ∷
    pos 93_797 ∷ pos 38_695 ∷
    pos 95_123 ∷ pos 39_242 ∷
    pos 96_454 ∷ pos 39_791 ∷
    pos 0 ∷
    pos 0 ∷
    pos 0 ∷
    pos 0 ∷
    pos 9_999_900 ∷
    pos 9_999_900 ∷
    pos 9_999_901 ∷
    pos 9_999_903 ∷
    pos 9_999_905 ∷
    []
    )
