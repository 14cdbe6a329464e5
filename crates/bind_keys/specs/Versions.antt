-- The canonical part of a version, in the pieces in which it is written (Semantic Versioning 2.0.0, sections 2, 9 and 10).
use Rattle.std.specs.Prelude.{[], ◌∷◌, ◌++◌, decimal, length, nat_lt, if◌then◌else◌}
use Rattle.semver.specs.declared.Version.{Version}
use Rattle.semver.specs.Identifiers.{build_text, pre_text}
use Rattle.wit_model.specs.Text.{Text}

-- the three numbers, with points between them
abbrev pub numbers_of : Version → Text
numbers_of v = ((decimal v.major ++ (46 ∷ [])) ++ (decimal v.minor ++ (46 ∷ []))) ++ decimal v.patch

-- what stands for an identifier: its mark and itself, or nothing where it is empty
abbrev pub marked_by : Text → Text → Text
marked_by mark [] = []
marked_by mark (b ∷ rest) = mark ++ (b ∷ rest)

-- the pre-release and the build metadata, with their marks
abbrev pub identifiers_of : Version → Text
identifiers_of v = marked_by (45 ∷ []) (pre_text v.pre) ++ marked_by (43 ∷ []) (build_text v.build)

-- a pre-release whole; else the major number, `0.` and the minor one, or `0.0.` and the patch
abbrev pub canonical_text : Version → Text
canonical_text v =
    if nat_lt 0 (length (pre_text v.pre)) then numbers_of v ++ identifiers_of v
    else if nat_lt 0 v.major then decimal v.major
    else if nat_lt 0 v.minor then (48 ∷ 46 ∷ []) ++ decimal v.minor
    else (48 ∷ 46 ∷ 48 ∷ 46 ∷ []) ++ decimal v.patch
