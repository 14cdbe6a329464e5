-- How many types the parts of an input make at most (Component Model Binary.md, "Type Definitions").
use Rattle.std.specs.Prelude.{◌≡◌, ◌≤◌, ℕ, ◌+◌, List, [], ◌∷◌, length, Some}
use Rattle.wit_model.specs.Text.{Text}
use Rattle.comp_bytes.specs.Levels.{PartType, Piece, custom, types, exports, levels_of}
use Rattle.comp_meaning.specs.ByLevels.{exported_parts}
use Rattle.read_parts.specs.Members.{part_weight, parts_weight}

abbrev pub types_weight : List PartType → ℕ
types_weight [] = 0
types_weight (p ∷ ps) = part_weight p + types_weight ps

abbrev pub pieces_weight : List Piece → ℕ
pieces_weight [] = 0
pieces_weight (custom name contents ∷ ps) = pieces_weight ps
pieces_weight (types ts ∷ ps) = types_weight ts + pieces_weight ps
pieces_weight (exports es ∷ ps) = pieces_weight ps

-- The parts that are exported make no more types than the input has bytes.
abbrev pub PartsFit : Type 0
PartsFit = (bytes : List ℕ) (pieces : List Piece) (parts : List (Text × PartType)) → levels_of bytes ≡ Some pieces → exported_parts pieces ≡ Some parts
    → parts_weight parts ≤ length bytes
