-- A scan of digits and versions.
use Rattle.std.specs.Prelude.{ℕ, ◌+◌, Bool, true, false, ◌&&◌, ◌||◌, ◌==◌, not, nat_lt, if◌then◌else◌}
use Rattle.std.specs.Char.{is_ascii_digit}
use Rattle.semver.specs.Grammar.{is_identifier_byte}
use Rattle.text_tokens.specs.declared.number.Part.{Part}
use Rattle.text_tokens.specs.declared.number.Part.TheVariants.{Empty, Zero, Zeros, Digits, Letters, Bad}
use Rattle.text_tokens.specs.declared.number.Core.{Core}
use Rattle.text_tokens.specs.declared.number.Release.{Release}
use Rattle.text_tokens.specs.declared.number.Release.TheVariants.{InCore, InPre, Neither}
use Rattle.text_tokens.specs.declared.number.Number.{Number}
use Rattle.text_tokens.specs.declared.number.Number.TheVariants.{InRelease, InBuild, Nowhere}

-- ---- what stands between two dots

-- a zero more
abbrev pub after_zero : Part → Part
after_zero Empty = Zero
after_zero Zero = Zeros
after_zero Zeros = Zeros
after_zero Digits = Digits
after_zero Letters = Letters
after_zero Bad = Bad

-- another digit more
abbrev pub after_digit : Part → Part
after_digit Empty = Digits
after_digit Zero = Zeros
after_digit Zeros = Zeros
after_digit Digits = Digits
after_digit Letters = Letters
after_digit Bad = Bad

-- a letter or a dash more
abbrev pub after_letter : Part → Part
after_letter Empty = Letters
after_letter Zero = Letters
after_letter Zeros = Letters
after_letter Digits = Letters
after_letter Letters = Letters
after_letter Bad = Bad

-- a byte more
abbrev pub part_step : Part → ℕ → Part
part_step part c = if c == 48 then after_zero part else (if is_ascii_digit c then after_digit part else
    (if is_identifier_byte c then after_letter part else Bad))

-- whether it is digits
abbrev pub digits_are_ok : Part → Bool
digits_are_ok Empty = false
digits_are_ok Zero = true
digits_are_ok Zeros = true
digits_are_ok Digits = true
digits_are_ok Letters = false
digits_are_ok Bad = false

-- whether it is a numeral
abbrev pub numeral_is_ok : Part → Bool
numeral_is_ok Empty = false
numeral_is_ok Zero = true
numeral_is_ok Zeros = false
numeral_is_ok Digits = true
numeral_is_ok Letters = false
numeral_is_ok Bad = false

-- whether it is an identifier of a pre-release
abbrev pub pre_is_ok : Part → Bool
pre_is_ok Empty = false
pre_is_ok Zero = true
pre_is_ok Zeros = false
pre_is_ok Digits = true
pre_is_ok Letters = true
pre_is_ok Bad = false

-- whether it is an identifier of build metadata
abbrev pub build_is_ok : Part → Bool
build_is_ok Empty = false
build_is_ok Zero = true
build_is_ok Zeros = true
build_is_ok Digits = true
build_is_ok Letters = true
build_is_ok Bad = false

-- whether no version has it as a part
abbrev pub is_bad : Part → Bool
is_bad Empty = false
is_bad Zero = false
is_bad Zeros = false
is_bad Digits = false
is_bad Letters = false
is_bad Bad = true

-- ---- the numbers of a version

-- whether three numerals stand there
abbrev pub core_is_ok : Core → Bool
core_is_ok k = k.dots == 2 && numeral_is_ok k.part

-- whether digits alone stand there
abbrev pub core_is_digits : Core → Bool
core_is_digits k = k.dots == 0 && digits_are_ok k.part

-- whether no more bytes can make a version of them: they have a letter, or another byte that is no digit
abbrev pub core_is_dead : Core → Bool
core_is_dead k = is_bad k.part || (pre_is_ok k.part && not (numeral_is_ok k.part))

-- a byte more
abbrev pub core_step : Core → ℕ → Core
core_step k c =
    if c == 46
    then (if numeral_is_ok k.part && nat_lt k.dots 2 then record { dots = k.dots + 1; part = Empty } else record { dots = k.dots; part = Bad })
    else record { dots = k.dots; part = part_step k.part c }

-- ---- a version without build metadata

-- whether it is one
abbrev pub release_is_ok : Release → Bool
release_is_ok (InCore k) = core_is_ok k
release_is_ok (InPre part) = pre_is_ok part
release_is_ok Neither = false

-- whether no more bytes can make one
abbrev pub release_is_dead : Release → Bool
release_is_dead (InCore k) = core_is_dead k
release_is_dead (InPre part) = is_bad part
release_is_dead Neither = true

-- a byte more
abbrev pub release_step : Release → ℕ → Release
release_step (InCore k) c = if c == 45 then (if core_is_ok k then InPre Empty else Neither) else InCore (core_step k c)
release_step (InPre part) c = if c == 46 then (if pre_is_ok part then InPre Empty else Neither) else InPre (part_step part c)
release_step Neither c = Neither

-- ---- digits or a version

-- before the first byte
abbrev pub number_start : Number
number_start = InRelease (InCore (record { dots = 0; part = Empty }))

-- whether it is digits or a version
abbrev pub number_is_ok : Number → Bool
number_is_ok (InRelease (InCore k)) = core_is_digits k || core_is_ok k
number_is_ok (InRelease (InPre part)) = pre_is_ok part
number_is_ok (InRelease Neither) = false
number_is_ok (InBuild part) = build_is_ok part
number_is_ok Nowhere = false

-- whether no more bytes can make one
abbrev pub number_is_dead : Number → Bool
number_is_dead (InRelease r) = release_is_dead r
number_is_dead (InBuild part) = is_bad part
number_is_dead Nowhere = true

-- a byte more
abbrev pub number_step : Number → ℕ → Number
number_step (InRelease r) c = if c == 43 then (if release_is_ok r then InBuild Empty else Nowhere) else InRelease (release_step r c)
number_step (InBuild part) c = if c == 46 then (if build_is_ok part then InBuild Empty else Nowhere) else InBuild (part_step part c)
number_step Nowhere c = Nowhere
