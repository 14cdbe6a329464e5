-- The values of options, and the shells that are named.
use Rattle.std.specs.Prelude.{ℕ, ◌+◌, ◌-◌, ◌*◌, nat_lt, nat_eq, ◌||◌, Bool, [], ◌∷◌, codes, length, Option, Some, None, if◌then◌else◌}
use Rattle.teasel_words.specs.Table.{Text, is_same}
use Rattle.teasel_words.specs.declared.choices.{Color.Color, Encoding.Encoding, Kind.Kind}
use Rattle.teasel_words.specs.declared.choices.Color.TheVariants as colors
use Rattle.teasel_words.specs.declared.choices.Encoding.TheVariants as encodings
use Rattle.teasel_words.specs.declared.choices.Kind.TheVariants as kinds
use Rattle.teasel_words.specs.declared.pages.Shell.{Shell}
use Rattle.teasel_words.specs.declared.pages.Shell.TheVariants as shells

-- the kind of this name
unfoldable pub kind_named : Text → Option Kind
kind_named t = if is_same t (codes "package") then Some kinds.Package else
    (if is_same t (codes "world") then Some kinds.World else (if is_same t (codes "module") then Some kinds.Module else None))

-- the string encoding of this name
unfoldable pub encoding_named : Text → Option Encoding
encoding_named t = if is_same t (codes "utf8") then Some encodings.Utf8 else
    (if is_same t (codes "utf16") then Some encodings.Utf16 else (if is_same t (codes "latin1+utf16") then Some encodings.Latin1Utf16 else None))

-- when an answer is coloured, by this name
unfoldable pub color_named : Text → Option Color
color_named t = if is_same t (codes "auto") then Some colors.Auto else
    (if is_same t (codes "always") then Some colors.Always else (if is_same t (codes "never") then Some colors.Never else None))

-- the shell of this name
unfoldable pub shell_named : Text → Option Shell
shell_named t = if is_same t (codes "bash") then Some shells.Bash else
    (if is_same t (codes "zsh") then Some shells.Zsh else (if is_same t (codes "fish") then Some shells.Fish else None))

-- whether a byte is no decimal digit
abbrev pub is_no_digit : ℕ → Bool
is_no_digit c = nat_lt c 48 || nat_lt 57 c

-- a number with one more decimal digit behind it, if it stays below 2^33
unfoldable pub more_digits : ℕ → ℕ → Option ℕ
more_digits n c = if is_no_digit c then None else (if nat_lt (n * 10 + (c - 48)) 8589934592 then Some (n * 10 + (c - 48)) else None)

-- how many bytes a unit is
unfoldable pub unit_named : ℕ → Option ℕ
unit_named c = if nat_eq c 75 || nat_eq c 107 then Some 1024 else
    (if nat_eq c 77 || nat_eq c 109 then Some 1048576 else (if nat_eq c 71 || nat_eq c 103 then Some 1073741824 else None))

-- so many of this unit
abbrev pub times : ℕ → Option ℕ → Option ℕ
times n None = None
times n (Some unit) = Some (n * unit)

-- the same where nothing is left behind the unit
unfoldable pub in_units : ℕ → ℕ → ℕ → Option ℕ
in_units n c left = if nat_lt 0 left then None else times n (unit_named c)

-- one value or another, by whether something is there
abbrev pub or_else : Option ℕ → Option ℕ → (ℕ → Option ℕ) → Option ℕ
or_else None other f = other
or_else (Some n) other f = f n

-- the size that digits and a unit behind this number make
abbrev pub size_from : ℕ → Text → Option ℕ
size_from n [] = Some n
size_from n (c ∷ cs) = or_else (more_digits n c) (in_units n c (length cs)) (λ next. size_from next cs)

-- a size in bytes: decimal digits, and `K`, `M` or `G` behind them or not
abbrev pub size_named : Text → Option ℕ
size_named [] = None
size_named (c ∷ cs) = if is_no_digit c then None else size_from 0 (c ∷ cs)
