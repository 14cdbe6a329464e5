-- Bytes as lines of hexadecimal digits.
use Rattle.std.specs.Prelude.{ℕ, ◌+◌, ◌/◌, ◌%◌, ◌==◌, ◌||◌, nat_lt, if◌then◌else◌, List, [], ◌∷◌, length}

-- the digit of a number below sixteen, in lower case
abbrev pub digit_of : ℕ → ℕ
digit_of n = if nat_lt n 10 then 48 + n else 87 + n

-- what stands behind the byte of this number, where so many are left: a line end where a line of sixteen is full and behind the last byte,
-- else a space
abbrev pub mark_behind : ℕ → ℕ → ℕ
mark_behind n left = if (n % 16 == 15) || (left == 0) then 10 else 32

-- the bytes from this number on, two digits each
abbrev pub hex_from : ℕ → List ℕ → List ℕ
hex_from n [] = []
hex_from n (b ∷ rest) = digit_of (b / 16) ∷ (digit_of (b % 16) ∷ (mark_behind n (length rest) ∷ hex_from (n + 1) rest))

-- all of them
abbrev pub hex_text : List ℕ → List ℕ
hex_text bytes = hex_from 0 bytes
