-- How long a walk is.
use Rattle.std.specs.Prelude.{ℕ, suc, zero, List, drop, length, sum_by}
use Rattle.wit_text.specs.Steps.{Frame}
use Rattle.text_plain.specs.Orders.{needed}

-- how many steps a walk takes from an interface with these needs left, where nothing is reached over more needs than this
unfoldable pub steps : List (List ℕ) → ℕ → List ℕ → ℕ
steps links zero own = 1
steps links (suc d) own = suc (sum_by (λ m. suc (steps links d (needed links m))) own)

-- how many it takes at most from an interface with so many needs done
abbrev pub frame_steps : List (List ℕ) → Frame → ℕ
frame_steps links frame = steps links (length links) (drop frame.1 (needed links frame.0))

-- how many it takes at most from a path
abbrev pub path_steps : List (List ℕ) → List Frame → ℕ
path_steps links frames = sum_by (frame_steps links) frames
