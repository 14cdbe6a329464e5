use Rattle.std.proofs.Common.{◌≡◌, ◌≤◌, ◌-◌, map}
use Rattle.std.specs.List.{range_with_len}
use Rattle.witc_texts.proofs.modules.other_packages.Given as goal

-- the packages so far
abbrev pub invariant-loop-number : goal.invariant-loop-number
invariant-loop-number l = record { some : 1 ≤ l.number; so_far : l.others.items ≡ map (λ n. record { 0 = n }) (range_with_len 1 (l.number - 1)) }
