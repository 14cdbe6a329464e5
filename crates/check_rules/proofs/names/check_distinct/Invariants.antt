use Rattle.std.proofs.Common.{◌≡◌, map, drop, take, []}
use Rattle.wit_model.specs.Rules.{same_package_name}
use Rattle.wit_model.proofs.Distinct.{adds_new}
use Rattle.check_rules.proofs.names.check_distinct.Given as goal

-- the names so far were seen, and what is left decides
abbrev pub invariant-loop-number : goal.invariant-loop-number
invariant-loop-number l = record {
  seen : map (λ k. k.now) l.seen.keys ≡ take l.number (map (λ p. p.name) l.resolve.packages.items);
  same : adds_new same_package_name (map (λ k. k.now) l.seen.keys) (drop l.number (map (λ p. p.name) l.resolve.packages.items)) ≡ adds_new same_package_name []
      (map (λ p. p.name) l.resolve.packages.items);
}
