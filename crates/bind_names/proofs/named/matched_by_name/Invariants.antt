use Rattle.std.proofs.Common.{◌≡◌, map, take}
use Rattle.wit_model.specs.declared.model.Package.{Package}
use Rattle.bind_names.specs.Named.{found_by}
use Rattle.bind_names.proofs.named.matched_by_name.Given as goal

abbrev pub invariant-loop-package : goal.invariant-loop-package
invariant-loop-package l = l.matched.items ≡ map (λ (p : Package). found_by l.named p.name) (take l.package-index l.others)
