use Rattle.std.proofs.Common.{◌≤◌, List, length, subst, sym}
use Rattle.wit_model.specs.declared.model.Package.{Package}
use Rattle.wit_bind.proofs.Growing.{few_bound}
use Rattle.bind_modules.proofs.named.named_by_bytes.Goals as goal

pub add_packages-requires-clause-many : goal.add_packages-requires-clause-many
add_packages-requires-clause-many c = subst (λ (packages : List Package). length packages ≤ 4294967295) (sym c.deref.ensures.value) (few_bound c.args.bound.now c.requires)
