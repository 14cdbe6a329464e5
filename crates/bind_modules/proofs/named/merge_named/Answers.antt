use Rattle.std.proofs.Common.{◌≡◌, ◌∙◌, ◌≤◌, ℕ, List, length, map, take, arith, rules, ap, subst, sym}
use Rattle.wit_model.specs.declared.model.Package.{Package}
use Rattle.bind_match.specs.Matching.{own_package_of}
use Rattle.bind_names.specs.Named.{AreNamed}
use Rattle.wit_bind.proofs.Growing.{few_bound}
use Rattle.bind_modules.proofs.KnownNames.{more_packages, still_named}
use Rattle.bind_modules.proofs.named.merge_named.Goals as goal

pub merge_matched-requires-clause-packages : goal.merge_matched-requires-clause-packages
merge_matched-requires-clause-packages c =
    let own = c.args.bound.now.resolve.packages.items in
    c.in_ok-packages.ensures own c.requires.named ∙ ap (λ (packages : List Package). map (own_package_of own) packages) c.deref.ensures.value

pub add_packages-requires-clause-many : goal.add_packages-requires-clause-many
add_packages-requires-clause-many c =
    subst (λ (packages : List Package). length packages ≤ 4294967295) (sym c.deref-2.ensures.value) (few_bound c.merge_matched.new.own c.in_ok-_keys.ensures.merged.valid)

pub add_packages-requires-clause-range : goal.add_packages-requires-clause-range
add_packages-requires-clause-range c =
    let more = more_packages c.args.bound.now.resolve c.merge_matched.new.own.resolve c.args.bound.now.world.0 c.in_ok-_keys.ensures.merged.extends in
    let known : c.len-known.result ≡ length c.args.bound.now.resolve.packages.items = search rules in
    let all = ap length c.deref-2.ensures.value in
    omega (arith, more, known, all)

pub add_packages-requires-clause-known : goal.add_packages-requires-clause-known
add_packages-requires-clause-known c =
    let known : c.len-known.result ≡ length c.args.bound.now.resolve.packages.items = search rules in
    subst (λ (n : ℕ). AreNamed (take n c.deref-2.result.now) c.args.named.now) (sym known)
    (subst (λ (packages : List Package). AreNamed (take (length c.args.bound.now.resolve.packages.items) packages) c.args.named.now) (sym c.deref-2.ensures.value)
    (still_named c.args.bound.now.resolve c.merge_matched.new.own.resolve c.args.bound.now.world.0 c.args.named.now c.in_ok-_keys.ensures.merged.extends c.requires.named))

pub returns-clause-merged : goal.returns-clause-merged
returns-clause-merged c = (c.in_ok-_keys._keys.keys, c.in_ok-_keys.ensures.merged)
