use Rattle.std.proofs.Common.{sym}
use Rattle.plan_meaning.specs.NumberedMembers.{is_named_in}
use Rattle.read_rules.specs.Sights.{numbered_sight}
use Rattle.read_exports.specs.Members.{homes_alone}
use Rattle.read_exports.proofs.worlds.is_name_taken.Goals as goal
use Rattle.base_lemmas.proofs.Elements.{any_of_map as any_mapped}

pub loop-sight-init : goal.loop-sight-init
loop-sight-init c = sym (any_mapped (λ s. is_named_in (homes_alone c.args.homes.now) c.args.package_number c.args.name.now s.place) numbered_sight c.args.sights.now)
