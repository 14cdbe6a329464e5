use Rattle.print_items.proofs.{Constructors.member_prefix, Constructors.member_whole, Driven.driven_on}
use Rattle.print_items.proofs.resource.write_resource_function.Goals as goal

pub write_prefix-requires : goal.write_prefix-requires
write_prefix-requires g c = record { well = member_prefix c.args.resolve.now c.args.function.now c.requires.well }

pub returns : goal.returns
returns g c = record { calls = driven_on c.write_prefix.ensures.calls c.write_member.ensures.calls (member_whole c.args.resolve.now c.args.function.now c.requires.well c.args.emits_docs) }
