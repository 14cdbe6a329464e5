use Rattle.print_items.proofs.gates.write_deprecated.Goals as goal

pub returns-in-Some : goal.returns-in-Some
returns-in-Some g c = record { calls = rw c.in-Some.is c.write_version_attribute.ensures.calls }
