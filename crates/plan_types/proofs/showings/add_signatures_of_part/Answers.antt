use Rattle.plan_types.proofs.SignatureLaws.{both_added}
use Rattle.plan_types.proofs.showings.add_signatures_of_part.Goals as goal

pub returns-in_ok-add_all_signatures-in-World : goal.returns-in_ok-add_all_signatures-in-World
returns-in_ok-add_all_signatures-in-World c = both_added c.add_all_signatures-in-World.result c.args.part c.in-World.scope c.in-World.is c.args.all.now.items c.add_all_signatures.new.all.items
    c.add_all_signatures-in-World.new.all.items c.in_ok-add_all_signatures-in-World.ensures c.add_all_signatures-in-World.ensures
