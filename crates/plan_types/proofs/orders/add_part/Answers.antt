use Rattle.plan_types.proofs.OrderLaws.{interface_joined}
use Rattle.plan_types.proofs.orders.add_part.Goals as goal

pub returns-in_ok-add_imports-in-Interface : goal.returns-in_ok-add_imports-in-Interface
returns-in_ok-add_imports-in-Interface c = interface_joined c.add_place.result c.args.part c.in-Interface.place c.in-Interface.field-1 c.in-Interface.imports c.in-Interface.is c.args.places.now.keys
    c.add_imports.new.places.keys c.add_place.new.places.keys c.in_ok-add_imports-in-Interface.ensures c.add_place.ensures
