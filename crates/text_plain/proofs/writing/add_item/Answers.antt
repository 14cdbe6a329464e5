use Rattle.std.proofs.Common.{◌∙◌, ap}
use Rattle.text_plain.specs.Files.{interface_at}
use Rattle.text_plain.proofs.FileLaws.{interface_plain, item_put, name_plain, world_plain}
use Rattle.text_plain.proofs.writing.add_item.Goals as goal

pub returns-in_ok-push-in-AnInterface : goal.returns-in_ok-push-in-AnInterface
returns-in_ok-push-in-AnInterface c = interface_plain c.args.scope.now c.args.item.now c.in-AnInterface.docs c.in-AnInterface.gates c.in-AnInterface.name c.in-AnInterface.members c.in-AnInterface.is
    c.args.queue.now.items _ _
    (item_put c.args.scope.now.place.whole.now c.args.items.now.items c.push.new.self.items c.in_ok-plain_interface-in-AnInterface.field-0 _ c.in_ok-push-in-AnInterface.ensures.items
    (c.in_ok-plain_interface-in-AnInterface.ensures ∙ ap (interface_at c.args.scope.now c.in-AnInterface.docs c.in-AnInterface.gates c.in-AnInterface.name) c.deref.ensures.value))

pub returns-in_ok-push-in-AWorld : goal.returns-in_ok-push-in-AWorld
returns-in_ok-push-in-AWorld c = world_plain c.args.scope.now c.args.item.now c.in-AWorld.docs c.in-AWorld.gates c.in-AWorld.name c.in-AWorld.field-3 c.in-AWorld.is
    c.args.queue.now.items c.next_members.new.queue.items c.in_ok-members-in-AWorld.members _ _ c.in_ok-members-in-AWorld.ensures
    (item_put c.args.scope.now.place.whole.now c.args.items.now.items c.push-in-AWorld.new.self.items c.plain_world.result _ c.in_ok-push-in-AWorld.ensures.items c.plain_world.ensures)

pub returns-in-AName : goal.returns-in-AName
returns-in-AName c = name_plain c.args.scope.now c.args.item.now c.in-AName.field-0 c.in-AName.field-1 c.in-AName.is c.args.queue.now.items _
