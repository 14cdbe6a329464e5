use Rattle.std.proofs.Common.{refl}
use Rattle.text_plain.proofs.FileLaws.{package_given}
use Rattle.text_plain.proofs.writing.plain_package.Goals as goal

pub returns : goal.returns
returns c = package_given c.args.scope.now.place.whole.now c.args.scope.now _ c.args.queue.now.items c.plain_items.new.queue.items refl refl refl c.in_ok-plain_items.ensures
