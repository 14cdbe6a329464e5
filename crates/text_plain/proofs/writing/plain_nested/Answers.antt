use Rattle.text_plain.specs.Files.{IsPackage}
use Rattle.text_plain.specs.Worlds.{worlds_of_scope}
use Rattle.text_plain.proofs.FileLaws.{given_turn, none_given, package_in}
use Rattle.text_plain.proofs.ScopeLaws.{own_place}
use Rattle.text_plain.proofs.WorldLaws.{scope_there}
use Rattle.text_plain.proofs.writing.plain_nested.Goals as goal

pub loop-scope-init : goal.loop-scope-init
loop-scope-init c = none_given c.args.whole.now (IsPackage c.args.whole.now) worlds_of_scope c.args.queue.now.items _ c.new-packages.ensures.items

pub plain_package-requires : goal.plain_package-requires
plain_package-requires c = own_place (scope_there c.args.whole.now c.args.scopes.now c.loop-scope.scope-index c.scope-item.result c.requires c.loop-scope-test.true c.scope-item.is)

pub loop-scope-preserved : goal.loop-scope-preserved
loop-scope-preserved c =
    let here = scope_there c.args.whole.now c.args.scopes.now c.loop-scope.scope-index c.scope-item.result c.requires c.loop-scope-test.true c.scope-item.is in
    given_turn c.args.whole.now (IsPackage c.args.whole.now) worlds_of_scope c.args.scopes.now c.loop-scope.scope-index c.scope-item.result c.loop-scope.packages.items c.push.new.self.items
    c.in_ok-plain_package.field-0 c.args.queue.now.items c.loop-scope.queue.items c.plain_package.new.queue.items c.loop-scope-test.true c.scope-item.is c.in_ok-push.ensures.items
    c.loop-scope.invariant
    (package_in c.scope-item.result.place.whole.now c.args.whole.now c.scope-item.result c.in_ok-plain_package.field-0 c.loop-scope.queue.items c.plain_package.new.queue.items here.is
    c.in_ok-plain_package.ensures)
