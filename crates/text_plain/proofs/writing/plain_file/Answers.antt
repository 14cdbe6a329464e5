use Rattle.std.proofs.Common.{refl, subst, List}
use Rattle.text_plain.specs.declared.scopes.{Scope.Scope}
use Rattle.text_plain.specs.Files.{GivesAll, IsPackage}
use Rattle.text_plain.specs.Worlds.{worlds_of_scope}
use Rattle.text_plain.proofs.FileLaws.{file_given, package_in}
use Rattle.text_plain.proofs.ScopeLaws.{own_place}
use Rattle.text_plain.proofs.WorldLaws.{nested_placed, scopes_placed_in}
use Rattle.text_plain.proofs.writing.plain_file.Goals as goal

pub plain_package-requires : goal.plain_package-requires
plain_package-requires c = own_place (c.requires 0 c.args.text.now.main refl)

pub plain_nested-requires : goal.plain_nested-requires
plain_nested-requires c = scopes_placed_in c.args.whole.now c.args.whole.now c.args.text.now.nested.items c.deref.result.now refl c.deref.ensures.value
    (nested_placed c.args.whole.now c.args.text.now c.requires)

pub returns : goal.returns
returns c =
    let here = c.requires 0 c.args.text.now.main refl in
    file_given c.args.whole.now c.args.text.now _ c.args.queue.now.items c.plain_package.new.queue.items c.plain_nested.new.queue.items
    (package_in c.args.text.now.main.place.whole.now c.args.whole.now c.args.text.now.main c.in_ok-main.main c.args.queue.now.items c.plain_package.new.queue.items here.is c.in_ok-main.ensures)
    (subst (λ (l : List Scope). GivesAll c.args.whole.now (IsPackage c.args.whole.now) worlds_of_scope l c.in_ok-nested.nested.items c.plain_package.new.queue.items c.plain_nested.new.queue.items)
    c.deref.ensures.value c.in_ok-nested.ensures)
