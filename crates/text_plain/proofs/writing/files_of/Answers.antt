use Rattle.std.specs.List.{flat_map}
use Rattle.text_plain.specs.Files.{IsFile}
use Rattle.text_plain.specs.Worlds.{scopes_in, worlds_of_scope}
use Rattle.text_plain.proofs.FileLaws.{given_turn, none_given}
use Rattle.text_plain.proofs.WorldLaws.{text_there}
use Rattle.text_plain.proofs.writing.files_of.Goals as goal

pub loop-text-init : goal.loop-text-init
loop-text-init c = none_given c.args.whole.now (IsFile c.args.whole.now) (λ t. flat_map worlds_of_scope (scopes_in t)) c.args.queue.now.items _ c.new-files.ensures.items

pub plain_file-requires : goal.plain_file-requires
plain_file-requires c = text_there c.args.whole.now c.args.texts.now c.loop-text.text-index c.text-item.result c.requires c.loop-text-test.true c.text-item.is

pub loop-text-preserved : goal.loop-text-preserved
loop-text-preserved c =
    given_turn c.args.whole.now (IsFile c.args.whole.now) (λ t. flat_map worlds_of_scope (scopes_in t)) c.args.texts.now c.loop-text.text-index c.text-item.result c.loop-text.files.items
    c.push.new.self.items c.in_ok-plain_file.field-0 c.args.queue.now.items c.loop-text.queue.items c.plain_file.new.queue.items c.loop-text-test.true c.text-item.is c.in_ok-push.ensures.items
    c.loop-text.invariant c.in_ok-plain_file.ensures
