use Rattle.base_lemmas.proofs.Options.{if_ok}
use Rattle.text_plain.proofs.FileLaws.{files_are}
use Rattle.text_plain.proofs.plain.files_in.Goals as goal

pub returns : goal.returns
returns c texts are = if_ok _ _
    (λ files given. files_are c.args.whole.now texts c.args.scopes.now c.in_ok-worlds.worlds c.in_ok-done.done.items c.from-queue.result.items c.files_of.new.queue.items files.items are
    c.in_ok-worlds.ensures.whole c.in_ok-worlds.ensures.worlds c.in_ok-done.ensures c.from-queue.ensures.0 given)
    c.files_of.result c.files_of.ensures
