use Rattle.std.proofs.Common.{ap, ◌∙◌, arith}
use Rattle.text_trees.specs.Seen.{cut}
use Rattle.text_names.specs.Contents.{text_at}
use Rattle.text_names.specs.declared.sources.Named.TheVariants.{World}
use Rattle.text_names.proofs.TableLaws.{world_adds, world_fails, err_is, put_there, stands_there}
use Rattle.text_names.proofs.sources.Sources.add_world.Goals as goal

pub returns-then-not-branch-clause-err : goal.returns-then-not-branch-clause-err
returns-then-not-branch-clause-err c =
    let v = stands_there c.args.self.now.names.entries c.put.new.names.entries c.args.home c.cut.result.now (cut (text_at c.args.self.now.texts.now c.args.number) c.args.name)
    _ c.in_ok-put.field-0 (c.cut.ensures ∙ ap (λ t. cut t c.args.name) c.text.ensures) c.if-not-branch.true c.in_ok-put.ensures in
    err_is _ c.refused.result _ c.refused.ensures (world_fails c.args.self.now c.requires.index c.args.home c.args.number c.args.docs c.args.gates c.args.name c.args.members v.0 v.1)

pub returns-clause-ok : goal.returns-clause-ok
returns-clause-ok c =
    world_adds c.args.self.now c.requires.index c.args.home c.args.number c.args.docs c.args.gates c.args.name c.args.members c.put.new.names c.push.new.self
    (put_there c.args.self.now.names.entries c.put.new.names.entries c.args.home c.cut.result.now _ (World c.in_ok-number_behind.field-0) _ c.in_ok-put.field-0
    (c.cut.ensures ∙ ap (λ t. cut t c.args.name) c.text.ensures) (ap World (omega (arith, c.in_ok-number_behind.ensures.ok, c.len.ensures, c.args.self.now.worlds.ok))) c.if-not-branch.false
    c.in_ok-put.ensures)
    c.in_ok-push.ensures.items
