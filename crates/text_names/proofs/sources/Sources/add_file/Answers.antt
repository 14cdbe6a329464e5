use Rattle.base_lemmas.proofs.Options.{err_said, on_ok, passed}
use Rattle.text_names.specs.Contents.{items_of}
use Rattle.text_names.specs.Tables.{Fails}
use Rattle.text_names.proofs.TableLaws.{file_adds, first_fails, nested_fails}
use Rattle.text_names.proofs.sources.Sources.add_file.Goals as goal

pub returns-in_err-main-clause-err : goal.returns-in_err-main-clause-err
returns-in_err-main-clause-err c = passed (Fails c.args.self.now (items_of c.args.number c.args.source.now)) c.from_residual.result c.in_err-main.field-0.0 c.from_residual.ensures.1
    (first_fails c.args.self.now c.args.number c.args.source.now c.requires.text c.in_err-main.field-0.0 c.in_err-main.ensures.err)

pub returns-clause-ok : goal.returns-clause-ok
returns-clause-ok c = on_ok c.add_nested.result _ _ c.add_nested.ensures.ok
    (file_adds c.args.self.now c.args.number c.args.source.now c.requires.text c.add_package.new.self c.add_nested.new.self c.in_ok-main.main c.push.new.self c.in_ok-main.ensures.ok
    c.in_ok-main.ensures.number c.in_ok-push.ensures.items)

pub returns-clause-err : goal.returns-clause-err
returns-clause-err c = err_said _ _
    (nested_fails c.args.self.now c.args.number c.args.source.now c.requires.text c.add_package.new.self c.add_nested.new.self c.in_ok-main.main c.push.new.self c.in_ok-main.ensures.ok
    c.in_ok-main.ensures.number c.in_ok-push.ensures.items)
    c.add_nested.result c.add_nested.ensures.err
