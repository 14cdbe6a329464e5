use Rattle.std.proofs.Common.{[], ◌∷◌}
use Rattle.base_lemmas.proofs.Options.{passed}
use Rattle.text_names.specs.Tables.{FailsPackages}
use Rattle.text_names.proofs.TableLaws.{package_adds, package_fails}
use Rattle.text_names.proofs.sources.Sources.add_package.Goals as goal

pub returns-in_err-add_items-clause-err : goal.returns-in_err-add_items-clause-err
returns-in_err-add_items-clause-err c =
    passed (FailsPackages c.args.self.now c.args.number (c.args.tree.now ∷ [])) c.from_residual-in_err-add_items.result c.in_err-add_items.field-0.0 c.from_residual-in_err-add_items.ensures.1
    (package_fails c.args.self.now c.number_of.new.self c.args.number c.in_ok-home.home c.args.tree.now c.in_err-add_items.field-0.0 c.in_ok-home.ensures.ok c.in_err-add_items.ensures.err)

pub returns-clause-ok : goal.returns-clause-ok
returns-clause-ok c =
    (package_adds c.args.self.now c.number_of.new.self c.add_items.new.self c.args.number c.in_ok-home.home c.args.tree.now c.in_ok-home.ensures.ok c.in_ok-add_items.ensures.ok).0
