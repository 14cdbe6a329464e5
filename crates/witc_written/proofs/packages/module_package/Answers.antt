use Rattle.base_lemmas.proofs.Options.{passed}
use Rattle.witc_texts.proofs.BindingsLaws.{some-packages}
use Rattle.witc_written.specs.Written.{RefusesEncodedModule, unbound}
use Rattle.witc_written.proofs.WrittenLaws.{module-encodes, module-refuses}
use Rattle.witc_written.proofs.packages.module_package.Goals as goal

pub returns-in_err-_module-clause-refused : goal.returns-in_err-_module-clause-refused
returns-in_err-_module-clause-refused c =
    let e = c.in_err-_module.field-0.0 in
    passed (RefusesEncodedModule c.args.bytes.now) c.from_residual.result e c.from_residual.ensures.1 (unbound e c.in_err-_module.ensures.refuses c.in_err-_module.ensures.size)

pub encode-requires-clause-in_range : goal.encode-requires-clause-in_range
encode-requires-clause-in_range c = some-packages c.in_ok-_module.bound.resolve c.in_ok-_module.ensures.root

pub returns-clause-encoded : goal.returns-clause-encoded
returns-clause-encoded c = module-encodes c.args.bytes.now c.in_ok-_module.bound c.in_ok-_module.ensures.bound c.in_ok-_module.ensures.reached c.in_ok-_module.ensures.valid
    c.in_ok-_module.ensures.root c.encode.result c.encode.ensures.means c.encode.ensures.holds

pub returns-clause-refused : goal.returns-clause-refused
returns-clause-refused c = module-refuses c.args.bytes.now c.in_ok-_module.bound c.in_ok-_module.ensures.bound c.in_ok-_module.ensures.reached c.encode.result c.encode.ensures.refuses
    c.encode.ensures.size
