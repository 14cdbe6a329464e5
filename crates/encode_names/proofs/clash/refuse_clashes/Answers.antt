use Rattle.encode_names.proofs.Refusing.{imports_refused, exports_refused}
use Rattle.encode_names.proofs.clash.refuse_clashes.Goals as goal

pub returns-in_err-refuse_clash-clause-refuses : goal.returns-in_err-refuse_clash-clause-refuses
returns-in_err-refuse_clash-clause-refuses c = imports_refused c.args.resolve.now c.args.world.now c.args.canonical_names c.if-not-canonical_names.false c.in_err-refuse_clash.field-0.0
    c.from_residual.result c.in_err-refuse_clash.ensures.refuses c.from_residual.ensures.1

pub returns-clause-refuses : goal.returns-clause-refuses
returns-clause-refuses c = exports_refused c.args.resolve.now c.args.world.now c.args.canonical_names c.if-not-canonical_names.false c.in_ok-refuse_clash.ensures.ok c.refuse_clash-2.result
    c.refuse_clash-2.ensures.refuses
