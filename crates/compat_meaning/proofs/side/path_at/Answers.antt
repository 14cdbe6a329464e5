use Rattle.std.proofs.Common.{sym}
use Rattle.compat_meaning.proofs.Sided.{parts_known}
use Rattle.compat_meaning.proofs.side.path_at.Goals as goal

pub returns-in-Some-clause-known : goal.returns-in-Some-clause-known
returns-in-Some-clause-known c =
    let k = parts_known c.args.side.now.resolve.now c.requires.valid c.args.id.0 (c.in-Some.home.now, c.in-Some.name.now) (sym c.in-Some.ensures) in
    record { version = k.0; identity = k.1; label = k.2 }
