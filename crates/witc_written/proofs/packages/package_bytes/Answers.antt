use Rattle.std.proofs.lemmas.Option.{slice_get_within}
use Rattle.base_lemmas.proofs.Options.{passed}
use Rattle.witc_written.specs.Written.{RefusesEncoded, unread}
use Rattle.witc_written.proofs.WrittenLaws.{encodes, refuses}
use Rattle.witc_written.proofs.packages.package_bytes.Goals as goal

pub returns-in_err-resolve-clause-refused : goal.returns-in_err-resolve-clause-refused
returns-in_err-resolve-clause-refused c =
    let e = c.in_err-resolve.field-0.0 in
    passed (RefusesEncoded c.args.bytes.now c.args.canonical_names) c.from_residual.result e c.from_residual.ensures.1 (unread e c.in_err-resolve.ensures.refuses)

pub encode-requires-clause-in_range : goal.encode-requires-clause-in_range
encode-requires-clause-in_range c =
    let is = c.in_ok-resolve.ensures.decoded in
    slice_get_within c.in_ok-resolve.resolve.packages.items c.in_ok-resolve.id.0 is.package_ is.stands

pub returns-clause-encoded : goal.returns-clause-encoded
returns-clause-encoded c = encodes c.encoding_keeps_that_meaning.ensures.encoded c.encoding_keeps_that_meaning.ensures.members c.args.bytes.now c.in_ok-resolve.resolve c.in_ok-resolve.id
    c.args.canonical_names c.in_ok-resolve.ensures.decoded c.in_ok-resolve.ensures.order c.encode.result c.encode.ensures.means c.encode.ensures.holds c.encode.ensures.differ

pub returns-clause-refused : goal.returns-clause-refused
returns-clause-refused c = refuses c.args.bytes.now c.in_ok-resolve.resolve c.in_ok-resolve.id.0 c.args.canonical_names c.in_ok-resolve.ensures.decoded c.in_ok-resolve.ensures.order c.encode.result
    c.encode.ensures.refuses c.encode.ensures.size
