use Rattle.std.proofs.{Common.ap, Common.Err, lemmas.Option.slice_get_within}
use Rattle.base_lemmas.proofs.Options.{passed}
use Rattle.witc_written.specs.Carried.{RefusesEmbedded, unread, unwritten}
use Rattle.witc_written.proofs.carried.embed.Goals as goal

pub returns-in_err-resolve-clause-refused : goal.returns-in_err-resolve-clause-refused
returns-in_err-resolve-clause-refused c =
    let e = c.in_err-resolve.field-0.0 in
    passed (RefusesEmbedded c.args.bytes.now c.args.name.now c.args.canonical_names) c.from_residual.result e c.from_residual.ensures.1 (unread e c.in_err-resolve.ensures.refuses)

pub world_of-requires-clause-in_range : goal.world_of-requires-clause-in_range
world_of-requires-clause-in_range c =
    let is = c.in_ok-resolve.ensures.decoded in
    slice_get_within c.in_ok-resolve.resolve.packages.items c.in_ok-resolve.id.0 is.package_ is.stands

pub returns-in_default-clause-embedded : goal.returns-in_default-clause-embedded
returns-in_default-clause-embedded c = record { resolve = c.in_ok-resolve.resolve; number = c.in_ok-resolve.id.0; decoded = c.in_ok-resolve.ensures.decoded; named = c.in_default.ensures }

pub encode-requires-clause-in_range : goal.encode-requires-clause-in_range
encode-requires-clause-in_range c = slice_get_within c.in_ok-resolve.resolve.worlds.items c.in-Some.world.0 c.in-Some.ensures.0 c.in-Some.ensures.1

pub returns-in_err-data-clause-refused : goal.returns-in_err-data-clause-refused
returns-in_err-data-clause-refused c =
    let e = c.in_err-data.field-0.0 in
    passed (RefusesEmbedded c.args.bytes.now c.args.name.now c.args.canonical_names) c.from_residual-in_err-data.result e c.from_residual-in_err-data.ensures.1
    (unwritten c.in_ok-resolve.resolve c.in_ok-resolve.id.0 c.in-Some.world e c.in_ok-resolve.ensures.decoded c.in_ok-resolve.ensures.order c.in-Some.ensures c.in_err-data.ensures.refuses
    (λ is. c.in_err-data.ensures.size (ap Err is)))

pub returns-clause-embedded : goal.returns-clause-embedded
returns-clause-embedded c = record {
  resolve = c.in_ok-resolve.resolve;
  number = c.in_ok-resolve.id.0;
  world = c.in-Some.world;
  decoded = c.in_ok-resolve.ensures.decoded;
  order = c.in_ok-resolve.ensures.order;
  named = c.in-Some.ensures;
  means = c.in_ok-data.ensures.means;
  says = c.in_ok-data.ensures.encoding;
  carries = c.in_ok-data.ensures.carries;
  differ = c.in_ok-data.ensures.differ;
}
