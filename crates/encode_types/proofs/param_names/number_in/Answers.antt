use Rattle.std.proofs.Common.{rules, IsSome}
use Rattle.std.specs.BTreeMap.Entry.{entry_value}
use Rattle.encode_types.proofs.param_names.number_in.Goals as goal

pub returns-clause-kept : goal.returns-clause-kept
returns-clause-kept c = λ s.
    let there : IsSome (entry_value c.in_ok-entry.entry) = rw (c.in_ok-entry.ensures.value, c.new.ensures) s in
    let kept = c.in_ok-entry.ensures.keys_stay there c.or_insert.result.now in
    search rules
