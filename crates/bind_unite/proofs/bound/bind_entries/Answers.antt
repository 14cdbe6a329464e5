use Rattle.std.proofs.Common.{◌≡◌, ◌∙◌, sym, subst}
use Rattle.wit_model.specs.declared.model.World.{World}
use Rattle.bind_copy.specs.Copies.{AreNewCopied}
use Rattle.bind_carry.proofs.CopiesPlaced.{some_same}
use Rattle.bind_unite.proofs.bound.bind_entries.Goals as goal

pub returns-clause-imports : goal.returns-clause-imports
returns-clause-imports c w v at_w at_v =
    let interfaces = c.args.numbers.interfaces.now in
    let types = c.args.numbers.types.now in
    let own = c.own_world-own.result.now in
    let other = c.other_world-other.result.now in
    let copy = c.in_ok-added.field-0 in
    let own_is : own ≡ w = some_same own w (sym c.own_world-own.ensures ∙ at_w) in
    let other_is : other ≡ v = some_same other v (sym c.other_world-other.ensures ∙ at_v) in
    subst (λ (x : World). AreNewCopied interfaces types x.imports.entries v.imports.entries copy.entries) own_is
    (subst (λ (y : World). AreNewCopied interfaces types own.imports.entries y.imports.entries copy.entries) other_is c.in_ok-added.ensures.items)

pub returns-clause-exports : goal.returns-clause-exports
returns-clause-exports c w v at_w at_v =
    let interfaces = c.args.numbers.interfaces.now in
    let types = c.args.numbers.types.now in
    let own = c.own_world-own.result.now in
    let other = c.other_world-other.result.now in
    let copy = c.in_ok-added-2.field-0 in
    let own_is : own ≡ w = some_same own w (sym c.own_world-own.ensures ∙ at_w) in
    let other_is : other ≡ v = some_same other v (sym c.other_world-other.ensures ∙ at_v) in
    subst (λ (x : World). AreNewCopied interfaces types x.exports.entries v.exports.entries copy.entries) own_is
    (subst (λ (y : World). AreNewCopied interfaces types own.exports.entries y.exports.entries copy.entries) other_is c.in_ok-added-2.ensures.items)
