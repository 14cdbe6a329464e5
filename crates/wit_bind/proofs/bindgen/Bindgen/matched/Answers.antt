use Rattle.wit_bind.specs.Merges.{IsMergeRefusal}
use Rattle.wit_bind.proofs.{Refusals.clash_is, Refusals.encodings_are, Uniting.unite}
use Rattle.base_lemmas.proofs.Options.{passed as err_is}
use Rattle.wit_bind.proofs.bindgen.Bindgen.matched.Goals as goal

pub refuse_clash-requires-clause-matches : goal.refuse_clash-requires-clause-matches
refuse_clash-requires-clause-matches c = record { packages = c.in_ok-matches.ensures.packages; interfaces = c.in_ok-matches.ensures.interfaces; worlds = c.in_ok-matches.ensures.worlds }

pub returns-in_err-refuse_clash-clause-refusal : goal.returns-in_err-refuse_clash-clause-refusal
returns-in_err-refuse_clash-clause-refusal c =
    let m = c.in_ok-matches.ensures in
    err_is (IsMergeRefusal c.args.self.now c.args.other.now) c.from_residual-in_err-refuse_clash.result c.in_err-refuse_clash.field-0.0 c.from_residual-in_err-refuse_clash.ensures.1
    (clash_is c.args.self.now c.args.other.now c.requires.own c.requires.others c.in_ok-matches.matches
    (record { packages = m.packages; interfaces = m.interfaces; worlds = m.worlds }) c.in_err-refuse_clash.field-0.0 c.in_err-refuse_clash.ensures.clash)

pub returns-in_err-refuse_clash-2-clause-refusal : goal.returns-in_err-refuse_clash-2-clause-refusal
returns-in_err-refuse_clash-2-clause-refusal c =
    let m = c.in_ok-matches.ensures in
    err_is (IsMergeRefusal c.args.self.now c.args.other.now) c.from_residual-in_err-refuse_clash-2.result c.in_err-refuse_clash-2.field-0.0 c.from_residual-in_err-refuse_clash-2.ensures.1
    (encodings_are c.args.self.now c.args.other.now c.requires.own c.requires.others c.in_ok-matches.matches
    (record { packages = m.packages; interfaces = m.interfaces; worlds = m.worlds }) c.in_ok-refuse_clash.ensures.none c.in_err-refuse_clash-2.field-0.0
    c.in_err-refuse_clash-2.ensures.refusal)

pub returns-clause-matched : goal.returns-clause-matched
returns-clause-matched c = record { packages = c.in_ok-matches.ensures.packages; interfaces = c.in_ok-matches.ensures.interfaces; worlds = c.in_ok-matches.ensures.worlds }

pub returns-clause-none : goal.returns-clause-none
returns-clause-none c = c.in_ok-refuse_clash.ensures.none

pub returns-clause-united : goal.returns-clause-united
returns-clause-united c =
    let m = c.in_ok-matches.ensures in
    unite c.args.self.now c.args.other.now c.requires.own c.requires.others c.in_ok-matches.matches (record { packages = m.packages; interfaces = m.interfaces; worlds = m.worlds })
    c.in_ok-refuse_clash.ensures.none c.in_ok-refuse_clash-2.ensures.imports c.in_ok-refuse_clash-2.ensures.exports
