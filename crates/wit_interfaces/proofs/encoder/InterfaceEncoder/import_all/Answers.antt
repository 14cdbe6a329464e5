use Rattle.std.proofs.Common.{refl, sym, subst, ℕ, List, rules}
use Rattle.wit_model.proofs.Elements.{none-in}
use Rattle.std.specs.List.{Contains}
use Rattle.wit_interfaces.proofs.Calls.{stays-as-it-is}
use Rattle.wit_interfaces.proofs.Chain.{all-imported, all-taken, all-stand, leaves-both, next-in-part, next-lacks, next-named, next-uses}
use Rattle.wit_interfaces.proofs.encoder.InterfaceEncoder.import_all.Goals as goal
use Rattle.base_lemmas.proofs.Options.{at_err as on-err}

pub loop-interface-init : goal.loop-interface-init
loop-interface-init c = record { leaves = stays-as-it-is c.args.self.now c.requires.can; stand = λ n h. none-in n h; imports = refl }

pub import_interface-requires-clause-can : goal.import_interface-requires-clause-can
import_interface-requires-clause-can c = c.loop-interface.invariant.leaves.can

pub import_interface-requires-clause-named : goal.import_interface-requires-clause-named
import_interface-requires-clause-named c = next-named c.args.self.now c.loop-interface.self c.args.interfaces.now c.loop-interface.interface-index c.loop-interface-test.true c.requires.importable
    c.loop-interface.invariant.leaves c.loop-interface.invariant.stand

pub import_interface-requires-clause-uses : goal.import_interface-requires-clause-uses
import_interface-requires-clause-uses c = next-uses c.args.self.now c.loop-interface.self c.args.interfaces.now c.loop-interface.interface-index c.loop-interface-test.true c.requires.importable
    c.loop-interface.invariant.leaves c.loop-interface.invariant.stand

pub loop-interface-preserved : goal.loop-interface-preserved
loop-interface-preserved c = record {
  leaves = leaves-both c.args.self.now c.loop-interface.self c.import_interface.new.self c.loop-interface.invariant.leaves c.import_interface.ensures.leaves;
  stand = all-stand c.args.self.now c.loop-interface.self c.args.interfaces.now c.loop-interface.interface-index c.loop-interface-test.true c.requires.importable c.loop-interface.invariant.leaves
      c.loop-interface.invariant.stand c.import_interface.new.self c.import_interface.ensures.leaves c.in_ok-import_interface.ensures.stands;
  imports = all-imported c.args.self.now c.loop-interface.self c.args.interfaces.now c.loop-interface.interface-index c.loop-interface-test.true c.requires.importable c.loop-interface.invariant.leaves
      c.loop-interface.invariant.stand c.import_interface.new.self c.loop-interface.invariant.imports c.in_ok-import_interface.ensures.ok c.import_interface.ensures.leaves;
}

pub returns-clause-leaves : goal.returns-clause-leaves
returns-clause-leaves c = c.loop-interface.invariant.leaves

pub returns-in_err-import_interface-clause-leaves : goal.returns-in_err-import_interface-clause-leaves
returns-in_err-import_interface-clause-leaves c = leaves-both c.args.self.now c.loop-interface.self c.import_interface.new.self c.loop-interface.invariant.leaves c.import_interface.ensures.leaves

pub returns-in_err-import_interface-clause-size : goal.returns-in_err-import_interface-clause-size
returns-in_err-import_interface-clause-size c = λ h. next-lacks c.args.self.now c.loop-interface.self c.args.interfaces.now c.loop-interface.interface-index c.loop-interface-test.true
    c.requires.importable c.loop-interface.invariant.leaves c.loop-interface.invariant.stand c.loop-interface.invariant.imports (c.import_interface.ensures.size (search rules))

pub returns-in_err-import_interface-clause-err : goal.returns-in_err-import_interface-clause-err
returns-in_err-import_interface-clause-err c = on-err _ (next-in-part c.args.self.now c.loop-interface.self c.args.interfaces.now c.loop-interface.interface-index c.loop-interface-test.true
    c.requires.importable c.loop-interface.invariant.leaves c.loop-interface.invariant.stand c.import_interface.new.self c.loop-interface.invariant.imports (search rules))

pub returns-clause-stand : goal.returns-clause-stand
returns-clause-stand c = λ n h. c.loop-interface.invariant.stand n (subst (λ (xs : List ℕ). Contains xs n)
    (sym (all-taken c.args.interfaces.now c.loop-interface.interface-index c.loop-interface-test.false)) h)
