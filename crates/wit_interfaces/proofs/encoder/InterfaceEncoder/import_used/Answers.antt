use Rattle.std.proofs.{Common.refl, Common.sym, Common.subst, Common.List, lemmas.Result.on_err_weaker as each-err, lemmas.Result.on_ok_weaker as on-each}
use Rattle.std.specs.List.{Contains}
use Rattle.wit_model.specs.Uses.{direct_deps}
use Rattle.wit_model.specs.declared.model.{Resolve.Resolve, InterfaceId.InterfaceId}
use Rattle.wit_encode.specs.Dependencies.{AreImportable}
use Rattle.wit_encode.proofs.ImportLoop.{numbers, reached-importable, reached-used}
use Rattle.wit_interfaces.specs.InterfaceEncoders.{ImportsSome, LacksOneImport, some, unchanged}
use Rattle.base_lemmas.proofs.Options.{at_err as on-err}
use Rattle.wit_interfaces.proofs.encoder.InterfaceEncoder.import_used.Goals as goal

pub import_all-requires-clause-importable : goal.import_all-requires-clause-importable
import_all-requires-clause-importable c = subst (λ (xs : List InterfaceId). AreImportable c.args.self.now.encoder.resolve.now (numbers xs)) (sym c.deref.ensures.value)
    (reached-importable c.args.self.now.encoder.resolve.now c.requires.can.valid c.args.interface.0 (numbers c.in_ok-reached.reached.items) c.in_ok-reached.ensures.reached)

pub returns-clause-uses : goal.returns-clause-uses
returns-clause-uses c = on-each c.import_all.result (λ stand j d. stand j (subst (λ (xs : List InterfaceId). Contains (numbers xs) j) (sym c.deref.ensures.value)
    (reached-used c.args.self.now.encoder.resolve.now c.args.interface.0 (numbers c.in_ok-reached.reached.items) c.in_ok-reached.ensures.reached j
    (subst (λ (r : Resolve). Contains (direct_deps r c.args.interface.0) j) c.import_all.ensures.leaves.packages_ d)))) c.import_all.ensures.stand

pub returns-in_err-reached-clause-err : goal.returns-in_err-reached-clause-err
returns-in_err-reached-clause-err c = on-err _ (unchanged refl)

pub returns-clause-err : goal.returns-clause-err
returns-clause-err c = each-err c.import_all.result (λ h. some c.in_ok-reached.reached.items c.in_ok-reached.ensures.order
    (subst (λ (xs : List InterfaceId). ImportsSome c.args.self.now c.import_all.new.self xs) c.deref.ensures.value h)) c.import_all.ensures.err

pub returns-clause-size : goal.returns-clause-size
returns-clause-size c = λ h. record {
  reached = c.in_ok-reached.reached.items;
  are = c.in_ok-reached.ensures.order;
  lacks = subst (λ (xs : List InterfaceId). LacksOneImport c.args.self.now xs) c.deref.ensures.value (c.import_all.ensures.size h);
}
