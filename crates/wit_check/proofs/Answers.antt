-- What an answer of `check` says.
use Rattle.std.proofs.Common.{refl, Result, Ok, Err, IfErr, IsOkUnless}
use Rattle.wit_model.specs.declared.{error.Fault.Fault, model.Resolve.Resolve}
use Rattle.wit_model.specs.Valid.{IsFaultOf, IsValid}
use Rattle.wit_model.proofs.Entries.{none_breaks}
use Rattle.wit_model.specs.declared.error.Fault.TheVariants as faults

-- a valid `Resolve` is refused for want of memory alone
pub no_fault : {A : Type 0} (r : Resolve) (answer : Result A Fault) → IfErr answer (IsFaultOf r) → IsValid r → IsOkUnless answer faults.Memory
no_fault r (Ok x) h valid = tt
no_fault r (Err faults.Memory) h valid = refl
no_fault r (Err (faults.Broken rule list number)) h valid = absurd (none_breaks r valid.rules rule list number h)
