-- Those so far are written.
use Rattle.std.proofs.Common.{drop}
use Rattle.wit_json.specs.Listed.{package_tokens}
use Rattle.wit_json.proofs.Adding.{Lists}
use Rattle.wit_json.proofs.lists.put_packages.Given as goal

abbrev pub invariant-loop-entry : goal.invariant-loop-entry
invariant-loop-entry l = Lists package_tokens l.packages (drop l.entry-index l.packages) l.initial.w l.w
