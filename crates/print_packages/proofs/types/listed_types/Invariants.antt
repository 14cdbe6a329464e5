-- Those so far are listed.
use Rattle.std.proofs.Common.{◌≡◌, ◌++◌, map}
use Rattle.wit_model.specs.Text.{text_of}
use Rattle.print_uses.specs.UseGroups.{listed_of}
use Rattle.print_packages.proofs.types.listed_types.Given as goal

abbrev pub invariant-loop-name : goal.invariant-loop-name
invariant-loop-name l = listed_of l.listed.items ++ map (λ e. record { name = text_of e.0; id = e.1 }) l.name-iterator ≡ map (λ e. record { name = text_of e.0; id = e.1 }) l.types.entries
