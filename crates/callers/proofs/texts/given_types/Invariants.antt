-- Those so far are listed.
use Rattle.std.proofs.Common.{◌≡◌, ◌++◌, map}
use Rattle.wit_component.specs.{Text.text_of, UseGroups.listed_of}
use Rattle.callers.proofs.texts.given_types.Given as goal

abbrev pub invariant-loop-name : goal.invariant-loop-name
invariant-loop-name l = listed_of l.given.items ++ map (λ e. record { name = text_of e.0; id = e.1 }) l.name-iterator ≡ map (λ e. record { name = text_of e.0; id = e.1 }) l.interface.types.entries
