use Rattle.wit_encode.proofs.Packages.{IsBegun}
use Rattle.wit_encode.proofs.package.interfaces_component.Given as goal

-- the component types of the first interfaces have been added, and the others follow
abbrev pub invariant-loop-name : goal.invariant-loop-name
invariant-loop-name l = IsBegun l.resolve l.canonical_names l.interfaces.entries l.name-iterator l.builder
