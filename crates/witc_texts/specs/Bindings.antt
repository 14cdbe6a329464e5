-- The text of what a core module binds.
use Rattle.std.specs.Prelude.{ℕ, ◌-◌, List, [], map, length}
use Rattle.std.specs.List.{range_with_len}
use Rattle.wit_model.specs.declared.model.{PackageId.PackageId, Resolve.Resolve}
use Rattle.wit_bind.specs.declared.bindgen.Bindgen.{Bindgen}
use Rattle.wit_component.specs.{Bindings.IsBindgen, Bindings.binding_of, Bound.IsBound, BoundTo.BeginsWithRoot, Reached.IsReached}
use Rattle.witc_texts.specs.Printed.{IsTextOf}

-- all packages but the first, in order
abbrev pub other_packages_of : Resolve → List PackageId
other_packages_of r = map (λ n. record { 0 = n }) (range_with_len 1 (length r.packages.items - 1))

-- The text is of the first package, with all others nested in it, in order.
abbrev pub IsWholeText : Resolve → List ℕ → Type 0
IsWholeText r text = IsTextOf r (record { 0 = 0 }) (other_packages_of r) text

-- The bytes are a module that binds this, with `root:root` as the first package, and the text is of all its packages.
pub record PrintsModule (bytes text : List ℕ) : Type 0 where
  pub bound : Bindgen
  pub binds : IsBound bytes (binding_of bound)
  pub valid : IsBindgen bound
  pub root : BeginsWithRoot bound.resolve
  pub reached : IsReached bytes bound []
  pub is_text : IsWholeText bound.resolve text
