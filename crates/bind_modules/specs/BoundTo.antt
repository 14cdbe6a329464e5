-- What is known of bindings while the sections of a module are bound.
use Rattle.std.specs.Prelude.{◌≡◌, ℕ, List, Some}
use Rattle.wit_model.specs.declared.model.{Package.Package, Resolve.Resolve}
use Rattle.wit_model.specs.Lookup.{identity_of, package_at}
use Rattle.bind_meaning.specs.Roots.{root_meaning}
use Rattle.wit_bind.specs.declared.bindgen.Bindgen.{Bindgen}
use Rattle.wit_bind.specs.Bindings.{IsBindgen, binding_of}
use Rattle.bind_sections.specs.Steps.{IsCountedTo}
use Rattle.bind_modules.specs.Reached.{IsReached}

-- The first package is `root:root`, without version.
pub record BeginsWithRoot (r : Resolve) : Type 0 where
  pub package_ : Package
  pub first : package_at r 0 ≡ Some package_
  pub named_ : identity_of package_.name ≡ root_meaning.identity

-- The module has been read up to these bytes, and what was read binds this. So many sections of it carry worlds.
pub record IsBoundTo (input : List ℕ) (b : Bindgen) (number : ℕ) (rest : List ℕ) : Type 0 where
  pub read : IsCountedTo input (binding_of b) number rest
  pub bindgen : IsBindgen b
  pub root : BeginsWithRoot b.resolve
  pub reached : IsReached input b rest
