-- A core module without the sections that carry worlds.
use Rattle.std.specs.Prelude.{ℕ, List, Option, Vec}
use Rattle.std.specs.declared.alloc.Global.{Global}
use Rattle.bind_meaning.specs.Binding.{Binding}
use Rattle.wit_component.specs.{Bound.IsBound, Modules.IsStripped, Modules.IsUnbound, Modules.StripsModule}

-- The bytes are a module that binds something, and this is the module without those sections, or none where it has none.
pub record StripsTo (bytes : List ℕ) (kept : Option (Vec ℕ Global)) : Type 0 where
  pub bound : Binding
  pub binds : IsBound bytes bound
  pub strips : StripsModule bytes kept

-- What is left of a module: the module without those sections; or, where it has none, the module as it is.
pub data LeavesModule (input : List ℕ) : List ℕ → Type 0 where
  stripped : (kept : List ℕ) → IsStripped input kept → LeavesModule input kept
  whole : IsUnbound input → LeavesModule input input

-- The bytes are a module that binds something, and the text is what is left of it.
pub record StripsBytes (bytes text : List ℕ) : Type 0 where
  pub bound : Binding
  pub binds : IsBound bytes bound
  pub leaves : LeavesModule bytes text
