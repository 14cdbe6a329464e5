-- The types and functions of a world, as they come behind its imports.
use Rattle.std.specs.Prelude.{◌≡◌, ◌++◌, List, Option, String}
use Rattle.std.specs.List.{flat_map}
use Rattle.std.specs.declared.alloc.Global.{Global}
use Rattle.wit_model.specs.Text.{Text, text_of}
use Rattle.wit_model.specs.declared.model.{TypeDef.TypeDef, TypeId.TypeId, TypeOwner.TypeOwner}
use Rattle.wit_model.specs.declared.model.WorldKey.TheVariants as key
use Rattle.wit_model.specs.declared.model.WorldItem.TheVariants as item
use Rattle.text_types.specs.declared.{functions.Callable.Callable, members.Interfaces.Interfaces, scope.Scope.Scope}
use Rattle.text_types.specs.{Each.EachIs, Scopes.Agrees, Targets.TargetIn}
use Rattle.text_types.specs.Made.{FunctionTree, InSomeOrder, NameMap, TypeIs}
use Rattle.text_shown.specs.ShowsWorlds.{world_types, ExportsAre, ImportsAre, IsFunctionEntry, IsTypeEntry}
use Rattle.wit_text.specs.Items.{WorldEntry}
use Rattle.wit_text.specs.MadeWorlds.{StatedIn}
use Rattle.wit_text.specs.Sides.{exports_in, home_in, members_in, sources_in}
use Rattle.wit_text.specs.declared.given.Given.{Given}

-- The entry is the function, under its own name.
pub data IsCallableEntry (callable : Callable) : WorldEntry → Type 0 where
  named : {label : String Global} → text_of label ≡ text_of callable.function.name → IsCallableEntry callable (key.Name label, item.Function callable.function)

-- Functions are put behind the others, in order.
pub record AddsCallables (callables : List Callable) (old new : List WorldEntry) : Type 0 where
  pub more : List WorldEntry
  pub is : new ≡ old ++ more
  pub each : EachIs IsCallableEntry callables more

-- The functions of these trees are put behind the others, in order.
pub record AddsCalls (defs : List TypeDef) (types : Text → Option TypeId) (trees : List FunctionTree) (old new : List WorldEntry) : Type 0 where
  pub more : List WorldEntry
  pub is : new ≡ old ++ more
  pub each : EachIs (IsFunctionEntry defs types) trees more

-- Types are put behind the others, in order.
pub record AddsTypeEntries (own : List (String Global × TypeId)) (old new : List WorldEntry) : Type 0 where
  pub more : List WorldEntry
  pub is : new ≡ old ++ more
  pub each : EachIs IsTypeEntry own more

-- The types of a world are made in its scope, and put behind the others.
pub record MakesTypes (given : Given) (interfaces : Interfaces) (defs : List TypeDef) (before after : Scope) (old new : List WorldEntry) : Type 0 where
  pub own : NameMap TypeId
  pub adds : AddsTypeEntries own.entries old new
  pub are : InSomeOrder (TypeIs defs (TargetIn (sources_in given) interfaces (home_in given)) before.owner) (flat_map world_types (members_in given))
      own.entries
  pub agrees : Agrees own after

-- A world has these imports and exports.
pub record HasItems (given : Given) (interfaces : Interfaces) (defs : List TypeDef) (owner : TypeOwner) (imports exports : List WorldEntry) : Type 0 where
  pub are_imports : ImportsAre defs (TargetIn (sources_in given) interfaces (home_in given)) (StatedIn (sources_in given) interfaces defs (home_in given)) owner
      (members_in given) imports
  pub are_exports : ExportsAre (StatedIn (sources_in given) interfaces defs (home_in given)) (exports_in given).all exports
