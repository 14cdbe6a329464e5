-- What a merge makes of two bindings.
use Rattle.std.specs.Prelude.{◌≡◌, ◌++◌, List, map}
use Rattle.wit_model.specs.declared.model.WorldKey.{WorldKey}
use Rattle.wit_model.specs.Lookup.{key_text}
use Rattle.plan_meaning.specs.Built.{IsBare}
use Rattle.bind_carry.specs.AddedKeys.{key_view}
use Rattle.bind_meaning.specs.{Clash.CanUnite, Union.union}
use Rattle.wit_bind.specs.declared.bindgen.Bindgen.{Bindgen}
use Rattle.wit_bind.specs.{Bindings.IsBindgen, Bindings.binding_of, Brings.BringsItsOwn, Comes.BringsNothing, Extends.Extends, Extends.listed_names, Extends.merged_names, Merges.export_keys, Merges.AddsNothing, Merges.GrowsWithin, OthersOrder.KeepsOthersOrder}

-- What the bound world exports is what it exported, followed by what stands under these keys.
abbrev pub ExportsGrowBy : Bindgen → Bindgen → List WorldKey → Type 0
ExportsGrowBy old new keys = map key_view (export_keys new.resolve new.world.0) ≡ map key_view (export_keys old.resolve old.world.0 ++ keys)

-- The two unite, and the own bindings have become their union. Own numbers stay, and what is new stands behind what was there, with its own documentation and
-- stability and in the other's order; no more than comes, and nothing where nothing is new.
-- The answer is the keys of the other's exports, as they stand here.
pub record IsMerge (own other new : Bindgen) (answer : List WorldKey) : Type 0 where
  pub united : CanUnite (binding_of own) (binding_of other)
  pub union : binding_of new ≡ union (binding_of own) (binding_of other)
  pub valid : IsBindgen new
  pub extends : Extends own.resolve new.resolve own.world.0
  pub brings : BringsItsOwn own other new
  pub in_order : KeepsOthersOrder own other new
  pub bare : IsBare own.resolve → IsBare other.resolve → IsBare new.resolve
  pub grows : GrowsWithin own other new
  pub nothing : BringsNothing (binding_of own) (binding_of other) → AddsNothing own.resolve new.resolve
  pub order : listed_names new.resolve ≡ merged_names (listed_names own.resolve) (listed_names other.resolve)
  pub added : ExportsGrowBy own new answer
  pub answer_is : map (key_text new.resolve) answer ≡ map (key_text other.resolve) (export_keys other.resolve other.world.0)
