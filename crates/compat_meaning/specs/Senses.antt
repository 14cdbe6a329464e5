-- The sense of a place: what an interface, a world or an import of a world declares, without order, documentation and stability.
use Rattle.std.specs.Prelude.{ℕ, Option, option_map, option_and_then, slice_get}
use Rattle.wit_model.specs.declared.model.{Resolve.Resolve, WorldItem.WorldItem}
use Rattle.wit_model.specs.{Lookup.interface_at, Lookup.world_at, Meant.entry_meaning, Meant.interface_meaning, Meant.world_meaning}
use Rattle.wit_model.specs.Meaning.{Entry, InterfaceSense, WorldSense, entry_sense, interface_sense, world_sense}
use Rattle.compat_meaning.specs.declared.place.Place.{Place}
use Rattle.compat_meaning.specs.declared.place.Place.TheVariants as place

-- the sense of an interface, a world or an import
pub data Sense : Type 0 where
  of_interface : InterfaceSense → Sense
  of_world : WorldSense → Sense
  -- an import is its item and its external id, without its key
  of_import : Entry InterfaceSense → Sense

-- the import of this index
abbrev pub import_at : Resolve → ℕ → ℕ → Option WorldItem
import_at r w n = option_and_then (λ world. option_map (λ e. e.1) (slice_get world.imports.entries n)) (world_at r w)

-- the sense of what a world imports or exports, without its key
abbrev pub sense_of_item : Resolve → WorldItem → Entry InterfaceSense
sense_of_item r i = entry_sense (entry_meaning r i)

-- the sense of a place, and none where nothing stands there
abbrev pub sense_of : Resolve → Place → Option Sense
sense_of r (place.Interface id) = option_map (λ i. of_interface (interface_sense (interface_meaning r i))) (interface_at r id.0)
sense_of r (place.World id) = option_map (λ w. of_world (world_sense (world_meaning r w))) (world_at r id.0)
sense_of r (place.Import id n) = option_map (λ i. of_import (entry_sense (entry_meaning r i))) (import_at r id.0 n)
