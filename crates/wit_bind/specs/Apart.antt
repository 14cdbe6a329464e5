-- What is added under keys that weren't there leaves all that was there where it was.
use Rattle.std.specs.Prelude.{◌<◌, length}
use Rattle.bind_add.specs.declared.added.Added.{Added}
use Rattle.bind_carry.specs.Apart.{IsApart}
use Rattle.wit_bind.specs.declared.{bindgen.Bindgen.Bindgen, metadata.ModuleMetadata.ModuleMetadata}
use Rattle.wit_bind.specs.{Extends.Extends, Merges.IsGrownBy}

abbrev pub GrownExtend : Type 0
GrownExtend = (added : Added) (metadata : ModuleMetadata) (old new : Bindgen) → old.world.0 < length old.resolve.worlds.items
    → IsApart added old.resolve old.world.0 → IsGrownBy added metadata old new → Extends old.resolve new.resolve old.world.0
