-- A world by its number.
use Rattle.std.proofs.{Common.◌≡◌, Common.refl, Common.sym, Common.ℕ, Common.◌<◌, Common.length, Common.Some, Common.get_or, lemmas.Option.slice_get_read}
use Rattle.wit_model.specs.declared.model.{Resolve.Resolve, World.World}
use Rattle.wit_model.specs.Lookup.{world_at}

-- a world that was read from the list is the one of the number
pub at_number : (r : Resolve) (n : ℕ) (w : World) → n < length r.worlds.items → w ≡ get_or r.worlds.items n w → Some w ≡ world_at r n
at_number r n w inside read = sym (slice_get_read r.worlds.items (length r.worlds.items) n w refl inside read)
