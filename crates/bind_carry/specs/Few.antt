-- No list gets too long.
use Rattle.std.specs.Prelude.{◌+◌, ◌≤◌, length}
use Rattle.wit_model.specs.declared.model.Resolve.{Resolve}
use Rattle.bind_add.specs.declared.added.Added.{Added}
use Rattle.bind_carry.specs.Numbers.{copied_count}
use Rattle.bind_carry.specs.declared.plan.Carried.{Carried}

-- With what is added, each list has at most as many entries as a 32-bit number counts.
pub record AreFew (own : Resolve) (added : Added) : Type 0 where
  pub packages : length own.packages.items + length added.packages.items ≤ 4294967295
  pub interfaces : length own.interfaces.items + length added.interfaces.items ≤ 4294967295
  pub worlds : length own.worlds.items + length added.worlds.items ≤ 4294967295
  pub types : length own.types.items + length added.types.items ≤ 4294967295

-- So it is with all that has a new number.
pub record AreFewNumbered (own : Resolve) (c : Carried) : Type 0 where
  pub packages : length own.packages.items + copied_count c.new_packages.items ≤ 4294967295
  pub interfaces : length own.interfaces.items + copied_count c.copied_interfaces.items ≤ 4294967295
  pub worlds : length own.worlds.items + copied_count c.copied_worlds.items ≤ 4294967295
