-- Which encoding each function is to have, as code says it.
use Rattle.std.specs.Prelude.{Some, option_and_then}
use Rattle.indexmap.specs.IndexMap.{get_by_text}
use Rattle.wit_model.specs.declared.model.Resolve.{Resolve}
use Rattle.wit_bind.specs.declared.wanted.Wanted.{Wanted}
use Rattle.bind_keys.specs.{Keys.unversioned_key, KeyLists.Choice}
use Rattle.wit_bind.specs.declared.wanted.Wanted.TheVariants as wanted

-- one for all, or the one that stands under the function's key without version
abbrev pub choice_of : Resolve → Wanted → Choice
choice_of r (wanted.One encoding) scope function = Some encoding
choice_of r (wanted.Kept old) scope function = option_and_then (λ k. get_by_text old.now k) (unversioned_key r scope function)
