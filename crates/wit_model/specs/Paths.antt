-- The names of which the path of an interface is made, and where its version is split.
use Rattle.std.specs.Prelude.{ℕ, Option, option_map, option_and_then, String}
use Rattle.std.specs.declared.alloc.Global.{Global}
use Rattle.wit_model.specs.declared.model.{Resolve.Resolve, PackageName.PackageName}
use Rattle.wit_model.specs.{Text.Text, Names.some_text, Lookup.interface_at, Lookup.package_of_interface, Rules.after_prefix}

-- the name of an interface's package and its own, where it has both
abbrev pub full_name : Resolve → ℕ → Option (PackageName × String Global)
full_name r n = option_and_then (λ i. option_and_then (λ name. option_map (λ package_. (package_.name, name)) (package_of_interface r n)) i.name)
    (interface_at r n)

-- what follows the canonical part in a version's text, and none where nothing does
abbrev pub suffix_after : Text → Text → Option Text
suffix_after canonical text = option_and_then some_text (after_prefix canonical text)
