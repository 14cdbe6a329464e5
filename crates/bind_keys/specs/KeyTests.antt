-- Whether a text is the key of a function, part by part.
use Rattle.std.specs.Prelude.{Bool, false, [], ◌∷◌, ◌++◌, Option, option_and_then}
use Rattle.std.specs.Option.{option_map_or}
use Rattle.wit_model.specs.declared.model.{Resolve.Resolve, WorldKey.WorldKey, PackageName.PackageName}
use Rattle.wit_model.specs.{Lookup.canonical_identity_of, Names.at_version, Text.Text, Text.text_eq, Text.text_of, Rules.after_prefix}
use Rattle.bind_keys.specs.Keys.{scope_of, function_key}

-- what follows a text and a slash
abbrev pub after_slash : Text → Text → Option Text
after_slash front text = after_prefix (front ++ (47 ∷ [])) text

-- what follows the scope of a key
abbrev pub after_scope : Resolve → WorldKey → Text → Option Text
after_scope r scope text = option_and_then (λ front. after_prefix front text) (scope_of r scope)

-- what follows a package's namespace and name, and a slash
abbrev pub after_names : PackageName → Text → Option Text
after_names own text = after_prefix ((text_of own.namespace ++ (58 ∷ [])) ++ (text_of own.name ++ (47 ∷ []))) text

-- what follows the name of an interface and its canonical version
abbrev pub after_interface : PackageName → Text → Text → Option Text
after_interface own name text = after_prefix (name ++ at_version (canonical_identity_of own).version) text

-- whether a text is the key of a function
abbrev pub is_key_of : Resolve → WorldKey → Text → Text → Bool
is_key_of r scope function text = option_map_or (λ k. text_eq k text) (function_key r scope function) false
