-- The calls for parts of paths that are printed by themselves.
use Rattle.std.specs.Prelude.{List, [], ◌∷◌, codes}
use Rattle.wit_model.specs.declared.model.PackageName.{PackageName}
use Rattle.wit_model.specs.Text.{text_of}
use Rattle.print_grammar.specs.Keyword.{escaped}
use Rattle.print_output.specs.{OutputCall.OutputCall, OutputCall.OutputCall.Ty, OutputCall.OutputCall.Str}
use Rattle.print_output.specs.declared.type_kind.TypeKind.TheVariants as kind

-- the namespace and the name of a package, before the name of an interface in it
abbrev pub package_path_calls : PackageName → List OutputCall
package_path_calls name =
    Ty (escaped (text_of name.namespace)) kind.NamespacePath ∷ Str (codes ":") ∷ Ty (escaped (text_of name.name)) kind.PackageNamePath ∷ Str (codes "/") ∷ []
