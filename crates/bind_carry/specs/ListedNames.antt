-- The names of packages, and the names in them, in order; and these when two are merged.
use Rattle.std.specs.Prelude.{not, ◌&&◌, List, ◌++◌, map, filter, is_none, Option, Some, None, codes}
use Rattle.std.specs.{List.list_any, FinMap.find}
use Rattle.wit_model.specs.declared.model.Resolve.{Resolve}
use Rattle.wit_model.specs.{Lookup.identity_of, Text.Text, Text.text_of, Text.text_cmp, Text.text_eq}
use Rattle.bind_meaning.specs.Binding.{package_text}

-- the names that stand in a package, in order
pub record PackageNames : Type 0 where
  pub interfaces : List Text
  pub worlds : List Text

-- each package by its name, in order
abbrev pub listed_names : Resolve → List (Text × PackageNames)
listed_names r = map (λ p. (
  package_text (identity_of p.name),
  record { interfaces = map (λ e. text_of e.0) p.interfaces.entries; worlds = map (λ e. text_of e.0) p.worlds.entries },
)) r.packages.items

-- texts followed by those of the others that are new
abbrev pub texts_followed_by : List Text → List Text → List Text
texts_followed_by xs ys = xs ++ filter (λ y. not (list_any (text_eq y) xs)) ys

-- what the other binding brings: all but its root world
abbrev pub carried_names : Text × PackageNames → Text × PackageNames
carried_names p = (
  p.0,
  record {
    interfaces = p.1.interfaces;
    worlds =
        filter (λ w. not (text_eq p.0 (codes "root:root") && text_eq w (codes "root"))) p.1.worlds;
  },
)

-- a package's own names, followed by those that the other binding's package of that name brings
abbrev pub grown_names : List (Text × PackageNames) → Text × PackageNames → Text × PackageNames
grown_names others p = (p.0, by_other (find text_cmp p.0 others))
  where
    by_other : Option PackageNames → PackageNames
    by_other None = p.1
    by_other (Some q) = record { interfaces = texts_followed_by p.1.interfaces q.interfaces; worlds = texts_followed_by p.1.worlds q.worlds }

-- Own packages, each followed by what is new in it, and then new packages, all in the other's order.
abbrev pub merged_names : List (Text × PackageNames) → List (Text × PackageNames) → List (Text × PackageNames)
merged_names own others = map (grown_names (map carried_names others)) own ++ filter (λ q. is_none (find text_cmp q.0 own)) (map carried_names others)
