-- The two parts of the rule on packages' names.
use Rattle.std.specs.Prelude.{Bool, ◌&&◌, ◌||◌, not, ◌==◌}
use Rattle.wit_model.specs.declared.model.PackageName.{PackageName}
use Rattle.wit_model.specs.{Text.text_of, Names.is_label, Names.is_version, Rules.each_from, Rules.passes, Rules.same_package_name, Valid.Rule, Valid.free}

-- the namespace and the name are labels, and the version is one of Semantic Versioning 2.0.0
abbrev pub is_package_name : PackageName → Bool
is_package_name name = is_label (text_of name.namespace) && (is_label (text_of name.name) && passes is_version name.version)

-- the first part: each package has a name
unfoldable pub well_named : Rule
well_named = record {
  package_ = λ r n p. is_package_name p.name;
  interface_ = free;
  world_ = free;
  type_ = free;
}

-- the second part: no two packages have the same
unfoldable pub distinct_names : Rule
distinct_names = record {
  package_ = λ r n p. each_from (λ m other. (m == n) || not (same_package_name p.name other.name)) 0 r.packages.items;
  interface_ = free;
  world_ = free;
  type_ = free;
}
