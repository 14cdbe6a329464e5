-- The rules on the functions of an interface and on its names (WIT.md, "Interfaces").
use Rattle.std.specs.{Prelude.ℕ, Prelude.Bool, Prelude.List, Prelude.◌++◌, Prelude.map, List.list_all}
use Rattle.wit_model.specs.Text.{Text}
use Rattle.comp_meaning.specs.Rules.{distinct}
use Rattle.plan_meaning.specs.{NumberedRules.is_function, NumberedViews.NumberedFunction, NumberedViews.NumberedView, NumberedViews.function_at}
use Rattle.read_rules.specs.declared.tables.Tables.{Tables}
use Rattle.read_rules.specs.Tables.{known_in, numbered_tables}

-- the function may stand in the place behind these resources
abbrev pub may_stand : Tables → ℕ → List Text → Text × NumberedFunction → Bool
may_stand t p resources f = is_function (numbered_tables t) (known_in t) p resources f.0 (function_at (numbered_tables t) f.1.signature)

abbrev pub are_functions : Tables → ℕ → List Text → List (Text × NumberedFunction) → Bool
are_functions t p resources fs = list_all (may_stand t p resources) fs

abbrev pub have_one_name_each : NumberedView → Bool
have_one_name_each v = distinct (map (λ x. x.name) v.types ++ map (λ f. f.0) v.functions)
