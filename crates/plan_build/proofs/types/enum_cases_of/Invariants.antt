use Rattle.std.proofs.Common.{◌≡◌, true, map, take}
use Rattle.std.specs.List.{list_all}
use Rattle.wit_model.specs.Text.{text_of}
use Rattle.plan_meaning.specs.Built.{is_undocumented}
use Rattle.plan_build.specs.PlanOf.{stated_names}
use Rattle.plan_build.proofs.types.enum_cases_of.Given as goal

abbrev pub invariant-loop-text : goal.invariant-loop-text
invariant-loop-text l = record { names : map (λ x. text_of x.name) l.built.items ≡ stated_names (take l.text-index l.names); bare : list_all (λ x. is_undocumented x.docs) l.built.items ≡ true }
