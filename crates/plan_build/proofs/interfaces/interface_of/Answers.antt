use Rattle.std.proofs.Common.{◌≡◌, ◌∙◌, ap, refl, true, ◌&&◌, List, map, option_map}
use Rattle.std.proofs.lemmas.Bool.{and_from as both}
use Rattle.std.specs.List.{list_all}
use Rattle.indexmap.specs.IndexMap.{values}
use Rattle.wit_model.specs.Rules.{are_distinct}
use Rattle.plan_meaning.specs.{PlanRules.names_of, Built.is_bare_function, Built.is_undocumented}
use Rattle.plan_build.specs.{Buildable.interface_differs, PlanOf.named_function, PlanOf.stated_interface}
use Rattle.plan_build.specs.declared.plan.{PlannedFunction.PlannedFunction, PlannedInterface.PlannedInterface}
use Rattle.plan_build.proofs.Named.{names_apart, numbers_stand}
use Rattle.base_lemmas.proofs.Bools.{left_of as first_true, right_of as second_true}
use Rattle.plan_build.proofs.interfaces.interface_of.Goals as goal

type_names : (i : PlannedInterface) → interface_differs (stated_interface i) ≡ true → are_distinct (names_of (stated_interface i).types) ≡ true
type_names i h = first_true (are_distinct (names_of (stated_interface i).types)) (are_distinct (names_of (stated_interface i).functions)) h

functions_apart : (i : PlannedInterface) (fs : List PlannedFunction) → fs ≡ i.functions.items → interface_differs (stated_interface i) ≡ true → are_distinct (map (λ f. f.name.now) fs) ≡ true
functions_apart i fs is h = ap (λ (ys : List PlannedFunction). are_distinct (map (λ f. f.name.now) ys)) is
    ∙ names_apart named_function i.functions.items (second_true (are_distinct (names_of (stated_interface i).types)) (are_distinct (names_of (stated_interface i).functions)) h)

pub returns-clause-built : goal.returns-clause-built
returns-clause-built c = λ h.
    let i = c.args.interface.now in
    let types = numbers_stand (λ id. id.0) c.in_ok-types.types.entries i.types.items c.deref.result.now c.deref.ensures.value c.in_ok-types.ensures (type_names i h) in
    let functions = c.in_ok-functions.ensures.built (functions_apart i c.deref-2.result.now c.deref-2.ensures.value h) ∙ ap (map named_function) c.deref-2.ensures.value in
    λ j. record { name = c.in_ok-name.ensures j; package_ = option_map (λ id. id.0) i.package; types = types j; functions = functions j }

pub returns-clause-bare : goal.returns-clause-bare
returns-clause-bare c = λ h. both (is_undocumented c.no_docs.result && true) (list_all is_bare_function (values c.in_ok-functions.functions))
    (both (is_undocumented c.no_docs.result) true c.no_docs.ensures refl) (c.in_ok-functions.ensures.bare (functions_apart c.args.interface.now c.deref-2.result.now c.deref-2.ensures.value h))
