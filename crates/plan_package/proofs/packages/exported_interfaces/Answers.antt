use Rattle.std.proofs.Common.{◌∙◌, ℕ, IfOk, List, ap, map, subst, sym}
use Rattle.std.specs.List.{AllByRecursion, AllZip}
use Rattle.wit_model.specs.Text.{Text}
use Rattle.plan_package.specs.WholePackages.{labelled_place, numbered_interface, IsPlaced, ListsPlace}
use Rattle.plan_package.proofs.packages.exported_interfaces.Goals as goal

pub by_number-requires : goal.by_number-requires
by_number-requires c = subst (AllByRecursion (IsPlaced c.args.places.now.keys)) (sym (ap (map labelled_place) c.deref.ensures.value ∙ c.in_ok-interfaces.ensures)) c.requires

pub returns : goal.returns
returns c = subst (λ (xs : List (Text × ℕ)). IfOk c.by_number.result (λ all. AllZip (ListsPlace c.args.places.now.keys) xs (map numbered_interface all.items)))
    (ap (map labelled_place) c.deref.ensures.value ∙ c.in_ok-interfaces.ensures) c.by_number.ensures
