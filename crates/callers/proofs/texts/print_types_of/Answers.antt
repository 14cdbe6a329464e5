use Rattle.std.proofs.Common.{◌≡◌, ◌∙◌, refl, ap, map}
use Rattle.std.specs.{Iterator.Drains, List.list_all, Vec.Iter.into_iter_steps}
use Rattle.indexmap.proofs.CallerLemmas.{Drains-YieldsInOrder}
use Rattle.wit_component.specs.{Printer.GivenTypes, Shown.listed_types, UseGroups.is_listed_function, UseGroups.listed_of}
use Rattle.callers.proofs.GivenTypes.{all-printed, can-be-given}
use Rattle.base_lemmas.proofs.Options.{ok_said as on-ok-of}
use Rattle.wit_model.specs.declared.model.TypeOwner.TheVariants as owner
use Rattle.callers.proofs.texts.print_types_of.Goals as goal

pub print_types-requires : goal.print_types-requires
print_types-requires c =
    let r = c.args.resolve.now in
    let o = owner.Interface c.args.id in
    let law = c.interfaces_can_be_given.ensures.types in
    λ _. (
      (refl, tt),
      (
        c.requires.valid,
        (
          refl,
          (
            tt,
            (
              tt,
              (
                (λ xs d. can-be-given law r c.args.id c.args.interface.now c.requires.valid c.requires.there xs
                    (ap listed_of (Drains-YieldsInOrder _ _ _ xs c.into_iter.ensures.runs d ∙ c.into_iter.ensures.rest) ∙ c.in_ok-given.ensures)),
                ap (λ es. list_all (λ entry. list_all (is_listed_function r o) (map (λ f. f.now) entry.1.items)) es) c.new-functions.ensures.empty,
              ),
            ),
          ),
        ),
      ),
    )

pub returns-clause-ok : goal.returns-clause-ok
returns-clause-ok c =
    let all : (xs : GivenTypes) → Drains into_iter_steps c.into_iter.result xs → listed_of xs ≡ listed_types c.args.interface.now =
    λ xs d. ap listed_of (Drains-YieldsInOrder _ _ _ xs c.into_iter.ensures.runs d ∙ c.into_iter.ensures.rest) ∙ c.in_ok-given.ensures in
    on-ok-of _ _ (all-printed c.args.resolve.now c.args.id c.args.interface.now _ _ _ _ all c.new-functions.ensures.empty c.requires.docs c.requires.first)
    c.print_types.result c.print_types.ensures.ok
