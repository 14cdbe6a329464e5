use Rattle.std.proofs.Common.{◌≡◌, ◌∙◌, ap, drop, map, refl, subst, sym, true}
use Rattle.std.specs.List.{list_all}
use Rattle.std.proofs.lemmas.List.Folds.{list_all-map}
use Rattle.wit_model.specs.declared.model.TypeOwner.TheVariants as owner
use Rattle.wit_print.specs.UseGroups.{is_listed_function, is_listed_type, listed_of}
use Rattle.wit_print_tests.specs.declared.given_types.Given.{Given}
use Rattle.wit_print_tests.proofs.Given.{drained}
use Rattle.wit_print_tests.proofs.given_types.print_listed.Goals as goal

pub print_types-requires : goal.print_types-requires
print_types-requires g c κs =
    let r = c.args.resolve.now in
    let o = owner.Interface c.args.interface in
    let listed = list_all-map (is_listed_type r o) (λ t. record { name = t.0.now; id = t.1 }) c.args.types.now ∙ c.requires.listed in (
      (refl, tt),
      (
        c.requires.valid,
        (
          refl,
          (
            tt,
            (
              tt,
              (
                (λ xs d. subst (λ ts. list_all (is_listed_type r o) (listed_of ts) ≡ true) (sym (drained (λ (it : Given). drop it.given it.all.now) xs _ d)) listed),
                ap (λ es. list_all (λ entry. list_all (is_listed_function r o) (map (λ f. f.now) entry.1.items)) es) c.new-functions.ensures.empty,
              ),
            ),
          ),
        ),
      ),
    )
