use Rattle.std.proofs.Common.{◌≡◌, ◌∙◌, sym, subst, true}
use Rattle.std.specs.List.{list_all}
use Rattle.wit_model.specs.declared.model.PackageId.{PackageId}
use Rattle.wit_model.specs.Rules.{in_list}
use Rattle.witc_texts.proofs.BindingsLaws.{others-there}
use Rattle.witc_texts.proofs.modules.whole_text.Goals as goal

pub text_of_package-requires-clause-nested : goal.text_of_package-requires-clause-nested
text_of_package-requires-clause-nested c =
    let r = c.args.resolve.now in
    subst (λ ids. list_all (λ (id : PackageId). in_list r.packages.items id.0) ids ≡ true) (sym (c.deref.ensures.value ∙ c.in_ok-others.ensures)) (others-there r c.requires.some)
