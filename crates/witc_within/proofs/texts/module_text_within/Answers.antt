use Rattle.std.proofs.Common.{◌≡◌, ◌∙◌, refl, sym, subst, true}
use Rattle.std.specs.List.{list_all}
use Rattle.wit_component.specs.{Bound.RefusesBindings, Reached.OutgrowsLists}
use Rattle.wit_model.specs.declared.error.{Error.Error, Error.TheVariants.Memory, Error.TheVariants.Size}
use Rattle.wit_model.specs.declared.model.PackageId.{PackageId}
use Rattle.wit_model.specs.Rules.{in_list}
use Rattle.witc_texts.specs.{Bindings.PrintsModule, Printed.IsTextOf}
use Rattle.witc_texts.proofs.BindingsLaws.{never-too-large, no-memory, others-there, some-packages}
use Rattle.base_lemmas.proofs.Options.{err_said as if-err, if_ok as if-ok, passed}
use Rattle.witc_within.specs.Within.{TextWithin}
use Rattle.witc_within.proofs.WithinLaws.{lifted}
use Rattle.witc_within.proofs.texts.module_text_within.Goals as goal

pub returns-in_err-_module-clause-refused : goal.returns-in_err-_module-clause-refused
returns-in_err-_module-clause-refused c = passed (RefusesBindings c.args.bytes.now) c.from_residual.result c.in_err-_module.field-0.0 c.from_residual.ensures.1 c.in_err-_module.ensures.refuses

pub returns-in_err-_module-clause-size : goal.returns-in_err-_module-clause-size
returns-in_err-_module-clause-size c =
    passed (λ (e : Error). e ≡ Size → OutgrowsLists c.args.bytes.now) c.from_residual.result c.in_err-_module.field-0.0 c.from_residual.ensures.1 c.in_err-_module.ensures.size

pub other_packages-requires-clause-some : goal.other_packages-requires-clause-some
other_packages-requires-clause-some c = some-packages c.in_ok-_module.bound.resolve c.in_ok-_module.ensures.root

pub text_within-requires-clause-in_range : goal.text_within-requires-clause-in_range
text_within-requires-clause-in_range c = some-packages c.in_ok-_module.bound.resolve c.in_ok-_module.ensures.root

pub text_within-requires-clause-nested : goal.text_within-requires-clause-nested
text_within-requires-clause-nested c =
    let r = c.in_ok-_module.bound.resolve in
    subst (λ ids. list_all (λ (id : PackageId). in_list r.packages.items id.0) ids ≡ true) (sym (c.deref.ensures.value ∙ c.in_ok-others.ensures))
    (others-there r (some-packages r c.in_ok-_module.ensures.root))

pub returns-clause-within : goal.returns-clause-within
returns-clause-within c =
    let bound = c.in_ok-_module.bound in
    let root : PackageId = record { 0 = 0 } in
    let most = c.args.most in
    if-ok (TextWithin (IsTextOf bound.resolve root c.deref.result.now) most) (TextWithin (PrintsModule c.args.bytes.now) most)
    (λ w within. lifted (IsTextOf bound.resolve root c.deref.result.now) (PrintsModule c.args.bytes.now) (λ text is. record {
      bound = bound;
      binds = c.in_ok-_module.ensures.bound;
      valid = c.in_ok-_module.ensures.valid;
      root = c.in_ok-_module.ensures.root;
      reached = c.in_ok-_module.ensures.reached;
      is_text = subst (λ ids. IsTextOf bound.resolve root ids text) (c.deref.ensures.value ∙ c.in_ok-others.ensures) is;
    }) most w within)
    c.text_within.result c.text_within.ensures.within

pub returns-clause-refused : goal.returns-clause-refused
returns-clause-refused c = if-err (λ (e : Error). e ≡ Memory) (RefusesBindings c.args.bytes.now) (no-memory c.args.bytes.now) c.text_within.result c.text_within.ensures.memory

pub returns-clause-size : goal.returns-clause-size
returns-clause-size c =
    if-err (λ (e : Error). e ≡ Memory) (λ (e : Error). e ≡ Size → OutgrowsLists c.args.bytes.now) (never-too-large (OutgrowsLists c.args.bytes.now)) c.text_within.result c.text_within.ensures.memory

pub returns-in_err-others-clause-refused : goal.returns-in_err-others-clause-refused
returns-in_err-others-clause-refused c = passed (RefusesBindings c.args.bytes.now) c.from_residual-in_err-others.result Memory c.from_residual-in_err-others.ensures.1
    (no-memory c.args.bytes.now Memory refl)

pub returns-in_err-others-clause-size : goal.returns-in_err-others-clause-size
returns-in_err-others-clause-size c = passed (λ (e : Error). e ≡ Size → OutgrowsLists c.args.bytes.now) c.from_residual-in_err-others.result Memory c.from_residual-in_err-others.ensures.1
    (never-too-large (OutgrowsLists c.args.bytes.now) Memory refl)
