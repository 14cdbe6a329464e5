use Rattle.std.proofs.Common.{◌≡◌, ◌∙◌, ap, subst, ℕ, List}
use Rattle.base_lemmas.proofs.Options.{passed}
use Rattle.wit_model.specs.declared.error.Error.TheVariants.{Size}
use Rattle.wit_component.specs.{Bound.RefusesBindings, Reached.OutgrowsLists}
use Rattle.wit_component.specs.BoundLaws.{BoundOnce, SectionsMeanOnce}
use Rattle.witc_written.specs.Carried.{BindsSomething, EmbedsIfThere, IsCarried, RefusesAttached, RefusesSection, broken, section_name, unbound, unembedded, unjoined, with_section}
use Rattle.witc_written.proofs.AttachedLaws.{attaches}
use Rattle.witc_written.proofs.carried.attach.Goals as goal

pub returns-in_err-data-clause-refused : goal.returns-in_err-data-clause-refused
returns-in_err-data-clause-refused c =
    let e = c.in_err-data.field-0.0 in
    passed (RefusesAttached c.args.«module».now c.args.«package».now c.args.name.now c.args.encoding c.args.canonical_names) c.from_residual.result e c.from_residual.ensures.1
    (unembedded e c.in_err-data.ensures.refused)

pub returns-in_err-try_bindings-clause-refused : goal.returns-in_err-try_bindings-clause-refused
returns-in_err-try_bindings-clause-refused c =
    let e = c.in_err-try_bindings.field-0.0 in
    passed (RefusesAttached c.args.«module».now c.args.«package».now c.args.name.now c.args.encoding c.args.canonical_names) c.from_residual-in_err-try_bindings.result e
    c.from_residual-in_err-try_bindings.ensures.1
    (broken c.in-Some.data.items e (subst (EmbedsIfThere c.args.«package».now c.args.name.now c.args.encoding c.args.canonical_names) c.in-Some.is c.in_ok-data.ensures.embedded)
    c.in_err-try_bindings.ensures.refused c.in_err-try_bindings.ensures.size)

pub returns-in_err-out-clause-refused : goal.returns-in_err-out-clause-refused
returns-in_err-out-clause-refused c =
    let e = c.in_err-out.field-0.0 in
    passed (RefusesAttached c.args.«module».now c.args.«package».now c.args.name.now c.args.encoding c.args.canonical_names) c.from_residual-in_err-out.result e c.from_residual-in_err-out.ensures.1
    (unjoined c.in-Some.data.items e (subst (EmbedsIfThere c.args.«package».now c.args.name.now c.args.encoding c.args.canonical_names) c.in-Some.is c.in_ok-data.ensures.embedded)
    c.in_ok-try_bindings.ensures.bound (subst (λ (d : List ℕ). RefusesSection (section_name c.args.name.now) d e) c.deref.ensures.value c.in_err-out.ensures.refused))

pub returns-in_err-try_bindings-2-clause-refused : goal.returns-in_err-try_bindings-2-clause-refused
returns-in_err-try_bindings-2-clause-refused c =
    let module_ = c.args.«module».now in
    let bytes = c.args.«package».now in
    let name = c.args.name.now in
    let e = c.args.encoding in
    let canonical = c.args.canonical_names in
    let text = c.in-Some.data.items in
    let error = c.in_err-try_bindings-2.field-0.0 in
    let is : c.deref-2.result.now ≡ with_section module_ name text = c.deref-2.ensures.value ∙ (c.in_ok-out.ensures.joined ∙ ap (λ (d : List ℕ). with_section module_ name d) c.deref.ensures.value) in
    passed (RefusesAttached module_ bytes name e canonical) c.from_residual-in_err-try_bindings-2.result error c.from_residual-in_err-try_bindings-2.ensures.1
    (unbound text error (subst (EmbedsIfThere bytes name e canonical) c.in-Some.is c.in_ok-data.ensures.embedded) c.in_ok-try_bindings.ensures.bound
    (subst (λ (out : List ℕ). RefusesBindings out error) is c.in_err-try_bindings-2.ensures.refused)
    (subst (λ (out : List ℕ). error ≡ Size → OutgrowsLists out) is c.in_err-try_bindings-2.ensures.size))

pub returns-clause-attached : goal.returns-clause-attached
returns-clause-attached c =
    let module_ = c.args.«module».now in
    let bytes = c.args.«package».now in
    let name = c.args.name.now in
    let e = c.args.encoding in
    let canonical = c.args.canonical_names in
    let once : SectionsMeanOnce × BoundOnce = (c.bound_once.ensures.sections, c.bound_once.ensures.one) in
    attaches once module_ bytes name e canonical c.in_ok-out.out.items c.in-Some.data.items (subst (EmbedsIfThere bytes name e canonical) c.in-Some.is c.in_ok-data.ensures.embedded)
    (subst (IsCarried name) c.deref.ensures.value c.in_ok-out.ensures.carried) (c.in_ok-out.ensures.joined ∙ ap (λ (d : List ℕ). with_section module_ name d) c.deref.ensures.value)
    c.in_ok-try_bindings.ensures.bound (subst BindsSomething c.deref-2.ensures.value c.in_ok-try_bindings-2.ensures.bound)
