use Rattle.std.proofs.Common.{◌≡◌, sym, ◌∙◌, false, String}
use Rattle.std.specs.declared.alloc.Global.{Global}
use Rattle.base_lemmas.proofs.Options.{err_said as err-said, if_ok as if-ok}
use Rattle.wit_component.specs.{Binding.Binding, Bound.IsBound, Decoded.MeansNothing, DecodedWorlds.MeansNoWorld}
use Rattle.wit_model.specs.declared.error.Error.{Error}
use Rattle.teasel_answers.specs.Checks.{Means, MeansComponent, MeansNoneFor, RefusesModule, a_component, a_module, no_component, no_module}
use Rattle.teasel_messages.specs.Reasons.{is_memory}
use Rattle.teasel_answers.proofs.checks.summary.Goals as goal

pub returns-then-is_module-clause-means : goal.returns-then-is_module-clause-means
returns-then-is_module-clause-means c = if-ok (λ (s : String Global). (b : Binding) × IsBound c.args.bytes.now b) (λ (s : String Global). Means c.args.bytes.now)
    (λ s is. a_module is.0 (sym c.is_module.ensures ∙ c.if-is_module.true) is.1) c.module_words.result c.module_words.ensures.binds

pub returns-then-is_module-clause-none : goal.returns-then-is_module-clause-none
returns-then-is_module-clause-none c = err-said (λ (e : Error). is_memory e ≡ false → RefusesModule c.args.bytes.now e) (MeansNoneFor c.args.bytes.now)
    (λ e is there. no_module e (sym c.is_module.ensures ∙ c.if-is_module.true) there (is there)) c.module_words.result c.module_words.ensures.refuses

pub returns-else-is_module-clause-means : goal.returns-else-is_module-clause-means
returns-else-is_module-clause-means c = if-ok (λ (s : String Global). MeansComponent c.args.bytes.now) (λ (s : String Global). Means c.args.bytes.now)
    (λ s is. a_component (sym c.is_module.ensures ∙ c.if-is_module.false) is) c.component_words.result c.component_words.ensures.means

pub returns-else-is_module-clause-none : goal.returns-else-is_module-clause-none
returns-else-is_module-clause-none c = err-said (λ (e : Error). is_memory e ≡ false → MeansNothing c.args.bytes.now × MeansNoWorld c.args.bytes.now) (MeansNoneFor c.args.bytes.now)
    (λ e is there. no_component (sym c.is_module.ensures ∙ c.if-is_module.false) (is there).0 (is there).1) c.component_words.result c.component_words.ensures.none
