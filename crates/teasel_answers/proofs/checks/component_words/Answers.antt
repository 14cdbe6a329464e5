use Rattle.std.proofs.Common.{◌≡◌, ◌∙◌, false, sym, ℕ, String}
use Rattle.std.specs.declared.alloc.Global.{Global}
use Rattle.base_lemmas.proofs.Options.{at_ok as at-ok, err_said as err-said, if_ok as if-ok}
use Rattle.wit_component.specs.{Decoded.MeansNothing, DecodedWorlds.IsDecodedWorld, DecodedWorlds.MeansNoWorld}
use Rattle.wit_model.specs.declared.{error.Error.Error, model.Resolve.Resolve}
use Rattle.teasel_answers.specs.Checks.{MeansComponent, a_package, a_world}
use Rattle.teasel_messages.specs.Reasons.{is_memory}
use Rattle.teasel_answers.proofs.Nothing.{refused-nothing}
use Rattle.teasel_answers.proofs.checks.component_words.Goals as goal

pub returns-in-Ok-clause-means : goal.returns-in-Ok-clause-means
returns-in-Ok-clause-means c = at-ok c.of_words.result (a_package c.in-Ok.ensures.means.resolve c.in-Ok.ensures.means.number c.in-Ok.ensures.means.decoded)

pub returns-else-is_memory-clause-means : goal.returns-else-is_memory-clause-means
returns-else-is_memory-clause-means c =
    let bytes = c.args.bytes.now in
    let nothing = refused-nothing bytes c.in-Err.refusal c.in-Err.ensures.refuses (sym c.is_memory.ensures ∙ c.if-is_memory.false) in
    if-ok (λ (s : String Global). (r : Resolve) × (w : ℕ) × IsDecodedWorld bytes r w) (λ (s : String Global). MeansComponent bytes)
    (λ s is. a_world is.0 is.1 nothing is.2) c.world_words.result c.world_words.ensures.means

pub returns-else-is_memory-clause-none : goal.returns-else-is_memory-clause-none
returns-else-is_memory-clause-none c =
    let bytes = c.args.bytes.now in
    let nothing = refused-nothing bytes c.in-Err.refusal c.in-Err.ensures.refuses (sym c.is_memory.ensures ∙ c.if-is_memory.false) in
    err-said (λ (e : Error). is_memory e ≡ false → MeansNoWorld bytes) (λ (e : Error). is_memory e ≡ false → MeansNothing bytes × MeansNoWorld bytes)
    (λ e is there. (nothing, is there)) c.world_words.result c.world_words.ensures.none
