use Rattle.std.proofs.Common.{◌≡◌, ◌≢◌, subst, ℕ, String}
use Rattle.std.specs.declared.alloc.Global.{Global}
use Rattle.base_lemmas.proofs.Options.{err_said as err-said, if_ok as if-ok}
use Rattle.teasel_answers.specs.Worlds.{HasNoOneWorld, HasWorlds, no_one, no_package}
use Rattle.teasel_answers.proofs.Nothing.{refused-nothing}
use Rattle.teasel_messages.proofs.ReasonLaws.{refused-by}
use Rattle.teasel_messages.specs.{Reasons.RefusedFor, declared.refusal.Refusal.Refusal}
use Rattle.teasel_answers.proofs.embedded.only_world.Goals as goal

pub returns-in-Ok-clause-one : goal.returns-in-Ok-clause-one
returns-in-Ok-clause-one c = if-ok (λ (s : String Global). c.in-Ok.names.count ≡ 1) (λ (s : String Global). HasWorlds c.args.bytes.now 1)
    (λ s is. subst (λ (n : ℕ). HasWorlds c.args.bytes.now n) is c.in-Ok.ensures.means) c.only.result c.only.ensures.one

pub returns-in-Ok-clause-refused : goal.returns-in-Ok-clause-refused
returns-in-Ok-clause-refused c = err-said (RefusedFor (c.in-Ok.names.count ≢ 1)) (RefusedFor (HasNoOneWorld c.args.bytes.now))
    (λ (r : Refusal) is. refused-by _ _ _ (λ other. no_one c.in-Ok.names.count c.in-Ok.ensures.means other) is) c.only.result c.only.ensures.refused

pub returns-in-Err-clause-refused : goal.returns-in-Err-clause-refused
returns-in-Err-clause-refused c = refused-by _ _ _ (λ other. no_package (refused-nothing c.args.bytes.now c.in-Err.error c.in-Err.ensures.refuses other)) c.of_error.ensures
