use Rattle.std.proofs.Common.{◌∙◌, ap, None, Some}
use Rattle.comp_bytes.specs.Reading.{description_at, extern_name_at, pair_at}
use Rattle.read_follow.specs.Bodies.{behind}
use Rattle.read_follow.proofs.{Refusing.refused, SkipLaws.seen_passed}
use Rattle.read_follow.proofs.skips.skip_seen.Goals as goal

pub returns-in-Ok-description_of : goal.returns-in-Ok-description_of
returns-in-Ok-description_of c = seen_passed c.args.bytes.now (Some c.in-Ok.rest.now) c.in-Ok.ensures ∙ ap behind c.in-Ok-description_of.ensures

pub returns-in-Err-description_of : goal.returns-in-Err-description_of
returns-in-Err-description_of c = refused c.in-Err-description_of.refusal (description_at c.in-Ok.rest.now) (behind (pair_at extern_name_at description_at c.args.bytes.now))
    (λ e. seen_passed c.args.bytes.now (Some c.in-Ok.rest.now) c.in-Ok.ensures ∙ ap behind e) c.in-Err-description_of.ensures

pub returns-in-Err : goal.returns-in-Err
returns-in-Err c = refused c.in-Err.refusal (behind (extern_name_at c.args.bytes.now)) (behind (pair_at extern_name_at description_at c.args.bytes.now)) (seen_passed c.args.bytes.now None)
    c.in-Err.ensures
