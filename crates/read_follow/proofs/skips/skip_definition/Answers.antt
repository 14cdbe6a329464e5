use Rattle.std.proofs.Common.{ap, ◌∙◌}
use Rattle.comp_bytes.specs.FirstByte.{defined_type_at}
use Rattle.read_follow.specs.Bodies.{behind}
use Rattle.read_follow.proofs.SkipLaws.{record_skipped, variant_skipped, tuple_skipped, flags_skipped, enum_skipped}
use Rattle.read_follow.proofs.skips.skip_definition.Goals as goal

pub returns-in-114 : goal.returns-in-114
returns-in-114 c = rw (ap (λ tag. behind (defined_type_at tag c.args.bytes.now)) c.in-114.is ∙ record_skipped c.args.bytes.now) c.skip_vector.ensures

pub returns-in-113 : goal.returns-in-113
returns-in-113 c = rw (ap (λ tag. behind (defined_type_at tag c.args.bytes.now)) c.in-113.is ∙ variant_skipped c.args.bytes.now) c.skip_vector-in-113.ensures

pub returns-in-111 : goal.returns-in-111
returns-in-111 c = rw (ap (λ tag. behind (defined_type_at tag c.args.bytes.now)) c.in-111.is ∙ tuple_skipped c.args.bytes.now) c.skip_vector-in-111.ensures

pub returns-in-110 : goal.returns-in-110
returns-in-110 c = rw (ap (λ tag. behind (defined_type_at tag c.args.bytes.now)) c.in-110.is ∙ flags_skipped c.args.bytes.now) c.skip_vector-in-110.ensures

pub returns-in-109 : goal.returns-in-109
returns-in-109 c = rw (ap (λ tag. behind (defined_type_at tag c.args.bytes.now)) c.in-109.is ∙ enum_skipped c.args.bytes.now) c.skip_vector-in-109.ensures
