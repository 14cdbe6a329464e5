use Rattle.case_calls.proofs.Unnamed.{asked}
use Rattle.case_calls.proofs.encoder.asked_thrice.Goals as goal

pub asked-first-requires : goal.asked-first-requires
asked-first-requires c = asked c.new-encoder.result c.new-encoder.ensures.sound c.args.id c.args.resolve.now c.new-encoder.ensures.packages c.requires.valid c.requires.unnamed c.requires.in_range
    c.new-encoder.ensures.agree
