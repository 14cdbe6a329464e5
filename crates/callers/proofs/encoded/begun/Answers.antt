use Rattle.callers.proofs.encoded.begun.Goals as goal

pub returns : goal.returns
returns c = record { packages_ = c.new.ensures.packages; can = c.new.ensures.can c.requires.valid; agree = c.new.ensures.agree }
