use Rattle.wit_metadata.proofs.said.encoding_in.Goals as goal

pub returns-in-Err : goal.returns-in-Err
returns-in-Err c = λ sections component. absurd (c.in-Err.ensures sections component)
