use Rattle.witc_read.proofs.packages.read_package.Goals as goal

pub returns-in-Err-clause-err : goal.returns-in-Err-clause-err
returns-in-Err-clause-err c = c.in-Err.ensures.err c.args.own
