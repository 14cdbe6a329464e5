use Rattle.std.proofs.{Common.◌≤◌, Common.arith, Common.length, lemmas.Result.IfOk-weaker as if_ok}
use Rattle.read_numbers.specs.NumberedInput.{tables_of}
use Rattle.comp_read.proofs.Followed.{are_paths, few_followed}
use Rattle.comp_read.proofs.reading.wanted_of_parts.Goals as goal

pub wanted_of_followed-requires-clause-paths : goal.wanted_of_followed-requires-clause-paths
wanted_of_followed-requires-clause-paths c = are_paths c.args.followed.now c.requires

pub returns-clause-few : goal.returns-clause-few
returns-clause-few c = λ bytes pieces is read.
    let shapes = (tables_of c.args.followed.now).shapes in
    let fit = few_followed bytes pieces c.args.followed.now is read in
    if_ok c.wanted_of_followed.result (λ x. length x.0.types.items ≤ length shapes) (λ x. length x.0.types.items ≤ length bytes) (λ x few. omega (arith, fit, few)) c.wanted_of_followed.ensures.few
