use Rattle.std.proofs.Common.{◌∙◌, ap, sym, refl, map, Some}
use Rattle.read_follow.specs.Functions.{function_shape}
use Rattle.read_follow.proofs.FunctionKeyLaws.{same_function, function_same, function_again}
use Rattle.read_follow.proofs.JoinLaws.{joined_apart, joins}
use Rattle.read_follow.proofs.functions.put.Goals as goal
use Rattle.base_lemmas.proofs.Lists.{mapped_get}

pub returns-clause-found : goal.returns-clause-found
returns-clause-found c =
    let s = c.in_ok-number.ensures.stored in
    mapped_get function_shape c.insert_full.new.self.keys c.in_ok-number.number s.0 s.1 ∙ ap Some (sym (function_same c.args.key s.0 s.2))

pub returns-clause-joins : goal.returns-clause-joins
returns-clause-joins c = joins function_shape same_function function_again c.args.keys.now.keys c.insert_full.new.self.keys c.args.key _ refl c.in_ok-number.ensures.keys

pub returns-clause-apart : goal.returns-clause-apart
returns-clause-apart c = joined_apart (map function_shape c.args.keys.now.keys) (function_shape c.args.key) c.requires (map function_shape c.insert_full.new.self.keys)
    (joins function_shape same_function function_again c.args.keys.now.keys c.insert_full.new.self.keys c.args.key _ refl c.in_ok-number.ensures.keys)
