use Rattle.std.proofs.{Common.rules, lemmas.List.Sorted.answers_always}
use Rattle.encode_types.proofs.Ascending.{search-found, search-lacks, found-at}
use Rattle.encode_types.proofs.number_map.searched.Goals as goal

pub returns-in-Ok-clause-some : goal.returns-in-Ok-clause-some
returns-in-Ok-clause-some c =
    let by_key = c.in-Ok.ensures.position (λ e. e.0) (answers_always _ _ _ (λ f a r g called. search rules)) in
    let there = search-found c.args.run.now c.requires c.args.number c.in-Ok.at (0, 0) by_key in
    found-at c.args.run.now c.args.number c.in-Ok.at c.in-Ok.ensures.bound there

pub returns-in-Err-clause-none : goal.returns-in-Err-clause-none
returns-in-Err-clause-none c =
    let by_key = c.in-Err.ensures.position (λ e. e.0) (answers_always _ _ _ (λ f a r g called. search rules)) in
    search-lacks c.args.run.now c.requires c.args.number c.in-Err.field-0 c.in-Err.ensures.bound by_key
