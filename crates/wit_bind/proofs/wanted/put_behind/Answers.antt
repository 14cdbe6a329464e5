use Rattle.std.proofs.Common.{rules, ap, subst, ◌∙◌, List, option_to_list}
use Rattle.std.proofs.lemmas.Map.Iter.{rest_all, rest_more}
use Rattle.std.specs.Map.Iter.{deref_pair}
use Rattle.wit_model.specs.Text.{text_of}
use Rattle.bind_keys.specs.{KeyLists.Entry, KeyLists.Puts, KeyLists.entry_of, KeyLists.member_entries}
use Rattle.wit_bind.specs.{Choices.choice_of}
use Rattle.wit_bind.proofs.Putting.{IsLeft, given-front, left_next, left_none}
use Rattle.wit_bind.proofs.wanted.put_behind.Goals as goal

pub loop-name-preserved : goal.loop-name-preserved
loop-name-preserved c =
    let r = c.args.resolve.now in
    let w = choice_of r c.args.wanted.now in
    let scope = c.args.scope.now in
    let all = member_entries r w scope c.args.functions.now.entries in
    let rest = member_entries r w scope c.next.new.self in
    let first = entry_of r w scope (text_of c.in-Some.name.now) in
    let next = rest_more deref_pair c.loop-name.name-iterator c.next.new.self c.next.result (c.in-Some.name, c.in-Some._function) c.in-Some.is c.next.ensures.steps in
    let puts : Puts (option_to_list first) c.loop-name.table.encodings c.put_function.new.table.encodings = search rules in (
      c.in_ok-put_function.ensures.keeps c.args.front.text.now c.args.front.number c.loop-name.invariant.0,
      left_next all (option_to_list first) rest c.args.table.now.encodings c.loop-name.table.encodings c.put_function.new.table.encodings
          (subst (λ (es : List Entry). IsLeft all es c.args.table.now.encodings c.loop-name.table.encodings) (ap (member_entries r w scope) next ∙ given-front first rest)
          c.loop-name.invariant.1) puts,
    )

pub returns-clause-ok : goal.returns-clause-ok
returns-clause-ok c =
    let r = c.args.resolve.now in
    let w = choice_of r c.args.wanted.now in
    let scope = c.args.scope.now in
    let all = member_entries r w scope c.args.functions.now.entries in
    let rest = rest_all deref_pair c.loop-name.name-iterator c.next.new.self c.next.result c.in-None.is c.next.ensures.steps in
    left_none all c.args.table.now.encodings c.loop-name.table.encodings
    (subst (λ es. IsLeft all (member_entries r w scope es) c.args.table.now.encodings c.loop-name.table.encodings) rest c.loop-name.invariant.1)
