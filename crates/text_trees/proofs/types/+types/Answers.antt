use Rattle.std.proofs.Common.{rules, ◌≡◌, refl, sym, ◌∙◌, ◌+◌, List, subst}
use Rattle.print_grammar.specs.Token.Mark.{Greater}
use Rattle.text_trees.specs.ReadTypes.{type_in_front, tuple_types, up_to_greater, result_parts_in_front}
use Rattle.text_trees.specs.Seen.{RefusesAs, ahead, text_of}
use Rattle.text_trees.specs.TreesSeen.{form_behind, result_form_in_front, type_of}
use Rattle.print_grammar.specs.Keyword.{Keyword}
use Rattle.print_grammar.specs.Token.{Token, Mark.Less, Mark.Comma}
use Rattle.print_grammar.specs.Tree.{TypeTree, TypeTree.ResultErr, TypeTree.Result as ResultAlone, TypeTree.TupleOf}
use Rattle.text_tokens.specs.declared.token.Mark.TheVariants as mark
use Rattle.text_trees.specs.declared.refusal.Refusal.{Refusal}
use Rattle.text_trees.specs.declared.refusal.Refusal.TheVariants.{Wanted as NotThere}
use Rattle.text_trees.specs.declared.refusal.Wanted.TheVariants as wanted
use Rattle.text_trees.specs.declared.types.Form.TheVariants.{Tuple}
use Rattle.text_trees.specs.Reading.{Reading, Reading.Found, behind_mark, then_read, made, listed}
use Rattle.text_trees.proofs.Going.{mark_goes, if_mark_goes, if_key_goes, mark_refused, made-refuses, then-refuses}
use Rattle.text_trees.proofs.Listings.{listing_begins, listing_refuses, listing_refuses_more, listing_ends, listing_goes_on}
use Rattle.text_trees.proofs.types.+types.Goals as goal

pub types_at-loop-types-init : goal.types_at-loop-types-init
types_at-loop-types-init t c =
    let begun = listing_begins c.args.tokens.now (type_in_front c.args.room) Greater (type_of (text_of c.args.tokens.now)) c.args.at (search rules) in search (rules, begun)

pub types_at-returns-in_err-ty-clause-err : goal.types_at-returns-in_err-ty-clause-err
types_at-returns-in_err-ty-clause-err t c =
    search (
      rules,
      listing_refuses c.args.tokens.now (type_in_front c.args.room) Greater (type_of (text_of c.args.tokens.now)) c.args.at c.loop-types.from
          c.loop-types.types.items c.loop-types.invariant,
    )

pub types_at-returns-in_err-goes_on-clause-err : goal.types_at-returns-in_err-goes_on-clause-err
types_at-returns-in_err-goes_on-clause-err t c =
    search (
      rules,
      listing_refuses_more c.args.tokens.now (type_in_front c.args.room) Greater (type_of (text_of c.args.tokens.now)) c.args.at c.loop-types.from c.in_ok-ty.end
          c.loop-types.types.items c.in_ok-ty.ty c.loop-types.invariant c.in_ok-ty.ensures.ok,
    )

pub types_at-returns-then-not-goes_on-clause-ok : goal.types_at-returns-then-not-goes_on-clause-ok
types_at-returns-then-not-goes_on-clause-ok t c =
    listing_ends c.args.tokens.now (type_in_front c.args.room) Greater (type_of (text_of c.args.tokens.now)) c.args.at c.loop-types.from c.in_ok-ty.end c.in_ok-goes_on.behind
    c.loop-types.types.items c.in_ok-ty.ty c.in_ok-goes_on.goes_on c.loop-types.invariant c.in_ok-ty.ensures.ok c.in_ok-goes_on.ensures.ok (search rules) _ (search rules)

pub types_at-loop-types-preserved : goal.types_at-loop-types-preserved
types_at-loop-types-preserved t c =
    listing_goes_on c.args.tokens.now (type_in_front c.args.room) Greater (type_of (text_of c.args.tokens.now)) c.args.at c.loop-types.from c.in_ok-ty.end
    c.in_ok-goes_on.behind c.loop-types.types.items c.in_ok-ty.ty c.in_ok-goes_on.goes_on c.loop-types.invariant c.in_ok-ty.ensures.ok c.in_ok-goes_on.ensures.ok
    (search rules) c.in_ok-ty.ensures.goes c.in_ok-goes_on.ensures.goes c.in_ok-goes_on.ensures.within _ (search rules)

pub tuple_at-returns-in_err-types-clause-err : goal.tuple_at-returns-in_err-types-clause-err
tuple_at-returns-in_err-types-clause-err t c =
    let them = c.args.tokens.now in
    let read = type_in_front c.args.room in
    let here : form_behind Tuple read (ahead them c.args.at) ≡ made (λ types. TupleOf (tuple_types types)) (listed read Greater (ahead them c.in_ok-from.from)) =
    mark_goes them Less (λ rest. made (λ types. TupleOf (tuple_types types)) (listed read Greater rest)) c.args.at c.in_ok-from.from c.in_ok-from.ensures.ok
    c.in_ok-from.ensures.goes in
    let refused : (e : Refusal) → RefusesAs them e (listed read Greater (ahead them c.in_ok-from.from)) → RefusesAs them e (form_behind Tuple read (ahead them c.args.at)) =
    λ e h. subst (RefusesAs them e) (sym here) (made-refuses them (λ types. TupleOf (tuple_types types)) (listed read Greater (ahead them c.in_ok-from.from)) e h) in
    search (rules, refused)

-- what follows `<` and `_` of a result
abbrev behind_underscore : (List Token → Reading TypeTree) → List Token → Reading TypeTree
behind_underscore read = behind_mark Comma (λ rest. then_read (read rest) (λ err rest. up_to_greater (ResultErr err) rest))

pub result_at-returns-in_err-from-clause-err : goal.result_at-returns-in_err-from-clause-err
result_at-returns-in_err-from-clause-err t c =
    let them = c.args.tokens.now in
    let read = type_in_front c.args.room in
    let here : result_form_in_front read (ahead them c.args.at) ≡ behind_underscore read (ahead them (c.args.at + 1 + 1)) =
    if_mark_goes them Less (result_parts_in_front read) (Found ResultAlone) c.args.at (c.args.at + 1) (search rules) refl
    ∙ if_key_goes them Keyword.Underscore (behind_underscore read) _ (c.args.at + 1) (c.args.at + 1 + 1) (search rules) refl in
    let refused : (e : Refusal) → e ≡ NotThere (wanted.Mark mark.Comma) (c.args.at + 1 + 1) → RefusesAs them e (result_form_in_front read (ahead them c.args.at)) =
    λ e f. subst (RefusesAs them e) (sym here) (mark_refused them Comma (λ rest. then_read (read rest) (λ err rest. up_to_greater (ResultErr err) rest))
    (c.args.at + 1 + 1) (wanted.Mark mark.Comma) e c.in_err-from.ensures.none refl f) in
    search (rules, refused)

pub result_at-returns-in_err-err-clause-err : goal.result_at-returns-in_err-err-clause-err
result_at-returns-in_err-err-clause-err t c =
    let them = c.args.tokens.now in
    let read = type_in_front c.args.room in
    let here : result_form_in_front read (ahead them c.args.at) ≡ then_read (read (ahead them c.in_ok-from.from)) (λ err rest. up_to_greater (ResultErr err) rest) =
    if_mark_goes them Less (result_parts_in_front read) (Found ResultAlone) c.args.at (c.args.at + 1) (search rules) refl
    ∙ if_key_goes them Keyword.Underscore (behind_underscore read) _ (c.args.at + 1) (c.args.at + 1 + 1) (search rules) refl
    ∙ mark_goes them Comma (λ rest. then_read (read rest) (λ err rest. up_to_greater (ResultErr err) rest)) (c.args.at + 1 + 1) c.in_ok-from.from c.in_ok-from.ensures.ok
    c.in_ok-from.ensures.goes in
    let refused : (e : Refusal) → RefusesAs them e (read (ahead them c.in_ok-from.from)) → RefusesAs them e (result_form_in_front read (ahead them c.args.at)) =
    λ e h. subst (RefusesAs them e) (sym here) (then-refuses them (read (ahead them c.in_ok-from.from)) (λ err rest. up_to_greater (ResultErr err) rest) e h) in
    search (rules, refused)
