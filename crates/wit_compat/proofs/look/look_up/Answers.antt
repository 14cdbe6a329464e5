use Rattle.std.proofs.{Common.refl, Common.sym, Common.◌∙◌, lemmas.Option.slice_get_read}
use Rattle.indexmap.proofs.CallerLemmas.{Contains-list_any}
use Rattle.compat_meaning.proofs.{Growing.same_pair, Sided.both_named, Sided.first_named, Sided.second_named, Sided.looked, Sided.never}
use Rattle.wit_compat.proofs.look.look_up.Goals as goal

pub returns-then-is_some-2 : goal.returns-then-is_some-2
returns-then-is_some-2 c = both_named _ _ c.requires.left.valid c.requires.right.valid c.args.a c.args.b _ _
    (slice_get_read _ _ _ _ refl c.requires.a c.index-prev.ensures) (slice_get_read _ _ _ _ refl c.requires.b c.index-new.ensures)
    c.same_names.result (sym c.is_some.ensures ∙ c.if-is_some.true) (sym c.is_some-then-is_some.ensures ∙ c.if-is_some-2.true) c.same_names.ensures

pub returns-then-is_some : goal.returns-then-is_some
returns-then-is_some c = never _ (first_named _ _ c.requires.left.valid c.requires.right.valid c.args.a c.args.b _ _ (slice_get_read _ _ _ _ refl c.requires.a c.index-prev.ensures)
    (slice_get_read _ _ _ _ refl c.requires.b c.index-new.ensures) (sym c.is_some.ensures ∙ c.if-is_some.true) (sym c.is_some-then-is_some.ensures ∙ c.if-is_some-2.false))

pub returns-then-is_some-3 : goal.returns-then-is_some-3
returns-then-is_some-3 c = never _ (second_named _ _ c.requires.left.valid c.requires.right.valid c.args.a c.args.b _ _ (slice_get_read _ _ _ _ refl c.requires.a c.index-prev.ensures)
    (slice_get_read _ _ _ _ refl c.requires.b c.index-new.ensures) (sym c.is_some.ensures ∙ c.if-is_some.false) (sym c.is_some-2.ensures ∙ c.if-is_some-3.true))

pub returns-then-contains : goal.returns-then-contains
returns-then-contains c = (λ t. c.requires.pairs (c.args.a, c.args.b) (Contains-list_any _ same_pair _ _ (sym c.contains.ensures ∙ c.if-contains.true)), λ same. refl)

pub returns : goal.returns
returns c = looked _ _ c.requires.left.valid c.requires.right.valid c.args.a c.args.b _ _
    (slice_get_read _ _ _ _ refl c.requires.a c.index-prev.ensures) (slice_get_read _ _ _ _ refl c.requires.b c.index-new.ensures)
    (sym c.is_some.ensures ∙ c.if-is_some.false) (sym c.is_some-2.ensures ∙ c.if-is_some-3.false) c.look_into.result c.look_into.ensures.known c.look_into.ensures.parts
