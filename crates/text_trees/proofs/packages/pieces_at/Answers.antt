use Rattle.std.proofs.Common.{rules, sym, ◌∙◌, map}
use Rattle.std.specs.Option.{option_map}
use Rattle.text_trees.specs.Seen.{text_of}
use Rattle.text_trees.specs.TextTreesSeen.{documented_head, nested_of}
use Rattle.text_trees.proofs.Pieces.{gathered, gathering_begins, gathering_refuses_item, gathering_refuses_nested, gathers_item, gathers_nested}
use Rattle.text_trees.proofs.packages.pieces_at.Goals as goal

pub pieces-init : goal.pieces-init
pieces-init c = let begun = gathering_begins c.args.tokens.now c.args.at c.args.first.items c.requires in search (rules, begun)

pub returns-then-is_end-clause-ok : goal.returns-then-is_end-clause-ok
returns-then-is_end-clause-ok c =
    let them = c.args.tokens.now in
    gathered them (map (nested_of (text_of them)) c.args.first.items) c.args.at c.pieces.from c.pieces.items.items c.pieces.nested.items
    (option_map (documented_head (text_of them) c.args.docs) c.args.head) c.pieces.invariant (sym c.is_end.ensures ∙ c.if-is_end.true)

pub returns-in_err-it-clause-err : goal.returns-in_err-it-clause-err
returns-in_err-it-clause-err c =
    let them = c.args.tokens.now in
    search (
      rules,
      gathering_refuses_nested them (map (nested_of (text_of them)) c.args.first.items) c.args.at c.pieces.from c.pieces.items.items c.pieces.nested.items
          (option_map (documented_head (text_of them) c.args.docs) c.args.head) c.pieces.invariant (sym c.is_end.ensures ∙ c.if-is_end.false)
          (sym c.begins_key.ensures.is ∙ c.if-begins_key.true),
    )

pub pieces-preserved-then-begins_key : goal.pieces-preserved-then-begins_key
pieces-preserved-then-begins_key c =
    let them = c.args.tokens.now in
    gathers_nested them (map (nested_of (text_of them)) c.args.first.items) c.args.at c.pieces.from c.pieces.items.items c.pieces.nested.items
    c.in_ok-it.behind c.in_ok-it.it c.pieces.invariant (sym c.is_end.ensures ∙ c.if-is_end.false) (sym c.begins_key.ensures.is ∙ c.if-begins_key.true)
    c.in_ok-it.ensures.ok c.in_ok-it.ensures.goes c.in_ok-it.ensures.within _ (search rules)

pub read-requires-else-begins_key : goal.read-requires-else-begins_key
read-requires-else-begins_key c = c.pieces.invariant.reached.within

pub returns-in_err-item-clause-err : goal.returns-in_err-item-clause-err
returns-in_err-item-clause-err c =
    let them = c.args.tokens.now in
    search (
      rules,
      gathering_refuses_item them (map (nested_of (text_of them)) c.args.first.items) c.args.at c.pieces.from c.pieces.items.items c.pieces.nested.items
          (option_map (documented_head (text_of them) c.args.docs) c.args.head) c.pieces.invariant (sym c.is_end.ensures ∙ c.if-is_end.false)
          (sym c.begins_key.ensures.is ∙ c.if-begins_key.false),
    )

pub pieces-preserved : goal.pieces-preserved
pieces-preserved c =
    let them = c.args.tokens.now in
    gathers_item them (map (nested_of (text_of them)) c.args.first.items) c.args.at c.pieces.from c.pieces.items.items c.pieces.nested.items
    c.in_ok-item.behind c.in_ok-item.item c.pieces.invariant (sym c.is_end.ensures ∙ c.if-is_end.false) (sym c.begins_key.ensures.is ∙ c.if-begins_key.false)
    c.in_ok-item.ensures.ok c.in_ok-item.ensures.goes c.in_ok-item.ensures.within _ (search rules)
