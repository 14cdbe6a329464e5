use Rattle.std.proofs.Common.{rules, ◌≡◌, ◌∙◌, refl, sym, ap, inl, inr, is_some, None}
use Rattle.std.specs.HashMap.{get_by_text}
use Rattle.indexmap.proofs.CallerLemmas.{insert_entry-new}
use Rattle.wit_model.specs.Text.{text_of}
use Rattle.wit_compat.proofs.WorldContents.{copied_there, copied_missing}
use Rattle.wit_compat.proofs.contents.put.Goals as goal

pub returns-then-is_some : goal.returns-then-is_some
returns-then-is_some c = inl (refl, ap (λ t. is_some (get_by_text c.args.items.now t)) (sym c.as_str.ensures.value) ∙ ap is_some (sym c.get.ensures.value) ∙ copied_there c.get.result (search rules))

pub returns : goal.returns
returns c =
    let items = c.args.items.now in
    let missing : get_by_text items (text_of c.args.key) ≡ None = ap (get_by_text items) (sym c.as_str.ensures.value) ∙ sym c.get.ensures.value ∙ copied_missing c.get.result (search rules) in
    inr (c.in_ok-insert.ensures.entries ∙ insert_entry-new _ items c.args.key c.args.item missing)
