use Rattle.std.proofs.Common.{sym, ap, ◌∙◌}
use Rattle.std.specs.List.{list_all}
use Rattle.wit_model.specs.Uses.{has}
use Rattle.plan_meaning.specs.NumberedWorlds.{others_than, used_by, uses_of}
use Rattle.read_rules.specs.{Scopes.numbered_shown, Tables.numbered_tables}
use Rattle.read_rules.proofs.WorldLaws.{uses_along}
use Rattle.read_rules.proofs.uses.uses_stand.Goals as goal

pub returns-in-Instance : goal.returns-in-Instance
returns-in-Instance c = c.types_stand.ensures ∙ (ap (λ own. list_all (λ x. list_all (has c.args.earlier.now.keys) (others_than own (used_by (numbered_tables c.args.tables.now) x.declared)))
    c.in-Instance.view.types.now) c.place_of.ensures ∙ (sym (uses_along (numbered_tables c.args.tables.now) (has c.args.earlier.now.keys) _ c.in-Instance.view.types.now)
    ∙ ap (λ s. list_all (has c.args.earlier.now.keys) (uses_of (numbered_tables c.args.tables.now) (numbered_shown s))) (sym c.in-Instance.is)))

pub returns-in-Declares : goal.returns-in-Declares
returns-in-Declares c = c.stands.ensures ∙ (ap (list_all (has c.args.earlier.now.keys)) c.used_by.ensures
    ∙ ap (λ s. list_all (has c.args.earlier.now.keys) (uses_of (numbered_tables c.args.tables.now) (numbered_shown s))) (sym c.in-Declares.is))
