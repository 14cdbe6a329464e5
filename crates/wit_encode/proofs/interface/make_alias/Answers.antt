use Rattle.std.proofs.Common.{ap, ◌∙◌, ℕ, List, nat_cmp}
use Rattle.std.specs.{Map.remove_entry, BTreeMap.is_at}
use Rattle.wit_encode.proofs.Importing.{taken-back}
use Rattle.wit_encode.proofs.interface.make_alias.Goals as goal

pub returns-in-Err-clause-same : goal.returns-in-Err-clause-same
returns-in-Err-clause-same c = c.remove.ensures.entries ∙ ap (λ (es : List (ℕ × ℕ)). remove_entry (is_at (nat_cmp c.args.id.0)) es) c.in_ok-insert.ensures.entries ∙ taken-back c.args.id.0 _
    c.args.known.now.entries c.requires
