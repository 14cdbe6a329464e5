use Rattle.std.proofs.Common.{ap, ◌∙◌, ℕ, List, nat_cmp}
use Rattle.std.specs.{Map.remove_entry, BTreeMap.is_at}
use Rattle.wit_encode.proofs.Importing.{taken-back}
use Rattle.wit_interfaces.proofs.encoder.import_instance.Goals as goal

pub returns-in-Err-clause-same : goal.returns-in-Err-clause-same
returns-in-Err-clause-same c = c.remove.ensures.entries ∙ ap (λ (es : List (ℕ × ℕ)). remove_entry (is_at (nat_cmp c.args.interface.0)) es) c.in_ok-insert.ensures.entries ∙ taken-back
    c.args.interface.0 _ c.args.instances.now.entries c.requires
