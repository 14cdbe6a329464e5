use Rattle.std.proofs.Common.{rules, ◌≡◌, ◌∙◌, [], ap, subst}
use Rattle.bind_copy.specs.Copies.{AreNewCopied}
use Rattle.bind_carry.specs.Whole.{home_under}
use Rattle.bind_carry.proofs.whole.copy_world.Goals as goal

pub returns-clause-copy : goal.returns-clause-copy
returns-clause-copy c =
    let types = c.args.types.now in
    let world = c.args.world.now in
    let empty : c.new-nothing.result.entries ≡ [] = search rules in
    record {
      name = search rules;
      imports = subst (λ is. AreNewCopied is types [] world.imports.entries c.in_ok-copy_items.field-0.entries) c.deref.ensures.value
          (subst (λ here. AreNewCopied c.deref.result.now types here world.imports.entries c.in_ok-copy_items.field-0.entries) empty c.in_ok-copy_items.ensures.items);
      exports = subst (λ is. AreNewCopied is types [] world.exports.entries c.in_ok-copy_items-2.field-0.entries) c.deref.ensures.value
          (subst (λ here. AreNewCopied c.deref.result.now types here world.exports.entries c.in_ok-copy_items-2.field-0.entries) empty c.in_ok-copy_items-2.ensures.items);
      docs = search rules;
      stability = search rules;
      in_package = c.home.ensures ∙ ap (λ l. home_under l world.«package») c.deref-3.ensures.value;
    }
