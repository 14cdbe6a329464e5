use Rattle.std.proofs.Common.{rules, arith, ◌≡◌, ◌≤◌, ◌∙◌, ◌+◌, ap, sym, subst, ℕ, List, length}
use Rattle.wit_model.specs.declared.model.{Interface.Interface, Package.Package, TypeDef.TypeDef, World.World}
use Rattle.bind_copy.specs.Copies.{AreNewCopied}
use Rattle.bind_carry.specs.{BoundGains.bound_fates, BoundGains.gained_inline, BoundGains.AreInlineCopied, Numbers.copied_count, Numbers.numbers_of}
use Rattle.bind_carry.specs.Fates.{AreCopied}
use Rattle.bind_carry.proofs.Counting.{inline_long}
use Rattle.bind_carry.proofs.Ready.{exports_below, exports_shown, functions_in, imports_below, imports_shown, names_in, numbers_many, on_ok_two, types_shown, world_keys_below}
use Rattle.base_lemmas.proofs.{Lists.within_there, Options.ok_holds as on_ok}
use Rattle.bind_unite.proofs.bound.bind_items.Goals as goal

pub copied_inline-requires-clause-imports : goal.copied_inline-requires-clause-imports
copied_inline-requires-clause-imports c v at = imports_shown c.args.bound.own.now c.args.bound.other.now c.args.bound.world.0 c.args.bound.other_world.0 c.args.first.carried.now c.args.first.fates.now
    c.args.first.types.now c.requires v at (length c.deref.result.now) (ap length c.deref.ensures.value ∙ c.requires.interface_count)

pub copied_inline-requires-clause-exports : goal.copied_inline-requires-clause-exports
copied_inline-requires-clause-exports c v at = exports_shown c.args.bound.own.now c.args.bound.other.now c.args.bound.world.0 c.args.bound.other_world.0 c.args.first.carried.now c.args.first.fates.now
    c.args.first.types.now c.requires v at (length c.deref.result.now) (ap length c.deref.ensures.value ∙ c.requires.interface_count)

pub bind_types-requires-clause-keys : goal.bind_types-requires-clause-keys
bind_types-requires-clause-keys c v at =
    let many = numbers_many (length c.args.bound.own.now.interfaces.items + c.len-before.result) c.deref-2.result.now c.deref-3.result.now c.in_ok-interfaces.interfaces.items
    (length c.args.bound.other.now.interfaces.items) c.in_ok-interfaces.ensures.numbers
    (ap length c.deref-2.ensures.value ∙ c.in_ok-copied.ensures.count) (ap length c.deref-3.ensures.value ∙ c.requires.interface_count) in
    world_keys_below c.args.bound.other.now c.requires.in_range c.args.bound.other_world.0 v at (length c.deref-5.result.now) (ap length c.deref-5.ensures.value ∙ many)

pub bind_types-requires-clause-same : goal.bind_types-requires-clause-same
bind_types-requires-clause-same c =
    let many = numbers_many (length c.args.bound.own.now.interfaces.items + c.len-before.result) c.deref-2.result.now c.deref-3.result.now c.in_ok-interfaces.interfaces.items
    (length c.args.bound.other.now.interfaces.items) c.in_ok-interfaces.ensures.numbers
    (ap length c.deref-2.ensures.value ∙ c.in_ok-copied.ensures.count) (ap length c.deref-3.ensures.value ∙ c.requires.interface_count) in
    (ap length c.deref-5.ensures.value ∙ many) ∙ sym (ap length c.deref-4.ensures.value ∙ c.in_ok-copied.ensures.count)

pub bind_types-requires-clause-imports : goal.bind_types-requires-clause-imports
bind_types-requires-clause-imports c v at = types_shown c.args.bound.own.now c.args.bound.other.now c.args.bound.world.0 c.args.bound.other_world.0 c.args.first.carried.now c.args.first.fates.now
    c.args.first.types.now c.requires v at

pub copy_inline-requires-clause-names : goal.copy_inline-requires-clause-names
copy_inline-requires-clause-names c n i at = names_in c.args.bound.own.now c.args.bound.other.now c.args.bound.world.0 c.args.bound.other_world.0 c.args.first.carried.now c.args.first.fates.now
    c.args.first.types.now c.requires (length c.deref-7.result.now) (ap length c.deref-7.ensures.value ∙ c.in_ok-types.ensures.count) n i at

pub copy_inline-requires-clause-functions : goal.copy_inline-requires-clause-functions
copy_inline-requires-clause-functions c n i at = functions_in c.args.bound.own.now c.args.bound.other.now c.args.bound.world.0 c.args.bound.other_world.0 c.args.first.carried.now
    c.args.first.fates.now c.args.first.types.now c.requires (length c.deref-7.result.now) (ap length c.deref-7.ensures.value ∙ c.in_ok-types.ensures.count) n i at

pub bind_entries-requires-clause-imports : goal.bind_entries-requires-clause-imports
bind_entries-requires-clause-imports c v at =
    let many = numbers_many (length c.args.bound.own.now.interfaces.items + c.len-before.result) c.deref-2.result.now c.deref-3.result.now c.in_ok-interfaces.interfaces.items
    (length c.args.bound.other.now.interfaces.items) c.in_ok-interfaces.ensures.numbers
    (ap length c.deref-2.ensures.value ∙ c.in_ok-copied.ensures.count) (ap length c.deref-3.ensures.value ∙ c.requires.interface_count) in
    imports_below c.args.bound.own.now c.args.bound.other.now c.args.bound.world.0 c.args.bound.other_world.0 c.args.first.carried.now c.args.first.fates.now c.args.first.types.now c.requires v at
    (length c.deref-8.result.now) (length c.deref-9.result.now) (ap length c.deref-8.ensures.value ∙ many) (ap length c.deref-9.ensures.value ∙ c.in_ok-types.ensures.count)

pub bind_entries-requires-clause-exports : goal.bind_entries-requires-clause-exports
bind_entries-requires-clause-exports c v at =
    let many = numbers_many (length c.args.bound.own.now.interfaces.items + c.len-before.result) c.deref-2.result.now c.deref-3.result.now c.in_ok-interfaces.interfaces.items
    (length c.args.bound.other.now.interfaces.items) c.in_ok-interfaces.ensures.numbers
    (ap length c.deref-2.ensures.value ∙ c.in_ok-copied.ensures.count) (ap length c.deref-3.ensures.value ∙ c.requires.interface_count) in
    exports_below c.args.bound.own.now c.args.bound.other.now c.args.bound.world.0 c.args.bound.other_world.0 c.args.first.carried.now c.args.first.fates.now c.args.first.types.now c.requires v at
    (length c.deref-8.result.now) (length c.deref-9.result.now) (ap length c.deref-8.ensures.value ∙ many) (ap length c.deref-9.ensures.value ∙ c.in_ok-types.ensures.count)

pub returns-clause-gained : goal.returns-clause-gained
returns-clause-gained c =
    let own = c.args.bound.own.now in
    let other = c.args.bound.other.now in
    let world = c.args.bound.world.0 in
    let other_world = c.args.bound.other_world.0 in
    let carried = c.args.first.carried.now in
    let fates = c.args.first.fates.now in
    let first_types = c.args.first.types.now in
    let old = c.args.added.now in
    let new = c.bind_entries.new.added in
    let copied = c.in_ok-copied.copied.items in
    let interfaces = c.in_ok-interfaces.interfaces.items in
    let types = c.in_ok-types.types.items in
    let lists = c.bind_entries.ensures.lists in
    let before : c.len-before.result ≡ length old.interfaces.items = search rules in
    on_ok_two (λ imports exports w v at_w at_v. record {
      copied = copied;
      copied_are = c.in_ok-copied.ensures.flags w v at_w at_v ∙ ap (λ l. gained_inline other l w v) c.deref.ensures.value;
      interfaces = interfaces;
      interfaces_are = c.in_ok-interfaces.ensures.numbers ∙ (λ i. numbers_of (length own.interfaces.items + before i) (c.deref-2.ensures.value i) (c.deref-3.ensures.value i));
      types = types;
      packages = lists.packages;
      names = lists.names;
      worlds = lists.worlds;
      types_copied = subst (λ (l : List TypeDef). AreCopied (length own.types.items) types other.types.items (bound_fates other world other_world w v copied interfaces fates first_types)
          old.types.items l) (sym lists.type_defs) (subst (λ (l : List ℕ). AreCopied (length own.types.items) types other.types.items
          (bound_fates other world other_world w v copied l fates first_types) old.types.items c.bind_types.new.added.items) c.deref-5.ensures.value
          (subst (λ l. AreCopied (length own.types.items) types other.types.items (bound_fates other world other_world w v l c.deref-5.result.now fates first_types) old.types.items
          c.bind_types.new.added.items) c.deref-4.ensures.value (c.in_ok-types.ensures.copied w v at_w at_v)));
      inline_copied = subst (λ (l : List Interface). AreInlineCopied types w.«package» copied other.interfaces.items old.interfaces.items l) (sym lists.interfaces)
          (subst (λ (l : List ℕ). AreInlineCopied l w.«package» copied other.interfaces.items old.interfaces.items c.copy_inline.new.added.items) c.deref-7.ensures.value
          (subst (λ l. AreInlineCopied c.deref-7.result.now w.«package» l other.interfaces.items old.interfaces.items c.copy_inline.new.added.items) c.deref-6.ensures.value
          (c.in_ok-copy_inline.ensures.copied w at_w)));
      imports = subst (λ (l : List ℕ). AreNewCopied interfaces l w.imports.entries v.imports.entries new.imports.entries) c.deref-9.ensures.value
          (subst (λ (l : List ℕ). AreNewCopied l c.deref-9.result.now w.imports.entries v.imports.entries new.imports.entries) c.deref-8.ensures.value (imports w v at_w at_v));
      exports = subst (λ (l : List ℕ). AreNewCopied interfaces l w.exports.entries v.exports.entries new.exports.entries) c.deref-9.ensures.value
          (subst (λ (l : List ℕ). AreNewCopied l c.deref-9.result.now w.exports.entries v.exports.entries new.exports.entries) c.deref-8.ensures.value (exports w v at_w at_v));
    })
    c.bind_entries.result c.bind_entries.ensures.imports c.bind_entries.ensures.exports

pub returns-clause-few : goal.returns-clause-few
returns-clause-few c =
    let own = c.args.bound.own.now in
    let other = c.args.bound.other.now in
    let old = c.args.added.now in
    let copied = c.in_ok-copied.copied.items in
    let lists = c.bind_entries.ensures.lists in
    let before : c.len-before.result ≡ length old.interfaces.items = search rules in
    let w = within_there own.worlds.items c.args.bound.world.0 c.requires.own_range in
    let flags : copied_count c.deref-2.result.now ≡ copied_count copied = ap copied_count c.deref-2.ensures.value in
    let flags_again : copied_count c.deref-6.result.now ≡ copied_count copied = ap copied_count c.deref-6.ensures.value in
    let few : (length own.interfaces.items + c.len-before.result) + copied_count c.deref-2.result.now ≤ 4294967295 = c.in_ok-interfaces.ensures.few in
    let more : length c.copy_inline.new.added.items ≤ length old.interfaces.items + copied_count c.deref-6.result.now
    = inline_long c.deref-7.result.now w.0.«package» c.deref-6.result.now other.interfaces.items old.interfaces.items c.copy_inline.new.added.items (c.in_ok-copy_inline.ensures.copied w.0 w.1) in
    let interfaces : length own.interfaces.items + length c.copy_inline.new.added.items ≤ 4294967295 = omega (arith, before, flags, flags_again, few, more) in
    on_ok (λ packages worlds. record {
      packages = subst (λ (l : List Package). length own.packages.items + length l ≤ 4294967295) (sym lists.packages) packages;
      interfaces = subst (λ (l : List Interface). length own.interfaces.items + length l ≤ 4294967295) (sym lists.interfaces) interfaces;
      worlds = subst (λ (l : List World). length own.worlds.items + length l ≤ 4294967295) (sym lists.worlds) worlds;
      types = subst (λ (l : List TypeDef). length own.types.items + length l ≤ 4294967295) (sym lists.type_defs) c.in_ok-types.ensures.few;
    })
    c.bind_entries.result

pub bind_types-requires-clause-flags : goal.bind_types-requires-clause-flags
bind_types-requires-clause-flags c = ap length c.deref-4.ensures.value ∙ c.in_ok-copied.ensures.count
