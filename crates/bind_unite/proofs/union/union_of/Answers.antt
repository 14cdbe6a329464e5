use Rattle.std.proofs.Common.{◌≡◌, ◌≤◌, ◌+◌, ◌∙◌, refl, sym, ap, subst, ℕ, List, length}
use Rattle.std.proofs.lemmas.List.{with_items_is}
use Rattle.wit_model.specs.declared.{error.Error.TheVariants.Size, model.Interface.Interface, model.TypeDef.TypeDef}
use Rattle.bind_carry.specs.{Fates.copied_types, Fates.IsCopiedType, Moved.AreMoved, TooLong.copies_of, TooLong.TypeFates, Whole.kept, Whole.IsInterfaceCarried, Numbers.copied_count, OfBound.IsTooLongWith}
use Rattle.bind_carry.proofs.{Moving.moved_from, Ranges.is_in_range}
use Rattle.bind_carry.proofs.Planning.{as_long, fates_there, interfaces_below, places_there, type_places_there, types_as_long, types_below, whole_union}
use Rattle.base_lemmas.proofs.{Lists.within_there, Options.passed as err_so}
use Rattle.bind_unite.proofs.union.union_of.Goals as goal

pub move_interfaces-requires : goal.move_interfaces-requires
move_interfaces-requires c =
    let p = c.in_ok-carried.field-0 in
    let w = within_there c.args.own.now.worlds.items c.args.world.0 c.requires.world in
    let v = within_there c.args.other.worlds.items c.args.other_world.0 c.requires.other_world in
    let plan = c.in_ok-carried.ensures.plan w.0 v.0 w.1 v.1 in
    record {
      count = plan.numbered.interface_count;
      room = subst (λ (l : List Interface). copied_count p.carried.copied_interfaces.items ≤ length l) (sym c.deref_mut.ensures.value)
          (places_there c.args.own.now c.args.other c.args.world.0 c.args.other_world.0 c.args.matches.now w.0 v.0 p plan);
      below = interfaces_below c.args.own.now c.args.other c.args.world.0 c.args.other_world.0 c.args.matches.now w.0 v.0 p plan (is_in_range c.args.other c.requires.other) c.requires.matches
          c.deref.result.now c.deref.ensures.value;
    }

pub move_types-requires : goal.move_types-requires
move_types-requires c =
    let p = c.in_ok-carried.field-0 in
    let w = within_there c.args.own.now.worlds.items c.args.world.0 c.requires.world in
    let v = within_there c.args.other.worlds.items c.args.other_world.0 c.requires.other_world in
    let plan = c.in_ok-carried.ensures.plan w.0 v.0 w.1 v.1 in
    record {
      count = ap length c.deref-3.ensures.value ∙ fates_there c.args.own.now c.args.other c.args.world.0 c.args.other_world.0 c.args.matches.now w.0 v.0 p plan;
      room = subst (λ (l : List TypeDef). copies_of c.deref-3.result.now ≤ length l) (sym c.deref_mut-2.ensures.value)
          (subst (λ (l : TypeFates). copies_of l ≤ length p.added.types.items) (sym c.deref-3.ensures.value)
          (type_places_there c.args.own.now c.args.other c.args.world.0 c.args.other_world.0 c.args.matches.now w.0 v.0 p plan));
      below = types_below c.args.own.now c.args.other c.args.world.0 c.args.other_world.0 c.args.matches.now w.0 v.0 p plan (is_in_range c.args.other c.requires.other) c.deref-2.result.now
          c.deref-2.ensures.value;
    }

pub returns-clause-union : goal.returns-clause-union
returns-clause-union c w v at_w at_v =
    let own = c.args.own.now in
    let other = c.args.other in
    let m = c.args.matches.now in
    let p = c.in_ok-carried.field-0 in
    let now = c.move_interfaces.new.places in
    let defs = c.move_types.new.places in
    let plan = c.in_ok-carried.ensures.plan w v at_w at_v in
    let xs = kept p.carried.copied_interfaces.items other.interfaces.items in
    let are : AreMoved (IsInterfaceCarried p.carried p.types.items) xs p.added.interfaces.items now =
    subst (λ (l : List Interface). AreMoved (IsInterfaceCarried p.carried p.types.items) xs l now) c.deref_mut.ensures.value
    (subst (λ (l : List ℕ). AreMoved (IsInterfaceCarried p.carried l) xs c.deref_mut.result.now now) c.deref.ensures.value c.move_interfaces.ensures) in
    let types_are : AreMoved (IsCopiedType p.types.items) (copied_types other.types.items p.fates.items) p.added.types.items defs =
    moved_from p.types.items c.deref-2.result.now p.fates.items c.deref-3.result.now other.types.items p.added.types.items c.deref_mut-2.result.now defs c.deref-2.ensures.value
    c.deref-3.ensures.value c.deref_mut-2.ensures.value c.move_types.ensures in
    whole_union own other c.args.world.0 c.args.other_world.0 m w v p plan now are defs types_are _ refl
    (with_items_is p.added.interfaces now (as_long own other c.args.world.0 c.args.other_world.0 m w v p plan now are defs types_are ∙ sym p.added.interfaces.ok.0))
    (with_items_is p.added.types defs (types_as_long own other c.args.world.0 c.args.other_world.0 m w v p plan now are defs types_are ∙ sym p.added.types.ok.0))

pub returns-clause-few : goal.returns-clause-few
returns-clause-few c =
    let own = c.args.own.now in
    let other = c.args.other in
    let m = c.args.matches.now in
    let p = c.in_ok-carried.field-0 in
    let now = c.move_interfaces.new.places in
    let defs = c.move_types.new.places in
    let w = within_there own.worlds.items c.args.world.0 c.requires.world in
    let v = within_there other.worlds.items c.args.other_world.0 c.requires.other_world in
    let plan = c.in_ok-carried.ensures.plan w.0 v.0 w.1 v.1 in
    let xs = kept p.carried.copied_interfaces.items other.interfaces.items in
    let are : AreMoved (IsInterfaceCarried p.carried p.types.items) xs p.added.interfaces.items now =
    subst (λ (l : List Interface). AreMoved (IsInterfaceCarried p.carried p.types.items) xs l now) c.deref_mut.ensures.value
    (subst (λ (l : List ℕ). AreMoved (IsInterfaceCarried p.carried l) xs c.deref_mut.result.now now) c.deref.ensures.value c.move_interfaces.ensures) in
    let types_are : AreMoved (IsCopiedType p.types.items) (copied_types other.types.items p.fates.items) p.added.types.items defs =
    moved_from p.types.items c.deref-2.result.now p.fates.items c.deref-3.result.now other.types.items p.added.types.items c.deref_mut-2.result.now defs c.deref-2.ensures.value
    c.deref-3.ensures.value c.deref_mut-2.ensures.value c.move_types.ensures in
    let long = as_long own other c.args.world.0 c.args.other_world.0 m w.0 v.0 p plan now are defs types_are in
    let types_long = types_as_long own other c.args.world.0 c.args.other_world.0 m w.0 v.0 p plan now are defs types_are in
    let few = c.in_ok-carried.ensures.few in
    record {
      packages = few.packages;
      interfaces = subst (λ (k : ℕ). length own.interfaces.items + k ≤ 4294967295) (sym (ap length (with_items_is p.added.interfaces now (long ∙ sym p.added.interfaces.ok.0)) ∙ long)) few.interfaces;
      worlds = few.worlds;
      types = subst (λ (k : ℕ). length own.types.items + k ≤ 4294967295) (sym (ap length (with_items_is p.added.types defs (types_long ∙ sym p.added.types.ok.0)) ∙ types_long)) few.types;
    }

pub returns-in_err-carried-clause-size : goal.returns-in_err-carried-clause-size
returns-in_err-carried-clause-size c = err_so (λ e. e ≡ Size → IsTooLongWith c.args.own.now c.args.other c.args.world.0 c.args.other_world.0 c.args.matches.now) c.from_residual.result
    c.in_err-carried.field-0.0 c.from_residual.ensures.1 c.in_err-carried.ensures.size
