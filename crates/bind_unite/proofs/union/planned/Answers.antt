use Rattle.std.proofs.Common.{rules, arith, inl, inr, Some, ◌≡◌, ◌∙◌, ◌+◌, ◌≤◌, [], ap, sym, subst, ℕ, List, length}
use Rattle.bind_carry.specs.{Bound.IsBoundOver, First.first_fates, Over.IsPlacedOver, Whole.IsWorldCarried, BoundGains.AreKeysUnder, Packaged.IsPackageCarried, TooLong.copies_of, TooLong.AreTooManyGained, TooLong.IsTooLong}
use Rattle.wit_model.specs.{Lookup.world_at, declared.error.Error.TheVariants.Size, declared.model.World.World}
use Rattle.bind_carry.proofs.{Counting.carried_few, CopiesPlaced.numbers_by_long, Planning.gained_by_count, Moving.numbers_first, Moving.places_first, Ranges.is_in_range, Ranges.shown_below, Ready.carried_ready, Ready.interface_count, Ready.owners_below, Ready.world_keys_below}
use Rattle.base_lemmas.proofs.Options.{passed as err_so}
use Rattle.bind_unite.proofs.union.planned.Goals as goal

pub number_carried-requires-clause-few_packages : goal.number_carried-requires-clause-few_packages
number_carried-requires-clause-few_packages c = subst (λ (k : ℕ). k ≤ 4294967295) (sym c.requires.matches.packages) (is_in_range c.args.other.now c.requires.other).few_packages

pub number_carried-requires-clause-few_interfaces : goal.number_carried-requires-clause-few_interfaces
number_carried-requires-clause-few_interfaces c = (is_in_range c.args.other.now c.requires.other).few_interfaces

pub number_carried-requires-clause-few_worlds : goal.number_carried-requires-clause-few_worlds
number_carried-requires-clause-few_worlds c = (is_in_range c.args.other.now c.requires.other).few_worlds

pub number_carried-requires-clause-imports : goal.number_carried-requires-clause-imports
number_carried-requires-clause-imports c n w at = let other = c.args.other.now in
    shown_below (length other.interfaces.items) (length other.types.items) w.imports.entries ((is_in_range other c.requires.other).imports n w at)

pub number_carried-requires-clause-exports : goal.number_carried-requires-clause-exports
number_carried-requires-clause-exports c n w at = let other = c.args.other.now in
    shown_below (length other.interfaces.items) (length other.types.items) w.exports.entries ((is_in_range other c.requires.other).exports n w at)

pub settled_types-requires-clause-owners : goal.settled_types-requires-clause-owners
settled_types-requires-clause-owners c = owners_below c.args.own.now c.args.other.now c.args.matches.now c.in_ok-carried.carried (is_in_range c.args.other.now c.requires.other) c.requires.matches
    c.in_ok-carried.ensures.numbered

pub added-requires-clause-ready : goal.added-requires-clause-ready
added-requires-clause-ready c = carried_ready c.args.own.now c.args.other.now c.args.matches.now c.in_ok-carried.carried (is_in_range c.args.other.now c.requires.other) c.requires.matches
    c.in_ok-carried.ensures.numbered (length c.deref-2.result.now) (ap length (c.deref-2.ensures.value ∙ c.in_ok-types.ensures.numbers)
    ∙ (numbers_by_long (c.len.result + length c.new-defs.result.items) c.deref.result.now ∙ (ap length c.deref.ensures.value ∙ c.in_ok-fates.ensures.count)))

pub bind_items-requires : goal.bind_items-requires
bind_items-requires c = record {
  own_range = c.requires.world;
  other_range = c.requires.other_world;
  in_range = is_in_range c.args.other.now c.requires.other;
  interface_count = interface_count c.args.own.now c.args.other.now c.args.matches.now c.in_ok-carried.carried (is_in_range c.args.other.now c.requires.other) c.requires.matches
      c.in_ok-carried.ensures.numbered;
  fate_count = ap length c.deref-3.ensures.value ∙ c.in_ok-fates.ensures.count;
  type_count = ap length (c.deref-4.ensures.value ∙ c.in_ok-types.ensures.numbers)
      ∙ (numbers_by_long (c.len.result + length c.new-defs.result.items) c.deref.result.now ∙ (ap length c.deref.ensures.value ∙ c.in_ok-fates.ensures.count));
}

pub export_keys-requires-clause-keys : goal.export_keys-requires-clause-keys
export_keys-requires-clause-keys c v at =
    let range = is_in_range c.args.other.now c.requires.other in
    let count = interface_count c.args.own.now c.args.other.now c.args.matches.now c.in_ok-carried.carried range c.requires.matches c.in_ok-carried.ensures.numbered in
    world_keys_below c.args.other.now range c.args.other_world.0 v at (length c.deref-5.result.now) (ap length c.deref-5.ensures.value ∙ count)

pub returns-clause-plan : goal.returns-clause-plan
returns-clause-plan c w v at_w at_v =
    let own = c.args.own.now in
    let other = c.args.other.now in
    let world = c.args.world.0 in
    let other_world = c.args.other_world.0 in
    let carried = c.in_ok-carried.carried in
    let fates = first_fates own other c.args.matches.now.interfaces.items carried in
    let types = c.in_ok-types.types.items in
    let places = c.type_places.new.places.items in
    let before = c.in_ok-added.added in
    let new = c.bind_items.new.added in
    let many : c.len.result ≡ length own.types.items = search rules in
    let none : c.new-defs.result.items ≡ [] = search rules in
    let same : c.deref.result.now ≡ fates = c.deref.ensures.value ∙ c.in_ok-fates.ensures.fates in
    record {
      numbered = c.in_ok-carried.ensures.numbered;
      fates_are = c.in_ok-fates.ensures.fates;
      types_are = numbers_first c.len.result (length own.types.items) c.new-defs.result.items c.deref.result.now fates types many none same c.in_ok-types.ensures.numbers;
      before = before;
      first = subst (λ (k : ℕ). IsPlacedOver other carried types k before) (places_first c.new-defs.result.items c.deref.result.now fates places none same c.in_ok-types.ensures.count)
          (subst (λ (l : List ℕ). IsPlacedOver other carried l (length places) before) c.deref-2.ensures.value c.in_ok-added.ensures.added);
      second = subst (λ (l : List ℕ). IsBoundOver own other world other_world w v carried fates l before new) c.deref-4.ensures.value
          (subst (λ l. IsBoundOver own other world other_world w v carried l c.deref-4.result.now before new) (c.deref-3.ensures.value ∙ c.in_ok-fates.ensures.fates)
          (c.in_ok-bind_items.ensures.gained w v at_w at_v));
      keys_are = subst (λ (l : List ℕ). AreKeysUnder l v.exports.entries c.in_ok-keys.keys.keys) c.deref-5.ensures.value (c.in_ok-keys.ensures.keys v at_v);
    }

pub returns-clause-few : goal.returns-clause-few
returns-clause-few c =
    let own = c.args.own.now in
    let other = c.args.other.now in
    let carried = c.in_ok-carried.carried in
    let types = c.deref-2.result.now in
    let before = c.in_ok-added.added in
    let first : IsPlacedOver other carried types (length c.type_places.new.places.items) before = c.in_ok-added.ensures.added in
    let numbered = c.in_ok-carried.ensures.few in
    let packages = carried_few (IsPackageCarried carried) carried.new_packages.items other.packages.items before.packages.items first.packages in
    let worlds = carried_few (IsWorldCarried carried types) carried.copied_worlds.items other.worlds.items before.worlds.items first.worlds in
    let few_packages = numbered.packages in
    let few_worlds = numbered.worlds in
    c.in_ok-bind_items.ensures.few (omega (arith, packages, few_packages)) (omega (arith, worlds, few_worlds))

pub returns-in_err-types-clause-size : goal.returns-in_err-types-clause-size
returns-in_err-types-clause-size c =
    let own = c.args.own.now in
    let other = c.args.other.now in
    let world = c.args.world.0 in
    let other_world = c.args.other_world.0 in
    let m = c.args.matches.now in
    let carried = c.in_ok-carried.carried in
    let many : c.len.result ≡ length own.types.items = search rules in
    let none : c.new-defs.result.items ≡ [] = search rules in
    let empty : length c.new-defs.result.items ≡ 0 = ap length none in
    let same : copies_of c.deref.result.now ≡ copies_of (first_fates own other m.interfaces.items carried) = ap copies_of (c.deref.ensures.value ∙ c.in_ok-fates.ensures.fates) in
    err_so (λ e. e ≡ Size → (w v : World) → world_at own world ≡ Some w → world_at other other_world ≡ Some v → IsTooLong own other world other_world m w v)
    c.from_residual-in_err-types.result c.in_err-types.field-0.0 c.from_residual-in_err-types.ensures.1
    (λ is w v at_w at_v. let long = c.in_err-types.ensures.size is in inr (carried, c.in_ok-carried.ensures.numbered, inl (omega (arith, long, many, empty, same))))

pub returns-in_err-bind_items-clause-size : goal.returns-in_err-bind_items-clause-size
returns-in_err-bind_items-clause-size c =
    let own = c.args.own.now in
    let other = c.args.other.now in
    let world = c.args.world.0 in
    let other_world = c.args.other_world.0 in
    let m = c.args.matches.now in
    let carried = c.in_ok-carried.carried in
    let fates = first_fates own other m.interfaces.items carried in
    let types = c.in_ok-types.types.items in
    let places = c.type_places.new.places.items in
    let before = c.in_ok-added.added in
    let many : c.len.result ≡ length own.types.items = search rules in
    let none : c.new-defs.result.items ≡ [] = search rules in
    let same : c.deref.result.now ≡ fates = c.deref.ensures.value ∙ c.in_ok-fates.ensures.fates in
    let numbers = numbers_first c.len.result (length own.types.items) c.new-defs.result.items c.deref.result.now fates types many none same c.in_ok-types.ensures.numbers in
    let first : IsPlacedOver other carried types (copies_of fates) before =
    subst (λ (k : ℕ). IsPlacedOver other carried types k before) (places_first c.new-defs.result.items c.deref.result.now fates places none same c.in_ok-types.ensures.count)
    (subst (λ (l : List ℕ). IsPlacedOver other carried l (length places) before) c.deref-2.ensures.value c.in_ok-added.ensures.added) in
    err_so (λ e. e ≡ Size → (w v : World) → world_at own world ≡ Some w → world_at other other_world ≡ Some v → IsTooLong own other world other_world m w v)
    c.from_residual-in_err-bind_items.result c.in_err-bind_items.field-0.0 c.from_residual-in_err-bind_items.ensures.1 (λ is w v at_w at_v. inr (
      carried,
      c.in_ok-carried.ensures.numbered,
      inr (gained_by_count own other m carried types numbers before first world other_world w v
          (subst (λ (l : List ℕ). AreTooManyGained own other world other_world w v carried fates l (length before.interfaces.items) (length before.types.items)) c.deref-4.ensures.value
          (subst (λ l. AreTooManyGained own other world other_world w v carried l c.deref-4.result.now (length before.interfaces.items) (length before.types.items))
          (c.deref-3.ensures.value ∙ c.in_ok-fates.ensures.fates) (c.in_err-bind_items.ensures.size is w v at_w at_v)))),
    ))

pub settled_types-requires-clause-interfaces : goal.settled_types-requires-clause-interfaces
settled_types-requires-clause-interfaces c = c.in_ok-carried.ensures.numbered.interface_count

pub settled_types-requires-clause-worlds : goal.settled_types-requires-clause-worlds
settled_types-requires-clause-worlds c = c.in_ok-carried.ensures.numbered.world_count
