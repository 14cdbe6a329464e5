-- What a union adds, once what is moved is in its places.
use Rattle.std.proofs.{lemmas.List.drop_at, lemmas.Bool.lt-ltb, lemmas.Bool.ltb-true, lemmas.List.with_items_is, lemmas.Option.slice_get_within}
use Rattle.std.proofs.Common.{List, Some, [], ap, arith, length, nat_lt, rules as std_rules, slice_get, subst, sym, true, ℕ, ◌++◌, ◌∙◌, ◌≡◌, ◌≤◌}
use Rattle.base_lemmas.proofs.Elements.{all_weaker, zip_long}
use Rattle.bind_add.specs.declared.added.Added.{Added}
use Rattle.bind_carry.proofs.{CopiesPlaced.numbers_by_long, Counting.carried_all, Counting.length_both, Counting.types_counted, Ready.carried_ready}
use Rattle.bind_carry.proofs.Ready.{fates_long}
use Rattle.bind_carry.specs.{Bound.bound_interfaces, BoundGains.bound_fates, Fates.AreCopied, Fates.IsCopiedType, Fates.copied_types, Fates.numbers_by, First.first_fates, InRange.IsInRange, Moved.AreMoved, Moved.IsInterfaceBelow, Numbers.copied_count, Over.IsPlacedOver, Planned.IsPlanned, TooLong.AreTooManyGained, TooLong.copies_of, Union.IsUnionOf, Which.AreMatchedAll, Whole.IsInterfaceCarried, Whole.kept, declared.fate.Fate.Fate, declared.plan.Carried.Carried, declared.plan.Planned.Planned}
use Rattle.bind_copy.specs.Copies.{all_below}
use Rattle.bind_match.specs.declared.matches.Matches.{Matches}
use Rattle.bind_union.specs.Views.{kind_view, view_numbers}
use Rattle.std.specs.{List.AllZip, Vec.with_items}
use Rattle.wit_model.specs.declared.model.{Interface.Interface, Resolve.Resolve, TypeDef.TypeDef, World.World}

-- ---- what is to be moved

module _ (own other : Resolve) (world other_world : ℕ) (m : Matches) (w v : World) (p : Planned) (s : IsPlanned own other world other_world m w v p) where
  -- there is a place for each interface that is carried
  pub places_there : copied_count p.carried.copied_interfaces.items ≤ length p.added.interfaces.items
  places_there = search (std_rules, length_both)

  types_count : length p.types.items ≡ length other.types.items
  types_count = ap length s.types_are ∙ (numbers_by_long (length own.types.items) (first_fates own other m.interfaces.items p.carried) ∙ fates_long own other m p.carried)

  -- each type has a fate
  pub fates_there : length p.fates.items ≡ length other.types.items
  fates_there = ap length s.fates_are ∙ fates_long own other m p.carried

  -- and each that is copied has a place
  pub type_places_there : copies_of p.fates.items ≤ length p.added.types.items
  type_places_there = search (std_rules, length_both)

  -- the types in front of it have new numbers
  pub types_below : IsInRange other → (types : List ℕ) → types ≡ p.types.items → (n : ℕ) (def : TypeDef) → slice_get other.types.items n ≡ Some def
      → all_below (length types) (view_numbers (kind_view def.kind)) ≡ true
  types_below range types same n def at = all_weaker (λ k. nat_lt k n) (λ k. nat_lt k (length types))
      (λ k lower. let low = ltb-true k n lower in lt-ltb k (length types) (omega (arith, (ap length same ∙ types_count), slice_get_within other.types.items n def at, low)))
      (view_numbers (kind_view def.kind)) (range.falls n def at)

  -- its package and its types have new numbers
  pub interfaces_below : IsInRange other → AreMatchedAll other m → (types : List ℕ) → types ≡ p.types.items → (n : ℕ) (i : Interface) → slice_get other.interfaces.items n ≡ Some i
      → IsInterfaceBelow (length p.carried.packages.items) (length types) i
  interfaces_below range all types same n i at = search (std_rules, carried_ready, types_count)

-- ---- once it is moved

module _ (own other : Resolve) (world other_world : ℕ) (m : Matches) (w v : World) (p : Planned) (s : IsPlanned own other world other_world m w v p) (now : List Interface)
    (are : AreMoved (IsInterfaceCarried p.carried p.types.items) (kept p.carried.copied_interfaces.items other.interfaces.items) p.added.interfaces.items now) (defs : List TypeDef)
    (types_are : AreMoved (IsCopiedType p.types.items) (copied_types other.types.items p.fates.items) p.added.types.items defs) where
  many : length are.moved ≡ length s.before.interfaces.items
  many = carried_all (IsInterfaceCarried p.carried p.types.items) p.carried.copied_interfaces.items other.interfaces.items are.moved s.numbered.interface_count are.each ∙ sym s.first.places

  here : now ≡ are.moved ++ s.second.inline_copied.more
  here = search (std_rules, drop_at, many)

  -- no place is added, and none is lost
  pub as_long : length now ≡ length p.added.interfaces.items
  as_long = search (std_rules, here, length_both, many)

  -- ---- types

  types_many : length types_are.moved ≡ length s.before.types.items
  types_many = search (std_rules, zip_long, types_counted, fates_long)

  types_here : defs ≡ types_are.moved ++ s.second.types_copied.more
  types_here = search (std_rules, drop_at, types_many)

  pub types_as_long : length defs ≡ length p.added.types.items
  types_as_long = search (std_rules, types_here, length_both, types_many)

  -- ---- all

  -- all that is there before the bound world gains anything
  abbrev first : Added
  first = record s.before { interfaces = with_items s.before.interfaces are.moved; types = with_items s.before.types types_are.moved }

  first_items : first.interfaces.items ≡ are.moved
  first_items = with_items_is s.before.interfaces are.moved (many ∙ sym s.before.interfaces.ok.0)

  first_types : first.types.items ≡ types_are.moved
  first_types = with_items_is s.before.types types_are.moved (types_many ∙ sym s.before.types.ok.0)

  same_type_number : length first.types.items ≡ length s.before.types.items
  same_type_number = ap length first_types ∙ types_many

  types_whole : AreCopied (length own.types.items) p.types.items other.types.items (first_fates own other m.interfaces.items p.carried) [] types_are.moved
  types_whole = search std_rules

  gained_types : (new : List TypeDef) → new ≡ defs
      → AreCopied (length own.types.items) s.second.types other.types.items
      (bound_fates other world other_world w v s.second.copied s.second.interfaces (first_fates own other m.interfaces.items p.carried) p.types.items) first.types.items new
  gained_types new items = search (std_rules, same_type_number, types_here, first_types)

  pub whole_union : (added : Added) → added ≡ record p.added { interfaces = added.interfaces; types = added.types } → added.interfaces.items ≡ now → added.types.items ≡ defs
      → IsUnionOf own other world other_world m w v added p.keys.keys
  whole_union added same items type_items = subst (λ a. IsUnionOf own other world other_world m w v a p.keys.keys) (sym same) (record {
    carried = p.carried;
    numbered = s.numbered;
    types = p.types.items;
    defs = types_are.moved;
    types_copied = types_whole;
    before = first;
    first = record {
      packages = s.first.packages;
      names = s.first.names;
      interfaces = subst (AllZip (IsInterfaceCarried p.carried p.types.items) (kept p.carried.copied_interfaces.items other.interfaces.items)) (sym first_items) are.each;
      worlds = s.first.worlds;
      type_defs = first_types;
      no_imports = s.first.no_imports;
      no_exports = s.first.no_exports;
    };
    second = record {
      copied = s.second.copied;
      copied_are = s.second.copied_are;
      interfaces = s.second.interfaces;
      interfaces_are = s.second.interfaces_are ∙ ap (λ k. bound_interfaces own k p.carried s.second.copied) (sym (ap length first_items ∙ many));
      types = s.second.types;
      packages = s.second.packages;
      names = s.second.names;
      worlds = s.second.worlds;
      types_copied = gained_types added.types.items type_items;
      inline_copied = record { more = s.second.inline_copied.more; behind = items ∙ (here ∙ ap (λ l. l ++ s.second.inline_copied.more) (sym first_items)); copies = s.second.inline_copied.copies };
      imports = s.second.imports;
      exports = s.second.exports;
    };
    keys_are = s.keys_are;
  })

module _ (own other : Resolve) (m : Matches) (c : Carried) (types : List ℕ)
    (numbers_are : types ≡ numbers_by (length own.types.items) (first_fates own other m.interfaces.items c)) (before : Added)
    (first : IsPlacedOver other c types (copies_of (first_fates own other m.interfaces.items c)) before) where
  abbrev fates : List Fate
  fates = first_fates own other m.interfaces.items c

  -- that is too much with what is numbered
  pub gained_by_count : (world other_world : ℕ) (w v : World) → AreTooManyGained own other world other_world w v c fates types (length before.interfaces.items) (length before.types.items)
      → AreTooManyGained own other world other_world w v c fates (numbers_by (length own.types.items) fates) (copied_count c.copied_interfaces.items) (copies_of fates)
  gained_by_count world other_world w v h = search std_rules
