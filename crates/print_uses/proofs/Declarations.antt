-- The declarations of an owner's types, one after the other.
use Rattle.std.proofs.Common.{rules as std_rules, arith, ◌≡◌, refl, ap, subst, ◌∙◌, Bool, true, false, ◌&&◌, List, [], ◌∷◌, ◌++◌, append_assoc, map, Some, None}
use Rattle.std.proofs.lemmas.List.Folds.{list_all-map}
use Rattle.std.specs.{Prelude.String, Prelude.is_some, Borrow.Bor, Option.option_map_or, List.list_all}
use Rattle.std.specs.declared.alloc.Global.{Global}
use Rattle.wit_model.specs.declared.model.{Resolve.Resolve, Function.Function, Interface.Interface, InterfaceId.InterfaceId, PackageId.PackageId, TypeId.TypeId}
use Rattle.wit_model.specs.declared.model.TypeDef.{TypeDef}
use Rattle.wit_model.specs.{Lookup.interface_at, Lookup.type_at, Rules.in_list, Text.text_of, Valid.IsValid}
use Rattle.print_grammar.specs.{Tree.Declared, Tree.MemberTree, Tree.Prefix, WellNamed.is_well_declared, WellNamed.is_well_prefix, Tree.MemberTree.TypeMember}
use Rattle.print_grammar.specs.Calls.{declared_calls, members_calls, prefix_calls, printed_after, line_after_calls}
use Rattle.print_items.specs.Shown.{Listed, listed_functions, listed_types, shown_declared, shown_interface, shown_prefix, shown_resource_member}
use Rattle.print_uses.specs.{Printable.declaration_of, Printable.is_printable_type, Printable.shown_functions, UseGroups.is_listed_type, UseGroups.type_members}
use Rattle.print_uses.proofs.{Valid.in_package, Valid.interface_range, Valid.interface_types, Valid.is_known_listed, WellLists.all_both}
use Rattle.wit_model.specs.declared.model.TypeOwner.TheVariants as owner

-- ---- calls

-- one declaration in its block
pub declaration_alone : (emits printed : Bool) (prefix : Prefix) (declared : Declared)
    → line_after_calls printed ++ (prefix_calls emits prefix ++ declared_calls emits declared) ≡ members_calls emits printed (TypeMember prefix declared ∷ [])
declaration_alone emits x prefix declared = search std_rules

-- one member and then others
pub member_and_more : (emits printed : Bool) (m : MemberTree) (ms : List MemberTree) → members_calls emits printed (m ∷ ms) ≡ members_calls emits printed (m ∷ []) ++ members_calls emits true ms
member_and_more emits printed y ms = search std_rules

pub after_printed : (ms : List MemberTree) → printed_after true ms ≡ true
after_printed x = search std_rules

-- some members and then others
pub members_append : (emits printed : Bool) (ms more : List MemberTree)
    → members_calls emits printed (ms ++ more) ≡ members_calls emits printed ms ++ members_calls emits (printed_after printed ms) more
members_append emits printed [] more = refl
members_append emits printed (m ∷ ms) more = search (std_rules, member_and_more, after_printed, append_assoc, members_append emits true ms more)

pub printed_append : (printed : Bool) (ms more : List MemberTree) → printed_after printed (ms ++ more) ≡ printed_after (printed_after printed ms) more
printed_append printed x more = search std_rules

-- functions behind references are shown as they are
pub members_shown : (r : Resolve) (xs : List (Bor Function)) (fs : List Function) → map (λ f. f.now) xs ≡ fs → map (λ f. shown_resource_member r f.now) xs ≡ map (shown_resource_member r) fs
members_shown r xs fs e = each xs ∙ ap (map (shown_resource_member r)) e
  where
    each : (ys : List (Bor Function)) → map (λ f. shown_resource_member r f.now) ys ≡ map (shown_resource_member r) (map (λ f. f.now) ys)
    each [] = refl
    each (y ∷ ys) = ap (λ ms. shown_resource_member r y.now ∷ ms) (each ys)

-- ---- one after the other

module _ (r : Resolve) (fs : List Function) where
  pub declaration_at : (id : TypeId) (def : TypeDef) → type_at r id.0 ≡ Some def
      → declaration_of r fs id ≡ TypeMember (shown_prefix def.docs def.stability def.external_id) (shown_declared r fs id def) ∷ []
  declaration_at id def e = ap (λ o. option_map_or (λ d. TypeMember (shown_prefix d.docs d.stability d.external_id) (shown_declared r fs id d) ∷ []) o []) e

  -- a type that can be printed is there, and is well named
  pub printable_at : (id : TypeId) (def : TypeDef) → type_at r id.0 ≡ Some def → is_printable_type r fs id ≡ true
      → (is_well_prefix (shown_prefix def.docs def.stability def.external_id) && is_well_declared (shown_declared r fs id def)) ≡ true
  printable_at id def e h = search std_rules

-- ---- interfaces of a valid `Resolve`

module _ (r : Resolve) (valid : IsValid r) (id : InterfaceId) (i : Interface) (at : interface_at r id.0 ≡ Some i) where
  -- it is in a package
  pub placed_here : i.«package» ≡ None → ⊥
  placed_here e = let wrong : false ≡ true = subst (λ p. is_some p ≡ true) e (in_package r valid id.0 i at) in cc

  -- its types can be printed
  pub types_listed : list_all (is_listed_type r (owner.Interface id)) (listed_types i) ≡ true
  types_listed = all_both (λ (t : Listed). in_list r.types.items t.id.0) (is_known_listed r (owner.Interface id)) (listed_types i)
      (list_all-map (λ (t : Listed). in_list r.types.items t.id.0) (λ (e : String Global × TypeId). record { name = text_of e.0; id = e.1 }) i.types.entries ∙ interface_range r valid id.0 i at)
      (interface_types r valid id.0 i at)

  -- What an interface has are its types, and then its functions.
  pub interface_calls : (emits : Bool) (here : PackageId) → i.«package» ≡ Some here
      → members_calls emits false (type_members r here (owner.Interface id) (listed_functions i) (listed_types i)) ++ members_calls emits
      (printed_after false (type_members r here (owner.Interface id) (listed_functions i) (listed_types i))) (shown_functions r i.functions.entries)
      ≡ members_calls emits false (shown_interface r id i)
  interface_calls emits here placed = grind (arith, members_append)
