-- What is shown of an interface is the members that it has. Serves laws.
use Rattle.std.proofs.Common.{◌≡◌, sym, subst, ◌∙◌, List, [], Some, ◌++◌, filter, flat_map}
use Rattle.wit_model.specs.declared.model.{Resolve.Resolve, Interface.Interface, InterfaceId.InterfaceId, Package.Package, PackageId.PackageId, TypeId.TypeId}
use Rattle.wit_model.specs.declared.model.TypeOwner.TheVariants as owner
use Rattle.wit_model.specs.{Text.Text, Lookup.package_at, Valid.IsValid}
use Rattle.print_grammar.specs.Tree.{PackageHead, PathTree, MemberTree}
use Rattle.print_items.specs.Shown.{shown_head, shown_interface}
use Rattle.text_types.specs.Made.{types_of, functions_of}
use Rattle.text_shown.specs.{Means.IsUsed, Members.HasMembers, Members.IsForeign, Members.ShowsMembers, Same.is_function_member, Same.is_type_member}
use Rattle.text_shown.specs.{Same.plain_members, Same.SameMembers, Same.Shuffled}
use Rattle.text_types.proofs.MadeLaws.{order_weaker, type_carried}
use Rattle.base_lemmas.proofs.Lists.{append_none}
use Rattle.text_shown.proofs.Targets.{used_is_foreign}
use Rattle.text_shown.proofs.Owners.{Owns, functions_shown, types_shown}
use Rattle.text_shown.proofs.Parts.{one_declaration_shown, one_use_shown, shown_functions, shown_types, stated_functions, stated_types}
use Rattle.text_shown.proofs.Resources.{of_members}

module _ (r : Resolve) (valid : IsValid r) (home : PackageId) (p : Package) (at : package_at r home.0 ≡ Some p) (id : InterfaceId) (i : Interface)
    (members : List MemberTree)
    (h : HasMembers r home id i members) where
  abbrev here : PackageHead
  here = shown_head p

  foreign : (path : PathTree) (name : Text) (target : TypeId) → IsUsed r home.0 (owner.Interface id) path name target
      → IsForeign r here (owner.Interface id) i.«package» path name target
  foreign path name target k = subst (λ o. IsForeign r here (owner.Interface id) o path name target) (sym h.placed)
      (used_is_foreign r valid home p at (owner.Interface id) path name target k)

  owns : Owns r here (owner.Interface id) i.«package» (flat_map types_of members) (flat_map functions_of members) i.types i.functions.entries
  owns = record {
    has_types = order_weaker (type_carried {old = r.types.items} (record { more = []; is = sym (append_none r.types.items) }) foreign) h.are.has_types;
    has_functions = h.are.has_functions;
    distinct = (valid.distinct_keys.interfaces id.0 i h.there).0;
    resources = λ name. of_members name members;
  }

  types_same : Shuffled (filter is_type_member (flat_map (plain_members here) (shown_interface r id i)))
      (filter is_type_member (flat_map (plain_members here) members))
  types_same = subst (λ ms. Shuffled ms (filter is_type_member (flat_map (plain_members here) members))) (sym (shown_types here r id i))
      (subst (Shuffled (flat_map (one_use_shown here r id i) i.types.entries ++ flat_map (one_declaration_shown here r id i) i.types.entries))
      (sym (stated_types here members))
      (types_shown r valid here (owner.Interface id) i.«package» (flat_map types_of members) (flat_map functions_of members) i.types i.functions.entries owns))

  functions_same : filter is_function_member (flat_map (plain_members here) (shown_interface r id i))
      ≡ filter is_function_member (flat_map (plain_members here) members)
  functions_same = shown_functions here r id i
      ∙ functions_shown r valid here (owner.Interface id) i.«package» (flat_map types_of members)
      (flat_map functions_of members) i.types i.functions.entries owns
      ∙ sym (stated_functions here members)

  all_shown : SameMembers here (shown_interface r id i) members
  all_shown = record { functions = functions_same; types = types_same }

-- What is shown of an interface is the members that it has.
pub interface_shown : ShowsMembers
interface_shown r valid home p at id i members h = all_shown r valid home p at id i members h
