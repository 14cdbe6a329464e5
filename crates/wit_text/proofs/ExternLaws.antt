-- What stands in worlds, as definitions grow and as what paths and members mean carries over. Serves read.
use Rattle.std.proofs.Common.{List, Option, ◌⊎◌, inl, inr}
use Rattle.wit_model.specs.Text.{Text}
use Rattle.wit_model.specs.declared.model.{TypeDef.TypeDef, TypeId.TypeId, TypeOwner.TypeOwner, InterfaceId.InterfaceId}
use Rattle.print_grammar.specs.Tree.{Prefix, PathTree, MemberTree, ExternTree, WorldMember}
use Rattle.text_types.specs.{Begins.Begins, Made.FunctionTree}
use Rattle.text_types.proofs.{EachLaws.each_weaker, MadeLaws.free_stays, MadeLaws.function_carried, MadeLaws.order_weaker, MadeLaws.type_carried}
use Rattle.text_shown.specs.ShowsWorlds.{ExportsAre, ExternIs, ImportsAre, InterfacesAre, IsBare, IsFunctionEntry, IsOneOf, StandsIn, Stated}
use Rattle.wit_text.specs.Items.{WorldEntry}

module _ {old new : List TypeDef} (h : Begins old new) where
  pub extern_carried : {P Q : PathTree → InterfaceId → Type 0} {I J : List MemberTree → InterfaceId → Type 0}
      → ((path : PathTree) (id : InterfaceId) → P path id → Q path id) → ((members : List MemberTree) (id : InterfaceId) → I members id → J members id)
      → {prefix : Prefix} {tree : ExternTree} {entry : WorldEntry} → ExternIs old P I prefix tree entry → ExternIs new Q J prefix tree entry
  extern_carried p i (ExternIs.by_path means front) = ExternIs.by_path (p _ _ means) front
  extern_carried p i (ExternIs.by_label named means front) = ExternIs.by_label named (p _ _ means) front
  extern_carried p i (ExternIs.inline named means front) = ExternIs.inline named (i _ _ means) front
  extern_carried p i (ExternIs.a_function named stands) = ExternIs.a_function named (free_stays h stands)

  pub function_entry_stays : {types : Text → Option TypeId} (tree : FunctionTree) (entry : WorldEntry) → IsFunctionEntry old types tree entry
      → IsFunctionEntry new types tree entry
  function_entry_stays tree _ (IsFunctionEntry.under k) = IsFunctionEntry.under (function_carried h (λ name id found. found) tree _ k)

module _ {Is Js : Stated → WorldEntry → Type 0} (w : (one : Stated) (entry : WorldEntry) → Is one entry → Js one entry) where
  pub stands_carried : {entries : List WorldEntry} {one : Stated} → StandsIn Is entries one → StandsIn Js entries one
  stands_carried k = record { entry = k.entry; there = k.there; is = w _ _ k.is }

  pub one_carried : {all : List Stated} {entry : WorldEntry} → IsOneOf Is all entry → IsOneOf Js all entry
  one_carried k = record { one = k.one; stated = k.stated; is = w _ _ k.is }

  pub or_bare_carried : {all : List Stated} {entry : WorldEntry} → IsOneOf Is all entry ⊎ IsBare entry → IsOneOf Js all entry ⊎ IsBare entry
  or_bare_carried (inl k) = inl (one_carried k)
  or_bare_carried (inr k) = inr k

  pub interfaces_carried : {all : List Stated} {entries : List WorldEntry} → InterfacesAre Is all entries → InterfacesAre Js all entries
  interfaces_carried k = record { stated = λ one c. stands_carried (k.stated one c); only = λ entry c. or_bare_carried (k.only entry c) }

  pub exports_carried : {all : List Stated} {entries : List WorldEntry} → ExportsAre Is all entries → ExportsAre Js all entries
  exports_carried k = record { stated = λ one c. stands_carried (k.stated one c); only = λ entry c. one_carried (k.only entry c) }

pub imports_carried : {old new : List TypeDef} (h : Begins old new) {T U : PathTree → Text → TypeId → Type 0} {Is Js : Stated → WorldEntry → Type 0}
    {owner : TypeOwner} {members : List WorldMember} {entries : List WorldEntry}
    → ((path : PathTree) (name : Text) (id : TypeId) → T path name id → U path name id) → ((one : Stated) (entry : WorldEntry) → Is one entry → Js one entry)
    → ImportsAre old T Is owner members entries → ImportsAre new U Js owner members entries
imports_carried h t w k = record {
  interfaces = k.interfaces;
  own = k.own;
  types = k.types;
  functions = k.functions;
  are = k.are;
  has_interfaces = interfaces_carried w k.has_interfaces;
  has_types = order_weaker (type_carried h t) k.has_types;
  types_are = k.types_are;
  has_functions = each_weaker (function_entry_stays h) k.has_functions;
}
