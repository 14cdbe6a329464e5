-- What is shown of a package is what the files declare. Serves laws.
use Rattle.std.proofs.Common.{◌≡◌, refl, sym, ap, subst, ◌∙◌, List, [], ◌∷◌, ◌++◌, filter_map, Option, Some, None, option_map, String}
use Rattle.std.proofs.lemmas.{List.Elements.filter_map-append}
use Rattle.std.specs.{List.cons_option, Option.option_map_or}
use Rattle.std.specs.declared.alloc.Global.{Global}
use Rattle.wit_model.specs.declared.model.{Resolve.Resolve, Package.Package, PackageId.PackageId, Interface.Interface, InterfaceId.InterfaceId}
use Rattle.wit_model.specs.declared.model.{World.World, WorldId.WorldId}
use Rattle.wit_model.specs.{Text.text_of, Lookup.interface_at, Lookup.package_at, Lookup.world_at, Valid.IsValid}
use Rattle.print_grammar.specs.Tree.{FileTree, ItemTree.InterfaceItem, ItemTree.WorldItem, PackageHead}
use Rattle.print_items.specs.Shown.{shown_docs, shown_gates, shown_head, shown_interface, shown_interface_item, shown_package, shown_package_of}
use Rattle.print_items.specs.Shown.{no_package, shown_world, shown_world_item}
use Rattle.text_types.specs.Each.{EachIs}
use Rattle.base_lemmas.proofs.{Lists.append_none}
use Rattle.text_shown.specs.{Shows.interface_of, Shows.items_of, Shows.world_of, Shows.InterfaceTree}
use Rattle.text_shown.specs.{Shows.ShowsInterface, Shows.ShowsPackage, ShowsWorlds.ShowsWorld, ShowsWorlds.WorldTree}
use Rattle.text_shown.specs.SamePackages.{IsPrinted, SameInterface, SameWorld, ShowsPackages}
use Rattle.text_shown.proofs.{Interfaces.interface_shown, Worlds.world_shown}

module _ (r : Resolve) (valid : IsValid r) (id : PackageId) (p : Package) (at : package_at r id.0 ≡ Some p) where
  abbrev here : PackageHead
  here = shown_head p

  -- ---- interfaces

  interface_same : (tree : InterfaceTree) (entry : String Global × InterfaceId) (k : ShowsInterface r id.0 tree entry)
      → SameInterface here (record {
        docs = shown_docs k.interface.docs;
        gates = shown_gates k.interface.stability;
        name = text_of entry.0;
        members = shown_interface r entry.1 k.interface;
      }) tree
  interface_same tree entry k = record {
    docs = k.docs;
    gates = k.gates;
    name = k.listed;
    members = interface_shown r valid id p at entry.1 k.interface tree.members
        (record { there = k.there; placed = k.home; are = k.members });
  }

  interfaces_same : {trees : List InterfaceTree} {entries : List (String Global × InterfaceId)}
      → EachIs (ShowsInterface r id.0) trees entries
      → EachIs (SameInterface here) (filter_map interface_of (filter_map (shown_interface_item r) entries)) trees
  interfaces_same EachIs.no_more = EachIs.no_more
  interfaces_same (EachIs.one_more {x = tree} {y = entry} {xs = trees} {ys = entries} k ks) =
      subst (λ o. EachIs (SameInterface here) (filter_map interface_of (cons_option (option_map
      (λ i. InterfaceItem (shown_docs i.docs) (shown_gates i.stability) (text_of entry.0) (shown_interface r entry.1 i)) o)
      (filter_map (shown_interface_item r) entries))) (tree ∷ trees))
      (sym k.there) (EachIs.one_more (interface_same tree entry k) (interfaces_same ks))

  no_worlds : (entries : List (String Global × WorldId)) → filter_map interface_of (filter_map (shown_world_item r) entries) ≡ []
  no_worlds [] = refl
  no_worlds (entry ∷ entries) = go (world_at r entry.1.0) (no_worlds entries)
    where
      go : (o : Option World) → filter_map interface_of (filter_map (shown_world_item r) entries) ≡ []
          → filter_map interface_of
          (cons_option (option_map (λ w. WorldItem (shown_docs w.docs) (shown_gates w.stability) (text_of entry.0) (shown_world r entry.1 w)) o)
          (filter_map (shown_world_item r) entries)) ≡ []
      go None rest = rest
      go (Some w) rest = rest

  -- ---- worlds

  world_same : (tree : WorldTree) (entry : String Global × WorldId) (k : ShowsWorld r id.0 tree entry)
      → SameWorld here (record {
        docs = shown_docs k.world.docs;
        gates = shown_gates k.world.stability;
        name = text_of entry.0;
        members = shown_world r entry.1 k.world;
      }) tree
  world_same tree entry k = record {
    docs = k.docs;
    gates = k.gates;
    name = k.listed;
    members = world_shown r valid id p at entry.1 k.world tree.members
        (record { there = k.there; placed = k.home; imports = k.imports; exports = k.exports });
  }

  worlds_same : {trees : List WorldTree} {entries : List (String Global × WorldId)}
      → EachIs (ShowsWorld r id.0) trees entries
      → EachIs (SameWorld here) (filter_map world_of (filter_map (shown_world_item r) entries)) trees
  worlds_same EachIs.no_more = EachIs.no_more
  worlds_same (EachIs.one_more {x = tree} {y = entry} {xs = trees} {ys = entries} k ks) =
      subst (λ o. EachIs (SameWorld here) (filter_map world_of (cons_option (option_map
      (λ w. WorldItem (shown_docs w.docs) (shown_gates w.stability) (text_of entry.0) (shown_world r entry.1 w)) o)
      (filter_map (shown_world_item r) entries))) (tree ∷ trees))
      (sym k.there) (EachIs.one_more (world_same tree entry k) (worlds_same ks))

  no_interfaces : (entries : List (String Global × InterfaceId)) → filter_map world_of (filter_map (shown_interface_item r) entries) ≡ []
  no_interfaces [] = refl
  no_interfaces (entry ∷ entries) = go (interface_at r entry.1.0) (no_interfaces entries)
    where
      go : (o : Option Interface) → filter_map world_of (filter_map (shown_interface_item r) entries) ≡ []
          → filter_map world_of
          (cons_option (option_map (λ i. InterfaceItem (shown_docs i.docs) (shown_gates i.stability) (text_of entry.0) (shown_interface r entry.1 i)) o)
          (filter_map (shown_interface_item r) entries)) ≡ []
      go None rest = rest
      go (Some i) rest = rest

  -- ---- a package

  package_printed : (files : List FileTree) → ShowsPackage r files id.0 p → IsPrinted files p (shown_package_of r p)
  package_printed files k = record {
    head = refl;
    items = record {
      interfaces = subst (λ ts. EachIs (SameInterface here) ts (filter_map interface_of (items_of files here)))
          (sym (filter_map-append interface_of (filter_map (shown_interface_item r) p.interfaces.entries) (filter_map (shown_world_item r) p.worlds.entries)
          ∙ ap (λ ts. filter_map interface_of (filter_map (shown_interface_item r) p.interfaces.entries) ++ ts) (no_worlds p.worlds.entries)
          ∙ append_none (filter_map interface_of (filter_map (shown_interface_item r) p.interfaces.entries))))
          (interfaces_same k.interfaces);
      worlds = subst (λ ts. EachIs (SameWorld here) ts (filter_map world_of (items_of files here)))
          (sym (filter_map-append world_of (filter_map (shown_interface_item r) p.interfaces.entries) (filter_map (shown_world_item r) p.worlds.entries)
          ∙ ap (λ ts. ts ++ filter_map world_of (filter_map (shown_world_item r) p.worlds.entries)) (no_interfaces p.interfaces.entries)))
          (worlds_same k.worlds);
    };
  }

-- What is shown of a `Resolve` that shows files is what the files declare.
pub packages_printed : ShowsPackages
packages_printed r valid files mains k id p at =
    let whole : shown_package r id ≡ shown_package_of r p = ap (λ o. option_map_or (shown_package_of r) o no_package) at in
    subst (IsPrinted files p) (sym whole) (package_printed r valid id p at files (k.each id.0 p at))
