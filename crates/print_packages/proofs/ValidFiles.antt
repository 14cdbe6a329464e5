-- What is shown of valid packages is well named, and so is read as it stands.
use Rattle.std.proofs.Common.{rules as std_rules, ◌≡◌, refl, sym, ap, subst, ◌<◌, ℕ, Bool, true, List, filter_map, length, Option, Some, None}
use Rattle.std.proofs.lemmas.Bool.{ltb-true, and_from as both}
use Rattle.std.specs.{Prelude.String, Prelude.option_map, Option.option_map_or, List.list_all}
use Rattle.std.specs.declared.alloc.Global.{Global}
use Rattle.wit_model.specs.declared.model.{Resolve.Resolve, Package.Package, PackageId.PackageId, Interface.Interface, InterfaceId.InterfaceId, WorldId.WorldId}
use Rattle.wit_model.specs.declared.model.World.{World}
use Rattle.wit_model.specs.{Text.Text, Text.text_of, Text.text_eq, Names.is_label, Rules.in_list, Rules.passes, Rules.is_stability, Rules.text_is, Lookup.package_at, Lookup.interface_at, Lookup.world_at, Valid.IsValid, Valid.package_names, Valid.labels, Valid.names_in_packages}
use Rattle.wit_model.proofs.{OnePath.package-passes, OnePath.interface-passes, TextLemmas.text_same}
use Rattle.print_output.specs.{OutputCall.OutputView, OutputCall.Moves, OutputCall.is_one_line, Render.Written, Render.render, Render.writes, Render.blank}
use Rattle.print_grammar.specs.{Calls.file_calls, AsRead.file_as_read, Tree.ItemTree.InterfaceItem, Tree.ItemTree.WorldItem, Reading.IsOnlyReading, WellNamed.is_well_gates, WellNamed.is_well_item, WellNamed.is_well_package, WellNamed.is_well_file}
use Rattle.print_items.specs.Shown.{shown_docs, shown_gates, shown_interface, shown_interface_item, shown_world, shown_world_item, shown_package_of, no_package, shown_package, shown_file}
use Rattle.print_uses.proofs.{WellLists.each_well, WellLists.given_well, Valid.world_rule, Valid.interface_well}
use Rattle.print_output.proofs.RenderLaws.{Moves-writes}
use Rattle.print_grammar.proofs.FileReads.{file_reads_only}
use Rattle.print_items.proofs.ShownWell.{docs_well, gates_well, optional_version}
use Rattle.print_packages.proofs.ValidWorlds.{world_well}
use Rattle.base_lemmas.proofs.{Bools.left_of, Bools.right_of, Elements.joined_well, Lists.within_there as one_there}

module _ (r : Resolve) (valid : IsValid r) where
  -- a name under which something with this label stands
  listed_label : (name : Option (String Global)) (under : Text) → passes (λ s. is_label (text_of s)) name ≡ true → text_is name under ≡ true → is_label under ≡ true
  listed_label x under label same = search std_rules

  -- ---- items

  pub interface_item_well : (e : String Global × InterfaceId) → passes (λ i. text_is i.name (text_of e.0)) (interface_at r e.1.0) ≡ true → passes is_well_item (shown_interface_item r e) ≡ true
  unfolding labels
  interface_item_well e h = go (interface_at r e.1.0) refl h
    where
      go : (o : Option Interface) → interface_at r e.1.0 ≡ o → passes (λ i. text_is i.name (text_of e.0)) o ≡ true
          → passes is_well_item (option_map (λ i. InterfaceItem (shown_docs i.docs) (shown_gates i.stability) (text_of e.0) (shown_interface r e.1 i)) o) ≡ true
      go None at same = refl
      go (Some i) at same =
          let named = interface-passes labels r valid.rules.labels e.1.0 i at in
          let label : is_label (text_of e.0) ≡ true = listed_label i.name (text_of e.0) (left_of _ _ named) same in
          let gates : is_stability i.stability ≡ true = left_of _ _ (right_of (passes (λ s. is_label (text_of s)) i.name) _ named) in
          both (list_all is_one_line (shown_docs i.docs)) _ (docs_well i.docs)
          (both (is_well_gates (shown_gates i.stability)) _ (gates_well i.stability gates) (both (is_label (text_of e.0)) _ label (interface_well r valid e.1 i at)))

  world_item_well : (e : String Global × WorldId) → passes (λ w. text_eq (text_of w.name) (text_of e.0)) (world_at r e.1.0) ≡ true → passes is_well_item (shown_world_item r e) ≡ true
  unfolding labels
  world_item_well e h = go (world_at r e.1.0) refl h
    where
      go : (o : Option World) → world_at r e.1.0 ≡ o → passes (λ w. text_eq (text_of w.name) (text_of e.0)) o ≡ true
          → passes is_well_item (option_map (λ w. WorldItem (shown_docs w.docs) (shown_gates w.stability) (text_of e.0) (shown_world r e.1 w)) o) ≡ true
      go None at same = refl
      go (Some w) at same =
          let named = world_rule r valid labels valid.rules.labels e.1.0 w at in
          let own : is_label (text_of w.name) ≡ true = left_of _ _ named in
          let label : is_label (text_of e.0) ≡ true = subst (λ t. is_label t ≡ true) (text_same (text_of w.name) (text_of e.0) same) own in
          let gates : is_stability w.stability ≡ true = left_of _ _ (right_of (is_label (text_of w.name)) _ named) in
          both (list_all is_one_line (shown_docs w.docs)) _ (docs_well w.docs)
          (both (is_well_gates (shown_gates w.stability)) _ (gates_well w.stability gates) (both (is_label (text_of e.0)) _ label (world_well r valid e.1 w at)))

  -- ---- packages

  package_of_well : (n : ℕ) (p : Package) → package_at r n ≡ Some p → is_well_package (shown_package_of r p) ≡ true
  unfolding package_names names_in_packages
  package_of_well n p at =
      let named = left_of _ _ (package-passes package_names r valid.rules.package_names n p at) in
      let rest = right_of (is_label (text_of p.name.namespace)) _ named in
      let keys = package-passes names_in_packages r valid.rules.names_in_packages n p at in
      both _ _ (both (list_all is_one_line (shown_docs p.docs)) _ (docs_well p.docs)
      (both (is_label (text_of p.name.namespace)) _ (left_of _ _ named) (both (is_label (text_of p.name.name)) _ (left_of _ _ rest)
      (optional_version p.name.version (right_of (is_label (text_of p.name.name)) _ rest)))))
      (joined_well is_well_item (filter_map (shown_interface_item r) p.interfaces.entries) (filter_map (shown_world_item r) p.worlds.entries)
      (given_well (λ e. passes (λ i. text_is i.name (text_of e.0)) (interface_at r e.1.0)) (shown_interface_item r) is_well_item interface_item_well p.interfaces.entries (left_of _ _ keys))
      (given_well (λ e. passes (λ w. text_eq (text_of w.name) (text_of e.0)) (world_at r e.1.0)) (shown_world_item r) is_well_item world_item_well p.worlds.entries
      (right_of (list_all (λ e. passes (λ i. text_is i.name (text_of e.0)) (interface_at r e.1.0)) p.interfaces.entries) _ keys)))

  package_well : (id : PackageId) → id.0 < length r.packages.items → is_well_package (shown_package r id) ≡ true
  package_well id below =
      let there = one_there r.packages.items id.0 below in
      subst (λ o. is_well_package (option_map_or (shown_package_of r) o no_package) ≡ true) (sym there.1) (package_of_well id.0 there.0 there.1)

  -- What is shown of valid packages is well named.
  pub file_well : (main : PackageId) (nested : List PackageId) → main.0 < length r.packages.items → list_all (λ id. in_list r.packages.items id.0) nested ≡ true
      → is_well_file (shown_file r main nested) ≡ true
  file_well main nested below others = search (std_rules, both, package_well, each_well, ltb-true)

-- The text of valid packages, with documentation or without, is read as what is shown of them, and as nothing else.
pub packages_read : (emits_docs : Bool) (r : Resolve) (main : PackageId) (nested : List PackageId) → IsValid r → main.0 < length r.packages.items
    → list_all (λ id. in_list r.packages.items id.0) nested ≡ true → IsOnlyReading (render (file_calls emits_docs (shown_file r main nested))) (file_as_read (shown_file r main nested))
packages_read emits_docs r main nested valid below others = file_reads_only emits_docs (shown_file r main nested) (file_well r valid main nested below others)

-- So is what an output holds that kept the text of these calls from the start.
pub kept_text_reads : (emits_docs : Bool) (r : Resolve) (main : PackageId) (nested : List PackageId) → IsValid r → main.0 < length r.packages.items
    → list_all (λ id. in_list r.packages.items id.0) nested ≡ true → (new : OutputView Written) → Moves writes blank (file_calls emits_docs (shown_file r main nested)) new
    → IsOnlyReading new.kept.text (file_as_read (shown_file r main nested))
kept_text_reads emits_docs r main nested valid below others new moved =
    subst (λ t. IsOnlyReading t (file_as_read (shown_file r main nested))) (sym (ap (λ v. v.kept.text) (Moves-writes moved))) (packages_read emits_docs r main nested valid below others)
