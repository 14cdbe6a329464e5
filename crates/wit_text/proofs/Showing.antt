-- A `Resolve` that has what texts declare shows their trees. Serves read.
use Rattle.text_shown.specs.Shows.{InterfaceTree, ShowsFiles, ShowsInterface, ShowsPackage}
use Rattle.text_shown.specs.ShowsWorlds.{ShowsWorld, WorldTree}
use Rattle.wit_text.proofs.StageLaws.{each_then}
use Rattle.std.proofs.Common.{◌≡◌, ◌∙◌, sym, ap, subst, ℕ, List, [], ◌∷◌, Some, option_map, slice_get, length, map, filter, String, Global, le_refl}
use Rattle.std.specs.List.{AllZip}
use Rattle.std.proofs.lemmas.{List.take_all, Option.slice_get-map}
use Rattle.wit_model.specs.declared.model.{InterfaceId.InterfaceId, Package.Package, PackageId.PackageId, Resolve.Resolve, WorldId.WorldId}
use Rattle.print_items.specs.Shown.{shown_head}
use Rattle.text_names.specs.declared.source.Source.{Source}
use Rattle.text_names.specs.declared.sources.{InterfaceSource.InterfaceSource, Sources.Sources, WorldSource.WorldSource}
use Rattle.text_names.specs.Contents.{all_heads, all_items, all_mains, is_interface, AreFirsts, Item}
use Rattle.text_names.specs.Tables.{Declares, IsIndex, IsInterface, IsNumberOf}
use Rattle.text_types.specs.Each.{EachIs}
use Rattle.text_types.proofs.{Growth.begins_none, MadeLaws.members_carried}
use Rattle.wit_text.specs.{Listed.is_of, Listed.is_world_of, Listed.IsListed, Listed.IsWorldListed, Mains.files_of, Mains.numbers_of, SoFar.IsResolveOf}
use Rattle.wit_text.proofs.ExternLaws.{exports_carried, imports_carried}
use Rattle.wit_text.proofs.Filtered.{all_heads_there, interface_tree, interfaces_filtered, world_tree, worlds_filtered, IsInterfaceTree, IsWorldTree}
use Rattle.wit_text.proofs.Paths.{number_made, stated_shown, target_shown, used_shown}
use Rattle.text_plain.specs.Scopes.{bare_head}

module _ (s : Sources) (index : IsIndex s) (r : Resolve) (k : IsResolveOf s r) (items : List Item)
    (declared : AllZip (IsInterface s) items s.interfaces.items) where
  interface_shown : (here : ℕ) (tree : InterfaceTree) (source : InterfaceSource) (entry : String Global × InterfaceId) → IsInterfaceTree s tree source
      → IsListed s k.interfaces.numbers.items here (length s.interfaces.items) source entry → ShowsInterface r here tree entry
  interface_shown here tree source entry is listed =
      let e = k.made listed.own source listed.there in
      let number : entry.1.0 ≡ e.number = listed.number ∙ number_made k.interfaces.numbers.items listed.own e.number e.is.number in
      let with_id : ℕ → String Global × InterfaceId = λ m. (entry.0, record { 0 = m }) in
      subst (λ x. ShowsInterface r here x entry) (sym is)
      (subst (λ x. ShowsInterface r here (interface_tree s source) x) (sym (ap with_id number))
      (subst (λ h. ShowsInterface r h (interface_tree s source) (with_id e.number)) listed.home_is
      (record {
        interface = e.made;
        listed = listed.name;
        there = ap (λ xs. slice_get xs e.number) (sym k.list) ∙ e.is.stands;
        named = e.stands.named;
        home = e.stands.home;
        gates = e.stands.gates;
        docs = e.stands.docs;
        members = members_carried (begins_none r.types.items) (used_shown s index items declared r k source.«package» e.number) e.stands.members;
      })))

  world_shown : (here : ℕ) (tree : WorldTree) (source : WorldSource) (entry : String Global × WorldId) → IsWorldTree s tree source
      → IsWorldListed s here (length s.worlds.items) source entry → ShowsWorld r here tree entry
  world_shown here tree source entry is listed =
      let e = k.worlds.each listed.own source listed.there in
      let with_id : ℕ → String Global × WorldId = λ m. (entry.0, record { 0 = m }) in
      subst (λ x. ShowsWorld r here x entry) (sym is)
      (subst (λ x. ShowsWorld r here (world_tree s source) x) (sym (ap with_id listed.number))
      (subst (λ h. ShowsWorld r h (world_tree s source) (with_id listed.own)) listed.home_is
      (record {
        world = e.made;
        listed = listed.name;
        there = e.there;
        named = e.is.named;
        home = e.is.home;
        gates = e.is.gates;
        docs = e.is.docs;
        imports =
            imports_carried (begins_none r.types.items) (target_shown s index items declared r k source.«package»)
            (stated_shown s index items declared r k source.«package») e.is.imports;
        exports = exports_carried (stated_shown s index items declared r k source.«package») e.is.exports;
      })))

module _ (s : Sources) (index : IsIndex s) (r : Resolve) (k : IsResolveOf s r) (texts : List Source)
    (declares : Declares s (all_heads texts) (all_items texts) (all_mains texts)) where
  package_shown : (n : ℕ) (p : Package) → slice_get r.packages.items n ≡ Some p → ShowsPackage r (files_of texts) n p
  package_shown n p there =
      let is : IsNumberOf s (shown_head p) n =
      ap (λ hs. slice_get hs n) (sym k.packages.heads) ∙ (slice_get-map shown_head r.packages.items n ∙ ap (option_map shown_head) there) in
      let interfaces = filter is_interface (all_items texts) in
      record {
        interfaces =
            each_then (λ tree source entry h l. interface_shown s index r k interfaces declares.interfaces n tree source entry h l)
            (interfaces_filtered s index n (shown_head p) is texts declares.interfaces)
            (subst (λ xs. EachIs (IsListed s k.interfaces.numbers.items n (length s.interfaces.items)) (filter (is_of n) xs) p.interfaces.entries)
            (take_all (length s.interfaces.items) s.interfaces.items (le_refl (length s.interfaces.items))) (k.packages.interfaces n p there));
        worlds =
            each_then (λ tree source entry h l. world_shown s index r k interfaces declares.interfaces n tree source entry h l)
            (worlds_filtered s index n (shown_head p) is texts declares.worlds)
            (subst (λ xs. EachIs (IsWorldListed s n (length s.worlds.items)) (filter (is_world_of n) xs) p.worlds.entries)
            (take_all (length s.worlds.items) s.worlds.items (le_refl (length s.worlds.items))) (k.packages.worlds n p there));
      }

  mains_shown : (ts : List Source) (mains : List PackageId) → AllZip (IsNumberOf s) (all_mains ts) (numbers_of mains)
      → EachIs (λ file id. slice_get (map shown_head r.packages.items) id.0 ≡ Some (bare_head file.main.head)) (files_of ts) mains
  mains_shown [] [] h = EachIs.no_more
  mains_shown [] (m ∷ ms) h = absurd h
  mains_shown (t ∷ ts) [] h = absurd h
  mains_shown (t ∷ ts) (m ∷ ms) h = EachIs.one_more (ap (λ hs. slice_get hs m.0) k.packages.heads ∙ h.0) (mains_shown ts ms h.1)

  -- the packages are those of the texts
  pub files_shown : (mains : List PackageId) → numbers_of mains ≡ s.mains.items → ShowsFiles (files_of texts) r mains
  files_shown mains same = record {
    packages =
        subst (λ hs. AreFirsts hs (map shown_head r.packages.items)) (sym (all_heads_there texts))
        (subst (λ ps. AreFirsts (all_heads texts) ps) (sym k.packages.heads) declares.packages);
    mains_are = mains_shown texts mains (subst (λ ns. AllZip (IsNumberOf s) (all_mains texts) ns) (sym same) declares.mains);
    each = package_shown;
  }
