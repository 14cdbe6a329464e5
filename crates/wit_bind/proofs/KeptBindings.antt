-- Bindings that are as they were stand for the same binding.
use Rattle.std.proofs.Common.{rules as std_rules, ◌≡◌, ◌∙◌, refl, sym, ap, ℕ, zero, suc, List, [], ◌∷◌, map, filter_map, option_map, option_and_then, slice_get, unwrap_or, Option, Some, None}
use Rattle.std.specs.{List.cons_option, Option.option_map_or, FinMap.from_entries, FinSet.from_list}
use Rattle.wit_model.specs.declared.model.{Function.Function, Interface.Interface, PackageId.PackageId, «TypeOwner».TypeOwner, World.World, WorldItem.WorldItem, Resolve.Resolve, TypeDef.TypeDef, WorldKey.WorldKey}
use Rattle.wit_model.specs.{Text.Text, Text.optional_text, Text.text_of, Names.path_in, Tree.named, Types.declared_by, Types.grow, Types.tree_of_declaration, Types.tree_of_definition, Types.trees_of}
use Rattle.wit_model.specs.Lookup.{identity_of, interface_path, key_text, path_in_package, path_of_interface, path_of_world, place_of, world_at}
use Rattle.wit_model.specs.Meant.{entries_meaning, entry_meaning, function_meaning, interface_meaning, interface_meaning_at, no_interface, no_type, no_world, signature_of, type_meaning_at, world_meaning, world_meaning_at}
use Rattle.bind_meaning.specs.Binding.{package_text}
use Rattle.bind_meaning.specs.ByNumbers.{binding_at, interfaces_by_path, package_texts, world_path_at, worlds_by_path}
use Rattle.wit_bind.specs.{Bindings.binding_of, Extends.AllPairs, Extends.IsSamePackage, Extends.IsSameWorld, Extends.KeptBindingsAreTheSame}

-- ---- lists that are related element by element

-- what stands in both under a number
both-at : {X Y : Type 0} (Related : X → X → Type 0) (f : X → Y) → ((x y : X) → Related x y → f y ≡ f x) → (xs ys : List X) → AllPairs Related xs ys → (n : ℕ)
    → option_map f (slice_get ys n) ≡ option_map f (slice_get xs n)
both-at Related f same [] [] all n = refl
both-at Related f same (x ∷ xs) (y ∷ ys) all zero = ap Some (same x y all.0)
both-at Related f same (x ∷ xs) (y ∷ ys) all (suc n) = both-at Related f same xs ys all.1 n
both-at Related f same _ _ all n = absurd all

both-mapped : {X Y : Type 0} (Related : X → X → Type 0) (f g : X → Y) → ((x y : X) → Related x y → g y ≡ f x) → (xs ys : List X) → AllPairs Related xs ys → map g ys ≡ map f xs
both-mapped Related f g same [] [] all = refl
both-mapped Related f g same (x ∷ xs) (y ∷ ys) all = λ i. same x y all.0 i ∷ both-mapped Related f g same xs ys all.1 i
both-mapped Related f g same _ _ all = absurd all

both-given : {X Y : Type 0} (Related : X → X → Type 0) (f g : X → Option Y) → ((x y : X) → Related x y → g y ≡ f x) → (xs ys : List X) → AllPairs Related xs ys → filter_map g ys ≡ filter_map f xs
both-given Related f g same [] [] all = refl
both-given Related f g same (x ∷ xs) (y ∷ ys) all = λ i. cons_option (same x y all.0 i) (both-given Related f g same xs ys all.1 i)
both-given Related f g same _ _ all = absurd all

module _ (r s : Resolve) (packages : AllPairs IsSamePackage r.packages.items s.packages.items) (interfaces : s.interfaces.items ≡ r.interfaces.items) (types : s.types.items ≡ r.types.items) where
  -- ---- paths

  same-path_in : (p : ℕ) (name : Text) → path_in_package s p name ≡ path_in_package r p name
  same-path_in p name = both-at IsSamePackage (λ k. path_in (identity_of k.name) name) (λ k l same. ap (λ n. path_in (identity_of n) name) same.name) r.packages.items s.packages.items packages p

  same-path : (i : Interface) → path_of_interface s i ≡ path_of_interface r i
  same-path i = λ j. option_and_then (λ name. option_and_then (λ (p : PackageId). same-path_in p.0 (text_of name) j) i.package) i.name

  same-interface_path : (n : ℕ) → interface_path s n ≡ interface_path r n
  same-interface_path n = λ j. option_and_then (λ i. same-path i j) (slice_get (interfaces j) n)

  same-place : (o : TypeOwner) → place_of s o ≡ place_of r o
  same-place x = search (std_rules, same-interface_path)

  -- ---- types and functions

  same-step : tree_of_definition s ≡ tree_of_definition r
  same-step = λ j trees def. option_map_or (λ name. named (same-place def.owner j) (text_of name)) def.name (tree_of_declaration (declared_by trees def.kind))

  same-trees : trees_of s ≡ trees_of r
  unfolding trees_of
  same-trees = λ j. grow (same-step j) [] (types j)

  same-type : (n : ℕ) → type_meaning_at s n ≡ type_meaning_at r n
  same-type n = λ j. option_map_or (λ (def : TypeDef). record { declaration = declared_by (same-trees j) def.kind; external_id = optional_text def.external_id }) (slice_get (types j) n) no_type

  same-signature : (f : Function) → signature_of s f ≡ signature_of r f
  same-signature f = search (std_rules, same-trees)

  same-function : (f : Function) → function_meaning s f ≡ function_meaning r f
  same-function f = λ j. record { signature = same-signature f j; external_id = optional_text f.external_id }

  -- ---- interfaces

  same-interface : (i : Interface) → interface_meaning s i ≡ interface_meaning r i
  same-interface i = search (std_rules, same-type, same-function)

  same-interface_at : (n : ℕ) → interface_meaning_at s n ≡ interface_meaning_at r n
  same-interface_at n = λ j. option_map_or (λ i. same-interface i j) (slice_get (interfaces j) n) no_interface

  same-interfaces : interfaces_by_path s ≡ interfaces_by_path r
  same-interfaces = λ j. filter_map (λ i. option_map (λ path. (path, same-interface i j)) (same-path i j)) (interfaces j)

  -- ---- worlds

  same-key : (k : WorldKey) → key_text s k ≡ key_text r k
  same-key x = search (std_rules, unwrap_or, same-interface_path)

  same-entry : (i : WorldItem) → entry_meaning s i ≡ entry_meaning r i
  same-entry x = search (std_rules, same-interface_path, same-interface_at, same-signature, same-type)

  same-entries : (es : List (WorldKey × WorldItem)) → entries_meaning s es ≡ entries_meaning r es
  same-entries es = λ j. map (λ e. (same-key e.0 j, same-entry e.1 j)) es

  same-world : (v w : World) → IsSameWorld v w → world_meaning s w ≡ world_meaning r v
  same-world v w same = search (std_rules, same-entries)

  same-world_path : (v w : World) → IsSameWorld v w → path_of_world s w ≡ path_of_world r v
  same-world_path v w same = λ j. option_and_then (λ (p : PackageId). same-path_in p.0 (text_of (same.name j)) j) (same.in_package j)

  module _ (worlds : AllPairs IsSameWorld r.worlds.items s.worlds.items) where
    same-worlds : worlds_by_path s ≡ worlds_by_path r
    same-worlds = both-given IsSameWorld (λ w. option_map (λ path. (path, world_meaning r w)) (path_of_world r w)) (λ w. option_map (λ path. (path, world_meaning s w)) (path_of_world s w))
        (λ v w same. λ j. option_map (λ path. (path, same-world v w same j)) (same-world_path v w same j)) r.worlds.items s.worlds.items worlds

    same-texts : package_texts s ≡ package_texts r
    same-texts = both-mapped IsSamePackage (λ p. package_text (identity_of p.name)) (λ p. package_text (identity_of p.name)) (λ p q same. ap (λ n. package_text (identity_of n)) same.name)
        r.packages.items s.packages.items packages

    -- what the world of this number means, and its path
    world-by : {Y : Type 0} (f g : World → Y) (d : Y) → ((v w : World) → IsSameWorld v w → g w ≡ f v) → (n : ℕ) → option_map_or g (world_at s n) d ≡ option_map_or f (world_at r n) d
    world-by {Y} f g d same n = along r.worlds.items s.worlds.items worlds n
      where
        along : (vs ws : List World) → AllPairs IsSameWorld vs ws → (n : ℕ) → option_map_or g (slice_get ws n) d ≡ option_map_or f (slice_get vs n) d
        along [] [] all n = refl
        along (v ∷ vs) (w ∷ ws) all zero = same v w all.0
        along (v ∷ vs) (w ∷ ws) all (suc n) = along vs ws all.1 n
        along _ _ all n = absurd all

    same-bound : (n : ℕ) → world_meaning_at s n ≡ world_meaning_at r n
    same-bound n = world-by (world_meaning r) (world_meaning s) no_world same-world n

    as-given : {Y : Type 0} (f : World → Option Y) (o : Option World) → option_and_then f o ≡ option_map_or f o None
    as-given f x = search std_rules

    same-bound_path : (n : ℕ) → world_path_at s n ≡ world_path_at r n
    same-bound_path n = ap (λ o. unwrap_or o []) (as-given (path_of_world s) (world_at s n)
        ∙ (world-by (path_of_world r) (path_of_world s) None same-world_path n ∙ sym (as-given (path_of_world r) (world_at r n))))

pub kept_bindings_are_the_same : KeptBindingsAreTheSame
kept_bindings_are_the_same old new kept =
    let r = old.resolve in
    let s = new.resolve in
    let n = old.world.0 in
    let here : binding_of new ≡ binding_at s n new.metadata.import_encodings new.metadata.export_encodings =
    ap (λ w. binding_at s w.0 new.metadata.import_encodings new.metadata.export_encodings) kept.world in
    here ∙ (λ j. record {
      packages = from_list (same-texts r s kept.packages kept.interfaces kept.types kept.worlds j);
      interfaces = from_entries (same-interfaces r s kept.packages kept.interfaces kept.types j);
      worlds = from_entries (same-worlds r s kept.packages kept.interfaces kept.types kept.worlds j);
      path = same-bound_path r s kept.packages kept.interfaces kept.types kept.worlds n j;
      bound = same-bound r s kept.packages kept.interfaces kept.types kept.worlds n j;
      imported_encodings = kept.imported_encodings j;
      exported_encodings = kept.exported_encodings j;
    })
