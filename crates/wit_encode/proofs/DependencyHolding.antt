-- The component type of an interface: how much is held and defined after each import, and why a call has no room.
use Rattle.std.proofs.Common.{◌≡◌, refl, sym, subst, ap, ◌∙◌, ℕ, ◌+◌, ◌≤◌, ◌⊎◌, inl, inr, nat_cmp, Bool, true, false, ◌&&◌, List, [], ◌∷◌, ◌++◌, length, length-append, Some, is_some, arith}
use Rattle.std.proofs.lemmas.Bool.{eq-eqb}
use Rattle.std.specs.{BTreeMap.insert_entry, List.AllZip, List.Contains}
use Rattle.wit_model.specs.{Lookup.interface_at, Text.Text}
use Rattle.wit_model.specs.declared.model.{Resolve.Resolve, Interface.Interface, InterfaceId.InterfaceId, Function.Function, «Type».«Type» as ValueType}
use Rattle.comp_bytes.specs.Raw.{Declaration, Declarations, ExternName, append, declaration_count, from_list}
use Rattle.comp_bytes.specs.{Held.fits_counts, Held.type_slots_of, Fits.fits_name}
use Rattle.encode_reach.specs.Reach.{reached_in_order}
use Rattle.encode_types.specs.{Distinct.is_value_type, Distinct.is_function_type, Known.Around, Known.GrowsAround, Known.known_instance, Room.limit}
use Rattle.encode_names.specs.WorldNames.{name_of_interface}
use Rattle.wit_encode.specs.{Dependencies.HasImported, Dependencies.ImportsTypes, Dependencies.with_export, Worlds.brought_numbers, Worlds.instances_declared, DependencyAliases.HasImportAliases, Places.are_beside, DependencyCounts.DefinesComponent, DependencyCounts.DefinesImports, DependencyCounts.DefinesTypesOf, Encoders.InterfaceLacksRoom}
use Rattle.wit_encode.specs.DependencyRoom.{HoldsImports, LacksImport, its_types, its_path, a_place, ImportsLackRoom, an_interface, a_path, too_many, ComponentLacksRoom, of_imports, of_interface, of_path, TypesLackRoom}
use Rattle.wit_encode.specs.Instance.{EncodesInterface, EncodesPart, LacksInstanceRoom, whole_interface, types_alone_of}
use Rattle.wit_encode.proofs.{DependencyAliases.export-aliased, Refusing.counts-refused, Refusing.outer-slots-few, WorldHolding.brought-some}
use Rattle.wit_encode.proofs.{Places.part-beside, WorldHolding.by-name, WorldHolding.defines-own}
use Rattle.wit_encode.proofs.Placed.{grown-few, grown-listed, one-behind, placed-counted, placed-few, placed-instances}
use Rattle.comp_meaning.specs.Follow.{import_}
use Rattle.base_lemmas.proofs.{Elements.zip-append, Options.there as some-of}
use Rattle.comp_bytes.specs.declared.forms.ComponentTypeRef.TheVariants as refs

-- ---- one import more

module _ (r : Resolve) (canonical : Bool) (a a' : Around) (i : InterfaceId) (number : ℕ) (t : ImportsTypes r canonical a a' i number) where
  abbrev before : Around
  before = t.encodes.part.before

  abbrev inner : Declarations
  inner = from_list t.encodes.part.declared

  abbrev described : Declaration
  described = Declaration.imported (name_of_interface r canonical i.0) (refs.Instance t.slot)

  made : a'.declared ≡ append (append before.declared (Declarations.instance inner Declarations.no_more)) (Declarations.declares described Declarations.no_more)
  made = ap (λ (z : Around). z.declared) t.imports ∙ ap (λ (z : Around). append z.declared (Declarations.declares described Declarations.no_more)) t.encodes.part.one_more

  pub import-few : (ns : List ℕ) → HoldsImports r a ns → HoldsImports r a' (ns ++ i.0 ∷ [])
  import-few ns h =
      let f : declaration_count a'.declared + length (brought_numbers r a) ≤ declaration_count a.declared + (length (brought_numbers r a') + 2) =
      placed-few r a before t.encodes.part.aliases.grown inner described a'.declared made i.0 number a'.instances a'.known
      (ap (λ (z : Around). z.instances) t.imports ∙ ap (λ (z : Around). insert_entry nat_cmp z.instances i.0 number) t.encodes.part.one_more
      ∙ ap (λ (es : List (ℕ × ℕ)). insert_entry nat_cmp es i.0 number) (grown-listed r a before t.encodes.part.aliases.grown))
      (ap (λ (z : Around). z.known) t.imports ∙ ap (λ (z : Around). z.known) t.encodes.part.one_more) in
      omega (arith, f, h, length-append ns (i.0 ∷ []))

  pub import-defines : (ns : List ℕ) → DefinesImports r a.declared ns → DefinesImports r a'.declared (ns ++ i.0 ∷ [])
  import-defines ns h = record {
    beside = record {
      value_types = placed-counted r a before t.encodes.part.aliases.grown inner described a'.declared made is_value_type (λ x. refl) refl ∙ h.beside.value_types;
      function_types = placed-counted r a before t.encodes.part.aliases.grown inner described a'.declared made is_function_type (λ x. refl) refl ∙ h.beside.function_types;
    };
    inside = subst (AllZip (DefinesTypesOf r) (ns ++ i.0 ∷ [])) (sym (placed-instances r a before t.encodes.part.aliases.grown inner described a'.declared made))
        (zip-append (DefinesTypesOf r) ns (instances_declared a.declared) (i.0 ∷ []) ((before.declared, inner) ∷ []) h.inside (one, tt));
    places = subst (λ (z : Declarations). are_beside 0 z ≡ true) (sym (ap (λ (z : Around). z.declared) t.imports))
        (part-beside r a _ i t.def [] [] t.slot t.encodes.part described (eq-eqb t.slot t.slot refl) refl h.places);
  }
    where
      one : DefinesTypesOf r i.0 (before.declared, inner)
      one =
          let p = t.encodes.part in
          let types = t.encodes.function_types in
          record { def = t.def; there = t.there; declarations = p.declared; is = refl; ordered = p.is_instance; function_types = types; value_types = p.value_types; few = p.few; places = p.places }

-- nothing is defined, and nothing is held, where nothing is declared
pub nothing-held : (r : Resolve) (a : Around) → a.declared ≡ Declarations.no_more → HoldsImports r a []
nothing-held r a none = omega (arith, ap declaration_count none)

pub nothing-defined : (r : Resolve) (outer : Declarations) → outer ≡ Declarations.no_more → DefinesImports r outer []
nothing-defined r outer none = subst (λ (z : Declarations). DefinesImports r z []) (sym none) (record { beside = record { value_types = refl; function_types = refl }; inside = tt; places = refl })

-- behind the imports the interface itself
module _ (r : Resolve) (canonical : Bool) (a a' : Around) (i : InterfaceId) (def : Interface) (k : ℕ) (outer : Declarations) (encodes : EncodesInterface r a a' i def k) (is : outer ≡ with_export r canonical i k a'.declared) where
  abbrev own : Declarations
  own = from_list encodes.part.declared

  abbrev exported_by : Declaration
  exported_by = Declaration.exported (name_of_interface r canonical i.0) (refs.Instance k)

  made_last : outer ≡ append (append encodes.part.before.declared (Declarations.instance own Declarations.no_more)) (Declarations.declares exported_by Declarations.no_more)
  made_last = is ∙ ap (λ (z : Around). append z.declared (Declarations.declares exported_by Declarations.no_more)) encodes.part.one_more

  pub export-defines : (ns : List ℕ) → interface_at r i.0 ≡ Some def → ns ≡ reached_in_order r i.0 → DefinesImports r a.declared ns → HasImported r a ns → HasImportAliases r a ns
      → DefinesComponent r i.0 outer
  export-defines ns there order h imported aliased = record {
    beside = record {
      value_types = placed-counted r a encodes.part.before encodes.part.aliases.grown own exported_by outer made_last is_value_type (λ x. refl) refl ∙ h.beside.value_types;
      function_types = placed-counted r a encodes.part.before encodes.part.aliases.grown own exported_by outer made_last is_function_type (λ x. refl) refl ∙ h.beside.function_types;
    };
    imports = instances_declared a.declared;
    own = (encodes.part.before.declared, own);
    are = placed-instances r a encodes.part.before encodes.part.aliases.grown own exported_by outer made_last;
    reached = subst (λ (xs : List ℕ). AllZip (DefinesTypesOf r) xs (instances_declared a.declared)) order h.inside;
    exported = defines-own r a a' i def k there encodes;
    aliases = export-aliased r canonical a a' ns i def k outer there encodes is order imported aliased;
    places = subst (λ (z : Declarations). are_beside 0 z ≡ true) (sym is) (part-beside r a a' i def _ _ k encodes.part exported_by (eq-eqb k k refl) refl h.places);
  }

-- ---- a call that has no room

full-after : {r : Resolve} {i : InterfaceId} {ts : List ValueType} {a : Around} (l : LacksInstanceRoom r i ts a) → limit ≤ declaration_count l.after.declared + 1
full-after l =
    let few = outer-slots-few l.after.declared in
    omega (arith, counts-refused (declaration_count l.after.declared) (type_slots_of l.after.declared + 1) (omega (arith, few)) l.full)

module _ (r : Resolve) (canonical : Bool) (a : Around) (i : InterfaceId) (def : Interface) where
  pub slot-lacks : interface_at r i.0 ≡ Some def → TypesLackRoom r i def ⊎ LacksInstanceRoom r i (types_alone_of def) a → LacksImport r canonical a i
  slot-lacks there (inl l) = its_types def there l
  slot-lacks there (inr l) = a_place l.after (record { def = def; there = there; made = l.grown }) (full-after l)

pub import-lacks : (r : Resolve) (canonical : Bool) (a a' : Around) (i : InterfaceId) (def : Interface) (written : List (Text × Function)) (k : ℕ) → interface_at r i.0 ≡ Some def
    → (part : EncodesPart r a a' i def written [] k) (name : ExternName) → name ≡ name_of_interface r canonical i.0
    → (fits_name name && fits_counts (declaration_count a'.declared + 1) (type_slots_of a'.declared + 0)) ≡ false → LacksImport r canonical a i
import-lacks r canonical a a' i def written k there part name named = by-name import_ name (refs.Instance k) a'.declared refl (λ u. its_path (ap fits_name (sym named) ∙ u))
    (λ over. let one = one-behind part.before (from_list part.declared) a'.declared (ap (λ (z : Around). z.declared) part.one_more) in
    a_place part.before (record { def = def; there = there; made = part.aliases }) (omega (arith, over, one)))

-- ---- all of them

-- the component type is full, where some of the interfaces have been imported
module _ (r : Resolve) (interfaces front : List ℕ) (among : (n : ℕ) → Contains front n → Contains interfaces n) (few : length front ≤ length interfaces) (a : Around) (h : HasImported r a front) (held : HoldsImports r a front) where
  pub place-lacks : (after : Around) → GrowsAround r a after → limit ≤ declaration_count after.declared + 1 → ImportsLackRoom r interfaces
  place-lacks after g over = too_many (brought_numbers r after)
      (brought-some r after interfaces (λ m f. let x = some-of (known_instance a.instances m) (ap (λ xs. is_some (known_instance xs m)) (sym (grown-listed r a after g)) ∙ f) in
      among m (h.alone m x.0 x.1))) (omega (arith, grown-few r a after g, over, held, few))

  pub next-lacks : (canonical : Bool) (i : InterfaceId) → Contains interfaces i.0 → LacksImport r canonical a i → ImportsLackRoom r interfaces
  next-lacks canonical i c (its_types def there l) = an_interface i def c there l
  next-lacks canonical i c (its_path u) = a_path canonical i.0 c u
  next-lacks canonical i c (a_place after g over) = place-lacks after g.made.grown over

-- the interface itself, behind all imports
module _ (r : Resolve) (ns : List ℕ) (a : Around) (h : HasImported r a ns) (held : HoldsImports r a ns) (i : InterfaceId) (def : Interface) where
  pub own-lacks : interface_at r i.0 ≡ Some def → InterfaceLacksRoom r i def ⊎ LacksInstanceRoom r i (whole_interface def) a → ComponentLacksRoom r i ns
  own-lacks there (inl l) = of_interface def there l
  own-lacks there (inr l) = of_imports (place-lacks r ns ns (λ n c. c) (omega arith) a h held l.after l.grown.grown (full-after l))

  pub export-lacks : (canonical : Bool) (a' : Around) (k : ℕ) → EncodesInterface r a a' i def k → (name : ExternName) → name ≡ name_of_interface r canonical i.0
      → (fits_name name && fits_counts (declaration_count a'.declared + 1) (type_slots_of a'.declared + 0)) ≡ false → ComponentLacksRoom r i ns
  export-lacks canonical a' k encodes name named =
      let part = encodes.part in
      by-name import_ name (refs.Instance k) a'.declared refl (λ u. of_path canonical (ap fits_name (sym named) ∙ u))
      (λ over. let one = one-behind part.before (from_list part.declared) a'.declared (ap (λ (z : Around). z.declared) part.one_more) in
      of_imports (place-lacks r ns ns (λ n c. c) (omega arith) a h held part.before part.aliases.grown (omega (arith, over, one))))
