-- What of one `Resolve` stands in another, and under which numbers. A thing is copied, or one that was there stands for it.
use Rattle.std.specs.Prelude.{◌≡◌, ◌<◌, ◌⊎◌, ℕ, Bool, true, false, List, map, Option, Some, option_map, is_some, String}
use Rattle.std.specs.List.{AllZip, list_all}
use Rattle.std.specs.declared.alloc.Global.{Global}
use Rattle.indexmap.specs.IndexMap.{values}
use Rattle.semver.specs.Identifiers.{parts_of}
use Rattle.wit_model.specs.declared.model.{Resolve.Resolve, PackageName.PackageName, Interface.Interface, FunctionKind.FunctionKind, «Type».«Type» as ValueType}
use Rattle.wit_model.specs.declared.model.{Package.Package, WorldKey.WorldKey, WorldItem.WorldItem, TypeOwner.TypeOwner, Function.Function, Stability.Stability}
use Rattle.wit_model.specs.declared.model.TypeDef.{TypeDef}
use Rattle.wit_model.specs.{Text.Text, Text.text_of, Text.optional_text, Lookup.package_at, Lookup.interface_at, Lookup.type_at, Parts.function_numbers}
use Rattle.wit_model.specs.{Uses.has, Uses.alias_target, Rules.passes, Rules.package_number, Rules.interface_type_numbers, Rules.is_resource_itself}
use Rattle.bind_union.specs.{Views.renamed_type, Images.HasImageKind}
use Rattle.wit_model.specs.declared.model.WorldKey.TheVariants as key
use Rattle.wit_model.specs.declared.model.WorldItem.TheVariants as item
use Rattle.wit_model.specs.declared.model.TypeOwner.TheVariants as owner
use Rattle.wit_model.specs.declared.model.FunctionKind.TheVariants as call
use Rattle.wit_model.specs.declared.model.Stability.TheVariants as stability

-- ---- new numbers

-- The new numbers, which numbers have one, and which of these are of copies. Every package has one.
pub record Renumbering : Type 0 where
  pub packages : ℕ → ℕ
  pub interfaces : ℕ → ℕ
  pub worlds : ℕ → ℕ
  pub types : ℕ → ℕ
  pub carries_interface : ℕ → Bool
  pub carries_world : ℕ → Bool
  pub carries_type : ℕ → Bool
  pub copies_interface : ℕ → Bool
  pub copies_type : ℕ → Bool

abbrev pub owner_under : Renumbering → TypeOwner → TypeOwner
owner_under f (owner.World id) = owner.World (record { 0 = f.worlds id.0 })
owner_under f (owner.Interface id) = owner.Interface (record { 0 = f.interfaces id.0 })
owner_under f owner.None = owner.None

abbrev pub carries_owner : Renumbering → TypeOwner → Bool
carries_owner f (owner.World id) = f.carries_world id.0
carries_owner f (owner.Interface id) = f.carries_interface id.0
carries_owner f owner.None = true

abbrev pub call_under : Renumbering → FunctionKind → FunctionKind
call_under f call.Freestanding = call.Freestanding
call_under f call.AsyncFreestanding = call.AsyncFreestanding
call_under f (call.Method id) = call.Method (record { 0 = f.types id.0 })
call_under f (call.AsyncMethod id) = call.AsyncMethod (record { 0 = f.types id.0 })
call_under f (call.Static id) = call.Static (record { 0 = f.types id.0 })
call_under f (call.AsyncStatic id) = call.AsyncStatic (record { 0 = f.types id.0 })
call_under f (call.Constructor id) = call.Constructor (record { 0 = f.types id.0 })

-- ---- texts

-- a stability by its versions and its feature
pub data StabilityView : Type 0 where
  unknown : StabilityView
  stable : ℕ × ℕ × ℕ × List ℕ × List ℕ → Option (ℕ × ℕ × ℕ × List ℕ × List ℕ) → StabilityView
  unstable : Text → Option (ℕ × ℕ × ℕ × List ℕ × List ℕ) → StabilityView

-- a stability of the code by its versions and its feature
abbrev pub stability_view : Stability → StabilityView
stability_view stability.Unknown = unknown
stability_view (stability.Stable since deprecated) = stable (parts_of since) (option_map parts_of deprecated)
stability_view (stability.Unstable feature deprecated) = unstable (text_of feature) (option_map parts_of deprecated)

-- two names of packages of the same texts
pub record IsSameName (old new : PackageName) : Type 0 where
  pub namespace : text_of new.namespace ≡ text_of old.namespace
  pub name : text_of new.name ≡ text_of old.name
  pub version : option_map parts_of new.version ≡ option_map parts_of old.version

-- ---- copies

pub record IsFunctionCopy (f : Renumbering) (old new : Function) : Type 0 where
  pub name : text_of new.name ≡ text_of old.name
  pub kind : new.kind ≡ call_under f old.kind
  pub params : ◌≡◌ {A = List (Text × ValueType)} (map (λ p. (text_of p.name, p.ty)) new.params.items)
      (map (λ p. (text_of p.name, renamed_type f.types p.ty)) old.params.items)
  pub result : new.result ≡ option_map (renamed_type f.types) old.result
  pub parts : list_all f.carries_type (function_numbers old) ≡ true
  pub stability : stability_view new.stability ≡ stability_view old.stability
  pub external_id : optional_text new.external_id ≡ optional_text old.external_id

abbrev pub IsFunctionEntry : Renumbering → String Global × Function → String Global × Function → Type 0
IsFunctionEntry f old new = (text_of new.0 ≡ text_of old.0) × IsFunctionCopy f old.1 new.1

-- An interface is copied with all its types and functions.
pub record IsInterfaceCopy (f : Renumbering) (old new : Interface) : Type 0 where
  pub types : ◌≡◌ {A = List (Text × ℕ)} (map (λ e. (text_of e.0, e.1.0)) new.types.entries) (map (λ e. (text_of e.0, f.types e.1.0)) old.types.entries)
  pub copies : list_all (λ id. f.copies_type id.0) (values old.types) ≡ true
  pub functions : AllZip (IsFunctionEntry f) old.functions.entries new.functions.entries
  pub stability : stability_view new.stability ≡ stability_view old.stability

abbrev pub KeyBecomes : Renumbering → WorldKey → WorldKey → Type 0
KeyBecomes f (key.Name old) (key.Name new) = text_of new ≡ text_of old
KeyBecomes f (key.Interface old) (key.Interface new) = (new.0 ≡ f.interfaces old.0) × (f.carries_interface old.0 ≡ true)
KeyBecomes f _ _ = ⊥

abbrev pub ItemBecomes : Renumbering → WorldItem → WorldItem → Type 0
ItemBecomes f (item.Interface old old_stability old_docs old_external) (item.Interface new new_stability new_docs new_external) =
    (new.0 ≡ f.interfaces old.0) × (f.carries_interface old.0 ≡ true) × (stability_view new_stability ≡ stability_view old_stability)
    × (optional_text new_external ≡ optional_text old_external)
ItemBecomes f (item.Function old) (item.Function new) = IsFunctionCopy f old new
ItemBecomes f (item.Type_ old) (item.Type_ new) = (new.0 ≡ f.types old.0) × (f.copies_type old.0 ≡ true)
ItemBecomes f _ _ = ⊥

abbrev pub EntryBecomes : Renumbering → WorldKey × WorldItem → WorldKey × WorldItem → Type 0
EntryBecomes f old new = KeyBecomes f old.0 new.0 × ItemBecomes f old.1 new.1

-- ---- what stands for what

-- A named type that was there stands for one of its name: both are resources or none is, and where they are aliases, so do their targets.
pub record IsNamesake (f : Renumbering) (def image : TypeDef) : Type 0 where
  pub named : is_some def.name ≡ true
  pub resource : is_resource_itself image.kind ≡ is_resource_itself def.kind
  pub alias : alias_target image.kind ≡ option_map f.types (alias_target def.kind)
  pub target : passes f.carries_type (alias_target def.kind) ≡ true

-- the owners whose types are copied with them
abbrev pub copies_owner : Renumbering → TypeOwner → Bool
copies_owner f (owner.World id) = f.carries_world id.0
copies_owner f (owner.Interface id) = f.copies_interface id.0
copies_owner f owner.None = true

pub record IsTypeCopy (f : Renumbering) (def image : TypeDef) : Type 0 where
  pub home : copies_owner f def.owner ≡ true
  pub kind : HasImageKind f.types f.carries_type def image
  pub stability : stability_view image.stability ≡ stability_view def.stability
  pub external_id : optional_text image.external_id ≡ optional_text def.external_id

-- What a type that is carried has under its new number.
pub record IsType (r s : Resolve) (f : Renumbering) (n : ℕ) : Type 0 where
  pub def : TypeDef
  pub found : type_at r n ≡ Some def
  pub image : TypeDef
  pub at_image : type_at s (f.types n) ≡ Some image
  pub name : optional_text image.name ≡ optional_text def.name
  pub home : image.owner ≡ owner_under f def.owner
  pub carries_home : carries_owner f def.owner ≡ true
  pub kind : HasImageKind f.types f.carries_type def image ⊎ IsNamesake f def image
  pub copied : f.copies_type n ≡ true → IsTypeCopy f def image

-- What an interface that is carried has under its new number: each type there stands for one of its own.
pub record IsInterface (r s : Resolve) (f : Renumbering) (n : ℕ) : Type 0 where
  pub old : Interface
  pub found : interface_at r n ≡ Some old
  pub image : Interface
  pub at_image : interface_at s (f.interfaces n) ≡ Some image
  pub name : optional_text image.name ≡ optional_text old.name
  -- an inline one has the package of the world that shows it
  pub in_package : is_some old.name ≡ true → package_number image.«package» ≡ option_map f.packages (package_number old.«package»)
  pub types : (m : ℕ) → has (interface_type_numbers image) m ≡ true → (k : ℕ) × (has (interface_type_numbers old) k ≡ true) × (f.carries_type k ≡ true)
      × (f.types k ≡ m)
  pub copied : f.copies_interface n ≡ true → IsInterfaceCopy f old image

pub record IsPackage (r s : Resolve) (f : Renumbering) (n : ℕ) (p : Package) : Type 0 where
  pub image : Package
  pub at_image : package_at s (f.packages n) ≡ Some image
  pub name : IsSameName p.name image.name

-- a copy stands behind what is carried before it, and behind all that was there
abbrev pub Rises : (ℕ → ℕ) → (ℕ → Bool) → (ℕ → Bool) → Type 0
Rises f carries copies = (m n : ℕ) → carries m ≡ true → copies n ≡ true → (m < n) ⊎ (copies m ≡ false) → f m < f n

-- What is carried of one `Resolve` into another.
pub record IsCarried (r s : Resolve) (f : Renumbering) : Type 0 where
  pub packages : (n : ℕ) (p : Package) → package_at r n ≡ Some p → IsPackage r s f n p
  pub interfaces : (n : ℕ) → f.carries_interface n ≡ true → IsInterface r s f n
  pub types : (n : ℕ) → f.carries_type n ≡ true → IsType r s f n
  pub copied_interfaces : (n : ℕ) → f.copies_interface n ≡ true → f.carries_interface n ≡ true
  pub copied_types : (n : ℕ) → f.copies_type n ≡ true → f.carries_type n ≡ true
  pub interfaces_rise : Rises f.interfaces f.carries_interface f.copies_interface
  pub types_rise : Rises f.types f.carries_type f.copies_type
  pub worlds_apart : (m n : ℕ) → f.carries_world m ≡ true → f.carries_world n ≡ true → f.worlds m ≡ f.worlds n → m ≡ n
