-- What becomes of types before those without a name are settled: what both passes begin with.
use Rattle.std.specs.Prelude.{◌≡◌, ℕ, Bool, true, false, List, Some, is_some, length, slice_get}
use Rattle.wit_model.specs.declared.model.{Interface.Interface, Resolve.Resolve, TypeDef.TypeDef, TypeOwner.TypeOwner}
use Rattle.wit_model.specs.{Lookup.interface_at, Lookup.type_at, Valid.as_interface}
use Rattle.bind_union.specs.Carried.{carries_owner, copies_owner, owner_under, Renumbering}
use Rattle.bind_carry.specs.Fates.{carries}
use Rattle.bind_carry.specs.declared.fate.Fate.{Fate}
use Rattle.bind_carry.specs.declared.fate.Fate.TheVariants as fate

-- The fates of types before those without a name have theirs, under a renumbering of owners. What is copied is of an owner that is copied.
pub record IsInitial (other : Resolve) (f : Renumbering) (adds : Bool) (initial : List Fate) : Type 0 where
  pub long : length initial ≡ length other.types.items
  pub unnamed : (n : ℕ) (def : TypeDef) → type_at other n ≡ Some def → is_some def.name ≡ false → slice_get initial n ≡ Some fate.Left
  pub copied : (n : ℕ) (def : TypeDef) (home : TypeOwner) → type_at other n ≡ Some def → is_some def.name ≡ true → slice_get initial n ≡ Some (fate.Copied home)
      → (home ≡ owner_under f def.owner) × (copies_owner f def.owner ≡ true) × (adds ≡ true)
  pub carried : (n : ℕ) (def : TypeDef) → type_at other n ≡ Some def → is_some def.name ≡ true → carries_owner f def.owner ≡ true → (g : Fate)
      × (slice_get initial n ≡ Some g) × (carries g ≡ true)
  pub with_path : (n : ℕ) (i : Interface) → interface_at other n ≡ Some i → is_some i.name ≡ true → carries_owner f (as_interface n) ≡ true
  -- an owner whose types are copied is carried
  pub homes : (o : TypeOwner) → copies_owner f o ≡ true → carries_owner f o ≡ true
