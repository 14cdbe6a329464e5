-- Own interfaces that have the path and the sense of others.
use Rattle.std.specs.Prelude.{◌≡◌, ℕ, true, false, List, Option, Some, is_some, option_map, slice_get}
use Rattle.wit_model.specs.declared.model.{Interface.Interface, InterfaceId.InterfaceId, Resolve.Resolve}
use Rattle.wit_model.specs.{Lookup.interface_at, Lookup.interface_path, Meaning.interface_sense, Meant.interface_meaning, Rules.package_number}
use Rattle.wit_model.specs.Text.{optional_text}
use Rattle.bind_copy.specs.Copies.{number_under}
use Rattle.bind_carry.specs.{Listed.given_interface, Renumbered.is_matched}

-- The own interface that is found for another: it has the same name, in the own package of the other's, and so the same path; and the same sense, where nothing
-- clashes.
pub record IsMatchedAt (own other : Resolve) (matched : List (Option InterfaceId)) (packages : List ℕ) (n : ℕ) : Type 0 where
  pub id : InterfaceId
  pub given : given_interface (slice_get matched n) ≡ Some id
  pub old : Interface
  pub found : interface_at other n ≡ Some old
  pub image : Interface
  pub at_image : interface_at own id.0 ≡ Some image
  pub has_path : is_some (interface_path other n) ≡ true
  pub path : interface_path own id.0 ≡ interface_path other n
  pub name : optional_text image.name ≡ optional_text old.name
  pub in_package : package_number image.«package» ≡ option_map (number_under packages) (package_number old.«package»)
  pub sense : interface_sense (interface_meaning own image) ≡ interface_sense (interface_meaning other old)

-- each that is matched is so
abbrev pub AreMatchedAt : Resolve → Resolve → List (Option InterfaceId) → List ℕ → Type 0
AreMatchedAt own other matched packages = (n : ℕ) → is_matched matched n ≡ true → IsMatchedAt own other matched packages n

-- and those with a path that aren't matched have no own one of their path
abbrev pub NoneOfPath : Resolve → Resolve → List (Option InterfaceId) → Type 0
NoneOfPath own other matched = (n m : ℕ) → is_matched matched n ≡ false → is_some (interface_path other n) ≡ true
    → interface_path own m ≡ interface_path other n → ⊥
