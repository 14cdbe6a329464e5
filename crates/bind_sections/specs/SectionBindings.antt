-- What the data of one section binds that carries a world (wit-component README, "Custom Section Format").
use Rattle.std.specs.Prelude.{◌≡◌, ◌↔◌, ◌≤◌, ℕ, List, [], ◌∷◌, length, Ok, Err}
use Rattle.wit_model.specs.declared.{error.Cause.Cause, error.Cause.TheVariants.Truncated, model.Resolve.Resolve, model.StringEncoding.StringEncoding}
use Rattle.wit_model.specs.declared.error.Error.{Error}
use Rattle.wit_model.specs.{Meaning.WorldPackage, Meant.MeantWorld}
use Rattle.comp_meaning.specs.Reads.{ReadsWorld}
use Rattle.wit_bind.specs.declared.bindgen.Bindgen.{Bindgen}
use Rattle.bind_keys.specs.Functions.{MapsFunctions, exports_of, imports_of}
use Rattle.comp_read.specs.{DecodedWorlds.IsDecodedWorld, DecodedWorlds.MeansNoWorld, Order.FollowsBytes}
use Rattle.wit_metadata.specs.{Carried.CarriesEncoding, Carried.MeansWorld, Said.AnswersSaid}
use Rattle.wit_model.specs.declared.error.Error.TheVariants as errors

-- The bindings are of the world that the data means by itself, in the order in which the data shows it, and each function of its imports and its exports has
-- the encoding that the data says.
pub record IsBoundBy (bytes : List ℕ) (b : Bindgen) : Type 0 where
  pub decoded : IsDecodedWorld bytes b.resolve b.world.0
  pub order : FollowsBytes bytes b.resolve
  pub encoding : StringEncoding
  pub says : AnswersSaid bytes (Ok encoding)
  pub imports : MapsFunctions b.resolve (imports_of b.resolve b.world.0) encoding b.metadata.import_encodings
  pub exports : MapsFunctions b.resolve (exports_of b.resolve b.world.0) encoding b.metadata.export_encodings

-- Why data binds nothing: it is empty; it is in the format of before there were versions, which begins with 3; it is neither, and means no one world; it
-- means one, and says no encoding; or memory was wanting.
pub data RefusesSection (bytes : List ℕ) (e : Error) : Type 0 where
  empty : bytes ≡ [] → e ≡ errors.NoReading Truncated 0 → RefusesSection bytes e
  historical : (rest : List ℕ) → bytes ≡ 3 ∷ rest → e ≡ errors.Historical → RefusesSection bytes e
  unread : (bytes ≡ [] → ⊥) → ((rest : List ℕ) → bytes ≡ 3 ∷ rest → ⊥) → (cause : Cause) (offset : ℕ) → e ≡ errors.NoReading cause offset
      → offset ≤ length bytes → MeansNoWorld bytes → RefusesSection bytes e
  unsaid : (m : WorldPackage) → ReadsWorld bytes m → AnswersSaid bytes (Err e) → RefusesSection bytes e
  memory : e ≡ errors.Memory → RefusesSection bytes e

-- Data that means just what world n means, and carries an encoding, as `metadata::encode` answers it: what it binds is a world that means the same, with
-- that encoding.
abbrev pub CarriedWorldsAreBound : Type 0
CarriedWorldsAreBound = (r : Resolve) (n : ℕ) (e : StringEncoding) (bytes : List ℕ) (b : Bindgen) → MeansWorld r n bytes → CarriesEncoding e bytes
    → (bound : IsBoundBy bytes b)
    → ((m : WorldPackage) → MeantWorld r n m ↔ MeantWorld b.resolve b.world.0 m) × (bound.encoding ≡ e)
