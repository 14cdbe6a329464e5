-- A component in which a world has no room: the world, carried so, is too heavy.
use Rattle.std.proofs.Common.{rules as std_rules, ◌≡◌, ◌≤◌, ◌<◌, ◌+◌, ◌&&◌, ◌⊎◌, inl, inr, ap, ℕ, Bool, false, [], ◌∷◌, length, Some, arith, refl}
use Rattle.std.proofs.lemmas.{List.Sums.sum_by-cons, List.Sums.sum_by-append, Bool.and_cases as either-false}
use Rattle.wit_model.specs.{Text.Text, Text.text_of, Lookup.identity_of, Lookup.path_of_world, Lookup.world_at, Names.path_in, Weight.exported_weight, Weight.unit_of, Weight.world_package_weight, Weight.world_weight}
use Rattle.wit_model.specs.declared.model.{Resolve.Resolve, World.World, StringEncoding.StringEncoding}
use Rattle.comp_bytes.specs.{Raw.Declarations, Raw.TopType, Parts.Part, Parts.fits_component}
use Rattle.encode_exports.specs.ExportedParts.{one_exported}
use Rattle.encode_types.specs.Room.{limit}
use Rattle.wit_encode.specs.{PackageRoom.IsHeavyWorld, PackageRoom.part_extent, PackageRoom.parts_extent, Packages.WrapsWorld}
use Rattle.wit_encode.proofs.{Lengths.long-component, PackageRoom.extent-is, PackageRoom.one-short, PackageRoom.type-extent, PackageRoom.wrapper-short}
use Rattle.wit_metadata.specs.Carried.{HasHome, encoding_part}

-- the custom section in front
says-extent : (e : StringEncoding) → part_extent (encoding_part e) ≡ 35
says-extent e = refl

-- it fits by itself
pub says-fits : (e : StringEncoding) (n : ℕ) → fits_component (encoding_part e ∷ []) ≡ false → limit < n
says-fits e n h = search (std_rules, long-component, sum_by-cons, says-extent)

module _ (r : Resolve) (n : ℕ) (w : World) (there : world_at r n ≡ Some w) (home : HasHome r w) where
  abbrev path : Text
  path = path_in (identity_of home.package_.name) (text_of w.name)

  path-is : path_of_world r w ≡ Some path
  path-is = search std_rules

  one-text : (t : Text) → unit_of (t ∷ []) ≡ 64 + length t
  one-text t = let one = sum_by-cons length t [] in omega arith

  weight-is : world_package_weight r n ≡ 64 + exported_weight (text_of w.name) (64 + (unit_of (path ∷ []) + world_weight r n))
  unfolding world_package_weight
  weight-is = search std_rules

  -- a world that is too heavy with its path
  pub heavy-world : IsHeavyWorld r (identity_of home.package_.name) n → limit < world_package_weight r n
  heavy-world h = search (std_rules, weight-is, one-text)

  module _ (e : StringEncoding) (ds : Declarations) (canonical : Bool) (wraps : WrapsWorld r canonical (identity_of home.package_.name) n w ds) where
    short : parts_extent (encoding_part e ∷ one_exported 0 (text_of w.name, ds)) + 8 ≤ world_package_weight r n
    short =
        let front = sum_by-cons part_extent (encoding_part e) (one_exported 0 (text_of w.name, ds)) in
        let here = says-extent e in
        let rest = one-short 0 (text_of w.name, ds) in
        let wrapped = wrapper-short path wraps.inner in
        let is : type-extent (text_of w.name, ds) ≡ type-extent (text_of w.name, Rattle.encode_shown.specs.PackageTypes.wrapper path wraps.inner) =
        ap (λ (x : Declarations). type-extent (text_of w.name, x)) wraps.is in
        let inner = extent-is wraps.inner in
        let light = wraps.light in
        let whole = weight-is in
        let text = one-text path in
        let name = one-text (text_of w.name) in
        omega (arith, front, here, rest, wrapped, is, inner, light, whole, text, name)

    -- the type has no room, or its export has none
    pub long-export : (fits_component (encoding_part e ∷ Part.top_type (TopType.component ds) ∷ []) && fits_component (encoding_part e ∷ one_exported 0 (text_of w.name, ds))) ≡ false
        → limit < world_package_weight r n
    long-export h = go (either-false _ _ h)
      where
        go : (fits_component (encoding_part e ∷ Part.top_type (TopType.component ds) ∷ []) ≡ false) ⊎ (fits_component (encoding_part e ∷ one_exported 0 (text_of w.name, ds)) ≡ false)
            → limit < world_package_weight r n
        go (inl first) =
            let long = long-component (encoding_part e ∷ Part.top_type (TopType.component ds) ∷ []) first in
            let both = sum_by-append part_extent (encoding_part e ∷ Part.top_type (TopType.component ds) ∷ []) (Part.top_export (Rattle.comp_bytes.specs.Parts.plain_export (text_of w.name) 0) ∷ []) in
            let all = short in
            omega (arith, long, both, all)
        go (inr second) =
            let long = long-component (encoding_part e ∷ one_exported 0 (text_of w.name, ds)) second in
            let all = short in
            omega (arith, long, all)

    pub long-whole : fits_component (encoding_part e ∷ one_exported 0 (text_of w.name, ds)) ≡ false → limit < world_package_weight r n
    long-whole h =
        let long = long-component (encoding_part e ∷ one_exported 0 (text_of w.name, ds)) h in
        let all = short in
        omega (arith, long, all)
