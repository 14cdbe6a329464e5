-- A component with a world's wrapper behind a custom section means the world.
use Rattle.std.proofs.Common.{rules as std_rules, ◌≡◌, ◌∙◌, refl, ap, subst, ℕ, Bool, List, [], ◌∷◌, ◌++◌, Some}
use Rattle.wit_model.specs.{Text.Text, Text.text_of, Lookup.identity_of, Lookup.world_at, Valid.IsValid}
use Rattle.wit_model.specs.declared.model.{PackageName.PackageName, Resolve.Resolve, StringEncoding.StringEncoding, World.World}
use Rattle.comp_bytes.specs.{Raw.Declarations, Parts.Part, Parts.sections_of_parts, Parts.top_slots, Spelling.IsComponent, Writing.component_bytes}
use Rattle.encode_exports.specs.ExportedParts.{one_exported}
use Rattle.encode_exports.proofs.Exports.{all_exported}
use Rattle.encode_shown.specs.PackageTypes.{IsWorldType}
use Rattle.encode_shown.proofs.{PackageTypes.world-bytes-mean, WorldMeans.world-label}
use Rattle.wit_encode.specs.Packages.{WrapsWorld}
use Rattle.wit_metadata.specs.Carried.{CarriesEncoding, CarriesWorld, HasHome, MeansWorld, encoding_part}
use Rattle.wit_metadata.specs.Encodings.{code_of, section_name}
use Rattle.wit_metadata.proofs.Homes.{home-is, world-home}

module _ (r : Resolve) (v : IsValid r) (n : ℕ) (w : World) (there : world_at r n ≡ Some w) (home : HasHome r w) (e : StringEncoding) (ds : Declarations) (canonical : Bool)
    (wraps : WrapsWorld r canonical (identity_of home.package_.name) n w ds) (bytes : List ℕ)
    (spelled : IsComponent (sections_of_parts (encoding_part e ∷ one_exported 0 (text_of w.name, ds))) bytes) where
  is-world : IsWorldType r home.package_ n (text_of w.name) (text_of w.name, ds)
  is-world = record { world = w; there = there; inner = wraps.inner; is = λ j. (text_of w.name, wraps.is j); scope = wraps.shows.scope; follows = wraps.shows.follows; shows = wraps.shows.shows }

  pub world-meant : MeansWorld r n bytes
  world-meant = world-bytes-mean r v n w home.package_ there (home-is r w home) (text_of w.name, ds) (sections_of_parts (encoding_part e ∷ one_exported 0 (text_of w.name, ds))) bytes is-world
      (all_exported ((text_of w.name, ds) ∷ []) (ap (λ b. Rattle.std.specs.Prelude.◌&&◌ b Rattle.std.specs.Prelude.true) (world-label r v n w there wraps.shows.scope wraps.shows.shows)) refl) spelled

  pub encoding-carried : CarriesEncoding e bytes
  encoding-carried = record { sections = sections_of_parts (encoding_part e ∷ one_exported 0 (text_of w.name, ds)); spelled = spelled; says = refl }

  pub world-carried : bytes ≡ component_bytes (sections_of_parts (encoding_part e ∷ one_exported 0 (text_of w.name, ds))) → CarriesWorld r canonical n e bytes
  world-carried are = record { world = w; there = there; home = home; declared = ds; wraps = wraps; are = are; spelled = spelled }

-- ---- what is built

-- the wrapper of a world, for the package that the world has
pub record IsWrapped (r : Resolve) (canonical : Bool) (n : ℕ) (w : World) (ds : Declarations) : Type 0 where
  pub home : HasHome r w
  pub wraps : WrapsWorld r canonical (identity_of home.package_.name) n w ds

pub wrapped-at : (r : Resolve) → IsValid r → (canonical : Bool) (n : ℕ) (w : World) (ds : Declarations) (p : PackageName) → world_at r n ≡ Some w
    → ((u : World) (home : HasHome r u) → world_at r n ≡ Some u → p ≡ home.package_.name)
    → ((u : World) → world_at r n ≡ Some u → WrapsWorld r canonical (identity_of p) n u ds) → IsWrapped r canonical n w ds
wrapped-at r v canonical n w ds p there named wraps =
    let home = world-home r v n w there in
    record { home = home; wraps = subst (λ (q : PackageName). WrapsWorld r canonical (identity_of q) n w ds) (named w home there) (wraps w there) }

-- the custom section, in a component with nothing else
pub said : (before after : List Part) (e : StringEncoding) (code : ℕ) → before ≡ [] → after ≡ before ++ Part.custom section_name (4 ∷ code ∷ []) ∷ [] → code ≡ code_of e → after ≡ encoding_part e ∷ []
said before after e code none is coded = is ∙ (ap (λ (ps : List Part). ps ++ Part.custom section_name (4 ∷ code ∷ []) ∷ []) none ∙ ap (λ (b : ℕ). Part.custom section_name (4 ∷ b ∷ []) ∷ []) coded)

-- and behind it the wrapper of the world, exported under its name
pub built : (before after : List Part) (e : StringEncoding) (label name : Text) (ds : Declarations) → before ≡ encoding_part e ∷ [] → label ≡ name
    → after ≡ before ++ one_exported (top_slots before) (label, ds) → after ≡ encoding_part e ∷ one_exported 0 (name, ds)
built before after e label name ds is same grown = search std_rules
