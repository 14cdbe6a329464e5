-- The demo's package holds a world.
use Rattle.std.proofs.Common.{◌≡◌, ◌||◌, Bool, true, false, refl, sym, ap, ◌∙◌, List, [], ◌∷◌, codes, map, Some, option_map}
use Rattle.std.proofs.lemmas.Option.{same_Some as same-some}
use Rattle.std.specs.declared.alloc.Global.{Global}
use Rattle.std.specs.Prelude.{String}
use Rattle.comp_meaning.specs.Follow.{is_filled}
use Rattle.wit_component.specs.Packages.{HasMembers}
use Rattle.wit_model.specs.declared.model.{Package.Package, Resolve.Resolve, WorldId.WorldId}
use Rattle.wit_model.specs.Lookup.{package_at}
use Rattle.wit_model.specs.{Meaning.PackageMeaning, Meaning.WorldMeaning, Meant.Meant, Meant.package_meaning, Meant.world_meaning_at, Text.Text, Text.text_of}
use Rattle.witc_run.specs.Demo.{demo, foo}

-- a package that means the demo's holds a world
pub holds-world : (r : Resolve) (p : Package) → package_at r 0 ≡ Some p → Meant r 0 demo → HasMembers p
unfolding Meant
holds-world r p at means = go p.worlds.entries (ap (λ (m : PackageMeaning). m.worlds) (same-some (package_meaning r 0 p) demo (sym (ap (option_map (package_meaning r 0)) at) ∙ means)))
  where
    shown : String Global × WorldId → Text × WorldMeaning
    shown e = (text_of e.0, world_meaning_at r e.1.0)

    or-true : (b : Bool) → (b || true) ≡ true
    or-true true = refl
    or-true false = refl

    go : (es : List (String Global × WorldId)) → map shown es ≡ (codes "foo", foo) ∷ [] → (is_filled p.interfaces.entries || is_filled es) ≡ true
    go [] is = absurd (let z : ⊥ = cc in z)
    go (e ∷ es) is = or-true (is_filled p.interfaces.entries)
