-- What is added under new keys comes behind what was there.
use Rattle.std.proofs.Common.{rules as std_rules, ◌≡◌, refl, sym, ap, ◌∙◌, ◌⊎◌, inl, inr, arith, ℕ, zero, suc, ◌<◌, List, [], ◌∷◌, Some, slice_get}
use Rattle.std.proofs.lemmas.{Bool.cases_order, List.append-nil, Option.same_Some as same-some}
use Rattle.std.specs.Prelude.{◌≢◌}
use Rattle.wit_model.specs.declared.model.{Package.Package, Resolve.Resolve, World.World}
use Rattle.wit_model.specs.Lookup.{package_at, world_at}
use Rattle.bind_add.specs.declared.added.{Added.Added, Names.Names}
use Rattle.wit_bind.specs.declared.{bindgen.Bindgen.Bindgen, metadata.ModuleMetadata.ModuleMetadata}
use Rattle.bind_carry.specs.Apart.{IsApart}
use Rattle.bind_carry.proofs.FirstOfUnion.{set_at}
use Rattle.wit_bind.specs.{Apart.GrownExtend, Extends.IsGrownPackage, Extends.IsGrownWorld, Merges.IsGrownBy}
use Rattle.base_lemmas.proofs.Lists.{front_at as front, set_there as put-elsewhere, within_there as element_at}
use Rattle.bind_add.specs.Growth as growth

-- ---- packages

record IsGain (ns : List Names) (k : ℕ) : Type 0 where
  place : ℕ
  names : Names
  at_place : slice_get ns place ≡ Some names
  number : names.«package».0 ≡ k

gain-or-none : (ns : List Names) (k : ℕ) → IsGain ns k ⊎ growth.GainsNone ns k
gain-or-none [] k = inr (λ i n at. let wrong : ⊥ = cc in absurd wrong)
gain-or-none (g ∷ gs) k = by (cases_order g.«package».0 k) (gain-or-none gs k)
  where
    none : g.«package».0 ≢ k → growth.GainsNone gs k → growth.GainsNone (g ∷ gs) k
    none ne later zero n at = λ same. ne (ap (λ (x : Names). x.«package».0) (same-some g n at) ∙ same)
    none ne later (suc i) n at = later i n at

    rest : g.«package».0 ≢ k → IsGain gs k ⊎ growth.GainsNone gs k → IsGain (g ∷ gs) k ⊎ growth.GainsNone (g ∷ gs) k
    rest ne (inl x) = inl (record { place = suc x.place; names = x.names; at_place = x.at_place; number = x.number })
    rest ne (inr later) = inr (none ne later)

    by : (g.«package».0 ≡ k) ⊎ ((g.«package».0 < k) ⊎ (k < g.«package».0)) → IsGain gs k ⊎ growth.GainsNone gs k → IsGain (g ∷ gs) k ⊎ growth.GainsNone (g ∷ gs) k
    by (inl same) later = inl (record { place = zero; names = g; at_place = refl; number = same })
    by (inr (inl less)) later = rest (λ same. omega (arith, less, same)) later
    by (inr (inr more)) later = rest (λ same. omega (arith, more, same)) later

module _ (added : Added) (metadata : ModuleMetadata) (old new : Bindgen) (apart : IsApart added old.resolve old.world.0) (g : IsGrownBy added metadata old new) where
  abbrev o : Resolve
  o = old.resolve

  grown : (n : ℕ) (p : Package) → package_at o n ≡ Some p → (q : Package) × ((slice_get g.all_added.packages.0 n ≡ Some q) × IsGrownPackage p q)
  grown n p at = by g.all_added.packages.1 (gain-or-none added.names.items n)
    where
      by : growth.HaveGained added.names.items o.packages.items g.all_added.packages.0 → IsGain added.names.items n ⊎ growth.GainsNone added.names.items n
          → (q : Package) × ((slice_get g.all_added.packages.0 n ≡ Some q) × IsGrownPackage p q)
      by have (inl x) =
          let here : package_at o x.names.«package».0 ≡ Some p = ap (package_at o) x.number ∙ at in
          let r = have.gained x.place x.names p x.at_place here in (
            r.0,
            (
              ap (slice_get g.all_added.packages.0) (sym x.number) ∙ r.1,
              record {
                name = r.2.name;
                docs = r.2.docs;
                interfaces = (x.names.interfaces.entries, r.2.interfaces ∙ apart.interfaces x.place x.names p x.at_place here);
                worlds = (x.names.worlds.entries, r.2.worlds ∙ apart.worlds x.place x.names p x.at_place here);
              },
            ),
          )
      by have (inr none) =
          (p, (have.others n none ∙ at, record { name = refl; docs = refl; interfaces = ([], sym (append-nil p.interfaces.entries)); worlds = ([], sym (append-nil p.worlds.entries)) }))

  -- ---- worlds

  other-world : (b : World) → world_at o old.world.0 ≡ Some b → (n : ℕ) (w : World) → n ≢ old.world.0 → world_at o n ≡ Some w → world_at new.resolve n ≡ Some w
  other-world b bound n w ne at = search (std_rules, front, put-elsewhere)

  bound-world : (w : World) → world_at o old.world.0 ≡ Some w → (v : World) × (world_at new.resolve old.world.0 ≡ Some v) × IsGrownWorld w v
  bound-world w at =
      let h = g.all_added.worlds w at in (
        h.0,
        ap (λ (xs : List World). slice_get xs old.world.0) h.2 ∙ set_at o.worlds.items added.worlds.items old.world.0 w h.0 at,
        record {
          name = h.1.name;
          docs = h.1.docs;
          stability = h.1.stability;
          in_package = h.1.in_package;
          imports = (added.imports.entries, h.1.imports ∙ apart.imports w at);
          exports = (added.exports.entries, h.1.exports ∙ apart.exports w at);
        },
      )

  package-grown : (n : ℕ) (p : Package) → package_at o n ≡ Some p → (q : Package) × (package_at new.resolve n ≡ Some q) × IsGrownPackage p q
  package-grown n p at =
      let q = grown n p at in
      (q.0, ap (λ (xs : List Package). slice_get xs n) g.all_added.packages.2 ∙ front g.all_added.packages.0 added.packages.items n q.0 q.1.0, q.1.1)

pub grown_extend : GrownExtend
grown_extend added metadata old new inside apart g =
    let b = element_at old.resolve.worlds.items old.world.0 inside in
    record {
      packages = package-grown added metadata old new apart g;
      interfaces = (added.interfaces.items, g.all_added.interfaces);
      types = (added.types.items, g.all_added.types);
      other_worlds = other-world added metadata old new apart g b.0 b.1;
      bound_world = bound-world added metadata old new apart g;
    }
