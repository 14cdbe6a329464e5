-- Each package that is merged is an own one to which nothing comes, or one of the other stands in it.
use Rattle.base_lemmas.proofs.{Elements.zip_at_right as zip_at, Lists.front_at, Lists.within_there}
use Rattle.bind_add.specs.{Growth.GainsNone, declared.added.Names.Names}
use Rattle.bind_carry.proofs.{CopiesPlaced.kept_from, Counting.carried_all, FirstNumbers.flag_within, FirstOfUnion.some_gains, NamesGained.grown_of}
use Rattle.bind_carry.specs.{First.first_fates, FirstPass.IsFirstPass, Numbers.package_number, Packaged.IsGained, Packaged.IsPackageCarried, Packaged.grown_packages, Renumbered.first_of, declared.plan.Carried.Carried}
use Rattle.bind_copy.specs.Copies.{number_under}
use Rattle.bind_match.specs.declared.matches.Matches.{Matches}
use Rattle.bind_union.specs.Merged.{IsKeptPackage, IsPackageOf}
use Rattle.std.proofs.Common.{List, Some, ap, arith, inl, inr, is_none, length, map, refl, slice_get, sym, ℕ, ◌+◌, ◌<◌, ◌∙◌, ◌≡◌, ◌⊎◌}
use Rattle.std.proofs.lemmas.{Bool.cases_lt as in_two, List.length-append, List.length-map}
use Rattle.std.specs.List.{AllZip}
use Rattle.wit_model.specs.{Lookup.package_at, declared.model.Package.Package, declared.model.Resolve.Resolve}

-- Gains are those of the other's packages that have an own one of their name.
pub package_from : (own other merged : Resolve) (m : Matches) (c : Carried) (numbers : List ℕ) (p : IsFirstPass own other merged m c numbers)
    → AllZip (IsGained c) (grown_packages c.new_packages.items c.packages.items other.packages.items) p.gains
    → (n : ℕ) → n < length merged.packages.items → IsKeptPackage own merged n ⊎ IsPackageOf other (first_of m.interfaces.items c (first_fates own other m.interfaces.items c) numbers) n
package_from own other merged m c numbers p names n high =
    let flags_many = ap length p.numbered.new_packages ∙ (length-map m.packages.items is_none ∙ p.all.packages) in
    elim (in_two n (length own.packages.items)) [
      | inl less ↦ (let q = within_there own.packages.items n less in old q.0 q.1 (some_gains p.gains n))
      | inr more ↦ (let r = kept_from (length own.packages.items) c.new_packages.items (map package_number m.packages.items) n
          (ap length p.numbered.new_packages ∙ (length-map m.packages.items is_none ∙ sym (length-map m.packages.items package_number))) more (omega (
            arith,
            high,
            (ap length p.packages_here ∙ (length-append p.grown p.new_packages ∙ ap (λ k. k + length p.new_packages) p.gained.count)),
            carried_all (IsPackageCarried c) c.new_packages.items other.packages.items p.new_packages flags_many p.packages,
          )) in
          let x = within_there other.packages.items r.0 (omega (arith, flag_within c.new_packages.items r.0 r.1, flags_many)) in
          inr (record { number = r.0; old = x.0; found = x.1; here = ap (λ l. number_under l r.0) p.numbered.packages ∙ r.2 }))
    ]
  where
    old : (q : Package) → package_at own n ≡ Some q → ((i : ℕ) × (g : Names) × (slice_get p.gains i ≡ Some g) × (g.«package».0 ≡ n)) ⊎ GainsNone p.gains n → IsKeptPackage own merged n
        ⊎ IsPackageOf other (first_of m.interfaces.items c (first_fates own other m.interfaces.items c) numbers) n
    old q at (inl found) =
        let x = zip_at (IsGained c) (grown_packages c.new_packages.items c.packages.items other.packages.items) p.gains names found.0 found.1 found.2 in
        let y = grown_of c.new_packages.items c.packages.items other.packages.items found.0 x.0 x.1 in
        inr (record { number = y.place; old = x.0.1; found = y.at_place; here = y.number ∙ (sym x.2.number ∙ found.3) })
    old q at (inr none) = inl (record {
      old = q;
      found = at;
      image = q;
      at_image = ap (λ l. slice_get l n) p.packages_here ∙ front_at p.grown p.new_packages n q (p.gained.others n none ∙ at);
      interfaces = refl;
      worlds = refl;
    })
