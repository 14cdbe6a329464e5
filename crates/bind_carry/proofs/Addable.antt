-- What own packages gain is of packages that there are, and of none twice.
use Rattle.base_lemmas.proofs.{Elements.all_by_number as all_of, Elements.zip_at_right as zip_at, Lists.mapped_get as mapped_at}
use Rattle.bind_add.specs.{Growth.AreOfDifferent, Growth.are_in_range, declared.added.Names.Names}
use Rattle.bind_carry.proofs.{CopiesPlaced.some_same, CopiesPlaced.uncopied_under, FirstOfUnion.IsFound, FirstOfUnion.found_number, FirstOfUnion.found_own, FirstOfUnion.unflagged_found, NamesGained.IsGrownOf, NamesGained.grown_of, NamesGained.rank}
use Rattle.bind_carry.specs.{First.flag_under, FirstPass.UnionsAreAddable, Numbers.numbers_of, Numbers.package_number, Packaged.IsGained, Packaged.grown_packages, declared.plan.Carried.Carried}
use Rattle.bind_copy.specs.Copies.{number_under}
use Rattle.bind_match.proofs.SameNames.{name_same}
use Rattle.bind_match.specs.Matching.{own_package_of}
use Rattle.std.proofs.Common.{List, Option, Some, ap, arith, is_none, length, map, nat_lt, slice_get, subst, sym, true, ℕ, ◌<◌, ◌∙◌, ◌≡◌}
use Rattle.std.proofs.lemmas.{Bool.lt-ltb, List.length-map, Option.slice_get_within as within_list}
use Rattle.std.specs.List.{AllZip}
use Rattle.wit_model.proofs.OnePath.{package-once}
use Rattle.wit_model.specs.{Rules.same_package_name, Valid.IsValid, declared.model.Package.Package, declared.model.PackageId.PackageId}
use Rattle.wit_model.specs.declared.model.Resolve.{Resolve}

module _ (own other : Resolve) (valid : IsValid other) (c : Carried) (ms : List (Option PackageId)) (matched : ms ≡ map (own_package_of own.packages.items) other.packages.items)
    (flags : c.new_packages.items ≡ map is_none ms) (numbers : c.packages.items ≡ numbers_of (length own.packages.items) c.new_packages.items (map package_number ms)) (gs : List Names)
    (zip : AllZip (IsGained c) (grown_packages c.new_packages.items c.packages.items other.packages.items) gs) where
  -- what gains is an own package of the name
  record IsOwnGain (i : ℕ) (g : Names) : Type 0 where
    old : ℕ × Package
    gain : IsGrownOf c.new_packages.items c.packages.items other.packages.items i old
    found : IsFound old.1.name own.packages.items g.«package».0

  own_gain : (i : ℕ) (g : Names) → slice_get gs i ≡ Some g → IsOwnGain i g
  own_gain i g at =
      let e = zip_at (IsGained c) (grown_packages c.new_packages.items c.packages.items other.packages.items) gs zip i g at in
      let r = grown_of c.new_packages.items c.packages.items other.packages.items i e.0 e.1 in
      let inside : r.place < length ms = (let w = within_list other.packages.items r.place e.0.1 r.at_place in let q =
      ap length matched ∙ length-map other.packages.items (own_package_of own.packages.items) in omega (arith, w, q)) in
      let id = unflagged_found ms r.place inside (ap (λ l. flag_under l r.place) (sym flags) ∙ r.bare) in
      record {
        old = e.0;
        gain = r;
        found = subst (IsFound e.0.1.name own.packages.items)
            (sym (found_number ms r.place id.0 id.1) ∙ (sym (uncopied_under (length own.packages.items) c.new_packages.items (map package_number ms) r.place
            (ap length flags ∙ (length-map ms is_none ∙ sym (length-map ms package_number))) r.bare) ∙ (sym (ap (λ l. number_under l r.place) numbers) ∙ (r.number ∙ sym e.2.number))))
            (found_own own.packages.items e.0.1 id.0 (some_same _ _ (sym (mapped_at (own_package_of own.packages.items) other.packages.items r.place e.0.1 r.at_place)
            ∙ (ap (λ l. slice_get l r.place) (sym matched) ∙ id.1))));
      }

  pub gains_in_range : are_in_range (length own.packages.items) gs ≡ true
  gains_in_range = all_of (λ (n : Names). nat_lt n.«package».0 (length own.packages.items)) gs
      (λ i g at. let x = own_gain i g at in lt-ltb g.«package».0 (length own.packages.items) (within_list own.packages.items g.«package».0 x.found.there x.found.at_there))

  pub gains_different : AreOfDifferent gs
  gains_different i j a b at_a at_b same =
      let x = own_gain i a at_a in
      let y = own_gain j b at_b in
      x.gain.rank_is ∙ (ap (rank c.new_packages.items) (sym (package-once other valid x.gain.place y.gain.place x.old.1 y.old.1 x.gain.at_place y.gain.at_place
      (name_same x.old.1.name y.old.1.name x.found.there.name (ap (λ (p : Package). same_package_name y.old.1.name p.name)
      (some_same x.found.there y.found.there (sym x.found.at_there ∙ (ap (slice_get own.packages.items) same ∙ y.found.at_there))) ∙ y.found.same) ∙ x.found.same))) ∙ sym y.gain.rank_is)

-- What a union adds can be added.
pub unions_are_addable : UnionsAreAddable
unions_are_addable own other world other_world m w v added keys valid u inside by_name = grind (arith, gains_in_range, gains_different)
