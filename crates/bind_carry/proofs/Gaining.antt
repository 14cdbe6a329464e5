-- What packages gain, one after the other.
use Rattle.std.proofs.Common.{rules as std_rules, ◌≡◌, refl, sym, subst, ℕ, Bool, true, false, List, [], ◌∷◌, ◌++◌, append_assoc, append-nil}
use Rattle.std.specs.List.{AllZip}
use Rattle.wit_model.specs.declared.model.Package.{Package}
use Rattle.bind_add.specs.declared.added.Names.{Names}
use Rattle.bind_carry.specs.Packaged.{grown_packages, GainedSoFar, IsGained}
use Rattle.bind_carry.specs.declared.plan.Carried.{Carried}

module _ (c : Carried) (packages : List Package) where
  abbrev Whole : List Names → Type 0
  Whole done = AllZip (IsGained c) (grown_packages c.new_packages.items c.packages.items packages) done

  abbrev Left : List Bool → List ℕ → List Package → List Names → Type 0
  Left flags numbers ps later = AllZip (IsGained c) (grown_packages flags numbers ps) later

  -- a package that isn't new gains
  pub one_gained : (flags fs : List Bool) (numbers ns : List ℕ) (left ps : List Package) (n : ℕ) (p : Package) (g : Names) (done new : List Names) → flags ≡ false ∷ fs → numbers ≡ n ∷ ns
      → left ≡ p ∷ ps → IsGained c (n, p) g → new ≡ done ++ g ∷ [] → GainedSoFar c packages flags numbers left done → GainedSoFar c packages fs ns ps new
  one_gained flags fs numbers ns left ps n p g done new at_flag at_number at_package is added so later z = search (std_rules, append_assoc)

  -- a package of either kind
  pub one_passed : (flags fs : List Bool) (numbers ns : List ℕ) (left ps : List Package) (b : Bool) (n : ℕ) (p : Package) (done new : List Names) → flags ≡ b ∷ fs → numbers ≡ n ∷ ns → left ≡ p ∷ ps
      → (b ≡ true → new ≡ done) → (b ≡ false → (g : Names) × IsGained c (n, p) g × (new ≡ done ++ g ∷ [])) → GainedSoFar c packages flags numbers left done → GainedSoFar c packages fs ns ps new
  one_passed flags fs numbers ns left ps true n p done new at_flag at_number at_package brought grown so = search std_rules
  one_passed flags fs numbers ns left ps false n p done new at_flag at_number at_package brought grown so =
      let g = grown refl in
      one_gained flags fs numbers ns left ps n p g.0 done new at_flag at_number at_package g.1 g.2 so

  pub all_gained : (flags : List Bool) (numbers : List ℕ) (left : List Package) (done : List Names) → flags ≡ [] → GainedSoFar c packages flags numbers left done → Whole done
  all_gained flags numbers left done ended so = subst Whole (append-nil done) (so [] (subst (λ l. Left l numbers left []) (sym ended) tt))
