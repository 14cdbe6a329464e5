-- What a path is, by the package of the interface that it leads to.
use Rattle.std.proofs.Common.{rules as std_rules, ◌≡◌, refl, sym, ap, subst, ℕ, true, false, ◌==◌, [], Some, ◌≢◌, get_or}
use Rattle.std.proofs.lemmas.{Bool.ltb-true, Bool.ne_eqb, Option.slice_get_read}
use Rattle.std.specs.{Option.option_map_or}
use Rattle.wit_model.specs.declared.model.{Resolve.Resolve, Package.Package, PackageId.PackageId, Interface.Interface, InterfaceId.InterfaceId}
use Rattle.wit_model.specs.Lookup.{interface_at, package_at}
use Rattle.wit_model.specs.{Rules.in_list, Rules.package_number, Rules.passes, Valid.IsValid, Valid.is_place, Valid.numbers_in_range}
use Rattle.wit_model.proofs.OnePath.{interface-passes}
use Rattle.print_items.specs.Shown.{full_path, path_from, present_name, shown_path}
use Rattle.print_grammar.specs.{WellNamed.is_well_path, Tree.PathTree.Local}
use Rattle.base_lemmas.proofs.Bools.{left_of, right_of}

module _ (r : Resolve) (here : PackageId) (i : Interface) where
  pub own_path : (p : PackageId) → i.«package» ≡ Some p → (p.0 == here.0) ≡ true → path_from r here i ≡ Local (present_name i.name)
  own_path p e same = search std_rules

  pub other_path : (p : PackageId) (x : Package) → i.«package» ≡ Some p → (p.0 == here.0) ≡ false → package_at r p.0 ≡ Some x → path_from r here i ≡ full_path (present_name i.name) x
  other_path p x e differ at = search std_rules

-- the package of an interface is there
pub placed_at : (r : Resolve) (n : ℕ) (i : Interface) → IsValid r → interface_at r n ≡ Some i → passes (in_list r.packages.items) (package_number i.«package») ≡ true
unfolding numbers_in_range
placed_at r n i v e = left_of _ _ (right_of (is_place n) _ (interface-passes numbers_in_range r v.rules.numbers_in_range n i e))

-- a path to the interface of a number
pub path_at : (r : Resolve) (here : PackageId) (id : InterfaceId) (i : Interface) → interface_at r id.0 ≡ Some i → path_from r here i ≡ shown_path r here id
path_at r here id i e = sym (ap (λ o. option_map_or (path_from r here) o (Local [])) e)

-- what is read at a number of another package
module _ (r : Resolve) (here : PackageId) (i : Interface) (p : PackageId) (x : Package) (placed : passes (in_list r.packages.items) (package_number i.«package») ≡ true) (given : i.«package» ≡ Some p) (other : p.0 ≢ here.0) (read : x ≡ get_or r.packages.items p.0 x) where
  there : package_at r p.0 ≡ Some x
  there = slice_get_read _ _ _ _ refl (ltb-true _ _ (subst (λ o. passes (in_list r.packages.items) (package_number o) ≡ true) given placed)) read

  pub full_path_at : path_from r here i ≡ full_path (present_name i.name) x
  full_path_at = other_path r here i p x given (ne_eqb p.0 here.0 other) there

  pub full_path_well : is_well_path (path_from r here i) ≡ true → is_well_path (full_path (present_name i.name) x) ≡ true
  full_path_well h = subst (λ t. is_well_path t ≡ true) full_path_at h
