-- How often worlds show an interface, and in which package.
use Rattle.std.specs.Prelude.{◌≡◌, ℕ, zero, suc, ◌<◌, Bool, true, false, not, ◌&&◌, ◌||◌, ◌==◌, List, [], ◌∷◌, length, sum_by, Option, option_and_then, unwrap_or, slice_get}
use Rattle.std.specs.{List.list_all, Option.option_eq, Option.option_map_or}
use Rattle.check_rules.specs.declared.shown.Shown.{Shown}
use Rattle.wit_model.specs.declared.model.{PackageId.PackageId, Resolve.Resolve, World.World}
use Rattle.wit_model.specs.{Lookup.package_at, Rules.interface_is_listed, Rules.is_world_name, Rules.package_number, Rules.times_shown, Text.Text}
use Rattle.check_rules.specs.declared.shown.Shown.TheVariants as shown

-- what is said of so many times in worlds of one package
abbrev pub times : ℕ → Option PackageId → Shown
times zero home = shown.Never
times (suc zero) home = shown.Once home
times (suc (suc n)) home = shown.Often

abbrev pub time : Bool → Option PackageId → Shown
time true home = shown.Once home
time false home = shown.Never

-- both together
abbrev pub joined : Shown → Shown → Shown
joined shown.Never b = b
joined (shown.Once home) shown.Never = shown.Once home
joined (shown.Once home) (shown.Once other) = shown.Often
joined (shown.Once home) shown.Often = shown.Often
joined shown.Often b = shown.Often

-- what the worlds together show of an interface
abbrev pub shown_by_all : ℕ → List World → Shown
shown_by_all n [] = shown.Never
shown_by_all n (w ∷ ws) = joined (times (times_shown n w) w.package) (shown_by_all n ws)

-- whether it is shown once, in this package
abbrev pub is_once_in : Option PackageId → Shown → Bool
is_once_in p (shown.Once home) = option_eq ◌==◌ (package_number home) (package_number p)
is_once_in p _ = false

-- whether an interface is the item of one key of one world, which has this package
abbrev pub is_inline_in : List World → ℕ → Option PackageId → Bool
is_inline_in ws n p = (sum_by (times_shown n) ws == 1) && list_all
    (λ w. (times_shown n w == 0) || option_eq ◌==◌ (package_number w.package) (package_number p)) ws

-- the entry of a table, and nothing past its end
abbrev pub shown_entry : List Shown → ℕ → Shown
shown_entry table n = unwrap_or (slice_get table n) shown.Never

-- the table says of each interface and package whether it is shown once, in that package
abbrev pub IsShownTable : Resolve → List Shown → Type 0
IsShownTable r table = (n : ℕ) → n < length r.interfaces.items → (p : Option PackageId) → is_once_in p (shown_entry table n) ≡ is_inline_in r.worlds.items n p

-- whether a named interface stands in the map of its package, and no world stands there under its name; true of one with no package
abbrev pub stands_in_map : Resolve → ℕ → Text → Option PackageId → Bool
stands_in_map r n name home = option_map_or (λ p. interface_is_listed n name p && not (is_world_name p name))
    (option_and_then (package_at r) (package_number home)) true
