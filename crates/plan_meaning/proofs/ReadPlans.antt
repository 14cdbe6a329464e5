-- All that a plan is asked for holds of one that is read.
use Rattle.std.proofs.{Common.◌≡◌, Common.◌≤◌, Common.◌<◌, Common.ℕ, Common.arith, Common.true, Common.length, Common.rules, lemmas.Bool.le-leb}
use Rattle.std.specs.Prelude.{nat_le}
use Rattle.plan_meaning.specs.ReadPlans.{ReadPlanStands}
use Rattle.plan_meaning.proofs.{KeptOwners.kept_owners_stand, ReadOrder.read_order_passes, ReadPlaces.read_places_pass, ReadWorlds.read_worlds_pass}
use Rattle.plan_meaning.proofs.{KeptResources.kept_resources_stand, ReadFunctions.read_functions_pass, ReadInterfaces.read_interfaces_pass}
use Rattle.plan_meaning.proofs.KeptTypes.{kept_types_pass}

no_longer : (n bytes : ℕ) → n ≤ bytes → bytes < 4294967296 → nat_le n 4294967295 ≡ true
no_longer n bytes few less = le-leb n 4294967295 (omega (arith, few, less))

pub read_plan_stands : ReadPlanStands
read_plan_stands t tables h homes kept p b views is =
    let types = (kept_types_pass t tables kept p is.types).1 in
    let resources = kept_resources_stand t tables kept p is.types b.marks is.resources in
    let owners = kept_owners_stand t tables kept p is.types b.owners is.owners in
    let functions = read_functions_pass t tables kept p is.types b is.resources is.owners is.functions in
    let interfaces = read_interfaces_pass t tables kept p is.types b is.owners (λ m i e. (is.order.interfaces m i e).read) in
    let places = read_places_pass t tables h homes p b.owners is.places in
    let worlds = read_worlds_pass t tables kept p is.types b is.owners views is.order.worlds in
    let order = read_order_passes t tables kept p is.types b is.owners views is.order in
    let packages_fit = no_longer (length p.packages) is.fits.bytes is.fits.packages is.fits.counted in
    let interfaces_fit = no_longer (length p.interfaces) is.fits.bytes is.fits.interfaces is.fits.counted in
    let worlds_fit = no_longer (length p.worlds) is.fits.bytes is.fits.worlds is.fits.counted in
    let types_fit = no_longer (length p.types) is.fits.bytes is.fits.types is.fits.counted in
    search rules
