-- What an interface that stands means.
use Rattle.wit_model.specs.Meant as meant
use Rattle.std.proofs.Common.{Some, ap, ℕ, ◌≡◌}
use Rattle.std.specs.Option.{option_map_or}
use Rattle.wit_model.specs.{Lookup.interface_at, Meant.interface_meaning_at, Meant.no_interface}
use Rattle.wit_model.specs.declared.model.{Interface.Interface, Resolve.Resolve}

pub meaning_there : (r : Resolve) (n : ℕ) (i : Interface) → interface_at r n ≡ Some i → interface_meaning_at r n ≡ meant.interface_meaning r i
meaning_there r n i e = ap (λ o. option_map_or (meant.interface_meaning r) o no_interface) e
