-- What stands in a list that was mapped or filtered.
use Rattle.std.proofs.Common.{◌≡◌, Bool, true, List, filter}
use Rattle.std.specs.List.{Contains}
use Rattle.base_lemmas.proofs.Elements.{filter_keeps, filter_kept}

pub contains-filter : {X : Type 0} (p : X → Bool) (xs : List X) (x : X) → p x ≡ true → Contains xs x → Contains (filter p xs) x
contains-filter p xs x h c = filter_keeps p xs x c h

pub from-filter : {X : Type 0} (p : X → Bool) (xs : List X) (x : X) → Contains (filter p xs) x → Contains xs x
from-filter p xs x c = (filter_kept p xs x c).0
