-- Keys that are looked up by number.
use Rattle.std.proofs.Common.{rules as std_rules, ◌≡◌, ℕ, List, map, Option, option_map, slice_get}
use Rattle.std.specs.Borrow.{Bor}
use Rattle.read_follow.proofs.SlotLaws.{mapped_none}
use Rattle.base_lemmas.proofs.Lists.{mapped_get}

pub looked_up : {A B : Type 0} (f : A → B) (xs : List A) (n : ℕ) (r : Option (Bor A)) → option_map (λ k. k.now) r ≡ slice_get xs n → option_map (λ k. f k.now) r ≡ slice_get (map f xs) n
looked_up f xs n x e = search (std_rules, mapped_none, mapped_get)
