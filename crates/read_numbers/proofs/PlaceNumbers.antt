-- Paths and instances by number.
use Rattle.std.proofs.Common.{◌≡◌, sym, ap, ℕ, zero, suc, ◌<◌, arith, List, [], ◌∷◌, map, length, get_or, Option, Some, None, slice_get, unwrap_or}
use Rattle.wit_model.specs.Text.{Text}
use Rattle.plan_meaning.specs.NumberedViews.{NumberedView}
use Rattle.read_follow.specs.declared.scopes.Instance.{Instance}
use Rattle.read_numbers.specs.NumberedParts.{instance_view, no_view, numbered_instance}

pub path_here : (paths : List (Option Text)) (n : ℕ) (o : Option Text) → n < length paths → o ≡ unwrap_or (slice_get paths n) None → slice_get paths n ≡ Some o
path_here [] n o h e = absurd (omega (arith, h))
path_here (p ∷ paths) zero o h e = ap Some (sym e)
path_here (p ∷ paths) (suc n) o h e = path_here paths n o (omega (arith, h)) e

pub instance_here : (is : List Instance) (n : ℕ) (x d : Instance) → n < length is → x ≡ get_or is n d → (v : NumberedView) → v ≡ unwrap_or (slice_get (map instance_view is) n) no_view
    → slice_get (map numbered_instance is) n ≡ Some (record { place = x.place; view = v })
instance_here [] n x d h e v same = absurd (omega (arith, h))
instance_here (y ∷ is) zero x d h e v same = λ i. Some (record { place = ap (λ (z : Instance). z.place) (sym e) i; view = sym same i })
instance_here (y ∷ is) (suc n) x d h e v same = instance_here is n x d (omega (arith, h)) e v same
