-- What interfaces are called.
use Rattle.std.proofs.Common.{rules as std_rules, ◌≡◌, refl, ap, flat_map, get_or, append-nil, ◌∙◌, ℕ, zero, suc, ◌+◌, ◌<◌, Bool, cond, List, [], ◌∷◌, ◌++◌, take, length, arith, Option, Some}
use Rattle.std.proofs.lemmas.{List.take_more, List.Concat.flat_map-append}
use Rattle.std.specs.Option.{option_or}
use Rattle.wit_model.specs.declared.model.{Resolve.Resolve, Interface.Interface, WorldKey.WorldKey, WorldItem.WorldItem, World.World}
use Rattle.compat_meaning.specs.{Opened.entries_of_world, Opened.interface_name, Opened.is_item_of, Opened.label_among, Opened.label_of_key, Outline.names_from}

chosen : {X : Type 0} (b : Bool) (x : X) (o p : Option X) → cond b (Some x) (option_or o p) ≡ option_or (cond b (Some x) o) p
chosen x y o p = search std_rules

-- the label in two lists is that in the first, or else in the second
pub label_in_two : (n : ℕ) (xs ys : List (WorldKey × WorldItem)) → label_among n (xs ++ ys) ≡ option_or (label_among n xs) (label_among n ys)
label_in_two n [] ys = refl
label_in_two n (e ∷ es) ys = ap (cond (is_item_of n e.1) (Some (label_of_key e.0))) (label_in_two n es ys) ∙ chosen (is_item_of n e.1) (label_of_key e.0) (label_among n es) (label_among n ys)

-- one name more
pub names_more : (r : Resolve) (k : ℕ) (is : List Interface) (n : ℕ) → n < length is → names_from r k (take (suc n) is) ≡ names_from r k (take n is) ++ interface_name r (k + n) ∷ []
names_more r k [] n h = absurd (omega (arith, h))
names_more r k (i ∷ is) zero h = ap (λ m. interface_name r m ∷ []) (omega arith)
names_more r k (i ∷ is) (suc n) h = search (std_rules, names_more r (k + 1) is n (omega (arith, h)))

pub or_assoc : {X : Type 0} (a b c : Option X) → option_or (option_or a b) c ≡ option_or a (option_or b c)
or_assoc x b c = search std_rules

-- the entries of one world more
pub worlds_more : (ws : List World) (i : ℕ) (w : World) → i < length ws → w ≡ get_or ws i w → flat_map entries_of_world (take (i + 1) ws) ≡ flat_map entries_of_world (take i ws) ++ entries_of_world w
worlds_more ws i w lt is = search (std_rules, take_more ws i w lt, flat_map-append entries_of_world (take i ws) (w ∷ []), append-nil (entries_of_world w))
