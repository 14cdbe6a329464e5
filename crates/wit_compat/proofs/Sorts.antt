-- Places of two sorts have different senses.
use Rattle.std.proofs.Common.{rules, ◌≡◌, refl, sym, ◌∙◌, ap, ℕ, true, is_some, false, ◌==◌, ◌↔◌, IsTrue, Option, Some, None, option_map}
use Rattle.wit_model.specs.declared.model.Resolve.{Resolve}
use Rattle.compat_meaning.specs.declared.place.Place.{Place}
use Rattle.compat_meaning.specs.Senses.{Sense, of_interface, of_world, of_import, sense_of}
use Rattle.compat_meaning.specs.declared.place.Place.TheVariants as place

abbrev sort : Sense → ℕ
sort (of_interface _) = 0
sort (of_world _) = 1
sort (of_import _) = 2

abbrev pub place_sort : Place → ℕ
place_sort (place.Interface _) = 0
place_sort (place.World _) = 1
place_sort (place.Import _ _) = 2

mapped : {X : Type 0} (f : X → Sense) (n : ℕ) → ((x : X) → sort (f x) ≡ n) → (o : Option X) → is_some (option_map f o) ≡ true → option_map sort (option_map f o) ≡ Some n
mapped f n each (Some x) some = ap Some (each x)
mapped f n each None some = search rules

sense_sort : (r : Resolve) (at : Place) → is_some (sense_of r at) ≡ true → option_map sort (sense_of r at) ≡ Some (place_sort at)
sense_sort r (place.Interface id) = mapped _ 0 (λ x. refl) _
sense_sort r (place.World id) = mapped _ 1 (λ x. refl) _
sense_sort r (place.Import id n) = mapped _ 2 (λ x. refl) _

-- so a comparison of two of different sorts may answer that they differ
pub other_sort : (r s : Resolve) {at other a b : Place} → is_some (sense_of r at) ≡ true → is_some (sense_of s other) ≡ true → at ≡ a → other ≡ b → (place_sort a == place_sort b) ≡ false
    → IsTrue false ↔ (sense_of r at ≡ sense_of s other)
other_sort r s {at} {other} {a} {b} some there is is-other apart = (
  (λ no. absurd (let wrong : ⊥ = cc in wrong)),
  (λ same.
      let sorts : Some (place_sort a) ≡ Some (place_sort b) =
      sym (ap (λ p. Some (place_sort p)) is) ∙ sym (sense_sort r at some) ∙ ap (option_map sort) same ∙ sense_sort s other there ∙ ap (λ p. Some (place_sort p)) is-other in
      absurd (search (sorts, apart, rules))),
)
