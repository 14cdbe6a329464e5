-- What holds of each entry that a walk has seen.
use Rattle.std.proofs.Common.{rules as std_rules, ◌≡◌, refl, sym, ap, ◌∙◌, ℕ, ◌+◌, ◌<◌, ◌≤◌, List, Some, length, get_or, slice_get, arith}
use Rattle.std.proofs.lemmas.Option.{slice_get_read, slice_get_within}
use Rattle.std.specs.Prelude.{string_eq}
use Rattle.indexmap.specs.IndexMap.{IsUnique}
use Rattle.wit_model.specs.declared.model.{Interface.Interface, Package.Package, World.World}
use Rattle.wit_model.specs.Valid.{key_eq}

abbrev pub InterfaceKeys : Interface → Type 0
InterfaceKeys x = IsUnique string_eq x.types × IsUnique string_eq x.functions

abbrev pub PackageKeys : Package → Type 0
PackageKeys x = IsUnique string_eq x.interfaces × IsUnique string_eq x.worlds

abbrev pub WorldKeys : World → Type 0
WorldKeys x = IsUnique key_eq x.imports × IsUnique key_eq x.exports

module _ {A : Type 0} (P : A → Type 0) (xs : List A) where
  abbrev pub Seen : ℕ → Type 0
  Seen i = (n : ℕ) (y : A) → n < i → slice_get xs n ≡ Some y → P y

  one_more : (i : ℕ) (x : A) → Seen i → slice_get xs i ≡ Some x → P x → Seen (i + 1)
  one_more i x before at here n y below is = search std_rules

  -- one more
  pub seen_more : (ys : List A) → ys ≡ xs → (i : ℕ) (x : A) → Seen i → i < length ys → x ≡ get_or ys i x → P x → Seen (i + 1)
  seen_more ys same i x before within is = one_more i x before (ap (λ zs. slice_get zs i) (sym same) ∙ slice_get_read ys _ i x refl within is)

  -- all
  pub seen_all : (i : ℕ) → length xs ≤ i → Seen i → (n : ℕ) (y : A) → slice_get xs n ≡ Some y → P y
  seen_all i past before n y is = let within : n < length xs = slice_get_within xs n y is in let below : n < i = omega arith in before n y below is
