-- Keys of a table that are looked for.
use Rattle.std.proofs.Common.{◌≡◌, refl, sym, ap, ℕ, Bool, true, ◌&&◌, ◌++◌, Option, None, Some, nat_eq}
use mathlib.Core.Bool.{true≢false}
use Rattle.std.specs.{Cmp.first_so, Cmp.second_so, Option.option_eq}
use Rattle.std.specs.Hash as fed
use Rattle.std.proofs.lemmas.{Bool.eqb-true, Slice.Eq.bytes_eq-Decides}
use Rattle.wit_model.specs.Text.{text_eq, text_of}
use Rattle.bind_keys.specs.declared.table.{Key.Key, Place.Place}
use Rattle.bind_keys.specs.contracts.table.KeyPartialEq.TheImpl as equality
use Rattle.bind_keys.specs.contracts.table.KeyHash.TheImpl as key_hash
use Rattle.bind_keys.specs.contracts.table.PlaceHash.TheImpl as place_hash

-- whether a place is that of a key
abbrev pub makes_key : Place → Key → Bool
makes_key place key = option_eq nat_eq place.front key.front && text_eq place.name.now (text_of key.name)

module _ (p : Place) (k : Key) (h : makes_key p k ≡ true) where
  front_is : p.front ≡ k.front
  front_is = by p.front k.front (first_so (option_eq nat_eq p.front k.front) (text_eq p.name.now (text_of k.name)) h)
    where
      by : (a b : Option ℕ) → option_eq nat_eq a b ≡ true → a ≡ b
      by None None same = refl
      by None (Some j) same = absurd (true≢false (sym same))
      by (Some i) None same = absurd (true≢false (sym same))
      by (Some i) (Some j) same = ap Some (eqb-true i j same)

  name_is : p.name.now ≡ text_of k.name
  name_is = (bytes_eq-Decides p.name.now (text_of k.name)).0 (second_so (option_eq nat_eq p.front k.front) (text_eq p.name.now (text_of k.name)) h)

  pub makes_alike : place_hash.ghosts.hash_input p ≡ key_hash.ghosts.hash_input k
  makes_alike i = fed.option fed.usize (front_is i) ++ fed.str (name_is i)

  pub makes_same : (y : Key) → makes_key p y ≡ equality.ghosts.eq k y
  makes_same y i = option_eq nat_eq (front_is i) y.front && text_eq (name_is i) (text_of y.name)
