-- Things and their keys: what an item shows is all under its key, and has its key's number.
use Rattle.std.proofs.Common.{rules as std_rules, ◌≡◌, ◌∙◌, refl, sym, ap, subst, ℕ, List, [], ◌++◌, map, Option, Some, None, String}
use Rattle.std.proofs.lemmas.List.{map-append}
use Rattle.std.specs.{List.Contains, Option.option_map_or}
use Rattle.std.specs.declared.alloc.Global.{Global}
use Rattle.wit_model.specs.declared.model.{Resolve.Resolve, Function.Function, Interface.Interface, TypeId.TypeId, WorldItem.WorldItem}
use Rattle.wit_model.specs.{Lookup.interface_at, Text.Text}
use Rattle.compat_meaning.specs.declared.part.Entry.{Entry}
use Rattle.compat_meaning.specs.Flat.{FlatName, Thing, interface, of_type, of_function, function_member, item_things, members, type_member}
use Rattle.compat_meaning.specs.Numbered.{BorrowedTexts, number_in, AreNumbered, KeepsNumbers}
use Rattle.compat_meaning.specs.Parts.{named_thing, numbered_thing, with_number}
use Rattle.compat_meaning.proofs.Either.{of_first, of_two}
use Rattle.base_lemmas.proofs.Elements.{contains-map as contains_mapped, last_of as contains_one, map_from as contains_map, none_in}
use Rattle.base_lemmas.proofs.Lists.{identity, map_of_map}
use Rattle.wit_model.specs.declared.model.WorldItem.TheVariants as item
use Rattle.wit_model.specs.declared.model.«Type».TheVariants as ty

-- what holds of each type and of each function of an interface holds of all its members
pub of_members : (P : FlatName × Thing → Type 0) (k : Text) (i : Interface) → ((e : String Global × TypeId) → Contains i.types.entries e → P (type_member k e))
    → ((e : String Global × Function) → Contains i.functions.entries e → P (function_member k e)) → (x : FlatName × Thing) → Contains (members k i) x → P x
of_members P k i f g x c = of_two (map (type_member k) i.types.entries) (map (function_member k) i.functions.entries) x
    (λ d. let w = contains_map (type_member k) i.types.entries x d in subst P w.2 (f w.0 w.1)) (λ d. let w = contains_map (function_member k) i.functions.entries x d in subst P w.2 (g w.0 w.1)) c

optional_key : (k : Text) (o : Option Interface) (x : FlatName × Thing) → Contains (option_map_or (members k) o []) x → x.0.0 ≡ k
optional_key k None x c = absurd (none_in x c)
optional_key k (Some i) x c = of_members (λ y. y.0.0 ≡ k) k i (λ e d. refl) (λ e d. refl) x c

-- what an item shows is under its key
pub item_key : (r : Resolve) (k : Text) (i : WorldItem) (x : FlatName × Thing) → Contains (item_things r k i) x → x.0.0 ≡ k
item_key r k (item.Function f) x c = sym (ap (λ (z : FlatName × Thing). z.0.0) (contains_one ((k, []), of_function f) x c))
item_key r k (item.Type_ id) x c = sym (ap (λ (z : FlatName × Thing). z.0.0) (contains_one ((k, []), of_type (ty.Id id)) x c))
item_key r k (item.Interface id stability docs external_id) x c = of_first ((k, []), interface) (option_map_or (members k) (interface_at r id.0) []) x
    (λ e. sym (ap (λ (z : FlatName × Thing). z.0.0) e))
    (optional_key k (interface_at r id.0) x) c

-- ---- things with their keys' numbers

abbrev Numbered : Type 0
Numbered = ℕ × (FlatName × Thing)

abbrev thing_in : Numbered → FlatName × Thing
thing_in y = y.1

things_in : (n : ℕ) (xs : List (FlatName × Thing)) → map thing_in (map (with_number n) xs) ≡ xs
things_in n xs = map_of_map thing_in (with_number n) xs ∙ identity xs

things_of_entries : (es : List Entry) → map thing_in (map numbered_thing es) ≡ map named_thing es
things_of_entries es = map_of_map thing_in numbered_thing es

-- more entries, all of one number
module _ (old new : List Entry) (n : ℕ) (xs : List (FlatName × Thing)) (h : map numbered_thing new ≡ map numbered_thing old ++ map (with_number n) xs) where
  pub things_more : map named_thing new ≡ map named_thing old ++ xs
  things_more = search (std_rules, things_of_entries, map-append, things_in)

  pub numbered_more : (ks js : BorrowedTexts) → KeepsNumbers ks js → AreNumbered ks old → ((x : FlatName × Thing) → Contains xs x → number_in js x.0.0 ≡ Some n) → AreNumbered js new
  numbered_more ks js kept before own e c = of_two (map numbered_thing old) (map (with_number n) xs) (numbered_thing e)
      (λ d. let w = contains_map numbered_thing old (numbered_thing e) d in has w.2 (kept w.0.key.text.now w.0.key.number (before w.0 w.1)))
      (λ d. let w = contains_map (with_number n) xs (numbered_thing e) d in has w.2 (own w.0 w.1)) (subst (λ ys. Contains ys (numbered_thing e)) h (contains_mapped numbered_thing new e c))
    where
      has : {y : Numbered} → y ≡ numbered_thing e → number_in js y.1.0.0 ≡ Some y.0 → number_in js e.key.text.now ≡ Some e.key.number
      has q m = subst (λ (y : Numbered). number_in js y.1.0.0 ≡ Some y.0) q m
