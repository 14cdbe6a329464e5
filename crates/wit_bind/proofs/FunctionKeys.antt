-- The entries of functions, listed, are exactly those of functions.
use Rattle.std.proofs.Common.{rules as std_rules, ◌≡◌, refl, sym, ap, subst, ◌∙◌, ◌⊎◌, inl, inr, ℕ, [], Option, Some, None, option_to_list, option_and_then, option_map, Result, IfOk}
use Rattle.std.proofs.lemmas.Option.{same_Some as same-some}
use Rattle.std.specs.{List.Contains, Option.option_map_or, FinMap.empty, FinMap.get-empty}
use Rattle.wit_model.specs.declared.model.{Resolve.Resolve, Interface.Interface, StringEncoding.StringEncoding, WorldItem.WorldItem, WorldKey.WorldKey}
use Rattle.wit_model.specs.{Text.Text, Text.text_cmp, Text.text_of, Lookup.interface_at, Uses.item_interface}
use Rattle.wit_model.proofs.Elements.{none-in, contains-flat, contains-filter_map}
use Rattle.bind_keys.{specs.Keys.text_under, specs.Keys.function_key, specs.Keys.unversioned_key, specs.Encodings.Encodings, specs.Encodings.encoding_at}
use Rattle.bind_keys.specs.Functions.{Items, IsFunctionKey, of_item, of_interface, MapsFunctions}
use Rattle.bind_keys.specs.KeyLists.{Choice, Entry, entries_of_item, entries_of_items, entry_of, member_entries, Puts}
use Rattle.wit_bind.specs.OldKeys.{IsFunctionOf, itself, member, CarriesOver}
use Rattle.bind_meaning.proofs.Listed.{from-flat, from-given}
use Rattle.wit_bind.proofs.Putting.{comes, holds}
use Rattle.base_lemmas.proofs.Elements.{contains-one}
use Rattle.wit_model.specs.declared.model.WorldItem.TheVariants as item
use Rattle.wit_model.specs.declared.model.WorldKey.TheVariants as key

-- ---- the entries of functions

-- the key and the encoding of an entry
pub entry_tells : (o : Option Text) (w : Option StringEncoding) (k : Text) (e : StringEncoding) → option_and_then {U = Entry} (λ q. option_map (λ f. (q, f)) w) o ≡ Some (k, e) → (o ≡ Some k)
    × (w ≡ Some e)
entry_tells y w k e h = search std_rules

pub told_entry : (o : Option Text) (w : Option StringEncoding) (k : Text) (e : StringEncoding) → o ≡ Some k → w ≡ Some e → option_and_then {U = Entry} (λ q. option_map (λ f. (q, f)) w) o ≡ Some (k, e)
told_entry o w k e key value = λ i. option_and_then {U = Entry} (λ q. option_map (λ f. (q, f)) (value i)) (key i)

module _ (r : Resolve) (w : Choice) (items : Items) where
  in_item : (x : Entry) (shown : WorldItem) (scope : WorldKey) (n : ℕ) (owner : Interface) → item_interface shown ≡ Some n → interface_at r n ≡ Some owner
      → Contains (member_entries r w scope owner.functions.entries) x → Contains (entries_of_item r w scope shown) x
  in_item x y scope n owner of at c = search std_rules

  -- the entry of each function is listed
  pub listed : (scope : WorldKey) (name : Text) (x : Entry) → IsFunctionOf r items scope name → entry_of r w scope name ≡ Some x → Contains (entries_of_items r w items) x
  listed scope name x (itself label f stands) is = contains-flat (λ e. entries_of_item r w e.0 e.1) items (key.Name label, item.Function f) x stands
      (subst (λ o. Contains (option_to_list o) x) (sym is) (contains-one x))
  listed scope name x (member above shown n owner label f stands of at has) is = contains-flat (λ e. entries_of_item r w e.0 e.1) items (scope, shown) x stands
      (in_item x shown scope n owner of at
      (contains-filter_map (λ e. entry_of r w scope (text_of e.0)) owner.functions.entries (label, f) x has
      (subst (λ o. Contains (option_to_list o) x) (sym is) (contains-one x))))

  abbrev Unlisted : Entry → Type 0
  Unlisted x = (scope : WorldKey) × ((name : Text) × (IsFunctionOf r items scope name × (entry_of r w scope name ≡ Some x)))

  of-members : (x : Entry) (scope : WorldKey) (shown : WorldItem) (n : ℕ) → item_interface shown ≡ Some n → Contains items (scope, shown) → (o : Option Interface) → interface_at r n ≡ o
      → Contains (option_map_or (λ i. member_entries r w scope i.functions.entries) o []) x → Unlisted x
  of-members x scope shown n of stands None at c = none-in x c
  of-members x scope shown n of stands (Some owner) at c =
      let e = from-given (λ f. entry_of r w scope (text_of f.0)) owner.functions.entries x c in
      (scope, (text_of e.0.0, (member scope shown n owner e.0.0 e.0.1 stands of at e.1.0, e.1.1)))

  given-one : (x : Entry) (o : Option Entry) → Contains (option_to_list o) x → o ≡ Some x
  given-one x z c = search std_rules

  of-one : (x : Entry) (scope : WorldKey) (shown : WorldItem) → Contains items (scope, shown) → Contains (entries_of_item r w scope shown) x → Unlisted x
  of-one x scope (item.Interface id stability docs external_id) stands c = of-members x scope (item.Interface id stability docs external_id) id.0 refl stands (interface_at r id.0) refl c
  of-one x (key.Name name) (item.Function f) stands c = (key.Name name, (text_of name, (itself name f stands, given-one x (entry_of r w (key.Name name) (text_of name)) c)))
  of-one x (key.Interface id) (item.Function f) stands c = none-in x c
  of-one x scope (item.Type_ id) stands c = none-in x c

  -- and nothing else is
  pub unlisted : (x : Entry) → Contains (entries_of_items r w items) x → Unlisted x
  unlisted x c =
      let e = from-flat (λ e. entries_of_item r w e.0 e.1) items x c in
      of-one x e.0.0 e.0.1 e.1.0 e.1.1

-- ---- a map to which they have been put

module _ (r : Resolve) (w : Choice) (items : Items) (m : Encodings) (puts : Puts (entries_of_items r w items) empty m) where
  -- under the key of each function that is to have an encoding stands one
  pub stands_for : (scope : WorldKey) (name k : Text) (e : StringEncoding) → IsFunctionOf r items scope name → function_key r scope name ≡ Some k → w scope name ≡ Some e → (f : StringEncoding)
      × (encoding_at m k ≡ Some f)
  stands_for scope name k e of is wants =
      let c = listed r w items scope name (k, e) of (told_entry (function_key r scope name) (w scope name) k e is wants) in
      let f = holds (entries_of_items r w items) (encoding_at empty) k e c in
      (f.0, puts k ∙ f.1)

  -- and nothing stands there but what a function of that key is to have
  pub stands_by : (k : Text) (e : StringEncoding) → encoding_at m k ≡ Some e → (scope : WorldKey)
      × ((name : Text) × (IsFunctionOf r items scope name × ((function_key r scope name ≡ Some k) × (w scope name ≡ Some e))))
  stands_by k e h = by (comes (entries_of_items r w items) (encoding_at empty) k e (sym (puts k) ∙ h))
    where
      by : Contains (entries_of_items r w items) (k, e) ⊎ (encoding_at empty k ≡ Some e) → (scope : WorldKey)
          × ((name : Text) × (IsFunctionOf r items scope name × ((function_key r scope name ≡ Some k) × (w scope name ≡ Some e))))
      by (inl c) =
          let u = unlisted r w items (k, e) c in
          let t = entry_tells (function_key r u.0 u.1.0) (w u.0 u.1.0) k e u.1.1.1 in
          (u.0, (u.1.0, (u.1.1.0, t)))
      by (inr found) = let none = get-empty {X = StringEncoding} text_cmp k in let wrong : None ≡ Some e = sym none ∙ found in absurd (let z : ⊥ = cc in z)

-- ---- one encoding for all

module _ (r : Resolve) (items : Items) (k : Text) where
  key_of_function : (scope : WorldKey) (name : Text) → IsFunctionOf r items scope name → function_key r scope name ≡ Some k → IsFunctionKey r items k
  key_of_function scope name (itself label f stands) is = of_item (record { name = label; function = f; stands = stands; is = sym (same-some (text_under (text_of label) (text_of label)) k is) })
  key_of_function scope name (member above shown n owner label f stands of at has) is =
      of_interface (record { scope = scope; shown = shown; stands = stands; number = n; of = of; owner = owner; at = at; name = label; function = f; has = has; is = is })

  function_of_key : IsFunctionKey r items k → (scope : WorldKey) × ((name : Text) × (IsFunctionOf r items scope name × (function_key r scope name ≡ Some k)))
  function_of_key (of_item i) = (key.Name i.name, (text_of i.name, (itself i.name i.function i.stands, ap Some (sym i.is))))
  function_of_key (of_interface i) = (i.scope, (text_of i.name, (member i.scope i.shown i.number i.owner i.name i.function i.stands i.of i.at i.has, i.is)))

pub maps_functions : (r : Resolve) (items : Items) (encoding : StringEncoding) (m : Encodings) → Puts (entries_of_items r (λ scope name. Some encoding) items) empty m
    → MapsFunctions r items encoding m
maps_functions r items encoding m puts = record { each = each; only = only }
  where
    only : (k : Text) (e : StringEncoding) → encoding_at m k ≡ Some e → IsFunctionKey r items k × (e ≡ encoding)
    only k e h =
        let s = stands_by r (λ scope name. Some encoding) items m puts k e h in
        (key_of_function r items k s.0 s.1.0 s.1.1.0 s.1.1.1.0, sym (same-some encoding e s.1.1.1.1))

    each : (k : Text) → IsFunctionKey r items k → encoding_at m k ≡ Some encoding
    each k h =
        let f = function_of_key r items k h in
        let s = stands_for r (λ scope name. Some encoding) items m puts f.0 f.1.0 k encoding f.1.1.0 f.1.1.1 refl in
        s.1 ∙ ap Some (only k s.0 s.1).1

-- ---- those of keys without version

given-under : (old : Text → Option StringEncoding) (o : Option Text) (e : StringEncoding) → option_and_then old o ≡ Some e → (was : Text) × ((o ≡ Some was) × (old was ≡ Some e))
given-under old x e h = search std_rules

-- what stands under the key without version
abbrev under_old : (Text → Option StringEncoding) → Resolve → Choice
under_old old r scope name = option_and_then old (unversioned_key r scope name)

pub carries_over : (old : Text → Option StringEncoding) (r : Resolve) (items : Items) (m : Encodings)
    → Puts (entries_of_items r (λ scope name. option_and_then old (unversioned_key r scope name)) items) empty m → CarriesOver old r items m
carries_over old r items m puts = record {
  each = λ k e h. stands_for r (under_old old r) items m puts h.scope h.name k e h.of h.is (ap (option_and_then old) h.under ∙ h.had);
  only = λ k e h.
      let s = stands_by r (under_old old r) items m puts k e h in
      let g = given-under old (unversioned_key r s.0 s.1.0) e s.1.1.1.1 in
      record { scope = s.0; name = s.1.0; of = s.1.1.0; is = s.1.1.1.0; was = g.0; under = g.1.0; had = g.1.1 };
}

-- ---- of what is answered

pub all_functions : {E : Type 0} (r : Resolve) (items : Items) (encoding : StringEncoding) (a : Result Encodings E)
    → IfOk a (λ m. Puts (entries_of_items r (λ scope name. Some encoding) items) empty m) → IfOk a (MapsFunctions r items encoding)
all_functions r items encoding x puts = search (std_rules, maps_functions)

pub all_carried : {E : Type 0} (old : Text → Option StringEncoding) (r : Resolve) (items : Items) (a : Result Encodings E)
    → IfOk a (λ m. Puts (entries_of_items r (λ scope name. option_and_then old (unversioned_key r scope name)) items) empty m) → IfOk a (CarriesOver old r items)
all_carried old r items x puts = search (std_rules, carries_over)
