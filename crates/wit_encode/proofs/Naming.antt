-- A name in a place is that of one type among those that are met, so the names of resources are those of the types that are resources.
use Rattle.std.proofs.Common.{rules as std_rules, ◌≡◌, refl, sym, subst, ap, ◌∙◌, ℕ, zero, suc, ◌+◌, Bool, true, false, ◌&&◌, ◌||◌, List, [], ◌∷◌, slice_get, Some, String, arith}
use Rattle.std.proofs.lemmas.{Cmp.nat_list_eq_equiv, Bool.and_from as both, Bool.or_right as or-second}
use Rattle.std.specs.declared.alloc.Global.{Global}
use Rattle.std.specs.List.{list_any}
use Rattle.wit_model.specs.{Text.Text, Text.text_of, Text.text_eq, Valid.IsValid, Valid.numbers_in_range, Tree.Place, Tree.here, Tree.of_interface, Parts.numbered_from, Parts.same_owner, Parts.is_resource}
use Rattle.wit_model.specs.{Lookup.type_at, Lookup.place_of, Lookup.place_of_path, Lookup.interface_path, Rules.is_listed, Rules.owner_in_range, Rules.text_is}
use Rattle.wit_model.specs.declared.model.{Resolve.Resolve, InterfaceId.InterfaceId, TypeDef.TypeDef, TypeOwner.TypeOwner}
use Rattle.wit_model.proofs.{Entries.each_from_at, Entries.lists_pass, PartsLemmas.owner_same as same-owner, TextLemmas.text_named}
use Rattle.wit_model.proofs.OnePath.{found-in, one-number, named-path, path-once}
use Rattle.comp_meaning.specs.Same.{same_place}
use Rattle.encode_types.specs.KeyLaws.{text_same}
use Rattle.encode_types.specs.{Resources.is_named_interface, Resources.is_resource_entry, Resources.resource_names, Table.is_met_owner, Table.has_named_owner}
use Rattle.base_lemmas.proofs.Bools.{both_ways as either_way, left_of as first_true, right_of as second_true}
use Rattle.encode_shown.proofs.{Parts.place-alike, Members.valid-listed}
use Rattle.wit_model.specs.declared.model.TypeOwner.TheVariants as owner

-- ---- numbered lists

pub any-numbered : {A : Type 0} (p : ℕ × A → Bool) (j : ℕ) (xs : List A) → list_any p (numbered_from j xs) ≡ true → (k : ℕ) × (x : A) × (slice_get xs k ≡ Some x) × (p (j + k, x) ≡ true)
any-numbered p j [] h = absurd cc
any-numbered p j (x ∷ xs) h = go (λ e. any-numbered p (j + 1) xs e) (p (j, x)) refl h
  where
    go : (list_any p (numbered_from (j + 1) xs) ≡ true → (k : ℕ) × (y : _) × (slice_get xs k ≡ Some y) × (p ((j + 1) + k, y) ≡ true)) → (b : Bool) → p (j, x) ≡ b
        → (b || list_any p (numbered_from (j + 1) xs)) ≡ true → (k : ℕ) × (y : _) × (slice_get (x ∷ xs) k ≡ Some y) × (p (j + k, y) ≡ true)
    go more true e h = (0, x, refl, subst (λ (m : ℕ). p (m, x) ≡ true) (omega arith) e)
    go more false e h = let rest = more h in (suc rest.0, rest.1, rest.2, subst (λ (m : ℕ). p (m, rest.1) ≡ true) (omega arith) rest.3)

pub numbered-any : {A : Type 0} (p : ℕ × A → Bool) (j : ℕ) (xs : List A) (k : ℕ) (x : A) → slice_get xs k ≡ Some x → p (j + k, x) ≡ true → list_any p (numbered_from j xs) ≡ true
numbered-any p j [] k x e h = absurd cc
numbered-any p j (y ∷ ys) zero x e h = search std_rules
numbered-any p j (y ∷ ys) (suc k) x e h = or-second _ _ (numbered-any p (j + 1) ys k x e (subst (λ (m : ℕ). p (m, x) ≡ true) (omega arith) h))

-- ---- places

record HasPlace (r : Resolve) (a : TypeOwner) : Type 0 where
  pub number : InterfaceId
  pub is : a ≡ owner.Interface number
  pub path : Text
  pub has : interface_path r number.0 ≡ Some path

named-place : (r : Resolve) (a : TypeOwner) → is_named_interface r a ≡ true → HasPlace r a
named-place r x e = search std_rules

unnamed-place : (r : Resolve) (a : TypeOwner) → is_named_interface r a ≡ false → place_of r a ≡ here
unnamed-place r x e = search std_rules

its-place : (r : Resolve) (a : TypeOwner) (h : HasPlace r a) → place_of r a ≡ of_interface h.path
its-place r a h = ap (place_of r) h.is ∙ ap place_of_path h.has

other-met : (a b : Bool) → b ≡ false → (a || b) ≡ true → a ≡ true
other-met x b e h = search std_rules

-- owners with places of their own
abbrev pub HaveHomes : Resolve → (TypeOwner → Bool) → Type 0
HaveHomes r met = (a b : TypeOwner) → met a ≡ true → met b ≡ true → same_place (place_of r a) (place_of r b) ≡ true → a ≡ b

module _ (r : Resolve) (v : IsValid r) where
  pub named-owner : (def : TypeDef) → has_named_owner r def ≡ true → is_named_interface r def.owner ≡ true
  named-owner def h = search (std_rules, named-path)

  -- an owner is in range
  pub valid-owner_in_range : (n : ℕ) (def : TypeDef) → type_at r n ≡ Some def → owner_in_range r def.owner ≡ true
  unfolding numbers_in_range
  valid-owner_in_range n def is = second_true _ _ (second_true _ _ (each_from_at (numbers_in_range.type_ r) 0 r.types.items n def (lists_pass numbers_in_range r v.rules.numbers_in_range).3 is))

  listed-once : (a : TypeOwner) (m n : ℕ) (t : Text) → owner_in_range r a ≡ true → is_listed r m t a ≡ true → is_listed r n t a ≡ true → m ≡ n
  listed-once x m n t inside e f = search (std_rules, found-in, first_true, one-number)

  module _ (o : TypeOwner) where
    -- owners that are met have places of their own
    pub one-home : HaveHomes r (is_met_owner r o)
    one-home a b h k e = go (is_named_interface r a) refl (is_named_interface r b) refl
      where
        own : (c : TypeOwner) → is_met_owner r o c ≡ true → is_named_interface r c ≡ false → o ≡ c
        own c h f = same-owner o c (other-met (same_owner o c) (is_named_interface r c) f h)

        go : (x : Bool) → is_named_interface r a ≡ x → (y : Bool) → is_named_interface r b ≡ y → a ≡ b
        go true p true q =
            let x = named-place r a p in
            let y = named-place r b q in
            let same : text_eq x.path y.path ≡ true = ap (λ (z : Place). same_place z (of_interface y.path)) (sym (its-place r a x)) ∙ ap (same_place (place_of r a)) (sym (its-place r b y)) ∙ e in
            let numbers : x.number.0 ≡ y.number.0 = path-once r v x.number.0 y.number.0 x.path x.has (y.has ∙ ap Some (sym (text_same x.path y.path same))) in
            x.is ∙ ap (λ n. owner.Interface (record { 0 = n })) numbers ∙ sym y.is
        go true p false q = let wrong : false ≡ true = (rw (its-place r a (named-place r a p), unnamed-place r b q) at e) in absurd cc
        go false p true q = let wrong : false ≡ true = (rw (unnamed-place r a p, its-place r b (named-place r b q)) at e) in absurd cc
        go false p false q = sym (own a h p) ∙ own b k q

  module _ (met : TypeOwner → Bool) (homes : HaveHomes r met) where
    -- types that are met and have the same name in the same place are one
    one-type : (m n : ℕ) (d d' : TypeDef) (name : String Global) → type_at r m ≡ Some d → type_at r n ≡ Some d' → d.name ≡ Some name → met d.owner ≡ true → met d'.owner ≡ true
        → same_place (place_of r d.owner) (place_of r d'.owner) ≡ true → text_is d'.name (text_of name) ≡ true → m ≡ n
    one-type m n d d' name at at' named h h' e t =
        let other = text_named d'.name (text_of name) t in
        listed-once d'.owner m n (text_of name) (valid-owner_in_range n d' at')
        (subst (λ (a : TypeOwner). is_listed r m (text_of name) a ≡ true) (homes d.owner d'.owner h h' e) (valid-listed r v m d name at named))
        (subst (λ (x : Text). is_listed r n x d'.owner ≡ true) other.2 (valid-listed r v n d' other.0 at' other.1))

    -- the name of a type that is met is one of a resource where the type is one
    pub names-agree : (n : ℕ) (def : TypeDef) (name : String Global) → type_at r n ≡ Some def → def.name ≡ Some name → met def.owner ≡ true
        → resource_names r met (place_of r def.owner) (text_of name) ≡ is_resource r n
    names-agree n def name at named is = either_way (resource_names r met (place_of r def.owner) (text_of name)) (is_resource r n) forth back
      where
        forth : resource_names r met (place_of r def.owner) (text_of name) ≡ true → is_resource r n ≡ true
        forth h =
            let found = any-numbered (is_resource_entry r met (place_of r def.owner) (text_of name)) 0 r.types.items h in
            let passed = subst (λ (m : ℕ). is_resource_entry r met (place_of r def.owner) (text_of name) (m, found.1) ≡ true) (omega arith) found.3 in
            let first = first_true (met found.1.owner && is_resource r found.0) _ passed in
            let second = second_true (met found.1.owner && is_resource r found.0) _ passed in
            let same = one-type n found.0 def found.1 name at found.2 named is (first_true (met found.1.owner) _ first)
            (first_true (same_place (place_of r def.owner) (place_of r found.1.owner)) _ second) (second_true (same_place (place_of r def.owner) (place_of r found.1.owner)) _ second) in
            subst (λ (m : ℕ). is_resource r m ≡ true) (sym same) (second_true (met found.1.owner) _ first)

        back : is_resource r n ≡ true → resource_names r met (place_of r def.owner) (text_of name) ≡ true
        back h =
            let text : text_is def.name (text_of name) ≡ true = ap (λ x. text_is x (text_of name)) named ∙ nat_list_eq_equiv.refl (text_of name) in
            numbered-any (is_resource_entry r met (place_of r def.owner) (text_of name)) 0 r.types.items n def at
            (subst (λ (m : ℕ). is_resource_entry r met (place_of r def.owner) (text_of name) (m, def) ≡ true) (omega arith)
            (both _ _ (both _ _ is h) (both _ _ (place-alike (place_of r def.owner)) text)))
