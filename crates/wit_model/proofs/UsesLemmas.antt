-- Lemmas on lists of numbers, and on what a type or an item leads to.
use Rattle.base_lemmas.proofs.{Elements.contains-later, Numbers.same-number}
use Rattle.std.proofs.Common.{rules as std_rules, Bool, List, Some, [], ap, cond, false, filter, nat_eq, refl, sym, true, ℕ, ◌==◌, ◌||◌, ◌∙◌, ◌∷◌, ◌≡◌}
use Rattle.std.proofs.lemmas.{Bool.and_from as both, Bool.eqb-true, Bool.or_right, Option.same_Some as some-same}
use Rattle.std.specs.List.{list_all, list_any}
use Rattle.wit_model.proofs.{Elements.contains-has, Elements.has-contains, OnePath.found-in}
use Rattle.wit_model.specs.{Lookup.interface_at, Parts.kind_numbers, Rules.item_in_range, Uses.alias_target, Uses.has, Uses.item_interface}
use Rattle.wit_model.specs.declared.model.{Interface.Interface, Resolve.Resolve, TypeDefKind.TypeDefKind, WorldItem.WorldItem}

pub all_from_has : (p : ℕ → Bool) (ns : List ℕ) → ((n : ℕ) → has ns n ≡ true → p n ≡ true) → list_all p ns ≡ true
all_from_has p [] h = refl
all_from_has p (n ∷ ns) h = both _ _ (h n (ap (λ b. b || has ns n) (same-number n))) (all_from_has p ns (λ m c. h m (contains-has (n ∷ ns) m (contains-later n ns m (has-contains ns m c)))))

pub alias_numbers : (k : TypeDefKind) (t : ℕ) → alias_target k ≡ Some t → kind_numbers k ≡ t ∷ []
alias_numbers x t e = search std_rules

pub interface_in_range : (r : Resolve) (i : WorldItem) (n : ℕ) → item_interface i ≡ Some n → item_in_range r i ≡ true → (def : Interface) × (interface_at r n ≡ Some def)
interface_in_range r x n e h = search (std_rules, some-same, found-in)

pub any_is_has : (ns : List ℕ) (q : ℕ) → list_any (nat_eq q) ns ≡ has ns q
any_is_has [] q = refl
any_is_has (n ∷ ns) q = search std_rules

no_true : {A : Type 0} → false ≡ true → A
no_true e = let wrong : ⊥ = cc in absurd wrong

pub has_filter : (p : ℕ → Bool) (ns : List ℕ) (n : ℕ) → has ns n ≡ true → p n ≡ true → has (filter p ns) n ≡ true
has_filter p [] n h k = no_true h
has_filter p (x ∷ ns) n h k = go (x == n) refl (p x) refl (λ e. has_filter p ns n e k)
  where
    go : (b : Bool) → (x == n) ≡ b → (c : Bool) → p x ≡ c → (has ns n ≡ true → has (filter p ns) n ≡ true) → has (cond c (x ∷ filter p ns) (filter p ns)) n ≡ true
    go true e true f rest = ap (λ b. b || has (filter p ns) n) e
    go true e false f rest = no_true (sym f ∙ (ap p (eqb-true x n e) ∙ k))
    go false e true f rest = ap (λ b. b || has (filter p ns) n) e ∙ rest (sym (ap (λ b. b || has ns n) e) ∙ h)
    go false e false f rest = rest (sym (ap (λ b. b || has ns n) e) ∙ h)

pub filter_has : (p : ℕ → Bool) (ns : List ℕ) (n : ℕ) → has (filter p ns) n ≡ true → (has ns n ≡ true) × (p n ≡ true)
filter_has p [] n h = no_true h
filter_has p (x ∷ ns) n h = go (p x) refl h (filter_has p ns n)
  where
    later : (has ns n ≡ true) × (p n ≡ true) → ((x == n) || has ns n) ≡ true
    later more = or_right (x == n) (has ns n) more.0

    front : p x ≡ true → (b : Bool) → (x == n) ≡ b → (b || has (filter p ns) n) ≡ true → (has (filter p ns) n ≡ true → (has ns n ≡ true) × (p n ≡ true)) → (has (x ∷ ns) n ≡ true) × (p n ≡ true)
    front f true e h rest = (ap (λ b. b || has ns n) e, sym (ap p (eqb-true x n e)) ∙ f)
    front f false e h rest = let more = rest h in (later more, more.1)

    go : (c : Bool) → p x ≡ c → has (cond c (x ∷ filter p ns) (filter p ns)) n ≡ true → (has (filter p ns) n ≡ true → (has ns n ≡ true) × (p n ≡ true)) → (has (x ∷ ns) n ≡ true) × (p n ≡ true)
    go true f h rest = front f (x == n) refl h rest
    go false f h rest = let more = rest h in (later more, more.1)
