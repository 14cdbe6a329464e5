-- What is carried keeps its owner, and a resource stays one.
use Rattle.std.proofs.Common.{rules as std_rules, ◌&&◌, ◌≡◌, sym, ap, ◌∙◌, ℕ, ◌<◌, arith, Bool, true, false, ◌||◌, nat_lt, Option, option_map, option_to_list, filter_map}
use Rattle.std.specs.{List.list_all, Option.option_map_or}
use Rattle.wit_model.specs.declared.model.{Resolve.Resolve, TypeDef.TypeDef, TypeDefKind.TypeDefKind, TypeOwner.TypeOwner, «Type».«Type» as ValueType}
use Rattle.wit_model.specs.{Types.number_of, Uses.alias_target, Rules.passes, Rules.is_resource_itself, Valid.Keeps, Valid.KeepsRules, Checks.references}
use Rattle.wit_model.specs.Parts.{kind_numbers, member_types, handled, is_resource, is_resource_type, is_resource_kind, same_owner, has_owner}
use Rattle.wit_model.proofs.{Checks.below_at, Resources.resource_step, PartsLemmas.owner_itself, PartsLemmas.owner_same as owner_equal}
use Rattle.bind_union.specs.Views.{renamed_type}
use Rattle.bind_union.specs.Carried.{Renumbering, Rises, owner_under, carries_owner, IsType, IsCarried}
use Rattle.bind_union.{proofs.Lists.by_less, proofs.Lists.no_true, proofs.ViewTests.number_under, proofs.Carrying.references_of}
use Rattle.base_lemmas.proofs.{Bools.left_of as first_true, Bools.right_of as second_true, Numbers.equal, Numbers.same-number}
use Rattle.wit_model.specs.declared.model.TypeOwner.TheVariants as owner

-- ---- kinds

-- a kind is a resource, or an alias of one
resource_kind : (test : ℕ → Bool) (k : TypeDefKind) → is_resource_kind test k ≡ (is_resource_itself k || option_map_or test (alias_target k) false)
resource_kind test x = search std_rules

pub all_given : {X : Type 0} (p : X → Bool) (o : Option X) → list_all p (option_to_list o) ≡ passes p o
all_given p y = search std_rules

-- what is asked of all numbers in a kind is asked of those in its members, of what it handles, and of an alias's target
parts_of_all : (p : ℕ → Bool) (k : TypeDefKind) → list_all p (kind_numbers k) ≡ (list_all p (filter_map number_of (member_types k)) && (passes p (handled k) && passes p (alias_target k)))
parts_of_all p k = search std_rules

pub members_of_all : (p : ℕ → Bool) (k : TypeDefKind) → list_all p (kind_numbers k) ≡ true → list_all p (filter_map number_of (member_types k)) ≡ true
members_of_all p k h = first_true _ _ (sym (parts_of_all p k) ∙ h)

pub handled_of_all : (p : ℕ → Bool) (k : TypeDefKind) → list_all p (kind_numbers k) ≡ true → passes p (handled k) ≡ true
handled_of_all p k h = first_true _ _ (second_true (list_all p (filter_map number_of (member_types k))) _ (sym (parts_of_all p k) ∙ h))

pub alias_of_all : (p : ℕ → Bool) (k : TypeDefKind) → list_all p (kind_numbers k) ≡ true → passes p (alias_target k) ≡ true
alias_of_all p k h = second_true (passes p (handled k)) _ (second_true (list_all p (filter_map number_of (member_types k))) _ (sym (parts_of_all p k) ∙ h))

-- ---- owners

-- a copy has no other's number
pub apart : (f : ℕ → ℕ) (carries copies : ℕ → Bool) → Rises f carries copies → ((n : ℕ) → copies n ≡ true → carries n ≡ true) → (m n : ℕ) → carries m ≡ true → copies n ≡ true → f m ≡ f n → m ≡ n
apart f carries copies rise both_ m n c d e = search std_rules

module _ (r s : Resolve) (f : Renumbering) (valid : KeepsRules r) (is : IsCarried r s f) (below_s : Keeps references s) where
  abbrev below_r : Keeps references r
  below_r = references_of r valid

  -- ---- aliases

  pub alias_there : (n : ℕ) (t : IsType r s f n) → (alias_target t.image.kind ≡ option_map f.types (alias_target t.def.kind)) × (passes f.carries_type (alias_target t.def.kind) ≡ true)
      × (is_resource_itself t.image.kind ≡ is_resource_itself t.def.kind)
  alias_there n t = search std_rules

  -- ---- resources

  resource_step_same : (n : ℕ) → f.carries_type n ≡ true → ((m : ℕ) → m < n → f.carries_type m ≡ true → is_resource s (f.types m) ≡ is_resource r m) → is_resource s (f.types n) ≡ is_resource r n
  resource_step_same n c smaller = resource_step s below_s (f.types n) t.image t.at_image
      ∙ (resource_kind (is_resource s) t.image.kind ∙ ((λ i. a.2 i || option_map_or (is_resource s) (a.0 i) false)
      ∙ (ap (λ b. is_resource_itself t.def.kind || b) (target (alias_target t.def.kind) a.1 (alias_of_all (λ m. nat_lt m n) t.def.kind (below_at r below_r n t.def t.found)))
      ∙ (sym (resource_kind (is_resource r) t.def.kind) ∙ sym (resource_step r below_r n t.def t.found)))))
    where
      t : IsType r s f n
      t = is.types n c

      a : (alias_target t.image.kind ≡ option_map f.types (alias_target t.def.kind)) × (passes f.carries_type (alias_target t.def.kind) ≡ true)
          × (is_resource_itself t.image.kind ≡ is_resource_itself t.def.kind)
      a = alias_there n t

      target : (o : Option ℕ) → passes f.carries_type o ≡ true → passes (λ m. nat_lt m n) o ≡ true → option_map_or (is_resource s) (option_map f.types o) false ≡ option_map_or (is_resource r) o false
      target x d low = search std_rules

  -- a number is a resource exactly where the new one is
  pub resource_same_at : (n : ℕ) → f.carries_type n ≡ true → is_resource s (f.types n) ≡ is_resource r n
  resource_same_at = by_less (λ n. f.carries_type n ≡ true → is_resource s (f.types n) ≡ is_resource r n) (λ n smaller c. resource_step_same n c smaller)

  pub resource_type_same : (t : ValueType) → list_all f.carries_type (option_to_list (number_of t)) ≡ true → is_resource_type s (renamed_type f.types t) ≡ is_resource_type r t
  resource_type_same t h = search (std_rules, number_under, resource_same_at, first_true)

  -- ---- owners

  abbrev owner_at : (r : Resolve) (o : TypeOwner) → Option TypeDef → Bool
  owner_at r o d = option_map_or (λ def. same_owner def.owner o) d false

  -- what belongs to an owner belongs to the new one
  pub owner_stays : (o : TypeOwner) (n : ℕ) → f.carries_type n ≡ true → has_owner r o n ≡ true → has_owner s (owner_under f o) (f.types n) ≡ true
  owner_stays o n c h = search (std_rules, owner_equal, owner_itself)

  -- the owners to which nothing else is carried
  abbrev pub alone : TypeOwner → Bool
  alone (owner.World id) = f.carries_world id.0
  alone (owner.Interface id) = f.copies_interface id.0
  alone owner.None = false

  pub owner_apart : (o p : TypeOwner) → carries_owner f p ≡ true → alone o ≡ true → same_owner (owner_under f p) (owner_under f o) ≡ true → same_owner p o ≡ true
  owner_apart x p c d h = grind (arith, equal, same-number, apart, no_true)

  pub owner_back : (o : TypeOwner) (n : ℕ) → alone o ≡ true → f.carries_type n ≡ true → has_owner s (owner_under f o) (f.types n) ≡ true → has_owner r o n ≡ true
  owner_back o n d c h = search (std_rules, owner_apart)
