-- Each interface of a plan of a package is reached from the package.
use Rattle.std.proofs.Common.{rules as std_rules, ◌≡◌, ◌⊎◌, inl, inr, refl, sym, ap, ◌∙◌, ℕ, zero, suc, ◌+◌, ◌≤◌, Bool, true, false, ◌&&◌, ◌||◌, ◌==◌, not, cond, List, [], ◌∷◌, ◌++◌, length, map, filter_map, flat_map, count_by, option_map, option_and_then, option_to_list, Option, Some, None, slice_get, is_some, String, subst, arith}
use Rattle.std.proofs.lemmas.{Bool.eqb-true, Bool.or_left, Bool.or_right, Bool.or_parts as neither, Option.slice_get_within, Option.slice_get-map as get_of_map}
use Rattle.std.proofs.lemmas.{List.Folds.list_any-append, List.Sums.sum_by-cons, Map.Keys.any_passes_from_place as get_any}
use Rattle.std.specs.{Prelude.sum_by, List.Contains, List.list_all, List.list_any, List.cons_option, Option.option_map_or, Option.option_eq}
use Rattle.std.specs.declared.alloc.Global.{Global}
use Rattle.indexmap.specs.IndexMap.{values}
use Rattle.wit_model.specs.declared.model.{Resolve.Resolve, PackageId.PackageId, Interface.Interface, InterfaceId.InterfaceId, World.World, WorldItem.WorldItem}
use Rattle.wit_model.specs.declared.model.{Package.Package, WorldId.WorldId}
use Rattle.wit_model.specs.{Text.Text, Text.text_of, Text.optional_text, Lookup.package_at, Lookup.interface_at, Lookup.world_at, Lookup.interface_path}
use Rattle.wit_model.specs.Uses.{has, items_of, direct_deps, interfaces_of_item, interfaces_of_world, worlds_of, reached_by_package, shown_by, is_shown_in}
use Rattle.wit_model.specs.{Rules.is_id, Rules.in_list, Valid.IsValid, Chains.Chain}
use Rattle.wit_model.proofs.Elements.{contains-filter_map, contains-flat, has-contains, contains-has, contains-get}
use Rattle.wit_model.proofs.{Chains.uses_fall, Chains.chains_reach, Chains.user_stands, UsesLemmas.has_filter}
use Rattle.plan_meaning.specs.Plan.{PlannedInterface, PlannedWorld, PlannedItem, PlannedPackage, number_under, package_in}
use Rattle.plan_meaning.specs.PlanRules.{IsPlan, IsWanted, shown, used}
use Rattle.plan_meaning.specs.Built.{planned_interface, planned_world, planned_package}
use Rattle.plan_meaning.proofs.{Lists.any_get, Lists.no_true, Lists.each_there, Words.plan_of, Words.direct_uses_are, ItemOrder.item_interfaces_are}
use Rattle.plan_meaning.proofs.{FunctionRules.items_are, TypeOrder.under_has}
use Rattle.base_lemmas.proofs.{Bools.left_of as first_true, Bools.right_of as second_true, Elements.all_get, Elements.contains-one, Elements.map_from}
use Rattle.base_lemmas.proofs.Lists.{get_back, map_of_map}
use Rattle.wit_model.specs.declared.model.WorldItem.TheVariants as item
use Rattle.wit_model.specs.Uses as uses
use Rattle.plan_meaning.specs.Plan as plan
use Rattle.plan_meaning.specs.PlanRules as planned

-- ---- chains

pub further : (r : Resolve) (k n m j : ℕ) → Chain r k n m → has (direct_deps r m) j ≡ true → Chain r (suc k) n j
further r zero n m j c h = (j, ap (λ i. has (direct_deps r i) j) c ∙ h, refl)
further r (suc k) n m j c h = (c.0, c.1, further r k c.0 m j c.2 h)

-- ---- what is shown once is shown somewhere

times_more : (n : ℕ) (o : Option ℕ) (ns : List ℕ) (t : ℕ) → (has ns n ≡ false → t ≡ 0) → has (cons_option o ns) n ≡ false → cond (is_id n o) 1 0 + t ≡ 0
times_more n x ns t rest h = search std_rules

times_none : (n : ℕ) (xs : List PlannedItem) → has (filter_map plan.item_interface xs) n ≡ false → count_by (λ x. is_id n (plan.item_interface x)) xs ≡ 0
times_none n [] h = refl
times_none n (x ∷ xs) h = search (std_rules, sum_by-cons, times_more, count_by, times_none n xs)

sum_none : (n : ℕ) (ws : List PlannedWorld) → list_any (λ w. planned.is_shown_in w n) ws ≡ false → sum_by (planned.times_shown n) ws ≡ 0
sum_none n [] h = refl
sum_none n (w ∷ ws) h =
    let split = neither (planned.is_shown_in w n) (list_any (λ x. planned.is_shown_in x n) ws) h in
    sum_by-cons (planned.times_shown n) w ws ∙ omega (arith, times_none n (plan.items_of w) split.0, sum_none n ws split.1)

pub shown_somewhere : (n : ℕ) (ws : List PlannedWorld) → (sum_by (planned.times_shown n) ws == 1) ≡ true → list_any (λ w. planned.is_shown_in w n) ws ≡ true
shown_somewhere n ws h = search (std_rules, no_true, sum_none)

-- ---- the items of a world

item_among : (r : Resolve) (n : ℕ) (xs : List WorldItem) → has (filter_map uses.item_interface xs) n ≡ true → has (flat_map (interfaces_of_item r) xs) n ≡ true
item_among r n [] h = no_true h
item_among r n (item.Interface id stability docs external_id ∷ xs) h = go (id.0 == n) refl h (item_among r n xs)
  where
    go : (b : Bool) → (id.0 == n) ≡ b → (b || has (filter_map uses.item_interface xs) n) ≡ true → (has (filter_map uses.item_interface xs) n ≡ true → has (flat_map (interfaces_of_item r) xs) n ≡ true)
        → ((id.0 == n) || has (flat_map (interfaces_of_item r) xs) n) ≡ true
    go true e h rest = or_left (id.0 == n) (has (flat_map (interfaces_of_item r) xs) n) e
    go false e h rest = or_right (id.0 == n) (has (flat_map (interfaces_of_item r) xs) n) (rest h)
item_among r n (item.Function f ∷ xs) h = item_among r n xs h
item_among r n (item.Type_ id ∷ xs) h = search (std_rules, list_any-append, or_right, item_among r n xs h)

pub shows_is : (n : ℕ) (w : World) → planned.is_shown_in (planned_world w) n ≡ has (filter_map uses.item_interface (items_of w)) n
shows_is n w = ap (λ xs. has (filter_map plan.item_interface xs) n) (items_are w) ∙ ap (λ ns. has ns n) (item_interfaces_are (items_of w))

-- the number under a name is one of those that a list of a package holds
listed_number : {A : Type 0} (number : A → ℕ) (es : List (String Global × A)) (name : Text) (n : ℕ) → is_id n (number_under name (map (λ e. (text_of e.0, number e.1)) es)) ≡ true
    → has (map number (map (λ e. e.1) es)) n ≡ true
listed_number number es name n h = search (std_rules, map_of_map, under_has)

module _ (r : Resolve) (m : ℕ) (is : IsPlan (plan_of r m)) (v : IsValid r) (p : Package) (at : package_at r m ≡ Some p)
    (home : list_all (λ w. is_id m w.package_) (map planned_world r.worlds.items) ≡ true) where
  -- what stands in the main package
  main_package : (test : PlannedPackage → Bool) (o : Option PackageId) → is_id m (option_map (λ id. id.0) o) ≡ true
      → option_map_or test (option_and_then (package_in (plan_of r m)) (option_map (λ id. id.0) o)) false ≡ true → test (planned_package p) ≡ true
  main_package test x same h = search (std_rules, no_true, eqb-true, get_of_map)

  pub world_among : (j : ℕ) (w : World) → world_at r j ≡ Some w → Contains (worlds_of r p) w
  world_among j w e =
      let stands = map_from (λ (id : WorldId). id.0) (values p.worlds) j (has-contains (map (λ id. id.0) (values p.worlds)) j
      (listed_number (λ id. id.0) p.worlds.entries (text_of w.name) j (main_package (λ k. is_id j (number_under (text_of w.name) k.worlds)) w.package
      (all_get (λ x. is_id m x.package_) (map planned_world r.worlds.items) j (planned_world w) home (get_of_map planned_world r.worlds.items j ∙ ap (option_map planned_world) e))
      (each_there planned_world (planned.is_world_placed (plan_of r m)) r.worlds.items is.worlds_placed j w e)))) in
      contains-filter_map (λ id. world_at r id.0) (values p.worlds) stands.0 w stands.1
      (let found : world_at r stands.0.0 ≡ Some w = ap (world_at r) stands.2 ∙ e in let one : option_to_list (Some w) ≡ option_to_list (world_at r stands.0.0) = ap option_to_list (sym found) in
      subst (λ (xs : List World). Contains xs w) one (contains-one w))

  abbrev pub starts : List ℕ
  starts = map (λ id. id.0) (values p.interfaces) ++ flat_map (interfaces_of_world r) (worlds_of r p)

  listed_starts : (n : ℕ) (name : Text) → is_id n (number_under name (planned_package p).interfaces) ≡ true → has starts n ≡ true
  listed_starts n name h = list_any-append (λ k. k == n) (map (λ id. id.0) (values p.interfaces)) (flat_map (interfaces_of_world r) (worlds_of r p))
      ∙ or_left (has (map (λ id. id.0) (values p.interfaces)) n) _ (listed_number (λ (id : InterfaceId). id.0) p.interfaces.entries name n h)

  shown_starts : (n j : ℕ) (w : World) → world_at r j ≡ Some w → has (filter_map uses.item_interface (items_of w)) n ≡ true → has starts n ≡ true
  shown_starts n j w e h = list_any-append (λ k. k == n) (map (λ id. id.0) (values p.interfaces)) (flat_map (interfaces_of_world r) (worlds_of r p))
      ∙ or_right (has (map (λ id. id.0) (values p.interfaces)) n) _ (contains-has (flat_map (interfaces_of_world r) (worlds_of r p)) n
      (contains-flat (interfaces_of_world r) (worlds_of r p) w n (world_among j w e) (has-contains (interfaces_of_world r w) n (item_among r n (items_of w) h))))

  -- a plan's world that shows the interface
  planned_starts : (n j : ℕ) (x : PlannedWorld) → slice_get (map planned_world r.worlds.items) j ≡ Some x → planned.is_shown_in x n ≡ true → has starts n ≡ true
  planned_starts n j x e h = search (std_rules, get_back, shown_starts, shows_is)

  -- an interface with a path that a world shows is shown in the package
  pub shown_in : (n j : ℕ) (x : PlannedWorld) → slice_get (map planned_world r.worlds.items) j ≡ Some x → planned.is_shown_in x n ≡ true → is_some (interface_path r n) ≡ true
      → is_shown_in r p n ≡ true
  shown_in n j x e h path =
      let w = get_back planned_world r.worlds.items j x e in
      let among = contains-get (worlds_of r p) w.0 (world_among j w.0 w.1) in
      get_any (λ y. has (shown_by r y) n) (worlds_of r p) among.0 w.0 among.1
      (has_filter (λ k. is_some (interface_path r k)) (filter_map uses.item_interface (items_of w.0)) n (sym (shows_is n w.0) ∙ (ap (λ y. planned.is_shown_in y n) w.2 ∙ h)) path)

  module _ (wanted : (n : ℕ) (i : PlannedInterface) → plan.interface_in (plan_of r m) n ≡ Some i → planned.is_foreign (plan_of r m) i ≡ true → IsWanted (plan_of r m) n) where
    -- an interface is a start, or another one uses it
    abbrev Why : ℕ → Type 0
    Why n = (has starts n ≡ true) ⊎ ((j : ℕ) × (has (direct_deps r j) n ≡ true))

    by_reason : (n : ℕ) → IsWanted (plan_of r m) n → Why n
    by_reason n (shown j x e h) = inl (planned_starts n j x e h)
    by_reason n (used j h) = inr (j, ap (λ ns. has ns n) (sym (direct_uses_are r m j)) ∙ h)

    why_by : (n : ℕ) (i : Interface) → interface_at r n ≡ Some i → (name : Option (String Global)) → i.name ≡ name →
        option_map_or (λ t. option_map_or (λ k. is_id n (number_under t k.interfaces)) (option_and_then (package_in (plan_of r m)) (option_map (λ id. id.0) i.package)) false) (optional_text name)
        (option_map_or (in_list (map planned_package r.packages.items)) (option_map (λ id. id.0) i.package) false
        && ((sum_by (planned.times_shown n) (map planned_world r.worlds.items) == 1) && list_all (λ w. (planned.times_shown n w == 0) || option_eq ◌==◌ w.package_ (option_map (λ id. id.0) i.package))
        (map planned_world r.worlds.items))) ≡ true → Why n
    why_by n i e None unnamed h =
        let somewhere = any_get (λ w. planned.is_shown_in w n) (map planned_world r.worlds.items)
        (shown_somewhere n (map planned_world r.worlds.items) (first_true _ _ (second_true _ _ h))) in
        inl (planned_starts n somewhere.0 somewhere.1 somewhere.2 somewhere.3)
    why_by n i e (Some s) named h = go (is_id m (option_map (λ id. id.0) i.package)) refl
      where
        foreign : is_id m (option_map (λ id. id.0) i.package) ≡ false → planned.is_foreign (plan_of r m) (planned_interface i) ≡ true
        foreign other = λ j. is_some (optional_text (named j)) && not (other j)

        go : (b : Bool) → is_id m (option_map (λ id. id.0) i.package) ≡ b → Why n
        go true own = inl (listed_starts n (text_of s) (main_package (λ k. is_id n (number_under (text_of s) k.interfaces)) i.package own h))
        go false other = by_reason n (wanted n (planned_interface i) (get_of_map planned_interface r.interfaces.items n ∙ ap (option_map planned_interface) e) (foreign other))

    abbrev Leads : ℕ → Type 0
    Leads n = (s : ℕ) × (k : ℕ) × (has starts s ≡ true) × Chain r k s n

    leads_from : (n : ℕ) → Why n → ((j : ℕ) → has (direct_deps r j) n ≡ true → Leads j) → Leads n
    leads_from n (inl h) rest = (n, 0, h, refl)
    leads_from n (inr (j, h)) rest = let lead = rest j h in (lead.0, suc lead.1, lead.2, further r lead.1 lead.0 j n lead.3 h)

    leads_by : (fuel n : ℕ) (i : Interface) → length r.interfaces.items ≤ n + fuel → interface_at r n ≡ Some i → Leads n
    leads_by zero n i h e = let less = slice_get_within r.interfaces.items n i e in absurd (omega (arith, h, less))
    leads_by (suc fuel) n i h e = leads_from n (why_by n i e i.name refl (each_there planned_interface (planned.is_placed (plan_of r m)) r.interfaces.items is.interfaces_placed n i e))
        (λ j uses_n. let user = user_stands r j n uses_n in let falls = uses_fall r v j n uses_n in leads_by fuel j user.0 (omega (arith, h, falls)) user.1)

    pub all_reached : (n : ℕ) (i : Interface) → interface_at r n ≡ Some i → has (reached_by_package r p) n ≡ true
    all_reached n i e = search (std_rules, leads_by (length r.interfaces.items) n i (omega arith) e, chains_reach)
