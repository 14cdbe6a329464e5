-- The worlds of what was merged, by path, are those of both, but for the bound one.
use Rattle.std.proofs.Common.{rules as std_rules, ◌≡◌, ◌⊎◌, inl, inr, refl, sym, ap, subst, ◌∙◌, ℕ, arith, Bool, true, false, ◌==◌, [], Option, Some, option_map, option_and_then}
use Rattle.std.proofs.lemmas.Option.{same_Some as same-some}
use Rattle.std.specs.Option.{option_map_or}
use Rattle.wit_model.specs.declared.model.{Resolve.Resolve, World.World}
use Rattle.wit_model.specs.{Text.Text, Text.text_of, Text.text_eq, Rules.passes, Rules.in_list, Rules.is_id, Rules.package_number, Names.path_in, Meaning.WorldMeaning, Meant.world_meaning, Meant.no_world, Checks.references, Lookup.package_at, Lookup.world_at, Lookup.path_of_world, Lookup.identity_of, Valid.Keeps, Valid.IsValid}
use Rattle.wit_model.proofs.{NameLaws.one_path, VersionLaws.same_name, Elements.none-in, OnePath.package-name, OnePath.package-once, OnePath.found-in, RulesLemmas.is_id_some as some_id, TextLemmas.text_same as text-same}
use Rattle.bind_meaning.proofs.WorldPaths.{HasWorldPath, has-world-path, world-label, world-listed}
use Rattle.bind_union.specs.{Carried.Renumbering, Meanings.ShowsWorld, Meanings.ShowsNoWorld, Meanings.WorldsAreUnited}
use Rattle.bind_union.specs.Merged.{world_names, is_name, grown, brought, IsMerged}
use Rattle.bind_union.proofs.{Lists.by_number, Lists.no_true, Kept.below, Carrying.path_by, Carrying.same_path_by, Carrying.same_identity, Itself.world_package, Listed.under_text, Meanings.merged_means, KeptPackages.by_package, KeptPackages.grown_name, KeptPackages.is_world_of, KeptPackages.worlds_stand, KeptPackages.found_option, KeptPlaces.world_case, KeptPlaces.own_world_low, PackageNames.joined_name, PackageNames.worlds_by_name, PackageNames.found_name, PackageNames.copy_found, Namesakes.under_contains}
use Rattle.base_lemmas.proofs.{Bools.left_of as first_true, Bools.right_of as second_true, Elements.all-contained, Numbers.same-number}

-- the path of a world by its name and its package
pub world_path : (r : Resolve) (w : World) → path_of_world r w ≡ path_by r (Some (text_of w.name)) (package_number w.«package»)
world_path r w = search std_rules

-- the numbers under the name of a world with a path
listed_by_path : (r : Resolve) (v : IsValid r) (n : ℕ) (path : Text) (h : HasWorldPath r n path) → is_id n (under_text (text_of h.def.name) (world_names h.package_)) ≡ true
listed_by_path r v n path h = sym (ap (is_id n) (worlds_by_name h.package_ (text_of h.def.name))) ∙ world-listed r v n path h

module _ (own other merged : Resolve) (bound other_bound : ℕ) (first second : Renumbering) (left_out : ℕ → Bool) (valid_own : IsValid own) (valid_other : IsValid other) (is : IsMerged own other merged bound other_bound first second left_out) where
  below_s : Keeps references merged
  below_s = below own other merged bound other_bound first second left_out valid_own.rules valid_other.rules is

  -- ---- paths

  own_path_by : (t : Text) (p : Option ℕ) → passes (in_list own.packages.items) p ≡ true → path_by merged (Some t) p ≡ path_by own (Some t) p
  own_path_by t = by_package own (λ p. path_by merged (Some t) p ≡ path_by own (Some t) p) refl (λ k p e. let q = is.packages k p e in
      ap (option_map (λ package_. path_in (identity_of package_.name) t)) q.1
      ∙ (ap (λ d. Some (path_in d t)) (same_identity p.name q.0.name q.2) ∙ sym (ap (option_map (λ package_. path_in (identity_of package_.name) t)) e)))

  own_path : (n : ℕ) (w : World) → world_at own n ≡ Some w → path_of_world merged w ≡ path_of_world own w
  own_path n w e = search (std_rules, world_path, own_path_by, world_package)

  bound_path : path_of_world merged is.joined.image ≡ path_of_world own is.own_bound
  bound_path = world_path merged is.joined.image ∙ ((λ i. path_by merged (Some (text_of (is.bound_name i))) (package_number (is.bound_package i)))
      ∙ (sym (world_path merged is.own_bound) ∙ own_path bound is.own_bound is.bound_at))

  copy_path : (m : ℕ) (c : first.carries_world m ≡ true) → path_of_world merged (is.first_worlds m c).joined.image ≡ path_of_world other (is.first_worlds m c).joined.old
  copy_path m c =
      let w = is.first_worlds m c in
      let j = w.joined in
      let range = world_package other valid_other.rules m j.old j.found in
      world_path merged j.image ∙ ((λ i. path_by merged (Some (w.name i)) (w.in_package i))
      ∙ (same_path_by other merged first valid_other.rules is.first_copies.carried below_s (Some (text_of j.old.name)) (package_number j.old.«package»)
      (λ k e. found-in other.packages.items k (sym (ap (passes (in_list other.packages.items)) e) ∙ range)) ∙ sym (world_path other j.old)))

  -- ---- meanings

  own_means : (n : ℕ) (w : World) → world_at own n ≡ Some w → (n == bound) ≡ false → world_meaning merged w ≡ world_meaning own w
  own_means n w e apart = sym (ap (λ o. option_map_or (world_meaning merged) o no_world) (is.worlds n w e apart))
      ∙ ((merged_means own other merged bound other_bound first second left_out valid_own valid_other is).0.worlds n w e
      (λ same. no_true (sym apart ∙ subst (λ (k : ℕ). (k == bound) ≡ true) (sym same) (same-number bound))) ∙ ap (λ o. option_map_or (world_meaning own) o no_world) e)

  copy_means : (m : ℕ) (c : first.carries_world m ≡ true) → world_meaning merged (is.first_worlds m c).joined.image ≡ world_meaning other (is.first_worlds m c).joined.old
  copy_means m c =
      let j = (is.first_worlds m c).joined in
      sym (ap (λ o. option_map_or (world_meaning merged) o no_world) j.at_image)
      ∙ ((merged_means own other merged bound other_bound first second left_out valid_own valid_other is).2 m c ∙ ap (λ o. option_map_or (world_meaning other) o no_world) j.found)

  -- ---- one path

  -- a world that is copied has the path of no own one
  no_own_world : (m : ℕ) (c : first.carries_world m ≡ true) (path : Text) → path_of_world other (is.first_worlds m c).joined.old ≡ Some path → ShowsNoWorld own path
  no_own_world m c path e n w at own_e =
      let h = has-world-path other m path (ap (option_and_then (path_of_world other)) (is.first_worlds m c).joined.found ∙ e) in
      let g = has-world-path own n path (ap (option_and_then (path_of_world own)) at ∙ own_e) in
      let g_name = package-name own valid_own g.home.0 g.package_ g.stands in
      let h_name = package-name other valid_other h.home.0 h.package_ h.stands in
      let parts = one_path (identity_of g.package_.name) (identity_of h.package_.name) (text_of g.def.name) (text_of h.def.name) g_name.identity (world-label own valid_own n path g) h_name.identity
      (world-label other valid_other m path h) (sym g.spelled ∙ h.spelled) in
      elim (is.packages_stand h.home.0 h.package_ h.stands) [
        | brought high j fresh ↦ no_true (sym (fresh g.home.0 g.package_ g.stands) ∙ (same_name g.package_.name h.package_.name g_name.version h_name.version).1 parts.0)
        | grown o d j a b ↦
            let again = (same_name o.name g.package_.name (package-name own valid_own (first.packages h.home.0) o d).version g_name.version).1
            (grown_name own other merged bound other_bound first second left_out valid_own.rules valid_other.rules is h.home.0 o h.package_ d h.stands ∙ sym parts.0) in
            let home = package-once own valid_own (first.packages h.home.0) g.home.0 o g.package_ d g.stands again in
            let one : g.package_ ≡ o = same-some g.package_ o (sym g.stands ∙ (ap (package_at own) home ∙ d)) in
            let there_ : is_name (text_of g.def.name) (world_names o) ≡ true = ap (λ x. is_name (text_of g.def.name) (world_names x)) (sym one) ∙ found_name (text_of g.def.name) n
            (world_names g.package_) (listed_by_path own valid_own n path g) in
            let new = copy_found first.worlds first.carries_world left_out (world_names o) (world_names h.package_) j.new_worlds j.joined_worlds (text_of h.def.name) m
            (λ x y. let low = own_world_low own other merged bound other_bound first second left_out valid_own.rules valid_other.rules is (first.packages h.home.0) o d x (first.worlds m) y in
            let high = is.new_worlds m c in omega (arith, low, high)) (is.not_left_out m c) (listed_by_path other valid_other m path h) in
            no_true (sym new.1 ∙ (ap (λ x. is_name x (world_names o)) (sym parts.1) ∙ there_))
      ]

  module _ (path : Text) (meaning : WorldMeaning) (not_bound : path_of_world own is.own_bound ≡ Some path → ⊥) where
    copied : (m : ℕ) (c : first.carries_world m ≡ true) → path_of_world other (is.first_worlds m c).joined.old ≡ Some path → world_meaning other (is.first_worlds m c).joined.old ≡ meaning
        → ShowsWorld merged path meaning
    copied m c e d = record {
      number = first.worlds m;
      world = (is.first_worlds m c).joined.image;
      found = (is.first_worlds m c).joined.at_image;
      path_is = copy_path m c ∙ e;
      means = copy_means m c ∙ d;
    }

    back : ShowsWorld merged path meaning → ShowsWorld own path meaning ⊎ (((x : ShowsWorld other path meaning) × (left_out x.number ≡ false)) × ShowsNoWorld own path)
    back x = elim (world_case own other merged bound other_bound first second left_out valid_own.rules valid_other.rules is x.number x.world x.found) [
      | inl w ↦ inl (record { number = x.number; world = x.world; found = w.0; path_is = sym (own_path x.number x.world w.0) ∙ x.path_is; means = sym (own_means x.number x.world w.0 w.1) ∙ x.means })
      | inr v ↦ elim v [ inl b ↦ absurd (not_bound (sym bound_path ∙ (ap (path_of_world merged) b.1 ∙ x.path_is))) | inr c ↦ inr (copy c.0 c.1 c.3) ]
    ]
      where
        copy : (m : ℕ) (c : first.carries_world m ≡ true) → (is.first_worlds m c).joined.image ≡ x.world → (((y : ShowsWorld other path meaning) × (left_out y.number ≡ false)) × ShowsNoWorld own path)
        copy m c same =
            let its_path : path_of_world other (is.first_worlds m c).joined.old ≡ Some path = sym (copy_path m c) ∙ (ap (path_of_world merged) same ∙ x.path_is) in (
              (
                record {
                  number = m;
                  world = (is.first_worlds m c).joined.old;
                  found = (is.first_worlds m c).joined.found;
                  path_is = its_path;
                  means = sym (copy_means m c) ∙ (ap (world_meaning merged) same ∙ x.means);
                },
                is.not_left_out m c,
              ),
              no_own_world m c path its_path,
            )

    from_own : ShowsWorld own path meaning → ShowsWorld merged path meaning
    from_own x = by_number x.number bound (λ same. absurd (not_bound (ap (path_of_world own) (same-some is.own_bound x.world (sym is.bound_at ∙ (ap (world_at own) (sym same) ∙ x.found)))
        ∙ x.path_is))) (λ apart. record {
          number = x.number;
          world = x.world;
          found = is.worlds x.number x.world x.found apart;
          path_is = own_path x.number x.world x.found ∙ x.path_is;
          means = own_means x.number x.world x.found apart ∙ x.means;
        })

    from_other : (x : ShowsWorld other path meaning) → left_out x.number ≡ false → ShowsNoWorld own path → ShowsWorld merged path meaning
    from_other x kept none_such =
        let h = has-world-path other x.number path (ap (option_and_then (path_of_world other)) x.found ∙ x.path_is) in
        let name = text_of h.def.name in
        let held = under_contains name (world_names h.package_) x.number (some_id x.number (under_text name (world_names h.package_)) (listed_by_path other valid_other x.number path h)) in
        let brings = λ (c : first.carries_world x.number ≡ true).
        let old : (is.first_worlds x.number c).joined.old ≡ x.world = same-some (is.first_worlds x.number c).joined.old x.world (sym (is.first_worlds x.number c).joined.found ∙ x.found) in
        copied x.number c (ap (path_of_world other) old ∙ x.path_is) (ap (world_meaning other) old ∙ x.means) in
        elim (is.packages_stand h.home.0 h.package_ h.stands) [
          | brought high j fresh ↦ elim (joined_name first.worlds first.carries_world left_out [] (world_names h.package_) j.new_worlds j.joined_worlds name x.number held kept) [
            | inl c ↦ none-in (name, first.worlds x.number) c
            | inr c ↦ brings c
          ]
          | grown o at j a b ↦ elim (joined_name first.worlds first.carries_world left_out (world_names o) (world_names h.package_) j.new_worlds j.joined_worlds name x.number held kept) [
            | inr c ↦ brings c
            | inl c ↦
                let w = found_option _ (world_at own (first.worlds x.number)) (all-contained (is_world_of own (first.packages h.home.0)) (world_names o) (name, first.worlds x.number)
                (worlds_stand own valid_own.rules (first.packages h.home.0) o at) c) in
                let same : text_of w.0.name ≡ name = text-same (text_of w.0.name) name (first_true _ _ w.2) in
                let its_path : path_of_world own w.0 ≡ Some (path_in (identity_of o.name) name) = world_path own w.0
                ∙ ((λ z. path_by own (Some (same z)) (some_id (first.packages h.home.0) (package_number w.0.«package») (second_true (text_eq (text_of w.0.name) name) _ w.2) z))
                ∙ ap (option_map (λ package_. path_in (identity_of package_.name) name)) at) in
                absurd (none_such (first.worlds x.number) w.0 w.1 (its_path ∙ ap Some (ap (λ d. path_in d name)
                (grown_name own other merged bound other_bound first second left_out valid_own.rules valid_other.rules is h.home.0 o h.package_ at h.stands) ∙ sym h.spelled)))
          ]
        ]

pub worlds_are_united : WorldsAreUnited
worlds_are_united own other merged bound other_bound first second left_out valid_own valid_other distinct is = (
  bound_path own other merged bound other_bound first second left_out valid_own valid_other is,
  λ path meaning not_bound. (
    back own other merged bound other_bound first second left_out valid_own valid_other is path meaning not_bound,
    from_own own other merged bound other_bound first second left_out valid_own valid_other is path meaning not_bound,
    from_other own other merged bound other_bound first second left_out valid_own valid_other is path meaning not_bound,
  ),
)
