-- The interfaces of what was merged, by path, are those of both.
use Rattle.std.proofs.Common.{rules as std_rules, ◌≡◌, refl, ◌⊎◌, inl, inr, sym, ap, ◌∙◌, ℕ, ◌≤◌, arith, Bool, true, false, [], length, Option, Some, None, option_map, option_and_then}
use Rattle.std.proofs.lemmas.{Bool.lt-ltb, Bool.cases_lt as low_or_high, Option.slice_get_within}
use Rattle.std.specs.Prelude.{String}
use Rattle.std.specs.declared.alloc.Global.{Global}
use Rattle.wit_model.specs.declared.model.{Resolve.Resolve, Interface.Interface}
use Rattle.wit_model.specs.{Text.Text, Text.text_of, Text.optional_text, Checks.references, Names.path_in, Lookup.interface_at, Lookup.interface_path, Lookup.path_of_interface, Lookup.identity_of, Meant.interface_meaning_at, Meaning.InterfaceMeaning, Rules.is_id, Rules.text_is, Rules.package_number, Valid.Keeps, Valid.IsValid, Valid.HasDistinctKeys}
use Rattle.wit_model.proofs.{Elements.none-in, OnePath.has-path, OnePath.path-listed, OnePath.path-once, OnePath.found-in, RulesLemmas.is_id_some as some_id}
use Rattle.bind_union.specs.{Carried.Renumbering, Merged.interface_names, Merged.grown, Merged.brought, Merged.IsCopyUnder, Merged.IsMerged}
use Rattle.bind_union.specs.Meanings.{OwnMeansTheSame, CopiesMeanTheSame, Shows, ShowsNone, InterfacesAreUnited}
use Rattle.bind_union.proofs.{KeptPackages.grown_name, KeptPackages.is_interface_of, KeptPackages.interfaces_stand, KeptPackages.found_option, Namesakes.under_contains, Carrying.path_parts, Carrying.path_by, Carrying.path_same, Meanings.merged_means, Valid.merged_is_valid, Kept.below, PackageNames.joined_name, PackageNames.interfaces_by_name, Listed.under_text}
use Rattle.base_lemmas.proofs.{Bools.left_of as first_true, Bools.right_of as second_true, Elements.all-contained}

pub some_name : (o : Option (String Global)) (t : Text) → text_is o t ≡ true → optional_text o ≡ Some t
some_name x t h = search std_rules

-- an interface without a name has no path
no_name_no_path : (r : Resolve) (n : ℕ) (i : Interface) → interface_at r n ≡ Some i → i.name ≡ None → interface_path r n ≡ None
no_name_no_path r n i e h = search std_rules

module _ (own other merged : Resolve) (bound other_bound : ℕ) (first second : Renumbering) (left_out : ℕ → Bool) (valid_own : IsValid own) (valid_other : IsValid other) (distinct : HasDistinctKeys merged) (is : IsMerged own other merged bound other_bound first second left_out) where
  valid : IsValid merged
  valid = merged_is_valid own other merged bound other_bound first second left_out valid_own valid_other distinct is

  ours : OwnMeansTheSame own merged bound
  ours = (merged_means own other merged bound other_bound first second left_out valid_own valid_other is).0

  theirs : CopiesMeanTheSame other merged first
  theirs = (merged_means own other merged bound other_bound first second left_out valid_own valid_other is).1

  below_s : Keeps references merged
  below_s = below own other merged bound other_bound first second left_out valid_own.rules valid_other.rules is

  module _ (path : Text) (meaning : InterfaceMeaning) where
    from_own : Shows own path meaning → Shows merged path meaning
    from_own x =
        let h = has-path own x.0 path x.1 in
        let m = ours.interfaces x.0 h.def h.there in
        (x.0, m.1 ∙ x.1, m.0 ∙ x.2)

    copied : (m : ℕ) → first.copies_interface m ≡ true → (interface_meaning_at merged (first.interfaces m) ≡ interface_meaning_at other m)
        × (interface_path merged (first.interfaces m) ≡ interface_path other m)
    copied m copy = theirs.interfaces m copy

    new_path : (n : ℕ) → length own.interfaces.items ≤ n → interface_path merged n ≡ Some path → ShowsNone own path
    new_path n high e k at =
        let h = has-path own k path at in
        let m = ours.interfaces k h.def h.there in
        let same = path-once merged valid k n path (m.1 ∙ at) e in
        let low = slice_get_within own.interfaces.items k h.def h.there in
        omega (arith, high, low, same)

    back : Shows merged path meaning → Shows own path meaning ⊎ (Shows other path meaning × ShowsNone own path)
    back (n, e, d) = elim (low_or_high n (length own.interfaces.items)) [
      | inl low ↦ inl (own_one (found-in own.interfaces.items n (lt-ltb n (length own.interfaces.items) low)))
      | inr high ↦ inr (copy high (is.interface_from n high (slice_get_within merged.interfaces.items n (has-path merged n path e).def (has-path merged n path e).there)))
    ]
      where
        own_one : (x : Interface) × (interface_at own n ≡ Some x) → Shows own path meaning
        own_one x = let m = ours.interfaces n x.0 x.1 in (n, sym m.1 ∙ e, sym m.0 ∙ d)

        copy : length own.interfaces.items ≤ n → IsCopyUnder first.interfaces first.copies_interface n ⊎ IsCopyUnder second.interfaces second.copies_interface n → Shows other path meaning
            × ShowsNone own path
        copy high (inl c) = search (std_rules, copied, new_path)
        copy high (inr c) =
            let carried = is.second_copies.carried.copied_interfaces c.0 c.1 in
            let i = is.second_copies.carried.interfaces c.0 carried in
            let nothing : interface_path other c.0 ≡ None = no_name_no_path other c.0 i.old i.found (is.second_inline c.0 i.old c.1 i.found) in
            let same : interface_path merged (second.interfaces c.0) ≡ interface_path other c.0 = path_same other merged second valid_other.rules is.second_copies.carried below_s c.0 carried in
            let wrong : None ≡ Some path = sym nothing ∙ (sym same ∙ (ap (interface_path merged) c.2 ∙ e)) in absurd cc

    from_other : Shows other path meaning → ShowsNone own path → Shows merged path meaning
    from_other (n, e, d) none_such =
        let h = has-path other n path e in
        let name = text_of h.name in
        let held = under_contains name (interface_names h.package_) n
        (some_id n (under_text name (interface_names h.package_)) (sym (ap (is_id n) (interfaces_by_name h.package_ name)) ∙ path-listed other valid_other n path h)) in
        let brings : first.copies_interface n ≡ true → Shows merged path meaning = λ copy. let m = copied n copy in (first.interfaces n, m.1 ∙ e, m.0 ∙ d) in
        let joined = joined_name first.interfaces first.copies_interface (λ n. false) in
        elim (is.packages_stand h.home.0 h.package_ h.stands) [
          | brought high j fresh ↦ elim (joined [] (interface_names h.package_) j.new_interfaces j.joined_interfaces name n held refl) [
            | inl c ↦ none-in (name, first.interfaces n) c
            | inr c ↦ brings c
          ]
          | grown o at j a b ↦ elim (joined (interface_names o) (interface_names h.package_) j.new_interfaces j.joined_interfaces name n held refl) [
            | inr c ↦ brings c
            | inl c ↦
                let i = found_option _ (interface_at own (first.interfaces n)) (all-contained (is_interface_of own (first.packages h.home.0)) (interface_names o) (name, first.interfaces n)
                (interfaces_stand own valid_own.rules (first.packages h.home.0) o at) c) in
                let its_path : interface_path own (first.interfaces n) ≡ Some (path_in (identity_of o.name) name) = ap (option_and_then (path_of_interface own)) i.1
                ∙ (path_parts own i.0
                ∙ ((λ z. path_by own (some_name i.0.name name (first_true _ _ i.2) z) (some_id (first.packages h.home.0) (package_number i.0.«package») (second_true (text_is i.0.name name) _ i.2) z))
                ∙ ap (option_map (λ package_. path_in (identity_of package_.name) name)) at)) in
                absurd (none_such (first.interfaces n) (its_path ∙ ap Some (ap (λ x. path_in x name)
                (grown_name own other merged bound other_bound first second left_out valid_own.rules valid_other.rules is h.home.0 o h.package_ at h.stands) ∙ sym h.spelled)))
          ]
        ]

pub interfaces_are_united : InterfacesAreUnited
interfaces_are_united own other merged bound other_bound first second left_out valid_own valid_other distinct is path meaning = (
  back own other merged bound other_bound first second left_out valid_own valid_other distinct is path meaning,
  from_own own other merged bound other_bound first second left_out valid_own valid_other distinct is path meaning,
  from_other own other merged bound other_bound first second left_out valid_own valid_other distinct is path meaning,
)
