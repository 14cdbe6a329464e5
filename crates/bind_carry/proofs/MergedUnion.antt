-- What a union adds, once it is added, is merged.
use Rattle.bind_add.proofs.Gains.{set_length}
use Rattle.bind_carry.proofs.{FirstOfUnion.unions_have_the_second, PackagesStand.package_stands, SecondCarried.passes_merged}
use Rattle.bind_carry.specs.{MergedUnion.UnionsAreMerged}
use Rattle.bind_match.specs.Matching.{own_interface_of, own_package_of, own_world_of}
use Rattle.std.proofs.Common.{List, ap, length, refl, subst, sym, ℕ, ◌++◌, ◌+◌, ◌∙◌, ◌≡◌, ◌≤◌}
use Rattle.std.proofs.lemmas.List.{length-append, length-map}
use Rattle.std.specs.Prelude.{slice_set}

-- as long as two lists together
both_long : {X : Type 0} (merged own front added : List X) → merged ≡ front ++ added → length front ≡ length own → length own + length added ≤ 4294967295 → length merged ≤ 4294967295
both_long merged own front added e same few = subst (λ (k : ℕ). k ≤ 4294967295) (sym (ap length e ∙ (length-append front added ∙ ap (λ k. k + length added) same))) few

pub unions_are_merged : UnionsAreMerged
unions_are_merged own other merged world other_world m w v added keys u valid_own valid_other a few at other_at by_name interfaces_by worlds_by same none agree no_world no_interface =
    let passes = unions_have_the_second own other merged world other_world m w v added keys u a at other_at agree
    (record {
      packages = ap length by_name ∙ length-map other.packages.items (own_package_of own.packages.items);
      interfaces = ap length interfaces_by ∙ length-map other.interfaces.items (own_interface_of own m.packages.items);
      worlds = ap length worlds_by ∙ length-map other.worlds.items (own_world_of own m.packages.items);
    }) by_name same none in
    passes_merged own other merged valid_own valid_other world other_world w v m u.carried u.types passes.0 u.second.copied u.second.interfaces u.second.types passes.1 (record {
      few_packages = both_long merged.packages.items own.packages.items a.packages.0 added.packages.items a.packages.2 a.packages.1.count few.packages;
      few_interfaces = both_long merged.interfaces.items own.interfaces.items own.interfaces.items added.interfaces.items a.interfaces refl few.interfaces;
      few_worlds = both_long merged.worlds.items own.worlds.items (slice_set own.worlds.items world (a.worlds w at).0) added.worlds.items (a.worlds w at).2
          (set_length own.worlds.items world (a.worlds w at).0) few.worlds;
      few_types = both_long merged.types.items own.types.items own.types.items added.types.items a.types refl few.types;
      packages_stand = package_stands own other merged valid_own valid_other m u.carried u.types passes.0 passes.1.names interfaces_by worlds_by no_world no_interface;
    })
