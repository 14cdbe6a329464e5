-- What is merged of two bindings stands for their union.
use Rattle.std.proofs.Common.{rules as std_rules, ◌≡◌, refl, sym, ap, subst, ◌∙◌, ◌⊎◌, inl, inr, ℕ, ◌<◌, length, Bool, true, false, not, ◌||◌, cond, List, [], ◌∷◌, ◌++◌, map, Option, Some, None, option_and_then, unwrap_or, Contains}
use mathlib.Core.Bool.{true≢false}
use Rattle.std.specs.{List.AllByRecursion, List.IsDistinct, List.list_any, Ordering.eq_by_cmp, Option.option_map_or, Cmp.Lexicographic.nat_list_cmp_total, FinMap.get, FinMap.same_map, FinMap.nat_cmp-IsAntisymmetric, FinMap.slice_cmp-IsAntisymmetric}
use Rattle.std.proofs.lemmas.List.{Folds.list_any-append, Elements.Contains-append_cases, Elements.Contains-append_left, Elements.Contains-append_right}
use Rattle.std.proofs.lemmas.Option.{slice_get_within, same_Some as same-some}
use Rattle.wit_model.specs.declared.model.{Package.Package, Resolve.Resolve, StringEncoding.StringEncoding, World.World, WorldItem.WorldItem, WorldKey.WorldKey}
use Rattle.wit_model.specs.declared.model.WorldId.{WorldId}
use Rattle.wit_model.specs.{Text.Text, Text.TextMap, Text.text_cmp, Text.text_eq, Meaning.Entry, Meaning.InterfaceMeaning, Meaning.WorldMeaning, Lookup.identity_of, Lookup.key_text, Lookup.package_at, Lookup.path_of_world, Lookup.world_at, Valid.IsValid, Meant.entries_meaning, Meant.interface_meaning_at, Meant.no_world, Meant.world_meaning, Meant.world_meaning_at, Rules.are_distinct}
use Rattle.wit_model.proofs.Elements.{contains-get}
use Rattle.bind_match.specs.Matching.{is_root_world}
use Rattle.bind_meaning.specs.{Binding.Binding, Binding.package_text, Encodings.Encodings, Roots.root_path, Union.joined_world, Union.union, Union.united, ByNumbers.package_texts, ByNumbers.world_path_at, Clash.Agree, Clash.CanUnite, Clash.itself}
use Rattle.bind_meaning.proofs.{Listed.from-map, Listed.same-texts, WorldPaths.path_at}
use Rattle.bind_meaning.proofs.Maps.{by_tie, first_of_two, get-put, get-united, get-without, itself_ties}
use Rattle.bind_meaning.proofs.WorldBindings.{exports-distinct, imports-distinct, interface-found, interface-under, world-found, world-path, world-under}
use Rattle.bind_union.specs.{Carried.IsSameName, Laws.MergedIsValid}
use Rattle.bind_union.specs.Meanings.{BoundMeans, HaveDistinctTexts, Shows, ShowsNone, ShowsNoWorld, ShowsWorld}
use Rattle.bind_union.proofs.{Carrying.same_identity, United.interfaces_are_united, UnitedWorlds.worlds_are_united}
use Rattle.bind_clash.proofs.PathsMatched.{has-root, root-has, world-path-of}
use Rattle.wit_bind.specs.declared.bindgen.Bindgen.{Bindgen}
use Rattle.bind_keys.specs.Unions.{Gains, or_else}
use Rattle.wit_bind.specs.{Bindings.binding_of, Bindings.IsBindgen, MergedLaws.IsUnited, MergedLaws.UnitedAreTheUnion}
use Rattle.base_lemmas.proofs.{Bools.left_of as first_true, Bools.right_of as second_true, Elements.contains-map, Elements.get-contains}
use Rattle.std.specs.FinSet as set

-- ---- maps and sets

one-map : {X : Type 0} (m n : TextMap X) → ((q : Text) → get m q ≡ get n q) → m ≡ n
one-map m n = same_map nat_list_cmp_total (slice_cmp-IsAntisymmetric nat_cmp-IsAntisymmetric) m n

one-set : (a b : List Text) → set.union (set.from_list {R = text_cmp} a) (set.from_list b) ≡ set.from_list (a ++ b)
one-set a b = set.same_set nat_list_cmp_total (slice_cmp-IsAntisymmetric nat_cmp-IsAntisymmetric) _ _
    (λ q. set.contains-union nat_list_cmp_total (set.from_list {R = text_cmp} a) (set.from_list b) q
    ∙ ((λ i. set.contains-from_list nat_list_cmp_total a q i || set.contains-from_list nat_list_cmp_total b q i)
    ∙ (sym (list_any-append (eq_by_cmp text_cmp q) a b) ∙ sym (set.contains-from_list nat_list_cmp_total (a ++ b) q))))

nothing : {X : Type 0} {P : Type 0} (o : Option X) (x : X) → o ≡ None → o ≡ Some x → P
nothing o x e f = let no : None ≡ Some x = sym e ∙ f in let wrong : ⊥ = cc in absurd wrong

-- ---- encodings

gained-is : (o p : Option StringEncoding) → Agree itself o p → or_else p o ≡ first_of_two o p
gained-is x y h = search std_rules

gained : (more old new : Encodings) → ((k : Text) → Agree itself (get old k) (get more k)) → Gains more old new → new ≡ united old more
gained more old new agree gains = one-map new (united old more) (λ k. gains k ∙ (gained-is (get old k) (get more k) (agree k) ∙ sym (get-united old more k)))

-- ---- keys

distinct-of : (ts : List Text) → are_distinct ts ≡ true → IsDistinct text_eq ts
unfolding IsDistinct
distinct-of [] h = tt
distinct-of (t ∷ ts) h = (apart ts (first_true (not (list_any (text_eq t) ts)) _ h), distinct-of ts (second_true (not (list_any (text_eq t) ts)) _ h))
  where
    step : (b c : Bool) → not (b || c) ≡ true → (b ≡ false) × (not c ≡ true)
    step true c e = absurd (true≢false (sym e))
    step false c e = (refl, e)

    apart : (us : List Text) → not (list_any (text_eq t) us) ≡ true → AllByRecursion (λ y. text_eq t y ≡ false) us
    apart [] e = tt
    apart (u ∷ us) e = let s = step (text_eq t u) (list_any (text_eq t) us) e in (s.0, apart us s.1)

texts-of : (r : Resolve) (es : List (WorldKey × WorldItem)) → map (λ (e : Text × Entry InterfaceMeaning). e.0) (entries_meaning r es) ≡ map (λ (e : WorldKey × WorldItem). key_text r e.0) es
texts-of r [] = refl
texts-of r (e ∷ es) = ap (λ ts. key_text r e.0 ∷ ts) (texts-of r es)

have-distinct : (r : Resolve) (es : List (WorldKey × WorldItem)) → are_distinct (map (λ (e : Text × Entry InterfaceMeaning). e.0) (entries_meaning r es)) ≡ true → HaveDistinctTexts r es
have-distinct r es h = subst (IsDistinct text_eq) (texts-of r es) (distinct-of _ h)

-- ---- worlds by path

shown-world : (r : Resolve) (n : ℕ) (path : Text) (x : WorldMeaning) → path_at r n ≡ Some path → world_meaning_at r n ≡ x → ShowsWorld r path x
shown-world r n path x under means = by (world_at r n) refl under means
  where
    by : (o : Option World) → world_at r n ≡ o → option_and_then (path_of_world r) o ≡ Some path → option_map_or (world_meaning r) o no_world ≡ x → ShowsWorld r path x
    by None at e f = let no : None ≡ Some path = e in let wrong : ⊥ = cc in absurd wrong
    by (Some w) at e f = record { number = n; world = w; found = at; path_is = e; means = f }

under-path : (r : Resolve) (path : Text) (x : WorldMeaning) (s : ShowsWorld r path x) → path_at r s.number ≡ Some path
under-path r path x s = ap (option_and_then (path_of_world r)) s.found ∙ s.path_is

meant-there : (r : Resolve) (path : Text) (x : WorldMeaning) (s : ShowsWorld r path x) → world_meaning_at r s.number ≡ x
meant-there r path x s = ap (λ (o : Option World). option_map_or (world_meaning r) o no_world) s.found ∙ s.means

module _ (merged_is_valid : MergedIsValid) (bound_means : BoundMeans) (own other new : Bindgen) (o : IsBindgen own) (t : IsBindgen other) (can : CanUnite (binding_of own) (binding_of other)) (u : IsUnited own other new) where
  abbrev r : Resolve
  r = own.resolve

  abbrev s : Resolve
  s = other.resolve

  abbrev m : Resolve
  m = new.resolve

  abbrev A : Binding
  A = binding_of own

  abbrev B : Binding
  B = binding_of other

  valid : IsValid m
  valid = merged_is_valid r s m own.world.0 other.world.0 u.first u.second u.left_out o.valid t.valid u.distinct u.merged

  -- ---- interfaces

  interfaces-of : (path : Text) (meaning : InterfaceMeaning) → (Shows m path meaning → Shows r path meaning ⊎ (Shows s path meaning × ShowsNone r path)) × (Shows r path meaning → Shows m path meaning)
      × (Shows s path meaning → ShowsNone r path → Shows m path meaning)
  interfaces-of = interfaces_are_united r s m own.world.0 other.world.0 u.first u.second u.left_out o.valid t.valid u.distinct u.merged

  found-new : (q : Text) (x : InterfaceMeaning) → Shows m q x → get (binding_of new).interfaces q ≡ Some x
  found-new q x h = interface-found m valid h.0 q h.1 ∙ ap Some h.2

  found-own : (q : Text) (x : InterfaceMeaning) → Shows r q x → get A.interfaces q ≡ Some x
  found-own q x h = interface-found r o.valid h.0 q h.1 ∙ ap Some h.2

  found-other : (q : Text) (x : InterfaceMeaning) → Shows s q x → get B.interfaces q ≡ Some x
  found-other q x h = interface-found s t.valid h.0 q h.1 ∙ ap Some h.2

  interface-at : (q : Text) → get (binding_of new).interfaces q ≡ first_of_two (get A.interfaces q) (get B.interfaces q)
  interface-at q = by (get A.interfaces q) (get B.interfaces q) (get (binding_of new).interfaces q) refl refl refl
    where
      none-own : get A.interfaces q ≡ None → ShowsNone r q
      none-own e n h = nothing (get A.interfaces q) (interface_meaning_at r n) e (interface-found r o.valid n q h)

      by : (a b c : Option InterfaceMeaning) → get A.interfaces q ≡ a → get B.interfaces q ≡ b → get (binding_of new).interfaces q ≡ c → c ≡ first_of_two a b
      by (Some x) b c e f g =
          let h = interface-under r q x e in
          sym g ∙ found-new q x ((interfaces-of q x).1 (h.number, h.under, h.means))
      by None (Some y) c e f g =
          let h = interface-under s q y f in
          sym g ∙ found-new q y ((interfaces-of q y).2 (h.number, h.under, h.means) (none-own e))
      by None None None e f g = refl
      by None None (Some z) e f g =
          let h = interface-under m q z g in
          elim ((interfaces-of q z).0 (h.number, h.under, h.means)) [ inl x ↦ nothing (get A.interfaces q) z e (found-own q z x) | inr x ↦ nothing (get B.interfaces q) z f (found-other q z x.0) ]

  interfaces : (binding_of new).interfaces ≡ united A.interfaces B.interfaces
  interfaces = one-map _ _ (λ q. interface-at q ∙ sym (get-united A.interfaces B.interfaces q))

  -- ---- worlds

  bound-at : world_at m own.world.0 ≡ Some u.merged.joined.image
  bound-at = ap (world_at m) (sym u.merged.bound_there) ∙ u.merged.joined.at_image

  bound-path : (q : Text) → path_at m own.world.0 ≡ path_at r own.world.0
  bound-path q = search (std_rules, bound-at, worlds_are_united r s m own.world.0 other.world.0 u.first u.second u.left_out o.valid t.valid u.distinct u.merged)

  -- the bound world has a path
  own-path : (q : Text) × (path_at r own.world.0 ≡ Some q)
  own-path = world-path r o.valid own.world.0 u.merged.own_bound u.merged.bound_at

  path-is : A.path ≡ own-path.0
  path-is = ap (λ (p : Option Text). unwrap_or p []) own-path.1

  -- it means what both bound worlds mean
  bound-meant : world_meaning m u.merged.joined.image ≡ joined_world A.bound B.bound
  bound-meant =
      let w = u.merged.joined.image in
      let both = bound_means r s m own.world.0 other.world.0 u.first u.second u.left_out o.valid t.valid u.merged
      (have-distinct m w.imports.entries (imports-distinct m valid own.world.0 w bound-at)) (have-distinct m w.exports.entries (exports-distinct m valid own.world.0 w bound-at)) in
      let ours : A.bound ≡ world_meaning r u.merged.own_bound = ap (λ (o : Option World). option_map_or (world_meaning r) o no_world) u.merged.bound_at in
      let theirs : B.bound ≡ world_meaning s u.merged.joined.old = ap (λ (o : Option World). option_map_or (world_meaning s) o no_world) u.merged.joined.found in
      let joined : world_meaning m w ≡ joined_world (world_meaning r u.merged.own_bound) (world_meaning s u.merged.joined.old) = λ i. record { imports = both.0 i; exports = both.1 i } in
      joined ∙ (λ i. joined_world (sym ours i) (sym theirs i))

  bound-here : world_meaning_at m own.world.0 ≡ joined_world A.bound B.bound
  bound-here = ap (λ (o : Option World). option_map_or (world_meaning m) o no_world) bound-at ∙ bound-meant

  world-new : (q : Text) (x : WorldMeaning) → ShowsWorld m q x → get (binding_of new).worlds q ≡ Some x
  world-new q x h = world-found m valid h.number q (under-path m q x h) ∙ ap Some (meant-there m q x h)

  world-own : (q : Text) (x : WorldMeaning) → ShowsWorld r q x → get A.worlds q ≡ Some x
  world-own q x h = world-found r o.valid h.number q (under-path r q x h) ∙ ap Some (meant-there r q x h)

  world-other : (q : Text) (x : WorldMeaning) → ShowsWorld s q x → get B.worlds q ≡ Some x
  world-other q x h = world-found s t.valid h.number q (under-path s q x h) ∙ ap Some (meant-there s q x h)

  -- what is left out is at the root world's path
  left-out-root : (q : Text) (x : WorldMeaning) (h : ShowsWorld s q x) → eq_by_cmp text_cmp q root_path ≡ false → u.left_out h.number ≡ false
  left-out-root q x h e = by (is_root_world s h.world) refl (u.root h.number h.world h.found)
    where
      by : (b : Bool) → is_root_world s h.world ≡ b → u.left_out h.number ≡ is_root_world s h.world → u.left_out h.number ≡ false
      by false f g = g ∙ f
      by true f g =
          let at : q ≡ root_path = root-has s t.valid h.world q (world-path-of s t.valid h.number h.world h.found q h.path_is) f in
          absurd (true≢false (sym (ap (λ (p : Text). eq_by_cmp text_cmp p root_path) at ∙ itself_ties root_path) ∙ e))

  root-left-out : (q : Text) (x : WorldMeaning) (h : ShowsWorld s q x) → eq_by_cmp text_cmp q root_path ≡ true → u.left_out h.number ≡ false → ⊥
  root-left-out q x h e f =
      let is : is_root_world s h.world ≡ true = has-root s t.valid h.world q (world-path-of s t.valid h.number h.world h.found q h.path_is) (by_tie q root_path e) in
      true≢false (sym is ∙ (sym (u.root h.number h.world h.found) ∙ f))

  abbrev WorldsOf : Text → WorldMeaning → Type 0
  WorldsOf path meaning = (ShowsWorld m path meaning → ShowsWorld r path meaning ⊎ (((x : ShowsWorld s path meaning) × (u.left_out x.number ≡ false)) × ShowsNoWorld r path))
      × (ShowsWorld r path meaning → ShowsWorld m path meaning) × ((x : ShowsWorld s path meaning) → u.left_out x.number ≡ false → ShowsNoWorld r path → ShowsWorld m path meaning)

  module _ (q : Text) (apart : eq_by_cmp text_cmp q own-path.0 ≡ false) where
    not-bound : path_of_world r u.merged.own_bound ≡ Some q → ⊥
    not-bound e = search (std_rules, own-path, same-some, itself_ties, apart)

    worlds-of : (x : WorldMeaning) → WorldsOf q x
    worlds-of x = (worlds_are_united r s m own.world.0 other.world.0 u.first u.second u.left_out o.valid t.valid u.distinct u.merged).1 q x not-bound

    no-own : get A.worlds q ≡ None → ShowsNoWorld r q
    no-own e n w at f = nothing (get A.worlds q) (world_meaning_at r n) e (world-found r o.valid n q (ap (option_and_then (path_of_world r)) at ∙ f))

    other-worlds : get (binding_of new).worlds q ≡ first_of_two (get A.worlds q) (cond (eq_by_cmp text_cmp q root_path) None (get B.worlds q))
    other-worlds = by (get A.worlds q) (get B.worlds q) (get (binding_of new).worlds q) refl refl refl (eq_by_cmp text_cmp q root_path) refl
      where
        by : (a b c : Option WorldMeaning) → get A.worlds q ≡ a → get B.worlds q ≡ b → get (binding_of new).worlds q ≡ c → (z : Bool) → eq_by_cmp text_cmp q root_path ≡ z
            → c ≡ first_of_two a (cond z None b)
        by (Some x) b c e f g z k =
            let h = world-under r q x e in
            sym g ∙ world-new q x ((worlds-of x).1 (shown-world r h.number q x h.under h.means))
        by None (Some y) c e f g false k =
            let h = world-under s q y f in
            let w = shown-world s h.number q y h.under h.means in
            sym g ∙ world-new q y ((worlds-of y).2 w (left-out-root q y w k) (no-own e))
        by None b None e f g true k = refl
        by None b (Some y) e f g true k =
            let h = world-under m q y g in
            elim ((worlds-of y).0 (shown-world m h.number q y h.under h.means)) [ inl x ↦ nothing (get A.worlds q) y e (world-own q y x) | inr x ↦ absurd (root-left-out q y x.0.0 k x.0.1) ]
        by None None None e f g false k = refl
        by None None (Some y) e f g false k =
            let h = world-under m q y g in
            elim ((worlds-of y).0 (shown-world m h.number q y h.under h.means)) [
              | inl x ↦ nothing (get A.worlds q) y e (world-own q y x)
              | inr x ↦ nothing (get B.worlds q) y f (world-other q y x.0.0)
            ]

  world-at-path : (q : Text)
      → get (binding_of new).worlds q ≡ cond (eq_by_cmp text_cmp q A.path) (Some (joined_world A.bound B.bound))
      (first_of_two (get A.worlds q) (cond (eq_by_cmp text_cmp q root_path) None (get B.worlds q)))
  world-at-path q = subst (λ (p : Text). get (binding_of new).worlds q ≡ cond (eq_by_cmp text_cmp q p) (Some (joined_world A.bound B.bound))
      (first_of_two (get A.worlds q) (cond (eq_by_cmp text_cmp q root_path) None (get B.worlds q)))) (sym path-is) (by (eq_by_cmp text_cmp q own-path.0) refl)
    where
      by : (b : Bool) → eq_by_cmp text_cmp q own-path.0 ≡ b
          → get (binding_of new).worlds q ≡ cond b (Some (joined_world A.bound B.bound)) (first_of_two (get A.worlds q) (cond (eq_by_cmp text_cmp q root_path) None (get B.worlds q)))
      by true e = world-found m valid own.world.0 q (bound-path q ∙ (own-path.1 ∙ ap Some (sym (by_tie q own-path.0 e)))) ∙ ap Some bound-here
      by false e = other-worlds q e

  worlds : (binding_of new).worlds ≡ (union A B).worlds
  worlds = search (std_rules, one-map, world-at-path, get-put, get-united, first_of_two, get-without)

  -- ---- packages

  abbrev text-of : Package → Text
  text-of p = package_text (identity_of p.name)

  same-text-of : (p q : Package) → IsSameName p.name q.name → text-of q ≡ text-of p
  same-text-of p q same = ap package_text (same_identity p.name q.name same)

  named-here : (n : ℕ) (p : Package) (x : Text) → package_at m n ≡ Some p → text-of p ≡ x → Contains (package_texts m) x
  named-here n p x at e = subst (Contains (package_texts m)) e (contains-map text-of m.packages.items p (get-contains m.packages.items n p at))

  own-named : (n : ℕ) (p q : Package) → package_at r n ≡ Some p → package_at m n ≡ Some q → Contains (package_texts r) (text-of q)
  own-named n p q at new-at =
      let k = u.merged.packages n p at in
      let one : k.0 ≡ q = same-some k.0 q (sym k.1 ∙ new-at) in
      subst (Contains (package_texts r)) (sym (same-text-of p k.0 k.2) ∙ ap text-of one) (contains-map text-of r.packages.items p (get-contains r.packages.items n p at))

  package-there : (x : Text) → Contains (package_texts m) x → Contains (package_texts r ++ package_texts s) x
  package-there x c =
      let p = from-map text-of m.packages.items x c in
      let n = contains-get m.packages.items p.0 p.1.0 in
      subst (Contains (package_texts r ++ package_texts s)) p.1.1 (elim (u.merged.package_from n.0 (slice_get_within m.packages.items n.0 p.0 n.1)) [
        | inl k ↦ Contains-append_left (package_texts r) (package_texts s) (text-of p.0) (own-named n.0 k.old p.0 k.found n.1)
        | inr k ↦ Contains-append_right (package_texts r) (package_texts s) (text-of p.0) (let h = u.merged.first_copies.carried.packages k.number k.old k.found in
            let one : h.image ≡ p.0 = same-some h.image p.0 (sym h.at_image ∙ (ap (package_at m) k.here ∙ n.1)) in
            subst (Contains (package_texts s)) (sym (same-text-of k.old h.image h.name) ∙ ap text-of one)
            (contains-map text-of s.packages.items k.old (get-contains s.packages.items k.number k.old k.found)))
      ])

  package-here : (x : Text) → Contains (package_texts r ++ package_texts s) x → Contains (package_texts m) x
  package-here x c = elim (Contains-append_cases (package_texts r) (package_texts s) x c) [
    | inl d ↦ (let p = from-map text-of r.packages.items x d in
        let n = contains-get r.packages.items p.0 p.1.0 in
        let k = u.merged.packages n.0 p.0 n.1 in
        named-here n.0 k.0 x k.1 (same-text-of p.0 k.0 k.2 ∙ p.1.1))
    | inr d ↦ (let p = from-map text-of s.packages.items x d in
        let n = contains-get s.packages.items p.0 p.1.0 in
        let k = u.merged.first_copies.carried.packages n.0 p.0 n.1 in
        named-here (u.first.packages n.0) k.image x k.at_image (same-text-of p.0 k.image k.name ∙ p.1.1))
  ]

  packages : (binding_of new).packages ≡ set.union A.packages B.packages
  packages = same-texts (package_texts m) (package_texts r ++ package_texts s) package-there package-here ∙ sym (one-set (package_texts r) (package_texts s))

  -- ---- all

  number : new.world.0 ≡ own.world.0
  number = ap (λ (w : WorldId). w.0) u.world

  path : (binding_of new).path ≡ A.path
  path = ap (world_path_at m) number ∙ ap (λ (p : Option Text). unwrap_or p []) (bound-path [])

  bound : (binding_of new).bound ≡ joined_world A.bound B.bound
  bound = ap (world_meaning_at m) number ∙ bound-here

  is-bindgen : IsBindgen new
  is-bindgen = record { valid = valid; in_range = subst (λ (n : ℕ). n < length m.worlds.items) (sym number) (slice_get_within m.worlds.items own.world.0 u.merged.joined.image bound-at) }

  is-union : binding_of new ≡ union A B
  is-union = λ i. record {
    packages = packages i;
    interfaces = interfaces i;
    worlds = worlds i;
    path = path i;
    bound = bound i;
    imported_encodings = gained other.metadata.import_encodings own.metadata.import_encodings new.metadata.import_encodings can.imported_encodings u.imports i;
    exported_encodings = gained other.metadata.export_encodings own.metadata.export_encodings new.metadata.export_encodings can.exported_encodings u.exports i;
  }

pub united_are_the_union : MergedIsValid → BoundMeans → UnitedAreTheUnion
united_are_the_union valid_law bound_law own other new o t can u = (is-bindgen valid_law bound_law own other new o t can u, is-union valid_law bound_law own other new o t can u)
