-- Places that are met, and numbers of places among some.
use Rattle.std.proofs.Common.{rules as std_rules, ◌≡◌, refl, ap, subst, ◌∙◌, ℕ, suc, ◌+◌, ◌<◌, arith, Bool, true, false, not, ◌||◌, ◌==◌, cond, List, [], ◌∷◌, ◌++◌, length, map, Some, is_some}
use Rattle.std.proofs.lemmas.{Bool.eqb-true, Bool.eq-eqb, Bool.lt-ltb, List.map-append}
use Rattle.std.specs.List.{AllByRecursion, flat_map, prefix_len}
use Rattle.wit_model.specs.{Text.Text, Uses.has}
use Rattle.read_exports.specs.declared.members.{Member.Member, Part.Part}
use Rattle.read_exports.specs.Members.{numbered_members, numbered_part}
use Rattle.read_rules.specs.Reached.{numbered_import}
use Rattle.plan_types.specs.{Orders.joined, Orders.joined_all, Orders.places_of_part, PlannedTypes.number_in}
use Rattle.plan_meaning.specs.NumberedMembers.{NumberedMember, NumberedPart}
use Rattle.plan_meaning.specs.NumberedViews.{NumberedSight, NumberedView, first_at}
use Rattle.plan_package.specs.{PlanWhole.places_in, Views.views_of_members, Views.views_of_part}
use Rattle.plan_package.specs.{WholeInterfaces.AreSeen, WholePackages.interface_in_part, WholePackages.interfaces_in, WholePackages.IsPlaced}
use Rattle.base_lemmas.proofs.{Lists.map_of_map as map_twice, Numbers.turned as flip}
use Rattle.plan_meaning.proofs.ReadOrder.{has_end as has_right, has_front as has_left}
use Rattle.read_exports.specs.declared.members.Part.TheVariants as parts

-- ---- numbers

low : (p : ℕ) (ps : List ℕ) → has ps p ≡ true → prefix_len (λ q. not (p == q)) ps < length ps
low p [] h = let wrong : false ≡ true = h in absurd cc
low p (q ∷ ps) h = by (p == q) (ap (λ b. b || has ps p) (flip p q) ∙ h) (low p ps)
  where
    by : (b : Bool) → (b || has ps p) ≡ true → (has ps p ≡ true → prefix_len (λ q. not (p == q)) ps < length ps) → cond (not b) (1 + prefix_len (λ q. not (p == q)) ps) 0 < suc (length ps)
    by true h later = omega arith
    by false h later = let less = later h in omega (arith, less)

pub has_number : (places : List ℕ) (p : ℕ) → has places p ≡ true → is_some (number_in places p) ≡ true
has_number places p h = search (std_rules, lt-ltb, low)

-- ---- places that are met

has_own : (ps : List ℕ) (p : ℕ) → has (p ∷ ps) p ≡ true
has_own ps p = ap (λ b. b || has ps p) (eq-eqb p p refl)

all_keep : (ps met : List ℕ) (q : ℕ) → has met q ≡ true → has (joined_all met ps) q ≡ true
all_keep [] met q h = h
all_keep (p ∷ ps) met q h = all_keep ps (joined met p) q ((search (std_rules, has_left)))

all_have : (ps met : List ℕ) (q : ℕ) → has ps q ≡ true → has (joined_all met ps) q ≡ true
all_have [] met q h = let wrong : false ≡ true = h in absurd cc
all_have (p ∷ ps) met q h = by (p == q) refl h (all_have ps (joined met p) q)
  where
    by : (b : Bool) → (p == q) ≡ b → (b || has ps q) ≡ true → (has ps q ≡ true → has (joined_all (joined met p) ps) q ≡ true) → has (joined_all (joined met p) ps) q ≡ true
    by true e h later = all_keep ps (joined met p) q (subst (λ (r : ℕ). has (joined met p) r ≡ true) (eqb-true p q e) ((search (std_rules, has_right, has_own))))
    by false e h later = later h

-- ---- the interfaces that are exported are met

interfaces_through : (P : ℕ → Type 0) (ms : List Member) → ((q : ℕ) → has (flat_map (λ m. places_of_part m.part) (numbered_members ms)) q ≡ true → P q)
    → AllByRecursion (λ (x : Text × ℕ). P x.1) (interfaces_in ms)
interfaces_through P [] f = tt
interfaces_through P (m ∷ ms) f = by m.part f (interfaces_through P ms
    (λ q h. f q (has_right (places_of_part (numbered_part m.part)) (flat_map (λ m. places_of_part m.part) (numbered_members ms)) q h)))
  where
    by : (x : Part) → ((q : ℕ) → has (places_of_part (numbered_part x) ++ flat_map (λ m. places_of_part m.part) (numbered_members ms)) q ≡ true → P q)
        → AllByRecursion (λ (x : Text × ℕ). P x.1) (interfaces_in ms) → AllByRecursion (λ (x : Text × ℕ). P x.1) (interface_in_part m.label.now x ++ interfaces_in ms)
    by (parts.World w) f rest = rest
    by (parts.Interface p v imports) f rest =
        let views = map (λ (i : ℕ × NumberedView). i.0) (map numbered_import imports.now) in
        (f p (has_left (views ++ p ∷ []) (flat_map (λ m. places_of_part m.part) (numbered_members ms)) p (has_right views (p ∷ []) p (has_own [] p))), rest)

pub exported_are_placed : (ms : List Member) → AllByRecursion (IsPlaced (places_in ms)) (interfaces_in ms)
exported_are_placed ms = interfaces_through (λ q. has (places_in ms) q ≡ true) ms (λ q h. all_have (flat_map (λ m. places_of_part m.part) (numbered_members ms)) [] q h)

-- ---- all places that are met are seen

module _ (P : ℕ → Type 0) where
  all_behind : (xs : List ℕ) (y : ℕ) → AllByRecursion P xs → P y → AllByRecursion P (xs ++ y ∷ [])
  all_behind [] y all own = (own, tt)
  all_behind (x ∷ xs) y all own = (all.0, all_behind xs y all.1 own)

  all_joined : (ps met : List ℕ) → AllByRecursion P met → AllByRecursion P ps → AllByRecursion P (joined_all met ps)
  all_joined [] met old new = old
  all_joined (p ∷ ps) met old new = all_joined ps (joined met p) (by (has met p)) new.1
    where
      by : (b : Bool) → AllByRecursion P (cond b met (met ++ p ∷ []))
      by true = old
      by false = all_behind met p old new.0

pub part_placed : (x : NumberedPart) → map (λ (s : NumberedSight). s.place) (views_of_part x) ≡ places_of_part x
part_placed x = search (std_rules, map_twice, map-append)

views_placed : (ms : List NumberedMember) → map (λ (s : NumberedSight). s.place) (views_of_members ms) ≡ flat_map (λ m. places_of_part m.part) ms
views_placed [] = refl
views_placed (m ∷ ms) = search (std_rules, part_placed, map-append, views_placed ms)

still_seen : (s : NumberedSight) (seen : List NumberedSight) (ps : List ℕ) → AreSeen seen ps → AreSeen (s ∷ seen) ps
still_seen s seen [] all = tt
still_seen s seen (p ∷ ps) all = search (std_rules, still_seen s seen ps all.1)

all_seen : (seen : List NumberedSight) → AreSeen seen (map (λ (s : NumberedSight). s.place) seen)
all_seen [] = tt
all_seen (s ∷ seen) = (ap (λ b. is_some (cond b (Some s) (first_at s.place seen))) (eq-eqb s.place s.place refl), still_seen s seen (map (λ (s : NumberedSight). s.place) seen) (all_seen seen))

pub met_are_seen : (ms : List Member) → AreSeen (views_of_members (numbered_members ms)) (places_in ms)
met_are_seen ms =
    let seen = views_of_members (numbered_members ms) in
    all_joined (λ p. is_some (first_at p seen) ≡ true) (flat_map (λ m. places_of_part m.part) (numbered_members ms)) [] tt (subst (AreSeen seen) (views_placed (numbered_members ms)) (all_seen seen))
