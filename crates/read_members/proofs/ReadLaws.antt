-- Members that are read one after the other, as packages grow.
use Rattle.std.proofs.Common.{rules as std_rules, ◌≡◌, ◌⊎◌, inl, inr, sym, ap, subst, ◌∙◌, ℕ, ◌+◌, ◌<◌, arith, List, [], ◌∷◌, ◌++◌, map, length, take, get_or, slice_get, Option, Some}
use Rattle.std.proofs.lemmas.{List.length-map, List.map-append, List.take_more, Option.slice_get-get_or, Option.same_Some as same-some}
use Rattle.wit_model.specs.{Names.PackageIdentity, Text.Text}
use Rattle.wit_model.proofs.Elements.{zip-push}
use Rattle.read_follow.specs.declared.refusal.Refusal.{Refusal}
use Rattle.read_parts.specs.declared.members.{FollowedPart.FollowedPart, Member.Member as FollowedMember}
use Rattle.read_homes.specs.Homes.{ArePackages, Grows, IsLabelled, Joins, Takes, comes, stays}
use Rattle.read_homes.proofs.PackageLaws.{stands_on}
use Rattle.comp_meaning.specs.Reads.{labelled_path}
use Rattle.plan_meaning.specs.NumberedMembers.{Homes, NumberedMember, NumberedPart, interface, world}
use Rattle.plan_meaning.specs.{NumberedRules.Fact, NumberedViews.Tables}
use Rattle.read_members.specs.declared.reading.ReadMember.{ReadMember}
use Rattle.read_members.specs.ReadMembers.{read_member, AreForMembers, AreRead, Because, IsForMember, IsMemberRead, IsPartRead}
use Rattle.base_lemmas.proofs.Lists.{at_last as last_there, front_more, last_or, mapped_get, within_there as slice_there}
use Rattle.read_parts.specs.declared.members.FollowedPart.TheVariants as followed

-- ---- items by number

-- what stands at an index
pub at_index : {X : Type 0} (xs : List X) (n : ℕ) (d x : X) → n < length xs → x ≡ get_or xs n d → slice_get xs n ≡ Some x
at_index xs n d x within is = slice_get-get_or xs n d within ∙ ap Some (sym is)

-- lists that are alike, seen so, are so at each index
pub alike_at : {A B X : Type 0} (f : A → X) (g : B → X) (xs : List A) (ys : List B) → map f xs ≡ map g ys → (n : ℕ) (d x : A) (e y : B) → n < length ys → x ≡ get_or xs n d
    → y ≡ get_or ys n e → f x ≡ g y
alike_at f g xs ys same n d x e y within at other =
    let many = sym (length-map xs f) ∙ (ap length same ∙ length-map ys g) in
    same-some (f x) (g y) (sym (mapped_get f xs n x (at_index xs n d x (omega (arith, many, within)) at)) ∙ (ap (λ zs. slice_get zs n) same ∙ mapped_get g ys n y (at_index ys n e y within other)))

-- ---- reasons

-- a reason for another
pub because : (e : Refusal) (P Q : Type 0) → (P → Q) → Because e P → Because e Q
because x y z f r = search std_rules

module _ (t : Tables) (known : ℕ → Fact) (hs : List (Option (ℕ × Text))) where
  -- these packages, with the homes of places
  abbrev among : List PackageIdentity → Homes
  among packages = record { packages = packages; homes = hs }

  module _ (old new : List PackageIdentity) (grows : Grows old new) where
    part_on : (label : Text) (x : FollowedPart) (n : ℕ) (q : NumberedPart) → IsPartRead t known (among old) label x n q → IsPartRead t known (among new) label x n q
    part_on label (followed.World path s) n (world w) read = (read.0, ((read.1.0.0, stands_on old new grows n read.1.0.0 read.1.0.1, read.1.0.2), read.1.1))
    part_on label (followed.World path s) n (interface p v is) read = read
    part_on label (followed.Interface s) n (world w) read = read
    part_on label (followed.Interface s) n (interface p v is) read = read

    all_on : (xs : List FollowedMember) (ms : List (NumberedMember × List (Option ℕ))) → AreRead t known (among old) xs ms → AreRead t known (among new) xs ms
    all_on [] [] read = read
    all_on [] (m ∷ ms) read = read
    all_on (x ∷ xs) [] read = read
    all_on (x ∷ xs) (m ∷ ms) read = (
      record { label_is = read.0.label_is; part_is = part_on x.label.now x.part m.0.package_ m.0.part read.0.part_is; parts_are = read.0.parts_are },
      all_on xs ms read.1,
    )

    pub one_more : (xs : List FollowedMember) (i : ℕ) (d : FollowedMember) → i < length xs → (ms : List ReadMember) (m : ReadMember) (after : List ReadMember) → after ≡ ms ++ m ∷ []
        → AreRead t known (among old) (take i xs) (map read_member ms) → IsMemberRead t known (among new) (get_or xs i d) (read_member m)
        → AreRead t known (among new) (take (i + 1) xs) (map read_member after)
    one_more xs i d within ms m after added before read = subst (λ (ys : List FollowedMember). AreRead t known (among new) ys (map read_member after)) (sym (take_more xs i d within))
        (subst (λ (ns : List (NumberedMember × List (Option ℕ))). AreRead t known (among new) (take i xs ++ get_or xs i d ∷ []) ns)
        (sym (ap (map read_member) added ∙ map-append read_member ms (m ∷ [])))
        (zip-push (IsMemberRead t known (among new)) (take i xs) (map read_member ms) (get_or xs i d) (read_member m) (all_on (take i xs) (map read_member ms) before) read))

-- ---- packages

-- what a label and a path add is the package of this number
joined : (old new : List PackageIdentity) (identity : PackageIdentity) → Joins old identity new → ArePackages new → (n : ℕ) → slice_get new n ≡ Some identity → (k : ℕ) → k < length new
    → (k < length old) ⊎ (n ≡ k)
joined old new identity stays are n at = λ k low. inl low
joined old new identity (comes fresh) are n at = λ k low.
    let there = slice_there (old ++ identity ∷ []) k low in
    elim (last_or old identity k there.0 there.1) [ inl earlier ↦ inl earlier.0 | inr last ↦ inr (are.apart n k identity at (there.1 ∙ ap Some (sym last.1))) ]

pub labelled_added : (old new : List PackageIdentity) → ArePackages new → (label path : Text) → Takes old (labelled_path label path) new → (n : ℕ) → IsLabelled new label path (Some n) → (k : ℕ)
    → k < length new → (k < length old) ⊎ (n ≡ k)
labelled_added old new are label path takes n is = joined old new is.0 (subst (λ (o : Option PackageIdentity). Takes old o new) is.2 takes) are n is.1

for_more : (first old new : List PackageIdentity) (ms : List (NumberedMember × List (Option ℕ))) (m : NumberedMember × List (Option ℕ)) → AreForMembers first old ms → IsForMember old new m
    → AreForMembers first new (ms ++ m ∷ [])
for_more first old new ms m all one k low = elim (one k low) [
  | inl before ↦ elim (all k before) [ inl earlier ↦ inl earlier | inr of ↦ inr (record { number = of.number; member = of.member; at = front_more ms m of.number of.member of.at; is = of.is }) ]
  | inr own ↦ inr (record { number = length ms; member = m; at = last_there ms m; is = own })
]

pub more_for : (first old new : List PackageIdentity) (ms : List ReadMember) (m : ReadMember) (after : List ReadMember) → after ≡ ms ++ m ∷ [] → AreForMembers first old (map read_member ms)
    → IsForMember old new (read_member m) → AreForMembers first new (map read_member after)
more_for first old new ms m after added all one =
    subst (AreForMembers first new) (sym (ap (map read_member) added ∙ map-append read_member ms (m ∷ []))) (for_more first old new (map read_member ms) (read_member m) all one)
