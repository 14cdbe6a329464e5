-- What the sections mean is what the rules of reading make of what is followed.
use Rattle.std.proofs.Common.{rules as std_rules, ◌≡◌, refl, ap, ◌∙◌, List, [], ◌∷◌, Option, Some, None}
use Rattle.wit_model.specs.{Text.Text}
use Rattle.comp_bytes.specs.{Levels.PartType, Levels.wraps, Levels.shows, Reading.◌>>=◌}
use Rattle.comp_meaning.specs.ByLevels.{exported_parts, member_by_levels, package_of_pieces, part_by_levels, world_of_pieces}
use Rattle.comp_meaning.specs.{Follow.each, Reads.Member, Reads.package_of_members, Reads.world_of_members}
use Rattle.read_parts.specs.Followed.{PartScope, labelled_scope, member_of_scope, part_of_scope, part_scope, scopes_in, scopes_of, PackageByScopes, WorldByScopes}

-- ---- one test behind another

pub each_both : {A B C : Type 0} (f : A → Option B) (g : B → Option C) (h : A → Option C) → ((x : A) → h x ≡ (f x >>= g)) → (xs : List A) → each h xs ≡ (each f xs >>= λ ys. each g ys)
each_both f g h same [] = refl
each_both {A = A} {B = B} {C = C} f g h same (x ∷ xs) = ap (λ o. o >>= λ z. each h xs >>= λ zs. Some (z ∷ zs)) (same x) ∙ first (f x) (each f xs) (each_both f g h same xs)
  where
    nothing : (o : Option C) → (o >>= λ z. let none : Option (List C) = None in none) ≡ None
    nothing None = refl
    nothing (Some z) = refl

    first : (o : Option B) (p : Option (List B)) → each h xs ≡ (p >>= each g) → ((o >>= g) >>= λ z. each h xs >>= λ zs. Some (z ∷ zs)) ≡ ((o >>= λ y. p >>= λ ys. Some (y ∷ ys)) >>= each g)
    first None p rest = refl
    first (Some y) None rest = ap (λ q. g y >>= λ z. q >>= λ zs. Some (z ∷ zs)) rest ∙ nothing (g y)
    first (Some y) (Some ys) rest = ap (λ q. g y >>= λ z. q >>= λ zs. Some (z ∷ zs)) rest

-- ---- one part

pub part_law : (label : Text) (p : PartType) → part_by_levels label p ≡ (part_scope p >>= part_of_scope label)
part_law label (wraps es name) = search std_rules
part_law label (shows es) = search std_rules

pub member_law : (x : Text × PartType) → member_by_levels x ≡ (labelled_scope x >>= member_of_scope)
member_law x = search (std_rules, part_law)

-- ---- all parts

module _ {M : Type 0} (whole : List Member → Option M) (empty : whole [] ≡ None) where
  joined : (o : Option (List (Text × PartScope))) → ((o >>= each member_of_scope) >>= whole) ≡ (o >>= λ scopes. each member_of_scope scopes >>= whole)
  joined x = search std_rules

  by_scopes : (o : Option (List (Text × PartType))) → (o >>= λ parts. each member_by_levels parts >>= whole) ≡ ((o >>= scopes_in) >>= λ scopes. each member_of_scope scopes >>= whole)
  by_scopes None = refl
  by_scopes (Some []) = empty
  by_scopes (Some (x ∷ xs)) = ap (λ q. q >>= whole) (each_both labelled_scope member_of_scope member_by_levels member_law (x ∷ xs)) ∙ joined (each labelled_scope (x ∷ xs))

pub package_by_scopes : PackageByScopes
unfolding package_of_pieces scopes_of
package_by_scopes pieces = by_scopes package_of_members refl (exported_parts pieces)

pub world_by_scopes : WorldByScopes
unfolding world_of_pieces scopes_of
world_by_scopes pieces = by_scopes world_of_members refl (exported_parts pieces)
