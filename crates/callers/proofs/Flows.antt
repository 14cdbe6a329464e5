-- What a call says, said of what is made of its answer.
use Rattle.std.proofs.Common.{rules as std_rules, ◌≡◌, ◌<◌, ℕ, List, length, ap, subst, Result, MatchResult, slice_get}
use Rattle.std.proofs.lemmas.Option.{slice_get_within}
use Rattle.std.specs.Prelude.{OnOk}
use Rattle.wit_model.specs.declared.model.{Package.Package, Resolve.Resolve, WorldId.WorldId}
use Rattle.wit_bind.specs.declared.bindgen.Bindgen.{Bindgen}
use Rattle.wit_component.specs.{BoundTo.BeginsWithRoot, Carried.MeansWorld, DecodedWorlds.IsDecodedWorld, Extends.Extends, Roots.IsRoot, Valid.IsValid}
use Rattle.callers.specs.Carried.{MeansTheSame}

-- what is true of each value is true of an answer

pub on-ok : {X E : Type 0} (A B : Type 0) (F : E → Type 0) → (A → B) → (r : Result X E) → MatchResult r (λ x. A) F → OnOk r B
on-ok x y z f u h = search std_rules

-- The first package is still there.
pub some-left : (old new : Resolve) (k : ℕ) → BeginsWithRoot old → Extends old new k → 0 < length new.packages.items
some-left old new k root extends = search (std_rules, slice_get_within)

pub root-left : (own : Bindgen) (new : Resolve) (k : ℕ) → IsRoot own → Extends own.resolve new k → 0 < length new.packages.items
root-left own new k root extends =
    let grown = extends.packages 0 root.holds.package_ (ap (λ (ps : List Package). slice_get ps 0) root.holds.packages) in
    slice_get_within new.packages.items 0 grown.0 grown.1

-- What was decoded of bytes that mean what a world does means the same.
pub same-world : (r : Resolve) (n : ℕ) (bytes sent : List ℕ) → bytes ≡ sent → MeansWorld r n sent → (x : Resolve × WorldId) → IsDecodedWorld bytes x.0 x.1.0 → MeansTheSame r n x.0 x.1.0
same-world r n bytes sent is means x decoded =
    let here = subst (λ (b : List ℕ). IsDecodedWorld b x.0 x.1.0) is decoded in
    record { world = here.world; stands = here.stands; same = λ m. (λ h. (here.meant m).1 ((means m).0 h), λ h. (means m).1 ((here.meant m).0 h)) }

pub valid-world : (bytes : List ℕ) (x : Resolve × WorldId) → IsDecodedWorld bytes x.0 x.1.0 → IsValid x.0
valid-world bytes x decoded = decoded.valid
