-- What a package is refused for where it is encoded without canonical names and decoded.
use Rattle.std.proofs.Common.{rules as std_rules, ◌≡◌, ◌<◌, ◌||◌, sym, subst, ℕ, Bool, true, false, List, [], ◌∷◌, length, Some, Result, Err, IfErr, IfOk}
use Rattle.std.proofs.lemmas.{List.Elements.Contains-append_left, List.Elements.Contains-append_right}
use Rattle.std.specs.{Prelude.IsErrAnd, List.Contains}
use Rattle.wit_model.specs.declared.{error.Error.Error, model.Package.Package, model.PackageId.PackageId, model.Resolve.Resolve, model.World.World}
use Rattle.wit_model.specs.{Lookup.package_at, Valid.IsValid}
use Rattle.comp_bytes.specs.{Refusal.IsMemoryOrSize, Spelling.preamble}
use Rattle.comp_meaning.specs.{Follow.is_filled, Reads.Reads}
use Rattle.comp_read.specs.{Decoded.IsDecoded, Decoded.RefusesBytes, Order.FollowsBytes}
use Rattle.wit_encode.specs.Packages.{HasMembers, HasNoMembers, MeansPackage, RefusesPackage, RefusesWorldAt, SpellsPackageAt}
use Rattle.wit_encode.specs.{Scopes.RefusesInterface, WholeWorlds.RefusesWorld}
use Rattle.wit_encode.proofs.WholePackages.{are-worlds}
use Rattle.wit_component.specs.ReadBack.{IsReadBack, IsReadOf, RefusesReadBack}
use Rattle.wit_component.proofs.{Nothing.preamble_means_nothing, ReadBackLaws.gives_that_meaning, ReadBackLaws.has_meaning}
use Rattle.base_lemmas.proofs.{Elements.contains-one, Lists.within_there as stands}
use Rattle.wit_model.specs.declared.error.Error.TheVariants as errors

-- ---- encoding

of_interface : (r : Resolve) (n : ℕ) (e : Error) → RefusesInterface r n false e → IsMemoryOrSize e
of_interface r n e x = search std_rules

of_world : (r : Resolve) (w : World) (e : Error) → RefusesWorld r w false e → IsMemoryOrSize e
of_world r w e x = search std_rules

of_world_at : (r : Resolve) (n : ℕ) (e : Error) → n < length r.worlds.items → RefusesWorldAt r n false e → IsMemoryOrSize e
of_world_at r n e below h = let w = stands r.worlds.items n below in of_world r w.0 e (h w.0 w.1)

pub memory_or_size : (r : Resolve) → IsValid r → (n : ℕ) (p : Package) → package_at r n ≡ Some p → (e : Error) → RefusesPackage r p false e → IsMemoryOrSize e
memory_or_size r v n p at e (RefusesPackage.of_interfaces h) = of_interface r h.refused.1.0 e h.refuses
memory_or_size r v n p at e (RefusesPackage.of_worlds differ h) =
    let listed : Contains p.worlds.entries h.refused = subst (λ es. Contains es h.refused) (sym h.are)
    (Contains-append_right h.before (h.refused ∷ h.after) h.refused (Contains-append_left (h.refused ∷ []) h.after h.refused (contains-one h.refused))) in
    of_world_at r h.refused.1.0 e (are-worlds r v n p at h.refused listed) h.refuses
memory_or_size r v n p at e (RefusesPackage.of_room differ h) = h

-- an error that is handed on

pub handed_on : {X Y : Type 0} (e : Error) (given : Result X Error) → IsErrAnd given (λ d. d ≡ e) → given ≡ Err errors.Size → ◌≡◌ {A = Result Y Error} (Err e) (Err errors.Size)
handed_on e x same refused = search std_rules

pub refused_encoding : (p : Package) (e : Error) → IsMemoryOrSize e → RefusesReadBack p e
refused_encoding p x h = search std_rules

-- ---- decoding

module _ (r : Resolve) (n : ℕ) (p : Package) (bytes : List ℕ) (at : package_at r n ≡ Some p) (means : HasMembers p → MeansPackage r n bytes) where
  split : {X : Type 0} (b : Bool) → (b ≡ true → X) → (b ≡ false → X) → X
  split x holds fails = search std_rules

  pub refused_decoding : (e : Error) → RefusesBytes bytes e → RefusesReadBack p e
  refused_decoding x h = search (std_rules, has_meaning r n p)

  pub read_back : (HasNoMembers p → bytes ≡ preamble) → (s : Resolve) (k : ℕ) → IsDecoded bytes s k → IsReadBack r n s k
  read_back empty s k decoded = split (is_filled p.interfaces.entries || is_filled p.worlds.entries) (λ some. gives_that_meaning r n p bytes at (means some) s k decoded)
      (λ none. absurd (preamble_means_nothing decoded.meaning (subst (λ (bs : List ℕ). Reads bs decoded.meaning) (empty none) decoded.read)))

-- bytes are not refused for what doesn't fit
pub never_too_large : {X Q : Type 0} (bytes : List ℕ) (given : Result X Error) → IfErr given (RefusesBytes bytes) → given ≡ Err errors.Size → Q
never_too_large bytes x h refused = search std_rules

-- what is decoded of the bytes of a package
pub read_of : (r : Resolve) (n : ℕ) (bytes : List ℕ) (x : Result (Resolve × PackageId) Error) → SpellsPackageAt r false n bytes → IfOk x (λ y. IsDecoded bytes y.0 y.1.0)
    → IfOk x (λ y. FollowsBytes bytes y.0) → IfOk x (λ y. IsReadOf r n y.0 y.1.0)
read_of r n bytes x spelled decoded order = search std_rules
