-- Interfaces imported one after the other.
use Rattle.std.proofs.Common.{◌≡◌, inl, inr, refl, sym, subst, ap, ◌∙◌, ℕ, zero, suc, ◌+◌, ◌<◌, ◌≤◌, true, List, [], ◌∷◌, ◌++◌, length, take, drop, Some, slice_get, is_some, arith}
use Rattle.std.proofs.lemmas.{List.Elements.Contains-append_cases, Option.same_Some as same-some}
use Rattle.std.specs.List.{Contains}
use Rattle.wit_model.specs.{Lookup.interface_path, Uses.direct_deps}
use Rattle.wit_model.specs.declared.model.{Resolve.Resolve, InterfaceId.InterfaceId}
use Rattle.encode_types.specs.Known.{UsedStand}
use Rattle.wit_encode.specs.Dependencies.{AreImportable}
use Rattle.wit_encode.proofs.ImportLoop.{earlier-at, item, number-at, numbers, take-next}
use Rattle.wit_interfaces.specs.InterfaceEncoders.{InterfaceEncoder, Imports, ImportsAll, ImportsInPart, ImportsSome, ImportsUpTo, LacksOneImport, LacksRoomToImport, LeavesInterfaces, interface_encoder_view}

pub leaves-both : (e m e' : InterfaceEncoder) → LeavesInterfaces e m → LeavesInterfaces m e' → LeavesInterfaces e e'
leaves-both e m e' first second = record {
  packages_ = second.packages_ ∙ first.packages_;
  names = second.names ∙ first.names;
  maps_ = second.maps_ ∙ first.maps_;
  stands = λ i s h. second.stands i s (first.stands i s h);
  instances = λ j h. second.instances j (first.instances j h);
  can = second.can;
}

pub import-next : (e m e' : InterfaceEncoder) (xs : List InterfaceId) (i : InterfaceId) → ImportsAll e m xs → Imports m e' i → LeavesInterfaces m e' → ImportsAll e e' (xs ++ i ∷ [])
import-next e m e' [] i h one leaves = (e', subst (λ (z : InterfaceEncoder). Imports z e' i) h one, subst (λ (z : InterfaceEncoder). LeavesInterfaces z e') h leaves, refl)
import-next e m e' (x ∷ xs) i h one leaves = (h.0, h.1, h.2, import-next h.0 m e' xs i h.3 one leaves)

item-at : (xs : List InterfaceId) (k : ℕ) → k < length xs → take k xs ++ item xs k ∷ [] ≡ take (suc k) xs
item-at [] k l = absurd (omega (arith, l))
item-at (x ∷ xs) zero l = refl
item-at (x ∷ xs) (suc k) l = ap (λ ys. x ∷ ys) (item-at xs k (omega (arith, l)))

-- the first of them, the next one, and the others
parted : (xs : List InterfaceId) (k : ℕ) → k < length xs → xs ≡ take k xs ++ item xs k ∷ drop (suc k) xs
parted [] k l = absurd (omega (arith, l))
parted (x ∷ xs) zero l = refl
parted (x ∷ xs) (suc k) l = ap (λ ys. x ∷ ys) (parted xs k (omega (arith, l)))

-- at the end of the list all have been taken
pub all-taken : (xs : List InterfaceId) (k : ℕ) → length xs ≤ k → take k (numbers xs) ≡ numbers xs
all-taken [] zero l = refl
all-taken [] (suc k) l = refl
all-taken (x ∷ xs) zero l = absurd (omega (arith, l))
all-taken (x ∷ xs) (suc k) l = ap (λ ns. x.0 ∷ ns) (all-taken xs k (omega (arith, l)))

-- what stands behind the first of these, when the next has been imported
next-stands : (ns : List ℕ) (k n j : ℕ) (P : ℕ → Type 0) → slice_get ns k ≡ Some n → ((m : ℕ) → Contains (take k ns) m → P m) → P n → Contains (take (suc k) ns) j → P j
next-stands ns k n j P at old new c = elim (Contains-append_cases (take k ns) (n ∷ []) j (subst (λ (xs : List ℕ). Contains xs j) (sym (take-next ns k n at)) c)) [
  | inl d ↦ old j d
  | inr d ↦ subst P (only n j d) new
]
  where
    only : (n j : ℕ) → Contains (n ∷ []) j → n ≡ j
    only n j (zero, l, e) = e
    only n j (suc k, l, e) = absurd (omega (arith, l))

listed : (xs : List ℕ) (j x : ℕ) → slice_get xs j ≡ Some x → Contains xs x
listed [] j x e = let wrong : ⊥ = cc in absurd wrong
listed (y ∷ xs) zero x e = (0, omega arith, same-some y x e)
listed (y ∷ xs) (suc j) x e = let rest = listed xs j x e in (suc rest.0, (let l = rest.1 in omega arith), rest.2)

-- The first of these have been imported, and the next can be.
module _ (e m : InterfaceEncoder) (xs : List InterfaceId) (k : ℕ) (inside : k < length xs) (can : AreImportable (interface_encoder_view e).scope.packages (numbers xs)) (leaves : LeavesInterfaces e m)
    (stand : (n : ℕ) → Contains (take k (numbers xs)) n → Contains (interface_encoder_view m).scope.instances n) where
  abbrev next : InterfaceId
  next = item xs k

  at : slice_get (numbers xs) k ≡ Some next.0
  at = number-at xs k inside

  pub next-named : is_some (interface_path (interface_encoder_view m).scope.packages next.0) ≡ true
  next-named = subst (λ (r : Resolve). is_some (interface_path r next.0) ≡ true) (sym leaves.packages_) (can.paths next.0 (listed (numbers xs) k next.0 at))

  pub next-uses : UsedStand (interface_encoder_view m).scope.packages (interface_encoder_view m).scope.instances next.0
  next-uses j c = stand j (earlier-at (interface_encoder_view e).scope.packages [] (numbers xs) k next.0 j can.earlier at
      (subst (λ (r : Resolve). Contains (direct_deps r next.0) j) leaves.packages_ c))

  up-to : ImportsAll e m (take k xs) → ImportsUpTo e m xs next
  up-to h = record { before = take k xs; rest = drop (suc k) xs; are = parted xs k inside; imports = h }

  pub next-lacks : ImportsAll e m (take k xs) → LacksRoomToImport m next → LacksOneImport e xs
  next-lacks h lacks = record { next = next; between = m; before = up-to h; lacks = lacks }

  pub next-in-part : (e' : InterfaceEncoder) → ImportsAll e m (take k xs) → ImportsInPart m e' next → ImportsSome e e' xs
  next-in-part e' h part = record { next = next; between = m; before = up-to h; in_part = part }

  one-more : suc k ≡ k + 1
  one-more = omega arith

  pub all-stand : (e' : InterfaceEncoder) → LeavesInterfaces m e' → Contains (interface_encoder_view e').scope.instances next.0 → (j : ℕ) → Contains (take (k + 1) (numbers xs)) j
      → Contains (interface_encoder_view e').scope.instances j
  all-stand e' more new j d = all-but e' more new j (subst (λ (n : ℕ). Contains (take n (numbers xs)) j) (sym one-more) d)
    where
      all-but : (e' : InterfaceEncoder) → LeavesInterfaces m e' → Contains (interface_encoder_view e').scope.instances next.0 → (j : ℕ) → Contains (take (suc k) (numbers xs)) j
          → Contains (interface_encoder_view e').scope.instances j
      all-but e' more new j c = next-stands (numbers xs) k next.0 j (Contains (interface_encoder_view e').scope.instances) at (λ n d. more.instances n (stand n d)) new c

  pub all-imported : (e' : InterfaceEncoder) → ImportsAll e m (take k xs) → Imports m e' next → LeavesInterfaces m e' → ImportsAll e e' (take (k + 1) xs)
  all-imported e' h one more = subst (ImportsAll e e') (item-at xs k inside ∙ ap (λ (n : ℕ). take n xs) one-more) (import-next e m e' (take k xs) next h one more)
