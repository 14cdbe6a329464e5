-- How much an encoder has written, call after call.
use Rattle.std.proofs.Common.{rules as std_rules, ◌≡◌, sym, subst, ap, ◌∙◌, ℕ, zero, suc, ◌+◌, ◌≤◌, if◌then◌else◌, List, [], ◌∷◌, ◌++◌, Option, Some, None, String, Result, OnOk, arith, inl, inr}
use Rattle.std.proofs.lemmas.List.{Sums.sum_by-append, Sums.sum_by-cons, Sorted.IsPermutation-sym, Sorted.Contains-permutation, Sorted.sum_by-IsPermutation}
use Rattle.std.proofs.lemmas.List.Elements.{Contains-append_cases}
use Rattle.std.specs.{Prelude.IsPermutation, Prelude.is_some, Prelude.sum_by, List.Contains, Option.option_map_or}
use Rattle.std.specs.declared.alloc.Global.{Global}
use Rattle.wit_model.specs.{Lookup.type_at, Text.text_of, Meant.type_meaning}
use Rattle.wit_model.specs.declared.model.{Resolve.Resolve, TypeDef.TypeDef, InterfaceId.InterfaceId}
use Rattle.comp_bytes.specs.Raw.{ExternName}
use Rattle.encode_types.specs.{Kinds.kind_tree, Maps.IsKnown, Plan.foreign_owner, Scope.Scope, Scope.exported_name, View.View, View.Writes, View.WritesLearnt}
use Rattle.encode_types.specs.Extents.{tree_extent, name_extent, own_name_extent, import_extent, number_extent, known_extent}

-- ---- one call

pub written-none : (n : ℕ) (v : View) → Writes n v v
written-none n v = record { extent = omega arith }

pub written-more : {k n : ℕ} {u v w : View} → Writes k u v → Writes n v w → Writes (k + n) u w
written-more p q = record { extent = (let x = p.extent in let y = q.extent in omega arith) }

pub written-on : {n : ℕ} {u v w : View} → Writes n u v → w.extent ≡ v.extent → Writes n u w
written-on p e = record { extent = (let x = p.extent in omega (arith, e)) }

pub written-most : {k n : ℕ} {u v : View} → k ≤ n → Writes k u v → Writes n u v
written-most l p = record { extent = (let x = p.extent in omega (arith, l)) }

-- ---- what has been learnt

pub writes-nothing : (r : Resolve) (n : ℕ) (v : View) → WritesLearnt r n v v
writes-nothing r n v = record { extent = omega arith }

pub writes-along : {r : Resolve} {k n : ℕ} {u v w : View} → v.scope.own_interface ≡ u.scope.own_interface → WritesLearnt r k u v → WritesLearnt r n v w → WritesLearnt r (k + n) u w
writes-along {r} {k} {n} {u} {v} {w} s p q =
    let x = p.extent in
    let y : w.extent + known_extent r u.scope.own_interface v.maps ≤ v.extent + (known_extent r u.scope.own_interface w.maps + n) =
    subst (λ (o : Option InterfaceId). w.extent + known_extent r o v.maps ≤ v.extent + (known_extent r o w.maps + n)) s q.extent in
    record { extent = omega (arith, x, y) }

pub writes-then : {r : Resolve} {k n : ℕ} {u v w : View} → v.scope ≡ u.scope → WritesLearnt r k u v → WritesLearnt r n v w → WritesLearnt r (k + n) u w
writes-then s p q = writes-along (ap (λ (z : Scope). z.own_interface) s) p q

-- no number has been learnt by the second
pub writes-beside : {r : Resolve} {k : ℕ} {u v w : View} (n : ℕ) → WritesLearnt r k u v → w.extent ≤ v.extent + n → w.maps.id_to_index.entries ≡ v.maps.id_to_index.entries → WritesLearnt r (k + n) u w
writes-beside {r} {k} {u} {v} {w} n p l e =
    let x = p.extent in
    let same : known_extent r u.scope.own_interface w.maps ≡ known_extent r u.scope.own_interface v.maps = ap (sum_by (λ (e : ℕ × ℕ). number_extent r u.scope.own_interface e.0)) e in
    record { extent = omega (arith, x, l, same) }

pub writes-most : {r : Resolve} {k n : ℕ} {u v : View} → k ≤ n → WritesLearnt r k u v → WritesLearnt r n u v
writes-most l p = record { extent = (let x = p.extent in omega (arith, x, l)) }

-- one of the numbers takes no more than all
one-of-all : (f : ℕ × ℕ → ℕ) (xs : List (ℕ × ℕ)) (x : ℕ × ℕ) → Contains xs x → f x ≤ sum_by f xs
one-of-all f [] x (i, l, e) = absurd (let z : ⊥ = omega (arith, l) in z)
one-of-all f (y ∷ ys) x (zero, l, e) = let s = sum_by-cons f y ys in let h = ap f e in omega (arith, s, h)
one-of-all f (y ∷ ys) x (suc i, l, e) = let s = sum_by-cons f y ys in let h = one-of-all f ys x (i, omega (arith, l), e) in omega (arith, s, h)

-- a number that is new in the maps, and for which so much has been written
pub writes-number : {r : Resolve} {u v : View} (learnt : List (ℕ × ℕ)) (n : ℕ) → IsPermutation (u.maps.id_to_index.entries ++ learnt) v.maps.id_to_index.entries → IsKnown v.maps n
    → (IsKnown u.maps n → ⊥) → v.extent ≤ u.extent + number_extent r u.scope.own_interface n → WritesLearnt r 0 u v
writes-number {r} {u} {v} learnt n e known unknown l =
    let f : ℕ × ℕ → ℕ = λ e. number_extent r u.scope.own_interface e.0 in
    let all : sum_by f v.maps.id_to_index.entries ≡ sum_by f (u.maps.id_to_index.entries ++ learnt) = sum_by-IsPermutation f _ _ e in
    let both : sum_by f (u.maps.id_to_index.entries ++ learnt) ≡ sum_by f u.maps.id_to_index.entries + sum_by f learnt = sum_by-append f u.maps.id_to_index.entries learnt in
    let one : number_extent r u.scope.own_interface n ≤ sum_by f learnt =
    elim (Contains-append_cases u.maps.id_to_index.entries learnt (n, known.0) (Contains-permutation _ _ (n, known.0) (IsPermutation-sym _ _ e) known.1)) [
      | inl old ↦ absurd (unknown (known.0, old))
      | inr new ↦ one-of-all f learnt (n, known.0) new
    ] in
    record { extent = omega (arith, l, all, both, one) }

-- ---- how much a number takes

extent-is : (r : Resolve) (own : Option InterfaceId) (n : ℕ) (d : TypeDef) → type_at r n ≡ Some d
    → number_extent r own n ≡ (if is_some (foreign_owner own d.owner) then import_extent d else tree_extent (kind_tree r d.kind) + own_name_extent r d)
extent-is r own n d at = ap (λ t. option_map_or (λ def. if is_some (foreign_owner own def.owner) then import_extent def else tree_extent (kind_tree r def.kind) + own_name_extent r def) t 0) at

pub own-extent : (r : Resolve) (own : Option InterfaceId) (n : ℕ) (d : TypeDef) → type_at r n ≡ Some d → foreign_owner own d.owner ≡ None
    → number_extent r own n ≡ tree_extent (kind_tree r d.kind) + own_name_extent r d
own-extent r own n d at f = extent-is r own n d at ∙ ap (λ (o : Option InterfaceId). if is_some o then import_extent d else tree_extent (kind_tree r d.kind) + own_name_extent r d) f

pub foreign-extent : (r : Resolve) (own : Option InterfaceId) (n : ℕ) (d : TypeDef) (i : InterfaceId) → type_at r n ≡ Some d → foreign_owner own d.owner ≡ Some i
    → number_extent r own n ≡ import_extent d
foreign-extent r own n d i at f = extent-is r own n d at ∙ ap (λ (o : Option InterfaceId). if is_some o then import_extent d else tree_extent (kind_tree r d.kind) + own_name_extent r d) f

pub name-extent : (r : Resolve) (d : TypeDef) (label : String Global) (name : ExternName) → d.name ≡ Some label → name ≡ exported_name (text_of label, type_meaning r d)
    → own_name_extent r d ≡ name_extent name
name-extent r d label name is e = ap (λ (o : Option (String Global)). option_map_or (λ label. name_extent (exported_name (text_of label, type_meaning r d))) o 0) is ∙ sym (ap name_extent e)

-- ---- answers

pub on-three : {A E : Type 0} (x : Result A E) (P Q S R : Type 0) → (P → Q → S → R) → OnOk x P → OnOk x Q → OnOk x S → OnOk x R
on-three x y z u v f p q s = search std_rules
