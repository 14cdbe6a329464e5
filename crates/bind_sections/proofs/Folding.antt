-- What sections bind is what comes of the bindings that their data mean, in each order.
use Rattle.std.proofs.Common.{◌≡◌, ℕ, List, [], ◌∷◌, refl, sym, ap, subst}
use Rattle.bind_meaning.specs.{Binding.Binding, ByMeaning.binding_of_world, Orders.Folds, Orders.IsPutInto, Orders.IsReordered, Roots.root_binding, Union.union}
use Rattle.bind_meaning.specs.Clash.{CanUnite}
use Rattle.wit_metadata.specs.Modules.{Framed}
use Rattle.bind_sections.specs.Bound.{Binds, CarryData}
use Rattle.bind_sections.specs.Orders.{AreBindingsOf, IsDataPutInto, IsReorderedData, ModulesInEachOrder, SectionsFold, SectionsInEachOrder}
use Rattle.bind_sections.proofs.BoundLaws.{one-data, one-reading}
use Rattle.bind_meaning.specs.Orders as orders
use Rattle.bind_meaning.proofs.EachOrder as each
use Rattle.bind_sections.specs.Orders as sections

to-fold : (a c : Binding) (ds : List (List ℕ)) → Binds a ds c → (bs : List Binding) × AreBindingsOf ds bs × Folds a bs c
to-fold a c [] h = ([], tt, h)
to-fold a c (d ∷ ds) h =
    let b = binding_of_world h.0 h.1 in
    let r = to-fold (union a b) c ds h.4 in
    (b ∷ r.0, ((h.0, h.1, h.2, refl), r.1), (h.3, r.2))

from-fold : (a c : Binding) (ds : List (List ℕ)) (bs : List Binding) → AreBindingsOf ds bs → Folds a bs c → Binds a ds c
from-fold a c [] [] are h = h
from-fold a c [] (b ∷ bs) are h = absurd are
from-fold a c (d ∷ ds) [] are h = absurd are
from-fold a c (d ∷ ds) (b ∷ bs) are h =
    let m = are.0.0 in
    let e = are.0.1 in
    let f = subst (λ (x : Binding). CanUnite a x × Folds (union a x) bs c) are.0.3 h in
    (m, e, are.0.2, f.0, from-fold (union a (binding_of_world m e)) c ds bs are.1 f.1)

pub sections_fold : SectionsFold
sections_fold a c ds = (to-fold a c ds, λ h. from-fold a c ds h.0 h.1 h.2)

-- what is put in among data is put in among what they mean
put-in : (d : List ℕ) (b : Binding) (es fs : List (List ℕ)) (cs : List Binding) → AreBindingsOf (d ∷ []) (b ∷ []) → AreBindingsOf es cs → IsDataPutInto d es fs → (gs : List Binding)
    × AreBindingsOf fs gs × IsPutInto b cs gs
put-in d b es fs cs is are (sections.here ds) = (b ∷ cs, (is.0, are), orders.here cs)
put-in d b es fs [] is are (sections.later x ds hs p) = absurd are
put-in d b es fs (c ∷ cs) is are (sections.later x ds hs p) =
    let r = put-in d b ds hs cs is are.1 p in
    (c ∷ r.0, (are.0, r.1), orders.later c cs r.0 r.2)

reordered : (ds es : List (List ℕ)) (bs : List Binding) → AreBindingsOf ds bs → IsReorderedData ds es → (cs : List Binding) × AreBindingsOf es cs × IsReordered bs cs
reordered ds es [] are sections.none = ([], tt, orders.none)
reordered ds es (b ∷ bs) are sections.none = absurd are
reordered ds es [] are (sections.put d hs is fs r p) = absurd are
reordered ds es (b ∷ bs) are (sections.put d hs is fs r p) =
    let s = reordered hs is bs are.1 r in
    let t = put-in d b is fs s.0 (are.0, tt) s.1 p in
    (t.0, t.1, orders.put b bs s.0 t.0 s.2 t.2)

pub sections_in_each_order : SectionsInEachOrder
sections_in_each_order ds es c same binds =
    let f = to-fold root_binding c ds binds in
    let r = reordered ds es f.0 f.1 same in
    let g = (each.every_order_folds f.0 r.0 r.2).0 (c, f.2) in
    (g.0, from-fold root_binding g.0 es r.0 r.1 g.1, each.orders_give_the_same f.0 r.0 c g.0 r.2 f.2 g.1)

pub modules_in_each_order : ModulesInEachOrder
modules_in_each_order input other fs gs ds es c stand carry there carried same bound =
    let read = one-reading input fs bound.sections [] [] stand bound.stand in
    let is : ds ≡ bound.data_ = one-data bound.sections ds bound.data_ (subst (λ (xs : List Framed). CarryData xs ds) (ap (λ (r : List Framed × List ℕ). r.0) read) carry) bound.carry in
    let found = sections_in_each_order ds es c same (subst (λ (xs : List (List ℕ)). Binds root_binding xs c) (sym is) bound.binds) in
    (found.0, record { sections = gs; stand = there; data_ = es; carry = carried; binds = found.1 }, found.2)
