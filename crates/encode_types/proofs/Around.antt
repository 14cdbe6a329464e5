-- Aliases that are made in the scope around.
use Rattle.std.proofs.Common.{◌≡◌, refl, subst, ap, ◌∙◌, List, [], ◌∷◌, ◌++◌}
use Rattle.wit_model.specs.declared.model.{Resolve.Resolve, TypeId.TypeId}
use Rattle.encode_types.specs.{Slots.SlotsGrow, View.Told, View.View, View.Grows}
use Rattle.encode_types.specs.Known.{Around, Aliased, with_alias, with_aliases, AreAliases, GrowsAround, ReachesAround, as_before, aliased}

pub around-same : {r : Resolve} {a a' : Around} → a' ≡ a → GrowsAround r a a'
around-same e = record { made = []; are = tt; is = e }

pub with-both : (a : Around) (xs ys : List Aliased) → with_aliases (with_aliases a xs) ys ≡ with_aliases a (xs ++ ys)
with-both a [] ys = refl
with-both a (x ∷ xs) ys = with-both (with_alias a x) xs ys

pub are-both : (r : Resolve) (a : Around) (xs ys : List Aliased) → AreAliases r a xs → AreAliases r (with_aliases a xs) ys → AreAliases r a (xs ++ ys)
are-both r a [] ys p q = q
are-both r a (x ∷ xs) ys p q = (p.0, are-both r (with_alias a x) xs ys p.1 q)

pub around-trans : {r : Resolve} {a b c : Around} → GrowsAround r a b → GrowsAround r b c → GrowsAround r a c
around-trans {r} {a} {b} {c} p q = record {
  made = p.made ++ q.made;
  are = are-both r a p.made q.made p.are (subst (λ (z : Around). AreAliases r z q.made) p.is q.are);
  is = q.is ∙ ap (λ (z : Around). with_aliases z q.made) p.is ∙ with-both a p.made q.made;
}

pub reaches-grows : {r : Resolve} {id : TypeId} {a a' : Around} → ReachesAround r id a a' → GrowsAround r a a'
reaches-grows (as_before e) = around-same e
reaches-grows (aliased x is n e) = record { made = x ∷ []; are = (is, tt); is = e }

-- a call that adds slots, and makes no alias around
pub slots-grow : {v v' : View} → SlotsGrow v.stands v'.stands v.slot_count v'.slot_count → v'.around ≡ v.around → ((told : Told) → v.own told → v'.own told) → Grows v v'
slots-grow g e own = record { kept = g.kept; more = g.more; around_ = around-same e; own_ = own }
