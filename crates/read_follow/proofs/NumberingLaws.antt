-- Parts that are declared one after the other, each there already or the next one.
use Rattle.std.proofs.Common.{rules as std_rules, ◌≡◌, refl, sym, ap, ◌∙◌, subst, ℕ, ◌+◌, ◌<◌, ◌≤◌, arith, inl, List, [], ◌∷◌, ◌++◌, map, length, length-append, drop, Some, None, slice_get}
use Rattle.std.proofs.lemmas.{Grind.flat_map-append, List.append-nil, Option.slice_get_within as found_below}
use Rattle.std.specs.List.{AllByRecursion, flat_map}
use Rattle.wit_model.specs.{Meaning.Signature, Tree.Tree}
use Rattle.comp_meaning.specs.Follow.{Instance as MeantInstance, Scope as MeantScope, Seen as MeantSeen, Slot as Meant}
use Rattle.read_follow.specs.declared.slots.Slot.{Slot}
use Rattle.read_follow.specs.Numbering.{all_in, bare_parts, parts_in, scoped_trees, slot_parts, slot_trees, trees_since, used_trees, CountUp, IsNext}
use Rattle.read_follow.specs.Slots.{resource_slot, slots_in, AreNames, IsName}
use Rattle.plan_meaning.specs.Shapes.{Shape, part_tree, Adds, stays, comes}
use Rattle.base_lemmas.proofs.Lists.{append_of_map, last_or}
use Rattle.read_follow.specs.declared.slots.Slot.TheVariants as slots

-- ---- counting up

pub count_both : (from : ℕ) (ps : List ℕ) (mid : ℕ) (qs : List ℕ) (to : ℕ) → CountUp from ps mid → CountUp mid qs to → CountUp from (ps ++ qs) to
count_both from [] mid qs to first rest = subst (λ (n : ℕ). CountUp n qs to) (sym first) rest
count_both from (p ∷ ps) mid qs to first rest = (first.0, first.1, count_both first.0 ps mid qs to first.2 rest)

pub next_rises : (p n m : ℕ) → IsNext p n m → (n ≤ m) × (p < 14 + m)
next_rises p n m x = search std_rules

pub count_rises : (from : ℕ) (ps : List ℕ) (to : ℕ) → CountUp from ps to → from ≤ to
count_rises from [] to same = omega (arith, same)
count_rises from (p ∷ ps) to c = search (std_rules, next_rises, count_rises c.0 ps to c.2)

pub count_below : (from : ℕ) (ps : List ℕ) (to : ℕ) → CountUp from ps to → AllByRecursion (λ p. p < 14 + to) ps
count_below from [] to same = tt
count_below from (p ∷ ps) to c = search (std_rules, next_rises, count_rises, count_below c.0 ps to c.2)

-- ---- parts with their scopes

pub bare_all : {S : Type 0} (scope : S) (ps : List ℕ) → bare_parts (all_in scope ps) ≡ ps
bare_all scope [] = refl
bare_all scope (p ∷ ps) = ap (λ qs. p ∷ qs) (bare_all scope ps)

pub scoped_all : {S : Type 0} (T : List Tree) (scope : S) (ps : List ℕ) → all_in scope (map (part_tree T) ps) ≡ scoped_trees T (all_in scope ps)
scoped_all T scope [] = refl
scoped_all T scope (p ∷ ps) = ap (λ ts. (scope, part_tree T p) ∷ ts) (scoped_all T scope ps)

pub count_scoped : {S : Type 0} (from : ℕ) (ps : List (S × ℕ)) (mid : ℕ) (qs : List (S × ℕ)) (to : ℕ) → CountUp from (bare_parts ps) mid → CountUp mid (bare_parts qs) to
    → CountUp from (bare_parts (ps ++ qs)) to
count_scoped from ps mid qs to first rest = search (std_rules, append_of_map, count_both)

-- ---- a part that comes into a table

pub adds_next : (old new : List Shape) (s : Shape) (n : ℕ) → Adds old s new → slice_get new n ≡ Some s → IsNext (14 + n) (length old) (length new)
adds_next old new s n stays at = let low = found_below old n s at in inl (omega (arith, low), refl)
adds_next old new s n (comes fresh) at = search (std_rules, last_or, length-append)

-- ---- slots

pub parts_pushed : (old ss : List Slot) (s : Slot) → ss ≡ old ++ s ∷ [] → parts_in ss ≡ parts_in old ++ slot_parts s
parts_pushed old ss s next = ap parts_in next ∙ (flat_map-append slot_parts old (s ∷ []) ∙ ap (λ ps. parts_in old ++ ps) (append-nil (slot_parts s)))

pub count_pushed : (old ss : List Slot) (s : Slot) (n m : ℕ) → ss ≡ old ++ s ∷ [] → CountUp n (slot_parts s) m → (from : ℕ) → CountUp from (parts_in old) n → CountUp from (parts_in ss) m
count_pushed old ss s n m next one from before = search (std_rules, parts_pushed, count_both)

-- a resource stands for its name
name_trees : (t : Tree) → IsName t → slot_trees (resource_slot t) ≡ t ∷ []
name_trees x h = search std_rules

-- what slots declare are the trees of their parts
pub slots_declare : (T : List Tree) (F : List Signature) (ss : List Slot) → AreNames T ss → flat_map slot_trees (slots_in T F ss) ≡ map (part_tree T) (parts_in ss)
slots_declare T F [] h = refl
slots_declare T F (slots.Value part ∷ ss) h = ap (λ ts. part_tree T part ∷ ts) (slots_declare T F ss h)
slots_declare T F (slots.Resource part ∷ ss) h = search (std_rules, name_trees, slots_declare T F ss h.1)
slots_declare T F (slots.Function n ∷ ss) h = slots_declare T F ss h
slots_declare T F (slots.Instance b n ∷ ss) h = slots_declare T F ss h

-- ---- scopes

pub dropped : {X : Type 0} (xs ys : List X) → drop (length xs) (xs ++ ys) ≡ ys
dropped [] ys = refl
dropped (x ∷ xs) ys = dropped xs ys

-- what is declared in a scope with these more
pub since_plus : (m : MeantScope) (ss : List Meant) (is : List MeantInstance) (im ex : List MeantSeen) (us : List ℕ)
    → trees_since m (record { slots = m.slots ++ ss; instances = m.instances ++ is; imports = m.imports ++ im; exports = m.exports ++ ex; used = m.used ++ us })
    ≡ all_in None (flat_map slot_trees ss) ++ used_trees (m.slots ++ ss) (length m.instances) is us
since_plus m ss is im ex us = search (std_rules, dropped)
