-- The scopes of types: a type is over names of its scope's place and of places with a path.
use Rattle.std.proofs.Common.{rules as std_rules, ◌≡◌, sym, ap, ◌∙◌, subst, ℕ, ◌+◌, ◌<◌, List, [], ◌∷◌, ◌++◌, map, length, Option, Some, None, slice_get}
use Rattle.std.proofs.lemmas.List.{append-nil}
use Rattle.std.specs.List.{AllByRecursion, Contains, flat_map}
use Rattle.wit_model.specs.{Meaning.Signature, Text.Text, Tree.Place, Tree.Tree}
use Rattle.read_follow.specs.declared.{scopes.Instance.Instance, scopes.Seen.Seen, slots.Slot.Slot}
use Rattle.read_follow.specs.{Defining.Grows, Facts.places, Functions.functions_in, Functions.FunctionShape, Slots.slot_in, Slots.slots_in, Slots.AreNames}
use Rattle.read_follow.specs.{Following.AreTables, Following.IsSlotIn, Placed.apart, Placed.MayMeet, Placed.SlotOver, Placed.TreeOver, Places.has_path}
use Rattle.read_follow.specs.Numbering.{all_in, bare_parts, parts_in, slot_parts, slot_trees, CountUp}
use Rattle.read_follow.specs.Scopes.{meant_at, AreScopedIn, IsPartOver, IsScopedIn, IsWorld, World}
use Rattle.plan_meaning.specs.Shapes.{Shape, part_tree, shape_trees}
use Rattle.read_follow.proofs.{DefiningLaws.part_grown, FollowingLaws.names_of, ScopeLaws.extended, ScopeLaws.IsNumbered}
use Rattle.read_follow.proofs.{NumberingLaws.bare_all, NumberingLaws.scoped_all, NumberingLaws.slots_declare, PlacedLaws.met_wider, PlacedLaws.stands_on}
use Rattle.base_lemmas.proofs.{Elements.all_at_too, Lists.at_last, Lists.mapped_get}
use Rattle.read_follow.specs.declared.slots.Slot.TheVariants as slots

-- ---- slots

-- the parts of slots are over what the slots are over
pub parts_over : (P : Place → Type 0) (T : List Tree) (F : List Signature) (ss : List Slot) → AreNames T ss → AllByRecursion (SlotOver P) (slots_in T F ss)
    → AllByRecursion (λ part. TreeOver P (part_tree T part)) (parts_in ss)
parts_over P T F [] h over = tt
parts_over P T F (slots.Value part ∷ ss) h over = (over.0, parts_over P T F ss h over.1)
parts_over P T F (slots.Resource part ∷ ss) h over = ((search std_rules), parts_over P T F ss h.1 over.1)
parts_over P T F (slots.Function n ∷ ss) h over = parts_over P T F ss h over.1
parts_over P T F (slots.Instance b n ∷ ss) h over = parts_over P T F ss h over.1

-- ---- the parts of a scope

pub own_scoped : (w : World) (ps : List ℕ) → AllByRecursion (IsPartOver w w.home) ps → AreScopedIn w (all_in None ps)
own_scoped w [] h = tt
own_scoped w (p ∷ ps) h = (h.0, own_scoped w ps h.1)

pub instance_scoped : (w : World) (j : ℕ) (x : Instance) → slice_get w.instances j ≡ Some x → (ps : List ℕ) → AllByRecursion (IsPartOver w x.place) ps → AreScopedIn w (all_in (Some j) ps)
instance_scoped w j x at [] h = tt
instance_scoped w j x at (p ∷ ps) h = ((x, at, h.0), instance_scoped w j x at ps h.1)

-- they stay in it when it goes on
module _ (old new : World) (gs : Grows old.shapes new.shapes) (gp : Grows old.paths new.paths) (home : new.home ≡ old.home) (gi : Grows old.instances new.instances) where
  still_over : (q part : ℕ) → part < 14 + length old.shapes → IsPartOver old q part → IsPartOver new q part
  still_over q part low over x c = met_wider old.paths new.paths gp q x (over x (subst (λ (t : Tree). Contains (places t) x) (part_grown apart old.shapes new.shapes gs part low) c))

  pub still_scoped : (s : Option ℕ) (part : ℕ) → part < 14 + length old.shapes → IsScopedIn old s part → IsScopedIn new s part
  still_scoped None part low over = subst (λ (q : ℕ). IsPartOver new q part) (sym home) (still_over old.home part low over)
  still_scoped (Some j) part low over = (over.0, stands_on old.instances new.instances gi j over.0 over.1, still_over over.0.place part low over.2)

  pub all_still_scoped : (ps : List (Option ℕ × ℕ)) → AllByRecursion (λ k. k < 14 + length old.shapes) (bare_parts ps) → AreScopedIn old ps → AreScopedIn new ps
  all_still_scoped [] low h = tt
  all_still_scoped (p ∷ ps) low h = (still_scoped p.0 p.1 low.0 h.0, all_still_scoped ps low.1 h.1)

-- ---- a slot more

module _ (old : World) (st : IsWorld old) (more : List Shape) (more_fs : List FunctionShape) (more_paths : List (Option Text)) (gs : Grows old.shapes more) (gf : Grows old.signatures more_fs)
    (gp : Grows old.paths more_paths) (tables : AreTables (length more_paths) more more_fs) (s : Slot) (im ex : List Seen) where
  -- what it declares is declared in the scope itself
  pub slot_numbered : IsSlotIn more more_fs s → CountUp (length old.shapes) (slot_parts s) (length more)
      → IsNumbered old st more more_fs more_paths gs gf gp tables (s ∷ []) [] im ex [] (all_in None (parts_in (s ∷ [])))
  slot_numbered inside counted = (
    subst (λ (ps : List ℕ). CountUp (length old.shapes) ps (length more)) (sym (bare_all None (parts_in (s ∷ [])) ∙ append-nil (slot_parts s))) counted,
    (λ place of.
        let U = shape_trees place more in
        let G = functions_in U more_fs in
        append-nil (all_in None (flat_map slot_trees (slots_in U G (s ∷ []))))
        ∙ (ap (all_in None) (slots_declare U G (s ∷ []) (names_of place more more_fs (s ∷ []) tables.table (inside, tt))) ∙ scoped_all U None (parts_in (s ∷ [])))),
    (λ base places p.
        let U = shape_trees apart more in
        let G = functions_in U more_fs in
        let w = extended old st more more_fs more_paths gs gf gp tables (s ∷ []) [] im ex [] in
        let P = MayMeet (map has_path more_paths) old.home in
        let one = all_at_too (SlotOver P) (meant_at apart w).slots p.slots (length old.slots) (slot_in U G s)
        (mapped_get (slot_in U G) (old.slots ++ s ∷ []) (length old.slots) s (at_last old.slots s)) in
        own_scoped w (parts_in (s ∷ [])) (parts_over P U G (s ∷ []) (names_of apart more more_fs (s ∷ []) tables.table (inside, tt)) (one, tt))),
  )
