-- The parts of types that are imported.
use Rattle.std.proofs.Common.{rules as std_rules, ◌≡◌, sym, ap, ◌∙◌, subst, ℕ, List, [], ◌∷◌, map, Option, Some}
use Rattle.std.specs.List.{AllByRecursion}
use Rattle.wit_model.specs.Text.{Text}
use Rattle.plan_meaning.specs.{NumberedViews.NumberedView, NumberedViews.Tables, NumberedWorlds.NumberedSeen, Shapes.Shape}
use Rattle.read_rules.specs.declared.scopes.Seen.{Seen}
use Rattle.read_rules.specs.Scopes.{numbered_seen}
use Rattle.read_follow.specs.declared.scopes.{Seen.Seen as FollowedSeen, Shown.Shown as FollowedShown}
use Rattle.read_follow.specs.{Functions.FunctionShape, Scopes.IsImportNamed}
use Rattle.read_parts.specs.Members.{scope_of}
use Rattle.read_numbers.specs.ImportParts.{followed_part, part_followed, part_seen, ImportsAreNamed, IsNameOf, IsSeenNamed}
use Rattle.read_numbers.specs.NumberedParts.{name_in, numbered_seen as followed_seen, tables_in}

module _ (shapes : List Shape) (fs : List FunctionShape) (paths : List (Option Text)) (views : List NumberedView) (home : ℕ) where
  abbrev t : Tables
  t = tables_in shapes fs paths

  named : (s : FollowedShown) → IsImportNamed shapes home s → (part : ℕ) → followed_part s ≡ Some part → IsNameOf t home (name_in paths s) part
  named x h part e = search std_rules

  all_named : (all : List Seen) (ss : List FollowedSeen) → map numbered_seen all ≡ map (followed_seen paths views) ss → map part_seen all ≡ map part_followed ss
      → AllByRecursion (λ (s : FollowedSeen). IsImportNamed shapes home s.shown) ss → AllByRecursion (IsSeenNamed t home) all
  all_named [] ss e f h = tt
  all_named (x ∷ all) [] e f h = absurd cc
  all_named (x ∷ all) (s ∷ ss) e f h =
      let first : numbered_seen x ≡ followed_seen paths views s = cc in
      let part : part_seen x ≡ part_followed s = cc in
      let rest : map numbered_seen all ≡ map (followed_seen paths views) ss = cc in
      let parts : map part_seen all ≡ map part_followed ss = cc in (
        (λ k is. subst (λ (name : Text). IsNameOf t home name k) (sym (ap (λ (y : NumberedSeen). y.key) first)) (named s.shown h.0 k (sym part ∙ is))),
        all_named all ss rest parts h.1,
      )

pub imports_are_named : ImportsAreNamed
imports_are_named pieces x f m member at views all seen parts =
    all_named x.table x.functions x.places views (scope_of member.part).home all (scope_of member.part).imports.items seen parts (f.followed.placed m member at).placed.named
