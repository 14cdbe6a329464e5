-- The types of the table are those that the parts declare, part by part.
use Rattle.std.proofs.Common.{rules as std_rules, ◌≡◌, refl, sym, ap, ◌∙◌, subst, ℕ, suc, ◌+◌, ◌<◌, ◌≤◌, arith, List, [], ◌∷◌, ◌++◌, map, drop, length, length-append, append_assoc, get_or, Option}
use Rattle.std.proofs.{Math.ListN.drop_of_length-le, lemmas.List.drop_more}
use Rattle.std.specs.List.{AllByRecursion}
use Rattle.wit_model.specs.{Text.Text, Tree.Tree}
use Rattle.comp_bytes.specs.Levels.{PartType}
use Rattle.read_follow.specs.{Functions.FunctionShape, Numbering.bare_parts, Numbering.scoped_trees, Numbering.CountUp, Scopes.world_of, Scopes.AreScopedIn}
use Rattle.read_follow.specs.PartTypes.{raw_part_type}
use Rattle.plan_meaning.specs.Shapes.{Shape, part_tree, shape_trees}
use Rattle.read_follow.proofs.{ComponentLaws.places_before, ScopedLaws.still_scoped}
use Rattle.read_follow.proofs.{DefiningLaws.same_list, DefiningLaws.scoped_grown, NumberingLaws.count_below, NumberingLaws.count_scoped}
use Rattle.read_parts.specs.declared.{exported.ExportedPart.ExportedPart, members.Member.Member}
use Rattle.read_parts.specs.Exported.{raw_exported}
use Rattle.read_parts.specs.Members.{in_part, scope_of, trees_from, AreNumberedTo, DeclaringScope, IsPartFollowed, IsScopedBy}
use Rattle.base_lemmas.proofs.{Elements.all_both, Lists.append_of_map, Lists.at_last, Lists.front_more}

-- nothing is followed
pub none_numbered : (raws : List (Text × PartType)) (shapes : List Shape) (fs : List FunctionShape) (paths : List (Option Text)) (ms : List Member) → shapes ≡ [] → ms ≡ []
    → AreNumberedTo raws raws shapes fs paths ms
none_numbered raws shapes fs paths ms none no_members = search std_rules

-- ---- the parts of one part at the top

bare_in : (k : ℕ) (ps : List (Option ℕ × ℕ)) → bare_parts (in_part k ps) ≡ bare_parts ps
bare_in k [] = refl
bare_in k (p ∷ ps) = ap (λ qs. p.1 ∷ qs) (bare_in k ps)

scoped_in : (T : List Tree) (k : ℕ) (ps : List (Option ℕ × ℕ)) → scoped_trees T (in_part k ps) ≡ in_part k (scoped_trees T ps)
scoped_in T k [] = refl
scoped_in T k (p ∷ ps) = ap (λ ts. ((k, p.0), part_tree T p.1) ∷ ts) (scoped_in T k ps)

-- they are those of this member
new_scoped : (shapes : List Shape) (fs : List FunctionShape) (paths : List (Option Text)) (ms : List Member) (m : Member) (ps : List (Option ℕ × ℕ))
    → AreScopedIn (world_of shapes fs paths (scope_of m.part)) ps → AllByRecursion (IsScopedBy shapes fs paths (ms ++ m ∷ [])) (in_part (length ms) ps)
new_scoped shapes fs paths ms m [] h = tt
new_scoped shapes fs paths ms m (p ∷ ps) h = ((m, at_last ms m, h.0), new_scoped shapes fs paths ms m ps h.1)

module _ (xs : List ExportedPart) where
  abbrev raws : List (Text × PartType)
  raws = map raw_exported xs

  abbrev left : ℕ → List (Text × PartType)
  left i = map raw_exported (drop i xs)

  -- nothing is left
  pub none_left : (i : ℕ) → length xs ≤ i → left i ≡ []
  none_left i past = ap (map raw_exported) (drop_of_length-le xs past)

  -- one part more
  pub one_numbered : (i : ℕ) (shapes : List Shape) (fs : List FunctionShape) (paths : List (Option Text)) (ms : List Member) → AreNumberedTo raws (left i) shapes fs paths ms
      → (d : ExportedPart) → i < length xs → (shapes' : List Shape) (fs' : List FunctionShape) (paths' : List (Option Text)) (m : Member) (new : List Member) → new ≡ ms ++ m ∷ []
      → IsPartFollowed shapes fs paths (raw_part_type (get_or xs i d).part) shapes' fs' paths' m.part → AreNumberedTo raws (left (i + 1)) shapes' fs' paths' new
  one_numbered i shapes fs paths ms n d more shapes' fs' paths' m new last s =
      let one : ExportedPart = get_or xs i d in
      let first : drop i xs ≡ one ∷ drop (i + 1) xs = drop_more xs i d more in
      let k = length ms in
      let low = count_below 0 (bare_parts n.parts) (length shapes) n.counted in
      subst (λ (ns : List Member). AreNumberedTo raws (left (i + 1)) shapes' fs' paths' ns) (sym last) (record {
        parts = n.parts ++ in_part k s.parts;
        counted = count_scoped 0 n.parts (length shapes) (in_part k s.parts) (length shapes') n.counted
            (subst (λ (ks : List ℕ). CountUp (length shapes) ks (length shapes')) (sym (bare_in k s.parts)) s.counted);
        trees = λ place of.
            let T = shape_trees place shapes in
            let U = shape_trees place shapes' in
            let behind = trees_from (suc k) (left (i + 1)) in
            let kept = scoped_grown place shapes shapes' s.shapes_grow n.parts low in
            let next : length (ms ++ m ∷ []) ≡ suc k = (let long = length-append ms (m ∷ []) in omega (arith, long)) in
            let here : trees_from k (left i) ≡ scoped_trees U (in_part k s.parts) ++ behind = ap (λ ys. trees_from k (map raw_exported ys)) first
            ∙ ap (λ ts. ts ++ behind) (ap (in_part k) (sym (s.trees place of)) ∙ sym (scoped_in U k s.parts)) in
            ap (λ j. scoped_trees U (n.parts ++ in_part k s.parts) ++ trees_from j (left (i + 1))) next
            ∙ (ap (λ ts. ts ++ behind) (append_of_map (λ p. (p.0, part_tree U p.1)) n.parts (in_part k s.parts) ∙ ap (λ ts. ts ++ scoped_trees U (in_part k s.parts)) kept)
            ∙ (append_assoc (scoped_trees T n.parts) (scoped_trees U (in_part k s.parts)) behind
            ∙ (ap (λ ts. scoped_trees T n.parts ++ ts) (sym here) ∙ n.trees place (places_before paths paths' s.paths_grow place of))));
        scoped = all_both (IsScopedBy shapes' fs' paths' (ms ++ m ∷ [])) n.parts (in_part k s.parts) (all_still n.parts low n.scoped) (new_scoped shapes' fs' paths' ms m s.parts s.scoped);
      })
    where
      still : (p : DeclaringScope × ℕ) → p.1 < 14 + length shapes → IsScopedBy shapes fs paths ms p → IsScopedBy shapes' fs' paths' (ms ++ m ∷ []) p
      still p low h = (
        h.0,
        front_more ms m p.0.0 h.0 h.1,
        still_scoped (world_of shapes fs paths (scope_of h.0.part)) (world_of shapes' fs' paths' (scope_of h.0.part)) s.shapes_grow s.paths_grow refl
            (same_list (scope_of h.0.part).instances.items) p.0.1 p.1 low h.2,
      )

      all_still : (ps : List (DeclaringScope × ℕ)) → AllByRecursion (λ c. c < 14 + length shapes) (bare_parts ps) → AllByRecursion (IsScopedBy shapes fs paths ms) ps
          → AllByRecursion (IsScopedBy shapes' fs' paths' (ms ++ m ∷ [])) ps
      all_still [] low h = tt
      all_still (p ∷ ps) low h = (still p low.0 h.0, all_still ps low.1 h.1)
