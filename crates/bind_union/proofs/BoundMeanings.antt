-- The bound world means what it meant, followed by what is new in the other's bound world.
use Rattle.std.proofs.Common.{◌≡◌, refl, sym, ap, subst, ◌∙◌, ℕ, arith, Bool, true, false, cond, List, [], ◌∷◌, ◌++◌, map, filter, Some, None, is_none, is_some}
use Rattle.std.proofs.lemmas.{List.map-append, Simd.map-map, List.Elements.Contains-append_right as behind}
use Rattle.std.specs.{List.Contains, List.AllByRecursion, List.IsDistinct, FinMap.find}
use Rattle.wit_model.specs.declared.model.{Resolve.Resolve, Interface.Interface, WorldKey.WorldKey, WorldItem.WorldItem}
use Rattle.wit_model.specs.{Text.Text, Text.text_eq, Text.text_cmp, Meaning.Entry, Meaning.InterfaceMeaning, Valid.Keeps, Valid.KeepsRules, Checks.references, Lookup.interface_at, Lookup.interface_path, Lookup.key_text, Meant.entry_meaning, Meant.entries_meaning}
use Rattle.wit_model.specs.Rules.{entries_in_range}
use Rattle.wit_model.proofs.{Distinct.text_eq_flip, Maps.there_some}
use Rattle.bind_meaning.specs.Union.{followed_by}
use Rattle.bind_union.specs.Carried.{Renumbering, IsCarried}
use Rattle.bind_union.specs.{Joined.Joined, Joined.none, Joined.met, Joined.added, Meanings.HaveDistinctTexts, Meanings.BoundMeans}
use Rattle.bind_union.proofs.{Namesakes.entry_under, Namesakes.find_is, Meanings.has_path, Meanings.key_means, Meanings.item_means, Meanings.entries_mean, Itself.itself, Itself.carried_itself, Itself.joined_itself, Itself.world_range, Kept.below}
use Rattle.base_lemmas.proofs.Elements.{all_at, contains-later, contains-map}

abbrev texts : Resolve → List (WorldKey × WorldItem) → List Text
texts r es = map (λ (e : WorldKey × WorldItem). key_text r e.0) es

-- no text before is this one
before_apart : (xs ys : List Text) → IsDistinct text_eq (xs ++ ys) → (q : Text) → Contains ys q → AllByRecursion (λ k. text_eq k q ≡ false) xs
unfolding IsDistinct
before_apart [] ys d q c = tt
before_apart (x ∷ xs) ys d q c = (all_at (λ k. text_eq x k ≡ false) (xs ++ ys) d.0 q (behind xs ys q c), before_apart xs ys d.1 q c)

-- what no key is isn't found
not_looked_up : {X : Type 0} (q : Text) (es : List (Text × X)) → AllByRecursion (λ k. text_eq k q ≡ false) (map (λ (e : Text × X). e.0) es) → is_none (entry_under q es) ≡ true
not_looked_up q [] h = refl
not_looked_up {X = X} q (e ∷ es) h = ap (λ b. is_none (cond b (Some e.1) (entry_under {X = X} q es))) (text_eq_flip q e.0 ∙ h.0) ∙ not_looked_up q es h.1

module _ (r s : Resolve) (f : Renumbering) (valid : KeepsRules r) (is : IsCarried r s f) (below_s : Keeps references s)
    (inline_copied : (m : ℕ) (i : Interface) → f.carries_interface m ≡ true → interface_at r m ≡ Some i → i.name ≡ None → f.copies_interface m ≡ true)
    (pathless : (m : ℕ) (i : Interface) → interface_at r m ≡ Some i → is_some i.name ≡ true → interface_path r m ≡ None → ⊥)
    (own : List (WorldKey × WorldItem)) (meant : List (Text × Entry InterfaceMeaning)) (same : entries_meaning s own ≡ meant) where
  abbrev is_added : Text × Entry InterfaceMeaning → Bool
  is_added y = is_none (find text_cmp y.0 meant)

  meant_texts : map (λ (e : Text × Entry InterfaceMeaning). e.0) meant ≡ texts s own
  meant_texts = ap (map (λ (e : Text × Entry InterfaceMeaning). e.0)) (sym same) ∙ map-map (λ (e : Text × Entry InterfaceMeaning). e.0) (λ e. (key_text s e.0, entry_meaning s e.1)) own

  news_mean : (olds news : List (WorldKey × WorldItem)) → Joined f own olds news → ((q : Text) → Contains (texts s news) q → AllByRecursion (λ k. text_eq k q ≡ false) (texts s own))
      → entries_meaning s news ≡ filter is_added (entries_meaning r olds)
  news_mean _ _ none h = refl
  news_mean _ _ (met old there olds news c k i rest) h =
      let y = there_some meant (key_text s there.0) (entry_meaning s there.1) (subst (λ (es : List (Text × Entry InterfaceMeaning)). Contains es (key_text s there.0, entry_meaning s there.1)) same
      (contains-map (λ (e : WorldKey × WorldItem). (key_text s e.0, entry_meaning s e.1)) own there c)) in
      news_mean olds news rest h ∙ sym (ap (λ b. cond b ((key_text r old.0, entry_meaning r old.1) ∷ filter is_added (entries_meaning r olds)) (filter is_added (entries_meaning r olds)))
      (ap (λ t. is_none (find text_cmp t meant)) (sym (key_means r s f valid is below_s inline_copied pathless old.0 there.0 k)) ∙ ap is_none y.1))
  news_mean _ _ (added old new olds news n z rest) h =
      (λ i. (key i, item_means r s f valid is below_s inline_copied pathless old.1 new.1 z.1 i) ∷ news_mean olds news rest (λ q c. h q (contains-later (key_text s new.0) (texts s news) q c)) i)
      ∙ sym (ap (λ b. cond b ((key_text r old.0, entry_meaning r old.1) ∷ filter is_added (entries_meaning r olds)) (filter is_added (entries_meaning r olds))) not_there)
    where
      key : key_text s new.0 ≡ key_text r old.0
      key = key_means r s f valid is below_s inline_copied pathless old.0 new.0 z.0

      not_there : is_added (key_text r old.0, entry_meaning r old.1) ≡ true
      not_there = subst (λ (t : Text). is_none (find text_cmp t meant) ≡ true) key
          (ap is_none (find_is (key_text s new.0) meant) ∙ not_looked_up (key_text s new.0) meant
          (subst (λ (ts : List Text). AllByRecursion (λ k. text_eq k (key_text s new.0) ≡ false) ts) (sym meant_texts) (h (key_text s new.0) (0, omega arith, refl))))

  pub joined_mean : (olds news whole : List (WorldKey × WorldItem)) → whole ≡ own ++ news → Joined f own olds news → HaveDistinctTexts s whole
      → entries_meaning s whole ≡ followed_by meant (entries_meaning r olds)
  joined_mean olds news whole is_whole j distinct = grind (arith, map-append, news_mean, before_apart)

pub bound_means : BoundMeans
bound_means own other merged bound other_bound first second left_out valid_own valid_other is imports exports = (
  side is.own_bound.imports.entries range.0 is.joined.old.imports.entries is.joined.new_imports is.joined.image.imports.entries is.joined.imports is.joined.joined_imports imports,
  side is.own_bound.exports.entries range.1 is.joined.old.exports.entries is.joined.new_exports is.joined.image.exports.entries is.joined.exports is.joined.joined_exports exports,
)
  where
    below_s : Keeps references merged
    below_s = below own other merged bound other_bound first second left_out valid_own.rules valid_other.rules is

    carried : IsCarried own merged (itself own)
    carried = carried_itself own valid_own.rules merged is.types is.interfaces is.packages

    range : (entries_in_range own is.own_bound.imports.entries ≡ true) × (entries_in_range own is.own_bound.exports.entries ≡ true)
    range = world_range own valid_own.rules bound is.own_bound is.bound_at

    side : (es : List (WorldKey × WorldItem)) → entries_in_range own es ≡ true → (olds news whole : List (WorldKey × WorldItem)) → whole ≡ es ++ news → Joined second es olds news
        → HaveDistinctTexts merged whole → entries_meaning merged whole ≡ followed_by (entries_meaning own es) (entries_meaning other olds)
    side es h = joined_mean other merged second valid_other.rules is.second_copies.carried below_s is.second_copies.inline_copied (has_path other valid_other) es (entries_meaning own es)
        (entries_mean own merged (itself own) valid_own.rules carried below_s (λ m i h at without. h) (has_path own valid_own) es es (joined_itself own valid_own.rules es h))
