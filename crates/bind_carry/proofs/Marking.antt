-- What flags say that are set one after the other for the inline interfaces that are shown.
use Rattle.base_lemmas.proofs.{Bools.or_false, Bools.or_true, Lists.set_there, Numbers.differ, Numbers.equal, Options.none_not_some as none_is}
use Rattle.bind_add.proofs.Gains.{set_here}
use Rattle.bind_carry.specs.{First.flag_under, Listed.given_interface, Marked.AreChosen, Marked.is_inline_at, Marked.is_shown_in, Marked.is_shown_of, Marked.mark_item, Marked.mark_items, Marked.mark_worlds, Shown.AreShownBelow, Shown.IsShownBelow, Which.new_interfaces}
use Rattle.std.proofs.Common.{Bool, List, None, Option, Some, [], ap, arith, false, is_none, is_some, length, not, refl, rules as std_rules, slice_get, slice_set, subst, suc, sym, true, unwrap_or, zero, ℕ, ◌&&◌, ◌<◌, ◌||◌, ◌∙◌, ◌∷◌, ◌≡◌}
use Rattle.std.specs.{Prelude.String, declared.alloc.Global.Global}
use Rattle.wit_model.specs.{Lookup.interface_at, Rules.is_id, Uses.item_interface, declared.model.Interface.Interface, declared.model.InterfaceId.InterfaceId}
use Rattle.wit_model.specs.declared.model.{Resolve.Resolve, World.World, WorldItem.WorldItem, WorldKey.WorldKey}

-- ---- tests

pub no_more : (a b : Bool) → a ≡ (a || (b && false))
no_more x b = search std_rules

pub joins : (a i x y : Bool) → ((a || (i && x)) || (i && y)) ≡ (a || (i && (x || y)))
joins x i y z = search std_rules

-- ---- one flag

flag_here : (marks : List Bool) (k : ℕ) → k < length marks → flag_under (slice_set marks k true) k ≡ true
flag_here marks k l = ap (λ o. unwrap_or o false) (set_here marks k true l)

flag_there : (marks : List Bool) (k n : ℕ) → (k ≡ n → ⊥) → flag_under (slice_set marks k true) n ≡ flag_under marks n
flag_there marks k n h = ap (λ o. unwrap_or o false) (set_there marks k n true (λ e. h (sym e)))

-- all that worlds show is below so many
abbrev pub AreWorldsBelow : ℕ → List World → Type 0
AreWorldsBelow count ws = (k : ℕ) (w : World) → slice_get ws k ≡ Some w → AreShownBelow count w.imports.entries × AreShownBelow count w.exports.entries

module _ (r : Resolve) where
  pub mark_one : (marks : List Bool) (i : WorldItem) (n : ℕ) → IsShownBelow (length marks) i
      → flag_under (mark_item r marks i) n ≡ (flag_under marks n || (is_inline_at r n && is_id n (item_interface i)))
  mark_one marks x n below = search (std_rules, no_more, equal, flag_here, or_true, flag_there, differ, or_false)

  pub mark_item_long : (marks : List Bool) (i : WorldItem) → length (mark_item r marks i) ≡ length marks
  mark_item_long marks x = search std_rules

  -- ---- items

  pub mark_items_long : (marks : List Bool) (es : List (WorldKey × WorldItem)) → length (mark_items r marks es) ≡ length marks
  mark_items_long marks [] = refl
  mark_items_long marks (e ∷ es) = mark_items_long (mark_item r marks e.1) es ∙ mark_item_long marks e.1

  marks_in : (es : List (WorldKey × WorldItem)) (marks : List Bool) (n : ℕ) → AreShownBelow (length marks) es
      → flag_under (mark_items r marks es) n ≡ (flag_under marks n || (is_inline_at r n && is_shown_in es n))
  marks_in [] marks n below = no_more (flag_under marks n) (is_inline_at r n)
  marks_in (e ∷ es) marks n below =
      search (std_rules, mark_item_long, mark_one, joins, marks_in es (mark_item r marks e.1) n (subst (λ k. AreShownBelow k es) (sym (mark_item_long marks e.1)) below.1))

  -- ---- worlds

  marks_of_worlds : (flags : List Bool) (ws : List World) (marks : List Bool) (n : ℕ) → AreWorldsBelow (length marks) ws
      → flag_under (mark_worlds r marks flags ws) n ≡ (flag_under marks n || (is_inline_at r n && is_shown_of flags ws n))
  marks_of_worlds (false ∷ bs) (w ∷ ws) marks n below = marks_of_worlds bs ws marks n (λ k v at. below (suc k) v at)
  marks_of_worlds (true ∷ bs) (w ∷ ws) marks n below =
      let first = mark_items r marks w.imports.entries in
      let long : length first ≡ length marks = mark_items_long marks w.imports.entries in
      let here = below zero w refl in
      let inline = is_inline_at r n in
      let imports = is_shown_in w.imports.entries n in
      let exports = is_shown_in w.exports.entries n in
      marks_of_worlds bs ws (mark_items r first w.exports.entries) n (subst (λ k. AreWorldsBelow k ws) (sym (mark_items_long first w.exports.entries ∙ long)) (λ k v at. below (suc k) v at))
      ∙ (ap (λ b. b || (inline && is_shown_of bs ws n)) (marks_in w.exports.entries first n (subst (λ k. AreShownBelow k w.exports.entries) (sym long) here.1)
      ∙ (ap (λ b. b || (inline && exports)) (marks_in w.imports.entries marks n here.0) ∙ joins (flag_under marks n) inline imports exports))
      ∙ joins (flag_under marks n) inline (imports || exports) (is_shown_of bs ws n))
  marks_of_worlds _ _ marks n below = no_more (flag_under marks n) (is_inline_at r n)

-- ---- which interfaces are copied

new_at : (ms : List (Option InterfaceId)) (is : List Interface) → length ms ≡ length is → (n : ℕ) (i : Interface) → slice_get is n ≡ Some i
    → flag_under (new_interfaces ms is) n ≡ (not (is_some (given_interface (slice_get ms n))) && not (is_none i.name))
new_at [] [] long n i at = let wrong : ⊥ = cc in absurd wrong
new_at (m ∷ ms) (j ∷ is) long zero i at = let same : j ≡ i = ap (λ o. unwrap_or o j) at in (λ k. none_is m k && not (is_none (same k).name))
new_at (m ∷ ms) (j ∷ is) long (suc n) i at = new_at ms is (omega (arith, long)) n i at
new_at _ _ long n i at = absurd (omega (arith, long))

pub new_long : (ms : List (Option InterfaceId)) (is : List Interface) → length ms ≡ length is → length (new_interfaces ms is) ≡ length is
new_long [] [] long = refl
new_long (m ∷ ms) (i ∷ is) long = ap suc (new_long ms is (omega (arith, long)))
new_long _ _ long = absurd (omega (arith, long))

module _ (other : Resolve) (matched : List (Option InterfaceId)) (worlds : List Bool) (long : length matched ≡ length other.interfaces.items) (below : AreWorldsBelow (length other.interfaces.items) other.worlds.items) where
  abbrev new : List Bool
  new = new_interfaces matched other.interfaces.items

  flag_is : (n : ℕ) (i : Interface) → interface_at other n ≡ Some i → flag_under (mark_worlds other new worlds other.worlds.items) n
      ≡ ((not (is_some (given_interface (slice_get matched n))) && not (is_none i.name)) || (is_none i.name && is_shown_of worlds other.worlds.items n))
  flag_is n i at = search (std_rules, marks_of_worlds, new_long, new_at)

  -- those with a name that has no own one of its path, and the inline ones that are shown
  pub are_chosen : AreChosen other matched worlds (mark_worlds other new worlds other.worlds.items)
  are_chosen = record {
    named = λ n i at h. flag_is n i at ∙ with_name i.name h (not (is_some (given_interface (slice_get matched n)))) (is_shown_of worlds other.worlds.items n);
    inline = λ n i at h. flag_is n i at ∙ without i.name h (not (is_some (given_interface (slice_get matched n)))) (is_shown_of worlds other.worlds.items n);
  }
    where
      with_name : (o : Option (String Global)) → is_some o ≡ true → (a b : Bool) → ((a && not (is_none o)) || (is_none o && b)) ≡ a
      with_name None h a b = let wrong : ⊥ = cc in absurd wrong
      with_name (Some s) h true b = refl
      with_name (Some s) h false b = refl

      without : (o : Option (String Global)) → is_some o ≡ false → (a b : Bool) → ((a && not (is_none o)) || (is_none o && b)) ≡ b
      without None h true b = refl
      without None h false b = refl
      without (Some s) h a b = let wrong : ⊥ = cc in absurd wrong
