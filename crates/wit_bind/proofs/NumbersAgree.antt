-- Bindings that unite, by the entries and the numbers of their `Resolve`s.
use Rattle.std.proofs.Common.{rules as std_rules, ◌≡◌, refl, sym, ap, ◌∙◌, ℕ, Bool, true, false, cond, List, map, Option, Some, None, option_and_then, Contains}
use mathlib.Core.Bool.{true≢false}
use Rattle.std.specs.{FinMap.get, Ordering.eq_by_cmp, Option.option_map_or}
use Rattle.wit_model.specs.declared.model.{Interface.Interface, Resolve.Resolve, World.World, WorldItem.WorldItem, WorldKey.WorldKey}
use Rattle.wit_model.specs.{Text.Text, Text.text_cmp, Lookup.interface_at, Lookup.key_text, Lookup.path_of_interface, Lookup.path_of_world, Lookup.world_at, Meaning.Entry, Meaning.InterfaceMeaning, Meaning.WorldMeaning, Meaning.entry_sense, Rules.are_distinct}
use Rattle.wit_model.specs.Meant.{entries_meaning, entry_meaning, interface_meaning_at, no_world, world_meaning, world_meaning_at}
use Rattle.bind_match.specs.Matching.{is_root_world}
use Rattle.bind_meaning.specs.{Clash.CanUnite, Clash.carried_worlds, Clash.entry_under, Roots.root_path}
use Rattle.bind_meaning.proofs.Maps.{by_tie, get-without}
use Rattle.bind_meaning.proofs.WorldBindings.{exports-distinct, imports-distinct, interface-found, world-found}
use Rattle.bind_clash.proofs.{KeysMatched.found-distinct, PathsMatched.has-root, PathsMatched.world-path-of, FaultsMeant.both-stand as known}
use Rattle.wit_bind.specs.declared.bindgen.Bindgen.{Bindgen}
use Rattle.wit_bind.specs.{Bindings.binding_of, Bindings.IsBindgen, MergedLaws.UnitedAgreeByNumbers}
use Rattle.base_lemmas.proofs.Elements.{contains-map}

-- an entry is found under its key
entry-found : (r : Resolve) (es : List (WorldKey × WorldItem)) (x : WorldKey × WorldItem) → are_distinct (map (λ (e : Text × Entry InterfaceMeaning). e.0) (entries_meaning r es)) ≡ true
    → Contains es x → entry_under (key_text r x.0) (entries_meaning r es) ≡ Some (entry_meaning r x.1)
entry-found r es x d c = found-distinct (entries_meaning r es) (key_text r x.0) (entry_meaning r x.1) d (contains-map (λ (e : WorldKey × WorldItem). (key_text r e.0, entry_meaning r e.1)) es x c)

-- so are those of a bound world in what it means
module _ (b : Bindgen) (o : IsBindgen b) (w : World) (at : world_at b.resolve b.world.0 ≡ Some w) where
  pub meant : world_meaning b.resolve w ≡ (binding_of b).bound
  meant = sym (ap (λ (z : Option World). option_map_or (world_meaning b.resolve) z no_world) at)

  pub import-found : (x : WorldKey × WorldItem) → Contains w.imports.entries x → entry_under (key_text b.resolve x.0) (binding_of b).bound.imports ≡ Some (entry_meaning b.resolve x.1)
  import-found x c = ap (λ (m : WorldMeaning). entry_under (key_text b.resolve x.0) m.imports) (sym meant)
      ∙ entry-found b.resolve w.imports.entries x (imports-distinct b.resolve o.valid b.world.0 w at) c

  pub export-found : (x : WorldKey × WorldItem) → Contains w.exports.entries x → entry_under (key_text b.resolve x.0) (binding_of b).bound.exports ≡ Some (entry_meaning b.resolve x.1)
  export-found x c = ap (λ (m : WorldMeaning). entry_under (key_text b.resolve x.0) m.exports) (sym meant)
      ∙ entry-found b.resolve w.exports.entries x (exports-distinct b.resolve o.valid b.world.0 w at) c

module _ (own other : Bindgen) (o : IsBindgen own) (t : IsBindgen other) (can : CanUnite (binding_of own) (binding_of other)) (w v : World) (at_w : world_at own.resolve own.world.0 ≡ Some w) (at_v : world_at other.resolve other.world.0 ≡ Some v) where
  abbrev r : Resolve
  r = own.resolve

  abbrev s : Resolve
  s = other.resolve

  imports-agree : (x e : WorldKey × WorldItem) → Contains w.imports.entries x → Contains v.imports.entries e → key_text r x.0 ≡ key_text s e.0
      → entry_sense (entry_meaning r x.1) ≡ entry_sense (entry_meaning s e.1)
  imports-agree x e c d same = search (std_rules, import-found own o w at_w x c, import-found other t v at_v e d)

  exports-apart : (x e : WorldKey × WorldItem) → Contains w.exports.entries x → Contains v.exports.entries e → key_text r x.0 ≡ key_text s e.0 → ⊥
  exports-apart x e c d same = search (std_rules, export-found own o w at_w x c, export-found other t v at_v e d)

  no-own-world : (n : ℕ) (i : Interface) (k : ℕ) (x : World) (path : Text) → interface_at s n ≡ Some i → path_of_interface s i ≡ Some path → world_at r k ≡ Some x → path_of_world r x ≡ Some path → ⊥
  no-own-world n i k x path at e there f = can.no_interface path (known (get (binding_of own).worlds path) (get (binding_of other).interfaces path) (world_meaning_at r k) (interface_meaning_at s n)
      (world-found r o.valid k path (ap (option_and_then (path_of_world r)) there ∙ f)) (interface-found s t.valid n path (ap (option_and_then (path_of_interface s)) at ∙ e)))

  carried-found : (k : ℕ) (x : World) (path : Text) → world_at s k ≡ Some x → is_root_world s x ≡ false → path_of_world s x ≡ Some path
      → get (carried_worlds (binding_of other)) path ≡ Some (world_meaning_at s k)
  carried-found k x path at not e = get-without (binding_of other).worlds root_path path ∙ by (eq_by_cmp text_cmp path root_path) refl
    where
      by : (b : Bool) → eq_by_cmp text_cmp path root_path ≡ b → cond b None (get (binding_of other).worlds path) ≡ Some (world_meaning_at s k)
      by false q = world-found s t.valid k path (ap (option_and_then (path_of_world s)) at ∙ e)
      by true q = absurd (true≢false (sym (has-root s t.valid x path (world-path-of s t.valid k x at path e) (by_tie path root_path q)) ∙ not))

  no-own-interface : (n : ℕ) (i : Interface) (k : ℕ) (x : World) (path : Text) → interface_at r n ≡ Some i → path_of_interface r i ≡ Some path → world_at s k ≡ Some x → is_root_world s x ≡ false
      → path_of_world s x ≡ Some path → ⊥
  no-own-interface n i k x path at e there not f = can.no_world path (known (get (binding_of own).interfaces path) (get (carried_worlds (binding_of other)) path) (interface_meaning_at r n)
      (world_meaning_at s k) (interface-found r o.valid n path (ap (option_and_then (path_of_interface r)) at ∙ e)) (carried-found k x path there not f))

pub united_agree_by_numbers : UnitedAgreeByNumbers
united_agree_by_numbers own other o t can w v at_w at_v = search (std_rules, imports-agree, exports-apart, no-own-world, no-own-interface)
