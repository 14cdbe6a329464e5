use Rattle.std.proofs.Common.{◌≡◌, ◌∙◌, sym, ap, subst, refl, take, get_or, List, String, Global}
use Rattle.std.specs.{Map.lookup, Str.bytes_eq}
use Rattle.std.proofs.lemmas.List.{take_all}
use Rattle.wit_model.specs.Text.{text_of}
use Rattle.wit_model.specs.declared.model.TypeId.{TypeId}
use Rattle.text_types.specs.{Scopes.types_in, Scopes.OrdersTypes}
use Rattle.text_types.proofs.{Growth.grows_none, Growth.grows_join, ScopeLaws.stays_here, ScopeLaws.stays_join, EachLaws.each_at, EachLaws.each_none}
use Rattle.text_types.proofs.{EachLaws.each_weaker, MadeLaws.of_place_weaker, MadeLaws.type_carried}
use Rattle.text_types.proofs.OrderedTypes.{agrees_more, entry_absent, of_scope, place_within}
use Rattle.text_types.proofs.scope.Scope.make_all.Goals as goal

pub loop-place-init : goal.loop-place-init
loop-place-init c = record {
  grows = grows_none _;
  placed = stays_here c.requires.placed;
  types = refl;
  each = each_none c.new-all.ensures.empty;
  agrees = λ name. c.requires.fresh.unmade name
      ∙ sym (ap (λ (entries : List (String Global × TypeId)). lookup (λ k. bytes_eq name (text_of k)) entries) c.new-all.ensures.empty);
}

pub make-requires-clause-within : goal.make-requires-clause-within
make-requires-clause-within c =
    place_within c.args.self.now c.loop-place.self c.deref-place-items.result.now c.loop-place.place-index
    (subst (OrdersTypes c.args.self.now) (sym c.deref-place-items.ensures.value) c.in_ok-order.ensures.order) c.loop-place.invariant.types
    c.loop-place-test.true

pub add_entry-requires : goal.add_entry-requires
add_entry-requires c =
    let h = c.loop-place.invariant in
    let ordered = subst (OrdersTypes c.args.self.now) (sym c.deref-place-items.ensures.value) c.in_ok-order.ensures.order in
    entry_absent (types_in c.args.self.now) c.deref-place-items.result.now c.loop-place.place-index c.requires.fresh.apart ordered.once
    c.loop-place-test.true h.each (of_scope c.args.self.now c.loop-place.self _ c.in_ok-entry.entry h.types h.placed.home h.placed.owner c.in_ok-entry.ensures.made)

pub loop-place-preserved : goal.loop-place-preserved
loop-place-preserved c =
    let h = c.loop-place.invariant in
    let made = of_scope c.args.self.now c.loop-place.self (get_or c.deref-place-items.result.now c.loop-place.place-index 0) c.in_ok-entry.entry h.types
    h.placed.home h.placed.owner c.in_ok-entry.ensures.made in
    record {
      grows = grows_join h.grows c.in_ok-entry.ensures.grows;
      placed = stays_join h.placed c.in_ok-entry.ensures.placed;
      types = c.in_ok-entry.ensures.under.types ∙ h.types;
      each = each_at c.deref-place-items.result.now c.loop-place.place-index 0
          (each_weaker (of_place_weaker (type_carried c.in_ok-entry.ensures.grows.defs (λ path name id k. k))) h.each) c.loop-place-test.true made
          c.in_ok-add_entry.ensures.adds.is;
      agrees = agrees_more c.loop-place.self c.make.new.self c.loop-place.all c.add_entry.new.all c.in_ok-entry.entry c.in_ok-entry.ensures.under
          c.in_ok-add_entry.ensures.adds h.agrees;
    }

pub returns-clause-made : goal.returns-clause-made
returns-clause-made c =
    let ordered = subst (OrdersTypes c.args.self.now) (sym c.deref-place-items.ensures.value) c.in_ok-order.ensures.order in
    let end : take c.loop-place.place-index c.deref-place-items.result.now ≡ c.deref-place-items.result.now = take_all _ _ c.loop-place-test.false in
    record {
      order = c.deref-place-items.result.now;
      all = ordered.all;
      once = ordered.once;
      each = rw end at c.loop-place.invariant.each;
    }
