use Rattle.std.proofs.Common.{◌≡◌, refl, sym, subst, ◌≤◌, List, Some, slice_get, length}
use Rattle.std.proofs.lemmas.Option.{slice_get_read}
use borrow.Author.Tests.{ltb-true, ltb-false}
use Rattle.text_names.specs.declared.sources.InterfaceSource.{InterfaceSource}
use Rattle.wit_text.proofs.Ordered.{next_made, none_next}
use Rattle.wit_text.proofs.read.make_interface.Goals as goal

pub returns-then-place-len : goal.returns-then-place-len
returns-then-place-len c =
    let there : slice_get c.args.sources.now.interfaces.items c.args.own ≡ Some c.in-Some.source.now =
    subst (λ (xs : List InterfaceSource). slice_get xs c.args.own ≡ Some c.in-Some.source.now) c.deref.ensures.value
    (slice_get_read c.deref.result.now _ c.args.own c.in-Some.source.now refl (ltb-true c.args.own _ (sym c.in-Some.ensures.lookup.0)) c.in-Some.ensures.lookup.1) in
    record {
      made =
          next_made c.args.sources.now c.args.own c.args.interfaces.now c.add_interface.new.interfaces c.in_ok-number.ensures.grows.defs c.in-Some.source.now
          there c.in_ok-number.number c.in_ok-number.ensures.added _ refl refl;
    }

pub returns-in_default : goal.returns-in_default
returns-in_default c =
    let past : length c.args.sources.now.interfaces.items ≤ c.args.own =
    subst (λ (xs : List InterfaceSource). length xs ≤ c.args.own) c.deref.ensures.value (ltb-false c.args.own _ (sym c.in_default.ensures.lookup.0)) in
    record { made = none_next c.args.sources.now c.args.own c.args.interfaces.now _ past }
