use Rattle.std.proofs.Common.{refl}
use Rattle.wit_model.specs.Valid.{key_eq}
use Rattle.bind_add.proofs.Roomed.{same_then_added}
use Rattle.wit_bind.proofs.{Growing.addable_with_room, Growing.added_by_key, Growing.on_err, Unchanged.kept_with_room}
use Rattle.wit_bind.proofs.bindgen.Bindgen.grow.Goals as goal

pub add-requires-clause-addable : goal.add-requires-clause-addable
add-requires-clause-addable c = addable_with_room c.args.self.now.world.0 c.args.added c.args.self.now.resolve c.reserve.new.resolve c.reserve.ensures.same c.requires

pub returns-in_err-reserve-clause-kept : goal.returns-in_err-reserve-clause-kept
returns-in_err-reserve-clause-kept c = on_err (kept_with_room c.args.self.now _ c.reserve.ensures.same refl refl refl) c.from_residual.result

pub returns-in_err-unite-clause-kept : goal.returns-in_err-unite-clause-kept
returns-in_err-unite-clause-kept c = on_err (kept_with_room c.args.self.now _ c.reserve.ensures.same refl c.in_err-unite.ensures.imports_kept c.in_err-unite.ensures.exports_kept)
    c.from_residual-in_err-unite.result

pub returns-clause-ok : goal.returns-clause-ok
returns-clause-ok c = record {
  all_added = same_then_added key_eq c.args.self.now.world.0 c.args.added c.args.self.now.resolve c.reserve.new.resolve c.add.new.resolve c.reserve.ensures.same c.reserve.ensures.others
      (added_by_key c.args.self.now.world.0 c.args.added c.reserve.new.resolve c.add.new.resolve c.add.ensures);
  world = refl;
  imports = c.in_ok-unite.ensures.imports;
  exports = c.in_ok-unite.ensures.exports;
}
