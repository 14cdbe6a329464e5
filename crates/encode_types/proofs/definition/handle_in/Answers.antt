use Rattle.std.proofs.Common.{refl}
use Rattle.wit_model.specs.declared.model.«Type».TheVariants as ty
use Rattle.encode_types.proofs.Written.{ready-one, own-follows, borrow-follows}
use Rattle.encode_types.proofs.definition.handle_in.Goals as goal

pub index_in-requires : goal.index_in-requires
index_in-requires c = ready-one c.args.maps.now (ty.Id c.in-Own.id) (rw c.in-Own.is at c.requires) c.in-Own.id refl

pub index_in-requires-in-Borrow : goal.index_in-requires-in-Borrow
index_in-requires-in-Borrow c = ready-one c.args.maps.now (ty.Id c.in-Borrow.id) (rw c.in-Borrow.is at c.requires) c.in-Borrow.id refl

pub returns-in-Own : goal.returns-in-Own
returns-in-Own c = rw c.in-Own.is (own-follows c.args.maps.now c.in-Own.id _ c.index_in.ensures)

pub returns-in-Borrow : goal.returns-in-Borrow
returns-in-Borrow c = rw c.in-Borrow.is (borrow-follows c.args.maps.now c.in-Borrow.id _ c.index_in-in-Borrow.ensures)
