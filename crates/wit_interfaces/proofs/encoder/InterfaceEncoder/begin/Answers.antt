use Rattle.std.proofs.Common.{◌≡◌, sym, subst}
use Rattle.wit_model.specs.Valid.{IsValid}
use Rattle.encode_types.specs.{Known.no_around, View.Agrees}
use Rattle.wit_encode.specs.Worlds.{world_around, world_view_of}
use Rattle.wit_interfaces.proofs.{Leaving.fresh-can, Leaving.fresh-sound, encoder.InterfaceEncoder.begin.Goals.After-new}
use Rattle.wit_interfaces.proofs.encoder.InterfaceEncoder.begin.Goals as goal

empty : (c : After-new) → world_around c.new.result ≡ no_around
empty c = λ j. record { declared = c.new.ensures.empty j; instances = c.new.ensures.unlisted j; known = c.new.ensures.unknown j }

pub returns-clause-empty : goal.returns-clause-empty
returns-clause-empty c = empty c

pub returns-clause-sound : goal.returns-clause-sound
returns-clause-sound c = fresh-sound c.new.result.resolve.now c.new.result.world (world_around c.new.result) (empty c)

pub returns-clause-can : goal.returns-clause-can
returns-clause-can c = λ valid. fresh-can c.new.result.resolve.now c.new.result.world c.new.result.instances (world_around c.new.result) c.new.result.maps
    (subst IsValid (sym c.new.ensures.packages) valid) c.new.ensures.uncounted (empty c)

pub returns-clause-agree : goal.returns-clause-agree
returns-clause-agree c = subst (λ r. Agrees c.args.resolve.now (world_view_of r c.new.result)) (sym c.new.ensures.packages) c.new.ensures.agree
