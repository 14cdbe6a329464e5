use Rattle.std.proofs.Common.{refl}
use Rattle.encode_types.specs.{Slots.Follows, Slots.Defines, Slots.tree, Kinds.kind_tree, Kinds.kind_of}
use Rattle.encode_types.proofs.{Defining.definition-stands, Defining.adds-ok, Agree.on_ok}
use Rattle.encode_kinds.proofs.{define.define_shape.Given.Over, define.define_shape.Goals.In_ok-def}
use Rattle.encode_kinds.proofs.define.define_shape.Goals as goal

followed : (g : Over) (c : In_ok-def g) → Follows (g.E.ValtypeEncoder.view c.definition_of.new.enc).stands c.in_ok-def.def (kind_tree c.args.resolve.now (kind_of c.args.shape))
followed g c = rw c.definition_of.ensures.same (definition-stands c.args.resolve.now (g.E.ValtypeEncoder.view c.args.enc.now).maps (g.E.ValtypeEncoder.view c.args.enc.now).stands
    (kind_of c.args.shape) c.in_ok-def.def c.requires.agree c.in_ok-def.ensures.value)

pub defined_type-requires : goal.defined_type-requires
defined_type-requires g c = λ _. ((refl, tt), (_, followed g (goal.at.defined_type-requires g c).In_ok-def, rw c.definition_of.ensures.same c.requires.formed))

pub returns-clause-ok : goal.returns-clause-ok
returns-clause-ok g c = adds-ok c.defined_type.result (g.E.ValtypeEncoder.view c.definition_of.new.enc).stands (g.E.ValtypeEncoder.view c.defined_type.new.self).stands
    (g.E.ValtypeEncoder.view c.definition_of.new.enc).slot_count (g.E.ValtypeEncoder.view c.defined_type.new.self).slot_count
    (Defines (g.E.ValtypeEncoder.view c.definition_of.new.enc).stands c.in_ok-def.def) (tree (kind_tree c.args.resolve.now (kind_of c.args.shape)))
    c.defined_type.ensures.ok (followed g (goal.at.returns-clause-ok g c).In_ok-def)

pub returns-clause-size : goal.returns-clause-size
returns-clause-size g c = λ h. let x = c.defined_type.ensures.size h _ (followed g (goal.at.returns-clause-size g c).In_ok-def) in rw c.definition_of.ensures.same at x

pub returns-clause-written : goal.returns-clause-written
returns-clause-written g c = on_ok c.defined_type.result _ _ (λ w. record
    { extent = (let x = (w _ (followed g (goal.at.returns-clause-written g c).In_ok-def)).extent in rw c.definition_of.ensures.same at x) }) c.defined_type.ensures.written
