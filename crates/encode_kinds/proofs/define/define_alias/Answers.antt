use Rattle.encode_types.proofs.{Defining.value-stands, Writing.written-none, Agree.on_ok}
use Rattle.encode_kinds.proofs.define.define_alias.Goals as goal

pub returns-in-Type_-clause-ok : goal.returns-in-Type_-clause-ok
returns-in-Type_-clause-ok g c = rw c.value_of.ensures.same (value-stands _ _ (g.E.ValtypeEncoder.view c.args.enc.now).stands _ c.args.ty.now c.requires.agree c.in-Type_.ensures.value)

pub returns-in-Type_-clause-written : goal.returns-in-Type_-clause-written
returns-in-Type_-clause-written g c = rw c.value_of.ensures.same (written-none _ (g.E.ValtypeEncoder.view c.args.enc.now))

pub returns-in-Primitive-clause-size : goal.returns-in-Primitive-clause-size
returns-in-Primitive-clause-size g c = λ h.
    let x = c.defined_type.ensures.size h _ (value-stands _ _ (g.E.ValtypeEncoder.view c.args.enc.now).stands _ c.args.ty.now c.requires.agree c.in-Primitive.ensures.value) in
    rw c.value_of.ensures.same at x

pub returns-in-Primitive-clause-written : goal.returns-in-Primitive-clause-written
returns-in-Primitive-clause-written g c = on_ok c.defined_type.result _ _ (λ w. record {
  extent = (let x = (w _ (value-stands _ _ (g.E.ValtypeEncoder.view c.args.enc.now).stands _ c.args.ty.now c.requires.agree c.in-Primitive.ensures.value)).extent in
      rw c.value_of.ensures.same at x);
}) c.defined_type.ensures.written
