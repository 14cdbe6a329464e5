use Rattle.wit_compat.proofs.Declared.{parts_told}
use Rattle.wit_compat.proofs.declarations.same_declarations.Goals as goal

pub same_types-requires-clause-xs : goal.same_types-requires-clause-xs
same_types-requires-clause-xs c = rw c.deref.ensures.value (parts_told c.args.a.now c.args.b.now _ _ _ c.in_ok-known.ensures c.in-Parts.is _ _ c.requires.left.valid c.requires.right.valid c.requires.a
    c.requires.b).left

pub same_types-requires-clause-ys : goal.same_types-requires-clause-ys
same_types-requires-clause-ys c = rw c.deref-in-Parts.ensures.value (parts_told c.args.a.now c.args.b.now _ _ _ c.in_ok-known.ensures c.in-Parts.is _ _ c.requires.left.valid c.requires.right.valid
    c.requires.a c.requires.b).right
