use Rattle.comp_bytes.specs.{Raw.Declaration, RawOf.raw_name}
use Rattle.comp_bytes.proofs.HeldLaws.{add_declaration, declaration_refused}
use Rattle.comp_bytes.proofs.component.ComponentType.import.Goals as goal

pub returns-in_err-count-clause-size : goal.returns-in_err-count-clause-size
returns-in_err-count-clause-size c _ =
    rw (← c.self.view_is) (declaration_refused _ _ _ (Declaration.imported (raw_name c.args.name.now) c.args.ty) c.self.invariant (rw c.described_slots.ensures at c.in_err-count.ensures.size))

pub invariant_of-self-2 : goal.invariant_of-self-2
invariant_of-self-2 c = rw (c.in_ok-count.ensures.ok.0, c.in_ok-count.ensures.ok.1, c.described_slots.ensures, c.in_ok-declare_import.ensures.ok)
    (add_declaration _ _ _ (Declaration.imported (raw_name c.args.name.now) c.args.ty) c.self.invariant c.in_ok-declare_import.ensures.spelled).holds

pub returns-clause-ok : goal.returns-clause-ok
returns-clause-ok c = rw (c.in_ok-count.ensures.ok.0, c.in_ok-declare_import.ensures.ok, ← c.self.view_is)
    (add_declaration _ _ _ (Declaration.imported (raw_name c.args.name.now) c.args.ty) c.self.invariant c.in_ok-declare_import.ensures.spelled).shows
