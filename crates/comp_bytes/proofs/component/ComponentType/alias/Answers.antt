use Rattle.comp_bytes.specs.{Raw.Declaration, RawOf.raw_alias}
use Rattle.comp_bytes.proofs.HeldLaws.{add_declaration, declaration_refused}
use Rattle.comp_bytes.proofs.component.ComponentType.alias.Goals as goal

pub returns-in_err-count-clause-size : goal.returns-in_err-count-clause-size
returns-in_err-count-clause-size c _ = rw (← c.self.view_is) (declaration_refused _ _ _ (Declaration.alias_of (raw_alias c.args.alias.now)) c.self.invariant c.in_err-count.ensures.size)

pub invariant_of-self-2 : goal.invariant_of-self-2
invariant_of-self-2 c = rw (c.in_ok-count.ensures.ok.0, c.in_ok-count.ensures.ok.1, c.in_ok-declare_alias.ensures.ok)
    (add_declaration _ _ _ (Declaration.alias_of (raw_alias c.args.alias.now)) c.self.invariant c.in_ok-declare_alias.ensures.spelled).holds

pub returns-clause-ok : goal.returns-clause-ok
returns-clause-ok c = rw (c.in_ok-count.ensures.ok.0, c.in_ok-declare_alias.ensures.ok, ← c.self.view_is)
    (add_declaration _ _ _ (Declaration.alias_of (raw_alias c.args.alias.now)) c.self.invariant c.in_ok-declare_alias.ensures.spelled).shows
