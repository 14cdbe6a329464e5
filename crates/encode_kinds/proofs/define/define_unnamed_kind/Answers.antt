use Rattle.std.proofs.Common.{refl, subst, ℕ, List, inl, inr, arith}
use Rattle.std.specs.List.{Contains}
use Rattle.encode_types.specs.{Codes.lists_of, Maps.HasKind, Maps.LacksKind, Maps.LacksList}
use Rattle.encode_types.proofs.{Learning.kind-had, Defining.kind-stands, Defining.counts-none, Writing.written-none}
use Rattle.encode_kinds.proofs.define.define_unnamed_kind.{Given.Over, Goals.In-Some, Goals.In_default}
use Rattle.base_lemmas.proofs.Options.{at_err, at_ok}
use Rattle.encode_types.proofs.Stopping.{part-same, same-when}
use Rattle.encode_kinds.proofs.define.define_unnamed_kind.Goals as goal

had : (g : Over) (c : In-Some g) → HasKind (g.E.ValtypeEncoder.view c.args.enc.now).maps c.args.kind.now c.in-Some.index
had g c = (
  c.requires.unnamed,
  subst (λ (xs : List ℕ). Contains (lists_of (g.E.ValtypeEncoder.view c.args.enc.now).maps.def_to_index) (xs, c.in-Some.index)) c.in_ok-kind_list.ensures c.in-Some.ensures.some,
)

pub returns-in-Some-clause-ok : goal.returns-in-Some-clause-ok
returns-in-Some-clause-ok g c = rw c.index_of_kind.ensures.same (kind-stands c.args.resolve.now (g.E.ValtypeEncoder.view c.args.enc.now).maps (g.E.ValtypeEncoder.view c.args.enc.now).stands
    c.args.kind.now c.in-Some.index c.requires.agree (had g (goal.at.returns-in-Some-clause-ok g c).In-Some))

lacks : (g : Over) (c : In_default g) → LacksKind (g.E.ValtypeEncoder.view c.args.enc.now).maps c.args.kind.now
lacks g c = subst (LacksList (lists_of (g.E.ValtypeEncoder.view c.args.enc.now).maps.def_to_index)) c.in_ok-kind_list.ensures (rw c.in_default.is at c.index_of_kind.ensures.none)

pub define_new_kind-requires : goal.define_new_kind-requires
define_new_kind-requires g c = λ _. (
  (refl, tt),
  rw c.index_of_kind.ensures.same (
    c.requires.unnamed,
    (c.in_ok-kind_list.ensures, (lacks g (goal.at.define_new_kind-requires g c).In_default, (c.requires.ready, (c.requires.formed, c.requires.agree)))),
  ),
)

pub returns-in-Some-clause-counts : goal.returns-in-Some-clause-counts
returns-in-Some-clause-counts g c = rw c.index_of_kind.ensures.same (counts-none c.args.resolve.now (g.E.ValtypeEncoder.view c.args.enc.now).scope (g.E.ValtypeEncoder.view c.args.enc.now).maps
    (g.E.ValtypeEncoder.view c.args.enc.now).definitions)

pub returns-in-Some-clause-kinds : goal.returns-in-Some-clause-kinds
returns-in-Some-clause-kinds g c = rw c.index_of_kind.ensures.same (kind-had (g.E.ValtypeEncoder.view c.args.enc.now).maps c.args.kind.now c.in-Some.index
    (had g (goal.at.returns-in-Some-clause-kinds g c).In-Some))

pub returns-in-Some-clause-written : goal.returns-in-Some-clause-written
returns-in-Some-clause-written g c = rw c.index_of_kind.ensures.same (written-none _ (g.E.ValtypeEncoder.view c.args.enc.now))

pub returns-clause-written : goal.returns-clause-written
returns-clause-written g c = rw c.index_of_kind.ensures.same at c.define_new_kind.ensures.written

pub returns-in-Some-clause-held : goal.returns-in-Some-clause-held
returns-in-Some-clause-held g c = rw c.index_of_kind.ensures.same (inl (omega arith))

pub returns-clause-held : goal.returns-clause-held
returns-clause-held g c = at_ok c.define_new_kind.result (inr (lacks g (goal.at.returns-clause-held g c).In_default, (rw c.index_of_kind.ensures.same at c.define_new_kind.ensures.held)))

pub returns-clause-size : goal.returns-clause-size
returns-clause-size g c = λ h. record { new = lacks g (goal.at.returns-clause-size g c).In_default; refuses = (rw c.index_of_kind.ensures.same at (c.define_new_kind.ensures.size h)) }

pub returns-in_err-kind_list-clause-stopped : goal.returns-in_err-kind_list-clause-stopped
returns-in_err-kind_list-clause-stopped g c = at_err _ (part-same _ _ _ _ _ _ (same-when refl) refl)

pub returns-clause-stopped : goal.returns-clause-stopped
returns-clause-stopped g c = rw c.index_of_kind.ensures.same at c.define_new_kind.ensures.stopped
