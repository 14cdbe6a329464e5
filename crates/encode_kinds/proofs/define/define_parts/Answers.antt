use Rattle.std.proofs.Common.{refl, ◌≡◌, ◌∙◌, sym, ap, subst, arith, get_or, length, rules}
use Rattle.std.proofs.lemmas.List.Elements.{Contains-get_or}
use Rattle.encode_types.specs.{Scope.Scope, Fits.Fits, Plan.IsOrderOf, Plan.foreign_owner}
use Rattle.encode_types.proofs.Learning.{learns-none, learns-then}
use Rattle.encode_types.proofs.{Defining.leaves-trans, Defining.leaves-none, Defining.counts-trans, Defining.counts-none, Lists.none-in, Rooms.holds-none, Rooms.holds-then, Rooms.room-after, Rooms.learns-reached, Writing.writes-nothing, Writing.writes-then}
use Rattle.encode_types.proofs.Encoding.{ready-now, known-more, ready-at-last, reaches-in_range, meets-reaches, learns-more, learns-at-last, learns-nothing}
use Rattle.encode_types.proofs.Aliasing.{met-none, met-number, makes-number, imports-none, imports-number}
use Rattle.encode_kinds.proofs.{define.define_parts.Given.Over, define.define_parts.Goals.After-deref-n-items}
use Rattle.encode_types.proofs.Stopping.{part-same, part-then, same-when}
use Rattle.base_lemmas.proofs.Options.{at_err}
use Rattle.encode_kinds.proofs.define.define_parts.Goals as goal

ordered : (g : Over) (c : After-deref-n-items g)
    → IsOrderOf c.args.resolve.now (g.E.ValtypeEncoder.view c.args.enc.now).scope.own_interface (g.E.ValtypeEncoder.view c.args.enc.now).maps c.args.types.now c.deref-n-items.result.now
ordered g c = rw c.deref-n-items.ensures.value c.in_ok-order.ensures.order

pub define_number-requires : goal.define_number-requires
define_number-requires g c = λ _. (
  (refl, tt),
  (let o = ordered g (goal.at.define_number-requires g c).After-deref-n-items in
      let s : (g.E.ValtypeEncoder.view c.loop-n.enc).scope ≡ (g.E.ValtypeEncoder.view c.args.enc.now).scope = c.loop-n.invariant.leaves.scope_stays in
      let n = get_or c.deref-n-items.result.now c.loop-n.n-index 0 in
      let met = o.added n (Contains-get_or _ _ 0 c.loop-n-test.true) in
      let fits : Fits c.args.resolve.now (g.E.ValtypeEncoder.view c.args.enc.now).scope (get_or c.deref-n-items.result.now c.loop-n.n-index 0) =
      c.requires.encodable.fits met.0 met.1 n (meets-reaches c.args.resolve.now _ _ met.0 n met.2) in (
        ap (λ (x : Scope). x.packages) s ∙ c.requires.encodable.packages_,
        (
          c.requires.encodable.layered,
          (
            reaches-in_range c.args.resolve.now _ c.requires.encodable.layered met.0 n (c.requires.encodable.in_range met.0 met.1) (meets-reaches c.args.resolve.now _ _ met.0 n met.2),
            (
              subst (λ (x : Scope). Fits c.args.resolve.now x (get_or c.deref-n-items.result.now c.loop-n.n-index 0)) (sym s) fits,
              (
                (λ def at f. ready-now c.args.resolve.now (g.E.ValtypeEncoder.view c.args.enc.now).scope.own_interface (g.E.ValtypeEncoder.view c.args.enc.now).maps
                    (g.E.ValtypeEncoder.view c.loop-n.enc).maps _ c.loop-n.n-index o.ordered c.loop-n-test.true c.loop-n.invariant.leaves.maps_grow c.loop-n.invariant.known def at
                    (sym (ap (λ (x : Scope). foreign_owner x.own_interface def.owner) s) ∙ f)),
                c.loop-n.invariant.leaves.agree,
              ),
            ),
          ),
        ),
      )),
)

pub loop-n-preserved : goal.loop-n-preserved
loop-n-preserved g c = record {
  known = known-more _ _ _ c.loop-n.n-index c.loop-n-test.true c.define_number.ensures.leaves.maps_grow c.loop-n.invariant.known c.in_ok-define_number.ensures.ok.known;
  learns = learns-more _ _ _ _ c.loop-n.n-index c.loop-n-test.true c.loop-n.invariant.learns c.in_ok-define_number.ensures.ok;
  learnt = learns-then (ap (λ (x : Scope). x.own_interface) c.loop-n.invariant.leaves.scope_stays) c.loop-n.invariant.learnt c.in_ok-define_number.ensures.learns;
  leaves = leaves-trans c.loop-n.invariant.leaves c.define_number.ensures.leaves;
  aliases = makes-number (ap (λ (x : Scope). x.own_interface) c.loop-n.invariant.leaves.scope_stays) (ordered g (goal.at.loop-n-preserved g c).After-deref-n-items) c.loop-n-test.true
      c.loop-n.invariant.aliases c.define_number.ensures.aliases;
  imports = imports-number (ap (λ (x : Scope). x.own_interface) c.loop-n.invariant.leaves.scope_stays) (ordered g (goal.at.loop-n-preserved g c).After-deref-n-items) c.loop-n-test.true
      c.loop-n.invariant.imports c.define_number.ensures.imports;
  held = holds-then (ap (λ (x : Scope). x.own_interface) c.loop-n.invariant.leaves.scope_stays) c.loop-n.invariant.leaves.maps_grow c.define_number.ensures.leaves.maps_grow c.loop-n.invariant.held
      c.in_ok-define_number.ensures.held;
  written = writes-then c.loop-n.invariant.leaves.scope_stays c.loop-n.invariant.written c.in_ok-define_number.ensures.written;
  counts = counts-trans c.loop-n.invariant.leaves.scope_stays c.loop-n.invariant.counts c.in_ok-define_number.ensures.counts;
}

pub returns-clause-ready : goal.returns-clause-ready
returns-clause-ready g c = ready-at-last _ _ _ _ _ _ _ (ordered g (goal.at.returns-clause-ready g c).After-deref-n-items) c.loop-n-test.false c.loop-n.invariant.leaves.maps_grow
    c.loop-n.invariant.known

pub returns-clause-learns : goal.returns-clause-learns
returns-clause-learns g c = record {
  learns = c.loop-n.invariant.learnt;
  only = learns-at-last _ _ _ _ _ _ _ (ordered g (goal.at.returns-clause-learns g c).After-deref-n-items) c.loop-n-test.false c.loop-n.invariant.learns;
}

pub loop-n-init : goal.loop-n-init
loop-n-init g c = rw c.order_of.ensures.same (record {
  known = λ j k. none-in j k;
  learns = learns-nothing _ (g.E.ValtypeEncoder.view c.args.enc.now).maps;
  learnt = learns-none _ _ _;
  leaves = leaves-none c.requires.agree;
  aliases = met-none refl;
  imports = imports-none refl;
  held = holds-none _ _ _ _;
  written = writes-nothing _ _ _;
  counts = counts-none _ _ _ _;
})

pub returns-in_err-define_number-clause-leaves : goal.returns-in_err-define_number-clause-leaves
returns-in_err-define_number-clause-leaves g c = leaves-trans c.loop-n.invariant.leaves c.define_number.ensures.leaves

pub returns-in_err-define_number-clause-size : goal.returns-in_err-define_number-clause-size
returns-in_err-define_number-clause-size g c = λ h.
    let o = ordered g (goal.at.returns-in_err-define_number-clause-size g c).After-deref-n-items in
    let before = g.E.ValtypeEncoder.view c.args.enc.now in
    let keys : length (g.E.ValtypeEncoder.view c.loop-n.enc).maps.func_type_map.entries ≡ length before.maps.func_type_map.entries = ap length c.loop-n.invariant.counts.keys.lists in
    room-after (ap (λ (x : Scope). x.own_interface) c.loop-n.invariant.leaves.scope_stays) c.loop-n.invariant.leaves.maps_grow c.loop-n.invariant.held
    (learns-reached _ _ _ _ _ _ c.loop-n.n-index o c.loop-n.invariant.learns) (met-number o c.loop-n-test.true) (λ q c. none-in q c) (omega (arith, keys)) (c.define_number.ensures.size (search rules))

pub returns-in_err-define_number-clause-aliases : goal.returns-in_err-define_number-clause-aliases
returns-in_err-define_number-clause-aliases g c = makes-number (ap (λ (x : Scope). x.own_interface) c.loop-n.invariant.leaves.scope_stays)
    (ordered g (goal.at.returns-in_err-define_number-clause-aliases g c).After-deref-n-items) c.loop-n-test.true c.loop-n.invariant.aliases c.define_number.ensures.aliases

pub returns-in_err-order-clause-aliases : goal.returns-in_err-order-clause-aliases
returns-in_err-order-clause-aliases g c = rw c.order_of.ensures.same (met-none refl)

pub returns-in_err-define_number-clause-imports : goal.returns-in_err-define_number-clause-imports
returns-in_err-define_number-clause-imports g c = imports-number (ap (λ (x : Scope). x.own_interface) c.loop-n.invariant.leaves.scope_stays)
    (ordered g (goal.at.returns-in_err-define_number-clause-imports g c).After-deref-n-items) c.loop-n-test.true c.loop-n.invariant.imports c.define_number.ensures.imports

pub returns-in_err-order-clause-imports : goal.returns-in_err-order-clause-imports
returns-in_err-order-clause-imports g c = rw c.order_of.ensures.same (imports-none refl)

pub returns-in_err-order-clause-stopped : goal.returns-in_err-order-clause-stopped
returns-in_err-order-clause-stopped g c = rw c.order_of.ensures.same (at_err _ (part-same _ _ _ _ _ _ (same-when refl) refl))

pub returns-in_err-define_number-clause-stopped : goal.returns-in_err-define_number-clause-stopped
returns-in_err-define_number-clause-stopped g c = at_err _ (part-then c.loop-n.invariant.leaves.scope_stays c.loop-n.invariant.counts c.in_err-define_number.ensures.stopped)
