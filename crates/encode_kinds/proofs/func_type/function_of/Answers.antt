use Rattle.std.proofs.Common.{◌≡◌, ap, refl, map, length, option_to_list, rules, arith}
use Rattle.encode_types.specs.{Leaves.LearnsFrom, Slots.NamedStands, Scope.Scope}
use Rattle.encode_types.proofs.Rooms.{room-more, room-after, holds-then, only-more, only-reached, reached-left, reached-right}
use Rattle.encode_types.proofs.{Learning.met-both, Learning.ready-both, Aliasing.met-more, Aliasing.makes-both, Aliasing.imports-more, Aliasing.imports-both, Functions.encode-left, Functions.encode-right, Defining.leaves-trans, Defining.counts-trans, Defining.stands-more}
use Rattle.encode_types.proofs.Writing.{writes-then}
use Rattle.base_lemmas.proofs.Elements.{zip-kept}
use Rattle.encode_types.proofs.Stopping.{part-then}
use Rattle.base_lemmas.proofs.Options.{at_err}
use Rattle.encode_kinds.proofs.func_type.function_of.Goals as goal

pub encode_params-requires : goal.encode_params-requires
encode_params-requires g c = λ _. ((refl, tt), (rw c.deref.ensures.value (encode-left _ _ _ (option_to_list c.args.func.now.result) c.requires.encodable), c.requires.agree))

pub encode_optional_valtype-requires : goal.encode_optional_valtype-requires
encode_optional_valtype-requires g c = λ _. (
  (refl, tt),
  (
    rw c.as_ref.ensures.value (encode-right c.args.resolve.now (g.E.ValtypeEncoder.view c.args.enc.now).scope (g.E.ValtypeEncoder.view c.encode_params.new.enc).scope
        (map (λ p. p.ty) c.args.func.now.params.items) (option_to_list c.args.func.now.result) c.encode_params.ensures.leaves.scope_stays c.requires.encodable),
    c.encode_params.ensures.leaves.agree,
  ),
)

pub returns : goal.returns
returns g c =
    let own = ap (λ (z : Scope). z.own_interface) c.encode_params.ensures.leaves.scope_stays in
    let first = c.encode_params.ensures in
    let second = c.encode_optional_valtype.ensures in
    record {
      ok = record {
        async = c.requires.asynchronous;
        params = zip-kept (NamedStands (g.E.ValtypeEncoder.view c.encode_params.new.enc).stands) (NamedStands (g.E.ValtypeEncoder.view c.encode_optional_valtype.new.enc).stands)
            (λ x f w. (w.0, stands-more _ _ second.leaves.grows.kept x.1 f.1 w.1)) _ _ (rw c.deref.ensures.value at c.in_ok-params.ensures.ok);
        result_ = rw c.as_ref.ensures.value at c.in_ok-result.ensures.ok;
      };
      learns = met-both _ _ _ _ _ _ _ _ own (rw c.deref.ensures.value at c.in_ok-params.ensures.learns) (rw c.as_ref.ensures.value at c.in_ok-result.ensures.learns);
      leaves = leaves-trans first.leaves second.leaves;
      aliases = makes-both own (rw c.deref.ensures.value at first.aliases) (rw c.as_ref.ensures.value at second.aliases);
      imports = imports-both own (rw c.deref.ensures.value at first.imports) (rw c.as_ref.ensures.value at second.imports);
      counts = counts-trans first.leaves.scope_stays c.in_ok-params.ensures.counts c.in_ok-result.ensures.counts;
      stopped = tt;
      knows = ready-both _ _ _ _ second.leaves.maps_grow (rw c.deref.ensures.value at c.in_ok-params.ensures.knows) (rw c.as_ref.ensures.value at c.in_ok-result.ensures.knows);
      held = holds-then own first.leaves.maps_grow second.leaves.maps_grow c.in_ok-params.ensures.held c.in_ok-result.ensures.held;
      written = writes-then first.leaves.scope_stays c.in_ok-params.ensures.written c.in_ok-result.ensures.written;
      size = λ h. absurd (let z : ⊥ = cc in z);
      refuses = tt;
    }

-- ---- where one of the two is refused

pub returns-in_err-result-clause-leaves : goal.returns-in_err-result-clause-leaves
returns-in_err-result-clause-leaves g c = leaves-trans c.encode_params.ensures.leaves c.encode_optional_valtype.ensures.leaves

pub returns-in_err-params-clause-size : goal.returns-in_err-params-clause-size
returns-in_err-params-clause-size g c = λ h. room-more refl (reached-left (map (λ p. p.ty) c.args.func.now.params.items) (option_to_list c.args.func.now.result)) (λ q k. k) (omega arith)
    (rw c.deref.ensures.value at (c.encode_params.ensures.size (search rules)))

pub returns-in_err-result-clause-size : goal.returns-in_err-result-clause-size
returns-in_err-result-clause-size g c = λ h.
    let params = map (λ p. p.ty) c.args.func.now.params.items in
    let answer = option_to_list c.args.func.now.result in
    let before = g.E.ValtypeEncoder.view c.args.enc.now in
    let between = g.E.ValtypeEncoder.view c.encode_params.new.enc in
    let learns : LearnsFrom c.args.resolve.now (map (λ p. p.ty) c.args.func.now.params.items) before between = (rw c.deref.ensures.value at c.in_ok-params.ensures.learns) in
    let keys : length between.maps.func_type_map.entries ≡ length before.maps.func_type_map.entries = ap length c.in_ok-params.ensures.counts.keys.lists in
    room-after (ap (λ (z : Scope). z.own_interface) c.encode_params.ensures.leaves.scope_stays) c.encode_params.ensures.leaves.maps_grow c.in_ok-params.ensures.held
    (only-more (reached-left params answer) (only-reached c.args.resolve.now before.scope.own_interface params learns.only))
    (reached-right params answer) (λ q k. k) (omega (arith, keys)) (rw c.as_ref.ensures.value at (c.encode_optional_valtype.ensures.size (search rules)))

pub returns-in_err-params-clause-aliases : goal.returns-in_err-params-clause-aliases
returns-in_err-params-clause-aliases g c = met-more (reached-left _ (option_to_list c.args.func.now.result)) (rw c.deref.ensures.value at c.encode_params.ensures.aliases)

pub returns-in_err-result-clause-aliases : goal.returns-in_err-result-clause-aliases
returns-in_err-result-clause-aliases g c = makes-both (ap (λ (z : Scope). z.own_interface) c.encode_params.ensures.leaves.scope_stays)
    (rw c.deref.ensures.value at c.encode_params.ensures.aliases) (rw c.as_ref.ensures.value at c.encode_optional_valtype.ensures.aliases)

pub returns-in_err-params-clause-imports : goal.returns-in_err-params-clause-imports
returns-in_err-params-clause-imports g c = imports-more (reached-left _ (option_to_list c.args.func.now.result)) (rw c.deref.ensures.value at c.encode_params.ensures.imports)

pub returns-in_err-result-clause-imports : goal.returns-in_err-result-clause-imports
returns-in_err-result-clause-imports g c = imports-both (ap (λ (z : Scope). z.own_interface) c.encode_params.ensures.leaves.scope_stays)
    (rw c.deref.ensures.value at c.encode_params.ensures.imports) (rw c.as_ref.ensures.value at c.encode_optional_valtype.ensures.imports)

pub returns-in_err-result-clause-stopped : goal.returns-in_err-result-clause-stopped
returns-in_err-result-clause-stopped g c = at_err _ (part-then c.encode_params.ensures.leaves.scope_stays c.in_ok-params.ensures.counts c.in_err-result.ensures.stopped)
