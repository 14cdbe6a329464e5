use Rattle.std.proofs.Common.{◌≡◌, ◌∙◌, ◌+◌, ◌++◌, ◌∷◌, inl, inr, refl, sym, subst, ap, [], length, arith}
use Rattle.std.proofs.lemmas.Result.{IfOk-weaker as ok-map, on_err_weaker}
use Rattle.wit_model.specs.{Meant.signature_of, Parts.function_types}
use Rattle.encode_types.specs.{Counts.Definitions, Extents.signature_extent, Fits.CanEncode, Formed.IsFormedSignature, Maps.LacksKey, View.WritesLearnt, Scope.Scope, Room.HoldsFor}
use Rattle.encode_types.proofs.{Agree.on_ok, Aliasing.met-none, Aliasing.makes-then, Aliasing.imports-none, Aliasing.imports-then, Defining.leaves-trans, Encoding.learns-nothing, Encoding.learns-same, Rooms.holds-shared, Rooms.holds-then, Rooms.room-after, Functions.key-stands, Functions.counts-found, Functions.counts-behind, Functions.knows-more, Tables.at-none, Tables.key-lacking, Learning.met-both, Learning.met-names, Writing.writes-nothing, Writing.writes-beside, Writing.writes-most, Writing.writes-then}
use Rattle.encode_kinds.proofs.{func_type.encode_func_type.Goals.In_ok-list, func_type.encode_func_type.Goals.In_default, func_type.encode_func_type.Given.Over}
use Rattle.encode_types.proofs.Stopping.{part-behind, part-names}
use Rattle.base_lemmas.proofs.Options.{at_err}
use Rattle.encode_kinds.proofs.func_type.encode_func_type.Goals as goal

-- ---- names may have been added

held : (g : Over) (c : In_ok-list g)
    → HoldsFor c.args.resolve.now (g.E.ValtypeEncoder.view c.args.enc.now).scope.own_interface (g.E.ValtypeEncoder.view c.args.enc.now).maps (g.E.ValtypeEncoder.view c.list_of_key.new.enc).maps
    (g.E.ValtypeEncoder.view c.args.enc.now).held (g.E.ValtypeEncoder.view c.list_of_key.new.enc).held 0
held g c = let same = c.list_of_key.ensures.held in holds-shared (omega (arith, ap length c.list_of_key.ensures.names.rest.numbers)) c.list_of_key.ensures.names.rest.keys (omega (arith, same))

written : (g : Over) (c : In_ok-list g) → WritesLearnt c.args.resolve.now 0 (g.E.ValtypeEncoder.view c.args.enc.now) (g.E.ValtypeEncoder.view c.list_of_key.new.enc)
written g c =
    let same = c.list_of_key.ensures.written in
    let w : WritesLearnt c.args.resolve.now (0 + 0) (g.E.ValtypeEncoder.view c.args.enc.now) (g.E.ValtypeEncoder.view c.list_of_key.new.enc) =
    writes-beside 0 (writes-nothing c.args.resolve.now 0 (g.E.ValtypeEncoder.view c.args.enc.now)) (omega (arith, same)) c.list_of_key.ensures.names.rest.numbers in
    writes-most (omega arith) w

lacks : (g : Over) (c : In_default g) → LacksKey (g.E.ValtypeEncoder.view c.list_of_key.new.enc).maps c.key_of-key.result
lacks g c = key-lacking (g.E.ValtypeEncoder.view c.list_of_key.new.enc).maps c.key_of-key.result c.in_ok-list.list.0.items c.list_of_key.ensures.leaves.agree.once c.in_ok-list.ensures.list
    (at-none c.index_of_key.result _ c.in_default.is c.index_of_key.ensures.none)

-- ---- where the key is known

pub returns-in-Some : goal.returns-in-Some
returns-in-Some g c =
    let at = goal.at.returns-in-Some g c in
    let list = c.list_of_key.ensures in
    rw c.index_of_key.ensures.same (record {
      ok = key-stands _ _ (g.E.ValtypeEncoder.view c.list_of_key.new.enc).stands c.key_of-key.result _ _ list.leaves.agree c.key_of-key.ensures
          (c.in_ok-list.list.0.items, c.in_ok-list.ensures.list, c.in-Some.ensures.some);
      learns = met-names _ _ _ _ _ list.names;
      leaves = list.leaves;
      aliases = met-none list.around_stays;
      imports = imports-none list.imports_stay;
      counts = (
        c.key_of-key.result,
        c.key_of-key.ensures,
        counts-found _ _ _ _ _ _ _ c.in_ok-list.list.0.items _ c.requires.agree.once list.names list.known c.in_ok-list.ensures.list c.in-Some.ensures.some list.counts,
      );
      stopped = tt;
      last = inl (ap (λ (d : Definitions). d.functions) list.counts);
      held = held g at.In_ok-list;
      written = writes-most (omega arith) (written g at.In_ok-list);
      size = λ h. absurd (let z : ⊥ = cc in z);
      refuses = tt;
    })

-- ---- where it is new

pub define_key-requires : goal.define_key-requires
define_key-requires g c = λ _. (
  (refl, tt),
  rw c.index_of_key.ensures.same (
    subst (λ (s : Scope). CanEncode c.args.resolve.now s (function_types c.args.func.now)) (sym c.list_of_key.ensures.leaves.scope_stays) c.requires.encodable,
    (
      c.key_of-key.ensures,
      (
        c.in_ok-list.ensures.list,
        (
          lacks g (goal.at.define_key-requires g c).In_default,
          (
            subst (λ (s : Scope). IsFormedSignature s (signature_of c.args.resolve.now c.args.func.now)) (sym c.list_of_key.ensures.leaves.scope_stays) c.requires.formed,
            c.list_of_key.ensures.leaves.agree,
          ),
        ),
      ),
    ),
  ),
)

pub returns-clause-counts : goal.returns-clause-counts
returns-clause-counts g c = ok-map c.define_key.result _ _ (λ i h. (
  c.key_of-key.result,
  c.key_of-key.ensures,
  counts-behind c.args.resolve.now (g.E.ValtypeEncoder.view c.args.enc.now).scope (g.E.ValtypeEncoder.view c.list_of_key.new.enc).scope (g.E.ValtypeEncoder.view c.args.enc.now).maps
      (g.E.ValtypeEncoder.view c.list_of_key.new.enc).maps (g.E.ValtypeEncoder.view c.define_key.new.enc).maps (g.E.ValtypeEncoder.view c.args.enc.now).definitions
      (g.E.ValtypeEncoder.view c.list_of_key.new.enc).definitions (g.E.ValtypeEncoder.view c.define_key.new.enc).definitions c.key_of-key.result i
      c.list_of_key.ensures.leaves.scope_stays c.list_of_key.ensures.names c.list_of_key.ensures.counts (lacks g (goal.at.returns-clause-counts g c).In_default) h,
)) (rw c.index_of_key.ensures.same at c.define_key.ensures.counts)

pub returns-clause-learns : goal.returns-clause-learns
returns-clause-learns g c = on_ok c.define_key.result _ _ (λ h. met-both c.args.resolve.now (g.E.ValtypeEncoder.view c.args.enc.now).scope.own_interface
    (g.E.ValtypeEncoder.view c.list_of_key.new.enc).scope.own_interface (g.E.ValtypeEncoder.view c.args.enc.now).maps (g.E.ValtypeEncoder.view c.list_of_key.new.enc).maps
    (g.E.ValtypeEncoder.view c.define_key.new.enc).maps [] (function_types c.args.func.now) (ap (λ (s : Scope). s.own_interface) c.list_of_key.ensures.leaves.scope_stays)
    (met-names c.args.resolve.now (g.E.ValtypeEncoder.view c.args.enc.now).scope.own_interface [] (g.E.ValtypeEncoder.view c.args.enc.now).maps (g.E.ValtypeEncoder.view c.list_of_key.new.enc).maps
    c.list_of_key.ensures.names) h) (rw c.index_of_key.ensures.same at c.define_key.ensures.learns)

pub returns-clause-leaves : goal.returns-clause-leaves
returns-clause-leaves g c = leaves-trans c.list_of_key.ensures.leaves (rw c.index_of_key.ensures.same at c.define_key.ensures.leaves)

pub returns-clause-aliases : goal.returns-clause-aliases
returns-clause-aliases g c = makes-then (ap (λ (s : Scope). s.own_interface) c.list_of_key.ensures.leaves.scope_stays) (met-none c.list_of_key.ensures.around_stays)
    (rw c.index_of_key.ensures.same at c.define_key.ensures.aliases)

pub returns-clause-held : goal.returns-clause-held
returns-clause-held g c = on_ok c.define_key.result _ _ (λ h. holds-then (ap (λ (s : Scope). s.own_interface) c.list_of_key.ensures.leaves.scope_stays) c.list_of_key.ensures.leaves.maps_grow
    (rw c.index_of_key.ensures.same at c.define_key.ensures.leaves.maps_grow) (held g (goal.at.returns-clause-held g c).In_ok-list) h) (rw c.index_of_key.ensures.same at c.define_key.ensures.held)

pub returns-clause-written : goal.returns-clause-written
returns-clause-written g c = on_ok c.define_key.result _ _
    (λ h. (let w : WritesLearnt c.args.resolve.now (0 + signature_extent (signature_of c.args.resolve.now c.args.func.now)) (g.E.ValtypeEncoder.view c.args.enc.now)
    (g.E.ValtypeEncoder.view c.define_key.new.enc) = writes-then c.list_of_key.ensures.leaves.scope_stays (written g (goal.at.returns-clause-written g c).In_ok-list) h in
    writes-most (omega arith) w)) (rw c.index_of_key.ensures.same at c.define_key.ensures.written)

pub returns-clause-size : goal.returns-clause-size
returns-clause-size g c = λ e.
    let q = (rw c.index_of_key.ensures.same at (c.define_key.ensures.size e)) in
    let keys : length (g.E.ValtypeEncoder.view c.list_of_key.new.enc).maps.func_type_map.entries ≡ length (g.E.ValtypeEncoder.view c.args.enc.now).maps.func_type_map.entries =
    ap length c.list_of_key.ensures.names.rest.keys in
    record {
      new_key = λ k. q.new_key (knows-more (g.E.ValtypeEncoder.view c.args.enc.now).maps (g.E.ValtypeEncoder.view c.list_of_key.new.enc).maps c.args.func.now c.list_of_key.ensures.names k);
      room = room-after (ap (λ (s : Scope). s.own_interface) c.list_of_key.ensures.leaves.scope_stays) c.list_of_key.ensures.leaves.maps_grow (held g (goal.at.returns-clause-size g c).In_ok-list)
          (learns-same (g.E.ValtypeEncoder.view c.args.enc.now).maps (g.E.ValtypeEncoder.view c.args.enc.now).maps (g.E.ValtypeEncoder.view c.list_of_key.new.enc).maps
          (learns-nothing _ (g.E.ValtypeEncoder.view c.args.enc.now).maps) c.list_of_key.ensures.names.rest.numbers) (λ n x. x) (λ q k. k) (omega (arith, keys)) q.room;
    }

-- ---- where there is no memory for the list

pub returns-in_err-list-clause-leaves : goal.returns-in_err-list-clause-leaves
returns-in_err-list-clause-leaves g c = c.list_of_key.ensures.leaves

pub returns-in_err-list-clause-aliases : goal.returns-in_err-list-clause-aliases
returns-in_err-list-clause-aliases g c = met-none c.list_of_key.ensures.around_stays

-- ---- imports

pub returns-clause-imports : goal.returns-clause-imports
returns-clause-imports g c = imports-then (ap (λ (s : Scope). s.own_interface) c.list_of_key.ensures.leaves.scope_stays) (imports-none c.list_of_key.ensures.imports_stay)
    (rw c.index_of_key.ensures.same at c.define_key.ensures.imports)

pub returns-in_err-list-clause-imports : goal.returns-in_err-list-clause-imports
returns-in_err-list-clause-imports g c = imports-none c.list_of_key.ensures.imports_stay

-- ---- the last slot

pub returns-clause-last : goal.returns-clause-last
returns-clause-last g c = ok-map c.define_key.result _ _ (λ i h. inr (record { one_more = h.one_more ∙ ap (λ (d : Definitions). d.functions ++ i ∷ []) c.list_of_key.ensures.counts; last = h.last }))
    (rw c.index_of_key.ensures.same at c.define_key.ensures.last)

-- ---- where it is refused

pub returns-in_err-list-clause-stopped : goal.returns-in_err-list-clause-stopped
returns-in_err-list-clause-stopped g c = at_err _ (part-names _ _ _ _ _ _ c.list_of_key.ensures.names c.list_of_key.ensures.counts)

pub returns-clause-stopped : goal.returns-clause-stopped
returns-clause-stopped g c = on_err_weaker c.define_key.result (λ a. part-behind _ _ _ _ _ _ _ _ _ c.list_of_key.ensures.leaves.scope_stays c.list_of_key.ensures.names c.list_of_key.ensures.counts a)
    (rw c.index_of_key.ensures.same at c.define_key.ensures.stopped)
