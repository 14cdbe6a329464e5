use Rattle.std.proofs.Common.{◌≡◌, refl, rules, arith, ap, length, Result, Ok, Err, IfErr}
use Rattle.std.specs.Result.{IsErr}
use Rattle.wit_model.specs.declared.{error.Error.Error, error.Error.TheVariants.Size, model.Resolve.Resolve, model.TypeDefKind.TypeDefKind}
use Rattle.comp_bytes.specs.Refusal.{IsMemoryOrSize}
use Rattle.comp_bytes.specs.declared.forms.ComponentValType.{ComponentValType}
use Rattle.encode_types.specs.{Kinds.parts_of, Kinds.kind_of, Kinds.kind_tree, View.View, Aliases.ImportsMet, Aliases.MakesMet, Scope.Scope, Room.value_type, Leaves.Leaves, Leaves.LearnsFrom, Leaves.CountsInPart, Leaves.KindLacksRoom, Leaves.DefinesKind}
use Rattle.encode_types.proofs.{Aliasing.met-none, Aliasing.makes-same, Aliasing.imports-none, Aliasing.imports-same, Lists.none-in, Rooms.room-more, Rooms.room-after, Rooms.only-reached, Rooms.lacks-request, Rooms.holds-same}
use Rattle.encode_types.proofs.Defining.{leaves-none, leaves-beside}
use Rattle.encode_kinds.proofs.encode.encode_shape.Given.{Over}
use Rattle.encode_kinds.proofs.encode.encode_shape.Goals.{After-define_parts, In_ok-define_parts, After-branch-index}
use Rattle.encode_types.proofs.Stopping.{part-same, part-then, same-when}
use Rattle.encode_kinds.proofs.encode.encode_shape.Goals as goal

pub define_parts-requires : goal.define_parts-requires
define_parts-requires g c = λ _. ((refl, tt), (rw (c.deref.ensures.value, c.in_ok-parts.ensures) c.requires.encodable, c.requires.agree))

pub define_shape-requires : goal.define_shape-requires
define_shape-requires g c = λ _. (
  (refl, tt),
  ((rw (c.deref.ensures.value, c.in_ok-parts.ensures) at c.in_ok-define_parts.ensures.ready), (rw c.define_parts.ensures.leaves.scope_stays c.requires.formed, c.define_parts.ensures.leaves.agree)),
)

learnt : (g : Over) (c : In_ok-define_parts g)
    → LearnsFrom c.args.resolve.now (parts_of (kind_of c.args.shape)) (g.E.ValtypeEncoder.view c.args.enc.now) (g.E.ValtypeEncoder.view c.define_parts.new.enc)
learnt g c = rw (c.deref.ensures.value, c.in_ok-parts.ensures) at c.in_ok-define_parts.ensures.learns

leaves : (g : Over) (c : After-branch-index g) → Leaves c.args.resolve.now (g.E.ValtypeEncoder.view c.args.enc.now) (g.E.ValtypeEncoder.view c.define_shape.new.enc)
leaves g c = leaves-beside c.define_parts.ensures.leaves c.define_shape.ensures.grows c.define_shape.ensures.scope_stays c.define_shape.ensures.maps_stay

made : (g : Over) (c : After-define_parts g) → MakesMet c.args.resolve.now (parts_of (kind_of c.args.shape)) (g.E.ValtypeEncoder.view c.args.enc.now) (g.E.ValtypeEncoder.view c.define_parts.new.enc)
made g c = rw (c.deref.ensures.value, c.in_ok-parts.ensures) at c.define_parts.ensures.aliases

imported : (g : Over) (c : After-define_parts g)
    → ImportsMet c.args.resolve.now (parts_of (kind_of c.args.shape)) (g.E.ValtypeEncoder.view c.args.enc.now) (g.E.ValtypeEncoder.view c.define_parts.new.enc)
imported g c = rw (c.deref.ensures.value, c.in_ok-parts.ensures) at c.define_parts.ensures.imports

-- what a refusal leaves
refused : (r : Resolve) (kind : TypeDefKind) (v v' : View) (res : Result ComponentValType Error) → IsErr res → Leaves r v v' → MakesMet r (parts_of kind) v v' → ImportsMet r (parts_of kind) v v'
    → CountsInPart r v v' → (res ≡ Err Size → KindLacksRoom r kind v v') → IfErr res IsMemoryOrSize → DefinesKind r kind v v' res
refused r kind v v' (Ok x) h l a i p s f = absurd (let z : ⊥ = cc in z)
refused r kind v v' (Err e) h l a i p s f = record { ok = tt; learns = tt; leaves = l; aliases = a; imports = i; counts = tt; stopped = p; held = tt; size = s; refuses = f }

pub returns : goal.returns
returns g c =
    let at = goal.at.returns g c in
    record {
      ok = c.in_ok-index.ensures.ok;
      learns = rw c.define_shape.ensures.maps_stay (learnt g at.In_ok-define_parts);
      leaves = leaves g at.After-branch-index;
      aliases = makes-same c.define_shape.ensures.around_stays (made g at.After-define_parts);
      imports = imports-same c.define_shape.ensures.imports_stay (imported g at.After-define_parts);
      counts = record {
        slot = c.in_ok-index.index;
        is = refl;
        parts = (g.E.ValtypeEncoder.view c.define_parts.new.enc).definitions;
        adds = rw c.define_shape.ensures.maps_stay c.in_ok-define_parts.ensures.counts;
        one_more = c.in_ok-index.ensures.counts;
      };
      stopped = tt;
      held = holds-same 0 1 c.define_shape.ensures.maps_stay c.define_shape.ensures.held c.in_ok-define_parts.ensures.held;
      size = λ h. absurd (let z : ⊥ = cc in z);
      refuses = tt;
    }

pub returns-in_err-parts : goal.returns-in_err-parts
returns-in_err-parts g c =
    refused _ _ _ _ c.from_residual.result (search rules) (leaves-none c.requires.agree) (met-none refl) (imports-none refl)
    (part-same _ _ _ _ _ _ (same-when refl) refl) (λ h. absurd (let z : ⊥ = search rules in z)) (search rules)

pub returns-in_err-define_parts : goal.returns-in_err-define_parts
returns-in_err-define_parts g c = refused c.args.resolve.now (kind_of c.args.shape) _ _ c.from_residual-in_err-define_parts.result (search rules) c.define_parts.ensures.leaves
    (made g (goal.at.returns-in_err-define_parts g c).After-define_parts) (imported g (goal.at.returns-in_err-define_parts g c).After-define_parts) c.in_err-define_parts.ensures.stopped
    (λ h. room-more refl (λ n x. x) (λ q k. none-in q k) (omega arith) (rw (c.deref.ensures.value, c.in_ok-parts.ensures) at (c.define_parts.ensures.size (search rules)))) (search rules)

pub returns-in_err-index : goal.returns-in_err-index
returns-in_err-index g c =
    let at = goal.at.returns-in_err-index g c in
    let before = g.E.ValtypeEncoder.view c.args.enc.now in
    let between = g.E.ValtypeEncoder.view c.define_parts.new.enc in
    let after = g.E.ValtypeEncoder.view c.define_shape.new.enc in
    refused c.args.resolve.now (kind_of c.args.shape) before after c.from_residual-in_err-index.result (search rules) (leaves g at.After-branch-index)
    (makes-same c.define_shape.ensures.around_stays (made g at.After-define_parts)) (imports-same c.define_shape.ensures.imports_stay (imported g at.After-define_parts))
    (part-then c.define_parts.ensures.leaves.scope_stays c.in_ok-define_parts.ensures.counts (part-same _ _ _ _ _ _ (same-when c.define_shape.ensures.maps_stay) c.in_err-index.ensures.err)) (λ h.
    let keys : length between.maps.func_type_map.entries ≡ length before.maps.func_type_map.entries = ap length c.in_ok-define_parts.ensures.counts.keys.lists in
    let lacks = c.define_shape.ensures.size (search rules) in
    room-after (ap (λ (s : Scope). s.own_interface) c.define_parts.ensures.leaves.scope_stays) c.define_parts.ensures.leaves.maps_grow c.in_ok-define_parts.ensures.held
    (only-reached c.args.resolve.now before.scope.own_interface (parts_of (kind_of c.args.shape)) (learnt g at.In_ok-define_parts).only) (λ n x. x) (λ q k. k) (omega (arith, keys))
    (lacks-request c.args.resolve.now between.scope.own_interface (parts_of (kind_of c.args.shape)) (value_type (kind_tree c.args.resolve.now (kind_of c.args.shape))) between.maps between.held
    after.held after.lacks_room lacks.held lacks.lacks)) (search rules)
