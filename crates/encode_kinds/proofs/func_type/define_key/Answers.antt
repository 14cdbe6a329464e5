use Rattle.std.proofs.Common.{◌≡◌, refl, ◌∙◌, ◌++◌, ◌∷◌, ℕ, List, sym, subst, ap, [], rules, arith, length, ◌≤◌, ◌+◌}
use Rattle.wit_model.specs.{Parts.function_types, Meaning.Signature, Meant.signature_of}
use Rattle.encode_types.specs.{Scope.Scope, Maps.LacksList, Maps.LearnsKeyList, Maps.MapsGrow, Codes.names_of, Codes.lists_of, Codes.ListKey, Codes.IsKeyList, Counts.Definitions, Room.function_type, Slots.function, View.WritesLearnt, Extents.signature_extent}
use Rattle.encode_types.proofs.{Rooms.room-more, Rooms.room-after, Rooms.only-reached, Rooms.lacks-request, Rooms.holds-key, Defining.leaves-kept, Defining.leaves-trans, Defining.lists-longer, Lists.none-in, Writing.writes-beside, Writing.writes-most, Learning.met-key, Functions.key-signature, Functions.key-new, Functions.counts-key, Functions.lacks-same, Functions.list-same, Aliasing.makes-same, Aliasing.imports-same}
use Rattle.encode_kinds.proofs.{func_type.define_key.Given.Over, func_type.define_key.Goals.In_ok-index}
use Rattle.encode_types.specs.declared.maps.TypeEncodingMaps.{TypeEncodingMaps}
use Rattle.encode_types.specs.Counts.{a_function}
use Rattle.encode_types.proofs.Stopping.{part-beside, part-same, part-then, same-when}
use Rattle.base_lemmas.proofs.Options.{at_err}
use Rattle.encode_kinds.proofs.func_type.define_key.Goals as goal

pub function_of-requires : goal.function_of-requires
function_of-requires g c = λ _. ((refl, tt), (c.requires.encodable, (c.requires.is_key.async, c.requires.agree)))

pub define_function_type-requires : goal.define_function_type-requires
define_function_type-requires g c = λ _. ((refl, tt), (_, c.in_ok-def.ensures.ok, rw c.function_of.ensures.leaves.scope_stays c.requires.formed))

stands : (g : Over) (c : In_ok-index g) → (g.E.ValtypeEncoder.view c.define_function_type.new.self).stands c.in_ok-index.index (function (signature_of c.args.resolve.now c.args.func.now))
stands g c = c.in_ok-index.ensures.ok.adds.new (function (signature_of c.args.resolve.now c.args.func.now)) c.in_ok-def.ensures.ok

-- the list of the key, by the names that are there after its types have been defined
listed : (g : Over) (c : In_ok-index g) → IsKeyList (names_of (g.E.ValtypeEncoder.view c.function_of.new.enc).maps.names) c.args.key c.args.list.0.items
listed g c = list-same (g.E.ValtypeEncoder.view c.args.enc.now).maps (g.E.ValtypeEncoder.view c.function_of.new.enc).maps c.args.key c.args.list.0.items c.in_ok-def.ensures.counts.keys c.requires.list

new-list : (g : Over) (c : In_ok-index g) → LacksList (lists_of (g.E.ValtypeEncoder.view c.function_of.new.enc).maps.func_type_map) c.args.list.0.items
new-list g c i h = lacks-same (g.E.ValtypeEncoder.view c.args.enc.now).maps (g.E.ValtypeEncoder.view c.function_of.new.enc).maps c.args.key c.in_ok-def.ensures.counts.keys c.requires.lacks i
    (c.args.list.0.items, listed g c, h)

pub remember_key-requires : goal.remember_key-requires
remember_key-requires g c = λ _. (
  (refl, tt),
  (
    record {
      key = c.args.key;
      is = rw c.define_function_type.ensures.maps_stay (listed g (goal.at.remember_key-requires g c).In_ok-index);
      stands = subst (λ (s : Signature). (g.E.ValtypeEncoder.view c.define_function_type.new.self).stands c.in_ok-index.index (function s))
          (sym (key-signature c.args.resolve.now c.args.key c.args.func.now c.requires.is_key)) (stands g (goal.at.remember_key-requires g c).In_ok-index);
    },
    (
      rw c.define_function_type.ensures.maps_stay (new-list g (goal.at.remember_key-requires g c).In_ok-index),
      (leaves-kept {v = g.E.ValtypeEncoder.view c.function_of.new.enc} {v' = g.E.ValtypeEncoder.view c.define_function_type.new.self} c.function_of.ensures.leaves.agree
          c.define_function_type.ensures.grows c.define_function_type.ensures.scope_stays c.define_function_type.ensures.maps_stay).agree,
    ),
  ),
)

pub returns : goal.returns
returns g c =
    let at = goal.at.returns g c in
    record {
      ok = c.remember_key.ensures.leaves.grows.kept c.in_ok-index.index _ (stands g at.In_ok-index);
      learns = met-key _ _ _ _ _ _ c.args.key c.args.list.0.items c.in_ok-index.index c.args.func.now c.requires.is_key c.in_ok-def.ensures.learns c.in_ok-def.ensures.knows
          c.define_function_type.ensures.maps_stay
          (listed g at.In_ok-index) c.in_ok-remember_key.ensures.ok c.remember_key.ensures.leaves.maps_grow;
      leaves = leaves-trans c.function_of.ensures.leaves (leaves-trans (leaves-kept {v = g.E.ValtypeEncoder.view c.function_of.new.enc} {v' = g.E.ValtypeEncoder.view c.define_function_type.new.self}
          c.function_of.ensures.leaves.agree c.define_function_type.ensures.grows c.define_function_type.ensures.scope_stays c.define_function_type.ensures.maps_stay) c.remember_key.ensures.leaves);
      aliases = makes-same (c.remember_key.ensures.around_stays ∙ c.define_function_type.ensures.around_stays) c.function_of.ensures.aliases;
      imports = imports-same (c.remember_key.ensures.imports_stay ∙ c.define_function_type.ensures.imports_stay) c.function_of.ensures.imports;
      counts = counts-key _ _ _ _ _ _ _ _ _ c.args.list.0.items _ c.requires.lacks c.in_ok-def.ensures.counts (listed g at.In_ok-index)
          (subst (λ (z : TypeEncodingMaps). LearnsKeyList z (g.E.ValtypeEncoder.view c.remember_key.new.enc).maps c.args.list.0.items c.in_ok-index.index) c.define_function_type.ensures.maps_stay
          c.in_ok-remember_key.ensures.ok) (c.remember_key.ensures.counts ∙ c.in_ok-index.ensures.counts);
      stopped = tt;
      last =
          let new = c.in_ok-index.ensures.ok in
          record {
            one_more = ap (λ (d : Definitions). d.functions) (c.remember_key.ensures.counts ∙ c.in_ok-index.ensures.counts)
                ∙ ap (λ (is : List ℕ). is ++ c.in_ok-index.index ∷ []) c.in_ok-def.ensures.counts.functions;
            last = c.remember_key.ensures.slots ∙ new.one_more ∙ ap (λ (n : ℕ). n + 1) (sym new.index);
          };
      held =
          let same = c.define_function_type.ensures.maps_stay in
          let after = (g.E.ValtypeEncoder.view c.remember_key.new.enc).maps in
          let learns = subst (λ (z : TypeEncodingMaps). LearnsKeyList z (g.E.ValtypeEncoder.view c.remember_key.new.enc).maps c.args.list.0.items c.in_ok-index.index) same
          c.in_ok-remember_key.ensures.ok in
          let grow = subst (λ (z : TypeEncodingMaps). MapsGrow z (g.E.ValtypeEncoder.view c.remember_key.new.enc).maps) same c.remember_key.ensures.leaves.maps_grow in
          let first = c.define_function_type.ensures.held in
          let second = c.remember_key.ensures.held in
          holds-key grow learns.rest.numbers (lists-longer (λ (v : ListKey). v.0.items) (g.E.ValtypeEncoder.view c.function_of.new.enc).maps.func_type_map.entries after.func_type_map.entries
          (c.args.list.0.items, c.in_ok-index.index) learns.more) (omega (arith, first, second)) c.in_ok-def.ensures.held;
      written =
          let one = (c.in_ok-index.ensures.written (signature_of c.args.resolve.now c.args.func.now) c.in_ok-def.ensures.ok).extent in
          let all : (g.E.ValtypeEncoder.view c.remember_key.new.enc).extent ≤ (g.E.ValtypeEncoder.view c.function_of.new.enc).extent + signature_extent
          (signature_of c.args.resolve.now c.args.func.now) =
          (let e = c.remember_key.ensures.written in omega (arith, one, e)) in
          let w : WritesLearnt c.args.resolve.now (0 + signature_extent (signature_of c.args.resolve.now c.args.func.now)) (g.E.ValtypeEncoder.view c.args.enc.now)
          (g.E.ValtypeEncoder.view c.remember_key.new.enc) = writes-beside (signature_extent (signature_of c.args.resolve.now c.args.func.now)) c.in_ok-def.ensures.written all
          (c.in_ok-remember_key.ensures.ok.rest.numbers ∙ ap (λ (z : TypeEncodingMaps). z.id_to_index.entries) c.define_function_type.ensures.maps_stay) in
          writes-most (omega arith) w;
      size = λ h. absurd (let z : ⊥ = cc in z);
      refuses = tt;
    }

pub returns-in_err-index-clause-leaves : goal.returns-in_err-index-clause-leaves
returns-in_err-index-clause-leaves g c = leaves-trans c.function_of.ensures.leaves
    (leaves-kept {v = g.E.ValtypeEncoder.view c.function_of.new.enc} {v' = g.E.ValtypeEncoder.view c.define_function_type.new.self} c.function_of.ensures.leaves.agree
    c.define_function_type.ensures.grows c.define_function_type.ensures.scope_stays c.define_function_type.ensures.maps_stay)

pub returns-in_err-remember_key-clause-leaves : goal.returns-in_err-remember_key-clause-leaves
returns-in_err-remember_key-clause-leaves g c = leaves-trans c.function_of.ensures.leaves
    (leaves-trans (leaves-kept {v = g.E.ValtypeEncoder.view c.function_of.new.enc} {v' = g.E.ValtypeEncoder.view c.define_function_type.new.self} c.function_of.ensures.leaves.agree
    c.define_function_type.ensures.grows c.define_function_type.ensures.scope_stays c.define_function_type.ensures.maps_stay) c.remember_key.ensures.leaves)

pub returns-in_err-def-clause-size : goal.returns-in_err-def-clause-size
returns-in_err-def-clause-size g c = λ h. record {
  new_key = key-new (g.E.ValtypeEncoder.view c.args.enc.now).maps c.args.key c.args.func.now c.requires.is_key c.requires.lacks;
  room = room-more refl (λ n x. x) (λ q k. none-in q k) (omega arith) (c.function_of.ensures.size (search rules));
}

pub returns-in_err-index-clause-size : goal.returns-in_err-index-clause-size
returns-in_err-index-clause-size g c = λ h.
    let before = g.E.ValtypeEncoder.view c.args.enc.now in
    let between = g.E.ValtypeEncoder.view c.function_of.new.enc in
    let after = g.E.ValtypeEncoder.view c.define_function_type.new.self in
    let keys : length between.maps.func_type_map.entries ≡ length before.maps.func_type_map.entries = ap length c.in_ok-def.ensures.counts.keys.lists in
    let lacks = c.define_function_type.ensures.size (search rules) (signature_of c.args.resolve.now c.args.func.now) c.in_ok-def.ensures.ok in
    record {
      new_key = key-new before.maps c.args.key c.args.func.now c.requires.is_key c.requires.lacks;
      room = room-after (ap (λ (s : Scope). s.own_interface) c.function_of.ensures.leaves.scope_stays) c.function_of.ensures.leaves.maps_grow c.in_ok-def.ensures.held
          (only-reached c.args.resolve.now before.scope.own_interface (function_types c.args.func.now) c.in_ok-def.ensures.learns.only) (λ n x. x) (λ q k. k) (omega (arith, keys))
          (lacks-request c.args.resolve.now between.scope.own_interface (function_types c.args.func.now) (function_type (signature_of c.args.resolve.now c.args.func.now)) between.maps between.held
          after.held after.lacks_room lacks.held lacks.lacks);
    }

pub returns-in_err-remember_key-clause-aliases : goal.returns-in_err-remember_key-clause-aliases
returns-in_err-remember_key-clause-aliases g c = makes-same (c.remember_key.ensures.around_stays ∙ c.define_function_type.ensures.around_stays) c.function_of.ensures.aliases

pub returns-in_err-index-clause-aliases : goal.returns-in_err-index-clause-aliases
returns-in_err-index-clause-aliases g c = makes-same c.define_function_type.ensures.around_stays c.function_of.ensures.aliases

pub returns-in_err-remember_key-clause-imports : goal.returns-in_err-remember_key-clause-imports
returns-in_err-remember_key-clause-imports g c = imports-same (c.remember_key.ensures.imports_stay ∙ c.define_function_type.ensures.imports_stay) c.function_of.ensures.imports

pub returns-in_err-index-clause-imports : goal.returns-in_err-index-clause-imports
returns-in_err-index-clause-imports g c = imports-same c.define_function_type.ensures.imports_stay c.function_of.ensures.imports

pub returns-in_err-index-clause-stopped : goal.returns-in_err-index-clause-stopped
returns-in_err-index-clause-stopped g c = at_err _ (part-then c.function_of.ensures.leaves.scope_stays c.in_ok-def.ensures.counts
    (part-same _ _ _ _ _ _ (same-when c.define_function_type.ensures.maps_stay) c.in_err-index.ensures.err))

pub returns-in_err-remember_key-clause-stopped : goal.returns-in_err-remember_key-clause-stopped
returns-in_err-remember_key-clause-stopped g c = at_err _ (part-then c.function_of.ensures.leaves.scope_stays c.in_ok-def.ensures.counts
    (part-beside _ _ _ _ _ _ (rw c.define_function_type.ensures.maps_stay at c.in_err-remember_key.ensures.err)
    (a_function c.in_ok-index.index (c.remember_key.ensures.counts ∙ c.in_ok-index.ensures.counts))))
