use Rattle.std.proofs.Common.{refl, sym, subst, map, arith, rules, ap}
use Rattle.std.specs.List.{flat_map}
use Rattle.wit_model.specs.Parts.{function_types}
use Rattle.encode_types.proofs.{Rooms.holds-most, Rooms.holds-then, Rooms.only-more, Rooms.reached-left, Rooms.reached-right, Agree.on_ok, Agree.known-grow, Writing.writes-most, Writing.writes-then, Aliasing.met-more, Aliasing.makes-then}
use Rattle.wit_encode.proofs.{HeldKeys.knows-along, Referring.from-then, FunctionRoom.lacks-types, FunctionRoom.lacks-behind, Continuing.same-scope, Continuing.after-types, Continuing.continues-trans, Placed.open-still, Placed.types-in-order, FunctionExports.listed-used, FunctionExports.exported-after, Counting.parts-counted, Counting.parts-named, interface.InstanceEncoderOf+TypeEncodingMaps.encode_parts.Goals.After-encode_types}
use Rattle.encode_types.specs.Scope.{Scope}
use Rattle.wit_encode.specs.Instance.{CanEncodeFunction, Continues, own_of, declarations_in, placed_function}
use Rattle.base_lemmas.proofs.Options.{on-both}
use Rattle.wit_model.specs.declared.model.«Type».TheVariants as ty
use Rattle.wit_encode.proofs.interface.InstanceEncoderOf+TypeEncodingMaps.encode_parts.Goals as goal

pub encode_functions-requires-clause-encodable : goal.encode_functions-requires-clause-encodable
encode_functions-requires-clause-encodable c = λ f h. subst (λ (s : Scope). CanEncodeFunction c.args.resolve.now s f.2.now)
    (same-scope c.args.resolve.now c.args.self.now.resolve.now c.encode_types.new.self.resolve.now c.args.self.now.outer c.encode_types.new.self.outer c.args.self.now.inner
    c.encode_types.new.self.inner c.requires.begins.packages_ c.encode_types.ensures.leaves.scope_stays) (c.requires.functions f h)

types-continue : (c : After-encode_types)
    → Continues c.args.resolve.now c.args.resolve.now c.args.self.now.outer c.encode_types.new.self.outer c.args.self.now.inner c.encode_types.new.self.inner c.args.self.now.maps
    c.encode_types.new.self.maps
types-continue c = after-types c.args.resolve.now c.args.self.now.resolve.now c.encode_types.new.self.resolve.now c.args.self.now.outer c.encode_types.new.self.outer c.args.self.now.inner
    c.encode_types.new.self.inner c.args.self.now.maps c.encode_types.new.self.maps c.requires.begins.packages_ c.encode_types.ensures.leaves.scope_stays c.encode_types.ensures.leaves.agree
    c.encode_types.ensures.leaves.grows.around_

pub returns : goal.returns
returns c =
    let e₀ = c.args.self.now in let e₁ = c.encode_types.new.self in let e₂ = c.encode_functions.new.self in
    let types = map (λ t. ty.Id t) c.args.types.now in
    let others = flat_map function_types (map (λ f. f.2.now) c.args.functions.now) in
    record {
      continues = record {
        packages_ = search rules;
        inside = search rules;
        continues = continues-trans (types-continue (goal.at.returns c).After-encode_types) c.encode_functions.ensures.continues.continues refl;
      };
      aliases = makes-then (ap (λ (s : Scope). s.own_interface) c.encode_types.ensures.leaves.scope_stays) (met-more (reached-left types others) c.encode_types.ensures.aliases)
          (met-more (reached-right types others) c.encode_functions.ensures.aliases);
      shows = search rules;
      counts = parts-counted c.encode_functions.result c.args.resolve.now e₀.resolve.now e₁.resolve.now e₀.outer e₁.outer e₂.outer e₀.inner e₁.inner e₂.inner e₀.maps e₁.maps e₂.maps
          (map (λ f. f.2.now) c.args.functions.now) c.requires.begins.packages_ c.encode_types.ensures.leaves.scope_stays c.in_ok-encode_types.ensures.counts c.encode_functions.ensures.counts;
      known = on_ok c.encode_functions.result _ _ (λ l. λ t h. known-grow e₁.maps e₂.maps t.0 l.learns.grow (c.in_ok-encode_types.ensures.known t h)) c.encode_functions.ensures.learns;
      learns = on_ok c.encode_functions.result _ _ (λ l. from-then (ap (λ (s : Scope). s.own_interface) c.encode_types.ensures.leaves.scope_stays) c.in_ok-encode_types.ensures.learns l)
          c.encode_functions.ensures.learns;
      exported = exported-after c.encode_functions.result c.args.resolve.now e₀.resolve.now e₁.resolve.now e₀.outer e₁.outer e₂.outer e₀.inner e₁.inner e₂.inner
          (declarations_in c.args.resolve.now (own_of e₀.inner)) c.requires.begins.packages_ c.encode_types.ensures.leaves.scope_stays c.in_ok-encode_types.ensures.exported
          c.encode_functions.ensures.types_stay;
      defined = parts-named c.encode_functions.result c.args.resolve.now e₀.resolve.now e₁.resolve.now e₀.outer e₁.outer e₀.inner e₁.inner e₁.maps e₂.maps _ c.encode_types.ensures.leaves.scope_stays
          c.in_ok-encode_types.ensures.defined c.encode_functions.ensures.names_stay;
      held = on-both c.encode_functions.result _ _ _ (λ l h. holds-most (omega arith)
          (holds-then (ap (λ (s : Scope). s.own_interface) c.encode_types.ensures.leaves.scope_stays) c.encode_types.ensures.leaves.maps_grow l.learns.grow c.in_ok-encode_types.ensures.held h))
          c.encode_functions.ensures.learns c.encode_functions.ensures.held;
      places = on_ok c.encode_functions.result _ _ (λ p none. p (types-in-order e₀.resolve.now e₁.resolve.now e₀.outer e₁.outer e₀.inner e₁.inner c.requires.inside
          (open-still e₀.inner e₁.inner (ap (λ (s : Scope). s.own_interface) c.encode_types.ensures.leaves.scope_stays) c.requires.inside) none c.encode_types.ensures.leaves.grows.own_
          c.in_ok-encode_types.ensures.counts.functions)) c.encode_functions.ensures.places;
      written = on_ok c.encode_functions.result _ _ (λ w. writes-most (omega arith) (writes-then c.encode_types.ensures.leaves.scope_stays c.in_ok-encode_types.ensures.written w))
          c.encode_functions.ensures.written;
      size = λ h.
          let same = c.in_ok-encode_types.ensures.counts.keys in
          lacks-behind (ap (λ (s : Scope). s.own_interface) c.encode_types.ensures.leaves.scope_stays) c.encode_types.ensures.leaves.maps_grow
          (only-more (reached-left types others) c.in_ok-encode_types.ensures.learns.only) (reached-right types others) (map placed_function c.args.functions.now) c.in_ok-encode_types.ensures.held
          (knows-along e₁.maps e₀.maps (sym same.lists) (sym same.names_)) (c.encode_functions.ensures.size h);
      refuses = search rules;
    }

pub encode_functions-requires-clause-used : goal.encode_functions-requires-clause-used
encode_functions-requires-clause-used c = λ f h. listed-used c.args.resolve.now c.encode_types.new.self.maps c.args.types.now f.2.now c.in_ok-encode_types.ensures.known (c.requires.uses f h)

pub returns-in_err-encode_types-clause-continues : goal.returns-in_err-encode_types-clause-continues
returns-in_err-encode_types-clause-continues c = record {
  packages_ = search rules;
  inside = search rules;
  continues = types-continue (goal.at.returns-in_err-encode_types-clause-continues c).After-encode_types;
}

pub returns-in_err-encode_types-clause-size : goal.returns-in_err-encode_types-clause-size
returns-in_err-encode_types-clause-size c = λ h. lacks-types (map placed_function c.args.functions.now) c.requires.begins.agree.once
    (reached-left (map (λ t. ty.Id t) c.args.types.now) (flat_map function_types (map (λ f. f.2.now) c.args.functions.now))) (c.encode_types.ensures.size (search rules))

pub returns-in_err-encode_types-clause-aliases : goal.returns-in_err-encode_types-clause-aliases
returns-in_err-encode_types-clause-aliases c = met-more (reached-left (map (λ t. ty.Id t) c.args.types.now) (flat_map function_types (map (λ f. f.2.now) c.args.functions.now)))
    c.encode_types.ensures.aliases
