use Rattle.std.proofs.Common.{rules, refl, sym, subst, arith, ℕ, String, Global, List, Option, take, ◌∙◌, ap, ◌++◌, map}
use Rattle.std.proofs.{lemmas.Grind.common_steps, lemmas.List.take_all, Math.ListN.length-map}
use Rattle.std.specs.{List.Contains, List.flat_map, Borrow.Bor}
use Rattle.wit_model.specs.{Text.Text, Parts.function_types}
use Rattle.wit_model.specs.declared.model.{Function.Function, InterfaceId.InterfaceId, Resolve.Resolve}
use Rattle.wit_encode.specs.Instance.{own_of, placed_function, meaning_of, contents_of, definitions_with, encoder_scope}
use Rattle.wit_encode.specs.Encoders.{encoder_view}
use Rattle.wit_encode.proofs.{Referring.from-function, Referring.from-functions, FunctionRoom.next-lacks, Counting.adds-nothing, Counting.functions-counted, Counting.functions-all, Counting.names-after, FunctionExports.used-kept, Continuing.function-continues, Continuing.continues-trans, BytesWritten.functions-next, BytesWritten.functions-whole}
use Rattle.encode_types.proofs.Rooms.{holds-none, holds-most, holds-then, only-more, flat-taken, map-taken}
use Rattle.encode_types.proofs.{Writing.writes-along, Writing.writes-most, Writing.writes-nothing, Aliasing.met-none, Aliasing.met-more, Aliasing.makes-then}
use Rattle.encode_types.specs.{Extents.function_extent, MetKinds.ReachedFrom}
use Rattle.wit_model.proofs.Elements.{contains-flat}
use Rattle.base_lemmas.proofs.{Elements.contains-at, Elements.contains-map, Lists.map_of_map as map-twice}
use Rattle.wit_encode.proofs.interface.InstanceEncoderOf+TypeEncodingMaps.encode_functions.Goals as goal

-- what is met from one of the functions
met-there : (r : Resolve) (own : Option InterfaceId) (fs : List (ℕ × Bor (String Global) × Bor Function)) (f : ℕ × Bor (String Global) × Bor Function) → Contains fs f → (n : ℕ)
    → ReachedFrom r own (function_types f.2.now) n → ReachedFrom r own (flat_map function_types (map (λ f. f.2.now) fs)) n
met-there r own fs f c n x = (x.0, contains-flat function_types _ f.2.now x.0 (contains-map (λ (f : ℕ × Bor (String Global) × Bor Function). f.2.now) fs f c) x.1, x.2)

pub encode_function-requires-clause-encodable : goal.encode_function-requires-clause-encodable
encode_function-requires-clause-encodable c = function-continues _ c.loop-entry.invariant.continues
    (c.requires.encodable c.entry-item.result (contains-at c.args.functions.now c.loop-entry.entry-index c.entry-item.result c.loop-entry-test.true c.entry-item.is))

pub loop-entry-preserved : goal.loop-entry-preserved
loop-entry-preserved c =
    let r = c.args.resolve.now in let e₀ = c.args.self.now in let e = c.loop-entry.self in let fs = c.args.functions.now in let f = c.entry-item.result in let n = c.loop-entry.entry-index in
    let so_far = c.loop-entry.invariant in
    record {
      packages_ = search rules;
      own = search rules;
      continues = continues-trans so_far.continues c.encode_function.ensures.continues.continues refl;
      aliases = makes-then so_far.own so_far.aliases (met-more (met-there _ _ fs f (contains-at fs n f c.loop-entry-test.true c.entry-item.is)) c.encode_function.ensures.aliases);
      shows = grind (arith, common_steps);
      counts = functions-counted (λ (f : ℕ × Bor (String Global) × Bor Function). f.2.now) fs n f c.loop-entry-test.true c.entry-item.is so_far.own so_far.counts
          c.in_ok-encode_function.ensures.counts;
      learns = from-function (λ (f : ℕ × Bor (String Global) × Bor Function). f.2.now) r (own_of e₀.inner) (own_of e.inner) fs n f e₀.maps e.maps c.encode_function.new.self.maps c.loop-entry-test.true
          c.entry-item.is so_far.own so_far.learns c.in_ok-encode_function.ensures.learns;
      names = names-after r (encoder_scope r e₀.outer e₀.inner) (encoder_scope r e.outer e.inner) e₀.maps e.maps c.encode_function.new.self.maps so_far.own so_far.names
          c.in_ok-encode_function.ensures.names_stay;
      within = omega arith;
      held = holds-most (omega arith) (holds-then so_far.own so_far.grow c.encode_function.ensures.maps_grow so_far.held c.in_ok-encode_function.ensures.held);
      written =
          let next = functions-next (function_extent r) placed_function fs n f c.loop-entry-test.true c.entry-item.is in
          writes-most (omega (arith, next)) (writes-along so_far.own so_far.written c.in_ok-encode_function.ensures.written);
      grow = search rules;
      types_stay = search rules;
      places = λ s. c.in_ok-encode_function.ensures.places (so_far.places s);
    }

pub encode_function-requires-clause-used : goal.encode_function-requires-clause-used
encode_function-requires-clause-used c = used-kept c.args.resolve.now c.args.self.now.maps c.loop-entry.self.maps c.entry-item.result.2.now c.loop-entry.invariant.grow
    (c.requires.used c.entry-item.result (contains-at c.args.functions.now c.loop-entry.entry-index c.entry-item.result c.loop-entry-test.true c.entry-item.is))

pub returns : goal.returns
returns c = record {
  continues = search rules;
  aliases = search rules;
  shows = c.loop-entry.invariant.shows ∙ ap (λ fs. (contents_of c.args.resolve.now c.args.self.now.outer c.args.self.now.inner).shown.functions
      ++ map (λ f. meaning_of c.args.resolve.now (placed_function f)) fs) (take_all c.loop-entry.entry-index c.args.functions.now c.loop-entry-test.false);
  counts = functions-all (λ (f : ℕ × Bor (String Global) × Bor Function). f.2.now) c.args.functions.now c.loop-entry.entry-index c.loop-entry-test.false c.loop-entry.invariant.counts;
  learns = from-functions (λ (f : ℕ × Bor (String Global) × Bor Function). f.2.now) c.args.resolve.now (own_of c.args.self.now.inner) c.args.functions.now c.loop-entry.entry-index
      c.args.self.now.maps c.loop-entry.self.maps c.loop-entry-test.false c.loop-entry.invariant.learns;
  types_stay = search rules;
  names_stay = search rules;
  held = holds-most (omega (arith, c.loop-entry.invariant.within)) c.loop-entry.invariant.held;
  places = c.loop-entry.invariant.places;
  written =
      let all = functions-whole (function_extent c.args.resolve.now) placed_function c.args.functions.now c.loop-entry.entry-index c.loop-entry-test.false in
      writes-most (omega (arith, all)) c.loop-entry.invariant.written;
  size = search rules;
  refuses = search rules;
}

pub returns-in_err-encode_function-clause-continues : goal.returns-in_err-encode_function-clause-continues
returns-in_err-encode_function-clause-continues c = record {
  packages_ = search rules;
  inside = search rules;
  continues = continues-trans c.loop-entry.invariant.continues c.encode_function.ensures.continues.continues refl;
}

pub returns-in_err-encode_function-clause-size : goal.returns-in_err-encode_function-clause-size
returns-in_err-encode_function-clause-size c = λ h.
    let fs = c.args.functions.now in let f = c.entry-item.result in let n = c.loop-entry.entry-index in let so_far = c.loop-entry.invariant in
    let at = contains-at fs n f c.loop-entry-test.true c.entry-item.is in
    let length-is = length-map fs placed_function in
    let before = c.loop-entry-test.true in
    next-lacks so_far.own so_far.grow (only-more (λ k x. (x.0, flat-taken function_types (λ (f : ℕ × Bor (String Global) × Bor Function). f.2.now) fs n x.0 x.1, x.2)) so_far.learns.only)
    (met-there _ _ fs f at) (map placed_function fs) (placed_function f) (map (λ f. f.2.now) (take n fs)) so_far.held
    so_far.counts.known (λ f k. subst (λ (fs : List Function). Contains fs f) (sym (map-twice (λ (g : Text × Function). g.1) placed_function fs))
    (map-taken (λ (f : ℕ × Bor (String Global) × Bor Function). f.2.now) fs n f k)) (contains-map placed_function fs f at) (omega (arith, before, length-is))
    (c.encode_function.ensures.size (search rules))

pub loop-entry-init : goal.loop-entry-init
loop-entry-init c = record {
  packages_ = search rules;
  own = search rules;
  continues = search rules;
  aliases = met-none refl;
  shows = search rules;
  counts = adds-nothing c.args.resolve.now (encoder_scope c.args.resolve.now c.args.self.now.outer c.args.self.now.inner) c.args.self.now.maps
      (definitions_with (contents_of c.args.resolve.now c.args.self.now.outer c.args.self.now.inner));
  learns = search rules;
  names = search rules;
  within = omega arith;
  held = holds-most (omega arith) (holds-none c.args.resolve.now (own_of c.args.self.now.inner) c.args.self.now.maps (encoder_view c.args.self.now).held);
  written = writes-nothing c.args.resolve.now _ (encoder_view c.args.self.now);
  grow = search rules;
  types_stay = search rules;
  places = λ s. s;
}

pub returns-in_err-encode_function-clause-aliases : goal.returns-in_err-encode_function-clause-aliases
returns-in_err-encode_function-clause-aliases c = makes-then c.loop-entry.invariant.own c.loop-entry.invariant.aliases (met-more (met-there _ _ c.args.functions.now c.entry-item.result
    (contains-at c.args.functions.now c.loop-entry.entry-index c.entry-item.result c.loop-entry-test.true c.entry-item.is)) c.encode_function.ensures.aliases)
