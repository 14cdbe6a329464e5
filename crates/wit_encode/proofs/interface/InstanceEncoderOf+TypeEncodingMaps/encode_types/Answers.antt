use Rattle.std.proofs.Common.{◌≡◌, ℕ, ◌<◌, Option, inl, inr, List, take, refl, sym, subst, ap, arith, [], ◌∷◌, get_or, length, map, rules}
use Rattle.std.proofs.lemmas.{Option.slice_get-get_or, List.Elements.Contains-get_or, List.take_all}
use Rattle.wit_encode.specs.Encoders.{encoder_view}
use Rattle.wit_encode.specs.Instance.{own_of, declarations_in, contents_of, encoder_scope, definitions_with}
use Rattle.encode_types.proofs.Rooms.{holds-none, holds-then, room-after, only-more, map-taken}
use Rattle.encode_types.proofs.{Defining.leaves-kept, Defining.leaves-trans, Defining.counts-none, Defining.counts-trans, Around.around-same, Writing.writes-nothing, Writing.writes-then, Aliasing.met-none, Aliasing.met-more, Aliasing.makes-then}
use Rattle.wit_model.specs.declared.model.{InterfaceId.InterfaceId, Resolve.Resolve, TypeId.TypeId}
use Rattle.encode_types.specs.{Scope.Scope, Fits.CanEncode, MetKinds.ReachedFrom}
use Rattle.wit_encode.proofs.Referring.{from-none, from-type, from-types}
use Rattle.wit_encode.proofs.{Counting.exact-names, Exporting.exports-start, Exporting.exports-next, Exporting.exports-end}
use Rattle.std.specs.List.{Contains}
use Rattle.base_lemmas.proofs.Elements.{contains-map, last_of as one-contained}
use Rattle.wit_model.specs.declared.model.«Type».TheVariants as ty
use Rattle.wit_encode.proofs.interface.InstanceEncoderOf+TypeEncodingMaps.encode_types.Goals as goal

-- what is met from one of the types
met-here : (r : Resolve) (own : Option InterfaceId) (ts : List TypeId) (i : ℕ) → i < length ts → (n : ℕ) → ReachedFrom r own (ty.Id (get_or ts i (record { 0 = 0 })) ∷ []) n
    → ReachedFrom r own (map (λ t. ty.Id t) ts) n
met-here r own ts i inside n x = (
  x.0,
  subst (Contains (map (λ (t : TypeId). ty.Id t) ts)) (one-contained (ty.Id (get_or ts i (record { 0 = 0 }))) x.0 x.1)
      (contains-map (λ (t : TypeId). ty.Id t) ts (get_or ts i (record { 0 = 0 })) (Contains-get_or ts i (record { 0 = 0 }) inside)),
  x.2,
)

pub loop-id-init : goal.loop-id-init
loop-id-init c = record {
  leaves = leaves-kept c.requires.begins.agree (record { kept = λ i m h. h; more = omega arith; around_ = around-same refl; own_ = λ ns h. h }) refl refl;
  aliases = met-none refl;
  held = holds-none c.args.resolve.now (own_of c.args.self.now.inner) c.args.self.now.maps (encoder_view c.args.self.now).held;
  written = writes-nothing c.args.resolve.now 0 (encoder_view c.args.self.now);
  learns = from-none c.args.resolve.now (own_of c.args.self.now.inner) _ c.args.self.now.maps;
  first = exports-start c.args.resolve.now c.requires.begins.valid (encoder_scope c.args.self.now.resolve.now c.args.self.now.outer c.args.self.now.inner) c.args.types.now c.requires.begins.listed
      (ap (λ (z : Resolve). declarations_in z (own_of c.args.self.now.inner)) c.requires.begins.packages_) c.args.self.now.maps
      (definitions_with (contents_of c.args.self.now.resolve.now c.args.self.now.outer c.args.self.now.inner)) c.requires.begins.fresh c.requires.begins.unshown;
  counts = counts-none c.args.resolve.now _ c.args.self.now.maps (definitions_with (contents_of c.args.self.now.resolve.now c.args.self.now.outer c.args.self.now.inner));
}

pub encode_valtype-requires : goal.encode_valtype-requires
encode_valtype-requires c = λ _. (
  (refl, tt),
  (let t : TypeId = get_or c.args.types.now c.loop-id.id-index (record { 0 = 0 }) in (
    subst (λ (s : Scope). CanEncode c.args.resolve.now s (ty.Id t ∷ [])) (sym c.loop-id.invariant.leaves.scope_stays)
        (c.requires.encodable t (Contains-get_or c.args.types.now c.loop-id.id-index (record { 0 = 0 }) c.loop-id-test.true)),
    c.loop-id.invariant.leaves.agree,
  )),
)

pub loop-id-preserved : goal.loop-id-preserved
loop-id-preserved c =
    let so_far = c.loop-id.invariant in let made = c.in_ok-encode_valtype.ensures in let leaves = c.encode_valtype.ensures.leaves in let begins = c.requires.begins in let r = c.args.resolve.now in
    let ts = c.args.types.now in let n = c.loop-id.id-index in let e = c.args.self.now in let same = ap (λ (z : Scope). z.own_interface) so_far.leaves.scope_stays in
    record {
      leaves = leaves-trans so_far.leaves leaves;
      aliases = makes-then same so_far.aliases (met-more (met-here _ _ ts n c.loop-id-test.true) c.encode_valtype.ensures.aliases);
      held = holds-then same so_far.leaves.maps_grow leaves.maps_grow so_far.held made.held;
      written = writes-then so_far.leaves.scope_stays so_far.written made.written;
      learns = from-type r (own_of e.inner) (own_of c.loop-id.self.inner) ts n (record { 0 = 0 }) e.maps c.loop-id.self.maps c.encode_valtype.new.enc.maps c.loop-id-test.true same so_far.learns
          made.learns;
      first = exports-next r begins.valid (encoder_scope e.resolve.now e.outer e.inner) ts begins.listed (ap (λ (z : Resolve). declarations_in z (own_of e.inner)) begins.packages_) n
          (get_or ts n (record { 0 = 0 })) (slice_get-get_or ts n (record { 0 = 0 }) c.loop-id-test.true) _ so_far.leaves.scope_stays _ _ _ _ so_far.first leaves.agree.once leaves.maps_grow made.knows
          made.learns.only made.counts.shows;
      counts = counts-trans so_far.leaves.scope_stays so_far.counts made.counts;
    }

pub returns-in_err-encode_valtype-clause-leaves : goal.returns-in_err-encode_valtype-clause-leaves
returns-in_err-encode_valtype-clause-leaves c = leaves-trans c.loop-id.invariant.leaves c.encode_valtype.ensures.leaves

pub returns-clause-known : goal.returns-clause-known
returns-clause-known c = (exports-end c.args.resolve.now c.requires.begins.valid (encoder_scope c.args.self.now.resolve.now c.args.self.now.outer c.args.self.now.inner) c.args.types.now
    c.requires.begins.listed (ap (λ (z : Resolve). declarations_in z (own_of c.args.self.now.inner)) c.requires.begins.packages_) c.loop-id.id-index c.loop-id.self.maps
    (definitions_with (contents_of c.loop-id.self.resolve.now c.loop-id.self.outer c.loop-id.self.inner)) c.loop-id-test.false c.loop-id.invariant.first).0

pub returns-clause-exported : goal.returns-clause-exported
returns-clause-exported c = (exports-end c.args.resolve.now c.requires.begins.valid (encoder_scope c.args.self.now.resolve.now c.args.self.now.outer c.args.self.now.inner) c.args.types.now
    c.requires.begins.listed (ap (λ (z : Resolve). declarations_in z (own_of c.args.self.now.inner)) c.requires.begins.packages_) c.loop-id.id-index c.loop-id.self.maps
    (definitions_with (contents_of c.loop-id.self.resolve.now c.loop-id.self.outer c.loop-id.self.inner)) c.loop-id-test.false c.loop-id.invariant.first).1

pub returns-clause-defined : goal.returns-clause-defined
returns-clause-defined c =
    let all : take c.loop-id.id-index c.args.types.now ≡ c.args.types.now = take_all c.loop-id.id-index c.args.types.now c.loop-id-test.false in
    exact-names c.args.resolve.now (encoder_scope c.args.self.now.resolve.now c.args.self.now.outer c.args.self.now.inner)
    c.loop-id.self.maps c.args.types.now c.loop-id.invariant.leaves.agree.once (λ t h. c.loop-id.invariant.first.known t (subst (λ (ts : List TypeId). Contains ts t) (sym all) h))
    (λ t i h. elim (c.loop-id.invariant.first.alone t i h) [ inl n ↦ inl n | inr l ↦ inr (subst (λ (ts : List TypeId). Contains ts t) all l) ])

pub returns-clause-learns : goal.returns-clause-learns
returns-clause-learns c = from-types c.args.resolve.now (own_of c.args.self.now.inner) c.args.types.now c.loop-id.id-index c.args.self.now.maps c.loop-id.self.maps c.loop-id-test.false
    c.loop-id.invariant.learns

pub returns-in_err-encode_valtype-clause-size : goal.returns-in_err-encode_valtype-clause-size
returns-in_err-encode_valtype-clause-size c = λ h. room-after (ap (λ (z : Scope). z.own_interface) c.loop-id.invariant.leaves.scope_stays) c.loop-id.invariant.leaves.maps_grow c.loop-id.invariant.held
    (only-more (λ n x. (x.0, map-taken (λ (t : TypeId). ty.Id t) c.args.types.now c.loop-id.id-index x.0 x.1, x.2)) c.loop-id.invariant.learns.only)
    (met-here _ _ c.args.types.now c.loop-id.id-index c.loop-id-test.true) (λ q k. k) (omega (arith, ap length c.loop-id.invariant.counts.keys.lists)) (c.encode_valtype.ensures.size (search rules))

pub returns-in_err-encode_valtype-clause-aliases : goal.returns-in_err-encode_valtype-clause-aliases
returns-in_err-encode_valtype-clause-aliases c = makes-then (ap (λ (z : Scope). z.own_interface) c.loop-id.invariant.leaves.scope_stays) c.loop-id.invariant.aliases
    (met-more (met-here _ _ c.args.types.now c.loop-id.id-index c.loop-id-test.true) c.encode_valtype.ensures.aliases)
