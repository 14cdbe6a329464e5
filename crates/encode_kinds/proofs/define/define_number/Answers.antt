use Rattle.std.proofs.Common.{refl, ◌≡◌, ◌∙◌, sym, Some, None, rules, false, arith, ◌≤◌, ◌+◌}
use Rattle.std.proofs.lemmas.Option.{slice_get_read}
use Rattle.std.specs.Prelude.{is_some}
use Rattle.wit_model.specs.Lookup.{type_at}
use Rattle.wit_model.specs.declared.model.InterfaceId.{InterfaceId}
use Rattle.encode_types.specs.{Plan.foreign_owner, Maps.IsKnown, Room.unnamed_kind, Room.its_import}
use Rattle.encode_types.proofs.Learning.{learns-none, learns-call-foreign}
use Rattle.encode_types.proofs.{Defining.counts-none, Defining.leaves-none, Agree.not-known, Writing.writes-nothing, Writing.writes-number, Writing.foreign-extent, Writing.on-three, Encoding.learns-nothing, Encoding.tabled, Encoding.foreign-undefined, Encoding.foreign-unshown, Aliasing.met-none, Aliasing.met-one, Aliasing.imports-none, Aliasing.imports-one}
use Rattle.encode_types.proofs.Rooms.{holds-none, holds-number, lacks-number, counts-one, foreign-unkind, none-new, none-has}
use Rattle.encode_kinds.proofs.{define.define_number.Given.Over, define.define_number.Goals.After-foreign}
use Rattle.wit_model.proofs.Elements.{some-from}
use Rattle.base_lemmas.proofs.Options.{on-both}
use Rattle.encode_kinds.proofs.define.define_number.Goals as goal

there : (g : Over) (c : After-foreign g) → type_at c.args.resolve.now c.args.id.0 ≡ Some c.index-def.result.now
there g c = slice_get_read _ _ _ _ refl c.requires.in_range c.index-def.ensures

owner_is : (g : Over) (c : After-foreign g) → c.foreign.result ≡ foreign_owner (g.E.ValtypeEncoder.view c.args.enc.now).scope.own_interface c.index-def.result.now.owner
owner_is g c = let s = c.index_of.ensures.same in let e = c.interface-own.ensures in let f = c.foreign.ensures in search rules

unknown : (g : Over) (c : After-foreign g) → IsKnown (g.E.ValtypeEncoder.view c.args.enc.now).maps c.args.id.0 → ⊥
unknown g c k = not-known c.index_of.result (let e : is_some c.index_of.result ≡ false = search rules in e) (c.index_of.ensures.none k)

pub import-requires : goal.import-requires
import-requires g c = λ _. (
  (refl, tt),
  (let a = (goal.at.import-requires g c).After-foreign in
      let f : foreign_owner (g.E.ValtypeEncoder.view c.args.enc.now).scope.own_interface c.index-def.result.now.owner ≡ Some c.in-Some.interface = sym (owner_is g a) ∙ c.in-Some.is in
      rw c.index_of.ensures.same (
        c.requires.packages,
        (
          (c.requires.fits c.index-def.result.now (there g a)).foreign c.in-Some.interface f,
          (
            foreign-undefined c.args.resolve.now (g.E.ValtypeEncoder.view c.args.enc.now).scope c.args.id.0 c.index-def.result.now c.in-Some.interface (there g a) f,
            (foreign-unshown c.args.resolve.now (g.E.ValtypeEncoder.view c.args.enc.now).scope c.args.id.0 c.index-def.result.now c.in-Some.interface (there g a) f, (unknown g a, c.requires.agree)),
          ),
        ),
      )),
)

pub define_own-requires : goal.define_own-requires
define_own-requires g c = λ _. (
  (refl, tt),
  (let a = (goal.at.define_own-requires g c).After-foreign in
      let none : foreign_owner (g.E.ValtypeEncoder.view c.args.enc.now).scope.own_interface c.index-def.result.now.owner ≡ None = sym (owner_is g a) ∙ c.in_default.is in
      rw c.index_of.ensures.same (
        none,
        (
          there g a,
          (
            tabled c.args.resolve.now c.requires.layered c.args.id.0 c.index-def.result.now (there g a),
            (c.requires.fits c.index-def.result.now (there g a), (c.requires.ready c.index-def.result.now (there g a) none, (unknown g a, c.requires.agree))),
          ),
        ),
      )),
)

pub returns-then-is_some : goal.returns-then-is_some
returns-then-is_some g c =
    let k : IsKnown (g.E.ValtypeEncoder.view c.args.enc.now).maps c.args.id.0 = some-from _ c.index_of.result (search rules) c.index_of.ensures.some in
    rw c.index_of.ensures.same (record {
      ok = record { known = k; only = learns-nothing _ _ };
      leaves = leaves-none c.requires.agree;
      aliases = met-none refl;
      imports = imports-none refl;
      counts = counts-none _ _ _ _;
      stopped = tt;
      learns = learns-none _ _ _;
      held = holds-none _ _ _ _;
      written = writes-nothing _ _ _;
      size = λ h. absurd (let z : ⊥ = cc in z);
      refuses = tt;
    })

pub returns-in-Some-clause-learns : goal.returns-in-Some-clause-learns
returns-in-Some-clause-learns g c =
    let a = (goal.at.returns-in-Some-clause-learns g c).After-foreign in
    let f : foreign_owner (g.E.ValtypeEncoder.view c.args.enc.now).scope.own_interface c.index-def.result.now.owner ≡ Some c.in-Some.interface = sym (owner_is g a) ∙ c.in-Some.is in
    learns-call-foreign c.import.result c.args.resolve.now (g.E.ValtypeEncoder.view c.args.enc.now).scope (g.E.ValtypeEncoder.view c.args.enc.now).maps (g.E.ValtypeEncoder.view c.import.new.enc).maps
    (g.E.ValtypeEncoder.view c.args.enc.now).definitions (g.E.ValtypeEncoder.view c.import.new.enc).definitions c.args.id.0 c.index-def.result.now (there g a)
    (rw c.index_of.ensures.same at c.import.ensures.ok) (rw c.index_of.ensures.same at c.import.ensures.leaves.maps_grow) (rw c.index_of.ensures.same at c.import.ensures.counts)
    (rw c.index_of.ensures.same at c.import.ensures.kinds) c.in-Some.interface f

unkind : (g : Over) (c : After-foreign g) (i : InterfaceId) → c.foreign.result ≡ Some i
    → unnamed_kind c.args.resolve.now (g.E.ValtypeEncoder.view c.args.enc.now).scope.own_interface c.args.id.0 ≡ None
unkind g c i e = foreign-unkind c.args.resolve.now (g.E.ValtypeEncoder.view c.args.enc.now).scope.own_interface (g.E.ValtypeEncoder.view c.args.enc.now).maps c.args.id.0 c.index-def.result.now i
    (there g c) (sym (owner_is g c) ∙ e)

pub returns-in-Some-clause-held : goal.returns-in-Some-clause-held
returns-in-Some-clause-held g c =
    let a = (goal.at.returns-in-Some-clause-held g c).After-foreign in
    let none = unkind g a c.in-Some.interface c.in-Some.is in
    let held : (g.E.ValtypeEncoder.view c.import.new.enc).held ≤ (g.E.ValtypeEncoder.view c.args.enc.now).held + 1 = (rw c.index_of.ensures.same at c.import.ensures.held) in
    let count = counts-one c.args.resolve.now (g.E.ValtypeEncoder.view c.args.enc.now).scope.own_interface c.args.id.0 in
    on-both c.import.result _ _ _ (λ one counts. holds-number counts.shows.learnt c.args.id.0 counts.shows.numbers counts.keys.lists one.known (unknown g a)
    (none-new (g.E.ValtypeEncoder.view c.args.enc.now).maps _ none) (none-has (g.E.ValtypeEncoder.view c.import.new.enc).maps _ none) (omega (arith, held, count)))
    c.import.ensures.ok (rw c.index_of.ensures.same at c.import.ensures.counts)

pub returns-clause-held : goal.returns-clause-held
returns-clause-held g c = rw c.index_of.ensures.same at c.define_own.ensures.held

pub returns-in-Some-clause-size : goal.returns-in-Some-clause-size
returns-in-Some-clause-size g c = λ h.
    let a = (goal.at.returns-in-Some-clause-size g c).After-foreign in
    let before = g.E.ValtypeEncoder.view c.args.enc.now in
    let after = g.E.ValtypeEncoder.view c.import.new.enc in
    let f : foreign_owner (g.E.ValtypeEncoder.view c.args.enc.now).scope.own_interface c.index-def.result.now.owner ≡ Some c.in-Some.interface = sym (owner_is g a) ∙ c.in-Some.is in
    let refused = c.import.ensures.size h in
    let held : (g.E.ValtypeEncoder.view c.import.new.enc).held ≤ (g.E.ValtypeEncoder.view c.args.enc.now).held = (rw c.index_of.ensures.same at refused.held) in
    let one = counts-one c.args.resolve.now before.scope.own_interface c.args.id.0 in
    lacks-number c.args.resolve.now before.scope.own_interface c.args.id c.index-def.result.now before.maps before.held after.held after.lacks_room
    (there g a) (unknown g a) (none-new _ _ (unkind g a c.in-Some.interface c.in-Some.is)) (omega (arith, held, one)) (its_import c.in-Some.interface f refused.lacks)

pub returns-in-Some-clause-written : goal.returns-in-Some-clause-written
returns-in-Some-clause-written g c =
    let a = (goal.at.returns-in-Some-clause-written g c).After-foreign in
    let f : foreign_owner (g.E.ValtypeEncoder.view c.args.enc.now).scope.own_interface c.index-def.result.now.owner ≡ Some c.in-Some.interface = sym (owner_is g a) ∙ c.in-Some.is in
    let takes = foreign-extent c.args.resolve.now (g.E.ValtypeEncoder.view c.args.enc.now).scope.own_interface c.args.id.0 c.index-def.result.now c.in-Some.interface (there g a) f in
    let at : type_at (g.E.ValtypeEncoder.view c.args.enc.now).scope.packages c.args.id.0 ≡ Some c.index-def.result.now = rw c.requires.packages (there g a) in
    on-three c.import.result _ _ _ _
    (λ one counts w. writes-number counts.shows.learnt c.args.id.0 counts.shows.numbers one.known (unknown g a) (let l = (w c.index-def.result.now at).extent in omega (arith, l, takes)))
    c.import.ensures.ok (rw c.index_of.ensures.same at c.import.ensures.counts) (rw c.index_of.ensures.same at c.import.ensures.written)

pub returns-clause-written : goal.returns-clause-written
returns-clause-written g c =
    let a = (goal.at.returns-clause-written g c).After-foreign in
    on-three c.define_own.result _ _ _ _ (λ one counts w. writes-number counts.shows.learnt c.args.id.0 counts.shows.numbers one.known (unknown g a) w.extent)
    c.define_own.ensures.ok (rw c.index_of.ensures.same at c.define_own.ensures.counts) (rw c.index_of.ensures.same at c.define_own.ensures.written)

pub returns-in-Some-clause-aliases : goal.returns-in-Some-clause-aliases
returns-in-Some-clause-aliases g c =
    let a = (goal.at.returns-in-Some-clause-aliases g c).After-foreign in
    let f : foreign_owner (g.E.ValtypeEncoder.view c.args.enc.now).scope.own_interface c.index-def.result.now.owner ≡ Some c.in-Some.interface = sym (owner_is g a) ∙ c.in-Some.is in
    met-one c.index-def.result.now c.in-Some.interface (there g a) f (rw (c.index_of.ensures.same, c.requires.packages) at c.import.ensures.reaches)

pub returns-clause-aliases : goal.returns-clause-aliases
returns-clause-aliases g c = met-none (rw c.index_of.ensures.same at c.define_own.ensures.around_stays)

pub returns-in-Some-clause-imports : goal.returns-in-Some-clause-imports
returns-in-Some-clause-imports g c =
    let a = (goal.at.returns-in-Some-clause-imports g c).After-foreign in
    let f : foreign_owner (g.E.ValtypeEncoder.view c.args.enc.now).scope.own_interface c.index-def.result.now.owner ≡ Some c.in-Some.interface = sym (owner_is g a) ∙ c.in-Some.is in
    imports-one c.index-def.result.now c.in-Some.interface (there g a) f (rw c.index_of.ensures.same at c.import.ensures.imports)

pub returns-clause-imports : goal.returns-clause-imports
returns-clause-imports g c = imports-none (rw c.index_of.ensures.same at c.define_own.ensures.imports_stay)

pub returns-in-Some-clause-stopped : goal.returns-in-Some-clause-stopped
returns-in-Some-clause-stopped g c = rw c.index_of.ensures.same at c.import.ensures.stopped

pub returns-clause-stopped : goal.returns-clause-stopped
returns-clause-stopped g c = rw c.index_of.ensures.same at c.define_own.ensures.stopped
