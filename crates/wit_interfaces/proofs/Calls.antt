-- What the calls of an encoder of interfaces leave, and what they add.
use Rattle.std.proofs.Common.{rules as std_rules, ◌≡◌, refl, sym, subst, ap, ◌∙◌, ℕ, ◌+◌, ◌<◌, nat_cmp, false, length, Result, Ok, Err, IfOk, OnErr, Some, None, is_some}
use Rattle.std.proofs.lemmas.Bool.{lt-ltb}
use Rattle.std.specs.{BTreeMap.insert_entry, List.Contains}
use Rattle.wit_model.specs.{Text.Text, Lookup.interface_at, Lookup.interface_path}
use Rattle.wit_model.specs.declared.model.{Resolve.Resolve, Interface.Interface, InterfaceId.InterfaceId}
use Rattle.comp_bytes.specs.{Raw.Declaration, Raw.Declarations, Raw.ExternName, Held.type_slots_of}
use Rattle.encode_names.specs.WorldNames.{name_of_interface}
use Rattle.encode_types.specs.Known.{Around, GrowsAround, UsedStand, known_instance, standing_instances}
use Rattle.wit_encode.specs.declared.interface.Foreign.{Foreign}
use Rattle.wit_encode.specs.{Dependencies.with_import, Worlds.WorldEncoder, Worlds.is_sound_outside, Worlds.world_around, Worlds.world_scope, Instance.AliasesFor, Instance.EncodesDependency, Instance.EncodesInterface, Instance.around_at, WorldItems.DefinesInstance}
use Rattle.wit_encode.specs.Encoders.{declared_after}
use Rattle.wit_encode.proofs.{Importing.importable-stands, Placed.grown-listed}
use Rattle.wit_model.proofs.OnePath.{found-in}
use Rattle.wit_interfaces.specs.InterfaceEncoders.{CanEncodeInterfaces, Imports, InterfaceEncoder, LeavesInterfaces, component_of, has_listed, imported, interface_encoder_view}
use Rattle.wit_interfaces.proofs.Leaving.{GoesOn, aliases-go-on, part-goes-on, whole-goes-on, whole-room, whole-stands}
use Rattle.comp_bytes.specs.declared.forms.ComponentTypeRef.TheVariants as refs

-- what stands in the scope stands in the component type
pub used-outside : (e : InterfaceEncoder) (i : ℕ) → UsedStand (interface_encoder_view e).scope.packages (interface_encoder_view e).scope.instances i
    → UsedStand (interface_encoder_view e).scope.packages (standing_instances (interface_encoder_view e).scope.packages (component_of e)) i
used-outside e i h j c = importable-stands (is_sound_outside e.encoder.resolve.now e.encoder.world (component_of e)) (standing_instances e.encoder.resolve.now (component_of e)) j (h j c)

module _ (e : InterfaceEncoder) (h : CanEncodeInterfaces (interface_encoder_view e)) (d : WorldEncoder) (rest : d ≡ record e.encoder { outer = d.outer; foreign = d.foreign }) where
  abbrev r : Resolve
  r = e.encoder.resolve.now

  abbrev count : ℕ
  count = e.encoder.instances

  pub leaves-of : GoesOn r e.encoder.world count count e.encoder.maps (component_of e) (world_around d) → LeavesInterfaces e (record e { encoder = d })
  leaves-of g = subst (λ (z : WorldEncoder). LeavesInterfaces e (record e { encoder = z })) (sym rest)
      (record { packages_ = refl; names = refl; maps_ = refl; stands = g.kept; instances = g.stand; can = g.can })

  pub aliases-leave : GrowsAround r (component_of e) (world_around d) → LeavesInterfaces e (record e { encoder = d })
  aliases-leave g = leaves-of (aliases-go-on r e.encoder.world count e.encoder.maps (component_of e) (world_around d) h g)

  pub interface-leaves : (i : InterfaceId) (def : Interface) (k : ℕ) → EncodesInterface r (component_of e) (world_around d) i def k → LeavesInterfaces e (record e { encoder = d })
  interface-leaves i def k is = leaves-of (part-goes-on r e.encoder.world e.encoder.maps count (component_of e) (world_around d) h i def _ _ k is.part)

  module _ (i : InterfaceId) (def : Interface) (k : ℕ) (there : interface_at r i.0 ≡ Some def) (is : EncodesDependency r (component_of e) (world_around d) i def k) (path : Text) (at : interface_path r i.0 ≡ Some path) where
    -- the import and its listing
    module _ (name : ExternName) (named_ : name ≡ name_of_interface r e.canonical_names i.0) (outer : Declarations) (foreign : Foreign)
        (made : outer ≡ declared_after d.outer (Declaration.imported name (refs.Instance k)))
        (listed : foreign.instances.entries ≡ insert_entry nat_cmp d.foreign.instances.entries i.0 d.instances) (known : foreign.known.entries ≡ d.foreign.known.entries) where
      abbrev after : WorldEncoder
      after = record d { outer = outer; foreign = foreign; instances = d.instances + 1 }

      same-count : d.instances ≡ count
      same-count = ap (λ (z : WorldEncoder). z.instances) rest

      pub as-import : around_at outer foreign ≡ with_import r e.canonical_names i k count (world_around d)
      as-import = λ j. record {
        declared = (made ∙ ap (λ n. declared_after d.outer (Declaration.imported n (refs.Instance k))) named_) j;
        instances = (listed ∙ ap (insert_entry nat_cmp d.foreign.instances.entries i.0) same-count) j;
        known = known j;
      }

      after-is : after ≡ record e.encoder { outer = outer; foreign = foreign; instances = count + 1 }
      after-is = λ j. record (rest j) { outer = outer; foreign = foreign; instances = (rest j).instances + 1 }

      goes : GoesOn r e.encoder.world count (count + 1) e.encoder.maps (component_of e) (around_at outer foreign)
      goes = subst (GoesOn r e.encoder.world count (count + 1) e.encoder.maps (component_of e)) (sym as-import)
          (whole-goes-on r e.encoder.world e.encoder.maps count (component_of e) (world_around d) h i def _ _ k is.part e.canonical_names path at is.shows)

      pub import-leaves : LeavesInterfaces e (record e { encoder = after })
      import-leaves = subst (λ (z : WorldEncoder). LeavesInterfaces e (record e { encoder = z })) (sym after-is)
          (record { packages_ = refl; names = refl; maps_ = refl; stands = goes.kept; instances = goes.stand; can = goes.can })

      pub import-stands : Contains (interface_encoder_view (record e { encoder = after })).scope.instances i.0
      import-stands = subst (λ (z : WorldEncoder). Contains (interface_encoder_view (record e { encoder = z })).scope.instances i.0) (sym after-is)
          (subst (λ (z : Around). Contains (world_scope r e.encoder.world (count + 1) z).instances i.0) (sym as-import)
          (whole-stands r e.encoder.world e.encoder.maps count (component_of e) (world_around d) h i def _ _ k is.part e.canonical_names path at is.shows))

      pub import-room : d.instances < type_slots_of outer
      import-room = subst (λ (n : ℕ). n < type_slots_of outer) (sym same-count) (subst (λ (z : Around). count < type_slots_of z.declared) (sym as-import)
          (whole-room r e.encoder.world e.encoder.maps count (component_of e) (world_around d) h i def _ _ k is.part e.canonical_names path at is.shows))

      pub import-made : has_listed e i.0 ≡ false → Imports e (record e { encoder = after }) i
      import-made first = imported first (record {
        def = def;
        there = there;
        slot = k;
        encoded = world_around d;
        encodes = is;
        imports = as-import ∙ ap (λ n. with_import r e.canonical_names i k n (world_around d)) h.counted;
      })

    -- the import is refused: what stands is the instance type
    pub part-left : (outer : Declarations) (foreign : Foreign) → outer ≡ d.outer → foreign.instances.entries ≡ d.foreign.instances.entries → foreign.known.entries ≡ d.foreign.known.entries
        → EncodesDependency r (component_of e) (around_at outer foreign) i def k
    part-left outer foreign o l n = subst (λ (z : Around). EncodesDependency r (component_of e) z i def k) (λ j. record { declared = sym o j; instances = sym l j; known = sym n j }) is

    pub part-leaves : (outer : Declarations) (foreign : Foreign) → outer ≡ d.outer → foreign.instances.entries ≡ d.foreign.instances.entries → foreign.known.entries ≡ d.foreign.known.entries
        → LeavesInterfaces e (record e { encoder = record d { outer = outer; foreign = foreign } })
    part-leaves outer foreign o l n =
        let g = part-goes-on r e.encoder.world e.encoder.maps count (component_of e) (around_at outer foreign) h i def _ _ k (part-left outer foreign o l n).part in
        subst (λ (z : WorldEncoder). LeavesInterfaces e (record e { encoder = z })) (λ j. record (sym rest j) { outer = outer; foreign = foreign })
        (record { packages_ = refl; names = refl; maps_ = refl; stands = g.kept; instances = g.stand; can = g.can })

-- nothing has changed
pub stays-as-it-is : (e : InterfaceEncoder) → CanEncodeInterfaces (interface_encoder_view e) → LeavesInterfaces e e
stays-as-it-is e h = record { packages_ = refl; names = refl; maps_ = refl; stands = λ i m s. s; instances = λ j s. s; can = h }

pub encode-leaves : {E : Type 0} (res : Result ℕ E) (e : InterfaceEncoder) (h : CanEncodeInterfaces (interface_encoder_view e)) (d : WorldEncoder)
    (rest : d ≡ record e.encoder { outer = d.outer; foreign = d.foreign }) (i : InterfaceId) → i.0 < length e.encoder.resolve.now.interfaces.items → IfOk res (DefinesInstance e.encoder d i)
    → OnErr res (AliasesFor e.encoder.resolve.now i (component_of e) (world_around d)) → LeavesInterfaces e (record e { encoder = d })
encode-leaves (Ok k) e h d rest i l ok err =
    let found = found-in e.encoder.resolve.now.interfaces.items i.0 (lt-ltb i.0 (length e.encoder.resolve.now.interfaces.items) l) in
    interface-leaves e h d rest i found.0 k (ok found.0 found.1)
encode-leaves (Err x) e h d rest i l ok err = aliases-leave e h d rest err.made.grown

-- what wasn't listed isn't behind aliases and an instance type
pub first-listed : (r : Resolve) (a a' : Around) (i : InterfaceId) (def : Interface) (k : ℕ) → EncodesDependency r a a' i def k → is_some (known_instance a.instances i.0) ≡ false
    → known_instance a'.instances i.0 ≡ None
first-listed r a a' i def k is none = search (std_rules, grown-listed r a is.part.before is.part.aliases.grown)
