-- What clashes by numbers is what clashes in the bindings.
use Rattle.std.proofs.Common.{◌≡◌, ◌⊎◌, inl, inr, ℕ, Some, None, String}
use Rattle.std.specs.declared.alloc.Global.{Global}
use Rattle.wit_model.specs.declared.{error.ClashKind.ClashKind, error.Error.Error, model.Resolve.Resolve, model.World.World}
use Rattle.wit_model.specs.Text.{Text, text_of}
use Rattle.bind_meaning.specs.{Binding.Binding, ByNumbers.binding_at, Encodings.Encodings, Laws.SomeClash}
use Rattle.bind_meaning.specs.Clash.{CanUnite, EncodingFault, InterfaceFault, IsClash, IsLeast, NoFault, WorldFault}
use Rattle.bind_meaning.proofs.Searches.{unite_or_clash}
use Rattle.bind_match.specs.declared.matches.Matches.{Matches}
use Rattle.bind_clash.specs.Faults.{HasNoClash, InterfaceFaultIn, IsClashAt, WorldFaultIn}
use Rattle.bind_clash.specs.Laws.{AreWorlds, ClashesAreOfBindings, EncodingsClashLast, FaultsAre, NoneIsOfBindings}
use Rattle.bind_clash.proofs.{FaultsMeant.faults_are_of_bindings, LeastFaults.same_faults}
use Rattle.wit_model.specs.declared.error.ClashKind.TheVariants as kinds
use Rattle.wit_model.specs.declared.error.Error.TheVariants as errors

module _ (own other : Resolve) (m : Matches) (n k : ℕ) (w v : World) (s : AreWorlds own other m n k w v) (a b c d : Encodings) where
  abbrev A : Binding
  A = binding_at own n a b

  abbrev B : Binding
  B = binding_at other k c d

  are : FaultsAre own other m n k w v A B
  are = faults_are_of_bindings own other m n k w v s a b c d

  no-interface : NoFault (InterfaceFaultIn own other m) → NoFault (InterfaceFault A B)
  no-interface none t x = none t ((are.interfaces t).1 x)

  no-world : NoFault (WorldFaultIn own other m) → NoFault (WorldFault A B)
  no-world none t x = none t ((are.worlds t).1 x)

  least-interface : (t : Text) → IsLeast (InterfaceFaultIn own other m) t → IsLeast (InterfaceFault A B) t
  least-interface t h = same_faults (InterfaceFaultIn own other m) (InterfaceFault A B) (λ x f. (are.interfaces x).0 f) (λ x f. (are.interfaces x).1 f) (Some t) h

  least-world : (t : Text) → IsLeast (WorldFaultIn own other m) t → IsLeast (WorldFault A B) t
  least-world t h = same_faults (WorldFaultIn own other m) (WorldFault A B) (λ x f. (are.worlds x).0 f) (λ x f. (are.worlds x).1 f) (Some t) h

  clash : (e : Error) → IsClashAt own other m n k w v e → (e ≡ errors.Memory) ⊎ ((kind : ClashKind) × (key : String Global) × (e ≡ errors.Clash kind key) × IsClash A B kind (text_of key))
  clash e (inl memory) = inl memory
  clash e (inr (inl h)) = inr (kinds.Interface, h.0, h.1, least-interface (text_of h.0) h.2)
  clash e (inr (inr (inl h))) = inr (kinds.World, h.0, h.1, (no-interface h.2, least-world (text_of h.0) h.3))
  clash e (inr (inr (inr (inl h)))) = inr (kinds.Import, h.0, h.1, (no-interface h.2, no-world h.3, are.imports (Some (text_of h.0)) h.4))
  clash e (inr (inr (inr (inr h)))) = inr (kinds.Export, h.0, h.1, (no-interface h.2, no-world h.3, are.imports None h.4, are.exports (Some (text_of h.0)) h.5))

  module _ (h : HasNoClash own other m n k w v) where
    encodings-clash : (t : Text) → IsLeast (EncodingFault a c) t ⊎ (NoFault (EncodingFault a c) × IsLeast (EncodingFault b d) t) → IsClash A B kinds.Encoding t
    encodings-clash t e = (no-interface h.interfaces, no-world h.worlds, are.imports None h.imports, are.exports None h.exports, e)

    module _ (imported : NoFault (EncodingFault a c)) (exported : NoFault (EncodingFault b d)) where
      none : (kind : ClashKind) (t : Text) → IsClash A B kind t → ⊥
      none kinds.Interface t x = no-interface h.interfaces t x.0
      none kinds.World t x = no-world h.worlds t x.1.0
      none kinds.Import t x = are.imports None h.imports t x.2.fault
      none kinds.Export t x = are.exports None h.exports t x.3.fault
      none kinds.Encoding t x = elim x.4 [ inl e ↦ imported t e.0 | inr e ↦ exported t e.1.0 ]

      united : CanUnite A B ⊎ SomeClash A B → CanUnite A B
      united (inl u) = u
      united (inr x) = absurd (none x.0 x.1 x.2)

pub clashes_are_of_bindings : ClashesAreOfBindings
clashes_are_of_bindings own other m n k w v s a b c d e h = clash own other m n k w v s a b c d e h

pub encodings_clash_last : EncodingsClashLast
encodings_clash_last own other m n k w v s a b c d h t e = encodings-clash own other m n k w v s a b c d h t e

pub none_is_of_bindings : NoneIsOfBindings
none_is_of_bindings interfaces worlds entries own other m n k w v s a b c d h imported exported =
    united own other m n k w v s a b c d h imported exported (unite_or_clash interfaces worlds entries (binding_at own n a b) (binding_at other k c d))
