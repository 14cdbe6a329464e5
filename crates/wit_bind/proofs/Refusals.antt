-- Why bindings can't be united, or that they can, from what is compared by numbers.
use Rattle.std.proofs.Common.{◌≡◌, sym, subst, ◌⊎◌, inl, inr, Some, String}
use Rattle.std.specs.declared.alloc.Global.{Global}
use Rattle.wit_model.specs.declared.{error.Error.Error, error.ClashKind.ClashKind, model.World.World}
use Rattle.wit_model.specs.{Lookup.world_at, Text.text_of}
use Rattle.bind_match.specs.declared.matches.Matches.{Matches}
use Rattle.bind_meaning.specs.Clash.{IsClash}
use Rattle.bind_clash.specs.{Faults.HasNoClash, Faults.IsClashAt, Faults.IsMatched, Laws.AreWorlds}
use Rattle.bind_clash.proofs.ClashesMeant.{clashes_are_of_bindings, encodings_clash_last}
use Rattle.wit_bind.specs.declared.{bindgen.Bindgen.Bindgen}
use Rattle.wit_bind.specs.{Bindings.binding_of, Bindings.IsBindgen, Merges.IsEncodingRefusal, Merges.IsMergeRefusal}
use Rattle.base_lemmas.proofs.Lists.{within_there as element_at}
use Rattle.wit_model.specs.declared.error.Error.TheVariants as errors

-- ---- encodings

-- ---- bindings

module _ (own other : Bindgen) (o : IsBindgen own) (t : IsBindgen other) (m : Matches) (matched : IsMatched own.resolve other.resolve m) where
  abbrev pub ClashesNowhere : Type 0
  ClashesNowhere = (w v : World) → world_at own.resolve own.world.0 ≡ Some w → world_at other.resolve other.world.0 ≡ Some v → HasNoClash own.resolve other.resolve m own.world.0 other.world.0 w v

  pub own_world : (w : World) × (world_at own.resolve own.world.0 ≡ Some w)
  own_world = element_at own.resolve.worlds.items own.world.0 o.in_range

  pub other_world : (v : World) × (world_at other.resolve other.world.0 ≡ Some v)
  other_world = element_at other.resolve.worlds.items other.world.0 t.in_range

  pub worlds : AreWorlds own.resolve other.resolve m own.world.0 other.world.0 own_world.0 other_world.0
  worlds = record { own_valid = o.valid; other_valid = t.valid; matched = matched; own_at = own_world.1; other_at = other_world.1 }

  -- what clashes by numbers is the refusal
  pub clash_is : (e : Error)
      → ((w v : World) → world_at own.resolve own.world.0 ≡ Some w → world_at other.resolve other.world.0 ≡ Some v → IsClashAt own.resolve other.resolve m own.world.0 other.world.0 w v e)
      → IsMergeRefusal own other e
  clash_is e h = by (clashes_are_of_bindings own.resolve other.resolve m own.world.0 other.world.0 own_world.0 other_world.0 worlds
      own.metadata.import_encodings own.metadata.export_encodings other.metadata.import_encodings other.metadata.export_encodings e (h own_world.0 other_world.0 own_world.1 other_world.1))
    where
      by : (e ≡ errors.Memory) ⊎ ((kind : ClashKind) × (key : String Global) × (e ≡ errors.Clash kind key) × IsClash (binding_of own) (binding_of other) kind (text_of key))
          → IsMergeRefusal own other e
      by (inl memory) = subst (IsMergeRefusal own other) (sym memory) tt
      by (inr c) = subst (IsMergeRefusal own other) (sym c.2) c.3

  -- what clashes in encodings is, where nothing else clashes
  pub encodings_are : ClashesNowhere → (e : Error) → IsEncodingRefusal own.metadata other.metadata e → IsMergeRefusal own other e
  encodings_are none errors.Memory h = tt
  encodings_are none (errors.Clash kind key) h = subst (λ (k : ClashKind). IsClash (binding_of own) (binding_of other) k (text_of key)) (sym h.0)
      (encodings_clash_last own.resolve other.resolve m own.world.0 other.world.0 own_world.0 other_world.0 worlds own.metadata.import_encodings own.metadata.export_encodings
      other.metadata.import_encodings other.metadata.export_encodings (none own_world.0 other_world.0 own_world.1 other_world.1) (text_of key) h.1)
  encodings_are none e h = absurd h
