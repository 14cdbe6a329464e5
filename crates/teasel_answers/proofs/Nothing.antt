-- Bytes that mean nothing, and lists that would get too long.
use Rattle.std.proofs.Common.{◌≡◌, true, false, ℕ, List}
use Rattle.wit_component.specs.{Decoded.MeansNothing, Decoded.RefusesBytes, Reached.OutgrowsLists}
use Rattle.wit_model.specs.declared.error.Error.{Error}
use Rattle.wit_model.specs.declared.error.Error.TheVariants as errors
use Rattle.witc_alike.specs.Kinds.{IsUnknown}
use Rattle.teasel_messages.specs.Reasons.{is_memory}

module _ (bytes : List ℕ) where
  -- where a package is refused, and memory isn't wanting
  pub refused-nothing : (e : Error) → RefusesBytes bytes e → is_memory e ≡ false → MeansNothing bytes
  refused-nothing (errors.NoReading cause offset) h is = h.1
  refused-nothing errors.Memory h is = let wrong : true ≡ false = is in absurd cc
  refused-nothing errors.Size h is = absurd h
  refused-nothing (errors.CanonicalClash t) h is = absurd h
  refused-nothing errors.EncodingMissing h is = absurd h
  refused-nothing errors.EncodingUnknownFormat h is = absurd h
  refused-nothing (errors.EncodingVersion b) h is = absurd h
  refused-nothing (errors.BadStringEncoding b) h is = absurd h
  refused-nothing errors.Historical h is = absurd h
  refused-nothing errors.NotAModule h is = absurd h
  refused-nothing (errors.BadModule n) h is = absurd h
  refused-nothing (errors.Clash k t) h is = absurd h
  refused-nothing errors.OtherPackage h is = absurd h
  refused-nothing (errors.TwiceWithoutVersion t) h is = absurd h
  refused-nothing (errors.Missing t) h is = absurd h
  refused-nothing (errors.Differs t) h is = absurd h

  -- where a kind is unknown, and memory isn't wanting
  pub unknown-outgrows : (e : Error) → IsUnknown bytes e → is_memory e ≡ false → OutgrowsLists bytes
  unknown-outgrows (errors.NoReading cause offset) h is = absurd h
  unknown-outgrows errors.Memory h is = let wrong : true ≡ false = is in absurd cc
  unknown-outgrows errors.Size h is = h
  unknown-outgrows (errors.CanonicalClash t) h is = absurd h
  unknown-outgrows errors.EncodingMissing h is = absurd h
  unknown-outgrows errors.EncodingUnknownFormat h is = absurd h
  unknown-outgrows (errors.EncodingVersion b) h is = absurd h
  unknown-outgrows (errors.BadStringEncoding b) h is = absurd h
  unknown-outgrows errors.Historical h is = absurd h
  unknown-outgrows errors.NotAModule h is = absurd h
  unknown-outgrows (errors.BadModule n) h is = absurd h
  unknown-outgrows (errors.Clash k t) h is = absurd h
  unknown-outgrows errors.OtherPackage h is = absurd h
  unknown-outgrows (errors.TwiceWithoutVersion t) h is = absurd h
  unknown-outgrows (errors.Missing t) h is = absurd h
  unknown-outgrows (errors.Differs t) h is = absurd h
