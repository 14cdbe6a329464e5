-- Refusals as numbers: each variant of `Error` in its order, from 1 on, and what is in it.
use Rattle.std.specs.Prelude.{ℕ, length}
use Rattle.wit_model.specs.declared.error.{Cause.Cause, ClashKind.ClashKind, Error.Error}
use Rattle.witc_refusals.specs.declared.why.Why.{Why}
use Rattle.wit_model.specs.declared.error.Cause.TheVariants as causes
use Rattle.wit_model.specs.declared.error.ClashKind.TheVariants as kinds
use Rattle.wit_model.specs.declared.error.Error.TheVariants as errors

-- the offset where there is none
abbrev pub nowhere : ℕ
nowhere = 18446744073709551615

-- a code alone
abbrev pub plain_why : ℕ → Why
plain_why code = record { offset = nowhere; subject = 0; code = code; detail = 0 }

-- the causes of `NoReading` in their order, from 1 on
abbrev pub cause_number : Cause → ℕ
cause_number causes.Truncated = 1
cause_number causes.BadNumber = 2
cause_number causes.BadUtf8 = 3
cause_number causes.BadPreamble = 4
cause_number causes.UnknownSection = 5
cause_number causes.UnknownForm = 6
cause_number causes.OutOfScope = 7
cause_number causes.BadName = 8
cause_number causes.NotWit = 9
cause_number causes.Disagree = 10
cause_number causes.TooDeep = 11
cause_number causes.Trailing = 12
cause_number causes.NoPackage = 13

-- what bindings clash in, in their order, from 1 on
abbrev pub clash_number : ClashKind → ℕ
clash_number kinds.Interface = 1
clash_number kinds.World = 2
clash_number kinds.Import = 3
clash_number kinds.Export = 4
clash_number kinds.Encoding = 5

-- The numbers of a refusal: the code of its variant; the cause, the kind or the byte that is in it; the offset; and how long the name is that it is about.
abbrev pub why_of : Error → Why
why_of errors.Memory = plain_why 1
why_of errors.Size = plain_why 2
why_of (errors.CanonicalClash name) = record { offset = nowhere; subject = length name.bytes.items; code = 3; detail = 0 }
why_of (errors.NoReading cause offset) = record { offset = offset; subject = 0; code = 4; detail = cause_number cause }
why_of errors.EncodingMissing = plain_why 5
why_of errors.EncodingUnknownFormat = plain_why 6
why_of (errors.EncodingVersion byte) = record { offset = nowhere; subject = 0; code = 7; detail = byte }
why_of (errors.BadStringEncoding byte) = record { offset = nowhere; subject = 0; code = 8; detail = byte }
why_of errors.Historical = plain_why 9
why_of errors.NotAModule = plain_why 10
why_of (errors.BadModule offset) = record { offset = offset; subject = 0; code = 11; detail = 0 }
why_of (errors.Clash kind name) = record { offset = nowhere; subject = length name.bytes.items; code = 12; detail = clash_number kind }
why_of errors.OtherPackage = plain_why 13
why_of (errors.TwiceWithoutVersion name) = record { offset = nowhere; subject = length name.bytes.items; code = 14; detail = 0 }
why_of (errors.Missing name) = record { offset = nowhere; subject = length name.bytes.items; code = 15; detail = 0 }
why_of (errors.Differs name) = record { offset = nowhere; subject = length name.bytes.items; code = 16; detail = 0 }
