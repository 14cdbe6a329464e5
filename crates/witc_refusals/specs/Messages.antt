-- The messages of refusals, without an end of a line.
use Rattle.std.specs.{Fmt.decimal, Prelude.ℕ, Prelude.List, Prelude.◌++◌, Prelude.codes}
use Rattle.wit_model.specs.declared.error.{Cause.Cause, ClashKind.ClashKind, Error.Error}
use Rattle.wit_model.specs.declared.error.Cause.TheVariants as causes
use Rattle.wit_model.specs.declared.error.ClashKind.TheVariants as kinds
use Rattle.wit_model.specs.declared.error.Error.TheVariants as errors

-- what is wrong with bytes that have no reading, in words
abbrev pub words_of_cause : Cause → List ℕ
words_of_cause causes.Truncated = codes "they end too early: check that the file is complete"
words_of_cause causes.BadNumber = codes "a number is too large, or is written in too many bytes"
words_of_cause causes.BadUtf8 = codes "a name isn't UTF-8"
words_of_cause causes.BadPreamble = codes "they don't begin as a component does. Core modules, WIT text and compressed files don't"
words_of_cause causes.UnknownSection = codes "a section has an id that packages don't use"
words_of_cause causes.UnknownForm = codes "a type or a declaration has an unknown form, which may be of a newer format"
words_of_cause causes.OutOfScope = codes "an index refers to nothing"
words_of_cause causes.BadName = codes "a name isn't allowed where it stands"
words_of_cause causes.NotWit = codes "the component is no WIT package. If it is the data of a component-type section, read it as a world"
words_of_cause causes.Disagree = codes "one interface is described twice, in two different ways"
words_of_cause causes.TooDeep = codes "a type is nested more than 100 levels deep: name some of the types in it"
words_of_cause causes.Trailing = codes "a section has extra bytes after its contents"
words_of_cause causes.NoPackage = codes "the component exports nothing"

-- what two bindings clash in, in words, with what to do
abbrev pub words_of_clash : ClashKind → List ℕ
words_of_clash kinds.Interface = codes "two sections disagree about an interface. Build both from one version of the package: "
words_of_clash kinds.World = codes "two sections disagree about a world. Build both from one version of the package: "
words_of_clash kinds.Import = codes "two sections disagree about an import. Build both from one version of the package: "
words_of_clash kinds.Export = codes "two sections both export "
words_of_clash kinds.Encoding = codes "two sections disagree about the string encoding of a function. Build both from one version of the package: "

abbrev pub no_reading_of : List ℕ → ℕ → List ℕ
no_reading_of cause offset = codes "the bytes can't be read as a WIT package or world: " ++ (cause ++ (codes " (at byte " ++ (decimal offset ++ codes ")")))

-- The message of a refusal. The name that it is about stands last.
abbrev pub message_of : Error → List ℕ
message_of errors.Memory = codes "out of memory"
message_of errors.Size = codes "an index, a count or a length doesn't fit in 32 bits: make the input smaller"
message_of (errors.CanonicalClash name) =
    codes "two imports or two exports have the same canonical name. Rename one of them, or encode without canonical names: " ++ name.bytes.items
message_of (errors.NoReading cause offset) = no_reading_of (words_of_cause cause) offset
message_of errors.EncodingMissing = codes "a component-type section has no section `wit-component-encoding` in it: build the module again with a current tool"
message_of errors.EncodingUnknownFormat = codes "the section `wit-component-encoding` is empty: build the module again with a current tool"
message_of (errors.EncodingVersion byte) = codes "the section `wit-component-encoding` has format " ++ (decimal byte ++ codes ", and only format 4 can be read")
message_of (errors.BadStringEncoding byte) = codes "no string encoding has the number "
    ++ (decimal byte ++ codes ": 0 is UTF-8, 1 is UTF-16, and 2 is Latin-1 with UTF-16")
message_of errors.Historical = codes "a component-type section is in an old format, without a version: build the module again with a current tool"
message_of errors.NotAModule = codes "the bytes don't begin as a core module does. Components, WIT text and compressed files don't"
message_of (errors.BadModule offset) = codes "no section of a core module begins at byte " ++ (decimal offset ++ codes ": check that the file is complete")
message_of (errors.Clash kind name) = words_of_clash kind ++ name.bytes.items
message_of errors.OtherPackage = codes "the worlds are of packages with different names: compare worlds of one package"
message_of (errors.TwiceWithoutVersion name) = codes "a world has two versions of one interface, and can't be compared: " ++ name.bytes.items
message_of (errors.Missing name) = codes "a world lacks " ++ name.bytes.items
message_of (errors.Differs name) = codes "two worlds differ in " ++ name.bytes.items
