-- What stands in the way of a package of texts.
use Rattle.std.proofs.Common.{◌≡◌, ◌<◌, ◌∙◌, refl, ap, subst, sym, false, true, ℕ, List, length, map, option_map, take}
use Rattle.std.proofs.Math.ListN.{get_or}
use Rattle.std.proofs.lemmas.{List.take-map, Option.slice_get-get_or, Option.slice_get-map}
use Rattle.std.specs.{List.list_all, Str.is_utf8}
use Rattle.wit_model.specs.declared.error.Error.{Error}
use Rattle.wit_model.specs.declared.error.Error.TheVariants as errors
use Rattle.text_names.specs.declared.error.Fault.{Fault}
use Rattle.text_names.specs.declared.error.Fault.TheVariants as faults
use Rattle.wit_text.specs.Texts.{RefusesTexts}
use Rattle.witc_read.specs.Packages.{IsNoText, IsTroubleOf, RefusesPackage, trouble_of_error, trouble_of_fault}

-- a text that isn't UTF-8, behind those that are
pub no-text-at : {A : Type 0} (g : A → List ℕ) (xs : List A) (n : ℕ) (d : A) → n < length xs → is_utf8 (g (get_or xs n d)) ≡ false
    → list_all is_utf8 (map g (take n xs)) ≡ true → IsNoText (map g xs) n
no-text-at g xs n d below no_text before = record {
  text = g (get_or xs n d);
  is = slice_get-map g xs n ∙ ap (option_map g) (slice_get-get_or xs n d below);
  no_text = no_text;
  before = subst (λ (texts : List (List ℕ)). list_all is_utf8 texts ≡ true) (sym (take-map g n xs)) before;
}

-- a fault of the texts
pub of-fault : (texts : List (List ℕ)) (own : ℕ) (fault : Fault) → RefusesTexts texts fault → IsTroubleOf texts own (trouble_of_fault fault)
of-fault texts own faults.Memory refuses = tt
of-fault texts own faults.Size refuses = (refl, refuses)
of-fault texts own (faults.Refused refused) refuses = (refl, refuses)
of-fault texts own (faults.Broken rule list number) refuses = (refl, refuses)

-- an error of the package
pub of-error : (texts : List (List ℕ)) (own : ℕ) (e : Error) → RefusesPackage texts own e → IsTroubleOf texts own (trouble_of_error e)
of-error texts own errors.Memory refuses = tt
of-error texts own errors.Size refuses = (refl, refuses)
of-error texts own (errors.CanonicalClash name) refuses = (refl, refuses)
of-error texts own (errors.NoReading cause at) refuses = (refl, refuses)
of-error texts own errors.EncodingMissing refuses = (refl, refuses)
of-error texts own errors.EncodingUnknownFormat refuses = (refl, refuses)
of-error texts own (errors.EncodingVersion byte) refuses = (refl, refuses)
of-error texts own (errors.BadStringEncoding byte) refuses = (refl, refuses)
of-error texts own errors.Historical refuses = (refl, refuses)
of-error texts own errors.NotAModule refuses = (refl, refuses)
of-error texts own (errors.BadModule at) refuses = (refl, refuses)
of-error texts own (errors.Clash kind name) refuses = (refl, refuses)
of-error texts own errors.OtherPackage refuses = (refl, refuses)
of-error texts own (errors.TwiceWithoutVersion name) refuses = (refl, refuses)
of-error texts own (errors.Missing name) refuses = (refl, refuses)
of-error texts own (errors.Differs name) refuses = (refl, refuses)
