-- What is decoded of the bytes of a package means what the package does.
use Rattle.std.proofs.Common.{rules as std_rules, ◌≡◌, ap, ℕ, Some, option_map}
use Rattle.wit_model.specs.declared.model.{Package.Package, Resolve.Resolve}
use Rattle.wit_model.specs.{Lookup.package_at, Meant.package_meaning, Meant.Meant}
use Rattle.wit_component.specs.ReadBack.{DecodingGivesThatMeaning, EncodingKeepsMeaning, MemoryAloneIsRefused}

-- a package has its meaning
pub has_meaning : (r : Resolve) (n : ℕ) (p : Package) → package_at r n ≡ Some p → Meant r n (package_meaning r n p)
unfolding Meant
has_meaning r n p is = ap (option_map (package_meaning r n)) is

pub gives_that_meaning : DecodingGivesThatMeaning
gives_that_meaning r n p bytes is means s k decoded = record {
  valid = decoded.valid;
  bare = decoded.bare;
  package_ = decoded.package_;
  stands = decoded.stands;
  alone = decoded.alone;
  means = record {
    meaning = package_meaning r n p;
    meant = has_meaning r n p is;
    same = λ m. ((λ meant. (decoded.meant m).1 ((means m).0 meant)), (λ meant. (means m).1 ((decoded.meant m).0 meant)));
  };
}

pub memory_alone : MemoryAloneIsRefused
memory_alone r n p bytes is means x refused = search (std_rules, has_meaning r n p is)

pub encoding_keeps : EncodingKeepsMeaning
encoding_keeps bytes again s k decoded means m = search std_rules
