-- What the data of one section binds.
use Rattle.std.proofs.Common.{rules as std_rules, ◌≡◌, refl, ℕ, List, [], ◌∷◌, Option, Some, Ok}
use Rattle.std.specs.Prelude.{Result}
use Rattle.wit_model.specs.declared.{error.Error.Error, model.StringEncoding.StringEncoding}
use Rattle.bind_meaning.specs.{ByMeaning.binding_of_world, Roots.root_binding, Union.union}
use Rattle.bind_meaning.proofs.RootLaws.{root_gains, root_unites}
use Rattle.wit_metadata.specs.{Carried.contents_under, Carried.last_of, Encodings.contents_of, Encodings.section_name, Said.said_by}
use Rattle.bind_sections.specs.BoundLaws.{BoundSectionsMean, OneSectionBinds}

-- ---- what is said

abbrev Answer : Type 0
Answer = Result StringEncoding Error

-- an encoding is said by its contents alone
said-by-contents : (x : Option (List ℕ)) (e : StringEncoding) → (let y : Answer = Ok e in y) ≡ said_by x → x ≡ Some (contents_of e)
said-by-contents z e is = search std_rules

pub bound_sections_mean : BoundSectionsMean
bound_sections_mean d b bound =
    let read = bound.decoded.read in (
      bound.decoded.meaning,
      bound.encoding,
      record {
        reads = read;
        says = record {
          sections = read.sections;
          spelled = read.spelled;
          says = said-by-contents (last_of (contents_under section_name read.sections)) bound.encoding (bound.says read.sections read.spelled);
        };
      },
    )

-- ---- one section

pub one_section_binds : OneSectionBinds
one_section_binds r n m e d meant means carries none = record {
  bound = union root_binding (binding_of_world m e);
  binds = λ input fs stand carry. record {
    sections = fs;
    stand = stand;
    data_ = d ∷ [];
    carry = carry;
    binds = (m, e, record { reads = (means m).0 meant; says = carries }, root_unites m e none, refl);
  };
  gained = root_gains (binding_of_world m e);
}
