-- What bytes mean is what reading them gives, so they mean one thing at most.
use Rattle.std.proofs.Common.{List, Option, sym, ap, ◌∙◌}
use Rattle.comp_bytes.specs.{Raw.Section, Reading.component_of, Reading.◌>>=◌}
use Rattle.comp_meaning.specs.{Reads.package_of_sections, Reads.world_of_sections, Meanings.OneMeaning, Meanings.OneWorld, Meanings.MeaningIsRead, Meanings.WorldIsRead}
use Rattle.comp_bytes.proofs.{Readers.bind_some, ComponentLaws.component_takes, ComponentLaws.component_again}
use Rattle.base_lemmas.proofs.Options.{some_is}

pub meaning_is_read : MeaningIsRead
meaning_is_read bytes m = (
  λ r. ap (λ (found : Option (List Section)). found >>= package_of_sections) (component_again bytes r.sections r.spelled) ∙ r.means,
  λ e. let b = bind_some (component_of bytes) package_of_sections m e in record { sections = b.0; spelled = component_takes bytes b.0 b.1; means = b.2 },
)

pub world_is_read : WorldIsRead
world_is_read bytes m = (
  λ r. ap (λ (found : Option (List Section)). found >>= world_of_sections) (component_again bytes r.sections r.spelled) ∙ r.means,
  λ e. let b = bind_some (component_of bytes) world_of_sections m e in record { sections = b.0; spelled = component_takes bytes b.0 b.1; means = b.2 },
)

pub one_meaning : OneMeaning
one_meaning bytes m n p q = some_is m n (sym ((meaning_is_read bytes m).0 p) ∙ (meaning_is_read bytes n).0 q)

pub one_world : OneWorld
one_world bytes m n p q = some_is m n (sym ((world_is_read bytes m).0 p) ∙ (world_is_read bytes n).0 q)
