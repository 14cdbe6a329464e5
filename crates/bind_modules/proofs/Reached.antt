-- When a list would get too long: where what a section binds is merged, and nowhere else.
use Rattle.std.proofs.Common.{rules as std_rules, ◌≡◌, ◌∙◌, sym, ap, subst, ℕ, List, Option, Err}
use Rattle.std.specs.Prelude.{Result}
use Rattle.wit_model.specs.declared.{error.Error.Error, model.StringEncoding.StringEncoding}
use Rattle.wit_bind.specs.declared.bindgen.Bindgen.{Bindgen}
use Rattle.wit_bind.specs.Merges.{IsMergeRefusal}
use Rattle.wit_metadata.specs.{Carried.contents_under, Carried.last_of, Encodings.section_name, Said.said_by, Modules.RefusesModule}
use Rattle.bind_sections.specs.{SectionBindings.IsBoundBy, SectionBindings.RefusesSection, Steps.IsDataInFront}
use Rattle.bind_modules.specs.{BoundTo.IsBoundTo, Reached.OutgrowsLists}
use Rattle.wit_model.specs.declared.error.Error.TheVariants as errors

-- ---- sections and what is left of the module

abbrev Answer : Type 0
Answer = Result StringEncoding Error

abbrev size : Answer
size = Err errors.Size

-- no encoding is refused so
said-otherwise : (x : Option (List ℕ)) → size ≡ said_by x → ⊥
said-otherwise y is = search std_rules

-- nor is a section
pub section-otherwise : (d : List ℕ) (e : Error) → RefusesSection d e → e ≡ errors.Size → ⊥
section-otherwise d e (RefusesSection.empty none is) so = cc
section-otherwise d e (RefusesSection.historical rest begins is) so = cc
section-otherwise d e (RefusesSection.unread some other cause offset is within none) so = cc
section-otherwise d e (RefusesSection.unsaid m reads says) so = said-otherwise (last_of (contents_under section_name reads.sections))
    (ap (λ x. let y : Answer = Err x in y) (sym so) ∙ says reads.sections reads.spelled)
section-otherwise d e (RefusesSection.memory is) so = cc

-- nor a module that is stripped
pub strip-otherwise : (input : List ℕ) (e : Error) → RefusesModule input e → e ≡ errors.Size → ⊥
strip-otherwise input e r so = subst (RefusesModule input) so r

-- ---- merges

pub outgrown : (input bytes rest d : List ℕ) (n : ℕ) (own b : Bindgen) → IsBoundTo input own n bytes → IsDataInFront bytes d rest → IsBoundBy d b → (e : Error) → IsMergeRefusal own b e
    → e ≡ errors.Size → OutgrowsLists input
outgrown input bytes rest d n own b h x bound e why so = record {
  own = own;
  bytes = bytes;
  reached = h.reached;
  data_ = d;
  rest = rest;
  next = x;
  other = b;
  binds = bound;
  too_many = subst (IsMergeRefusal own b) so why;
}
