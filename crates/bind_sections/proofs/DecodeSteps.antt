-- What `decode` knows after each call: of `decode_section`, and of `merge`, at Ok and at a refusal.
use Rattle.std.proofs.Common.{◌≡◌, ◌∙◌, sym, ap, subst, ℕ, ◌+◌, List, length}
use mathlib.Core.Logic.{inl, inr}
use Rattle.wit_model.specs.declared.error.Error.{Error}
use Rattle.wit_model.specs.Text.{text_of}
use Rattle.bind_meaning.specs.{Clash.CanUnite, Clash.IsClash, Union.union}
use Rattle.wit_bind.specs.declared.bindgen.Bindgen.{Bindgen}
use Rattle.wit_bind.specs.{Bindings.binding_of, Merges.IsMergeRefusal}
use Rattle.bind_sections.specs.{SectionBindings.IsBoundBy, SectionBindings.RefusesSection, Steps.IsCountedTo, Steps.IsDataInFront, Steps.IsReadTo}
use Rattle.bind_sections.specs.{Bound.IsRefused, Bound.RefusesBindings, Blamed.Blames}
use Rattle.bind_sections.proofs.{BoundWorlds.sections_bind_their_worlds, SectionWorlds.bound_sections_mean, Steps.refusals_end, Steps.world-counted}
use Rattle.bind_sections.proofs.BlamedLaws.{blames-section}
use Rattle.wit_model.specs.declared.error.Error.TheVariants as errors

-- what refuses a module is a refusal of its bindings
pub let-through : (input : List ℕ) (e : Error) → IsRefused input e → RefusesBindings input e
let-through input errors.Memory x = tt
let-through input errors.Size x = tt
let-through input _ x = x

module _ (input bytes rest d : List ℕ) (own : Bindgen) (h : IsReadTo input (binding_of own) bytes) (x : IsDataInFront bytes d rest) where
  -- `decode_section` refused the data
  pub section-refused : (e : Error) → RefusesSection d e → RefusesBindings input e
  section-refused e why = let-through input e (refusals_end input bytes rest d (binding_of own) e h x (inl why))

  module _ (b : Bindgen) (bound : IsBoundBy d b) where
    -- they were merged
    pub section-merged : (n : ℕ) → length h.data_ ≡ n → (new : Bindgen) → CanUnite (binding_of own) (binding_of b) → binding_of new ≡ union (binding_of own) (binding_of b)
        → IsCountedTo input (binding_of new) (n + 1) rest
    section-merged n counted new u is =
        let means = bound_sections_mean d b bound in
        let same = (sections_bind_their_worlds d b means.0 means.1 bound means.2).1 in
        subst (λ c. IsCountedTo input c (n + 1) rest) (sym (is ∙ ap (union (binding_of own)) same))
        (world-counted input bytes rest d (binding_of own) n means.0 means.1 (h, counted) x means.2 (subst (CanUnite (binding_of own)) same u))

    -- `merge` refused them
    pub merge-refused : (e : Error) → IsMergeRefusal own b e → RefusesBindings input e
    merge-refused errors.Memory why = tt
    merge-refused errors.Size why = tt
    merge-refused (errors.Clash kind key) why =
        let means = bound_sections_mean d b bound in
        let same = (sections_bind_their_worlds d b means.0 means.1 bound means.2).1 in
        refusals_end input bytes rest d (binding_of own) (errors.Clash kind key) h x (inr (means.0, means.1, means.2, subst (λ c. IsClash (binding_of own) c kind (text_of key)) same why))
    merge-refused _ why = absurd why

    -- so the section is to blame
    pub merge-blamed : (n : ℕ) → length h.data_ ≡ n → (e : Error) → IsMergeRefusal own b e → Blames input n e
    merge-blamed n counted errors.Memory why = tt
    merge-blamed n counted errors.Size why = tt
    merge-blamed n counted (errors.Clash kind key) why =
        let means = bound_sections_mean d b bound in
        let same = (sections_bind_their_worlds d b means.0 means.1 bound means.2).1 in record {
          bound = binding_of own;
          bytes = bytes;
          before = (h, counted);
          data_ = d;
          rest = rest;
          next = x;
          why = inr (means.0, means.1, means.2, subst (λ c. IsClash (binding_of own) c kind (text_of key)) same why);
        }
    merge-blamed n counted _ why = absurd why

  -- `decode_section` refused the data, so its section is to blame
  pub section-blamed : (n : ℕ) → length h.data_ ≡ n → (e : Error) → RefusesSection d e → Blames input n e
  section-blamed n counted e why = blames-section input n e d why (record { bound = binding_of own; bytes = bytes; before = (h, counted); data_ = d; rest = rest; next = x; why = inl why })
