use Rattle.std.proofs.Common.{◌∙◌, sym, ap, map}
use Rattle.compat_meaning.specs.{Opened.form_of, Opened.is_there, Outline.given_of}
use Rattle.compat_meaning.proofs.Outlines.{variant_given}
use Rattle.compat_meaning.proofs.kinds.given_of.Goals as goal

pub returns-in_ok-given-in-Variant : goal.returns-in_ok-given-in-Variant
returns-in_ok-given-in-Variant c =
    c.in_ok-given-in-Variant.ensures ∙ ap (map (λ x. is_there x.ty)) c.deref.ensures.value ∙ sym (variant_given c.in-Variant.variant) ∙ ap (λ k. given_of (form_of k)) (sym c.in-Variant.is)
