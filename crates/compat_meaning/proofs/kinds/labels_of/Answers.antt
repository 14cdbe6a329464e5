use Rattle.std.proofs.Common.{◌∙◌, sym, ap, map}
use Rattle.compat_meaning.specs.{Opened.form_of, Outline.labels_of}
use Rattle.wit_model.specs.Text.{text_of}
use Rattle.compat_meaning.proofs.Outlines.{variant_labels}
use Rattle.compat_meaning.proofs.kinds.labels_of.Goals as goal

pub returns-in_ok-found-in-Variant : goal.returns-in_ok-found-in-Variant
returns-in_ok-found-in-Variant c = c.in_ok-found-in-Variant.ensures ∙ ap (map (λ x. text_of x.name)) c.deref-in-Variant.ensures.value ∙ sym (variant_labels c.in-Variant.variant)
    ∙ ap (λ k. labels_of (form_of k)) (sym c.in-Variant.is)
