use Rattle.std.proofs.Common.{◌∙◌, ap}
use Rattle.witc_read.specs.Places.{label_of, names_of}
use Rattle.witc_ffi.specs.Texts.{two_packages as said}
use Rattle.witc_ffi.proofs.texts.two_packages.Goals as goal

pub returns : goal.returns
returns c = record {
  status_is = c.refused.ensures.status_is;
  text_is = c.refused.ensures.text_is ∙ (c.in_ok-message.ensures.ok ∙ (ap (λ first. said first c.in_ok-other.other.bytes.items) c.in_ok-first.ensures
      ∙ ap (said (label_of (names_of c.args.texts.now) 0)) c.in_ok-other.ensures));
  why_is = c.refused.ensures.why_is ∙ c.about.ensures;
}
