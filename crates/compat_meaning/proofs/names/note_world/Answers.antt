use Rattle.std.proofs.Common.{sym, ap, ◌∙◌}
use Rattle.std.specs.Option.{option_or}
use Rattle.compat_meaning.specs.{Opened.label_among, Outline.label_noted}
use Rattle.compat_meaning.proofs.Naming.{label_in_two, or_assoc}
use Rattle.compat_meaning.proofs.names.note_world.Goals as goal

pub returns : goal.returns
returns c = λ n.
    let w = c.args.world.now in
    let old = label_noted n c.args.labels.now.entries in
    c.in_ok-note_labels-2.ensures n ∙ ap (λ o. option_or o (label_among n w.exports.entries)) (c.in_ok-note_labels.ensures n)
    ∙ or_assoc old (label_among n w.imports.entries) (label_among n w.exports.entries) ∙ ap (option_or old) (sym (label_in_two n w.imports.entries w.exports.entries))
