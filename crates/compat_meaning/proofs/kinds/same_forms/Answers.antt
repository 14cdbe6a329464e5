use Rattle.std.proofs.Common.{rules}
use Rattle.compat_meaning.specs.Opened.{form_of}
use Rattle.compat_meaning.proofs.Outlines.{same_forms as same_forms_lem}
use Rattle.compat_meaning.proofs.kinds.same_forms.Goals as goal

pub returns-clause-same : goal.returns-clause-same
returns-clause-same c = λ e. same_forms_lem (form_of c.args.prev.now) (form_of c.args.new.now) (search rules)
    (rw (c.deref.ensures.value, c.in_ok-prev_labels.ensures, c.deref-2.ensures.value, c.in_ok-new_labels.ensures) at (c.same_labels.ensures.same (search rules)))
    (rw (c.deref-3.ensures.value, c.in_ok-prev_given.ensures, c.deref-4.ensures.value, c.in_ok-new_given.ensures) at (c.same_marks.ensures.same (search rules))) (search rules)
