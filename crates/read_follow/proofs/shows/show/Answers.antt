use Rattle.std.proofs.Common.{sym, refl, ℕ, Option}
use Rattle.wit_model.specs.Tree.{Place}
use Rattle.comp_bytes.specs.declared.forms.ComponentTypeRef.{ComponentTypeRef}
use Rattle.comp_meaning.specs.Follow.{InstanceScope as MeantScope, is_simple, show, show_function, show_type, when}
use Rattle.read_follow.specs.declared.names.ExternName.{ExternName}
use Rattle.read_follow.specs.{ExternNames.raw_name, Following.Halts, Following.Steps, InstanceScopes.state_of}
use Rattle.read_follow.proofs.{FollowingLaws.halts_as, FollowingLaws.if_err, FollowingLaws.on_ok, FollowingLaws.steps_as, ShowLaws.as_type}
use Rattle.read_follow.proofs.shows.show.Goals as goal

-- what the definition does with an export
abbrev shows : ExternName → ComponentTypeRef → ℕ → (ℕ → Place) → MeantScope → Option MeantScope
shows name kind here place meant = when (is_simple (raw_name name)) (show (place here) (raw_name name) kind meant)

abbrev shows_function : ExternName → ℕ → (ℕ → Place) → MeantScope → Option MeantScope
shows_function name n place = show_function (raw_name name) n

abbrev shows_type_of : ExternName → ComponentTypeRef → ℕ → (ℕ → Place) → MeantScope → Option MeantScope
shows_type_of name kind here place = show_type (place here) (raw_name name) kind

pub returns-in-Func-clause-shown : goal.returns-in-Func-clause-shown
returns-in-Func-clause-shown c = λ marks fs st below. rw (sym c.if-not-is_simple.ensures) (rw c.in-Func.is (c.show_function.ensures.shown marks c.args.here c.args.table.now fs st))

pub returns-in-Func-clause-absent : goal.returns-in-Func-clause-absent
returns-in-Func-clause-absent c = λ marks fs st. rw (sym c.if-not-is_simple.ensures) (rw c.in-Func.is (c.show_function.ensures.absent marks c.args.table.now fs st))

pub returns-in_default-clause-shown : goal.returns-in_default-clause-shown
returns-in_default-clause-shown c = λ marks fs st below.
    let old = state_of c.args.table.now fs c.args.scope.now in
    let new = state_of c.show_type.new.table fs c.show_type.new.scope in
    on_ok (Steps marks c.args.here 1 (shows_type_of c.args.name c.args.kind c.args.here) old new) (Steps marks c.args.here 1 (shows c.args.name c.args.kind c.args.here) old new) c.show_type.result
    (steps_as marks c.args.here 1 (shows_type_of c.args.name c.args.kind c.args.here) (shows c.args.name c.args.kind c.args.here) old new
    (λ place meant. as_type c.args.kind c.args.kind c.in_default.not-Func refl (place c.args.here) (raw_name c.args.name) meant (sym c.if-not-is_simple.ensures)))
    (c.show_type.ensures.shown marks fs st below)

pub returns-in_default-clause-absent : goal.returns-in_default-clause-absent
returns-in_default-clause-absent c = λ marks fs st.
    let old = state_of c.args.table.now fs c.args.scope.now in
    if_err (Halts marks (shows_type_of c.args.name c.args.kind c.args.here) old) (Halts marks (shows c.args.name c.args.kind c.args.here) old) c.show_type.result
    (λ e. halts_as marks (shows_type_of c.args.name c.args.kind c.args.here) (shows c.args.name c.args.kind c.args.here) old e
    (λ place meant. as_type c.args.kind c.args.kind c.in_default.not-Func refl (place c.args.here) (raw_name c.args.name) meant (sym c.if-not-is_simple.ensures)))
    (c.show_type.ensures.absent marks fs st)
