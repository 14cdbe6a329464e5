use Rattle.read_follow.specs.InstanceScopes.{state_of}
use Rattle.read_follow.proofs.ShowLaws.{function_absent, function_shown}
use Rattle.read_follow.proofs.shows.show_function.Goals as goal

pub returns-in_ok-push-in-Ok-clause-shown : goal.returns-in_ok-push-in-Ok-clause-shown
returns-in_ok-push-in-Ok-clause-shown c = λ marks here shapes fs st.
    let e = c.deref.ensures.value in
    function_shown marks (state_of shapes fs c.args.scope.now) st c.args.name c.args.n here c.in-Ok.function c.push.new.self.items (rw e at c.in-Ok.ensures.at) (rw e at c.in-Ok.ensures.found)
    c.in_ok-push-in-Ok.ensures.items

pub returns-in-Err-clause-absent : goal.returns-in-Err-clause-absent
returns-in-Err-clause-absent c = λ marks shapes fs st.
    let e = c.deref.ensures.value in
    function_absent marks (state_of shapes fs c.args.scope.now) st c.args.name c.args.n c.in-Err.refusal (rw e at c.in-Err.ensures.found)
