use Rattle.std.proofs.Common.{◌≡◌, ◌∙◌, ◌++◌, ◌∷◌, [], ap, sym, subst, List, true, false, slice_get, Some, None, arith}
use Rattle.wit_text.specs.Puts.{goes_to, links, number_at, stands}
use Rattle.wit_text.specs.Steps.{Frame, Goes, Goes.is_there, Goes.goes_on, Goes.passes, Goes.is_put, PutsOne}
use Rattle.wit_text.proofs.{Keys.has_tested, Walking.on_ok}
use Rattle.wit_text.proofs.walk.step.Goals as goal
use Rattle.text_plain.specs.Orders.{needed}

pub returns-then-has : goal.returns-then-has
returns-then-has c =
    is_there (has_tested c.args.entries.now.entries c.made_number.result (number_at c.args.walk.now.numbers.now c.args.interface) c.has.result true
    c.has.ensures c.made_number.ensures c.if-has.true)

pub overflow_add-at : goal.overflow_add-at
overflow_add-at c = omega (arith, c.in-Some.ensures.small)

pub returns-in_ok-push-in-Some-2 : goal.returns-in_ok-push-in-Some-2
returns-in_ok-push-in-Some-2 c =
    let pushed = c.in_ok-push-in-Some-2.ensures.items ∙ ap (λ (ps : List Frame). ps ++ (c.in-Some.need, 0) ∷ []) c.in_ok-push-in-Some.ensures.items in
    let is : slice_get (needed (links c.args.walk.now) c.args.interface) c.args.at ≡ Some c.in-Some.need = sym c.need_at.ensures.is ∙ c.in-Some.is in
    let goes : goes_to c.args.walk.now c.in-Some.need ≡ true = sym c.goes_to.ensures ∙ c.if-goes_to.true in
    subst (λ (ps : List Frame). Goes c.args.walk.now c.args.entries.now.entries c.args.path.now.items c.args.interface c.args.at c.args.entries.now.entries ps)
    (sym pushed) (goes_on c.in-Some.need is goes)

pub returns-else-goes_to : goal.returns-else-goes_to
returns-else-goes_to c =
    let is : slice_get (needed (links c.args.walk.now) c.args.interface) c.args.at ≡ Some c.in-Some.need = sym c.need_at.ensures.is ∙ c.in-Some.is in
    let stays : goes_to c.args.walk.now c.in-Some.need ≡ false = sym c.goes_to.ensures ∙ c.if-goes_to.false in
    subst (λ (ps : List Frame). Goes c.args.walk.now c.args.entries.now.entries c.args.path.now.items c.args.interface c.args.at c.args.entries.now.entries ps)
    (sym c.in_ok-push-in-Some.ensures.items) (passes c.in-Some.need is stays)

pub returns-in-None : goal.returns-in-None
returns-in-None c =
    let end : slice_get (needed (links c.args.walk.now) c.args.interface) c.args.at ≡ None = sym c.need_at.ensures.is ∙ c.in-None.is in
    let new : stands c.args.walk.now c.args.entries.now.entries c.args.interface ≡ false =
    has_tested c.args.entries.now.entries c.made_number.result (number_at c.args.walk.now.numbers.now c.args.interface) c.has.result false
    c.has.ensures c.made_number.ensures c.if-has.false in
    on_ok (PutsOne c.args.walk.now c.args.interface c.args.entries.now.entries c.put_one.new.entries.entries) _ c.put_one.result
    (λ put. is_put c.put_one.new.entries.entries new end put) c.put_one.ensures
