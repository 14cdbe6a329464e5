use Rattle.std.proofs.Common.{◌≡◌, ◌∙◌, ◌<◌, ◌++◌, ◌∷◌, [], ap, sym, subst, ◌-◌, List, take, reverse, append-nil}
use Rattle.std.proofs.Math.Logic.{∥∥₁_elim}
use Rattle.std.proofs.Props.{props}
use Rattle.wit_text.specs.{Grounds.AreGrounded, Puts.links, Steps.Frame, Weights.path_steps}
use Rattle.wit_text.proofs.Walking.{IsUnderway, begins_path, ends_path, goes_keeps}
use Rattle.wit_text.proofs.Falling.{goes_falls}
use Rattle.std.proofs.lemmas.List.{reverse-append}
use Rattle.wit_text.proofs.walk.put.Goals as goal

pub loop-interface-init : goal.loop-interface-init
loop-interface-init c =
    subst (λ (ps : List Frame). IsUnderway c.args.walk.now c.args.first c.args.entries.now.entries c.args.entries.now.entries (reverse ps))
    (sym (c.in_ok-push.ensures.items ∙ ap (λ (ps : List Frame). ps ++ (c.args.first, 0) ∷ []) c.new-path.ensures.items))
    (begins_path c.args.walk.now c.args.first c.args.entries.now.entries)

pub loop-interface-smaller : goal.loop-interface-smaller
loop-interface-smaller c =
    let popped : c.loop-interface.path.items ≡ c.pop.new.self.items ++ (c.in-Some.interface, c.in-Some.at) ∷ [] = c.in-Some.ensures.items in
    let falls : AreGrounded (links c.args.walk.now) → path_steps (links c.args.walk.now) c.step.new.path.items < path_steps (links c.args.walk.now) c.loop-interface.path.items =
    λ g. subst (λ (ps : List Frame). path_steps (links c.args.walk.now) c.step.new.path.items < path_steps (links c.args.walk.now) ps) (sym popped)
    (goes_falls c.args.walk.now g c.loop-interface.entries.entries c.pop.new.self.items c.in-Some.interface c.in-Some.at c.step.new.entries.entries c.step.new.path.items c.in_ok-step.ensures) in
    ∥∥₁_elim c.args.walk.now.grounded (search props) falls

pub loop-interface-preserved : goal.loop-interface-preserved
loop-interface-preserved c =
    let popped : c.loop-interface.path.items ≡ c.pop.new.self.items ++ (c.in-Some.interface, c.in-Some.at) ∷ [] = c.in-Some.ensures.items in
    let turned : reverse c.loop-interface.path.items ≡ (c.in-Some.interface, c.in-Some.at) ∷ reverse c.pop.new.self.items =
    ap (λ (ps : List Frame). reverse ps) popped ∙ reverse-append c.pop.new.self.items ((c.in-Some.interface, c.in-Some.at) ∷ []) in
    goes_keeps c.args.walk.now c.args.first c.args.entries.now.entries c.loop-interface.entries.entries c.pop.new.self.items c.in-Some.interface c.in-Some.at
    c.step.new.entries.entries c.step.new.path.items c.in_ok-step.ensures
    (subst (λ (fs : List Frame). IsUnderway c.args.walk.now c.args.first c.args.entries.now.entries c.loop-interface.entries.entries fs) turned c.loop-interface.invariant)

pub returns : goal.returns
returns c =
    ends_path c.args.walk.now c.args.first c.args.entries.now.entries c.loop-interface.entries.entries c.loop-interface.path.items
    (c.in_default.ensures.items ∙ (append-nil c.pop.new.self.items ∙ (c.in_default.ensures.rest
    ∙ ap (λ n. take (n - 1) c.loop-interface.path.items) c.in_default.ensures.cases.0))) c.loop-interface.invariant
