use Rattle.std.proofs.Common.{rules, ◌≡◌, refl, [], ◌∷◌, ◌++◌, sym, ap, ◌∙◌, map, append_assoc, append-nil, Some}
use Rattle.std.proofs.lemmas.Map.Iter.{rest_more}
use Rattle.std.specs.Map.Iter.{deref}
use Rattle.wit_model.specs.Text.{Text, text_of}
use Rattle.bind_keys.specs.Tables.{number_at, numbers_among}
use Rattle.bind_keys.proofs.TableMeet.{one_more}
use Rattle.bind_keys.proofs.table.Table.number_all.Goals as goal

pub loop-text-init : goal.loop-text-init
loop-text-init c =
    let whole : c.into_iter-text-iterator.result ≡ c.args.texts.now.keys = search rules in
    (refl, ([], ap (map text_of) (sym whole), ap (map Some) c.in_ok-numbers.ensures.items))

pub loop-text-preserved : goal.loop-text-preserved
loop-text-preserved c =
    let done = c.loop-text.invariant.1.0 in
    let text : Text = text_of c.in-Some.text.now in
    let next = rest_more deref c.loop-text.text-iterator c.next.new.self c.next.result c.in-Some.text c.in-Some.is c.next.ensures.steps in
    let at : number_at c.numbered.new.self.fronts text ≡ Some c.in_ok-front.front.number =
    ap (number_at c.numbered.new.self.fronts) (sym (c.in_ok-front.ensures.text ∙ c.deref.ensures)) ∙ c.in_ok-front.ensures.stands in (
      c.in_ok-front.ensures.same ∙ c.loop-text.invariant.0,
      (
        done ++ text ∷ [],
        c.loop-text.invariant.1.1 ∙ (ap (λ xs. done ++ map text_of xs) next ∙ sym (append_assoc done (text ∷ []) (map text_of c.next.new.self))),
        one_more c.loop-text.self.fronts c.numbered.new.self.fronts c.in_ok-front.ensures.keeps c.loop-text.numbers.items c.push.new.self.items c.in_ok-front.front.number done text
            c.in_ok-push.ensures.items c.loop-text.invariant.1.2 at,
      ),
    )

pub returns-clause-numbers : goal.returns-clause-numbers
returns-clause-numbers c =
    let done = c.loop-text.invariant.1.0 in
    let all : map text_of c.args.texts.now.keys ≡ done = c.loop-text.invariant.1.1 ∙ (ap (λ xs. done ++ map text_of xs) c.in-None.ensures.steps.0 ∙ append-nil done) in
    c.loop-text.invariant.1.2 ∙ ap (numbers_among c.loop-text.self.fronts) (sym all)
