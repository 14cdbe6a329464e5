use Rattle.std.proofs.Common.{◌≡◌, [], ◌∷◌, ◌++◌, sym, ap, ◌∙◌, map, append_assoc}
use Rattle.std.proofs.lemmas.Map.Iter.{rest_more}
use Rattle.std.specs.Map.Iter.{deref}
use Rattle.wit_model.specs.Text.{Text, text_of}
use Rattle.bind_keys.specs.Tables.{number_at, numbers_among, TableValue}
use Rattle.bind_keys.proofs.TableKeys.{position_is}
use Rattle.bind_keys.proofs.table.Table.numbers_here.Goals as goal

pub loop-text-preserved : goal.loop-text-preserved
loop-text-preserved c =
    let fs = c.args.self.now.fronts in
    let text : Text = text_of c.in-Some.text.now in
    let next = rest_more deref c.loop-text.text-iterator c.next.new.self c.next.result c.in-Some.text c.in-Some.is c.next.ensures.steps in
    let index : c.get_index_of.result ≡ number_at fs text = c.get_index_of.ensures.index ∙ (position_is c.self.inside.fronts.keys c.as_str.result.now
    ∙ (ap (λ t. number_at (map text_of c.self.inside.fronts.keys) t) c.as_str.ensures.value ∙ ap (λ (t : TableValue). number_at t.fronts text) c.self.view_is)) in
    let rest = numbers_among fs (map text_of c.next.new.self) in
    ap (λ xs. xs ++ rest) c.in_ok-push.ensures.items ∙ (append_assoc c.loop-text.numbers.items (c.get_index_of.result ∷ []) rest
    ∙ (ap (λ n. c.loop-text.numbers.items ++ (n ∷ rest)) index ∙ (ap (λ xs. c.loop-text.numbers.items ++ numbers_among fs (map text_of xs)) (sym next) ∙ c.loop-text.invariant)))
