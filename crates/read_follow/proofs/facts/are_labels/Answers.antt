use Rattle.std.proofs.{Common.sym, Common.ap, Common.◌∙◌, Common.◌&&◌, Common.map, lemmas.List.Folds.list_all-map}
use Rattle.wit_model.specs.Names.{is_label}
use Rattle.comp_meaning.specs.Rules.{distinct}
use Rattle.distinct_names.proofs.NameLaws.{labels_good}
use Rattle.read_follow.proofs.facts.are_labels.Goals as goal

pub returns : goal.returns
returns c = labels_good c.are_distinct_by.result (map (λ l. l.0.now) c.args.labels.now) (list_all-map is_label (λ l. l.0.now) c.args.labels.now ∙ sym c.if-not-are_all_labels.ensures)
    c.are_distinct_by.ensures

pub returns-then-not-are_all_labels : goal.returns-then-not-are_all_labels
returns-then-not-are_all_labels c = sym (ap (λ b. b && distinct (map (λ l. l.0.now) c.args.labels.now)) (list_all-map is_label (λ l. l.0.now) c.args.labels.now ∙ sym c.if-not-are_all_labels.ensures))
