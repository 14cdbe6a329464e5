use Rattle.std.proofs.Common.{◌∙◌, refl, ap, Some}
use Rattle.text_trees.specs.{Seen.cut, TreesSeen.docs_of, TreesSeen.gates_of}
use Rattle.wit_text.proofs.InterfaceLaws.{members_there, members_used}
use Rattle.wit_text.proofs.interfaces.add_interface.Goals as goal

pub returns-clause-added : goal.returns-clause-added
returns-clause-added c = record {
  made = _;
  last = c.in_ok-number.ensures;
  list = c.in_ok-push.ensures.items;
  numbers = refl;
  is = record {
    named = ap Some (c.in_ok-string_of.ensures.text ∙ ap (λ t. cut t c.args.source.now.name) c.text_of-text.ensures.text);
    home = refl;
    gates = c.in_ok-stability_of.ensures.gates ∙ ap (λ t. gates_of t c.args.source.now.gates) c.text_of-text.ensures.text;
    docs = c.in_ok-docs_of.ensures.docs ∙ ap (λ t. docs_of t c.args.source.now.docs) c.text_of-text.ensures.text;
    members =
        members_used _ c.in_ok-number.ensures
        (members_there c.args.sources.now c.args.interfaces.now _ c.new-scope.result _ _ _ _ _ c.in_ok-members.members c.new-scope.ensures.home
        c.new-scope.ensures.owner (ap (λ t. t.text.now) c.new-scope.ensures.text ∙ c.text_of-text.ensures.text) c.as_slice.ensures.value
        c.in_ok-members.ensures.made);
  };
}
