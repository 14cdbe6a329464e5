use Rattle.std.proofs.Common.{◌≡◌, ◌∙◌, ◌∷◌, [], sym, refl, rules, false, is_some, None}
use Rattle.std.specs.String.{string_eq}
use Rattle.indexmap.proofs.CallerLemmas.{insert_entry-new}
use Rattle.text_types.specs.Each.{EachIs}
use Rattle.text_types.proofs.members.add_function.Goals as goal

pub returns : goal.returns
returns c =
    let key = c.in_ok-key.key in
    let none : is_some c.in_ok-insert.field-0 ≡ false = sym c.is_some.ensures ∙ c.if-is_some.false in
    let nothing : c.in_ok-insert.field-0 ≡ None = search rules in
    record {
      adds = record {
        more = (key, c.args.callable.function) ∷ [];
        is = c.in_ok-insert.ensures.entries ∙ insert_entry-new string_eq c.args.functions.now key c.args.callable.function
            (sym c.in_ok-insert.ensures.old ∙ nothing);
        each = EachIs.one_more (record { named = c.in_ok-key.ensures.ok ∙ c.deref.ensures; is = refl }) EachIs.no_more;
      };
    }
