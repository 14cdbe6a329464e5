use Rattle.std.proofs.Common.{◌≡◌, ◌∙◌, ◌∷◌, ◌++◌, [], refl, sym, ap, length, length-append, is_some, false, map}
use Rattle.base_lemmas.proofs.Lists.{append_of_map}
use Rattle.text_types.specs.declared.scope.Scope.{Scope}
use Rattle.text_types.specs.Scopes.{member_of_own, text_in, types_in}
use Rattle.text_types.proofs.ScopeLaws.{counted_more, fresh_more, none_put}
use Rattle.text_types.proofs.scope.Scope.add.Goals as goal

pub returns : goal.returns
returns c =
    let none : is_some c.in_ok-insert.field-0 ≡ false = ap is_some c.in_ok-insert.ensures.old ∙ (sym c.contains_key.ensures ∙ c.if-contains_key.false) in
    let more = ap length c.in_ok-push.ensures.items ∙ length-append c.args.self.now.types.items (c.args.own ∷ []) in
    let text = text_in c.args.self.now in
    let new : Scope = record c.args.self.now { types = c.push.new.self; names = c.insert.new.self } in
    let types : types_in new ≡ types_in c.args.self.now ++ member_of_own text c.args.own ∷ [] =
    ap (map (member_of_own text)) c.in_ok-push.ensures.items ∙ append_of_map (member_of_own text) c.args.self.now.types.items (c.args.own ∷ []) in
    let puts = c.in_ok-insert.ensures.updates.0 in
    record {
      adds = record {
        keeps = record {
          text = refl;
          home = refl;
          owner = refl;
          placed = none_put c.args.self.now _ c.cut-key.result refl puts;
          fresh = fresh_more c.args.self.now new c.cut-key.result (member_of_own text c.args.own) puts
              (sym c.contains_key.ensures ∙ c.if-contains_key.false) types
              (c.cut-key.ensures.bytes ∙ c.requires.named) (counted_more _ _ _ _ c.in_ok-insert.field-0 none c.in_ok-insert.ensures.len more);
        };
        types = types;
      };
    }
