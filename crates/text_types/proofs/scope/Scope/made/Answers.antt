use Rattle.std.proofs.Common.{refl}
use Rattle.text_types.specs.declared.scope.Scope.{Scope}
use Rattle.text_types.proofs.ScopeLaws.{some_made, some_put}
use Rattle.text_types.proofs.scope.Scope.made.Goals as goal

pub returns : goal.returns
returns c =
    let new : Scope = record c.args.self.now { names = c.insert.new.self } in
    record {
      placed = record {
        text = refl;
        home = refl;
        owner = refl;
        placed = λ defs there p. some_put c.args.self.now new c.cut.result c.args.id refl c.in_ok-insert.ensures.updates.0 defs
            (rw c.cut.ensures.bytes there) p;
        types = refl;
        finds = λ name. rw (← c.cut.ensures.bytes) (some_made c.args.self.now new c.cut.result c.args.id c.in_ok-insert.ensures.updates.0 name);
      };
    }
