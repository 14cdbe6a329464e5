use Rattle.std.proofs.Common.{refl}
use Rattle.text_names.proofs.TableLaws.{is_there, not_there_yet, puts}
use Rattle.text_names.proofs.sources.put.Goals as goal

pub returns-then-contains_key : goal.returns-then-contains_key
returns-then-contains_key c = is_there _ (c.args.key.0, c.args.key.1.now) (λ y. refl) c.args.names.now.entries c.contains_key.result c.contains_key.ensures c.if-contains_key.true

pub returns : goal.returns
returns c = puts _ c.args.key c.args.named c.args.names.now.entries c.insert.new.self.entries (λ a b. refl) c.in_ok-insert.ensures.entries
    (not_there_yet _ (c.args.key.0, c.args.key.1.now) (λ y. refl) c.args.names.now.entries c.contains_key.result c.contains_key.ensures c.if-contains_key.false)
