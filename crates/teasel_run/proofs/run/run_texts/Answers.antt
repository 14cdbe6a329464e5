use Rattle.teasel_words.specs.Given.{given_of, texts_of}
use Rattle.teasel_run.proofs.RunLaws.{runs-so}
use Rattle.teasel_run.proofs.run.run_texts.Goals as goal

pub returns-in-Ok : goal.returns-in-Ok
returns-in-Ok g c = runs-so g.S.Store.holds g.S.Store.fails g.S.Store.lists g.S.Store.unlisted g.S.Store.puts c.args.setting (texts_of c.args.words.now) (g.S.Store.state c.args.store.now)
    (g.S.Store.state c.carry_out.new.store) (g.W.Write.contents c.args.writer.now) (g.W.Write.contents c.carry_out.new.writer) (given_of c.in-Ok.asked) c.in-Ok.ensures
    c.carry_out.result c.carry_out.ensures.carries c.carry_out.ensures.kept c.carry_out.ensures.stops
