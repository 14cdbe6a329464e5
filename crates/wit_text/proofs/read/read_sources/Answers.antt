use Rattle.wit_text.proofs.Showing.{files_shown}
use Rattle.wit_text.proofs.read.read_sources.Goals as goal

pub returns-clause-shows : goal.returns-clause-shows
returns-clause-shows c =
    files_shown c.in_ok-sources.sources c.in_ok-sources.ensures.index c.in_ok-resolve.resolve c.in_ok-resolve.ensures c.args.list.now
    c.in_ok-sources.ensures.declares c.in_ok-mains.mains.items c.in_ok-mains.ensures
