use Rattle.wit_text.proofs.Listing.{bare_listed, bare_worlds, named_last}
use Rattle.wit_text.proofs.packages.name_all.Goals as goal

pub name_interfaces-requires-clause-bare : goal.name_interfaces-requires-clause-bare
name_interfaces-requires-clause-bare c = bare_listed c.args.sources.now c.args.interfaces.now.numbers.items c.args.packages.now c.requires.bare

pub name_worlds-requires-clause-bare : goal.name_worlds-requires-clause-bare
name_worlds-requires-clause-bare c =
    bare_worlds c.args.sources.now c.args.packages.now c.name_interfaces.new.packages c.requires.bare c.in_ok-name_interfaces.ensures.keeps

pub returns : goal.returns
returns c =
    named_last c.args.sources.now c.args.interfaces.now.numbers.items c.args.packages.now c.name_interfaces.new.packages c.name_worlds.new.packages
    c.name_worlds.result c.requires.bare c.in_ok-name_interfaces.ensures.keeps c.in_ok-name_interfaces.ensures.listed c.name_worlds.ensures.keeps
    c.name_worlds.ensures.listed
