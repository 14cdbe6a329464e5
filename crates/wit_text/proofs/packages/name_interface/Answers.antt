use Rattle.std.proofs.Common.{◌∙◌, refl, ap, slice_index_or}
use Rattle.std.proofs.lemmas.Option.{slice_get-get_or}
use Rattle.wit_model.specs.Text.{text_of}
use Rattle.wit_model.proofs.TextLemmas.{text_same}
use Rattle.text_trees.specs.Seen.{cut}
use Rattle.wit_text.specs.Puts.{number_at}
use Rattle.wit_text.proofs.Listing.{adds_past, interface_put, keeps_worlds, put_interface}
use Rattle.wit_text.proofs.packages.name_interface.Goals as goal

pub returns-in_ok-insert-clause-keeps : goal.returns-in_ok-insert-clause-keeps
returns-in_ok-insert-clause-keeps c =
    keeps_worlds c.args.packages.now c.args.source.now.«package» _ _
    (slice_get-get_or c.args.packages.now c.args.source.now.«package» c.index-packages-home.result c.if-home-packages.true) refl refl

pub returns-in_ok-insert-clause-listed : goal.returns-in_ok-insert-clause-listed
returns-in_ok-insert-clause-listed c =
    put_interface c.args.sources.now c.requires.index c.args.interfaces.now.numbers.items c.args.own c.args.source.now c.requires.there c.in_ok-name.name
    (c.in_ok-name.ensures.text ∙ ap (λ t. cut t c.args.source.now.name) c.text_of-text.ensures.text) _
    (c.made_number-number.ensures ∙ ap (λ ns. number_at ns c.args.own) c.as_slice.ensures.value) c.args.packages.now c.requires.listed
    (slice_index_or c.args.packages.now c.args.source.now.«package» c.index-packages-home.result)
    (slice_get-get_or c.args.packages.now c.args.source.now.«package» c.index-packages-home.result c.if-home-packages.true) _
    (λ k h. text_same (text_of c.in_ok-name.name) (text_of k) h) c.insert.new.self c.in_ok-insert.ensures.entries

pub returns-else-home-packages-clause-listed : goal.returns-else-home-packages-clause-listed
returns-else-home-packages-clause-listed c =
    interface_put c.args.sources.now c.args.interfaces.now.numbers.items c.args.own c.args.source.now c.requires.there c.in_ok-name.name
    (c.in_ok-name.ensures.text ∙ ap (λ t. cut t c.args.source.now.name) c.text_of-text.ensures.text)
    (record { 0 = c.made_number-number.result })
    (c.made_number-number.ensures ∙ ap (λ ns. number_at ns c.args.own) c.as_slice.ensures.value) c.args.packages.now c.requires.listed c.args.packages.now
    (adds_past (λ p. p.interfaces.entries) c.args.source.now.«package» _ c.args.packages.now c.if-home-packages.false)
