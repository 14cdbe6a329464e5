use Rattle.std.proofs.{Common.rules, lemmas.Map.Iter.rest_all, lemmas.Map.Iter.rest_more}
use Rattle.std.specs.Map.Iter.{deref_pair}
use Rattle.wit_encode.specs.WorldItems.{towards}
use Rattle.wit_encode.proofs.WorldLists.{defines-whole, goes-first, goes-lacks, goes-next, goes-on, goes-whole, holds-whole, names-whole, written-whole}
use Rattle.wit_encode.proofs.world.WorldEncoderOf+TypeEncodingMaps.encode_items.Goals as goal

pub loop-key-init : goal.loop-key-init
loop-key-init c = record { going = goes-first c.args.resolve.now c.args.canonical_names c.args.self.now (towards c.args.direction) c.args.items.now.entries _ (search rules); places = λ h. h }

pub encode_item-requires-clause-next : goal.encode_item-requires-clause-next
encode_item-requires-clause-next c =
    let is = rest_more deref_pair c.loop-key.key-iterator c.next.new.self c.next.result (c.in-Some.key, c.in-Some.item) c.in-Some.is c.next.ensures.steps in
    let n = goes-next c.args.resolve.now c.args.canonical_names c.args.self.now c.loop-key.self (towards c.args.direction) c.args.items.now.entries c.loop-key.key-iterator c.next.new.self
    (c.in-Some.key.now, c.in-Some.item.now) c.requires.begins c.loop-key.invariant.going is in
    record { world = n.world; done = n.done; shown = n.shown; next = n.next }

pub loop-key-preserved : goal.loop-key-preserved
loop-key-preserved c =
    let is = rest_more deref_pair c.loop-key.key-iterator c.next.new.self c.next.result (c.in-Some.key, c.in-Some.item) c.in-Some.is c.next.ensures.steps in
    record {
      going = goes-on c.args.resolve.now c.args.canonical_names c.args.self.now c.loop-key.self c.encode_item.new.self (towards c.args.direction) c.args.items.now.entries c.loop-key.key-iterator
          c.next.new.self (c.in-Some.key.now, c.in-Some.item.now) c.requires.begins c.loop-key.invariant.going is c.in_ok-encode_item.ensures.ok c.in_ok-encode_item.ensures.names
          c.in_ok-encode_item.ensures.once c.in_ok-encode_item.ensures.few c.in_ok-encode_item.ensures.written;
      places = λ h. c.in_ok-encode_item.ensures.places (c.loop-key.invariant.places h);
    }

pub returns : goal.returns
returns c =
    let r = c.args.resolve.now in let ns = c.args.canonical_names in let to = towards c.args.direction in let es = c.args.items.now.entries in let it = c.loop-key.key-iterator in
    let going = c.loop-key.invariant.going in let all = rest_all deref_pair it c.next.new.self c.next.result c.in-None.is c.next.ensures.steps in
    record {
      ok = goes-whole r ns c.args.self.now c.loop-key.self to es it c.requires.begins going all;
      once = defines-whole r ns c.args.self.now c.loop-key.self to es it going all;
      few = holds-whole r ns c.args.self.now c.loop-key.self to es it going all;
      written = written-whole r ns c.args.self.now c.loop-key.self to es it going all;
      size = search rules;
      names = names-whole r ns c.args.self.now c.loop-key.self to es it going all;
      places = c.loop-key.invariant.places;
      refuses = search rules;
    }

pub returns-in_err-encode_item-clause-size : goal.returns-in_err-encode_item-clause-size
returns-in_err-encode_item-clause-size c = λ h.
    let is = rest_more deref_pair c.loop-key.key-iterator c.next.new.self c.next.result (c.in-Some.key, c.in-Some.item) c.in-Some.is c.next.ensures.steps in
    goes-lacks c.args.resolve.now c.args.canonical_names c.args.self.now c.loop-key.self (towards c.args.direction) c.args.items.now.entries c.loop-key.key-iterator c.next.new.self
    (c.in-Some.key.now, c.in-Some.item.now)
    c.requires.begins c.loop-key.invariant.going is (c.encode_item.ensures.size (search rules))
