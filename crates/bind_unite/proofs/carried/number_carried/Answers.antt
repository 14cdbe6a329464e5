use Rattle.std.proofs.{Common.rules, Common.◌≡◌, Common.◌∙◌, Common.ap, Common.sym, Common.length, Common.map, Common.is_none, lemmas.List.length-map}
use Rattle.bind_carry.specs.Marked.{mark_worlds}
use Rattle.bind_carry.specs.{Which.new_interfaces, Numbers.interface_number, Numbers.numbers_of, Numbers.package_number, Numbers.world_number}
use Rattle.bind_carry.proofs.CopiesPlaced.{numbers_long}
use Rattle.bind_unite.proofs.carried.number_carried.Goals as goal

pub returns-clause-numbered : goal.returns-clause-numbered
returns-clause-numbered c =
    let matches = c.args.matches.now in
    let flags = c.in_ok-new_packages.new_packages.items in
    let world_flags = c.in_ok-copied_worlds.copied_worlds.items in
    let interface_flags = c.in_ok-copied_interfaces.copied_interfaces.items in
    let count_packages : c.len.result ≡ length c.args.own.now.packages.items = search rules in
    let count_worlds : c.len-2.result ≡ length c.args.own.now.worlds.items = search rules in
    let count_interfaces : c.len-3.result ≡ length c.args.own.now.interfaces.items = search rules in
    let first = length c.args.own.now.packages.items in
    let new_packages : flags ≡ map is_none matches.packages.items = c.in_ok-new_packages.ensures ∙ ap (map is_none) c.deref.ensures.value in
    let known : c.deref-4.result.now ≡ map package_number matches.packages.items = c.deref-4.ensures.value ∙ (c.in_ok-known.ensures ∙ ap (map package_number) c.deref-2.ensures.value) in
    let packages : c.in_ok-packages.packages.items ≡ numbers_of first flags (map package_number matches.packages.items) =
    c.in_ok-packages.ensures.numbers ∙ (λ j. numbers_of (count_packages j) (c.deref-3.ensures.value j) (known j)) in
    let known_worlds : c.deref-7.result.now ≡ map world_number matches.worlds.items = c.deref-7.ensures.value ∙ (c.in_ok-known-2.ensures ∙ ap (map world_number) c.deref-5.ensures.value) in
    let worlds : c.in_ok-worlds.worlds.items ≡ numbers_of (length c.args.own.now.worlds.items) world_flags (map world_number matches.worlds.items) =
    c.in_ok-worlds.ensures.numbers ∙ (λ j. numbers_of (count_worlds j) (c.deref-6.ensures.value j) (known_worlds j)) in
    let known_interfaces : c.deref-11.result.now ≡ map interface_number matches.interfaces.items =
    c.deref-11.ensures.value ∙ (c.in_ok-known-3.ensures ∙ ap (map interface_number) c.deref-9.ensures.value) in
    let interfaces : c.in_ok-interfaces.interfaces.items ≡ numbers_of (length c.args.own.now.interfaces.items) interface_flags (map interface_number matches.interfaces.items) =
    c.in_ok-interfaces.ensures.numbers ∙ (λ j. numbers_of (count_interfaces j) (c.deref-10.ensures.value j) (known_interfaces j)) in
    record {
      whole = record {
        packages = numbers_long first flags (map package_number matches.packages.items)
            (ap length new_packages ∙ (length-map matches.packages.items is_none ∙ sym (length-map matches.packages.items package_number))) ∙ ap length (sym packages);
        interfaces = numbers_long (length c.args.own.now.interfaces.items) interface_flags (map interface_number matches.interfaces.items)
            (c.in_ok-copied_interfaces.ensures.count ∙ (sym c.requires.interfaces ∙ sym (length-map matches.interfaces.items interface_number))) ∙ ap length (sym interfaces);
        worlds = numbers_long (length c.args.own.now.worlds.items) world_flags (map world_number matches.worlds.items)
            (c.in_ok-copied_worlds.ensures.count ∙ (sym c.requires.worlds ∙ sym (length-map matches.worlds.items world_number))) ∙ ap length (sym worlds);
      };
      new_packages = new_packages;
      packages = packages;
      copied_worlds = c.in_ok-copied_worlds.ensures.flags;
      worlds = worlds;
      copied_interfaces = c.in_ok-copied_interfaces.ensures.chosen ∙ ap (λ flags. mark_worlds c.args.other.now (new_interfaces matches.interfaces.items c.args.other.now.interfaces.items) flags
          c.args.other.now.worlds.items) c.deref-8.ensures.value;
      interfaces = interfaces;
      interface_count = c.in_ok-copied_interfaces.ensures.count;
      world_count = c.in_ok-copied_worlds.ensures.count;
    }
