use Rattle.check_rules.proofs.check_rules.Goals as goal
use Rattle.base_lemmas.proofs.Options.{on_ok}

pub returns-clause-kept : goal.returns-clause-kept
returns-clause-kept c =
    let types = c.in_ok-check-5.ensures.kept in
    on_ok c.check-9.result _ _ c.check-9.ensures.kept (λ named. record {
      numbers_in_range = c.in_ok-check.ensures.kept;
      package_names = c.in_ok-check-2.ensures.kept;
      places = c.in_ok-check-3.ensures.kept;
      labels = c.in_ok-check-4.ensures.kept;
      order_of_types = types.order_of_types;
      owners = types.owners;
      shapes = types.shapes;
      named_kinds = types.named_kinds;
      handles = types.handles;
      depths = types.depths;
      function_names = c.in_ok-check-6.ensures.kept;
      world_items = c.in_ok-check-7.ensures.kept;
      order_of_items = c.in_ok-check-8.ensures.kept;
      names_in_packages = named;
    })
