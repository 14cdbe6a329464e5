-- Which interface a path means, as its text says it. Serves members::add_used.
use Rattle.std.proofs.Common.{◌≡◌, ◌∙◌, ap, subst, ℕ}
use Rattle.wit_model.specs.Text.{Text}
use Rattle.text_trees.specs.declared.tree.{PathTree.PathTree as CodePath, Span.Span}
use Rattle.text_trees.specs.declared.tree.PathTree.TheVariants as paths
use Rattle.text_trees.specs.{Seen.cut, TreesSeen.head_of, TreesSeen.path_of}
use Rattle.text_names.specs.declared.sources.Sources.{Sources}
use Rattle.text_names.specs.{Contents.text_at, Tables.IsNumberOf}
use Rattle.text_names.specs.Paths.{IsInterfaceOf, IsNamed}
use Rattle.text_types.specs.Targets.{IsKeyed, MeansInterface}

module _ (s : Sources) (number : ℕ) (text : Text) (here : text_at s.texts.now number ≡ text) where
  keyed : (home : ℕ) (name : Span) (n : ℕ) → IsNamed s number home name n → IsKeyed s home (cut text name) n
  keyed home name n k = record {
    interface = k.interface;
    stands = k.stands;
    named = k.named ∙ ap {B = ℕ × Text} (λ t. (home, cut t name)) here;
  }

  pub means_interface : (own : ℕ) (path : CodePath) (n : ℕ) → IsInterfaceOf s number own path n → MeansInterface s own (path_of text path) n
  means_interface own (paths.Local name) n k =
      MeansInterface.own_package (subst (λ home. IsKeyed s home (cut text name) n) k.means (keyed k.home name n k.named))
  means_interface own (paths.Full namespace name interface version) n k =
      MeansInterface.other_package
      (subst (λ t. IsNumberOf s (head_of t (record { namespace = namespace; name = name; version = version })) k.home) here k.means)
      (keyed k.home interface n k.named)
