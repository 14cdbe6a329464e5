use Rattle.comp_meaning.proofs.SameLaws as laws
use Rattle.comp_meaning.proofs.laws.same_is_equal.Goals as goal

pub returns-clause-trees : goal.returns-clause-trees
returns-clause-trees c = laws.trees_decide

pub returns-clause-declarations : goal.returns-clause-declarations
returns-clause-declarations c = laws.declarations_decide

pub returns-clause-types : goal.returns-clause-types
returns-clause-types c = laws.types_decide

pub returns-clause-signatures : goal.returns-clause-signatures
returns-clause-signatures c = laws.signatures_decide

pub returns-clause-functions : goal.returns-clause-functions
returns-clause-functions c = laws.functions_decide

pub returns-clause-identities : goal.returns-clause-identities
returns-clause-identities c = laws.identities_decide

pub returns-clause-shown : goal.returns-clause-shown
returns-clause-shown c = laws.shown_types_decide
