use Rattle.callers.proofs.Importing.{left, still-named}
use Rattle.callers.proofs.encoded.imported.Goals as goal

pub import_used-requires : goal.import_used-requires
import_used-requires c = record { can = c.requires.encoder.can }

pub import_interface-requires-clause-can : goal.import_interface-requires-clause-can
import_interface-requires-clause-can c = c.in_ok-import_used.ensures.leaves.can

pub import_interface-requires-clause-named : goal.import_interface-requires-clause-named
import_interface-requires-clause-named c = still-named _ _ _ _ c.requires.encoder c.in_ok-import_used.ensures.leaves c.requires.named

pub returns-in_err-import_used-clause-encoder : goal.returns-in_err-import_used-clause-encoder
returns-in_err-import_used-clause-encoder c = left _ _ _ c.requires.encoder c.in_err-import_used.ensures.leaves

pub returns-clause-encoder : goal.returns-clause-encoder
returns-clause-encoder c = left _ _ _ (left _ _ _ c.requires.encoder c.in_ok-import_used.ensures.leaves) c.import_interface.ensures.leaves
