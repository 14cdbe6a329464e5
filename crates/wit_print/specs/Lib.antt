pub mod Documentation
pub mod Files
pub mod Given
pub mod Printer
-- ---- definitions of the crates below that clauses of callers cite

pub use Rattle.print_items.specs.Shown
pub use Rattle.print_uses.specs.UseGroups
pub use Rattle.print_packages.specs.GivenTypes
pub use Rattle.print_packages.specs.Heads
