-- What stands behind blanks. Serves looks::leading_space.
pub mod Blanks
-- What follows from why something is refused. Serves crates above.
pub mod ReasonLaws
