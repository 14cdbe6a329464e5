pub mod Keyword
pub mod Tree
pub mod AsRead
pub mod Calls
pub mod Token
pub mod Grammar
pub mod Reading
pub mod WellNamed
