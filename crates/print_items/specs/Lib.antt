pub mod Drives
pub mod Shown
pub mod TypeParts
pub mod ItemCalls
pub mod DeclaredCalls
