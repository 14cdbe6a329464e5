pub mod ExportedParts
pub mod ExportLaws
