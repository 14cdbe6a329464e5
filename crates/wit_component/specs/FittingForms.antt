-- Which forms of component types fit in their numbers, and the parts of a component that is built (Component Model Binary.md).
pub use Rattle.comp_bytes.specs.Fits.{fits_alias, fits_attributes, fits_declaration, fits_defined, fits_function, fits_given, fits_label, fits_labels, fits_length, fits_name, fits_names}
pub use Rattle.comp_bytes.specs.Parts.{Part, fits_component, parts_in, parts_of, plain_export, sections_of_parts, top_slots, with_part}
