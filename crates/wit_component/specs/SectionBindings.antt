-- What the data of one section binds that carries a world (wit-component README, "Custom Section Format").
pub use Rattle.bind_sections.specs.SectionBindings.{CarriedWorldsAreBound, IsBoundBy, RefusesSection}
