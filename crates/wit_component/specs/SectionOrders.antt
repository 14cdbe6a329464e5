-- Whether the order matters in which sections are bound.
pub use Rattle.bind_sections.specs.Orders.{AreBindingsOf, BindsWhereNoTwoClash, ClashesWithNone, EachUnitesOrClashes, IsDataPutInto, IsReorderedData, ModulesInEachOrder, NoTwoClash, SectionsFold, SectionsInEachOrder}
