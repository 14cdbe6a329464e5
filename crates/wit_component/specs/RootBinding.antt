-- The binding that every module begins with: the empty world `root` of the package `root:root` (documentation of wit-component's `Bindgen`).
pub use Rattle.bind_meaning.specs.Roots.{root_binding, root_meaning, root_path}
