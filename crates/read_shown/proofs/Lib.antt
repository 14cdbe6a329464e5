-- Lists by the numbers of their items, and what is found in each. Serves Agreement, ByLevels, Definitions, FoundKinds and 8 more; crates above.
pub mod Lists
-- Views of one path declare the same under the same names, none of which stands twice. Serves FoundKinds, MemberKinds, OneKind; crates above.
pub mod Agreement
-- Definitions over indexes that are well-formed are well-formed trees. Serves Scopes, Views.
pub mod Definitions
-- What is well-formed stays so where more names are met. Serves FoundKinds, ScopeWider, Scopes, Views and 1 more.
pub mod Wider
-- Views of instance types are well-formed. Serves laws::instance_scopes_stand; crates above.
pub mod Views
-- What is well-formed in a scope stays so where more instances and more imports are seen. Serves Scopes; crates above.
pub mod ScopeWider
-- What component types show is well-formed. Serves laws::scopes_stand.
pub mod Scopes
-- The instances of a scope are its imports and its exports that are instances. Serves laws::instances_are_seen.
pub mod Instances
-- Each interface that a well-formed view uses was seen before it. Serves laws::uses_stand_before; crates above.
pub mod Uses
-- Parts at the top are well-formed, and the component type of an interface has its export behind its imports. Serves laws::members_stand; crates above.
pub mod Parts
-- What is read by levels is well-formed, since it is what is read of the raw forms. Serves laws::levels_stand; crates above.
pub mod ByLevels
-- A name of an interface is a resource in every view that shows it, or in none. Serves FoundKinds, MemberKinds.
pub mod OneKind
-- The kind of each name of an interface, found in the first view that shows it, and of each name of a view's own place. Serves MemberKinds.
pub mod FoundKinds
-- The kind of each name that a world declares: its imports have keys that differ. Serves MemberKinds.
pub mod WorldKinds
-- Each name has one kind in all parts of a package. Serves laws::names_have_kinds.
pub mod MemberKinds
-- The names of a package, or of one world, that has a meaning have one kind. Serves laws::names_have_kinds; crates above.
pub mod MeaningKinds
