-- The views that members give are over places whose names are known. Serves laws::members_are_known.
pub mod SightLaws
-- Members that are read are what the pieces of the input mean. Serves laws::members_are_meant; crates above.
pub mod MeantLaws
-- What the pieces mean, by what was read of the members. Serves laws::packages_are_decided; crates above.
pub mod DecidedLaws
-- What the pieces mean as one world, by what was read of the member. Serves laws::worlds_are_decided; crates above.
pub mod DecidedWorldLaws
-- Members that are lent of those that are read. Serves laws::lent_members_are_members; crates above.
pub mod LentLaws
-- Where one of the members that were followed is none. Serves crates above.
pub mod PackageLaws
-- Members that are read one after the other, as packages grow. Serves reading::read_members, reading::read_world, scopes::scopes_of.
pub mod ReadLaws
