-- What is shown of a type first is a showing of it. Serves laws::firsts_are_found; crates above.
pub mod FirstFound
-- The forms in a part of the tables, and the trees that they stand for. Serves FormsObeyed, PartKinds, ShownMarks, ShownRules; crates above.
pub mod InnerForms
-- Walks along what is shown: what holds of each item of a list, by the list that it stands for. Serves FormsObeyed, PartKinds, PartPlaces, ShownMarks and 1 more; crates above.
pub mod Walks
-- Forms of what was followed are as definitions have them. Serves laws::forms_are_obeyed; crates above.
pub mod FormsObeyed
-- What a type of a plan declares: its kind tells that. Serves ShownRules; crates above.
pub mod KeptKinds
-- The places of what is shown, in trees and in numbers. Serves PartKinds, ShownMarks, ShownRules; crates above.
pub mod PartPlaces
-- What holds of each unnamed type that is used: what holds of those that are shown, and of the parts of each of which it holds. Serves PlanTypes, ShownMarks, ShownRules, UsedParts; crates above.
pub mod UsedWalk
-- What is shown of what was read obeys the rules. Serves laws::names_obey, laws::shown_obeys; crates above.
pub mod ShownRules
-- The marks of what is shown are those of the types of a plan. Serves laws::marks_are_kept; crates above.
pub mod KeptMarks
-- Parts that are well-formed each alone are so together. Serves laws::members_stand_together; crates above.
pub mod MembersStand
-- The kinds of the names that are shown, in numbers. Serves ShownMarks.
pub mod PartKinds
-- Types that are used, where what is shown obeys the rules. Serves laws::used_parts_are_fine; crates above.
pub mod UsedParts
-- The types of a plan that were made of those that are used. Serves laws::planned_types_are_kept; crates above.
pub mod PlanTypes
-- There are marks that tell which of the names that are shown are resources. Serves laws::names_are_marked; crates above.
pub mod ShownMarks
-- The types of a plan of what was read, whole. Serves laws::planned_types_are_read.
pub mod ReadTypes
