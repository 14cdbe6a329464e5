pub mod Buildable
pub mod MeansPlan
pub mod PlanOf
