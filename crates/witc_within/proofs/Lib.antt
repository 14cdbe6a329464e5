-- A text only grows: after a beginning of some calls it is no longer than after all of them. Serves WithinLaws.
mod GrowthLaws
-- What has been printed when printing ended, against the bound. Serves texts::module_text_within, texts::package_text_within, texts::text_within, texts::world_text_within.
mod WithinLaws
