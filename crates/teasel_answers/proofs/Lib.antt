-- What comes of a difference of two texts. Serves differences.
mod DifferLaws
-- What is told of texts that are lent. Serves compared::all_compared.
mod LentLaws
-- The last of a list of texts. Serves embedded::chosen_world.
mod Lists
-- Bytes that mean nothing, and lists that would get too long. Serves checks::component_words, embedded::only_world, forms::means_no_package, kinds::kind_of.
mod Nothing
