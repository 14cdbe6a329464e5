-- Where two `Resolve`s differ in documentation alone, what is shown of their types differs in documentation alone. Serves AlikeFiles.
pub mod AlikeTypes
-- Without documentation, the calls of a tree are those of the tree that has none. Serves AlikeFiles.
pub mod UndocumentedCalls
-- Where two `Resolve`s differ in documentation alone, so does what is shown of their packages, and the calls without documentation are the same. Serves laws::undocumented_prints_alike.
pub mod AlikeFiles
-- What an interface or a world of valid packages has can be handed in to be printed. Serves laws::interfaces_can_be_given, laws::worlds_can_be_given.
pub mod Given
-- What stands before the block of an interface of a valid `Resolve`. Serves printer::print_interface_outer.
pub mod InterfaceHeads
-- What an output holds that was blank before the calls of a file. Serves text::print_to_string.
mod PrintedTexts
