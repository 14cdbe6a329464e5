-- Where no type has a name, each can be encoded by an encoder of interfaces that hasn't been used. Serves encoder::asked_thrice.
pub mod Unnamed
