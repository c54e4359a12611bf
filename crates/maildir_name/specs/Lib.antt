-- The names of files in a Maildir: the base of a name, and which names are this converter's.
pub mod Names
-- The flags of a message: what the header fields Status and X-Status of its body say.
pub mod Flags
-- Where the messages of a text are delivered: their bases, places and names.
pub mod Targets
-- What a namer keeps of the bodies that it has named.
pub mod Named
