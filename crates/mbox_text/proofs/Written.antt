-- What is written of a message, and that it is read again.

-- What a writer took, piece after piece.
pub mod Appended
-- The first quotable line of a text, and the lines before it, of which none is.
pub mod Quotable
-- What is written of a body, part by part.
pub mod WrittenBody
-- The spelling of a message, in the parts in which it is written.
pub mod WrittenEntry
-- What is written is read again.
pub mod ReadAgain
-- Texts one after the other.
pub mod Joined
