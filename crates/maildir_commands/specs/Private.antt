-- Definitions for private functions and proofs. No public contract uses them, and no reader need believe them.

-- Why the delivery of files ended with a fault.
pub mod Causes
-- What came of delivering texts.
pub mod Report
-- What came of a request, and what it did to Maildirs.
pub mod Serving
-- What a command asks for.
pub mod Words
