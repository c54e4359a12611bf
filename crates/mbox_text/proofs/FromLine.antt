-- From_ lines: their parts, and that each message has one.

-- From_ lines, taken apart and built.
pub mod BuiltLines
-- The messages of a text have their From_ lines.
pub mod FromLines
