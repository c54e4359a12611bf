-- Definitions for private functions and proofs. No public contract uses them, and no reader need believe them.

-- What one attempt at a listing returns.
pub mod OneMoment
-- What the system calls of one call of the folder do, and that the folder counts them as one.
pub mod Effects
-- What a write leaves that appends in several steps.
pub mod Writing
