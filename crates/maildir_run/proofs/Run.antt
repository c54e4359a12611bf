-- A run: what it was given and did, and that it owes what follows.

-- One more entry of a batch.
pub mod Batches
-- Messages that are delivered one after the other.
pub mod Delivering
-- A run at its exits, from its parts.
pub mod Conversions
-- What a run owes where it ends, from the tasks that it performed.
pub mod Owed
