-- What calls leave that were planned and made in order, up to the first that was refused.

-- What is said of an answer by its fault.
pub mod Faults
-- The count of a run's calls, as one more is made.
pub mod CallCounts
-- Tasks after one another.
pub mod Tasks
-- How far a run has come, and what that says at its exits.
pub mod Progress
-- What tasks that were performed leave.
pub mod TaskEffects
-- What a run's calls leave in a quiet folder.
pub mod QuietRuns
-- Where the messages are delivered, a quiet run has nothing to do.
pub mod AloneLemmas
-- The plan of a list of targets, from those of each target alone.
pub mod PlanLemmas
-- What a run places is the first file of its base in what a power cut leaves.
pub mod Firsts
