-- What a power cut leaves of a call and of a run's tasks.

-- What a power cut leaves, from one moment of a call to the next.
pub mod Lefts
-- What a power cut leaves of the files of one base, from one move to the next.
pub mod LeftHomes
-- What a power cut leaves of the tasks of a run.
pub mod LeftTasks
-- What a power cut leaves of a message if it leaves no file under two names.
pub mod SingleHomes
