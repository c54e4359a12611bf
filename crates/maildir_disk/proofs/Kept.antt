-- What a run, a sync and other programs leave of messages, also after a power cut.

-- What a power cut leaves after a sync of `new`, and then of `cur`.
pub mod Syncs
-- A run, and then a sync: what a power cut leaves of the run's messages.
pub mod Safety
-- What a run over one text, and what other programs do, leave of a message of any text.
pub mod Sound
-- A run, and then a sync: what they leave of the messages of other texts.
pub mod Others
