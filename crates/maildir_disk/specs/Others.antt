-- What a run over one text, and a sync, leave of the messages of other texts.
use Rattle.std.specs.Prelude.{List}
use Rattle.maildir_run.specs.Delivery.{Message, IsHome, IsSoundAt, AllSpared}
use Rattle.maildir_run.specs.Files.{Files, Spared}
use Rattle.maildir_disk.specs.PowerCuts.{AreIntact, Survive}

-- The messages that are spared stay what they were: sound, intact after a power cut, at home, and surviving a power cut.
pub record Stays (spared : Spared) (others : List Message) (old : Files) (before : Files → Type 0) (new : Files) (now : Files → Type 0) : Type 0 where
  pub sound : AllSpared spared (IsSoundAt old) others → AllSpared spared (IsSoundAt new) others
  pub intact : AreIntact spared others before → AreIntact spared others now
  pub home : AllSpared spared (IsHome old) others → AllSpared spared (IsHome new) others
  pub survive : Survive spared others before → Survive spared others now
