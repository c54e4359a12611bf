-- What it means that a placement finds no file.
use Rattle.std.specs.Prelude.{◌≡◌, ℕ, List, None}
use Rattle.std.specs.FinMap.{get}
use Rattle.maildir_run.specs.Calls.{Call, Move, after}
use Rattle.maildir_run.specs.Files.{Files, Spared}

-- At some moment of the call, `tmp` had no file of this name.
pub record WasGone (spared : Spared) (name : List ℕ) (call : Call) (old new : Files) : Type 0 where
  pub before : List Move
  pub rest : List Move
  pub gone : get (after spared old call before).tmp name ≡ None
  pub left : new ≡ after spared (after spared old call before) call rest
