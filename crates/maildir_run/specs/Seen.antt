-- What contracts see of a folder, and what a call does to that.
use Rattle.std.specs.Prelude.{ℕ, IfOk, IsPermutation, Result}
use Rattle.std.specs.FinMap.{keys}
use Rattle.std.specs.declared.vec.Vec.{Vec}
use Rattle.std.specs.declared.string.String.{String}
use Rattle.std.specs.declared.alloc.Global.{Global}
use Rattle.maildir_run.specs.declared.folder.FolderFault.{FolderFault}
use Rattle.maildir_run.specs.declared.folder.Sub.{Sub}
use Rattle.maildir_run.specs.Calls.{Call, Listing, Called, Listed, CalledQuietly, GoesUp, CountsFailure, MayAnswer, folder_of, names_of}
use Rattle.maildir_run.specs.Cuts.{Follows, LeavesOf, LeavesListed}
use Rattle.maildir_run.specs.Files.{Honestly, Spared, Files}
use Rattle.maildir_run.specs.Touched.{FileName, Logs, Touches, TouchedOnly}

-- what contracts see of a folder at one moment
pub record Seen : Type 1 where
  -- it takes effect as reported, and to the files of these bases other programs do only what mail readers do
  pub honest : Spared → Type 0
  -- it takes effect as reported, no other program acts, and a call that answers Ok has its effect once
  pub quiet : Type 0
  -- the files that are there
  pub files : Files
  -- What a power cut may leave, now or later, of what has happened until now. In `new` and `cur` it is the files that are
  -- found then, and of `tmp` what each file that is there now would be found to hold, wherever it is found.
  pub may_leave : Files → Type 0
  -- a power cut leaves the Maildir and its three folders
  pub rooted : Type 0
  -- the files that its calls may have touched until now; what other programs do does not count
  pub touched : FileName → Type 0
  -- how many calls were made, in 128 bits: after the greatest number comes 0
  pub calls : ℕ
  -- how many of them answered `Absent` or `Failed`, in 128 bits
  pub failures : ℕ

-- A call was made, and answered this.
pub record CallOf {A : Type 0} (call : Call) (old : Seen) (result : Result A FolderFault) (new : Seen) : Type 0 where
  -- if the folder is honest
  pub honest : Honestly old.honest new.honest
  pub called : Honestly old.honest (λ spared. Called spared call old.files result new.files)
  pub left : Honestly old.honest (λ spared. Follows (λ before now. LeavesOf spared call before result now) old.may_leave new.may_leave)
  pub still_rooted : Honestly old.honest (λ _. old.rooted → new.rooted)
  pub logs : Honestly old.honest (λ spared. Logs spared call old.files result new.files new.touched)
  -- if the folder is quiet
  pub quiet : old.quiet → new.quiet
  pub quietly : old.quiet → CalledQuietly call old.files result new.files
  -- whatever the folder does
  pub touches : TouchedOnly (Touches call) old.touched new.touched
  pub counted : GoesUp old.calls new.calls
  pub cause : CountsFailure result old.failures new.failures
  pub answers : MayAnswer call result

-- A folder was listed. The answer has each of its names once, in any order, as of one moment of the call.
pub record ListingOf (sub : Sub) (old : Seen) (result : Result (Vec (String Global) Global) FolderFault) (new : Seen) : Type 0 where
  pub call : CallOf (Listing sub) old result new
  pub listed : Honestly old.honest (λ spared. Listed spared sub old.files result new.files)
  pub unlisted : Honestly old.honest (λ spared.
      IfOk result (λ names. Follows (LeavesListed spared sub (names_of names) old.files) old.may_leave new.may_leave))
  pub names : old.quiet → IfOk result (λ names. IsPermutation (names_of names) (keys (folder_of sub old.files)))
