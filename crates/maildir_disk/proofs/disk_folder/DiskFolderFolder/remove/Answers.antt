use Rattle.std.proofs.Common.{rules}
use Rattle.maildir_disk.proofs.Calls.Answered.{answered}
use Rattle.maildir_disk.proofs.Calls.Refused.{failed_answered}
use Rattle.maildir_disk.proofs.disk_folder.DiskFolderFolder.remove.Goals as goal

pub returns-clause-removes : goal.returns-clause-removes
returns-clause-removes g c = search (rules, answered)

pub returns-clause-failed : goal.returns-clause-failed
returns-clause-failed g c = search (rules, failed_answered)
