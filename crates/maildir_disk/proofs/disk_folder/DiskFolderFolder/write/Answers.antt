use Rattle.std.proofs.Common.{rules}
use Rattle.maildir_disk.proofs.Calls.Answered.{answered}
use Rattle.maildir_disk.proofs.Calls.Refused.{failed_answered}
use Rattle.maildir_disk.proofs.disk_folder.DiskFolderFolder.write.Goals as goal

pub returns-clause-writes : goal.returns-clause-writes
returns-clause-writes g c = search (rules, answered)

pub returns-clause-failed : goal.returns-clause-failed
returns-clause-failed g c = search (rules, failed_answered)
