use Rattle.std.proofs.Common.{rules}
use Rattle.maildir_disk.proofs.Calls.Answered.{listing_answered}
use Rattle.maildir_disk.proofs.Calls.Refused.{failed_answered}
use Rattle.maildir_disk.proofs.disk_folder.DiskFolderFolder.list.Goals as goal

pub returns-clause-lists : goal.returns-clause-lists
returns-clause-lists g c = search (rules, listing_answered)

pub returns-clause-failed : goal.returns-clause-failed
returns-clause-failed g c = search (rules, failed_answered)
