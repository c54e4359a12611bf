use Rattle.std.proofs.Common.{get_or}
use Rattle.maildir_disk.proofs.Left.SingleHomes.{each_home, single_sound, whole_home}
use Rattle.maildir_disk.proofs.cuts.one_name_each.Goals as goal
use Rattle.maildir_disk.proofs.Common.{spared_named}

pub returns-clause-sound : goal.returns-clause-sound
returns-clause-sound c = λ spared ms s left named sound intact single k d below sp.
    single_sound spared (get_or ms k d) (spared_named spared _ sp (named k d below)) s left (sound k d below sp) (intact k d below sp) single

pub returns-clause-home : goal.returns-clause-home
returns-clause-home c = λ spared ms s left named home has single k d below sp.
    each_home spared (get_or ms k d) (spared_named spared _ sp (named k d below)) s left (home k d below sp) (has k d below sp) single

pub returns-clause-whole : goal.returns-clause-whole
returns-clause-whole c = λ spared ms left whole intact has k d below sp.
    whole_home spared (get_or ms k d) left whole (intact k d below sp) (has k d below sp)
