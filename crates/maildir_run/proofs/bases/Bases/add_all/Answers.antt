use Rattle.std.proofs.Common.{◌≡◌, string_bytes, get_or}
use Rattle.maildir_run.proofs.Common.{insert, base}
use Rattle.maildir_run.proofs.Names.Sets.{with_bases-more}
use Rattle.maildir_run.proofs.bases.Bases.add_all.Goals as goal

pub loop-name-preserved : goal.loop-name-preserved
loop-name-preserved c =
    let added : c.add.new.self ≡ insert c.loop-name.self (base (string_bytes (get_or c.args.names.now c.loop-name.name-index c.name-item.result))) (tt {0}) =
    cc (c.in_ok-add.ensures) in
    with_bases-more _ _ _
    c.loop-name-test.true c.loop-name.invariant added
