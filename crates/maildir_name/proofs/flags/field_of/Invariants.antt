use Rattle.std.proofs.Common.{◌≡◌, length}
use Rattle.maildir_name.specs.Flags.{field, header}
use Rattle.maildir_name.proofs.flags.field_of.Given as goal

abbrev pub invariant-loop-rest : goal.invariant-loop-rest
invariant-loop-rest l = field l.name (header l.rest) ≡ field l.name (header l.body)

abbrev pub decreases-loop-rest : goal.decreases-loop-rest
decreases-loop-rest l = length l.rest
