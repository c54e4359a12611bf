-- Several calls in sequence in which only other programs acted.
use Rattle.std.proofs.Common.{◌∙◌, refl}
use Rattle.maildir_run.proofs.Call.Touching.{touched_same, touched_then}
use Rattle.maildir_disk.specs.SeenSystem.{Looks, SeenSystem}
use Rattle.maildir_disk.proofs.Calls.Passing.{acts_none, acts_on}
use Rattle.maildir_disk.proofs.Left.Lefts.{left_by_no_others, left_by_others_then}

pub looks_none : {a : SeenSystem} → Looks a a
looks_none = record {
  honest = λ spared h. h;
  acts = λ spared h. acts_none;
  left = λ spared h. left_by_no_others;
  still_rooted = λ spared h r. r;
  touches = touched_same;
  quiet = λ q. q;
  quietly = λ q. refl;
}

pub looks_then : {a b c : SeenSystem} → Looks a b → Looks b c → Looks a c
looks_then first then = record {
  honest = λ spared h. then.honest spared (first.honest spared h);
  acts = λ spared h. acts_on (first.acts spared h) (then.acts spared (first.honest spared h));
  left = λ spared h. left_by_others_then (first.left spared h) (then.left spared (first.honest spared h));
  still_rooted = λ spared h r. then.still_rooted spared (first.honest spared h) (first.still_rooted spared h r);
  touches = touched_then first.touches then.touches;
  quiet = λ q. then.quiet (first.quiet q);
  quietly = λ q. then.quietly (first.quiet q) ∙ first.quietly q;
}
