use Rattle.std.proofs.Common.{◌≡◌, map, take, string_bytes}
use Rattle.maildir_run.proofs.Common.{with_bases}
use Rattle.maildir_run.proofs.bases.Bases.add_all.Given as goal

abbrev pub invariant-loop-name : goal.invariant-loop-name
invariant-loop-name l = l.self ≡ with_bases l.fn.self (map string_bytes (take l.name-index l.names))
