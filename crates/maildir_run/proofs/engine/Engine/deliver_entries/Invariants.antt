use Rattle.std.proofs.Common.{◌≡◌, ℕ, ◌+◌, ◌≤◌, ◌^◌, List, take, length, None}
use Rattle.maildir_run.proofs.Common.{Named, DeliversMessages, bodies_of}
use Rattle.maildir_run.proofs.engine.Engine.deliver_entries.Given as goal

abbrev pub invariant-loop-entry : goal.invariant-loop-entry
invariant-loop-entry g l =
    let at = g.F.Folder.at in
    record {
      delivers : (bodies : List (List ℕ)) → Named bodies l.fn.self.namer → length bodies + length l.entries ≤ 2 ^ 63 →
          DeliversMessages bodies (bodies_of (take l.entry-index l.entries)) (at l.fn.folder) (at l.folder) l.fn.self l.self None;
      count : l.self.messages ≡ l.fn.self.messages + l.entry-index;
    }
