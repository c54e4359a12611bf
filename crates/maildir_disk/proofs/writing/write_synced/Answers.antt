use Rattle.std.proofs.Common.{rules, arith, refl, ℕ, List, ◌≡◌, ◌++◌, ◌+◌, ◌-◌, length, take, drop, take_all, length-drop}
use Rattle.std.proofs.Math.Seq.{take-add}
use Rattle.maildir_disk.proofs.Calls.Writes.{append_given_up, appended, given_up, interrupted, made, not_made, synced}
use Rattle.maildir_disk.proofs.writing.write_synced.Goals.{in-Ok, in-Err+else-ne}
use Rattle.maildir_disk.proofs.writing.write_synced.Goals as goal

-- a prefix of the bytes, and then a prefix of the rest
taken : (bytes : List ℕ) (at n : ℕ) → take at bytes ++ take n (take (length bytes - at) (drop at bytes)) ≡ take (at + n) bytes
taken bytes at n = grind (arith, take_all, length-drop, take-add)

pub loop-init : goal.loop-init
loop-init g c =
    let created = c.in_ok-file.ensures in
    record {
      within = search rules;
      so_far = made created.makes created.name created.current (g.met.S.System.quiet_is_honest c.args.system.now);
    }

pub loop-preserved : goal.loop-preserved
loop-preserved g c = elim c.match-append.branch [
  | in-Ok w ↦ record {
    within = search rules;
    so_far =
        rw (w.at-is, ← taken c.args.bytes.now c.loop.at w.in-Ok.n)
        (appended c.loop.invariant.so_far w.in-Ok.ensures.appends c.append.ensures.name c.append.ensures.current);
  }
  | in-Err+else-ne w ↦ record {
    within = search rules;
    so_far =
        rw w.at-is
        (interrupted c.loop.invariant.so_far w.in-Err.ensures.appends (search rules) c.append.ensures.name c.append.ensures.current);
  }
]

pub returns-in_err-file : goal.returns-in_err-file
returns-in_err-file g c = not_made _ c.from_residual.ensures.0 c.in_err-file.ensures.makes

pub returns-then-at-bytes : goal.returns-then-at-bytes
returns-then-at-bytes g c =
    let so_far = rw (take_all c.loop.at c.args.bytes.now (search rules)) at c.loop.invariant.so_far in
    synced _ so_far c.sync_file.ensures.looks c.sync_file.ensures.kept

pub returns-in-Ok-eq0 : goal.returns-in-Ok-eq0
returns-in-Ok-eq0 g c = search (rules, append_given_up)

pub returns-then-ne : goal.returns-then-ne
returns-then-ne g c = search (rules, append_given_up)

pub returns : goal.returns
returns g c = given_up _ refl c.loop.invariant.so_far
