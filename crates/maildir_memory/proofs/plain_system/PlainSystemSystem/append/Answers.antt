use Rattle.std.proofs.Common.{◌≡◌, [], ◌∙◌, None, ap, arith, refl}
use Rattle.std.specs.FinMap.{get}
use Rattle.maildir_run.proofs.Call.Touching.{touched_same}
use Rattle.maildir_run.proofs.Memory.Followed.{quiet_fault}
use Rattle.maildir_run.specs.MemFolder.{files_of}
use Rattle.maildir_disk.proofs.Left.Lefts.{leaves_torn}
use Rattle.maildir_memory.specs.Plain.{kept_in, opened_as}
use Rattle.maildir_memory.proofs.Plain.{called_leaves, left_by, not_appended, only_memory, same_script, taken_by_none}
use Rattle.maildir_memory.proofs.plain_system.PlainSystemSystem.append.Goals as goal

pub returns-in_default-clause-appends : goal.returns-in_default-clause-appends
returns-in_default-clause-appends c =
    let gone : get (files_of c.args.self.now.folder).tmp (opened_as c.args.file.now) ≡ None = grind arith in
    taken_by_none c.args.self.now _ gone

pub returns-in_err-holds-clause-appends : goal.returns-in_err-holds-clause-appends
returns-in_err-holds-clause-appends c =
    let old = c.args.self.now in not_appended old old.folder old.durable old.log refl refl (λ h. refl) _ c.from_residual.ensures.0 refl

pub returns-in_err-keep-clause-appends : goal.returns-in_err-keep-clause-appends
returns-in_err-keep-clause-appends c =
    let old = c.args.self.now in
    not_appended old old.folder c.keep.new.durable old.log (ap (λ d. kept_in d (files_of old.folder)) c.in_err-keep.ensures.refused) refl (λ h. refl) _
    c.from_residual-in_err-keep.ensures.0 refl

pub returns-in-Ok-clause-appends : goal.returns-in-Ok-clause-appends
returns-in-Ok-clause-appends c =
    let old = c.args.self.now in
    let lines = c.write.ensures.scripted.script.lines in
    record {
      honest = λ spared h. lines ∙ h;
      appended = λ spared h current. record { before = []; rest = []; left = grind arith };
      left = λ spared h. rw c.as_str-2.ensures.value at
          (left_by old c.write.new.self c.keep.new.durable old.log (c.in_ok-keep.ensures.kept (files_of c.write.new.self))
          (leaves_torn {bytes = []} (called_leaves c.write.result (c.write.ensures.writes.called spared tt))));
      still_rooted = λ spared h rooted. rooted;
      touches = touched_same;
      quiet = λ q. lines ∙ q;
      quietly = grind arith;
    }

pub returns-clause-appends : goal.returns-clause-appends
returns-clause-appends c =
    let old = c.args.self.now in
    not_appended old c.write.new.self c.keep.new.durable old.log (c.in_ok-keep.ensures.kept (files_of c.write.new.self))
    c.write.ensures.scripted.script.lines (λ h. quiet_fault _ _ _ _ h c.in-Err.ensures.scripted) _ refl refl

pub returns-in_default-clause-keeps : goal.returns-in_default-clause-keeps
returns-in_default-clause-keeps c = record { kept = refl; script = same_script; rest = refl }

pub returns-in_err-holds-clause-keeps : goal.returns-in_err-holds-clause-keeps
returns-in_err-holds-clause-keeps c = record { kept = refl; script = same_script; rest = refl }

pub returns-in_err-keep-clause-keeps : goal.returns-in_err-keep-clause-keeps
returns-in_err-keep-clause-keeps c = record {
  kept = ap (λ d. kept_in d (files_of c.args.self.now.folder)) c.in_err-keep.ensures.refused;
  script = same_script;
  rest = refl;
}

pub returns-in-Ok-clause-keeps : goal.returns-in-Ok-clause-keeps
returns-in-Ok-clause-keeps c = record {
  kept = c.in_ok-keep.ensures.kept (files_of c.write.new.self);
  script = c.write.ensures.scripted.script;
  rest = refl;
}

pub returns-clause-keeps : goal.returns-clause-keeps
returns-clause-keeps c = record {
  kept = c.in_ok-keep.ensures.kept (files_of c.write.new.self);
  script = c.write.ensures.scripted.script;
  rest = refl;
}

pub returns-clause-causes : goal.returns-clause-causes
returns-clause-causes c = λ none. (c.error_of.ensures.memory.1 (only_memory _ _ _ _ c.in-Err.ensures.scripted none tt), grind arith)
