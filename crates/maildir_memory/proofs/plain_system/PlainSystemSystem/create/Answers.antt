use Rattle.std.proofs.Common.{[], ◌∙◌, ap, refl, subst, sym}
use Rattle.maildir_run.proofs.Call.Touching.{touched_same}
use Rattle.maildir_run.proofs.Memory.Followed.{quiet_fault}
use Rattle.maildir_run.specs.MemFolder.{files_of}
use Rattle.maildir_memory.specs.Logs.{is_logged}
use Rattle.maildir_memory.specs.Plain.{kept_in}
use Rattle.maildir_memory.proofs.Plain.{called_leaves, left_by, not_made, only_memory, same_script}
use Rattle.maildir_memory.proofs.plain_system.PlainSystemSystem.create.Goals as goal

pub returns-in_err-from_str-clause-makes : goal.returns-in_err-from_str-clause-makes
returns-in_err-from_str-clause-makes c =
    let old = c.args.self.now in not_made old old.folder old.durable old.log refl refl (λ h. refl) _ c.from_residual.ensures.0 touched_same

pub returns-in_err-touch-clause-makes : goal.returns-in_err-touch-clause-makes
returns-in_err-touch-clause-makes c =
    let old = c.args.self.now in
    not_made old old.folder old.durable c.touch.new.log refl refl (λ h. refl) _ c.from_residual-in_err-touch.ensures.0 c.touch.ensures.only

pub returns-in_err-keep-clause-makes : goal.returns-in_err-keep-clause-makes
returns-in_err-keep-clause-makes c =
    let old = c.args.self.now in
    not_made old old.folder c.keep.new.durable c.touch.new.log (ap (λ d. kept_in d (files_of old.folder)) c.in_err-keep.ensures.refused) refl (λ h. refl) _
    c.from_residual-in_err-keep.ensures.0 c.touch.ensures.only

pub returns-in-Ok-clause-makes : goal.returns-in-Ok-clause-makes
returns-in-Ok-clause-makes c =
    let lines = c.write.ensures.scripted.script.lines in
    let did = c.in-Ok.ensures.writes in
    record {
      honest = λ spared h. lines ∙ h;
      created = λ spared h. record { before = []; rest = []; left = (did.quietly h).1 };
      left = λ spared h. left_by c.args.self.now c.write.new.self c.keep.new.durable c.touch.new.log
          (c.in_ok-keep.ensures.kept (files_of c.write.new.self)) (called_leaves c.write.result (c.write.ensures.writes.called spared tt));
      still_rooted = λ spared h rooted. rooted;
      logs = λ spared h file on. subst (is_logged c.touch.new.log) (sym on) c.in_ok-touch.ensures.logged;
      touches = c.touch.ensures.only;
      quiet = λ q. lines ∙ q;
      quietly = λ q. (tt, (did.quietly q).1);
    }

pub returns-in-Err-clause-makes : goal.returns-in-Err-clause-makes
returns-in-Err-clause-makes c =
    not_made c.args.self.now c.write.new.self c.keep.new.durable c.touch.new.log (c.in_ok-keep.ensures.kept (files_of c.write.new.self))
    c.write.ensures.scripted.script.lines
    (λ h. quiet_fault _ _ _ _ h c.in-Err.ensures.scripted) _ refl c.touch.ensures.only

pub returns-in_err-from_str-clause-keeps : goal.returns-in_err-from_str-clause-keeps
returns-in_err-from_str-clause-keeps c = record { kept = refl; script = same_script; rest = refl }

pub returns-in_err-touch-clause-keeps : goal.returns-in_err-touch-clause-keeps
returns-in_err-touch-clause-keeps c = record { kept = refl; script = same_script; rest = refl }

pub returns-in_err-keep-clause-keeps : goal.returns-in_err-keep-clause-keeps
returns-in_err-keep-clause-keeps c = record {
  kept = ap (λ d. kept_in d (files_of c.args.self.now.folder)) c.in_err-keep.ensures.refused;
  script = same_script;
  rest = refl;
}

pub returns-in-Ok-clause-keeps : goal.returns-in-Ok-clause-keeps
returns-in-Ok-clause-keeps c = record {
  kept = c.in_ok-keep.ensures.kept (files_of c.write.new.self);
  script = c.write.ensures.scripted.script;
  rest = refl;
}

pub returns-in-Err-clause-keeps : goal.returns-in-Err-clause-keeps
returns-in-Err-clause-keeps c = record {
  kept = c.in_ok-keep.ensures.kept (files_of c.write.new.self);
  script = c.write.ensures.scripted.script;
  rest = refl;
}

pub returns-in-Err-clause-causes : goal.returns-in-Err-clause-causes
returns-in-Err-clause-causes c = λ none. c.error_of.ensures.memory.1 (only_memory _ _ _ _ c.in-Err.ensures.scripted none tt)
