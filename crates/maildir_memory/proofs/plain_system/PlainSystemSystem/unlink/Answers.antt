use Rattle.std.proofs.Common.{ap, refl, subst, sym}
use Rattle.maildir_run.specs.MemFolder.{files_of}
use Rattle.maildir_memory.specs.Logs.{is_logged}
use Rattle.maildir_memory.specs.Plain.{kept_in}
use Rattle.maildir_memory.proofs.Plain.{not_taken, only_memory, same_script, taken}
use Rattle.maildir_memory.proofs.plain_system.PlainSystemSystem.unlink.Goals as goal

pub returns-in_err-touch-clause-removes : goal.returns-in_err-touch-clause-removes
returns-in_err-touch-clause-removes c = not_taken c.args.self.now c.args.self.now.durable c.touch.new.log refl _ c.from_residual.ensures.0 c.touch.ensures.only

pub returns-in_err-touch-clause-keeps : goal.returns-in_err-touch-clause-keeps
returns-in_err-touch-clause-keeps c = record { kept = refl; script = same_script; rest = refl }

pub returns-in_err-keep-clause-removes : goal.returns-in_err-keep-clause-removes
returns-in_err-keep-clause-removes c =
    not_taken c.args.self.now c.keep.new.durable c.touch.new.log c.in_err-keep.ensures.refused _ c.from_residual-in_err-keep.ensures.0 c.touch.ensures.only

pub returns-in_err-keep-clause-keeps : goal.returns-in_err-keep-clause-keeps
returns-in_err-keep-clause-keeps c = record {
  kept = ap (λ d. kept_in d (files_of c.args.self.now.folder)) c.in_err-keep.ensures.refused;
  script = same_script;
  rest = refl;
}

pub returns-in-Ok-clause-removes : goal.returns-in-Ok-clause-removes
returns-in-Ok-clause-removes c =
    let did = c.in-Ok.ensures.removes in
    taken c.args.self.now c.remove.new.self c.keep.new.durable c.touch.new.log (c.in_ok-keep.ensures.kept (files_of c.remove.new.self)) _
    c.touch.ensures.only (λ file on. subst (is_logged c.touch.new.log) (sym on) c.in_ok-touch.ensures.logged)
    c.remove.ensures.scripted.script.lines (λ spared. did.called spared tt) did.quietly

pub returns-in-Ok-clause-keeps : goal.returns-in-Ok-clause-keeps
returns-in-Ok-clause-keeps c = record {
  kept = c.in_ok-keep.ensures.kept (files_of c.remove.new.self);
  script = c.remove.ensures.scripted.script;
  rest = refl;
}

pub returns-in-Err-clause-removes : goal.returns-in-Err-clause-removes
returns-in-Err-clause-removes c =
    let did = c.in-Err.ensures.removes in
    taken c.args.self.now c.remove.new.self c.keep.new.durable c.touch.new.log (c.in_ok-keep.ensures.kept (files_of c.remove.new.self)) _
    c.touch.ensures.only (λ file on. subst (is_logged c.touch.new.log) (sym on) c.in_ok-touch.ensures.logged)
    c.remove.ensures.scripted.script.lines (λ spared. did.called spared tt) did.quietly

pub returns-in-Err-clause-keeps : goal.returns-in-Err-clause-keeps
returns-in-Err-clause-keeps c = record {
  kept = c.in_ok-keep.ensures.kept (files_of c.remove.new.self);
  script = c.remove.ensures.scripted.script;
  rest = refl;
}

pub returns-in-Err-clause-causes : goal.returns-in-Err-clause-causes
returns-in-Err-clause-causes c = λ none. c.error_of.ensures.memory.1 (only_memory _ _ _ _ c.in-Err.ensures.scripted none tt)
