use Rattle.std.proofs.Common.{◌≡◌, [], ap, arith, inl, inr, refl}
use Rattle.std.specs.FinMap.{get}
use Rattle.maildir_run.proofs.Call.Touching.{touched_as}
use Rattle.maildir_run.specs.MemFolder.{files_of}
use Rattle.maildir_run.specs.declared.folder.FolderFault.TheVariants as fault
use Rattle.maildir_memory.specs.Plain.{kept_in}
use Rattle.maildir_memory.proofs.Plain.{both_logged, both_touched, memory_or_absent, not_taken, not_there, same_script, taken}
use Rattle.maildir_memory.proofs.plain_system.PlainSystemSystem.rename.Goals as goal

pub returns-in_err-touch-clause-places : goal.returns-in_err-touch-clause-places
returns-in_err-touch-clause-places c =
    not_taken c.args.self.now c.args.self.now.durable c.touch.new.log refl _ c.from_residual.ensures.0 (touched_as (λ file. inl) c.touch.ensures.only)

pub returns-in_err-touch-2-clause-places : goal.returns-in_err-touch-2-clause-places
returns-in_err-touch-2-clause-places c =
    not_taken c.args.self.now c.args.self.now.durable c.touch-2.new.log refl _ c.from_residual-in_err-touch-2.ensures.0
    (both_touched c.args.place c.args.self.now.log c.touch.new.log c.touch-2.new.log c.of_place.ensures c.touch-2.ensures.only c.touch.ensures.only)

pub returns-in_err-keep-clause-places : goal.returns-in_err-keep-clause-places
returns-in_err-keep-clause-places c =
    not_taken c.args.self.now c.keep.new.durable c.touch-2.new.log c.in_err-keep.ensures.refused _ c.from_residual-in_err-keep.ensures.0
    (both_touched c.args.place c.args.self.now.log c.touch.new.log c.touch-2.new.log c.of_place.ensures c.touch-2.ensures.only c.touch.ensures.only)

pub returns-in-Ok-clause-places : goal.returns-in-Ok-clause-places
returns-in-Ok-clause-places c =
    let did = c.in-Ok.ensures.places in
    taken c.args.self.now c.place.new.self c.keep.new.durable c.touch-2.new.log (c.in_ok-keep.ensures.kept (files_of c.place.new.self)) _
    (both_touched c.args.place c.args.self.now.log c.touch.new.log c.touch-2.new.log c.of_place.ensures c.touch-2.ensures.only c.touch.ensures.only)
    (both_logged c.args.place c.args.self.now.log c.touch.new.log c.touch-2.new.log c.of_place.ensures c.touch-2.ensures.only c.in_ok-touch.ensures.logged
    c.in_ok-touch-2.ensures.logged) c.place.ensures.scripted.script.lines (λ spared. did.called spared tt) did.quietly

pub returns-in-Err-clause-places : goal.returns-in-Err-clause-places
returns-in-Err-clause-places c =
    let did = c.in-Err.ensures.places in
    taken c.args.self.now c.place.new.self c.keep.new.durable c.touch-2.new.log (c.in_ok-keep.ensures.kept (files_of c.place.new.self)) _
    (both_touched c.args.place c.args.self.now.log c.touch.new.log c.touch-2.new.log c.of_place.ensures c.touch-2.ensures.only c.touch.ensures.only)
    (both_logged c.args.place c.args.self.now.log c.touch.new.log c.touch-2.new.log c.of_place.ensures c.touch-2.ensures.only c.in_ok-touch.ensures.logged
    c.in_ok-touch-2.ensures.logged) c.place.ensures.scripted.script.lines (λ spared. did.called spared tt) did.quietly

pub returns-in-Err-clause-gone : goal.returns-in-Err-clause-gone
returns-in-Err-clause-gone c = λ spared quiet is.
    let absent : c.in-Err.fault ≡ fault.Absent = c.error_of.ensures.absent.0 is in
    record { before = []; rest = []; gone = grind arith; left = grind arith }

pub returns-in_err-touch-clause-keeps : goal.returns-in_err-touch-clause-keeps
returns-in_err-touch-clause-keeps c = record { kept = refl; script = same_script; rest = refl }

pub returns-in_err-touch-2-clause-keeps : goal.returns-in_err-touch-2-clause-keeps
returns-in_err-touch-2-clause-keeps c = record { kept = refl; script = same_script; rest = refl }

pub returns-in_err-keep-clause-keeps : goal.returns-in_err-keep-clause-keeps
returns-in_err-keep-clause-keeps c = record {
  kept = ap (λ d. kept_in d (files_of c.args.self.now.folder)) c.in_err-keep.ensures.refused;
  script = same_script;
  rest = refl;
}

pub returns-in-Ok-clause-keeps : goal.returns-in-Ok-clause-keeps
returns-in-Ok-clause-keeps c = record {
  kept = c.in_ok-keep.ensures.kept (files_of c.place.new.self);
  script = c.place.ensures.scripted.script;
  rest = refl;
}

pub returns-in-Err-clause-keeps : goal.returns-in-Err-clause-keeps
returns-in-Err-clause-keeps c = record {
  kept = c.in_ok-keep.ensures.kept (files_of c.place.new.self);
  script = c.place.ensures.scripted.script;
  rest = refl;
}

pub returns-in-Err-clause-causes : goal.returns-in-Err-clause-causes
returns-in-Err-clause-causes c = λ none. elim (memory_or_absent _ _ _ _ c.in-Err.ensures.scripted none) [
  | inl memory ↦ inl (c.error_of.ensures.memory.1 memory)
  | inr absent ↦ inr (c.error_of.ensures.absent.1 absent.0, not_there (get (files_of c.args.self.now.folder).tmp c.args.name.now) absent.1)
]
