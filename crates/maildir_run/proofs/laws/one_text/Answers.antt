use Rattle.maildir_run.proofs.Chains.OneText.{one_sound, sound_one, one_runs, runs_one}
use Rattle.maildir_run.proofs.laws.one_text.Goals as goal

pub returns-clause-sound : goal.returns-clause-sound
returns-clause-sound c = λ spared text old new is. (one_sound is, sound_one)

pub returns-clause-runs : goal.returns-clause-runs
returns-clause-runs c = one_runs

pub returns-clause-runs_over : goal.returns-clause-runs_over
returns-clause-runs_over c = runs_one
