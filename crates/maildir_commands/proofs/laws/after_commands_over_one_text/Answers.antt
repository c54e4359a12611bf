use Rattle.maildir_commands.proofs.AnyCommands.{promised, sound_new}
use Rattle.maildir_commands.proofs.OneText.{fit_alone, once_promised}
use Rattle.maildir_commands.proofs.laws.after_commands_over_one_text.Goals as goal
use Rattle.maildir_commands.specs.Promise.{all_whole}

pub returns : goal.returns
returns g c = λ path text episodes old new honest is fresh history.
    once_promised text _ (promised all_whole g.M.Machine.at (λ machine. g.met.M.Machine.same_maildir machine all_whole) g.met.M.Machine.same_paths path _
    (record { as_assumed = honest; fit = fit_alone text is; sound = sound_new fresh; history = history }))
