use Rattle.maildir_run.proofs.Chains.SeveralTexts.{chain_sound, chain_counted, chain_whole}
use Rattle.maildir_run.proofs.laws.several_texts.Goals as goal

pub returns-clause-sound : goal.returns-clause-sound
returns-clause-sound c = λ spared texts links old new fresh runs. chain_sound spared texts fresh.are fresh.own links old new fresh.unknown runs

pub returns-clause-counted : goal.returns-clause-counted
returns-clause-counted c = λ spared texts links old new fresh runs. chain_counted spared texts fresh.are fresh.own links old new fresh.unknown runs

pub returns-clause-whole : goal.returns-clause-whole
returns-clause-whole c = λ spared texts links old new text report fresh runs ran.
    chain_whole spared texts fresh.are fresh.own links old new text report fresh.unknown runs ran
