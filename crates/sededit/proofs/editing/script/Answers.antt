use Rattle.sededit.proofs.editing.script.Goals as goal

pub returns-clause-means : goal.returns-clause-means
returns-clause-means c = c.read.ensures.means

pub returns-clause-no_fault : goal.returns-clause-no_fault
returns-clause-no_fault c = c.read.ensures.no_fault

pub returns-clause-fault : goal.returns-clause-fault
returns-clause-fault c = c.read.ensures.fault

pub returns-clause-within : goal.returns-clause-within
returns-clause-within c = c.read.ensures.within
