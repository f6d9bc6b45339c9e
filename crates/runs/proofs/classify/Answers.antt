-- `runs::classify` meets its contract: for each class it answers that class's test. Assumes nothing.
use Rattle.runs.proofs.Classes.{of_cut, of_cut_all}
use Rattle.runs.proofs.classify.Goals as goal

pub returns-in-Default : goal.returns-in-Default
returns-in-Default c = search of_cut

pub returns-in-CutAll : goal.returns-in-CutAll
returns-in-CutAll c = search of_cut_all
