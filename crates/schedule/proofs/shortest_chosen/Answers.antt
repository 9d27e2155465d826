use Rattle.schedule.proofs.Computed.{shortest_chosen_lem}
use Rattle.schedule.proofs.shortest_chosen.Goals as goal

pub returns : goal.returns
returns c = shortest_chosen_lem
