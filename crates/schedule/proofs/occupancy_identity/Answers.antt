use Rattle.schedule.proofs.Occupancy.{occupancy_identity_lem}
use Rattle.schedule.proofs.occupancy_identity.Goals as goal

pub returns : goal.returns
returns c = occupancy_identity_lem
