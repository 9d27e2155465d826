-- The worked examples, by computing.
use Rattle.std.proofs.Common.{refl}
use Rattle.schedule.proofs.examples.Goals as goal

pub returns : goal.returns
returns c = record {
  two_twos_order = refl;
  two_twos_total = refl;
  five_two = refl;
  five_two_total = refl;
  five_two_fcfs = refl;
  five_three = refl;
  one_lost_order = refl;
  one_lost_total = refl;
  three_end = refl;
  three_done = refl;
  three_srpt = refl;
  three_fcfs = refl;
  three_srpt_sojourns = refl;
  three_fcfs_sojourns = refl;
  lost_worked = refl;
  lost_srpt = refl;
  ahead_worked = refl;
  ahead_srpt = refl;
}
