-- When a discipline goes by a rule.
use Rattle.std.specs.Prelude.{◌≡◌}
use Rattle.discipline.specs.declared.Discipline.{Ghosts}
use Rattle.discipline.specs.Meaning.{Move}
use Rattle.queues.specs.Queues.{Queue, moved, choice_of}

-- A discipline follows a queue that is read off it by view: its moves move the queue, and its choice is the queue's.
pub record Follows {D : Type 0} (d : Ghosts D) (view : D → Queue) : Type 0 where
  pub moves : (m : Move) (x y : D) → d.moves m x y → view y ≡ moved m (view x)
  pub chooses : (x : D) → d.choice x ≡ choice_of (view x)
