use Rattle.std.proofs.Common.{◌≡◌, ℕ, ◌-◌, get_or}
use Rattle.heap.specs.Held.{held}
use Rattle.heap.specs.Sifting.{Over, Sifting}
use Rattle.heap.proofs.sift.settle.Given as goal

abbrev pub invariant-loop-up : goal.invariant-loop-up
invariant-loop-up g l = record {
  sifts : Sifting g.K.Key.handle_of g.K.Key.before l.keys l.places l.n l.«at»;
  holds : (h : ℕ) → held g.K.Key.handle_of l.keys l.n h ≡ held g.K.Key.handle_of l.fn.keys l.n h;
}

abbrev pub decreases-loop-up : goal.decreases-loop-up
decreases-loop-up g l = l.«at»

abbrev pub invariant-loop-child : goal.invariant-loop-child
invariant-loop-child g l = record {
  sifts : Sifting g.K.Key.handle_of g.K.Key.before l.keys l.places l.n l.«at»;
  holds : (h : ℕ) → held g.K.Key.handle_of l.keys l.n h ≡ held g.K.Key.handle_of l.fn.keys l.n h;
  over : (d : g.row.K.Denot) → Over g.K.Key.before (λ i. get_or l.keys i d) l.«at»;
}

abbrev pub decreases-loop-child : goal.decreases-loop-child
decreases-loop-child g l = l.n - l.«at»
