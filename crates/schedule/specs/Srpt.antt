-- Shortest remaining processing time: the rule, and what it is best at.
use Rattle.std.specs.Prelude.{ℕ, ◌≤◌}
use Rattle.schedule.specs.Histories.{History, before}
use Rattle.schedule.specs.Schedules.{Schedule, job, idle, remaining, Present, Nobody, Rule, Follows, Legal, WorkConserving, entries_before}
use Rattle.schedule.specs.Occupancy.{occupancy, occupancy_total}

-- The rule of SRPT: a present job with the least remaining work, whichever among equals; idle where nobody is present.
abbrev pub Shortest : Rule
Shortest h s idle = Nobody h s
Shortest h s (job j) = Present h s j × ((i : ℕ) → Present h s i → remaining h s j ≤ remaining h s i)

-- A schedule serves by SRPT if it follows that rule.
abbrev pub Srpt : History → Schedule → Type 0
Srpt h s = Follows Shortest h s

-- Every SRPT schedule is work-conserving, and every work-conserving schedule is legal.
abbrev pub SrptLegal : Type 0
SrptLegal = (h : History) (s : Schedule) → (Srpt h s → WorkConserving h s) × (WorkConserving h s → Legal h s)

-- SRPT keeps the fewest present: at the end of a history, and before each of its events, no legal schedule of the same history has fewer
-- jobs present than an SRPT schedule, however it breaks ties.
abbrev pub SrptFewest : Type 0
SrptFewest =
    (h : History) (s t : Schedule) → Srpt h s → Legal h t
    → (n : ℕ) → occupancy (before n h) (entries_before n h s) ≤ occupancy (before n h) (entries_before n h t)

-- SRPT has the least occupancy total of all legal schedules, and so, by the occupancy identity, the least time spent present in all.
abbrev pub SrptLeastTotal : Type 0
SrptLeastTotal = (h : History) (s t : Schedule) → Srpt h s → Legal h t → occupancy_total h s ≤ occupancy_total h t
