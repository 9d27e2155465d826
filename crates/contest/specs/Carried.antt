-- Which lease a run has out.
use Rattle.std.specs.Prelude.{ℕ, Bool, true, false, ◌&&◌, Some, None, Option, ◌==◌}
use Rattle.run.specs.declared.accounts.Accounts.{Accounts}
use Rattle.run.specs.declared.lease.Lease.{Lease}

-- The lease is on job j, where j is leased, with mark m and for the tick c; and there is none where no job is leased.
abbrev pub carries_by : Option ℕ → ℕ → ℕ → Option Lease → Bool
carries_by None m c None = true
carries_by None m c (Some l) = false
carries_by (Some j) m c None = false
carries_by (Some j) m c (Some l) = l.mark == m && (l.tick == c && l.job == j)

-- The lease is the one that the accounts have out.
abbrev pub carries : Accounts → Option Lease → Bool
carries a o = carries_by a.lease a.mark a.clock o
