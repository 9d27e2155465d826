-- The lines of the book: an unused one, a new one, and what a unit of work does to one.
use Rattle.std.specs.Prelude.{ℕ, ◌+◌, ◌-◌, max, cond, List, [], ◌∷◌, map, fold, ◌==◌, nat_lt}
use Rattle.job.specs.declared.name.Name.{Name}
use Rattle.job.specs.Names.{name_of}
use Rattle.run.specs.declared.line.Line.{Line}

-- The left work of each line.
abbrev pub lefts : List Line → List ℕ
lefts ls = map (λ l. l.left) ls

-- A line that no job has: its name is a hyphen, its size 1, and 0 elsewhere.
abbrev pub unused : Line
unused = record { name = name_of (45 ∷ []); arrival = 0; size = 1; left = 0; finish = 0 }

-- The line of a job of size z that arrives in tick t.
abbrev pub new_line : Name → ℕ → ℕ → Line
new_line n t z = record { name = n; arrival = t; size = z; left = z; finish = 0 }

-- A line after one unit done on it in tick t: its left falls by one, and at 0 it has t as its finish. A line with nothing left stays as it is.
abbrev pub worked_line : Line → ℕ → Line
worked_line l t =
    cond (l.left == 0) l
    (record { name = l.name; arrival = l.arrival; size = l.size; left = l.left - 1; finish = cond (l.left - 1 == 0) t 0 })

-- The ticks from a finished job's arrival to its finish, both counted; 0 for a job that is not finished.
abbrev pub sojourn_of : Line → ℕ
sojourn_of l = cond (nat_lt 0 l.left) 0 (l.finish + 1 - l.arrival)

-- The longest sojourn of a finished job, or 0.
abbrev pub longest_of : List Line → ℕ
longest_of ls = fold (λ m l. max m (sojourn_of l)) 0 ls
