-- What each call of a run answers, and what it leaves.
use Rattle.std.specs.Prelude.{◌≡◌, ℕ, ◌+◌, ◌-◌, max, Bool, true, false, ◌&&◌, List, replicate, Some, None, Ok, Err, Option, Result, ◌==◌, nat_lt, slice_index, slice_index_or, slice_set}
use Rattle.refusal.specs.declared.Refusal.{Refusal}
use Rattle.refusal.specs.declared.Refusal.TheVariants.{Size, Name, LeaseOut, BookFull, ClockEnd, Nobody, Somebody, NotTheLease}
use Rattle.refusal.specs.Answers.{provided, if_accepted}
use Rattle.job.specs.declared.name.Name.{Name as JobName}
use Rattle.job.specs.Rules.{good_size, good_name}
use Rattle.job.specs.Names.{name_of}
use Rattle.discipline.specs.Meaning.{count_present}
use Rattle.run.specs.declared.book.Book.{Book}
use Rattle.run.specs.declared.lease.Lease.{Lease}
use Rattle.run.specs.declared.accounts.Accounts.{Accounts}
use Rattle.run.specs.declared.accounts.Call.{Call}
use Rattle.run.specs.declared.accounts.Call.TheVariants.{Enter, Take, Pass, HandIn}
use Rattle.run.specs.Lines.{unused, worked_line, new_line}
use Rattle.run.specs.States.{State}

-- ---- the accounts

-- No lease is out.
abbrev pub is_free : Option ℕ → Bool
is_free None = true
is_free (Some j) = false

-- A lease is out, on job j.
abbrev pub is_out_on : Option ℕ → ℕ → Bool
is_out_on None j = false
is_out_on (Some o) j = o == j

-- The lease that is out has mark m, tick t and job j.
abbrev pub is_the_lease : Accounts → ℕ → ℕ → ℕ → Bool
is_the_lease a m t j = a.mark == m && (a.clock == t && is_out_on a.lease j)

-- The clock has not come to its last tick.
abbrev pub before_end : Accounts → Bool
before_end a = nat_lt a.clock 16777215

-- Whether a call may go on while the lease is as it is.
abbrev pub may_answer : Accounts → Call → Result (Unit {0}) Refusal
may_answer a Enter = provided (is_free a.lease) LeaseOut (Ok tt)
may_answer a Take = provided (is_free a.lease) LeaseOut (provided (before_end a) ClockEnd (Ok tt))
may_answer a Pass = provided (is_free a.lease) LeaseOut (provided (before_end a) ClockEnd (Ok tt))
may_answer a (HandIn m t j) = provided (is_the_lease a m t j) NotTheLease (Ok tt)

-- A tick ends with n jobs present: n is added to the total, most is raised to it, and the clock rises by one.
abbrev pub ended : Accounts → ℕ → Accounts
ended a n = record { mark = a.mark; clock = a.clock + 1; total = a.total + n; most = max a.most n; lease = None }

-- The same accounts with another state of the lease.
abbrev pub leasing : Accounts → Option ℕ → Accounts
leasing a l = record { mark = a.mark; clock = a.clock; total = a.total; most = a.most; lease = l }

-- ---- making

-- A book with no line used.
abbrev pub blank_book : Book
blank_book = record { lines = replicate 1024 unused; entered = 0 }

-- A run newly made with mark m: nobody is present, no line is used, no lease is out, and clock, total and most are 0.
abbrev pub made_with : ℕ → State
made_with m = record {
  present = replicate 1024 0;
  choice = None;
  book = blank_book;
  accounts = record { mark = m; clock = 0; total = 0; most = 0; lease = None };
}

-- ---- enter

-- What enter answers: the number of the next line, or the first of its refusals that applies.
abbrev pub enter_rule : State → List ℕ → ℕ → Result ℕ Refusal
enter_rule s n z =
    provided (good_size z) Size
    (provided (good_name n) Name
    (provided (is_free s.accounts.lease) LeaseOut
    (provided (nat_lt s.book.entered 1024) BookFull
    (Ok s.book.entered))))

-- The next line is that of a job that arrives in tick t.
abbrev pub book_entered : Book → JobName → ℕ → ℕ → Book
book_entered b n t z = record { lines = slice_set b.lines b.entered (new_line n t z); entered = b.entered + 1 }

-- A run after the job is entered, with the choice c.
abbrev pub enter_after : State → List ℕ → ℕ → Option ℕ → State
enter_after s n z c = record {
  present = slice_set s.present s.book.entered z;
  choice = c;
  book = book_entered s.book (name_of n) s.accounts.clock z;
  accounts = s.accounts;
}

-- What enter does to a run; only the choice that it leaves is open.
pub record Enters (s : State) (n : List ℕ) (z : ℕ) (r : Result ℕ Refusal) (s' : State) : Type 0 where
  pub answers : r ≡ enter_rule s n z
  pub leaves : s' ≡ if_accepted r (enter_after s n z s'.choice) s

-- ---- take

-- A lease on the choice.
abbrev pub lease_on : Accounts → Option ℕ → Result Lease Refusal
lease_on a None = Err Nobody
lease_on a (Some j) = Ok (record { mark = a.mark; tick = a.clock; job = j })

-- What take answers.
abbrev pub take_answer : State → Result Lease Refusal
take_answer s =
    provided (is_free s.accounts.lease) LeaseOut
    (provided (before_end s.accounts) ClockEnd
    (lease_on s.accounts s.choice))

-- A run after the lease is given: it is out, and nothing else has changed.
abbrev pub take_after : State → Result Lease Refusal → State
take_after s (Ok l) = record { present = s.present; choice = s.choice; book = s.book; accounts = leasing s.accounts (Some l.job) }
take_after s (Err e) = s

-- What take does to a run.
pub record Takes (s : State) (r : Result Lease Refusal) (s' : State) : Type 0 where
  pub answers : r ≡ take_answer s
  pub leaves : s' ≡ take_after s r

-- ---- done

-- A refusal gives the lease back.
abbrev pub giving_back : {T : Type 0} → Lease → Result T Refusal → Result (Unit {0}) (Refusal × Lease)
giving_back l (Ok _) = Ok tt
giving_back l (Err e) = Err (e, l)

-- The lease handed in must be the one that is out.
abbrev pub hand_rule : State → Lease → Result (Unit {0}) Refusal
hand_rule s l = provided (is_the_lease s.accounts l.mark l.tick l.job) NotTheLease (Ok tt)

-- What done and back answer.
abbrev pub done_rule : State → Lease → Result (Unit {0}) (Refusal × Lease)
done_rule s l = giving_back l (hand_rule s l)

-- One unit done on the line of job j in tick t; no other line changes.
abbrev pub book_worked : Book → ℕ → ℕ → Book
book_worked b j t = record { lines = slice_set b.lines j (worked_line (slice_index_or b.lines j unused) t); entered = b.entered }

-- A run after a tick in which one unit was done on job j, with the choice c.
abbrev pub done_after : State → ℕ → Option ℕ → State
done_after s j c = record {
  present = slice_set s.present j (slice_index s.present j - 1);
  choice = c;
  book = book_worked s.book j s.accounts.clock;
  accounts = ended s.accounts (count_present s.present);
}

-- What done does to a run; only the choice that it leaves is open.
pub record Dones (s : State) (l : Lease) (r : Result (Unit {0}) (Refusal × Lease)) (s' : State) : Type 0 where
  pub answers : r ≡ done_rule s l
  pub leaves : s' ≡ if_accepted r (done_after s l.job s'.choice) s

-- ---- back and pass

-- A run after a tick in which no unit was done.
abbrev pub idled : State → State
idled s = record { present = s.present; choice = s.choice; book = s.book; accounts = ended s.accounts (count_present s.present) }

-- What back does to a run.
pub record Backs (s : State) (l : Lease) (r : Result (Unit {0}) (Refusal × Lease)) (s' : State) : Type 0 where
  pub answers : r ≡ done_rule s l
  pub leaves : s' ≡ if_accepted r (idled s) s

-- What pass answers.
abbrev pub pass_answer : State → Result (Unit {0}) Refusal
pass_answer s =
    provided (is_free s.accounts.lease) LeaseOut
    (provided (before_end s.accounts) ClockEnd
    (provided (count_present s.present == 0) Somebody
    (Ok tt)))

-- What pass does to a run.
pub record Passes (s : State) (r : Result (Unit {0}) Refusal) (s' : State) : Type 0 where
  pub answers : r ≡ pass_answer s
  pub leaves : s' ≡ if_accepted r (idled s) s
