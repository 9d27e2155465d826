-- What holds after every list of calls, under every discipline: the tie, the clock and the unfinished work.
use Rattle.std.proofs.Common.{◌≡◌, ℕ, ◌+◌, ◌<◌, List, [], ◌∷◌, length, get_or, Ok, Err, Option, sym, refl, ap, ◌∙◌, arith}
use Rattle.std.proofs.lemmas.List.{length-map}
use Rattle.std.proofs.lemmas.List.Sums.{sum_by-set}
use Rattle.job.specs.Names.{name_of}
use Rattle.run.specs.declared.line.Line.{Line}
use Rattle.run.specs.Lines.{unused, new_line, worked_line}
use Rattle.run.specs.States.{State, Tied}
use Rattle.run.specs.Steps.{enter_after, done_after}
use Rattle.run.specs.Questions.{unfinished_work}
use Rattle.run.specs.Laws.{AlwaysLawful}
use Rattle.run.specs.Histories.{Event, enter, take, done, back, pass, Step, Reaches, made, more, tick, ticks, unit, units, brought, sizes}
use Rattle.run.proofs.Keeping.{lefts_at, worked_left}
use Rattle.run.proofs.Ended.{present_below}
use Rattle.run.proofs.Accepting.{enter_ok, done_ok}
use Rattle.run.proofs.Tying.{step_tied, made_tied}

pub reached_tied : (m : ℕ) (es : List Event) (s : State) → Reaches m es s → Tied s
reached_tied m [] s (made h) = made_tied m h
reached_tied m (e ∷ es) s' (more {s = s} r h k) = step_tied e s s' (reached_tied m es s r) h k

-- ---- the clock

abbrev clock_of : State → ℕ
clock_of s = s.accounts.clock

step_clock : (e : Event) (s s' : State) → Step e s s' → clock_of s' ≡ tick e + clock_of s
step_clock (enter n z (Ok k)) s s' h = ap clock_of h.leaves ∙ omega arith
step_clock (enter n z (Err x)) s s' h = ap clock_of h.leaves ∙ omega arith
step_clock (take (Ok l)) s s' h = ap clock_of h.leaves ∙ omega arith
step_clock (take (Err x)) s s' h = ap clock_of h.leaves ∙ omega arith
step_clock (done l (Ok u)) s s' h = ap clock_of h.leaves ∙ omega arith
step_clock (done l (Err x)) s s' h = ap clock_of h.leaves ∙ omega arith
step_clock (back l (Ok u)) s s' h = ap clock_of h.leaves ∙ omega arith
step_clock (back l (Err x)) s s' h = ap clock_of h.leaves ∙ omega arith
step_clock (pass (Ok u)) s s' h = ap clock_of h.leaves ∙ omega arith
step_clock (pass (Err x)) s s' h = ap clock_of h.leaves ∙ omega arith

reached_clock : (m : ℕ) (es : List Event) (s : State) → Reaches m es s → clock_of s ≡ ticks es
reached_clock m [] s (made h) = refl
reached_clock m (e ∷ es) s' (more {s = s} r h k) = step_clock e s s' h ∙ ap (λ n. tick e + n) (reached_clock m es s r)

-- ---- the unfinished work

abbrev work_of : State → ℕ
work_of s = unfinished_work s.book

pub lines_long : (s : State) → Tied s → length s.book.lines ≡ 1024
lines_long s t = sym (length-map s.book.lines (λ (x : Line). x.left)) ∙ sym (ap length t.agrees) ∙ t.sound.long

-- it falls by one at a worked tick
done_work : (s : State) (j : ℕ) (c : Option ℕ) → Tied s → 0 < get_or s.present j 0 → work_of (done_after s j c) + 1 ≡ work_of s
done_work s j c t here =
    let ls = s.book.lines in
    let same : get_or s.present j 0 ≡ (get_or ls j unused).left = ap (λ (p : List ℕ). get_or p j 0) t.agrees ∙ lefts_at ls j in
    let n = lines_long s t in
    let b : j < 1024 = present_below s.present j t.sound.long here in
    let w = worked_left (get_or ls j unused) s.accounts.clock in
    omega (arith, sum_by-set (λ (x : Line). x.left) ls j (worked_line (get_or ls j unused) s.accounts.clock) unused (omega arith))

-- it rises by the size of a job that enters
enter_work : (s : State) (n : List ℕ) (z : ℕ) (c : Option ℕ) → Tied s → s.book.entered < 1024 → work_of (enter_after s n z c) ≡ z + work_of s
enter_work s n z c t lt =
    let ls = s.book.lines in
    let k = s.book.entered in
    let none : (get_or ls k unused).left ≡ 0 = ap (λ (x : Line). x.left) (t.rest k (omega arith)) in
    let m = lines_long s t in
    omega (arith, sum_by-set (λ (x : Line). x.left) ls k (new_line (name_of n) s.accounts.clock z) unused (omega arith))

step_work : (e : Event) (s s' : State) → Tied s → Step e s s' → work_of s' + unit e ≡ brought e + work_of s
step_work (enter n z (Ok k)) s s' t h = omega (arith, ap work_of h.leaves, enter_work s n z s'.choice t (enter_ok s n z k h.answers).room)
step_work (enter n z (Err x)) s s' t h = omega (arith, ap work_of h.leaves)
step_work (take (Ok l)) s s' t h = omega (arith, ap work_of h.leaves)
step_work (take (Err x)) s s' t h = omega (arith, ap work_of h.leaves)
step_work (done l (Ok u)) s s' t h = omega (arith, ap work_of h.leaves, done_work s l.job s'.choice t (done_ok s l u t h.answers).here)
step_work (done l (Err x)) s s' t h = omega (arith, ap work_of h.leaves)
step_work (back l (Ok u)) s s' t h = omega (arith, ap work_of h.leaves)
step_work (back l (Err x)) s s' t h = omega (arith, ap work_of h.leaves)
step_work (pass (Ok u)) s s' t h = omega (arith, ap work_of h.leaves)
step_work (pass (Err x)) s s' t h = omega (arith, ap work_of h.leaves)

reached_work : (m : ℕ) (es : List Event) (s : State) → Reaches m es s → work_of s + units es ≡ sizes es
reached_work m [] s (made h) = refl
reached_work m (e ∷ es) s' (more {s = s} r h k) = omega (arith, step_work e s s' (reached_tied m es s r) h, reached_work m es s r)

-- ---- all three

pub always_lawful : (m : ℕ) → AlwaysLawful m
always_lawful m es s r = record { tied = reached_tied m es s r; time = reached_clock m es s r; work = reached_work m es s r }
