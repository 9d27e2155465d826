-- The occupancy identity: the jobs present tick by tick, and the ticks present job by job, count the same pairs.
use Rattle.std.proofs.Common.{◌≡◌, ℕ, ◌+◌, ◌≤◌, [], ◌∷◌, drop, sym, refl, ap, ◌∙◌, add-one, arith}
use Rattle.std.proofs.lemmas.List.{length_push, get_or_past}
use Rattle.schedule.specs.Histories.{History, enter, tick, lost, sizes, jobs}
use Rattle.schedule.specs.Schedules.{Schedule}
use Rattle.schedule.specs.Occupancy.{presence, occupancy, occupancy_total, ticks_present, OccupancyIdentity}
use Rattle.schedule.proofs.Counting.{Σ, Σ_add, over_jobs, presence_no}

-- A job was present in no tick before it entered.
pub not_yet : (h : History) (s : Schedule) (j : ℕ) → jobs h ≤ j → ticks_present h s j ≡ 0
not_yet [] s j l = refl
not_yet (enter z ∷ h) s j l = not_yet h s j (omega (arith, length_push (sizes h) z))
not_yet (tick ∷ h) s j l =
    omega (arith, presence_no h (drop 1 s) j (omega (arith, get_or_past (sizes h) j 0 l)), not_yet h (drop 1 s) j l)
not_yet (lost ∷ h) s j l =
    omega (arith, presence_no h (drop 1 s) j (omega (arith, get_or_past (sizes h) j 0 l)), not_yet h (drop 1 s) j l)

-- A tick adds the jobs present to both sides.
one-tick :
    (h : History) (s : Schedule) → occupancy_total h s ≡ Σ (jobs h) (ticks_present h s)
    → occupancy h s + occupancy_total h s ≡ Σ (jobs h) (λ j. presence h s j + ticks_present h s j)
one-tick h s e = omega (arith, e, over_jobs h (presence h s), Σ_add (jobs h) (presence h s) (ticks_present h s))

-- An enter adds a job that was present in no tick yet; a tick adds the jobs present.
counted : (h : History) (s : Schedule) → occupancy_total h s ≡ Σ (jobs h) (ticks_present h s)
counted [] s = refl
counted (enter z ∷ h) s =
    omega
    (arith, ap (λ m. Σ m (ticks_present h s)) (length_push (sizes h) z ∙ add-one (jobs h)), not_yet h s (jobs h) (omega arith), counted h s)
counted (tick ∷ h) s = one-tick h (drop 1 s) (counted h (drop 1 s))
counted (lost ∷ h) s = one-tick h (drop 1 s) (counted h (drop 1 s))

pub occupancy_identity_lem : OccupancyIdentity
occupancy_identity_lem h s = counted h s ∙ sym (over_jobs h (ticks_present h s))
