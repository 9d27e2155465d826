use Rattle.std.proofs.Common.{◌≡◌, ℕ, ◌-◌, ◌<◌, List, length, get_or, set, sym, ap, ◌∙◌, subst, arith, rules}
use Rattle.queues.specs.Rows.{Once}
use Rattle.queues.proofs.Admitted.{set_fits}
use Rattle.queues.proofs.Leaving.{leaves_many, leaves_once}
use Rattle.queues.proofs.jobs.Jobs.worked.Goals as goal

pub invariant_of-self-clause-fits : goal.invariant_of-self-clause-fits
invariant_of-self-clause-fits c =
    let d = c.args.self.now in
    let n = c.args.number in
    let v = c.in_ok-left-2.left in
    let low : n < length d.left = search rules in
    let less : v ≡ get_or d.left n 0 - 1 = search rules in
    set_fits d.left n v low d.fits (omega (arith, less, d.fits n))

pub invariant_of-self-clause-many : goal.invariant_of-self-clause-many
invariant_of-self-clause-many c =
    let d = c.args.self.now in
    let n = c.args.number in
    let low : n < length d.left = search rules in
    let some : 0 < get_or d.left n 0 = search rules in
    ap length c.leave.ensures ∙ leaves_many d.left n c.in_ok-left-2.left low d.row d.once d.many some

pub invariant_of-self-clause-once : goal.invariant_of-self-clause-once
invariant_of-self-clause-once c =
    let d = c.args.self.now in
    let n = c.args.number in
    let v = c.in_ok-left-2.left in
    let low : n < length d.left = search rules in
    let some : 0 < get_or d.left n 0 = search rules in
    subst (λ (xs : List ℕ). Once xs (set d.left n v)) (sym c.leave.ensures) (leaves_once d.left n v low d.row d.once some)
