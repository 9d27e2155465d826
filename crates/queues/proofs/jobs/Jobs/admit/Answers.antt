use Rattle.std.proofs.Common.{◌≡◌, ℕ, ◌+◌, ◌<◌, List, length, get_or, set, sym, ap, ◌∙◌, subst, arith, rules}
use Rattle.std.proofs.lemmas.List.{length-set, length_push}
use Rattle.job.proofs.Sizes.{size_low, size_high}
use Rattle.queues.specs.Rows.{Once}
use Rattle.queues.proofs.Admitted.{set_fits, count_more, room, once_more}
use Rattle.queues.proofs.jobs.Jobs.admit.Goals as goal

pub push-requires : goal.push-requires
push-requires c =
    let d = c.args.self.now in
    let l = d.long in
    let z : get_or d.left c.args.number 0 ≡ 0 = search rules in
    let low : c.args.number < length d.left = search rules in
    let more = size_low c.args.size (sym c.if-not-is_size.ensures) in
    omega (arith, d.many, room d.left c.args.number c.args.size low l z more)

pub invariant_of-self : goal.invariant_of-self
invariant_of-self c =
    let d = c.args.self.now in
    let n = c.args.number in
    let v = c.args.size in
    let row = d.row in
    let l = d.long in
    let z : get_or d.left n 0 ≡ 0 = search rules in
    let low : n < length d.left = search rules in
    let good = sym c.if-not-is_size.ensures in
    let more = size_low v good in
    let e = c.push.ensures in record {
      long = length-set d.left n v ∙ l;
      fits = set_fits d.left n v low d.fits (size_high v good);
      many = ap length e ∙ length_push row n ∙ ap (λ m. m + 1) d.many ∙ sym (count_more d.left n v low z more);
      once = subst (λ (xs : List ℕ). Once xs (set d.left n v)) (sym e) (once_more d.left n v low row d.once z more);
    }
