use Rattle.std.proofs.Common.{◌≡◌, ℕ, ◌-◌, cond, List, ◌++◌, length, replicate, Some, None, sym, ap, ◌∙◌, arith}
use Rattle.std.proofs.lemmas.List.{drop-replicate}
use Rattle.job.specs.declared.name.Name.{Name}
use Rattle.job.specs.Names.{name_of, spelled}
use Rattle.job.proofs.Keeping.{spelled-name_of}
use Rattle.job.proofs.name.Name.new.Goals as goal

pub returns : goal.returns
returns c =
    let bs = c.args.bytes.now in
    let good = c.if-not-is_name.ensures in
    let e : length bs - 0 ≡ length bs = omega arith in
    let rest = drop-replicate (length bs - 0) 8 0 ∙ ap (λ n. replicate {A = ℕ} (8 - n) 0) e in
    let put : List ℕ → Name = λ xs. record { bytes = xs; len = length bs } in
    let kept = ap put (λ i. c.copy_from_slice.ensures.after i ++ rest i) in
    record {
      keeps = ap (λ (n : Name). Some n) kept ∙ ap (λ b. cond b (Some (name_of bs)) None) good;
      spells = ap spelled kept ∙ spelled-name_of bs (sym good);
    }
