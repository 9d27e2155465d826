-- The table of left work where nobody is present.
use Rattle.std.proofs.Common.{◌≡◌, ℕ, ◌≤◌, get_or, replicate, sym, subst, ⊎_elim}
use Rattle.std.proofs.lemmas.Bool.{cases_lt}
use Rattle.std.proofs.lemmas.List.{get_or-replicate, get_or_past, length-replicate}

pub zero_at : (k : ℕ) → get_or (replicate {A = ℕ} 1024 0) k 0 ≡ 0
zero_at k =
    ⊎_elim
    (λ l. get_or-replicate {A = ℕ} 1024 k 0 0 l)
    (λ g. get_or_past {X = ℕ} (replicate 1024 0) k 0 (subst (λ n. n ≤ k) (sym (length-replicate {A = ℕ} 1024 0)) g))
    (cases_lt k 1024)
