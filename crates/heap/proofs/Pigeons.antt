-- The pigeonhole: so many different numbers below a bound are at most the bound.
use Rattle.std.proofs.Common.{◌≡◌, ℕ, zero, suc, ◌-◌, ◌<◌, ◌≤◌, cond, eqb, sym, ap, ◌∙◌, ⊎_elim, arith}
use Rattle.std.proofs.lemmas.Bool.{cases_eq, cases_lt, eq-eqb, ne_eqb}
use Rattle.heap.proofs.Handles.{decide}

-- n different numbers below c are at most c
abbrev Packs : ℕ → Type 0
Packs c = (n : ℕ) (f : ℕ → ℕ) → ((i : ℕ) → i < n → f i < c) → ((i k : ℕ) → i < n → k < n → f i ≡ f k → i ≡ k) → n ≤ c

-- the last number takes the place of the one that is c
packs_more : (c : ℕ) → Packs c → (n : ℕ) (f : ℕ → ℕ) → ((i : ℕ) → i < n → f i < suc c) → ((i k : ℕ) → i < n → k < n → f i ≡ f k → i ≡ k) → (i : ℕ) → i < n → f i ≡ c → n ≤ suc c
packs_more c packs n f low inj i l e =
    let to : ℕ → ℕ = λ m. cond (eqb m i) (n - 1) m in
    let at_i : (m : ℕ) → m ≡ i → to m ≡ n - 1 = λ m q. ap (λ t. cond t (n - 1) m) (eq-eqb m i q) in
    let off-i : (m : ℕ) → (m ≡ i → ⊥) → to m ≡ m = λ m q. ap (λ t. cond t (n - 1) m) (ne_eqb m i q) in
    let in' : (m : ℕ) → m < n - 1 → (to m < n) × (to m ≡ i → ⊥) = λ m a. grind (arith, cases_eq m i, at_i m, off-i m) in
    let one : (m k : ℕ) → m < n - 1 → k < n - 1 → to m ≡ to k → m ≡ k = λ m k a b s. grind (arith, cases_eq m i, cases_eq k i, at_i m, off-i m, at_i k, off-i k) in
    let le = packs (n - 1) (λ m. f (to m))
    (λ m a. let lt = low (to m) (in' m a).0 in let ne : f (to m) ≡ c → ⊥ = λ z. (in' m a).1 (inj (to m) i (in' m a).0 l (z ∙ sym e)) in omega arith)
    (λ m k a b s. one m k a b (inj (to m) (to k) (in' m a).0 (in' k b).0 s)) in
    omega arith

pub pigeon : (c : ℕ) → Packs c
pigeon zero n f low inj = ⊎_elim (λ (h : 0 < n). let z = low 0 h in absurd (omega arith)) (λ (h : n ≤ 0). h) (cases_lt 0 n)
pigeon (suc c) n f low inj = ⊎_elim
    (λ t. packs_more c (pigeon c) n f low inj t.0 t.1 t.2)
    (λ none. let le = pigeon c n f (λ i l. let ne : f i ≡ c → ⊥ = none i l in let lt = low i l in omega arith) inj in omega arith)
    (decide {K = ℕ} (λ k. k) f c n)
