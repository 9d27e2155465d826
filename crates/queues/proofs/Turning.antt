-- The front of a row sent to its end, and a full turn of round robin.
use Rattle.std.proofs.Common.{◌≡◌, ℕ, ◌+◌, ◌<◌, cond, eqb, List, [], ◌∷◌, ◌++◌, length, sym, refl, ap, ◌∙◌, arith}
use Rattle.std.specs.List.{AllByRecursion}
use Rattle.std.proofs.lemmas.Bool.{eq-eqb, ne_eqb}
use Rattle.std.proofs.lemmas.List.{append_assoc, append-nil, length_push}
use Rattle.discipline.specs.Meaning.{Move, cleared, admitted, worked}
use Rattle.queues.specs.Queues.{Queue, queue, round_robin, rounds, turned}
use Rattle.queues.specs.Laws.{WithinTurn, after_moves, units_among, admitted_by}
use Rattle.queues.specs.Rows.{front_to_end, times, leaves}
use Rattle.queues.proofs.Admitted.{times_push}

pub length-turned : (xs : List ℕ) → length (front_to_end xs) ≡ length xs
length-turned [] = refl
length-turned (x ∷ xs) = length_push xs x ∙ omega arith

pub times-turned : (xs : List ℕ) (k : ℕ) → times k (front_to_end xs) ≡ times k xs
times-turned [] k = refl
times-turned (x ∷ xs) k = times_push xs x k ∙ omega arith

module _ (q n l : ℕ) (behind : List ℕ) (t : ℕ) (some : 0 < l) where
  unit : rounds q n l (n ∷ behind) t ≡ cond (eqb (t + 1) q) (queue (round_robin q) (behind ++ n ∷ []) 0) (queue (round_robin q) (n ∷ behind) (t + 1))
  unit =
      ap (λ b. cond b (turned q l n behind t) (queue (round_robin q) (leaves n l (n ∷ behind)) t)) (eq-eqb n n refl)
      ∙ ap (λ b. cond b (queue (round_robin q) behind 0) (cond (eqb (t + 1) q) (queue (round_robin q) (behind ++ n ∷ []) 0) (queue (round_robin q) (n ∷ behind) (t + 1)))) (ne_eqb l 0 (λ e. omega arith))

  last_unit : t + 1 ≡ q → rounds q n l (n ∷ behind) t ≡ queue (round_robin q) (behind ++ n ∷ []) 0
  last_unit e = unit ∙ ap (λ b. cond b (queue (round_robin q) (behind ++ n ∷ []) 0) (queue (round_robin q) (n ∷ behind) (t + 1))) (eq-eqb (t + 1) q e)

  unit-before : (t + 1 ≡ q → ⊥) → rounds q n l (n ∷ behind) t ≡ queue (round_robin q) (n ∷ behind) (t + 1)
  unit-before e = unit ∙ ap (λ b. cond b (queue (round_robin q) (behind ++ n ∷ []) 0) (queue (round_robin q) (n ∷ behind) (t + 1))) (ne_eqb (t + 1) q e)

pub full_turn : (q n l : ℕ) (behind : List ℕ) (t : ℕ) (ms : List Move) → AllByRecursion (WithinTurn n) ms → t + (units_among ms + 1) ≡ q → 0 < l
    → after_moves (ms ++ worked n l ∷ []) (queue (round_robin q) (n ∷ behind) t) ≡ queue (round_robin q) ((behind ++ admitted_by ms) ++ n ∷ []) 0
full_turn q n l behind t [] h e some =
    last_unit q n l behind t some (omega arith) ∙ ap (λ (xs : List ℕ). queue (round_robin q) (xs ++ n ∷ []) 0) (sym (append-nil behind))
full_turn q n l behind t (cleared ∷ ms) h e some = absurd h.0
full_turn q n l behind t (admitted j z ∷ ms) h e some =
    full_turn q n l (behind ++ j ∷ []) t ms h.1 e some
    ∙ ap (λ (xs : List ℕ). queue (round_robin q) (xs ++ n ∷ []) 0) (append_assoc behind (j ∷ []) (admitted_by ms))
full_turn q n l behind t (worked j k ∷ ms) h e some =
    ap (λ i. after_moves (ms ++ worked n l ∷ []) (rounds q i k (n ∷ behind) t)) h.0.0
    ∙ ap (λ (x : Queue). after_moves (ms ++ worked n l ∷ []) x) (unit-before q n k behind t h.0.1 (λ f. omega arith))
    ∙ full_turn q n l behind (t + 1) ms h.1 (omega arith) some
