-- The steps of a loop that tests the bytes of a name one by one.
use Rattle.std.proofs.Common.{◌≡◌, ℕ, ◌+◌, ◌<◌, ◌≤◌, true, false, ◌&&◌, List, length, get_or, drop, sym, ap, ◌∙◌}
use Rattle.std.proofs.lemmas.List.{at_drop_more, at_drop_all}
use Rattle.job.specs.Rules.{name_byte, name_bytes}

module _ (bs : List ℕ) (i : ℕ) (inv : name_bytes (drop i bs) ≡ name_bytes bs) where
  next : i < length bs → name_bytes bs ≡ (name_byte (get_or bs i 0) && name_bytes (drop (i + 1) bs))
  next lt = sym inv ∙ at_drop_more name_bytes bs i 0 lt

  pub stops : i < length bs → name_byte (get_or bs i 0) ≡ false → false ≡ name_bytes bs
  stops lt e = sym (next lt ∙ ap (λ v. v && name_bytes (drop (i + 1) bs)) e)

  pub goes_on : i < length bs → name_byte (get_or bs i 0) ≡ true → name_bytes (drop (i + 1) bs) ≡ name_bytes bs
  goes_on lt e = sym (next lt ∙ ap (λ v. v && name_bytes (drop (i + 1) bs)) e)

  pub ends : length bs ≤ i → true ≡ name_bytes bs
  ends le = sym (sym inv ∙ at_drop_all name_bytes bs i le)
