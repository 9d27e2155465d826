-- A list gone round from a place on: what stands where, and what one write and one step change.
use Rattle.std.proofs.Common.{◌≡◌, ℕ, zero, suc, ◌+◌, ◌-◌, ◌<◌, ◌≤◌, min, ltb, List, [], ◌∷◌, ◌++◌, length, get_or, take, drop, set, sym, refl, ap, ◌∙◌, ⊎_elim, add-one, arith}
use Rattle.std.proofs.lemmas.Bool.{cases_lt, cond-true, cond-false, lt-ltb, le-ltb}
use Rattle.std.proofs.lemmas.List.{append_assoc, append-nil, length-append, length-drop, length-take-le, drop-take, drop-drop, take_at, take-take, get_or_append_left, get_or-append_right, get_or-drop, get_or-take, drop-set-add, drop-set-lt, take-set-le, set-append_left, set-append_right, drop_more, take_more, drop_all, take_all, take-append-le, take_more_set}
use borrow.Rule.Slice.PartMut.{put_mid, post_of, same_len_mid}
use Rattle.queues.specs.Rows.{IsRing, in_ring, around, place_of, gapless}

pub place_low : (f k : ℕ) → f + k < 1024 → place_of f k ≡ f + k
place_low f k l = cond-true (ltb (f + k) 1024) (f + k) (f + k - 1024) (lt-ltb (f + k) 1024 l)

pub place_high : (f k : ℕ) → 1024 ≤ f + k → place_of f k ≡ f + k - 1024
place_high f k g = cond-false (ltb (f + k) 1024) (f + k) (f + k - 1024) (le-ltb (f + k) 1024 g)

pub take_set_in : (n : ℕ) (xs : List ℕ) (i v : ℕ) → i < n → take n (set xs i v) ≡ set (take n xs) i v
take_set_in zero xs i v l = absurd (omega arith)
take_set_in (suc n) [] i v l = refl
take_set_in (suc n) (x ∷ xs) zero v l = refl
take_set_in (suc n) (x ∷ xs) (suc i) v l = ap (λ (ys : List ℕ). x ∷ ys) (take_set_in n xs i v (omega arith))

-- what is taken of two lists, one behind the other
pub take_both : (n : ℕ) (xs ys : List ℕ) → take n (xs ++ ys) ≡ take (min n (length xs)) xs ++ take (n - min n (length xs)) ys
take_both zero xs ys = let e : min 0 (length xs) ≡ 0 = omega arith in sym (ap (λ m. take m xs ++ take (0 - m) ys) e)
take_both (suc n) [] ys =
    let e : min (suc n) 0 ≡ 0 = omega arith in
    let f : suc n - 0 ≡ suc n = omega arith in
    sym (ap (λ m. take {A = ℕ} m [] ++ take (suc n - m) ys) e ∙ ap (λ m. take m ys) f)
take_both (suc n) (x ∷ xs) ys =
    let e : min (suc n) (length (x ∷ xs)) ≡ suc (min n (length xs)) = omega arith in
    let f : suc n - suc (min n (length xs)) ≡ n - min n (length xs) = omega arith in
    ap (λ (zs : List ℕ). x ∷ zs) (take_both n xs ys ∙ ap (λ m. take (min n (length xs)) xs ++ take m ys) (sym f))
    ∙ ap (λ m. take m (x ∷ xs) ++ take (suc n - m) ys) (sym e)

-- what a ring has, in two parts: up to its end, and from its beginning
pub in_parts : (xs : List ℕ) (f n s : ℕ) (behind ahead : List ℕ) → behind ≡ take f xs → ahead ≡ drop f xs → s ≡ min n (length ahead) → in_ring xs f n ≡ take s ahead ++ take (n - s) behind
in_parts xs f n s behind ahead b a e =
    (λ i. take n (sym a i ++ sym b i)) ∙ take_both n ahead behind ∙ ap (λ m. take m ahead ++ take (n - m) behind) (sym e)

-- the front of a list goes to its end, or off
pub take-turned : (n : ℕ) (xs : List ℕ) → n ≤ length xs → take (n - 1) (drop 1 xs ++ take 1 xs) ≡ drop 1 (take n xs)
take-turned zero xs l = refl
take-turned (suc n) [] l = absurd (omega arith)
take-turned (suc n) (x ∷ xs) l =
    let e : suc n - 1 ≡ n = omega arith in
    ap (λ m. take m (xs ++ x ∷ [])) e ∙ take-append-le n xs (x ∷ []) (omega arith)

module _ (xs : List ℕ) (f : ℕ) (long : length xs ≡ 1024) (low : f < 1024) where
  long_drop : length (drop f xs) ≡ 1024 - f
  long_drop = length-drop f xs ∙ ap (λ n. n - f) long

  long_take : length (take f xs) ≡ f
  long_take = length-take-le f xs (omega arith)

  pub long_around : length (around f xs) ≡ 1024
  long_around = length-append (drop f xs) (take f xs) ∙ omega (arith, long_drop, long_take)

  pub around_at : (k : ℕ) → k < 1024 → get_or (around f xs) k 0 ≡ get_or xs (place_of f k) 0
  around_at k h =
      ⊎_elim
      (λ l. get_or_append_left (drop f xs) (take f xs) 0 k (omega (arith, long_drop)) ∙ get_or-drop f xs k 0 ∙ ap (λ n. get_or xs n 0) (sym (place_low f k l)))
      (λ g.
      let e : k - (1024 - f) ≡ f + k - 1024 = omega arith in
      get_or-append_right (drop f xs) (take f xs) (1024 - f) k 0 long_drop (omega arith)
      ∙ get_or-take f xs (k - (1024 - f)) 0 (omega arith)
      ∙ ap (λ n. get_or xs n 0) (e ∙ sym (place_high f k g)))
      (cases_lt (f + k) 1024)

  pub around_set : (k v : ℕ) → k < 1024 → around f (set xs (place_of f k) v) ≡ set (around f xs) k v
  around_set k v h =
      ⊎_elim
      (λ l.
      ap (λ n. around f (set xs n v)) (place_low f k l)
      ∙ (λ i. drop-set-add f xs k v i ++ take-set-le f xs (f + k) v (omega arith) i)
      ∙ sym (set-append_left (drop f xs) (take f xs) k v (omega (arith, long_drop))))
      (λ g.
      let e : k - (1024 - f) ≡ f + k - 1024 = omega arith in
      ap (λ n. around f (set xs n v)) (place_high f k g ∙ sym e)
      ∙ (λ i. drop-set-lt f xs (k - (1024 - f)) v (omega arith) i ++ take_set_in f xs (k - (1024 - f)) v (omega arith) i)
      ∙ sym (set-append_right (drop f xs) (take f xs) (1024 - f) k v long_drop (omega arith)))
      (cases_lt (f + k) 1024)

  one_on : around (f + 1) xs ≡ drop 1 (around f xs) ++ take 1 (around f xs)
  one_on =
      let l : f < length xs = omega arith in
      ap (λ (ys : List ℕ). drop (f + 1) xs ++ ys) (take_more xs f 0 l)
      ∙ sym (append_assoc (drop (f + 1) xs) (take f xs) (get_or xs f 0 ∷ []))
      ∙ sym (ap (λ (ys : List ℕ). drop 1 (ys ++ take f xs) ++ take 1 (ys ++ take f xs)) (drop_more xs f 0 l))

  pub around_next : around (place_of f 1) xs ≡ drop 1 (around f xs) ++ take 1 (around f xs)
  around_next =
      ⊎_elim
      (λ l. ap (λ n. around n xs) (place_low f 1 l) ∙ one_on)
      (λ g.
      let z : f + 1 - 1024 ≡ 0 = omega arith in
      ap (λ n. around n xs) (place_high f 1 g ∙ z)
      ∙ append-nil xs
      ∙ sym (λ i. drop_all (f + 1) xs (omega arith) i ++ take_all (f + 1) xs (omega arith) i)
      ∙ one_on)
      (cases_lt (f + 1) 1024)

-- the first n of them as a row
module _ {xs : List ℕ} {f n : ℕ} (ring : IsRing xs f n) where
  pub long_row : length (in_ring xs f n) ≡ n
  long_row = length-take-le n (around f xs) (omega (arith, ring.few, long_around xs f ring.long ring.within))

  pub row_at : (k : ℕ) → k < n → get_or xs (place_of f k) 0 ≡ get_or (in_ring xs f n) k 0
  row_at k l = sym (get_or-take n (around f xs) k 0 l ∙ around_at xs f ring.long ring.within k (omega (arith, ring.few)))

  pub row_set : (k v : ℕ) → k < n → in_ring (set xs (place_of f k) v) f n ≡ set (in_ring xs f n) k v
  row_set k v l = ap (λ (ys : List ℕ). take n ys) (around_set xs f ring.long ring.within k v (omega (arith, ring.few))) ∙ take_set_in n (around f xs) k v l

  pub row_push : (v : ℕ) → n < 1024 → in_ring (set xs (place_of f n) v) f (n + 1) ≡ in_ring xs f n ++ v ∷ []
  row_push v l = ap (λ (ys : List ℕ). take (n + 1) ys) (around_set xs f ring.long ring.within n v l) ∙ take_more_set (around f xs) n v (omega (arith, long_around xs f ring.long ring.within))

  pub row_next : in_ring xs (place_of f 1) (n - 1) ≡ drop 1 (in_ring xs f n)
  row_next = ap (λ (ys : List ℕ). take (n - 1) ys) (around_next xs f ring.long ring.within) ∙ take-turned n (around f xs) (omega (arith, ring.few, long_around xs f ring.long ring.within))

-- ---- a number taken out of a ring that does not go round its end
-- a part of a row, from a to e, rotated by one: all but its last
pub rotated : (xs post : List ℕ) (a e : ℕ) → a < e → e ≤ length xs
    → take (e - 1) (take a xs ++ ((drop 1 (take (e - a) (drop a xs)) ++ take 1 (take (e - a) (drop a xs))) ++ post)) ≡ take a (take e xs) ++ drop (suc a) (take e xs)
rotated xs post a e lt le =
    let s = take (e - a) (drop a xs) in
    let long-a : length (take a xs) ≡ a = length-take-le a xs (omega arith) in
    let rest : length (drop a xs) ≡ length xs - a = length-drop a xs in
    let long-s : length s ≡ e - a = length-take-le (e - a) (drop a xs) (omega arith) in
    let long-d : length (drop 1 s) ≡ e - a - 1 = length-drop 1 s ∙ ap (λ n. n - 1) long-s in
    let long-p : length (take a xs ++ drop 1 s) ≡ e - 1 = length-append (take a xs) (drop 1 s) ∙ omega arith in
    let again : a + (e - a) ≡ e = omega arith in
    let parts : take a xs ++ ((drop 1 s ++ take 1 s) ++ post) ≡ (take a xs ++ drop 1 s) ++ (take 1 s ++ post)
    = ap (λ (ys : List ℕ). take a xs ++ ys) (append_assoc (drop 1 s) (take 1 s) post) ∙ sym (append_assoc (take a xs) (drop 1 s) (take 1 s ++ post)) in
    let tail : drop 1 s ≡ drop (suc a) (take e xs)
    = ap (λ (ys : List ℕ). drop 1 ys) (sym (drop-take a (e - a) xs) ∙ ap (λ n. drop a (take n xs)) again) ∙ drop-drop 1 a (take e xs) ∙ ap (λ n. drop n (take e xs)) (add-one a) in
    ap (λ (ys : List ℕ). take (e - 1) ys) parts
    ∙ take_at (take a xs ++ drop 1 s) (take 1 s ++ post) (e - 1) long-p
    ∙ ap (λ (ys : List ℕ). ys ++ drop 1 s) (sym (take-take a e xs (omega arith)))
    ∙ ap (λ (ys : List ℕ). take a (take e xs) ++ ys) tail

-- it is a part of the list ..
straight : (xs : List ℕ) (f n : ℕ) → f + n ≤ length xs → in_ring xs f n ≡ drop f (take (f + n) xs)
straight xs f n l = take-append-le n (drop f xs) (take f xs) (omega (arith, length-drop f xs)) ∙ sym (drop-take f n xs)

-- .. of which the gap in the list is the gap.
drop_gap : (f : ℕ) (ys : List ℕ) (k : ℕ) → f + k < length ys → drop f (gapless ys (f + k)) ≡ gapless (drop f ys) k
drop_gap zero ys k l = let e : 0 + k ≡ k = omega arith in ap (gapless ys) e
drop_gap (suc f) [] k l = absurd (omega arith)
drop_gap (suc f) (y ∷ ys) k l =
    let e : suc f + k ≡ suc (f + k) = omega arith in
    ap (λ m. drop (suc f) (gapless (y ∷ ys) m)) e ∙ drop_gap f ys k (omega arith)

pub closed : (xs : List ℕ) (f n k : ℕ) (turned : List ℕ) → f + n ≤ length xs → k < n
    → turned ≡ drop 1 (take (f + n - (f + k)) (drop (f + k) xs)) ++ take 1 (take (f + n - (f + k)) (drop (f + k) xs))
    → in_ring (put_mid (f + k) (f + n - (f + k)) xs turned) f (n - 1) ≡ gapless (in_ring xs f n) k
closed xs f n k turned fits low e =
    let a = f + k in
    let zs = put_mid a (f + n - a) xs turned in
    let here : length (take (f + n - a) (drop a xs)) ≡ f + n - a = length-take-le (f + n - a) (drop a xs) (omega (arith, length-drop a xs)) in
    let long-t : length turned ≡ f + n - a = ap (λ (ys : List ℕ). length ys) e ∙ length-append (drop 1 (take (f + n - a) (drop a xs))) (take 1 (take (f + n - a) (drop a xs)))
    ∙ omega (arith, here, length-drop 1 (take (f + n - a) (drop a xs)), length-take-le 1 (take (f + n - a) (drop a xs)) (omega (arith, here))) in
    let long : length zs ≡ length xs = same_len_mid a (f + n - a) xs turned (long-t ∙ sym here) in
    let end : f + (n - 1) ≡ f + n - 1 = omega arith in
    straight zs f (n - 1) (omega (arith, long))
    ∙ ap (λ m. drop f (take m zs)) end
    ∙ ap (drop f) (ap (λ (ys : List ℕ). take (f + n - 1) (put_mid a (f + n - a) xs ys)) e ∙ rotated xs (post_of a (f + n - a) xs) a (f + n) (omega arith) fits)
    ∙ drop_gap f (take (f + n) xs) k (omega (arith, length-take-le (f + n) xs fits))
    ∙ ap (λ (ys : List ℕ). gapless ys k) (sym (straight xs f n fits))
