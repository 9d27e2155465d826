-- The lines of the book stay kept: over a tick, over a unit of work, and as a job enters.
use Rattle.std.proofs.Common.{◌≡◌, ℕ, suc, ◌+◌, ◌-◌, ◌*◌, ◌<◌, ◌≤◌, Bool, true, false, cond, ◌&&◌, eqb, ltb, leb, ◌≢◌, ◌⊎◌, List, [], ◌∷◌, length, get_or, set, replicate, sum_by, sym, refl, ap, ◌∙◌, subst, inl, inr, ⊎_elim, arith}
use Rattle.std.proofs.lemmas.Bool.Decides.{nat_tests}
use Rattle.std.proofs.lemmas.Bool.{cases_lt, cases_eq, ltb-true, ltb-false, lt-ltb}
use Rattle.std.proofs.lemmas.List.{get_or_past, get_or-map, length-map, map-set, get_or-replicate, length-replicate, get_or-set_same, get_or-set_other, set_past}
use Rattle.std.specs.Cmp.Lexicographic.{pointwise, same_text}
use Rattle.job.specs.declared.name.Name.{Name}
use Rattle.job.specs.Rules.{good_size, good_name}
use Rattle.job.specs.Names.{spelled}
use Rattle.run.specs.declared.line.Line.{Line}
use Rattle.run.specs.declared.book.Book.{Book}
use Rattle.run.specs.Lines.{lefts, unused, new_line, worked_line}
use Rattle.run.specs.Kept.{is_unused, is_used, line_kept, LinesKept}
use Rattle.run.specs.Steps.{blank_book, book_worked, book_entered}
use Rattle.std.proofs.lemmas.List.Sums.{sum_by-cons}

-- ---- one line

-- a line that is kept now is kept a tick later
pub later : (n c k : ℕ) (l : Line) → line_kept n c k l ≡ true → line_kept n (c + 1) k l ≡ true
later n c k l h = grind (arith, nat_tests)

-- a kept line is that of a job, or unused
abbrev Either : ℕ → ℕ → ℕ → Line → Type 0
Either n c k l = ((k < n) × (is_used c l ≡ true)) ⊎ ((n ≤ k) × (is_unused l ≡ true))

pub either : (n c k : ℕ) (l : Line) → line_kept n c k l ≡ true → Either n c k l
either n c k l h = by (ltb k n) refl h
  where
    by : (b : Bool) → ltb k n ≡ b → cond b (is_used c l) (is_unused l) ≡ true → Either n c k l
    by true e h = inl (ltb-true k n e, h)
    by false e h = inr (ltb-false k n e, h)

used_kept : (n c k : ℕ) (l : Line) → k < n → is_used c l ≡ true → line_kept n c k l ≡ true
used_kept n c k l lt h = ap (λ b. cond b (is_used c l) (is_unused l)) (lt-ltb k n lt) ∙ h

-- the test of a used line over its numbers: g says that its name is good
abbrev used_by : Bool → ℕ → ℕ → ℕ → ℕ → ℕ → Bool
used_by g c a z f t = g && (good_size z && (leb f z && (leb a c && cond (ltb 0 f) (eqb t 0) (leb a t && ltb t c))))

module _ (g : Bool) (c a z f t : ℕ) (h : used_by g c a z f t ≡ true) where
  used_left : f ≤ 10000
  used_left = grind (arith, nat_tests)

  used_arrived : f ≡ 0 → a ≤ t
  used_arrived e = grind (arith, nat_tests)

  used_finished : f ≡ 0 → t < c
  used_finished e = grind (arith, nat_tests)

  used_unit : (b : Bool) → eqb (f - 1) 0 ≡ b → eqb f 0 ≡ false → used_by g (c + 1) a z (f - 1) (cond b c 0) ≡ true
  used_unit true e d = grind (arith, nat_tests)
  used_unit false e d = grind (arith, nat_tests)

unused_left : (b : Bool) (m a z f t : ℕ) → (b && (eqb m 1 && (eqb a 0 && (eqb z 1 && (eqb f 0 && eqb t 0))))) ≡ true → f ≡ 0
unused_left b m a z f t h = grind (arith, nat_tests)

abbrev good_named : Line → Bool
good_named l = good_name (spelled l.name)

abbrev hyphened : Line → Bool
hyphened l = pointwise eqb l.name.bytes (45 ∷ replicate 7 0)

abbrev unit_done : Line → ℕ → Line
unit_done l t = record { name = l.name; arrival = l.arrival; size = l.size; left = l.left - 1; finish = cond (eqb (l.left - 1) 0) t 0 }

unit_kept : (n c k : ℕ) (l : Line) → eqb l.left 0 ≡ false → line_kept n c k l ≡ true → line_kept n (c + 1) k (unit_done l c) ≡ true
unit_kept n c k l e h =
    ⊎_elim
    (λ u. used_kept n (c + 1) k (unit_done l c) u.0 (used_unit (good_named l) c l.arrival l.size l.left l.finish u.1 (eqb (l.left - 1) 0) refl e))
    (λ u. let z : l.left ≡ 0 = unused_left (hyphened l) l.name.len l.arrival l.size l.left l.finish u.1 in absurd (never l.left z e))
    (either n c k l h)
  where
    never : (f : ℕ) → f ≡ 0 → eqb f 0 ≡ false → ⊥
    never f z e = grind (arith, nat_tests)

pub worked_kept : (n c k : ℕ) (l : Line) → line_kept n c k l ≡ true → line_kept n (c + 1) k (worked_line l c) ≡ true
worked_kept n c k l h = by (eqb l.left 0) refl
  where
    by : (b : Bool) → eqb l.left 0 ≡ b → line_kept n (c + 1) k (cond b l (unit_done l c)) ≡ true
    by true e = later n c k l h
    by false e = unit_kept n c k l e h

-- a line that is entered with a good name and size is kept
pub new_kept : (n c z : ℕ) (w : Name) → good_size z ≡ true → good_name (spelled w) ≡ true → line_kept (n + 1) c n (new_line w c z) ≡ true
new_kept n c z w g h = grind (arith, nat_tests)

-- the other lines stay kept as a job enters
pub other_kept : (n c k : ℕ) (l : Line) → k ≢ n → line_kept n c k l ≡ true → line_kept (n + 1) c k l ≡ true
other_kept n c k l ne h = grind (arith, nat_tests)

-- ---- what a kept line says

pub left_small : (n c k : ℕ) (l : Line) → line_kept n c k l ≡ true → l.left ≤ 10000
left_small n c k l h =
    ⊎_elim
    (λ u. used_left (good_named l) c l.arrival l.size l.left l.finish u.1)
    (λ u. let z : l.left ≡ 0 = unused_left (hyphened l) l.name.len l.arrival l.size l.left l.finish u.1 in omega arith)
    (either n c k l h)

-- a finished job finished after its arrival, in a tick that has ended
pub finished : (n c k : ℕ) (l : Line) → k < n → line_kept n c k l ≡ true → l.left ≡ 0 → (l.arrival ≤ l.finish) × (l.finish < c)
finished n c k l lt h z =
    ⊎_elim
    (λ u. (used_arrived (good_named l) c l.arrival l.size l.left l.finish u.1 z, used_finished (good_named l) c l.arrival l.size l.left l.finish u.1 z))
    (λ u. let o = u.0 in absurd (omega arith))
    (either n c k l h)

unused_by : (l : Line) (b : Bool) → (b && (eqb l.name.len 1 && (eqb l.arrival 0 && (eqb l.size 1 && (eqb l.left 0 && eqb l.finish 0))))) ≡ true
    → (b ≡ true) × (l.name.len ≡ 1) × (l.arrival ≡ 0) × (l.size ≡ 1) × (l.left ≡ 0) × (l.finish ≡ 0)
unused_by l b e = (grind (arith, nat_tests), grind (arith, nat_tests), grind (arith, nat_tests), grind (arith, nat_tests), grind (arith, nat_tests), grind (arith, nat_tests))

pub unused_is : (l : Line) → is_unused l ≡ true → l ≡ unused
unused_is l e =
    let p = unused_by l (pointwise eqb l.name.bytes (45 ∷ replicate 7 0)) e in
    let b = same_text l.name.bytes (45 ∷ replicate 7 0) (sym p.0) in
    λ i. record { name = record { bytes = b i; len = p.1 i }; arrival = p.2 i; size = p.3 i; left = p.4 i; finish = p.5 i }

pub rest_unused : (n c k : ℕ) (l : Line) → n ≤ k → line_kept n c k l ≡ true → l ≡ unused
rest_unused n c k l le h = ⊎_elim (λ u. let o = u.0 in absurd (omega arith)) (λ u. unused_is l u.1) (either n c k l h)

-- ---- the whole book

pub blank_at : (k : ℕ) → get_or (replicate 1024 unused) k unused ≡ unused
blank_at k =
    ⊎_elim
    (λ l. get_or-replicate 1024 k unused unused l)
    (λ g. get_or_past (replicate 1024 unused) k unused (subst (λ n. n ≤ k) (sym (length-replicate 1024 unused)) g))
    (cases_lt k 1024)

-- a line put at j, where a table read past its end gives an unused line
pub at_set : (ls : List Line) (j k : ℕ) (l : Line) (P : ℕ → Line → Type 0) → P j l → ((i : ℕ) → P i (get_or ls i unused)) → P k (get_or (set ls j l) k unused)
at_set ls j k l P here each =
    ⊎_elim
    (λ e. ⊎_elim
    (λ lt. subst (λ i. P i (get_or (set ls j l) i unused)) (sym e) (subst (λ (x : Line). P j x) (sym (get_or-set_same ls j l unused lt)) here))
    (λ g. subst (λ (xs : List Line). P k (get_or xs k unused)) (sym (set_past ls j l g)) (each k))
    (cases_lt j (length ls)))
    (λ ne. subst (λ (x : Line). P k x) (sym (get_or-set_other ls j k l unused ne)) (each k))
    (cases_eq k j)

pub blank_lines : LinesKept blank_book 0
blank_lines k = ap (λ (l : Line). line_kept 0 0 k l) (blank_at k) ∙ no_more k
  where
    no_more : (k : ℕ) → line_kept 0 0 k unused ≡ true
    no_more k = let e : ltb k 0 ≡ false = grind (arith, nat_tests) in ap (λ b. cond b (is_used 0 unused) true) e

pub later_lines : (b : Book) (c : ℕ) → LinesKept b c → LinesKept b (c + 1)
later_lines b c h k = later b.entered c k (get_or b.lines k unused) (h k)

pub worked_lines : (b : Book) (c j : ℕ) → LinesKept b c → LinesKept (book_worked b j c) (c + 1)
worked_lines b c j h k =
    at_set b.lines j k (worked_line (get_or b.lines j unused) c) (λ i l. line_kept b.entered (c + 1) i l ≡ true)
    (worked_kept b.entered c j (get_or b.lines j unused) (h j))
    (later_lines b c h)

pub entered_lines : (b : Book) (c z : ℕ) (w : Name) → b.entered < length b.lines → good_size z ≡ true → good_name (spelled w) ≡ true → LinesKept b c → LinesKept (book_entered b w c z) c
entered_lines b c z w lt g e h k =
    let n = b.entered in
    ⊎_elim
    (λ q. subst (λ i. line_kept (n + 1) c i (get_or (set b.lines n (new_line w c z)) i unused) ≡ true) (sym q)
    (ap (λ (l : Line). line_kept (n + 1) c n l) (get_or-set_same b.lines n (new_line w c z) unused lt) ∙ new_kept n c z w g e))
    (λ ne. ap (λ (l : Line). line_kept (n + 1) c k l) (get_or-set_other b.lines n k (new_line w c z) unused ne) ∙ other_kept n c k (get_or b.lines k unused) ne (h k))
    (cases_eq k n)

-- ---- the sum of what is left

pub sum_small : (ls : List Line) → ((k : ℕ) → (get_or ls k unused).left ≤ 10000) → sum_by (λ x. x.left) ls ≤ 10000 * length ls
sum_small [] h = omega arith
sum_small (l ∷ ls) h =
    let a = h 0 in
    let b = sum_small ls (λ k. h (suc k)) in
    omega (arith, sum_by-cons (λ (x : Line). x.left) l ls)

-- ---- the left work of the lines

pub lefts_at : (ls : List Line) (j : ℕ) → get_or (lefts ls) j 0 ≡ (get_or ls j unused).left
lefts_at ls j =
    ⊎_elim
    (λ l. get_or-map (λ (x : Line). x.left) ls j unused 0 l)
    (λ g. let e : length (lefts ls) ≤ j = rw length-map g in get_or_past (lefts ls) j 0 e ∙ sym (ap (λ (x : Line). x.left) (get_or_past ls j unused g)))
    (cases_lt j (length ls))

pub worked_left : (l : Line) (t : ℕ) → (worked_line l t).left ≡ l.left - 1
worked_left l t = by (eqb l.left 0) refl
  where
    none : (n : ℕ) → eqb n 0 ≡ true → n ≡ n - 1
    none n e = grind (arith, nat_tests)

    by : (b : Bool) → eqb l.left 0 ≡ b → (cond b l (unit_done l t)).left ≡ l.left - 1
    by true e = none l.left e
    by false e = refl

-- one unit done on a line takes one from its left
pub lefts_worked : (ls : List Line) (j t : ℕ) → lefts (set ls j (worked_line (get_or ls j unused) t)) ≡ set (lefts ls) j (get_or (lefts ls) j 0 - 1)
lefts_worked ls j t =
    map-set (λ (x : Line). x.left) ls j (worked_line (get_or ls j unused) t)
    ∙ ap (λ n. set (lefts ls) j n) (worked_left (get_or ls j unused) t ∙ ap (λ n. n - 1) (sym (lefts_at ls j)))
