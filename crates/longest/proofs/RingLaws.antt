-- The ring as a list of candidates.
use Prim.Native.Nat.{ℕ, zero, suc, ◌+◌, ◌-◌, ◌%◌, ◌≤◌, ◌<◌}
use mathlib.Core.Path.{◌≡◌, refl, sym, ap, ◌∙◌}
use mathlib.Core.List.{List, [], ◌∷◌, ◌++◌}
use mathlib.Core.Bool.{Bool, true, false, cond}
use native.Mathlib.Omega.{arith}
use lib.Dec.{ltb}
use lib.ListN.{length, get_or, set}
use lib.Seq.{get_or-set_same, get_or-set_other}
use borrow.Author.Tests.{lt-ltb, le-ltb, eq-eqb, ne_eqb}
use Rattle.longest.specs.declared.ring.Candidate.{Candidate}
use Rattle.longest.specs.Ring.{held, behind, trimmed, without}

-- the one at a place
unfoldable pub slot : List Candidate → ℕ → Candidate
slot places p = get_or places (p % 64) (record { seconds = 0; index = 0 })

pub length_held : (places : List Candidate) (head n : ℕ) → length (held places head n) ≡ n
unfolding held
length_held places head zero = refl
length_held places head (suc n) = ap suc (length_held places (head + 1) n)

-- around the end
held_same : (places : List Candidate) (a b n : ℕ) → a % 64 ≡ b % 64 → held places a n ≡ held places b n
unfolding held
held_same places a b zero e = refl
held_same places a b (suc n) e =
    rw (e, held_same places (a + 1) (b + 1) n (omega arith)) refl

-- the oldest by itself
pub held_oldest : (places : List Candidate) (head n : ℕ) → 0 < n
    → held places head n ≡ slot places head ∷ held places ((head + 1) % 64) (n - 1)
unfolding held slot
held_oldest places head zero l = absurd (omega arith)
held_oldest places head (suc n) l =
    let e : suc n - 1 ≡ n = omega arith in
    rw e (ap (λ (c : List Candidate). slot places head ∷ c) (held_same places (head + 1) ((head + 1) % 64) n (omega arith)))

-- the newest by itself
held_newest : (places : List Candidate) (head n : ℕ) → held places head (suc n) ≡ held places head n ++ (slot places (head + n) ∷ [])
unfolding held slot
held_newest places head zero = let e : head + 0 ≡ head = omega arith in rw e refl
held_newest places head (suc n) =
    let e : head + suc n ≡ head + 1 + n = omega arith in
    rw e (ap (λ (c : List Candidate). slot places head ∷ c) (held_newest places (head + 1) n))

-- a place that none of them has may be set
held_set : (places : List Candidate) (head n k : ℕ) (d : Candidate) → ((m : ℕ) → m < n → (head + m) % 64 ≡ k → ⊥) → held (set places k d) head n ≡ held places head n
unfolding held
held_set places head zero k d h = refl
held_set places head (suc n) k d h =
    let e : head % 64 ≡ k → ⊥ = λ q. h 0 (omega arith) (omega arith) in
    rw (get_or-set_other places k (head % 64) d (record { seconds = 0; index = 0 }) e, held_set places (head + 1) n k d (λ m l q. h (suc m) (omega arith) (omega arith))) refl

-- one more
pub held_more : (places : List Candidate) (head n : ℕ) (d : Candidate) → length places ≡ 64 → n < 64
    → held (set places ((head + n) % 64) d) head (n + 1) ≡ held places head n ++ (d ∷ [])
unfolding slot
held_more places head n d a h =
    let k = (head + n) % 64 in
    let z : n + 1 ≡ suc n = omega arith in
    let s : get_or (set places k d) k (record { seconds = 0; index = 0 }) ≡ d = get_or-set_same places k d (record { seconds = 0; index = 0 }) (omega arith) in
    rw z (held_newest (set places k d) head n ∙ rw (s, held_set places head n k d (λ m l e. omega arith)) refl)

-- without the newest that are shorter
trimmed_last : (x : ℕ) (c : List Candidate) (d : Candidate) → trimmed x (c ++ (d ∷ [])) ≡ cond (ltb d.seconds x) (trimmed x c) (c ++ (d ∷ []))
unfolding trimmed behind
trimmed_last x [] d = refl
trimmed_last x (e ∷ c) d = rw (trimmed_last x c d) (go (ltb d.seconds x) c)
  where
    go : (t : Bool) (c : List Candidate) → behind x e (cond t (trimmed x c) (c ++ (d ∷ []))) ≡ cond t (behind x e (trimmed x c)) (e ∷ (c ++ (d ∷ [])))
    go true c = refl
    go false [] = refl
    go false (f ∷ c) = refl

-- as the loop goes: the newest is shorter, it is not
module _ (places : List Candidate) (x head n : ℕ) where
  newest : trimmed x (held places head (suc n)) ≡ cond (ltb (slot places (head + n)).seconds x) (trimmed x (held places head n)) (held places head (suc n))
  newest =
      let e = held_newest places head n in
      ap (trimmed x) e ∙ trimmed_last x (held places head n) (slot places (head + n))
      ∙ ap (cond (ltb (slot places (head + n)).seconds x) (trimmed x (held places head n))) (sym e)

  pub newest_shorter : (slot places (head + n)).seconds < x → trimmed x (held places head (suc n)) ≡ trimmed x (held places head n)
  newest_shorter h = newest ∙ simp (lt-ltb _ _ h)

  pub newest_stays : x ≤ (slot places (head + n)).seconds → trimmed x (held places head (suc n)) ≡ held places head (suc n)
  newest_stays h = newest ∙ simp (le-ltb _ _ h)

pub none_trimmed : (places : List Candidate) (x head : ℕ) → trimmed x (held places head 0) ≡ held places head 0
unfolding held trimmed
none_trimmed places x head = refl

-- the oldest goes, stays, is none
module _ (places : List Candidate) (head n index : ℕ) where
  module _ (h : head < 64) (l : 0 < n) where
    at_head : head % 64 ≡ head
    at_head = omega arith

    first : without index (held places head n) ≡ without index (slot places head ∷ held places ((head + 1) % 64) (n - 1))
    first = ap (without index) (held_oldest places head n l)

    pub held_goes : (get_or places head (record { seconds = 0; index = 0 })).index ≡ index → without index (held places head n) ≡ held places ((head + 1) % 64) (n - 1)
    unfolding slot without
    held_goes e = first ∙ rw at_head (simp (eq-eqb _ _ e))

    pub held_stays : ((get_or places head (record { seconds = 0; index = 0 })).index ≡ index → ⊥) → without index (held places head n) ≡ held places head n
    unfolding slot without
    held_stays e = first ∙ rw at_head (simp (ne_eqb _ _ e)) ∙ sym (held_oldest places head n l)

  pub held_empty : n ≤ 0 → without index (held places head n) ≡ held places head n
  unfolding held without
  held_empty l = let e : n ≡ 0 = omega arith in rw e refl
