-- The candidates of a window: the oldest is the longest, and what becomes of them when the window begins an entry later, or ends one later.
use Prim.Native.Nat.{ℕ, suc, ◌+◌, ◌≤◌, ◌<◌, max}
use mathlib.Core.Path.{◌≡◌, refl, sym, ap, ◌∙◌}
use mathlib.Core.List.{List, [], ◌∷◌, ◌++◌}
use mathlib.Core.Bool.{Bool, true, false, cond}
use native.Mathlib.Omega.{arith}
use native.Mathlib.Nat.{max-eq_left, max-eq_right}
use lib.Dec.{ltb}
use lib.ListN.{length}
use borrow.Author.Tests.{lt-ltb, le-ltb, ltb-true, ltb-false, eq-eqb, ne_eqb}
use Rattle.buffers.proofs.Laws.{by_test}
use Rattle.longest.specs.declared.ring.Candidate.{Candidate}
use Rattle.longest.specs.Longest.{largest, index_of}
use Rattle.longest.specs.Ring.{behind, trimmed}

-- each entry that no later one is longer than, the oldest first
unfoldable pub candidates : ℕ → List ℕ → List Candidate
candidates first [] = []
candidates first (x ∷ xs) =
    cond (ltb x (largest xs)) (candidates (first + 1) xs) (record { seconds = x; index = first } ∷ candidates (first + 1) xs)

pub length_candidates : (first : ℕ) (xs : List ℕ) → length (candidates first xs) ≤ length xs
unfolding candidates
length_candidates first [] = omega arith
length_candidates first (x ∷ xs) =
    let h = length_candidates (first + 1) xs in
    by_test (λ (c : List Candidate). length c ≤ suc (length xs)) (ltb x (largest xs)) _ _ (λ t. omega arith) (λ t. omega arith)

-- what a window is to be told of
unfoldable pub best : ℕ → List ℕ → Candidate
best first xs = record { seconds = largest xs; index = first + index_of (largest xs) xs }

-- the oldest is that; it goes with the window's first entry if it is this one
pub record Oldest (first x : ℕ) (xs : List ℕ) : Type 0 where
  pub others : List Candidate
  pub all : candidates first (x ∷ xs) ≡ best first (x ∷ xs) ∷ others
  pub goes : (best first (x ∷ xs)).index ≡ first → candidates (first + 1) xs ≡ others
  pub stays : ((best first (x ∷ xs)).index ≡ first → ⊥) → candidates (first + 1) xs ≡ best first (x ∷ xs) ∷ others

-- the first entry is the longest
oldest_here : (first x : ℕ) (xs : List ℕ) → largest xs ≤ x → Oldest first x xs
unfolding candidates best largest index_of
oldest_here first x xs h =
    let m : max x (largest xs) ≡ x = max-eq_left h in
    let z : first + 0 ≡ first = omega arith in
    let e : best first (x ∷ xs) ≡ record { seconds = x; index = first } = rw m (simp (eq-eqb x x refl) (rw z refl)) in
    record {
      others = candidates (first + 1) xs;
      all = simp (le-ltb x (largest xs) h) (ap (λ (d : Candidate). d ∷ candidates (first + 1) xs) (sym e));
      goes = λ q. refl;
      stays = λ n. absurd (n (ap (λ (d : Candidate). d.index) e));
    }

-- a later one is
oldest_later : (first x y : ℕ) (ys : List ℕ) → x < largest (y ∷ ys) → Oldest (first + 1) y ys → Oldest first x (y ∷ ys)
unfolding candidates best largest index_of
oldest_later first x y ys h o =
    let m : max x (largest (y ∷ ys)) ≡ largest (y ∷ ys) = max-eq_right (omega arith) in
    let d : x ≡ largest (y ∷ ys) → ⊥ = λ q. omega arith in
    let k = index_of (largest (y ∷ ys)) (y ∷ ys) in
    let z : first + (k + 1) ≡ first + 1 + k = omega arith in
    let of_most : ℕ → Candidate = λ n. record { seconds = n; index = first + index_of n (x ∷ y ∷ ys) } in
    let of_test : Bool → Candidate = λ b. record { seconds = largest (y ∷ ys); index = first + cond b 0 (k + 1) } in
    let of_index : ℕ → Candidate = λ i. record { seconds = largest (y ∷ ys); index = i } in
    let e : best first (x ∷ y ∷ ys) ≡ best (first + 1) (y ∷ ys) = ap of_most m ∙ ap of_test (ne_eqb x (largest (y ∷ ys)) d) ∙ ap of_index z in
    let n : (best first (x ∷ y ∷ ys)).index ≡ first → ⊥ = λ q. omega (arith, ap (λ (d : Candidate). d.index) e) in
    record {
      others = o.others;
      all = simp (lt-ltb x (largest (y ∷ ys)) h) (o.all ∙ ap (λ (d : Candidate). d ∷ o.others) (sym e));
      goes = λ q. absurd (n q);
      stays = λ q. o.all ∙ ap (λ (d : Candidate). d ∷ o.others) (sym e);
    }

pub oldest : (first x : ℕ) (xs : List ℕ) → Oldest first x xs
unfolding largest
oldest first x [] = oldest_here first x [] (omega arith)
oldest first x (y ∷ ys) = go (ltb x (largest (y ∷ ys))) refl (oldest (first + 1) y ys)
  where
    go : (t : Bool) → ltb x (largest (y ∷ ys)) ≡ t → Oldest (first + 1) y ys → Oldest first x (y ∷ ys)
    go true t o = oldest_later first x y ys (ltb-true _ _ t) o
    go false t o = oldest_here first x (y ∷ ys) (ltb-false _ _ t)

-- without those that are shorter than x
unfoldable pub kept : ℕ → List Candidate → List Candidate
kept x [] = []
kept x (d ∷ c) = cond (ltb d.seconds x) (kept x c) (d ∷ kept x c)

largest_more : (xs : List ℕ) (y : ℕ) → largest (xs ++ (y ∷ [])) ≡ max (largest xs) y
unfolding largest
largest_more [] y = omega arith
largest_more (x ∷ xs) y = let e = largest_more xs y in omega arith

-- one entry more: the shorter ones go, and it is the newest
pub candidates_more : (first : ℕ) (xs : List ℕ) (y : ℕ)
    → candidates first (xs ++ (y ∷ [])) ≡ kept y (candidates first xs) ++ (record { seconds = y; index = first + length xs } ∷ [])
unfolding candidates kept largest
candidates_more first [] y = let z : first + 0 ≡ first = omega arith in simp (le-ltb y 0 (omega arith)) (rw z refl)
candidates_more first (x ∷ xs) y =
    let z : first + 1 + length xs ≡ first + suc (length xs) = omega arith in
    rw (largest_more xs y) (go (ltb x (largest xs)) (ltb x y) refl refl (rw z at (candidates_more (first + 1) xs y)))
  where
    go : (t u : Bool) → ltb x (largest xs) ≡ t → ltb x y ≡ u
        → candidates (first + 1) (xs ++ (y ∷ [])) ≡ kept y (candidates (first + 1) xs) ++ (record { seconds = y; index = first + suc (length xs) } ∷ [])
        → cond (ltb x (max (largest xs) y)) (candidates (first + 1) (xs ++ (y ∷ []))) (record { seconds = x; index = first } ∷ candidates (first + 1) (xs ++ (y ∷ [])))
        ≡ kept y (cond t (candidates (first + 1) xs) (record { seconds = x; index = first } ∷ candidates (first + 1) xs))
        ++ (record { seconds = y; index = first + suc (length xs) } ∷ [])
    go true u p q h = let l : x < largest xs = ltb-true _ _ p in simp (lt-ltb x (max (largest xs) y) (omega arith)) h
    go false true p q h = let l : x < y = ltb-true _ _ q in simp (lt-ltb x (max (largest xs) y) (omega arith), q) h
    go false false p q h =
        let k : largest xs ≤ x = ltb-false _ _ p in
        let l : y ≤ x = ltb-false _ _ q in
        simp (le-ltb x (max (largest xs) y) (omega arith), q) (ap (λ (c : List Candidate). record { seconds = x; index = first } ∷ c) h)

-- none is longer than m, and none than the one before it
unfoldable pub Falling : ℕ → List Candidate → Type 0
Falling m [] = Unit
Falling m (d ∷ c) = (d.seconds ≤ m) × Falling d.seconds c

falling_below : (m n : ℕ) (c : List Candidate) → m ≤ n → Falling m c → Falling n c
unfolding Falling
falling_below m n [] l h = h
falling_below m n (d ∷ c) l h = (omega (arith, h.0), h.1)

pub candidates_fall : (first : ℕ) (xs : List ℕ) → Falling (largest xs) (candidates first xs)
unfolding candidates Falling largest
candidates_fall first [] = tt
candidates_fall first (x ∷ xs) =
    let c = candidates (first + 1) xs in
    let h = candidates_fall (first + 1) xs in
    by_test (Falling (max x (largest xs))) (ltb x (largest xs)) _ _ (λ t. falling_below (largest xs) (max x (largest xs)) c (omega arith) h)
    (λ t. let l : largest xs ≤ x = ltb-false _ _ t in (omega arith, falling_below (largest xs) x c l h))

-- the shorter ones are then the newest
kept_none : (x m : ℕ) (c : List Candidate) → Falling m c → m < x → kept x c ≡ []
unfolding kept Falling
kept_none x m [] h l = refl
kept_none x m (d ∷ c) h l = let k : d.seconds < x = omega (arith, h.0) in simp (lt-ltb d.seconds x k) (kept_none x d.seconds c h.1 k)

behind_kept : (x : ℕ) (d : Candidate) (c : List Candidate) → x ≤ d.seconds → behind x d c ≡ d ∷ c
unfolding behind
behind_kept x d [] l = simp (le-ltb d.seconds x l)
behind_kept x d (e ∷ c) l = refl

pub trimmed_kept : (x m : ℕ) (c : List Candidate) → Falling m c → trimmed x c ≡ kept x c
unfolding trimmed kept Falling behind
trimmed_kept x m [] h = refl
trimmed_kept x m (d ∷ c) h = go (ltb d.seconds x) refl (trimmed_kept x d.seconds c h.1)
  where
    go : (t : Bool) → ltb d.seconds x ≡ t → trimmed x c ≡ kept x c → behind x d (trimmed x c) ≡ cond t (kept x c) (d ∷ kept x c)
    go true t e = let k = kept_none x d.seconds c h.1 (ltb-true _ _ t) in rw (e, k) (simp t)
    go false t e = behind_kept x d (trimmed x c) (ltb-false _ _ t) ∙ ap (λ (k : List Candidate). d ∷ k) e
