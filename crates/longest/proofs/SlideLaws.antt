-- The walk over the entries: what is known of the ring and the output between two turns, and that a turn keeps it.
use Prim.Native.Nat.{ℕ, suc, ◌+◌, ◌-◌, ◌*◌, ◌≤◌, ◌<◌}
use mathlib.Core.Path.{◌≡◌, refl, sym, ap, ◌∙◌}
use mathlib.Core.List.{List, [], ◌∷◌, ◌++◌, append_assoc, append-nil}
use mathlib.Core.Bool.{Bool, true, false, cond}
use native.Mathlib.Omega.{arith}
use lib.Dec.{eqb}
use lib.ListN.{length, take, length-append}
use borrow.Author.Tests.{eqb-true, eqb-false}
use Rattle.buffers.specs.Bytes.{over}
use Rattle.buffers.proofs.OverLaws.{over_none, over_over, length_over}
use Rattle.longest.specs.declared.ring.Candidate.{Candidate}
use Rattle.longest.specs.Longest.{largest, longest, windows}
use Rattle.longest.specs.Ring.{trimmed, without}
use Rattle.longest.proofs.Windows.{windows_none, windows_next, length_windows}
use Rattle.longest.proofs.Candidates.{candidates, length_candidates, best, Oldest, oldest, kept, candidates_more, candidates_fall, trimmed_kept}

-- i entries were passed, and the lengths `left` are to come: the last ones, fewer than `most`, are the window from `first` on, whose candidates stand
-- in the ring; and the windows still to be given make the output what it is to be
pub record Slides (window most : ℕ) (goal left out : List ℕ) (ring : List Candidate) (first i : ℕ) : Type 0 where
  pub inside : List ℕ
  pub few : length inside < most
  pub passed : first + length inside ≡ i
  pub held : ring ≡ candidates first inside
  pub room : 2 * first + length (windows window first (inside ++ left)) ≤ length out
  pub to_give : over (2 * first) (windows window first (inside ++ left)) out ≡ goal

-- at the start
pub begin : (window : ℕ) (left out : List ℕ) → 1 ≤ window → length (windows window 0 left) ≤ length out
    → Slides window window (over 0 (windows window 0 left) out) left out [] 0 0
unfolding candidates
begin window left out h l =
    record {
      inside = [];
      few = omega arith;
      passed = refl;
      held = refl;
      room = omega arith;
      to_give = refl;
    }

module _ {window most : ℕ} {goal left out : List ℕ} {ring : List Candidate} {first i : ℕ} (h : Slides window most goal left out ring first i) where
  -- the output keeps its length
  pub sized : length out ≡ length goal
  sized = sym (length_over (2 * first) (windows window first (h.inside ++ left)) out h.room) ∙ ap length h.to_give

  -- the ring has room for one more
  pub ring_room : most ≤ 64 → length ring < 64
  ring_room l = omega (arith, ap length h.held, length_candidates first h.inside, h.few)

  -- there is room for a full window
  pub full_room : 1 ≤ window → i - first ≡ window → 2 * first + 2 ≤ length out
  full_room l e =
      let n = length_windows window first (h.inside ++ left) l in
      omega (arith, h.room, h.passed, length-append h.inside left)

-- when no entry is left
pub done : {window : ℕ} {goal left out : List ℕ} {ring : List Candidate} {first i : ℕ} → Slides window window goal left out ring first i → left ≡ [] → out ≡ goal
done {window} {goal} {left} {out} {ring} {first} h e =
    let x : h.inside ++ left ≡ h.inside = ap (◌++◌ h.inside) e ∙ append-nil h.inside in
    let w : windows window first (h.inside ++ left) ≡ [] = ap (windows window first) x ∙ windows_none window first h.inside h.few in
    sym (over_none (2 * first) out) ∙ ap (λ (y : List ℕ). over (2 * first) y out) (sym w) ∙ h.to_give

-- one entry more, put behind those that are not shorter
pub pushed : {window : ℕ} {goal rest left out : List ℕ} {ring ring' : List Candidate} {first i x : ℕ} → Slides window window goal rest out ring first i
    → rest ≡ x ∷ left
    → ring' ≡ trimmed x ring ++ (record { seconds = x; index = i } ∷ [])
    → Slides window (window + 1) goal left out ring' first (i + 1)
pushed {window} {goal} {rest} {left} {out} {ring} {ring'} {first} {i} {x} h e q =
    let w = h.inside in
    let newest = λ (j : ℕ) (c : List Candidate). c ++ (record { seconds = x; index = j } ∷ []) in
    let c : w ++ rest ≡ (w ++ (x ∷ [])) ++ left = ap (◌++◌ w) e ∙ sym (append_assoc w (x ∷ []) left) in
    record {
      inside = w ++ (x ∷ []);
      few = omega (arith, h.few, length-append w (x ∷ []));
      passed = omega (arith, h.passed, length-append w (x ∷ []));
      held = q
          ∙ ap (newest i) (ap (trimmed x) h.held ∙ trimmed_kept x (largest w) (candidates first w) (candidates_fall first w))
          ∙ ap (λ (j : ℕ). newest j (kept x (candidates first w))) (sym h.passed)
          ∙ sym (candidates_more first w x);
      room = rw (← c) h.room;
      to_give = rw (← c) h.to_give;
    }

-- the window is not full yet
pub not_full : {window : ℕ} {goal left out : List ℕ} {ring : List Candidate} {first i : ℕ} → Slides window (window + 1) goal left out ring first i
    → (i - first ≡ window → ⊥)
    → Slides window window goal left out ring first i
not_full {window} h n =
    record {
      inside = h.inside;
      few = let d : length h.inside ≡ window → ⊥ = λ e. n (omega (arith, h.passed)) in omega (arith, h.few);
      passed = h.passed;
      held = h.held;
      room = h.room;
      to_give = h.to_give;
    }

-- where the oldest goes or stays, the candidates of the window that begins an entry later are left
left_over : (first x : ℕ) (xs : List ℕ) → without first (candidates first (x ∷ xs)) ≡ candidates (first + 1) xs
unfolding without
left_over first x xs = ap (without first) o.all ∙ go (eqb (best first (x ∷ xs)).index first) refl
  where
    o : Oldest first x xs
    o = oldest first x xs

    go : (t : Bool) → eqb (best first (x ∷ xs)).index first ≡ t → cond t o.others (best first (x ∷ xs) ∷ o.others) ≡ candidates (first + 1) xs
    go true t = sym (o.goes (eqb-true _ _ t))
    go false t = sym (o.stays (eqb-false _ _ t))

-- the window is full: its longest is given, and the next one begins an entry later
pub full : {window : ℕ} {goal left out u : List ℕ} {ring ring' : List Candidate} {first i : ℕ} {d : Candidate} → Slides window (window + 1) goal left out ring first i
    → 1 ≤ window
    → i - first ≡ window
    → take 1 ring ≡ d ∷ []
    → u ≡ over (2 * first) (d.seconds ∷ d.index ∷ []) out
    → ring' ≡ without first ring
    → Slides window window goal left u ring' (first + 1) i
unfolding longest best
full {window} {goal} {left} {out} {u} {ring} {ring'} {first} {i} {d} h l e f p q = go h.inside refl
  where
    go : (w : List ℕ) → h.inside ≡ w → Slides window window goal left u ring' (first + 1) i
    go [] n = absurd (omega (arith, h.passed, ap length n))
    go (x ∷ xs) n =
        let g : ring ≡ candidates first (x ∷ xs) = h.held ∙ ap (candidates first) n in
        let m : suc (length xs) ≡ window = omega (arith, h.passed, ap length n) in
        let o = oldest first x xs in
        let a : d ∷ [] ≡ best first (x ∷ xs) ∷ [] = sym f ∙ ap (take 1) (g ∙ o.all) in
        let b : d ≡ best first (x ∷ xs) = cc in
        let v : u ≡ over (2 * first) (longest first (x ∷ xs)) out = rw b at p in
        let y = windows window (first + 1) (xs ++ left) in
        let w : windows window first (h.inside ++ left) ≡ longest first (x ∷ xs) ++ y =
        ap (λ (z : List ℕ). windows window first (z ++ left)) n ∙ windows_next window first x xs left m in
        let k : 2 * first + 2 + length y ≤ length out = omega (arith, h.room, ap length w) in
        let t : 2 * (first + 1) ≡ 2 * first + 2 = omega arith in
        let s : length u ≡ length out = ap length v ∙ length_over (2 * first) (longest first (x ∷ xs)) out (omega arith) in
        record {
          inside = xs;
          few = omega arith;
          passed = omega (arith, h.passed, ap length n);
          held = q ∙ ap (without first) g ∙ left_over first x xs;
          room = omega arith;
          to_give = ap (over (2 * (first + 1)) y) v
              ∙ over_over (2 * first) (2 * (first + 1)) (longest first (x ∷ xs)) y out t (omega arith)
              ∙ ap (λ (z : List ℕ). over (2 * first) z out) (sym w)
              ∙ h.to_give;
        }
