-- The loop that zeros reserved and closing bytes: `ToNormalize` says what is left to zero from an offset on and what it comes to; a turn zeros those
-- of the record there, by `normal`.
use Prim.Native.Nat.{ℕ, ◌+◌, ◌-◌, ◌≤◌, ◌<◌}
use mathlib.Core.Path.{◌≡◌, refl, sym, ap, ap₂, ◌∙◌, subst}
use mathlib.Core.List.{List, ◌++◌, append_assoc, append-nil}
use native.Mathlib.Omega.{arith}
use lib.ListN.{length, set, take, drop, drop_of_length-le, take-append-drop, length-append, length-drop, length-set, get_or-append}
use lib.Seq.{take_at, drop_at, set-append_left, drop-drop, length-take-le}
use Rattle.buffers.specs.Bytes.{over}
use Rattle.buffers.proofs.LoopSteps.{tail}
use Rattle.bank.specs.Number.{u32_at}
use Rattle.bank.specs.Record.{Record, record_of, name_at, value_at, size_at, record_bytes, records_bytes}
use Rattle.bank.specs.Raw.{Whole, Raw, none, one}
use Rattle.bank.proofs.Normal.{normal}

-- what is left to do in s from an offset on, and what it comes to
pub record ToNormalize (total : ℕ) (target s : List ℕ) (at : ℕ) : Type 0 where
  pub front : List ℕ
  pub bytes : List ℕ
  pub rest : List ℕ
  pub records : List Record
  pub is : s ≡ front ++ (bytes ++ rest)
  pub begins : length front ≡ at
  pub ends : at + length bytes ≡ total
  pub raw : Raw bytes records
  pub goal : front ++ (records_bytes records ++ rest) ≡ target

-- numbers in a front are those of the whole
u32_front : (x t : List ℕ) (i : ℕ) → i + 4 ≤ length x → u32_at (x ++ t) i ≡ u32_at x i
unfolding u32_at
u32_front x t i h =
    simp
    (get_or-append x t 0 i (omega arith), get_or-append x t 0 (i + 1) (omega arith), get_or-append x t 0 (i + 2) (omega arith), get_or-append x t 0 (i + 3) (omega arith))

module _ (x t : List ℕ) (w : Whole x) where
  long : 37 ≤ length x
  long = let l = w.long in let n = w.named in omega arith

  pub name_front : name_at (x ++ t) ≡ name_at x
  name_front = let l = long in u32_front x t 8 (omega arith)

  value_front : value_at (x ++ t) ≡ value_at x
  value_front = let l = long in u32_front x t 12 (omega arith)

  pub size_front : size_at (x ++ t) ≡ length x
  size_front = omega (arith, name_front, value_front, w.long)

  pub normal_front : set (set (x ++ t) 3 0) (35 + name_at (x ++ t)) 0 ≡ record_bytes (record_of x) ++ t
  normal_front =
      let l = w.long in
      let n = w.named in
      let k : 35 + name_at (x ++ t) ≡ 35 + name_at x = omega (arith, name_front) in
      let a : set (x ++ t) 3 0 ≡ set x 3 0 ++ t = set-append_left x t 3 0 (omega arith) in
      let b : 35 + name_at x < length (set x 3 0) = omega (arith, length-set x 3 0) in
      ap₂ (λ (y : List ℕ) (i : ℕ). set y i 0) a k ∙ set-append_left (set x 3 0) t (35 + name_at x) 0 b
      ∙ ap (λ (y : List ℕ). y ++ t) (normal x w)

-- one turn: n is the size read at the offset, y what normalizing leaves of the part from there
pub record NormalizeTurn (total : ℕ) (target s : List ℕ) (at : ℕ) : Type 0 where
  pub named : 0 < name_at (drop at s)
  pub fits : size_at (drop at s) ≤ length (drop at s)
  pub more : 36 < size_at (drop at s)
  pub within : at + size_at (drop at s) ≤ total
  pub next : (y : List ℕ) → y ≡ set (set (drop at s) 3 0) (35 + name_at (drop at s)) 0
      → ToNormalize total target (take at s ++ y) (at + size_at (drop at s))

module _ (total at : ℕ) (target s front rest : List ℕ) (begins : length front ≡ at) where
  turn_of : {bytes : List ℕ} {records : List Record} → Raw bytes records → s ≡ front ++ (bytes ++ rest) → at + length bytes ≡ total
      → front ++ (records_bytes records ++ rest) ≡ target
      → at < total
      → NormalizeTurn total target s at
  unfolding records_bytes
  turn_of none is ends goal h = absurd (omega arith)
  turn_of (one {x} {rest = more} {rs} w raw) is ends goal h =
      let t = more ++ rest in
      let l = w.long in
      let n = w.named in
      let e : drop at s ≡ x ++ t =
      ap (drop at) is ∙ drop_at front ((x ++ more) ++ rest) at begins ∙ append_assoc x more rest in
      let f : take at s ≡ front = ap (take at) is ∙ take_at front ((x ++ more) ++ rest) at begins in
      let nm : name_at (drop at s) ≡ name_at x = ap name_at e ∙ name_front x t w in
      let sz : size_at (drop at s) ≡ length x = ap size_at e ∙ size_front x t w in
      let lx : length (drop at s) ≡ length x + length t = ap length e ∙ length-append x t in
      let g : set (set (drop at s) 3 0) (35 + name_at (drop at s)) 0 ≡ record_bytes (record_of x) ++ t =
      ap (λ (y : List ℕ). set (set y 3 0) (35 + name_at y) 0) e ∙ normal_front x t w in
      let lr : length (record_bytes (record_of x)) ≡ length x =
      sym (ap length (normal x w)) ∙ length-set (set x 3 0) (35 + name_at x) 0 ∙ length-set x 3 0 in
      record {
        named = omega (arith, nm);
        fits = omega (arith, sz, lx);
        more = omega (arith, sz);
        within = omega (arith, sz, length-append x more);
        next =
            λ y q. record {
              front = front ++ record_bytes (record_of x);
              bytes = more;
              rest = rest;
              records = rs;
              is = ap₂ (λ (a b : List ℕ). a ++ b) f (q ∙ g) ∙ sym (append_assoc front (record_bytes (record_of x)) t);
              begins = length-append front (record_bytes (record_of x)) ∙ omega (arith, lr, sz);
              ends = omega (arith, sz, length-append x more);
              raw = raw;
              goal = append_assoc front (record_bytes (record_of x)) (records_bytes rs ++ rest)
                  ∙ ap (λ (a : List ℕ). front ++ a) (sym (append_assoc (record_bytes (record_of x)) (records_bytes rs) rest))
                  ∙ goal;
            };
      }

pub turn : (total : ℕ) (target s : List ℕ) (at : ℕ) → ToNormalize total target s at → at < total → NormalizeTurn total target s at
turn total target s at k h = turn_of total at target s k.front k.rest k.begins k.raw k.is k.ends k.goal h

-- nothing is left at the end
pub done : (total : ℕ) (target s : List ℕ) → ToNormalize total target s total → s ≡ target
unfolding records_bytes
done total target s k = go k.raw k.is k.ends k.goal
  where
    go : {bytes : List ℕ} {records : List Record} → Raw bytes records → s ≡ k.front ++ (bytes ++ k.rest) → total + length bytes ≡ total
        → k.front ++ (records_bytes records ++ k.rest) ≡ target
        → s ≡ target
    go none is ends goal = is ∙ goal
    go (one {x} {rest = more} {rs} w raw) is ends goal = absurd (omega (arith, w.long, length-append x more))

pub raw_length : {x : List ℕ} {rs : List Record} → Raw x rs → length (records_bytes rs) ≡ length x
unfolding records_bytes
raw_length none = refl
raw_length (one {x} {rest = more} {rs} w raw) =
    let lr : length (record_bytes (record_of x)) ≡ length x =
    sym (ap length (normal x w)) ∙ length-set (set x 3 0) (35 + name_at x) 0 ∙ length-set x 3 0 in
    length-append (record_bytes (record_of x)) (records_bytes rs) ∙ cc (lr, raw_length raw, length-append x more)

-- where the loop begins
pub begin : (total : ℕ) (s : List ℕ) (rs : List Record) → 24 ≤ total → total ≤ length s → Raw (take (total - 24) (drop 24 s)) rs
    → ToNormalize total (over 24 (records_bytes rs) s) s 24
unfolding over
begin total s rs l h raw =
    let x = take (total - 24) (drop 24 s) in
    let lx : length x ≡ total - 24 = length-take-le (total - 24) (drop 24 s) (omega (arith, length-drop 24 s)) in
    let e : 24 + length (records_bytes rs) ≡ total = omega (arith, raw_length raw) in
    let d : drop (total - 24) (drop 24 s) ≡ drop total s =
    (let i : 24 + (total - 24) ≡ total = omega arith in drop-drop (total - 24) 24 s ∙ ap (λ (j : ℕ). drop j s) i) in
    record {
      front = take 24 s;
      bytes = x;
      rest = drop total s;
      records = rs;
      is = sym (take-append-drop 24 s) ∙ ap (λ (y : List ℕ). take 24 s ++ y) (sym (take-append-drop (total - 24) (drop 24 s)) ∙ ap (λ (y : List ℕ). x ++ y) d);
      begins = length-take-le 24 s (omega arith);
      ends = omega arith;
      raw = raw;
      goal = ap (λ (i : ℕ). take 24 s ++ (records_bytes rs ++ drop i s)) (sym e);
    }

-- the same in the code's terms: the part from the offset is lent, and comes back as y
module _ (total : ℕ) (target s : List ℕ) (at : ℕ) (k : ToNormalize total target s at) (h : at < total) where
  abbrev part : List ℕ
  part = take (length s - at) (drop at s)

  pub part_fits : (0 < name_at part) × (size_at part ≤ length part)
  part_fits =
      let t = turn total target s at k h in
      subst (λ (l : List ℕ). (0 < name_at l) × (size_at l ≤ length l)) (sym (tail s at)) (t.named, t.fits)

  module _ (n : ℕ) (y : List ℕ) (q : n ≡ size_at part) (p : y ≡ set (set part 3 0) (35 + name_at part) 0) where
    size_here_lem : n ≡ size_at (drop at s)
    size_here_lem = q ∙ ap size_at (tail s at)

    pub step_more : 36 < n
    step_more = omega (arith, size_here_lem, (turn total target s at k h).more)

    pub step_within : at + n ≤ total
    step_within = omega (arith, size_here_lem, (turn total target s at k h).within)

    back : take at s ++ (y ++ drop (length s - at) (drop at s)) ≡ take at s ++ y
    back =
        let l : length (drop at s) ≤ length s - at = omega (arith, length-drop at s) in
        ap (λ (z : List ℕ). take at s ++ (y ++ z)) (drop_of_length-le (drop at s) l) ∙ ap (λ (z : List ℕ). take at s ++ z) (append-nil y)

    pub step_next : ToNormalize total target (take at s ++ (y ++ drop (length s - at) (drop at s))) (at + n)
    step_next =
        let here = p ∙ ap (λ (l : List ℕ). set (set l 3 0) (35 + name_at l) 0) (tail s at) in
        subst (λ (z : List ℕ). ToNormalize total target z (at + n)) (sym back)
        (subst (λ (i : ℕ). ToNormalize total target (take at s ++ y) (at + i)) (sym size_here_lem) ((turn total target s at k h).next y here))
