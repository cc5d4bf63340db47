-- What is answered and given, as the code judges.
use Prim.Native.Nat.{ℕ, ◌+◌, ◌-◌, ◌*◌, ◌/◌, ◌≤◌, ◌<◌}
use mathlib.Core.Path.{◌≡◌, refl, sym, ap, ◌∙◌}
use mathlib.Core.List.{List}
use mathlib.Core.Bool.{Bool, true, false, ◌||◌}
use native.Mathlib.Omega.{arith}
use lib.Dec.{ltb}
use lib.ListN.{length, drop}
use borrow.Author.Tests.{lt-ltb, le-ltb, ltb-false}
use Rattle.std.specs.Prelude.{Ok, Err}
use Rattle.buffers.specs.Bytes.{AllBelow, over}
use Rattle.buffers.proofs.Laws.{neither}
use Rattle.leb128.specs.Leb128.{encoded, decoded_all}
use Rattle.refusal.specs.declared.Refusal.{Refusal}
use Rattle.refusal.specs.declared.Refusal.TheVariants.{LogWindow}
use Rattle.run_log.specs.Output.{answer_of, Answered}
use Rattle.run_log.specs.RunLog.{read_log}
use Rattle.run_log.proofs.Results.{fit_refused, fit_short, fit_room, refused_answer, refused_answered, gives_answered}
use Rattle.run_log.proofs.Reading.{Accepted, accepted_values}
use Rattle.longest.specs.Longest.{lengths, windows, slide_entries, slide_log, sliding}
use Rattle.longest.proofs.Windows.{length_windows}
use Rattle.longest.proofs.Entries.{length_lengths}

-- what the definition asks of a window
in_range_lem : (window : ℕ) → (ltb window 1 || ltb 64 window) ≡ false → (1 ≤ window) × (window ≤ 64)
in_range_lem window e = let t = neither _ _ e in (ltb-false _ _ t.0, ltb-false _ _ t.1)

-- a window that the tests of the code let pass, and one that they do not
pub inside : (window : ℕ) → 1 ≤ window → window ≤ 64 → (ltb window 1 || ltb 64 window) ≡ false
inside window a b = simp (le-ltb window 1 a, le-ltb 64 window b)

pub outside : (window : ℕ) → (1 ≤ window → window ≤ 64 → ⊥) → (ltb window 1 || ltb 64 window) ≡ true
outside window n = go (ltb window 1 || ltb 64 window) refl
  where
    go : (t : Bool) → (ltb window 1 || ltb 64 window) ≡ t → t ≡ true
    go true e = refl
    go false e = let r = in_range_lem window e in absurd (n r.0 r.1)

module _ (window : ℕ) (s out : List ℕ) where
  refused_with : {k : Refusal} → slide_log window s ≡ Err k → Answered 2 (sliding window s (length out)) out (Err k) out
  unfolding sliding
  refused_with e = refused_answered 2 out (fit_refused LogWindow (length out) e)

  pub slide_window : (ltb window 1 || ltb 64 window) ≡ true → Answered 2 (sliding window s (length out)) out (Err LogWindow) out
  unfolding slide_log
  slide_window e = refused_with (rw e refl)

  module _ (w : (ltb window 1 || ltb 64 window) ≡ false) where
    of_log : slide_log window s ≡ slide_entries window (read_log s)
    unfolding slide_log
    of_log = rw w refl

    -- the reader refuses
    pub slide_refused : {k : Refusal} → Err k ≡ answer_of 3 (read_log s) → Answered 2 (sliding window s (length out)) out (Err k) out
    unfolding slide_entries
    slide_refused e = refused_with (of_log ∙ ap (slide_entries window) (refused_answer 3 (read_log s) e))

    module _ {count : ℕ} (c : Accepted s count) where
      counts : length (lengths c.ns) ≡ count
      counts = omega (arith, length_lengths c.ns, c.numbers)

      pub slide_many : 1024 < count → Answered 2 (sliding window s (length out)) out (Err LogWindow) out
      unfolding slide_entries
      slide_many h = let l : 1024 < length (lengths c.ns) = omega (arith, counts) in
          refused_with (of_log ∙ ap (slide_entries window) c.is ∙ simp (lt-ltb _ _ l))

      module _ (m : count ≤ 1024) {n : ℕ} (q : n ≡ count + 1 - window) where
        given_windows : slide_log window s ≡ Ok (windows window 0 (lengths c.ns))
        unfolding slide_entries
        given_windows = let l : length (lengths c.ns) ≤ 1024 = omega (arith, counts) in
            of_log ∙ ap (slide_entries window) c.is ∙ simp (le-ltb _ _ l)

        size : length (windows window 0 (lengths c.ns)) ≡ 2 * n
        size = length_windows window 0 (lengths c.ns) (in_range_lem window w).0 ∙ ap (◌*◌ 2) (ap (λ (k : ℕ). k + 1 - window) counts ∙ sym q)

        pub slide_no_room : length out < 2 * n → Answered 2 (sliding window s (length out)) out (Err LogWindow) out
        unfolding sliding
        slide_no_room h = refused_answered 2 out (fit_short LogWindow (length out) given_windows (omega (arith, size)))

        module _ {from : ℕ} (b : AllBelow 256 s) (f : from ≡ length (encoded count)) (l : 2 * n ≤ length out) where
          values : windows window 0 (lengths (decoded_all (3 * count) (drop from s))) ≡ windows window 0 (lengths c.ns)
          values = ap (λ (x : List ℕ). windows window 0 (lengths x)) (accepted_values s out c b f)

          pub slide_room : length (windows window 0 (lengths (decoded_all (3 * count) (drop from s)))) ≤ length out
          slide_room = omega (arith, ap length values, size)

          pub slide_given : {u : List ℕ} → u ≡ over 0 (windows window 0 (lengths (decoded_all (3 * count) (drop from s)))) out
              → Answered 2 (sliding window s (length out)) out (Ok n) u
          unfolding sliding answer_of
          slide_given e =
              let d : n ≡ length (windows window 0 (lengths c.ns)) / 2 = omega (arith, size) in
              gives_answered 2 (fit_room LogWindow (length out) given_windows (omega (arith, size))) (rw (← d) refl) (e ∙ ap (λ (x : List ℕ). over 0 x out) values)
