-- The writer: its loop over the entries, its tests, and what it answers and gives.
use Prim.Native.Nat.{ℕ, suc, ◌+◌, ◌/◌, ◌%◌, ◌≤◌, ◌<◌}
use mathlib.Core.Path.{◌≡◌, refl, sym, ap, ◌∙◌}
use mathlib.Core.List.{List, [], ◌∷◌, ◌++◌}
use mathlib.Core.Bool.{Bool, true, false, ◌||◌}
use native.Mathlib.Numerals.{add-one}
use native.Mathlib.Omega.{arith}
use lib.Dec.{ltb}
use lib.ListN.{length, get_or, drop, drop_of_length-le, length-append}
use lib.Seq.{drop-cons}
use borrow.Author.Tests.{lt-ltb, le-ltb, ltb-false}
use Rattle.std.specs.Prelude.{Ok, Err}
use Rattle.std.specs.Simd.{first_chunks}
use Rattle.buffers.specs.Bytes.{over}
use Rattle.buffers.proofs.Laws.{by_test}
use Rattle.buffers.proofs.OverLaws.{over_over}
use Rattle.leb128.specs.Leb128.{encoded, encoded_all}
use Rattle.refusal.specs.declared.Refusal.{Refusal}
use Rattle.refusal.specs.declared.Refusal.TheVariants.{LogOrder, LogLength}
use Rattle.run_log.specs.Output.{answer_of, Answered}
use Rattle.run_log.specs.RunLog.{log_bytes, falls, write_log, writing}
use Rattle.run_log.proofs.Results.{Shows, is_refused, is_given, fit_refused, fit_short, fit_room, refused_answered, gives_answered}

-- a start is below the one before it, of entries by themselves
unfoldable pub entries_fall : ℕ → List (List ℕ) → Bool
entries_fall last [] = false
entries_fall last (entry ∷ entries) = ltb (get_or entry 0 0) last || entries_fall (get_or entry 0 0) entries

pub falls_entries : (last : ℕ) (ns : List ℕ) → falls last ns ≡ entries_fall last (first_chunks 3 (length ns / 3) ns)
unfolding falls entries_fall
falls_entries last [] = refl
falls_entries last (a ∷ []) = refl
falls_entries last (a ∷ b ∷ []) = refl
falls_entries last (a ∷ b ∷ c ∷ ns) =
    let d : suc (suc (suc (length ns))) / 3 ≡ suc (length ns / 3) = omega arith in
    rw d (ap (◌||◌ (ltb a last)) (falls_entries a ns))

-- the loop over them
module _ (entries : List (List ℕ)) (i last : ℕ) (h : i < length entries) where
  falls_turn : entries_fall last (drop i entries)
      ≡ (ltb (get_or (get_or entries i []) 0 0) last || entries_fall (get_or (get_or entries i []) 0 0) (drop (i + 1) entries))
  unfolding entries_fall
  falls_turn = rw (add-one, drop-cons entries i [] h) refl

  pub falls_here : get_or (get_or entries i []) 0 0 < last → entries_fall last (drop i entries) ≡ true
  falls_here l = falls_turn ∙ simp (lt-ltb _ last l)

  pub falls_more : last ≤ get_or (get_or entries i []) 0 0
      → entries_fall last (drop i entries) ≡ entries_fall (get_or (get_or entries i []) 0 0) (drop (i + 1) entries)
  falls_more l = falls_turn ∙ simp (le-ltb _ last l)

pub falls_none : (entries : List (List ℕ)) (i last : ℕ) → length entries ≤ i → entries_fall last (drop i entries) ≡ false
unfolding entries_fall
falls_none entries i last h = rw (drop_of_length-le entries h) refl

-- the log's bytes
pub log_is : (ns : List ℕ) → log_bytes ns ≡ encoded (length ns / 3) ++ encoded_all ns
unfolding log_bytes
log_is ns = refl

pub length_log : (ns : List ℕ) → length (log_bytes ns) ≡ length (encoded (length ns / 3)) + length (encoded_all ns)
length_log ns = ap length (log_is ns) ∙ length-append (encoded (length ns / 3)) (encoded_all ns)

-- the tests
module _ (ns : List ℕ) where
  pub write_threes : 0 < length ns % 3 → write_log ns ≡ Err LogLength
  unfolding write_log
  write_threes h = simp (lt-ltb _ _ h)

  module _ (t : length ns % 3 ≡ 0) where
    three : length ns % 3 ≤ 0
    three = omega arith

    pub write_falls : falls 0 ns ≡ true → write_log ns ≡ Err LogOrder
    unfolding write_log
    write_falls r = simp (le-ltb _ _ three, r)

    module _ (r : falls 0 ns ≡ false) where
      pub write_long : 4096 < length (log_bytes ns) → write_log ns ≡ Err LogLength
      unfolding write_log
      write_long h = simp (le-ltb _ _ three, r, lt-ltb _ _ h)

      pub write_gives : length (log_bytes ns) ≤ 4096 → write_log ns ≡ Ok (log_bytes ns)
      unfolding write_log
      write_gives h = simp (le-ltb _ _ three, r, le-ltb _ _ h)

-- entries that were written
pub record Made (ns s : List ℕ) : Type 0 where
  pub threes : length ns % 3 ≡ 0
  pub rises : falls 0 ns ≡ false
  pub is : s ≡ log_bytes ns
  pub size : length s ≤ 4096

-- what comes of writing shows of the entries
pub write_shows : (ns : List ℕ) → Shows 17 (Made ns) (write_log ns)
unfolding write_log
write_shows ns =
    by_test (Shows 17 (Made ns)) (ltb 0 (length ns % 3)) _ _ (λ t. is_refused (omega arith))
    (λ t. by_test (Shows 17 (Made ns)) (falls 0 ns) _ _ (λ r. is_refused (omega arith))
    (λ r. by_test (Shows 17 (Made ns)) (ltb 4096 (length (log_bytes ns))) _ _ (λ l. is_refused (omega arith))
    (λ l. let h : length ns % 3 ≤ 0 = ltb-false _ _ t in
    is_given (record { threes = omega arith; rises = r; is = refl; size = ltb-false _ _ l }))))

-- what is answered and given
module _ (ns out : List ℕ) where
  pub write_refused : {k : Refusal} → write_log ns ≡ Err k → Answered 1 (writing ns (length out)) out (Err k) out
  unfolding writing
  write_refused e = refused_answered 1 out (fit_refused LogLength (length out) e)

  module _ (e : write_log ns ≡ Ok (log_bytes ns)) where
    pub write_no_room : length out < length (log_bytes ns) → Answered 1 (writing ns (length out)) out (Err LogLength) out
    unfolding writing
    write_no_room l = refused_answered 1 out (fit_short LogLength (length out) e l)

    -- the count, and the numbers behind it
    pub write_given : {u v : List ℕ} {at size : ℕ} → length (log_bytes ns) ≤ length out
        → size ≡ length (log_bytes ns)
        → at ≡ 0 + length (encoded (length ns / 3))
        → u ≡ over 0 (encoded (length ns / 3)) out
        → v ≡ over at (encoded_all ns) u
        → Answered 1 (writing ns (length out)) out (Ok size) v
    unfolding writing answer_of
    write_given {at = at} l z a p q =
        let d : length (log_bytes ns) / 1 ≡ length (log_bytes ns) = omega arith in
        let o = over_over 0 at (encoded (length ns / 3)) (encoded_all ns) out a (omega (arith, length_log ns)) in
        gives_answered 1 (fit_room LogLength (length out) e l) (rw (z, d) refl)
        (q ∙ ap (over at (encoded_all ns)) p ∙ o ∙ ap (λ (x : List ℕ). over 0 x out) (sym (log_is ns)))
