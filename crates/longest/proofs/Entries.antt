-- The lengths of entries: as many as there are, and one after another as they are read.
use Prim.Native.Nat.{ℕ, suc, ◌+◌, ◌-◌, ◌*◌, ◌/◌, ◌<◌, ◌≤◌}
use mathlib.Core.Path.{◌≡◌, refl, ap, ◌∙◌}
use mathlib.Core.List.{List, [], ◌∷◌}
use native.Mathlib.Omega.{arith}
use lib.Dec.{ltb}
use lib.ListN.{length, drop}
use lib.Seq.{drop-drop}
use borrow.Author.Tests.{ltb-true}
use Rattle.std.specs.Prelude.{Result, Ok, Err}
use Rattle.buffers.proofs.Laws.{by_test}
use Rattle.leb128.specs.Leb128.{decoded, by_number, decoded_all}
use Rattle.leb128.proofs.Decoding.{by_decoded}
use Rattle.refusal.specs.declared.Refusal.{Refusal}
use Rattle.run_log.specs.declared.reader.LogEntry.{LogEntry}
use Rattle.run_log.specs.RunLog.{read_entry}
use Rattle.longest.specs.Longest.{lengths}

pub length_lengths : (ns : List ℕ) → length (lengths ns) ≡ length ns / 3
unfolding lengths
length_lengths [] = refl
length_lengths (a ∷ []) = refl
length_lengths (a ∷ b ∷ []) = refl
length_lengths (a ∷ b ∷ c ∷ ns) = omega (arith, length_lengths ns)

-- that of an entry, and those from behind it on
unfoldable by_entry : Result (LogEntry × ℕ) Refusal → (ℕ → List ℕ) → List ℕ
by_entry (Err r) rest = []
by_entry (Ok (entry, size)) rest = entry.seconds ∷ rest size

entry_lengths : (n : ℕ) (s : List ℕ) → lengths (decoded_all (suc (suc (suc n))) s) ≡ by_entry (read_entry 0 s) (λ k. lengths (decoded_all n (drop k s)))
unfolding read_entry decoded_all by_number lengths by_entry
entry_lengths n s =
    by_decoded P (decoded s) _ _ (λ e. rw e refl)
    (λ a i p. by_test P (ltb a 0) _ _ (λ t. let l : a < 0 = ltb-true _ _ t in absurd (omega arith))
    (λ t. by_decoded P (decoded (drop i s)) _ _ (λ e. rw (p, e) refl)
    (λ b j q. by_decoded P (decoded (drop (i + j) s)) _ _ (λ e. rw (p, q, drop-drop j i s, e) refl)
    (λ c k r. rw (p, q, drop-drop j i s, r, drop-drop k (i + j) s) refl))))
  where
    P : Result (LogEntry × ℕ) Refusal → Type 0
    P e = lengths (decoded_all (suc (suc (suc n))) s) ≡ by_entry e (λ k. lengths (decoded_all n (drop k s)))

-- as the walk goes
module _ (count i : ℕ) (s : List ℕ) where
  turn : i < count → lengths (decoded_all (3 * (count - i)) s) ≡ by_entry (read_entry 0 s) (λ k. lengths (decoded_all (3 * (count - (i + 1))) (drop k s)))
  turn h =
      let e : 3 * (count - i) ≡ suc (suc (suc (3 * (count - (i + 1))))) = omega arith in
      ap (λ (n : ℕ). lengths (decoded_all n s)) e ∙ entry_lengths (3 * (count - (i + 1))) s

  pub lengths_more : {entry : LogEntry} {k : ℕ} → i < count → read_entry 0 s ≡ Ok (entry, k)
      → lengths (decoded_all (3 * (count - i)) s) ≡ entry.seconds ∷ lengths (decoded_all (3 * (count - (i + 1))) (drop k s))
  unfolding by_entry
  lengths_more {k = k} h e = turn h ∙ rw e refl

  pub lengths_stop : {r : Refusal} → i < count → read_entry 0 s ≡ Err r → lengths (decoded_all (3 * (count - i)) s) ≡ []
  unfolding by_entry
  lengths_stop h e = turn h ∙ rw e refl

  pub lengths_none : count ≤ i → lengths (decoded_all (3 * (count - i)) s) ≡ []
  unfolding decoded_all lengths
  lengths_none h = let z : 3 * (count - i) ≡ 0 = omega arith in rw z refl
