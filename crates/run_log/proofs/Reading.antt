-- The reader: its loop over the entries, its tests, and what it answers and gives.
use Prim.Native.Nat.{ℕ, suc, ◌+◌, ◌-◌, ◌*◌, ◌/◌, ◌≤◌, ◌<◌}
use mathlib.Core.Path.{◌≡◌, refl, sym, ap, ◌∙◌}
use mathlib.Core.List.{List, [], ◌∷◌}
use native.Mathlib.Omega.{arith}
use lib.Dec.{ltb}
use lib.ListN.{length, drop, length-drop}
use borrow.Author.Tests.{lt-ltb, le-ltb, ltb-false}
use Rattle.std.specs.Prelude.{Option, Some, None, Result, Ok, Err, ok_or}
use Rattle.buffers.specs.Bytes.{AllBelow, over}
use Rattle.buffers.proofs.Laws.{by_test, clash}
use Rattle.leb128.specs.Leb128.{encoded, decoded, by_number, decoded_all}
use Rattle.leb128.proofs.Decoding.{by_decoded, decoded_leads, decoded_inside}
use Rattle.refusal.specs.declared.Refusal.{Refusal}
use Rattle.refusal.specs.declared.Refusal.TheVariants.{LogNumber, LogLength}
use Rattle.run_log.specs.declared.reader.LogEntry.{LogEntry}
use Rattle.run_log.specs.Output.{prefixed, answer_of, Answered}
use Rattle.run_log.specs.RunLog.{read_entry, and_then, read_entries, read_log, reading}
use Rattle.run_log.proofs.Results.{Shows, is_refused, is_given, shown, fit_short, fit_room, accepted_gives, refused_answered, refused_judged, gives_answered}
use Rattle.run_log.proofs.Entries.{EntryShows, entry_shows, whole_inside, Entered, entries_show}

-- what a call tells of the number in front
module _ {o : Option (ℕ × ℕ)} {r : Result (ℕ × ℕ) Refusal} (e : r ≡ ok_or o LogNumber) where
  pub number_is : {n k : ℕ} → r ≡ Ok (n, k) → o ≡ Some (n, k)
  number_is = go o e
    where
      go : (o : Option (ℕ × ℕ)) → r ≡ ok_or o LogNumber → {n k : ℕ} → r ≡ Ok (n, k) → o ≡ Some (n, k)
      go None e f = clash (cc)
      go (Some p) e f = cc

  pub number_none : {k : Refusal} → r ≡ Err k → (o ≡ None) × (k ≡ LogNumber)
  number_none = go o e
    where
      go : (o : Option (ℕ × ℕ)) → r ≡ ok_or o LogNumber → {k : Refusal} → r ≡ Err k → (o ≡ None) × (k ≡ LogNumber)
      go None e f = (refl, cc)
      go (Some p) e f = clash (cc)

-- the loop: the answer with i entries in front
unfoldable pub answer_from : ℕ → Result (List ℕ) Refusal → Result ℕ Refusal
answer_from i (Err r) = Err r
answer_from i (Ok ns) = Ok (i + length ns / 3)

pub answer_from_lem : (r : Result (List ℕ) Refusal) → answer_of 3 r ≡ answer_from 0 r
unfolding answer_of answer_from
answer_from_lem (Err r) = refl
answer_from_lem (Ok ns) = let e : 0 + length ns / 3 ≡ length ns / 3 = omega arith in rw e refl

module _ (count i last : ℕ) (s : List ℕ) (h : i < count) where
  entries_turn : read_entries (count - i) last s ≡ and_then (read_entry last s) (λ start size. read_entries (count - (i + 1)) start (drop size s))
  unfolding read_entries
  entries_turn = let e : count - i ≡ suc (count - (i + 1)) = omega arith in rw e refl

  pub entries_bad : {r : Refusal} → read_entry last s ≡ Err r → answer_from i (read_entries (count - i) last s) ≡ Err r
  unfolding answer_from and_then
  entries_bad e = rw (entries_turn, e) refl

  pub entries_run : {entry : LogEntry} {k : ℕ} → read_entry last s ≡ Ok (entry, k)
      → answer_from i (read_entries (count - i) last s) ≡ answer_from (i + 1) (read_entries (count - (i + 1)) entry.start (drop k s))
  unfolding and_then answer_from prefixed
  entries_run {entry} {k} e = rw (entries_turn, e) (go (read_entries (count - (i + 1)) entry.start (drop k s)))
    where
      go : (r : Result (List ℕ) Refusal) → answer_from i (prefixed (entry.start ∷ entry.seconds ∷ entry.turns ∷ []) r) ≡ answer_from (i + 1) r
      go (Err n) = refl
      go (Ok ns) = let d : i + suc (suc (suc (length ns))) / 3 ≡ i + 1 + length ns / 3 = omega arith in rw d refl

pub entry_inside : (last : ℕ) (s : List ℕ) {entry : LogEntry} {k : ℕ} → read_entry last s ≡ Ok (entry, k) → (3 ≤ k) × (k ≤ length s)
unfolding EntryShows
entry_inside last s e = whole_inside (rw e at (entry_shows last s))

module _ (count i last : ℕ) (s : List ℕ) (h : count ≤ i) (l : i ≤ count) where
  entries_zero : read_entries (count - i) last s ≡ read_entries 0 last s
  entries_zero = let e : count - i ≡ 0 = omega arith in rw e refl

  pub entries_over : 0 < length s → answer_from i (read_entries (count - i) last s) ≡ Err LogLength
  unfolding read_entries answer_from
  entries_over d = rw entries_zero (simp (lt-ltb _ _ d))

  pub entries_end : length s ≤ 0 → answer_from i (read_entries (count - i) last s) ≡ Ok count
  unfolding read_entries answer_from
  entries_end d = let e : i + 0 / 3 ≡ count = omega arith in rw entries_zero (simp (le-ltb _ _ d) (rw e refl))

-- the tests
module _ (s : List ℕ) where
  pub log_long : 4096 < length s → read_log s ≡ Err LogLength
  unfolding read_log
  log_long h = simp (lt-ltb _ _ h)

  module _ (h : length s ≤ 4096) where
    pub log_none : decoded s ≡ None → read_log s ≡ Err LogNumber
    unfolding read_log by_number
    log_none e = simp (le-ltb _ _ h, e)

    pub log_counted : {n k : ℕ} → decoded s ≡ Some (n, k) → read_log s ≡ read_entries n 0 (drop k s)
    unfolding read_log by_number
    log_counted e = simp (le-ltb _ _ h, e)

-- a log that was read
pub record Taken (s ns : List ℕ) : Type 0 where
  pub count : ℕ
  pub k : ℕ
  pub counts : decoded s ≡ Some (count, k)
  pub entered : Entered count 0 (drop k s) ns
  pub size : length s ≤ 4096

-- what comes of reading shows of the bytes
pub log_shows : (s : List ℕ) → Shows 16 (Taken s) (read_log s)
unfolding read_log
log_shows s =
    by_test (Shows 16 (Taken s)) (ltb 4096 (length s)) _ _ (λ t. is_refused (omega arith))
    (λ t. by_decoded (Shows 16 (Taken s)) (decoded s) _ _ (λ e. is_refused (omega arith))
    (λ n k e. go n k e (ltb-false _ _ t) (read_entries n 0 (drop k s)) (entries_show n 0 (drop k s))))
  where
    go : (n k : ℕ) → decoded s ≡ Some (n, k) → length s ≤ 4096 → (r : Result (List ℕ) Refusal) → Shows 16 (Entered n 0 (drop k s)) r → Shows 16 (Taken s) r
    go n k e h (Err r) (is_refused f) = is_refused f
    go n k e h (Ok ns) (is_given f) = is_given (record { count = n; k = k; counts = e; entered = f; size = h })

-- a log of so many entries was accepted
pub record Accepted (s : List ℕ) (count : ℕ) : Type 0 where
  pub ns : List ℕ
  pub is : read_log s ≡ Ok ns
  pub taken : Taken s ns
  pub numbers : 3 * count ≡ length ns

pub accepted_log : (s : List ℕ) {count : ℕ} → Ok count ≡ answer_of 3 (read_log s) → Accepted s count
unfolding answer_of
accepted_log s {count} e =
    let f = accepted_gives 3 (omega arith) (log_shows s) e refl in
    let t = shown (log_shows s) f.1 in
    let a : ◌≡◌ {A = Result ℕ Refusal} (Ok count) (Ok (length f.0 / 3)) = e ∙ ap (answer_of 3) f.1 in
    let q : count ≡ length f.0 / 3 = cc in
    record { ns = f.0; is = f.1; taken = t; numbers = omega (arith, t.entered.threes) }

pub accepted_small : {s : List ℕ} {count : ℕ} → Accepted s count → 3 * count ≤ 4096
accepted_small {s} c = omega (arith, c.numbers, c.taken.entered.inside, length-drop c.taken.k s, c.taken.size)

-- what is answered and given
pub read_refused : (s out : List ℕ) {k : Refusal} → Err k ≡ answer_of 3 (read_log s) → Answered 3 (reading s (length out)) out (Err k) out
unfolding reading
read_refused s out e = refused_judged 3 LogLength (length out) (read_log s) out e

module _ (s out : List ℕ) {count : ℕ} (c : Accepted s count) where
  pub read_no_room : length out < 3 * count → Answered 3 (reading s (length out)) out (Err LogLength) out
  unfolding reading
  read_no_room h = refused_answered 3 out (fit_short LogLength (length out) c.is (omega (arith, c.numbers)))

  -- the second pass, from where the count ends
  module _ {from : ℕ} (h : AllBelow 256 s) (f : from ≡ length (encoded count)) where
    t : Taken s c.ns
    t = c.taken

    counts : t.count ≡ count
    counts = omega (arith, c.numbers, t.entered.threes)

    ends : t.k ≡ from
    ends = (decoded_leads s h t.counts).size ∙ ap (λ (n : ℕ). length (encoded n)) counts ∙ sym f

    pub from_inside : from ≤ length s
    from_inside = omega (arith, ends, (decoded_inside s t.counts).1)

    pub accepted_values : decoded_all (3 * count) (drop from s) ≡ c.ns
    accepted_values =
        ap (λ (n : ℕ). decoded_all (3 * n) (drop from s)) (sym counts) ∙ ap (λ (n : ℕ). decoded_all (3 * t.count) (drop n s)) (sym ends)
        ∙ t.entered.values

    pub read_given : {u : List ℕ} → 3 * count ≤ length out → u ≡ over 0 (decoded_all (3 * count) (drop from s)) out
        → Answered 3 (reading s (length out)) out (Ok count) u
    unfolding reading answer_of
    read_given l q =
        let d : count ≡ length c.ns / 3 = omega (arith, c.numbers) in
        gives_answered 3 (fit_room LogLength (length out) c.is (omega (arith, c.numbers))) (rw (← d) refl) (q ∙ ap (λ (x : List ℕ). over 0 x out) accepted_values)
