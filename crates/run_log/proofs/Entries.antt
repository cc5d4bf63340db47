-- Entries that are read: what one and what all of them show of the bytes, and the loop over them.
use Prim.Native.Nat.{ℕ, zero, suc, ◌+◌, ◌*◌, ◌≤◌, ◌<◌}
use mathlib.Core.Path.{◌≡◌, refl, sym, ap, ◌∙◌}
use mathlib.Core.List.{List, [], ◌∷◌, ◌++◌}
use mathlib.Core.Bool.{false}
use native.Mathlib.Omega.{arith}
use lib.Dec.{ltb}
use lib.ListN.{length, drop, length-drop}
use lib.Seq.{drop-drop}
use borrow.Author.Tests.{lt-ltb, le-ltb, ltb-false}
use Rattle.std.specs.Prelude.{Some, None, Result, Ok, Err}
use Rattle.buffers.specs.Bytes.{AllBelow}
use Rattle.buffers.proofs.BelowLaws.{below_drop}
use Rattle.buffers.proofs.Laws.{by_test}
use Rattle.leb128.specs.Leb128.{encoded, encoded_all, decoded, by_number, decoded_all}
use Rattle.leb128.proofs.Decoding.{by_decoded, decoded_leads, decoded_inside}
use Rattle.refusal.specs.declared.Refusal.{Refusal}
use Rattle.refusal.specs.declared.Refusal.TheVariants.{LogNumber, LogOrder}
use Rattle.refusal.specs.Refusal.{number}
use Rattle.run_log.specs.declared.reader.LogEntry.{LogEntry}
use Rattle.run_log.specs.Output.{prefixed}
use Rattle.run_log.specs.RunLog.{falls, read_entry, and_then, read_entries}
use Rattle.run_log.proofs.Results.{Shows, is_refused, is_given}

-- the entry in front, as the code finds it
module _ (last : ℕ) (s : List ℕ) where
  pub entry_none : decoded s ≡ None → read_entry last s ≡ Err LogNumber
  unfolding read_entry by_number
  entry_none e = rw e refl

  module _ {a i : ℕ} (e : decoded s ≡ Some (a, i)) where
    pub entry_falls : a < last → read_entry last s ≡ Err LogOrder
    unfolding read_entry by_number
    entry_falls h = rw e (simp (lt-ltb a last h))

    module _ (h : last ≤ a) where
      pub entry_no_seconds : decoded (drop i s) ≡ None → read_entry last s ≡ Err LogNumber
      unfolding read_entry by_number
      entry_no_seconds f = rw (e, f) (simp (le-ltb a last h))

      module _ {b j : ℕ} (f : decoded (drop i s) ≡ Some (b, j)) where
        pub entry_no_turns : decoded (drop (i + j) s) ≡ None → read_entry last s ≡ Err LogNumber
        unfolding read_entry by_number
        entry_no_turns g = rw (e, f, g) (simp (le-ltb a last h))

        pub entry_run : {c k : ℕ} → decoded (drop (i + j) s) ≡ Some (c, k)
            → read_entry last s ≡ Ok (record { start = a; seconds = b; turns = c }, i + j + k)
        unfolding read_entry by_number
        entry_run g = rw (e, f, g) (simp (le-ltb a last h))

-- an entry has its three numbers
pub record WholeEntry (last : ℕ) (s : List ℕ) (entry : LogEntry) (size : ℕ) : Type 0 where
  pub i : ℕ
  pub j : ℕ
  pub k : ℕ
  pub start : decoded s ≡ Some (entry.start, i)
  pub seconds : decoded (drop i s) ≡ Some (entry.seconds, j)
  pub turns : decoded (drop (i + j) s) ≡ Some (entry.turns, k)
  pub all : size ≡ i + j + k
  pub rises : last ≤ entry.start

-- what comes of reading one says of the bytes
unfoldable pub EntryShows : ℕ → List ℕ → Result (LogEntry × ℕ) Refusal → Type 0
EntryShows last s (Err r) = 16 ≤ number r
EntryShows last s (Ok (entry, size)) = WholeEntry last s entry size

pub entry_shows : (last : ℕ) (s : List ℕ) → EntryShows last s (read_entry last s)
unfolding read_entry EntryShows
entry_shows last s =
    by_decoded (EntryShows last s) (decoded s) _ _ (λ e. omega arith)
    (λ a i p. by_test (EntryShows last s) (ltb a last) _ _ (λ t. omega arith)
    (λ t. by_decoded (EntryShows last s) (decoded (drop i s)) _ _ (λ e. omega arith)
    (λ b j q. by_decoded (EntryShows last s) (decoded (drop (i + j) s)) _ _ (λ e. omega arith)
    (λ c k r. record { i = i; j = j; k = k; start = p; seconds = q; turns = r; all = refl; rises = ltb-false _ _ t }))))

module _ {last : ℕ} {s : List ℕ} {entry : LogEntry} {size : ℕ} (w : WholeEntry last s entry size) where
  -- it takes three bytes at least, and no more than there are
  pub whole_inside : (3 ≤ size) × (size ≤ length s)
  whole_inside =
      let p = decoded_inside s w.start in
      let q = decoded_inside (drop w.i s) w.seconds in
      let r = decoded_inside (drop (w.i + w.j) s) w.turns in
      let d = length-drop w.i s in
      let e = length-drop (w.i + w.j) s in
      (omega (arith, p.0, q.0, r.0, w.all), omega (arith, p.1, q.1, r.1, w.all))

  second : drop w.j (drop w.i s) ≡ drop (w.i + w.j) s
  second = drop-drop w.j w.i s

  third : drop w.k (drop (w.i + w.j) s) ≡ drop size s
  third = drop-drop w.k (w.i + w.j) s ∙ ap (λ (n : ℕ). drop n s) (sym w.all)

  -- its numbers, one after another
  whole_values : (n : ℕ) → decoded_all (suc (suc (suc n))) s ≡ entry.start ∷ entry.seconds ∷ entry.turns ∷ decoded_all n (drop size s)
  unfolding decoded_all by_number
  whole_values n = rw (w.start, w.seconds, second, w.turns, third) refl

  -- and its bytes
  whole_bytes : AllBelow 256 s → s ≡ encoded entry.start ++ (encoded entry.seconds ++ (encoded entry.turns ++ drop size s))
  whole_bytes h =
      let p = (decoded_leads s h w.start).is in
      let q = (decoded_leads (drop w.i s) (below_drop w.i s h) w.seconds).is ∙ ap (◌++◌ (encoded entry.seconds)) second in
      let r = (decoded_leads (drop (w.i + w.j) s) (below_drop (w.i + w.j) s h) w.turns).is ∙ ap (◌++◌ (encoded entry.turns)) third in
      p ∙ ap (◌++◌ (encoded entry.start)) (q ∙ ap (◌++◌ (encoded entry.seconds)) r)

-- entries that were read
pub record Entered (count last : ℕ) (s ns : List ℕ) : Type 0 where
  pub threes : length ns ≡ 3 * count
  pub inside : length ns ≤ length s
  pub rises : falls last ns ≡ false
  pub values : decoded_all (3 * count) s ≡ ns
  pub bytes : AllBelow 256 s → s ≡ encoded_all ns

entered_none : (last : ℕ) (s : List ℕ) → length s ≤ 0 → Entered 0 last s []
unfolding falls decoded_all encoded_all
entered_none last [] h = record { threes = refl; inside = omega arith; rises = refl; values = refl; bytes = λ h. refl }
entered_none last (b ∷ s) h = absurd (omega arith)

entered_more : {count last : ℕ} {s ns : List ℕ} {entry : LogEntry} {size : ℕ} → WholeEntry last s entry size → Entered count entry.start (drop size s) ns
    → Entered (suc count) last s (entry.start ∷ entry.seconds ∷ entry.turns ∷ ns)
unfolding falls encoded_all
entered_more {count} {last} {s} {ns} {entry} {size} w h =
    let p = whole_inside w in
    let t : 3 * suc count ≡ suc (suc (suc (3 * count))) = omega arith in
    let front = λ (x : List ℕ). entry.start ∷ entry.seconds ∷ entry.turns ∷ x in
    let bytes = λ (x : List ℕ). encoded entry.start ++ (encoded entry.seconds ++ (encoded entry.turns ++ x)) in
    record {
      threes = omega (arith, h.threes);
      inside = omega (arith, h.inside, p.0, p.1, length-drop size s);
      rises = simp (le-ltb entry.start last w.rises) h.rises;
      values = ap (λ (n : ℕ). decoded_all n s) t ∙ whole_values w (3 * count) ∙ ap front h.values;
      bytes = λ l. whole_bytes w l ∙ ap bytes (h.bytes (below_drop size s l));
    }

pub entries_show : (count last : ℕ) (s : List ℕ) → Shows 16 (Entered count last s) (read_entries count last s)
unfolding read_entries prefixed and_then EntryShows
entries_show zero last s =
    by_test (Shows 16 (Entered 0 last s)) (ltb 0 (length s)) _ _ (λ t. is_refused (omega arith)) (λ t. is_given (entered_none last s (ltb-false _ _ t)))
entries_show (suc count) last s = go (read_entry last s) (entry_shows last s) (λ a k. entries_show count a (drop k s))
  where
    more : (o : Result (List ℕ) Refusal) (entry : LogEntry) (k : ℕ) → WholeEntry last s entry k → Shows 16 (Entered count entry.start (drop k s)) o
        → Shows 16 (Entered (suc count) last s) (prefixed (entry.start ∷ entry.seconds ∷ entry.turns ∷ []) o)
    more (Err n) entry k w (is_refused h) = is_refused h
    more (Ok ns) entry k w (is_given h) = is_given (entered_more w h)

    go : (r : Result (LogEntry × ℕ) Refusal) → EntryShows last s r → ((a k : ℕ) → Shows 16 (Entered count a (drop k s)) (read_entries count a (drop k s)))
        → Shows 16 (Entered (suc count) last s) (and_then r (λ start size. read_entries count start (drop size s)))
    go (Err n) h f = is_refused h
    go (Ok (entry, k)) h f = more (read_entries count entry.start (drop k s)) entry k h (f entry.start k)
