-- The log of winding runs (02, N6): the count of entries, then three numbers for each, its start minute, its length in seconds and its weight
-- turns. Entries are numbers, three in a row.
use Rattle.std.specs.Prelude.{ℕ, zero, suc, ◌+◌, ◌/◌, ◌%◌, List, [], ◌∷◌, ◌++◌, Result, Ok, Err, Bool, false, ◌||◌, cond, ltb, length, drop}
use Rattle.leb128.specs.Leb128.{encoded, encoded_all, decoded, by_number}
use Rattle.refusal.specs.declared.Refusal.{Refusal}
use Rattle.refusal.specs.declared.Refusal.TheVariants.{LogNumber, LogOrder, LogLength}
use Rattle.run_log.specs.declared.reader.LogEntry.{LogEntry}
use Rattle.run_log.specs.Output.{prefixed, fit}

-- the bytes of the log of entries
unfoldable pub log_bytes : List ℕ → List ℕ
log_bytes ns = encoded (length ns / 3) ++ encoded_all ns

-- the most that they are
abbrev pub log_most : ℕ
log_most = 4096

-- a start is below the one before it, the first one below `last`
unfoldable pub falls : ℕ → List ℕ → Bool
falls last [] = false
falls last (start ∷ []) = false
falls last (start ∷ seconds ∷ []) = false
falls last (start ∷ seconds ∷ turns ∷ ns) = ltb start last || falls start ns

-- the writer: threes, then entries, then size
unfoldable pub write_log : List ℕ → Result (List ℕ) Refusal
write_log ns =
    cond (ltb 0 (length ns % 3)) (Err LogLength)
    (cond (falls 0 ns) (Err LogOrder) (cond (ltb log_most (length (log_bytes ns))) (Err LogLength) (Ok (log_bytes ns))))

-- and then its output
unfoldable pub writing : List ℕ → ℕ → Result (List ℕ) Refusal
writing ns room = fit LogLength room (write_log ns)

-- the entry in front of s: `LogNumber` where a number is none, `LogOrder` as soon as its start is read
unfoldable pub read_entry : ℕ → List ℕ → Result (LogEntry × ℕ) Refusal
read_entry last s =
    by_number (decoded s) (Err LogNumber)
    (λ start i. cond (ltb start last) (Err LogOrder)
    (by_number (decoded (drop i s)) (Err LogNumber)
    (λ seconds j. by_number (decoded (drop (i + j) s)) (Err LogNumber)
    (λ turns k. Ok (record { start = start; seconds = seconds; turns = turns }, i + j + k)))))

-- an entry, and those that are read from behind it on
unfoldable pub and_then : Result (LogEntry × ℕ) Refusal → (ℕ → ℕ → Result (List ℕ) Refusal) → Result (List ℕ) Refusal
and_then (Err r) rest = Err r
and_then (Ok (entry, size)) rest = prefixed (entry.start ∷ entry.seconds ∷ entry.turns ∷ []) (rest entry.start size)

-- so many entries, and nothing behind them
unfoldable pub read_entries : ℕ → ℕ → List ℕ → Result (List ℕ) Refusal
read_entries zero last s = cond (ltb 0 (length s)) (Err LogLength) (Ok [])
read_entries (suc count) last s = and_then (read_entry last s) (λ start size. read_entries count start (drop size s))

-- the reader: size, then the count and the entries from the front, then leftovers
unfoldable pub read_log : List ℕ → Result (List ℕ) Refusal
read_log s =
    cond (ltb log_most (length s)) (Err LogLength) (by_number (decoded s) (Err LogNumber) (λ count k. read_entries count 0 (drop k s)))

-- and then its output
unfoldable pub reading : List ℕ → ℕ → Result (List ℕ) Refusal
reading s room = fit LogLength room (read_log s)
