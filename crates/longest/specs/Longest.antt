-- The longest run of each full window of a log (02, N9).
use Rattle.std.specs.Prelude.{ℕ, ◌+◌, max, List, [], ◌∷◌, ◌++◌, Result, Ok, Err, ◌||◌, cond, eqb, ltb, length, take}
use Rattle.refusal.specs.declared.Refusal.{Refusal}
use Rattle.refusal.specs.declared.Refusal.TheVariants.{LogWindow}
use Rattle.run_log.specs.Output.{fit}
use Rattle.run_log.specs.RunLog.{read_log}

-- the lengths in seconds of entries, which are numbers, three in a row
unfoldable pub lengths : List ℕ → List ℕ
lengths [] = []
lengths (start ∷ []) = []
lengths (start ∷ seconds ∷ []) = []
lengths (start ∷ seconds ∷ turns ∷ ns) = seconds ∷ lengths ns

unfoldable pub largest : List ℕ → ℕ
largest [] = 0
largest (x ∷ xs) = max x (largest xs)

-- the index of the first that is m
unfoldable pub index_of : ℕ → List ℕ → ℕ
index_of m [] = 0
index_of m (x ∷ xs) = cond (eqb x m) 0 (index_of m xs + 1)

-- of a window whose first entry has an index in the log: its largest length, and the index in the log of its first entry that has it
unfoldable pub longest : ℕ → List ℕ → List ℕ
longest first xs = largest xs ∷ (first + index_of (largest xs) xs) ∷ []

-- each full window of so many, in order, looked through afresh
unfoldable pub windows : ℕ → ℕ → List ℕ → List ℕ
windows window first [] = []
windows window first (x ∷ xs) = cond (ltb (length (x ∷ xs)) window) [] (longest first (take window (x ∷ xs)) ++ windows window (first + 1) xs)

-- the windows of a log that was read: `LogWindow` over 1,024 entries
unfoldable pub slide_entries : ℕ → Result (List ℕ) Refusal → Result (List ℕ) Refusal
slide_entries window (Err r) = Err r
slide_entries window (Ok ns) = cond (ltb 1024 (length (lengths ns))) (Err LogWindow) (Ok (windows window 0 (lengths ns)))

-- `LogWindow` for a window outside 1 to 64, then what the reader judges but its output
unfoldable pub slide_log : ℕ → List ℕ → Result (List ℕ) Refusal
slide_log window s = cond (ltb window 1 || ltb 64 window) (Err LogWindow) (slide_entries window (read_log s))

-- and then the output
unfoldable pub sliding : ℕ → List ℕ → ℕ → Result (List ℕ) Refusal
sliding window s room = fit LogWindow room (slide_log window s)
