-- What a call gives into an output that it is lent: numbers at its front, or none where it refuses.
use Rattle.std.specs.Prelude.{ℕ, ◌/◌, ◌≡◌, List, ◌++◌, Result, Ok, Err, cond, ltb, length}
use Rattle.buffers.specs.Bytes.{over}
use Rattle.refusal.specs.declared.Refusal.{Refusal}

-- with numbers in front that were found before
unfoldable pub prefixed : List ℕ → Result (List ℕ) Refusal → Result (List ℕ) Refusal
prefixed xs (Err r) = Err r
prefixed xs (Ok ys) = Ok (xs ++ ys)

-- refused by `lack` where there is less room than it takes
unfoldable pub fit : Refusal → ℕ → Result (List ℕ) Refusal → Result (List ℕ) Refusal
fit lack room (Err r) = Err r
fit lack room (Ok xs) = cond (ltb room (length xs)) (Err lack) (Ok xs)

-- the answer, where so many numbers count as one
unfoldable pub answer_of : ℕ → Result (List ℕ) Refusal → Result ℕ Refusal
answer_of unit (Err r) = Err r
answer_of unit (Ok xs) = Ok (length xs / unit)

-- how many an answer counts: 0 where it refuses
abbrev pub count_of : Result ℕ Refusal → ℕ
count_of (Err r) = 0
count_of (Ok n) = n

-- the output after
unfoldable pub given : Result (List ℕ) Refusal → List ℕ → List ℕ
given (Err r) out = out
given (Ok xs) out = over 0 xs out

-- a call with this result answers a, and leaves the output out as out'
pub record Answered (unit : ℕ) (r : Result (List ℕ) Refusal) (out : List ℕ) (a : Result ℕ Refusal) (out' : List ℕ) : Type 0 where
  pub answer : a ≡ answer_of unit r
  pub output : out' ≡ given r out
