-- The ring in which the code keeps the candidates of a window, as the list of them, the oldest first.
use Rattle.std.specs.Prelude.{ℕ, zero, suc, ◌+◌, ◌%◌, List, [], ◌∷◌, cond, eqb, ltb, get_or}
use Rattle.longest.specs.declared.ring.Candidate.{Candidate}

-- n of them from a place on, modulo 64
unfoldable pub held : List Candidate → ℕ → ℕ → List Candidate
held places head zero = []
held places head (suc n) = get_or places (head % 64) (record { seconds = 0; index = 0 }) ∷ held places (head + 1) n

-- one in front of those that are left: where there is none, it may go too
unfoldable pub behind : ℕ → Candidate → List Candidate → List Candidate
behind x d [] = cond (ltb d.seconds x) [] (d ∷ [])
behind x d (e ∷ c) = d ∷ e ∷ c

-- without the newest that are shorter than x
unfoldable pub trimmed : ℕ → List Candidate → List Candidate
trimmed x [] = []
trimmed x (d ∷ c) = behind x d (trimmed x c)

-- without the oldest, if it has this index
unfoldable pub without : ℕ → List Candidate → List Candidate
without index [] = []
without index (d ∷ c) = cond (eqb d.index index) c (d ∷ c)
