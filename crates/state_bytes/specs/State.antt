-- The state as bytes: n, active, the clock's tally, the barrel's, then 16 entries of kind (0 Empty, 1 Invalid, 2 Valid), total and usable; each number
-- four bytes, least first.
use Rattle.std.specs.Prelude.{ℕ, zero, suc, ◌+◌, ◌*◌, ◌<◌, ◌≡◌, List, [], ◌∷◌, ◌++◌, Bool, true, ◌&&◌, cond, length, drop, eqb, leb, Option, None, Some}
use Rattle.tally.specs.declared.Caller.{Caller}
use Rattle.tally.specs.declared.Tally.{Tally}
use Rattle.tally.specs.Tally.{tally_of}
use Rattle.bank.specs.Number.{u32_at, le32}
use Rattle.nvram.specs.declared.state.Kind.{Kind}
use Rattle.nvram.specs.declared.state.Kind.TheVariants.{Empty, Invalid, Valid}
use Rattle.nvram.specs.declared.state.Entry.{Entry}
use Rattle.nvram.specs.declared.state.Nvram.{Nvram}
use Rattle.nvram.specs.Kind.{kind_number}
use Rattle.nvram.specs.Part.{entry}

-- bytes in front of the entries, of an entry, and of a state

abbrev pub state_head : ℕ
state_head = 16

abbrev pub entry_size : ℕ
entry_size = 12

abbrev pub state_size : ℕ
state_size = state_head + 16 * entry_size

-- written

-- numbers, one behind the other
unfoldable pub all_le32 : List ℕ → List ℕ
all_le32 [] = []
all_le32 (n ∷ ns) = le32 n ++ all_le32 ns

abbrev pub three : ℕ → ℕ → ℕ → List ℕ
three a b c = le32 a ++ (le32 b ++ le32 c)

abbrev pub four : ℕ → ℕ → ℕ → ℕ → List ℕ
four a b c d = le32 a ++ three b c d

abbrev pub entry_bytes : Entry → List ℕ
entry_bytes e = three (kind_number e.kind) e.total e.usable

unfoldable pub entries_bytes : List Entry → List ℕ
entries_bytes [] = []
entries_bytes (e ∷ es) = entry_bytes e ++ entries_bytes es

unfoldable pub state_bytes : Nvram → List ℕ
state_bytes s = four s.n s.active s.tally.clock s.tally.barrel ++ entries_bytes s.banks

-- bytes past the state are left
unfoldable pub stored : Nvram → List ℕ → List ℕ
stored s bs = state_bytes s ++ drop state_size bs

-- read

abbrev pub kind_of : ℕ → Kind
kind_of k = cond (eqb k 0) Empty (cond (eqb k 1) Invalid Valid)

unfoldable pub entry_at : List ℕ → Entry
entry_at bs = entry (kind_of (u32_at bs 0)) (u32_at bs 4) (u32_at bs 8)

-- nothing where no kind has its number
abbrev pub known_entry : List ℕ → Option Entry
known_entry bs = cond (leb (u32_at bs 0) 2) (Some (entry_at bs)) None

unfoldable pub entries_at : ℕ → List ℕ → List Entry
entries_at zero bs = []
entries_at (suc n) bs = entry_at bs ∷ entries_at n (drop entry_size bs)

abbrev pub tally_at : List ℕ → Tally
tally_at bs = record { clock = u32_at bs 8; barrel = u32_at bs 12 }

unfoldable pub state_at : List ℕ → Nvram
state_at bs = record { n = u32_at bs 0; active = u32_at bs 4; tally = tally_at bs; banks = entries_at 16 (drop state_head bs) }

-- n entries whose kind number is none above 2
unfoldable pub kinds_known : ℕ → List ℕ → Bool
kinds_known zero bs = true
kinds_known (suc n) bs = leb (u32_at bs 0) 2 && kinds_known n (drop entry_size bs)

-- nothing where the bytes are too few or a kind number is unknown; bytes past the state are ignored
unfoldable pub read_state : List ℕ → Option Nvram
read_state bs = cond (leb state_size (length bs) && kinds_known 16 (drop state_head bs)) (Some (state_at bs)) None

-- what every state is that the code holds: 16 entries, and numbers of four bytes

abbrev pub FineEntry : Entry → Type 0
FineEntry e = (e.total < 4294967296) × (e.usable < 4294967296)

abbrev pub FineEntries : List Entry → Type 0
FineEntries [] = Unit {0}
FineEntries (e ∷ es) = FineEntry e × FineEntries es

abbrev pub FineTally : Tally → Type 0
FineTally t = (caller : Caller) → tally_of caller t < 4294967296

pub record FineState (s : Nvram) : Type 0 where
  pub n_fits : s.n < 4294967296
  pub active_fits : s.active < 4294967296
  pub tally_fine : FineTally s.tally
  pub banks_long : length s.banks ≡ 16
  pub banks_fine : FineEntries s.banks
