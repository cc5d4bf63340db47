-- The flash (01, 'A run, its book and the flash'): bytes of which an erase sets all bits and a write only clears some.
use Rattle.std.specs.Prelude.{ℕ, zero, suc, List, [], ◌∷◌, length, take, drop, replicate, Option, None, Some}
use Rattle.std.specs.Int.Bits.{bit_and}
use Rattle.buffers.specs.Bytes.{over}
use Rattle.bank.specs.Bank.{bank_size}
use Rattle.book.specs.Call.{Answer, edited, looked, handed, summed, committed, joined}

-- an erase sets the 65,536 bytes from an offset on to 0xFF
unfoldable pub erased : ℕ → List ℕ → List ℕ
erased offset flash = over offset (replicate bank_size 0xFF) flash

-- the bits set both there and in the output
unfoldable pub ands : List ℕ → List ℕ → List ℕ
ands [] y = []
ands (a ∷ x) [] = []
ands (a ∷ x) (b ∷ y) = bit_and a b ∷ ands x y

-- a write leaves them in each of its bytes, and no other byte changes
unfoldable pub written : ℕ → List ℕ → List ℕ → List ℕ
written offset x flash = over offset (ands (take (length x) (drop offset flash)) x) flash

-- an erase request, if there is one
abbrev pub erased_by : Option ℕ → List ℕ → List ℕ
erased_by None flash = flash
erased_by (Some offset) flash = erased offset flash

-- an accepted commit's write comes after its erase; nothing else is done to the flash
abbrev pub carried_out : Answer → List ℕ → List ℕ → List ℕ
carried_out (edited k) x flash = flash
carried_out (looked k f) x flash = flash
carried_out handed x flash = flash
carried_out (summed k f) x flash = flash
carried_out (committed zero erase offset long) x flash = written offset x (erased_by erase flash)
carried_out (committed (suc k) erase offset long) x flash = flash
carried_out (joined k long) x flash = flash
