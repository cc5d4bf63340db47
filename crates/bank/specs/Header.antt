-- The header of a bank (01, 'Bank and record'), 24 bytes: signature `3VVN`, size (4), generation (4), state, flags, version 1, reserved,
-- system limit (4), common limit (4). The reserved byte is ignored on reading and written 0.
use Rattle.std.specs.Prelude.{ℕ, Result, Ok, Err, List, [], ◌∷◌, ◌++◌, Bool, ◌&&◌, cond, length, get_or, take, leb, eqb}
use Rattle.buffers.specs.Bytes.{eq_bytes}
use Rattle.bank.specs.declared.header.StoreHeader.{StoreHeader}
use Rattle.bank.specs.declared.header.HeaderFault.{HeaderFault}
use Rattle.bank.specs.declared.header.HeaderFault.TheVariants.{Signature, Version, Size}
use Rattle.bank.specs.Number.{u32_at, le32}

abbrev pub signature : List ℕ
signature = 0x33 ∷ 0x56 ∷ 0x56 ∷ 0x4E ∷ []

unfoldable pub header_bytes : StoreHeader → List ℕ
header_bytes h =
    signature ++ (le32 h.size ++ (le32 h.generation ++ (h.state ∷ h.flags ∷ 1 ∷ 0 ∷ (le32 h.system_size ++ le32 h.common_size))))

unfoldable pub header_of : List ℕ → StoreHeader
header_of s =
    record {
      size = u32_at s 4;
      generation = u32_at s 8;
      state = get_or s 12 0;
      flags = get_or s 13 0;
      system_size = u32_at s 16;
      common_size = u32_at s 20;
    }

-- bytes too few for a header have no signature
unfoldable pub signed : List ℕ → Bool
signed s = leb 24 (length s) && eq_bytes (take 4 s) signature

-- the first fault met, in this order; a size outside 24 to 65,536 is one (01, 'Domain of equality')
unfoldable pub read_header : List ℕ → Result StoreHeader HeaderFault
read_header s =
    cond (signed s) (cond (eqb (get_or s 14 0) 1) (cond (leb 24 (u32_at s 4) && leb (u32_at s 4) 65536) (Ok (header_of s)) (Err Size)) (Err Version)) (Err Signature)
