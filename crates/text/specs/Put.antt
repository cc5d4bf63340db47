-- What is asked of a writer, `Room` for a text, and what it does: the text is `Put` over the bytes lent, behind what stands there. And what a
-- program's whole text leaves, of whatever is lent.
use Rattle.std.specs.Prelude.{ℕ, ◌+◌, ◌≤◌, ◌≡◌, List, cond, leb, length, take}
use Rattle.buffers.specs.Bytes.{over}
use Rattle.text.specs.declared.Writer.{Writer}

-- v has room for x
pub record Room (v : Writer) (x : List ℕ) : Type 0 where
  pub fits : v.at + length x ≤ length v.out.now

-- x was put behind what stood in v, and w is what that left, over the same bytes
pub record Put (v w : Writer) (x : List ℕ) : Type 0 where
  pub same : w.out.ghost_name ≡ v.out.ghost_name
  pub left : w.out.now ≡ over v.at x v.out.now
  pub ends : w.at ≡ v.at + length x
  pub room : w.at ≤ length v.out.now

-- `&xs[..n]` is in bounds and has n bytes. The second part follows from the first, and spares a caller's `&buf[..n]` a proof file.
abbrev pub IsPrefixLen : ℕ → List ℕ → Type 0
IsPrefixLen n xs = (n ≤ length xs) × (n ≡ length (take n xs))

-- n bytes are enough for any text; where fewer are lent, they stay as they are
unfoldable pub printed_length : ℕ → List ℕ → List ℕ → ℕ
printed_length n x w = cond (leb n (length w)) (length x) 0

unfoldable pub printed_out : ℕ → List ℕ → List ℕ → List ℕ
printed_out n x w = cond (leb n (length w)) (over 0 x w) w
