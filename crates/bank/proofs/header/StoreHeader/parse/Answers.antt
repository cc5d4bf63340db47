-- `StoreHeader::parse`: its faults in the order of `read_header`, each exit by the law of that fault (`head_signature`, `head_version`, `head_small`,
-- `head_big`), and `head_good`.
use Rattle.bank.specs.Header.{header_of}
use Rattle.bank.proofs.HeaderLaws.{head_signature, head_version, head_small, head_big, head_good}
use Rattle.bank.proofs.FieldLaws.{signed_short, signed_so, unsigned_so}
use mathlib.Core.Path.{sym, ◌∙◌}
use native.Mathlib.Omega.{arith}
use Rattle.bank.proofs.header.StoreHeader.parse.Goals.{then-size-via-then-size, then-size-via-else-size+then-size-gt-MOST_SIZE}
use Rattle.bank.proofs.header.StoreHeader.parse.Goals as goal

pub returns-then-nvr-lt-STORE_HEADER_SIZE : goal.returns-then-nvr-lt-STORE_HEADER_SIZE
returns-then-nvr-lt-STORE_HEADER_SIZE c = sym (head_signature _ (signed_short _ c.if-nvr-lt-STORE_HEADER_SIZE.true))

pub returns-then-not-starts_with : goal.returns-then-not-starts_with
returns-then-not-starts_with c =
    sym
    (head_signature _ (unsigned_so _ c.if-nvr-lt-STORE_HEADER_SIZE.false (sym c.if-not-starts_with.true ∙ c.starts_with.ensures.value)))

pub returns-then-nvr-ne-VERSION : goal.returns-then-nvr-ne-VERSION
returns-then-nvr-ne-VERSION c = let a = signed_so _ c.if-nvr-lt-STORE_HEADER_SIZE.false (sym c.if-not-starts_with.false ∙ c.starts_with.ensures.value) in
    sym (head_version _ a c.if-nvr-ne-VERSION.true)

pub returns-then-size : goal.returns-then-size
returns-then-size c = let a = signed_so _ c.if-nvr-lt-STORE_HEADER_SIZE.false (sym c.if-not-starts_with.false ∙ c.starts_with.ensures.value) in
    elim c.then-size.branch [
      | then-size-via-then-size w ↦ sym (head_small _ a c.if-nvr-ne-VERSION.false (omega arith))
      | then-size-via-else-size+then-size-gt-MOST_SIZE w ↦ sym (head_big _ a c.if-nvr-ne-VERSION.false (omega arith) (omega arith))
    ]

pub returns : goal.returns
unfolding header_of
returns c = let a = signed_so _ c.if-nvr-lt-STORE_HEADER_SIZE.false (sym c.if-not-starts_with.false ∙ c.starts_with.ensures.value) in
    let k = head_good c.args.nvr.now a c.if-nvr-ne-VERSION.false (omega arith) (omega arith) in
    cc
