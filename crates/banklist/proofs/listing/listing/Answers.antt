-- `listing`: a short `out` is left alone (`left_alone`); else the lines, which fit (`listing_fits`), are put at its front (`left_printed`).
use mathlib.Core.Path.{ap}
use native.Mathlib.Omega.{arith}
use lib.ListN.{length}
use borrow.Author.Rules.{rules}
use Rattle.text.proofs.PutLaws.{left_alone, left_printed}
use Rattle.banklist.specs.Listing.{listing, out_size}
use Rattle.banklist.proofs.FitLaws.{listing_fits}
use Rattle.banklist.proofs.listing.listing.Goals as goal

pub returns-then-out-lt-OUT : goal.returns-then-out-lt-OUT
unfolding out_size
returns-then-out-lt-OUT c =
    let r = left_alone out_size (listing c.args.nvr.now) c.args.out.now (omega arith) in
    record { prefix_len = r.0; value = r.1 }

pub put_listing-requires : goal.put_listing-requires
unfolding out_size
put_listing-requires c = let w = c.new-w.ensures.front in
    record { fits = omega (arith, listing_fits c.args.nvr.now (λ i. (c.type_inv.nvr i).fits), w.0, ap length w.1) }

pub returns : goal.returns
unfolding out_size
returns c = let a = c.args in
    let w = c.new-w.ensures.front in
    let r = left_printed out_size (listing a.nvr.now) a.out.now (omega arith) w.0 w.1 c.put_listing.ensures in
    record { prefix_len = search (rules, r.0); value = search (rules, r.1) }
