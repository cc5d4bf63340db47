-- What an accepted opening leaves (`starts`): state and work area hold the opened book, which is well-formed, and both tallies are 0.
use Prim.Native.Nat.{ℕ, ◌*◌, ◌<◌}
use mathlib.Core.Path.{◌≡◌, refl, ap, ◌∙◌}
use mathlib.Core.List.{List}
use Rattle.std.specs.Prelude.{Some}
use native.Mathlib.Omega.{arith}
use lib.Dec.{leb, ltb}
use lib.ListN.{length}
use borrow.Author.Tests.{leb-false}
use Rattle.buffers.proofs.Laws.{by_test}
use Rattle.tally.specs.Tally.{no_tally}
use Rattle.bank.specs.Bank.{bank_size}
use Rattle.book.specs.Book.{part_size, FineBook}
use Rattle.book.specs.Opening.{read_slots, any_valid, banks_of, Opened, opened, opening}
use Rattle.book.proofs.OpenFine.{open_fine}
use Rattle.nvram.specs.declared.state.Nvram.{Nvram}
use Rattle.nvram.specs.Layout.{view}
use Rattle.nvram.specs.Contract.{begun}
use Rattle.nvram.proofs.LayoutLaws.{view_lay}
use Rattle.run.specs.Run.{Opens, opened_book}

-- it gives the opened book, and the image was not too long
accepted_book : (image work : List ℕ) → (begun (opening image (length work)) work).number ≡ 0
    → (opening image (length work) ≡ opened (opened_book image)) × (length image < 17 * bank_size)
unfolding opening begun
accepted_book image work =
    by_test P (ltb (length image) bank_size) _ _ (λ t e. absurd (omega arith))
    (λ t. by_test P (leb (17 * bank_size) (length image)) _ _ (λ t e. absurd (omega arith))
    (λ most. by_test P (ltb (length work) (banks_of image * part_size)) _ _ (λ t e. absurd (omega arith))
    (λ t. by_test P (any_valid (read_slots (banks_of image) image)) _ _ (λ t e. (refl, leb-false (17 * bank_size) (length image) most)) (λ t e. absurd (omega arith)))))
  where
    P : Opened → Type 0
    P o = (begun o work).number ≡ 0 → (o ≡ opened (opened_book image)) × (length image < 17 * bank_size)

pub record Starts (image work : List ℕ) (s : Nvram) (w : List ℕ) : Type 0 where
  pub opens : opening image (length work) ≡ opened (opened_book image)
  pub fine : FineBook (opened_book image)
  pub most : length image < 17 * bank_size
  pub viewed : view s w ≡ Some (opened_book image)
  pub tally : s.tally ≡ no_tally

pub starts : (image work : List ℕ) (s : Nvram) (w : List ℕ) → Opens image work s w → Starts image work s w
unfolding begun
starts image work s w o =
    let b = opened_book image in
    let q = (accepted_book image work o.accepted).0 in
    let f = open_fine image (length work) b o.bytes q in
    record {
      opens = q;
      fine = f;
      most = (accepted_book image work o.accepted).1;
      viewed = (λ i. view ((o.state ∙ ap (λ (x : Opened). (begun x work).state) q) i) ((o.left ∙ ap (λ (x : Opened). (begun x work).work) q) i)) ∙ view_lay b no_tally work f;
      tally = ap (λ (x : Nvram). x.tally) (o.state ∙ ap (λ (x : Opened). (begun x work).state) q);
    }
