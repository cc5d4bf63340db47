-- What the check answers of the active bank is what the book answers.
use Prim.Native.Nat.{ℕ}
use mathlib.Core.Path.{◌≡◌, refl, ap}
use mathlib.Core.List.{List, []}
use mathlib.Core.Bool.{true}
use lib.ListN.{length}
use Rattle.std.specs.Prelude.{Option, None, Some, Result, Ok}
use Rattle.crc32.specs.Crc32.{Bytes}
use Rattle.refusal.specs.declared.Refusal.{Refusal}
use Rattle.records.specs.Figures.{figures_of, no_figures, records_figures}
use Rattle.book.specs.Call.{figures, summed, stay, figures_bank, step}
use Rattle.nvram.specs.declared.state.Nvram.{Nvram}
use Rattle.nvram.specs.declared.summary.Summary.{Summary}
use Rattle.nvram.specs.Soundness.{active_summary, soundness}
use Rattle.nvram.specs.Layout.{view}
use Rattle.nvram.specs.Contract.{Does}
use Rattle.nvram.proofs.CallLaws.{does, by_valid}
use Rattle.nvram.proofs.CheckLaws.{check_sound, check_other, check_active, check_summary}
use Rattle.nvram.proofs.ActiveLaws.{book, viewed, state_is, work_is, does_7, bank, bank_is}

module _ (s : Nvram) (w : List ℕ) (bytes : Bytes w) (long : length s.banks ≡ 16) {r : Result (Option Summary) Refusal}
    (e : r ≡ soundness (active_summary true) (view s w)) where
  pub refuses_7 : r ≡ Ok None → Does figures s w (summed 7 no_figures) [] s w
  refuses_7 q = does_7 (check_sound s w bytes long true r e None q) figures tt (check_other s w bytes long true r e q)

  pub sums : (x : Summary) → r ≡ Ok (Some x) → Does figures s w (summed 0 x.used) [] s w
  unfolding step figures_bank records_figures
  sums x q =
      let g = check_sound s w bytes long true r e (Some x) q in
      let v = check_active s w bytes long true r e x q in
      let k = bank g v in
      does figures s w (book g) (stay (book g) (summed 0 (figures_of k.records))) (summed 0 x.used) [] s w (viewed g)
      (by_valid (book g) figures (figures_bank (book g)) k (bank_is g v))
      (record {
        answer =
            ap (λ (y : Summary). summed 0 y.used) (check_summary s w bytes long true r e x q (book g) k (viewed g) (bank_is g v));
        out = refl;
        state = state_is g;
        work = work_is g;
      })
