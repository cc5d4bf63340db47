-- Every run meets demand 3 (`demand_3`): its parts are read off the pages of `opened_along`, the wear by `wear_within`, the reopening by `reopens`,
-- the tallies by `reading_N7`. It has the weaker rule of the two readings and the smaller L, so both follow (`reading_01`, `reading_N4`).
use Prim.Native.Nat.{ℕ, ◌+◌, ◌-◌, ◌≤◌}
use mathlib.Core.Path.{◌≡◌, refl, sym, ap, ◌∙◌, subst}
use mathlib.Core.List.{List, ◌∷◌, ◌++◌}
use mathlib.Core.Bool.{Bool, true}
use native.Mathlib.Omega.{arith}
use native.Mathlib.Nat.{mul-le-mul_left, le_trans}
use Rattle.book.specs.Book.{Book}
use Rattle.book.specs.Call.{number, Follows}
use Rattle.book.proofs.StepLaws.{not_old}
use Rattle.book.proofs.RefusalLaws.{not_6}
use Rattle.run.specs.Run.{opened_book, Page, pages}
use Rattle.run.specs.Wear.{active_size, all_commits, accepted_commits, most_live, requests}
use Rattle.run.specs.Demand.{Answers, flash_after, Demand3, Claim, Claim01, ClaimN4}
use Rattle.run.proofs.Along.{At, Along, flash_of, end_of, current_at, opened_along, along_split, flash_end, requests_end}
use Rattle.run.proofs.Tallies.{reading_N7}
use Rattle.run.proofs.Wear.{most_within, most_more, wear_within}
use Rattle.run.proofs.Reopen.{reopens}

page_answers : (b : Book) (p : Page) → At b p → Answers p
page_answers b p a =
    rw a.before (record { answer = a.answer; out = a.out; not_6 = λ q. not_6 b p.event.call (sym (ap number a.answer) ∙ q) })

-- every run in which no old commit is refused by 12 meets demand 3, with L over accepted commits alone
pub demand_3 : Claim Follows (λ image. Demand3 image accepted_commits)
demand_3 image work s w es o r n =
    let b = opened_book image in
    let x = opened_along (λ f p. Follows p.event.call (number p.event.answer)) (λ f p h. h) image work s w es o r n in
    let known : (earlier rest : List Page) → pages b es ≡ earlier ++ rest → Along b (flash_after image earlier) (end_of b earlier) (0 + requests earlier) rest =
    λ earlier rest h. along_split b image b 0 earlier rest (subst (Along b image b 0) h x) in
    record {
      answers = λ earlier p later h. page_answers (end_of b earlier) p (known earlier (p ∷ later) h).1;
      one_size = λ earlier p later h. let a = known earlier (p ∷ later) h in ap active_size a.1.before ∙ a.0.size;
      wear = λ earlier first between second later offset h u v l.
          wear_within b (flash_after image earlier) (end_of b earlier) (0 + requests earlier) first between second later offset
          (known earlier (first ∷ (between ++ (second ∷ later))) h) u v (most_live accepted_commits (first ∷ between)) _ (omega arith)
          (most_within _ (first ∷ between) (omega arith));
      reopening = λ earlier p later h e offset long c q.
          let a = known earlier (p ∷ later) h in
          rw (flash_end image earlier p)
          (reopens (flash_of (flash_after image earlier) p) p
          (current_at b (flash_after image earlier) (end_of b earlier) (0 + requests earlier) a.0 p a.1 e offset long c (omega (arith, requests_end earlier p)))
          a.1.viewed);
      tallies = reading_N7 image work s w es o r (λ earlier p later h. tt);
    }

-- L over more commits says less
over_more : (image : List ℕ) (counts counts' : ℕ → Bool) → ((k : ℕ) → counts k ≡ true → counts' k ≡ true) → (ps : List Page)
    → Demand3 image counts ps → Demand3 image counts' ps
over_more image counts counts' h ps d =
    record {
      answers = d.answers;
      one_size = d.one_size;
      wear = λ earlier first between second later offset q u v l.
          let m = most_more counts counts' h (first ∷ between) in
          let S = active_size (opened_book image) in
          let less : S - most_live counts' (first ∷ between) + 1 ≤ S - most_live counts (first ∷ between) + 1 = omega arith in
          le_trans (mul-le-mul_left (opened_book image).n less) (d.wear earlier first between second later offset q u v (omega arith));
      reopening = d.reopening;
      tallies = d.tallies;
    }

pub reading_01 : Claim01
reading_01 image work s w es o r n =
    over_more image accepted_commits all_commits (λ k e. refl) (pages (opened_book image) es) (demand_3 image work s w es o r n)

pub reading_N4 : ClaimN4
reading_N4 image work s w es o r n = demand_3 image work s w es o r (λ earlier p later h. not_old p.event.call _ (n earlier p later h))
