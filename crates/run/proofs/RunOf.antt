-- Every list of calls has a run (`run_of`), which keeps a rule where the book's answers or the calls do (`follows_of`, `careful_of`).
use Prim.Native.Nat.{ℕ}
use mathlib.Core.Path.{◌≡◌, refl, sym, ap, ◌∙◌, subst}
use mathlib.Core.List.{List, [], ◌∷◌}
use mathlib.Core.Bool.{false}
use Rattle.std.specs.Prelude.{Some}
use Rattle.book.specs.Book.{Book, FineBook}
use Rattle.book.specs.Call.{Call, ByteCall, Answer, number, step, is_old, Follows}
use Rattle.book.proofs.StepLaws.{step_fine, settled, not_old}
use Rattle.nvram.specs.declared.state.Nvram.{Nvram}
use Rattle.nvram.specs.Layout.{view}
use Rattle.nvram.specs.Contract.{call}
use Rattle.nvram.proofs.KeepLaws.{keeps}
use Rattle.run.specs.Run.{Event, Run, Page, pages, Each}
use Rattle.run.specs.Demand.{Careful}
use Rattle.run.proofs.EachLaws.{each_none, each_more}

abbrev pub ByteCalls : List Call → Type 0
ByteCalls [] = Unit {0}
ByteCalls (c ∷ cs) = ByteCall c × ByteCalls cs

-- the book refuses no old commit among them by 12
unfoldable pub No12 : Book → List Call → Type 0
No12 b [] = Unit {0}
No12 b (c ∷ cs) = Follows c (number (step b c).answer) × No12 (step b c).after cs

abbrev pub AllCareful : List Call → Type 0
AllCareful [] = Unit {0}
AllCareful (c ∷ cs) = (is_old c ≡ false) × AllCareful cs

abbrev pub Kept : (Call → ℕ → Type 0) → List Page → Type 0
Kept Keeps ps = Each ps (λ earlier p. Keeps p.event.call (number p.event.answer))

unfoldable pub events_of : Nvram → List ℕ → List Call → List Event
events_of s w [] = []
events_of s w (c ∷ cs) =
    let a = call c s w in
    record { call = c; answer = a.answer; out = a.out; state = a.state; work = a.work } ∷ events_of a.state a.work cs

pub run_of : (s : Nvram) (w : List ℕ) (cs : List Call) → ByteCalls cs → Run s w (events_of s w cs)
unfolding events_of
run_of s w [] y = tt
run_of s w (c ∷ cs) y =
    (y.0, record { answer = refl; out = refl; state = refl; work = refl }, run_of (call c s w).state (call c s w).work cs y.1)

-- no old commit of it is refused by 12 where the book refuses none so
pub follows_of : (b : Book) (s : Nvram) (w : List ℕ) (cs : List Call) → FineBook b → view s w ≡ Some b → ByteCalls cs → No12 b cs
    → Kept Follows (pages b (events_of s w cs))
unfolding events_of No12 pages
follows_of b s w [] f v y n = each_none _
follows_of b s w (c ∷ cs) f v y n =
    let a = call c s w in
    let k = keeps c s w b a.answer a.out a.state a.work y.0 f v (record { answer = refl; out = refl; state = refl; work = refl }) in
    let same : (step b c).laid ≡ (step b c).after = settled b c n.0 in
    each_more _ _ _ (subst (λ (x : Answer). Follows c (number x)) (sym k.answer) n.0)
    (follows_of (step b c).after a.state a.work cs (subst FineBook same (step_fine b c y.0 f)) (k.viewed ∙ ap Some same) y.1 n.1)

-- which it is where all commits are careful
pub careful_no12 : (b : Book) (cs : List Call) → AllCareful cs → No12 b cs
unfolding No12
careful_no12 b [] h = tt
careful_no12 b (c ∷ cs) h = (not_old c _ h.0, careful_no12 (step b c).after cs h.1)

-- and all its commits are careful where the calls' are
pub careful_of : (b : Book) (s : Nvram) (w : List ℕ) (cs : List Call) → AllCareful cs → Kept Careful (pages b (events_of s w cs))
unfolding events_of pages
careful_of b s w [] h = each_none _
careful_of b s w (c ∷ cs) h = each_more _ _ _ h.0 (careful_of (step b c).after (call c s w).state (call c s w).work cs h.1)
