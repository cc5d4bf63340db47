-- Demand 3, of a run's pages, in the order of 01 ('A run, its book and the flash'), with 02's tallies (N7); of which runs it is claimed, and over which
-- commits L is taken: by 01, and by 02 (N4); the tallies are claimed of every run. The proof that they meet it is proofs/Demand.antt.
use Rattle.std.specs.Prelude.{ℕ, ◌+◌, ◌-◌, ◌*◌, ◌≤◌, ◌<◌, ◌≡◌, ◌≢◌, List, [], ◌∷◌, ◌++◌, Bool, false, length, Option, Some}
use Rattle.tally.specs.declared.Caller.{Caller}
use Rattle.tally.specs.Tally.{stopped, is_own, tally_of, total_of}
use Rattle.bank.specs.declared.variable.VarType.{VarType}
use Rattle.bank.specs.Bank.{Bank, valid}
use Rattle.book.specs.Book.{part_size, Book, active_slot}
use Rattle.book.specs.Opening.{opening, opened}
use Rattle.book.specs.Call.{Call, lookup, fetch, committed, number, erase, step, is_old, Follows}
use Rattle.book.specs.Tallied.{committer}
use Rattle.nvram.specs.declared.state.Nvram.{Nvram}
use Rattle.nvram.specs.Contract.{begun, call}
use Rattle.run.specs.Flash.{carried_out}
use Rattle.run.specs.Run.{Opens, Event, Run, opened_book, Page, pages, Each}
use Rattle.run.specs.Wear.{active_size, all_commits, accepted_commits, most_live, inserted_bytes, requests, requests_by}

-- the answers: number, found or none, place, length, value, the sums and the number of records, erase request, write offset, length and bytes,
-- joined bytes
pub record Answers (p : Page) : Type 0 where
  pub answer : p.event.answer ≡ (step p.before p.event.call).answer
  pub out : p.event.out ≡ (step p.before p.event.call).out
  pub not_6 : number p.event.answer ≢ 6

-- the flash begins as the opened image; each accepted commit's erase request and write are carried out in order, and nothing else
unfoldable pub flash_after : List ℕ → List Page → List ℕ
flash_after flash [] = flash
flash_after flash (p ∷ ps) = flash_after (carried_out p.event.answer p.event.out flash) ps

-- the flash reopens, with any work area that is long enough, to the book after a call, and its lookups answer as those in the state that
-- the call left
pub record Reopens (flash : List ℕ) (p : Page) : Type 0 where
  pub book : Book
  pub accepted : (work : List ℕ) → p.after.n * part_size ≤ length work → opening flash (length work) ≡ opened book
  pub active : book.active ≡ p.after.active
  pub bank : Bank
  pub bank_there : active_slot p.after ≡ valid bank
  pub bank' : Bank
  pub bank_here : active_slot book ≡ valid bank'
  pub header : bank'.header ≡ bank.header
  pub records : bank'.records ≡ bank.records
  pub lookups : (work : List ℕ) → p.after.n * part_size ≤ length work → (key : List ℕ) (typ : VarType)
      → (let x = begun (opening flash (length work)) work in (call (lookup key typ) x.state x.work).answer)
      ≡ (call (lookup key typ) p.event.state p.event.work).answer
  pub values : (work : List ℕ) → p.after.n * part_size ≤ length work → (key : List ℕ) (typ : VarType)
      → (let x = begun (opening flash (length work)) work in (call (fetch key typ) x.state x.work).out)
      ≡ (call (fetch key typ) p.event.state p.event.work).out

-- the tallies (02, N7)
pub record Tallies (ps : List Page) : Type 0 where
  -- a caller's is the number of erase requests in its own commits since opening, up to its stop
  pub own : Each ps (λ earlier p. (caller : Caller) → tally_of caller p.event.state.tally ≡ stopped (requests_by caller (earlier ++ (p ∷ []))))
  -- a call that isn't its own commit leaves it as the call before did
  pub others : (earlier : List Page) (before p : Page) (later : List Page) (caller : Caller) → ps ≡ earlier ++ (before ∷ (p ∷ later))
      → is_own caller (committer p.event.call) ≡ false
      → tally_of caller p.event.state.tally ≡ tally_of caller before.event.state.tally
  -- the total is the number of all erase requests since opening, up to the same stop
  pub total : Each ps (λ earlier p. total_of p.event.state.tally ≡ stopped (requests (earlier ++ (p ∷ []))))

-- with L over the commits that count, by their numbers
module _ (image : List ℕ) (counts : ℕ → Bool) where
  -- the number of banks, and the size in the header of the book's active bank
  abbrev n : ℕ
  n = (opened_book image).n

  abbrev S : ℕ
  S = active_size (opened_book image)

  pub record Demand3 (ps : List Page) : Type 0 where
    -- each call answers what the book answers
    pub answers : Each ps (λ earlier p. Answers p)
    -- S is one number throughout
    pub one_size : Each ps (λ earlier p. active_size p.before ≡ S)
    -- between two erase requests for the same bank, n × (S − L + 1) bytes are inserted at least; nothing is asked where L > S
    pub wear : (earlier : List Page) (first : Page) (between : List Page) (second : Page) (later : List Page) (offset : ℕ)
        → ps ≡ earlier ++ (first ∷ (between ++ (second ∷ later)))
        → erase first.event.answer ≡ Some offset
        → erase second.event.answer ≡ Some offset
        → (let L = most_live counts (first ∷ between) in L ≤ S → n * (S - L + 1) ≤ inserted_bytes between)
    -- after every accepted commit from the first erase request on, the flash reopens to the book
    pub reopening : Each ps (λ earlier p.
        (e : Option ℕ) (offset long : ℕ) → p.event.answer ≡ committed 0 e offset long → 0 < requests (earlier ++ (p ∷ []))
        → Reopens (flash_after image (earlier ++ (p ∷ []))) p)
    -- each caller's tally is that of its own requests, and their total that of all
    pub tallies : Tallies ps

-- of every accepted opening and list of calls each of which, with its number, keeps a rule
abbrev pub Claim : (Call → ℕ → Type 0) → (List ℕ → List Page → Type 0) → Type 0
Claim Keeps Holds =
    (image work : List ℕ) (s : Nvram) (w : List ℕ) (es : List Event) → Opens image work s w → Run s w es
    → (let ps = pages (opened_book image) es in Each ps (λ earlier p. Keeps p.event.call (number p.event.answer)) → Holds image ps)

-- 01's reading: no old commit is refused by 12, and L is over all commits, refused ones too
abbrev pub Claim01 : Type 0
Claim01 = Claim Follows (λ image. Demand3 image all_commits)

-- no old commit, whatever the number
abbrev pub Careful : Call → ℕ → Type 0
Careful c k = is_old c ≡ false

-- 02's (N4): every commit is careful, and L is over accepted commits alone
abbrev pub ClaimN4 : Type 0
ClaimN4 = Claim Careful (λ image. Demand3 image accepted_commits)

-- any call, whatever the number
abbrev pub Always : Call → ℕ → Type 0
Always c k = Unit {0}

-- 02's (N7), of every run: 12 of an old commit counts for its caller too
abbrev pub ClaimN7 : Type 0
ClaimN7 = Claim Always (λ image. Tallies)
