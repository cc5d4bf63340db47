-- A commit of the active bank: its verdict, what it starts from, and what it answers and leaves.
use Rattle.std.specs.Prelude.{ℕ, ◌≡◌, ◌≤◌, List, [], true, length, take, drop, None, Some, is_some, Result, Ok, Err}
use Rattle.crc32.specs.Crc32.{Bytes}
use Rattle.refusal.specs.declared.Refusal.{Refusal}
use Rattle.refusal.specs.Refusal.{number}
use Rattle.tally.specs.declared.Caller.{Caller}
use Rattle.bank.specs.declared.header.StoreHeader.{StoreHeader}
use Rattle.bank.specs.Bank.{Bank, valid}
use Rattle.book.specs.Commit.{Way, old, careful, Judged, refuse, in_place, move, judge_bank}
use Rattle.book.specs.Call.{commit, committed}
use Rattle.book.specs.Book.{Book, active_slot}
use Rattle.nvram.specs.declared.state.Kind.TheVariants.{Valid}
use Rattle.nvram.specs.declared.state.Nvram.{Nvram}
use Rattle.nvram.specs.Layout.{view}
use Rattle.nvram.specs.Ready.{active_entry}
use Rattle.nvram.specs.Contract.{Does}
use Rattle.requests.specs.declared.Applied.{Applied}
use Rattle.requests.specs.Applied.{applied, length_of}
use Rattle.commit.specs.declared.Way as code-way
use Rattle.commit.specs.declared.Due.{Due}
use Rattle.commit.specs.declared.Due.TheVariants.{InPlace, Move}

abbrev pub way_of : code-way.Way → Way
way_of code-way.TheVariants.Old = old
way_of code-way.TheVariants.Careful = careful

abbrev pub verdict : Result Due Refusal → Judged
verdict (Err r) = refuse (number r)
verdict (Ok InPlace) = in_place
verdict (Ok Move) = move

-- a property of the active bank
abbrev pub ActiveHas : Nvram → List ℕ → (Bank → Type 0) → Type 0
ActiveHas s w P = (b : Book) (k : Bank) → view s w ≡ Some b → active_slot b ≡ valid k → P k

-- a sound state and work area whose active slot is Valid, with the header h
pub record Active (s : Nvram) (w : List ℕ) (h : StoreHeader) : Type 0 where
  pub sound : is_some (view s w) ≡ true
  pub kind : (active_entry s).kind ≡ Valid
  pub header : ActiveHas s w (λ (k : Bank). h ≡ k.header)

-- the same, of bytes and of a whole table, which every work area and state of the code are
pub record ActiveKnown (s : Nvram) (w : List ℕ) (h : StoreHeader) : Type 0 where
  pub bytes : Bytes w
  pub long : length s.banks ≡ 16
  pub active : Active s w h

-- the active bank's commit is to move it
abbrev pub MoveDue : Way → Nvram → List ℕ → Type 0
MoveDue way s w = ActiveHas s w (λ (k : Bank). judge_bank way k ≡ move)

-- a commit of some way is
abbrev pub SomeMoveDue : Nvram → List ℕ → Type 0
SomeMoveDue s w = (way : Way) × MoveDue way s w

-- a commit of s and w is refused and does nothing, or what is due is the active bank's, of the header h
abbrev pub Judges : Way → Caller → Nvram → List ℕ → ℕ → Result (Due × StoreHeader) Refusal → Type 0
Judges way caller s w room (Err r) = Does (commit way caller room) s w (committed (number r) None 0 0) [] s w
Judges way caller s w room (Ok (due, h)) = (65536 ≤ room) × ActiveKnown s w h × ActiveHas s w (λ (k : Bank). verdict (Ok due) ≡ judge_bank way k)

-- a commit of s and w with the output o answers r, and leaves the state s', the work area w' and the output o'
abbrev pub Commits : Way → Caller → Nvram → List ℕ → List ℕ → Applied → Nvram → List ℕ → List ℕ → Type 0
Commits way caller s w o r s' w' o' =
    Does (commit way caller (length o)) s w (applied r) (take (length_of r.written) o') s' w'
    × (drop (length_of r.written) o' ≡ drop (length_of r.written) o)

-- the same, of every commit that is to move
abbrev pub MoveCommits : Caller → Nvram → List ℕ → List ℕ → Applied → Nvram → List ℕ → List ℕ → Type 0
MoveCommits caller s w o r s' w' o' = (way : Way) → MoveDue way s w → Commits way caller s w o r s' w' o'
