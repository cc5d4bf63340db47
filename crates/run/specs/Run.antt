-- A run (01, 'A run, its book and the flash'): an accepted opening and then any list of calls, each given what the one before left; and the
-- book beside it, which is fed the opened image and the calls' arguments alone.
use Rattle.std.specs.Prelude.{ℕ, ◌≡◌, List, [], ◌∷◌, ◌++◌, length}
use Rattle.crc32.specs.Crc32.{Bytes}
use Rattle.book.specs.Book.{Book}
use Rattle.book.specs.Opening.{opening, read_slots, banks_of, book_of}
use Rattle.book.specs.Call.{Call, ByteCall, Answer, step}
use Rattle.nvram.specs.declared.state.Nvram.{Nvram}
use Rattle.nvram.specs.Contract.{begun, Does}

-- an opening that answered 0: what it left is what the contract of `Nvram::parse` says
pub record Opens (image work : List ℕ) (s : Nvram) (w : List ℕ) : Type 0 where
  pub bytes : Bytes image
  pub accepted : (begun (opening image (length work)) work).number ≡ 0
  pub state : s ≡ (begun (opening image (length work)) work).state
  pub left : w ≡ (begun (opening image (length work)) work).work

-- a call, what it answered and handed back, and the state and the work area that it left
pub record Event : Type 0 where
  pub call : Call
  pub answer : Answer
  pub out : List ℕ
  pub state : Nvram
  pub work : List ℕ

-- each call meets its contract on what the one before left
abbrev pub Run : Nvram → List ℕ → List Event → Type 0
Run s w [] = Unit {0}
Run s w (e ∷ es) = ByteCall e.call × Does e.call s w e.answer e.out e.state e.work × Run e.state e.work es

-- the book at first: what Opening gives by the definition of the bank
abbrev pub opened_book : List ℕ → Book
opened_book image = book_of (read_slots (banks_of image) image) (banks_of image)

-- an event, with the book before it and after it
pub record Page : Type 0 where
  pub before : Book
  pub event : Event
  pub after : Book

unfoldable pub pages : Book → List Event → List Page
pages b [] = []
pages b (e ∷ es) = record { before = b; event = e; after = (step b e.call).after } ∷ pages (step b e.call).after es

-- what holds of each page, given the pages before it
abbrev pub Each : List Page → (List Page → Page → Type 0) → Type 0
Each ps P = (earlier : List Page) (p : Page) (later : List Page) → ps ≡ earlier ++ (p ∷ later) → P earlier p
