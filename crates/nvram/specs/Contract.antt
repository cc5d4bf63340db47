-- The contract of every call: what it answers and leaves is what the call does to the book that state and work area hold, laid out again;
-- or 6, and nothing changed.
use Rattle.std.specs.Prelude.{ℕ, ◌≡◌, List, [], replicate, Option, None, Some}
use Rattle.tally.specs.Tally.{no_tally}
use Rattle.book.specs.Book.{Book}
use Rattle.book.specs.Opening.{Opened, opened, refused}
use Rattle.book.specs.Call.{Call, Answer, refusal, step}
use Rattle.book.specs.Tallied.{tallied}
use Rattle.nvram.specs.declared.state.Kind.TheVariants.{Empty}
use Rattle.nvram.specs.declared.state.Nvram.{Nvram}
use Rattle.nvram.specs.Part.{entry}
use Rattle.nvram.specs.Layout.{lay_state, lay_work, view}

pub record After : Type 0 where
  pub answer : Answer
  pub out : List ℕ
  pub state : Nvram
  pub work : List ℕ

unfoldable pub on_book : Option Book → Call → Nvram → List ℕ → After
on_book None c s w = record { answer = refusal c 6; out = []; state = s; work = w }
on_book (Some b) c s w =
    record {
      answer = (step b c).answer;
      out = (step b c).out;
      state = lay_state (step b c).laid (tallied c (step b c).answer s.tally);
      work = lay_work (step b c).laid w;
    }

unfoldable pub call : Call → Nvram → List ℕ → After
call c s w = on_book (view s w) c s w

-- the answer a, the bytes x handed back, the state s' and the work area w' are those of the definition
pub record Does (c : Call) (s : Nvram) (w : List ℕ) (a : Answer) (x : List ℕ) (s' : Nvram) (w' : List ℕ) : Type 0 where
  pub answer : a ≡ (call c s w).answer
  pub out : x ≡ (call c s w).out
  pub state : s' ≡ (call c s w).state
  pub work : w' ≡ (call c s w).work

-- an opening: number, state and work area
pub record Begun : Type 0 where
  pub number : ℕ
  pub state : Nvram
  pub work : List ℕ

-- a refused opening gives a state of zeros and Empty slots; an accepted one starts both tallies at 0
abbrev pub no_state : Nvram
no_state = record { n = 0; active = 0; tally = no_tally; banks = replicate 16 (entry Empty 0 0) }

unfoldable pub begun : Opened → List ℕ → Begun
begun (opened b) w = record { number = 0; state = lay_state b no_tally; work = lay_work b w }
begun (refused k) w = record { number = k; state = no_state; work = w }
