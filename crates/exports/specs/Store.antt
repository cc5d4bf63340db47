-- What the exported calls answer and leave: those of specs/Contract in nvram, on the state that the lent bytes hold.
use Rattle.std.specs.Prelude.{ℕ, ◌≡◌, List, [], ◌∷◌, cond, length, take, drop, eqb, leb, Option, None, Some}
use Rattle.buffers.specs.Bytes.{onto}
use Rattle.tally.specs.declared.Caller.{Caller}
use Rattle.tally.specs.declared.Caller.TheVariants.{Clock, Barrel}
use Rattle.tally.specs.Tally.{total_of}
use Rattle.bank.specs.declared.variable.VarType.{VarType}
use Rattle.bank.specs.declared.variable.VarType.TheVariants.{Common, System}
use Rattle.book.specs.Call.{Call, edit, lookup, fetch, figures, commit, whole_image, Answer, edited, looked, handed, summed, committed, joined, number, refusal}
use Rattle.book.specs.Opening.{opening}
use Rattle.nvram.specs.declared.state.Nvram.{Nvram}
use Rattle.nvram.specs.Contract.{call, Begun, begun}
use Rattle.state_bytes.specs.State.{state_size, read_state, stored}

-- 0 is Common, every other number System
abbrev pub var_type_of : ℕ → VarType
var_type_of n = cond (eqb n 0) Common System

-- 0 is the clock, every other number the barrel
abbrev pub caller_of : ℕ → Caller
caller_of n = cond (eqb n 0) Clock Barrel

-- a call

-- the answer, the bytes handed back, the state's bytes and the work area
pub record BytesAfter : Type 0 where
  pub answer : Answer
  pub out : List ℕ
  pub state : List ℕ
  pub work : List ℕ

-- bytes that hold no state are refused by 6, and nothing changes
unfoldable pub on_state : Option Nvram → Call → List ℕ → List ℕ → BytesAfter
on_state None c bs w = record { answer = refusal c 6; out = []; state = bs; work = w }
on_state (Some s) c bs w =
    record {
      answer = (call c s w).answer;
      out = (call c s w).out;
      state = stored (call c s w).state bs;
      work = (call c s w).work;
    }

unfoldable pub exported : Call → List ℕ → List ℕ → BytesAfter
exported c bs w = on_state (read_state bs) c bs w

-- what is answered beside a number: of a lookup found 1 or 0, place and length; of the figures both sums and how many records there are; of a
-- commit 1 or 0 for an erase request, its offset, the write's offset and length; of a whole image the length
abbrev pub fields_of : Answer → List ℕ
fields_of (edited k) = []
fields_of (looked k None) = 0 ∷ 0 ∷ 0 ∷ []
fields_of (looked k (Some f)) = 1 ∷ f.place ∷ f.long ∷ []
fields_of handed = []
fields_of (summed k f) = f.system ∷ f.common ∷ f.count ∷ []
fields_of (committed k None offset long) = 0 ∷ 0 ∷ offset ∷ long ∷ []
fields_of (committed k (Some erase) offset long) = 1 ∷ erase ∷ offset ∷ long ∷ []
fields_of (joined k long) = long ∷ []

-- how many bytes stand in the output
abbrev pub length_of : Answer → ℕ
length_of (edited k) = 0
length_of (looked k f) = 0
length_of handed = 0
length_of (summed k f) = 0
length_of (committed k e offset long) = long
length_of (joined k long) = long

-- a commit or a whole image whose answer is a, with the bytes x: it returns the number r, answers the fields q, and leaves an output o as o'
pub record Written (a : Answer) (x o : List ℕ) (r : ℕ) (q o' : List ℕ) : Type 0 where
  pub returned : r ≡ number a
  pub fields : q ≡ fields_of a
  pub bytes : take (length_of a) o' ≡ x
  pub rest : drop (length_of a) o' ≡ drop (length_of a) o

-- what a caller is told of an answer a and the bytes x handed back: the function returns r, answers the fields q, and leaves a lent output o
-- as o'. An edit has no fields, and neither it, a lookup nor the figures have an output; a value's call returns the length, and copies as far
-- as the output reaches
abbrev pub Tells : Call → Answer → List ℕ → List ℕ → ℕ → List ℕ → List ℕ → Type 0
Tells (edit e) a x o r q o' = (r ≡ number a) × (q ≡ []) × (o' ≡ o)
Tells (lookup key typ) a x o r q o' = (r ≡ number a) × (q ≡ fields_of a) × (o' ≡ o)
Tells (fetch key typ) a x o r q o' = (r ≡ length x) × (q ≡ []) × (o' ≡ onto x o)
Tells figures a x o r q o' = (r ≡ number a) × (q ≡ fields_of a) × (o' ≡ o)
Tells (commit way caller room) a x o r q o' = Written a x o r q o'
Tells (whole_image room) a x o r q o' = Written a x o r q o'

-- the contract of every exported call: what it tells, the state's bytes bs' and the work area w' are those of the definition
pub record Calls (c : Call) (bs w o : List ℕ) (r : ℕ) (q bs' w' o' : List ℕ) : Type 0 where
  pub tells : Tells c (exported c bs w).answer (exported c bs w).out o r q o'
  pub state : bs' ≡ (exported c bs w).state
  pub work : w' ≡ (exported c bs w).work

-- an opening

pub record Start : Type 0 where
  pub number : ℕ
  pub state : List ℕ
  pub work : List ℕ

abbrev pub stated : Begun → List ℕ → Start
stated b bs = record { number = b.number; state = stored b.state bs; work = b.work }

-- state bytes too few are refused by 6 before anything is written
unfoldable pub start : List ℕ → List ℕ → List ℕ → Start
start image bs w =
    cond (leb state_size (length bs)) (stated (begun (opening image (length w)) w) bs) (record { number = 6; state = bs; work = w })

pub record ExportOpens (image bs w : List ℕ) (r : ℕ) (bs' w' : List ℕ) : Type 0 where
  pub number : r ≡ (start image bs w).number
  pub state : bs' ≡ (start image bs w).state
  pub work : w' ≡ (start image bs w).work

-- the tallies of the state that the bytes hold (02, N7), whatever the work area is

abbrev pub tally_number : Option Nvram → ℕ
tally_number None = 6
tally_number (Some s) = 0

-- the clock's, the barrel's and the total; zeros where there is no state
abbrev pub tally_fields : Option Nvram → List ℕ
tally_fields None = 0 ∷ 0 ∷ 0 ∷ []
tally_fields (Some s) = s.tally.clock ∷ s.tally.barrel ∷ total_of s.tally ∷ []
