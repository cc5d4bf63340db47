-- Demand 3 of a run through the exports, where the state travels as bytes: it is a run of run/specs/Run, and that meets run/specs/Demand.
use Rattle.std.specs.Prelude.{ℕ, ◌≡◌, List, [], ◌∷◌, Some}
use Rattle.crc32.specs.Crc32.{Bytes}
use Rattle.book.specs.Call.{Call, ByteCall, Follows}
use Rattle.nvram.specs.declared.state.Nvram.{Nvram}
use Rattle.run.specs.Run as run
use Rattle.run.specs.Wear.{all_commits, accepted_commits}
use Rattle.run.specs.Demand.{Tallies, Demand3, Careful, Always}
use Rattle.state_bytes.specs.State.{read_state}
use Rattle.exports.specs.Store.{Tells, Calls, ExportOpens}

-- an exported call: the output that it was lent, what it returned, the fields that it answered, the output, the state's bytes and the work
-- area that it left
pub record ExportEvent : Type 0 where
  pub call : Call
  pub lent : List ℕ
  pub returned : ℕ
  pub fields : List ℕ
  pub output : List ℕ
  pub state : List ℕ
  pub work : List ℕ

-- each call meets its function's contract on what the one before left
abbrev pub ExportRun : List ℕ → List ℕ → List ExportEvent → Type 0
ExportRun bs w [] = Unit {0}
ExportRun bs w (e ∷ es) =
    ByteCall e.call × Calls e.call bs w e.lent e.returned e.fields e.state e.work e.output × ExportRun e.state e.work es

-- each call keeps a rule with what its function returned
abbrev pub ExportKeeps : (Call → ℕ → Type 0) → List ExportEvent → Type 0
ExportKeeps Keeps [] = Unit {0}
ExportKeeps Keeps (e ∷ es) = Keeps e.call e.returned × ExportKeeps Keeps es

-- an event of demand 3 that is the same call: the caller is told its answer and its bytes, and its state is what the bytes hold
pub record Same (e : ExportEvent) (f : run.Event) : Type 0 where
  pub call : f.call ≡ e.call
  pub tells : Tells e.call f.answer f.out e.lent e.returned e.fields e.output
  pub state : read_state e.state ≡ Some f.state
  pub work : f.work ≡ e.work

abbrev pub AllSame : List ExportEvent → List run.Event → Type 0
AllSame [] [] = Unit {0}
AllSame [] (f ∷ fs) = ⊥
AllSame (e ∷ es) [] = ⊥
AllSame (e ∷ es) (f ∷ fs) = Same e f × AllSame es fs

-- they are a run, of whose pages something holds
pub record RunHolds (Holds : List run.Page → Type 0) (image w bs' w' : List ℕ) (es : List ExportEvent) : Type 0 where
  pub state : Nvram
  pub read : read_state bs' ≡ Some state
  pub events : List run.Event
  pub opens : run.Opens image w state w'
  pub runs : run.Run state w' events
  pub same : AllSame es events
  pub holds : Holds (run.pages (run.opened_book image) events)

-- of an accepted opening and a list of exported calls
abbrev pub ExportClaim : (Call → ℕ → Type 0) → (List ℕ → List run.Page → Type 0) → Type 0
ExportClaim Keeps Holds =
    (image bs w bs' w' : List ℕ) (es : List ExportEvent) → Bytes image → ExportOpens image bs w 0 bs' w' → ExportRun bs' w' es
    → ExportKeeps Keeps es
    → RunHolds (Holds image) image w bs' w' es

-- 01's reading and 02's (N4, N7), as in run/specs/Demand

abbrev pub ExportClaim01 : Type 0
ExportClaim01 = ExportClaim Follows (λ image. Demand3 image all_commits)

abbrev pub ExportClaimN4 : Type 0
ExportClaimN4 = ExportClaim Careful (λ image. Demand3 image accepted_commits)

abbrev pub ExportClaimN7 : Type 0
ExportClaimN7 = ExportClaim Always (λ image. Tallies)
