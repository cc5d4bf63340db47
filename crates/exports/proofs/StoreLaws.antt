-- The contracts of the exported calls, from those of the calls: 6 where the bytes hold no state (`calls_6`), else by the state that was loaded
-- (`calls`, `keeps`); and of the exported opening (`opens_6`, `opens`). To be read: a call that is refused leaves every byte (`exported_refused`), so
-- an edit and a careful commit (`edit_refused`, `careful_refused`).
use Prim.Native.Nat.{ℕ, ◌≤◌, ◌<◌}
use mathlib.Core.Path.{◌≡◌, refl, sym, ap, ◌∙◌, subst}
use mathlib.Core.List.{List, [], ◌∷◌}
use mathlib.Core.Logic.{◌≢◌}
use Rattle.std.specs.Prelude.{Option, None, Some, Result, Ok, Err}
use Rattle.std.specs.Option.{ok_or}
use lib.ListN.{length}
use borrow.Author.Tests.{le-leb, lt-leb}
use Rattle.buffers.proofs.Laws.{clash}
use Rattle.refusal.specs.declared.Refusal.{Refusal}
use Rattle.refusal.specs.declared.Refusal.TheVariants.{NotSound}
use Rattle.crc32.specs.Crc32.{Bytes}
use Rattle.tally.specs.declared.Caller.{Caller}
use Rattle.book.specs.Edit.{Edit}
use Rattle.book.specs.Opening.{opening}
use Rattle.book.specs.Commit.{careful}
use Rattle.book.specs.Call.{Call, edit, commit, Answer, number, refusal, Follows}
use Rattle.book.proofs.StepLaws.{not_old}
use Rattle.book.proofs.RefusalLaws.{refusal_again}
use Rattle.nvram.specs.declared.state.Nvram.{Nvram}
use Rattle.nvram.specs.Contract.{call, Does, begun}
use Rattle.nvram.proofs.KeepLaws.{refusal_keeps}
use Rattle.state_bytes.specs.State.{state_size, stored, read_state}
use Rattle.state_bytes.proofs.StateLaws.{bytes_back, read_state_fine}
use Rattle.exports.specs.Store.{BytesAfter, on_state, exported, Tells, Calls, Start, stated, start, ExportOpens}

-- what is loaded, as `?` tells it

pub not_loaded : {A : Type 0} (o : Option Nvram) (r : Refusal) (x : Result A Refusal) (bs : List ℕ) → o ≡ read_state bs → ok_or o NotSound ≡ Err r → x ≡ Err r
    → (x ≡ Err NotSound) × (read_state bs ≡ None)
not_loaded None r x bs e h p = let q : r ≡ NotSound = cc in (p ∙ ap Err q, sym e)
not_loaded (Some s) r x bs e h p = clash cc

pub loaded : (o : Option Nvram) (s : Nvram) (bs : List ℕ) → o ≡ read_state bs → ok_or o NotSound ≡ Ok s → read_state bs ≡ Some s
loaded None s bs e h = clash cc
loaded (Some t) s bs e h = let q : t ≡ s = cc in sym e ∙ ap Some q

-- a call by what it tells and leaves

module _ (c : Call) (bs w o : List ℕ) (r : ℕ) (q o' : List ℕ) where
  abbrev Tells_of : BytesAfter → Type 0
  Tells_of y = Tells c y.answer y.out o r q o'

  calls_as : (y : BytesAfter) → exported c bs w ≡ y → Tells_of y → (bs' w' : List ℕ) → bs' ≡ y.state → w' ≡ y.work → Calls c bs w o r q bs' w' o'
  calls_as y e t bs' w' s v =
      record { tells = subst Tells_of (sym e) t; state = s ∙ sym (ap (λ (z : BytesAfter). z.state) e); work = v ∙ sym (ap (λ (z : BytesAfter). z.work) e) }

  -- bytes that hold no state
  pub calls_6 : read_state bs ≡ None → Tells c (refusal c 6) [] o r q o' → Calls c bs w o r q bs w o'
  unfolding exported on_state
  calls_6 e t = calls_as (on_state None c bs w) (ap (λ (z : Option Nvram). on_state z c bs w) e) t bs w refl refl

  -- bytes that hold a state
  module _ (s : Nvram) (e : read_state bs ≡ Some s) (a : Answer) (x : List ℕ) (t : Tells c a x o r q o') where
    pub calls : (s' : Nvram) (bs' w' : List ℕ) → Does c s w a x s' w' → bs' ≡ stored s' bs → Calls c bs w o r q bs' w' o'
    unfolding exported on_state
    calls s' bs' w' d p =
        calls_as (on_state (Some s) c bs w) (ap (λ (z : Option Nvram). on_state z c bs w) e)
        (subst (λ (y : List ℕ). Tells c (call c s w).answer y o r q o') d.out (subst (λ (b : Answer). Tells c b x o r q o') d.answer t)) bs' w'
        (p ∙ ap (λ (z : Nvram). stored z bs) d.state) d.work

    -- a call that leaves the state as it was
    pub keeps : (w' : List ℕ) → Bytes bs → Does c s w a x s w' → Calls c bs w o r q bs w' o'
    keeps w' k d = calls s bs w' d (sym (bytes_back bs s k e))

-- a call that is refused

-- what the header says of it, 12 of the old commit apart: the caller is told its number and no more, and state's bytes and work area stay
pub record Untouched (c : Call) (bs w o : List ℕ) (r : ℕ) (q bs' w' o' : List ℕ) : Type 0 where
  pub tells : Tells c (refusal c (number (exported c bs w).answer)) [] o r q o'
  pub state : bs' ≡ bs
  pub work : w' ≡ w

module _ (c : Call) (bs w o : List ℕ) (r : ℕ) (q bs' w' o' : List ℕ) (d : Calls c bs w o r q bs' w' o') where
  untouched : (y : BytesAfter) → exported c bs w ≡ y → y.answer ≡ refusal c (number y.answer) → y.out ≡ [] → y.state ≡ bs → y.work ≡ w
      → Untouched c bs w o r q bs' w' o'
  untouched y e a x s v =
      let f : Answer → Answer = λ z. refusal c (number z) in
      let p : (exported c bs w).answer ≡ f (exported c bs w).answer = ap (λ (z : BytesAfter). z.answer) e ∙ a ∙ ap (λ (z : BytesAfter). f z.answer) (sym e) in
      record {
        tells =
            subst (λ (z : List ℕ). Tells c (f (exported c bs w).answer) z o r q o') (ap (λ (z : BytesAfter). z.out) e ∙ x)
            (subst (λ (z : Answer). Tells c z (exported c bs w).out o r q o') p d.tells);
        state = d.state ∙ ap (λ (z : BytesAfter). z.state) e ∙ s;
        work = d.work ∙ ap (λ (z : BytesAfter). z.work) e ∙ v;
      }

  pub exported_refused : Bytes bs → Bytes w → number (exported c bs w).answer ≢ 0 → Follows c (number (exported c bs w).answer)
      → Untouched c bs w o r q bs' w' o'
  unfolding exported on_state
  exported_refused k kw h m = go (read_state bs) refl
    where
      go : (s : Option Nvram) → read_state bs ≡ s → Untouched c bs w o r q bs' w' o'
      go None e = untouched (on_state None c bs w) (ap (λ (z : Option Nvram). on_state z c bs w) e) (sym (refusal_again c 6)) refl refl refl
      go (Some s) e =
          let p : exported c bs w ≡ on_state (Some s) c bs w = ap (λ (z : Option Nvram). on_state z c bs w) e in
          let n : number (exported c bs w).answer ≡ number (call c s w).answer = ap (λ (z : BytesAfter). number z.answer) p in
          let f = refusal_keeps c s w kw (read_state_fine bs s k e).banks_long (λ z. h (n ∙ z)) (λ i z. m i (n ∙ z)) in
          untouched (on_state (Some s) c bs w) p (sym f.answer) (sym f.out) (ap (λ (z : Nvram). stored z bs) (sym f.state) ∙ bytes_back bs s k e) (sym f.work)

-- of an edit, and so of the barrels' insert (02, N5)
pub edit_refused : (e : Edit) (bs w : List ℕ) (r : ℕ) (bs' w' : List ℕ) → Bytes bs → Bytes w → Calls (edit e) bs w [] r [] bs' w' [] → r ≢ 0
    → (bs' ≡ bs) × (w' ≡ w)
edit_refused e bs w r bs' w' k kw d h =
    let u = exported_refused (edit e) bs w [] r [] bs' w' [] d k kw (λ z. h (d.tells.0 ∙ z)) (not_old (edit e) _ refl) in
    (u.state, u.work)

-- of a careful commit (02, N4), which asks for nothing
pub careful_refused : (caller : Caller) (room : ℕ) (bs w o : List ℕ) (r : ℕ) (q bs' w' o' : List ℕ) → Bytes bs → Bytes w
    → Calls (commit careful caller room) bs w o r q bs' w' o'
    → r ≢ 0
    → (q ≡ 0 ∷ 0 ∷ 0 ∷ 0 ∷ []) × (bs' ≡ bs) × (w' ≡ w) × (o' ≡ o)
careful_refused caller room bs w o r q bs' w' o' k kw d h =
    let c : Call = commit careful caller room in
    let u = exported_refused c bs w o r q bs' w' o' d k kw (λ z. h (d.tells.returned ∙ z)) (not_old c _ refl) in
    (u.tells.fields, u.state, u.work, u.tells.rest)

-- an opening

pub opens_6 : (image bs w : List ℕ) → length bs < state_size → ExportOpens image bs w 6 bs w
unfolding start
opens_6 image bs w h = let e = lt-leb state_size (length bs) h in record { number = rw e; state = rw e; work = rw e }

pub opens : (image bs w : List ℕ) → state_size ≤ length bs → (r : ℕ) (s : Nvram) (bs' w' : List ℕ) → r ≡ (begun (opening image (length w)) w).number
    → s ≡ (begun (opening image (length w)) w).state
    → w' ≡ (begun (opening image (length w)) w).work
    → bs' ≡ stored s bs
    → ExportOpens image bs w r bs' w'
unfolding start
opens image bs w h r s bs' w' n e v b =
    let t : start image bs w ≡ stated (begun (opening image (length w)) w) bs = rw (le-leb state_size (length bs) h) in
    record {
      number = n ∙ sym (ap (λ (x : Start). x.number) t);
      state = b ∙ ap (λ (z : Nvram). stored z bs) e ∙ sym (ap (λ (x : Start). x.state) t);
      work = v ∙ sym (ap (λ (x : Start). x.work) t);
    }
