-- Lookups on a sound state and work area: the place that is found, and the value that stands there (`value_stands`). `value_lies` and
-- `finds_nothing` are to be read: nothing cites them.
use Prim.Native.Nat.{ℕ, ◌+◌, ◌*◌, ◌-◌, ◌≤◌}
use mathlib.Core.Path.{◌≡◌, refl, sym, ap, ap₂, ◌∙◌, subst}
use mathlib.Core.List.{List, [], ◌∷◌, ◌++◌, append_assoc}
use mathlib.Core.Bool.{Bool, true, false, cond}
use Rattle.std.specs.Prelude.{Option, None, Some, is_some, Result, Ok, Err}
use native.Mathlib.Omega.{arith}
use lib.ListN.{length, take, drop, take-append-drop, length-append}
use lib.Seq.{take_at, length-take-le}
use Rattle.std.specs.Result.{result_unwrap_or}
use Rattle.refusal.specs.declared.Refusal.{Refusal}
use Rattle.crc32.specs.Crc32.{Bytes, crc32_of}
use Rattle.buffers.proofs.Laws.{past_drop}
use Rattle.bank.specs.declared.variable.VarType.{VarType}
use Rattle.bank.specs.Record.{Record, size_of, var_header_bytes, record_bytes, records_bytes}
use Rattle.bank.specs.WellFormed.{FineRecord, FineRecords}
use Rattle.bank.proofs.LengthLaws.{length_var_header, length_record}
use Rattle.records.specs.declared.edit.Found.{Found}
use Rattle.records.specs.Match.{matches, found_in, value_in}
use Rattle.records.specs.Records.{Holds}
use Rattle.book.specs.Book.{part_size}
use Rattle.book.specs.Call.{lookup, fetch, Answer, looked, handed, stay, stay_with, lookup_bank, fetch_bank, step}
use Rattle.nvram.specs.declared.state.Kind.{Kind}
use Rattle.nvram.specs.declared.state.Kind.TheVariants.{Empty, Invalid, Valid}
use Rattle.nvram.specs.declared.state.Nvram.{Nvram}
use Rattle.nvram.specs.Layout.{view}
use Rattle.nvram.specs.Ready.{active_entry}
use Rattle.nvram.specs.Contract.{call, Does}
use Rattle.nvram.proofs.CallLaws.{does_6, does, empty_valid, invalid_valid, by_valid}
use Rattle.nvram.proofs.ReadyLaws.{Standing, stand, records, here}
use Rattle.nvram.proofs.ActiveLaws.{Sound, book, viewed, state_is, work_is, active_is, does_7, bank, bank_is}
use Rattle.variables.specs.LookupAnswer.{lookup_answer}

-- what is found lies in w, and is the value
abbrev pub ValueStands : Option Found → List ℕ → List ℕ → Type 0
ValueStands None w v = v ≡ []
ValueStands (Some f) w v = (f.place + f.long ≤ length w) × (take f.long (drop f.place w) ≡ v)

value_at_lem : (r : Record) (p q w : List ℕ) (at : ℕ) → FineRecord r → length p ≡ at → w ≡ p ++ (record_bytes r ++ q)
    → ValueStands (Some (record { place = at + 36 + (length r.key + 1); long = length r.value })) w r.value
unfolding record_bytes
value_at_lem r p q w at f l e =
    let h : List ℕ = var_header_bytes r.state r.attributes (length r.key + 1) (length r.value) r.guid (crc32_of r.value) in
    let lh : length h ≡ 36 =
    length_var_header r.state r.attributes (length r.key + 1) (length r.value) (crc32_of r.value) r.guid f.guid_long in
    let b : List ℕ = (p ++ h) ++ r.key in
    let lb : length b ≡ at + 36 + length r.key = length-append (p ++ h) r.key ∙ omega (arith, length-append p h) in
    let a : w ≡ b ++ (0 ∷ (r.value ++ q)) = e ∙ simp append_assoc in
    let n : at + 36 + (length r.key + 1) ≡ at + 36 + length r.key + 1 = omega arith in
    let d : drop (at + 36 + (length r.key + 1)) w ≡ r.value ++ q =
    ap₂ drop n a ∙ past_drop b (0 ∷ (r.value ++ q)) (at + 36 + length r.key) 1 lb in
    (omega (arith, ap length a, length-append b (0 ∷ (r.value ++ q)), length-append r.value q), ap (take (length r.value)) d ∙ take_at r.value q (length r.value) refl)

pub value_stands : (key : List ℕ) (typ : VarType) (rs : List Record) (p q w : List ℕ) (at : ℕ) → FineRecords rs → length p ≡ at
    → w ≡ p ++ (records_bytes rs ++ q)
    → ValueStands (found_in key typ at rs) w (value_in key typ rs)
unfolding found_in value_in records_bytes
value_stands key typ [] p q w at f l e = refl
value_stands key typ (r ∷ rs) p q w at f l e =
    go (matches key typ r)
    (value_stands key typ rs (p ++ record_bytes r) q w (at + size_of r) f.1
    (length-append p (record_bytes r) ∙ omega (arith, length_record r f.0.guid_long))
    (e ∙ simp append_assoc))
  where
    go : (t : Bool) → ValueStands (found_in key typ (at + size_of r) rs) w (value_in key typ rs)
        → ValueStands (cond t (Some (record { place = at + 36 + (length r.key + 1); long = length r.value })) (found_in key typ (at + size_of r) rs)) w
        (cond t r.value (value_in key typ rs))
    go true h = value_at_lem r p (records_bytes rs ++ q) w at f.0 l (e ∙ ap (λ (x : List ℕ). p ++ x) (append_assoc (record_bytes r) (records_bytes rs) q))
    go false h = h

-- by what the code holds
found_stands : (key : List ℕ) (typ : VarType) (w : List ℕ) (from to : ℕ) (rs : List Record) → Holds w from to rs
    → ValueStands (found_in key typ from rs) w (value_in key typ rs)
found_stands key typ w from to rs h =
    let lo = h.low in
    let hi = h.high in
    value_stands key typ rs (take from w) (drop (to - from) (drop from w)) w from h.fine (length-take-le from w (omega arith))
    (sym (take-append-drop from w)
    ∙ ap (λ (x : List ℕ). take from w ++ x)
    (sym (take-append-drop (to - from) (drop from w)) ∙ ap (λ (x : List ℕ). x ++ drop (to - from) (drop from w)) h.is))

module _ {s : Nvram} {w : List ℕ} {from to : ℕ} (k : Standing s w from to) (key : List ℕ) (typ : VarType) where
  abbrev g : Sound s w
  g = k.sound

  abbrev v : (active_entry s).kind ≡ Valid
  v = k.valid

  abbrev found : Option Found
  found = found_in key typ from (records k)

  looks : (a : Answer) → a ≡ looked 0 found → Does (lookup key typ) s w a [] s w
  unfolding records step lookup_bank
  looks a e =
      let m : from ≡ (book g).active * part_size + 24 = k.from_is ∙ ap (λ (i : ℕ). i * part_size + 24) (active_is g) in
      does (lookup key typ) s w (book g) (stay (book g) (looked 0 (found_in key typ ((book g).active * part_size + 24) (bank g v).records))) a [] s w (viewed g)
      (by_valid (book g) (lookup key typ) (lookup_bank (book g) key typ) (bank g v) (bank_is g v))
      (record {
        answer = e ∙ ap (λ (i : ℕ). looked 0 (found_in key typ i (bank g v).records)) m;
        out = refl;
        state = state_is g;
        work = work_is g;
      })

  pub finds : (o : Option Found) → o ≡ found → Does (lookup key typ) s w (lookup_answer (Ok o)) [] s w
  finds o e = looks (lookup_answer (Ok o)) (ap (looked 0) e)

  pub finds_nothing : None ≡ found → Does (lookup key typ) s w (lookup_answer (Ok None)) [] s w
  finds_nothing e = finds None e

  fetches : Does (fetch key typ) s w handed (value_in key typ (records k)) s w
  unfolding records step fetch_bank
  fetches =
      does (fetch key typ) s w (book g) (stay_with (book g) handed (value_in key typ (bank g v).records)) handed
      (value_in key typ (bank g v).records) s w (viewed g)
      (by_valid (book g) (fetch key typ) (fetch_bank (book g) key typ) (bank g v) (bank_is g v))
      (record { answer = refl; out = refl; state = state_is g; work = work_is g })

-- the value's call, by the lookup's answer

abbrev pub found_of : Result (Option Found) Refusal → Option Found
found_of l = result_unwrap_or l None

found_of_lem : (l : Result (Option Found) Refusal) (k : ℕ) (o : Option Found) → lookup_answer l ≡ looked k o → found_of l ≡ o
found_of_lem (Ok f) k o e = cc
found_of_lem (Err j) k o e = cc

record Fetched (key : List ℕ) (typ : VarType) (s : Nvram) (w : List ℕ) (l : Result (Option Found) Refusal) : Type 0 where
  bytes : List ℕ
  does : Does (fetch key typ) s w handed bytes s w
  part : ValueStands (found_of l) w bytes

module _ (key : List ℕ) (typ : VarType) (s : Nvram) (w : List ℕ) (l : Result (Option Found) Refusal) (bytes : Bytes w) (long : length s.banks ≡ 16)
    (t : lookup_answer l ≡ (call (lookup key typ) s w).answer) where
  fetched_by : (k : ℕ) (o : Option Found) (x : List ℕ) → Does (lookup key typ) s w (looked k o) [] s w → Does (fetch key typ) s w handed x s w → ValueStands o w x
      → Fetched key typ s w l
  fetched_by k o x a d h =
      record { bytes = x; does = d; part = subst (λ (y : Option Found). ValueStands y w x) (sym (found_of_lem l k o (t ∙ sym a.answer))) h }

  by_kind : (g : Sound s w) (k : Kind) → (active_entry s).kind ≡ k → Fetched key typ s w l
  by_kind g Empty q = fetched_by 7 None [] (does_7 g (lookup key typ) tt (empty_valid _ q)) (does_7 g (fetch key typ) tt (empty_valid _ q)) refl
  by_kind g Invalid q = fetched_by 7 None [] (does_7 g (lookup key typ) tt (invalid_valid _ q)) (does_7 g (fetch key typ) tt (invalid_valid _ q)) refl
  by_kind g Valid q =
      let k = stand g q in
      fetched_by 0 (found_in key typ (s.active * part_size + 24) (records k)) (value_in key typ (records k)) (looks k key typ _ refl) (fetches k key typ)
      (found_stands key typ w _ _ (records k) (here k))

  by_sound : (x : Bool) → is_some (view s w) ≡ x → Fetched key typ s w l
  by_sound false e = fetched_by 6 None [] (does_6 (lookup key typ) s w e) (does_6 (fetch key typ) s w e) refl
  by_sound true e = by_kind (record { bytes = bytes; long = long; ok = e }) (active_entry s).kind refl

  fetched : Fetched key typ s w l
  fetched = by_sound (is_some (view s w)) refl

  stands : (o : Option Found) → found_of l ≡ o → ValueStands o w fetched.bytes
  stands o e = subst (λ (x : Option Found). ValueStands x w fetched.bytes) e fetched.part

  -- the value is what stands at the place that is found
  pub fetch_at : (f : Found) → l ≡ Ok (Some f)
      → (f.place + f.long ≤ length w) × ((x : List ℕ) → x ≡ take f.long (drop f.place w) → Does (fetch key typ) s w handed x s w)
  fetch_at f e =
      let h = stands (Some f) (ap found_of e) in
      (h.0, λ x q. subst (λ (y : List ℕ). Does (fetch key typ) s w handed y s w) (sym (q ∙ h.1)) fetched.does)

  -- and nothing where there is none, or the lookup is refused
  pub fetch_none : found_of l ≡ None → Does (fetch key typ) s w handed [] s w
  fetch_none e = subst (λ (y : List ℕ). Does (fetch key typ) s w handed y s w) (stands None e) fetched.does

-- what is handed back is what stands in the work area at the place that the lookup answers
pub value_lies : (key : List ℕ) (typ : VarType) (s : Nvram) (w : List ℕ) → Bytes w → length s.banks ≡ 16 → (f : Found)
    → (call (lookup key typ) s w).answer ≡ looked 0 (Some f)
    → (f.place + f.long ≤ length w) × ((call (fetch key typ) s w).out ≡ take f.long (drop f.place w))
value_lies key typ s w bytes long f e =
    let x = fetch_at key typ s w (Ok (Some f)) bytes long (sym e) f refl in
    (x.0, sym (x.1 _ refl).out)
