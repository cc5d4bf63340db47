-- Inserts and removes where the active bank's records stand from one place of the work area up to another: what the code's writes leave is the
-- edited bank laid out (`work_less`, `work_more`), so the call does what the book says (`removes`, `insert_refused`, `inserts`). `remove_stays` is to be read:
-- nothing cites it.
use Prim.Native.Nat.{ℕ, zero, suc, ◌+◌, ◌-◌, ◌≤◌, ◌<◌}
use mathlib.Core.Path.{◌≡◌, refl, sym, ap, ap₂, ◌∙◌}
use mathlib.Core.List.{List, [], ◌∷◌, ◌++◌, append_assoc, append-nil}
use mathlib.Core.Logic.{◌≢◌}
use mathlib.Core.Bool.{Bool, true, false}
use Rattle.std.specs.Prelude.{is_some}
use native.Mathlib.Omega.{arith}
use lib.ListN.{length, set, replicate, length-append, length-replicate, replicate-append-replicate}
use lib.Seq.{set-get_or}
use borrow.Author.Tests.{le-leb, lt-leb}
use Rattle.crc32.specs.Crc32.{Bytes}
use Rattle.buffers.specs.Bytes.{over}
use Rattle.buffers.proofs.OverLaws.{over_mid, length_over, over_over}
use Rattle.bank.specs.declared.variable.VarType.{VarType}
use Rattle.bank.specs.Record.{Record, size_of, sizes, record_bytes, records_bytes}
use Rattle.bank.specs.Bank.{Bank, valid}
use Rattle.bank.specs.Totals.{total}
use Rattle.bank.specs.WellFormed.{FineRecords}
use Rattle.bank.proofs.LengthLaws.{length_record, length_records}
use Rattle.records.specs.Match.{removed, fresh}
use Rattle.records.proofs.RecordLists.{fine_removed, sizes_removed, records_append, guid_length}
use Rattle.book.specs.Edit.{Manner, Edit, insert, remove, attributes_of, edited_by, grows, over_ceiling, refused_insert, refused_edit}
use Rattle.book.specs.Book.{part_size, with_active, with_records}
use Rattle.book.specs.Call.{edit, edited, change, edit_as, edit_bank, step}
use Rattle.book.proofs.EditedRecords.{has_room, no_attributes, sizes_edited, fine_edited}
use Rattle.book.proofs.BookLaws.{part_size_lem, part_times}
use Rattle.nvram.specs.declared.state.Kind.{Kind}
use Rattle.nvram.specs.declared.state.Kind.TheVariants.{Empty, Invalid, Valid}
use Rattle.nvram.specs.declared.state.Entry.{Entry}
use Rattle.nvram.specs.declared.state.Nvram.{Nvram}
use Rattle.nvram.specs.Part.{entry, entry_of}
use Rattle.nvram.specs.Layout.{lay_table, lay_state, set_entry, lay_work, view}
use Rattle.nvram.specs.Ready.{active_entry}
use Rattle.nvram.specs.Contract.{call, Does}
use Rattle.nvram.proofs.LayoutLaws.{table_set}
use Rattle.nvram.proofs.CallLaws.{does_6, does, empty_valid, invalid_valid, by_valid}
use Rattle.nvram.proofs.ReadyLaws.{Standing, stand, records}
use Rattle.nvram.proofs.ActiveLaws.{Sound, does_7, book, viewed, active_is, n_is, banks_are, in_slots, does_refuse, part_within, bank, bank_is, bank_fine, total_is, usable_is, total_high, front, rest, laid_with, front_length, laid_out, work_split}

module _ {s : Nvram} {w : List ℕ} {from to : ℕ} (k : Standing s w from to) where
  abbrev g : Sound s w
  g = k.sound

  abbrev v : (active_entry s).kind ≡ Valid
  v = k.valid

  abbrev now : Entry
  now = active_entry s

  abbrev rs : List Record
  rs = (bank g v).records

  rs_fine : FineRecords rs
  rs_fine = (bank_fine g v).0.records_fine

  -- the state with another bank of this usable in the active slot
  state_with : (b : Bank) (t u : ℕ) → t ≡ total b → u ≡ b.usable → set_entry s s.active (entry Valid t u) ≡ lay_state (with_active (book g) b) s.tally
  unfolding entry_of
  state_with b t u p q =
      let e : set s.banks s.active (entry Valid t u) ≡ lay_table (set (book g).slots (book g).active (valid b)) =
      (λ i. set (banks_are g i) (active_is g i) (entry Valid (p i) (q i))) ∙ sym (table_set (book g).slots (book g).active (valid b) (in_slots g)) in
      λ i. record { n = n_is g i; active = active_is g i; tally = s.tally; banks = e i }

  -- an edit, by the number that refuses it
  module _ (e : Edit) where
    edit_step : (n : ℕ) → n ≡ refused_edit e (bank g v) → step (book g) (edit e) ≡ edit_as (book g) e (bank g v) n
    unfolding step edit_bank
    edit_step n q =
        by_valid (book g) (edit e) (edit_bank (book g) e) (bank g v) (bank_is g v) ∙ ap (edit_as (book g) e (bank g v)) (sym q)

    does_refused : (n : ℕ) → n ≡ refused_edit e (bank g v) → n ≢ 0 → Does (edit e) s w (edited n) [] s w
    unfolding edit_as
    does_refused zero q h = absurd (h refl)
    does_refused (suc n) q h = does_refuse g (edit e) (suc n) (edit_step (suc n) q)

    abbrev after : Bank
    after = with_records (bank g v) (edited_by e rs)

    does_edit : 0 ≡ refused_edit e (bank g v) → (s' : Nvram) (w' : List ℕ) → s' ≡ lay_state (with_active (book g) after) s.tally
        → w' ≡ lay_work (with_active (book g) after) w
        → Does (edit e) s w (edited 0) [] s' w'
    unfolding edit_as
    does_edit q s' w' a b =
        does (edit e) s w (book g) (change (book g) after) (edited 0) [] s' w' (viewed g) (edit_step 0 q)
        (record { answer = refl; out = refl; state = a; work = b })

  from_length : length (front g v) ≡ from
  from_length = front_length g v ∙ sym k.from_is

  module _ (key : List ℕ) (typ : VarType) where
    abbrev less : List Record
    less = removed key typ rs

    less_fine : FineRecords less
    less_fine = fine_removed key typ rs rs_fine

    less_length : length (records_bytes less) ≡ sizes rs
    less_length = length_records less less_fine ∙ sizes_removed key typ rs

    work_less : over from (records_bytes less) w ≡ lay_work (with_active (book g) (with_records (bank g v) less)) w
    unfolding lay_work
    work_less =
        ap (over from (records_bytes less)) (work_split g v)
        ∙ over_mid (front g v) (records_bytes rs) (records_bytes less) (replicate (part_size - (24 + sizes rs)) 255 ++ rest g v) from from_length (length_records rs rs_fine ∙ sym less_length)
        ∙ ap (laid_with g v (records_bytes less)) (sym (sizes_removed key typ rs))
        ∙ sym (laid_out g v (with_records (bank g v) less) refl less_fine)

    state_less : s ≡ lay_state (with_active (book g) (with_records (bank g v) less)) s.tally
    unfolding total
    state_less =
        let e : now ≡ entry Valid now.total now.usable = λ i. entry (v i) now.total now.usable in
        let q : s.banks ≡ set s.banks s.active (entry Valid now.total now.usable) =
        sym (set-get_or s.banks s.active (entry Empty 0 0)) ∙ ap (set s.banks s.active) e in
        (λ i. record { n = s.n; active = s.active; tally = s.tally; banks = q i })
        ∙ state_with (with_records (bank g v) less) now.total now.usable (total_is g v ∙ ap (λ (n : ℕ). 24 + n) (sym (sizes_removed key typ rs))) (usable_is g v)

    pub removes : (w' : List ℕ) → w' ≡ over from (records_bytes (removed key typ (records k))) w → Does (edit (remove key typ)) s w (edited 0) [] s w'
    unfolding records edited_by refused_edit
    removes w' e = does_edit (remove key typ) refl s w' state_less (e ∙ work_less)

    module _ (m : Manner) (value : List ℕ) where
      abbrev new : Record
      new = fresh (attributes_of m) key value typ

      abbrev size : ℕ
      size = 37 + length key + length value

      size_is : size ≡ size_of new
      unfolding size_of
      size_is = omega arith

      abbrev more : List Record
      more = less ++ (new ∷ [])

      -- the number, as the code works it out
      abbrev refusing : ℕ
      refusing = refused_insert m (length value) (now.total + size)

      refused_by_lem : refusing ≡ refused_edit (insert m key value typ) (bank g v)
      unfolding refused_edit grows total
      refused_by_lem = ap₂ (λ (t i : ℕ). refused_insert m (length value) (t + i)) (total_is g v) size_is

      pub insert_refused : (n : ℕ) → n ≡ refusing → n ≢ 0 → Does (edit (insert m key value typ)) s w (edited n) [] s w
      insert_refused n q h = does_refused (insert m key value typ) n (q ∙ refused_by_lem) h

      pub insert_room : 0 ≡ refusing → now.total + size ≤ 131072
      insert_room accepted = omega (arith, has_room m (length value) (now.total + size) accepted, part_size_lem)

      module _ (kb : Bytes key) (vb : Bytes value) (accepted : 0 ≡ refusing) where
        more_fine : FineRecords more
        unfolding edited_by grows
        more_fine = fine_edited (insert m key value typ) rs (kb, vb) (omega (arith, insert_room accepted, size_is)) rs_fine

        more_sizes : sizes more ≡ sizes rs + size_of new
        unfolding edited_by grows
        more_sizes = sizes_edited (insert m key value typ) rs

        fits : 24 + sizes rs + size_of new ≤ part_size
        fits = omega (arith, insert_room accepted, size_is, total_is g v, part_size_lem)

        -- the fresh record takes bytes that were 0xFF
        work_old : w ≡ front g v ++ ((records_bytes rs ++ replicate (size_of new) 255) ++ (replicate (part_size - (24 + sizes more)) 255 ++ rest g v))
        work_old =
            let n : part_size - (24 + sizes rs) ≡ size_of new + (part_size - (24 + sizes more)) = omega (arith, fits, more_sizes) in
            let z : List ℕ = replicate (part_size - (24 + sizes more)) 255 in
            work_split g v
            ∙ ap (λ (l : List ℕ). front g v ++ (records_bytes rs ++ (l ++ rest g v)))
            (ap (λ (i : ℕ). replicate i 255) n ∙ sym (replicate-append-replicate (size_of new) (part_size - (24 + sizes more)) 255))
            ∙ ap (λ (l : List ℕ). front g v ++ l)
            (ap (λ (l : List ℕ). records_bytes rs ++ l) (append_assoc (replicate (size_of new) 255) z (rest g v))
            ∙ sym (append_assoc (records_bytes rs) (replicate (size_of new) 255) (z ++ rest g v)))

        more_bytes : records_bytes more ≡ records_bytes less ++ record_bytes new
        unfolding records_bytes
        more_bytes = records_append less (new ∷ []) ∙ ap (λ (l : List ℕ). records_bytes less ++ l) (append-nil (record_bytes new))

        new_length : length (record_bytes new) ≡ size_of new
        new_length = length_record new (guid_length typ)

        work_more : over from (records_bytes less ++ record_bytes new) w ≡ lay_work (with_active (book g) (with_records (bank g v) more)) w
        unfolding lay_work
        work_more =
            let old : List ℕ = records_bytes rs ++ replicate (size_of new) 255 in
            let y : List ℕ = records_bytes less ++ record_bytes new in
            let l : length old ≡ length y =
            length-append (records_bytes rs) (replicate (size_of new) 255)
            ∙ omega
            (arith, length_records rs rs_fine, length-replicate {A = ℕ} (size_of new) 255, length-append (records_bytes less) (record_bytes new), less_length, new_length) in
            ap (over from y) work_old
            ∙ over_mid (front g v) old y (replicate (part_size - (24 + sizes more)) 255 ++ rest g v) from from_length l
            ∙ ap (λ (x : List ℕ). laid_with g v x (sizes more)) (sym more_bytes)
            ∙ sym (laid_out g v (with_records (bank g v) more) refl more_fine)

        -- the fresh record has room behind the others
        pub behind : (w₁ : List ℕ) → w₁ ≡ over from (records_bytes (removed key typ (records k))) w → to + size ≤ length w₁
        unfolding records
        behind w₁ p =
            let h : from + length (records_bytes less) ≤ length w =
            omega (arith, k.from_is, part_times s.active, part_within g, total_high g v, less_length) in
            omega (arith, ap length p, length_over from (records_bytes less) w h, k.to_is, part_times s.active, part_within g, insert_room accepted)

        -- the code's two writes, and the entry's total
        pub inserts : (n : ℕ) (w₁ w₂ : List ℕ) (s' : Nvram) → n ≡ size → w₁ ≡ over from (records_bytes (removed key typ (records k))) w
            → w₂ ≡ over to (record_bytes (fresh 0 key value typ)) w₁
            → s' ≡ set_entry s s.active (entry now.kind (now.total + n) now.usable)
            → Does (edit (insert m key value typ)) s w (edited 0) [] s' w₂
        unfolding records edited_by total
        inserts n w₁ w₂ s' a p q z =
            let e : to ≡ from + length (records_bytes less) = omega (arith, k.from_is, k.to_is, total_is g v, less_length) in
            let h : from + length (records_bytes less) + length (record_bytes new) ≤ length w =
            omega (arith, e, k.to_is, part_times s.active, part_within g, insert_room accepted, size_is, new_length) in
            does_edit (insert m key value typ) (accepted ∙ refused_by_lem) s' w₂
            (z ∙ ap₂ (λ (x : Kind) (i : ℕ). set_entry s s.active (entry x (now.total + i) now.usable)) v a
            ∙ state_with (with_records (bank g v) more) (now.total + size) now.usable (omega (arith, total_is g v, more_sizes, size_is)) (usable_is g v))
            (q ∙ ap (λ (a : ℕ). over to (record_bytes (fresh a key value typ)) w₁) (sym (no_attributes m))
            ∙ ap₂ (λ (i : ℕ) (x : List ℕ). over i (record_bytes new) x) e p
            ∙ over_over from (from + length (records_bytes less)) (records_bytes less) (record_bytes new) w refl h
            ∙ work_more)

-- the number by the code's tests
module _ (m : Manner) (long reached : ℕ) where
  pub answers_15 : over_ceiling m long ≡ true → 15 ≡ refused_insert m long reached
  unfolding refused_insert
  answers_15 t = rw t

  module _ (within : over_ceiling m long ≡ false) where
    pub answers_8 : 131072 < reached → 8 ≡ refused_insert m long reached
    unfolding refused_insert
    answers_8 h = let p : part_size < reached = omega (arith, h, part_size_lem) in rw (within, lt-leb _ _ p)

    pub answers_0 : reached ≤ 131072 → 0 ≡ refused_insert m long reached
    unfolding refused_insert
    answers_0 h = let p : reached ≤ part_size = omega (arith, h, part_size_lem) in rw (within, le-leb _ _ p)

-- a remove leaves the state as it was

stays : (key : List ℕ) (typ : VarType) (s : Nvram) (w : List ℕ) → Sound s w → (k : Kind) → (active_entry s).kind ≡ k
    → s ≡ (call (edit (remove key typ)) s w).state
stays key typ s w g Empty e = (does_7 g (edit (remove key typ)) tt (empty_valid _ e)).state
stays key typ s w g Invalid e = (does_7 g (edit (remove key typ)) tt (invalid_valid _ e)).state
stays key typ s w g Valid e = (removes (stand g e) key typ _ refl).state

pub remove_stays : (key : List ℕ) (typ : VarType) (s : Nvram) (w : List ℕ) → Bytes w → length s.banks ≡ 16 → s ≡ (call (edit (remove key typ)) s w).state
remove_stays key typ s w k l = go (is_some (view s w)) refl
  where
    go : (t : Bool) → is_some (view s w) ≡ t → s ≡ (call (edit (remove key typ)) s w).state
    go true e = stays key typ s w (record { bytes = k; long = l; ok = e }) (active_entry s).kind refl
    go false e = (does_6 (edit (remove key typ)) s w e).state
