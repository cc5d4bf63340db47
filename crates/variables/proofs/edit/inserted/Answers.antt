-- `inserted`: `at_hand` says that the records stand where `ready` answers. Its exits: 6 and 7 (`refused`), 15 and 8 (`insert_refused`), and what
-- deleting, appending and the grown entry leave (`inserts`), where the number was 0 (`accepted`).
use Prim.Native.Nat.{◌+◌, ◌≤◌}
use mathlib.Core.Path.{◌≡◌, refl, ap, ◌∙◌}
use lib.ListN.{length}
use native.Mathlib.Omega.{arith}
use Rattle.std.specs.Prelude.{Err}
use Rattle.std.proofs.lemmas.Result.{err_from_is_err_and}
use Rattle.book.specs.Edit.{insert, refused_insert}
use Rattle.book.specs.Call.{edit}
use Rattle.nvram.specs.Ready.{active_entry}
use Rattle.nvram.proofs.ReadyLaws.{Standing, records, here, in_table, total_within, standing, refused}
use Rattle.variables.specs.Manner.{manner_of}
use Rattle.variables.proofs.EditLaws.{insert_refused, insert_room, behind, inserts}
use Rattle.variables.proofs.edit.inserted.Goals.{In_ok-from, In_ok-size}
use Rattle.variables.proofs.edit.inserted.Goals as goal

at_hand : (c : In_ok-from) → Standing c.args.state c.args.work.now c.in_ok-from.from c.in_ok-from.to
at_hand c = standing (λ i. omega (arith, c.slice_known-1.given i)) (c.well_formed.0.1.1.1.1.1.0.1.0.1) c.ready.ensures _ c.in_ok-from.was

accepted : (c : In_ok-size) → (let a = c.args in 0 ≡ refused_insert (manner_of a.manner) (length a.value.now) ((active_entry a.state).total + (37 + length a.key.now + length a.value.now)))
accepted c = c.in_ok-size.ensures.number

pub fresh_size-requires : goal.fresh_size-requires
fresh_size-requires c = let k = at_hand (goal.at.fresh_size-requires c).In_ok-from in (in_table k, total_within k)

pub returns-in_err-size : goal.returns-in_err-size
returns-in_err-size c =
    let a = c.args in
    let k = at_hand (goal.at.returns-in_err-size c).In_ok-from in
    let p = err_from_is_err_and c.from_residual-in_err-size.result c.from_residual-in_err-size.ensures.1 in
    rw (p.1 ∙ ap Err p.2)
    (insert_refused k a.key.now a.typ (manner_of a.manner) a.value.now _ c.in_err-size.ensures.number c.in_err-size.ensures.refused)

pub delete_all-requires : goal.delete_all-requires
delete_all-requires c = let k = at_hand (goal.at.delete_all-requires c).In_ok-from in (records k, here k)

pub append-requires : goal.append-requires
append-requires c =
    let a = c.args in
    let k = at_hand (goal.at.append-requires c).In_ok-from in
    let q = accepted (goal.at.append-requires c).In_ok-size in
    let r : (active_entry a.state).total + (37 + length a.key.now + length a.value.now) ≤ 131072 = insert_room k a.key.now a.typ (manner_of a.manner) a.value.now q in (
      omega arith,
      omega arith,
      behind k a.key.now a.typ (manner_of a.manner) a.value.now (λ i. omega (arith, c.type_inv.key i)) (λ i. omega (arith, c.type_inv.value i)) q _ (c.delete_all.ensures _ (here k)),
    )

pub bounds-state-state : goal.bounds-state-state
bounds-state-state c = in_table (at_hand (goal.at.bounds-state-state c).In_ok-from)

pub bounds-state-state-2 : goal.bounds-state-state-2
bounds-state-state-2 c = in_table (at_hand (goal.at.bounds-state-state-2 c).In_ok-from)

pub overflow_add-state : goal.overflow_add-state
overflow_add-state c = let k = at_hand (goal.at.overflow_add-state c).In_ok-from in
    omega (arith, insert_room k c.args.key.now c.args.typ (manner_of c.args.manner) c.args.value.now (accepted (goal.at.overflow_add-state c).In_ok-size), c.in_ok-size.ensures.size)

pub returns-in_err-from : goal.returns-in_err-from
returns-in_err-from c =
    let a = c.args in
    let p = err_from_is_err_and c.from_residual.result c.from_residual.ensures.1 in
    rw (p.1 ∙ ap Err p.2)
    (refused (λ i. omega (arith, c.slice_known-1.given i)) (c.well_formed.0.1.1.1.1.1.0.1.0.1) c.ready.ensures _ (edit (insert (manner_of a.manner) a.key.now a.value.now a.typ)) tt c.in_err-from.was)

pub returns : goal.returns
returns c = let a = c.args in let k = at_hand (goal.at.returns c).In_ok-from in
    inserts k a.key.now a.typ (manner_of a.manner) a.value.now (λ i. omega (arith, c.type_inv.key i)) (λ i. omega (arith, c.type_inv.value i))
    (accepted (goal.at.returns c).In_ok-size) _ _ _ _ c.in_ok-size.ensures.size (c.delete_all.ensures _ (here k)) c.append.ensures refl
