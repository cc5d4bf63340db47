-- Answers that ask nothing of the flash: every refusal but 12 of an old commit, every call that only reads, and every edit.
use Prim.Native.Nat.{ℕ, zero, suc}
use mathlib.Core.Path.{◌≡◌, refl, sym, subst}
use mathlib.Core.Logic.{◌≢◌}
use Rattle.std.specs.Prelude.{Option, None, Some}
use mathlib.Core.List.{List}
use Rattle.buffers.proofs.Laws.{clash}
use Rattle.book.specs.Call.{Call, edit, lookup, fetch, figures, commit, whole_image, Answer, edited, looked, handed, summed, committed, joined, erase, refusal}
use Rattle.book.proofs.Did.{Reads}
use Rattle.run.specs.Flash.{carried_out}

abbrev pub Idle : Answer → Type 0
Idle (edited k) = Unit {0}
Idle (looked k f) = Unit {0}
Idle handed = Unit {0}
Idle (summed k f) = Unit {0}
Idle (committed zero e offset long) = ⊥
Idle (committed (suc k) e offset long) = e ≡ None
Idle (joined k long) = Unit {0}

pub idle_refusal : (c : Call) (k : ℕ) → k ≢ 0 → Idle (refusal c k)
idle_refusal (edit e) k h = tt
idle_refusal (lookup key typ) k h = tt
idle_refusal (fetch key typ) k h = tt
idle_refusal figures k h = tt
idle_refusal (commit way caller room) zero h = absurd (h refl)
idle_refusal (commit way caller room) (suc k) h = refl
idle_refusal (whole_image room) k h = tt

pub idle_read : (c : Call) (a : Answer) → Reads c a → Idle a
idle_read (edit e) a r = absurd r
idle_read (lookup key typ) a r = subst Idle (sym r.1) tt
idle_read (fetch key typ) a r = subst Idle (sym r) tt
idle_read figures a r = subst Idle (sym r.1) tt
idle_read (commit way caller room) a r = absurd r
idle_read (whole_image room) a r = subst Idle (sym r.1) tt

-- no erase is requested then, nothing is done to the flash, and it is no accepted commit

pub idle_quiet : (a : Answer) → Idle a → erase a ≡ None
idle_quiet (edited k) i = refl
idle_quiet (looked k f) i = refl
idle_quiet handed i = refl
idle_quiet (summed k f) i = refl
idle_quiet (committed zero e offset long) i = absurd i
idle_quiet (committed (suc k) e offset long) i = i
idle_quiet (joined k long) i = refl

pub idle_flash : (a : Answer) → Idle a → (x flash : List ℕ) → carried_out a x flash ≡ flash
idle_flash (edited k) i x flash = refl
idle_flash (looked k f) i x flash = refl
idle_flash handed i x flash = refl
idle_flash (summed k f) i x flash = refl
idle_flash (committed zero e offset long) i x flash = absurd i
idle_flash (committed (suc k) e offset long) i x flash = refl
idle_flash (joined k long) i x flash = refl

pub no_commit : {a : Answer} {e : Option ℕ} {offset long : ℕ} → Idle a → a ≡ committed 0 e offset long → ⊥
no_commit i q = subst Idle q i

pub no_request : (a : Answer) {offset : ℕ} → Idle a → erase a ≡ Some offset → ⊥
no_request a i q = clash (cc (q, idle_quiet a i))
