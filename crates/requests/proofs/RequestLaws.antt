-- What a commit asks and leaves: the erase request by the slot's kind, the tallies, the state after a move, and the
-- output's front.
use Prim.Native.Nat.{ℕ, ◌+◌, ◌*◌, ◌-◌, ◌≤◌}
use mathlib.Core.Path.{◌≡◌, refl, sym, ap, ◌∙◌}
use mathlib.Core.List.{List, ◌++◌}
use mathlib.Core.Logic.{◌⊎◌, inl, inr}
use Rattle.std.specs.Prelude.{Option, None, Some, is_some}
use mathlib.Core.Bool.{true, false}
use native.Mathlib.Omega.{arith}
use lib.ListN.{length, set, take, drop, length-drop}
use lib.Seq.{length-take-le}
use Rattle.buffers.specs.Bytes.{onto}
use Rattle.buffers.proofs.Laws.{clash, onto_fits}
use Rattle.tally.specs.declared.Caller.{Caller}
use Rattle.tally.specs.declared.Tally.{Tally}
use Rattle.tally.specs.Tally.{counted}
use Rattle.tally.proofs.TallyLaws.{counted_none}
use Rattle.bank.specs.Bank.{Slot, empty, invalid, valid, bank_size}
use Rattle.book.specs.Commit.{request}
use Rattle.nvram.specs.declared.state.Kind.{Kind}
use Rattle.nvram.specs.declared.state.Kind.TheVariants.{Empty, Invalid, Valid}
use Rattle.nvram.specs.declared.state.Nvram.{Nvram}
use Rattle.nvram.specs.Part.{entry, entry_of}
use Rattle.requests.specs.Applied.{moved_state}

-- the erase request, by the slot's kind
module _ {x : Kind} (i : ℕ) where
  pub request_none : x ≡ Empty → (k : Slot) → x ≡ (entry_of k).kind → None ≡ request k i
  unfolding request entry_of
  request_none e empty p = refl
  request_none e invalid p = clash cc
  request_none e (valid k) p = clash cc

  pub request_some : (x ≡ Invalid) ⊎ (x ≡ Valid) → (k : Slot) → x ≡ (entry_of k).kind → Some (i * 65536) ≡ request k i
  unfolding request entry_of bank_size
  request_some (inl e) empty p = clash cc
  request_some (inr e) empty p = clash cc
  request_some e invalid p = refl
  request_some e (valid k) p = refl

-- the tallies, by whether there is an erase request
module _ (t : Tally) (caller : Caller) where
  pub tally_stays : (e : Option ℕ) → is_some e ≡ false → t ≡ counted (Some caller) e t
  tally_stays None h = sym (counted_none (Some caller) t)
  tally_stays (Some at) h = cc

  pub tally_more : (e : Option ℕ) (t' : Tally) → is_some e ≡ true → ((at : ℕ) → t' ≡ counted (Some caller) (Some at) t) → t' ≡ counted (Some caller) e t
  tally_more None t' h p = cc
  tally_more (Some at) t' h p = p at

-- a state x like s but for a tally t, once the bank is put in
pub moved_is : (s : Nvram) {x : Nvram} {t : Tally} (i total size : ℕ) (caller : Caller) (e : Option ℕ) → x ≡ record { n = s.n; active = s.active; tally = t; banks = s.banks }
    → t ≡ counted (Some caller) e s.tally
    → record { n = x.n; active = i; tally = x.tally; banks = set x.banks i (entry Valid total size) } ≡ moved_state s i total size caller e
unfolding moved_state
moved_is s i total size caller e p q =
    (λ j. record { n = (p j).n; active = i; tally = (p j).tally; banks = set (p j).banks i (entry Valid total size) })
    ∙ (λ j. record { n = s.n; active = i; tally = q j; banks = set s.banks i (entry Valid total size) })

-- n bytes of w from a place on, over the front of an output
pub front_written : (a n : ℕ) (w o y : List ℕ) → a + n ≤ length w → n ≤ length o → y ≡ onto (take (a + n - a) (drop a w)) o
    → y ≡ take n (drop a w) ++ drop n o
front_written a n w o y h k e =
    let l : length (take n (drop a w)) ≡ n = length-take-le n (drop a w) (omega (arith, length-drop a w)) in
    let m : a + n - a ≡ n = omega arith in
    e ∙ ap (λ (i : ℕ). onto (take i (drop a w)) o) m ∙ onto_fits (take n (drop a w)) o (omega arith)
    ∙ ap (λ (i : ℕ). take n (drop a w) ++ drop i o) l
