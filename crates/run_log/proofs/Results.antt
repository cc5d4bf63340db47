-- A call's result: what it shows, the room that it needs, what is answered, and what stands in the output after it.
use Prim.Native.Nat.{ℕ, ◌+◌, ◌*◌, ◌/◌, ◌≤◌, ◌<◌}
use mathlib.Core.Path.{◌≡◌, refl, sym, ap, ◌∙◌, subst}
use mathlib.Core.List.{List, ◌++◌}
use native.Mathlib.Omega.{arith}
use lib.Dec.{ltb}
use lib.ListN.{length, take, drop}
use lib.Seq.{take_at, drop_at}
use borrow.Author.Tests.{lt-ltb, le-ltb}
use Rattle.std.specs.Prelude.{Result, Ok, Err}
use Rattle.buffers.specs.Bytes.{over}
use Rattle.buffers.proofs.Laws.{clash, by_test}
use Rattle.refusal.specs.declared.Refusal.{Refusal}
use Rattle.refusal.specs.Refusal.{number, number_of}
use Rattle.run_log.specs.Output.{fit, answer_of, count_of, given, Answered}

-- its refusals are of this number and more, and of what it gives P holds
pub data Shows (least : ℕ) (P : List ℕ → Type 0) : Result (List ℕ) Refusal → Type 0 where
  is_refused : {r : Refusal} → least ≤ number r → Shows least P (Err r)
  is_given : {ys : List ℕ} → P ys → Shows least P (Ok ys)

pub shown : {least : ℕ} {P : List ℕ → Type 0} {r : Result (List ℕ) Refusal} {xs : List ℕ} → Shows least P r → r ≡ Ok xs → P xs
shown (is_refused l) e = clash (cc)
shown {P = P} {xs = xs} (is_given {ys} h) e = let q : ys ≡ xs = cc in subst P q h

-- room
module _ (lack : Refusal) (room : ℕ) {r : Result (List ℕ) Refusal} where
  pub fit_refused : {k : Refusal} → r ≡ Err k → fit lack room r ≡ Err k
  unfolding fit
  fit_refused e = rw e refl

  module _ {xs : List ℕ} (e : r ≡ Ok xs) where
    pub fit_short : room < length xs → fit lack room r ≡ Err lack
    unfolding fit
    fit_short h = rw e (simp (lt-ltb _ _ h))

    pub fit_room : length xs ≤ room → fit lack room r ≡ Ok xs
    unfolding fit
    fit_room h = rw e (simp (le-ltb _ _ h))

pub fit_gives : (lack : Refusal) (room : ℕ) (r : Result (List ℕ) Refusal) (xs : List ℕ) → fit lack room r ≡ Ok xs → r ≡ Ok xs
unfolding fit
fit_gives lack room (Err k) xs e = e
fit_gives lack room (Ok ys) xs e =
    by_test (λ (r : Result (List ℕ) Refusal). r ≡ Ok xs → ◌≡◌ {A = Result (List ℕ) Refusal} (Ok ys) (Ok xs)) (ltb room (length ys)) _ _ (λ t f. clash (cc)) (λ t f. f) e

pub fit_shows : (lack : Refusal) (room : ℕ) {least : ℕ} {P : List ℕ → Type 0} {r : Result (List ℕ) Refusal} → least ≤ number lack → Shows least P r
    → Shows least P (fit lack room r)
unfolding fit
fit_shows lack room l (is_refused h) = is_refused h
fit_shows lack room {least} {P} l (is_given {ys} h) = by_test (Shows least P) (ltb room (length ys)) _ _ (λ t. is_refused l) (λ t. is_given h)

-- the answer
pub answer_refused : (unit : ℕ) {r : Result (List ℕ) Refusal} {k : Refusal} → r ≡ Err k → answer_of unit r ≡ Err k
unfolding answer_of
answer_refused unit e = rw e refl

pub refused_answer : (unit : ℕ) (r : Result (List ℕ) Refusal) {k : Refusal} → Err k ≡ answer_of unit r → r ≡ Err k
unfolding answer_of
refused_answer unit (Err k) e = cc
refused_answer unit (Ok xs) e = clash (cc)

-- number 0: something was given
pub accepted_gives : (unit : ℕ) {least : ℕ} {P : List ℕ → Type 0} {r : Result (List ℕ) Refusal} {a : Result ℕ Refusal} → 1 ≤ least → Shows least P r
    → a ≡ answer_of unit r
    → number_of a ≡ 0
    → (xs : List ℕ) × (r ≡ Ok xs)
unfolding answer_of
accepted_gives unit {a = a} l (is_refused {r = k} h) e z = absurd (let n : number_of a ≡ number k = ap number_of e in omega arith)
accepted_gives unit l (is_given {ys} h) e z = (ys, refl)

-- any other number: nothing was
pub refused_by_lem : (unit : ℕ) (r : Result (List ℕ) Refusal) {a : Result ℕ Refusal} → a ≡ answer_of unit r → (number_of a ≡ 0 → ⊥)
    → (k : Refusal) × (r ≡ Err k)
unfolding answer_of
refused_by_lem unit (Err k) e h = (k, refl)
refused_by_lem unit (Ok xs) e h = absurd (h (ap number_of e))

-- a refusal leaves the output
pub refused_answered : (unit : ℕ) {r : Result (List ℕ) Refusal} {k : Refusal} (out : List ℕ) → r ≡ Err k → Answered unit r out (Err k) out
unfolding given
refused_answered unit out e = record { answer = sym (answer_refused unit e); output = rw e refl }

pub refused_judged : (unit : ℕ) (lack : Refusal) (room : ℕ) (r : Result (List ℕ) Refusal) {k : Refusal} (out : List ℕ) → Err k ≡ answer_of unit r
    → Answered unit (fit lack room r) out (Err k) out
refused_judged unit lack room r out e = refused_answered unit out (fit_refused lack room (refused_answer unit r e))

pub refused_stays : (unit : ℕ) (r : Result (List ℕ) Refusal) {out out' : List ℕ} {a : Result ℕ Refusal} → Answered unit r out a out'
    → (number_of a ≡ 0 → ⊥)
    → out' ≡ out
unfolding given
refused_stays unit r {out} h n = h.output ∙ ap (λ (x : Result (List ℕ) Refusal). given x out) (refused_by_lem unit r h.answer n).1

-- what is given stands in front, and what stands behind it stays
pub gives_answered : (unit : ℕ) {r : Result (List ℕ) Refusal} {xs out out' : List ℕ} {a : Result ℕ Refusal} → r ≡ Ok xs
    → a ≡ answer_of unit (Ok xs)
    → out' ≡ over 0 xs out
    → Answered unit r out a out'
unfolding given
gives_answered unit e p q = rw e (record { answer = p; output = q })

given_over : (xs out : List ℕ) → given (Ok xs) out ≡ xs ++ drop (length xs) out
unfolding given over
given_over xs out = let e : 0 + length xs ≡ length xs = omega arith in ap (λ (n : ℕ). xs ++ drop n out) e

module _ (unit : ℕ) {r : Result (List ℕ) Refusal} {xs : List ℕ} {out out' : List ℕ} {a : Result ℕ Refusal} (h : Answered unit r out a out') (e : r ≡ Ok xs)
    (u : length xs ≡ unit * (length xs / unit)) where
  size : unit * count_of a ≡ length xs
  unfolding answer_of
  size = ap (λ (c : Result ℕ Refusal). unit * count_of c) (h.answer ∙ ap (answer_of unit) e) ∙ sym u

  given_is : out' ≡ xs ++ drop (unit * count_of a) out
  given_is = h.output ∙ ap (λ (x : Result (List ℕ) Refusal). given x out) e ∙ given_over xs out ∙ ap (λ (n : ℕ). xs ++ drop n out) (sym size)

  pub given_front : take (unit * count_of a) out' ≡ xs
  given_front = ap (take (unit * count_of a)) given_is ∙ take_at xs _ (unit * count_of a) (sym size)

  given_rest : drop (unit * count_of a) out' ≡ drop (unit * count_of a) out
  given_rest = ap (drop (unit * count_of a)) given_is ∙ drop_at xs _ (unit * count_of a) (sym size)

pub rest_stays : (unit : ℕ) (r : Result (List ℕ) Refusal) {out out' : List ℕ} {a : Result ℕ Refusal} → Answered unit r out a out'
    → ((xs : List ℕ) → r ≡ Ok xs → length xs ≡ unit * (length xs / unit))
    → drop (unit * count_of a) out' ≡ drop (unit * count_of a) out
unfolding given
rest_stays unit (Err k) {a = a} h u = ap (drop (unit * count_of a)) h.output
rest_stays unit (Ok xs) h u = given_rest unit h refl (u xs refl)
