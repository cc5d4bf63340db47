-- What the answers mean: sums and differences by their thirds, the order by that of the thirds, conversion and its inverse.
use Prim.Native.Nat.{◌<◌}
use mathlib.Core.Path.{◌≡◌, refl}
use mathlib.Core.Bool.{Bool, true, false, ◌&&◌, cond}
use lib.Dec.{ltb}
use lib.IntN.{ℤ, nat_abs}
use lib.Signed.{lt_z}
use borrow.Author.Tests.{ltb-true, lt-ltb}
use Rattle.buffers.proofs.Laws.{and_both, by_test, clash}
use Rattle.std.specs.Prelude.{Result, Ok, Err}
use Rattle.std.specs.declared.cmp.Ordering.{Ordering}
use Rattle.std.specs.declared.cmp.Ordering.TheVariants.{Less, Equal, Greater}
use Rattle.std.specs.Ordering.{int_cmp}
use Rattle.refusal.specs.declared.Refusal.{Refusal}
use Rattle.refusal.specs.declared.Refusal.TheVariants.{RateRange}
use Rattle.rate.specs.declared.Rate.{Rate}
use Rattle.rate.specs.Rate.{thirds, is_rate, rate_of}
use Rattle.rate.specs.Answer.{from_thirds, on_thirds, order_of, to_thirds}
use Rattle.rate.proofs.Signs.{lt_or_eq}
use Rattle.rate.proofs.Thirds.{thirds_below, thirds_rate, rate_is, rate_thirds, one_form}

-- a rate that has so many thirds
pub record Means (z : ℤ) (r : Rate) : Type 0 where
  pub good : is_rate r ≡ true
  pub value : thirds r ≡ z

-- what an accepted number of thirds shows
pub record Given (z : ℤ) (r : Rate) : Type 0 where
  pub small : nat_abs z < 5184000
  pub means : Means z r

pub given : (z : ℤ) (r : Rate) → from_thirds z ≡ Ok r → Given z r
unfolding from_thirds
given z r =
    by_test (λ (a : Result Rate Refusal). a ≡ Ok r → Given z r) (ltb (nat_abs z) 5184000) (Ok (rate_of z)) (Err RateRange)
    (λ e k.
    let h = ltb-true _ _ e in
    let same : rate_of z ≡ r = cc in
    rw (← same) (record { small = h; means = record { good = rate_is z h; value = thirds_rate z h } }))
    (λ _ k. clash cc)

-- and an accepted sum or difference: its thirds are those of the thirds
pub record Sum (f : ℤ → ℤ → ℤ) (a b : Rate) (s : Rate) : Type 0 where
  pub first : is_rate a ≡ true
  pub second : is_rate b ≡ true
  pub gives : Given (f (thirds a) (thirds b)) s

pub sum_shows : (f : ℤ → ℤ → ℤ) (a b s : Rate) → on_thirds f a b ≡ Ok s → Sum f a b s
unfolding on_thirds
sum_shows f a b s =
    let z = f (thirds a) (thirds b) in
    by_test (λ (x : Result Rate Refusal). x ≡ Ok s → Sum f a b s) (is_rate a && is_rate b) (from_thirds z) (Err RateRange)
    (λ e h. let r = and_both _ _ e in record { first = r.0; second = r.1; gives = given z s h }) (λ _ h. clash cc)

-- what each order shows; equal is one rate
unfoldable pub Ordered : Rate → Rate → Result Ordering Refusal → Type 0
Ordered a b (Err r) = (is_rate a && is_rate b) ≡ false
Ordered a b (Ok Less) = lt_z (thirds a) (thirds b) ≡ true
Ordered a b (Ok Equal) = a ≡ b
Ordered a b (Ok Greater) = lt_z (thirds b) (thirds a) ≡ true

pub order_shows : (a b : Rate) → Ordered a b (order_of a b)
unfolding Ordered order_of
order_shows a b =
    by_test (Ordered a b) (is_rate a && is_rate b) (Ok (int_cmp (thirds a) (thirds b))) (Err RateRange)
    (λ e. let r = and_both _ _ e in
    by_test (λ o. Ordered a b (Ok o)) (lt_z (thirds a) (thirds b)) Less (cond (lt_z (thirds b) (thirds a)) Greater Equal) (λ l. l)
    (λ l. by_test (λ o. Ordered a b (Ok o)) (lt_z (thirds b) (thirds a)) Greater Equal (λ g. g)
    (λ g. one_form a b r.0 r.1 (lt_or_eq (thirds a) (thirds b) l g)))) (λ e. e)

-- conversion and its inverse undo each other

pub to_then_from : (r : Rate) (z : ℤ) → to_thirds r ≡ Ok z → from_thirds z ≡ Ok r
unfolding to_thirds from_thirds
to_then_from r z =
    by_test (λ (t : Result ℤ Refusal). t ≡ Ok z → from_thirds z ≡ Ok r) (is_rate r) (Ok (thirds r)) (Err RateRange)
    (λ e k. let same : thirds r ≡ z = cc in rw (← same) (rw (lt-ltb _ _ (thirds_below r e), rate_thirds r e))) (λ _ k. clash cc)

pub from_then_to : (z : ℤ) (r : Rate) → from_thirds z ≡ Ok r → to_thirds r ≡ Ok z
unfolding to_thirds
from_then_to z r h = let m = (given z r h).means in rw (m.good, m.value)

-- what each of two rates shows by its thirds, as the code asks for them

pub refuses : (r : Rate) (e : Refusal) → to_thirds r ≡ Err e → (is_rate r ≡ false) × (e ≡ RateRange)
unfolding to_thirds
refuses r e =
    by_test (λ (t : Result ℤ Refusal). t ≡ Err e → (is_rate r ≡ false) × (e ≡ RateRange)) (is_rate r) (Ok (thirds r)) (Err RateRange) (λ _ k. clash cc)
    (λ f k. let same : e ≡ RateRange = cc in (f, same))

pub takes : (r : Rate) (z : ℤ) → to_thirds r ≡ Ok z → (is_rate r ≡ true) × (z ≡ thirds r)
unfolding to_thirds
takes r z =
    by_test (λ (t : Result ℤ Refusal). t ≡ Ok z → (is_rate r ≡ true) × (z ≡ thirds r)) (is_rate r) (Ok (thirds r)) (Err RateRange)
    (λ f k. let same : z ≡ thirds r = cc in (f, same)) (λ _ k. clash cc)

-- and what two answer
module _ {A : Type 0} (a b : Rate) (x : Result A Refusal) where
  pub first_refused : is_rate a ≡ false → Err RateRange ≡ cond (is_rate a && is_rate b) x (Err RateRange)
  first_refused h = rw h

  pub second_refused : is_rate b ≡ false → Err RateRange ≡ cond (is_rate a && is_rate b) x (Err RateRange)
  second_refused h = rw h (go (is_rate a))
    where
      go : (t : Bool) → Err RateRange ≡ cond (t && false) x (Err RateRange)
      go true = refl
      go false = refl

  pub both_taken : is_rate a ≡ true → is_rate b ≡ true → x ≡ cond (is_rate a && is_rate b) x (Err RateRange)
  both_taken g h = rw (g, h)
