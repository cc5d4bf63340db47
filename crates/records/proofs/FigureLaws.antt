-- The figures, record by record, as the check for refusal 6 adds them up: `Walked` says what holds of them at a place, with laws for start, turn,
-- stop and end.
use Prim.Native.Nat.{ℕ, ◌+◌, ◌-◌, ◌≤◌, ◌<◌}
use mathlib.Core.Path.{◌≡◌, refl, sym, ap, ◌∙◌, subst}
use mathlib.Core.List.{List, [], ◌∷◌}
use mathlib.Core.Logic.{◌≢◌}
use mathlib.Core.Bool.{Bool, true, false, cond}
use Rattle.std.specs.Prelude.{Option, None, Some, option_map}
use native.Mathlib.Omega.{arith}
use borrow.Author.Tests.{eq-eqb, ne_eqb}
use lib.ListN.{length, get_or, take, drop}
use Rattle.buffers.specs.Bytes.{eq_bytes}
use Rattle.buffers.proofs.LoopSteps.{tail}
use Rattle.bank.specs.Record.{Record, record_of, size_of, sizes, live, system_guid, common_guid}
use Rattle.bank.specs.Totals.{select, live_of}
use Rattle.records.specs.declared.figures.Figures.{Figures}
use Rattle.records.specs.View.{prepend, view_records}
use Rattle.records.specs.Figures.{figures_of, no_figures, figures_by, plus, records_figures}
use Rattle.records.proofs.RecordSteps.{lent, Further}

figures_are : {a b c d a' b' c' d' : ℕ} → a ≡ a' → b ≡ b' → c ≡ c' → d ≡ d'
    → ◌≡◌ {A = Figures} (record { system = a; common = b; live = c; count = d }) (record { system = a'; common = b'; live = c'; count = d' })
figures_are e f g h = λ i. record { system = e i; common = f i; live = g i; count = h i }

-- the record that begins s, in the numbers that the code has
module _ (f : Figures) (s : List ℕ) (n : ℕ) where
  pub add_dead : get_or s 2 0 ≢ 0x7F
      → record { system = f.system; common = f.common; live = f.live; count = f.count + 1 } ≡ plus f (figures_by (record_of s) n)
  unfolding plus figures_by live_of live record_of
  add_dead t = rw (ne_eqb _ _ t) (figures_are (omega arith) (omega arith) (omega arith) refl)

  pub add_live : get_or s 2 0 ≡ 0x7F → (p q : Bool) → p ≡ eq_bytes (take 16 (drop 16 s)) system_guid
      → q ≡ eq_bytes (take 16 (drop 16 s)) common_guid
      → (a b : ℕ)
      → a ≡ cond p n 0
      → b ≡ cond q n 0
      → record { system = f.system + a; common = f.common + b; live = f.live + n; count = f.count + 1 } ≡ plus f (figures_by (record_of s) n)
  unfolding plus figures_by live_of live record_of
  add_live t p q e g a b h k = rw (eq-eqb _ _ t, h, k, e, g)

plus_assoc : (f g h : Figures) → plus (plus f g) h ≡ plus f (plus g h)
unfolding plus
plus_assoc f g h = figures_are (omega arith) (omega arith) (omega arith) (omega arith)

plus_none : (f : Figures) → plus f no_figures ≡ f
unfolding plus
plus_none f = figures_are (omega arith) (omega arith) (omega arith) (omega arith)

none_plus : (f : Figures) → plus no_figures f ≡ f
unfolding plus
none_plus f = figures_are (omega arith) (omega arith) (omega arith) (omega arith)

-- one record before others adds its own
sum_more : (p : Record → Bool) (r : Record) (rs : List Record) → cond (p r) (size_of r) 0 + sizes (select p rs) ≡ sizes (select p (r ∷ rs))
unfolding select sizes
sum_more p r rs = go (p r)
  where
    go : (t : Bool) → cond t (size_of r) 0 + sizes (select p rs) ≡ sizes (cond t (r ∷ select p rs) (select p rs))
    go true = refl
    go false = omega arith

figures_more : (r : Record) (rs : List Record) → plus (figures_by r (size_of r)) (figures_of rs) ≡ figures_of (r ∷ rs)
unfolding plus figures_by figures_of
figures_more r rs = figures_are (sum_more (live_of system_guid) r rs) (sum_more (live_of common_guid) r rs) (sum_more live r rs) (omega arith)

-- the figures of some records on top of f, if they are to be counted
unfoldable pub on_top : Bool → Figures → List Record → Figures
on_top counting f rs = cond counting (plus f (figures_of rs)) f

top_more : (counting : Bool) (f : Figures) (r : Record) (rs : List Record)
    → on_top counting (cond counting (plus f (figures_by r (size_of r))) f) rs ≡ on_top counting f (r ∷ rs)
unfolding on_top
top_more true f r rs = plus_assoc f (figures_by r (size_of r)) (figures_of rs) ∙ ap (plus f) (figures_more r rs)
top_more false f r rs = refl

top_none : (counting : Bool) (f : Figures) → on_top counting f [] ≡ f
unfolding on_top figures_of select sizes
top_none true f = plus_none f
top_none false f = refl

top_first : (counting : Bool) (rs : List Record) → on_top counting no_figures rs ≡ records_figures counting rs
unfolding on_top records_figures
top_first true rs = none_plus (figures_of rs)
top_first false rs = refl

-- none of the four is over a place
abbrev pub Below : Figures → ℕ → Type 0
Below f at = (f.system ≤ at) × (f.common ≤ at) × (f.live ≤ at) × (f.count ≤ at)

cond_le : (t : Bool) (n : ℕ) → cond t n 0 ≤ n
cond_le true n = omega arith
cond_le false n = omega arith

added_below : (counting : Bool) (f : Figures) (r : Record) (n at end : ℕ) → at + n ≡ end → 0 < n → Below f at
    → Below (cond counting (plus f (figures_by r n)) f) end
unfolding plus figures_by
added_below true f r n at end e l b = (
  omega (arith, e, b.0, cond_le (live_of system_guid r) n),
  omega (arith, e, b.1, cond_le (live_of common_guid r) n),
  omega (arith, e, b.2, cond_le (live r) n),
  omega (arith, e, l, b.3),
)
added_below false f r n at end e l b = (omega (arith, e, b.0), omega (arith, e, b.1), omega (arith, e, b.2), omega (arith, e, b.3))

-- the figures of what is viewed, by another function that gives the same
map_same : {f g : List Record → Figures} → ((rs : List Record) → f rs ≡ g rs) → (o : Option (List Record)) → option_map f o ≡ option_map g o
map_same h None = refl
map_same h (Some rs) = ap Some (h rs)

-- of one record before others
map_more : (f g : List Record → Figures) (r : Record) → ((rs : List Record) → f rs ≡ g (r ∷ rs)) → (o : Option (List Record))
    → option_map f o ≡ option_map g (prepend r o)
unfolding prepend
map_more f g r h None = refl
map_more f g r h (Some rs) = ap Some (h rs)

-- the check of s up to a place, with the figures f
pub record Walked (counting : Bool) (s : List ℕ) (at : ℕ) (f : Figures) : Type 0 where
  pub is : option_map (on_top counting f) (view_records (drop at s)) ≡ option_map (records_figures counting) (view_records s)
  pub small : Below f at
  pub within : at ≤ length s

pub begin : (counting : Bool) (s : List ℕ) (f : Figures) → f ≡ no_figures → Walked counting s 0 f
begin counting s f e =
    subst (Walked counting s 0) (sym e)
    record { is = map_same (top_first counting) (view_records s); small = (omega arith, omega arith, omega arith, omega arith); within = omega arith }

module _ {counting : Bool} {s : List ℕ} {at : ℕ} {f : Figures} (k : Walked counting s at f) where
  pub turn : {end : ℕ} → Further s at end → (g : Figures) → g ≡ cond counting (plus f (figures_by (record_of (lent s at)) (end - at))) f → Walked counting s end g
  turn {end} m g e =
      let r = record_of (drop at s) in
      let p : g ≡ cond counting (plus f (figures_by r (end - at))) f = e ∙ ap (λ (l : List ℕ). cond counting (plus f (figures_by (record_of l) (end - at))) f) (tail s at) in
      let q : g ≡ cond counting (plus f (figures_by r (size_of r))) f = p ∙ ap (λ (n : ℕ). cond counting (plus f (figures_by r n)) f) m.size in
      let z : at + (end - at) ≡ end = omega (arith, m.more) in
      record {
        is = ap (λ (x : Figures). option_map (on_top counting x) (view_records (drop end s))) q
            ∙ map_more (on_top counting (cond counting (plus f (figures_by r (size_of r))) f)) (on_top counting f) r (top_more counting f r) (view_records (drop end s))
            ∙ ap (option_map (on_top counting f)) (sym m.is)
            ∙ k.is;
        small = subst (λ (x : Figures). Below x end) (sym p) (added_below counting f r (end - at) at end z (omega (arith, m.more)) k.small);
        within = m.within;
      }

  pub stopped : view_records (drop at s) ≡ None → None ≡ option_map (records_figures counting) (view_records s)
  stopped e = ap (option_map (on_top counting f)) (sym e) ∙ k.is

  pub done : view_records (drop at s) ≡ Some [] → Some f ≡ option_map (records_figures counting) (view_records s)
  done e = ap Some (sym (top_none counting f)) ∙ ap (option_map (on_top counting f)) (sym e) ∙ k.is
