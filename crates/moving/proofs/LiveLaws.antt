-- The move of records, one after the other: what is kept of each (`copy_live_dead`, `copy_live_live`), and what is left to move (`ToMove`), with
-- laws for start, turn and end.
use Prim.Native.Nat.{ℕ, ◌+◌, ◌-◌, ◌≤◌, ◌<◌}
use mathlib.Core.Path.{◌≡◌, refl, sym, ap, ◌∙◌, subst}
use mathlib.Core.Bool.{Bool, true, false, cond}
use mathlib.Core.Logic.{◌⊎◌, inl, inr}
use mathlib.Core.List.{List, [], ◌∷◌, ◌++◌}
use native.Mathlib.Omega.{arith}
use lib.Dec.{eqb}
use lib.ListN.{length, get_or, take, drop, length-append}
use lib.Seq.{take_at, get_or-take, get_or-drop}
use borrow.Author.Tests.{eq-eqb, ne_eqb}
use Rattle.buffers.specs.Bytes.{over}
use Rattle.buffers.proofs.LoopSteps.{tail}
use Rattle.buffers.proofs.OverLaws.{over_none, over_over, length_over}
use Rattle.bank.specs.declared.variable.VarHeader.{VarHeader}
use Rattle.bank.specs.Answer.{parsed_header}
use Rattle.bank.specs.Record.{Record, live, sizes, size_at, var_header_bytes, record_bytes, records_bytes}
use Rattle.bank.specs.Totals.{select}
use Rattle.bank.proofs.LengthLaws.{length_record, length_records}
use Rattle.records.specs.Records.{Holds}
use Rattle.records.proofs.RecordLists.{fine_select, sizes_select}
use Rattle.records.proofs.RecordSteps.{lent, size_read}
use Rattle.records.proofs.RecordWalk.{here, holds_size, none_left, some_left}
use Rattle.moving.specs.Move.{ReadFirst, live_bytes}
use Rattle.moving.proofs.CopyLaws.{span_long, span_over}

-- a record of n bytes, by its state byte
module _ (w : List ℕ) (at to n : ℕ) (h : 36 ≤ n) where
  abbrev bytes : List ℕ
  bytes = take n (drop at w)

  state_byte : get_or bytes 2 0 ≡ get_or w (at + 2) 0
  state_byte = get_or-take n (drop at w) 2 0 (omega arith) ∙ get_or-drop at w 2 0

  pub copy_live_dead : (get_or w (at + 2) 0 ≡ 0x7F → ⊥) → (to ≡ to + length (live_bytes bytes)) × (w ≡ over to (live_bytes bytes) w)
  unfolding live_bytes
  copy_live_dead e = simp (ne_eqb _ _ (λ q. e (sym state_byte ∙ q))) (omega arith, sym (over_none to w))

  pub copy_live_live : get_or w (at + 2) 0 ≡ 0x7F → at + n ≤ length w → (v : List ℕ) → v ≡ over to bytes w
      → (to + n ≡ to + length (live_bytes bytes)) × (v ≡ over to (live_bytes bytes) w)
  unfolding live_bytes
  copy_live_live e f v g = simp (eq-eqb _ _ (state_byte ∙ e)) (omega (arith, span_long at n w f), g)

kept_short : (x : List ℕ) → length (live_bytes x) ≤ length x
unfolding live_bytes
kept_short x = go (eqb (get_or x 2 0) 0x7F)
  where
    go : (b : Bool) → length (cond b x []) ≤ length x
    go true = omega arith
    go false = omega arith

-- of the first record and of those behind it
kept_first : (r : Record) (rs : List Record) → records_bytes (select live (r ∷ rs)) ≡ live_bytes (record_bytes r) ++ records_bytes (select live rs)
unfolding live_bytes select live records_bytes record_bytes var_header_bytes
kept_first r rs = go (eqb r.state 0x7F)
  where
    go : (b : Bool) → records_bytes (cond b (r ∷ select live rs) (select live rs)) ≡ cond b (record_bytes r) [] ++ records_bytes (select live rs)
    go true = refl
    go false = refl

-- what is kept of records takes no more room than they do
pub kept_room : (w : List ℕ) (at end : ℕ) (rs : List Record) → Holds w at end rs → at + length (records_bytes (select live rs)) ≤ end
kept_room w at end rs h =
    omega (arith, length_records rs h.fine, length_records (select live rs) (fine_select live rs h.fine), sizes_select live rs, holds_size w at end rs h)

-- the records left stand in w from a place up to `end`; their live ones, put at `to`, end at `stop` and make the target
pub record ToMove (w : List ℕ) (at end to : ℕ) (stop : ℕ) (target : List ℕ) : Type 0 where
  pub todo : List Record
  pub holds : Holds w at end todo
  pub room : to + (end - at) ≤ length w
  pub apart : ReadFirst to at end
  pub ends : to + length (records_bytes (select live todo)) ≡ stop
  pub goal : over to (records_bytes (select live todo)) w ≡ target

pub begin : {w : List ℕ} {from end to : ℕ} {rs : List Record} → Holds w from end rs → to + (end - from) ≤ length w → ReadFirst to from end
    → ToMove w from end to (to + length (records_bytes (select live rs))) (over to (records_bytes (select live rs)) w)
begin {rs = rs} h room apart = record { todo = rs; holds = h; room = room; apart = apart; ends = refl; goal = refl }

-- one turn, past a record of n bytes
pub record MoveTurn (w : List ℕ) (at end to : ℕ) (stop : ℕ) (target : List ℕ) (n : ℕ) : Type 0 where
  pub more : 36 ≤ n
  pub within : at + n ≤ end
  pub inside : at + n ≤ length w
  pub fits : to + n ≤ length w
  pub clear : ReadFirst to at (at + n)
  pub next : (p : ℕ) (v : List ℕ) → p ≡ to + length (live_bytes (take n (drop at w))) → v ≡ over to (live_bytes (take n (drop at w))) w
      → ToMove v (at + n) end p stop target × (length v ≡ length w)

sooner : (to at m end : ℕ) → m ≤ end → ReadFirst to at end → ReadFirst to at m
sooner to at m end h (inl a) = inl a
sooner to at m end h (inr a) = inr (omega arith)

module _ (to k at n end : ℕ) (h : k ≤ n) (l : at + n ≤ end) where
  later : ReadFirst to at end → ReadFirst (to + k) (at + n) end
  later (inl a) = inl (omega arith)
  later (inr a) = inr (omega arith)

  unharmed : ReadFirst to at end → (to + k ≤ at + n) ⊎ (at + n + (end - (at + n)) ≤ to)
  unharmed (inl a) = inl (omega arith)
  unharmed (inr a) = inr (omega arith)

module _ (w : List ℕ) (at end to stop : ℕ) (target : List ℕ) where
  -- the first record moved
  past : (r : Record) (rs : List Record) (n : ℕ) → length (record_bytes r) ≡ n → at + n ≤ end → Holds w (at + n) end rs
      → to + (end - at) ≤ length w
      → ReadFirst to at end
      → to + length (records_bytes (select live (r ∷ rs))) ≡ stop
      → over to (records_bytes (select live (r ∷ rs))) w ≡ target
      → ToMove (over to (live_bytes (record_bytes r)) w) (at + n) end (to + length (live_bytes (record_bytes r))) stop target × (length (over to (live_bytes (record_bytes r)) w) ≡ length w)
  past r rs n long within held room apart ends goal =
      let x = live_bytes (record_bytes r) in
      let y = records_bytes (select live rs) in
      let e : records_bytes (select live (r ∷ rs)) ≡ x ++ y = kept_first r rs in
      let lx : length x ≤ n = omega (arith, kept_short (record_bytes r)) in
      let ly : at + n + length y ≤ end = kept_room w (at + n) end rs held in
      let fits : to + length x ≤ length w = omega arith in
      let same : length (over to x w) ≡ length w = length_over to x w fits in (
        record {
          todo = rs;
          holds =
              record {
                fine = held.fine;
                low = within;
                high = omega (arith, held.high);
                is = span_over to x w fits (at + n) (end - (at + n)) (unharmed to (length x) at n end lx within apart) ∙ held.is;
              };
          room = omega arith;
          apart = later to (length x) at n end lx within apart;
          ends = omega (arith, ends, ap length e, length-append x y);
          goal = over_over to (to + length x) x y w refl (omega arith) ∙ ap (λ (z : List ℕ). over to z w) (sym e) ∙ goal;
        },
        same,
      )

  turn_of : (todo : List Record) → Holds w at end todo → to + (end - at) ≤ length w → ReadFirst to at end
      → to + length (records_bytes (select live todo)) ≡ stop
      → over to (records_bytes (select live todo)) w ≡ target
      → at < end
      → (h : VarHeader)
      → h ≡ parsed_header (lent w at)
      → (n : ℕ)
      → n ≡ 36 + h.name_size + h.data_size
      → MoveTurn w at end to stop target n
  turn_of [] held room apart ends goal l h e n q = absurd (some_left w at end held l)
  turn_of (r ∷ rs) held room apart ends goal l h e n q =
      let k = here w at end r rs held in
      let size : n ≡ size_at (lent w at) = size_read (lent w at) k.test h e n q in
      let within : at + n ≤ end = omega (arith, k.within) in
      let long : length (record_bytes r) ≡ n = length_record r k.fine.guid_long ∙ sym (size ∙ k.size) in
      let bytes : take n (drop at w) ≡ record_bytes r =
      ap (take n) (sym (tail w at) ∙ k.bytes) ∙ take_at (record_bytes r) (drop (at + size_at (lent w at)) w) n long in
      let rest : Holds w (at + n) end rs = subst (λ (i : ℕ). Holds w (at + i) end rs) (sym size) k.rest in
      record {
        more = omega (arith, k.more);
        within = within;
        inside = omega (arith, held.high);
        fits = omega arith;
        clear = sooner to at (at + n) end within apart;
        next =
            λ p v f g.
            let f' : p ≡ to + length (live_bytes (record_bytes r)) = f ∙ ap (λ (z : List ℕ). to + length (live_bytes z)) bytes in
            let g' : v ≡ over to (live_bytes (record_bytes r)) w = g ∙ ap (λ (z : List ℕ). over to (live_bytes z) w) bytes in
            subst (λ (u : List ℕ). ToMove u (at + n) end p stop target × (length u ≡ length w)) (sym g')
            (subst (λ (i : ℕ). ToMove (over to (live_bytes (record_bytes r)) w) (at + n) end i stop target × (length (over to (live_bytes (record_bytes r)) w) ≡ length w)) (sym f')
            (past r rs n long within rest room apart ends goal));
      }

  done_of : (todo : List Record) → Holds w at end todo → to + length (records_bytes (select live todo)) ≡ stop
      → over to (records_bytes (select live todo)) w ≡ target
      → end ≤ at
      → (to ≡ stop) × (w ≡ target)
  unfolding records_bytes select
  done_of [] held ends goal l = (omega arith, sym (over_none to w) ∙ goal)
  done_of (r ∷ rs) held ends goal l = absurd (none_left w at end r rs held l)

pub turn : {w : List ℕ} {at end to stop : ℕ} {target : List ℕ} → ToMove w at end to stop target → at < end → (h : VarHeader) → h ≡ parsed_header (lent w at)
    → (n : ℕ)
    → n ≡ 36 + h.name_size + h.data_size
    → MoveTurn w at end to stop target n
turn {w} {at} {end} {to} {stop} {target} k l h e n q =
    turn_of w at end to stop target k.todo k.holds k.room k.apart k.ends k.goal l h e n q

pub done : {w : List ℕ} {at end to stop : ℕ} {target : List ℕ} → ToMove w at end to stop target → end ≤ at → (to ≡ stop) × (w ≡ target)
done {w} {at} {end} {to} {stop} {target} k l = done_of w at end to stop target k.todo k.holds k.ends k.goal l

-- the place after the records, by their sizes
pub stop_is : (w : List ℕ) (from end to : ℕ) (rs : List Record) → Holds w from end rs
    → to + length (records_bytes (select live rs)) ≡ to + sizes (select live rs)
stop_is w from end to rs h = ap (λ (n : ℕ). to + n) (length_records (select live rs) (fine_select live rs h.fine))
