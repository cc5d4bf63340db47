-- One record in the numbers that the code has: where the one at a place ends (`no_next` to `next_end`) and what is viewed from there on (`Further`);
-- whether it matches (`match_dead`, `match_other`, `match_type`); and how it is deleted where it stands (`delete_match`, `delete_other`).
use Prim.Native.Nat.{ℕ, ◌+◌, ◌-◌, ◌≤◌, ◌<◌}
use mathlib.Core.Path.{◌≡◌, refl, sym, ap, ◌∙◌, subst}
use mathlib.Core.List.{List, [], ◌++◌}
use mathlib.Core.Bool.{Bool, true, false, ◌&&◌, cond}
use Rattle.std.specs.Prelude.{Option, None, Some}
use native.Mathlib.Omega.{arith}
use lib.ListN.{length, get_or, set, take, drop, drop_of_length-le, length-drop}
use lib.Seq.{get_or-drop, drop-drop}
use borrow.Author.Tests.{eq-eqb, ne_eqb}
use denote.Enum.Bare.{sameb}
use Rattle.crc32.specs.Crc32.{crc32_of}
use Rattle.buffers.specs.Bytes.{eq_bytes}
use Rattle.buffers.proofs.Laws.{clash, by_test}
use Rattle.buffers.proofs.LoopSteps.{tail}
use Rattle.bank.specs.contracts.variable.VarType.{the_type}
use Rattle.bank.specs.declared.variable.VarType.{VarType}
use Rattle.bank.specs.declared.variable.VarType.TheVariants.{Common, System}
use Rattle.bank.specs.declared.variable.VarHeader.{VarHeader}
use Rattle.bank.specs.Number.{u16_at}
use Rattle.bank.specs.Answer.{parsed_header}
use Rattle.bank.specs.Record.{Record, record_of, size_of, name_at, value_at, size_at, var_header_bytes, record_bytes, live, type_of, deleted_state}
use Rattle.bank.specs.WellFormed.{FineRecord}
use Rattle.bank.proofs.WalkLaws.{stands_size}
use Rattle.bank.proofs.FieldLaws.{header_long, name_is, value_is, crc_is}
use Rattle.bank.proofs.RecordBack.{record_of_back}
use Rattle.records.specs.Match.{same_type, matches, deleted}
use Rattle.records.specs.View.{is_record, prepend, view_records}
use Rattle.records.specs.Records.{next_after, deleted_at}
use Rattle.records.proofs.RecordLaws.{Strict, strict, is_record_lem, is_long, view_next, view_end}

-- what is lent from a place on
abbrev pub lent : List ℕ → ℕ → List ℕ
lent w at = take (length w - at) (drop at w)

-- the record at a place
module _ (s : List ℕ) (at : ℕ) where
  abbrev x : List ℕ
  x = lent s at

  pub no_next : (Strict x → ⊥) → None ≡ next_after at s
  unfolding next_after
  no_next f =
      by_test (λ (r : Option ℕ). None ≡ r) (is_record (drop at s)) (Some (at + size_at (drop at s))) None
      (λ t. absurd (f (subst Strict (sym (tail s at)) (strict (drop at s) t))))
      (λ _. refl)

  next : Strict x → (end : ℕ) → end ≡ at + size_at x → Some end ≡ next_after at s
  unfolding next_after
  next k end e = ap Some (e ∙ ap (λ (l : List ℕ). at + size_at l) (tail s at)) ∙ rw (is_record_lem (drop at s) (subst Strict (tail s at) k))

  -- in the numbers that the code has: its value begins n bytes further on
  module _ (long : 36 ≤ length x) (h : VarHeader) (e : h ≡ parsed_header x) (n : ℕ) (q : n ≡ 36 + h.name_size + 0) where
    abbrev value : ℕ
    value = at + n

    abbrev end : ℕ
    end = value + h.data_size

    name_size : h.name_size ≡ name_at x
    name_size = name_is x long h e

    data_size : h.data_size ≡ value_at x
    data_size = value_is x long h e

    room : length x ≡ length s - at
    room = ap length (tail s at) ∙ length-drop at s

    closing_is : get_or s (value - 1) 0 ≡ get_or x (35 + name_at x) 0
    closing_is =
        let i : value - 1 ≡ at + (35 + name_at x) = omega (arith, name_size) in
        ap (λ (j : ℕ). get_or s j 0) i ∙ sym (get_or-drop at s (35 + name_at x) 0) ∙ ap (λ (l : List ℕ). get_or l (35 + name_at x) 0) (sym (tail s at))

    bytes_are : take (end - value) (drop value s) ≡ take (value_at x) (drop (36 + name_at x) x)
    bytes_are =
        let i : end - value ≡ value_at x = omega (arith, data_size) in
        let j : n ≡ 36 + name_at x = omega (arith, name_size) in
        rw (i, j, tail s at, drop-drop (36 + name_at (drop at s)) at s)

    pub next_beyond : length s < end → None ≡ next_after at s
    next_beyond f = no_next (λ k. omega (arith, k.stands.ends, name_size, data_size, room))

    pub next_open : (get_or s (value - 1) 0 ≡ 0 → ⊥) → None ≡ next_after at s
    next_open f = no_next (λ k. f (closing_is ∙ k.closed))

    module _ (sum : ℕ) (summed : sum ≡ crc32_of (take (end - value) (drop value s))) (stored : VarHeader) (read : stored ≡ parsed_header x) where
      sum_is : sum ≡ crc32_of (take (value_at x) (drop (36 + name_at x) x))
      sum_is = summed ∙ ap crc32_of bytes_are

      pub next_spoilt : (stored.crc ≡ sum → ⊥) → None ≡ next_after at s
      next_spoilt f = no_next (λ k. f (crc_is x long stored read ∙ k.stands.summed ∙ sym sum_is))

      pub next_end : u16_at x 0 ≡ 0x55AA → get_or x 3 0 ≡ 0 → 1 ≤ h.name_size → end ≤ length s → get_or s (value - 1) 0 ≡ 0 → stored.crc ≡ sum
          → Some end ≡ next_after at s
      next_end starts reserved named ends closed f =
          next
          record {
            stands =
                record {
                  is = refl;
                  starts = starts;
                  ends = omega (arith, name_size, data_size, room);
                  named = λ z. omega (arith, name_size);
                  summed = sym (crc_is x long stored read) ∙ f ∙ sum_is;
                };
            reserved = reserved;
            closed = sym closing_is ∙ closed;
          }
          end
          (omega (arith, name_size, data_size))

-- the size of a record, by the header that was read
pub size_read : (s : List ℕ) → is_record s ≡ true → (h : VarHeader) → h ≡ parsed_header s → (n : ℕ) → n ≡ 36 + h.name_size + h.data_size
    → n ≡ size_at s
size_read s t h e n size = let l = is_long s t in omega (arith, name_is s l h e, value_is s l h e)

-- the records from a place on
told_onward : (t : Bool) (n end : ℕ) → Some end ≡ cond t (Some n) None → (t ≡ true) × (n ≡ end)
told_onward true n end e = (refl, cc)
told_onward false n end e = clash cc

told_stop : (t : Bool) (n : ℕ) → None ≡ cond t (Some n) None → t ≡ false
told_stop true n e = clash cc
told_stop false n e = refl

-- past the record at a place, to its end
pub record Further (s : List ℕ) (at end : ℕ) : Type 0 where
  pub more : at < end
  pub within : end ≤ length s
  pub long : 36 ≤ length (drop at s)
  pub size : end - at ≡ size_of (record_of (drop at s))
  pub is : view_records (drop at s) ≡ prepend (record_of (drop at s)) (view_records (drop end s))

module _ (s : List ℕ) (at : ℕ) where
  view_turn : at < length s → (t : Bool) → is_record (drop at s) ≡ t
      → view_records (drop at s) ≡ cond t (prepend (record_of (drop at s)) (view_records (drop (at + size_at (drop at s)) s))) None
  view_turn h t e = rw (← e, ← drop-drop (size_at (drop at s)) at s) (view_next (drop at s) (omega (arith, length-drop at s)))

  -- by what the code is told of that record
  module _ (h : at < length s) (r : Option ℕ) (e : r ≡ next_after at s) where
    pub view_onward : (end : ℕ) → r ≡ Some end → Further s at end
    unfolding next_after
    view_onward end f =
        let o = told_onward (is_record (drop at s)) (at + size_at (drop at s)) end (sym f ∙ e) in
        let k = (strict (drop at s) o.0).stands in
        let n : size_of (record_of (drop at s)) ≡ size_at (drop at s) = stands_size (drop at s) (record_of (drop at s)) k in
        record {
          more = omega (arith, o.1);
          within = omega (arith, o.1, k.ends, length-drop at s);
          long = is_long (drop at s) o.0;
          size = omega (arith, o.1, n);
          is = view_turn h true o.0 ∙ ap (λ (i : ℕ). prepend (record_of (drop at s)) (view_records (drop i s))) o.1;
        }

    pub view_stop : r ≡ None → view_records (drop at s) ≡ None
    unfolding next_after
    view_stop f = view_turn h false (told_stop (is_record (drop at s)) (at + size_at (drop at s)) (sym f ∙ e))

  pub view_done : length s ≤ at → view_records (drop at s) ≡ Some []
  view_done h = ap view_records (drop_of_length-le s h) ∙ view_end

-- the code's `==` on types
pub same_is : (a b : VarType) → sameb the_type a b ≡ same_type a b
same_is Common Common = refl
same_is Common System = refl
same_is System Common = refl
same_is System System = refl

-- the test of a match
module _ (key : List ℕ) (typ : VarType) (s : List ℕ) where
  pub match_dead : (get_or s 2 0 ≡ 0x7F → ⊥) → matches key typ (record_of s) ≡ false
  unfolding matches record_of live
  match_dead h = simp (ne_eqb _ _ h)

  module _ (h : get_or s 2 0 ≡ 0x7F) (n : ℕ) (e : n ≡ name_at s - 1) where
    match_key : matches key typ (record_of s) ≡ (eq_bytes (take n (drop 36 s)) key && same_type (type_of (take 16 (drop 16 s))) typ)
    unfolding matches record_of live
    match_key = rw e (simp (eq-eqb _ _ h))

    pub match_other : eq_bytes (take n (drop 36 s)) key ≡ false → matches key typ (record_of s) ≡ false
    match_other f = match_key ∙ rw f

    pub match_type : eq_bytes (take n (drop 36 s)) key ≡ true → (a : VarType) → a ≡ type_of (take 16 (drop 16 s))
        → matches key typ (record_of s) ≡ same_type a typ
    match_type f a g = match_key ∙ rw (f, g)

-- a record that is deleted where it stands
pub deleted_at_lem : (key : List ℕ) (typ : VarType) (r : Record) (rest : List ℕ) → FineRecord r
    → deleted_at key typ (record_bytes r ++ rest) ≡ record_bytes (deleted key typ r) ++ rest
unfolding deleted_at deleted record_bytes var_header_bytes
deleted_at_lem key typ r rest f =
    let s = record_bytes r ++ rest in
    ap (λ (q : Record). cond (matches key typ q) (set s 2 (deleted_state (get_or s 2 0))) s) (record_of_back r rest f) ∙ by (matches key typ r)
  where
    by : (t : Bool) → cond t (set (record_bytes r ++ rest) 2 (deleted_state (get_or (record_bytes r ++ rest) 2 0))) (record_bytes r ++ rest)
        ≡ record_bytes record { state = cond t (deleted_state r.state) r.state; attributes = r.attributes; guid = r.guid; key = r.key; value = r.value } ++ rest
    by true = refl
    by false = refl

-- the two ways to leave the record that begins s
module _ (key : List ℕ) (typ : VarType) (s : List ℕ) where
  pub delete_match : matches key typ (record_of s) ≡ true → 36 ≤ length s → (h : VarHeader) → h ≡ parsed_header s → (b : ℕ) → b ≡ deleted_state h.state
      → set s 2 b ≡ deleted_at key typ s
  unfolding deleted_at
  delete_match m long h e b q =
      let n : b ≡ deleted_state (get_or s 2 0) = q ∙ ap (λ (x : VarHeader). deleted_state x.state) (e ∙ header_long s long) in rw (m, n)

  pub delete_other : matches key typ (record_of s) ≡ false → s ≡ deleted_at key typ s
  unfolding deleted_at
  delete_other m = rw m
