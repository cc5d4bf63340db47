-- The loop over a bank's records: they stand in its bytes as the walk found them (`walk_stand`); `ToList` says that the lines of those before an
-- offset are put and those from it on are left, with laws for start, turn and end (`left_all`, `left_turn`, `left_none`).
use Prim.Native.Nat.{ℕ, ◌+◌, ◌-◌, ◌≤◌, ◌<◌}
use mathlib.Core.Path.{◌≡◌, refl, sym, ap, ◌∙◌, subst}
use mathlib.Core.List.{List, [], ◌∷◌, ◌++◌, append_assoc, append-nil}
use native.Mathlib.Omega.{arith}
use lib.ListN.{length, get_or, take, drop, length-drop}
use lib.Seq.{drop-drop, length-take-le}
use Rattle.buffers.proofs.LoopSteps.{tail}
use Rattle.bank.specs.declared.variable.VarHeader.{VarHeader}
use Rattle.bank.specs.Number.{u32_at}
use Rattle.bank.specs.Record.{Record, record_of, size_of, name_at, value_at, size_at}
use Rattle.bank.specs.Bank.{Bank, valid}
use Rattle.bank.specs.Read.{walk_from, read_bank}
use Rattle.bank.specs.Totals.{total}
use Rattle.bank.specs.Answer.{var_header, parsed_header}
use Rattle.bank.proofs.WalkLaws.{Stands, stands_size, walk_ind}
use Rattle.bank.proofs.FieldLaws.{header_long}
use Rattle.bank.proofs.ReadBank.{came, came_total}
use Rattle.text.specs.declared.Writer.{Writer}
use Rattle.text.specs.Put.{Room, Put}
use Rattle.text.proofs.PutLaws.{put_none, join, front, back}
use Rattle.banklist.specs.Listing.{fields_line, record_line, record_lines}

-- the records rs stand in s from one offset up to another
abbrev pub RecordsStand : List ℕ → ℕ → ℕ → List Record → Type 0
RecordsStand s at end [] = at ≡ end
RecordsStand s at end (r ∷ rs) = Stands (drop at s) r × RecordsStand s (at + size_of r) end rs

walk_stand : (s : List ℕ) (size at : ℕ) → RecordsStand s at (walk_from s size at).at (walk_from s size at).records
walk_stand s size = walk_ind s size (λ at w. RecordsStand s at w.at w.records) (λ at l. refl) (λ at c l e. refl) (λ at r l k ih. (k, ih))

stand_low : (s : List ℕ) (rs : List Record) (at end : ℕ) → RecordsStand s at end rs → at ≤ end
stand_low s [] at end k = omega arith
stand_low s (r ∷ rs) at end k = omega (arith, stand_low s rs (at + size_of r) end k.1)

stand_high : (s : List ℕ) (rs : List Record) (at end : ℕ) → at ≤ length s → RecordsStand s at end rs → end ≤ length s
stand_high s [] at end h k = omega arith
stand_high s (r ∷ rs) at end h k =
    stand_high s rs (at + size_of r) end (omega (arith, stands_size (drop at s) r k.0, k.0.ends, length-drop at s)) k.1

stand_none : (s : List ℕ) (rs : List Record) (at end : ℕ) → RecordsStand s at end rs → end ≤ at → rs ≡ []
unfolding size_of
stand_none s [] at end k l = refl
stand_none s (r ∷ rs) at end k l = absurd (omega (arith, stand_low s rs (at + size_of r) end k.1))

-- the record that stands at an offset before the last
record Next (s : List ℕ) (at end : ℕ) (rs : List Record) : Type 0 where
  rest : List Record
  is : rs ≡ record_of (drop at s) ∷ rest
  stands : Stands (drop at s) (record_of (drop at s))
  stand : RecordsStand s (at + size_at (drop at s)) end rest

stand_next : (s : List ℕ) (rs : List Record) (at end : ℕ) → RecordsStand s at end rs → at < end → Next s at end rs
stand_next s [] at end k h = absurd (omega arith)
stand_next s (r ∷ rs) at end k h =
    record {
      rest = rs;
      is = ap (λ (q : Record). q ∷ rs) k.0.is;
      stands = subst (Stands (drop at s)) k.0.is k.0;
      stand = subst (λ (i : ℕ). RecordsStand s (at + i) end rs) (stands_size (drop at s) r k.0) k.1;
    }

-- what the code knows of the record at an offset by its header
pub record HeaderAt (s : List ℕ) (at : ℕ) (h : VarHeader) : Type 0 where
  pub name : h.name_size ≡ name_at (drop at s)
  pub value : h.data_size ≡ value_at (drop at s)
  pub named : 0 < name_at (drop at s)
  pub ends : at + 36 + name_at (drop at s) + value_at (drop at s) ≤ length s

-- the line that the code puts for it; n is the size without the value
abbrev pub spelled : List ℕ → ℕ → ℕ → VarHeader → ℕ → List ℕ
spelled s at index h n = fields_line index h.state h.guid (take (at + n - 1 - (at + 36)) (drop (at + 36) s)) h.data_size h.crc

module _ (s : List ℕ) (at : ℕ) (k : Stands (drop at s) (record_of (drop at s))) (h : VarHeader)
    (e : h ≡ parsed_header (take (length s - at) (drop at s))) where
  abbrev here : List ℕ
  here = drop at s

  header_here : h ≡ var_header (get_or here 2 0) (u32_at here 4) (name_at here) (value_at here) (take 16 (drop 16 here)) (u32_at here 32)
  header_here = e ∙ ap parsed_header (tail s at) ∙ header_long here (omega (arith, k.ends))

  sized : HeaderAt s at h
  sized =
      record {
        name = ap (λ (x : VarHeader). x.name_size) header_here;
        value = ap (λ (x : VarHeader). x.data_size) header_here;
        named = omega (arith, k.named);
        ends = omega (arith, k.ends, length-drop at s);
      }

  line_here : (index n : ℕ) → n ≡ 36 + h.name_size + 0 → spelled s at index h n ≡ record_line index (record_of here)
  unfolding record_line record_of
  line_here index n q =
      let f = ap (λ (x : VarHeader). spelled s at index x n) header_here in
      let m : at + n - 1 - (at + 36) ≡ name_at here - 1 = omega (arith, q, sized.name) in
      let key : take (at + n - 1 - (at + 36)) (drop (at + 36) s) ≡ take (name_at here - 1) (drop 36 here) =
      ap (λ (j : ℕ). take j (drop (at + 36) s)) m ∙ ap (take (name_at here - 1)) (sym (drop-drop 36 at s)) in
      let value : length (take (value_at here) (drop (36 + name_at here) here)) ≡ value_at here =
      length-take-le (value_at here) (drop (36 + name_at here) here) (omega (arith, k.ends, length-drop (36 + name_at here) here)) in
      f ∙ cc (key, value, k.summed)

-- the lines of the records before an offset are put, and those from it on are left
pub record ToList (s : List ℕ) (v₀ : Writer) (end : ℕ) (v : Writer) (at index : ℕ) : Type 0 where
  pub lines : List ℕ
  pub todo : List Record
  pub stand : RecordsStand s at end todo
  pub put : Put v₀ v lines
  pub room : Room v (record_lines index todo)
  pub all : (b : Bank) → read_bank s ≡ valid b → record_lines 0 b.records ≡ lines ++ record_lines index todo
  pub counted : index ≤ at
  pub low : at ≤ end
  pub high : end ≤ length s

pub left_all : (s : List ℕ) (v : Writer) (end : ℕ) (b : Bank) → 24 ≤ length s → read_bank s ≡ valid b → end ≡ total b
    → Room v (record_lines 0 b.records)
    → ToList s v end v 24 0
left_all s v end b l e t r =
    let c = came s b e in
    let w = walk_from s b.header.size 24 in
    let q : w.at ≡ end = sym (t ∙ came_total s b c) in
    let k : RecordsStand s 24 end b.records =
    subst (λ (rs : List Record). RecordsStand s 24 end rs) c.records
    (subst (λ (n : ℕ). RecordsStand s 24 n w.records) q (walk_stand s b.header.size 24)) in
    record {
      lines = [];
      todo = b.records;
      stand = k;
      put = put_none v (omega (arith, r.fits));
      room = r;
      all = λ (d : Bank) f. let z : d ≡ b = cc in ap (λ (x : Bank). record_lines 0 x.records) z;
      counted = omega arith;
      low = stand_low s b.records 24 end k;
      high = stand_high s b.records 24 end l k;
    }

module _ {s : List ℕ} {v₀ v : Writer} {end at index : ℕ} (l : ToList s v₀ end v at index) where
  -- a turn, by what the code is told of the part from the offset on
  module _ (before : at < end) (h : VarHeader) {m : ℕ} (long : length s ≡ m) (e : h ≡ parsed_header (take (m - at) (drop at s))) where
    told : h ≡ parsed_header (take (length s - at) (drop at s))
    told = subst (λ (n : ℕ). h ≡ parsed_header (take (n - at) (drop at s))) (sym long) e

    next : Next s at end l.todo
    next = stand_next s l.todo at end l.stand before

    pub left_sized : HeaderAt s at h
    left_sized = sized s at next.stands h told

    module _ (n : ℕ) (q : n ≡ 36 + h.name_size + 0) where
      abbrev rest : List ℕ
      rest = record_lines (index + 1) next.rest

      split : record_lines index l.todo ≡ spelled s at index h n ++ rest
      unfolding record_lines
      split = ap (record_lines index) next.is ∙ ap (λ (x : List ℕ). x ++ rest) (sym (line_here s at next.stands h told index n q))

      pub left_room : Room v (spelled s at index h n)
      left_room = front rest (rw split at l.room)

      pub left_turn : {w : Writer} (m : ℕ) → m ≡ 36 + h.name_size + h.data_size → Put v w (spelled s at index h n) → ToList s v₀ end w (at + m) (index + 1)
      left_turn m g a =
          let z = left_sized in
          let i : at + size_at (drop at s) ≡ at + m = omega arith in
          let k : RecordsStand s (at + m) end next.rest = rw i at next.stand in
          let x = spelled s at index h n in
          record {
            lines = l.lines ++ x;
            todo = next.rest;
            stand = k;
            put = join l.put a;
            room = back rest a (rw split at l.room);
            all = λ (b : Bank) f. l.all b f ∙ ap (λ (y : List ℕ). l.lines ++ y) split ∙ sym (append_assoc l.lines x rest);
            counted = omega (arith, l.counted);
            low = stand_low s next.rest (at + m) end k;
            high = l.high;
          }

  pub left_none : end ≤ at → (b : Bank) → read_bank s ≡ valid b → Put v₀ v (record_lines 0 b.records)
  unfolding record_lines
  left_none h b e =
      let z : record_lines index l.todo ≡ [] = ap (record_lines index) (stand_none s l.todo at end l.stand h) in
      let q : record_lines 0 b.records ≡ l.lines = l.all b e ∙ rw z (append-nil l.lines) in
      rw q l.put
